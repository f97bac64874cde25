-- A certificate's lines hold exactly where its lists are those of the flood.
use Rattle.std.proofs.Common.{◌≡◌, ◌∙◌, ℕ, zero, suc, ◌<◌, ◌⊎◌, inl, inr, ⊎_elim, Bool, true, false, ◌∷◌, [], List, take, slice_get, Option, Some, None, refl, sym, subst, arith}
use Rattle.std.specs.List.{Contains}
use Rattle.std.proofs.lemmas.Bool.{false≢true}
use Rattle.spie_base.proofs.Membership.{has_first, has_one, from_map, into_map}
use Rattle.reverse_flood.specs.declared.graphs.Node.{Node}
use Rattle.reverse_flood.specs.Flood.{Net, IsHit, IsStep, IsNode, IsNext, IsAsked, IsEdge, IsUnknown, IsClear, everywhere, edge_cmp, node_cmp}
use Rattle.reverse_flood.proofs.Orders.{nodes_total, edges_total}
use Rattle.reverse_flood.proofs.Worklists.{IsClosed, node_from_asked, nodes_closed}
use Rattle.evidence_text.specs.declared.certificates.Named.{Named}
use Rattle.evidence_text.specs.declared.certificates.Certificate.{Certificate}
use Rattle.evidence_check.specs.Answer.{Certifies}
use Rattle.evidence_check.specs.Judging.{AllHold, AtClear, AtEdge, AtEnd, AtNode, AtUnknown, EndHolds, IsAskedBy, IsFrom, IsLed, IsReached, NodeHolds, named_node, named_nodes}
use Rattle.evidence_check.proofs.Places.{above_sorted, at_place, earlier, placed, sorted_above}

module _ (net : Net) where
  abbrev IsTheNode : Node → Node → Type 0
  IsTheNode start n = IsNode net everywhere (start ∷ []) n

  -- a pair that is one step back from a node, and hit
  node_after : (start from n : Node) → IsTheNode start from → IsStep net from n → IsHit net n → IsTheNode start n
  node_after start from n node step hit = node_from_asked net everywhere (start ∷ []) n (inr (record { from = from; node = node; step = step; within = refl })) hit

  from_node : (start : Node) (before : List Node) (n : Node) (from : Option ℕ) → ((m : Node) → Contains before m → IsTheNode start m) → IsFrom net before n from → IsHit net n → IsTheNode start n
  from_node start before n None known is hit = absurd is
  from_node start before n (Some place) known is hit = node_after start is.0 n (known is.0 (at_place before place is.0 is.1)) is.2 hit

  led_node : (start : Node) (before : List Node) (x : Named) → ((m : Node) → Contains before m → IsTheNode start m) → IsLed net start before x → IsHit net x.node → IsTheNode start x.node
  led_node start [] x known is hit =
      let P : Node → Type 0 = λ n. Contains (start ∷ []) n in
      record { first = x.node; rest = []; entry = subst P (sym is.0) (has_first start []); hit = hit; chain = refl }
  led_node start (first ∷ more) x known is hit = from_node start (first ∷ more) x.node x.from known is hit

  -- the end of a chain is hit
  hit_of : (start n : Node) → IsTheNode start n → IsHit net n
  hit_of start n node =
      let Any : Node → Type 0 = λ m. Unit {0} in
      let f = nodes_closed net everywhere (start ∷ []) Any (record { entered = λ m h. tt; closed = λ p m a b d e. tt }) n node in f.1

  module _ (c : Certificate) where
    -- ---- where all lines hold

    -- each named node is one
    node_at : (bound place : ℕ) (x : Named) → AllHold net c → place < bound → slice_get c.nodes place ≡ Some x → IsTheNode c.start x.node
    node_at zero place x all l e = let no : ⊥ = omega (arith, l) in absurd no
    node_at (suc bound) place x all l e =
        let holds : NodeHolds net c.start (take place (named_nodes c)) x = all (AtNode place) x e in
        led_node c.start (take place (named_nodes c)) x
        (λ m h.
        let i = earlier named_node c.nodes place m h in
        let P : Node → Type 0 = λ n. IsTheNode c.start n in
        subst P i.is (node_at bound i.before i.item all (omega (arith, l, i.below)) i.at))
        holds.led holds.hit

    nodes_are : AllHold net c → (n : Node) → Contains (named_nodes c) n → IsTheNode c.start n
    nodes_are all n h =
        let i = from_map named_node c.nodes n h in
        let at = placed c.nodes i.of i.has in
        let P : Node → Type 0 = λ m. IsTheNode c.start m in
        subst P i.is (node_at (suc at.0) at.0 i.of all (omega arith) at.1)

    unseen_left : AllHold net c → (n : Node) → (Contains c.unknown n ⊎ Contains c.clear n) → net.hit n ≡ false
    unseen_left all n left =
        ⊎_elim
        (λ u. let at = placed c.unknown n u in let h = all (AtUnknown at.0) n at.1 in h.unseen)
        (λ u. let at = placed c.clear n u in let h = all (AtClear at.0) n at.1 in h.unseen)
        left

    abbrev ListedOrUnseen : Node → Type 0
    ListedOrUnseen n = Contains (named_nodes c) n ⊎ (net.hit n ≡ false)

    listed_asked : AllHold net c → (n : Node) → IsAskedBy net c.start (named_nodes c) n → ListedOrUnseen n
    listed_asked all n asked =
        let end : EndHolds net c = all AtEnd in
        ⊎_elim (λ node. inl node) (λ left. inr (unseen_left all n left)) (end.told n asked)

    closed : AllHold net c → IsClosed net everywhere (c.start ∷ []) ListedOrUnseen
    closed all = record {
      entered = λ n h. listed_asked all n (inl (has_one c.start n h));
      closed = λ p n has hit step within. ⊎_elim
          (λ node. listed_asked all n (inr (record { from = p; node = node; step = step })))
          (λ unseen. absurd (false≢true (sym unseen ∙ hit)))
          has;
    }

    nodes_listed : AllHold net c → (n : Node) → IsTheNode c.start n → Contains (named_nodes c) n
    nodes_listed all n node =
        let f = nodes_closed net everywhere (c.start ∷ []) ListedOrUnseen (closed all) n node in
        ⊎_elim (λ has. has) (λ unseen. absurd (false≢true (sym unseen ∙ f.1))) f.0

    asked_of : AllHold net c → (n : Node) → IsAskedBy net c.start (named_nodes c) n → IsAsked net everywhere (c.start ∷ []) n
    asked_of all n asked =
        ⊎_elim
        (λ e. let P : Node → Type 0 = λ m. Contains (c.start ∷ []) m in inl (subst P e (has_first c.start [])))
        (λ (r : IsReached net (named_nodes c) n). inr (record { from = r.from; node = nodes_are all r.from r.node; step = r.step; within = refl }))
        asked

    asked_by : ((m : Node) → IsTheNode c.start m → Contains (named_nodes c) m) → (n : Node) → IsAsked net everywhere (c.start ∷ []) n → IsAskedBy net c.start (named_nodes c) n
    asked_by listed n asked =
        ⊎_elim
        (λ h. inl (has_one c.start n h))
        (λ (r : IsNext net everywhere (c.start ∷ []) n). inr (record { from = r.from; node = listed r.from r.node; step = r.step }))
        asked

    -- what the end says of a pair that is asked and no hit
    told_unseen : AllHold net c → (n : Node) → IsAsked net everywhere (c.start ∷ []) n → net.hit n ≡ false → Contains c.unknown n ⊎ Contains c.clear n
    told_unseen all n asked unseen =
        let end : EndHolds net c = all AtEnd in
        ⊎_elim
        (λ node. absurd (false≢true (sym unseen ∙ hit_of c.start n (nodes_are all n node))))
        (λ left. left)
        (end.told n (asked_by (nodes_listed all) n asked))

    pub certified : AllHold net c → Certifies net c
    certified all = record {
      nodes = λ n. (nodes_are all n, nodes_listed all n);
      once = λ place x e. let h : NodeHolds net c.start (take place (named_nodes c)) x = all (AtNode place) x e in h.once;
      led = λ place x e. let h : NodeHolds net c.start (take place (named_nodes c)) x = all (AtNode place) x e in h.led;
      edges = record {
        ascending = above_sorted edge_cmp edges_total c.edges (λ place e at. let h = all (AtEdge place) e at in h.above);
        same = λ e. (
          (λ has.
              let at = placed c.edges e has in
              let h = all (AtEdge at.0) e at.1 in
              record { node = nodes_are all e.down h.down; step = h.step; within = refl; hit = hit_of c.start e.up (nodes_are all e.up h.up) }),
          (λ (is : IsEdge net everywhere (c.start ∷ []) e).
              let end : EndHolds net c = all AtEnd in
              end.edges e (nodes_listed all e.down is.node) (nodes_listed all e.up (node_after c.start e.down e.up is.node is.step is.hit)) is.step),
        );
      };
      unknown = record {
        ascending = above_sorted node_cmp nodes_total c.unknown (λ place n at. let h = all (AtUnknown place) n at in h.above);
        same = λ n. (
          (λ has.
              let at = placed c.unknown n has in
              let h = all (AtUnknown at.0) n at.1 in
              record { asked = asked_of all n h.asked; unseen = h.unseen; missing = h.missing }),
          (λ (is : IsUnknown net everywhere (c.start ∷ []) n). ⊎_elim
              (λ u. u)
              (λ u. let at = placed c.clear n u in let h = all (AtClear at.0) n at.1 in absurd (false≢true (sym h.missing ∙ is.missing)))
              (told_unseen all n is.asked is.unseen)),
        );
      };
      clear = record {
        ascending = above_sorted node_cmp nodes_total c.clear (λ place n at. let h = all (AtClear place) n at in h.above);
        same = λ n. (
          (λ has.
              let at = placed c.clear n has in
              let h = all (AtClear at.0) n at.1 in
              record { asked = asked_of all n h.asked; unseen = h.unseen; complete = h.missing }),
          (λ (is : IsClear net everywhere (c.start ∷ []) n). ⊎_elim
              (λ u. let at = placed c.unknown n u in let h = all (AtUnknown at.0) n at.1 in absurd (false≢true (sym is.complete ∙ h.missing)))
              (λ u. u)
              (told_unseen all n is.asked is.unseen)),
        );
      };
    }

    -- ---- where the lists are those of the flood

    step_listed : Certifies net c → (from n : Node) → Contains (named_nodes c) from → IsStep net from n → IsHit net n → Contains (named_nodes c) n
    step_listed is from n has step hit = let s = is.nodes from in let t = is.nodes n in t.1 (node_after c.start from n (s.0 has) step hit)

    asked_node : Certifies net c → (n : Node) → IsAskedBy net c.start (named_nodes c) n → IsAsked net everywhere (c.start ∷ []) n
    asked_node is n asked =
        ⊎_elim
        (λ e. let P : Node → Type 0 = λ m. Contains (c.start ∷ []) m in inl (subst P e (has_first c.start [])))
        (λ (r : IsReached net (named_nodes c) n). let s = is.nodes r.from in inr (record { from = r.from; node = s.0 r.node; step = r.step; within = refl }))
        asked

    listed_by : Certifies net c → (m : Node) → IsTheNode c.start m → Contains (named_nodes c) m
    listed_by is m node = let s = is.nodes m in s.1 node

    told_by : Certifies net c → (n : Node) → IsAskedBy net c.start (named_nodes c) n → (hit missing : Bool) → net.hit n ≡ hit → net.missing n.router.number ≡ missing → Contains (named_nodes c) n ⊎ (Contains c.unknown n ⊎ Contains c.clear n)
    told_by is n asked true missing h m = inl (listed_by is n (node_from_asked net everywhere (c.start ∷ []) n (asked_node is n asked) h))
    told_by is n asked false true h m = let s = is.unknown.same n in inr (inl (s.1 (record { asked = asked_node is n asked; unseen = h; missing = m })))
    told_by is n asked false false h m = let s = is.clear.same n in inr (inr (s.1 (record { asked = asked_node is n asked; unseen = h; complete = m })))

    pub all_hold : Certifies net c → AllHold net c
    all_hold is (AtNode place) = λ x e. record {
      once = is.once place x e;
      hit = let s = is.nodes x.node in hit_of c.start x.node (s.0 (into_map named_node c.nodes x (at_place c.nodes place x e)));
      led = is.led place x e;
    }
    all_hold is (AtEdge place) = λ e at.
        let s = is.edges.same e in
        let edge : IsEdge net everywhere (c.start ∷ []) e = s.0 (at_place c.edges place e at) in
        let down = listed_by is e.down edge.node in
        record { above = sorted_above edge_cmp c.edges place e is.edges.ascending at; down = down; up = step_listed is e.down e.up down edge.step edge.hit; step = edge.step }
    all_hold is (AtUnknown place) = λ n at.
        let s = is.unknown.same n in
        let u : IsUnknown net everywhere (c.start ∷ []) n = s.0 (at_place c.unknown place n at) in
        record { above = sorted_above node_cmp c.unknown place n is.unknown.ascending at; unseen = u.unseen; missing = u.missing; asked = asked_by (listed_by is) n u.asked }
    all_hold is (AtClear place) = λ n at.
        let s = is.clear.same n in
        let u : IsClear net everywhere (c.start ∷ []) n = s.0 (at_place c.clear place n at) in
        record { above = sorted_above node_cmp c.clear place n is.clear.ascending at; unseen = u.unseen; missing = u.complete; asked = asked_by (listed_by is) n u.asked }
    all_hold is AtEnd = record {
      told = λ n asked. told_by is n asked (net.hit n) (net.missing n.router.number) refl refl;
      edges = λ e down up step.
          let s = is.edges.same e in
          let d = is.nodes e.down in
          let u = is.nodes e.up in
          s.1 (record { node = d.0 down; step = step; within = refl; hit = hit_of c.start e.up (u.0 up) });
    }
