-- The parts of an answer, judged one after another.
use Rattle.std.proofs.Common.{◌≡◌, ◌∙◌, ◌↔◌, ⊎_elim, ℕ, ◌<◌, ◌≤◌, Bool, true, false, IsTrue, List, map, take, length, Option, Some, None, sym, subst, arith}
use Rattle.std.specs.List.Sorted.{IsStrictlySortedBy}
use Rattle.std.proofs.lemmas.Bool.{false≢true}
use Rattle.spie_base.proofs.Membership.{from_map}
use Rattle.topology.specs.declared.limits.TheConstants.{ROUTERS_MOST}
use Rattle.reverse_flood.specs.declared.graphs.Node.{Node}
use Rattle.reverse_flood.specs.Flood.{Net, edge_cmp}
use Rattle.reverse_flood.proofs.Orders.{edges_total}
use Rattle.evidence_text.specs.declared.certificates.Certificate.{Certificate}
use Rattle.evidence_check.specs.declared.failing.Failing.TheVariants as failing
use Rattle.evidence_check.specs.declared.pairs.Pairs.{Pairs}
use Rattle.evidence_check.specs.Firsts.{EdgesHold, IsFirstFailing, LeftHold, NodesHold}
use Rattle.evidence_check.specs.Judging.{AllHold, EdgeAt, EdgeHolds, EndHolds, IsAskedBy, IsReached, LeftAt, NodeAt, NodeHolds, named_node, named_nodes}
use Rattle.evidence_check.specs.Lines.{Exist, ExistNamed, IsFirstBad}
use Rattle.evidence_check.specs.Pairs.{AreFew, AreHit, AreKept, AreListed, AreNoted, IsMarked, LeftAtIn, LeftHoldsIn, Tells, WaysAt, is_node}
use Rattle.evidence_check.proofs.LastLine.{end_decided}
use Rattle.evidence_check.proofs.LeftLines.{left_lines}
use Rattle.evidence_check.proofs.PartFacts.{all_hold_by, fails_clear, fails_edge, fails_end, fails_node, fails_unknown}
use Rattle.evidence_check.proofs.Places.{above_sorted, at_place, placed}

-- ---- equal lists

pub moved : {A B C : Type 0} (P : A → B → C → Type 0) (a a' : A) (b b' : B) (x x' : C) → a ≡ a' → b ≡ b' → x ≡ x' → P a b x → P a' b' x'
moved {A} {B} {C} P a a' b b' x x' ea eb ex p =
    let PA : A → Type 0 = λ y. P y b x in
    let PB : B → Type 0 = λ y. P a' y x in
    let PC : C → Type 0 = λ y. P a' b' y in
    subst PC ex (subst PB eb (subst PA ea p))

-- lines that hold alike have the same first that fails
pub first_alike : (count : ℕ) (P Q : ℕ → Type 0) → ((place : ℕ) → P place ↔ Q place) → (bad : Option ℕ) → IsFirstBad count P bad → IsFirstBad count Q bad
first_alike count P Q same None is = λ place. let s = same place in s.0 (is place)
first_alike count P Q same (Some bad) is = let s = same bad in (is.0, (λ place l. let t = same place in t.0 (is.1 place l)), (λ q. is.2 (s.1 q)))

pub few_pairs : (routers : ℕ) (left : List Node) → routers ≤ ROUTERS_MOST → Exist routers left → Exist ROUTERS_MOST left
few_pairs routers left few exist n has = let l = exist n has in omega (arith, l, few)

module _ (net : Net) (c : Certificate) where
  -- ---- what is known of pairs

  pub marked_noted : (p : Pairs) → IsMarked net c.start (named_nodes c) p → AreNoted p (named_nodes c)
  marked_noted p marked n few =
      let same : is_node p n ≡ is_node marked.named n = marked.asks.nodes n few in
      let noted = marked.noted n few in ((λ h. noted.0 (sym same ∙ h)), (λ h. same ∙ noted.1 h))

  pub marked_hit : (p : Pairs) → NodesHold net c → IsMarked net c.start (named_nodes c) p → AreHit net p
  marked_hit p nodes marked n few node =
      let noted = marked_noted p marked n few in
      let i = from_map named_node c.nodes n (noted.0 node) in
      let at = placed c.nodes i.of i.has in
      let h : NodeHolds net c.start (take at.0 (map named_node c.nodes)) i.of = nodes at.0 i.of at.1 in
      let Hit : Node → Type 0 = λ m. net.hit m ≡ true in
      subst Hit i.is h.hit

  pub unknown_lines : (p : Pairs) (misses : Bool) (left : List Node) → NodesHold net c → IsMarked net c.start (named_nodes c) p → Exist ROUTERS_MOST left → (place : ℕ) → LeftAtIn net p misses left place ↔ LeftAt net c.start (named_nodes c) misses left place
  unknown_lines p misses left nodes marked exist place = left_lines net c.start (named_nodes c) marked.named p misses left place marked.fresh marked.asks (marked_hit p nodes marked) exist

  told_lines : (p q : Pairs) (told : List Node) (misses : Bool) (left : List Node) → Tells told p q → Exist ROUTERS_MOST left → (place : ℕ) → LeftAtIn net q misses left place ↔ LeftAtIn net p misses left place
  told_lines p q told misses left tells exist place = (
    (λ holds. λ n at.
        let h : LeftHoldsIn net q misses left place n = holds n at in
        let same = tells.asked n (exist n (at_place left place n at)) in
        record { above = h.above; is = record { unseen = h.is.unseen; missing = h.is.missing; asked = sym same ∙ h.is.asked } }),
    (λ holds. λ n at.
        let h : LeftHoldsIn net p misses left place n = holds n at in
        let same = tells.asked n (exist n (at_place left place n at)) in
        record { above = h.above; is = record { unseen = h.is.unseen; missing = h.is.missing; asked = same ∙ h.is.asked } }),
  )

  -- the pairs of the lines before were told
  pub clear_lines : (p q : Pairs) (told : List Node) (misses : Bool) (left : List Node) → NodesHold net c → IsMarked net c.start (named_nodes c) p → Tells told p q → Exist ROUTERS_MOST left → (place : ℕ) → LeftAtIn net q misses left place ↔ LeftAt net c.start (named_nodes c) misses left place
  clear_lines p q told misses left nodes marked tells exist place =
      let t = told_lines p q told misses left tells exist place in
      let u = unknown_lines p misses left nodes marked exist place in ((λ h. u.0 (t.0 h)), (λ h. t.1 (u.1 h)))

  pub kept_of : (p q r : Pairs) → IsMarked net c.start (named_nodes c) p → Tells c.unknown p q → Tells c.clear q r → AreKept net c.start (named_nodes c) c.unknown c.clear r
  kept_of p q r marked unknown clear = record { named = marked.named; marked = p; first = q; fresh = marked.fresh; noted = marked.noted; asks = marked.asks; unknown_told = unknown; clear_told = clear }

  -- ---- the first line that fails

  pub first_node : (bad : ℕ) → IsFirstBad (length c.nodes) (NodeAt net c.start c.nodes) (Some bad) → IsFirstFailing net c (failing.Node bad)
  first_node bad is = record { there = is.0; first = fails_node net c bad is }

  pub first_edge : (bad : ℕ) → NodesHold net c → IsFirstBad (length c.edges) (EdgeAt net (named_nodes c) c.edges) (Some bad) → IsFirstFailing net c (failing.Edge bad)
  first_edge bad nodes is = record { there = is.0; first = fails_edge net c bad nodes is }

  pub first_unknown : (bad : ℕ) → NodesHold net c → EdgesHold net c → IsFirstBad (length c.unknown) (LeftAt net c.start (named_nodes c) true c.unknown) (Some bad) → IsFirstFailing net c (failing.Unknown bad)
  first_unknown bad nodes edges is = record { there = is.0; first = fails_unknown net c bad nodes edges is }

  pub first_clear : (bad : ℕ) → NodesHold net c → EdgesHold net c → ((place : ℕ) → LeftAt net c.start (named_nodes c) true c.unknown place) → IsFirstBad (length c.clear) (LeftAt net c.start (named_nodes c) false c.clear) (Some bad) → IsFirstFailing net c (failing.Clear bad)
  first_clear bad nodes edges unknown is = record { there = is.0; first = fails_clear net c bad nodes edges unknown is }

  -- ---- the end

  pub edges_ascend : EdgesHold net c → IsStrictlySortedBy edge_cmp c.edges
  edges_ascend edges = above_sorted edge_cmp edges_total c.edges (λ place e at. let h : EdgeHolds net (named_nodes c) c.edges place e = edges place e at in h.above)

  are_few : (routers : ℕ) → routers ≤ ROUTERS_MOST → c.start.router.number < routers → ExistNamed routers c.nodes → ((a b : ℕ) → IsTrue (net.linked a b) → b < routers) → AreFew net c.start (named_nodes c)
  are_few routers few start nodes ends n which = ⊎_elim
      (λ asked. ⊎_elim
      (λ (e : c.start ≡ n). let P : Node → Type 0 = λ m. m.router.number < ROUTERS_MOST in subst P e (omega (arith, start, few)))
      (λ (r : IsReached net (named_nodes c) n). let l = ends r.from.router.number n.router.number r.step.linked in omega (arith, l, few))
      asked)
      (λ named.
      let i = from_map named_node c.nodes n named in
      let l = nodes i.of i.has in
      let P : Node → Type 0 = λ m. m.router.number < ROUTERS_MOST in
      subst P i.is (omega (arith, l, few)))
      which

  module _ (p : Pairs) (routers : ℕ) (few : routers ≤ ROUTERS_MOST) (start : c.start.router.number < routers) (exist : ExistNamed routers c.nodes) (ends : (a b : ℕ) → IsTrue (net.linked a b) → b < routers) (kept : AreKept net c.start (named_nodes c) c.unknown c.clear p) where
    decided : (AreListed p (IsAskedBy net c.start (named_nodes c)) × ((place : ℕ) → WaysAt net p c.edges c.nodes place)) ↔ EndHolds net c
    decided = end_decided net c p (are_few routers few start exist ends) kept

    pub end_unlisted : (said : Bool) → NodesHold net c → EdgesHold net c → LeftHold net c → IsTrue said ↔ AreListed p (IsAskedBy net c.start (named_nodes c)) → said ≡ false → IsFirstFailing net c failing.End
    end_unlisted said nodes edges left is unsaid = record {
      there = tt;
      first = fails_end net c nodes edges left.unknown left.clear (λ end. let d = decided.1 end in false≢true (sym unsaid ∙ is.1 d.0));
    }

    pub end_untold : (said : Bool) → NodesHold net c → EdgesHold net c → LeftHold net c → IsTrue said ↔ ((place : ℕ) → WaysAt net p c.edges c.nodes place) → said ≡ false → IsFirstFailing net c failing.End
    end_untold said nodes edges left is unsaid = record {
      there = tt;
      first = fails_end net c nodes edges left.unknown left.clear (λ end. let d = decided.1 end in false≢true (sym unsaid ∙ is.1 d.1));
    }

    pub end_whole : NodesHold net c → EdgesHold net c → LeftHold net c → AreListed p (IsAskedBy net c.start (named_nodes c)) → ((place : ℕ) → WaysAt net p c.edges c.nodes place) → AllHold net c
    end_whole nodes edges left listed ways = all_hold_by net c nodes edges left.unknown left.clear (decided.0 (listed, ways))
