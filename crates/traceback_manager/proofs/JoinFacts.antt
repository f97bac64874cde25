-- Rounds in which all regions are asked at once.
use Rattle.std.proofs.Common.{◌≡◌, ◌∙◌, ℕ, ◌+◌, ◌<◌, ◌≤◌, ◌⊎◌, inl, inr, ⊎_elim, Bool, true, false, List, [], ◌∷◌, ◌++◌, length, get_or, refl, sym, subst, ap, append-nil, length-append, take, drop, arith, IsTrue, eq-eqb, ◌==◌}
use mathlib.Core.Logic.{dite}
use native.Mathlib.Decide.{ℕ_discrete}
use Rattle.std.proofs.Math.Seq.{get_or-append_seam, take-length}
use Rattle.std.proofs.lemmas.List.{get_or_push, get_or_append_left, take-append-le}
use Rattle.std.specs.Prelude.{slice_index}
use Rattle.std.specs.List.{Contains, flat_map}
use Rattle.std.proofs.lemmas.Bool.{false≢true, eqb-true}
use Rattle.std.proofs.lemmas.List.Elements.{filter-append, Contains-append_left, Contains-append_right, Contains-append_cases, Contains-get_or}
use Rattle.spie_base.proofs.Membership.{has_none, has_first, has_one, from_map, into_map, from_filter, into_filter, from_flat_map, into_flat_map}
use Rattle.topology.specs.Layout.{Layout}
use Rattle.topology.specs.declared.limits.TheConstants.{ROUTERS_MOST}
use Rattle.reverse_flood.specs.declared.graphs.Node.{Node}
use Rattle.reverse_flood.specs.declared.cells.Search.{Search}
use Rattle.reverse_flood.specs.declared.leads.Lead.{Lead}
use Rattle.reverse_flood.specs.Flood.{Net, everywhere, in_region, IsAsked}
use Rattle.reverse_flood.specs.Leads.{nodes_of}
use Rattle.reverse_flood.specs.Search.{is_named, IsFine, IsSettled, IsUnderWay}
use Rattle.reverse_flood.specs.Unions.{IsAt, TakesUp, TellsSame}
use Rattle.reverse_flood.proofs.Worklists.{IsClosed, asked_closed, node_from_asked}
use Rattle.regional_agent.specs.Desks.{lying, HasServed}
use Rattle.regional_agent.specs.declared.desks.Desk.{Desk}
use Rattle.traceback_manager.specs.Beside.{away_of, AreAllAsked, AreBlank, AreUnited, HaveAnswered, IsOwn, IsRound, IsServed, NoneShort}
use Rattle.traceback_manager.specs.declared.beside.Seat.{Seat}
use Rattle.traceback_manager.proofs.RoundFacts.{node_of}

-- ---- one region

pub serve_first : (net : Net) (layout : Layout) (region : ℕ) (start : Node) (desk : Desk) → desk.region ≡ region → IsFine desk.search → desk.leads.home.items ≡ [] → ((n : Node) → is_named desk.search n ≡ false) → IsServed net layout region [] (start ∷ []) desk
serve_first net layout region start desk region_is fine home none = record {
  region_is = region_is;
  ready = record { fine = fine; home = home };
  waiting = [];
  under_way = record {
    sound = λ n small h. absurd (false≢true (sym (none n) ∙ h));
    entered = λ n small h. absurd (has_none n h);
    settled = λ n small h. absurd (false≢true (sym (none n) ∙ h));
  };
  outside = λ n h. absurd (has_none n h);
  led = λ n small h. absurd (false≢true (sym (none n) ∙ h));
}

pub serve_next : (net : Net) (layout : Layout) (region : ℕ) (done coming more : List Node) (before after : Desk) → IsServed net layout region done coming before → HasServed net layout coming before after → ((n : Node) → Contains (nodes_of after.leads.away.items) n → Contains more n) → IsServed net layout region (done ++ coming) more after
serve_next net layout region done coming more before after is served away =
    let e = is.region_is in
    let Way : List Node → Type 0 = λ ns. IsUnderWay net everywhere ns after.search (nodes_of after.leads.away.items ++ is.waiting) in
    let Lying : ℕ → Type 0 = λ r. IsUnderWay net everywhere (lying layout region done ++ lying layout r coming) after.search (nodes_of after.leads.away.items ++ is.waiting) in
    record {
      region_is = served.region ∙ e;
      ready = served.ready;
      waiting = nodes_of after.leads.away.items ++ is.waiting;
      under_way = subst Way (sym (filter-append (λ (n : Node). in_region layout region n.router.number) done coming))
          (subst Lying e (served.under_way (lying layout region done) is.waiting is.under_way));
      outside = λ n h. ⊎_elim
          (λ x.
          let i = from_map node_of after.leads.away.items n x in
          let Out : Node → Type 0 = λ m. in_region layout region m.router.number ≡ false in
          let At : ℕ → Type 0 = λ r. in_region layout r i.of.node.router.number ≡ false in
          subst Out i.is (subst At e (served.out i.of i.has)))
          (λ x. is.outside n x)
          (Contains-append_cases (nodes_of after.leads.away.items) is.waiting n h);
      led = λ n small h.
          let In : ℕ → Type 0 = λ r. in_region layout r n.router.number ≡ true in
          let Named : Node → Type 0 = λ m. Contains ((done ++ coming) ++ more) m in
          ⊎_elim
          (λ was. ⊎_elim (λ x. inl x) (λ x. inr (Contains-append_left (done ++ coming) more n x)) (is.led n small was))
          (λ x. ⊎_elim
          (λ here. inl (subst In e here))
          (λ among. inr (subst Named among.is (Contains-append_right (done ++ coming) more among.lead.node (away among.lead.node (into_map node_of after.leads.away.items among.lead among.has)))))
          x)
          (served.named n small h);
    }

-- what is asked from pairs that are asked is asked
pub asked_from : (net : Net) (start : Node) (entries : List Node) → ((n : Node) → Contains entries n → IsAsked net everywhere (start ∷ []) n) → (n : Node) → IsAsked net everywhere entries n → IsAsked net everywhere (start ∷ []) n
asked_from net start entries asked n h =
    let P : Node → Type 0 = λ m. IsAsked net everywhere (start ∷ []) m in
    let closed : IsClosed net everywhere entries P = record {
      entered = asked;
      closed = λ p m is hit step within. inr (record { from = p; node = node_from_asked net everywhere (start ∷ []) p is hit; step = step; within = within });
    } in
    asked_closed net everywhere entries P closed n h

lying_asked : (net : Net) (layout : Layout) (start : Node) (region : ℕ) (done : List Node) → ((n : Node) → Contains done n → IsAsked net everywhere (start ∷ []) n) → (n : Node) → Contains (lying layout region done) n → IsAsked net everywhere (start ∷ []) n
lying_asked net layout start region done asked n h = asked n (from_filter (λ (m : Node). in_region layout region m.router.number) done n h).0

-- ---- all regions

pub first_round : (net : Net) (layout : Layout) (start : Node) (seats : List Seat) → start.router.number < length layout.names → AreBlank layout seats → IsRound net layout start seats (start ∷ [])
first_round net layout start seats exists blank =
    let Here : Node → Type 0 = λ n. n.router.number < length layout.names in
    record {
      done = [];
      many = blank.many;
      each = λ r d l. let b = blank.blank r d l in serve_first net layout r start (get_or seats r d).desk (blank.regions r d l) b.ready.fine b.ready.home b.none;
      asked = λ n h. inl h;
      exist = λ n h. subst Here (has_one start n h) exists;
      start_is = has_first start [];
    }

-- a seat's pairs are among those of all seats
pub among_all : (seats : List Seat) (r : ℕ) (d : Seat) → r < length seats → (n : Node) → Contains (away_of (get_or seats r d)) n → Contains (flat_map away_of seats) n
among_all seats r d l n h = into_flat_map away_of seats (get_or seats r d) n (Contains-get_or seats r d l) h

record IsFrom (after : List Seat) (n : Node) : Type 0 where
  r : ℕ
  seat : Seat
  within : r < length after
  lead : Lead
  has : Contains (get_or after r seat).desk.leads.away.items lead
  is : lead.node ≡ n

from_round : (after : List Seat) (n : Node) → Contains (flat_map away_of after) n → IsFrom after n
from_round after n h =
    let p = from_flat_map away_of after n h in
    let k = p.has in
    let Has : Seat → Type 0 = λ s. Contains (away_of s) n in
    let i = from_map node_of (get_or after k.0 p.of).desk.leads.away.items n (subst Has (sym k.2) p.in_piece) in
    record { r = k.0; seat = p.of; within = k.1; lead = i.of; has = i.has; is = i.is }

pub next_round : (net : Net) (layout : Layout) (start : Node) (before after : List Seat) (coming : List Node) → length layout.names ≤ ROUTERS_MOST → IsRound net layout start before coming → HaveAnswered net layout coming before after → NoneShort after → IsRound net layout start after (flat_map away_of after)
next_round net layout start before after coming few is answered none =
    let more = flat_map away_of after in
    let many = answered.many in
    let low : (r : ℕ) → r < length after → r < length before = λ r l. omega (arith, l, many) in
    let served = λ (r : ℕ) (d : Seat) (l : r < length after). answered.each r d (low r l) (none.each r d l) in
    let next : (r : ℕ) (d : Seat) → r < length after → IsServed net layout r (is.done ++ coming) more (get_or after r d).desk =
    λ r d l. serve_next net layout r is.done coming more (get_or before r d).desk (get_or after r d).desk (is.each r d (low r l)) (served r d l) (among_all after r d l) in
    let At : Node → Type 0 = λ n. IsAsked net everywhere (start ∷ []) n in
    let Here : Node → Type 0 = λ n. n.router.number < length layout.names in
    record {
      done = is.done ++ coming;
      many = many ∙ is.many;
      each = next;
      asked = λ n h. ⊎_elim
          (λ x. is.asked n x)
          (λ x.
          let f = from_round after n x in
          let lead = (served f.r f.seat f.within).away f.lead f.has in
          let exists = lead.exists in
          let s = next f.r f.seat f.within in
          subst At f.is (asked_from net start (lying layout f.r (is.done ++ coming)) (lying_asked net layout start f.r (is.done ++ coming) is.asked) f.lead.node
          (s.under_way.sound f.lead.node (omega (arith, exists, few)) lead.named)))
          (Contains-append_cases (is.done ++ coming) more n h);
      exist = λ n h. ⊎_elim
          (λ x. is.exist n x)
          (λ x. let f = from_round after n x in subst Here f.is ((served f.r f.seat f.within).away f.lead f.has).exists)
          (Contains-append_cases (is.done ++ coming) more n h);
      start_is = Contains-append_left (is.done ++ coming) more start is.start_is;
    }

-- ---- the end

some_seat : (seats : List Seat) (r : ℕ) → r < length seats → Seat
some_seat [] r l = let no : ⊥ = omega (arith, l) in absurd no
some_seat (seat ∷ seats) r l = seat

at_home : (layout : Layout) (n : Node) → n.router.number < length layout.names → IsAt layout (slice_index layout.regions n.router.number) n
at_home layout n exists = record { exists = exists; here = eq-eqb (slice_index layout.regions n.router.number) (slice_index layout.regions n.router.number) refl }

pub all_asked : (net : Net) (layout : Layout) (start : Node) (seats : List Seat) (all : Search) → length layout.names ≤ ROUTERS_MOST → ((a b : ℕ) → IsTrue (net.linked a b) → b < length layout.names) → ((r : ℕ) → r < length layout.names → slice_index layout.regions r < length layout.region_names)
    → AreAllAsked net layout start seats → AreUnited layout seats all → IsUnderWay net everywhere (start ∷ []) all []
all_asked net layout start seats all few ends homes is united =
    let many = is.many in
    let home : Node → ℕ = λ n. slice_index layout.regions n.router.number in
    let within : (n : Node) → n.router.number < length layout.names → home n < length seats = λ n l. let h = homes n.router.number l in omega (arith, h, many) in
    let seat : (n : Node) → n.router.number < length layout.names → Seat = λ n l. get_or seats (home n) (some_seat seats (home n) (within n l)) in
    let served = λ (n : Node) (l : n.router.number < length layout.names). is.each (home n) (some_seat seats (home n) (within n l)) (within n l) in
    let tells = λ (n : Node) (l : n.router.number < length layout.names). united.each (home n) (some_seat seats (home n) (within n l)) (within n l) n (at_home layout n l) in
    let done : (n : Node) → Contains is.done n → Contains (is.done ++ []) n = λ n h. Contains-append_left is.done [] n h in
    let named_done : (n : Node) → n.router.number < ROUTERS_MOST → Contains (is.done ++ []) n → is_named all n ≡ true =
    λ n small h.
    let l = is.exist n h in
    let Has : List Node → Type 0 = λ ns. Contains ns n in
    let lies = into_filter (λ (m : Node). in_region layout (home n) m.router.number) is.done n (subst Has (append-nil is.done) h) (at_home layout n l).here in
    (tells n l).named ∙ (served n l).under_way.entered n small lies in
    let Named : Node → Type 0 = λ n. Contains (is.done ++ []) n in
    record {
      sound = λ n small h.
          let l = (united.only n small h).0 in
          let s = served n l in
          asked_from net start (lying layout (home n) is.done) (lying_asked net layout start (home n) is.done (λ m x. is.asked m (done m x))) n
          (s.under_way.sound n small (sym (tells n l).named ∙ h));
      entered = λ n small h. named_done n small (subst Named (has_one start n h) is.start_is);
      settled = λ n small h.
          let l = (united.only n small h).0 in
          let s = served n l in
          let t = tells n l in
          ⊎_elim
          (λ waits. absurd (false≢true (sym (s.outside n waits) ∙ (at_home layout n l).here)))
          (λ settled. inr (record {
            found = t.found ∙ settled.found;
            known = t.known ∙ settled.known;
            steps = λ m hit step inside.
                let m_exists = ends n.router.number m.router.number step.linked in
                let m_small : m.router.number < ROUTERS_MOST = omega (arith, m_exists, few) in
                let m_named = settled.steps m hit step inside in
                ⊎_elim
                (λ here. (united.each (home n) (some_seat seats (home n) (within n l)) (within n l) m (record { exists = m_exists; here = here })).named ∙ m_named)
                (λ x. named_done m m_small x)
                (s.led m m_small m_named);
          }))
          (s.under_way.settled n small (sym t.named ∙ h));
    }

-- ---- lists of seats

-- one seat more at the end
pub last_more : (P : ℕ → Seat → Type 0) (seats : List Seat) (one : Seat) → ((r : ℕ) (d : Seat) → r < length seats → P r (get_or seats r d)) → P (length seats) one → (r : ℕ) (d : Seat) → r < length seats + 1 → P r (get_or (seats ++ one ∷ []) r d)
last_more P seats one each now r d l = dite (ℕ_discrete r (length seats))
    (λ e. let At : ℕ → Type 0 = λ k. P k (get_or (seats ++ one ∷ []) r d) in subst At (sym e) (let Is : Seat → Type 0 = λ s. P (length seats) s in subst Is (sym (get_or_push seats one d r (sym e))) now))
    (λ ne. let low : r < length seats = omega (arith, l, ne) in let Is : Seat → Type 0 = λ s. P r s in subst Is (sym (get_or_append_left seats (one ∷ []) d r low)) (each r d low))

-- a seat that comes next is that of the next region
pub own_seat : (yielded rest items : List Seat) (seat : Seat) → yielded ++ seat ∷ rest ≡ items → ((r : ℕ) (d : Seat) → r < length items → IsOwn r (get_or items r d)) → IsOwn (length yielded) seat
own_seat yielded rest items seat e own =
    let At : List Seat → Type 0 = λ ls. (r : ℕ) (d : Seat) → r < length ls → IsOwn r (get_or ls r d) in
    let own' = subst At (sym e) own in
    let Is : Seat → Type 0 = λ s. IsOwn (length yielded) s in
    let long = length-append yielded (seat ∷ rest) in
    subst Is (get_or-append_seam yielded seat rest seat) (own' (length yielded) seat (omega (arith, long)))

-- the searches of the first regions are made one
pub united_none : (layout : Layout) (all : Search) → ((n : Node) → is_named all n ≡ false) → AreUnited layout [] all
united_none layout all none = record {
  each = λ r d l. absurd (omega (arith, l));
  only = λ n small h. absurd (false≢true (sym (none n) ∙ h));
}

tells_join : (n : Node) (a b c : Search) → TellsSame n a b → TellsSame n b c → TellsSame n a c
tells_join n a b c first second = record {
  named = second.named ∙ first.named;
  known = second.known ∙ first.known;
  found = second.found ∙ first.found;
}

in_one : (layout : Layout) (r q : ℕ) (n : Node) → IsAt layout r n → IsAt layout q n → r ≡ q
in_one layout r q n a b = sym (eqb-true (slice_index layout.regions n.router.number) r a.here) ∙ eqb-true (slice_index layout.regions n.router.number) q b.here

pub united_next : (layout : Layout) (seats : List Seat) (seat : Seat) (old new : Search) → length layout.names ≤ ROUTERS_MOST → AreUnited layout seats old → TakesUp layout (length seats) seat.desk.search old new → AreUnited layout (seats ++ seat ∷ []) new
united_next layout seats seat old new few is takes =
    let longer = length-append seats (seat ∷ []) in
    record {
      each = λ r d l n at.
          let P : ℕ → Seat → Type 0 = λ k s. IsAt layout k n → TellsSame n s.desk.search new in
          let exists = at.exists in
          let small : n.router.number < ROUTERS_MOST = omega (arith, exists, few) in
          last_more P seats seat
          (λ k e low here. ⊎_elim
          (λ x. absurd (let same = in_one layout k (length seats) n here x.at in omega (arith, low, same)))
          (λ same. tells_join n (get_or seats k e).desk.search old new (is.each k e low n here) same)
          (takes.only n small))
          (λ here. takes.all n here)
          r d (omega (arith, l, longer)) at;
      only = λ n small h. ⊎_elim
          (λ x. let here : slice_index layout.regions n.router.number ≡ length seats = eqb-true (slice_index layout.regions n.router.number) (length seats) x.at.here in (x.at.exists, omega (arith, here, longer)))
          (λ same. let o = is.only n small (sym same.named ∙ h) in let l = o.1 in (o.0, omega (arith, l, longer)))
          (takes.only n small);
    }

-- a search of other regions names no pair of this one
pub united_blank : (layout : Layout) (seats : List Seat) (all : Search) → length layout.names ≤ ROUTERS_MOST → AreUnited layout seats all → (n : Node) → IsAt layout (length seats) n → is_named all n ≡ false
united_blank layout seats all few is n at =
    let exists = at.exists in
    let small : n.router.number < ROUTERS_MOST = omega (arith, exists, few) in
    let by : (b : Bool) → is_named all n ≡ b → is_named all n ≡ false =
    elim [
      | true ↦ λ e.
          let l = (is.only n small e).1 in
          let here : slice_index layout.regions n.router.number ≡ length seats = eqb-true (slice_index layout.regions n.router.number) (length seats) at.here in
          absurd (omega (arith, l, here))
      | false ↦ λ e. e
    ] in
    by (is_named all n) refl

-- a list that was lent as a slice of its length is what was written there
pub written_back : {X : Type 0} (n : ℕ) (xs ws : List X) → length ws ≡ n → take n (ws ++ drop (length ws) xs) ≡ ws
written_back n xs ws e = take-append-le n ws (drop (length ws) xs) (omega (arith, e)) ∙ ap (λ (k : ℕ). take k ws) (sym e) ∙ take-length ws
