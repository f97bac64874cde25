-- Agents beside their planes, and what is seen of a yard.
use Rattle.std.proofs.Common.{ℕ, zero, suc, ◌≡◌, ◌≢◌, ◌<◌, ◌+◌, ◌∷◌, [], ◌++◌, ◌∙◌, ⊎_elim, List, length, get_or, set, sym, ap, refl, subst, arith, length-append, length-set}
use Rattle.std.specs.Prelude.{slice_get, Some}
use Rattle.std.proofs.lemmas.Grind.{get_or-set_at}
use Rattle.std.proofs.lemmas.List.{get_or-set_other}
use Rattle.spie_base.specs.Shapes.{shape_of}
use Rattle.spie_base.specs.declared.Rules.{Rules}
use Rattle.page_gate.specs.Held.{PlaneId}
use Rattle.router_account.specs.Ledger.{first_ledger, nothing_unfinished}
use Rattle.data_agent.specs.Planes.{IsOwnPlane, entries_of}
use Rattle.data_agent.specs.Standing.{StandsFor}
use Rattle.data_agent.specs.declared.Agent.{Agent}
use Rattle.trace_replay.specs.Yards.{AreBeside, AreOpened, yard_view, yard_views}
use Rattle.trace_replay.proofs.Sums.{same_or, each_push, get_push_same, get_push_other}

-- what stands at a place within is the same by every default
pub get_any : {X : Type 0} (xs : List X) (i : ℕ) (d e : X) → i < length xs → get_or xs i d ≡ get_or xs i e
get_any [] i d e l = absurd (omega arith)
get_any (x ∷ xs) zero d e l = refl
get_any (x ∷ xs) (suc i) d e l = get_any xs i d e (omega arith)

-- one of the agents is another, on the same plane
pub beside_set : (planes : List PlaneId) (agents : List Agent) (i : ℕ) (p : PlaneId) (a : Agent) → i < length agents → AreBeside planes agents → IsOwnPlane (get_or planes i p) a → AreBeside planes (set agents i a)
beside_set planes agents i p a l so own = record {
  count = so.count ∙ sym (length-set agents i a);
  own = λ r q d m.
      let n = length-set agents i a in
      let within : r < length agents = omega (arith, m, n) in
      ⊎_elim
      (λ (e : r ≡ i).
      let P : ℕ → Type 0 = λ k. IsOwnPlane (get_or planes k q) (get_or (set agents i a) k d) in
      let Q : PlaneId → Type 0 = λ x. IsOwnPlane x (get_or (set agents i a) i d) in
      let R : Agent → Type 0 = λ x. IsOwnPlane (get_or planes i p) x in
      let c = so.count in
      subst P (sym e) (subst Q (get_any planes i p q (omega (arith, c, l))) (subst R (sym (get_or-set_at agents i i a d refl l)) own)))
      (λ (ne : r ≢ i).
      let R : Agent → Type 0 = λ x. IsOwnPlane (get_or planes r q) x in
      subst R (sym (get_or-set_other agents i r a d ne)) (so.own r q d within))
      (same_or r i);
}

-- the plane beside an agent is its own
pub own_at : (planes : List PlaneId) (agents : List Agent) (i : ℕ) (p : PlaneId) (a : Agent) → AreBeside planes agents → i < length agents → p ≡ get_or planes i p → IsOwnPlane p (get_or agents i a)
own_at planes agents i p a so l is = let P : PlaneId → Type 0 = λ x. IsOwnPlane x (get_or agents i a) in subst P (sym is) (so.own i p a l)

pub beside_at : (planes : List PlaneId) (agents : List Agent) (i : ℕ) (p : PlaneId) (a : Agent) → AreBeside planes agents → i < length agents → p ≡ get_or planes i p → IsOwnPlane p a → AreBeside planes (set agents i a)
beside_at planes agents i p a so l is own = let P : PlaneId → Type 0 = λ x. IsOwnPlane x a in beside_set planes agents i p a l so (subst P is own)

-- a plane and its agent more
pub beside_push : (planes : List PlaneId) (agents : List Agent) (plane : PlaneId) (agent : Agent) → AreBeside planes agents → IsOwnPlane plane agent → AreBeside (planes ++ plane ∷ []) (agents ++ agent ∷ [])
beside_push planes agents plane agent so own = record {
  count = length-append planes (plane ∷ []) ∙ ap (λ (n : ℕ). n + 1) so.count ∙ sym (length-append agents (agent ∷ []));
  own = λ r p a m.
      let n = length-append agents (agent ∷ []) in
      let P : ℕ → Agent → Type 0 = λ i x. (q : PlaneId) → IsOwnPlane (get_or (planes ++ plane ∷ []) i q) x in
      each_push P agents agent (length agents) refl
      (λ i d l q.
      let R : PlaneId → Type 0 = λ x. IsOwnPlane x (get_or agents i d) in
      let c = so.count in
      subst R (sym (get_push_other planes plane q i (omega (arith, c, l)))) (so.own i q d l))
      (λ q. let R : PlaneId → Type 0 = λ x. IsOwnPlane x agent in subst R (sym (get_push_same planes plane q (length agents) so.count)) own)
      r a (omega (arith, m, n)) p;
}

-- a router more is opened
pub opened_push : (rules : Rules) (n : ℕ) (planes : List PlaneId) (agents : List Agent) (plane : PlaneId) (agent : Agent) → AreOpened rules n planes agents
    → IsOwnPlane plane agent → plane.shape ≡ shape_of rules n → StandsFor agent rules (first_ledger n) nothing_unfinished → entries_of agent ≡ [] → AreOpened rules (n + 1) (planes ++ plane ∷ []) (agents ++ agent ∷ [])
opened_push rules n planes agents plane agent so own shape first empty = record {
  count_is = length-append agents (agent ∷ []) ∙ ap (λ (k : ℕ). k + 1) so.count_is;
  beside = beside_push planes agents plane agent so.beside own;
  shapes = let P : ℕ → PlaneId → Type 0 = λ r p. p.shape ≡ shape_of rules r in each_push P planes plane n (so.beside.count ∙ so.count_is) so.shapes shape;
  first = let P : ℕ → Agent → Type 0 = λ r a. StandsFor a rules (first_ledger r) nothing_unfinished in each_push P agents agent n so.count_is so.first first;
  empty = let P : ℕ → Agent → Type 0 = λ r a. entries_of a ≡ [] in each_push P agents agent n so.count_is so.empty empty;
}

-- ---- what is seen of a yard

pub length_views : (planes : List PlaneId) (agents : List Agent) → length planes ≡ length agents → length (yard_views planes agents) ≡ length agents
length_views [] [] e = refl
length_views [] (agent ∷ agents) e = absurd (omega arith)
length_views (plane ∷ planes) [] e = absurd (omega arith)
length_views (plane ∷ planes) (agent ∷ agents) e = ap (λ (n : ℕ). suc n) (length_views planes agents (omega arith))

pub view_there : (planes : List PlaneId) (agents : List Agent) (r : ℕ) (p : PlaneId) (a : Agent) → length planes ≡ length agents → r < length agents
    → slice_get (yard_views planes agents) r ≡ Some (yard_view (get_or planes r p) (get_or agents r a))
view_there [] [] r p a e l = absurd (omega arith)
view_there [] (agent ∷ agents) r p a e l = absurd (omega arith)
view_there (plane ∷ planes) [] r p a e l = absurd (omega arith)
view_there (plane ∷ planes) (agent ∷ agents) zero p a e l = refl
view_there (plane ∷ planes) (agent ∷ agents) (suc r) p a e l = view_there planes agents r p a (omega arith) (omega arith)
