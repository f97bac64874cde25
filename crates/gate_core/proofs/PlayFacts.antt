-- A list of steps.
use Rattle.std.proofs.Common.{◌≡◌, ℕ, ◌+◌, ◌^◌, ◌<◌, ◌≤◌, true, ◌&&◌, cond, List, [], ◌∷◌, ◌++◌, length, get_or, take, map, count_by, sym, refl, ap, ◌∙◌, subst, arith, append_assoc, max}
use Rattle.std.specs.List.{range_with_len, list_all}
use Rattle.std.proofs.lemmas.List.{append-nil, take_more}
use Rattle.std.proofs.lemmas.List.Sums.{sum_by_more, sum_by-take-le, AllPass-from_list_all}
use Rattle.std.proofs.lemmas.List.FromFn.{length-map-range_with_len}
use Rattle.spie_base.specs.declared.PageShape.{PageShape}
use Rattle.spie_base.proofs.Booleans.{both_held}
use Rattle.spie_base.proofs.Bounds.{is_past}
use Rattle.gate_core.specs.declared.steps.Actor.{Actor}
use Rattle.gate_core.specs.declared.steps.Actor.TheVariants as actor
use Rattle.gate_core.specs.declared.steps.Act.{Act}
use Rattle.gate_core.specs.declared.steps.Act.TheVariants.{Look, Enter, Set, Leave, Seal, Settle, Drain, Point, Probe}
use Rattle.gate_core.specs.declared.steps.Act.TheVariants as act
use Rattle.gate_core.specs.declared.steps.Step.{Step}
use Rattle.gate_core.specs.declared.steps.StepAnswer.{StepAnswer}
use Rattle.spie_base.specs.declared.types.Entry.{Entry}
use Rattle.gate_core.specs.Views.{Duties}
use Rattle.gate_core.specs.Core.{Core, place_of, duties_of, Stepped, may_do, is_within, PageFits, CanStep}
use Rattle.gate_core.specs.Start.{pass_view, start_of}
use Rattle.gate_core.specs.Play.{is_actor, is_step, is_open, opens_page, IsPlayed}
use Rattle.gate_core.proofs.StepFacts.{entries_grow, one_step, shape_stays, actors_stay, room_falls, next_grows}

-- ---- a step more

pub IsPlayed-push : (c : Core) (steps : List Step) (mid : Core) (replies : List StepAnswer) (step : Step) (end : Core) (reply : StepAnswer)
    → IsPlayed c steps mid replies → Stepped mid (place_of step.actor) step.act end reply → IsPlayed c (steps ++ step ∷ []) end (replies ++ reply ∷ [])
IsPlayed-push c [] mid [] step end reply h k = (end, subst (λ (x : Core). Stepped x (place_of step.actor) step.act end reply) h k, refl)
IsPlayed-push c [] mid (r ∷ rs) step end reply h k = absurd h
IsPlayed-push c (s ∷ ss) mid [] step end reply h k = absurd h
IsPlayed-push c (s ∷ ss) mid (r ∷ rs) step end reply h k = (h.0, h.1, IsPlayed-push h.0 ss mid rs step end reply h.2 k)

-- ---- entries stay

pub step_grows : (c : Core) (place : ℕ) (a : Act) (c' : Core) (reply : StepAnswer) → Stepped c place a c' reply → (more : List Entry) × (c'.entries ≡ c.entries ++ more)
step_grows c place a c' reply step = let (more, grown, by) = entries_grow c place a c' reply step in (more, grown)

pub play_grows : (c : Core) (steps : List Step) (end : Core) (replies : List StepAnswer) → IsPlayed c steps end replies → (more : List Entry) × (end.entries ≡ c.entries ++ more)
play_grows c [] end [] h = ([], ap (λ (k : Core). k.entries) h ∙ sym (append-nil c.entries))
play_grows c [] end (r ∷ rs) h = absurd h
play_grows c (s ∷ ss) end [] h = absurd h
play_grows c (s ∷ ss) end (r ∷ rs) h =
    let (first, one) = step_grows c (place_of s.actor) s.act h.0 r h.1 in
    let (rest, others) = play_grows h.0 ss end rs h.2 in
    (first ++ rest, others ∙ (ap (λ (es : List Entry). es ++ rest) one ∙ append_assoc c.entries first rest))

-- ---- one outcome

pub one_end : (c : Core) (steps : List Step) (x y : Core) (rs qs : List StepAnswer) → IsPlayed c steps x rs → IsPlayed c steps y qs → (x ≡ y) × (rs ≡ qs)
one_end c [] x y [] [] h k = (h ∙ sym k, refl)
one_end c [] x y [] (q ∷ qs) h k = absurd k
one_end c [] x y (r ∷ rs) qs h k = absurd h
one_end c (s ∷ ss) x y [] qs h k = absurd h
one_end c (s ∷ ss) x y (r ∷ rs) [] h k = absurd k
one_end c (s ∷ ss) x y (r ∷ rs) (q ∷ qs) h k =
    let (same, told) = one_step c (place_of s.actor) s.act h.0 k.0 r q h.1 k.1 in
    let rest = one_end h.0 ss x y rs qs h.2 (subst (λ (m : Core). IsPlayed m ss y qs) (sym same) k.2) in
    (rest.0, ap (λ (z : StepAnswer). z ∷ rs) told ∙ ap (λ (zs : List StepAnswer). q ∷ zs) rest.1)

-- ---- the test of a step

actor_there : (passes : ℕ) (who : Actor) → is_actor passes who ≡ true → place_of who < passes + 1
actor_there passes actor.Keeper e = omega arith
actor_there passes (actor.Pass number) e = let a = is_past number passes e in omega arith

fits_if : (a : Act) (d : Duties) → d.next + cond (is_open a) 1 0 < 2 ^ 32 → PageFits a d
fits_if Look d h = tt
fits_if (Enter sig) d h = tt
fits_if Set d h = tt
fits_if Leave d h = tt
fits_if Seal d h = tt
fits_if (Settle s) d h = tt
fits_if (Drain s) d h = tt
fits_if (act.Open s) d h = h
fits_if Point d h = tt
fits_if (Probe s p) d h = tt

-- a step that passes the test can be done, where there are so many actors and the next page fits
pub can_step : (c : Core) (passes : ℕ) (step : Step) → is_step c.shape passes step ≡ true → length c.views ≡ passes + 1 → (duties_of c).next + cond (opens_page step) 1 0 < 2 ^ 32 → CanStep c step
can_step c passes step passed many fits =
    let k = both_held (is_actor passes step.actor) (may_do step.actor step.act && is_within c.shape step.act) passed in
    let l = both_held (may_do step.actor step.act) (is_within c.shape step.act) k.1 in record {
      actor = let a = actor_there passes step.actor k.0 in omega arith;
      may = l.0;
      within = l.1;
      fits = fits_if step.act (duties_of c) fits;
    }

-- ---- on the way through the list

-- the machine after the first i steps
pub record Along (begin : Core) (shape : PageShape) (passes : ℕ) (steps : List Step) (i : ℕ) (c : Core) (replies : List StepAnswer) : Type 0 where
  pub played : IsPlayed begin (take i steps) c replies
  pub shape_is : c.shape ≡ shape
  pub actors : length c.views ≡ passes + 1
  pub room : c.room + i ≡ length steps
  pub next : (duties_of c).next ≤ 1 + count_by opens_page (take i steps)

module _ (shape : PageShape) (passes : ℕ) (steps : List Step) where
  abbrev pub begin : Core
  begin = record (start_of shape passes) { room = length steps }

  pub along_none : (s c : Core) → s ≡ start_of shape passes → c ≡ record s { room = max s.room (length steps) } → Along begin shape passes steps 0 c []
  along_none s c is then =
      let room : max 0 (length steps) ≡ length steps = omega arith in
      let first : c ≡ begin = then ∙ (ap (λ (k : Core). let z : Core = record k { room = max k.room (length steps) } in z) is ∙ ap (λ (n : ℕ). let z : Core = record (start_of shape passes) { room = n } in z) room) in
      subst (λ (k : Core). Along begin shape passes steps 0 k []) (sym first) (record {
        played = refl;
        shape_is = refl;
        actors = let e : length (map pass_view (range_with_len 0 passes)) ≡ passes = length-map-range_with_len pass_view 0 passes in omega arith;
        room = omega arith;
        next = omega arith;
      })

  module _ (i : ℕ) (d : Step) (within : i < length steps) (passed : list_all (is_step shape passes) steps ≡ true) (few : count_by opens_page steps + 1 < 2 ^ 32) (c : Core) (replies : List StepAnswer) (along : Along begin shape passes steps i c replies) where
    abbrev step : Step
    step = get_or steps i d

    counted : count_by opens_page (take i steps) + cond (opens_page step) 1 0 ≡ count_by opens_page (take (i + 1) steps)
    counted = sym (sum_by_more (λ (s : Step). cond (opens_page s) 1 0) steps i d within)

    pub along_able : CanStep c step
    along_able =
        let one : is_step shape passes step ≡ true = AllPass-from_list_all (is_step shape passes) steps passed i d within in
        let here : is_step c.shape passes step ≡ true = subst (λ (s : PageShape). is_step s passes step ≡ true) (sym along.shape_is) one in
        let most = sum_by-take-le (λ (s : Step). cond (opens_page s) 1 0) steps (i + 1) in
        let most' : count_by opens_page (take (i + 1) steps) ≤ count_by opens_page steps = most in
        can_step c passes step here along.actors (let a = counted in let b = along.next in omega arith)

    pub along_more : (c' : Core) (reply : StepAnswer) → Stepped c (place_of step.actor) step.act c' reply → Along begin shape passes steps (i + 1) c' (replies ++ reply ∷ [])
    along_more c' reply done = record {
      played = subst (λ (ss : List Step). IsPlayed begin ss c' (replies ++ reply ∷ [])) (sym (take_more steps i d within)) (IsPlayed-push begin (take i steps) c replies step c' reply along.played done);
      shape_is = shape_stays c (place_of step.actor) step.act c' reply done ∙ along.shape_is;
      actors = actors_stay c (place_of step.actor) step.act c' reply done ∙ along.actors;
      room = let a = room_falls c (place_of step.actor) step.act c' reply done in let b = along.room in omega arith;
      next = let a = next_grows c (place_of step.actor) step.act c' reply done along_able.actor in let b = along.next in let e = counted in omega arith;
    }
