-- Where no pass is out, all entries are the keeper's.
use Rattle.std.proofs.Common.{◌≡◌, ℕ, ◌<◌, ◌⊎◌, ◌↔◌, List, sym, refl, ap, ◌∙◌, subst, inl, inr, ⊎_elim, arith, true}
use mathlib.Core.Option.{some, some-ne-none}
use lib.ListN.{get_elem?}
use Rattle.spie_base.specs.declared.PageShape.{PageShape}
use Rattle.gate_core.specs.declared.states.PassState.{PassState}
use Rattle.gate_core.specs.declared.states.PassState.TheVariants.{Idle, Looked, Inside, Visiting}
use Rattle.gate_core.specs.Marks.{size}
use Rattle.gate_core.specs.Views.{Probed, Role, Spent, Pass, Keeper, View, blank, slot_at}
use Rattle.gate_core.specs.Acts.{CanLook}
use Rattle.gate_core.specs.Invariant.{pass_role, is_pass, counts_in, HasPage, IsLive, live_bit, page_bit, HasSet, Recorded, Marked, PlaneFits, PlaneInvariant, Met, IsWhole, IsAlone}
use Rattle.hash_family.specs.Entries.{IsMarked}
use Rattle.gate_core.proofs.Lists.{term_le}
use Rattle.gate_core.proofs.Duty.{the_keeper, keeper_fits}
use Rattle.gate_core.proofs.Bits.{stands, page_bit_live}
use Rattle.gate_core.proofs.Inside.{gate_counts, none_counted}

module _ (shape : PageShape) (words : List ℕ) (views : List View) (v : View) (r : PlaneInvariant shape words views) (id : ℕ) (there : get_elem? views id ≡ some v) (role : v.role ≡ Keeper) (none_out : v.duties.out ≡ 0) where
  fits : PlaneFits shape words views v.duties v.entries
  fits = keeper_fits shape words views r id v there role

  which : (u : View) (j : ℕ) → get_elem? views j ≡ some u → (o : Role) → u.role ≡ o → (u ≡ v) ⊎ (u ≡ blank)
  which u j at Spent e = inr ((fits.actors j u at).gone e)
  which u j at Pass e = let a = term_le is_pass views j u at in let b : is_pass u ≡ 1 = ap pass_role e in let c = fits.out in absurd (omega arith)
  which u j at Keeper e = inl (sym (the_keeper shape words views r j u at e) ∙ the_keeper shape words views r id v there role)

  blank_mark : (page p : ℕ) → IsMarked shape blank.entries page p → ⊥
  blank_mark page p (i, e, at, of, among) = some-ne-none e (sym at)

  pub mine_alone : (page p : ℕ) → Recorded shape views page p ↔ IsMarked shape v.entries page p
  mine_alone page p = (
    (λ (j, u, at, h). ⊎_elim (λ e. subst (λ (x : View). IsMarked shape x.entries page p) e h) (λ e. absurd (blank_mark page p (subst (λ (x : View). IsMarked shape x.entries page p) e h))) (which u j at u.role refl)),
    λ h. (id, v, there, h),
  )

  pub whole : IsWhole shape v
  whole = record {
    collected = λ page below all p small. let a = fits.collected_words page below all p small in let b = mine_alone page p in ((λ x. b.0 (a.0 x)), (λ y. a.1 (b.1 y)));
    below = λ i e at. ((fits.actors id v there).entries i e at).0;
  }

  -- ---- and the keeper has begun no record of its own

  module _ (idle : CanLook v.state) where
    no_set : (st : PassState) → CanLook st → (s p : ℕ) → HasSet shape st s p → ⊥
    no_set Idle can s p h = h
    no_set (Looked t) can s p h = h
    no_set (Inside t page sig m) can s p h = can
    no_set (Visiting t gate) can s p h = can

    no_count : (st : PassState) → CanLook st → (s : ℕ) → counts_in s st ≡ 0
    no_count Idle can s = refl
    no_count (Looked t) can s = refl
    no_count (Inside t page sig m) can s = absurd can
    no_count (Visiting t gate) can s = absurd can

    -- the marks in a slot are the keeper's too
    slot_alone : (page s p : ℕ) → Marked shape views page s p ↔ IsMarked shape v.entries page p
    slot_alone page s p = (
      (λ (j, u, at, x). ⊎_elim (λ h. (mine_alone page p).0 (j, u, at, h))
          (λ h. ⊎_elim (λ e. absurd (no_set v.state idle s p (subst (λ (y : View). HasSet shape y.state s p) e h))) (λ e. absurd (subst (λ (y : View). HasSet shape y.state s p) e h)) (which u j at u.role refl)) x),
      λ h. (id, v, there, inl h),
    )

    stands_alone : (s : ℕ) → s < 4 → HasPage (slot_at v.duties s).phase → (p : ℕ) → p < size shape → (page_bit shape words v.duties s p ≡ 1) ↔ IsMarked shape v.entries (slot_at v.duties s).page p
    stands_alone s near stands p small = let a = fits.slot_words s near stands p small in let b = slot_alone (slot_at v.duties s).page s p in ((λ x. b.0 (a.0 x)), (λ y. a.1 (b.1 y)))

    probed_alone : (i : ℕ) (x : Probed) → get_elem? v.duties.probes i ≡ some x → x.bit ≡ true → IsMarked shape v.entries x.page x.at
    probed_alone i x at one = let k = fits.probes i x at in ⊎_elim
        (λ c. (whole.collected x.page k.page_below c.0 x.at k.at_below).0 c.1)
        (λ (s, near, stands, is, bit). subst (λ (g : ℕ). IsMarked shape v.entries g x.at) is ((stands_alone s near stands x.at k.at_below).0 bit))
        (k.seen one)

    pub alone : IsAlone shape words v
    alone = record {
      whole = whole;
      standing = stands_alone;
      probed = probed_alone;
      nobody = λ s near. gate_counts shape words views v.duties v.entries fits s near ∙ none_counted shape words views id v there role fits s none_out (no_count v.state idle s);
    }

    -- of an Open or Sealed slot: each bit of its live words
    pub live_alone : (s : ℕ) → s < 4 → IsLive (slot_at v.duties s).phase → (p : ℕ) → p < size shape → (live_bit shape words s p ≡ 1) ↔ IsMarked shape v.entries (slot_at v.duties s).page p
    live_alone s near live p small = let e = page_bit_live shape words v.duties s p fits.slots near live in let a = stands_alone s near (stands (slot_at v.duties s).phase live) p small in ((λ x. a.0 (e ∙ x)), (λ y. sym e ∙ a.1 y))

pub met_whole : (shape : PageShape) (v : View) (at word : ℕ) → Met shape v at word → v.role ≡ Keeper → v.duties.out ≡ 0 → IsWhole shape v
met_whole shape v at word m role none_out = whole shape m.words m.views v m.rule m.id m.mine role none_out

pub met_alone : (shape : PageShape) (v : View) (at word : ℕ) (m : Met shape v at word) → v.role ≡ Keeper → v.duties.out ≡ 0 → CanLook v.state → IsAlone shape m.words v
met_alone shape v at word m role none_out idle = alone shape m.words m.views v m.rule m.id m.mine role none_out idle
