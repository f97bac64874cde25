-- What an act that the keeper or a pass did tells of the words, from the moment at which it was done.
use Rattle.std.proofs.Common.{◌≡◌, ℕ, ◌/◌, ◌%◌, ◌<◌, ◌↔◌, sym, ap, ◌∙◌, arith}
use Rattle.std.specs.Int.{bit_at}
use Rattle.spie_base.specs.declared.PageShape.{PageShape}
use Rattle.hash_family.specs.Entries.{IsMarked}
use Rattle.gate_core.specs.Marks.{size}
use Rattle.gate_core.specs.Views.{Pass, Keeper, View, slot_at}
use Rattle.gate_core.specs.Acts.{seal_of, page_of, gate_place, bit_place, CanLook}
use Rattle.gate_core.specs.Invariant.{total, in_slot, seal_bit, live_bit, IsLive, IsRising, PlaneFits, Met}
use Rattle.gate_core.proofs.Duty.{keeper_fits}
use Rattle.gate_core.proofs.Gates.{gate_seal, gate_page, sealed_two}
use Rattle.gate_core.proofs.Inside.{crowd}
use Rattle.gate_core.proofs.Alone.{live_alone}

-- the pages of a pass rise
pub rises : (shape : PageShape) (v : View) (at word : ℕ) → Met shape v at word → v.role ≡ Pass → IsRising v.floor v.entries
rises shape v at word m role = let k = m.rule.fits.actors m.id v m.mine in record { ordered = k.ordered role; from_floor = λ i e there. (k.entries i e there).1 }

module _ (shape : PageShape) (v : View) (role : v.role ≡ Keeper) where
  -- the words and the views fit what the keeper knows
  pub met_fits : (at word : ℕ) (m : Met shape v at word) → PlaneFits shape m.words m.views v.duties v.entries
  met_fits at word m = keeper_fits shape m.words m.views m.rule m.id v m.mine role

  -- its look finds the slot at which it pointed
  pub looks_at_pointed : (n : ℕ) → Met shape v 0 n → n ≡ v.duties.pointed
  looks_at_pointed n m = sym m.reads ∙ (met_fits 0 n m).current_slot

  -- a gate that it reads has the seal and the page of its slot
  pub gate_met : (s n : ℕ) → Met shape v (gate_place s) n → s < 4 → (seal_of n ≡ seal_bit (slot_at v.duties s).phase) × (page_of n ≡ (slot_at v.duties s).page)
  gate_met s n m near =
      let f = met_fits (gate_place s) n m in
      let c = crowd shape m.words m.views v.duties v.entries f s in
      let few : total (in_slot s) m.views < 65536 = omega arith in
      let is = sym m.reads ∙ f.gates s near in
      let ph = (slot_at v.duties s).phase in (
        gate_seal (total (in_slot s) m.views) (seal_bit ph) (slot_at v.duties s).page n few (sealed_two ph) is,
        gate_page (total (in_slot s) m.views) (seal_bit ph) (slot_at v.duties s).page n few (sealed_two ph) is,
      )

  -- with no pass out, a bit of an Open or Sealed slot is a mark of its entries
  pub bit_met : (s p n : ℕ) → v.duties.out ≡ 0 → CanLook v.state → s < 4 → IsLive (slot_at v.duties s).phase → p < size shape → Met shape v (bit_place shape s (p / 64)) n → (bit_at n (p % 64) ≡ 1) ↔ IsMarked shape v.entries (slot_at v.duties s).page p
  bit_met s p n none_out idle near live small m =
      let e : live_bit shape m.words s p ≡ bit_at n (p % 64) = ap (λ (x : ℕ). bit_at x (p % 64)) m.reads in
      let a = live_alone shape m.words m.views v m.rule m.id m.mine role none_out idle s near live p small in
      ((λ x. a.0 (e ∙ x)), (λ y. sym e ∙ a.1 y))
