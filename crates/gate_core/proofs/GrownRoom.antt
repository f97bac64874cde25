-- More room keeps what holds of the data, and all that is seen of it but the room.
use Rattle.std.proofs.Common.{◌≡◌, ℕ, suc, ◌+◌, ◌-◌, ◌*◌, ◌<◌, ◌≤◌, List, [], ◌∷◌, length, get_or, map, sym, refl, ap, ◌∙◌, subst, arith}
use Rattle.std.specs.Prelude.{Vec, slice_get, Some, All}
use Rattle.std.specs.declared.alloc.Global.{Global}
use Rattle.hash_family.specs.Positions.{family_of}
use Rattle.std.proofs.Math.Nat.{suc-mul}
use Rattle.spie_base.specs.declared.types.Entry.{Entry}
use Rattle.gate_core.specs.declared.states.SlotPhase.{SlotPhase}
use Rattle.gate_core.specs.declared.states.SlotPhase.TheVariants.{Free, Open, Sealed, Quiet}
use Rattle.gate_core.specs.declared.core_data.CoreData.{CoreData}
use Rattle.gate_core.specs.declared.core_data.Desk.{Desk}
use Rattle.gate_core.specs.declared.core_data.Log.{Log}
use Rattle.gate_core.specs.Marks.{width}
use Rattle.gate_core.specs.Views.{Visit, Slot, no_slot, Duties, slot_at}
use Rattle.gate_core.specs.Invariant.{taken, PlaneInvariant}
use Rattle.gate_core.specs.Kept.{Notes, notes_of, duties_of, views_from, views_of, core_of, paid, paid_by, HasLogRoom, HasDeskRoom}
use Rattle.gate_core.specs.Sound.{IsSound, IsSameDesk, HasLists}
use Rattle.gate_core.proofs.KeeperSteps.{desk_fits}

same_duties : (desk desk' : Desk) (passes : ℕ) → IsSameDesk desk desk' → duties_of desk' passes ≡ duties_of desk passes
same_duties desk desk' passes same = let e = same.slots in let f = same.next in let g = same.pointed in let h = ap (map (λ (v : Vec ℕ Global). v.items)) same.collected in let i = same.probes in let j = same.noted in let k = same.noted_with in cc

abbrev pub with_room : CoreData → Log Entry → Log Visit → Desk → ℕ → CoreData
with_room m entries visits desk room = record m { desk = desk; entries = entries; visits = visits; room = room }

module _ (m : CoreData) (entries : Log Entry) (visits : Log Visit) (desk : Desk) (room : ℕ)
    (items : entries.items.items ≡ m.entries.items.items) (places : entries.places.items ≡ m.entries.places.items)
    (looks : visits.items.items ≡ m.visits.items.items) (visitors : visits.places.items ≡ m.visits.places.items) (same : IsSameDesk m.desk desk) where
  abbrev m' : CoreData
  m' = with_room m entries visits desk room

  same_notes : notes_of m' ≡ notes_of m
  same_notes = let e = same_duties m.desk desk (length m.seats.items - 1) same in cc

  same_views : views_of m' ≡ views_of m
  same_views = ap (λ (n : Notes). views_from n 0 m.seats.items) same_notes

  -- all else is seen as it was
  pub grown_core : core_of m' ≡ record (core_of m) { room = room }
  grown_core = let e = same_views in cc

  pub grown_sound : IsSound m → HasLogRoom entries room → HasLogRoom visits room → HasDeskRoom (width m.shape) desk room → IsSound m'
  grown_sound sound a b c = let h = sound.holds in record {
    holds = record {
      some_seat = h.some_seat;
      plane = subst (PlaneInvariant m.shape m.words.items) (sym same_views) h.plane;
      entries = a;
      visits = b;
      desk = c;
      marks = h.marks;
      families = λ s near. ap (λ fs. slice_get fs s) same.families ∙ (h.families s near ∙ ap (λ (d : Duties). Some (family_of m.shape (slot_at d s).page)) (sym (same_duties m.desk desk 0 same)));
    };
    finishers = subst (λ (ps : List ℕ). All (λ (place : ℕ). place < length m.seats.items) ps) (sym places) sound.finishers;
  }

-- ---- a slot is paid no more than a page

paid_phase : (wide : ℕ) (ph : SlotPhase) → taken ph < wide → paid wide ph ≤ wide
paid_phase wide Free lt = omega arith
paid_phase wide Open lt = omega arith
paid_phase wide Sealed lt = omega arith
paid_phase wide (Quiet next) lt = omega arith

paid_slots : (wide : ℕ) (xs : List Slot) → ((i : ℕ) → i < length xs → taken (get_or xs i no_slot).phase < wide) → paid_by wide xs ≤ length xs * wide
paid_slots wide [] short = omega arith
paid_slots wide (x ∷ xs) short =
    let a : paid wide x.phase ≤ wide = paid_phase wide x.phase (short 0 (let g : 0 < suc (length xs) = omega arith in g)) in
    let b : paid_by wide xs ≤ length xs * wide = paid_slots wide xs (λ i lt. short (suc i) (let g : suc i < suc (length xs) = omega arith in g)) in
    let c : suc (length xs) * wide ≡ length xs * wide + wide = suc-mul (length xs) wide in omega arith

pub paid_most : (m : CoreData) → IsSound m → paid_by (width m.shape) m.desk.slots ≤ 4 * width m.shape
paid_most m sound = let f = (desk_fits m sound.holds).slots in
    let four : length m.desk.slots ≡ 4 = f.four in
    let most : paid_by (width m.shape) m.desk.slots ≤ length m.desk.slots * width m.shape = paid_slots (width m.shape) m.desk.slots (λ i lt. f.taken_short i (let g : i < 4 = omega arith in g)) in
    subst (λ (n : ℕ). paid_by (width m.shape) m.desk.slots ≤ n * width m.shape) four most

pub same_desk : (desk : Desk) → IsSameDesk desk desk
same_desk desk = record { slots = refl; families = refl; next = refl; pointed = refl; collected = refl; probes = refl; noted = refl; noted_with = refl }

-- the lists of a desk that has room
pub lists_of : (wide : ℕ) (desk : Desk) (room : ℕ) → HasDeskRoom wide desk room → HasLists wide desk
lists_of wide desk room h = record { pages = h.pages; spare_words = h.spare_words; page_words = h.page_words }
