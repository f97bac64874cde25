-- What follows for the machine from what holds of its data.
use Rattle.std.proofs.Common.{◌≡◌, ℕ, ◌<◌, ◌≤◌, List, [], ◌++◌, length, map, get_or, sym, ap, ◌∙◌, subst, ⊎_elim, arith}
use Rattle.std.specs.Prelude.{Vec, Option, option_map, position}
use Rattle.std.specs.declared.alloc.Global.{Global}
use Rattle.std.proofs.lemmas.Bool.{cases_lt}
use Rattle.std.proofs.lemmas.List.{get_or-map, get_or_past, length-map}
use Rattle.gate_core.specs.declared.core_data.CoreData.{CoreData}
use Rattle.gate_core.specs.Marks.{width}
use Rattle.gate_core.specs.Views.{Slot, no_slot, Duties, View, slot_at, collected_of}
use Rattle.gate_core.specs.Acts.{page_of, gate_place}
use Rattle.gate_core.specs.Invariant.{in_slot, total, seal_bit, IsCollected}
use Rattle.gate_core.specs.Core.{view_at, items_at, IsLogged}
use Rattle.gate_core.specs.Core as core
use Rattle.gate_core.specs.Sound.{IsSound}
use Rattle.gate_core.specs.PageWords.{stands_with, slot_with, phase_with, live_from, page_words}
use Rattle.gate_core.specs.Kept.{notes_of, views_of, core_of, Holds}
use Rattle.gate_core.proofs.Members.{item_at}
use Rattle.gate_core.proofs.Gates.{gate_page, sealed_two}
use Rattle.gate_core.proofs.Inside.{crowd}
use Rattle.gate_core.proofs.KeptViews.{length-views_from}
use Rattle.gate_core.proofs.MachineSteps.{view_is}
use Rattle.gate_core.proofs.KeeperSteps.{has_seat, desk_duties, own_entries, desk_fits}

-- the keeper's duties, as the machine's value has them
pub duties_is : (m : CoreData) → Holds m → core.duties_of (core_of m) ≡ desk_duties m
duties_is m h = let s = has_seat m.seats.items h.some_seat in ap (λ (v : View). v.duties) (view_is m 0 s.seat s.there)

abbrev words_in : Vec ℕ Global → List ℕ
words_in v = v.items

-- the collected words of a page, as the desk has them
module _ (m : CoreData) (h : Holds m) (xs : List (Vec ℕ Global)) (are : xs ≡ m.desk.collected.items) (page : ℕ) where
  collected_is : collected_of (core.duties_of (core_of m)) page ≡ get_or (map words_in xs) page []
  collected_is = ap (λ (d : Duties). collected_of d page) (duties_is m h) ∙ ap (λ (l : List (Vec ℕ Global)). get_or (map words_in l) page []) (sym are)

  pub collected_at : (v : Vec ℕ Global) → page < length xs → v ≡ get_or xs page v → v.items ≡ collected_of (core.duties_of (core_of m)) page
  collected_at v below is = ap words_in is ∙ sym (collected_is ∙ get_or-map words_in xs page v [] below)

  pub collected_past : length xs ≤ page → [] ≡ collected_of (core.duties_of (core_of m)) page
  collected_past past = sym (collected_is ∙ get_or_past (map words_in xs) page [] (let e : length (map words_in xs) ≡ length xs = length-map xs words_in in omega arith))

module _ (m : CoreData) (h : Holds m) where
  -- the keeper's page of a slot stands in the slot's gate
  pub gate_is : (s : ℕ) → s < 4 → page_of (get_or m.words.items (gate_place s) 0) ≡ (slot_at (core.duties_of (core_of m)) s).page
  gate_is s near = let f = desk_fits m h in let d = desk_duties m in
      let few = crowd m.shape m.words.items (views_of m) d (own_entries m) f s in
      gate_page (total (in_slot s) (views_of m)) (seal_bit (slot_at d s).phase) (slot_at d s).page (get_or m.words.items (gate_place s) 0) (let g : total (in_slot s) (views_of m) < 65536 = omega arith in g) (sealed_two (slot_at d s).phase) (f.gates s near)
      ∙ ap (λ (e : Duties). (slot_at e s).page) (sym (duties_is m h))

  pub slots_are : (core.duties_of (core_of m)).slots ≡ m.desk.slots
  slots_are = ap (λ (d : Duties). d.slots) (duties_is m h)

  -- a page has no more words than a slot
  pub taken_most : (page : ℕ) → length (collected_of (core.duties_of (core_of m)) page) ≤ width m.shape
  taken_most page = let f = desk_fits m h in let d : Duties = desk_duties m in subst (λ (e : Duties). length (collected_of e page) ≤ width m.shape) (sym (duties_is m h))
      (⊎_elim
      (λ below. ⊎_elim (λ (e : IsCollected m.shape d page). let g : length (collected_of d page) ≤ width m.shape = omega arith in g)
      (λ (s, near, stands, is). let t = f.slots.taken_words s near stands in let short = f.slots.taken_short s near in
      subst (λ (p : ℕ). length (collected_of d p) ≤ width m.shape) is (omega arith)) (f.slots.placed page below))
      (λ past. let one : length d.collected ≡ d.next = f.slots.one_list in let none : collected_of d page ≡ [] = get_or_past d.collected page [] (omega arith) in let z : length (collected_of d page) ≡ 0 = ap length none in omega arith) (cases_lt page d.next))

  -- the words of a page, from their two parts
  pub page_words_are : (page : ℕ) (taken live : List ℕ) (slot : Option ℕ) → taken ≡ collected_of (core.duties_of (core_of m)) page → slot ≡ position (stands_with page) m.desk.slots → live ≡ live_from (core_of m) slot (length taken)
      → taken ++ live ≡ page_words (core_of m) page
  page_words_are page taken live slot t s l =
      ap (λ (ws : List ℕ). taken ++ ws) (l ∙ ap (λ (o : Option ℕ). live_from (core_of m) o (length taken)) (s ∙ ap (position (stands_with page)) (sym slots_are)))
      ∙ ap (λ (ws : List ℕ). ws ++ live_from (core_of m) (slot_with (core_of m) page) (length ws)) t

-- the phase of the slot in which a page stands
pub phase_is : (m : CoreData) → Holds m → (page : ℕ) (slot : Option ℕ) → slot ≡ position (stands_with page) m.desk.slots → option_map (λ s. (get_or m.desk.slots s no_slot).phase) slot ≡ phase_with (core_of m) page
phase_is m h page slot e =
    let slots = slots_are m h in
    ap (λ (o : Option ℕ). option_map (λ s. (get_or m.desk.slots s no_slot).phase) o) (e ∙ ap (position (stands_with page)) (sym slots))
    ∙ ap (λ (xs : List Slot). option_map (λ s. (get_or xs s no_slot).phase) (slot_with (core_of m) page)) (sym slots)

-- an actor that has a view has a seat
pub seated : (m : CoreData) (place : ℕ) → place < length (views_of m) → place < length m.seats.items
seated m place h = let e = length-views_from (notes_of m) 0 m.seats.items in omega arith

pub next_is : (m : CoreData) → Holds m → (core.duties_of (core_of m)).next ≡ m.desk.next
next_is m h = ap (λ (d : Duties). d.next) (duties_is m h)

-- the entries are those of the views
pub is_logged : (m : CoreData) → IsSound m → IsLogged (core_of m)
is_logged m sound = let seats = length-views_from (notes_of m) 0 m.seats.items in record {
  each = sound.holds.entries.each;
  whose = λ k d lt. let a = sound.finishers k d lt in omega arith;
  mine = λ place below. let (x, there) = item_at m.seats.items place (omega arith) in ap (λ (v : View). v.entries) (view_is m place x there);
}
