-- The text of an item is cut into its fields, which are the item.
use Rattle.std.proofs.Common.{◌≡◌, ℕ, List, [], ◌∷◌, ◌++◌, sym, ap, ◌∙◌}
use Rattle.std.proofs.lemmas.List.{append_cancel_right, map-id}
use Rattle.std.specs.List.{flat_map}
use Rattle.topology.specs.Layout.{IsEachOnce}
use Rattle.report_text.specs.declared.items.Item.{Item}
use Rattle.report_text.specs.Laws.{HasNoSpaces, IsWritable, SameTextSameItem}
use Rattle.line_text.specs.Writing.{spaced}
use Rattle.report_text.specs.Report.{IsPrintable}
use Rattle.report_text.proofs.Pieces.{parts, parts_joined}
use Rattle.report_text.proofs.Numbers.{number_of}
use Rattle.report_text.proofs.ItemFields.{front_of, fields_of, text_is}
use Rattle.report_text.proofs.Spaces.{front_solid, fields_solid}
use Rattle.report_text.proofs.Decoding.{item_of, item_back}

-- an item's line without its line feed
abbrev body : List (List ℕ) → Item → List ℕ
body names x = front_of x ++ flat_map spaced (fields_of names x)

-- the item of such a line
abbrev item_in : List (List ℕ) → List (List ℕ) → Item
item_in names [] = item_of names 0 []
item_in names (front ∷ fields) = item_of names (number_of front) fields

body_parts : (names : List (List ℕ)) (x : Item) → HasNoSpaces names → IsPrintable names x → IsWritable x → parts 32 (body names x) ≡ front_of x ∷ fields_of names x
body_parts names x none named writable =
    parts_joined 32 (λ field. field) (front_of x) (fields_of names x) (front_solid x writable) (fields_solid names x none named writable)
    ∙ ap (λ fields. front_of x ∷ fields) (map-id (fields_of names x))

read_back : (names : List (List ℕ)) (x : Item) → IsEachOnce names → HasNoSpaces names → IsPrintable names x → IsWritable x → item_in names (parts 32 (body names x)) ≡ x
read_back names x once none named writable = ap (item_in names) (body_parts names x none named writable) ∙ item_back names x once named writable

pub same_text : SameTextSameItem
same_text names x y once none named_x named_y writable_x writable_y same =
    let bodies = append_cancel_right (body names x) (body names y) (10 ∷ []) (sym (text_is names x) ∙ same ∙ text_is names y) in
    sym (read_back names x once none named_x writable_x) ∙ ap (λ text. item_in names (parts 32 text)) bodies ∙ read_back names y once none named_y writable_y
