-- The fields of an item's line.
use Rattle.std.proofs.Common.{◌≡◌, ℕ, List, [], ◌∷◌, ◌++◌, refl}
use Rattle.std.specs.Prelude.{codes}
use Rattle.std.specs.Fmt.{decimal}
use Rattle.std.specs.List.{flat_map}
use Rattle.report_text.specs.declared.items.Item.{Item}
use Rattle.report_text.specs.declared.items.Item.TheVariants.{Head, Entered, Opened, Archived, Seen, NotSeen, Unknown, Tick, Closed, Left, Query, Pages, NodeLine, EdgeLine, UnknownLine, Answer, End}
use Rattle.line_text.specs.Writing.{spaced}
use Rattle.report_text.specs.Report.{item_text, name_of, page_text, pages_text, range_text, bad_text, pair}

-- the text before the first space of an item's line
abbrev pub front_of : Item → List ℕ
front_of Head = codes "spie-report"
front_of (Entered line page) = decimal line
front_of (Opened line page) = decimal line
front_of (Archived line router put kept) = decimal line
front_of (Seen line) = decimal line
front_of (NotSeen line) = decimal line
front_of (Unknown line) = decimal line
front_of (Tick line time) = decimal line
front_of (Closed line router page bits) = decimal line
front_of (Left line router page) = decimal line
front_of (Query line) = decimal line
front_of (Pages line router expired unreadable used) = decimal line
front_of (NodeLine line node) = decimal line
front_of (EdgeLine line edge) = decimal line
front_of (UnknownLine line node) = decimal line
front_of (Answer line nodes edges unknown clear) = decimal line
front_of (End line) = decimal line

-- the fields behind it
abbrev pub fields_of : List (List ℕ) → Item → List (List ℕ)
fields_of names Head = codes "1" ∷ []
fields_of names (Entered line page) = codes "in" ∷ page_text page ∷ []
fields_of names (Opened line page) = codes "opened" ∷ page_text page ∷ []
fields_of names (Archived line router put kept) = codes "archived" ∷ name_of names router ∷ codes "put" ∷ pages_text put ∷ codes "kept" ∷ pages_text kept ∷ []
fields_of names (Seen line) = codes "seen" ∷ []
fields_of names (NotSeen line) = codes "not-seen" ∷ []
fields_of names (Unknown line) = codes "unknown" ∷ []
fields_of names (Tick line time) = codes "tick" ∷ decimal time ∷ []
fields_of names (Closed line router page bits) = codes "closed" ∷ name_of names router ∷ page_text page ∷ decimal bits ∷ []
fields_of names (Left line router page) = codes "left" ∷ name_of names router ∷ page_text page ∷ []
fields_of names (Query line) = codes "query" ∷ []
fields_of names (Pages line router expired unreadable used) = codes "pages" ∷ name_of names router ∷ codes "expired" ∷ range_text expired ∷ codes "unreadable" ∷ bad_text unreadable ∷ codes "used" ∷ pages_text used ∷ []
fields_of names (NodeLine line node) = codes "node" ∷ pair names node
fields_of names (EdgeLine line edge) = codes "edge" ∷ pair names edge.down ++ pair names edge.up
fields_of names (UnknownLine line node) = codes "unknown" ∷ pair names node
fields_of names (Answer line nodes edges unknown clear) = codes "answer" ∷ codes "nodes" ∷ decimal nodes ∷ codes "edges" ∷ decimal edges ∷ codes "unknown" ∷ decimal unknown ∷ codes "clear" ∷ decimal clear ∷ []
fields_of names (End line) = codes "end" ∷ []

-- a line is its front, its fields and a line feed
pub text_is : (names : List (List ℕ)) (x : Item) → item_text names x ≡ front_of x ++ flat_map spaced (fields_of names x) ++ 10 ∷ []
unfolding item_text
text_is names Head = refl
text_is names (Entered line page) = refl
text_is names (Opened line page) = refl
text_is names (Archived line router put kept) = refl
text_is names (Seen line) = refl
text_is names (NotSeen line) = refl
text_is names (Unknown line) = refl
text_is names (Tick line time) = refl
text_is names (Closed line router page bits) = refl
text_is names (Left line router page) = refl
text_is names (Query line) = refl
text_is names (Pages line router expired unreadable used) = refl
text_is names (NodeLine line node) = refl
text_is names (EdgeLine line edge) = refl
text_is names (UnknownLine line node) = refl
text_is names (Answer line nodes edges unknown clear) = refl
text_is names (End line) = refl
