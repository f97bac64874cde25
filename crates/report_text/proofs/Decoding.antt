-- The item that the fields of a line are.
use Rattle.std.proofs.Common.{◌≡◌, ℕ, List, [], ◌∷◌, cond, ◌==◌, refl}
use Rattle.topology.specs.Layout.{IsEachOnce}
use Rattle.report_text.specs.declared.items.Item.{Item}
use Rattle.report_text.specs.declared.items.Item.TheVariants.{Head, Entered, Opened, Archived, Seen, NotSeen, Unknown, Tick, Closed, Left, Query, Pages, NodeLine, EdgeLine, UnknownLine, Answer, End}
use Rattle.report_text.specs.Laws.{IsWritable}
use Rattle.report_text.specs.Report.{IsPrintable}
use Rattle.report_text.proofs.Numbers.{number_of, number_back}
use Rattle.report_text.proofs.PageFields.{page_of, page_back, range_of, range_back, bad_of}
use Rattle.report_text.proofs.PairFields.{router_of, router_back, node_of, node_back}
use Rattle.report_text.proofs.Lists.{list_of, pages_back, bads_back}
use Rattle.report_text.proofs.ItemFields.{front_of, fields_of}

-- the first byte of a word
abbrev initial : List ℕ → ℕ
initial [] = 0
initial (b ∷ bs) = b

abbrev of_word : ℕ → ℕ → Item
of_word line b =
    cond (b == 115) (Seen line) (cond (b == 110) (NotSeen line) (cond (b == 117) (Unknown line) (cond (b == 113) (Query line) (cond (b == 101) (End line) Head))))

abbrev of_count : ℕ → ℕ → List ℕ → Item
of_count line b text = cond (b == 116) (Tick line (number_of text)) (cond (b == 105) (Entered line (page_of text)) (Opened line (page_of text)))

abbrev of_pair : List (List ℕ) → ℕ → ℕ → List ℕ → List ℕ → Item
of_pair names line b name text =
    cond (b == 108) (Left line (router_of names name) (page_of text)) (cond (b == 110) (NodeLine line (node_of names name text)) (UnknownLine line (node_of names name text)))

-- the item of a number and the fields behind it, which their number and the first byte tell
abbrev pub item_of : List (List ℕ) → ℕ → List (List ℕ) → Item
item_of names line [] = Head
item_of names line (word ∷ []) = of_word line (initial word)
item_of names line (word ∷ a ∷ []) = of_count line (initial word) a
item_of names line (word ∷ a ∷ b ∷ []) = of_pair names line (initial word) a b
item_of names line (word ∷ a ∷ b ∷ c ∷ []) = Closed line (router_of names a) (page_of b) (number_of c)
item_of names line (word ∷ a ∷ b ∷ c ∷ d ∷ []) = EdgeLine line (record { down = node_of names a b; up = node_of names c d })
item_of names line (word ∷ a ∷ b ∷ c ∷ d ∷ e ∷ []) = Archived line (router_of names a) (list_of page_of c) (list_of page_of e)
item_of names line (word ∷ a ∷ b ∷ c ∷ d ∷ e ∷ f ∷ []) = Head
item_of names line (word ∷ a ∷ b ∷ c ∷ d ∷ e ∷ f ∷ g ∷ []) = Pages line (router_of names a) (range_of c) (list_of bad_of e) (list_of page_of g)
item_of names line (word ∷ a ∷ b ∷ c ∷ d ∷ e ∷ f ∷ g ∷ h ∷ more) = Answer line (number_of b) (number_of d) (number_of f) (number_of h)

pub item_back : (names : List (List ℕ)) (x : Item) → IsEachOnce names → IsPrintable names x → IsWritable x → item_of names (number_of (front_of x)) (fields_of names x) ≡ x
item_back names Head once named w = refl
item_back names (Entered line page) once named w = λ i. Entered (number_back line w.0 i) (page_back page w.1 i)
item_back names (Opened line page) once named w = λ i. Opened (number_back line w.0 i) (page_back page w.1 i)
item_back names (Archived line router put kept) once named w =
    λ i. Archived (number_back line w.0 i) (router_back names router once named i) (pages_back put w.1 i) (pages_back kept w.2 i)
item_back names (Seen line) once named w = λ i. Seen (number_back line w i)
item_back names (NotSeen line) once named w = λ i. NotSeen (number_back line w i)
item_back names (Unknown line) once named w = λ i. Unknown (number_back line w i)
item_back names (Tick line time) once named w = λ i. Tick (number_back line w.0 i) (number_back time w.1 i)
item_back names (Closed line router page bits) once named w =
    λ i. Closed (number_back line w.0 i) (router_back names router once named i) (page_back page w.1 i) (number_back bits w.2 i)
item_back names (Left line router page) once named w = λ i. Left (number_back line w.0 i) (router_back names router once named i) (page_back page w.1 i)
item_back names (Query line) once named w = λ i. Query (number_back line w i)
item_back names (Pages line router expired unreadable used) once named w =
    λ i. Pages (number_back line w.0 i) (router_back names router once named i) (range_back expired w.1 i) (bads_back unreadable w.2 i) (pages_back used w.3 i)
item_back names (NodeLine line node) once named w = λ i. NodeLine (number_back line w.0 i) (node_back names node once named w.1 i)
item_back names (EdgeLine line edge) once named w =
    λ i. EdgeLine (number_back line w.0 i) (record { down = node_back names edge.down once named.0 w.1 i; up = node_back names edge.up once named.1 w.2 i })
item_back names (UnknownLine line node) once named w = λ i. UnknownLine (number_back line w.0 i) (node_back names node once named w.1 i)
item_back names (Answer line nodes edges unknown clear) once named w =
    λ i. Answer (number_back line w.0 i) (number_back nodes w.1 i) (number_back edges w.2 i) (number_back unknown w.3 i) (number_back clear w.4 i)
item_back names (End line) once named w = λ i. End (number_back line w i)
