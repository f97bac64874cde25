-- What holds of the texts of all items.
use Rattle.std.specs.Prelude.{ℕ, ◌<◌, ◌^◌, ◌≡◌, ◌≢◌, List, All, Some, None}
use Rattle.std.specs.declared.option.Option.{Option}
use Rattle.hex.specs.Hex.{IsBytes}
use Rattle.spie_base.specs.declared.PageNo.{PageNo}
use Rattle.spie_base.specs.declared.PageRange.{PageRange}
use Rattle.topology.specs.Layout.{IsEachOnce}
use Rattle.reverse_flood.specs.declared.Node.{Node}
use Rattle.report_text.specs.declared.items.Bad.{Bad}
use Rattle.report_text.specs.declared.items.Item.{Item}
use Rattle.report_text.specs.declared.items.Item.TheVariants.{Head, Entered, Opened, Archived, Seen, NotSeen, Unknown, Tick, Closed, Left, Query, Pages, NodeLine, EdgeLine, UnknownLine, Answer, End}
use Rattle.report_text.specs.Report.{item_text, IsPrintable}

-- no name has a space
abbrev pub HasNoSpaces : List (List ℕ) → Type 0
HasNoSpaces names = All (λ name. All (λ byte. byte ≢ 32) name) names

-- a number of at most 64 bits
abbrev pub IsCount : ℕ → Type 0
IsCount n = n < 2 ^ 64

abbrev pub IsPage : PageNo → Type 0
IsPage page = IsCount page.number

abbrev pub IsBad : Bad → Type 0
IsBad bad = IsPage bad.page

abbrev pub IsPages : Option PageRange → Type 0
IsPages None = Unit {0}
IsPages (Some range) = IsPage range.first × IsPage range.last

-- the signature is made of bytes
abbrev pub IsPair : Node → Type 0
IsPair node = IsBytes node.sig.bytes

-- an item's numbers and bytes are such as its fields may have
abbrev pub IsWritable : Item → Type 0
IsWritable Head = Unit {0}
IsWritable (Entered line page) = IsCount line × IsPage page
IsWritable (Opened line page) = IsCount line × IsPage page
IsWritable (Archived line router put kept) = IsCount line × All IsPage put × All IsPage kept
IsWritable (Seen line) = IsCount line
IsWritable (NotSeen line) = IsCount line
IsWritable (Unknown line) = IsCount line
IsWritable (Tick line time) = IsCount line × IsCount time
IsWritable (Closed line router page bits) = IsCount line × IsPage page × IsCount bits
IsWritable (Left line router page) = IsCount line × IsPage page
IsWritable (Query line) = IsCount line
IsWritable (Pages line router expired unreadable used) = IsCount line × IsPages expired × All IsBad unreadable × All IsPage used
IsWritable (NodeLine line node) = IsCount line × IsPair node
IsWritable (EdgeLine line edge) = IsCount line × IsPair edge.down × IsPair edge.up
IsWritable (UnknownLine line node) = IsCount line × IsPair node
IsWritable (Answer line nodes edges unknown clear) = IsCount line × IsCount nodes × IsCount edges × IsCount unknown × IsCount clear
IsWritable (End line) = IsCount line

-- items of the same routers with the same text are equal
abbrev pub SameTextSameItem : Type 0
SameTextSameItem = (names : List (List ℕ)) (x y : Item) → IsEachOnce names → HasNoSpaces names → IsPrintable names x → IsPrintable names y → IsWritable x → IsWritable y → item_text names x ≡ item_text names y → x ≡ y
