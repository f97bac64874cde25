-- The texts that are certificates, and the first fault of any other.
use Rattle.std.specs.Prelude.{ℕ, ◌≡◌, ◌≢◌, List, [], ◌∷◌, ◌++◌, length, true, false, replicate}
use Rattle.std.specs.declared.option.Option.{Option}
use Rattle.std.specs.declared.option.Option.TheVariants.{None, Some}
use Rattle.bloom_page.specs.Bits.{members_of}
use Rattle.line_text.specs.Language as first
use Rattle.line_text.specs.Language.{Grammar, Refusals, IsText}
use Rattle.line_text.specs.Text.{fields}
use Rattle.packet_signature.specs.declared.rows.Row.{Row}
use Rattle.reverse_flood.specs.declared.graphs.Node.{Node}
use Rattle.reverse_flood.specs.declared.graphs.Edge.{Edge}
use Rattle.spie_base.specs.declared.types.PageNo.{PageNo}
use Rattle.evidence_text.specs.declared.certificates.Certificate.{Certificate}
use Rattle.evidence_text.specs.declared.certificates.Link.{Link}
use Rattle.evidence_text.specs.declared.certificates.Named.{Named}
use Rattle.evidence_text.specs.declared.certificates.PageEvidence.{PageEvidence}
use Rattle.evidence_text.specs.declared.certificates.RouterPages.{RouterPages}
use Rattle.evidence_text.specs.declared.refused.CheckWhy.{CheckWhy}
use Rattle.evidence_text.specs.declared.refused.CheckWhy.TheVariants as why
use Rattle.evidence_text.specs.declared.refused.CheckFault.{CheckFault}
use Rattle.evidence_text.specs.declared.words.Word.{Word}
use Rattle.evidence_text.specs.Order.{stage_of, is_over, n_of, bounds_of, told_by, stands}
use Rattle.evidence_text.specs.Said.{Said, LinkLine, StartLine, RouterLine, PageLine, RowLine, NodeLine, EdgeLine, UnknownLine, ClearLine}
use Rattle.evidence_text.specs.Spelling.{Spells, word_text, arity}

-- ---- what lines say together

abbrev pub links_of : List Said → List Link
links_of [] = []
links_of (LinkLine link ∷ before) = links_of before ++ link ∷ []
links_of (_ ∷ before) = links_of before

-- what stands for the start until it is read
abbrev pub no_node : Node
no_node = record { router = record { number = 0 }; sig = record { bytes = replicate 28 0 } }

abbrev pub start_of : List Said → Node
start_of [] = no_node
start_of (StartLine start ∷ before) = start
start_of (_ ∷ before) = start_of before

abbrev pub with_last : {X : Type 0} → (X → X) → List X → List X
with_last f [] = []
with_last f (x ∷ []) = f x ∷ []
with_last f (x ∷ next ∷ more) = x ∷ with_last f (next ∷ more)

abbrev pub new_page : PageNo → (n : ℕ) → (words : List ℕ) → PageEvidence
new_page page n words = record { page = page; bits = record { n = n; members = members_of words }; rows = [] }

abbrev pub with_page : PageNo → (n : ℕ) → (words : List ℕ) → RouterPages → RouterPages
with_page page n words r = record r { pages = r.pages ++ new_page page n words ∷ [] }

abbrev pub with_row : Row → PageEvidence → PageEvidence
with_row row e = record e { rows = e.rows ++ row ∷ [] }

abbrev pub with_row_in : Row → RouterPages → RouterPages
with_row_in row r = record r { pages = with_last (with_row row) r.pages }

-- the bits of a position in a page, which its router says
abbrev pub size_in : Option ℕ → ℕ
size_in None = 6
size_in (Some n) = n

-- a page is its router's, the latest, and a row its page's
abbrev pub routers_of : List Said → List RouterPages
routers_of [] = []
routers_of (RouterLine shape missing ∷ before) = routers_of before ++ record { shape = shape; missing = missing; pages = [] } ∷ []
routers_of (PageLine page words ∷ before) = with_last (with_page page (size_in (n_of before)) words) (routers_of before)
routers_of (RowLine row ∷ before) = with_last (with_row_in row) (routers_of before)
routers_of (_ ∷ before) = routers_of before

abbrev pub nodes_of : List Said → List Named
nodes_of [] = []
nodes_of (NodeLine named ∷ before) = nodes_of before ++ named ∷ []
nodes_of (_ ∷ before) = nodes_of before

abbrev pub edges_of : List Said → List Edge
edges_of [] = []
edges_of (EdgeLine edge ∷ before) = edges_of before ++ edge ∷ []
edges_of (_ ∷ before) = edges_of before

abbrev pub unknown_of : List Said → List Node
unknown_of [] = []
unknown_of (UnknownLine node ∷ before) = unknown_of before ++ node ∷ []
unknown_of (_ ∷ before) = unknown_of before

abbrev pub clear_of : List Said → List Node
clear_of [] = []
clear_of (ClearLine node ∷ before) = clear_of before ++ node ∷ []
clear_of (_ ∷ before) = clear_of before

abbrev pub certificate_of : List Said → Certificate
certificate_of said = record {
  links = links_of said;
  start = start_of said;
  routers = routers_of said;
  nodes = nodes_of said;
  edges = edges_of said;
  unknown = unknown_of said;
  clear = clear_of said;
}

-- ---- the language

-- a line that says this, and may stand behind the lines before
pub record IsLine (before : List Said) (line : List ℕ) (said : Said) : Type 0 where
  pub spelled : Spells (bounds_of before) said (fields line)
  pub stands : stands (told_by before) said ≡ true

abbrev pub most_bytes : ℕ
most_bytes = 67108864

abbrev pub certificates : Grammar Said Certificate
certificates = record {
  IsLine = IsLine;
  is_over = λ said. is_over (stage_of said);
  value_of = certificate_of;
  most_bytes = most_bytes;
}

-- the text is the lines of a certificate, of which the last is `end`, and nothing stands behind it
abbrev pub IsCertificate : List ℕ → Certificate → Type 0
IsCertificate text c = IsText certificates text c

-- ---- faults

-- the first field is this word
abbrev pub HasWord : List (List ℕ) → Word → Type 0
HasWord fields w = (rest : List (List ℕ)) × (fields ≡ word_text w ∷ rest)

-- a word with another number of fields behind it than its form has
pub record IsMiscounted (fields : List (List ℕ)) : Type 0 where
  pub w : Word
  pub rest : List (List ℕ)
  pub are : fields ≡ word_text w ∷ rest
  pub other : length rest ≢ arity w

-- a word with the right number of fields, of which one is not of its form
pub record IsMisformed (before : List Said) (fields : List (List ℕ)) : Type 0 where
  pub w : Word
  pub rest : List (List ℕ)
  pub are : fields ≡ word_text w ∷ rest
  pub count : length rest ≡ arity w
  pub nothing : (said : Said) → Spells (bounds_of before) said fields → ⊥

-- a line of its form that may not stand here
pub record IsMisplaced (before : List Said) (fields : List (List ℕ)) : Type 0 where
  pub said : Said
  pub spelled : Spells (bounds_of before) said fields
  pub misplaced : stands (told_by before) said ≡ false

-- the first rule that a line with a line end breaks, behind lines of which none is `end`
abbrev pub IsBad : List Said → List ℕ → CheckWhy → Type 0
IsBad before line why.Word = (w : Word) → HasWord (fields line) w → ⊥
IsBad before line why.Fields = IsMiscounted (fields line)
IsBad before line why.Field = IsMisformed before (fields line)
IsBad before line why.Order = IsMisplaced before (fields line)
IsBad before line _ = ⊥

abbrev pub refusals : Refusals Said CheckWhy CheckFault
refusals = record {
  IsBad = IsBad;
  too_long = why.TooLong;
  after = why.After;
  ending = why.Ending;
  fault_at = λ line rule. record { line = line; why = rule };
}

-- a text with more bytes than a certificate may have, or with a first faulty line
abbrev pub IsFault : List ℕ → CheckFault → Type 0
IsFault text fault = first.IsFault certificates refusals text fault
