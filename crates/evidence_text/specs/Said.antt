-- What a line of a certificate says.
use Rattle.std.specs.Prelude.{ℕ, List, Bool}
use Rattle.spie_base.specs.declared.types.PageNo.{PageNo}
use Rattle.spie_base.specs.declared.types.PageShape.{PageShape}
use Rattle.packet_signature.specs.declared.rows.Row.{Row}
use Rattle.reverse_flood.specs.declared.graphs.Node.{Node}
use Rattle.reverse_flood.specs.declared.graphs.Edge.{Edge}
use Rattle.evidence_text.specs.declared.certificates.Link.{Link}
use Rattle.evidence_text.specs.declared.certificates.Named.{Named}
use Rattle.evidence_text.specs.declared.words.Word.{Word}

pub data Said : Type 0 where
  VersionLine : Said
  RoutersLine : (count : ℕ) → Said
  LinkLine : (link : Link) → Said
  StartLine : (start : Node) → Said
  RouterLine : (shape : PageShape) (missing : Bool) → Said
  PageLine : (page : PageNo) (words : List ℕ) → Said
  RowLine : (row : Row) → Said
  NodeLine : (named : Named) → Said
  EdgeLine : (edge : Edge) → Said
  UnknownLine : (node : Node) → Said
  ClearLine : (node : Node) → Said
  EndLine : Said
  -- a line about routers before it is said how many there are, or about a page before any router. Its fields are of their
  -- form, and it stands nowhere, so nothing is kept of what they say
  EarlyLine : (w : Word) (rest : List (List ℕ)) → Said
