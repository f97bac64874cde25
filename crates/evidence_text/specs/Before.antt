-- What the reader keeps of the lines before. No public clause cites this module.
use Rattle.std.specs.Prelude.{ℕ, ◌≤◌, List}
use Rattle.std.specs.declared.option.Option.{Option}
use Rattle.std.specs.declared.option.Option.TheVariants.{None, Some}
use Rattle.line_text.specs.Language.{how_many}
use Rattle.reverse_flood.specs.declared.graphs.Node.{Node}
use Rattle.reverse_flood.specs.declared.graphs.Edge.{Edge}
use Rattle.spie_base.specs.declared.types.TheConstants.{N_LEAST, N_MOST}
use Rattle.evidence_text.specs.declared.certificates.Certificate.{Certificate}
use Rattle.evidence_text.specs.declared.certificates.Link.{Link}
use Rattle.evidence_text.specs.declared.certificates.Named.{Named}
use Rattle.evidence_text.specs.declared.certificates.RouterPages.{RouterPages}
use Rattle.evidence_text.specs.declared.words.Stage.{Stage}
use Rattle.evidence_text.specs.Language.{links_of, start_of, routers_of, nodes_of, edges_of, unknown_of, clear_of}
use Rattle.evidence_text.specs.Order.{Told, stage_of, count_of, routers_told, n_of, last_link, last_page}
use Rattle.evidence_text.specs.Said.{Said}
use Rattle.evidence_text.specs.Spelling.{Bounds}

pub record Known : Type 0 where
  pub stage : Stage
  pub read : ℕ
  pub count : Option ℕ
  pub told : ℕ
  pub n : Option ℕ
  pub link : Option Link
  pub page : Option ℕ
  pub links : List Link
  pub start : Node
  pub routers : List RouterPages
  pub nodes : List Named
  pub edges : List Edge
  pub unknown : List Node
  pub clear : List Node

abbrev pub known_of : List Said → Known
known_of before = record {
  stage = stage_of before;
  read = how_many before;
  count = count_of before;
  told = routers_told before;
  n = n_of before;
  link = last_link before;
  page = last_page before;
  links = links_of before;
  start = start_of before;
  routers = routers_of before;
  nodes = nodes_of before;
  edges = edges_of before;
  unknown = unknown_of before;
  clear = clear_of before;
}

abbrev pub bounds_in : Known → Bounds
bounds_in known = record { routers = known.count; n = known.n }

abbrev pub told_in : Known → Told
told_in known = record { stage = known.stage; count = known.count; told = known.told; link = known.link; page = known.page }

-- the size of a page, where it is known
abbrev pub IsSize : Option ℕ → Type 0
IsSize None = Unit {0}
IsSize (Some n) = (N_LEAST ≤ n) × (n ≤ N_MOST)

abbrev pub certificate_in : Known → Certificate
certificate_in known = record { links = known.links; start = known.start; routers = known.routers; nodes = known.nodes; edges = known.edges; unknown = known.unknown; clear = known.clear }
