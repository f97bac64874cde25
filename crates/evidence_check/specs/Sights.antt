-- How the pages of a router are kept while an answer is judged. No public clause cites this module.
use Rattle.std.specs.Prelude.{◌≡◌, ◌↔◌, List}
use Rattle.std.specs.List.{Contains, flat_map}
use Rattle.spie_base.specs.Shapes.{IsShape}
use Rattle.packet_signature.specs.declared.rows.Row.{Row}
use Rattle.evidence_text.specs.declared.certificates.PageEvidence.{PageEvidence}
use Rattle.evidence_text.specs.declared.certificates.RouterPages.{RouterPages}

abbrev pub page_rows : PageEvidence → List Row
page_rows e = e.rows

-- the pages of a router have its size
abbrev pub AreSized : RouterPages → Type 0
AreSized r = (e : PageEvidence) → Contains r.pages e → e.bits.n ≡ r.shape.n

-- what can be asked of a router's pages
pub record IsShaped (r : RouterPages) : Type 0 where
  pub shape : IsShape r.shape
  pub sizes : AreSized r

abbrev pub AreShaped : List RouterPages → Type 0
AreShaped routers = (r : RouterPages) → Contains routers r → IsShaped r

-- these rows are those of the pages, in any order
pub record IsIndexed (r : RouterPages) (rows : List Row) : Type 0 where
  pub shaped : IsShaped r
  pub same : (row : Row) → Contains rows row ↔ Contains (flat_map page_rows r.pages) row
