-- The routers beside each router. No public clause cites this module.
use Rattle.std.specs.Prelude.{Some, ◌≡◌, ℕ, ◌<◌, ◌==◌, List, [], ◌∷◌, length, map, slice_index_or, IsTrue, if◌then◌else◌}
use Rattle.spie_base.specs.declared.RouterId.{RouterId}
use Rattle.std.specs.List.{Contains}
use Rattle.topology.specs.Layout.{is_linked}
use Rattle.topology.specs.declared.limits.TheConstants.{ROUTERS_MOST}
use Rattle.topology.specs.Wired.{IsNear}
use Rattle.evidence_text.specs.declared.certificates.Link.{Link}
use Rattle.evidence_check.specs.Evidence.{stated_link}
use Rattle.std.specs.List.Sorted.{IsStrictlySortedBy}
use Rattle.spie_base.specs.Order.{sig_cmp}
use Rattle.reverse_flood.specs.Flood.{Net}
use Rattle.reverse_flood.specs.declared.graphs.Node.{Node}
use Rattle.evidence_check.specs.declared.last.LastOrigins.{LastOrigins}

-- of each router, those linked with it
abbrev pub AreNear : List Link → List (List RouterId) → Type 0
AreNear links near = (a : ℕ) (d : List RouterId) → a < length near → IsNear (map stated_link links) a (slice_index_or near a d)

abbrev pub AreFewRouters : List RouterId → Type 0
AreFewRouters routers = (q : RouterId) → Contains routers q → q.number < ROUTERS_MOST

-- the routers of links exist
abbrev pub LinksExist : (routers : ℕ) → List Link → Type 0
LinksExist routers links = (a b : ℕ) → IsTrue (is_linked (map stated_link links) a b) → b < routers

-- the other end of a link that ends at a router
abbrev pub across : (router : ℕ) → Link → List RouterId
across router link = if link.low.number == router then link.high ∷ [] else if link.high.number == router then link.low ∷ [] else []

-- the signatures ascend, and where a pair is named they are its origins
pub record Knows (net : Net) (last : LastOrigins) : Type 0 where
  pub ascend : IsStrictlySortedBy sig_cmp last.origins.items
  pub same : (n : Node) → last.node ≡ Some n → last.origins.items ≡ net.origins n
