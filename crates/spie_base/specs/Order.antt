-- How signatures and routers are ordered.
use Rattle.std.specs.Ordering.{nat_cmp}
use Rattle.std.specs.declared.cmp.Ordering.{Ordering}
use Rattle.std.specs.Cmp.Lexicographic.{slice_cmp}
use Rattle.spie_base.specs.declared.types.Sig.{Sig}
use Rattle.spie_base.specs.declared.types.RouterId.{RouterId}

-- signatures by their bytes
abbrev pub sig_cmp : Sig → Sig → Ordering
sig_cmp a b = slice_cmp nat_cmp a.bytes b.bytes

-- routers by their numbers
abbrev pub router_cmp : RouterId → RouterId → Ordering
router_cmp a b = nat_cmp a.number b.number
