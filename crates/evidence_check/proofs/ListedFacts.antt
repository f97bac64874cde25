-- A pair is listed exactly where it stands in one of the lists.
use Rattle.std.proofs.Common.{◌≡◌, ◌∙◌, ◌<◌, ◌↔◌, ◌⊎◌, inl, inr, ⊎_elim, true, List, refl, sym}
use Rattle.std.proofs.lemmas.Bool.{false≢true}
use Rattle.topology.specs.declared.limits.TheConstants.{ROUTERS_MOST}
use Rattle.reverse_flood.specs.declared.graphs.Node.{Node}
use Rattle.reverse_flood.specs.Flood.{Net}
use Rattle.evidence_check.specs.declared.pairs.Cell.{Cell}
use Rattle.evidence_check.specs.declared.pairs.Cell.TheVariants as cell
use Rattle.evidence_check.specs.declared.pairs.Pairs.{Pairs}
use Rattle.evidence_check.specs.Pairs.{AreKept, IsAmongThem, cell_at, is_asked_cell, is_listed, is_listed_cell, is_node, is_node_cell, is_told, is_told_cell}

by_cell : (c : Cell) → is_listed_cell c ≡ true → (is_node_cell c ≡ true) ⊎ (is_told_cell c ≡ true)
by_cell cell.Free e = absurd (false≢true e)
by_cell cell.Node e = inl refl
by_cell cell.Asked e = absurd (false≢true e)
by_cell cell.Told e = inr refl

node_listed : (c : Cell) → is_node_cell c ≡ true → is_listed_cell c ≡ true
node_listed cell.Free e = absurd (false≢true e)
node_listed cell.Node e = refl
node_listed cell.Asked e = absurd (false≢true e)
node_listed cell.Told e = absurd (false≢true e)

told_listed : (c : Cell) → is_told_cell c ≡ true → is_listed_cell c ≡ true
told_listed cell.Free e = absurd (false≢true e)
told_listed cell.Node e = absurd (false≢true e)
told_listed cell.Asked e = absurd (false≢true e)
told_listed cell.Told e = refl

told_asked : (c : Cell) → is_told_cell c ≡ true → is_asked_cell c ≡ true
told_asked cell.Free e = absurd (false≢true e)
told_asked cell.Node e = absurd (false≢true e)
told_asked cell.Asked e = absurd (false≢true e)
told_asked cell.Told e = refl

pub listed_decided : (net : Net) (start : Node) (nodes unknown clear : List Node) (p : Pairs) → AreKept net start nodes unknown clear p → (n : Node) → n.router.number < ROUTERS_MOST → (is_listed p n ≡ true) ↔ IsAmongThem nodes unknown clear n
listed_decided net start nodes unknown clear p kept n few =
    let named = kept.named in
    let marked = kept.marked in
    let first = kept.first in
    let noted = kept.noted n few in
    let u = kept.unknown_told.told n few in
    let c = kept.clear_told.told n few in
    let node_same : is_node p n ≡ is_node named n = kept.clear_told.nodes n few ∙ kept.unknown_told.nodes n few ∙ kept.asks.nodes n few in
    let told_same : is_told marked n ≡ is_told named n = kept.asks.told n few in
    let none : is_told marked n ≡ true → ⊥ = λ t. false≢true (sym (kept.fresh n few) ∙ told_asked (cell_at named n) (sym told_same ∙ t)) in (
      (λ h. ⊎_elim
          (λ node. inl (noted.0 (sym node_same ∙ node)))
          (λ told. inr (⊎_elim
          (λ was. inl (⊎_elim (λ t. absurd (none t)) (λ has. has) (u.0 was)))
          (λ has. inr has)
          (c.0 told)))
          (by_cell (cell_at p n) h)),
      (λ h. ⊎_elim
          (λ has. node_listed (cell_at p n) (node_same ∙ noted.1 has))
          (λ left. told_listed (cell_at p n) (c.1 (⊎_elim (λ has. inl (u.1 (inr has))) (λ has. inr has) left)))
          h),
    )
