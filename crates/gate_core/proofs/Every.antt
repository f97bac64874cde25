-- Each of the ten acts keeps the plane invariant.
use Rattle.std.proofs.Common.{◌≡◌, ℕ, List, get_or, set, sym, subst}
use mathlib.Core.Option.{some}
use lib.ListN.{get_elem?}
use Rattle.spie_base.specs.declared.PageShape.{PageShape}
use Rattle.gate_core.specs.declared.steps.Act.{Act}
use Rattle.gate_core.specs.declared.steps.Act.TheVariants.{Look, Enter, Set, Leave, Seal, Settle, Drain, Point, Probe}
use Rattle.gate_core.specs.declared.steps.Act.TheVariants as act
use Rattle.gate_core.specs.Views.{Spent, View}
use Rattle.gate_core.specs.Acts.{word_of, word_after, view_after, Enabled, Acts}
use Rattle.gate_core.specs.Invariant.{PlaneInvariant}
use Rattle.gate_core.proofs.Looks.{look_keeps}
use Rattle.gate_core.proofs.Enters.{enter_keeps}
use Rattle.gate_core.proofs.Sets.{set_keeps}
use Rattle.gate_core.proofs.Leaves.{leave_keeps}
use Rattle.gate_core.proofs.Seals.{seal_keeps}
use Rattle.gate_core.proofs.Settles.{settle_keeps}
use Rattle.gate_core.proofs.Drains.{drain_keeps}
use Rattle.gate_core.proofs.Opens.{open_keeps}
use Rattle.gate_core.proofs.Points.{point_keeps}
use Rattle.gate_core.proofs.Probes.{probe_keeps}

module _ (shape : PageShape) (words : List ℕ) (views : List View) (r : PlaneInvariant shape words views) (id : ℕ) (v : View) (there : get_elem? views id ≡ some v) where
  pub keeps : ¬ (v.role ≡ Spent) → (a : Act) → Enabled shape a v
      → PlaneInvariant shape (set words (word_of shape a v) (word_after shape a v (get_or words (word_of shape a v) 0))) (set views id (view_after shape a v (get_or words (word_of shape a v) 0)))
  keeps alive Look can = look_keeps shape words views r id v there alive can
  keeps alive (Enter sig) can = enter_keeps sig shape words views r id v there alive can
  keeps alive Set can = set_keeps shape words views r id v there alive can
  keeps alive Leave can = leave_keeps shape words views r id v there alive can
  keeps alive Seal can = seal_keeps shape words views r id v there alive can
  keeps alive (Settle s) can = settle_keeps s shape words views r id v there alive can
  keeps alive (Drain s) can = drain_keeps s shape words views r id v there alive can
  keeps alive (act.Open s) can = open_keeps s shape words views r id v there alive can
  keeps alive Point can = point_keeps shape words views r id v there alive can
  keeps alive (Probe s p) can = probe_keeps s p shape words views r id v there alive can

  -- the same of the relation
  pub acts_keep : ¬ (v.role ≡ Spent) → (a : Act) (i n' : ℕ) (w : View) → Acts shape a i (get_or words i 0) n' v w → PlaneInvariant shape (set words i n') (set views id w)
  acts_keep alive a i n' w k = let at : ℕ = word_of shape a v in
      let here : PlaneInvariant shape (set words i (word_after shape a v (get_or words i 0))) (set views id (view_after shape a v (get_or words i 0))) =
      subst (λ (j : ℕ). PlaneInvariant shape (set words j (word_after shape a v (get_or words j 0))) (set views id (view_after shape a v (get_or words j 0)))) (sym k.place) (keeps alive a k.enabled) in
      subst (λ (u : View). PlaneInvariant shape (set words i n') (set views id u)) (sym k.view)
      (subst (λ (x : ℕ). PlaneInvariant shape (set words i x) (set views id (view_after shape a v (get_or words i 0)))) (sym k.word) here)
