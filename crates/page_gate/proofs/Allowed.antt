-- A step on a word is allowed where it is an act that is enabled.
use Rattle.std.proofs.Common.{◌≡◌, ℕ, List, get_or, set, sym, refl, ap, ◌∙◌, subst}
use mathlib.Core.Option.{some}
use lib.ListN.{get_elem?}
use Rattle.atomic_table.specs.Table.{Me, Step, keeps, Allows}
use Rattle.spie_base.specs.declared.PageShape.{PageShape}
use Rattle.gate_core.specs.declared.steps.Act.{Act}
use Rattle.gate_core.specs.declared.view.View.{View}
use Rattle.gate_core.specs.declared.view.Role.TheVariants.{Spent}
use Rattle.gate_core.specs.declared.steps.Act.TheVariants.{Look, Enter, Set, Leave, Seal, Settle, Drain, Point, Probe}
use Rattle.gate_core.specs.declared.steps.Act.TheVariants as act
use Rattle.gate_core.specs.Acts.{Enabled, open_slot, word_of, word_after, view_after, Acts}
use Rattle.gate_core.specs.Invariant.{PlaneInvariant, Met}
use Rattle.gate_core.proofs.Lists.{set_here}
use Rattle.gate_core.proofs.Every.{acts_keep}
use Rattle.page_gate.specs.Steps.{Nothing, Holds, IsMet, Found, did}

module _ (shape : PageShape) (words : List ℕ) (views : List View) (id : ℕ) (v : View) (rule : PlaneInvariant shape words views) (mine : get_elem? views id ≡ some v) where
  pub met_at : (i : ℕ) → Met shape v i (get_or words i 0)
  met_at i = record { words = words; views = views; id = id; rule = rule; mine = mine; reads = refl }

  pub is_met : IsMet shape v
  is_met = (0, get_or words 0 0, met_at 0)

  found_there : (a : Act) → Found shape a v (get_or words (word_of shape a v) 0)
  found_there Look = met_at (word_of shape Look v)
  found_there (Enter sig) = met_at (word_of shape (Enter sig) v)
  found_there Set = met_at (word_of shape Set v)
  found_there Leave = met_at (word_of shape Leave v)
  found_there Seal = met_at (word_of shape Seal v)
  found_there (Settle s) = met_at (word_of shape (Settle s) v)
  found_there (Drain s) = met_at (word_of shape (Drain s) v)
  found_there (act.Open s) = met_at (word_of shape (act.Open s) v)
  found_there Point = is_met
  found_there (Probe s p) = met_at (word_of shape (Probe s p) v)

  pub found : (a : Act) (i : ℕ) → i ≡ word_of shape a v → Found shape a v (get_or words i 0)
  found a i is = subst (λ (j : ℕ). Found shape a v (get_or words j 0)) (sym is) (found_there a)

pub allowed : (shape : PageShape) (a : Act) (slots id i : ℕ) (me : Me Nothing View) (f : ℕ → ℕ) (st : Step Nothing) → Enabled shape a me.0 → ¬ (me.0.role ≡ Spent)
    → i ≡ word_of shape a me.0 → ((n : ℕ) → f n ≡ word_after shape a me.0 n) → Allows (Holds shape) slots id me i f (did shape a st me)
allowed shape a slots id i me f st can alive is same s law long at small = let n : ℕ = get_or s.words i 0 in let w : View = view_after shape a me.0 n in
    let done : Acts shape a i n (f n) me.0 w = record { enabled = can; place = is; word = same n; view = refl } in
    let kept : PlaneInvariant shape (set s.words i (f n)) (set s.views id w) = acts_keep shape s.words s.views law id me.0 at alive a i (f n) w done in
    (w, keeps, tt, kept, (refl, is_met shape s.words s.views id me.0 law at, found shape s.words s.views id me.0 law at a i is, is_met shape (set s.words i (f n)) (set s.views id w) id w kept (set_here s.views id w me.0 at)))

-- the same, where the key is the shape, and the act is b
module _ (key shape : PageShape) (a b : Act) (slots id : ℕ) (me : Me Nothing View) (st : Step Nothing) (keyed : shape ≡ key) (told : a ≡ b) (can : Enabled shape a me.0) (alive : ¬ (me.0.role ≡ Spent)) where
  pub allowed_at : (i : ℕ) (f : ℕ → ℕ) → i ≡ word_of shape b me.0 → ((n : ℕ) → f n ≡ word_after shape b me.0 n) → Allows (Holds key) slots id me i f (did shape a st me)
  allowed_at i f is same = subst (λ (k : PageShape). Allows (Holds k) slots id me i f (did shape a st me)) keyed
      (allowed shape a slots id i me f st can alive (is ∙ ap (λ (x : Act). word_of shape x me.0) (sym told)) (λ n. same n ∙ ap (λ (x : Act). word_after shape x me.0 n) (sym told)))

-- a store of the open slot
stored : (shape : PageShape) (slots id new : ℕ) (me : Me Nothing View) (st : Step Nothing) → Allows (Holds shape) slots id me 0 (λ _. new) (did shape Point st me) → Allows (Holds shape) slots id me 0 (λ _. new) (λ _. did shape Point st me new)
stored shape slots id new me st k s law long at small = let (w, a, valid, kept, t) = k s law long at small in (w, a, valid, kept, t)

pub point_allowed : (key shape : PageShape) (a : Act) (slots id new : ℕ) (me : Me Nothing View) (st : Step Nothing) → shape ≡ key → a ≡ Point → Enabled shape a me.0 → ¬ (me.0.role ≡ Spent) → new ≡ open_slot me.0.duties
    → Allows (Holds key) slots id me 0 (λ _. new) (λ _. did shape a st me new)
point_allowed key shape a slots id new me st keyed told can alive is = subst (λ (k : PageShape). Allows (Holds k) slots id me 0 (λ _. new) (λ _. did shape a st me new)) keyed
    (subst (λ (x : Act). Allows (Holds shape) slots id me 0 (λ _. new) (λ _. did shape x st me new)) (sym told)
    (stored shape slots id new me st (allowed shape Point slots id 0 me (λ _. new) st (subst (λ (x : Act). Enabled shape x me.0) told can) alive refl (λ n. is))))
