-- What a segment's archivals may do shows in the operator's moments alone.
use Rattle.std.proofs.Common.{ℕ, ◌≡◌, ◌∷◌, [], ◌∙◌, true, false, List, sym, ap, subst}
use Rattle.std.proofs.lemmas.Bool.{false≢true}
use Rattle.router_account.specs.Barriers.{IsSplit, archive_view}
use Rattle.router_account.specs.Ledger.{Ledger}
use Rattle.trace_format.specs.declared.Trace.{Trace}
use Rattle.trace_history.specs.History.{Event, recorded, rotated, archived, watched, ticked, queried, ended, History}
use Rattle.trace_history.specs.Ledgers.{ledger, puts}
use Rattle.trace_history.specs.Outcomes.{IsAllowed}
use Rattle.trace_history.specs.Receipts.{is_barrier}
use Rattle.trace_history.specs.Routers.{RouterRules, rules_of}
use Rattle.trace_replay.specs.Segments.{Splits, filled, AreInner}
use Rattle.trace_replay.specs.Standing.{AreSplits}
use Rattle.trace_replay.specs.Operated.{operated}
use Rattle.trace_replay.proofs.Filled.{moment_of}
use Rattle.trace_replay.proofs.Apart.{ledger_apart, puts_operated}

no_barrier : {X : Type 0} → true ≡ false → X
no_barrier e = absurd (false≢true (sym e))

module _ (n : ℕ) (rules : RouterRules) (f : Splits) (h : History) where
  abbrev F : History → History
  F seg = filled f seg h

  abbrev O : History → History
  O seg = filled f (operated seg) h

  allowed_by : (e : Event) (line : ℕ) (seg : History) → is_barrier e ≡ false → AreInner seg → (IsAllowed n rules (O seg) → IsAllowed n rules (F seg))
      → IsAllowed n rules (O (moment_of line e ∷ seg)) → IsAllowed n rules (F (moment_of line e ∷ seg))
  allowed_by (recorded hop page) line seg b i ih a = (ih a, tt)
  allowed_by (rotated q page) line seg b i ih a = (ih a.0, tt)
  allowed_by (archived q put kept) line seg b i ih a =
      let P : Ledger → Type 0 = λ l. IsSplit (rules q) (record (archive_view l l.account.closings) { put_before = puts q (O seg) }) (f q) in
      let Q : List ℕ → Type 0 = λ ps. let l = ledger rules q (F seg) in IsSplit (rules q) (record (archive_view l l.account.closings) { put_before = ps }) (f q) in
      (ih a.0, subst Q (puts_operated q f seg h) (subst P (sym (ledger_apart rules q f h seg i)) a.1))
  allowed_by (watched q sig w) line seg b i ih a = (ih a.0, tt)
  allowed_by (ticked time left) line seg b i ih a = no_barrier b
  allowed_by (queried query left) line seg b i ih a = no_barrier b
  allowed_by (ended left) line seg b i ih a = no_barrier b

  pub allowed_apart : (seg : History) → AreInner seg → IsAllowed n rules (O seg) → IsAllowed n rules (F seg)
  allowed_apart [] i a = a
  allowed_apart (moment ∷ seg) i a = allowed_by moment.event moment.line seg i.1 i.0 (allowed_apart seg i.0) a

-- the archivals split the same
pub splits_apart : (t : Trace) (f : Splits) (seg h : History) → AreInner seg → AreSplits t f (filled f seg h) → AreSplits t f (filled f (operated seg) h)
splits_apart t f seg h i splits r closings l came =
    let e = ledger_apart (rules_of t) r f h seg i in
    let P : Ledger → Type 0 = λ k. IsSplit (rules_of t r) (archive_view k closings) (f r) in
    subst P e (splits r closings l (ap (λ (k : Ledger). k.closed_at_archive) e ∙ came))
