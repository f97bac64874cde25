-- What crates above cite to show that dealt jobs with a pass of each plane are ready.
use Rattle.std.proofs.Common.{◌≡◌, ℕ, ◌<◌, ◌≤◌, List, length, get_or, ap, ◌∙◌, subst, sym, arith}
use Rattle.std.specs.Prelude.{All, vec_len, vec_capacity}
use Rattle.page_gate.specs.Held.{PlaneId, PassHeld}
use Rattle.trace_format.specs.declared.Trace.{Trace}
use Rattle.trace_history.specs.Routers.{count}
use Rattle.trace_workers.specs.declared.jobs.Job.{Job}
use Rattle.trace_workers.specs.Columns.{HaveGot}
use Rattle.trace_workers.specs.Jobs.{tables_of, planes_tables, IsShare, AreShares, AreReady}
use Rattle.trace_workers.specs.Records.{IsRecordAt}

-- a share is of lines and pages, whatever the passes are
share_kept : (t : Trace) (from to W w : ℕ) (a b : Job) → b.places ≡ a.places → b.pages ≡ a.pages → IsShare t from to W w a → IsShare t from to W w b
share_kept t from to W w a b places pages share = record {
  turns = ap (λ (v : _). v.items) places ∙ share.turns;
  records = subst (λ (v : _). All (IsRecordAt t) v.items) (sym places) share.records;
  none = ap (λ (v : _). v.items) pages ∙ share.none;
  room = subst (λ (v : _). vec_len v ≤ vec_capacity b.pages) (sym places) (subst (λ (v : _). vec_len a.places ≤ vec_capacity v) (sym pages) share.room);
}

-- a pass more leaves the shares
pub got_shares : (t : Trace) (from to : ℕ) (before after : List Job) (pass : PassHeld) → HaveGot before after pass → AreShares t from to before → AreShares t from to after
got_shares t from to before after pass got shares = let many = got.many in record {
  each = λ w d lt. let low : w < length before = omega arith in let one = got.each w d low in
      subst (λ n. IsShare t from to n w (get_or after w d)) (sym many) (share_kept t from to (length before) w (get_or before w d) (get_or after w d) one.places one.pages (shares.each w d low));
}

-- shares, with a pass of each router's plane
pub ready_of : (t : Trace) (planes : List PlaneId) (from to : ℕ) (jobs : List Job) → length planes ≡ count t → ((w : ℕ) (d : Job) → w < length jobs → tables_of (get_or jobs w d).passes.items ≡ planes_tables planes)
    → AreShares t from to jobs → AreReady t planes jobs
ready_of t planes from to jobs routers tables shares = record {
  each = λ w d lt. let share = shares.each w d lt in record { tables = tables w d lt; routers = routers; records = share.records; none = share.none; room = share.room };
}
