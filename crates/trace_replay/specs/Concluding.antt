-- What is left to do of a segment once its passes are back: the rows of its records, and the answers to all its lines.
use Rattle.std.specs.Prelude.{ℕ, ◌+◌, ◌≡◌, ◌≤◌, ◌<◌, List, ◌++◌, length, map, false, slice_index_or}
use Rattle.std.specs.List.{Contains}
use Rattle.spie_base.specs.declared.PageNo.{PageNo}
use Rattle.spie_base.specs.declared.Rules.{Rules}
use Rattle.page_catalogue.specs.Pages.{open_page}
use Rattle.trace_format.specs.declared.Line.{Line}
use Rattle.trace_format.specs.declared.Trace.{Trace}
use Rattle.trace_format.specs.Sound.{IsWithin, records}
use Rattle.router_account.specs.Account.{RowIn, below}
use Rattle.router_account.specs.Ledger.{Ledger, Unfinished, was_expired}
use Rattle.trace_history.specs.Receipts.{Receipt}
use Rattle.trace_history.specs.Routers.{RouterRules}
use Rattle.trace_workers.specs.declared.Job.{Job}
use Rattle.trace_workers.specs.Jobs.{HasPageAt, page_at, pages_of}
use Rattle.trace_workers.specs.Records.{hop_of, receipts_by}
use Rattle.trace_replay.specs.declared.state.Answer.{Answer}
use Rattle.trace_replay.specs.declared.state.Answer.TheVariants.{Entered}
use Rattle.trace_replay.specs.Agents.{Standing}
use Rattle.trace_replay.specs.Merging.{interleaved}
use Rattle.trace_replay.specs.Operated.{row_by, rows_at}

-- ---- rows

-- a ledger with more rows
abbrev pub with_rows : Ledger → List RowIn → Ledger
with_rows l rows = record l { account = record l.account { rows = l.account.rows ++ rows } }

-- each agent that is there stands for its router's ledger
abbrev pub AllThere : {A : Type 0} → Standing A → RouterRules → (ls : ℕ → Ledger) → (us : ℕ → Unfinished) → List A
    → Type 0
AllThere stands rules ls us agents =
    (r : ℕ) (d : _) → r < length agents → stands (slice_index_or agents r d) (rules r) (ls r) (us r)

-- what a record line recorded, by the page that it entered
abbrev pub receipt_at : Trace → Line → (page : ℕ) → Receipt
receipt_at t line page = record { hop = hop_of t.sigs line.what; page = page }

-- a page exists and is in memory
pub record IsNearby (rules : Rules) (l : Ledger) (page : ℕ) : Type 0 where
  pub exists : page ≤ open_page l.account.closings
  pub live : was_expired rules l page ≡ false
  pub unput : Contains l.put_before page → ⊥

-- the row of a record may be added
abbrev pub MayAddRow : {A : Type 0} → Standing A → Trace → Line → (page : ℕ) → List A → Type 0
MayAddRow stands t line page agents =
    (rules : RouterRules) × (ls : ℕ → Ledger) × (us : ℕ → Unfinished) × AllThere stands rules ls us agents
    × IsWithin (length agents) (length t.sigs) line.what
    × IsNearby (rules (receipt_at t line page).hop.router) (ls (receipt_at t line page).hop.router) page
    × (length (ls (receipt_at t line page).hop.router).account.rows < 1000000)

-- it is added
pub record AddsRow {A : Type 0} (stands : Standing A) (t : Trace) (line : Line) (page : ℕ)
    (before after : List A) : Type 0 where
  pub same : length after ≡ length before
  pub adds : (rules : RouterRules) (ls : ℕ → Ledger) (us : ℕ → Unfinished) → AllThere stands rules ls us before
      → AllThere stands rules (λ r. with_rows (ls r) (row_by r (receipt_at t line page))) us after

-- the rows of some records may be added
pub record MayAddRows {A : Type 0} (stands : Standing A) (rules : RouterRules) (ls : ℕ → Ledger) (us : ℕ → Unfinished)
    (xs : List Receipt) (agents : List A) : Type 0 where
  pub there : AllThere stands rules ls us agents
  pub near : (x : Receipt) → Contains xs x → IsNearby (rules x.hop.router) (ls x.hop.router) x.page
  pub few : (r : ℕ) → length (ls r).account.rows + length xs ≤ 1000000

-- they are added
pub record AddsRows {A : Type 0} (stands : Standing A) (xs : List Receipt) (before after : List A) : Type 0 where
  pub same : length after ≡ length before
  pub adds : (rules : RouterRules) (ls : ℕ → Ledger) (us : ℕ → Unfinished) → MayAddRows stands rules ls us xs before
      → AllThere stands rules (λ r. with_rows (ls r) (rows_at r xs)) us after

-- the rows of all but the last records are added
pub record HasAdded {A : Type 0} (stands : Standing A) (rules : RouterRules) (ls : ℕ → Ledger) (us : ℕ → Unfinished)
    (xs left : List Receipt) (agents : List A) : Type 0 where
  pub done : List Receipt
  pub rest : done ++ left ≡ xs
  pub there : AllThere stands rules (λ r. with_rows (ls r) (rows_at r done)) us agents

pub record AddsSoFar {A : Type 0} (stands : Standing A) (xs left : List Receipt) (before after : List A) : Type 0 where
  pub same : length after ≡ length before
  pub adds : (rules : RouterRules) (ls : ℕ → Ledger) (us : ℕ → Unfinished) → MayAddRows stands rules ls us xs before
      → HasAdded stands rules ls us xs left after

-- ---- records and answers

-- the pages that so many records entered
abbrev pub recorded_pages : List Job → (count : ℕ) → List PageNo
recorded_pages jobs count = map (page_at (pages_of jobs)) (below count)

-- the pages of all records among some lines, and what was recorded there
abbrev pub pages_for : List Line → List Job → List PageNo
pages_for lines jobs = recorded_pages jobs (length (records lines))

abbrev pub receipts_for : Trace → List Line → List Job → List Receipt
receipts_for t lines jobs = receipts_by t.sigs (records lines) (pages_for lines jobs)

abbrev pub entered : List PageNo → List Answer
entered pages = map (λ page. Entered page) pages

-- the answers to all lines, by the records' pages and the operator's answers
abbrev pub all_answers : List Line → List Job → (given : List Answer) → List Answer
all_answers lines jobs given = interleaved lines (entered (pages_for lines jobs)) given

-- each record among the lines has a page
abbrev pub HavePagesFor : List Line → List Job → Type 0
HavePagesFor lines jobs = (j : ℕ) → j < length (records lines) → HasPageAt (pages_of jobs) j

-- the routers and packets that the lines name are there
abbrev pub AreWithin : (routers packets : ℕ) → List Line → Type 0
AreWithin routers packets lines =
    (i : ℕ) (d : Line) → i < length lines → IsWithin routers packets (slice_index_or lines i d).what
