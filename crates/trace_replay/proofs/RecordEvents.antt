-- The events of a segment's records, by its lines and the pages that they entered.
use Rattle.std.proofs.Common.{ℕ, ◌≡◌, ◌<◌, ◌∷◌, [], ⊎_elim, true, List, length, map, ap, refl, subst, arith}
use Rattle.std.specs.List.{Contains, flat_map}
use Rattle.std.proofs.lemmas.Bool.{false≢true}
use Rattle.std.proofs.lemmas.Option.{slice_get-get_or}
use Rattle.spie_base.proofs.Membership.{has_none, has_first, has_later, has_cases, from_filter}
use Rattle.spie_base.specs.declared.PageNo.{PageNo}
use Rattle.spie_base.specs.declared.Sig.{Sig}
use Rattle.trace_format.specs.declared.Line.{Line}
use Rattle.trace_format.specs.declared.What.{What}
use Rattle.trace_format.specs.declared.What.TheVariants as what
use Rattle.trace_format.specs.Sound.{IsWithin, is_recording, records}
use Rattle.trace_history.specs.History.{Event, recorded, IsEventOf}
use Rattle.trace_history.specs.Receipts.{Receipt, receipt_by}
use Rattle.trace_workers.specs.Records.{hop_of, no_sig, receipts_by}
use Rattle.trace_replay.specs.declared.state.Answer.{Answer}
use Rattle.trace_replay.specs.declared.state.Answer.TheVariants.{Entered}
use Rattle.trace_replay.specs.Merging.{AreEvents}
use Rattle.trace_replay.specs.Segments.{answer_of}

abbrev pub event_of : Receipt → Event
event_of x = recorded x.hop x.page

abbrev pub events_of : List Receipt → List Event
events_of xs = map event_of xs

one_record : (sigs : List Sig) (n page : ℕ) (w : What) → is_recording w ≡ true → IsWithin n (length sigs) w → IsEventOf sigs w (recorded (hop_of sigs w) page)
one_record sigs n page (what.Fwd router packet) r within = (refl, slice_get-get_or sigs packet no_sig within.1, refl)
one_record sigs n page (what.Xf router kind old new) r within = (refl, slice_get-get_or sigs new no_sig within.2, (refl, slice_get-get_or sigs old no_sig within.1))
one_record sigs n page (what.Rotate router) r within = absurd (false≢true r)
one_record sigs n page (what.Archive router) r within = absurd (false≢true r)
one_record sigs n page (what.Watch router packet) r within = absurd (false≢true r)
one_record sigs n page (what.Tick time) r within = absurd (false≢true r)
one_record sigs n page (what.Query router packet time) r within = absurd (false≢true r)
one_record sigs n page what.End r within = absurd (false≢true r)

-- record lines whose routers and packets are there
abbrev AreRecords : List Sig → (n : ℕ) → List Line → Type 0
AreRecords sigs n lines = (x : Line) → Contains lines x → (is_recording x.what ≡ true) × IsWithin n (length sigs) x.what

all_records : (sigs : List Sig) (n : ℕ) (lines : List Line) (pages : List PageNo) → AreRecords sigs n lines → length pages ≡ length lines
    → AreEvents sigs lines (events_of (receipts_by sigs lines pages))
all_records sigs n [] [] are e = tt
all_records sigs n [] (page ∷ pages) are e = tt
all_records sigs n (line ∷ lines) [] are e = absurd (omega (arith, e))
all_records sigs n (line ∷ lines) (page ∷ pages) are e =
    let here = are line (has_first line lines) in
    (one_record sigs n page.number line.what here.0 here.1, all_records sigs n lines pages (λ x h. are x (has_later line lines x h)) (omega (arith, e)))

-- what is recorded happened at the record lines
pub records_happened : (sigs : List Sig) (n : ℕ) (lines : List Line) (pages : List PageNo) → ((x : Line) → Contains lines x → IsWithin n (length sigs) x.what)
    → length pages ≡ length (records lines) → AreEvents sigs (records lines) (events_of (receipts_by sigs (records lines) pages))
records_happened sigs n lines pages within e =
    all_records sigs n (records lines) pages (λ x h. let at = from_filter (λ (line : Line). is_recording line.what) lines x h in (at.1, within x at.0)) e

pub receipts_back : (xs : List Receipt) → flat_map receipt_by (events_of xs) ≡ xs
receipts_back [] = refl
receipts_back (x ∷ xs) = ap (λ (ys : List Receipt). x ∷ ys) (receipts_back xs)

pub entered_back : (sigs : List Sig) (lines : List Line) (pages : List PageNo) → length pages ≡ length lines
    → map answer_of (events_of (receipts_by sigs lines pages)) ≡ map (λ (page : PageNo). Entered page) pages
entered_back sigs [] [] e = refl
entered_back sigs [] (page ∷ pages) e = absurd (omega (arith, e))
entered_back sigs (line ∷ lines) [] e = refl
entered_back sigs (line ∷ lines) (page ∷ pages) e = ap (λ (xs : List Answer). Entered page ∷ xs) (entered_back sigs lines pages (omega (arith, e)))

-- each record is at a router that is there
router_of : (sigs : List Sig) (n : ℕ) (w : What) → is_recording w ≡ true → IsWithin n (length sigs) w → (hop_of sigs w).router < n
router_of sigs n (what.Fwd router packet) r within = within.0
router_of sigs n (what.Xf router kind old new) r within = within.0
router_of sigs n (what.Rotate router) r within = absurd (false≢true r)
router_of sigs n (what.Archive router) r within = absurd (false≢true r)
router_of sigs n (what.Watch router packet) r within = absurd (false≢true r)
router_of sigs n (what.Tick time) r within = absurd (false≢true r)
router_of sigs n (what.Query router packet time) r within = absurd (false≢true r)
router_of sigs n what.End r within = absurd (false≢true r)

all_routers : (sigs : List Sig) (n : ℕ) (lines : List Line) (pages : List PageNo) → AreRecords sigs n lines → (x : Receipt) → Contains (receipts_by sigs lines pages) x → x.hop.router < n
all_routers sigs n [] pages are x h = absurd (has_none x h)
all_routers sigs n (line ∷ lines) [] are x h = absurd (has_none x h)
all_routers sigs n (line ∷ lines) (page ∷ pages) are x h =
    let y : Receipt = record { hop = hop_of sigs line.what; page = page.number } in
    let here = are line (has_first line lines) in
    let P : Receipt → Type 0 = λ z. z.hop.router < n in
    ⊎_elim (λ (e : y ≡ x). subst P e (router_of sigs n line.what here.0 here.1))
    (λ (more : Contains (receipts_by sigs lines pages) x). all_routers sigs n lines pages (λ z k. are z (has_later line lines z k)) x more)
    (has_cases y (receipts_by sigs lines pages) x h)

pub routers_there : (sigs : List Sig) (n : ℕ) (lines : List Line) (pages : List PageNo) → ((x : Line) → Contains lines x → IsWithin n (length sigs) x.what)
    → (x : Receipt) → Contains (receipts_by sigs (records lines) pages) x → x.hop.router < n
routers_there sigs n lines pages within =
    all_routers sigs n (records lines) pages (λ x h. let at = from_filter (λ (line : Line). is_recording line.what) lines x h in (at.1, within x at.0))
