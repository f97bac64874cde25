-- What one thing more changes of what a shelf holds: nothing, since pages that were put are closed.
use Rattle.std.proofs.Common.{ℕ, ◌≡◌, ◌≢◌, ◌<◌, ◌∷◌, [], ◌++◌, ◌∙◌, List, length, sym, ap, refl, arith}
use Rattle.std.specs.Prelude.{Some}
use Rattle.std.specs.List.{Contains}
use Rattle.spie_base.specs.declared.Rules.{Rules}
use Rattle.spie_base.specs.declared.Sig.{Sig}
use Rattle.bloom_page.specs.Sets.{PageSet}
use Rattle.packet_signature.specs.declared.Row.{Row}
use Rattle.archive_record.specs.Spelling.{bits_record, spelled_bits}
use Rattle.archive_record.specs.declared.BitsHead.{BitsHead}
use Rattle.hash_family.specs.Positions.{page_seed_of}
use Rattle.page_catalogue.specs.Pages.{opened, closed, open_page}
use Rattle.page_shelf.specs.Shelves.{Contents}
use Rattle.page_shelf.specs.declared.ShelfPart.{ShelfPart}
use Rattle.page_shelf.specs.declared.ShelfPart.TheVariants.{Bits, Rows}
use Rattle.router_account.specs.Account.{Account, bits, with_entry}
use Rattle.router_account.specs.Ledger.{Ledger, PutBits, Unfinished, recorded_in, changed_in, turned_at}
use Rattle.router_account.specs.Records.{bits_text, rows_text, true_text}
use Rattle.router_account.proofs.PageSets.{page_set_other, rows_other, closed_more, opened_more}
use Rattle.trace_replay.specs.Agents.{IsHeld}

-- the pages that were put are closed, and so are those whose bits record was put
pub record ArePutClosed (l : Ledger) (u : Unfinished) : Type 0 where
  pub each : (page : ℕ) → Contains l.put_before page → page < length l.account.closings
  pub bits : (x : PutBits) → Contains u.bits_put x → x.page < length l.account.closings

-- ---- one more record

bits_recorded : (rules : Rules) (a : Account) (sig : Sig) (page : ℕ) → page < length a.closings → bits rules a page ≡ bits rules (with_entry a (open_page a.closings) sig) page
bits_recorded rules a sig page less =
    let ne : length a.closings ≢ page = omega arith in
    sym (ap (λ (s : PageSet). s.members) (page_set_other rules a.router page (length a.closings) a.entries sig ne))

text_recorded : (rules : Rules) (l : Ledger) (sig : Sig) (page : ℕ) (part : ShelfPart) → page < length l.account.closings
    → Some (true_text rules l.account page part) ≡ Some (true_text rules (recorded_in l (open_page l.account.closings) sig).account page part)
text_recorded rules l sig page Bits less = ap (λ (members : List ℕ). Some (bits_text rules l.account page members)) (bits_recorded rules l.account sig page less)
text_recorded rules l sig page Rows less = refl

pub held_recorded : (rules : Rules) (c : Contents) (l : Ledger) (u : Unfinished) (sig : Sig) → ArePutClosed l u → IsHeld rules c l u → IsHeld rules c (recorded_in l (open_page l.account.closings) sig) u
held_recorded rules c l u sig all held = record {
  records = record {
    put = λ page part put live. held.records.put page part put live ∙ text_recorded rules l sig page part (all.each page put);
    gone = held.records.gone;
  };
  bits = held.bits;
  true_bits = λ x h. held.true_bits x h ∙ bits_recorded rules l.account sig x.page (all.bits x h);
}

-- ---- one more row

text_changed : (rules : Rules) (l : Ledger) (row : Row) (page : ℕ) (part : ShelfPart) → page < length l.account.closings
    → Some (true_text rules l.account page part) ≡ Some (true_text rules (changed_in l (open_page l.account.closings) row).account page part)
text_changed rules l row page Bits less = refl
text_changed rules l row page Rows less =
    let ne : length l.account.closings ≢ page = omega arith in
    ap (λ (rows : List Row). Some (rows_text l.account page rows)) (sym (rows_other l.account.rows page (length l.account.closings) row ne))

pub held_changed : (rules : Rules) (c : Contents) (l : Ledger) (u : Unfinished) (row : Row) → ArePutClosed l u → IsHeld rules c l u → IsHeld rules c (changed_in l (open_page l.account.closings) row) u
held_changed rules c l u row all held = record {
  records = record {
    put = λ page part put live. held.records.put page part put live ∙ text_changed rules l row page part (all.each page put);
    gone = held.records.gone;
  };
  bits = held.bits;
  true_bits = held.true_bits;
}

-- ---- one more closing

abbrev head_at : Rules → (router page opened closed : ℕ) → BitsHead
head_at rules router page opened closed = record {
  router = record { number = router };
  page = record { number = page };
  k = rules.k;
  seed = page_seed_of rules.base router page;
  opened = opened;
  closed = closed;
}

pub bits_turned : (rules : Rules) (l : Ledger) (time page : ℕ) (members : List ℕ) → page < length l.account.closings
    → Some (bits_text rules l.account page members) ≡ Some (bits_text rules (turned_at l time).account page members)
bits_turned rules l time page members less =
    let was = l.account.closings in
    let text : (opened closed : ℕ) → List ℕ = λ o c. spelled_bits (bits_record (head_at rules l.account.router page o c) (record { n = rules.n; members = members })) in
    ap (λ o. Some (text o (closed was page))) (sym (opened_more was time page (omega arith)))
    ∙ ap (λ c. Some (text (opened (was ++ time ∷ []) page) c)) (sym (closed_more was time page less))

pub text_turned : (rules : Rules) (l : Ledger) (time page : ℕ) (part : ShelfPart) → page < length l.account.closings
    → Some (true_text rules l.account page part) ≡ Some (true_text rules (turned_at l time).account page part)
text_turned rules l time page Bits less = bits_turned rules l time page (bits rules l.account page) less
text_turned rules l time page Rows less = refl

pub held_turned : (rules : Rules) (c : Contents) (l : Ledger) (u : Unfinished) (time : ℕ) → ArePutClosed l u → IsHeld rules c l u → IsHeld rules c (turned_at l time) u
held_turned rules c l u time all held = record {
  records = record {
    put = λ page part put live. held.records.put page part put live ∙ text_turned rules l time page part (all.each page put);
    gone = held.records.gone;
  };
  bits = λ x h. held.bits x h ∙ bits_turned rules l time x.page x.bits (all.bits x h);
  true_bits = held.true_bits;
}
