-- What a shelf holds of a router stays what was recorded there, where workers' records come: the pages that were put are closed before
-- the segment's start, and no record enters them.
use Rattle.std.proofs.Common.{ℕ, ◌≡◌, ◌≢◌, ◌<◌, ◌≤◌, ◌++◌, ◌∙◌, List, ap, arith}
use Rattle.std.specs.Prelude.{Some}
use Rattle.std.specs.List.{Contains}
use Rattle.spie_base.specs.declared.Entry.{Entry}
use Rattle.spie_base.specs.declared.Rules.{Rules}
use Rattle.packet_signature.specs.declared.Row.{Row}
use Rattle.page_shelf.specs.Shelves.{Contents}
use Rattle.page_shelf.specs.declared.ShelfPart.{ShelfPart}
use Rattle.page_shelf.specs.declared.ShelfPart.TheVariants.{Bits, Rows}
use Rattle.router_account.specs.Account.{Account, RowIn}
use Rattle.router_account.specs.Ledger.{Ledger}
use Rattle.router_account.specs.Records.{Holds, bits_text, rows_text, true_text}
use Rattle.trace_replay.specs.Operated.{with_records}
use Rattle.trace_replay.proofs.ShownMore.{bits_other, rows_other_all}

module _ (rules : Rules) (l : Ledger) (es : List Entry) (rs : List RowIn) (from : ℕ)
    (entered : (e : Entry) → Contains es e → from ≤ e.page.number) (rows_from : (x : RowIn) → Contains rs x → from ≤ x.page) where
  abbrev wide : Account
  wide = record l.account { entries = l.account.entries ++ es }

  text_apart : (page : ℕ) (part : ShelfPart) → page < from → Some (true_text rules l.account page part) ≡ Some (true_text rules (with_records l es rs).account page part)
  text_apart page Bits less =
      ap (λ (members : List ℕ). Some (bits_text rules l.account page members)) (bits_other rules l.account es page (λ e h. let a = entered e h in let ne : e.page.number ≢ page = omega arith in ne))
  text_apart page Rows less =
      ap (λ (rows : List Row). Some (rows_text l.account page rows)) (rows_other_all l.account.rows rs page (λ x h. let a = rows_from x h in let ne : x.page ≢ page = omega arith in ne))

  pub holds_apart : (c : Contents) → ((page : ℕ) → Contains l.put_before page → page < from) → Holds rules c l → Holds rules c (with_records l es rs)
  holds_apart c closed held = record {
    put = λ page part put live. held.put page part put live ∙ text_apart page part (closed page put);
    gone = held.gone;
  }
