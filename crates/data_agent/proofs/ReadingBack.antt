-- A page that was read back.
use Rattle.std.proofs.Common.{ℕ, ◌≡◌, ◌≤◌, ◌<◌, ◌+◌, ◌-◌, ◌∙◌, ◌↔◌, true, get_or, length, sym, ap, subst, arith}
use Rattle.std.specs.List.{Contains}
use Rattle.sha2.specs.Sha256.{sha256}
use Rattle.spie_base.specs.Shapes.{shape_of}
use Rattle.spie_base.specs.declared.Rules.{Rules}
use Rattle.hash_family.specs.Positions.{family_of}
use Rattle.archive_record.specs.Spelling.{AreBits, ArePlainBits, AreRows, ArePlainRows}
use Rattle.archive_record.specs.declared.BitsHead.{BitsHead}
use Rattle.page_shelf.specs.declared.ShelfPart.TheVariants.{Bits, Rows}
use Rattle.used_pages.specs.UsedPages.{Held}
use Rattle.router_account.specs.Account.{Account, bits}
use Rattle.router_account.specs.Ledger.{Ledger}
use Rattle.router_account.specs.Records.{AreTold, bits_of, bits_text, head_of, rows_of, rows_text, true_text}
use Rattle.router_account.specs.Shelves.{ShelfView}
use Rattle.shelved_page.specs.declared.reading.Back.{Back}
use Rattle.shelved_page.specs.declared.reading.Content.{Content}
use Rattle.shelved_page.specs.declared.shelving.Digests.{Digests}
use Rattle.shelved_page.specs.Reading.{IsBack, IsGot, IsTrue, IsTrueBits, IsTrueRows}
use Rattle.data_agent.specs.declared.agent.Agent.{Agent}
use Rattle.data_agent.specs.declared.looking.ReadPage.{ReadPage}
use Rattle.packet_signature.specs.declared.Row.{Row}
use Rattle.data_agent.specs.Looking.{IsLooked, IsReadBack, IsReadPage, IsTruePage}
use Rattle.bloom_page.specs.Sets.{is_in}
use Rattle.data_agent.specs.declared.closed_page.ClosedPage.{ClosedPage}
use Rattle.data_agent.specs.declared.closed_page.Whereabouts.TheVariants.{OnShelf}
use Rattle.data_agent.specs.declared.looking.Looked.{Looked}
use Rattle.data_agent.specs.declared.looking.Looked.TheVariants.{Borrowed, ReadBack, Unread}
use Rattle.data_agent.specs.Residents.{IsRead}
use Rattle.data_agent.specs.Standing.{AreDigests, IsPlaced, Stands}
use Rattle.data_agent.proofs.Fitting.{true_bits_fit, true_rows_fit}

-- what a call promises of a page whose digests are these
abbrev pub Promises : BitsHead → (n : ℕ) → Digests → (x z : ShelfView) → Back → Type 0
Promises head n d x z got =
    (rules : Rules) (a : Account) (page : ℕ) → head ≡ head_of rules a page → n ≡ rules.n → IsTrueBits rules a page → IsTrueRows a page
    → d.bits ≡ sha256 (true_text rules a page Bits) → d.rows ≡ sha256 (true_text rules a page Rows) → IsBack rules a page x z got

pub back_is : (agent : Agent) (rules : Rules) (l : Ledger) (page : ℕ) (head : BitsHead) (d : Digests) (x z : ShelfView) (got : Back) → Stands agent rules l → agent.catalogue.gone ≤ page → page < agent.page.number
    → head ≡ head_of rules l.account page → AreDigests rules l.account page d → Promises head agent.rules.n d x z got → IsBack rules l.account page x z got
back_is agent rules l page head d x z got s from to here ds promises =
    let end : page < length l.account.closings = let e = s.pages.page in omega arith in
    promises rules l.account page here (ap (λ (r : Rules). r.n) s.pages.rules_are) (true_bits_fit agent rules l.account page s.pages end) (true_rows_fit agent rules l page s from end) ds.bits ds.rows

-- what was kept of contents that were read back
pub record Keeps (c : Content) (p : ReadPage) : Type 0 where
  pub read : p.read.value ≡ c.rows
  pub same : (row : Row) → Contains p.rows row ↔ Contains c.rows row

pub got_is : (agent : Agent) (rules : Rules) (l : Ledger) (page : ℕ) (c : Content) (p : ReadPage) (x : ShelfView) → Stands agent rules l → IsRead agent.rules agent.router.number page c.bits p.resident → Keeps c p
    → IsGot rules l.account page c × (AreTold rules l.account page x → IsTrue rules l.account page c)
    → IsReadPage rules l.account page p × (AreTold rules l.account page x → IsTruePage rules l.account page p)
got_is agent rules l page c p x s is keeps got =
    let a = l.account in
    let members : c.bits.members ≡ p.resident.page.members = ap (λ b. b.members) (sym is.bits_are) in
    let rows : c.rows ≡ p.read.value = sym keeps.read in
    let b = got.0.bits in
    let r = got.0.rows in (
      record {
        family = is.family ∙ ap (λ (ru : Rules). family_of (shape_of ru agent.router.number) page) s.pages.rules_are ∙ ap (λ n. family_of (shape_of rules n) page) s.pages.router;
        same = λ row. subst (λ rs. Contains p.rows row ↔ Contains rs row) rows (keeps.same row);
        digests = record {
          bits_fit = subst (λ ms. AreBits (bits_of rules a page ms)) members b.fits;
          bits_plain = subst (λ ms. ArePlainBits (bits_of rules a page ms)) members b.plain;
          bits_same = subst (λ ms. sha256 (bits_text rules a page ms) ≡ sha256 (true_text rules a page Bits)) members b.same;
          rows_fit = subst (λ rs. AreRows (rows_of a page rs)) rows r.fits;
          rows_plain = subst (λ rs. ArePlainRows (rows_of a page rs)) rows r.plain;
          rows_same = subst (λ rs. sha256 (rows_text a page rs) ≡ sha256 (true_text rules a page Rows)) rows r.same;
        };
      },
      λ told.
          let t = got.1 told in
          ap (λ ms. let h : Held = record { bits = ms; rows = p.read.value } in h) (sym members ∙ t.bits) ∙ ap (λ rs. let h : Held = record { bits = bits rules a page; rows = rs } in h) (keeps.read ∙ t.rows),
    )

-- ---- where a page is that was put

pub on_shelf_is : (agent : Agent) (rules : Rules) (l : Ledger) (page : ℕ) (c : ClosedPage) (d : Digests) → Stands agent rules l → agent.catalogue.gone ≤ page → page < agent.page.number
    → c ≡ get_or agent.closed.items (page - agent.catalogue.gone) c → c.place ≡ OnShelf d → (is_in l.put_before page ≡ true) × AreDigests rules l.account page d
on_shelf_is agent rules l page c d s from to at is =
    let count : agent.catalogue.gone + length agent.closed.items ≡ length l.account.closings = s.count in
    let end = s.pages.page in
    let here : agent.catalogue.gone + (page - agent.catalogue.gone) ≡ page = omega arith in
    let placed = (s.closed (page - agent.catalogue.gone) c (omega arith)).placed in
    let mine : IsPlaced rules l.account page (is_in l.put_before page) c.place =
    subst (λ p. IsPlaced rules l.account p (is_in l.put_before p) c.place) here (subst (λ (k : ClosedPage). IsPlaced rules l.account (agent.catalogue.gone + (page - agent.catalogue.gone)) (is_in l.put_before (agent.catalogue.gone + (page - agent.catalogue.gone))) k.place) (sym at) placed) in
    subst (IsPlaced rules l.account page (is_in l.put_before page)) is mine

pub looked_of : (rules : Rules) (l : Ledger) (page : ℕ) (x z : ShelfView) (looked : Looked) → is_in l.put_before page ≡ true → IsReadBack rules l.account page x z looked → IsLooked rules l page x z looked
looked_of rules l page x z (Borrowed r) put is = absurd is
looked_of rules l page x z (ReadBack p) put is = (put, is)
looked_of rules l page x z (Unread cause) put is = (put, is)
