-- The records of a page have their fields in range.
use Rattle.std.proofs.Common.{ℕ, zero, suc, ◌≡◌, ◌≤◌, ◌<◌, ◌+◌, ◌*◌, ◌/◌, ◌%◌, ◌^◌, ◌∙◌, Bool, true, Option, Some, None, List, length, get_or, sym, ap, refl, subst, arith, lit<}
use Rattle.std.proofs.lemmas.List.{get_or_default}
use Rattle.spie_base.specs.Shapes.{shape_of}
use Rattle.spie_base.specs.declared.types.TheConstants.{N_LEAST, N_MOST}
use Rattle.spie_base.specs.declared.Rules.{Rules}
use Rattle.std.specs.Int.Bits.{bit_xor}
use Rattle.std.proofs.lemmas.Nat.{mod_below, xor_lt}
use Rattle.hash_family.specs.SplitMix.{mixed, word, grown, state_after}
use Rattle.hash_family.specs.Positions.{page_seed_of}
use Rattle.hash_family.specs.Entries.{is_marked}
use Rattle.bloom_page.specs.Sets.{PageSet, set_of}
use Rattle.archive_record.specs.Spelling.{bits_record, spelled_bits}
use Rattle.archive_record.specs.declared.BitsHead.{BitsHead}
use Rattle.page_shelf.specs.declared.ShelfPart.TheVariants.{Bits}
use Rattle.router_account.specs.Account.{bits, page_set}
use Rattle.router_account.specs.Records.{bits_text, head_of, name_of}
use Rattle.router_account.specs.Shelves.{ShelfView}
use Rattle.shelved_page.specs.Shelving.{IsPut}
use Rattle.std.specs.Borrow.{Bor}
use Rattle.data_agent.specs.declared.closed_page.Whereabouts.{Whereabouts}
use Rattle.data_agent.specs.declared.closed_page.Whereabouts.TheVariants.{InMemory, OnShelf}
use Rattle.data_agent.specs.declared.resident.Resident.{Resident}
use Rattle.bloom_page.proofs.WordFacts.{members_of-words_of}
use Rattle.archive_record.specs.Spelling.{AreBits, AreRows}
use Rattle.page_catalogue.specs.Pages.{opened, closed}
use Rattle.shelved_page.specs.Reading.{IsTrueBits, IsTrueRows, true_bits, true_rows}
use Rattle.router_account.specs.Account.{Account, rows_in}
use Rattle.router_account.specs.Ledger.{Ledger}
use Rattle.data_agent.specs.declared.agent.Agent.{Agent}
use Rattle.data_agent.specs.Archiving.{IsHeld, IsSized, KnowsPages, held_text, members_at, place_at}
use Rattle.data_agent.specs.Standing.{AreTimes, HasPages, AreSpelled, Stands}

closed_fits : (closings : List ℕ) (page : ℕ) → AreTimes closings → page < length closings → closed closings page < 2 ^ 48
closed_fits closings page times lt = times.fit (get_or closings page 0) (page, lt, sym (get_or_default closings page 0 (get_or closings page 0) lt))

opened_fits : (closings : List ℕ) (page : ℕ) → AreTimes closings → page < length closings → opened closings page < 2 ^ 48
opened_fits closings zero times lt = lit< tt
opened_fits closings (suc page) times lt = closed_fits closings page times (omega arith)

opened_before : (closings : List ℕ) (page : ℕ) → AreTimes closings → page < length closings → opened closings page ≤ closed closings page
opened_before closings zero times lt = omega arith
opened_before closings (suc page) times lt = times.ascend page (suc page) (omega arith) lt

mixed_fits : (state : ℕ) → mixed state < 2 ^ 64
unfolding mixed
mixed_fits state =
    let a = (bit_xor state (state / 2 ^ 30) * 0xBF58476D1CE4E5B9) % 2 ^ 64 in
    let b = (bit_xor a (a / 2 ^ 27) * 0x94D049BB133111EB) % 2 ^ 64 in
    let low : b < 2 ^ 64 = mod_below (bit_xor a (a / 2 ^ 27) * 0x94D049BB133111EB) (2 ^ 64) (lit< tt) in
    let part : b / 2 ^ 31 < 2 ^ 64 = omega arith in
    xor_lt 64 b (b / 2 ^ 31) low part

pub bits_fit : (agent : Agent) (rules : Rules) (a : Account) (page : ℕ) → HasPages agent rules a → page < length a.closings → AreBits (true_bits rules a page)
bits_fit agent rules a page s lt = record {
  router = s.router_fits;
  some = s.ranges.k_least;
  most = s.ranges.k_most;
  low = s.ranges.n_least;
  high = s.ranges.n_most;
  opened = opened_fits a.closings page s.times lt;
  after = opened_before a.closings page s.times lt;
  closed = closed_fits a.closings page s.times lt;
}

seed_fits : (base router page : ℕ) → page_seed_of base router page < 2 ^ 64
unfolding page_seed_of word
seed_fits base router page = mixed_fits (grown (state_after (bit_xor base (router * 2 ^ 32 + page)) 0))

pub true_bits_fit : (agent : Agent) (rules : Rules) (a : Account) (page : ℕ) → HasPages agent rules a → page < length a.closings → IsTrueBits rules a page
unfolding set_of
true_bits_fit agent rules a page s lt = record {
  fits = bits_fit agent rules a page s lt;
  plain = record {
    page = let f = s.few in omega arith;
    seed = seed_fits rules.base a.router page;
    bits = ap (λ x. x.members) (members_of-words_of rules.n (is_marked (shape_of rules a.router) a.entries page) s.ranges.n_least);
  };
}

pub rows_fit : (a : Account) (page : ℕ) → a.router < 64 → AreSpelled (rows_in a.rows page) → AreRows (true_rows a page)
rows_fit a page router s = record { router = router; count = s.few; rows = s.kinds }

pub true_rows_fit : (agent : Agent) (rules : Rules) (l : Ledger) (page : ℕ) → Stands agent rules l → agent.catalogue.gone ≤ page → page < length l.account.closings → IsTrueRows l.account page
true_rows_fit agent rules l page s from lt = record {
  fits = rows_fit l.account page s.pages.router_fits (s.rows.spelled page from);
  plain = record { page = let f = s.pages.few in omega arith; rows = (s.rows.spelled page from).plain };
}

-- ---- the bits record of a page in memory

pub set_is : (rules : Rules) (a : Account) (page : ℕ) → page_set rules a page ≡ record { n = rules.n; members = bits rules a page }
unfolding set_of
set_is rules a page = refl

pub noted_fits : (agent : Agent) (rules : Rules) (l : Ledger) (page : ℕ) (head : BitsHead) (bits : PageSet) → KnowsPages agent rules l → page < agent.page.number → head ≡ head_of rules l.account page → bits.n ≡ rules.n → AreBits (bits_record head bits)
noted_fits agent rules l page head bits k lt here size =
    let within : page < length l.account.closings = let p = k.times.page in omega arith in
    subst (λ h. AreBits (bits_record h bits)) (sym here) (record {
      router = k.router_fits;
      some = k.ranges.k_least;
      most = k.ranges.k_most;
      low = subst (λ n. N_LEAST ≤ n) (sym size) k.ranges.n_least;
      high = subst (λ n. n ≤ N_MOST) (sym size) k.ranges.n_most;
      opened = opened_fits l.account.closings page k.ascend within;
      after = opened_before l.account.closings page k.ascend within;
      closed = closed_fits l.account.closings page k.ascend within;
    })

pub noted_text : (rules : Rules) (a : Account) (page : ℕ) (head : BitsHead) (bits : PageSet) → head ≡ head_of rules a page → bits.n ≡ rules.n → spelled_bits (bits_record head bits) ≡ bits_text rules a page bits.members
noted_text rules a page head bits here size = ap (λ h. spelled_bits (bits_record h bits)) here ∙ ap (λ n. spelled_bits (bits_record (head_of rules a page) (record { n = n; members = bits.members }))) size

-- ---- the page that an archival found in memory

pub held_at : (w : Whereabouts) (given : Option (Bor Resident)) (held : Bor Resident) → IsHeld w given → given ≡ Some held → w ≡ InMemory held.now
held_at (InMemory r) None held is some = absurd is
held_at (InMemory r) (Some b) held is some = ap InMemory (sym is ∙ ap (λ (x : Bor Resident). x.now) (let e : b ≡ held = cc in e))
held_at (OnShelf d) None held is some = absurd (let f : None ≡ Some held = some in cc)
held_at (OnShelf d) (Some b) held is some = absurd is

pub none_at : (w : Whereabouts) (rules : Rules) (put : Bool) (given : Option (Bor Resident)) → IsHeld w given → given ≡ None → IsSized rules put w → put ≡ true
none_at (InMemory r) rules put None is none sized = absurd is
none_at (InMemory r) rules put (Some b) is none sized = absurd (let f : Some b ≡ None = none in cc)
none_at (OnShelf d) rules put given is none sized = sized

pub put_held : (agent : Agent) (rules : Rules) (l : Ledger) (page : ℕ) (head : BitsHead) (r : Resident) (x z : ShelfView) (digest : Option (List ℕ)) → head ≡ head_of rules l.account page → r.page.n ≡ rules.n → place_at agent page ≡ InMemory r
    → IsPut (name_of head.router.number head.page.number Bits) (spelled_bits (bits_record head r.page)) x z digest → IsPut (name_of l.account.router page Bits) (held_text agent rules l.account page) x z digest
put_held agent rules l page head r x z digest here size at put =
    subst (λ (h : BitsHead). IsPut (name_of h.router.number h.page.number Bits) (held_text agent rules l.account page) x z digest) here
    (subst (λ t. IsPut (name_of head.router.number head.page.number Bits) t x z digest) (noted_text rules l.account page head r.page here size ∙ ap (bits_text rules l.account page) (sym (ap members_at at))) put)
