-- What a query is told of the pages that it sees.
use Rattle.std.proofs.Common.{◌↔◌, ◌⊎◌, ⊎_elim, Vec, Global, ℕ, ◌≡◌, ◌≤◌, ◌+◌, ◌-◌, ◌∙◌, ◌∷◌, [], ◌++◌, List, length, map, cond, min, Bor, Bool, true, false, not, ◌||◌, ◌==◌, Option, Some, None, is_some, sym, ap, subst, refl, inl, inr, arith}
use Rattle.std.specs.List.{Contains, list_any, flat_map}
use Rattle.std.proofs.lemmas.Bool.{cases_lt, le-leb, lt-leb, false≢true, ltb-false}
use Rattle.spie_base.proofs.Booleans.{or_true}
use Rattle.spie_base.proofs.Bounds.{some_items}
use Rattle.spie_base.proofs.Membership.{has_first}
use Rattle.spie_base.specs.Ascending.{in_order}
use Rattle.spie_base.specs.Order.{sig_cmp}
use Rattle.spie_base.specs.declared.PageNo.{PageNo}
use Rattle.spie_base.specs.declared.PageRange.{PageRange}
use Rattle.spie_base.specs.declared.Rules.{Rules}
use Rattle.bloom_page.specs.Sets.{is_in}
use Rattle.bloom_page.proofs.Members.{Contains-from_is_in, is_in-from_Contains}
use Rattle.packet_signature.specs.declared.Row.{Row}
use Rattle.packet_signature.specs.Row.{key_of}
use Rattle.router_account.specs.declared.Unreadable.{Unreadable}
use Rattle.used_pages.specs.UsedPages.{Held}
use Rattle.router_account.specs.Account.{held, origins, window}
use Rattle.router_account.specs.Ledger.{Ledger, was_expired}
use Rattle.router_account.specs.Readings.{IsReadFrom}
use Rattle.router_account.specs.Records.{AllFailed, AreTold, AreTrue, HasDigests, Holds}
use Rattle.router_account.specs.Shelves.{ShelfView}
use Rattle.router_account.specs.Sights.{GotPage, UnreadPage, IsRead, IsShelved, is_missing, is_unread as is_unread_in, sight_by, page_no, range_of, unreadable_of}
use Rattle.transform_table.specs.Tables.{with_key}
use Rattle.data_agent.specs.declared.agent.Agent.{Agent}
use Rattle.data_agent.specs.declared.looking.Look.{Look}
use Rattle.data_agent.specs.declared.looking.Looked.{Looked}
use Rattle.data_agent.specs.declared.looking.Looked.TheVariants.{Borrowed, ReadBack, Unread}
use Rattle.data_agent.specs.declared.looking.ReadPage.{ReadPage}
use Rattle.data_agent.specs.declared.sight.Sight.{Sight}
use Rattle.data_agent.specs.Calls.{IsSeen}
use Rattle.data_agent.specs.Looking.{IsKnown, LooksTo, is_unread, looked_unread, reading_of, undone_by, unread_of, used_of}
use Rattle.data_agent.specs.Seeing.{shown_by, told_by, expired_in, undone_in}
use Rattle.data_agent.proofs.Looks.{fetched_is, got_rising, into_got, look_at, lost_is, unread_rising, unread_told, used_looks}
use Rattle.data_agent.proofs.Watching.{any_has, none_has}
use Rattle.data_agent.proofs.Windows.{page_gone, page_live}
use Rattle.data_agent.proofs.Seeing.{Saw, expired_run, hit_is, is_used, looked_read, range_run, seen_page, unread_is, used_is, used_numbers}
use Rattle.data_agent.proofs.Undoing.{origins_are}

-- ---- what is missing

missing_where : (agent : Agent) (rules : Rules) (l : Ledger) (time first last from : ℕ) (x : ShelfView) (looks : List Look) (unread : List UnreadPage) → Saw agent rules l time first last from x looks → (reading_of looks).unread ≡ unread → agent.catalogue.gone ≤ first
    → not (length (map unreadable_of unread) == 0) ≡ list_any (is_missing rules l (reading_of looks)) (window rules l.account time)
missing_where agent rules l time first last from x looks [] s e near =
    sym (none_has (is_missing rules l (reading_of looks)) (window rules l.account time) (λ page has.
    let out = s.window_is.outside page has in
    let low : first ≤ page = out.0 in
    ap (λ b. b || is_unread_in (reading_of looks) page) (page_live agent rules l s.stands.expired page (omega arith)) ∙ ap (list_any (λ (y : UnreadPage). y.page == page)) e))
missing_where agent rules l time first last from x looks (y ∷ more) s e near =
    let in_it : Contains (reading_of looks).unread y = subst (λ ys. Contains ys y) (sym e) (has_first y more) in
    let i = lost_is looks y in_it in
    let p = seen_page agent rules l time first last from x looks i.look s i.has in
    ap not (some_items (unreadable_of y) (map unreadable_of more))
    ∙ sym (any_has (is_missing rules l (reading_of looks)) (window rules l.account time) i.look.page.number (s.window_is.inside i.look.page.number p.from p.to)
    (ap (λ b. was_expired rules l i.look.page.number || b) (unread_is agent rules l time first last from x looks i.look s i.has ∙ ap looked_unread i.is) ∙ or_true (was_expired rules l i.look.page.number)))

missing_is : (agent : Agent) (rules : Rules) (l : Ledger) (time first last from : ℕ) (x : ShelfView) (looks : List Look) → Saw agent rules l time first last from x looks
    → (is_some (expired_in first last agent.catalogue.gone) || not (length (unread_of looks) == 0)) ≡ list_any (is_missing rules l (reading_of looks)) (window rules l.account time)
missing_is agent rules l time first last from x looks s =
    let gone : ℕ = agent.catalogue.gone in
    let range : Option PageRange = Some (record { first = record { number = first }; last = record { number = min last (gone - 1) } }) in
    let lost : Bool = not (length (unread_of looks) == 0) in
    elim (cases_lt first gone) [
      | inl early ↦
          ap (λ b. is_some (cond b None range) || lost) (lt-leb gone first early)
          ∙ sym (any_has (is_missing rules l (reading_of looks)) (window rules l.account time) first (s.window_is.inside first (omega arith) s.window_is.some) (ap (λ b. b || is_unread_in (reading_of looks) first) (page_gone agent rules l s.stands.expired first early)))
      | inr late ↦
          ap (λ b. is_some (cond b None range) || lost) (le-leb gone first late)
          ∙ ap (λ us. not (length us == 0)) (unread_told looks)
          ∙ missing_where agent rules l time first last from x looks (reading_of looks).unread s refl late
    ]

-- ---- the reading

put_known : (rules : Rules) (l : Ledger) (page : ℕ) (x : ShelfView) (w : Looked) → IsKnown rules l page x w → looked_unread w ≡ true ⊎ looked_read w ≡ true → is_in l.put_before page ≡ true
put_known rules l page x (Borrowed r) known h = ⊎_elim (λ e. absurd (false≢true e)) (λ e. absurd (false≢true e)) h
put_known rules l page x (ReadBack p) known h = known.0
put_known rules l page x (Unread c) known h = known.0

shelved_is : (agent : Agent) (rules : Rules) (l : Ledger) (time first last from : ℕ) (x : ShelfView) (looks : List Look) (look : Look) → Saw agent rules l time first last from x looks → Contains looks look → looked_unread look.looked ≡ true ⊎ looked_read look.looked ≡ true
    → IsShelved rules l (window rules l.account time) look.page.number
shelved_is agent rules l time first last from x looks look s has h =
    let p = seen_page agent rules l time first last from x looks look s has in
    record {
      window = s.window_is.inside look.page.number p.from p.to;
      live = p.live;
      put = Contains-from_is_in l.put_before look.page.number (put_known rules l look.page.number x look.looked p.known h);
    }

got_where : (agent : Agent) (rules : Rules) (l : Ledger) (time first last from : ℕ) (x : ShelfView) (looks : List Look) (look : Look) (w : Looked) → Saw agent rules l time first last from x looks → Contains looks look → look.looked ≡ w → IsKnown rules l look.page.number x w
    → is_in l.put_before look.page.number ≡ true → looked_unread w ≡ false → (y : GotPage) × Contains (reading_of looks).got y × (y.page ≡ look.page.number)
got_where agent rules l time first last from x looks look (Borrowed r) s has e known put read = absurd (false≢true (sym known.0 ∙ put))
got_where agent rules l time first last from x looks look (ReadBack p) s has e known put read = (record { page = look.page.number; held = record { bits = p.resident.page.members; rows = p.read.value } }, into_got looks look p has e, refl)
got_where agent rules l time first last from x looks look (Unread c) s has e known put read = absurd (false≢true (sym read))

read_is : (agent : Agent) (rules : Rules) (l : Ledger) (time first last from : ℕ) (x : ShelfView) (looks : List Look) → Saw agent rules l time first last from x looks → IsRead rules l (window rules l.account time) (reading_of looks)
read_is agent rules l time first last from x looks s = record {
  unread_rises = unread_rising rules l x from looks s.all;
  unread = λ y has.
      let i = lost_is looks y has in
      subst (IsShelved rules l (window rules l.account time)) i.at (shelved_is agent rules l time first last from x looks i.look s i.has (inl (ap looked_unread i.is)));
  got_rises = got_rising rules l x from looks s.all;
  got = λ page. (
    (λ (y, has, at).
        let i = fetched_is looks y has in
        let here : i.look.page.number ≡ page = i.at ∙ at in (
          subst (IsShelved rules l (window rules l.account time)) here (shelved_is agent rules l time first last from x looks i.look s i.has (inr (ap looked_read i.is))),
          subst (λ n. is_unread_in (reading_of looks) n ≡ false) here (unread_is agent rules l time first last from x looks i.look s i.has ∙ ap looked_unread i.is),
        )),
    λ (shelved, read).
        let out = s.window_is.outside page shelved.window in
        let near : agent.catalogue.gone ≤ page = ltb-false page agent.catalogue.gone (s.stands.expired page ∙ shelved.live) in
        let low = out.0 in
        let high = out.1 in
        let e = s.from_is in
        let n = s.count in
        let k = look_at rules l x from looks page s.all (omega arith) (omega arith) in
        let at : k.look.page.number ≡ page = k.is.page_is in
        let put : is_in l.put_before k.look.page.number ≡ true = subst (λ p. is_in l.put_before p ≡ true) (sym at) (is_in-from_Contains l.put_before page shelved.put) in
        let none : is_unread k.look ≡ false = sym (unread_is agent rules l time first last from x looks k.look s k.has) ∙ ap (is_unread_in (reading_of looks)) at ∙ read in
        let (y, has, there) = got_where agent rules l time first last from x looks k.look k.look.looked s k.has refl (seen_page agent rules l time first last from x looks k.look s k.has).known put none in
        (y, has, there ∙ at),
  );
}

fetched_digests : (rules : Rules) (l : Ledger) (x : ShelfView) (look : Look) (p : ReadPage) (y : GotPage) → IsKnown rules l look.page.number x look.looked → look.looked ≡ ReadBack p → look.page.number ≡ y.page
    → (let h : Held = record { bits = p.resident.page.members; rows = p.read.value } in h) ≡ y.held → HasDigests rules l.account y × (AreTold rules l.account y.page x → y.held ≡ held rules l.account y.page)
fetched_digests rules l x look p y known is at same =
    let k : IsKnown rules l look.page.number x (ReadBack p) = subst (IsKnown rules l look.page.number x) is known in
    let h : Held = record { bits = p.resident.page.members; rows = p.read.value } in
    let whole : (let q : GotPage = record { page = look.page.number; held = h } in q) ≡ y = ap (λ n. let q : GotPage = record { page = n; held = h } in q) at ∙ ap (λ g. let q : GotPage = record { page = y.page; held = g } in q) same in
    (subst (HasDigests rules l.account) whole k.1.digests, λ told. sym same ∙ k.2 (subst (λ n. AreTold rules l.account n x) (sym at) told) ∙ ap (held rules l.account) at)

-- ---- the whole

pub seen : (agent : Agent) (rules : Rules) (l : Ledger) (time first last from : ℕ) (x : ShelfView) (looks : Vec Look Global) (rows : Bor (List (PageNo × Row))) (expired : Option PageRange) (unreadable : List Unreadable) (used : List PageNo)
    → Saw agent rules l time first last from x looks.items → rows.now ≡ agent.table → unreadable ≡ unread_of looks.items → used ≡ used_of looks.items → expired ≡ expired_in first last agent.catalogue.gone
    → (let sight : Sight = record { looks = looks; rows = rows; first = from; last = last; expired = expired; unreadable = unreadable; used = used } in IsSeen rules l time (shown_by sight) (told_by sight))
seen agent rules l time first last from x looks rows expired unreadable used s table lost mine gone =
    let ps = window rules l.account time in
    let reading = reading_of looks.items in
    record {
      read = read_is agent rules l time first last from x looks.items s;
      digests = λ y has.
          let i = fetched_is looks.items y has in
          (fetched_digests rules l x i.look i.page y (seen_page agent rules l time first last from x looks.items i.look s i.has).known i.is i.at i.held_is).0;
      hit = λ sig. hit_is agent rules l time first last from x looks.items sig s;
      origins = λ sig old. subst (λ t. Contains (in_order sig_cmp (sig ∷ (undone_in from last sig (with_key (key_of sig) t) ++ flat_map (undone_by sig) looks.items))) old ↔ Contains (origins (sight_by rules l ps reading) sig) old) (sym table)
          (origins_are agent rules l time first last from x looks.items sig old s);
      missing = ap (λ o. is_some o || not (length unreadable == 0)) gone ∙ ap (λ us. is_some (expired_in first last agent.catalogue.gone) || not (length us == 0)) lost ∙ missing_is agent rules l time first last from x looks.items s;
      expired_is = gone ∙ range_run first last agent.catalogue.gone s.window_is.some ∙ ap range_of (sym (expired_run agent rules l time first last s.stands.expired s.window_is));
      unreadable_is = lost ∙ unread_told looks.items;
      used_is = mine ∙ sym (used_looks rules l x from looks.items (is_used rules l reading) s.all (λ look has. used_is agent rules l time first last from x looks.items look s has))
          ∙ ap (map page_no) (sym (used_numbers agent rules l time first last from x looks.items s));
    }

-- ---- where the shelf tells the true records

told_of : (agent : Agent) (rules : Rules) (l : Ledger) (time first last from : ℕ) (x : ShelfView) (looks : List Look) (look : Look) → Saw agent rules l time first last from x looks → Contains looks look → looked_unread look.looked ≡ true ⊎ looked_read look.looked ≡ true
    → x.tells ≡ true → Holds rules x.contents l → AreTold rules l.account look.page.number x
told_of agent rules l time first last from x looks look s has h t holds =
    let shelved = shelved_is agent rules l time first last from x looks look s has h in
    (t, λ part. holds.put look.page.number part shelved.put shelved.live)

pub true_read : (agent : Agent) (rules : Rules) (l : Ledger) (time first last from : ℕ) (x : ShelfView) (looks : List Look) → Saw agent rules l time first last from x looks → x.tells ≡ true → Holds rules x.contents l → AreTrue rules l.account (reading_of looks)
true_read agent rules l time first last from x looks s t holds y has =
    let i = fetched_is looks y has in
    (fetched_digests rules l x i.look i.page y (seen_page agent rules l time first last from x looks i.look s i.has).known i.is i.at i.held_is).1
    (subst (λ n. AreTold rules l.account n x) i.at (told_of agent rules l time first last from x looks i.look s i.has (inr (ap looked_read i.is)) t holds))

pub only_failed : (agent : Agent) (rules : Rules) (l : Ledger) (time first last from : ℕ) (x : ShelfView) (looks : List Look) → Saw agent rules l time first last from x looks → x.tells ≡ true → Holds rules x.contents l → AllFailed (reading_of looks)
only_failed agent rules l time first last from x looks s t holds y has =
    let i = lost_is looks y has in
    let known : IsKnown rules l i.look.page.number x (Unread y.cause) = subst (IsKnown rules l i.look.page.number x) i.is (seen_page agent rules l time first last from x looks i.look s i.has).known in
    known.1 (told_of agent rules l time first last from x looks i.look s i.has (inl (ap looked_unread i.is)) t holds)

-- what was read, by the shelf before the first page was asked and after the last
pub read_from : (agent : Agent) (rules : Rules) (l : Ledger) (time first last from : ℕ) (x z : ShelfView) (looks : List Look) → Saw agent rules l time first last from x looks → LooksTo rules l from (last + 1 - from) looks x z → IsReadFrom rules l.account x z (reading_of looks)
read_from agent rules l time first last from x z looks s looked = record {
  causes = looked.causes;
  told = λ y has told.
      let i = fetched_is looks y has in
      (fetched_digests rules l x i.look i.page y (seen_page agent rules l time first last from x looks i.look s i.has).known i.is i.at i.held_is).1 told;
}
