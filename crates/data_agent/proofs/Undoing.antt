-- What a signature was before, by the table and by what was read back.
use Rattle.std.proofs.Common.{◌↔◌, ◌⊎◌, ⊎_elim, ℕ, ◌≡◌, ◌≤◌, ◌∙◌, ◌∷◌, [], ◌++◌, List, length, map, filter, cond, true, false, not, ◌||◌, ◌==◌, nat_lt, nat_le, sym, ap, subst, refl, inl, inr, arith}
use Rattle.std.specs.List.{Contains, range_with_len, flat_map}
use Rattle.std.proofs.lemmas.Bool.{false_from_ne_true, le-leb, leb-true, false≢true}
use Rattle.std.proofs.lemmas.List.Elements.{Contains-append_cases, Contains-append_left, Contains-append_right}
use Rattle.spie_base.proofs.Booleans.{or_true, both_held, both_hold, not_false}
use Rattle.spie_base.proofs.Membership.{has_none, has_first, has_later, has_cases, from_filter, into_filter, from_map, into_map, from_flat_map, into_flat_map}
use Rattle.spie_base.specs.Ascending.{in_order}
use Rattle.spie_base.specs.Order.{sig_cmp}
use Rattle.spie_base.specs.declared.PageNo.{PageNo}
use Rattle.spie_base.specs.declared.Rules.{Rules}
use Rattle.spie_base.specs.declared.Sig.{Sig}
use Rattle.bloom_page.specs.Sets.{is_in}
use Rattle.packet_signature.specs.declared.Row.{Row}
use Rattle.packet_signature.specs.Row.{key_of, inverse_of}
use Rattle.used_pages.specs.UsedPages.{Held, UsedPage, has_key as row_has_key, rows_undone, undone}
use Rattle.router_account.specs.Account.{held, origins, rows_in, window}
use Rattle.router_account.specs.Ledger.{Ledger}
use Rattle.router_account.specs.Shelves.{ShelfView}
use Rattle.router_account.specs.Sights.{page_by, used_by, sight_by}
use Rattle.transform_table.specs.Tables.{with_key, has_key, rows_of_page}
use Rattle.data_agent.specs.declared.agent.Agent.{Agent}
use Rattle.data_agent.specs.declared.looking.Look.{Look}
use Rattle.data_agent.specs.declared.looking.Looked.{Looked}
use Rattle.data_agent.specs.declared.looking.Looked.TheVariants.{Borrowed, ReadBack, Unread}
use Rattle.data_agent.specs.Looking.{IsKnown, is_unread, looked_unread, looked_undone, reading_of, undone_by}
use Rattle.data_agent.specs.Seeing.{undone_in}
use Rattle.data_agent.specs.Standing.{Stands}
use Rattle.data_agent.proofs.Kept.{kept_here}
use Rattle.data_agent.proofs.Looks.{look_at}
use Rattle.data_agent.proofs.Ordered.{sigs_have}
use Rattle.data_agent.proofs.Origins.{has_range, has_table, table_has, is_between}
use Rattle.data_agent.proofs.Seeing.{Saw, held_in, held_is, is_used, seen_page, used_is, used_numbers}

-- a row of the table, between the ends, with the key
record IsOld (table : List (PageNo × Row)) (first last : ℕ) (sig old : Sig) : Type 0 where
  page : PageNo
  row : Row
  has : Contains table (page, row)
  key : has_key (key_of sig) (page, row) ≡ true
  from : first ≤ page.number
  to : page.number ≤ last
  is : inverse_of row sig ≡ old

old_of : (table : List (PageNo × Row)) (first last : ℕ) (sig old : Sig) → Contains (undone_in first last sig (with_key (key_of sig) table)) old → IsOld table first last sig old
old_of table first last sig old has =
    let image = from_map (λ (pair : PageNo × Row). inverse_of pair.1 sig) (filter (is_between first last) (with_key (key_of sig) table)) old has in
    let between = from_filter (is_between first last) (with_key (key_of sig) table) image.of image.has in
    let keyed = from_filter (has_key (key_of sig)) table image.of between.0 in
    let ends = both_held (nat_le first image.of.0.number) (nat_le image.of.0.number last) between.1 in
    record {
      page = image.of.0;
      row = image.of.1;
      has = keyed.0;
      key = keyed.1;
      from = leb-true first image.of.0.number ends.0;
      to = leb-true image.of.0.number last ends.1;
      is = image.is;
    }

of_old : (table : List (PageNo × Row)) (first last : ℕ) (sig : Sig) (page : PageNo) (row : Row) → Contains table (page, row) → has_key (key_of sig) (page, row) ≡ true → first ≤ page.number → page.number ≤ last → Contains (undone_in first last sig (with_key (key_of sig) table)) (inverse_of row sig)
of_old table first last sig page row has key from to =
    let pair : PageNo × Row = (page, row) in
    into_map (λ (p : PageNo × Row). inverse_of p.1 sig) (filter (is_between first last) (with_key (key_of sig) table)) pair
    (into_filter (is_between first last) (with_key (key_of sig) table) pair (into_filter (has_key (key_of sig)) table pair has key)
    (both_hold (nat_le first page.number) (nat_le page.number last) (le-leb first page.number from) (le-leb page.number last to)))

of_row : (sig : Sig) (page : UsedPage) (row : Row) → Contains page.held.rows row → (row.key == key_of sig) ≡ true → Contains (undone sig page) (inverse_of row sig)
of_row sig page row has key = into_map (λ (r : Row). inverse_of r sig) (filter (λ (r : Row). r.key == key_of sig) page.held.rows) row (into_filter (λ (r : Row). r.key == key_of sig) page.held.rows row has key)

-- a page that is used adds what it says
of_used : (agent : Agent) (rules : Rules) (l : Ledger) (time first last from : ℕ) (x : ShelfView) (looks : List Look) (look : Look) (sig old : Sig) → Saw agent rules l time first last from x looks → Contains looks look → is_unread look ≡ false
    → Contains (undone sig (page_by rules l (reading_of looks) look.page.number)) old → Contains (flat_map (undone sig) (map (page_by rules l (reading_of looks)) (used_by rules l (window rules l.account time) (reading_of looks)))) old
of_used agent rules l time first last from x looks look sig old s has read here =
    let reading = reading_of looks in
    let p = seen_page agent rules l time first last from x looks look s has in
    let used : Contains (used_by rules l (window rules l.account time) reading) look.page.number =
    into_filter (is_used rules l reading) (window rules l.account time) look.page.number (s.window_is.inside look.page.number p.from p.to) (used_is agent rules l time first last from x looks look s has ∙ ap not read) in
    into_flat_map (undone sig) (map (page_by rules l reading) (used_by rules l (window rules l.account time) reading)) (page_by rules l reading look.page.number) old
    (into_map (page_by rules l reading) (used_by rules l (window rules l.account time) reading) look.page.number used) here

-- what the table has of a page is what was recorded of a page in memory
of_table : (agent : Agent) (rules : Rules) (l : Ledger) (page : ℕ) (row : Row) → Stands agent rules l → agent.catalogue.gone ≤ page → Contains (rows_of_page page agent.table) row → (is_in l.put_before page ≡ false) × Contains (rows_in l.account.rows page) row
of_table agent rules l page row s near has =
    let unput : is_in l.put_before page ≡ false = false_from_ne_true (is_in l.put_before page) (λ put.
    has_none row (subst (λ rs. Contains rs row) (s.rows.table page ∙ ap (λ b. cond (nat_lt page agent.catalogue.gone || b) [] (rows_in l.account.rows page)) put ∙ ap (λ b. cond b [] (rows_in l.account.rows page)) (or_true (nat_lt page agent.catalogue.gone))) has)) in
    (unput, subst (λ rs. Contains rs row) (s.rows.table page ∙ kept_here agent.catalogue.gone l page near unput) has)

read_of_known : (rules : Rules) (l : Ledger) (page : ℕ) (x : ShelfView) (w : Looked) → is_in l.put_before page ≡ false → IsKnown rules l page x w → (own : Held) → (looked_unread w ≡ false) × (held_in w own ≡ own)
read_of_known rules l page x (Borrowed r) unput known own = (refl, refl)
read_of_known rules l page x (ReadBack p) unput known own = absurd (false≢true (sym unput ∙ known.0))
read_of_known rules l page x (Unread c) unput known own = absurd (false≢true (sym unput ∙ known.0))

undone_here : (agent : Agent) (rules : Rules) (l : Ledger) (time first last from : ℕ) (x : ShelfView) (looks : List Look) (sig old : Sig) → Saw agent rules l time first last from x looks
    → Contains (undone_in from last sig (with_key (key_of sig) agent.table)) old → Contains (flat_map (undone sig) (map (page_by rules l (reading_of looks)) (used_by rules l (window rules l.account time) (reading_of looks)))) old
undone_here agent rules l time first last from x looks sig old s has =
    let o = old_of agent.table from last sig old has in
    let page : ℕ = o.page.number in
    let e = s.from_is in
    let n = s.count in
    let low = o.from in
    let high = o.to in
    let near : agent.catalogue.gone ≤ page = omega arith in
    let (unput, row) = of_table agent rules l page o.row s.stands near (table_has o.page agent.table o.row o.has) in
    let k = look_at rules l x from looks page s.all low (omega arith) in
    let at : k.look.page.number ≡ page = k.is.page_is in
    let (read, own) = read_of_known rules l page x k.look.looked unput k.is.known (held rules l.account k.look.page.number) in
    let rows : (page_by rules l (reading_of looks) k.look.page.number).held.rows ≡ rows_in l.account.rows page =
    ap (λ (h : Held). h.rows) (held_is agent rules l time first last from x looks k.look (held rules l.account k.look.page.number) k.look.looked s k.has refl ∙ own) ∙ ap (rows_in l.account.rows) at in
    of_used agent rules l time first last from x looks k.look sig old s k.has read
    (subst (Contains (undone sig (page_by rules l (reading_of looks) k.look.page.number))) o.is (of_row sig (page_by rules l (reading_of looks) k.look.page.number) o.row (subst (λ rs. Contains rs o.row) (sym rows) row) o.key))

-- rows say the same whatever their order
rows_say : (sig old : Sig) (xs ys : List Row) → ((row : Row) → Contains xs row → Contains ys row) → Contains (rows_undone sig xs) old → Contains (rows_undone sig ys) old
rows_say sig old xs ys same has =
    let image = from_map (λ (r : Row). inverse_of r sig) (filter (row_has_key (key_of sig)) xs) old has in
    let keyed = from_filter (row_has_key (key_of sig)) xs image.of image.has in
    subst (Contains (rows_undone sig ys)) image.is
    (into_map (λ (r : Row). inverse_of r sig) (filter (row_has_key (key_of sig)) ys) image.of (into_filter (row_has_key (key_of sig)) ys image.of (same image.of keyed.0) keyed.1))

undone_read : (agent : Agent) (rules : Rules) (l : Ledger) (time first last from : ℕ) (x : ShelfView) (looks : List Look) (look : Look) (sig old : Sig) (w : Looked) → Saw agent rules l time first last from x looks → Contains looks look → look.looked ≡ w
    → Contains (looked_undone sig w) old → Contains (flat_map (undone sig) (map (page_by rules l (reading_of looks)) (used_by rules l (window rules l.account time) (reading_of looks)))) old
undone_read agent rules l time first last from x looks look sig old (Borrowed r) s has e in_it = absurd (has_none old in_it)
undone_read agent rules l time first last from x looks look sig old (Unread c) s has e in_it = absurd (has_none old in_it)
undone_read agent rules l time first last from x looks look sig old (ReadBack p) s has e in_it =
    of_used agent rules l time first last from x looks look sig old s has (ap looked_unread e)
    (subst (λ (h : Held). Contains (rows_undone sig h.rows) old) (sym (held_is agent rules l time first last from x looks look (held rules l.account look.page.number) (ReadBack p) s has e))
    (let known : IsKnown rules l look.page.number x (ReadBack p) = subst (IsKnown rules l look.page.number x) e (seen_page agent rules l time first last from x looks look s has).known in
    rows_say sig old p.rows p.read.value (λ row. (known.1.same row).0) in_it))

-- and the other way round
known_undone : (agent : Agent) (rules : Rules) (l : Ledger) (from last : ℕ) (x : ShelfView) (looks : List Look) (look : Look) (sig old : Sig) (w : Looked) → Stands agent rules l → Contains looks look → look.looked ≡ w → IsKnown rules l look.page.number x w → looked_unread w ≡ false
    → agent.catalogue.gone ≤ look.page.number → from ≤ look.page.number → look.page.number ≤ last
    → Contains (map (λ (r : Row). inverse_of r sig) (filter (λ (r : Row). r.key == key_of sig) (held_in w (held rules l.account look.page.number)).rows)) old
    → Contains (undone_in from last sig (with_key (key_of sig) agent.table)) old ⊎ Contains (flat_map (undone_by sig) looks) old
known_undone agent rules l from last x looks look sig old (Unread c) s has e known read near low high in_it = absurd (false≢true (sym read))
known_undone agent rules l from last x looks look sig old (ReadBack p) s has e known read near low high in_it =
    inr (into_flat_map (undone_by sig) looks look old has (subst (λ w. Contains (looked_undone sig w) old) (sym e) (rows_say sig old p.read.value p.rows (λ row. (known.1.same row).1) in_it)))
known_undone agent rules l from last x looks look sig old (Borrowed r) s has e known read near low high in_it =
    let image = from_map (λ (r : Row). inverse_of r sig) (filter (λ (r : Row). r.key == key_of sig) (rows_in l.account.rows look.page.number)) old in_it in
    let keyed = from_filter (λ (r : Row). r.key == key_of sig) (rows_in l.account.rows look.page.number) image.of image.has in
    let in_table : Contains (rows_of_page look.page.number agent.table) image.of = subst (λ rs. Contains rs image.of) (sym (s.rows.table look.page.number ∙ kept_here agent.catalogue.gone l look.page.number near known.0)) keyed.0 in
    inl (subst (Contains (undone_in from last sig (with_key (key_of sig) agent.table))) image.is
    (of_old agent.table from last sig look.page image.of (has_table look.page.number agent.table image.of in_table) keyed.1 low high))

here_undone : (agent : Agent) (rules : Rules) (l : Ledger) (time first last from : ℕ) (x : ShelfView) (looks : List Look) (sig old : Sig) → Saw agent rules l time first last from x looks
    → Contains (flat_map (undone sig) (map (page_by rules l (reading_of looks)) (used_by rules l (window rules l.account time) (reading_of looks)))) old
    → Contains (undone_in from last sig (with_key (key_of sig) agent.table)) old ⊎ Contains (flat_map (undone_by sig) looks) old
here_undone agent rules l time first last from x looks sig old s has =
    let reading = reading_of looks in
    let piece = from_flat_map (undone sig) (map (page_by rules l reading) (used_by rules l (window rules l.account time) reading)) old has in
    let used = from_map (page_by rules l reading) (used_by rules l (window rules l.account time) reading) piece.of piece.has in
    let page : ℕ = used.of in
    let numbers : Contains (filter (is_used rules l reading) (range_with_len from (length looks))) page = subst (λ xs. Contains xs page) (used_numbers agent rules l time first last from x looks s) used.has in
    let kept = from_filter (is_used rules l reading) (range_with_len from (length looks)) page numbers in
    let ends = has_range from (length looks) page kept.0 in
    let k = look_at rules l x from looks page s.all ends.0 ends.1 in
    let at : k.look.page.number ≡ page = k.is.page_is in
    let p = seen_page agent rules l time first last from x looks k.look s k.has in
    let low = ends.0 in
    let read : is_unread k.look ≡ false = not_false (is_unread k.look) (sym (used_is agent rules l time first last from x looks k.look s k.has) ∙ ap (is_used rules l reading) at ∙ kept.1) in
    let inside : Contains (undone sig (page_by rules l reading page)) old = subst (λ (q : UsedPage). Contains (undone sig q) old) (sym used.is) piece.in_piece in
    let mine : Contains (undone sig (page_by rules l reading k.look.page.number)) old = subst (λ n. Contains (undone sig (page_by rules l reading n)) old) (sym at) inside in
    known_undone agent rules l from last x looks k.look sig old k.look.looked s.stands k.has refl p.known read p.near (omega arith) p.to
    (subst (λ (h : Held). Contains (map (λ (r : Row). inverse_of r sig) (filter (λ (r : Row). r.key == key_of sig) h.rows)) old) (held_is agent rules l time first last from x looks k.look (held rules l.account k.look.page.number) k.look.looked s k.has refl) mine)

pub origins_are : (agent : Agent) (rules : Rules) (l : Ledger) (time first last from : ℕ) (x : ShelfView) (looks : List Look) (sig old : Sig) → Saw agent rules l time first last from x looks
    → Contains (in_order sig_cmp (sig ∷ (undone_in from last sig (with_key (key_of sig) agent.table) ++ flat_map (undone_by sig) looks))) old ↔ Contains (origins (sight_by rules l (window rules l.account time) (reading_of looks)) sig) old
origins_are agent rules l time first last from x looks sig old s =
    let mine : List Sig = undone_in from last sig (with_key (key_of sig) agent.table) in
    let back : List Sig = flat_map (undone_by sig) looks in
    let theirs : List Sig = flat_map (undone sig) (map (page_by rules l (reading_of looks)) (used_by rules l (window rules l.account time) (reading_of looks))) in (
      (λ h. ⊎_elim
          (λ e. subst (Contains (sig ∷ theirs)) e (has_first sig theirs))
          (λ later. has_later sig theirs old (⊎_elim
          (λ here. undone_here agent rules l time first last from x looks sig old s here)
          (λ read. let piece = from_flat_map (undone_by sig) looks old read in undone_read agent rules l time first last from x looks piece.of sig old piece.of.looked s piece.has refl piece.in_piece)
          (Contains-append_cases mine back old later)))
          (has_cases sig (mine ++ back) old ((sigs_have (sig ∷ (mine ++ back)) old).0 h))),
      λ h. (sigs_have (sig ∷ (mine ++ back)) old).1 (⊎_elim
          (λ e. subst (Contains (sig ∷ (mine ++ back))) e (has_first sig (mine ++ back)))
          (λ later. has_later sig (mine ++ back) old (⊎_elim
          (λ here. Contains-append_left mine back old here)
          (λ read. Contains-append_right mine back old read)
          (here_undone agent rules l time first last from x looks sig old s later)))
          (has_cases sig theirs old h)),
    )
