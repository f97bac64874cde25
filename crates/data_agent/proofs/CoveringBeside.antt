-- An archival beside passes, as its contract says it.
use Rattle.std.proofs.Common.{ℕ, ◌≡◌, ◌≤◌, ◌<◌, ◌+◌, ◌-◌, ◌∙◌, List, Bool, false, Option, Some, None, Vec, Global, sym, ap, subst, refl, arith, ⊎_elim, is_some}
use Rattle.std.specs.List.{Contains}
use Rattle.std.proofs.lemmas.Bool.{false≢true}
use Rattle.std.proofs.lemmas.List.Elements.{Contains-append_cases, Contains-append_right}
use Rattle.spie_base.proofs.Membership.{into_map}
use Rattle.spie_base.specs.declared.Rules.{Rules}
use Rattle.bloom_page.specs.Sets.{PageSet, is_in, set_of}
use Rattle.gate_core.specs.declared.view.Duties.{Duties}
use Rattle.page_shelf.specs.Shelves.{Contents}
use Rattle.router_account.specs.Account.{Account}
use Rattle.router_account.specs.Ledger.{Ledger, PutBits, Unfinished, at_archive}
use Rattle.router_account.specs.Shelves.{ShelfView}
use Rattle.data_agent.specs.declared.agent.Agent.{Agent}
use Rattle.data_agent.specs.declared.archival.Note.{Note}
use Rattle.data_agent.specs.declared.closed_page.Whereabouts.{Whereabouts}
use Rattle.data_agent.specs.declared.closed_page.Whereabouts.TheVariants.{InMemory, OnShelf}
use Rattle.data_agent.specs.Archiving.{IsDigest, IsSized, KnowsPages, NotesTo, KeepsStanding, held_bits, held_text, members_at, place_at, some_page}
use Rattle.data_agent.specs.Beside.{AreBitsBeside, Away, HasNotesBeside, IsPlacedBeside, IsPutDigest, StandsBeside, meaning_beside}
use Rattle.data_agent.specs.Calls.{IsNotedBeside, with_more}
use Rattle.data_agent.specs.Standing.{digest_of, noted_page, standing}
use Rattle.data_agent.proofs.Covering.{bits_then, covered_is, holds_noted, holds_still, more_of, noted_closed, only_noted, put_of, put_then}

-- ---- what the agent knows

placed_beside : (agent : Agent) (rules : Rules) (l : Ledger) (u : Unfinished) (away : Away) (page : ℕ) → StandsBeside agent rules l u away → agent.catalogue.gone ≤ page → page < standing agent
    → IsPlacedBeside rules l.account agent.keeper.view.duties away.since page (is_in l.put_before page) (place_at agent page)
placed_beside agent rules l u away page s from to =
    let at : agent.catalogue.gone + (page - agent.catalogue.gone) ≡ page = omega arith in
    subst (λ p. IsPlacedBeside rules l.account agent.keeper.view.duties away.since p (is_in l.put_before p) (place_at agent page)) at (s.closed (page - agent.catalogue.gone) (some_page agent) (omega arith)).placed

size_beside : (rules : Rules) (a : Account) (d : Duties) (since page : ℕ) (set : PageSet) → AreBitsBeside rules a d since page set → set.n ≡ rules.n
unfolding set_of
size_beside rules a d since page set = ⊎_elim (λ (lt, is). ap (λ (s : PageSet). s.n) is) (λ (has, is). ap (λ (s : PageSet). s.n) is)

sized_beside : (rules : Rules) (a : Account) (d : Duties) (since page : ℕ) (put : Bool) (w : Whereabouts) → IsPlacedBeside rules a d since page put w → IsSized rules put w
sized_beside rules a d since page put (InMemory r) is = (is.0, size_beside rules a d since page r.page is.1.bits)
sized_beside rules a d since page put (OnShelf g) is = is.0

pub knows_beside : (agent : Agent) (rules : Rules) (l : Ledger) (u : Unfinished) (away : Away) → StandsBeside agent rules l u away → KnowsPages agent rules l
knows_beside agent rules l u away s = record {
  ranges = s.pages.ranges;
  router_fits = s.pages.router_fits;
  ascend = s.pages.times;
  times = record { rules_are = s.pages.rules_are; router = s.pages.router; closings = s.pages.closings; page = s.pages.page; few = s.pages.few };
  within = s.pages.minding.order;
  sized = λ page from to. sized_beside rules l.account agent.keeper.view.duties away.since page (is_in l.put_before page) (place_at agent page) (placed_beside agent rules l u away page s from to);
  to_come = λ page le. (s.to_come page le).unput;
}

-- ---- what was put

bits_of_size : (rules : Rules) (a : Account) (d : Duties) (since page : ℕ) (set : PageSet) → AreBitsBeside rules a d since page set → AreBitsBeside rules a d since page (record { n = rules.n; members = set.members })
bits_of_size rules a d since page set is = subst (AreBitsBeside rules a d since page) (ap (λ n. let s : PageSet = record { n = n; members = set.members } in s) (size_beside rules a d since page set is)) is

bits_beside : (rules : Rules) (a : Account) (d : Duties) (since page : ℕ) (put : Bool) (w : Whereabouts) → put ≡ false → IsPlacedBeside rules a d since page put w → AreBitsBeside rules a d since page (record { n = rules.n; members = members_at w })
bits_beside rules a d since page put (InMemory r) unput is = bits_of_size rules a d since page r.page is.1.bits
bits_beside rules a d since page put (OnShelf g) unput is = absurd (false≢true (sym unput ∙ is.0))

none_refused : (rules : Rules) (l : Ledger) (u : Unfinished) (at : Option (List ℕ)) (noted : Option (Vec Note Global)) → HasNotesBeside rules l u at noted → noted ≡ None → u.refused ≡ 0
none_refused rules l u None None h e = h
none_refused rules l u (Some closings) None h e = absurd h
none_refused rules l u None (Some notes) h e = absurd h
none_refused rules l u (Some closings) (Some notes) h e = absurd (let f : Some notes ≡ None = e in cc)

pub none_noted_beside : (rules : Rules) (l : Ledger) (u : Unfinished) (at : Option (List ℕ)) (noted : Option (Vec Note Global)) → HasNotesBeside rules l u at noted → at ≡ None → noted ≡ None
none_noted_beside rules l u None None h e = refl
none_noted_beside rules l u None (Some notes) h e = absurd h
none_noted_beside rules l u (Some closings) noted h e = absurd (let f : Some closings ≡ None = e in cc)

digest_put : (agent : Agent) (rules : Rules) (a : Account) (u : Unfinished) (notes : List Note) (note : Note) (digest : Option (List ℕ)) → digest_of note.bits ≡ digest → Contains notes note → IsDigest (held_text agent rules a note.page.number) digest
    → IsPutDigest rules a (with_more u (more_of (held_bits agent) notes)) note.page.number digest
digest_put agent rules a u notes note None e has is = tt
digest_put agent rules a u notes note (Some d) e has is =
    let more : Unfinished = more_of (held_bits agent) notes in (
      bits_then (held_bits agent) note,
      Contains-append_right u.bits_put more.bits_put (bits_then (held_bits agent) note) (put_then (held_bits agent) notes note has (let f : digest_of note.bits ≡ Some d = e in ap is_some f)),
      refl,
      is,
    )

-- ---- the whole

module _ (agent : Agent) (notes : Vec Note Global) (x z : ShelfView) (none : agent.noted ≡ None) (rules : Rules) (l : Ledger) (u : Unfinished) (away : Away) (s : StandsBeside agent rules l u away)
    (noted : NotesTo agent rules l agent.catalogue.gone agent.page.number notes.items x z) where
  abbrev more : Unfinished
  more = more_of (held_bits agent) notes.items

  put_is : (b : PutBits) → Contains more.bits_put b → AreBitsBeside rules l.account agent.keeper.view.duties away.since b.page (record { n = rules.n; members = b.bits })
  put_is b has =
      let put = put_of (held_bits agent) notes.items b has in
      let page : ℕ = put.note.page.number in
      let (from, to, unput) = (noted.covers page).0 (into_map noted_page notes.items put.note put.has) in
      let here = noted.stored put.note put.has put.done in
      subst (λ (p : PutBits). AreBitsBeside rules l.account agent.keeper.view.duties away.since p.page (record { n = rules.n; members = p.bits })) put.is
      (bits_beside rules l.account agent.keeper.view.duties away.since page (is_in l.put_before page) (place_at agent page) unput (placed_beside agent rules l u away page s from here))

  pub noted_stands : StandsBeside (record agent { noted = Some notes }) rules (at_archive l) (with_more u more) away
  noted_stands =
      let p = s.pages in
      record {
        since = s.since;
        pages = record {
          ranges = p.ranges;
          router_fits = p.router_fits;
          rules_are = p.rules_are;
          router = p.router;
          by_rules = p.by_rules;
          closings = p.closings;
          times = p.times;
          few = p.few;
          page = p.page;
          entered = p.entered;
          marked = p.marked;
          minding = p.minding;
          has = p.has;
          out_is = p.out_is;
        };
        closed = λ i c lt. let is = s.closed i c lt in record { covered = is.covered; placed = is.placed };
        to_come = λ page le. let t = s.to_come page le in record { unput = t.unput; uncovered = t.uncovered };
        rows = record { table = s.rows.table; spelled = s.rows.spelled };
        expired = s.expired;
        clock = s.clock;
        noted = record {
          closed = omega arith;
          covers = λ page. (
            (λ has. (covered_is agent rules l page s.expired p.page).0 ((noted.covers page).0 has)),
            λ covered. (noted.covers page).1 ((covered_is agent rules l page s.expired p.page).1 covered),
          );
          rising = noted.rising;
          each = λ note has. digest_put agent rules l.account u notes.items note (digest_of note.bits) refl has (noted.digests note has);
          refused = let no = none_refused rules l u l.closed_at_archive agent.noted s.noted none in omega arith;
        };
        put = λ b has. ⊎_elim (λ old. s.put b old) (λ new. put_is b new) (Contains-append_cases u.bits_put more.bits_put b has);
      }

pub archived_beside : (agent : Agent) (notes : Vec Note Global) (x z : ShelfView) → agent.noted ≡ None → ((rules : Rules) (l : Ledger) → KnowsPages agent rules l → NotesTo agent rules l agent.catalogue.gone agent.page.number notes.items x z)
    → (away : Away) → IsNotedBeside (meaning_beside agent away) (meaning_beside (record agent { noted = Some notes }) away) (more_of (held_bits agent) notes.items) x.tells x.contents z.contents
archived_beside agent notes x z none all away =
    let noted : (rules : Rules) (l : Ledger) (u : Unfinished) → StandsBeside agent rules l u away → NotesTo agent rules l agent.catalogue.gone agent.page.number notes.items x z =
    λ rules l u s. all rules l (knows_beside agent rules l u away s) in
    record {
      noted = λ rules l u s. noted_stands agent notes x z none rules l u away s (noted rules l u s);
      closed = λ rules l u s. noted_closed agent rules l notes.items x z (noted rules l u s) s.pages.page;
      holds = λ rules l u s t h. holds_still agent rules l notes.items x z s.expired (noted rules l u s) t h;
      holds_bits = λ rules l u s t h. holds_noted agent rules l notes.items x z (noted rules l u s) t;
      others = λ rules l u s t name apart. (noted rules l u s).others t name (λ page has e. apart (ap (λ n. n.router.number) e));
      untouched = λ rules l u s t. only_noted agent rules l notes.items x z s.expired s.pages.page (noted rules l u s) t;
    }

-- ---- an archival of an agent that collected pages first

pub noted_before : (old middle new : Agent) (away : Away) (some : Unfinished) (tells : Bool) (before after : Contents) → KeepsStanding old middle → IsNotedBeside (meaning_beside middle away) (meaning_beside new away) some tells before after
    → IsNotedBeside (meaning_beside old away) (meaning_beside new away) some tells before after
noted_before old middle new away some tells before after keeps is = record {
  noted = λ rules l u s. is.noted rules l u (keeps.beside rules l u away s);
  closed = λ rules l u s. is.closed rules l u (keeps.beside rules l u away s);
  holds = λ rules l u s. is.holds rules l u (keeps.beside rules l u away s);
  holds_bits = λ rules l u s. is.holds_bits rules l u (keeps.beside rules l u away s);
  others = λ rules l u s. is.others rules l u (keeps.beside rules l u away s);
  untouched = λ rules l u s. is.untouched rules l u (keeps.beside rules l u away s);
}
