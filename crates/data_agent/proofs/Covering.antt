-- An archival, as its contract says it.
use Rattle.std.proofs.Common.{ℕ, ◌≡◌, ◌≤◌, ◌<◌, ◌∙◌, ◌↔◌, List, length, map, filter, true, false, Option, Some, None, Vec, Global, sym, ap, subst, refl, arith}
use Rattle.std.specs.List.{Contains}
use Rattle.std.proofs.lemmas.Bool.{false≢true, ltb-true, lt-ltb, ltb-false}
use Rattle.std.proofs.lemmas.List.{map-append}
use Rattle.std.proofs.lemmas.List.Elements.{Contains-append_right}
use Rattle.sha2.specs.Sha256.{sha256}
use Rattle.spie_base.proofs.Membership.{from_map, into_map, from_filter, into_filter}
use Rattle.spie_base.specs.declared.Rules.{Rules}
use Rattle.bloom_page.specs.Sets.{is_in}
use Rattle.bloom_page.proofs.Members.{is_in-from_Contains}
use Rattle.page_shelf.specs.Shelves.{ChangesOnly}
use Rattle.page_shelf.specs.declared.ShelfName.{ShelfName}
use Rattle.page_shelf.specs.declared.ShelfPart.TheVariants.{Bits}
use Rattle.page_catalogue.specs.Catalogues.{AreExpired}
use Rattle.router_account.specs.Account.{Account, bits}
use Rattle.router_account.specs.Barriers.{IsCovered, archive_view}
use Rattle.router_account.specs.Ledger.{Ledger, PutBits, Unfinished, at_archive}
use Rattle.router_account.specs.Records.{Holds, HoldsBits, bits_text, name_of, true_text}
use Rattle.router_account.specs.Shelves.{ShelfView}
use Rattle.data_agent.specs.declared.agent.Agent.{Agent}
use Rattle.data_agent.specs.declared.archival.Note.{Note}
use Rattle.data_agent.specs.Archiving.{IsDigest, KnowsPages, NotesTo, held_bits, held_text}
use Rattle.data_agent.specs.Calls.{IsNoted, IsNotedName, with_more}
use Rattle.data_agent.specs.Standing.{IsBitsDigest, Stands, StandsWhole, digest_of, is_refused, is_stored, noted_page, put_page}
use Rattle.data_agent.proofs.Alike.{not_noted, stands_like}
use Rattle.data_agent.proofs.Kept.{held_true, knows_whole}
use Rattle.data_agent.proofs.Members.{is_in-none}
use Rattle.data_agent.proofs.Puts.{same_page}
use Rattle.data_agent.proofs.Staying.{stands_same}
use Rattle.data_agent.proofs.Windows.{page_live}

-- a bits record that was put, where the pages have these bits
abbrev pub bits_then : (bits_of : ℕ → List ℕ) → Note → PutBits
bits_then bits_of note = record { page = note.page.number; bits = bits_of note.page.number }

-- what notes add to what is unfinished
abbrev pub more_of : (bits_of : ℕ → List ℕ) → List Note → Unfinished
more_of bits_of notes = record { refused = length (filter is_refused notes); bits_put = map (bits_then bits_of) (filter is_stored notes) }

-- a bits record that was put, and its note
pub record IsPutOf (bits_of : ℕ → List ℕ) (notes : List Note) (x : PutBits) : Type 0 where
  pub note : Note
  pub has : Contains notes note
  pub done : is_stored note ≡ true
  pub is : bits_then bits_of note ≡ x

pub put_of : (bits_of : ℕ → List ℕ) (notes : List Note) (x : PutBits) → Contains (more_of bits_of notes).bits_put x → IsPutOf bits_of notes x
put_of bits_of notes x has =
    let image = from_map (bits_then bits_of) (filter is_stored notes) x has in
    let kept = from_filter is_stored notes image.of image.has in
    record { note = image.of; has = kept.0; done = kept.1; is = image.is }

pub put_then : (bits_of : ℕ → List ℕ) (notes : List Note) (note : Note) → Contains notes note → is_stored note ≡ true → Contains (more_of bits_of notes).bits_put (bits_then bits_of note)
put_then bits_of notes note has done = into_map (bits_then bits_of) (filter is_stored notes) note (into_filter is_stored notes note has done)

pub put_has : (bits_of : ℕ → List ℕ) (notes : List Note) (note : Note) → Contains notes note → is_stored note ≡ true → Contains (map put_page (more_of bits_of notes).bits_put) note.page.number
put_has bits_of notes note has done = into_map put_page (more_of bits_of notes).bits_put (bits_then bits_of note) (put_then bits_of notes note has done)

-- the pages that are noted are those that an archival covers now
pub covered_is : (agent : Agent) (rules : Rules) (l : Ledger) (page : ℕ) → AreExpired rules l.closings_then l.clock_then agent.catalogue.gone → agent.page.number ≡ length l.account.closings
    → ((agent.catalogue.gone ≤ page) × (page < agent.page.number) × (is_in l.put_before page ≡ false)) ↔ IsCovered rules (archive_view l l.account.closings) page
covered_is agent rules l page expired end = (
  (λ (from, to, unput). record {
    closed = lt-ltb page (length l.account.closings) (omega arith);
    live = page_live agent rules l expired page from;
    unput = λ has. false≢true (sym unput ∙ is_in-from_Contains l.put_before page has);
  }),
  λ covered. (
    ltb-false page agent.catalogue.gone (expired page ∙ covered.live),
    (let lt : page < length l.account.closings = ltb-true page (length l.account.closings) covered.closed in omega arith),
    is_in-none l.put_before page covered.unput,
  ),
)

pub digest_true : (text : List ℕ) (rules : Rules) (a : Account) (page : ℕ) (digest : Option (List ℕ)) → text ≡ true_text rules a page Bits → IsDigest text digest → IsBitsDigest rules a page digest
digest_true text rules a page None same is = tt
digest_true text rules a page (Some d) same is = is ∙ ap sha256 same

-- a noted page has its bits in memory
note_true : (agent : Agent) (rules : Rules) (l : Ledger) (notes : List Note) (note : Note) (x z : ShelfView) → Stands agent rules l → NotesTo agent rules l agent.catalogue.gone agent.page.number notes x z → Contains notes note
    → held_bits agent note.page.number ≡ bits rules l.account note.page.number
note_true agent rules l notes note x z s noted has =
    let (from, to, unput) = (noted.covers note.page.number).0 (into_map noted_page notes note has) in
    let e = s.pages.page in
    held_true agent rules l note.page.number s from (omega arith) unput

pub notes_stand : (agent : Agent) (notes : Vec Note Global) (rules : Rules) (l : Ledger) (u : Unfinished) (x z : ShelfView) → StandsWhole agent rules l u → agent.noted ≡ None → NotesTo agent rules l agent.catalogue.gone agent.page.number notes.items x z
    → StandsWhole (record agent { noted = Some notes }) rules (at_archive l) (with_more u (more_of (held_bits agent) notes.items))
notes_stand agent notes rules l u x z s none noted =
    let new : Agent = record agent { noted = Some notes } in
    let more : Unfinished = more_of (held_bits agent) notes.items in
    record {
      stands = stands_like new rules l l.put_before l.covered_before l.left_before (Some l.account.closings) (λ page. refl) (λ page. refl)
          (stands_same agent new rules l s.stands refl refl refl refl refl refl refl refl refl refl refl);
      noted = record {
        closed = omega arith;
        covers = λ page. (
          (λ has. (covered_is agent rules l page s.stands.expired s.stands.pages.page).0 ((noted.covers page).0 has)),
          λ covered. (noted.covers page).1 ((covered_is agent rules l page s.stands.expired s.stands.pages.page).1 covered),
        );
        rising = noted.rising;
        each = λ note has. record {
          digest = digest_true (held_text agent rules l.account note.page.number) rules l.account note.page.number (digest_of note.bits)
              (ap (bits_text rules l.account note.page.number) (note_true agent rules l notes.items note x z s.stands noted has)) (noted.digests note has);
          put = λ done. subst (λ ps. Contains ps note.page.number) (sym (map-append put_page u.bits_put more.bits_put))
              (Contains-append_right (map put_page u.bits_put) (map put_page more.bits_put) note.page.number (put_has (held_bits agent) notes.items note has done));
        };
        refused = let none_refused = (not_noted rules l u l.closed_at_archive agent.noted s.noted none).1 in omega arith;
      };
    }

-- what the shelf had of earlier archivals stays
pub holds_still : (agent : Agent) (rules : Rules) (l : Ledger) (notes : List Note) (x z : ShelfView) → AreExpired rules l.closings_then l.clock_then agent.catalogue.gone → NotesTo agent rules l agent.catalogue.gone agent.page.number notes x z → x.tells ≡ true
    → Holds rules x.contents l → Holds rules z.contents l
holds_still agent rules l notes x z expired noted t h = record {
  put = λ page part put live. noted.others t (name_of l.account.router page part)
      (λ q has e. let same : page ≡ q = same_page l.account.router l.account.router page q part Bits e in false≢true (sym ((noted.covers q).0 has).2 ∙ is_in-from_Contains l.put_before q (subst (Contains l.put_before) same put)))
      ∙ h.put page part put live;
  gone = λ page part gone covered apart. noted.others t (name_of l.account.router page part)
      (λ q has e.
      let same : page ≡ q = same_page l.account.router l.account.router page q part Bits e in
      let from : agent.catalogue.gone ≤ q = ((noted.covers q).0 has).0 in
      false≢true (sym (page_live agent rules l expired page (omega arith)) ∙ gone))
      ∙ h.gone page part gone covered apart;
}

-- and it has the bits records that were put
pub holds_noted : (agent : Agent) (rules : Rules) (l : Ledger) (notes : List Note) (x z : ShelfView) → NotesTo agent rules l agent.catalogue.gone agent.page.number notes x z → x.tells ≡ true
    → HoldsBits rules z.contents l.account (more_of (held_bits agent) notes)
holds_noted agent rules l notes x z noted t y has =
    let put = put_of (held_bits agent) notes y has in
    subst (λ (p : PutBits). z.contents (name_of l.account.router p.page Bits) ≡ Some (bits_text rules l.account p.page p.bits)) put.is (noted.stand t put.note put.has put.done)

-- they are of closed pages
pub noted_closed : (agent : Agent) (rules : Rules) (l : Ledger) (notes : List Note) (x z : ShelfView) → NotesTo agent rules l agent.catalogue.gone agent.page.number notes x z → agent.page.number ≡ length l.account.closings
    → (y : PutBits) → Contains (more_of (held_bits agent) notes).bits_put y → y.page < length l.account.closings
noted_closed agent rules l notes x z noted e y has =
    let put = put_of (held_bits agent) notes y has in
    let (from, to, unput) = (noted.covers put.note.page.number).0 (into_map noted_page notes put.note put.has) in
    let at : put.note.page.number ≡ y.page = ap (λ p. p.page) put.is in
    omega arith

-- no other name is changed
pub only_noted : (agent : Agent) (rules : Rules) (l : Ledger) (notes : List Note) (x z : ShelfView) → AreExpired rules l.closings_then l.clock_then agent.catalogue.gone → agent.page.number ≡ length l.account.closings
    → NotesTo agent rules l agent.catalogue.gone agent.page.number notes x z → x.tells ≡ true → ChangesOnly (IsNotedName rules l) x.contents z.contents
only_noted agent rules l notes x z expired end noted t name apart = noted.others t name (λ page has e. apart (record {
  router = ap (λ (n : ShelfName). n.router.number) e;
  part = ap (λ (n : ShelfName). n.part) e;
  covered = subst (IsCovered rules (archive_view l l.account.closings)) (sym (ap (λ (n : ShelfName). n.page.number) e)) ((covered_is agent rules l page expired end).0 ((noted.covers page).0 has));
}))

pub archived : (agent : Agent) (notes : Vec Note Global) (x z : ShelfView) → agent.noted ≡ None → ((rules : Rules) (l : Ledger) → KnowsPages agent rules l → NotesTo agent rules l agent.catalogue.gone agent.page.number notes.items x z)
    → IsNoted (StandsWhole agent) (StandsWhole (record agent { noted = Some notes })) (more_of (held_bits agent) notes.items) x.tells x.contents z.contents
archived agent notes x z none all =
    let noted : (rules : Rules) (l : Ledger) → Stands agent rules l → NotesTo agent rules l agent.catalogue.gone agent.page.number notes.items x z = λ rules l s. all rules l (knows_whole agent rules l s) in
    record {
      noted = λ rules l u s. notes_stand agent notes rules l u x z s none (noted rules l s.stands);
      closed = λ rules l u s. noted_closed agent rules l notes.items x z (noted rules l s.stands) s.stands.pages.page;
      bits = λ rules l u s y has.
          let put = put_of (held_bits agent) notes.items y has in
          subst (λ (p : PutBits). p.bits ≡ bits rules l.account p.page) put.is (note_true agent rules l notes.items put.note x z s.stands (noted rules l s.stands) put.has);
      holds = λ rules l u s t h. holds_still agent rules l notes.items x z s.stands.expired (noted rules l s.stands) t h;
      holds_bits = λ rules l u s t h. holds_noted agent rules l notes.items x z (noted rules l s.stands) t;
      others = λ rules l u s t name apart. (noted rules l s.stands).others t name (λ page has e. apart (ap (λ n. n.router.number) e));
      untouched = λ rules l u s t. only_noted agent rules l notes.items x z s.stands.expired s.stands.pages.page (noted rules l s.stands) t;
    }
