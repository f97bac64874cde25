use Rattle.std.proofs.Common.{◌≡◌, ◌≤◌, take, false}
use Rattle.std.specs.List.{Contains}
use Rattle.spie_base.specs.declared.Rules.{Rules}
use Rattle.bloom_page.specs.Sets.{is_in}
use Rattle.router_account.specs.Ledger.{Ledger}
use Rattle.shelved_page.specs.Shelving.{view_of}
use Rattle.data_agent.specs.declared.archival.Note.{Note}
use Rattle.data_agent.specs.Finishing.{PutsAllDeferred}
use Rattle.data_agent.specs.Standing.{Stands, IsBitsDigest, digest_of}
use Rattle.data_agent.proofs.agent.Agent.put_all_deferred.Given as goal

-- of the notes so far none is deferred
abbrev pub invariant-loop-note : goal.invariant-loop-note
invariant-loop-note g l = record {
  later : g.H.Shelf.faults l.fn.shelf ≤ g.H.Shelf.faults l.shelf;
  still : g.H.Shelf.tells l.shelf ≡ g.H.Shelf.tells l.fn.shelf;
  put : (rules : Rules) (m : Ledger) → Stands l.self rules m
      → ((note : Note) → Contains l.fn.notes note → (is_in m.put_before note.page.number ≡ false) × IsBitsDigest rules m.account note.page.number (digest_of note.bits))
      → PutsAllDeferred rules m.account (take l.note-index l.notes) l.new.items (view_of g.H.Shelf.tells g.H.Shelf.contents g.H.Shelf.faults l.fn.shelf) (view_of g.H.Shelf.tells g.H.Shelf.contents g.H.Shelf.faults l.shelf);
}
