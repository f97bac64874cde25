use Rattle.std.proofs.Common.{refl, []}
use Rattle.data_agent.proofs.Places.{before_of, collected_tells, past_of, probe_tells}
use Rattle.data_agent.proofs.Planes.{kept_then, probed_shows}
use Rattle.data_agent.proofs.ReadMarks.{noted_none}
use Rattle.data_agent.proofs.Staying.{amid_then}
use Rattle.data_agent.proofs.agent.Agent.shows.Goals as goal

pub shows_here-requires-clause-collected : goal.shows_here-requires-clause-collected
shows_here-requires-clause-collected c = before_of c.args.self.now c.args.page c.is_collected.result c.is_collected.ensures c.if-is_collected.true

pub returns-then-is_collected-clause-read : goal.returns-then-is_collected-clause-read
returns-then-is_collected-clause-read c = (
  [],
  noted_none c.args.self.now,
  collected_tells c.args.self.now c.args.page c.args.sig.now c.shows_here.result c.requires.places (before_of c.args.self.now c.args.page c.is_collected.result c.is_collected.ensures c.if-is_collected.true) c.shows_here.ensures.memory,
)

pub probe_page-requires-clause-stands : goal.probe_page-requires-clause-stands
probe_page-requires-clause-stands c =
    c.requires.places.stand c.args.page (past_of c.args.self.now c.args.page c.is_collected.result c.is_collected.ensures c.if-is_collected.false) c.requires.exists

pub returns-clause-read : goal.returns-clause-read
returns-clause-read c =
    probe_tells c.args.plane.now c.args.self.now c.probe_page.new.keeper c.args.page c.args.sig.now c.probe_page.result c.requires.own c.requires.places c.requires.near
    (past_of c.args.self.now c.args.page c.is_collected.result c.is_collected.ensures c.if-is_collected.false) c.requires.exists c.probe_page.ensures.reads c.probe_page.ensures.missing

pub returns-clause-shows : goal.returns-clause-shows
returns-clause-shows c = λ rules l s.
    probed_shows c.args.plane.now c.args.self.now rules l c.args.sig.now c.args.page c.probe_page.result c.requires.own s
    (past_of c.args.self.now c.args.page c.is_collected.result c.is_collected.ensures c.if-is_collected.false) c.probe_page.ensures.found

pub returns-clause-amid : goal.returns-clause-amid
returns-clause-amid c = λ rules l s.
    amid_then c.args.self.now _ rules l s refl refl refl refl refl refl refl (kept_then c.args.plane.now c.args.self.now rules l.account c.requires.own s.pages c.probe_page.new.keeper c.probe_page.ensures.same)
