use Rattle.std.proofs.Common.{ap}
use Rattle.data_agent.specs.Planes.{entries_of}
use Rattle.data_agent.proofs.BesideWatches.{noted_beside, noted_for, noted_keeps, places_anyhow, seen_beside, tells_never, tells_seen, unseen_beside}
use Rattle.data_agent.proofs.agent.Agent.watch.Goals as goal

pub look_through-requires-clause-places : goal.look_through-requires-clause-places
look_through-requires-clause-places c = places_anyhow c.args.self.now c.requires.stands

pub returns-clause-entries : goal.returns-clause-entries
returns-clause-entries c = let (reads, noted, tells) = c.look_through.ensures.watched in ap entries_of noted

pub returns-clause-seen : goal.returns-clause-seen
returns-clause-seen c = λ rules l u s. c.look_through.ensures.seen rules l s.amid

pub returns-clause-same : goal.returns-clause-same
returns-clause-same c = let (reads, noted, tells) = c.look_through.ensures.watched in noted_for c.args.self.now c.look_through.new.self reads noted c.look_through.ensures.amid

pub returns-clause-probed_seen : goal.returns-clause-probed_seen
returns-clause-probed_seen c = λ is.
    let (reads, noted, tells) = c.look_through.ensures.watched in
    (reads, noted, tells_seen c.args.self.now reads c.args.clock c.args.sig.now c.look_through.result tells is)

pub returns-clause-probed_unseen : goal.returns-clause-probed_unseen
returns-clause-probed_unseen c = λ other.
    let (reads, noted, tells) = c.look_through.ensures.watched in
    (reads, noted, tells_never c.args.self.now reads c.args.clock c.args.sig.now c.look_through.result tells other)

pub returns-clause-beside_seen : goal.returns-clause-beside_seen
returns-clause-beside_seen c = λ rules l u away s is.
    let (reads, noted, tells) = c.look_through.ensures.watched in
    seen_beside c.args.self.now rules l u away s c.look_through.new.self reads c.args.clock c.args.sig.now noted (tells_seen c.args.self.now reads c.args.clock c.args.sig.now c.look_through.result tells is)

pub returns-clause-beside_unseen : goal.returns-clause-beside_unseen
returns-clause-beside_unseen c = λ rules l u away s other.
    let (reads, noted, tells) = c.look_through.ensures.watched in
    unseen_beside c.args.self.now rules l u away s reads c.args.clock c.args.sig.now c.look_through.result tells other

pub returns-clause-beside_same : goal.returns-clause-beside_same
returns-clause-beside_same c = let (reads, noted, tells) = c.look_through.ensures.watched in noted_beside c.args.self.now c.look_through.new.self reads noted

pub returns-clause-reads : goal.returns-clause-reads
returns-clause-reads c = let (reads, noted, tells) = c.look_through.ensures.watched in noted_keeps c.args.self.now c.look_through.new.self reads noted
