use Rattle.std.proofs.Common.{ℕ, List, Option, Some, None, true, false, length, sym, subst}
use Rattle.reverse_flood.specs.Flood.{Net, net_of}
use Rattle.reverse_flood.specs.declared.graphs.Node.{Node}
use Rattle.evidence_text.specs.declared.certificates.Link.{Link}
use Rattle.evidence_check.specs.Evidence.{stated_links}
use Rattle.evidence_check.specs.Judging.{LeftAt, named_nodes}
use Rattle.evidence_check.specs.Lines.{Exist, IsFirstBad}
use Rattle.evidence_check.specs.Pairs.{LeftAtIn, Tells}
use Rattle.evidence_check.proofs.Judged.{clear_lines, few_pairs, first_alike, first_clear, first_unknown, kept_of, moved, unknown_lines}
use Rattle.evidence_check.proofs.judging.judge_left.Goals as goal

pub first_bad_left-requires-clause-exist : goal.first_bad_left-requires-clause-exist
first_bad_left-requires-clause-exist g c = subst (Exist (length c.args.sights.now)) (sym c.items-unknown.ensures) c.requires.routers.unknown

pub first_bad_left-requires-in-None-clause-exist : goal.first_bad_left-requires-in-None-clause-exist
first_bad_left-requires-in-None-clause-exist g c = subst (Exist (length c.args.sights.now)) (sym c.items-clear.ensures) c.requires.routers.clear

pub returns-in-Some-clause-found : goal.returns-in-Some-clause-found
returns-in-Some-clause-found g c =
    let net : List Link → Net = λ links. net_of g.S.Sighting.shown c.args.sights.now (stated_links links) in
    let cert = c.args.certificate.now in
    let exist = few_pairs (length c.args.sights.now) cert.unknown c.requires.routers.few c.requires.routers.unknown in
    first_unknown (net cert.links) cert c.in-Some.place c.requires.nodes c.requires.edges
    (first_alike (length cert.unknown) (LeftAtIn (net cert.links) c.args.pairs.now true cert.unknown) (LeftAt (net cert.links) cert.start (named_nodes cert) true cert.unknown)
    (unknown_lines (net cert.links) cert c.args.pairs.now true cert.unknown c.requires.nodes c.requires.marked exist) (Some c.in-Some.place)
    (moved (λ (links : List Link) (left : List Node) (bad : Option ℕ). IsFirstBad (length left) (LeftAtIn (net links) c.args.pairs.now true left) bad)
    c.items-links.result.now cert.links c.items-unknown.result.now cert.unknown c.in_ok-bad.bad (Some c.in-Some.place)
    c.items-links.ensures c.items-unknown.ensures c.in-Some.is c.in_ok-bad.ensures.first))

pub returns-in-Some-other-clause-found : goal.returns-in-Some-other-clause-found
returns-in-Some-other-clause-found g c =
    let net : List Link → Net = λ links. net_of g.S.Sighting.shown c.args.sights.now (stated_links links) in
    let cert = c.args.certificate.now in
    let exist_unknown = few_pairs (length c.args.sights.now) cert.unknown c.requires.routers.few c.requires.routers.unknown in
    let exist = few_pairs (length c.args.sights.now) cert.clear c.requires.routers.few c.requires.routers.clear in
    let told : Tells cert.unknown c.args.pairs.now c.first_bad_left.new.pairs = subst (λ (left : List Node). Tells left c.args.pairs.now c.first_bad_left.new.pairs) c.items-unknown.ensures (c.in_ok-bad.ensures.told c.in-None.is) in
    let unknown = first_alike (length cert.unknown) (LeftAtIn (net cert.links) c.args.pairs.now true cert.unknown) (LeftAt (net cert.links) cert.start (named_nodes cert) true cert.unknown)
    (unknown_lines (net cert.links) cert c.args.pairs.now true cert.unknown c.requires.nodes c.requires.marked exist_unknown) None
    (moved (λ (links : List Link) (left : List Node) (bad : Option ℕ). IsFirstBad (length left) (LeftAtIn (net links) c.args.pairs.now true left) bad)
    c.items-links.result.now cert.links c.items-unknown.result.now cert.unknown c.in_ok-bad.bad None
    c.items-links.ensures c.items-unknown.ensures c.in-None.is c.in_ok-bad.ensures.first) in
    first_clear (net cert.links) cert c.in-Some-other.place c.requires.nodes c.requires.edges unknown
    (first_alike (length cert.clear) (LeftAtIn (net cert.links) c.first_bad_left.new.pairs false cert.clear) (LeftAt (net cert.links) cert.start (named_nodes cert) false cert.clear)
    (clear_lines (net cert.links) cert c.args.pairs.now c.first_bad_left.new.pairs cert.unknown false cert.clear c.requires.nodes c.requires.marked told exist) (Some c.in-Some-other.place)
    (moved (λ (links : List Link) (left : List Node) (bad : Option ℕ). IsFirstBad (length left) (LeftAtIn (net links) c.first_bad_left.new.pairs false left) bad)
    c.items-links.result.now cert.links c.items-clear.result.now cert.clear c.in_ok-other-in-None.other (Some c.in-Some-other.place)
    c.items-links.ensures c.items-clear.ensures c.in-Some-other.is c.in_ok-other-in-None.ensures.first))

pub returns-in-None-other-clause-found : goal.returns-in-None-other-clause-found
returns-in-None-other-clause-found g c =
    let net : List Link → Net = λ links. net_of g.S.Sighting.shown c.args.sights.now (stated_links links) in
    let cert = c.args.certificate.now in
    let exist_unknown = few_pairs (length c.args.sights.now) cert.unknown c.requires.routers.few c.requires.routers.unknown in
    let exist = few_pairs (length c.args.sights.now) cert.clear c.requires.routers.few c.requires.routers.clear in
    let told : Tells cert.unknown c.args.pairs.now c.first_bad_left.new.pairs = subst (λ (left : List Node). Tells left c.args.pairs.now c.first_bad_left.new.pairs) c.items-unknown.ensures (c.in_ok-bad.ensures.told c.in-None.is) in
    record {
      unknown = first_alike (length cert.unknown) (LeftAtIn (net cert.links) c.args.pairs.now true cert.unknown) (LeftAt (net cert.links) cert.start (named_nodes cert) true cert.unknown)
          (unknown_lines (net cert.links) cert c.args.pairs.now true cert.unknown c.requires.nodes c.requires.marked exist_unknown) None
          (moved (λ (links : List Link) (left : List Node) (bad : Option ℕ). IsFirstBad (length left) (LeftAtIn (net links) c.args.pairs.now true left) bad)
          c.items-links.result.now cert.links c.items-unknown.result.now cert.unknown c.in_ok-bad.bad None
          c.items-links.ensures c.items-unknown.ensures c.in-None.is c.in_ok-bad.ensures.first);
      clear = first_alike (length cert.clear) (LeftAtIn (net cert.links) c.first_bad_left.new.pairs false cert.clear) (LeftAt (net cert.links) cert.start (named_nodes cert) false cert.clear)
          (clear_lines (net cert.links) cert c.args.pairs.now c.first_bad_left.new.pairs cert.unknown false cert.clear c.requires.nodes c.requires.marked told exist) None
          (moved (λ (links : List Link) (left : List Node) (bad : Option ℕ). IsFirstBad (length left) (LeftAtIn (net links) c.first_bad_left.new.pairs false left) bad)
          c.items-links.result.now cert.links c.items-clear.result.now cert.clear c.in_ok-other-in-None.other None
          c.items-links.ensures c.items-clear.ensures c.in-None-other.is c.in_ok-other-in-None.ensures.first);
    }

pub returns-in-None-other-clause-kept : goal.returns-in-None-other-clause-kept
returns-in-None-other-clause-kept g c = λ none.
    let cert = c.args.certificate.now in
    let net = net_of g.S.Sighting.shown c.args.sights.now (stated_links cert.links) in
    kept_of net cert c.args.pairs.now c.first_bad_left.new.pairs c.first_bad_left-in-None.new.pairs c.requires.marked
    (subst (λ (left : List Node). Tells left c.args.pairs.now c.first_bad_left.new.pairs) c.items-unknown.ensures (c.in_ok-bad.ensures.told c.in-None.is))
    (subst (λ (left : List Node). Tells left c.first_bad_left.new.pairs c.first_bad_left-in-None.new.pairs) c.items-clear.ensures (c.in_ok-other-in-None.ensures.told c.in-None-other.is))
