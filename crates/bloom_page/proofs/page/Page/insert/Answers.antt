use Rattle.std.proofs.Common.{◌∙◌, ap, sym, take}
use Rattle.bloom_page.specs.Sets.{united}
use Rattle.bloom_page.proofs.PageFacts.{within_words, marked_has, marked_united, marked_contains}
use Rattle.bloom_page.proofs.page.Page.insert.Goals as goal

pub set_marks-requires-clause-below : goal.set_marks-requires-clause-below
set_marks-requires-clause-below c = within_words c.self.inside.n c.self.inside.words.items (take c.args.marks.now.count c.args.marks.now.at) c.self.invariant (rw (ap (λ page. page.n) c.self.view_is) c.requires.below)

pub invariant_of-self : goal.invariant_of-self
invariant_of-self c = marked_has c.self.inside.n c.self.inside.words.items _ (take c.args.marks.now.count c.args.marks.now.at) c.set_marks.ensures c.self.invariant

pub returns-clause-exact : goal.returns-clause-exact
returns-clause-exact c =
    marked_united c.self.inside.n c.self.inside.words.items c.set_marks.new.words.items (take c.args.marks.now.count c.args.marks.now.at) c.set_marks.ensures c.self.invariant (rw (ap (λ page. page.n) c.self.view_is) c.requires.below)
    ∙ ap (λ page. united page (take c.args.marks.now.count c.args.marks.now.at)) c.self.view_is

pub returns-clause-union : goal.returns-clause-union
returns-clause-union c p = rw (sym (ap (λ page. page.members) c.self.view_is))
    (marked_contains c.self.inside.n c.self.inside.words.items c.set_marks.new.words.items (take c.args.marks.now.count c.args.marks.now.at) c.set_marks.ensures c.self.invariant (rw (ap (λ page. page.n) c.self.view_is) c.requires.below) p)
