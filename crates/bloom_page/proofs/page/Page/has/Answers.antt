use Rattle.std.proofs.Common.{◌∙◌, ◌≡◌, ap, take}
use Rattle.std.specs.List.{list_all}
use Rattle.bloom_page.specs.Bits.{is_set}
use Rattle.bloom_page.specs.Sets.{are_in}
use Rattle.bloom_page.proofs.BitFacts.{are_in-members_of}
use Rattle.bloom_page.proofs.Members.{are_in-inclusion}
use Rattle.bloom_page.proofs.PageFacts.{within_words}
use Rattle.bloom_page.proofs.page.Page.has.Goals as goal

pub are_set-requires : goal.are_set-requires
are_set-requires c = rw (c.listed.ensures, c.deref.ensures.value)
    (within_words c.self.inside.n c.self.inside.words.items (take c.args.marks.now.count c.args.marks.now.at) c.self.invariant (rw (ap (λ page. page.n) c.self.view_is) c.requires.below))

answer : (c : goal.After-are_set) → c.are_set.result ≡ are_in c.args.self.now.members (take c.args.marks.now.count c.args.marks.now.at)
answer c =
    c.are_set.ensures
    ∙ ap (λ ws. list_all (is_set ws) c.listed.result.now) c.deref.ensures.value
    ∙ ap (list_all (is_set c.self.inside.words.items)) c.listed.ensures
    ∙ are_in-members_of c.self.inside.words.items (take c.args.marks.now.count c.args.marks.now.at)
    ∙ ap (λ page. are_in page.members (take c.args.marks.now.count c.args.marks.now.at)) c.self.view_is

pub returns-clause-exact : goal.returns-clause-exact
returns-clause-exact c = answer c

pub returns-clause-inclusion : goal.returns-clause-inclusion
returns-clause-inclusion c = rw (answer c) (are_in-inclusion c.args.self.now.members (take c.args.marks.now.count c.args.marks.now.at))
