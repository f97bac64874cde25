use Rattle.std.proofs.Common.{ℕ, ◌^◌, ◌-◌, ◌∙◌, List, ap}
use Rattle.bloom_page.specs.Bits.{members_of}
use Rattle.bloom_page.proofs.BitFacts.{members_of-zeros}
use Rattle.bloom_page.proofs.page.Page.empty.Goals as goal

pub returns : goal.returns
returns c = ap (λ (ms : List ℕ). record { n = c.args.n; members = ms }) (ap members_of c.in_ok-zeros.ensures ∙ members_of-zeros (2 ^ (c.args.n - 6)))
