-- Turns and rounds, one behind the other.
use Rattle.std.proofs.Common.{◌≡◌, ◌∙◌, ◌+◌, ℕ, suc, refl, ap, subst, arith}
use Rattle.topology.specs.Layout.{Layout}
use Rattle.reverse_flood.specs.Flood.{Net}
use Rattle.hash_family.specs.SplitMix.{grown, mixed, state_after, word}
use Rattle.agent_wire.specs.declared.wire.Event.{Event}
use Rattle.agent_wire.specs.Link.{Link}
use Rattle.agent_wire.specs.Schedule.{event_of, AreRounds, AreTurns, IsCounted, IsRound, Keeps}

pub keeps_none : (net : Net) (layout : Layout) (link : Link) → Keeps net layout link link
keeps_none net layout link = record { begun = λ b. b; link = λ start l. l; some = λ s. s }

pub keeps_then : (net : Net) (layout : Layout) (a b c : Link) → Keeps net layout a b → Keeps net layout b c → Keeps net layout a c
keeps_then net layout a b c first second = record {
  begun = λ h. second.begun (first.begun h);
  link = λ start h. second.link start (first.link start h);
  some = λ h. second.some (first.some h);
}

pub turns_none : (net : Net) (layout : Layout) (seed : ℕ) (link : Link) → AreTurns net layout seed 0 link link 0
unfolding AreTurns
turns_none net layout seed link = (refl, refl)

turns_next : (net : Net) (layout : Layout) (seed turn : ℕ) (before mid after : Link) (repeated counted x : ℕ) (event : Event) → AreTurns net layout seed turn before mid repeated → x ≡ word seed turn → event ≡ event_of x mid
    → IsCounted net layout event mid repeated after counted → AreTurns net layout seed (suc turn) before after counted
unfolding AreTurns
turns_next net layout seed turn before mid after repeated counted x event others drawn is turn_is =
    let At : Event → Type 0 = λ e. IsCounted net layout e mid repeated after counted in
    record { before = mid; repeated = repeated; others = others; turn = subst At (is ∙ ap (λ w. event_of w mid) drawn) turn_is }

pub turns_more : (net : Net) (layout : Layout) (seed turn : ℕ) (before mid after : Link) (repeated counted x : ℕ) (event : Event) → AreTurns net layout seed turn before mid repeated → x ≡ word seed turn → event ≡ event_of x mid
    → IsCounted net layout event mid repeated after counted → AreTurns net layout seed (turn + 1) before after counted
turns_more net layout seed turn before mid after repeated counted x event others drawn is turn_is =
    let one : suc turn ≡ turn + 1 = omega arith in
    let At : ℕ → Type 0 = λ n. AreTurns net layout seed n before after counted in
    subst At one (turns_next net layout seed turn before mid after repeated counted x event others drawn is turn_is)

pub state_more : (seed turn new old : ℕ) → new ≡ grown old → old ≡ state_after seed turn → new ≡ state_after seed (turn + 1)
state_more seed turn new old is at =
    let one : suc turn ≡ turn + 1 = omega arith in
    is ∙ ap grown at ∙ ap (λ n. state_after seed n) one

pub word_at : (seed turn x state : ℕ) → x ≡ mixed (grown state) → state ≡ state_after seed turn → x ≡ word seed turn
unfolding word
word_at seed turn x state is at = is ∙ ap (λ s. mixed (grown s)) at

pub rounds_none : (net : Net) (layout : Layout) (link : Link) (repeated : ℕ) → AreRounds net layout 0 link repeated link repeated
unfolding AreRounds
rounds_none net layout link repeated = (refl, refl)

rounds_next : (net : Net) (layout : Layout) (round : ℕ) (before mid after : Link) (repeated middle counted : ℕ) → AreRounds net layout round before repeated mid middle → IsRound net layout mid middle after counted → AreRounds net layout (suc round) before repeated after counted
unfolding AreRounds
rounds_next net layout round before mid after repeated middle counted others one = record { before = mid; repeated = middle; others = others; round = one }

pub rounds_more : (net : Net) (layout : Layout) (round : ℕ) (before mid after : Link) (repeated middle counted : ℕ) → AreRounds net layout round before repeated mid middle → IsRound net layout mid middle after counted → AreRounds net layout (round + 1) before repeated after counted
rounds_more net layout round before mid after repeated middle counted others one =
    let next : suc round ≡ round + 1 = omega arith in
    let At : ℕ → Type 0 = λ n. AreRounds net layout n before repeated after counted in
    subst At next (rounds_next net layout round before mid after repeated middle counted others one)
