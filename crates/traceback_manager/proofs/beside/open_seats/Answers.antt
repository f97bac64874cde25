use Rattle.std.proofs.Common.{◌≡◌, ◌∙◌, ◌+◌, ◌<◌, ◌≤◌, ◌++◌, ◌∷◌, [], ℕ, List, false, length, get_or, length-append, sym, subst, ap, arith}
use Rattle.regional_agent.specs.Desks.{IsBlank}
use Rattle.traceback_manager.specs.declared.beside.Seat.{Seat}
use Rattle.traceback_manager.proofs.JoinFacts.{last_more}
use Rattle.traceback_manager.proofs.beside.open_seats.Goals as goal

pub loop-region-preserved : goal.loop-region-preserved
loop-region-preserved c =
    let seats = c.loop-region.seats.items in
    let inv = c.loop-region.invariant in
    let one : Seat = record { desk = c.open_desk-desk.result; short = false } in
    let pushed : c.push.new.self.items ≡ seats ++ one ∷ [] = c.in_ok-push.ensures.items in
    let long : length c.push.new.self.items ≡ length seats + 1 = ap (λ (l : List Seat). length l) pushed ∙ length-append seats (one ∷ []) in
    let many = inv.many in
    let Regions : ℕ → Seat → Type 0 = λ r s. s.desk.region ≡ r in
    let Blank : ℕ → Seat → Type 0 = λ r s. IsBlank s.desk in
    let region : one.desk.region ≡ length seats = c.open_desk-desk.ensures.region ∙ sym many in
    record {
      many = omega (arith, long, many);
      regions = λ r d l.
          let At : List Seat → Type 0 = λ ls. (get_or ls r d).desk.region ≡ r in
          subst At (sym pushed) (last_more Regions seats one inv.regions region r d (omega (arith, l, long)));
      blank = λ r d l.
          let At : List Seat → Type 0 = λ ls. IsBlank (get_or ls r d).desk in
          subst At (sym pushed) (last_more Blank seats one inv.blank c.open_desk-desk.ensures.blank r d (omega (arith, l, long)));
    }

pub returns : goal.returns
returns c =
    let inv = c.loop-region.invariant in
    let many = inv.many in
    let end = c.loop-region-test.false in
    let most = c.loop-region.auto.region-end in
    let all = c.regions-region-end.ensures in
    record {
      many = omega (arith, many, end, most, all);
      regions = inv.regions;
      blank = inv.blank;
    }
