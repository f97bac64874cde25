use Rattle.std.proofs.Common.{refl, sym, ◌∙◌}
use Rattle.data_agent.proofs.Leaving.{for_kept, minds_amid, none_out}
use Rattle.data_agent.proofs.Planes.{copy_needs, copied_bits, for_copied, had_copy, own_with}
use Rattle.data_agent.proofs.agent.Agent.prepare.Goals as goal

pub collect_quiet-requires-clause-minds : goal.collect_quiet-requires-clause-minds
collect_quiet-requires-clause-minds c = let (rules, l, u, s) = c.requires.stands in minds_amid c.args.self.now rules l s.amid

pub returns-in_err-collect_quiet-clause-same : goal.returns-in_err-collect_quiet-clause-same
returns-in_err-collect_quiet-clause-same c = for_kept c.args.self.now c.collect_quiet.new.self c.collect_quiet.ensures.keeps

pub returns-then-is_some-clause-same : goal.returns-then-is_some-clause-same
returns-then-is_some-clause-same c = for_kept c.args.self.now c.collect_quiet.new.self c.collect_quiet.ensures.keeps

pub returns-in_err-family-clause-same : goal.returns-in_err-family-clause-same
returns-in_err-family-clause-same c = for_kept c.args.self.now c.collect_quiet.new.self c.collect_quiet.ensures.keeps

pub copy_page-requires-clause-stands : goal.copy_page-requires-clause-stands
copy_page-requires-clause-stands c = let (rules, l, u, s) = c.requires.stands in copy_needs c.args.plane.now c.collect_quiet.new.self rules l u c.collect_quiet.ensures.own (for_kept c.args.self.now c.collect_quiet.new.self c.collect_quiet.ensures.keeps rules l u s)

pub returns-in_err-bits-clause-same : goal.returns-in_err-bits-clause-same
returns-in_err-bits-clause-same c = λ rules l u s. for_copied c.args.plane.now c.collect_quiet.new.self _ rules l u c.collect_quiet.ensures.own refl refl refl refl refl refl refl refl c.copy_page.ensures.same (for_kept c.args.self.now c.collect_quiet.new.self c.collect_quiet.ensures.keeps rules l u s)

pub returns-clause-same : goal.returns-clause-same
returns-clause-same c = λ rules l u s. for_copied c.args.plane.now c.collect_quiet.new.self _ rules l u c.collect_quiet.ensures.own refl refl refl refl refl refl refl refl c.copy_page.ensures.same (for_kept c.args.self.now c.collect_quiet.new.self c.collect_quiet.ensures.keeps rules l u s)

pub returns-then-is_some-clause-prepared : goal.returns-then-is_some-clause-prepared
returns-then-is_some-clause-prepared c = record {
  taken = c.in_ok-collect_quiet.ensures.alone (let (rules, l, u, s) = c.requires.stands in none_out c.args.self.now rules l s.amid);
  copied = had_copy c.collect_quiet.new.self c.collect_quiet.new.self.copied c.collect_quiet.ensures.own.copied (sym c.is_some.ensures ∙ c.if-is_some.true);
}

pub returns-in_err-bits-clause-own : goal.returns-in_err-bits-clause-own
returns-in_err-bits-clause-own c = own_with c.args.plane.now c.collect_quiet.new.self _ c.collect_quiet.ensures.own c.copy_page.ensures.plane refl refl refl refl c.copy_page.ensures.entries

pub returns-clause-own : goal.returns-clause-own
returns-clause-own c =
    let (rules, l, u, s) = c.requires.stands in
    record {
      table = c.copy_page.ensures.plane ∙ c.collect_quiet.ensures.own.table;
      shape = c.collect_quiet.ensures.own.shape;
      copied = record {
        family = c.in_ok-family.ensures.family;
        page_is = copied_bits c.args.plane.now c.collect_quiet.new.self c.copy_page.new.keeper c.in_ok-bits.bits rules l u c.collect_quiet.ensures.own (for_kept c.args.self.now c.collect_quiet.new.self c.collect_quiet.ensures.keeps rules l u s) c.copy_page.ensures.same c.in_ok-bits.ensures.bits;
      };
    }

pub returns-clause-prepared : goal.returns-clause-prepared
returns-clause-prepared c =
    let (rules, l, u, s) = c.requires.stands in
    record {
      taken = c.in_ok-collect_quiet.ensures.alone (let (rules, l, u, s) = c.requires.stands in none_out c.args.self.now rules l s.amid);
      copied = record {
        family = c.in_ok-family.ensures.family;
        page_is = copied_bits c.args.plane.now c.collect_quiet.new.self c.copy_page.new.keeper c.in_ok-bits.bits rules l u c.collect_quiet.ensures.own (for_kept c.args.self.now c.collect_quiet.new.self c.collect_quiet.ensures.keeps rules l u s) c.copy_page.ensures.same c.in_ok-bits.ensures.bits;
      };
    }
