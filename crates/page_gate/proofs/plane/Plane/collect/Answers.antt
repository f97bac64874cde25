use Rattle.std.proofs.Common.{ℕ, List, sym, ap, ap₂, ◌∙◌, subst}
use Rattle.bloom_page.specs.Bits.{members_of}
use Rattle.bloom_page.specs.Sets.{PageSet}
use Rattle.page_gate.specs.Held.{PlaneId, Held}
use Rattle.page_gate.specs.Pages.{AreKept, AreAllMarks}
use Rattle.page_gate.proofs.Collecting.{words_there, keeper_then, collected_then, all_marks, alone_set}
use Rattle.page_gate.proofs.plane.Plane.collect.Goals as goal

pub returns-clause-page : goal.returns-clause-page
returns-clause-page c = let e = c.in_ok-words.ensures in let inv = c.keeper.invariant in
    let role = ap (λ (h : Held). h.view.role) (sym c.keeper.view_is) ∙ inv.2 in
    let kept = subst (λ (h : Held). AreKept h.view.duties) c.keeper.view_is inv.7 in
    c.from_words.ensures.bits ∙ ap₂ (λ (n : ℕ) (ws : List ℕ). record { n = n; members = members_of ws }) (ap (λ (x : PlaneId). x.shape.n) c.self.view_is)
    (sym (words_there c.args.self.now.shape c.args.keeper.now c.collect_slot.new.keeper c.args.page.number c.in_ok-words.words.items role kept c.requires.quiet e.keeper))

pub returns-clause-keeper : goal.returns-clause-keeper
returns-clause-keeper c = let e = c.in_ok-words.ensures in let inv = c.keeper.invariant in
    let role = ap (λ (h : Held). h.view.role) (sym c.keeper.view_is) ∙ inv.2 in
    let kept = subst (λ (h : Held). AreKept h.view.duties) c.keeper.view_is inv.7 in
    keeper_then c.args.self.now.shape c.args.keeper.now c.collect_slot.new.keeper c.args.page.number c.in_ok-words.words.items role kept c.requires.quiet e.keeper

pub returns-clause-whole : goal.returns-clause-whole
returns-clause-whole c = let e = c.in_ok-words.ensures in let inv = c.keeper.invariant in
    let role = ap (λ (h : Held). h.view.role) (sym c.keeper.view_is) ∙ inv.2 in
    let kept = subst (λ (h : Held). AreKept h.view.duties) c.keeper.view_is inv.7 in
    collected_then c.args.self.now.shape c.args.keeper.now c.collect_slot.new.keeper c.args.page.number c.in_ok-words.words.items role kept c.requires.quiet e.keeper e.met (sym c.in_ok-words.words.ok.0 ∙ e.many)

pub returns-clause-marks : goal.returns-clause-marks
returns-clause-marks c = let e = c.in_ok-words.ensures in let inv = c.keeper.invariant in
    let role = ap (λ (h : Held). h.view.role) (sym c.keeper.view_is) ∙ inv.2 in
    let kept = subst (λ (h : Held). AreKept h.view.duties) c.keeper.view_is inv.7 in
    subst (AreAllMarks c.args.self.now.shape c.collect_slot.new.keeper.view c.args.page.number) (sym (ap (λ (p : PageSet). p.members) c.from_words.ensures.bits))
    (all_marks c.args.self.now.shape c.args.keeper.now c.collect_slot.new.keeper c.args.page.number c.in_ok-words.words.items role kept c.requires.quiet e.keeper e.met (sym c.in_ok-words.words.ok.0 ∙ e.many))

pub returns-clause-alone : goal.returns-clause-alone
returns-clause-alone c = let e = c.in_ok-words.ensures in let inv = c.keeper.invariant in let shape = c.args.self.now.shape in let page = c.args.page.number in let after = c.collect_slot.new.keeper in
    let role = ap (λ (h : Held). h.view.role) (sym c.keeper.view_is) ∙ inv.2 in
    let kept = subst (λ (h : Held). AreKept h.view.duties) c.keeper.view_is inv.7 in
    let is = c.from_words.ensures.bits ∙ ap (λ (n : ℕ). record { n = n; members = members_of c.in_ok-words.words.items }) (ap (λ (x : PlaneId). x.shape.n) c.self.view_is) in
    λ none_out. is ∙ alone_set shape c.args.keeper.now after page c.in_ok-words.words.items role kept c.requires.quiet e.keeper e.met (sym c.in_ok-words.words.ok.0 ∙ e.many) none_out
