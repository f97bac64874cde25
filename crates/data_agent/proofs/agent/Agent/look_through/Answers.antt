use Rattle.std.proofs.Common.{◌≡◌, ◌∙◌, ◌++◌, [], sym, subst, ap, inl, inr, false, true, arith}
use Rattle.std.proofs.lemmas.Bool.{cases_lt}
use Rattle.data_agent.specs.declared.agent.Agent.{Agent}
use Rattle.data_agent.specs.Watching.{IsLacking, IsLackingHere, TellsPage, shows_now}
use Rattle.data_agent.proofs.Places.{lacking_window, places_noted, whole_window}
use Rattle.data_agent.proofs.ReadMarks.{noted_none, noted_then, seen_later, unseen_more}
use Rattle.data_agent.proofs.Watching.{seen_by, unseen_by, watched}
use Rattle.data_agent.proofs.Windows.{window_is}
use Rattle.data_agent.proofs.agent.Agent.look_through.Goals as goal

pub pages-init : goal.pages-init
pages-init c =
    let first : c.first-first.result ≡ c.args.self.now.catalogue.gone = c.first-first.ensures in
    record {
      own = c.requires.own;
      read = ([], noted_none c.args.self.now, λ page near from lt. absurd (omega (arith, c.max-page.ensures)));
      unseen = λ rules m s page near from lt. absurd (omega (arith, c.max-page.ensures));
      amid = λ rules m s. s;
    }

pub shows-requires-clause-places : goal.shows-requires-clause-places
shows-requires-clause-places c =
    let (reads, noted, unseen) = c.pages.invariant.read in
    places_noted c.args.self.now c.pages.self reads noted c.requires.places

pub shows-requires-clause-near : goal.shows-requires-clause-near
shows-requires-clause-near c =
    let first : c.first-first.result ≡ c.args.self.now.catalogue.gone = c.first-first.ensures in
    let (reads, noted, unseen) = c.pages.invariant.read in
    let gone : c.pages.self.catalogue.gone ≡ c.args.self.now.catalogue.gone = ap (λ (a : Agent). a.catalogue.gone) noted in
    omega (arith, c.pages.auto.page, c.max-page.ensures)

pub shows-requires-clause-exists : goal.shows-requires-clause-exists
shows-requires-clause-exists c =
    let (reads, noted, unseen) = c.pages.invariant.read in
    let page : c.pages.self.page.number ≡ c.args.self.now.page.number = ap (λ (a : Agent). a.page.number) noted in
    let here = c.requires.places.exist in
    omega (arith, c.pages-test.true, c.window-window.ensures.exists)

pub returns-then-shows-clause-seen : goal.returns-then-shows-clause-seen
returns-then-shows-clause-seen c = λ rules l s.
    let first : c.first-first.result ≡ c.args.self.now.catalogue.gone = c.first-first.ensures in
    let w = window_is c.args.self.now rules l.account c.args.clock _ _ s.pages c.window-window.ensures.some c.window-window.ensures.exists c.window-window.ensures.exact in
    sym (seen_by c.args.self.now rules l c.args.clock c.args.sig.now _ _ c.pages.page s w
    (omega (arith, c.max-page.ensures, c.pages.auto.page)) (omega (arith, c.pages-test.true)) (omega (arith, c.max-page.ensures, c.pages.auto.page))
    (sym (c.shows.ensures.shows rules l (c.pages.invariant.amid rules l s)) ∙ c.if-shows.true))

pub returns-then-shows-clause-amid : goal.returns-then-shows-clause-amid
returns-then-shows-clause-amid c = λ rules m s. c.shows.ensures.amid rules m (c.pages.invariant.amid rules m s)

pub returns-then-shows-clause-watched : goal.returns-then-shows-clause-watched
returns-then-shows-clause-watched c =
    let first : c.first-first.result ≡ c.args.self.now.catalogue.gone = c.first-first.ensures in
    let (reads, noted, unseen) = c.pages.invariant.read in
    let (more, then, tells) = c.shows.ensures.read in (
      reads ++ more,
      noted_then c.args.self.now c.pages.self c.shows.new.self reads more noted then,
      record {
        page = c.pages.page;
        live = record {
          in_window = (c.window-window.ensures.exact c.pages.page).0 (omega (arith, c.max-page.ensures, c.pages.auto.page), omega (arith, c.pages-test.true));
          live = omega (arith, c.max-page.ensures, c.pages.auto.page);
        };
        seen = seen_later c.args.self.now c.pages.self reads more c.pages.page c.args.sig.now noted (subst (TellsPage c.pages.self more c.pages.page c.args.sig.now) c.if-shows.true tells);
      },
    )

pub pages-preserved : goal.pages-preserved
pages-preserved c =
    let (reads, noted, unseen) = c.pages.invariant.read in
    let (more, then, tells) = c.shows.ensures.read in
    record {
      own = c.shows.ensures.own;
      read = (
        reads ++ more,
        noted_then c.args.self.now c.pages.self c.shows.new.self reads more noted then,
        unseen_more c.args.self.now c.pages.self reads more c.window-window.result.first.number c.pages.page c.args.sig.now noted unseen (subst (TellsPage c.pages.self more c.pages.page c.args.sig.now) c.if-shows.false tells),
      );
      unseen = λ rules m s page near from lt.
          elim (cases_lt page c.pages.page) [
            | inl before ↦ c.pages.invariant.unseen rules m s page near from before
            | inr here ↦
                let at : c.pages.page ≡ page = omega arith in
                subst (λ p. shows_now rules m c.args.sig.now p ≡ false) at (sym (c.shows.ensures.shows rules m (c.pages.invariant.amid rules m s)) ∙ c.if-shows.false)
          ];
      amid = λ rules m s. c.shows.ensures.amid rules m (c.pages.invariant.amid rules m s);
    }

pub lacks-requires-clause-places : goal.lacks-requires-clause-places
lacks-requires-clause-places c =
    let (reads, noted, unseen) = c.pages.invariant.read in
    places_noted c.args.self.now c.pages.self reads noted c.requires.places

pub lacks-requires-clause-exists : goal.lacks-requires-clause-exists
lacks-requires-clause-exists c =
    let (reads, noted, unseen) = c.pages.invariant.read in
    let page : c.pages.self.page.number ≡ c.args.self.now.page.number = ap (λ (a : Agent). a.page.number) noted in
    let here = c.requires.places.exist in
    omega (arith, c.window-window.ensures.exists)

pub returns-then-lacks-clause-seen : goal.returns-then-lacks-clause-seen
returns-then-lacks-clause-seen c = λ rules l s.
    let w = window_is c.args.self.now rules l.account c.args.clock _ _ s.pages c.window-window.ensures.some c.window-window.ensures.exists c.window-window.ensures.exact in
    sym (watched rules l c.args.clock _ _ c.args.sig.now true w
    (unseen_by c.args.self.now rules l c.args.clock c.args.sig.now _ _ s w (λ page from to near. c.pages.invariant.unseen rules l s page near from (omega (arith, c.pages-test.false))))
    (subst (IsLacking rules l c.window-window.result.first.number c.window-window.result.last.number) c.if-lacks.true (c.lacks.ensures.lacking rules l (c.pages.invariant.amid rules l s))))

pub returns-else-lacks-clause-seen : goal.returns-else-lacks-clause-seen
returns-else-lacks-clause-seen c = λ rules l s.
    let w = window_is c.args.self.now rules l.account c.args.clock _ _ s.pages c.window-window.ensures.some c.window-window.ensures.exists c.window-window.ensures.exact in
    sym (watched rules l c.args.clock _ _ c.args.sig.now false w
    (unseen_by c.args.self.now rules l c.args.clock c.args.sig.now _ _ s w (λ page from to near. c.pages.invariant.unseen rules l s page near from (omega (arith, c.pages-test.false))))
    (subst (IsLacking rules l c.window-window.result.first.number c.window-window.result.last.number) c.if-lacks.false (c.lacks.ensures.lacking rules l (c.pages.invariant.amid rules l s))))

pub returns-then-lacks-clause-watched : goal.returns-then-lacks-clause-watched
returns-then-lacks-clause-watched c =
    let (reads, noted, unseen) = c.pages.invariant.read in (
      reads,
      noted,
      (
        λ page live. let (from, to) = (c.window-window.ensures.exact page).1 live.in_window in unseen page live.live from (omega (arith, c.pages-test.false)),
        lacking_window c.args.self.now c.pages.self c.args.clock c.window-window.result.first.number c.window-window.result.last.number reads noted c.window-window.ensures.exact
            (subst (IsLackingHere c.pages.self c.window-window.result.first.number c.window-window.result.last.number) c.if-lacks.true c.lacks.ensures.here),
      ),
    )

pub returns-else-lacks-clause-watched : goal.returns-else-lacks-clause-watched
returns-else-lacks-clause-watched c =
    let (reads, noted, unseen) = c.pages.invariant.read in (
      reads,
      noted,
      (
        λ page live. let (from, to) = (c.window-window.ensures.exact page).1 live.in_window in unseen page live.live from (omega (arith, c.pages-test.false)),
        whole_window c.args.self.now c.pages.self c.args.clock c.window-window.result.first.number c.window-window.result.last.number reads noted c.window-window.ensures.exact
            (subst (IsLackingHere c.pages.self c.window-window.result.first.number c.window-window.result.last.number) c.if-lacks.false c.lacks.ensures.here),
      ),
    )
