-- Each line of a certificate is read as what it says, and so each text as what it is.
use Rattle.std.proofs.Common.{◌≡◌, ◌&&◌, ℕ, List, ◌∷◌, refl, Bool, true, false}
use Rattle.std.specs.declared.option.Option.{Option}
use Rattle.line_text.specs.Reading.{ReadsLines}
use Rattle.evidence_text.proofs.Again.{IsFew}
use Rattle.evidence_text.proofs.Taken.{line_meets, line_again, line_sole}
use Rattle.evidence_text.specs.Language.{IsLine, certificates, refusals}
use Rattle.evidence_text.specs.Order.{count_of, is_count, is_over, last_link, last_page, routers_told, stage_of, stands}
use Rattle.evidence_text.specs.Reading.{reader}
use Rattle.evidence_text.specs.Said.{Said, VersionLine, RoutersLine, LinkLine, StartLine, RouterLine, PageLine, RowLine, NodeLine, EdgeLine, UnknownLine, ClearLine, EndLine, EarlyLine}
use Rattle.evidence_text.specs.declared.certificates.Link.{Link}
use Rattle.evidence_text.specs.declared.words.Stage.{Stage}
use Rattle.evidence_text.specs.declared.words.Stage.TheVariants as stage

abbrev pub Fit : List Said → Type 0
Fit said = IsFew (count_of said)

stays : (before : List Said) (line : List ℕ) (s : Said) → Fit before → IsLine before line s → Fit (s ∷ before)
stays before line VersionLine f l = f
stays before line (RoutersLine count) f l = l.spelled.formed.1
stays before line (LinkLine link) f l = f
stays before line (StartLine start) f l = f
stays before line (RouterLine shape missing) f l = f
stays before line (PageLine page words) f l = f
stays before line (RowLine row) f l = f
stays before line (NodeLine named) f l = f
stays before line (EdgeLine edge) f l = f
stays before line (UnknownLine node) f l = f
stays before line (ClearLine node) f l = f
stays before line EndLine f l = f
stays before line (EarlyLine w rest) f l = f

-- behind the last line none stands
over_by : (b : Bool) → (b && false) ≡ true → ⊥
over_by true e = absurd (cc)
over_by false e = absurd (cc)

over_stands : (c : Option ℕ) (n : ℕ) (link : Option Link) (page : Option ℕ) (s : Said) → stands (record { stage = stage.Over; count = c; told = n; link = link; page = page }) s ≡ true → ⊥
over_stands c n link page VersionLine e = absurd (cc)
over_stands c n link page (RoutersLine count) e = absurd (cc)
over_stands c n link page (LinkLine l) e = absurd (cc)
over_stands c n link page (StartLine start) e = absurd (cc)
over_stands c n link page (RouterLine shape missing) e = absurd (cc)
over_stands c n link page (PageLine p words) e = absurd (cc)
over_stands c n link page (RowLine row) e = absurd (cc)
over_stands c n link page (NodeLine named) e = over_by (is_count c n) e
over_stands c n link page (EdgeLine edge) e = over_by (is_count c n) e
over_stands c n link page (UnknownLine node) e = over_by (is_count c n) e
over_stands c n link page (ClearLine node) e = over_by (is_count c n) e
over_stands c n link page EndLine e = over_by (is_count c n) e
over_stands c n link page (EarlyLine w rest) e = absurd (cc)

not_over : (here : Stage) (c : Option ℕ) (n : ℕ) (link : Option Link) (page : Option ℕ) (s : Said) → stands (record { stage = here; count = c; told = n; link = link; page = page }) s ≡ true → is_over here ≡ false
not_over stage.Version c n link page s e = refl
not_over stage.Routers c n link page s e = refl
not_over stage.Links c n link page s e = refl
not_over stage.Pages c n link page s e = refl
not_over stage.Nodes c n link page s e = refl
not_over stage.Edges c n link page s e = refl
not_over stage.Unknown c n link page s e = refl
not_over stage.Clear c n link page s e = refl
not_over stage.Over c n link page s e = absurd (over_stands c n link page s e)

pub reads_lines : ReadsLines certificates refusals reader Fit
reads_lines = record {
  begins = tt;
  stays = stays;
  over = λ said. refl;
  counts = λ said. refl;
  values = λ said. refl;
  before_end = λ before line s l. not_over (stage_of before) (count_of before) (routers_told before) (last_link before) (last_page before) s l.stands;
  meets = λ before line f o. line_meets before line f;
  again = λ before line s f l. line_again before line s f l;
  sole = λ before line rule f o b. line_sole before line rule f b;
}
