-- Each line of a trace is read as what it says, and so each text as what it is.
use Rattle.std.proofs.Common.{ℕ, ◌≡◌, List, ◌∷◌, refl, ap, ◌∙◌, Result, Ok, Err}
use Rattle.line_text.proofs.Readings as texts
use Rattle.line_text.specs.Reading.{LineMeets, ReadsLines}
use Rattle.trace_format.specs.Before.{Known, known_of, form_at}
use Rattle.trace_format.specs.Fault.{refusals}
use Rattle.trace_format.specs.Laws.{EachTextIsOne}
use Rattle.trace_format.specs.Reading.{read_line, reader}
use Rattle.trace_format.specs.Said.{Said}
use Rattle.trace_format.specs.Trace.{IsLine, traces}
use Rattle.trace_format.specs.Words.{stage_of, word_said}
use Rattle.trace_format.specs.declared.refused.WhyRefused.{WhyRefused}
use Rattle.trace_format.proofs.Again.{read_again}
use Rattle.trace_format.proofs.Faulty.{line_bad}
use Rattle.trace_format.proofs.Growing.{grown_known}
use Rattle.trace_format.proofs.Sole.{line_sole}
use Rattle.trace_format.proofs.Stages.{open_stage}
use Rattle.trace_format.proofs.Taken.{read_accepted, judged_fits, fits_judged}

-- a trace's rules look at no more of the lines before than what is known of them
abbrev pub Any : List Said → Type 0
Any before = Unit {0}

line_meets : (before : List Said) (line : List ℕ) (read : Result Known WhyRefused) → read_line (known_of before) line ≡ read → LineMeets traces refusals reader before line read
line_meets before line (Ok new) e =
    let s = read_accepted (known_of before) new line e in
    (s.said, record { short = s.short; comes = s.comes; spelled = s.spelled; fits = judged_fits (known_of before) s.said s.fits }, s.grows ∙ grown_known before s.said)
line_meets before line (Err rule) e = line_bad before line rule e

line_again : (before : List Said) (line : List ℕ) (s : Said) → IsLine before line s → read_line (known_of before) line ≡ Ok (known_of (s ∷ before))
line_again before line s l = read_again (known_of before) s line l.short l.comes l.spelled (fits_judged (known_of before) s l.fits) ∙ ap (λ v. Ok v) (grown_known before s)

pub reads_lines : ReadsLines traces refusals reader Any
reads_lines = record {
  begins = tt;
  stays = λ before line s fit l. tt;
  over = λ said. refl;
  counts = λ said. refl;
  values = λ said. refl;
  before_end = λ before line s l. open_stage (form_at before) (stage_of before) (word_said s) l.comes;
  meets = λ before line fit o. line_meets before line _ refl;
  again = λ before line s fit l. line_again before line s l;
  sole = λ before line rule fit o h. line_sole before line rule h;
}

pub one_of : EachTextIsOne
one_of text = texts.one_of traces refusals reader Any reads_lines text
