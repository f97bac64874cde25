use Rattle.std.proofs.Common.{◌≡◌, ◌≤◌, [], length}
use Rattle.line_text.specs.Reading.{IsReached}
use Rattle.line_text.specs.Text.{lines}
use Rattle.evidence_text.specs.Before.{known_of}
use Rattle.evidence_text.specs.Reading.{reader, read_lines}
use Rattle.evidence_text.specs.Language.{certificates}
use Rattle.evidence_text.proofs.reader.read_lines.Given as goal

-- what is read of the rest from here on is what is read of all
abbrev pub invariant-loop-front : goal.invariant-loop-front
invariant-loop-front l = record {
  reached : IsReached certificates reader l.text l.rest l.draft;
  goes : read_lines l.draft (lines l.rest) ≡ read_lines (known_of []) (lines l.text);
  short : l.draft.read ≤ length l.text;
}

abbrev pub decreases-loop-front : goal.decreases-loop-front
decreases-loop-front l = length l.rest
