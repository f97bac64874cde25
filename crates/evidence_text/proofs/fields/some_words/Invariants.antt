use Rattle.std.proofs.Common.{◌≡◌, ◌-◌, ◌*◌, length}
use Rattle.evidence_text.proofs.SomeWords.{left}
use Rattle.evidence_text.specs.Reading.{some_words}
use Rattle.evidence_text.proofs.fields.some_words.Given as goal

-- the words so far and those that are left are all
abbrev pub invariant-words : goal.invariant-words
invariant-words l = record {
  all : left l.words.items (l.fn.count - l._at) l.rest ≡ some_words l.fn.count l.fn.field;
  many : l.words.len ≡ l._at;
  long : length l.rest ≡ 16 * (l.fn.count - l._at);
}
