use Rattle.std.proofs.Common.{◌∙◌, arith}
use Rattle.std.proofs.lemmas.List.{take_at}
use Rattle.archive_record.proofs.Words.{words_are}
use Rattle.archive_record.proofs.fields.words_of.Goals as goal

pub returns-clause-exact : goal.returns-clause-exact
returns-clause-exact c =
    take_at c.read_u64_into.new.dst _ _ (omega (arith, c.in_ok-words.ensures.len)) ∙ words_are c.args.count c.read_u64_into.new.dst c.args.bytes.now (omega (arith, c.in_ok-words.ensures.len)) c.read_u64_into.ensures
