use Rattle.std.proofs.Common.{rules, ◌≡◌, ◌+◌, take, drop, replicate, ◌-◌, ap, ◌∙◌, arith}
use Rattle.ipv4_header.specs.Grammar.{refusal_of, header_in}
use Rattle.ipv4_header.specs.Spelling.{right_checksum, spelled}
use Rattle.ipv4_header.proofs.Reread.{IsWritable, IsInRange, take-fields_of, drop-fields_of, refusal_of-spelled, header_in-spelled}
use Rattle.ipv4_header.proofs.writing.write.Goals as goal

-- the bytes that are told are the header's
told : (c : goal.After-summed) → take (20 + c.from-count.result) c.summed.result ≡ spelled c.args.header.now
unfolding spelled
told c =
    ap (λ n. take (20 + n) c.summed.result) c.from-count.ensures
    ∙ ap (take (20 + c.args.header.now.option_length)) c.summed.ensures.exact
    ∙ take-fields_of c.args.header.now (right_checksum c.args.header.now)

writable : (c : goal.After-summed) → IsWritable c.args.header.now
writable c = record {
  whole_words = c.requires.whole_words;
  most = c.requires.most;
  unused = c.requires.unused;
  total = c.requires.total;
  room = search rules;
}

in_range : (c : goal.After-summed) → IsInRange c.args.header.now
in_range c = record {
  total_length = omega arith;
  identification = omega arith;
  flags_fragment = omega arith;
  source = c.summed.ensures.source;
  destination = c.summed.ensures.destination;
}

pub returns-clause-bytes : goal.returns-clause-bytes
returns-clause-bytes c = told c

pub returns-clause-rest : goal.returns-clause-rest
returns-clause-rest c =
    ap (λ n. drop (20 + n) c.summed.result) c.from-count.ensures
    ∙ ap (drop (20 + c.args.header.now.option_length)) c.summed.ensures.exact
    ∙ drop-fields_of c.args.header.now (right_checksum c.args.header.now) (writable c)
    ∙ ap (λ n. replicate n 0) (let left : 40 - c.args.header.now.option_length ≡ 60 - (20 + c.from-count.result) = omega (arith, c.from-count.ensures) in left)

pub returns-clause-accepted : goal.returns-clause-accepted
returns-clause-accepted c = ap refusal_of (told c) ∙ refusal_of-spelled c.args.header.now ((in_range c).total_length) (writable c)

pub returns-clause-reads_back : goal.returns-clause-reads_back
returns-clause-reads_back c = ap header_in (told c) ∙ header_in-spelled c.args.header.now (in_range c) (writable c)
