use Rattle.std.proofs.Common.{◌+◌, arith}
use Rattle.line_text.proofs.BuiltLines.{cut_room}
use Rattle.std.proofs.lemmas.List.{take_all}
use Rattle.line_text.proofs.writing.push_counted.Goals as goal

pub returns-clause-text : goal.returns-clause-text
returns-clause-text c =
    let start = c.len-start.ensures in
    let within = c.counted_in-length.ensures.within in
    let kept = c.counted_in-length.ensures.kept in
    let old = take_all (c.len-start.result + 32) c.args.out.now.items (omega (arith, start)) in
    rw (c.truncate.ensures.items, c.in_ok-resize.ensures.len, c.deref_mut.ensures.value, c.in_ok-resize.ensures.items, old)
    (cut_room c.len-start.result _ _ c.args.out.now.items _ _ _ _ _ (omega (arith, start)) (omega (arith, within)) (omega (arith, within, kept)) c.counted_in-length.ensures.written)
