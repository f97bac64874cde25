use Rattle.std.proofs.Common.{refl}
use Rattle.gate_core.specs.declared.core_data.CoreData.{CoreData}
use Rattle.gate_core.proofs.FirstState.{is_start, start_sound}
use Rattle.gate_core.proofs.initial.first_data.Goals as goal

pub returns-clause-start : goal.returns-clause-start
returns-clause-start c =
    let m : CoreData = record { shape = c.args.shape; words = c.in_ok-first_words.field-0; seats = c.in_ok-seats.field-0; desk = c.in_ok-desk.field-0; entries = c.no_log.result; visits = c.no_log-2.result; room = 0 } in
    is_start m c.args.passes c.in_ok-first_words.ensures.exact c.in_ok-seats.ensures c.in_ok-desk.ensures.duties c.no_log.ensures.items c.no_log.ensures.places c.no_log-2.ensures.items c.no_log-2.ensures.places refl

pub returns-clause-sound : goal.returns-clause-sound
returns-clause-sound c =
    let m : CoreData = record { shape = c.args.shape; words = c.in_ok-first_words.field-0; seats = c.in_ok-seats.field-0; desk = c.in_ok-desk.field-0; entries = c.no_log.result; visits = c.no_log-2.result; room = 0 } in
    start_sound m c.args.passes c.in_ok-first_words.ensures.exact c.in_ok-seats.ensures c.in_ok-desk.ensures.duties c.no_log.ensures.items c.no_log.ensures.places c.no_log-2.ensures.items c.no_log-2.ensures.places refl
    c.requires.few_passes c.requires.shape c.in_ok-desk.ensures.families c.no_log.ensures.room c.no_log-2.ensures.room c.in_ok-desk.ensures.room
