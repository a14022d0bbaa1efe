-- The table that is read opens the settling, whose answer is printed; so is the line of a refusal. Assumes nothing.
use Rattle.std.proofs.Common.{refl}
use Rattle.report.proofs.Laws.Printed.{answer_prints, refused_prints, read_opens, refusal_printed}
use Rattle.reporting.proofs.program.print_by.Goals as goal

pub returns-in-Ok : goal.returns-in-Ok
returns-in-Ok c =
    let room = c.requires in
    let opened = read_opens c.read.ensures c.in-Ok.is _ room.for_scratch in
    let (counted, holds) = answer_prints opened _ room.for_buffer c.report-answer.ensures c.print_answer.ensures.value c.print_answer.ensures.buffer_after in
    record { value = counted; buffer_after = holds }

pub returns-in-Err : goal.returns-in-Err
returns-in-Err c =
    let prints = refused_prints c.read.ensures c.requires.for_lows c.requires.for_highs c.in-Err.is in
    let (counted, holds) = refusal_printed prints refl c.refusal_line.ensures.value c.refusal_line.ensures.buffer_after in
    record { value = counted; buffer_after = holds }
