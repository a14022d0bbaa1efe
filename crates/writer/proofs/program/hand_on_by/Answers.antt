-- The table that is read opens the settling; a refusal's line is handed on. Assumes nothing.
use mathlib.Core.Path.{refl}
use Rattle.report.proofs.Laws.Printed.{read_opens, read_refused, refusal_printed}
use Rattle.writer.specs.Handing.{handed_read}
use Rattle.writer.proofs.Laws.Handing.{handed_read_lem}
use Rattle.writer.proofs.program.hand_on_by.Goals as goal

pub hand_settled-requires : goal.hand_settled-requires
hand_settled-requires c =
    let room = c.requires in
    record { opened = read_opens c.read.ensures c.in-Ok.is _ room.for_scratch; most_bytes_in_bounds = room.for_buffer }

pub returns-in-Err : goal.returns-in-Err
unfolding handed_read
returns-in-Err c =
    let refuses = read_refused c.read.ensures c.requires.for_lows c.requires.for_highs c.in-Err.is in
    let (counted, holds) = refusal_printed (handed_read_lem _ refuses) refl c.refusal_line.ensures.value c.refusal_line.ensures.buffer_after in
    record { value = counted; buffer_after = holds }
