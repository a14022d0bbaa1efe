-- A settled job is written; for want of a plan the refusal's line is handed on, and no other refusal is left. Assumes nothing.
use Rattle.std.specs.Prelude.{Err, refl}
use Rattle.std.proofs.Common.{ap, ◌∙◌}
use Rattle.report.proofs.Laws.Printed.{refusal_printed}
use Rattle.writer.proofs.Laws.Program.{never_short, opened_through, refused_hands, settled_through, settled_hands}
use Rattle.writer.proofs.program.hand_answer.Goals as goal

pub unwrap-requires : goal.unwrap-requires
unwrap-requires c =
    let from = c.requires.settled_from in
    never_short c.args.buffer.now (settled_through from.opened from.settles c.in-Ok.is) c.requires.most_bytes_in_bounds c.write.ensures

pub returns-in-Ok : goal.returns-in-Ok
returns-in-Ok c =
    let from = c.requires.settled_from in
    let (counted, holds) = settled_hands from.opened from.settles c.in-Ok.is c.args.buffer.now (rw c.unwrap.ensures at c.write.ensures) in
    record { value = counted; buffer_after = holds }

pub returns-in-Err-NoPlan : goal.returns-in-Err-NoPlan
returns-in-Err-NoPlan c =
    let from = c.requires.settled_from in
    let refuses = c.in-Err-NoPlan.is ∙ ap Err (rw c.in-Err-NoPlan.is at c.in-Err-NoPlan.field-0-is) in
    let handed = refused_hands from.opened from.settles refuses in
    let (counted, holds) = refusal_printed handed refl c.refusal_line.ensures.value c.refusal_line.ensures.buffer_after in
    record { value = counted; buffer_after = holds }

pub returns-in-Err-Refused : goal.returns-in-Err-Refused
returns-in-Err-Refused c =
    let from = c.requires.settled_from in
    absurd (opened_through from.opened from.settles (c.in-Err-Refused.is ∙ ap Err (rw c.in-Err-Refused.is at c.in-Err-Refused.field-0-is)))
