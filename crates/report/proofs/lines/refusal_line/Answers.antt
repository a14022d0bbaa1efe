-- The longest refusal's line fits. Assumes nothing.
use Rattle.std.proofs.Common.{rules, ◌∙◌, arith}
use Rattle.print.specs.Inner.Written.{Room}
use Rattle.print.specs.Laws.Written.{from_start}
use Rattle.report.specs.Lines.{refusal_line}
use Rattle.report.proofs.Laws.Lengths.{refusal_length}
use Rattle.report.proofs.lines.refusal_line.Goals as goal
use Rattle.report.proofs.lines.refusal_line.Goals.{Start}

room : (start : Start) → Room start.args.buffer.now 0 (refusal_line start.args.number start.args.place)
room start =
    record {
      fits =
          omega (
            arith,
            start.requires,
            refusal_length start.args.number start.args.place start.ranges.number.fits start.ranges.place.fits,
          );
    }

pub line-requires : goal.line-requires
line-requires c = room (goal.at.line-requires c).Start

pub returns : goal.returns
returns c =
    let (counted, holds) = from_start (room (goal.at.returns c).Start) c.line.ensures.wrote in
    record { value = counted; buffer_after = search rules ∙ holds }
