-- The planner's answers as C and Rust get them: structs of numbers, with refusal number 0 where there is none. Assumes nothing.
use Rattle.std.specs.Prelude.{ℕ, Result, Ok, Err}
use Rattle.model.specs.Shares.{pick}
use Rattle.model.specs.declared.Limit.{Limit}
use Rattle.model.specs.declared.Limit.TheVariants.{Any, AtMost}
use Rattle.model.specs.declared.Limits.{Limits}
use Rattle.model.specs.declared.Refusal.{Refusal}
use Rattle.levelling.specs.declared.Levelled.{Levelled}
use Rattle.job.specs.declared.Counts.{Counts}
use Rattle.report.specs.declared.Written.{Written}
use Rattle.works.specs.declared.Unsettled.{Unsettled}
use Rattle.works.specs.declared.Unsettled.TheVariants.{NoPlan, Refused}
use Rattle.planner.specs.declared.ForeignWritten.{ForeignWritten}
use Rattle.planner.specs.declared.ForeignReport.{ForeignReport}
use Rattle.planner.specs.declared.ForeignSettled.{ForeignSettled}
use Rattle.planner.specs.declared.ForeignRead.{ForeignRead}
use Rattle.planner.specs.declared.ForeignLimit.{ForeignLimit}
use Rattle.planner.specs.declared.ForeignLimits.{ForeignLimits}
use Rattle.planner.specs.declared.ForeignRefusal.{ForeignRefusal}
use Rattle.planner.specs.declared.ForeignLevelled.{ForeignLevelled}

abbrev pub foreign_refusal : Refusal → ForeignRefusal
foreign_refusal refusal = record { number = refusal.number; place = refusal.place }

-- no refusal
abbrev pub accepted : ForeignRefusal
accepted = record { number = 0; place = 0 }

-- a levelling; on a refusal the level and the figures are 0
abbrev pub foreign_levelled : Result Levelled Refusal → ForeignLevelled
foreign_levelled (Ok answer) = record {
  refusal = accepted;
  level = answer.level.copies;
  deviation = record { value = answer.figures.deviation.0 };
  spread = record { value = answer.figures.spread.0 };
  pairs = record { value = answer.figures.pairs.0 };
}
foreign_levelled (Err refusal) = record {
  refusal = foreign_refusal refusal;
  level = 0;
  deviation = record { value = 0 };
  spread = record { value = 0 };
  pairs = record { value = 0 };
}

-- a limit as it comes across
abbrev pub foreign_limit : ForeignLimit → Limit
foreign_limit limit = pick limit.any Any (AtMost limit.at_most)

abbrev pub foreign_limits : ForeignLimits → Limits
foreign_limits limits = record {
  deviation = foreign_limit limits.deviation;
  spread = foreign_limit limits.spread;
  pairs = foreign_limit limits.pairs;
}

-- a narrowing
abbrev pub foreign_narrowed : Result (Unit {0}) Refusal → ForeignRefusal
foreign_narrowed (Ok _) = accepted
foreign_narrowed (Err refusal) = foreign_refusal refusal

-- a reading; on a refusal the counts are 0
abbrev pub foreign_read : Result Counts Refusal → ForeignRead
foreign_read (Ok counts) = record { refusal = accepted; units = counts.units; groups = counts.groups }
foreign_read (Err refusal) = record { refusal = foreign_refusal refusal; units = 0; groups = 0 }

-- a settling; the passes are 0 where it is refused ahead of the first
abbrev pub foreign_settled : Result ℕ Unsettled → ForeignSettled
foreign_settled (Ok passes) = record { refusal = accepted; passes = passes }
foreign_settled (Err (NoPlan number place passes)) =
    record { refusal = record { number = number; place = place }; passes = passes }
foreign_settled (Err (Refused refusal)) = record { refusal = foreign_refusal refusal; passes = 0 }

-- a report's answer; the passes are 0 where it is refused ahead of the first
abbrev pub foreign_report : Result Written Unsettled → ForeignReport
foreign_report (Ok written) = record { refusal = accepted; passes = written.passes; length = written.length }
foreign_report (Err (NoPlan number place passes)) =
    record { refusal = record { number = number; place = place }; passes = passes; length = 0 }
foreign_report (Err (Refused refusal)) = record { refusal = foreign_refusal refusal; passes = 0; length = 0 }

-- what writing answers; on a refusal the length is 0
abbrev pub foreign_written : Result ℕ Refusal → ForeignWritten
foreign_written (Ok length) = record { refusal = accepted; length = length }
foreign_written (Err refusal) = record { refusal = foreign_refusal refusal; length = 0 }
