-- Of the members passed, the running ones' ranges are replaced, and those of the others are still to come. Assumes nothing.
use Rattle.std.proofs.Common.{arith}
use Rattle.member_ranges.specs.Laws.Writing.{scattered_more, scattered_skip, scattered_all}
use Rattle.member_ranges.proofs.scatter_running.Goals as goal
use Rattle.member_ranges.proofs.scatter_running.Goals.{then-marks-unit-eq-RUNNING, else-marks-unit-eq-RUNNING}

pub loop-member-preserved : goal.loop-member-preserved
loop-member-preserved c =
    let inv = c.loop-member.invariant in
    elim c.if-marks-unit-eq-RUNNING.branch [
      | then-marks-unit-eq-RUNNING w ↦ rw (w.lows-is, w.highs-is, w.count-is) (
        scattered_more inv.0 c.loop-member-test.true (omega (arith, inv.0.few)) w.if-marks-unit-eq-RUNNING.true,
        scattered_more inv.1 c.loop-member-test.true (omega (arith, inv.0.few)) w.if-marks-unit-eq-RUNNING.true,
      )
      | else-marks-unit-eq-RUNNING w ↦ rw (w.lows-is, w.highs-is, w.count-is) (
        scattered_skip inv.0 c.loop-member-test.true w.if-marks-unit-eq-RUNNING.false,
        scattered_skip inv.1 c.loop-member-test.true w.if-marks-unit-eq-RUNNING.false,
      )
    ]

pub returns : goal.returns
returns c = record { lows_after = scattered_all c.loop-member.invariant.0 c.loop-member-test.false; highs_after = scattered_all c.loop-member.invariant.1 c.loop-member-test.false }
