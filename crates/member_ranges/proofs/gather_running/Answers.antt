-- Of the members passed, the running ones' ranges are written, in order. Assumes nothing.
use Rattle.std.proofs.Common.{arith}
use Rattle.member_ranges.specs.Laws.Writing.{gathered_more, gathered_skip, gathered_all}
use Rattle.member_ranges.proofs.gather_running.Goals as goal
use Rattle.member_ranges.proofs.gather_running.Goals.{then-marks-unit-eq-RUNNING, else-marks-unit-eq-RUNNING}

pub loop-member-preserved : goal.loop-member-preserved
loop-member-preserved c =
    let inv = c.loop-member.invariant in
    elim c.if-marks-unit-eq-RUNNING.branch [
      | then-marks-unit-eq-RUNNING w ↦ rw (w.member_lows-is, w.member_highs-is, w.count-is) (
        gathered_more inv.0 c.loop-member-test.true (omega (arith, inv.0.few)) w.if-marks-unit-eq-RUNNING.true,
        gathered_more inv.1 c.loop-member-test.true (omega (arith, inv.0.few)) w.if-marks-unit-eq-RUNNING.true,
      )
      | else-marks-unit-eq-RUNNING w ↦ rw (w.member_lows-is, w.member_highs-is, w.count-is) (
        gathered_skip inv.0 c.loop-member-test.true w.if-marks-unit-eq-RUNNING.false,
        gathered_skip inv.1 c.loop-member-test.true w.if-marks-unit-eq-RUNNING.false,
      )
    ]

pub returns : goal.returns
returns c =
    record {
      few = omega (arith, c.loop-member.invariant.0.few);
      lows_are = gathered_all c.loop-member.invariant.0 c.loop-member-test.false;
      highs_are = gathered_all c.loop-member.invariant.1 c.loop-member-test.false;
    }
