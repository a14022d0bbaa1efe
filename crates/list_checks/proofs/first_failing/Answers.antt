-- The first from i on is the first of all, while none was found. Assumes nothing.
use Rattle.std.proofs.Common.{add-one, arith, sym, ◌∙◌}
use Rattle.list_checks.proofs.Laws.First.{first_here, first_after, first_nowhere}
use Rattle.list_checks.proofs.first_failing.Goals as goal

pub returns-then-not-passes : goal.returns-then-not-passes
returns-then-not-passes g c test tells =
    let fails = sym (tells _ _ _ _ c.passes.ensures) ∙ c.if-not-passes.true in
    rw (
      ← first_here test c.args.lows.now c.args.highs.now c.args.marks.now c.loop-i.i (omega arith) (omega arith) (omega arith)
          (c.loop-i.invariant test tells) fails,
      add-one,
    )

pub loop-i-preserved : goal.loop-i-preserved
loop-i-preserved g c test tells =
    let passes = sym (tells _ _ _ _ c.passes.ensures) ∙ c.if-not-passes.false in
    first_after test c.args.lows.now c.args.highs.now c.args.marks.now c.loop-i.i (omega arith) (omega arith) (omega arith)
    (c.loop-i.invariant test tells) passes

pub returns : goal.returns
returns g c test tells =
    rw (← first_nowhere test c.args.lows.now c.args.highs.now c.args.marks.now c.loop-i.i (omega arith) (c.loop-i.invariant test tells))
