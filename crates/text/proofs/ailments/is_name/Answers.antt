-- The three words in turn. Assumes nothing.
use Rattle.std.proofs.Common.{◌∙◌}
use Rattle.model.proofs.Laws.Tests.{clash}
use Rattle.text.specs.Ailments.{is_name}
use Rattle.text.proofs.ailments.is_name.Goals as goal
use Rattle.text.proofs.ailments.is_name.Goals.{then-is_run, else-is_run}

pub returns-then-is_run-2 : goal.returns-then-is_run-2
unfolding is_name
returns-then-is_run-2 c =
    elim c.if-is_run.branch [
      | then-is_run w ↦ rw (c.if-is_run-2.true, ← c.is_run.ensures, w.if-is_run.true)
      | else-is_run w ↦ rw (c.if-is_run-2.true, ← c.is_run.ensures, w.if-is_run.false, ← w.is_run-else-is_run.ensures, ← w.value-is, c.if-is_run-2.true)
    ]

pub returns-else-is_run-2 : goal.returns-else-is_run-2
unfolding is_name
returns-else-is_run-2 c =
    elim c.if-is_run.branch [
      | then-is_run w ↦ absurd (clash (w.value-is ∙ w.if-is_run.true) c.if-is_run-2.false)
      | else-is_run w ↦ rw (← c.is_run.ensures, w.if-is_run.false, ← w.is_run-else-is_run.ensures, ← w.value-is, c.if-is_run-2.false) c.is_run-else-is_run-2.ensures
    ]
