-- The limit behind its opening, or nothing. Assumes nothing.
use mathlib.Core.List.{[], flatten}
use mathlib.Core.Path.{refl}
use Rattle.form.specs.Form.{print_pairs}
use Rattle.print.specs.Laws.Written.{begin, done}
use Rattle.job_lines.proofs.put_pairs.Goals as goal

pub returns-else-there-clause-wrote : goal.returns-else-there-clause-wrote
unfolding print_pairs flatten
returns-else-there-clause-wrote c = rw c.if-there.false (done refl (begin [] refl (rw c.if-there.false at c.requires)))
