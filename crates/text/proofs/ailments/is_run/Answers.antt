-- The word and what comes after it are the definition's. Assumes nothing.
use Rattle.std.proofs.Common.{not, sym, ◌∙◌, ap}
use Rattle.text.specs.Laws.Walking.{run_none, run_some}
use Rattle.text.proofs.ailments.is_run.Goals as goal

pub returns-in_default : goal.returns-in_default
returns-in_default c = sym (run_none _ _ (sym c.in_default.ensures))

pub returns : goal.returns
returns c = ap not c.letter_at.ensures ∙ sym (run_some _ _ (sym c.in-Some.ensures))
