-- Some byte is 10. Assumes nothing.
use Rattle.std.proofs.Common.{◌∙◌}
use Rattle.text.specs.Laws.Walking.{ended_any}
use Rattle.text.proofs.ailments.is_ended.Goals as goal

pub returns : goal.returns
returns c = c.contains.ensures.value ∙ rw c.rest_from.ensures (ended_any _)
