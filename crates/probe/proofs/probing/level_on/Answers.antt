-- The rows of a group that can be looked up can be searched. Assumes nothing.
use Rattle.probe.specs.Laws.Terms.{row_findable}
use Rattle.probe.proofs.probing.level_on.Goals as goal

pub last_within-row-requires-clause-probeable : goal.last_within-row-requires-clause-probeable
last_within-row-requires-clause-probeable c = (row_findable c.requires).0
