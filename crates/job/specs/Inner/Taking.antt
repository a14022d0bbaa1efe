-- The place of a line in its text. Assumes nothing.
use Rattle.std.specs.Prelude.{ℕ, ◌+◌}
use Rattle.job.specs.declared.steps.Progress.{Progress}

-- the place of the line that is read
abbrev pub place_at : Progress → ℕ
place_at p = p.units + p.groups + 1
