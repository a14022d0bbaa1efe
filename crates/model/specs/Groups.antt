-- A group of a job. Assumes nothing.
use Rattle.std.specs.Prelude.{ℕ, Bool, List}
use Rattle.model.specs.declared.Limits.{Limits}

-- 01: a group names its units, a total and its limits; a member is the unit's number less 1. 02: "The writer prints pairs only if it was there"
pub record Group : Type 0 where
  pub total : ℕ
  pub limits : Limits
  pub pairs_there : Bool
  pub members : List ℕ
