-- The answers of reading, and what it leaves in the lists. Assumes nothing.
use Rattle.std.specs.Prelude.{ℕ, ◌&&◌, List, ◌++◌, ◌≡◌, leb, length, drop, Result, Ok, Err}
use Rattle.model.specs.Shares.{pick}
use Rattle.job.specs.Job.{JobOrRefusal, accepted, refused, read_job}
use Rattle.job.specs.declared.Counts.{Counts}
use Rattle.model.specs.Refusals.{refusal}
use Rattle.model.specs.declared.Refusal.{Refusal}

-- 01: the counts of units and groups, or the refusal's number and place
abbrev pub reading_of : JobOrRefusal → Result Counts Refusal
reading_of (accepted job) = Ok (record { units = length job.lows; groups = length job.groups })
reading_of (refused r) = Err r

-- 01: then 1 for a table too short for the units
unfoldable pub fit_table : ℕ → ℕ → JobOrRefusal → JobOrRefusal
fit_table a b (accepted job) =
    pick (leb (length job.lows) a && leb (length job.lows) b) (accepted job) (refused (refusal 1 0))
fit_table a b (refused r) = refused r

-- reading a text into a table whose lists have these lengths
unfoldable pub read_table : List ℕ → ℕ → ℕ → JobOrRefusal
read_table text a b = fit_table a b (read_job text)

-- 01: reading "fills the table from the unit lines"; past the units, and on a refusal, it keeps its values
abbrev pub lows_after : JobOrRefusal → List ℕ → List ℕ
lows_after (accepted job) lows = job.lows ++ drop (length job.lows) lows
lows_after (refused r) lows = lows

-- and so the highs
abbrev pub highs_after : JobOrRefusal → List ℕ → List ℕ
highs_after (accepted job) highs = job.highs ++ drop (length job.lows) highs
highs_after (refused r) highs = highs

-- what reading a text into a table answers, and what it leaves there
pub record ReadInto (text lows₀ highs₀ lows highs : List ℕ) (r : Result Counts Refusal) : Type 0 where
  pub answer : r ≡ reading_of (read_table text (length lows₀) (length highs₀))
  pub lows_are : lows ≡ lows_after (read_table text (length lows₀) (length highs₀)) lows₀
  pub highs_are : highs ≡ highs_after (read_table text (length lows₀) (length highs₀)) highs₀
