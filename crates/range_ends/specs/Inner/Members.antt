-- What the loops over the members of a group go on. Assumes nothing.
use Rattle.std.specs.Prelude.{ℕ, Bool, List}
use Rattle.model.specs.Plans.{narrowed_lows, narrowed_highs}
use Rattle.model.specs.Shares.{pick}
use Rattle.model.specs.declared.Limits.{Limits}
use Rattle.model.specs.declared.Question.{Question}
use Rattle.probe.specs.Inner.Pinned.{Reached}
use Rattle.probe.specs.Inner.Terms.{Termed}
use Rattle.range_ends.specs.declared.members.EndsAsked.{EndsAsked}
use Rattle.range_ends.specs.Inner.Tabled.{Tabled, HasPlan}

-- the highs of the narrowed ranges, or the lows
abbrev pub narrowed_ends : Bool → List ℕ → List ℕ → ℕ → Limits → List ℕ
narrowed_ends up lows highs total limits = pick up (narrowed_highs lows highs total limits) (narrowed_lows lows highs total limits)

-- a group that has a plan, with its table, its terms and the level that its total reaches
pub record Narrowable (lows highs table : List ℕ) (question : Question) (asked : EndsAsked) : Type 0 where
  pub has : HasPlan lows highs question.total question.limits
  pub tabled : Tabled lows highs question.total question.limits table
  pub termed : Termed lows highs table question.total question.limits asked.terms
  pub mark : ℕ
  pub moving : ℕ
  pub reached : Reached lows highs question.total mark moving asked.levelled.level asked.levelled.over
