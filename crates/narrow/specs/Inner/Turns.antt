-- What a turn of narrowing leaves in the lists. Assumes nothing.
use Rattle.std.specs.Prelude.{ℕ, List, ◌≡◌, Bool}
use Rattle.model.specs.Plans.{has_plan, turn_of, narrowed_lows, narrowed_highs}
use Rattle.model.specs.Shares.{pick}
use Rattle.model.specs.declared.Limits.{Limits}
use Rattle.model.specs.declared.Turn.{Turn}
use Rattle.model.specs.declared.Turn.TheVariants.{NoPlan}

-- whether a group that has shares has a plan, and both lists after it: narrowed if it has, else as they were
pub record NarrowedIf (lows highs : List ℕ) (total : ℕ) (limits : Limits) (planned : Bool) (lows_left highs_left : List ℕ) : Type 0 where
  pub answer : planned ≡ has_plan lows highs total limits
  pub lows_are : lows_left ≡ pick planned (narrowed_lows lows highs total limits) lows
  pub highs_are : highs_left ≡ pick planned (narrowed_highs lows highs total limits) highs

-- a list after a turn: the narrowed one, or as it was where there is no plan
abbrev pub after_turn : Turn → List ℕ → List ℕ → List ℕ
after_turn Turn.Narrowed narrowed was = narrowed
after_turn (NoPlan number) narrowed was = was

-- 01: "A turn hands back narrowed ranges or a refusal": the answer, and both lists after it
pub record Turned (lows highs : List ℕ) (total : ℕ) (limits : Limits) (turn : Turn) (lows_left highs_left : List ℕ) : Type 0 where
  pub answer : turn ≡ turn_of lows highs total limits
  pub lows_are : lows_left ≡ after_turn turn (narrowed_lows lows highs total limits) lows
  pub highs_are : highs_left ≡ after_turn turn (narrowed_highs lows highs total limits) highs
