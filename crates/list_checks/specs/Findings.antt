-- What the checks on the lists of one group find: 01's words for each answer. Assumes nothing.
use Rattle.std.specs.Prelude.{ℕ, suc, ◌≤◌, Bool, true, false, List, ◌⊎◌, ◌≡◌, length, Result, Ok, Err}
use Rattle.model.specs.Shares.{Ranges, most_units}
use Rattle.model.specs.Refusals.{refusal}
use Rattle.model.specs.Running.{Marked}
use Rattle.list_checks.specs.Checks.{unit_within, unit_ordered}
use Rattle.model.specs.declared.Refusal.{Refusal}
use Rattle.list_checks.specs.First.{EachUnit, FirstUnit}

-- lists of a group's lengths: not empty, of one length, and not over 256, with room for as many numbers
pub record Sized (count other marked room : ℕ) : Type 0 where
  pub some : 1 ≤ count
  pub paired : count ≡ other
  pub each_marked : count ≡ marked
  pub few : count ≤ most_units
  pub fits : count ≤ room

-- so long are the lows, the highs and the marks
abbrev pub SizedLists : List ℕ → List ℕ → List ℕ → ℕ → Type 0
SizedLists lows highs marks room = Sized (length lows) (length highs) (length marks) room

-- 01's words for each answer of the checks; what 01's order asks ahead of it passes
pub data Finding (lows highs marks : List ℕ) (room : ℕ) (amounts : Bool) : Result (Unit {0}) Refusal → Type 0 where
  -- 1: lows and highs empty, of unequal length, or over 256, another number of marks, or a plan list shorter than the group
  missized : (SizedLists lows highs marks room → ⊥) → Finding lows highs marks room amounts (Err (refusal 1 0))
  -- 4: the first unit with a number beyond 1,000,000, or a mark beyond 1
  beyond : SizedLists lows highs marks room → (i : ℕ) → FirstUnit unit_within lows highs marks i
      → Finding lows highs marks room amounts (Err (refusal 4 (suc i)))
  -- 4, place 0: total or limits beyond their ranges
  amount : SizedLists lows highs marks room → EachUnit unit_within lows highs marks → amounts ≡ false
      → Finding lows highs marks room amounts (Err (refusal 4 0))
  -- 7: the first unit with low above high, or shut and not 0 to 0
  crossed : SizedLists lows highs marks room → EachUnit unit_within lows highs marks → amounts ≡ true → (i : ℕ)
      → FirstUnit unit_ordered lows highs marks i → Finding lows highs marks room amounts (Err (refusal 7 (suc i)))
  -- every unit has a range, each shut one 0 to 0, and total and limits are in theirs
  passed : SizedLists lows highs marks room → amounts ≡ true → Ranges lows highs → Marked marks lows highs
      → Finding lows highs marks room amounts (Ok tt)

-- 01's numbers for lists of one group, ahead of 11
abbrev pub CheckNumber : ℕ → Type 0
CheckNumber number = (number ≡ 1) ⊎ (number ≡ 4) ⊎ (number ≡ 7)
