-- What a report's group lines promise. Assumes nothing.
use Rattle.std.specs.Prelude.{ℕ, suc, ◌≤◌, List, [], ◌∷◌}
use Rattle.model.specs.Running.{marked_above, marked_figures}
use Rattle.model.specs.Groups.{Group}
use Rattle.model.specs.Levels.{level, remainder}
use Rattle.model.specs.Ways.{HandsOut, HeadroomFirst}
use Rattle.works.specs.Resting.{marks_of, PlanFrom}
use Rattle.member_ranges.specs.Tables.{Table, lows_of, highs_of}
use Rattle.report.specs.Lines.{group_line}

-- the group's level in the table
abbrev pub level_in : Table → Group → ℕ
level_in table group = level (lows_of table group) (highs_of table group) group.total

-- 01: the share printed is a plan of the group drawn from the table, and every other such plan has at least as much in total above every t;
-- 02: of the running members, and "Every printed share follows the new rule" of who gets the copies left over
pub record Evenest (marks : List ℕ) (table : Table) (group : Group) (shares : List ℕ) : Type 0 where
  pub plan : PlanFrom marks table group shares
  pub least : (xs : List ℕ) → PlanFrom marks table group xs → (t : ℕ)
      → marked_above (marks_of marks group) t shares ≤ marked_above (marks_of marks group) t xs
  pub handed : HandsOut (lows_of table group) (highs_of table group) (level_in table group) (remainder (lows_of table group) (highs_of table group) group.total) shares
  pub headroom : HeadroomFirst (lows_of table group) (highs_of table group) (level_in table group) shares

-- each group's line in order, the first with the given number: the group's level, and evenest shares with their own figures
pub data EvenLines (marks : List ℕ) (table : Table) : ℕ → List Group → List (List ℕ) → Type 0 where
  none : {number : ℕ} → EvenLines marks table number [] []
  also : {number : ℕ} {group : Group} {groups : List Group} {lines : List (List ℕ)} (shares : List ℕ) → Evenest marks table group shares
      → EvenLines marks table (suc number) groups lines
      → EvenLines marks table number (group ∷ groups) (group_line number
      (level_in table group)
      (marked_figures (marks_of marks group) group.total shares)
      shares ∷ lines)
