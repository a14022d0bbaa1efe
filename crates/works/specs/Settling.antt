-- Settling: turns, passes, and passes until one changes nothing. Assumes nothing.
use Rattle.std.specs.Prelude.{ℕ, zero, suc, true, false, List, [], ◌∷◌}
use Rattle.std.proofs.Math.Option.{Option, none, some}
use Rattle.model.specs.Groups.{Group}
use Rattle.model.specs.Plans.{turn_of, narrowed_lows, narrowed_highs}
use Rattle.model.specs.declared.Turn.{Turn}
use Rattle.model.specs.declared.Turn.TheVariants.{Narrowed, NoPlan}
use Rattle.member_ranges.specs.Tables.{Table, same_table, width, scatter, lows_of, highs_of}

-- what a turn leaves: the table, or the refusal's number
pub data Revised : Type 0 where
  revised : Table → Revised
  no_plan : ℕ → Revised

-- what a pass leaves: the table, or the refusal's number and its place, the group
pub data AfterPass : Type 0 where
  passed : Table → AfterPass
  stopped : ℕ → ℕ → AfterPass

-- what settling leaves: the settled table and the passes, or the refusal's number, its place and the passes
pub data Outcome : Type 0 where
  settled : Table → ℕ → Outcome
  refused : ℕ → ℕ → ℕ → Outcome

-- 01: "A turn hands back narrowed ranges or a refusal."
abbrev pub revised_by : Turn → Table → Revised
revised_by Narrowed next = revised next
revised_by (NoPlan number) next = no_plan number

-- the table with the ranges of the group's members narrowed
unfoldable pub narrowed : Table → Group → Table
narrowed table group =
    let lows : List ℕ = narrowed_lows (lows_of table group) (highs_of table group) group.total group.limits in
    let highs : List ℕ = narrowed_highs (lows_of table group) (highs_of table group) group.total group.limits in
    record { lows = scatter table.lows group.members lows; highs = scatter table.highs group.members highs }

-- 01: a group's turn
unfoldable pub revise : Table → Group → Revised
revise table group =
    revised_by (turn_of (lows_of table group) (highs_of table group) group.total group.limits) (narrowed table group)

-- 01: a pass "turns to each group once in job order, each turn seeing what earlier turns left", and a group without
-- a plan ends it; the place is that of the first of these groups
unfoldable pub pass_from : ℕ → List Group → Table → AfterPass
pass_from place [] table = passed table
pass_from place (group ∷ groups) table =
    elim (revise table group) [ revised next ↦ pass_from (suc place) groups next | no_plan number ↦ stopped number place ]

abbrev pub pass : List Group → Table → AfterPass
pass groups table = pass_from 1 groups table

-- 01: "Passes go on until one changes nothing; a group without a plan ends the pass and the settling together";
-- at most so many passes more, after the passes done
unfoldable pub settle_from : ℕ → ℕ → List Group → Table → Outcome
settle_from zero done groups table = settled table done
settle_from (suc more) done groups table =
    elim (pass groups table) [
      | passed next ↦ elim (same_table next table) [ true ↦ settled table (suc done) | false ↦ settle_from more (suc done) groups next ]
      | stopped number place ↦ refused number place (suc done)
    ]

-- 01: settling, with as many passes as it can need
unfoldable pub settle : List Group → Table → Outcome
settle groups table = settle_from (suc (width table)) 0 groups table

-- 01: the number of passes, "the quiet or refusing one counted"
abbrev pub passes_of : Outcome → ℕ
passes_of (settled table passes) = passes
passes_of (refused number place passes) = passes

-- 01: the settled table, none where the settling is refused for want of a plan
abbrev pub settled_table : Outcome → Option Table
settled_table (settled table passes) = some table
settled_table (refused number place passes) = none
