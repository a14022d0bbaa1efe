-- Within a pass, the turns taken and those left are the pass; between passes, the passes done and those left are the settling.
-- Each pass that changes the table makes the sum of widths fall. Assumes nothing.
use mathlib.Core.Logic.{◌≢◌}
use mathlib.Core.Path.{◌≡◌, sym, ◌∙◌}
use native.Mathlib.Omega.{arith}
use Rattle.groups.specs.Laws.Walk.{walk_whole}
use Rattle.member_ranges.specs.Tables.{Table, table_of, units, width}
use Rattle.works.specs.Inner.Asked.{running_in}
use Rattle.works.specs.Settling.{pass, passed}
use Rattle.works.proofs.Laws.Answers.{settled_answer, refused_answer}
use Rattle.works.proofs.Laws.Running.{opening_sound, width_small, passing_sound, passing_start, passing_end, next_holds, next_turning, next_stops, next_passes, unsettled_start, pass_refused, pass_settled, pass_falls, pass_goes_on}
use Rattle.settling.proofs.passes.run_passes.Goals as goal
use Rattle.settling.proofs.passes.run_passes.Goals.{After-loop-turns, Then-width_of-before, Else-width_of-before, After-number_of-number}

pub passes-init : goal.passes-init
passes-init c = unsettled_start _ _ c.requires.opening

pub overflow_add-passes : goal.overflow_add-passes
overflow_add-passes c = omega (arith, c.passes.invariant.bound, width_small c.args.flat.now c.args.groups c.requires.opening)

pub width_of-before-requires : goal.width_of-before-requires
width_of-before-requires c = opening_sound c.args.flat.now c.args.groups c.passes.invariant.ready

pub loop-turns-init : goal.loop-turns-init
loop-turns-init c = passing_start _ _ c.passes.invariant.ready

-- the group whose turn it is
pub group_at-group-requires : goal.group_at-group-requires
group_at-group-requires c = walk_whole _ _ c.loop-turns.invariant.walk c.loop-turns-test.true

pub take_turn-turn-requires-clause-turning : goal.take_turn-turn-requires-clause-turning
take_turn-turn-requires-clause-turning c =
    next_turning _ _ c.loop-turns.invariant c.loop-turns-test.true c.group_at-group.ensures c.passes.invariant.ready.few

pub take_turn-turn-requires-clause-holds_members : goal.take_turn-turn-requires-clause-holds_members
take_turn-turn-requires-clause-holds_members c =
    next_holds _ _ c.loop-turns.invariant c.loop-turns-test.true c.group_at-group.ensures

pub loop-turns-preserved : goal.loop-turns-preserved
loop-turns-preserved c =
    next_passes _ _ c.loop-turns.invariant c.loop-turns-test.true c.group_at-group.ensures c.take_turn-turn.result _ c.take_turn-turn.ensures c.in-Narrowed.is

-- all turns are taken
pub width_of-requires : goal.width_of-requires
width_of-requires c = passing_sound _ _ c.loop-turns.invariant c.passes.invariant.ready.few

abbrev table : After-loop-turns → Table
table c = table_of c.passes.lows c.passes.highs

abbrev left : After-loop-turns → Table
left c = table_of c.loop-turns.lows c.loop-turns.highs

is_passed : (c : After-loop-turns) → pass (running_in c.args.groups (units (table c)) c.args.flat.now) (table c) ≡ passed (left c)
is_passed c = passing_end _ _ c.loop-turns.invariant c.loop-turns-test.false

-- the pass leaves the sum of widths
pub returns-then-width_of-before : goal.returns-then-width_of-before
returns-then-width_of-before c =
    let m = (goal.at.returns-then-width_of-before c).After-loop-turns in
    let (answer, kept) =
    settled_answer
    (pass_settled _ _ c.passes.invariant (is_passed m) (sym c.width_of.ensures ∙ c.if-width_of-before.true ∙ c.width_of-before.ensures)) in
    record { value = answer; highs_after = kept }

-- a pass that goes on has changed the sum of widths
moved : (c : Else-width_of-before) → width (table_of c.loop-turns.lows c.loop-turns.highs) ≢ width (table_of c.passes.lows c.passes.highs)
moved c same = c.if-width_of-before.false (c.width_of.ensures ∙ same ∙ sym c.width_of-before.ensures)

pub passes-smaller : goal.passes-smaller
passes-smaller c =
    pass_falls _ _ c.passes.invariant (is_passed (goal.at.passes-smaller c).After-loop-turns) (moved (goal.at.passes-smaller c).Else-width_of-before)

pub passes-preserved : goal.passes-preserved
passes-preserved c =
    pass_goes_on _ _ c.passes.invariant (is_passed (goal.at.passes-preserved c).After-loop-turns) (moved (goal.at.passes-preserved c).Else-width_of-before)

-- a group has no plan
pub returns : goal.returns
returns c =
    let (answer, kept) =
    refused_answer
    (pass_refused _ _ c.passes.invariant
    (next_stops _ _ c.loop-turns.invariant c.loop-turns-test.true c.group_at-group.ensures c.take_turn-turn.result _ c.take_turn-turn.ensures
    c.in_default.is c.number_of-number.ensures))
    _ in
    record { value = answer; highs_after = kept }
