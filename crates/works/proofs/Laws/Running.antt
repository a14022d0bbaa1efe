-- Settling step by step: what is left of a pass after some turns, and of a settling after some passes. Assumes nothing.
use Prim.Native.Nat.{ℕ, zero, suc, ◌+◌, ◌≤◌, ◌<◌}
use Rattle.std.proofs.Math.Bool.{false}
use mathlib.Core.List.{List, ◌∷◌}
use Rattle.std.specs.Prelude.{◌≢◌, ◌≡◌, refl, length, drop}
use Rattle.std.proofs.Math.Path.{sym, ap}
use Rattle.std.proofs.Common.{◌∙◌}
use Rattle.std.proofs.Math.Numerals.{add-one}
use native.Mathlib.Omega.{arith, by_contra}
use Rattle.model.specs.Shares.{greatest_total, most_units}
use Rattle.model.proofs.Laws.Tests.{refuted}
use Rattle.model.specs.Sound as one
use Rattle.model.proofs.Laws.Sound as laws
use Rattle.groups.specs.Inner.Flat.{groups_in, marks_from, marks_in, stored_at, group_in}
use Rattle.groups.specs.Laws.Walk.{Walk, Next, walk_start, walk_end, walk_next}
use Rattle.groups.specs.Memberships.{SoundMembers}
use Rattle.groups.specs.declared.Stored.{Stored}
use Rattle.model.specs.Groups.{Group}
use Rattle.model.specs.Known.{refused_by}
use Rattle.model.specs.declared.Turn.{Turn}
use Rattle.model.specs.declared.Turn.TheVariants.{Narrowed, NoPlan}
use Rattle.works.specs.Consistency.{SoundOpening}
use Rattle.works.specs.Inner.Asked.{Turning, HoldsMembers, Opening, running_in}
use Rattle.works.specs.Resting.{running_group, running_groups}
use Rattle.works.specs.Settling.{Revised, AfterPass, Outcome, revised_by, revise, pass_from, pass, settle_from, settle}
use Rattle.member_ranges.specs.Tables.{Table, same_table, units, width}
use Rattle.member_ranges.specs.Laws.Inside.{same_table_lem, table_same, widths_sums, widths_same}
use Rattle.works.specs.Endings.{After}
use Rattle.works.proofs.Laws.Passes.{first_group, sound_inside, sound_rest, pass_after}
use Rattle.works.proofs.Laws.Turns.{turn_inside, turn_valid}
use Rattle.works.proofs.Laws.Shut.{running_members_lem, running_opening}

module _ (flat : List ℕ) (count : ℕ) where
  -- the groups, and those of them that run over so many units
  abbrev whole : List Group
  whole = groups_in count flat

  abbrev groups : Table → List Group
  groups table = running_in count (units table) flat

  -- the turns before place are taken, the group after them starts at an index: what is left of the pass makes it whole
  pub record PassUnderWay (start table : Table) (at place : ℕ) : Type 0 where
    pub walk : Walk flat count at place
    pub sound : SoundOpening (drop place whole) table
    pub same_units : units table ≡ units start
    pub marked : marks_from + units start ≤ length flat
    pub rest : pass_from (suc place) (running_groups (marks_in (units start) flat) (drop place whole)) table ≡ pass (groups start) start

  -- the table's ranges are those of one group
  pub opening_sound : {table : Table} → Opening flat count table → one.SoundRanges table.lows table.highs
  opening_sound opening = laws.sound opening.sound.valid opening.few

  -- their widths add up to at most a total
  pub width_small : {table : Table} → Opening flat count table → width table ≤ greatest_total
  width_small opening = omega (arith, widths_sums opening.sound.valid, laws.highs_small (opening_sound opening))

  -- a pass starts
  pub passing_start : {table : Table} → Opening flat count table → PassUnderWay table table 0 0
  passing_start opening = record { walk = walk_start flat count opening.holds; sound = opening.sound; same_units = refl; marked = opening.marked; rest = refl }

  -- once all turns are taken, the pass leaves the table
  pub passing_end : {start table : Table} {at place : ℕ} → PassUnderWay start table at place → count ≤ place → pass (groups start) start ≡ AfterPass.passed table
  unfolding pass_from
  passing_end passing end = sym passing.rest ∙ rw (walk_end flat count passing.walk end)

  -- the table's ranges stay those of one group
  pub passing_sound : {start table : Table} {at place : ℕ} → PassUnderWay start table at place → units start ≤ most_units
      → one.SoundRanges table.lows table.highs
  passing_sound passing few = laws.sound passing.sound.valid (omega (arith, passing.same_units))

  -- a group's turn comes
  module _ {start table : Table} {at place : ℕ} (passing : PassUnderWay start table at place) (some : place < count)
      {stored : Stored} (read : stored ≡ stored_at flat at) where
    abbrev group : Group
    group = group_in flat stored

    -- the marks of the units
    abbrev marks : List ℕ
    marks = marks_in (units start) flat

    pub next : Next flat count place stored
    next = walk_next flat count passing.walk some read

    -- it and the groups after it are sound
    sound_next : SoundOpening (group ∷ drop (place + 1) whole) table
    sound_next = rw next.first at passing.sound

    -- what is left of the pass with it
    rest_next : pass_from (suc place) (running_group marks group ∷ running_groups marks (drop (place + 1) whole)) table ≡ pass (groups start) start
    rest_next = rw next.first at passing.rest

    -- what the turn asks
    pub next_turning : units start ≤ most_units → Turning table group
    next_turning few = record { valid = sound_next.valid; few = omega (arith, passing.same_units); sound = sound_next.each _ first_group }

    pub next_holds : HoldsMembers flat stored (units table)
    next_holds = record { whole = next.within; marked = omega (arith, passing.marked, passing.same_units) }

    -- the turn's answer
    module _ (turn : Turn) (after : Table) (answered : revised_by turn after ≡ revise table (running_group (marks_in (units table) flat) group)) where
      -- it is that of the running members
      answer : revised_by turn after ≡ revise table (running_group marks group)
      answer = answered ∙ ap (λ (n : ℕ). revise table (running_group (marks_in n flat) group)) passing.same_units

      -- where the group has no plan, the pass stops
      pub next_stops : {number refusal : ℕ} → turn ≡ NoPlan refusal → number ≡ refused_by turn → pass (groups start) start ≡ AfterPass.stopped number (place + 1)
      unfolding pass_from
      next_stops refuses is_number =
          let stops : revise table (running_group marks group) ≡ Revised.no_plan (refused_by turn) = rw (← answer, refuses) in
          sym rest_next ∙ rw (stops, pass_from, ← is_number, add-one place)

      -- its running members are units of the table
      running_first : SoundMembers (units table) (running_group marks group)
      running_first = running_members_lem marks group (sound_next.each _ first_group)

      -- else it goes on with the table that the turn leaves
      pub next_passes : turn ≡ Narrowed → PassUnderWay start after stored.next (place + 1)
      unfolding pass_from
      next_passes narrows =
          let goes_on : revise table (running_group marks group) ≡ Revised.revised after = rw (← answer, narrows) in
          record {
            walk = next.onward;
            sound =
                sound_inside (sound_rest sound_next)
                (turn_valid table (running_group marks group) sound_next.valid running_first goes_on)
                (turn_inside table (running_group marks group) sound_next.valid running_first goes_on);
            same_units = (turn_inside table (running_group marks group) sound_next.valid running_first goes_on).same_lows ∙ passing.same_units;
            marked = passing.marked;
            rest = ap (λ (p : ℕ). pass_from (suc p) (running_groups marks (drop (place + 1) whole)) after) (add-one place) ∙ rw (goes_on, pass_from) at rest_next;
          }

  -- after so many passes, what is left of the settling makes it whole
  pub record SettlingUnderWay (opening table : Table) (passes : ℕ) : Type 0 where
    pub ready : Opening flat count table
    pub same_units : units table ≡ units opening
    pub bound : passes + width table ≤ width opening
    pub more : ℕ
    pub enough : width table < more
    pub rest : settle_from more passes (groups opening) table ≡ settle (groups opening) opening

  -- a settling starts
  pub unsettled_start : {table : Table} → Opening flat count table → SettlingUnderWay table table 0
  unfolding settle
  unsettled_start {table} opening = record {
    ready = opening;
    same_units = refl;
    bound = omega arith;
    more = suc (width table);
    enough = omega arith;
    rest = refl;
  }

  module _ {opening table : Table} {passes : ℕ} (unsettled : SettlingUnderWay opening table passes) where
    -- one pass more
    record Once : Type 0 where
      pub more : ℕ
      pub enough : width table < suc more
      pub rest : settle_from (suc more) passes (groups opening) table ≡ settle (groups opening) opening

    once : Once
    once = some unsettled.more unsettled.enough unsettled.rest
      where
        some : (more : ℕ) → width table < more → settle_from more passes (groups opening) table ≡ settle (groups opening) opening → Once
        some zero enough rest = absurd (omega arith)
        some (suc more) enough rest = record { more = more; enough = enough; rest = rest }

    -- the groups that run are those of the opening table
    same_groups : groups opening ≡ groups table
    same_groups = ap (λ (n : ℕ). running_in count n flat) (sym unsettled.same_units)

    -- a pass that is stopped ends the settling
    pub pass_refused : {number place : ℕ} → pass (groups table) table ≡ AfterPass.stopped number place
        → settle (groups opening) opening ≡ Outcome.refused number place (passes + 1)
    unfolding settle_from
    pass_refused stops =
        let stopped : pass (groups opening) table ≡ AfterPass.stopped _ _ = ap (λ (gs : List Group). pass gs table) same_groups ∙ stops in
        sym once.rest ∙ rw (stopped, settle_from, add-one passes)

    module _ {next : Table} (passed : pass (groups table) table ≡ AfterPass.passed next) where
      passes_on : pass (groups opening) table ≡ AfterPass.passed next
      passes_on = ap (λ (gs : List Group). pass gs table) same_groups ∙ passed

      after : After (groups table) next table
      after = pass_after 1 (groups table) table next (running_opening (marks_in (units table) flat) unsettled.ready.sound) passed

      -- a pass that leaves the sum of widths changes nothing: the table is settled
      pub pass_settled : width next ≡ width table → settle (groups opening) opening ≡ Outcome.settled next (passes + 1)
      unfolding settle_from
      pass_settled quiet =
          let same : next ≡ table = widths_same after.valid unsettled.ready.sound.valid after.inside (omega arith) in
          sym once.rest ∙ rw (passes_on, settle_from, same, table_same table, add-one passes)

      -- else the sum of widths falls
      pub pass_falls : width next ≢ width table → width next < width table
      pass_falls moved =
          by_contra _ _ (λ wide. moved
          (ap (λ (t : Table). width t) (widths_same after.valid unsettled.ready.sound.valid after.inside (omega arith))))

      -- and the settling goes on
      pub pass_goes_on : width next ≢ width table → SettlingUnderWay opening next (passes + 1)
      unfolding settle_from
      pass_goes_on moved =
          let differs : same_table next table ≡ false = refuted (same_table next table) (λ same. moved (ap (λ (t : Table). width t) (same_table_lem same))) in
          record {
            ready = record { holds = unsettled.ready.holds; marked = omega (arith, unsettled.ready.marked, after.inside.same_lows); few = omega (arith, unsettled.ready.few, after.inside.same_lows); sound = sound_inside unsettled.ready.sound after.valid after.inside };
            same_units = after.inside.same_lows ∙ unsettled.same_units;
            bound = omega (arith, pass_falls moved, unsettled.bound);
            more = once.more;
            enough = omega (arith, pass_falls moved, once.enough);
            rest = rw (passes_on, settle_from, differs, ← add-one passes) at once.rest;
          }
