-- A table that passes the checks is ready for settling. Assumes nothing.
use Rattle.std.specs.Prelude.{ℕ, Ok, Result, Err, ◌*◌, ◌≤◌, true, ◌≡◌, refl, leb, length, take, drop}
use mathlib.Core.List.{List, ◌++◌}
use Rattle.std.proofs.Common.{sym, ◌∙◌, arith, leb-true, le-leb, length-take-le}
use Rattle.std.proofs.Math.Path.{ap}
use Rattle.std.proofs.lemmas.Bool.{not-false}
use Rattle.list_checks.specs.Checks.{check_lists}
use Rattle.list_checks.specs.Findings.{Finding, SizedLists}
use Rattle.list_checks.proofs.Laws.Findings.{check_exactly, passed_sound, passed_marked as lists_marked, refuse_passed}
use Rattle.model.specs.Sound as one
use Rattle.model.proofs.Laws.Running.{marked_length}
use Rattle.model.proofs.Laws.Tests.{both, both_left, both_right}
use Rattle.model.specs.Running.{Marked}
use Rattle.model.specs.Shares.{Ranges, most_units}
use Rattle.model.specs.declared.Refusal.{Refusal}
use Rattle.works.specs.Answers.{answer_of, table_after}
use Rattle.works.specs.Calls.{settlement, has_room, check_table, settle_job}
use Rattle.groups.specs.Inner.Flat.{groups_in, marks_in}
use Rattle.works.specs.Inner.Asked.{Opening, Prepared, running_in}
use Rattle.works.specs.Resting.{running_groups}
use Rattle.works.specs.Settling.{settle}
use Rattle.member_ranges.specs.Tables.{table_of}
use Rattle.works.specs.declared.Unsettled.{Unsettled}
use Rattle.works.specs.declared.Unsettled.TheVariants.{Refused}

-- lists long enough for the units
pub record Roomy (units lows highs scratch : ℕ) : Type 0 where
  pub for_lows : units ≤ lows
  pub for_highs : units ≤ highs
  pub for_scratch : 8 * units ≤ scratch

-- they are so where the test holds
pub roomy : (units lows highs scratch : ℕ) → has_room units lows highs scratch ≡ true → Roomy units lows highs scratch
roomy units lows highs scratch held =
    let others = both_right (leb units lows) _ held in
    record {
      for_lows = leb-true _ _ (both_left _ _ held);
      for_highs = leb-true _ _ (both_left _ _ others);
      for_scratch = leb-true _ _ (both_right (leb units highs) _ others);
    }

-- a table with room whose first units have ranges, the shut ones 0 to 0, passes
pub ranges_pass : (marks : List ℕ) (units : ℕ) (lows highs : List ℕ) (scratch : ℕ) → 1 ≤ units → units ≤ most_units
    → Roomy units (length lows) (length highs) scratch → Ranges (take units lows) (take units highs)
    → Marked marks (take units lows) (take units highs)
    → check_table marks units lows highs scratch ≡ Ok tt
unfolding check_table
ranges_pass marks units lows highs scratch some few room ranges marked =
    let roomed : has_room units (length lows) (length highs) scratch ≡ true =
    both (le-leb units _ room.for_lows) (both (le-leb units _ room.for_highs) (le-leb (8 * units) _ room.for_scratch)) in
    let many = length-take-le units lows room.for_lows in
    let sizes : SizedLists (take units lows) (take units highs) marks units = record {
      some = omega arith;
      paired = many ∙ sym (length-take-le units highs room.for_highs);
      each_marked = (marked_length marked).0;
      few = omega arith;
      fits = omega arith;
    } in
    rw roomed ((check_exactly (take units lows) (take units highs) marks units true (Ok tt)).1 (Finding.passed sizes refl ranges marked))

module _ (marks : List ℕ) (units : ℕ) (lows highs : List ℕ) (scratch : ℕ) where
  -- a table that passes has room, and its first units have ranges
  module _ (passes : check_table marks units lows highs scratch ≡ Ok tt) where
    parts : (has_room units (length lows) (length highs) scratch ≡ true) × (check_lists (take units lows) (take units highs) marks units true ≡ Ok tt)
    unfolding check_table
    parts = let both = refuse_passed _ _ _ _ passes in (not-false _ both.0, both.1)

    -- the lists are long enough
    pub passed_room : Roomy units (length lows) (length highs) scratch
    passed_room = roomy units (length lows) (length highs) scratch parts.0

    -- the ranges are those of one group
    pub passed_ranges : one.SoundRanges (take units lows) (take units highs)
    passed_ranges = (passed_sound ((check_exactly (take units lows) (take units highs) marks units true (Ok tt)).0 parts.1)).0

    -- each shut unit's is 0 to 0
    pub passed_marked : Marked marks (take units lows) (take units highs)
    passed_marked = lists_marked ((check_exactly (take units lows) (take units highs) marks units true (Ok tt)).0 parts.1)

    -- groups prepared for as many units can be settled over them
    pub passed_opening : {flat : List ℕ} {count : ℕ} → Prepared flat count units
        → Opening flat count (table_of (take units lows) (take units highs))
    passed_opening prepared = record {
      holds = prepared.holds;
      marked = rw (length-take-le units lows passed_room.for_lows) prepared.marked;
      few = passed_ranges.few;
      sound = record {
        valid = passed_ranges.ranges;
        each = λ group member. rw (length-take-le units lows passed_room.for_lows) (prepared.each group member);
      };
    }

    -- the outcome is that of settling the running groups
    pub passed_settles : (flat : List ℕ) (count : ℕ) → marks ≡ marks_in units flat → {answer : Result ℕ Unsettled} {next_lows next_highs : List ℕ}
        → answer ≡ answer_of (settle (running_in count (length (take units lows)) flat) (table_of (take units lows) (take units highs)))
        → table_of next_lows next_highs ≡ table_after (settle (running_in count (length (take units lows)) flat) (table_of (take units lows) (take units highs))) (table_of (take units lows) (take units highs))
        → settlement answer (next_lows ++ drop units lows) (next_highs ++ drop units highs) ≡ settle_job (marks_in units flat) (groups_in count flat) units lows highs scratch
    unfolding settle_job
    passed_settles flat count are answers leaves =
        let same : running_groups marks (groups_in count flat) ≡ running_in count (length (take units lows)) flat =
        ap (λ (ms : List ℕ). running_groups ms (groups_in count flat)) are
        ∙ ap (λ (n : ℕ). running_in count n flat) (sym (length-take-le units lows passed_room.for_lows)) in
        rw (← are, passes, same, answers, ← leaves)

  -- a refusal leaves the table
  pub failed_refuses : (flat : List ℕ) (count : ℕ) → marks ≡ marks_in units flat → (refusal : Refusal)
      → check_table marks units lows highs scratch ≡ Err refusal
      → settlement (Err (Refused refusal)) lows highs ≡ settle_job (marks_in units flat) (groups_in count flat) units lows highs scratch
  unfolding settle_job
  failed_refuses flat count are refusal fails = rw (← are, fails)
