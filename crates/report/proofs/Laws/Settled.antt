-- What a settling leaves can be reported: shares with each group's total exist, and the report fits its buffer. Assumes nothing.
use Rattle.model.specs.declared.Refusal.{Refusal}
use Rattle.std.specs.Prelude.{ℕ, Result, Ok, Err, ◌≤◌, List, ◌++◌, take}
use Rattle.std.proofs.Math.Path.{◌≡◌, refl, ap}
use Rattle.std.proofs.Common.{sym, ◌∙◌, arith}
use Rattle.std.proofs.Math.ListN.{length, drop}
use Rattle.std.proofs.Math.Seq.{take_at, length-take-le}
use Rattle.model.specs.Sound as one
use Rattle.model.proofs.Laws.Sound as laws
use Rattle.groups.specs.Memberships.{memberships, SoundMembers}
use Rattle.groups.specs.Inner.Flat.{groups_in, marks_in}
use Rattle.groups.specs.Laws.Reading.{groups_counted}
use Rattle.job.specs.Job.{most_groups, most_memberships}
use Rattle.model.specs.Groups.{Group}
use Rattle.model.proofs.Laws.Levelled.{within_sum_low, within_sum_high}
use Rattle.model.proofs.Laws.Running.{marked_length}
use Rattle.model.specs.Running.{Marked}
use Rattle.works.specs.Calls.{Settlement, settlement, check_table, leaving, settled_after, settle_job}
use Rattle.works.specs.Consistency.{SoundOpening}
use Rattle.works.specs.Resting.{ShutOpening, marks_of, running_groups, PlanFrom}
use Rattle.works.proofs.Laws.Checked.{passed_room, passed_ranges, passed_marked}
use Rattle.works.proofs.Laws.Resting.{members_marked, running_sound, settled_opening, settled_rest}
use Rattle.works.proofs.Laws.Sizes.{size_few}
use Rattle.member_ranges.specs.Laws.Inside.{widths_sums}
use Rattle.member_ranges.specs.Laws.Members.{gather_length}
use Rattle.works.proofs.Laws.Settled.{settled_inside, passes_bound}
use Rattle.works.proofs.Laws.Turns.{gathered}
use Rattle.works.specs.Settling.{Outcome, passes_of, settle}
use Rattle.member_ranges.specs.Tables.{Table, table_of, units, lows_of, highs_of}
use Rattle.works.specs.declared.Unsettled.{Unsettled}
use Rattle.works.specs.declared.Unsettled.TheVariants as works
use Rattle.report.proofs.Laws.Evenness.{levelled_evenest}
use Rattle.report.specs.Reportable.{Levelable, Reportable}
use Rattle.report.specs.Inner.Asked.{WithinLimits, Answerable}
use Rattle.model.specs.Shares.{most_units}

-- a group that has a plan in the table can be levelled there
levelable : {marks : List ℕ} {table : Table} {group : Group} {xs : List ℕ} → SoundMembers (units table) group
    → Marked (marks_of marks group) (lows_of table group) (highs_of table group)
    → one.SoundRanges (lows_of table group) (highs_of table group) → PlanFrom marks table group xs → Levelable marks table group
levelable sound marked ranges plan = record {
  named = record { below = sound.below };
  marked = marked;
  shares = record {
    sound = ranges;
    low = omega (arith, within_sum_low plan.within, plan.adds);
    high = omega (arith, within_sum_high plan.within, plan.adds);
  };
}

-- a settled table of a job within the limits of 01 can be reported
pub reportable : {marks : List ℕ} {groups : List Group} {table final : Table} {passes : ℕ} → ShutOpening marks groups table → units table ≤ most_units
    → length groups ≤ most_groups → memberships groups ≤ most_memberships
    → settle (running_groups marks groups) table ≡ Outcome.settled final passes → Reportable marks groups final passes
reportable {marks} {groups} {table} {final} {passes} sound few_units few_groups few_memberships e =
    let running : SoundOpening (running_groups marks groups) table = running_sound sound in
    let same : units final ≡ units table = (settled_inside running e).same_lows in
    let left : ShutOpening marks groups final = settled_opening sound e in
    let bound : passes_of (Outcome.settled final passes) ≤ _ = rw e at (passes_bound running) in
    record {
      valid = left.valid;
      few_units = omega arith;
      few_groups = few_groups;
      few_memberships = few_memberships;
      few_passes = omega (arith, bound, widths_sums sound.valid, laws.highs_small (laws.sound sound.valid few_units));
      each_marked = sym (marked_length left.shut).0;
      levelable = λ group member.
          let one_sound : SoundMembers (units final) group = (left.each group member).named in
          levelable one_sound (members_marked left.valid left.shut group one_sound)
          (laws.sound (gathered final group left.valid one_sound)
          (omega (arith, size_few one_sound, gather_length final.lows group.members)))
          (levelled_evenest left (settled_rest sound e) group member).plan;
    }

-- what settling groups over the first units of a table leaves when it answers with the passes
pub record Settles (marks : List ℕ) (groups : List Group) (unit_count : ℕ) (lows highs next_lows next_highs : List ℕ) (passes : ℕ) : Type 0 where
  pub for_lows : unit_count ≤ length lows
  pub for_highs : unit_count ≤ length highs
  pub sound : ShutOpening marks groups (table_of (take unit_count lows) (take unit_count highs))
  pub few : length (take unit_count lows) ≤ most_units
  pub settles : settle (running_groups marks groups) (table_of (take unit_count lows) (take unit_count highs))
      ≡ Outcome.settled (table_of (take unit_count next_lows) (take unit_count next_highs)) passes

module _ {flat : List ℕ} {count unit_count : ℕ} (limits : WithinLimits flat count unit_count) (lows highs : List ℕ) (scratch : ℕ) where
  abbrev marks : List ℕ
  marks = marks_in unit_count flat

  abbrev groups : List Group
  groups = groups_in count flat

  abbrev opening : Table
  opening = table_of (take unit_count lows) (take unit_count highs)

  pub settles : {next_lows next_highs : List ℕ} {passes : ℕ}
      → settlement (Ok passes) next_lows next_highs ≡ settle_job marks groups unit_count lows highs scratch
      → Settles marks groups unit_count lows highs next_lows next_highs passes
  unfolding settle_job
  settles {next_lows} {next_highs} {passes} is = by_check (check_table marks unit_count lows highs scratch) refl is
    where
      by_outcome : (outcome : Outcome) → settle (running_groups marks groups) opening ≡ outcome → check_table marks unit_count lows highs scratch ≡ Ok tt
          → settlement (Ok passes) next_lows next_highs ≡ leaving outcome unit_count lows highs
          → Settles marks groups unit_count lows highs next_lows next_highs passes
      by_outcome (Outcome.refused number place more) e passed is =
          let answers : Ok passes ≡ Err (works.NoPlan number place more) = ap (λ (s : Settlement). s.answer) is in
          absurd (let z : ◌≡◌ {A = ℕ} 0 1 = cc in omega arith)
      by_outcome (Outcome.settled final more) e passed is =
          let fits = passed_room marks unit_count lows highs scratch passed in
          let ranges = passed_ranges marks unit_count lows highs scratch passed in
          let ready : ShutOpening marks groups opening = record {
            valid = ranges.ranges;
            shut = passed_marked marks unit_count lows highs scratch passed;
            each = λ group member. rw (length-take-le unit_count lows fits.for_lows) (limits.each group member);
          } in
          let inside = settled_inside (running_sound ready) e in
          let lows_are : next_lows ≡ final.lows ++ drop unit_count lows = ap (λ (s : Settlement). s.lows) is in
          let highs_are : next_highs ≡ final.highs ++ drop unit_count highs = ap (λ (s : Settlement). s.highs) is in
          let answers : Ok passes ≡ Ok more = ap (λ (s : Settlement). s.answer) is in
          let counted : more ≡ passes = cc in
          let as_many_lows : length final.lows ≡ unit_count = inside.same_lows ∙ length-take-le unit_count lows fits.for_lows in
          let as_many_highs : length final.highs ≡ unit_count = inside.same_highs ∙ length-take-le unit_count highs fits.for_highs in
          record {
            for_lows = fits.for_lows;
            for_highs = fits.for_highs;
            sound = ready;
            few = ranges.few;
            settles =
                rw (
                  lows_are,
                  highs_are,
                  take_at final.lows (drop unit_count lows) unit_count as_many_lows,
                  take_at final.highs (drop unit_count highs) unit_count as_many_highs,
                  ← counted,
                )
                e;
          }

      by_check : (check : Result (Unit {0}) Refusal) → check_table marks unit_count lows highs scratch ≡ check
          → settlement (Ok passes) next_lows next_highs ≡ settled_after check lows highs (leaving (settle (running_groups marks groups) opening) unit_count lows highs)
          → Settles marks groups unit_count lows highs next_lows next_highs passes
      by_check (Err refusal) e is =
          let answers : Ok passes ≡ Err (works.Refused refusal) = ap (λ (s : Settlement). s.answer) is in
          absurd (let z : ◌≡◌ {A = ℕ} 0 1 = cc in omega arith)
      by_check (Ok tt) e is = by_outcome (settle (running_groups marks groups) opening) refl e is

-- so the table that it leaves can be reported
settles_reportable : {flat : List ℕ} {count unit_count passes : ℕ} {lows highs next_lows next_highs : List ℕ} → WithinLimits flat count unit_count
    → Settles (marks_in unit_count flat) (groups_in count flat) unit_count lows highs next_lows next_highs passes
    → Reportable (marks_in unit_count flat) (groups_in count flat) (table_of (take unit_count next_lows) (take unit_count next_highs)) passes
settles_reportable {flat} {count} limits settles =
    reportable settles.sound settles.few
    (omega (arith, groups_counted count 0 flat, limits.few_groups))
    limits.few_memberships
    settles.settles

-- and so can its answer
module _ {flat : List ℕ} {count unit_count : ℕ} (limits : WithinLimits flat count unit_count)
    (lows highs : List ℕ) (scratch : ℕ) {next_lows next_highs : List ℕ} {answer : Result ℕ Unsettled} where
  pub settles_answerable : settlement answer next_lows next_highs ≡ settle_job (marks_in unit_count flat) (groups_in count flat) unit_count lows highs scratch
      → length next_lows ≡ length lows → length next_highs ≡ length highs → Answerable (marks_in unit_count flat) (groups_in count flat) unit_count answer next_lows next_highs
  settles_answerable is same_lows same_highs passes answers =
      let settled : Settles (marks_in unit_count flat) (groups_in count flat) unit_count lows highs next_lows next_highs passes =
      settles limits lows highs scratch (rw answers at is) in
      record {
        for_lows = omega (arith, settled.for_lows, same_lows);
        for_highs = omega (arith, settled.for_highs, same_highs);
        reportable = settles_reportable limits settled;
      }
