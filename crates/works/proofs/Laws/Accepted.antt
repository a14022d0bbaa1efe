-- The groups of an accepted job are sound over every table of its units. Assumes nothing.
use Rattle.std.specs.Prelude.{ℕ, Result, Ok, Err, ◌≤◌, ◌≡◌, length}
use mathlib.Core.List.Memᴰ
use mathlib.Core.List.{List, ◌++◌, Memᴰ}
use Rattle.std.proofs.Common.{⊎_elim, sym, ◌∙◌, arith}
use Rattle.groups.specs.Inner.Flat.{flatten, groups_in, marks_in, most_flat}
use Rattle.groups.specs.Laws.Reading.{flatten_groups, flatten_holds}
use Rattle.job.specs.Job.{Job, accepted, read_job}
use Rattle.job.specs.Inner.Reading.{GroupsScanned}
use Rattle.job.proofs.Laws.Reading.{accepted_by, refused_by_lem}
use Rattle.job.specs.Sound as job
use Rattle.job.proofs.Laws.Sound.{all_unsaid_any, accepted_sound}
use Rattle.job.specs.declared.Counts.{Counts}
use Rattle.model.specs.Groups.{Group}
use Rattle.model.proofs.Laws.Running.{marked_length}
use Rattle.model.specs.Running.{Marked}
use Rattle.model.specs.declared.Refusal.{Refusal}
use Rattle.works.specs.Resting.{ShutOpening}
use Rattle.works.specs.Calls.{settlement, settle_job, settle_text}
use Rattle.works.specs.Inner.Asked.{Prepared}
use Rattle.member_ranges.specs.Tables.{Table, Valid, units}
use Rattle.groups.specs.Memberships.{SoundGroup}
use Rattle.works.specs.declared.Unsettled.TheVariants as works

-- the groups of an accepted job are sound
pub each_sound : {count : ℕ} {groups : List Group} → job.AcceptedGroups count groups
    → (group : Group) → Memᴰ group groups → SoundGroup count group
each_sound job.AcceptedGroups.none group member = absurd (Memᴰ.not-nil member)
each_sound (job.AcceptedGroups.also first others) group member =
    ⊎_elim (λ here. rw here first.sound) (λ later. each_sound others group later) (Memᴰ.cases_cons member)

module _ (text : List ℕ) (found : Job) (reads : read_job text ≡ accepted found) where
  -- its groups are sound over every table of ranges of its units with the shut ones at 0 to 0
  pub accepted_groups : {table : Table} → Valid table → Marked found.marks table.lows table.highs
      → ShutOpening found.marks found.groups table
  accepted_groups {table} valid off =
      let built = (accepted_sound text found reads).built in
      let count : units table ≡ length found.lows = (marked_length off).0 ∙ sym (marked_length built.marked).0 in
      record { valid = valid; shut = off; each = λ group member. rw count (each_sound built.groups_sound group member) }

  -- a list that starts with its flat list and holds its marks
  module _ {flat : List ℕ} (rest : List ℕ) {count listed : ℕ} (starts : flat ≡ flatten found.groups ++ rest)
      (marks : marks_in (length found.lows) flat ≡ found.marks)
      (counts : length found.lows ≡ count) (lists : length found.groups ≡ listed) where
    -- is prepared for settling
    accepted_prepared : most_flat ≤ length flat → Prepared flat listed count
    accepted_prepared space =
        let built = (accepted_sound text found reads).built in
        record {
          holds = rw (starts, ← lists) (flatten_holds found.groups rest);
          marked = omega (arith, built.few_units);
          few = omega (arith, built.few_units);
          each =
              rw (starts, ← counts, ← lists, flatten_groups (all_unsaid_any built.groups_sound) rest)
              (λ group member. (each_sound built.groups_sound group member).named);
        }

    -- its settling is that of the text
    accepted_settles : (lows highs : List ℕ) (scratch : ℕ)
        → settle_job (marks_in count flat) (groups_in listed flat) count lows highs scratch ≡ settle_text text lows highs scratch
    unfolding settle_text
    accepted_settles lows highs scratch =
        let any = all_unsaid_any (accepted_sound text found reads).built.groups_sound in
        rw (← counts, marks, starts, ← lists, flatten_groups any rest, settle_text, reads)

-- what scanning a text answers and leaves
module _ {text flat₀ flat : List ℕ} {answer : Result Counts Refusal} (scanned : GroupsScanned text flat₀ flat answer) where
  -- a text that is read is prepared for settling
  pub read_prepared : most_flat ≤ length flat → {units groups : ℕ} → answer ≡ Ok (record { units = units; groups = groups }) → Prepared flat groups units
  read_prepared space {units} {groups} reads =
      let (found, accepts, counts, lists) = accepted_by (read_job text) units groups (sym reads ∙ scanned.answer) in
      accepted_prepared text found accepts _ (scanned.found_flat found accepts) (scanned.found_marks found accepts) counts lists space

  -- and settled as its groups are
  pub read_settles : {units groups : ℕ} → answer ≡ Ok (record { units = units; groups = groups }) → (table_lows table_highs : List ℕ) (scratch : ℕ)
      → settle_job (marks_in units flat) (groups_in groups flat) units table_lows table_highs scratch ≡ settle_text text table_lows table_highs scratch
  read_settles {units} {groups} reads =
      let (found, accepts, counts, lists) = accepted_by (read_job text) units groups (sym reads ∙ scanned.answer) in
      accepted_settles text found accepts _ (scanned.found_flat found accepts) (scanned.found_marks found accepts) counts lists

  -- a text that is refused leaves the table
  pub refused_settles : (refusal : Refusal) → answer ≡ Err refusal → (table_lows table_highs : List ℕ) (scratch : ℕ)
      → settlement (Err (works.Refused refusal)) table_lows table_highs ≡ settle_text text table_lows table_highs scratch
  unfolding settle_text
  refused_settles refusal refuses table_lows table_highs scratch =
      rw (settle_text, refused_by_lem (read_job text) refusal (sym refuses ∙ scanned.answer))
