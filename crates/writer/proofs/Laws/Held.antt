-- The groups and marks of a text that is read are held, and with the ranges of a table that passes the checks they make a sound job. Assumes nothing.
use Rattle.std.specs.Prelude.{ℕ, Result, Ok, Err, zero, suc, ◌+◌, ◌*◌, ◌≤◌, List, [], ◌∷◌, ◌++◌, ◌≡◌, refl, length, take, drop}
use Rattle.std.proofs.Common.{sym, ap, ◌∙◌, arith, length-drop, length-take-le}
use Rattle.groups.specs.Inner.Flat.{flatten, groups_in, marks_from, marks_in}
use Rattle.groups.specs.Laws.Reading.{flatten_groups, flatten_holds}
use Rattle.job.specs.Inner.Reading.{GroupsScanned}
use Rattle.job.specs.Job.{Job, accepted, read_job}
use Rattle.job.proofs.Laws.Reading.{accepted_by, refused_by_lem}
use Rattle.job.proofs.Laws.Sound.{all_unsaid_any, accepted_sound}
use Rattle.job.specs.Sound.{SoundJob}
use Rattle.job.specs.declared.Counts.{Counts}
use Rattle.model.specs.Groups.{Group}
use Rattle.model.proofs.Laws.Running.{marked_length}
use Rattle.model.specs.Running.{Marked}
use Rattle.model.specs.declared.Refusal.{Refusal}
use Rattle.works.specs.Called.{first_of}
use Rattle.works.specs.Calls.{check_table}
use Rattle.works.proofs.Laws.Checked.{passed_room, passed_ranges, passed_marked}
use Rattle.member_ranges.specs.Tables.{Table, Valid, units}
use Rattle.writer.specs.Calls.{written_text, write_job, write_over, write_text}
use Rattle.writer.specs.Inner.Asked.{job_held, HeldGroups}
use Rattle.writer.proofs.Laws.Writes.{over_passed}
use Rattle.job_lines.specs.Texts.{job_with}

-- the first numbers of a list are no more than the list
take_within : (n : ℕ) (xs : List ℕ) → length (take n xs) ≤ length xs
take_within zero xs = omega arith
take_within (suc n) [] = omega arith
take_within (suc n) (x ∷ xs) = omega (arith, take_within n xs)

-- a list that has a mark for each of some units is long enough for them
pub marks_room : (units : ℕ) (flat : List ℕ) → 1 ≤ units → length (marks_in units flat) ≡ units → marks_from + units ≤ length flat
marks_room units flat some many = omega (arith, take_within units (drop marks_from flat), length-drop marks_from flat)

-- so is one that holds the marks of a sound job
pub held_room : {flat : List ℕ} {count units : ℕ} → HeldGroups flat count units → marks_from + units ≤ length flat
held_room {flat} {units = units} held =
    let built = held.sound.built in
    marks_room units flat
    (omega (arith, held.sound.some_unit, held.counts))
    (omega (arith, held.counts, ap length held.marked, (marked_length built.marked).0))

-- a sound job with other ranges of its units is sound, where each shut unit has the range 0 to 0
pub with_sound : (job : Job) → SoundJob job → (table : Table) → Valid table → Marked job.marks table.lows table.highs
    → units table ≡ length job.lows → SoundJob (job_with job.marks job.groups table)
with_sound job sound table valid marked counts =
    let built = sound.built in
    record {
      some_unit = omega (arith, counts, sound.some_unit);
      built = record {
        ranges = valid;
        marked = marked;
        few_units = omega (arith, counts, built.few_units);
        few_groups = built.few_groups;
        few_memberships = built.few_memberships;
        groups_sound = rw counts built.groups_sound;
      };
    }

-- so with those of a table that passes the checks
pub over_sound : {marks : List ℕ} {listed : List Group} {number : ℕ} (lows highs : List ℕ) (scratch : ℕ) (job : Job) → SoundJob job
    → job.marks ≡ marks → job.groups ≡ listed → length job.lows ≡ number → check_table marks number lows highs scratch ≡ Ok tt
    → SoundJob (job_with marks listed (first_of number lows highs))
over_sound {marks} {listed} {number} lows highs scratch job sound marked lists counts passes =
    let room = passed_room marks number lows highs scratch passes in
    let shut : Marked job.marks (take number lows) (take number highs) = rw marked (passed_marked marks number lows highs scratch passes) in
    rw (← marked, ← lists)
    (with_sound job sound (first_of number lows highs) (passed_ranges marks number lows highs scratch passes).ranges shut
    (length-take-le number lows room.for_lows ∙ sym counts))

-- a flat list's job over the first units of a table that passes the checks
module _ {flat : List ℕ} {count units : ℕ} (held : HeldGroups flat count units) (lows highs : List ℕ)
    (passes : check_table (marks_in units flat) units lows highs (8 * units) ≡ Ok tt) where
  -- has the marks of these units
  held_job : job_held flat count (take units lows) (take units highs) ≡ job_with (marks_in units flat) (groups_in count flat) (first_of units lows highs)
  held_job = rw (length-take-le units lows (passed_room (marks_in units flat) units lows highs (8 * units) passes).for_lows)

  -- and is sound
  pub held_sound : SoundJob (job_held flat count (take units lows) (take units highs))
  held_sound = rw held_job (over_sound lows highs (8 * units) held.job held.sound held.marked held.lists held.counts passes)

  -- it is what is written
  pub held_writes : (buffer : List ℕ) → write_job (job_held flat count (take units lows) (take units highs)) buffer
      ≡ write_over (marks_in units flat) (groups_in count flat) units lows highs buffer
  held_writes buffer = rw held_job (over_passed (marks_in units flat) (groups_in count flat) units lows highs buffer passes)

-- a list that starts with the flat list of a job's groups, and has its marks
module _ (found : Job) {flat : List ℕ} (rest : List ℕ) {number count : ℕ} (starts : flat ≡ flatten found.groups ++ rest)
    (marked : marks_in (length found.lows) flat ≡ found.marks) (counts : length found.lows ≡ number)
    (lists : length found.groups ≡ count) where
  -- holds them
  starts_held : SoundJob found → HeldGroups flat count number
  starts_held sound =
      rw (← counts, ← lists)
      (record {
        holds = rw starts (flatten_holds found.groups rest);
        job = found;
        sound = sound;
        lists = rw starts (sym (flatten_groups (all_unsaid_any sound.built.groups_sound) rest));
        counts = refl;
        marked = sym marked;
      })

  -- and is written as a text that is read as the job
  starts_writes : (text : List ℕ) → read_job text ≡ accepted found → (lows highs buffer : List ℕ)
      → write_over (marks_in number flat) (groups_in count flat) number lows highs buffer ≡ write_text text lows highs buffer
  unfolding write_text
  starts_writes text reads lows highs buffer =
      let any = all_unsaid_any (accepted_sound text found reads).built.groups_sound in
      rw (← counts, ← lists, marked, starts, flatten_groups any rest, write_text, reads)

-- what scanning a text answers and leaves
module _ {text flat₀ flat : List ℕ} {answer : Result Counts Refusal} (scanned : GroupsScanned text flat₀ flat answer) where
  -- the groups of a text that is read are held
  pub read_held : {number count : ℕ} → answer ≡ Ok (record { units = number; groups = count }) → HeldGroups flat count number
  read_held {number} {count} reads =
      let (found, accepts, counts, lists) = accepted_by (read_job text) number count (sym reads ∙ scanned.answer) in
      starts_held found _ (scanned.found_flat found accepts) (scanned.found_marks found accepts) counts lists (accepted_sound text found accepts)

  -- it is written as its groups are
  pub read_writes : {number count : ℕ} → answer ≡ Ok (record { units = number; groups = count }) → (lows highs buffer : List ℕ)
      → write_over (marks_in number flat) (groups_in count flat) number lows highs buffer ≡ write_text text lows highs buffer
  read_writes {number} {count} reads =
      let (found, accepts, counts, lists) = accepted_by (read_job text) number count (sym reads ∙ scanned.answer) in
      starts_writes found _ (scanned.found_flat found accepts) (scanned.found_marks found accepts) counts lists text accepts

  -- a text that is refused leaves the buffer
  pub refused_writes : (refusal : Refusal) → answer ≡ Err refusal → (lows highs buffer : List ℕ)
      → written_text (Err refusal) buffer ≡ write_text text lows highs buffer
  unfolding write_text
  refused_writes refusal refuses lows highs buffer = rw (write_text, refused_by_lem (read_job text) refusal (sym refuses ∙ scanned.answer))
