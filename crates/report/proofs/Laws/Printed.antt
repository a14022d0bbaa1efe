-- Reading a job text and reporting it gives what the program prints. Assumes nothing.
use Rattle.std.specs.Prelude.{ℕ, Result, Ok, Err, ◌*◌, ◌≤◌, List, ◌++◌, ◌≡◌, refl, length, take, drop}
use Rattle.std.proofs.Common.{sym, ◌∙◌, arith, length-append, take_at}
use Rattle.std.proofs.Math.Path.{ap}
use Rattle.job.specs.Job.{JobOrRefusal, accepted, refused, read_job}
use Rattle.form.specs.Form.{most_bytes}
use Rattle.job.specs.Reading.{read_table, ReadInto}
use Rattle.job.proofs.Laws.Reading.{accepted_by, refused_by_lem, table_fits, table_refused, table_accepted}
use Rattle.job.specs.Sound.{SoundJob}
use Rattle.job.proofs.Laws.Sound.{accepted_sound}
use Rattle.job.specs.declared.Counts.{Counts}
use Rattle.model.proofs.Laws.Lists.{ranges_length}
use Rattle.model.specs.declared.Refusal.{Refusal}
use Rattle.works.specs.Calls.{Settlement, check_table}
use Rattle.works.specs.Called.{Cleared, groups, marks, count, opening, called, after}
use Rattle.works.proofs.Laws.Called.{CallEnds, says, ends}
use Rattle.works.proofs.Laws.Checked.{Roomy, ranges_pass}
use Rattle.works.specs.Resting.{running_groups}
use Rattle.works.specs.Settling.{settle}
use Rattle.member_ranges.specs.Tables.{Table, table_of}
use Rattle.works.specs.declared.Unsettled.{Unsettled}
use Rattle.report.specs.Calls.{Reported, reported, report_by, report_text}
use Rattle.report.specs.Lines.{refusal_line}
use Rattle.report.specs.Program.{printed_read, printed_of}
use Rattle.report.proofs.Laws.Promises.{reports}
use Rattle.report.specs.Reports.{report_of, printed}
use Rattle.report.specs.declared.Written.{Written}
use Rattle.works.specs.declared.Unsettled.TheVariants.{NoPlan}
use Rattle.report.specs.Inner.Printed.{Opened, size_printed, buffer_printed}
use Rattle.model.specs.Shares.{most_units}

-- a refusal's line at the start of a buffer, where it is what is printed
pub refusal_printed : {bytes line entry buffer exit : List ℕ} {size : ℕ} → bytes ≡ line → buffer ≡ entry → size ≡ length line
    → exit ≡ line ++ drop (length line) buffer → (size ≡ length bytes) × (exit ≡ bytes ++ drop size entry)
refusal_printed is kept counted holds = rw (is, ← kept, counted, holds) (refl, refl)

-- a table with room for every job never refuses one
table_holds : (text : List ℕ) (a b : ℕ) → most_units ≤ a → most_units ≤ b → read_table text a b ≡ read_job text
table_holds text a b p q = by_outcome (read_job text) refl
  where
    by_outcome : (outcome : JobOrRefusal) → read_job text ≡ outcome → read_table text a b ≡ read_job text
    by_outcome (accepted found) e =
        let few = (accepted_sound text found e).built.few_units in
        table_fits text a b found e (omega (arith, few)) (omega (arith, few)) ∙ sym e
    by_outcome (refused refusal) e = table_refused text a b refusal e ∙ sym e

-- what reading a text into a table answers and leaves
module _ {text lows₀ highs₀ lows highs : List ℕ} {answer : Result Counts Refusal} (filled : ReadInto text lows₀ highs₀ lows highs answer) where
  -- a text is refused as the answer says, where the table has room for every job
  pub read_refused : most_units ≤ length lows₀ → most_units ≤ length highs₀ → {refusal : Refusal} → answer ≡ Err refusal
      → read_job text ≡ refused refusal
  read_refused for_lows for_highs {refusal} refuses =
      sym (table_holds text (length lows₀) (length highs₀) for_lows for_highs) ∙ refused_by_lem _ refusal (sym refuses ∙ filled.answer)

  -- and the refusal's line is printed
  pub refused_prints : most_units ≤ length lows₀ → most_units ≤ length highs₀ → {refusal : Refusal} → answer ≡ Err refusal
      → printed_of text ≡ refusal_line refusal.number refusal.place
  unfolding printed_of printed_read
  refused_prints for_lows for_highs {refusal} refuses = ap printed_read (read_refused for_lows for_highs refuses)

  -- the table of a text that is read opens its settling
  pub filled_opens : {units listed : ℕ} → answer ≡ Ok (record { units = units; groups = listed }) → (scratch : ℕ) → 8 * units ≤ scratch
      → Opened text lows highs scratch
  filled_opens {units} {listed} reads scratch for_scratch =
      let (found, accepts, counts, lists) = accepted_by _ units listed (sym reads ∙ filled.answer) in
      let job_is : read_job text ≡ accepted found = table_accepted text _ _ found accepts in
      let sound : SoundJob found = accepted_sound text found job_is in
      let n : ℕ = length found.lows in
      let lows_are : lows ≡ found.lows ++ drop n lows₀ = rw accepts at filled.lows_are in
      let highs_are : highs ≡ found.highs ++ drop n highs₀ = rw accepts at filled.highs_are in
      let paired : length found.highs ≡ n = ranges_length sound.built.ranges in
      let front_lows : take n lows ≡ found.lows = ap (take n) lows_are ∙ take_at found.lows (drop n lows₀) n refl in
      let front_highs : take n highs ≡ found.highs = ap (take n) highs_are ∙ take_at found.highs (drop n highs₀) n paired in
      let room : Roomy n (length lows) (length highs) scratch = record {
        for_lows = rw lows_are (omega (arith, length-append found.lows (drop n lows₀)));
        for_highs = rw highs_are (omega (arith, length-append found.highs (drop n highs₀)));
        for_scratch = omega (arith, counts);
      } in
      let passes : check_table found.marks n lows highs scratch ≡ Ok tt =
      ranges_pass found.marks n lows highs scratch sound.some_unit sound.built.few_units room (rw (front_lows, front_highs) sound.built.ranges)
      (rw (front_lows, front_highs) sound.built.marked) in
      record {
        cleared = record { found = found; reads = job_is; passes = passes };
        opens = λ i. table_of (front_lows i) (front_highs i);
      }

  -- also with a scratch for every job
  pub read_opens : {units listed : ℕ} → answer ≡ Ok (record { units = units; groups = listed }) → (scratch : ℕ) → 8 * most_units ≤ scratch
      → Opened text lows highs scratch
  read_opens {units} {listed} reads scratch for_scratch =
      let (found, accepts, counts, lists) = accepted_by _ units listed (sym reads ∙ filled.answer) in
      let few = (accepted_sound text found (table_accepted text _ _ found accepts)).built.few_units in
      filled_opens reads scratch (omega (arith, counts, few))

-- reporting over such a table
module _ {text lows highs : List ℕ} {scratch : ℕ} (opened : Opened text lows highs scratch) (buffer : List ℕ)
    (long : most_bytes ≤ length buffer) where
  abbrev cleared : Cleared text lows highs scratch
  cleared = opened.cleared

  -- what is printed is of the settling from the table
  printed_opening : printed_of text ≡ printed (marks cleared) (groups cleared) (settle (running_groups (marks cleared) (groups cleared)) (opening cleared))
  unfolding printed_of printed_read
  printed_opening =
      ap printed_read cleared.reads
      ∙ ap (λ (table : Table). printed (marks cleared) (groups cleared) (settle (running_groups (marks cleared) (groups cleared)) table)) (sym opened.opens)

  -- what reporting answers and leaves
  abbrev outcome : Reported
  outcome = report_text text lows highs scratch buffer

  -- the outcome with these bytes written at the start of the buffer
  abbrev writing : ℕ → List ℕ → List ℕ → List ℕ → Reported
  writing passes next_lows next_highs bytes =
      reported (Ok (record { length = length bytes; passes = passes })) next_lows next_highs (bytes ++ drop (length bytes) buffer)

  -- how it ends: with the report written, or for want of a plan
  data Prints : Type 0 where
    written : (passes : ℕ) (next_lows next_highs : List ℕ) → outcome ≡ writing passes next_lows next_highs (printed_of text) → Prints
    none : (number place passes : ℕ) → printed_of text ≡ refusal_line number place
        → outcome ≡ reported (Err (NoPlan number place passes)) lows highs buffer → Prints

  by_end : CallEnds cleared → Prints
  unfolding printed
  by_end (CallEnds.settled passes settles said) =
      let report_is : printed_of text ≡ report_of (marks cleared) (groups cleared) (after cleared) passes =
      printed_opening ∙ ap (printed (marks cleared) (groups cleared)) settles in
      Prints.written passes (called cleared).lows (called cleared).highs
      (reports cleared buffer long
      ∙ ap (λ (answer : Result ℕ Unsettled). report_by (marks cleared) (groups cleared) (count cleared) answer (called cleared).lows (called cleared).highs buffer) (says said)
      ∙ ap (writing passes (called cleared).lows (called cleared).highs) (sym report_is))
  by_end (CallEnds.refused number place passes settles said) =
      Prints.none number place passes
      (printed_opening ∙ ap (printed (marks cleared) (groups cleared)) settles)
      (reports cleared buffer long
      ∙ ap (λ (s : Settlement). report_by (marks cleared) (groups cleared) (count cleared) s.answer s.lows s.highs buffer) said)

  module _ {answer : Result Written Unsettled} {next_lows next_highs exit : List ℕ} (is : reported answer next_lows next_highs exit ≡ outcome) where
    answers : {other : Reported} → outcome ≡ other → answer ≡ other.answer
    answers e = ap (λ (r : Reported). r.answer) (is ∙ e)

    leaves : {other : Reported} → outcome ≡ other → exit ≡ other.buffer
    leaves e = ap (λ (r : Reported). r.buffer) (is ∙ e)

    -- what is printed of the answer is what the program prints
    pub answer_prints : {size : ℕ} {final : List ℕ} → size ≡ size_printed answer → final ≡ buffer_printed answer exit
        → (size ≡ length (printed_of text)) × (final ≡ printed_of text ++ drop size buffer)
    answer_prints {size} {final} counted holds = by (by_end (ends cleared))
      where
        by : Prints → (size ≡ length (printed_of text)) × (final ≡ printed_of text ++ drop size buffer)
        by (Prints.written passes _ _ e) = rw (holds, counted, answers e, leaves e) (refl, refl)
        by (Prints.none number place passes line e) = rw (holds, counted, answers e, leaves e, line) (refl, refl)
