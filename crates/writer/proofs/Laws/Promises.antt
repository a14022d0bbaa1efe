-- The promises of writing: what is written is read back, is the text that was read, and settles in one pass where it was settled. Assumes nothing.
use Rattle.model.specs.declared.Refusal.{Refusal}
use Rattle.std.specs.Prelude.{ℕ, Result, Ok, ◌*◌, ◌≤◌, List, ◌++◌, ◌≡◌, refl, length, take, drop}
use Rattle.std.proofs.Common.{sym, ap, ◌∙◌, arith, take-append-drop, take_at, length-take-le}
use Rattle.job.specs.Job.{Job, accepted, read_job}
use Rattle.job.proofs.Laws.Reading.{table_fits}
use Rattle.job.specs.Reading.{read_table, ReadInto}
use Rattle.job.specs.declared.Counts.{Counts}
use Rattle.model.proofs.Laws.Lists.{ranges_length}
use Rattle.report.specs.Inner.Printed.{Opened}
use Rattle.report.proofs.Laws.Printed.{filled_opens}
use Rattle.works.specs.Called.{Cleared, first_of, groups, marks, count, opening, called, after}
use Rattle.works.specs.Calls.{settlement, settle_text}
use Rattle.works.proofs.Laws.Called.{opening_sound, called_is, called_settled, called_consistent}
use Rattle.works.proofs.Laws.Checked.{passed_room}
use Rattle.works.proofs.Laws.Repeated.{settled_cleared}
use Rattle.works.proofs.Laws.Settled.{settled_again}
use Rattle.works.specs.Resting.{running_groups, AtRest}
use Rattle.works.specs.Settling.{Outcome, settle}
use Rattle.member_ranges.specs.Tables.{Table, table_of}
use Rattle.writer.specs.Calls.{WrittenText, written_text, write_text}
use Rattle.writer.proofs.Laws.Answers.{lent_sound, write_fits, lent_sized}
use Rattle.writer.proofs.Laws.Lengths.{text_fits}
use Rattle.writer.proofs.Laws.Spelled.{accepted_text, text_accepted}
use Rattle.writer.specs.Promises.{lent_job, text_in}
use Rattle.job_lines.specs.Texts.{job_with, job_text, most_written}

-- every job and table that the checks let through is written into a buffer of 28,096 bytes
pub always_written : {text lows highs : List ℕ} {scratch : ℕ} (cleared : Cleared text lows highs scratch) (buffer : List ℕ)
    → most_written ≤ length buffer → (write_text text lows highs buffer).answer ≡ Ok (length (job_text (lent_job cleared)))
always_written cleared buffer long =
    ap (λ (w : WrittenText). w.answer) (write_fits cleared buffer (omega (arith, text_fits (lent_job cleared) (lent_sound cleared))))

-- a text and a table that the checks let through, written
module _ {text lows highs : List ℕ} {scratch : ℕ} (cleared : Cleared text lows highs scratch) (buffer : List ℕ) {size : ℕ}
    (is : (write_text text lows highs buffer).answer ≡ Ok size) where
  -- the length answered is that of the text of the job with the lent ranges
  pub written_size : size ≡ length (job_text (lent_job cleared))
  written_size = (lent_sized cleared buffer is).0

  -- the buffer holds that text, and past it what it held
  pub written_holds : write_text text lows highs buffer ≡ written_text (Ok size) (job_text (lent_job cleared) ++ drop size buffer)
  written_holds =
      write_fits cleared buffer (omega (arith, written_size, (lent_sized cleared buffer is).1))
      ∙ ap (λ (k : ℕ). written_text (Ok k) (job_text (lent_job cleared) ++ drop k buffer)) (sym written_size)

  -- what is written is the text of that job
  pub written_text_lem : text_in size (write_text text lows highs buffer) ≡ job_text (lent_job cleared)
  written_text_lem =
      ap (λ (w : WrittenText). take size w.buffer) written_holds
      ∙ take_at (job_text (lent_job cleared)) (drop size buffer) size (sym written_size)

  -- it is accepted, as the same groups with the lent ranges
  pub written_accepted : read_job (text_in size (write_text text lows highs buffer)) ≡ accepted (lent_job cleared)
  written_accepted = ap read_job written_text_lem ∙ text_accepted (lent_job cleared) (lent_sound cleared)

  -- it has at most 28,096 bytes
  pub written_fits : size ≤ most_written
  written_fits = omega (arith, written_size, text_fits (lent_job cleared) (lent_sound cleared))

  -- reading it into a table that is long enough
  module _ {lows₀ highs₀ next_lows next_highs : List ℕ} {answer : Result Counts Refusal}
      (filled : ReadInto (text_in size (write_text text lows highs buffer)) lows₀ highs₀ next_lows next_highs answer)
      (for_lows : count cleared ≤ length lows₀) (for_highs : count cleared ≤ length highs₀) where
    as_many : length (lent_job cleared).lows ≡ count cleared
    as_many = length-take-le (count cleared) lows (passed_room (marks cleared) (count cleared) lows highs scratch cleared.passes).for_lows

    found : read_table (text_in size (write_text text lows highs buffer)) (length lows₀) (length highs₀) ≡ accepted (lent_job cleared)
    found = table_fits _ _ _ (lent_job cleared) written_accepted (omega (arith, as_many)) (omega (arith, as_many))

    -- gives the counts and the lent ranges
    pub written_read : (answer ≡ Ok (record { units = count cleared; groups = length (groups cleared) })) × (first_of (count cleared) next_lows next_highs ≡ opening cleared)
    written_read =
        let n : ℕ = count cleared in
        let job : Job = lent_job cleared in
        let paired : length job.highs ≡ n = ranges_length (lent_sound cleared).built.ranges ∙ as_many in
        let lows_are : next_lows ≡ job.lows ++ drop (length job.lows) lows₀ = filled.lows_are ∙ rw found in
        let highs_are : next_highs ≡ job.highs ++ drop (length job.lows) highs₀ = filled.highs_are ∙ rw found in
        let front_lows : take n next_lows ≡ take n lows = ap (take n) lows_are ∙ take_at job.lows _ n as_many in
        let front_highs : take n next_highs ≡ take n highs = ap (take n) highs_are ∙ take_at job.highs _ n paired in
        let read : answer ≡ Ok (record { units = length job.lows; groups = length (groups cleared) }) = filled.answer ∙ rw found in
        (read ∙ ap (λ (k : ℕ). Ok (record { units = k; groups = length (groups cleared) })) as_many, λ i. table_of (front_lows i) (front_highs i))

-- a text with the table that its reading filled is written as the same bytes
pub read_written : {text lows₀ highs₀ lows highs : List ℕ} {units listed : ℕ} → ReadInto text lows₀ highs₀ lows highs (Ok (record { units = units; groups = listed }))
    → (buffer : List ℕ) → length text ≤ length buffer
    → write_text text lows highs buffer ≡ written_text (Ok (length text)) (text ++ drop (length text) buffer)
read_written {text} {lows = lows} {highs = highs} {units = units} filled buffer fits =
    let opened : Opened text lows highs (8 * units) = filled_opens filled refl (8 * units) (omega arith) in
    let cleared = opened.cleared in
    let same : job_text (lent_job cleared) ≡ text =
    ap (λ (table : Table). job_text (job_with (marks cleared) (groups cleared) table)) opened.opens ∙ accepted_text text cleared.reads in
    write_fits cleared buffer (omega (arith, ap length same)) ∙ rw same

-- a job at rest that is read back opens at rest
rests_again : {found job : Job} {table : Table} → table ≡ table_of found.lows found.highs → found ≡ job
    → settle (running_groups job.marks job.groups) (table_of job.lows job.highs) ≡ Outcome.settled (table_of job.lows job.highs) 1
    → settle (running_groups found.marks found.groups) table ≡ Outcome.settled table 1
rests_again opens same rests = rw (opens, same) rests

-- a table at rest settles in one pass, unchanged
one_pass : {text lows highs : List ℕ} {scratch : ℕ} (cleared : Cleared text lows highs scratch)
    → settle (running_groups (marks cleared) (groups cleared)) (opening cleared) ≡ Outcome.settled (opening cleared) 1
    → called cleared ≡ settlement (Ok 1) lows highs
one_pass {lows = lows} {highs = highs} cleared rests =
    called_is cleared ∙ rw (rests, take-append-drop (count cleared) lows, take-append-drop (count cleared) highs)

-- a settled table, written
module _ {text lows highs : List ℕ} {scratch : ℕ} (cleared : Cleared text lows highs scratch) {passes : ℕ}
    (settles : (called cleared).answer ≡ Ok passes) (buffer : List ℕ) {size : ℕ}
    (is : (write_text text (called cleared).lows (called cleared).highs buffer).answer ≡ Ok size)
    {lows₀ highs₀ next_lows next_highs : List ℕ} {answer : Result Counts Refusal}
    (filled : ReadInto (text_in size (write_text text (called cleared).lows (called cleared).highs buffer)) lows₀ highs₀ next_lows next_highs answer)
    (for_lows : count cleared ≤ length lows₀) (for_highs : count cleared ≤ length highs₀) where
  abbrev again : Cleared text (called cleared).lows (called cleared).highs scratch
  again = settled_cleared cleared settles

  -- the table that reading fills has the settled ranges
  pub settled_read : first_of (count cleared) next_lows next_highs ≡ after cleared
  settled_read = (written_read again buffer is filled for_lows for_highs).1

  -- so it is at rest
  pub settled_rests : AtRest (marks cleared) (groups cleared) (first_of (count cleared) next_lows next_highs)
  settled_rests = rw settled_read (called_consistent cleared settles)

  -- and settles in one pass, unchanged
  pub settled_once : (room : ℕ) → 8 * count cleared ≤ room
      → settle_text (text_in size (write_text text (called cleared).lows (called cleared).highs buffer)) next_lows next_highs room
      ≡ settlement (Ok 1) next_lows next_highs
  settled_once room long =
      let out : List ℕ = text_in size (write_text text (called cleared).lows (called cleared).highs buffer) in
      let opened : Opened out next_lows next_highs room = filled_opens filled (written_read again buffer is filled for_lows for_highs).0 room long in
      let job_is : accepted opened.cleared.found ≡ accepted (lent_job again) = sym opened.cleared.reads ∙ written_accepted again buffer is in
      let same : opened.cleared.found ≡ lent_job again = cc in
      let at_rest = rests_again opened.opens same (settled_again (opening_sound cleared) (called_settled cleared settles)) in
      one_pass opened.cleared at_rest
