-- What a report promises, for every text that the reader accepts and every opening table: the laws of settling for the table
-- that it leaves, and the shares on its group lines. Assumes nothing.
use Rattle.std.specs.Prelude.{ℕ, Result, Ok, Err, ◌≤◌, List, ◌++◌, ◌↔◌, ◌≡◌, refl, leb, length, take, drop, Bool, true, false}
use Rattle.std.proofs.Common.{sym, ap, ◌∙◌, arith, le-leb, length-append}
use Rattle.job.specs.Job.{read_job}
use Rattle.form.specs.Form.{most_bytes}
use Rattle.model.specs.Groups.{Group}
use Rattle.model.specs.Shares.{pick}
use Rattle.works.specs.Calls.{settlement, settle_text}
use Rattle.works.specs.Resting.{NoneAtRest}
use Rattle.works.specs.Called.{Cleared, groups, marks, count, opening, called, after}
use Rattle.works.proofs.Laws.Called.{opening_shut, called_settled, called_inside, called_consistent, called_greatest, called_untouched, called_refused}
use Rattle.works.proofs.Laws.Repeated.{called_again}
use Rattle.member_ranges.specs.Tables.{table_of}
use Rattle.works.specs.declared.Unsettled.{Unsettled}
use Rattle.report.specs.Calls.{Reported, reported, report_by, report_settled, report_text, job_of}
use Rattle.report.specs.Inner.Printed.{size_printed}
use Rattle.report.specs.Orders.{report_passes}
use Rattle.report.proofs.Laws.Evenness.{settled_lines}
use Rattle.report.specs.Reports.{report_of}
use Rattle.works.specs.declared.Unsettled.TheVariants.{NoPlan, Refused}
use Rattle.report.specs.Promises.{Promised, outcome, left}
use Rattle.model.specs.Refusals.{refusal}

-- what an outcome answers
says : {a b : Reported} → a ≡ b → a.answer ≡ b.answer
says is = ap (λ (r : Reported). r.answer) is

module _ (marks : List ℕ) (groups : List Group) (units : ℕ) (lows highs buffer : List ℕ) where
  -- a written report lies in the buffer
  written_in : (answer : Result ℕ Unsettled) (exit : Reported) {count passes : ℕ} → exit.answer ≡ Ok (record { length = count; passes = passes })
      → exit ≡ report_by marks groups units answer lows highs buffer → count ≤ length exit.buffer
  written_in (Ok more) exit {count} {passes} answers is =
      let report : List ℕ = report_of marks groups (table_of (take units lows) (take units highs)) more in
      let counted : count ≡ length report = ap size_printed (sym answers ∙ says is) in
      rw (is, counted) (omega (arith, length-append report (drop (length report) buffer)))
  written_in (Err (NoPlan number place passes)) exit answers is =
      absurd (let e = says is in let z : ◌≡◌ {A = ℕ} 0 1 = cc in omega arith)
  written_in (Err (Refused refusal)) exit answers is = absurd (let e = says is in let z : ◌≡◌ {A = ℕ} 0 1 = cc in omega arith)

  -- only a settling is reported, with its passes
  written_by : (answer : Result ℕ Unsettled) {count passes : ℕ} → (report_by marks groups units answer lows highs buffer).answer ≡ Ok (record { length = count; passes = passes })
      → answer ≡ Ok passes
  written_by (Ok more) {count} {passes} answers = let counted : more ≡ passes = ap report_passes answers in rw counted
  written_by (Err (NoPlan number place passes)) answers = absurd (let z : ◌≡◌ {A = ℕ} 0 1 = cc in omega arith)
  written_by (Err (Refused refusal)) answers = absurd (let z : ◌≡◌ {A = ℕ} 0 1 = cc in omega arith)

  -- a refusal for want of a plan is the settling's
  none_by : (answer : Result ℕ Unsettled) (number place passes : ℕ)
      → ((report_by marks groups units answer lows highs buffer).answer ≡ Err (NoPlan number place passes)) ↔ (answer ≡ Err (NoPlan number place passes))
  none_by (Ok more) number place passes =
      (λ e. absurd (let z : ◌≡◌ {A = ℕ} 0 1 = cc in omega arith), λ e. absurd (let z : ◌≡◌ {A = ℕ} 0 1 = cc in omega arith))
  none_by (Err (NoPlan other there more)) number place passes = (
    λ e. let p : other ≡ number = cc in let q : there ≡ place = cc in let r : more ≡ passes = cc in rw (p, q, r),
    λ e. let p : other ≡ number = cc in let q : there ≡ place = cc in let r : more ≡ passes = cc in rw (p, q, r),
  )
  none_by (Err (Refused refusal)) number place passes =
      (λ e. absurd (let z : ◌≡◌ {A = ℕ} 0 1 = cc in omega arith), λ e. absurd (let z : ◌≡◌ {A = ℕ} 0 1 = cc in omega arith))

  -- the table is the settling's
  table_by : (answer : Result ℕ Unsettled)
      → ((report_by marks groups units answer lows highs buffer).lows ≡ lows) × ((report_by marks groups units answer lows highs buffer).highs ≡ highs)
  table_by (Ok passes) = (refl, refl)
  table_by (Err (NoPlan number place passes)) = (refl, refl)
  table_by (Err (Refused refusal)) = (refl, refl)

-- the length that a report answers lies within the buffer
pub written_within : (text lows highs : List ℕ) (scratch : ℕ) (buffer : List ℕ) {count passes : ℕ} {next_lows next_highs exit : List ℕ}
    → reported (Ok (record { length = count; passes = passes })) next_lows next_highs exit ≡ report_text text lows highs scratch buffer → count ≤ length exit
unfolding report_text report_settled
written_within text lows highs scratch buffer {count} {passes} {next_lows} {next_highs} {exit} is = by_length (leb most_bytes (length buffer)) is
  where
    by_length : (long : Bool)
        → reported (Ok (record { length = count; passes = passes })) next_lows next_highs exit
        ≡ pick long
        (report_settled (job_of (read_job text)).marks (job_of (read_job text)).groups (length (job_of (read_job text)).lows) (settle_text text lows highs scratch) buffer)
        (reported (Err (Refused (refusal 1 0))) lows highs buffer)
        → count ≤ length exit
    by_length true is = written_in _ _ _ _ _ buffer (settle_text text lows highs scratch).answer (reported (Ok (record { length = count; passes = passes })) next_lows next_highs exit) refl is
    by_length false is = absurd (let e = says is in let z : ◌≡◌ {A = ℕ} 0 1 = cc in omega arith)

module _ {text lows highs : List ℕ} {scratch : ℕ} (cleared : Cleared text lows highs scratch) (buffer : List ℕ)
    (long : most_bytes ≤ length buffer) where
  -- the call reports the settling
  pub reports : outcome cleared buffer long
      ≡ report_by (marks cleared) (groups cleared) (count cleared) (called cleared).answer (called cleared).lows (called cleared).highs buffer
  unfolding report_text report_settled
  reports = rw (le-leb most_bytes (length buffer) long, cleared.reads)

  -- the table that it leaves is the settling's
  pub same_table_lem : ((outcome cleared buffer long).lows ≡ (called cleared).lows) × ((outcome cleared buffer long).highs ≡ (called cleared).highs)
  same_table_lem = rw reports (table_by (marks cleared) (groups cleared) (count cleared) (called cleared).lows (called cleared).highs buffer (called cleared).answer)

  left_is : left cleared buffer long ≡ after cleared
  left_is = rw (same_table_lem.0, same_table_lem.1)

  module _ {size passes : ℕ} (answers : (outcome cleared buffer long).answer ≡ Ok (record { length = size; passes = passes })) where
    -- the passes that it answers are the settling's
    pub written_settled : (called cleared).answer ≡ Ok passes
    written_settled = written_by _ _ _ _ _ buffer (called cleared).answer (rw reports at answers)

    -- the buffer holds the report of the table that the call leaves and of the passes, then what it held
    pub written_report : (outcome cleared buffer long).buffer
        ≡ report_of (marks cleared) (groups cleared) (left cleared buffer long) passes
        ++ drop (length (report_of (marks cleared) (groups cleared) (left cleared buffer long) passes)) buffer
    written_report = rw (left_is, reports, written_settled)

    -- 01, demand 3, for the report's table and shares
    pub written_promised : Promised (marks cleared) (groups cleared) (opening cleared) (left cleared buffer long)
    written_promised =
        let settles = written_settled in
        rw left_is
        (record {
          inside = called_inside cleared settles;
          at_rest = called_consistent cleared settles;
          greatest = called_greatest cleared settles;
          untouched = called_untouched cleared settles;
          lines = settled_lines (opening_shut cleared) (called_settled cleared settles);
        })

    -- settling the table that it leaves takes one pass and changes nothing
    pub written_again : settle_text text (outcome cleared buffer long).lows (outcome cleared buffer long).highs scratch
        ≡ settlement (Ok 1) (outcome cleared buffer long).lows (outcome cleared buffer long).highs
    written_again = rw (same_table_lem.0, same_table_lem.1) (called_again cleared written_settled)

  -- refused for want of a plan exactly if no table inside the opening one is at rest
  pub report_refused : ((number : ℕ) × (place : ℕ) × (passes : ℕ) × ((outcome cleared buffer long).answer ≡ Err (NoPlan number place passes)))
      ↔ NoneAtRest (marks cleared) (groups cleared) (opening cleared)
  report_refused = (
    λ (number, place, passes, answers). (called_refused cleared).0 (number, place, passes, (none_by _ _ _ _ _ buffer (called cleared).answer number place passes).0 (rw reports at answers)),
    λ none.
        let (number, place, passes, answers) = (called_refused cleared).1 none in
        (number, place, passes, rw reports ((none_by _ _ _ _ _ buffer (called cleared).answer number place passes).1 answers)),
  )
