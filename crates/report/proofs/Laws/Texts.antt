-- Reporting a text, case by case: what the code answers is what the definition says. Assumes nothing.
use Rattle.std.specs.Prelude.{ℕ, Result, Ok, Err, ◌≤◌, ◌<◌, List, ◌++◌, ◌≡◌, length, take, drop}
use Rattle.std.proofs.Common.{sym, ap, subst, ◌∙◌, arith}
use borrow.Author.Tests.{le-leb, lt-leb}
use Rattle.job.specs.Job.{Job, read_job, accepted}
use Rattle.form.specs.Form.{most_bytes}
use Rattle.job.specs.Inner.Reading.{GroupsScanned}
use Rattle.job.proofs.Laws.Reading.{accepted_by}
use Rattle.job.proofs.Laws.Sound.{all_unsaid_any, accepted_sound}
use Rattle.job.specs.declared.Counts.{Counts}
use Rattle.model.specs.Groups.{Group}
use Rattle.model.specs.declared.Refusal.{Refusal}
use Rattle.works.specs.Calls.{Settlement, settlement, settle_job}
use Rattle.groups.specs.Inner.Flat.{groups_in, marks_in}
use Rattle.groups.specs.Laws.Reading.{flatten_groups}
use Rattle.groups.specs.Memberships.{SoundGroup}
use Rattle.works.proofs.Laws.Accepted.{each_sound, read_settles, refused_settles}
use Rattle.member_ranges.specs.Tables.{table_of}
use Rattle.works.specs.declared.Unsettled.{Unsettled}
use Rattle.report.specs.Calls.{reported, report_by, report_settled, report_text}
use Rattle.report.specs.Inner.Asked.{WithinLimits}
use Rattle.report.specs.Reports.{report_of}
use Rattle.model.specs.Refusals.{refusal}
use Rattle.works.specs.declared.Unsettled.TheVariants.{Refused}

module _ (marks : List ℕ) (groups : List Group) (units : ℕ) {lows highs : List ℕ} (buffer : List ℕ) where
  -- a settled table is reported
  pub answer_written : {answer : Result ℕ Unsettled} {passes count : ℕ} {exit : List ℕ} → answer ≡ Ok passes
      → count ≡ length (report_of marks groups (table_of (take units lows) (take units highs)) passes)
      → exit ≡ report_of marks groups (table_of (take units lows) (take units highs)) passes ++ drop count buffer
      → reported (Ok (record { length = count; passes = passes })) lows highs exit ≡ report_by marks groups units answer lows highs buffer
  answer_written is counted holds = rw (is, holds, counted)

  -- what is reported of a settling is what is reported of its answer and the lists after it
  pub settled_reports : {answer : Result ℕ Unsettled} {settled : Settlement} → settlement answer lows highs ≡ settled
      → report_by marks groups units answer lows highs buffer ≡ report_settled marks groups units settled buffer
  unfolding report_settled
  settled_reports is = rw (← is)

-- 1 for a buffer under 65,536 bytes
pub buffer_short : (text lows highs : List ℕ) (scratch : ℕ) (buffer : List ℕ) → length buffer < most_bytes
    → reported (Err (Refused (refusal 1 0))) lows highs buffer ≡ report_text text lows highs scratch buffer
unfolding report_text
buffer_short text lows highs scratch buffer short = rw (lt-leb most_bytes (length buffer) short)

-- what scanning a text answers and leaves
module _ {text flat₀ flat : List ℕ} {answer : Result Counts Refusal} (scanned : GroupsScanned text flat₀ flat answer) where
  -- the job of a text that is read
  record Found (units groups : ℕ) : Type 0 where
    pub job : Job
    pub accepts : read_job text ≡ accepted job
    pub counts : length (job).lows ≡ units
    pub lists : groups_in groups flat ≡ (job).groups
    pub shut : marks_in units flat ≡ (job).marks
    pub few : length (job).groups ≡ groups

  found : {units groups : ℕ} → answer ≡ Ok (record { units = units; groups = groups }) → Found units groups
  found {units} {groups} reads =
      let (job, accepts, counts, few) = accepted_by (read_job text) units groups (sym reads ∙ scanned.answer) in
      record {
        job = job;
        accepts = accepts;
        counts = counts;
        lists =
            ap (λ (n : ℕ). groups_in n flat) (sym few)
            ∙ ap (groups_in (length (job).groups)) (scanned.found_flat job accepts)
            ∙ flatten_groups (all_unsaid_any (accepted_sound text job accepts).built.groups_sound) _;
        shut = ap (λ (n : ℕ). marks_in n flat) (sym counts) ∙ scanned.found_marks job accepts;
        few = few;
      }

  -- its groups are within the limits
  pub read_limits : {units groups : ℕ} → answer ≡ Ok (record { units = units; groups = groups }) → WithinLimits flat groups units
  read_limits reads =
      let behind = found reads in
      let sound = (accepted_sound text behind.job behind.accepts).built in
      record {
        few_groups = omega (arith, behind.few, sound.few_groups);
        few_memberships = rw behind.lists sound.few_memberships;
        each = λ group member.
            subst (λ (n : ℕ). SoundGroup n group) behind.counts (each_sound sound.groups_sound group (rw behind.lists at member));
      }

  module _ (table_lows table_highs : List ℕ) (scratch : ℕ) (buffer : List ℕ) (long : most_bytes ≤ length buffer) where
    -- it is reported as its groups are
    pub read_reports : {units groups : ℕ} → answer ≡ Ok (record { units = units; groups = groups })
        → report_settled (marks_in units flat) (groups_in groups flat) units (settle_job (marks_in units flat) (groups_in groups flat) units table_lows table_highs scratch) buffer
        ≡ report_text text table_lows table_highs scratch buffer
    unfolding report_text
    read_reports {units} {groups} reads =
        let behind = found reads in
        rw (
          read_settles scanned reads table_lows table_highs scratch,
          le-leb most_bytes (length buffer) long,
          behind.lists,
          behind.shut,
          behind.accepts,
          behind.counts,
        )

    -- a text that is refused leaves the table and the buffer
    pub refused_reports : (refusal : Refusal) → answer ≡ Err refusal
        → reported (Err (Refused refusal)) table_lows table_highs buffer ≡ report_text text table_lows table_highs scratch buffer
    unfolding report_text
    refused_reports refusal refuses =
        rw (le-leb most_bytes (length buffer) long)
        (settled_reports _ _ _ buffer (refused_settles scanned refusal refuses table_lows table_highs scratch))
