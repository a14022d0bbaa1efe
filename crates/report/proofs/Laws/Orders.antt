-- Demand 3 for the report in every order of the groups, with its refusals and its passes. Assumes nothing.
use Rattle.std.specs.Prelude.{ℕ, Ok, Err, suc, ◌+◌, ◌≤◌, ◌↔◌, ◌≡◌, length, take}
use mathlib.Core.List.{List, Memᴰ}
use Rattle.std.proofs.Math.Option.{some}
use Rattle.std.proofs.Common.{sym, ap, ◌∙◌, arith, length-take-le, take_at}
use Rattle.std.proofs.Math.ListN.{get_elem?}
use Rattle.form.specs.Form.{most_bytes}
use Rattle.job.specs.Orders.{Reordered}
use Rattle.job.specs.TextLines.{lines_of}
use Rattle.model.specs.Groups.{Group}
use Rattle.model.proofs.Laws.Lists.{ranges_length}
use Rattle.works.specs.Called.{Cleared, groups, marks, count, opening, called, after}
use Rattle.works.proofs.Laws.Called.{CallEnds, says, ends, settled_not, called_bound, called_refusal}
use Rattle.works.specs.Called as settling
use Rattle.works.proofs.Laws.Checked.{passed_room}
use Rattle.works.specs.Reordering.{reordered_cleared}
use Rattle.works.proofs.Laws.Orders.{same_units, same_shut, same_groups}
use Rattle.works.specs.Calls.{WantOfPlan}
use Rattle.works.proofs.Laws.Repeated.{called_same_groups}
use Rattle.member_ranges.specs.Tables.{Table, width}
use Rattle.works.specs.declared.Unsettled.TheVariants.{NoPlan}
use Rattle.report.specs.Calls.{Reported, reported}
use Rattle.report.proofs.Laws.Cut.{report_cut}
use Rattle.report.specs.Inner.Printed.{size_printed}
use Rattle.report.specs.Lines.{settled_line}
use Rattle.report.specs.Places.{report_lines}
use Rattle.report.proofs.Laws.Places.{line_numbered, group_line_lem}
use Rattle.report.specs.Promises.{outcome, left}
use Rattle.report.proofs.Laws.Promises.{reports, same_table_lem, written_settled, written_report, written_promised}
use Rattle.report.specs.Reports.{line_of, report_of}
use Rattle.report.specs.Orders.{report_passes, report, SameLines, SameReports}

module _ {text lows highs : List ℕ} {scratch : ℕ} (cleared : Cleared text lows highs scratch) (buffer : List ℕ)
    (long : most_bytes ≤ length buffer) where
  -- how the call ends: with a report, or for want of a plan, with table and buffer as they were
  data Reports : Type 0 where
    written : (size passes : ℕ) → (outcome cleared buffer long).answer ≡ Ok (record { length = size; passes = passes }) → Reports
    refused : (number place passes : ℕ) → (called cleared).answer ≡ Err (NoPlan number place passes)
        → outcome cleared buffer long ≡ reported (Err (NoPlan number place passes)) lows highs buffer → Reports

  by_end : CallEnds cleared → Reports
  by_end (CallEnds.settled passes is said) =
      let settles : (called cleared).answer ≡ Ok passes = says said in
      Reports.written (length (report_of (marks cleared) (groups cleared) (after cleared) passes)) passes
      (ap (λ (r : Reported). r.answer) (reports cleared buffer long) ∙ rw settles)
  by_end (CallEnds.refused number place passes is said) = Reports.refused number place passes (says said) (reports cleared buffer long ∙ rw said)

  -- a refusal for want of a plan says 11 or 12 and the place of a group, and table and buffer hold what they held
  pub report_refusal : {number place passes : ℕ} → (outcome cleared buffer long).answer ≡ Err (NoPlan number place passes)
      → (WantOfPlan number × (1 ≤ place) × (place ≤ length (groups cleared)))
      × (outcome cleared buffer long ≡ reported (Err (NoPlan number place passes)) lows highs buffer)
  report_refusal {number} {place} {passes} answers = refuses (by_end (ends cleared))
    where
      refuses : Reports → (WantOfPlan number × (1 ≤ place) × (place ≤ length (groups cleared)))
          × (outcome cleared buffer long ≡ reported (Err (NoPlan number place passes)) lows highs buffer)
      refuses (Reports.written size count is) = absurd (let z : ◌≡◌ {A = ℕ} 0 1 = cc in omega arith)
      refuses (Reports.refused other there count none is) =
          let same : Err (NoPlan other there count) ≡ Err (NoPlan number place passes) = sym (ap (λ (r : Reported). r.answer) is) ∙ answers in
          let at_number : other ≡ number = cc in
          let at_place : there ≡ place = cc in
          let at_passes : count ≡ passes = cc in
          rw (← at_number, ← at_place, ← at_passes) ((called_refusal cleared none).0, is)

  -- the passes are at most 1 plus the sum of high − low over the opening table
  pub report_bound : report_passes (outcome cleared buffer long).answer ≤ suc (width (opening cleared))
  report_bound = bound (by_end (ends cleared))
    where
      bound : Reports → report_passes (outcome cleared buffer long).answer ≤ suc (width (opening cleared))
      bound (Reports.written size passes is) = rw is (rw (written_settled cleared buffer long is) at (called_bound cleared))
      bound (Reports.refused number place passes none is) = rw is (rw none at (called_bound cleared))

  module _ {size passes : ℕ} (answers : (outcome cleared buffer long).answer ≡ Ok (record { length = size; passes = passes })) where
    -- the answer is the length of the report of the table that the call leaves
    written_size : length (report_of (marks cleared) (groups cleared) (left cleared buffer long) passes) ≡ size
    written_size =
        let settles = written_settled cleared buffer long answers in
        let (lows_are, highs_are) = same_table_lem cleared buffer long in
        let same : Ok (record { length = size; passes = passes }) ≡ Ok (record { length = length (report_of (marks cleared) (groups cleared) (after cleared) passes); passes = passes }) =
        sym answers ∙ ap (λ (r : Reported). r.answer) (reports cleared buffer long) ∙ rw settles in
        let counted : length (report_of (marks cleared) (groups cleared) (after cleared) passes) ≡ size = ap size_printed (sym same) in
        rw (lows_are, highs_are) counted

    -- so these bytes are that report
    pub written_bytes : report cleared buffer long answers ≡ report_of (marks cleared) (groups cleared) (left cleared buffer long) passes
    written_bytes =
        ap (take size) (written_report cleared buffer long answers)
        ∙ take_at (report_of (marks cleared) (groups cleared) (left cleared buffer long) passes) _ size written_size

    -- its lines, cut after each byte 10
    pub written_lines : lines_of (report cleared buffer long answers) ≡ report_lines (marks cleared) (groups cleared) (left cleared buffer long) passes
    written_lines = ap lines_of written_bytes ∙ report_cut (marks cleared) (groups cleared) (left cleared buffer long) passes

    -- the first has the passes
    pub written_first : get_elem? (lines_of (report cleared buffer long answers)) 0 ≡ some (settled_line passes)
    written_first = rw written_lines

    -- that of the group at index k, its number k + 1, stands behind the line of the passes, the unit lines and k group lines
    pub written_line : {group : Group} (k : ℕ) → get_elem? (groups cleared) k ≡ some group
        → get_elem? (lines_of (report cleared buffer long answers)) (suc (count cleared + k)) ≡ some (line_of (marks cleared) (suc k) (left cleared buffer long) group)
    written_line k stands =
        let promised = written_promised cleared buffer long answers in
        let fits = passed_room (marks cleared) (count cleared) lows highs scratch cleared.passes in
        let counted = promised.inside.same_lows ∙ length-take-le (count cleared) lows fits.for_lows in
        ap (λ (ls : List (List ℕ)). get_elem? ls (suc (count cleared + k))) written_lines
        ∙ ap (λ (n : ℕ). get_elem? (report_lines (marks cleared) (groups cleared) (left cleared buffer long) passes) (suc (n + k))) (sym counted)
        ∙ group_line_lem (marks cleared) (groups cleared) (left cleared buffer long) passes k (sym (ranges_length promised.at_rest.valid)) stands

-- two calls over one table
module _ {text other lows highs : List ℕ} {scratch room : ℕ} (first : Cleared text lows highs scratch) (second : Cleared other lows highs room)
    (buffer space : List ℕ) (long : most_bytes ≤ length buffer) (wide : most_bytes ≤ length space) where
  -- on jobs with as many units, the same of them shut, and with the same groups
  module _ (as_many : count first ≡ count second) (as_shut : marks first ≡ marks second)
      (as_grouped : (group : Group) → Memᴰ group (groups first) ↔ Memᴰ group (groups second)) where
    -- both leave the same lists
    same_lows : (outcome first buffer long).lows ≡ (outcome second space wide).lows
    same_lows =
        (same_table_lem first buffer long).0
        ∙ (called_same_groups first second as_many as_shut as_grouped).0
        ∙ sym (same_table_lem second space wide).0

    same_highs : (outcome first buffer long).highs ≡ (outcome second space wide).highs
    same_highs =
        (same_table_lem first buffer long).1
        ∙ (called_same_groups first second as_many as_shut as_grouped).1
        ∙ sym (same_table_lem second space wide).1

    -- so one settled table
    same_left : left first buffer long ≡ left second space wide
    same_left = rw (same_lows, same_highs, as_many)

    -- so the same lines
    same_lines : {size passes more others : ℕ} (answers : (outcome first buffer long).answer ≡ Ok (record { length = size; passes = passes }))
        (replies : (outcome second space wide).answer ≡ Ok (record { length = more; passes = others }))
        → SameLines (count first) (groups first) (groups second) (report first buffer long answers) (report second space wide replies)
    same_lines answers replies group j k stands too =
        let (past, is) = line_numbered (marks first) (left first buffer long) group in (
          past,
          written_line first buffer long answers j stands ∙ ap some (is (suc j)),
          ap (λ (n : ℕ). get_elem? (lines_of (report second space wide replies)) (suc (n + k))) as_many
              ∙ written_line second space wide replies k too
              ∙ ap some (ap (λ (ms : List ℕ). line_of ms (suc k) (left second space wide) group) (sym as_shut)
              ∙ ap (λ (table : Table). line_of (marks first) (suc k) table group) (sym same_left)
              ∙ is (suc k)),
        )

    -- the reports of both are the same so
    pub report_same_groups : SameReports first second buffer space long wide
    report_same_groups = agree (by_end first buffer long (ends first)) (by_end second space wide (ends second))
      where
        both : settling.WithoutPlan first ↔ settling.WithoutPlan second
        both = (called_same_groups first second as_many as_shut as_grouped).2

        agree : Reports first buffer long → Reports second space wide → SameReports first second buffer space long wide
        agree (Reports.written size passes answers) (Reports.written more others replies) =
            SameReports.written answers replies same_lows same_highs (same_lines answers replies)
        agree (Reports.written size passes answers) (Reports.refused number place others none is) =
            absurd (settled_not first (written_settled first buffer long answers) (both.1 (number, place, others, none)))
        agree (Reports.refused number place passes none is) (Reports.written more others replies) =
            absurd (settled_not second (written_settled second space wide replies) (both.0 (number, place, passes, none)))
        agree (Reports.refused number place passes none is) (Reports.refused other there others lacks too) =
            SameReports.refused (number, place, passes, rw is) (other, there, others, rw too)

-- 01, demand 3: from one opening table every order of the group lines gives the same table, and for each group the same line but for its
-- number, or every order is refused for want of a plan
pub report_any_order : {text other lows highs : List ℕ} {scratch : ℕ} (cleared : Cleared text lows highs scratch) (reordered : Reordered text other)
    (buffer space : List ℕ) (long : most_bytes ≤ length buffer) (wide : most_bytes ≤ length space)
    → SameReports cleared (reordered_cleared cleared reordered) buffer space long wide
report_any_order cleared reordered buffer space long wide =
    report_same_groups cleared (reordered_cleared cleared reordered) buffer space long wide
    (same_units cleared reordered)
    (same_shut cleared reordered)
    (same_groups cleared reordered)
