-- A report cut after each byte 10 gives its lines. Assumes nothing.
use Rattle.std.specs.Prelude.{ℕ, suc, false, ◌≡◌, refl}
use mathlib.Core.List.{List, [], ◌∷◌, ◌++◌, flatten, append_assoc, append-nil}
use Rattle.std.proofs.Common.{ap, ◌∙◌}
use Rattle.job.specs.Job.{contains}
use Rattle.job.specs.TextLines.{lines_of}
use Rattle.job.proofs.Laws.TextLines.{OneLine, lines_next, line_ahead, number_ahead}
use Rattle.model.specs.Groups.{Group}
use Rattle.model.specs.declared.Figures.{Figures}
use Rattle.text.specs.Numbers.{print_number}
use Rattle.text.specs.Words.{bytes}
use Rattle.print.specs.Items.{item, items, form, printed_line}
use Rattle.member_ranges.specs.Tables.{Table}
use Rattle.report.specs.Lines.{settled_line, unit_line, group_line}
use Rattle.report.specs.Places.{report_lines}
use Rattle.report.specs.Reports.{unit_lines, levelled_line, line_of, group_lines, report_of}

-- an item ahead of a line
item_ahead : (v : ℕ) {rest : List ℕ} → OneLine rest → OneLine (item v ++ rest)
unfolding item flatten contains
item_ahead v one = rw (append-nil (print_number v)) (line_ahead (bytes " ") refl (number_ahead v one))

-- items ahead of a line
items_ahead : (vs : List ℕ) {rest : List ℕ} → OneLine rest → OneLine (items vs ++ rest)
unfolding items flatten
items_ahead [] one = one
items_ahead (v ∷ vs) {rest} one = rw (append_assoc (item v) (items vs) rest) (item_ahead v (items_ahead vs one))

-- a form ahead of a line
form_ahead : (word vs : List ℕ) {rest : List ℕ} → contains 10 word ≡ false → OneLine rest → OneLine (form word vs ++ rest)
unfolding form flatten
form_ahead word vs {rest} none one =
    rw (append-nil (items vs), append_assoc word (items vs) rest) (line_ahead word none (items_ahead vs one))

-- a line ends with byte 10 and has no other
line_one : (word vs : List ℕ) → contains 10 word ≡ false → OneLine (printed_line word vs)
unfolding printed_line flatten contains
line_one word vs none = form_ahead word vs none (record { body = bytes ")"; ended = refl; inside = refl })

-- so does a group's
group_one : (number level : ℕ) (figures : Figures) (shares : List ℕ) → OneLine (group_line number level figures shares)
unfolding group_line flatten contains
group_one number level figures shares =
    form_ahead (bytes "(group") _ refl (form_ahead (bytes " (plan") shares refl (record { body = bytes "))"; ended = refl; inside = refl }))

-- the unit lines ahead of other bytes
cut_units : (number : ℕ) (lows highs rest : List ℕ)
    → lines_of (flatten (unit_lines number lows highs) ++ rest) ≡ unit_lines number lows highs ++ lines_of rest
unfolding unit_lines flatten contains
cut_units number [] highs rest = refl
cut_units number (l ∷ lows) [] rest = refl
cut_units number (l ∷ lows) (h ∷ highs) rest =
    rw (append_assoc (unit_line number l h) (flatten (unit_lines (suc number) lows highs)) rest)
    (lines_next (line_one (bytes "(unit") (number ∷ l ∷ h ∷ []) refl) _
    ∙ ap (λ (ls : List (List ℕ)). unit_line number l h ∷ ls) (cut_units (suc number) lows highs rest))

-- the group lines
cut_groups : (marks : List ℕ) (number : ℕ) (table : Table) (groups : List Group) → lines_of (flatten (group_lines marks number table groups)) ≡ group_lines marks number table groups
unfolding group_lines levelled_line flatten lines_of
cut_groups marks number table [] = refl
cut_groups marks number table (group ∷ groups) =
    lines_next (group_one number _ _ _) _ ∙ ap (λ (ls : List (List ℕ)). line_of marks number table group ∷ ls) (cut_groups marks (suc number) table groups)

-- the lines of a report
pub report_cut : (marks : List ℕ) (groups : List Group) (table : Table) (passes : ℕ) → lines_of (report_of marks groups table passes) ≡ report_lines marks groups table passes
unfolding report_of flatten contains
report_cut marks groups table passes =
    rw (append-nil (flatten (group_lines marks 1 table groups)))
    (lines_next (line_one (bytes "(settled") (passes ∷ []) refl) _
    ∙ ap (λ (ls : List (List ℕ)). settled_line passes ∷ ls)
    (cut_units 1 table.lows table.highs (flatten (group_lines marks 1 table groups))
    ∙ ap (λ (ls : List (List ℕ)). unit_lines 1 table.lows table.highs ++ ls) (cut_groups marks 1 table groups)))
