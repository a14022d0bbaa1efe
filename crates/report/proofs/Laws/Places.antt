-- Where the lines of a report stand, and what of a group's line depends on the group's place. Assumes nothing.
use Rattle.std.specs.Prelude.{ℕ, zero, suc, ◌+◌, ◌≡◌, refl, length}
use mathlib.Core.List.{List, [], ◌∷◌, ◌++◌, map, flatten, append_assoc, append-nil}
use Rattle.std.proofs.Math.Option.{some}
use Rattle.std.proofs.Common.{sym, ap, ◌∙◌, zero-add, suc-add, add-zero, add-suc, arith}
use Rattle.std.proofs.Math.Nat.{suc_inj}
use Rattle.std.proofs.Math.ListN.{get_elem?}
use Rattle.model.specs.Groups.{Group}
use Rattle.model.specs.declared.Figures.{Figures}
use Rattle.text.specs.Words.{bytes}
use Rattle.print.specs.Items.{item, items, form}
use Rattle.member_ranges.specs.Tables.{Table, units}
use Rattle.report.specs.Lines.{group_line}
use Rattle.report.specs.Reports.{unit_lines, levelled_line, line_of, group_lines}
use Rattle.report.specs.Places.{report_lines, numbered}

-- a form's first item stands behind its word
first_item : (word : List ℕ) (v : ℕ) (vs : List ℕ) → form word (v ∷ vs) ≡ word ++ (item v ++ items vs)
unfolding form items flatten
first_item word v vs = rw (append-nil (item v ++ flatten (map item vs)))

-- a group's line is its number and what follows, which is the same with every number
line_past : (level : ℕ) (figures : Figures) (shares : List ℕ)
    → (past : List ℕ) × ((number : ℕ) → group_line number level figures shares ≡ numbered number past)
unfolding group_line flatten
line_past level figures shares = (
  flatten (items (level ∷ figures.deviation.0 ∷ figures.spread.0 ∷ figures.pairs.0 ∷ []) ∷ form (bytes " (plan") shares ∷ bytes "))\n" ∷ []),
  λ number. rw first_item (ap (λ (xs : List ℕ). bytes "(group" ++ xs) (append_assoc (item number) _ _)),
)

-- so is its line in a table
pub line_numbered : (marks : List ℕ) (table : Table) (group : Group) → (past : List ℕ) × ((number : ℕ) → line_of marks number table group ≡ numbered number past)
unfolding levelled_line
line_numbered marks table group = line_past _ _ _

-- what stands behind other lines
behind : (xs ys : List (List ℕ)) (k : ℕ) → get_elem? (xs ++ ys) (length xs + k) ≡ get_elem? ys k
behind [] ys k = rw (zero-add k)
behind (x ∷ xs) ys k = rw (suc-add (length xs) k) (behind xs ys k)

-- each group has the line at its own index, the first with the given number
line_at : (marks : List ℕ) (number : ℕ) (table : Table) (groups : List Group) {group : Group} (k : ℕ) → get_elem? groups k ≡ some group
    → get_elem? (group_lines marks number table groups) k ≡ some (line_of marks (number + k) table group)
unfolding group_lines
line_at marks number table [] k stands = absurd (let z : ◌≡◌ {A = ℕ} 0 1 = cc in omega arith)
line_at marks number table (first ∷ groups) {group} zero stands = let same : first ≡ group = cc in rw (same, add-zero number)
line_at marks number table (first ∷ groups) (suc k) stands = rw (add-suc number k, ← (suc-add number k)) (line_at marks (suc number) table groups k stands)

-- there are as many unit lines as units
unit_count : (number : ℕ) (lows highs : List ℕ) → length lows ≡ length highs → length (unit_lines number lows highs) ≡ length lows
unfolding unit_lines
unit_count number [] highs same = refl
unit_count number (l ∷ lows) [] same = absurd (omega arith)
unit_count number (l ∷ lows) (h ∷ highs) same = ap suc (unit_count (suc number) lows highs (suc_inj same))

-- on a report the line of the group at index k, its number k + 1, stands behind the line of the passes, the unit lines and k group lines
pub group_line_lem : (marks : List ℕ) (groups : List Group) (table : Table) (passes : ℕ) {group : Group} (k : ℕ) → length table.lows ≡ length table.highs
    → get_elem? groups k ≡ some group
    → get_elem? (report_lines marks groups table passes) (suc (units table + k)) ≡ some (line_of marks (suc k) table group)
group_line_lem marks groups table passes {group} k paired stands =
    let lines : List (List ℕ) = unit_lines 1 table.lows table.highs in
    let place : length lines + k ≡ units table + k = omega (arith, unit_count 1 table.lows table.highs paired) in
    ap (get_elem? (lines ++ group_lines marks 1 table groups)) (sym place)
    ∙ behind lines (group_lines marks 1 table groups) k
    ∙ line_at marks 1 table groups k stands
    ∙ ap (λ (number : ℕ). some (line_of marks number table group)) (omega arith)
