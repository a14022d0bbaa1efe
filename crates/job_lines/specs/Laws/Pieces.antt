-- The lines of a job's text in the pieces that are written. Assumes nothing.
use Rattle.std.specs.Prelude.{ℕ, suc, ◌≡◌, refl}
use mathlib.Core.List.{List, [], ◌∷◌, ◌++◌, map, flatten, append_assoc, append-nil}
use Rattle.std.proofs.Common.{sym, ap, eq-eqb, ne_eqb}
use Rattle.form.specs.Form.{unit_ending, group_opening, deviation_opening, spread_opening, members_opening, group_ending}
use Rattle.form.specs.Form.{Heading, print_limit, print_pairs, print_members, print_unit}
use Rattle.job.specs.Job.{Job}
use Rattle.model.specs.Groups.{Group}
use Rattle.print.specs.Items.{item, items, form, printed_line}
use Rattle.text.specs.Numbers.{print_number}
use Rattle.text.specs.Words.{bytes}
use Rattle.job_lines.specs.Inner.Pieces.{group_head}
use Rattle.job_lines.specs.Texts.{range_line, range_lines, heading_of, member_line, job_text}

-- a number after a space
item_is : (v : ℕ) → item v ≡ 32 ∷ print_number v
unfolding item flatten
item_is v = rw (append-nil (print_number v))

-- the numbers of a line are items
members_items : (ms : List ℕ) → print_members ms ≡ items ms
unfolding print_members items flatten
members_items [] = refl
members_items (m ∷ ms) = rw (item_is m, members_items ms)

-- a unit line is a line of two items
unit_printed : (low high : ℕ) → printed_line (bytes "(unit") (low ∷ high ∷ []) ≡ print_unit low high
unfolding printed_line form items flatten
unit_printed low high =
    rw (item_is low, item_is high, append-nil (print_number high), append-nil (print_number low ++ 32 ∷ print_number high))
    (ap (λ (rest : List ℕ). bytes "(unit " ++ rest) (append_assoc (print_number low) (32 ∷ print_number high) unit_ending))

-- the line of a unit that runs is such a line
pub line_runs : (mark low high : ℕ) → mark ≡ 0 → range_line mark low high ≡ printed_line (bytes "(unit") (low ∷ high ∷ [])
line_runs mark low high runs = rw (eq-eqb mark 0 runs) (sym (unit_printed low high))

-- that of a shut unit is one word
pub line_shut : (mark low high : ℕ) → (mark ≡ 0 → ⊥) → range_line mark low high ≡ bytes "(shut)\n"
line_shut mark low high off = rw (ne_eqb mark 0 off)

-- what stands in front of a group's members
head_is : (h : Heading) → group_head h
    ≡ group_opening
    ++ (print_number h.total
    ++ (deviation_opening
    ++ (print_limit h.deviation ++ (spread_opening ++ (print_limit h.spread ++ (print_pairs h.pairs ++ members_opening))))))
unfolding group_head form items flatten
head_is h = rw (item_is h.total, append-nil (print_number h.total), append-nil (print_number h.total))

-- the members behind it
behind_head : (a d s p rest : List ℕ)
    → (a ++ (deviation_opening ++ (d ++ (spread_opening ++ (s ++ (p ++ members_opening)))))) ++ rest
    ≡ a ++ (deviation_opening ++ (d ++ (spread_opening ++ (s ++ (p ++ (members_opening ++ rest))))))
behind_head a d s p rest = simp append_assoc

-- a group's line is its head, its members' numbers and its end
pub group_printed : (g : Group)
    → flatten (group_head (heading_of g.total g.limits g.pairs_there) ∷ items (map suc g.members) ∷ group_ending ∷ []) ≡ member_line g
unfolding member_line flatten
group_printed g =
    let h : Heading = heading_of g.total g.limits g.pairs_there in
    rw (head_is h, members_items (map suc g.members))
    (ap (λ (r : List ℕ). group_opening ++ r)
    (behind_head (print_number h.total) (print_limit h.deviation) (print_limit h.spread) (print_pairs h.pairs) (items (map suc g.members) ++ group_ending)))

-- lines one after another
pub joined_both : (xs ys : List (List ℕ)) → flatten (xs ++ ys) ≡ flatten xs ++ flatten ys
unfolding flatten
joined_both [] ys = refl
joined_both (x ∷ xs) ys = rw (joined_both xs ys) (sym (append_assoc x (flatten xs) (flatten ys)))

-- a job's text is its unit lines and then its group lines
pub text_printed : (job : Job) → flatten (flatten (range_lines job.marks job.lows job.highs) ∷ flatten (map member_line job.groups) ∷ []) ≡ job_text job
unfolding job_text flatten
text_printed job =
    rw (append-nil (flatten (map member_line job.groups))) (sym (joined_both (range_lines job.marks job.lows job.highs) (map member_line job.groups)))
