-- An accepted text is whole, and its group lines may stand in every order. Assumes nothing.
use Rattle.std.specs.Prelude.{ℕ, ◌≤◌, ◌≡◌, refl, length}
use mathlib.Core.List.{List, [], ◌∷◌, ◌++◌, append_assoc, append-nil, map, flatten as joined, Memᴰ, Permᴰ}
use Rattle.std.proofs.Common.{sym, ◌∙◌, arith, length-append}
use Rattle.job.specs.Accepting.{Takes}
use Rattle.job.proofs.Laws.Accepting.{accepted_takes}
use Rattle.form.specs.Form.{line_low, line_high, line_mark, GroupLine, unit, group, print_line}
use Rattle.job.specs.Job.{Job, group_of, verdict, add, accepted, no_lines, read_job}
use Rattle.job.specs.Orders.{OfGroup, Reordered}
use Rattle.job.specs.TextLines.{lines_of}
use Rattle.job.proofs.Laws.Verdicts.{unit_good}
use Rattle.job.specs.Whole.{unit_bytes, group_bytes, Whole}

-- a line ahead of lines
line_first : {a b : List ℕ} {xs ys : List (List ℕ)} → a ≡ b → xs ≡ ys → a ∷ xs ≡ b ∷ ys
line_first p q = rw (p, q)

-- after a group line only group lines are taken
groups_whole : {job final : Job} {lines : List (List ℕ)} → 1 ≤ length job.groups → Takes job lines final
    → (groups : List GroupLine) × (lines ≡ map group_bytes groups)
    × (final.lows ≡ job.lows) × (final.highs ≡ job.highs) × (final.marks ≡ job.marks)
    × (final.groups ≡ job.groups ++ map group_of groups)
unfolding verdict add
groups_whole {job} some (Takes.none is) = ([], refl, rw is, rw is, rw is, rw is (sym (append-nil _)))
groups_whole some (Takes.also (unit u) is good rest) = absurd (omega (arith, (unit_good _ _ u good).no_group))
groups_whole {job} some (Takes.also (group g) is good rest) =
    let (groups, lines, lows, highs, marks, found) = groups_whole (omega (arith, length-append job.groups (group_of g ∷ []))) rest in
    (g ∷ groups, line_first is lines, lows, highs, marks, found ∙ append_assoc job.groups (group_of g ∷ []) (map group_of groups))

-- lines that are taken are unit lines and then group lines
takes_whole : {job final : Job} {lines : List (List ℕ)} → Takes job lines final → Whole job lines final
unfolding add
takes_whole {job} (Takes.none is) = record {
  units = [];
  groups = [];
  lines_are = refl;
  lows_are = rw is (sym (append-nil _));
  highs_are = rw is (sym (append-nil _));
  marks_are = rw is (sym (append-nil _));
  groups_are = rw is (sym (append-nil _));
}
takes_whole {job} (Takes.also (unit u) is good rest) =
    let whole = takes_whole rest in
    record {
      units = u ∷ whole.units;
      groups = whole.groups;
      lines_are = line_first is whole.lines_are;
      lows_are = whole.lows_are ∙ append_assoc job.lows (line_low u ∷ []) (map line_low whole.units);
      highs_are = whole.highs_are ∙ append_assoc job.highs (line_high u ∷ []) (map line_high whole.units);
      marks_are = whole.marks_are ∙ append_assoc job.marks (line_mark u ∷ []) (map line_mark whole.units);
      groups_are = whole.groups_are;
    }
takes_whole {job} (Takes.also (group g) is good rest) =
    let (groups, lines, lows, highs, marks, found) = groups_whole (omega (arith, length-append job.groups (group_of g ∷ []))) rest in
    record {
      units = [];
      groups = g ∷ groups;
      lines_are = line_first is lines;
      lows_are = lows ∙ sym (append-nil _);
      highs_are = highs ∙ sym (append-nil _);
      marks_are = marks ∙ sym (append-nil _);
      groups_are = found ∙ append_assoc job.groups (group_of g ∷ []) (map group_of groups);
    }

-- an accepted text is its unit lines and then its group lines, and the job is what they hold, in that order
pub accepted_whole : (text : List ℕ) {found : Job} → read_job text ≡ accepted found → Whole no_lines (lines_of text) found
accepted_whole text {found} reads = takes_whole (accepted_takes text found reads).takes

-- its group lines begin as such
begins : (groups : List GroupLine) (bytes : List ℕ) → Memᴰ bytes (map group_bytes groups) → OfGroup bytes
unfolding print_line
begins [] bytes m = elim m [ ]
begins (g ∷ groups) bytes (Memᴰ.head e) = (_, e)
begins (g ∷ groups) bytes (Memᴰ.tail m) = begins groups bytes m

-- a text with its group lines in any other order is such a reordered one
pub every_order : {text : List ℕ} {found : Job} (whole : Whole no_lines (lines_of text) found) (others : List (List ℕ))
    → Permᴰ (map group_bytes whole.groups) others → Reordered text (joined (map unit_bytes whole.units ++ others))
every_order whole others rearranged = record {
  front = map unit_bytes whole.units;
  groups = map group_bytes whole.groups;
  others = others;
  text_cut = whole.lines_are;
  other_is = refl;
  of_groups = begins whole.groups;
  rearranged = rearranged;
}
