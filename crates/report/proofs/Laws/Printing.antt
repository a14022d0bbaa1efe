-- Printing the lines of a flat list's groups, one after another. Assumes nothing.
use Rattle.model.specs.declared.Refusal.{Refusal}
use Prim.Native.Nat.{ℕ, suc, ◌+◌, ◌≤◌, ◌<◌}
use mathlib.Core.List.Memᴰ
use mathlib.Core.List.{List, [], ◌∷◌, flatten}
use Rattle.std.specs.Prelude.{Result, Ok, ◌≡◌, refl, take, drop}
use Rattle.std.proofs.Common.{sym, ◌∙◌, add-one, arith, length-drop, take_at, length-take-le}
use Rattle.std.proofs.Math.Path.{subst}
use borrow.Author.Tests.{le-leb}
use Rattle.std.proofs.Math.ListN.{length}
use Rattle.model.proofs.Laws.Sound.{levelled_length}
use Rattle.levelling.specs.Levelling.{levelled_to, plan_after}
use Rattle.model.specs.Shares.{most_units}
use Rattle.levelling.specs.declared.Levelled.{Levelled}
use Rattle.groups.specs.Inner.Flat.{marks_from, marks_in, stored_at, group_in, groups_in}
use Rattle.groups.specs.Laws.Walk.{Walk, Next, walk_start, walk_end, walk_next}
use Rattle.groups.specs.declared.Stored.{Stored}
use Rattle.model.specs.Groups.{Group}
use Rattle.model.specs.Levels.{level, levelled}
use Rattle.model.specs.Running.{marked_figures}
use Rattle.works.specs.Resting.{marks_of}
use Rattle.print.specs.Laws.Written.{Rest, begin, next, done}
use Rattle.print.specs.Inner.Written.{Wrote, Room}
use Rattle.member_ranges.specs.Laws.Members.{gather_length}
use Rattle.groups.specs.Memberships.{size}
use Rattle.member_ranges.specs.Tables.{Table, lows_of, highs_of}
use Rattle.report.specs.Reportable.{Levelable, AllLevelable}
use Rattle.report.specs.Inner.Asked.{marks_for, Printable, LevelledIn, line_of_levelling}
use Rattle.report.specs.Reports.{levelled_line, line_of, group_lines}

-- a flat list that holds so many marks has as many
pub marks_counted : (count : ℕ) (flat : List ℕ) → marks_from + count ≤ length flat → length (marks_in count flat) ≡ count
marks_counted count flat fits = length-take-le count (drop marks_from flat) (rw length-drop (omega arith))

module _ {marks : List ℕ} {table : Table} {group : Group} (levelable : Levelable marks table group) where
  -- a group that can be levelled has at most 256 members
  pub count_few : size group ≤ most_units
  count_few = omega (arith, gather_length table.lows group.members, levelable.shares.sound.few)

  -- levelling it answers with the level, the figures and the levelled shares
  pub levelled_in : {answer : Result Levelled Refusal} (plan : List ℕ) {exit : List ℕ} → answer ≡ levelled_to (lows_of table group) (highs_of table group) (marks_of marks group) group.total
      → exit ≡ plan_after answer (levelled (lows_of table group) (highs_of table group) group.total) plan
      → LevelledIn marks table group answer exit
  unfolding levelled_to
  levelled_in {answer} plan answers leaves =
      let lows : List ℕ = lows_of table group in
      let highs : List ℕ = highs_of table group in
      let all : List ℕ = levelled lows highs group.total in
      let is : answer ≡ Ok (record { level = record { copies = level lows highs group.total }; figures = marked_figures (marks_of marks group) group.total all }) =
      answers ∙ rw (le-leb _ _ levelable.shares.low, le-leb _ _ levelable.shares.high) in
      let as_many : length all ≡ size group = levelled_length levelable.shares.sound group.total ∙ gather_length table.lows group.members in
      record { answers = is; holds = rw (leaves, is) (take_at all (drop (length all) plan) (size group) as_many) }

-- its line is the one defined
pub levelled_line_lem : {marks : List ℕ} {table : Table} {group : Group} {count : ℕ} {answer : Result Levelled Refusal} {plan : List ℕ} (number : ℕ) → size group ≡ count
    → LevelledIn marks table group answer plan → line_of_levelling number answer (take count plan) ≡ line_of marks number table group
unfolding levelled_line
levelled_line_lem number counted levelled = rw (← counted, levelled.answers, levelled.holds)

module _ (flat : List ℕ) (count : ℕ) (table : Table) (entry : List ℕ) (start : ℕ) where
  abbrev marks : List ℕ
  marks = marks_for flat table

  abbrev groups : List Group
  groups = groups_in count flat

  abbrev all : List ℕ
  all = flatten (group_lines marks 1 table groups)

  -- the lines up to a number are written, the group after them starts at the number from: the lines that are left
  pub record Printing (buffer : List ℕ) (at from number : ℕ) : Type 0 where
    pub walk : Walk flat count from number
    pub levelable : AllLevelable marks table (drop number groups)
    pub rest : Rest all entry start (group_lines marks (suc number) table (drop number groups)) buffer at

  -- at first all lines are left
  pub printing_start : Printable flat count table → Room entry start all → Printing entry start 0 0
  printing_start printable room = record {
    walk = walk_start flat count printable.holds;
    levelable = printable.levelable;
    rest = begin _ refl room;
  }

  -- at last none
  pub printing_end : {buffer : List ℕ} {at from number : ℕ} → Printing buffer at from number → count ≤ number
      → Wrote all entry start buffer at
  unfolding group_lines flatten
  printing_end {number = number} printing end =
      let none : flatten (group_lines marks (suc number) table (drop number groups)) ≡ [] = rw (walk_end flat count printing.walk end) in
      done none printing.rest

  -- a group's line comes
  module _ {buffer : List ℕ} {at from number : ℕ} (printing : Printing buffer at from number) (some : number < count)
      {stored : Stored} (read : stored ≡ stored_at flat from) where
    abbrev group : Group
    group = group_in flat stored

    pub coming : Next flat count number stored
    coming = walk_next flat count printing.walk some read

    -- it and those after it can be levelled
    levelable_next : AllLevelable marks table (group ∷ drop (number + 1) groups)
    levelable_next = rw coming.first at printing.levelable

    pub next_levelable : Levelable marks table group
    next_levelable = levelable_next group (Memᴰ.head refl)

    -- it is the first of the lines left
    pub next_rest : Rest all entry start (line_of marks (number + 1) table group ∷ group_lines marks (suc (number + 1)) table (drop (number + 1) groups)) buffer at
    unfolding group_lines
    next_rest =
        let left : Rest all entry start (line_of marks (suc number) table group ∷ group_lines marks (suc (suc number)) table (drop (number + 1) groups)) buffer at =
        rw (coming.first, group_lines) at printing.rest in
        subst (λ (n : ℕ). Rest all entry start (line_of marks n table group ∷ group_lines marks (suc n) table (drop (number + 1) groups)) buffer at)
        (sym (add-one number)) left

    -- once it is written, those after it are left
    pub next_printing : {exit : List ℕ} {to : ℕ} → Wrote (line_of marks (number + 1) table group) buffer at exit to
        → Printing exit to stored.next (number + 1)
    next_printing wrote = record {
      walk = coming.onward;
      levelable = λ other member. levelable_next other (Memᴰ.tail member);
      rest = next next_rest wrote;
    }
