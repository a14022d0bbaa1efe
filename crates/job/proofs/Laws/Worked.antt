-- The worked job of 01, read by computing. Assumes nothing.
use Rattle.std.specs.Prelude.{ℕ, false, ◌≡◌, refl}
use mathlib.Core.List.Permᴰ
use mathlib.Core.List.{List, [], ◌∷◌, ◌++◌, flatten as joined, Memᴰ}
use Rattle.model.specs.declared.Limit.TheVariants.{Any, AtMost}
use Rattle.text.specs.Parsed.{parsed, and_then, mapped, or_else, word}
use Rattle.text.specs.Words.{bytes}
use Rattle.text.specs.Numbers.{number, number_after, digits, digits_of, print_number}
use Rattle.form.specs.Form.{range, unsaid, said, Line, unit, group, print_limit, print_pairs, print_members, print_line}
use Rattle.form.specs.Form.{number_as, limit_as, pairs_as, range_as, unit_as, members_as, head_as, grouped, group_as, line_as, line}
use Rattle.groups.specs.Memberships.{memberships}
use Rattle.groups.specs.Inner.Flat.{flatten}
use Rattle.job.specs.Job.{Job, contains, distinct, unit_verdict, head_verdict, members_verdict, verdict, add, step_on, accepted, onward}
use Rattle.form.specs.Named.{all_named}
use Rattle.job.specs.Job.{read_lines, some_unit, read_job}
use Rattle.job.specs.Orders.{OfGroup, Reordered}
use Rattle.job.specs.TextLines.{ahead, lines_of}

-- the lines of the job text in 01
unfoldable pub worked_lines : List Line
worked_lines =
    unit (range 0 10)
    ∷ unit (range 0 10)
    ∷ unit (range 0 10)
    ∷ group (record { heading = record { total = 10; deviation = AtMost 4; spread = Any; pairs = unsaid }; first = 1; others = 2 ∷ [] })
    ∷ group (record { heading = record { total = 8; deviation = Any; spread = AtMost 4; pairs = unsaid }; first = 2; others = 3 ∷ [] })
    ∷ []

unfoldable pub print_lines : List Line → List ℕ
print_lines [] = []
print_lines (l ∷ ls) = print_line l ++ print_lines ls

-- the job that they are
unfoldable pub worked_job : Job
worked_job =
    record {
      lows = 0 ∷ 0 ∷ 0 ∷ [];
      highs = 10 ∷ 10 ∷ 10 ∷ [];
      marks = 0 ∷ 0 ∷ 0 ∷ [];
      groups =
          record { total = 10; limits = record { deviation = AtMost 4; spread = Any; pairs = Any }; pairs_there = false; members = 0 ∷ 1 ∷ [] }
          ∷ record { total = 8; limits = record { deviation = Any; spread = AtMost 4; pairs = Any }; pairs_there = false; members = 1 ∷ 2 ∷ [] }
          ∷ [];
    }

-- it reads so
pub worked_reads : read_job (print_lines worked_lines) ≡ accepted worked_job
unfolding worked_lines print_lines worked_job print_line print_limit print_pairs print_members print_number digits_of read_job
    read_lines onward some_unit step_on verdict unit_verdict head_verdict members_verdict all_named contains distinct memberships add
    line line_as unit_as range_as group_as head_as limit_as pairs_as number_as members_as
    grouped number_after number digits and_then mapped or_else word
worked_reads = refl

-- and its groups are these numbers
pub worked_flat : flatten worked_job.groups ≡ 10 ∷ 5 ∷ 0 ∷ 0 ∷ 2 ∷ 0 ∷ 1 ∷ 8 ∷ 0 ∷ 5 ∷ 0 ∷ 2 ∷ 1 ∷ 2 ∷ []
unfolding worked_job flatten
worked_flat = refl

-- its unit lines as they stand in 01
abbrev unit_texts : List (List ℕ)
unit_texts = (bytes "(unit 0 10)" ++ 10 ∷ []) ∷ (bytes "(unit 0 10)" ++ 10 ∷ []) ∷ (bytes "(unit 0 10)" ++ 10 ∷ []) ∷ []

-- its first group line
abbrev first_text : List ℕ
first_text = bytes "(group 10 (dev 4) (spread any) (of 1 2))" ++ 10 ∷ []

-- and its second
abbrev second_text : List ℕ
second_text = bytes "(group 8 (dev any) (spread 4) (of 2 3))" ++ 10 ∷ []

-- they are its text
pub worked_text : print_lines worked_lines ≡ joined (unit_texts ++ first_text ∷ second_text ∷ [])
unfolding worked_lines print_lines print_line print_limit print_pairs print_members print_number digits_of joined
worked_text = refl

-- both begin as group lines
begins : (line : List ℕ) → Memᴰ line (first_text ∷ second_text ∷ []) → OfGroup line
begins line (Memᴰ.head is) = (_, is)
begins line (Memᴰ.tail (Memᴰ.head is)) = (_, is)
begins line (Memᴰ.tail (Memᴰ.tail m)) = elim m [ ]

-- with its group lines in the other order it is such a reordered text
pub worked_reordered : Reordered (joined (unit_texts ++ first_text ∷ second_text ∷ [])) (joined (unit_texts ++ second_text ∷ first_text ∷ []))
unfolding lines_of ahead joined
worked_reordered = record {
  front = unit_texts;
  groups = first_text ∷ second_text ∷ [];
  others = second_text ∷ first_text ∷ [];
  text_cut = refl;
  other_is = refl;
  of_groups = begins;
  rearranged = Permᴰ.swap refl refl;
}

-- 02: a group line with a pairs limit
unfoldable pub pairs_line : Line
pairs_line =
    group (record { heading = record { total = 10; deviation = AtMost 4; spread = Any; pairs = said (AtMost 2) }; first = 1; others = 2 ∷ [] })

-- is written so
pub pairs_written_lem : print_line pairs_line ≡ bytes "(group 10 (dev 4) (spread any) (pairs 2) (of 1 2))" ++ 10 ∷ []
unfolding pairs_line print_line print_limit print_pairs print_members print_number digits_of
pairs_written_lem = refl

-- and `(pairs any)` counts as there
pub any_pairs_there : (s : List ℕ) → pairs_as (λ v. v) (bytes ") (pairs any) (of 1 2))" ++ s) ≡ parsed (said Any) (bytes ") (of 1 2))" ++ s)
unfolding pairs_as limit_as and_then mapped or_else word
any_pairs_there s = refl
