-- A text with its group lines in another order. Assumes nothing.
use Rattle.std.specs.Prelude.{ℕ, ◌≡◌}
use mathlib.Core.List.{List, ◌++◌, flatten as joined, Memᴰ, Permᴰ}
use Rattle.form.specs.Form.{group_opening}
use Rattle.job.specs.TextLines.{lines_of}

-- a group line, told by its first bytes
abbrev pub OfGroup : List ℕ → Type 0
OfGroup bytes = (rest : List ℕ) × (bytes ≡ group_opening ++ rest)

-- two texts: the same lines in front, then group lines, which the second has in another order
pub record Reordered (text other : List ℕ) : Type 0 where
  pub front : List (List ℕ)
  pub groups : List (List ℕ)
  pub others : List (List ℕ)
  pub text_cut : lines_of text ≡ front ++ groups
  pub other_is : other ≡ joined (front ++ others)
  pub of_groups : (bytes : List ℕ) → Memᴰ bytes groups → OfGroup bytes
  pub rearranged : Permᴰ groups others
