-- The rows of a breakpoint table in a list of numbers. Assumes nothing.
use Rattle.std.specs.Prelude.{ℕ, zero, suc, ◌+◌, ◌*◌, ◌%◌, ◌≤◌, ◌<◌, List, [], ◌∷◌, ◌≢◌, ◌≡◌, refl, length, get_or, set}
use Rattle.std.proofs.Common.{◌∙◌, le_of_suc-le-suc, mod-lt, arith, length-set, get_or-set_same, get_or-set_other}
use Rattle.std.proofs.Math.Nat.{div-add-mod}
use Rattle.std.proofs.lemmas.List.Edits.{sets}
use Rattle.std.proofs.Math.Seq.{length-sets}
use Rattle.breakpoints.specs.declared.rows.Row.{Row}
use Rattle.breakpoints.specs.declared.rows.PairRow.{PairRow}
use Rattle.breakpoints.specs.Inner.Rows.{row_at, pair_row_at, last_row, RowWritten, PairRowWritten}

-- a table with room for just so many rows after the first
pub last_row_lem : (table : List ℕ) (last : ℕ) → length table ≡ 7 * last + 7 → last_row table ≡ last
unfolding last_row
last_row_lem table last size =
    let below : length table % 7 < 7 = mod-lt (length table) (omega arith) in
    omega (arith, div-add-mod (length table) 7)

-- numbers written from p on leave those at other places
sets_other : (vs xs : List ℕ) (p q : ℕ) → ((i : ℕ) → i < length vs → q ≢ p + i) → get_or (sets xs p vs) q 0 ≡ get_or xs q 0
sets_other [] xs p q other = refl
sets_other (v ∷ vs) xs p q other =
    sets_other vs (set xs p v) (suc p) q (λ i h e. other (suc i) (omega arith) (omega arith))
    ∙ get_or-set_other xs p q v 0 (λ e. other 0 (omega arith) (omega arith))

-- and are read where they were written
sets_at : (vs xs : List ℕ) (p i : ℕ) → i < length vs → p + length vs ≤ length xs → get_or (sets xs p vs) (p + i) 0 ≡ get_or vs i 0
sets_at [] xs p i h room = absurd (omega arith)
sets_at (v ∷ vs) xs p zero h room =
    let here : p + 0 ≡ p = omega arith in
    let inside : p < length xs = omega arith in
    rw here (sets_other vs (set xs p v) (suc p) p (λ j h e. omega arith) ∙ get_or-set_same xs p v 0 inside)
sets_at (v ∷ vs) xs p (suc i) h room =
    let next : p + suc i ≡ suc p + i = omega arith in
    rw next (sets_at vs (set xs p v) (suc p) i (le_of_suc-le-suc h) (rw length-set (omega arith)))

-- the numbers of a row, in order
abbrev pub numbers : Row → List ℕ
numbers row = row.mark ∷ row.total ∷ row.squares ∷ row.lows ∷ row.highs ∷ []

-- rows with the same numbers are the same
same_row : (a b : Row) → a.mark ≡ b.mark → a.total ≡ b.total → a.squares ≡ b.squares
    → a.lows ≡ b.lows → a.highs ≡ b.highs → a ≡ b
same_row a b m t s l h = λ i. record { mark = m i; total = t i; squares = s i; lows = l i; highs = h i }

same_pair_row : (a b : PairRow) → a.far ≡ b.far → a.pairs ≡ b.pairs → a ≡ b
same_pair_row a b f p = λ i. record { far = f i; pairs = p i }

-- a row's numbers written from its place on
pub row_written : (k : ℕ) (row : Row) (table : List ℕ) → 7 * k + 7 ≤ length table → RowWritten k row table (sets table (7 * k) (numbers row))
unfolding row_at
row_written k row table room =
    let first : (j : ℕ) → 7 * j + 0 ≡ 7 * j = (λ j. omega arith) in
    let after : List ℕ = sets table (7 * k) (numbers row) in
    let at : (i : ℕ) → i < 5 → get_or after (7 * k + i) 0 ≡ get_or (numbers row) i 0 =
    (λ i h. sets_at (numbers row) table (7 * k) i h (omega arith)) in
    record {
      same = length-sets table (7 * k) (numbers row);
      here = same_row _ _ (rw first at (at 0 (omega arith))) (at 1 (omega arith)) (at 2 (omega arith)) (at 3 (omega arith)) (at 4 (omega arith));
      others = λ j not.
          let kept : (i : ℕ) → i < 5 → get_or after (7 * j + i) 0 ≡ get_or table (7 * j + i) 0 =
          (λ i h. sets_other (numbers row) table (7 * k) (7 * j + i) (λ p q e. not (omega arith))) in
          same_row _ _ (rw first at (kept 0 (omega arith))) (kept 1 (omega arith)) (kept 2 (omega arith)) (kept 3 (omega arith)) (kept 4 (omega arith));
    }

-- the two numbers behind them written
pub pair_row_written : (k : ℕ) (row : PairRow) (table : List ℕ) → 7 * k + 7 ≤ length table
    → PairRowWritten k row table (sets table (7 * k + 5) (row.far ∷ row.pairs ∷ []))
unfolding row_at pair_row_at
pair_row_written k row table room =
    let after : List ℕ = sets table (7 * k + 5) (row.far ∷ row.pairs ∷ []) in
    let kept : (q : ℕ) → ((i : ℕ) → i < 2 → q ≢ 7 * k + 5 + i) → get_or after q 0 ≡ get_or table q 0 =
    (λ q other. sets_other (row.far ∷ row.pairs ∷ []) table (7 * k + 5) q other) in
    let at : (i : ℕ) → i < 2 → get_or after (7 * k + 5 + i) 0 ≡ get_or (row.far ∷ row.pairs ∷ []) i 0 =
    (λ i h. sets_at (row.far ∷ row.pairs ∷ []) table (7 * k + 5) i h (omega arith)) in
    let first : 7 * k + 5 + 0 ≡ 7 * k + 5 = omega arith in
    let second : 7 * k + 5 + 1 ≡ 7 * k + 6 = omega arith in
    record {
      same = length-sets table (7 * k + 5) (row.far ∷ row.pairs ∷ []);
      rows = λ j. same_row _ _ (kept _ (λ i h e. omega arith)) (kept _ (λ i h e. omega arith)) (kept _ (λ i h e. omega arith)) (kept _ (λ i h e. omega arith)) (kept _ (λ i h e. omega arith));
      here = same_pair_row _ _ (rw first at (at 0 (omega arith))) (rw second at (at 1 (omega arith)));
      others = λ j not. same_pair_row _ _ (kept _ (λ i h e. not (omega arith))) (kept _ (λ i h e. not (omega arith)));
    }
