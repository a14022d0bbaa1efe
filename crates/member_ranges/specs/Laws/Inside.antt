-- Tables inside tables: an order, and the sum of widths falls with each change. Assumes nothing.
use Rattle.std.specs.Prelude.{ℕ, suc, ◌+◌, ◌-◌, ◌≤◌, ◌<◌, true, false, List, [], ◌∷◌, ◌≡◌, refl, eqb, length, get_or, drop}
use Rattle.std.proofs.Common.{true≢false, sym, ap, ◌∙◌, add-one, arith, eq-eqb, eqb-true, drop-cons, ext_get_or}
use Rattle.std.proofs.lemmas.Bool.{false≢true}
use Rattle.std.proofs.Math.Nat.{suc_inj}
use Rattle.model.specs.Known.{same_list}
use Rattle.model.proofs.Laws.Lists.{sum_le}
use Rattle.model.proofs.Laws.Tests.{both_left, both_right}
use Rattle.model.specs.Shares.{Ranges, sum}
use Rattle.member_ranges.specs.Tables.{Table, Valid, same_table, widths, width, Inside}

-- a table lies inside itself
pub inside_refl : (table : Table) → Inside table table
inside_refl table = record { same_lows = refl; same_highs = refl; above = λ unit. omega arith; below = λ unit. omega arith }

-- inside a table that lies inside a third
pub inside_trans : {a b c : Table} → Inside a b → Inside b c → Inside a c
inside_trans p q =
    record {
      same_lows = omega arith;
      same_highs = omega arith;
      above = λ unit. omega (arith, p.above unit, q.above unit);
      below = λ unit. omega (arith, p.below unit, q.below unit);
    }

-- tables with the same lows and the same highs are the same
pub same_ranges : {a b : Table} → a.lows ≡ b.lows → a.highs ≡ b.highs → a ≡ b
same_ranges {a} {b} p q =
    let table : List ℕ → List ℕ → Table = λ lows highs. record { lows = lows; highs = highs } in
    ap (λ (lows : List ℕ). table lows a.highs) p ∙ ap (table b.lows) q

-- two tables, each inside the other, are the same
pub inside_both : {a b : Table} → Inside a b → Inside b a → a ≡ b
inside_both {a} {b} p q =
    same_ranges
    (ext_get_or 0 a.lows b.lows p.same_lows (λ unit h. omega (arith, p.above unit, q.above unit)))
    (ext_get_or 0 a.highs b.highs p.same_highs (λ unit h. omega (arith, p.below unit, q.below unit)))

-- the test of two lists holds exactly if they are the same
same_list_lem : (xs ys : List ℕ) → same_list xs ys ≡ true → xs ≡ ys
unfolding same_list
same_list_lem [] [] e = refl
same_list_lem [] (y ∷ ys) e = absurd (false≢true e)
same_list_lem (x ∷ xs) [] e = absurd (false≢true e)
same_list_lem (x ∷ xs) (y ∷ ys) e =
    let first : x ≡ y = eqb-true x y (both_left _ _ e) in
    let others : xs ≡ ys = same_list_lem xs ys (both_right (eqb x y) _ e) in
    cc

list_same : (xs : List ℕ) → same_list xs xs ≡ true
unfolding same_list
list_same [] = refl
list_same (x ∷ xs) = rw (eq-eqb x x refl, list_same xs)

-- the test of two tables holds exactly if they are the same
pub same_table_lem : {a b : Table} → same_table a b ≡ true → a ≡ b
same_table_lem {a} {b} e =
    same_ranges
    (same_list_lem a.lows b.lows (both_left _ _ e))
    (same_list_lem a.highs b.highs (both_right (same_list a.lows b.lows) _ e))

pub table_same : (table : Table) → same_table table table ≡ true
table_same table = rw (list_same table.lows, list_same table.highs)

pub changed : {a b : Table} → same_table a b ≡ false → a ≡ b → ⊥
changed {a} {b} test same = true≢false (sym (table_same b) ∙ (rw same at test))

-- the sum of widths is the highs' sum less the lows'
pub widths_sums : {lows highs : List ℕ} → Ranges lows highs → widths lows highs + sum lows ≡ sum highs
unfolding widths sum
widths_sums Ranges.none = refl
widths_sums (Ranges.also p q r) = omega (arith, widths_sums r)

-- the sum of widths from unit i on is that unit's width and those after it
pub widths_walk : (lows highs : List ℕ) (i : ℕ) → i < length lows → i < length highs
    → widths (drop i lows) (drop i highs) ≡ (get_or highs i 0 - get_or lows i 0) + widths (drop (i + 1) lows) (drop (i + 1) highs)
unfolding widths
widths_walk lows highs i p q = rw (add-one, drop-cons lows i 0, drop-cons highs i 0)

-- entries each at most another list's, with no lower sum, are that list's
sum_same : (xs ys : List ℕ) → length xs ≡ length ys → ((i : ℕ) → get_or xs i 0 ≤ get_or ys i 0) → sum ys ≤ sum xs → xs ≡ ys
unfolding sum
sum_same [] [] sizes under least = refl
sum_same [] (y ∷ ys) sizes under least = absurd (omega arith)
sum_same (x ∷ xs) [] sizes under least = absurd (omega arith)
sum_same (x ∷ xs) (y ∷ ys) sizes under least =
    let fewer : sum xs ≤ sum ys = sum_le xs ys (suc_inj sizes) (λ i h. under (suc i)) in
    let first : x ≡ y = omega (arith, under 0) in
    let others : xs ≡ ys = sum_same xs ys (suc_inj sizes) (λ i. under (suc i)) (omega (arith, under 0)) in
    cc

-- a table inside another with no lower sum of widths is the same
pub widths_same : {inner outer : Table} → Valid inner → Valid outer
    → Inside inner outer → width outer ≤ width inner → inner ≡ outer
widths_same {inner} {outer} small large inside wide =
    let lows : sum outer.lows ≤ sum inner.lows = sum_le _ _ (sym inside.same_lows) (λ i h. inside.above i) in
    let highs : sum inner.highs ≤ sum outer.highs = sum_le _ _ inside.same_highs (λ i h. inside.below i) in
    let sums : (sum inner.lows ≤ sum outer.lows) × (sum outer.highs ≤ sum inner.highs) =
    omega (arith, widths_sums small, widths_sums large) in
    same_ranges
    (sym (sum_same outer.lows inner.lows (sym inside.same_lows) inside.above sums.0))
    (sum_same inner.highs outer.highs inside.same_highs inside.below sums.1)
