-- From one breakpoint to the next no bound lies, so that every sum over shares moves evenly with the level. Assumes nothing.
use Rattle.std.specs.Prelude.{ℕ, zero, suc, ◌+◌, ◌-◌, ◌*◌, ◌≤◌, ◌<◌, min, max, List, [], ◌∷◌, ◌≡◌, length, get_or}
use Rattle.std.proofs.Math.Decide.{dec_lt}
use Rattle.std.proofs.Common.{arith}
use Rattle.model.specs.Shares.{Ranges, sum_of}
use Rattle.model.proofs.Laws.Lists.{ranges_length}
use Rattle.model.proofs.Laws.Spread.{sum_of_bound}
use Rattle.breakpoints.specs.Laws.Sums.{clamped_sum, part_at_most}
use Rattle.model.specs.Inner.Orders.{Rearranged}
use Rattle.breakpoints.specs.Inner.Spans.{Parted, Span}

-- 0 exactly where x is not between m and w
abbrev depth : ℕ → ℕ → ℕ → ℕ
depth m w x = min (x - m) (w - x)

-- the numbers passed move with the level, and the others stay
parted_sum : (f : ℕ → ℕ) (m w : ℕ) → m ≤ w → (xs : List ℕ) (a : ℕ) → Parted m w a xs
    → sum_of (λ x. f (max x w)) xs + a * f m ≡ sum_of (λ x. f (max x m)) xs + a * f w
unfolding sum_of
parted_sum f m w rises [] a parted = let none : a ≡ 0 = omega arith in rw none (omega arith)
parted_sum f m w rises (x ∷ xs) zero parted =
    let rest : Parted m w 0 xs = record {
      few = omega arith;
      before = λ p h. absurd (omega arith);
      after = λ p low h. parted.after (suc p) (omega arith) (omega arith);
    } in
    let past : w ≤ x = parted.after 0 (omega arith) (omega arith) in
    let at : max x w ≡ max x m = omega arith in
    rw at (omega (arith, parted_sum f m w rises xs zero rest))
parted_sum f m w rises (x ∷ xs) (suc a) parted =
    let rest : Parted m w a xs = record {
      few = omega arith;
      before = λ p h. parted.before (suc p) (omega arith);
      after = λ p low h. parted.after (suc p) (omega arith) (omega arith);
    } in
    let passed : x ≤ m = parted.before 0 (omega arith) in
    let to : max x w ≡ w = omega arith in
    let from : max x m ≡ m = omega arith in
    rw (to, from) (omega (arith, parted_sum f m w rises xs a rest))

-- so do they where they are rearranged
pub rearranged_sum : {xs ys : List ℕ} {m w a : ℕ} → Rearranged xs ys → Parted m w a xs → m ≤ w → (f : ℕ → ℕ) (v : ℕ) → m ≤ v → v ≤ w
    → sum_of (λ x. f (max x v)) ys + a * f m ≡ sum_of (λ x. f (max x m)) ys + a * f v
rearranged_sum {xs} {ys} {m} {w} {a} same parted rises f v low high =
    let less : Parted m v a xs = record {
      few = parted.few;
      before = parted.before;
      after = λ p h below. omega (arith, parted.after p h below);
    } in
    rw (same.sums, same.sums) at (parted_sum f m v low xs a less)

-- none of them lies between m and w
rearranged_clear : {xs ys : List ℕ} {m w a : ℕ} → Rearranged xs ys → Parted m w a xs
    → (i : ℕ) → i < length ys → m < get_or ys i 0 → w ≤ get_or ys i 0
rearranged_clear {xs} {ys} {m} {w} {a} same parted i below past =
    let none : (p : ℕ) → p < length xs → depth m w (get_or xs p 0) ≤ 0 =
    (λ p h. elim (dec_lt p a) [
      | yes passed ↦ omega (arith, parted.before p passed)
      | no left ↦ omega (arith, parted.after p (omega arith) h)
    ]) in
    let zero : depth m w (get_or ys i 0) ≡ 0 =
    omega (arith, part_at_most (depth m w) ys i below, same.sums (depth m w), sum_of_bound (depth m w) 0 xs none) in
    omega arith

-- bounds in order, parted between m and w, make a span
pub span : {lows highs lows' highs' : List ℕ} {m w a b : ℕ} → Ranges lows highs → Rearranged lows' lows → Rearranged highs' highs
    → m ≤ w → Parted m w a lows' → Parted m w b highs' → Span lows highs m w a b
span {m = m} {w = w} {a = a} {b = b} ranges same_lows same_highs rises parted_lows parted_highs = record {
  rises = rises;
  sums = λ f v low high. omega (
    arith,
    clamped_sum f ranges v,
    clamped_sum f ranges m,
    rearranged_sum same_lows parted_lows rises f v low high,
    rearranged_sum same_highs parted_highs rises f v low high,
  );
  clear = λ i below _. (rearranged_clear same_lows parted_lows i below, rearranged_clear same_highs parted_highs i (omega (arith, ranges_length ranges)));
}
