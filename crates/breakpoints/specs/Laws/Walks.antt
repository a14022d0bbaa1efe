-- Walking up two rising lists, one bound after another. Assumes nothing.
use Rattle.std.specs.Prelude.{ℕ, suc, ◌-◌, ◌≤◌, ◌<◌, List, ◌≡◌, length, get_or}
use Rattle.std.proofs.Common.{arith}
use Rattle.model.specs.Inner.Orders.{Rearranged, Rising}
use Rattle.model.proofs.Laws.Orders.{rising}
use Rattle.model.proofs.Laws.Spread.{sum_of_bound}
use Rattle.breakpoints.specs.Inner.Spans.{Parted}
use Rattle.breakpoints.specs.Laws.Sums.{part_at_most}

-- no number is passed at 0
pub parted_none : (xs : List ℕ) → Parted 0 0 0 xs
parted_none xs = record { few = omega arith; before = λ p h. absurd (omega arith); after = λ p low h. omega arith }

-- where all numbers are passed, no further one comes
pub parted_all : {m a w : ℕ} {xs : List ℕ} → Parted m m a xs → a ≡ length xs → Parted m w a xs
parted_all parted all = record { few = parted.few; before = parted.before; after = λ p low h. absurd (omega arith) }

module _ {m a : ℕ} {xs : List ℕ} (risen : Rising (length xs) xs) (parted : Parted m m a xs) where
  -- the next number is no less than the mark
  pub next_up : a < length xs → m ≤ get_or xs a 0
  next_up more = parted.after a (omega arith) more

  -- up to a further mark, at most the next number, no more are passed
  pub passes_none : {w : ℕ} → (a < length xs → w ≤ get_or xs a 0) → Parted m w a xs
  passes_none next = record {
    few = parted.few;
    before = parted.before;
    after = λ p low h. omega (arith, next (omega arith), rising xs risen a p low h);
  }

  -- and so at that mark
  pub passed_none : {w : ℕ} → m ≤ w → (a < length xs → w ≤ get_or xs a 0) → Parted w w a xs
  passed_none up next = record {
    few = parted.few;
    before = λ p h. omega (arith, parted.before p h);
    after = (passes_none next).after;
  }

  -- at the next number, one more is passed
  pub passed_one : a < length xs → Parted (get_or xs a 0) (get_or xs a 0) (suc a) xs
  passed_one more = record {
    few = more;
    before = λ p h. rising xs risen p a (omega arith) more;
    after = λ p low h. rising xs risen a p (omega arith) h;
  }

-- rearranged numbers are at most what the numbers are
pub rearranged_small : {xs ys : List ℕ} (m : ℕ) → Rearranged xs ys → ((i : ℕ) → i < length ys → get_or ys i 0 ≤ m)
    → (i : ℕ) → i < length xs → get_or xs i 0 ≤ m
rearranged_small {xs} {ys} m same small i below =
    let over : ℕ → ℕ = λ x. x - m in
    let none : (k : ℕ) → k < length ys → over (get_or ys k 0) ≤ 0 = (λ k h. omega (arith, small k h)) in
    omega (arith, part_at_most over xs i below, same.sums over, sum_of_bound over 0 ys none)
