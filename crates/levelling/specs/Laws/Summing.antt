-- Sums over shares, one member after another. Assumes nothing.
use Rattle.std.specs.Prelude.{ℕ, ◌+◌, ◌≤◌, ◌<◌, Bool, true, List, ◌∷◌, ◌≡◌, refl, length, get_or, drop}
use Rattle.std.proofs.Math.Bool.{false}
use Rattle.std.proofs.Math.Path.{ap}
use Rattle.std.proofs.Common.{◌∙◌, add-one, arith, drop_of_length-le, drop-cons}
use Rattle.model.specs.Running.{runs, running}
use Rattle.model.specs.Shares.{pick, sum_of}
use Rattle.model.proofs.Laws.Running.{running_run, running_skip, running_nil}

-- the sum of f over the shares before i is passed: with that over the others it is the sum over all
abbrev pub Summed : (ℕ → ℕ) → List ℕ → ℕ → ℕ → Type 0
Summed f xs i passed = passed + sum_of f (drop i xs) ≡ sum_of f xs

-- the same over the running members' shares
abbrev pub SummedRunning : (ℕ → ℕ) → List ℕ → List ℕ → ℕ → ℕ → Type 0
SummedRunning f marks xs i passed = passed + sum_of f (running (drop i marks) (drop i xs)) ≡ sum_of f (running marks xs)

-- a list from i on is its number at i and those after it
from : (xs : List ℕ) (i : ℕ) → i < length xs → drop i xs ≡ get_or xs i 0 ∷ drop (i + 1) xs
from xs i h = rw add-one (drop-cons xs i 0 h)

module _ (f : ℕ → ℕ) (marks xs : List ℕ) (i : ℕ) (o : i < length marks) (p : i < length xs) (passed : ℕ) where
  -- it grows by f of share i
  pub summed_step : Summed f xs i passed → Summed f xs (i + 1) (passed + f (get_or xs i 0))
  unfolding sum_of
  summed_step held = omega (arith, rw (from xs i p) at held)

  -- member i's part and that of those after it
  parted : (part : ℕ) → part ≡ pick (runs (get_or marks i 0)) (f (get_or xs i 0)) 0
      → sum_of f (running (drop i marks) (drop i xs)) ≡ part + sum_of f (running (drop (i + 1) marks) (drop (i + 1) xs))
  parted part is = by (runs (get_or marks i 0)) refl
    where
      by : (b : Bool) → runs (get_or marks i 0) ≡ b
          → sum_of f (running (drop i marks) (drop i xs)) ≡ part + sum_of f (running (drop (i + 1) marks) (drop (i + 1) xs))
      by true run =
          let kept : running (drop i marks) (drop i xs) ≡ get_or xs i 0 ∷ running (drop (i + 1) marks) (drop (i + 1) xs) =
          rw (from marks i o, from xs i p) (running_run (get_or marks i 0) run (drop (i + 1) marks) (get_or xs i 0) (drop (i + 1) xs)) in
          ap (sum_of f) kept ∙ (unfold sum_of in omega (arith, rw run at is))
      by false shut =
          let kept : running (drop i marks) (drop i xs) ≡ running (drop (i + 1) marks) (drop (i + 1) xs) =
          rw (from marks i o, from xs i p) (running_skip (get_or marks i 0) shut (drop (i + 1) marks) (get_or xs i 0) (drop (i + 1) xs)) in
          ap (sum_of f) kept ∙ omega (arith, rw shut at is)

  -- it grows by f of share i where member i runs
  pub running_step : (part : ℕ) → part ≡ pick (runs (get_or marks i 0)) (f (get_or xs i 0)) 0
      → SummedRunning f marks xs i passed → SummedRunning f marks xs (i + 1) (passed + part)
  running_step part is held = omega (arith, parted part is)

-- once all members are passed it is the sum over all
pub summed_all : (f : ℕ → ℕ) (xs : List ℕ) (i passed : ℕ) → length xs ≤ i → Summed f xs i passed → passed ≡ sum_of f xs
unfolding sum_of
summed_all f xs i passed h held = omega (arith, rw (drop_of_length-le xs h) at held)

-- or over all that run
pub summed_running : (f : ℕ → ℕ) (marks xs : List ℕ) (i passed : ℕ) → length xs ≤ i → SummedRunning f marks xs i passed
    → passed ≡ sum_of f (running marks xs)
unfolding sum_of
summed_running f marks xs i passed h held = omega (arith, rw (drop_of_length-le xs h, running_nil (drop i marks)) at held)
