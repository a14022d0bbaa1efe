-- The exchange of one copy between two members, and the figures that it may change. Assumes nothing.
use Rattle.std.specs.Prelude.{ℕ, suc, ◌+◌, ◌-◌, ◌≤◌, ◌<◌, List, ◌≡◌, length, get_or, set}

-- 01's exchange of one copy: member i gives one to member j
unfoldable pub transfer : ℕ → ℕ → List ℕ → List ℕ
transfer i j xs = set (set xs i (get_or xs i 0 - 1)) j (suc (get_or xs j 0))

-- a sum of one part for each member, where a replaced share changes its own part alone
pub record Additive (G : List ℕ → ℕ) (part : ℕ → ℕ → ℕ) : Type 0 where
  pub sets : (xs : List ℕ) (i y : ℕ) → i < length xs → G (set xs i y) + part i (get_or xs i 0) ≡ G xs + part i y

-- never raised by an exchange from a higher to a lower share
pub record SchurConvex (F : List ℕ → ℕ) : Type 0 where
  pub lowers : (xs : List ℕ) (i j : ℕ) → i < length xs → j < length xs
      → get_or xs j 0 < get_or xs i 0 → F (transfer i j xs) ≤ F xs

-- one copy more adds no less to a higher share than to a lower one
pub record Convex (f : ℕ → ℕ) : Type 0 where
  pub bends : (a b : ℕ) → b ≤ a → f a + f (suc b) ≤ f (suc a) + f b
