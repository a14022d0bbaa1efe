-- Copies left over, handed out by a bar of headroom. Assumes nothing.
use Rattle.std.specs.Prelude.{ℕ, suc, ◌+◌, ◌≤◌, min, List, ◌≡◌, ltb, eqb}
use Rattle.model.specs.Shares.{pick}
use Rattle.model.specs.Levels.{growth, headroom, roomier}

-- 1 for a member that can take a copy and has more headroom than one with high t, else 0
abbrev pub is_ahead : ℕ → ℕ → ℕ → ℕ → ℕ
is_ahead l h v t = pick (ltb (headroom t v) (headroom h v)) (growth l h v) 0

-- 1 for a member that takes a copy of those that rest for members at the bar, else 0
abbrev pub copy_at : ℕ → ℕ → ℕ → ℕ → ℕ → ℕ
copy_at l h v bar rest = pick (eqb h bar) (min rest (growth l h v)) 0

-- so many copies are left: those above the bar get one each, the others rest for members at the bar, of which there are enough
pub record Bar (lows highs : List ℕ) (v left bar rest : ℕ) : Type 0 where
  pub over : roomier lows highs v bar + rest ≡ left
  pub under : (u : ℕ) → suc u ≡ bar → v ≤ u → left ≤ roomier lows highs v u
