-- How a levelling goes about it: how often it adds up T(v), and when it may write shares. Assumes nothing.
use Rattle.std.specs.Prelude.{ℕ, ◌+◌, ◌^◌, ◌≤◌, List, ◌≡◌}
use Rattle.model.specs.Levels.{total_at, level}

-- 02: T(v) is added up "at most 22 times in a levelling"
abbrev pub most_additions : ℕ
most_additions = 22

-- from one count of additions to a later one no more than halving takes to bring so many levels down to one: k for at most 2^k
abbrev pub ByHalving : ℕ → ℕ → ℕ → Type 0
ByHalving levels before after = (k : ℕ) → levels ≤ 2 ^ k → after ≤ before + k

-- 02: "the level is known": v is the level of the total that the shares at v and the copies left over make
abbrev pub KnownLevel : List ℕ → List ℕ → ℕ → ℕ → Type 0
KnownLevel lows highs v left = v ≡ level lows highs (total_at lows highs v + left)
