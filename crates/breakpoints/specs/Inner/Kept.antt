-- The members of a group that rows are made for. Those whose range has one value can be left out: their shares move at no level. Assumes nothing.
use Rattle.std.specs.Prelude.{ℕ, ◌≤◌, true, false, List, [], ◌∷◌, ltb}

-- the lows and the highs of the members with several values, and of others, in the group's order
pub data Kept : List ℕ → List ℕ → List ℕ → List ℕ → Type 0 where
  none : Kept [] [] [] []
  along : {l h : ℕ} {ls hs kept_lows kept_highs : List ℕ} → Kept ls hs kept_lows kept_highs → Kept (l ∷ ls) (h ∷ hs) (l ∷ kept_lows) (h ∷ kept_highs)
  single : {l h : ℕ} {ls hs kept_lows kept_highs : List ℕ} → h ≤ l → Kept ls hs kept_lows kept_highs → Kept (l ∷ ls) (h ∷ hs) kept_lows kept_highs

-- what the members with several values have of a list of one number a member
unfoldable pub several : List ℕ → List ℕ → List ℕ → List ℕ
several [] hs xs = []
several (l ∷ ls) [] xs = []
several (l ∷ ls) (h ∷ hs) [] = []
several (l ∷ ls) (h ∷ hs) (x ∷ xs) = elim (ltb l h) [ true ↦ x ∷ several ls hs xs | false ↦ several ls hs xs ]
