-- Shares, ranges and totals. Assumes nothing.
use Rattle.std.specs.Prelude.{ℕ, ◌+◌, ◌≤◌, Bool, true, false, List, [], ◌∷◌, leb, Option, Some, None}
use Rattle.model.specs.declared.Share.{Share}

-- one of two values by a test
abbrev pub pick {ℓ} : {A : Type ℓ} → Bool → A → A → A
pick true a b = a
pick false a b = b

-- 01: "A share is a whole number from 0 to 1,000,000."
abbrev pub greatest_share : ℕ
greatest_share = 1_000_000

-- 01: "a total S (0 to 256,000,000)"
abbrev pub greatest_total : ℕ
greatest_total = 256_000_000

-- 01: "A job has 1 to 256 units"; so a group names at most as many, and a call on lists takes as many members
abbrev pub most_units : ℕ
most_units = 256

abbrev pub checked : ℕ → Option Share
checked v = pick (leb v greatest_share) (Some (record { copies = v })) None

-- 01: ranges with low at most high, every high a share
pub data Ranges : List ℕ → List ℕ → Type 0 where
  none : Ranges [] []
  also : {l h : ℕ} {ls hs : List ℕ} → l ≤ h → h ≤ greatest_share → Ranges ls hs → Ranges (l ∷ ls) (h ∷ hs)

-- 01: each member has a share in its range
pub data Within : List ℕ → List ℕ → List ℕ → Type 0 where
  none : Within [] [] []
  also : {l h x : ℕ} {ls hs xs : List ℕ} → l ≤ x → x ≤ h → Within ls hs xs → Within (l ∷ ls) (h ∷ hs) (x ∷ xs)

-- the sum of f over the shares
unfoldable pub sum_of : (ℕ → ℕ) → List ℕ → ℕ
sum_of f [] = 0
sum_of f (x ∷ xs) = f x + sum_of f xs

-- 01: the total of shares
unfoldable pub sum : List ℕ → ℕ
sum [] = 0
sum (x ∷ xs) = x + sum xs
