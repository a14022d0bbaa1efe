-- Shut members: the running members of a group, their figures, plans and narrowing. Assumes nothing.
use Rattle.std.specs.Prelude.{ℕ, Bool, true, false, List, [], ◌∷◌, ◌≡◌, eqb, length, get_or}
use Rattle.model.specs.Shares.{sum, Within}
use Rattle.model.specs.Figures.{deviation, spread, pairs, above, figures_of, met, deviation_bound}
use Rattle.model.specs.Plans.{turn_of, narrowed_lows, narrowed_highs}
use Rattle.model.specs.declared.Figures.{Figures}
use Rattle.model.specs.declared.Limits.{Limits}
use Rattle.model.specs.declared.Turn.{Turn}

-- 02: "a mark per member, 0 running, 1 shut"
abbrev pub runs : ℕ → Bool
runs mark = eqb mark 0

-- 02: what the running members have of a list of one number a member, in the group's order
unfoldable pub running : List ℕ → List ℕ → List ℕ
running [] xs = []
running (m ∷ marks) [] = []
running (m ∷ marks) (x ∷ xs) = elim (runs m) [ true ↦ x ∷ running marks xs | false ↦ running marks xs ]

-- the running members' numbers at the places of all members, with 0 for each shut one
unfoldable pub restored : List ℕ → List ℕ → List ℕ
restored [] ys = []
restored (m ∷ marks) [] = 0 ∷ restored marks []
restored (m ∷ marks) (y ∷ ys) = elim (runs m) [ true ↦ y ∷ restored marks ys | false ↦ 0 ∷ restored marks (y ∷ ys) ]

-- 02: each mark is 0 or 1, and a shut member's range is 0 to 0
pub data Marked : List ℕ → List ℕ → List ℕ → Type 0 where
  none : Marked [] [] []
  run : {l h : ℕ} {ms ls hs : List ℕ} → Marked ms ls hs → Marked (0 ∷ ms) (l ∷ ls) (h ∷ hs)
  shut : {ms ls hs : List ℕ} → Marked ms ls hs → Marked (1 ∷ ms) (0 ∷ ls) (0 ∷ hs)

-- 02: "Figures .. use the number of members not shut as n and sum over those alone"
abbrev pub marked_deviation : List ℕ → ℕ → List ℕ → ℕ
marked_deviation marks total xs = deviation (length (running marks xs)) total (running marks xs)

abbrev pub marked_spread : List ℕ → ℕ → List ℕ → ℕ
marked_spread marks total xs = spread (length (running marks xs)) total (running marks xs)

-- 02: "over all pairs of running members"
abbrev pub marked_pairs : List ℕ → List ℕ → ℕ
marked_pairs marks xs = pairs (running marks xs)

-- all three
abbrev pub marked_figures : List ℕ → ℕ → List ℕ → Figures
marked_figures marks total xs = figures_of (length (running marks xs)) total (running marks xs)

-- 02: "and 01's bound below the deviation"
abbrev pub marked_bound : List ℕ → ℕ → List ℕ → List ℕ → ℕ
marked_bound marks total lows highs = deviation_bound (length (running marks lows)) total (running marks lows) (running marks highs)

-- 02: "Totals above t are summed over running members"
abbrev pub marked_above : List ℕ → ℕ → List ℕ → ℕ
marked_above marks t xs = above t (running marks xs)

-- 01: a plan gives "each member a share in its range, adding up to S, with both figures within the limits"; 02: the running members' figures, all three
pub record MarkedPlan (marks lows highs : List ℕ) (total : ℕ) (limits : Limits) (xs : List ℕ) : Type 0 where
  pub within : Within lows highs xs
  pub adds : sum xs ≡ total
  pub meets : met limits (marked_figures marks total xs) ≡ true

-- some plan is there
abbrev pub MarkedPlans : List ℕ → List ℕ → List ℕ → ℕ → Limits → Type 0
MarkedPlans marks lows highs total limits = (xs : List ℕ) × MarkedPlan marks lows highs total limits xs

-- some plan gives member i the value v
abbrev pub MarkedTaken : List ℕ → List ℕ → List ℕ → ℕ → Limits → ℕ → ℕ → Type 0
MarkedTaken marks lows highs total limits i v = (xs : List ℕ) × MarkedPlan marks lows highs total limits xs × (get_or xs i 0 ≡ v)

-- a turn of a group with shut members is that of its running members
abbrev pub marked_turn : List ℕ → List ℕ → List ℕ → ℕ → Limits → Turn
marked_turn marks lows highs total limits = turn_of (running marks lows) (running marks highs) total limits

-- whose narrowed ranges lie at their places, with 0 to 0 for each shut member
abbrev pub marked_lows : List ℕ → List ℕ → List ℕ → ℕ → Limits → List ℕ
marked_lows marks lows highs total limits = restored marks (narrowed_lows (running marks lows) (running marks highs) total limits)

abbrev pub marked_highs : List ℕ → List ℕ → List ℕ → ℕ → Limits → List ℕ
marked_highs marks lows highs total limits = restored marks (narrowed_highs (running marks lows) (running marks highs) total limits)
