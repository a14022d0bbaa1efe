-- Copies handed out by headroom: how many members are ahead, and the bar of headroom that they go to. Assumes nothing.
use Rattle.std.specs.Prelude.{ℕ, suc, ◌+◌, ◌≤◌, ◌<◌, Bool, true, false, List, [], ◌∷◌, ◌≡◌, refl, ltb, length}
use Rattle.std.proofs.Math.Decide.{dec_le, dec_lt}
use native.Mathlib.Omega.{arith}
use Rattle.std.proofs.Common.{lt-ltb, le-ltb, le-leb}
use Rattle.std.proofs.lemmas.Bool.{lt-leb}
use Rattle.model.specs.Shares.{pick, greatest_share, sum, Ranges}
use Rattle.model.specs.Levels.{clamped, total_at, growth, headroom, roomier}
use Rattle.model.specs.Inner.Headroom.{is_ahead}
use Rattle.model.proofs.Laws.Level.{growth_step, total_at_cons}

-- a member can take one copy more, or none
pub data Growing (l h v : ℕ) : ℕ → Type 0 where
  grows : l ≤ v → v < h → Growing l h v 1
  rests : (l ≤ v → h ≤ v) → Growing l h v 0

pub growing : (l h v : ℕ) → Growing l h v (growth l h v)
growing l h v =
    elim (dec_le l v) [
      | yes a ↦ elim (dec_lt v h) [
        | yes b ↦ rw (le-leb l v a, lt-ltb v h b) (Growing.grows a b)
        | no b ↦ rw (le-leb l v a, le-ltb v h (omega arith)) (Growing.rests (λ _. omega arith))
      ]
      | no a ↦ rw (lt-leb l v (omega arith)) (Growing.rests (λ below. absurd (a below)))
    ]

pub growth_most : (l h v : ℕ) → growth l h v ≤ 1
growth_most l h v = by (growth l h v) (growing l h v)
  where
    by : (g : ℕ) → Growing l h v g → g ≤ 1
    by g (Growing.grows low high) = omega arith
    by g (Growing.rests none) = omega arith

-- one with low at most v and high above v can take one
pub growth_one : {l h v : ℕ} → l ≤ v → v < h → growth l h v ≡ 1
growth_one {l} {h} {v} low high = rw (le-leb l v low, lt-ltb v h high)

-- one that can take one has its high above v
pub grown : (l h v : ℕ) → 0 < growth l h v → (growth l h v ≡ 1) × (v < h)
grown l h v = by (growth l h v) (growing l h v)
  where
    by : (g : ℕ) → Growing l h v g → 0 < g → (g ≡ 1) × (v < h)
    by g (Growing.grows low high) some = (refl, high)
    by g (Growing.rests none) some = absurd (omega arith)

-- one with its low above v cannot
pub growth_none : (l h v : ℕ) → v < l → growth l h v ≡ 0
growth_none l h v above = rw (lt-leb l v above)

-- of nothing or nothing, nothing
pub none_picked : (b : Bool) {g : ℕ} → g ≡ 0 → pick b g 0 ≡ 0
none_picked true none = none
none_picked false none = refl

module _ (l h v : ℕ) where
  -- it is, where its high is above t
  pub ahead_above : {t : ℕ} → v ≤ t → t < h → is_ahead l h v t ≡ growth l h v
  ahead_above {t} from above = rw (lt-ltb (headroom t v) (headroom h v) (omega arith))

  -- it is not, where its high is at most t
  pub ahead_none : {t : ℕ} → h ≤ t → is_ahead l h v t ≡ 0
  ahead_none {t} under = rw (le-ltb (headroom t v) (headroom h v) (omega arith))

  -- nor where it can take none
  pub ahead_rests : (t : ℕ) → growth l h v ≡ 0 → is_ahead l h v t ≡ 0
  ahead_rests t none = none_picked (ltb (headroom t v) (headroom h v)) none

  -- at v itself, where it can take one
  pub ahead_own : is_ahead l h v v ≡ growth l h v
  ahead_own = by (growth l h v) (growing l h v)
    where
      by : (g : ℕ) → Growing l h v g → pick (ltb (headroom v v) (headroom h v)) g 0 ≡ g
      by g (Growing.grows low high) = rw (lt-ltb (headroom v v) (headroom h v) (omega arith))
      by g (Growing.rests none) = none_picked (ltb (headroom v v) (headroom h v)) refl

  -- it is at most one, and ahead of fewer the higher t is
  pub ahead_most : (t : ℕ) → is_ahead l h v t ≤ growth l h v
  ahead_most t = by (ltb (headroom t v) (headroom h v))
    where
      by : (b : Bool) → pick b (growth l h v) 0 ≤ growth l h v
      by true = omega arith
      by false = omega arith

  pub ahead_falls : {t u : ℕ} → t ≤ u → is_ahead l h v u ≤ is_ahead l h v t
  ahead_falls {t} {u} less =
      elim (dec_lt (headroom t v) (headroom h v)) [
        | yes a ↦ rw (lt-ltb (headroom t v) (headroom h v) a) (ahead_most u)
        | no a ↦ rw (le-ltb (headroom u v) (headroom h v) (omega arith)) (omega arith)
      ]

-- 1 for a member that takes one of the copies left, by its headroom and that of those after it, else 0
abbrev pub headroom_copy : List ℕ → List ℕ → ℕ → ℕ → ℕ → ℕ → ℕ
headroom_copy lows highs v left l h = pick (ltb (roomier lows highs v h) left) (growth l h v) 0

-- the members ahead are the first, where it is, and those of the others that are
pub roomier_cons : (l h : ℕ) (ls hs : List ℕ) (v t : ℕ) → roomier (l ∷ ls) (h ∷ hs) v t ≡ is_ahead l h v t + roomier ls hs v t
unfolding roomier
roomier_cons l h ls hs v t = refl

-- the higher t is, the fewer they are
pub roomier_falls : (lows highs : List ℕ) (v : ℕ) {t u : ℕ} → t ≤ u → roomier lows highs v u ≤ roomier lows highs v t
unfolding roomier
roomier_falls [] highs v less = omega arith
roomier_falls (l ∷ ls) [] v less = omega arith
roomier_falls (l ∷ ls) (h ∷ hs) v less = omega (arith, ahead_falls l h v less, roomier_falls ls hs v less)

-- no more than members
pub roomier_few : (lows highs : List ℕ) (v t : ℕ) → roomier lows highs v t ≤ length lows
unfolding roomier
roomier_few [] highs v t = omega arith
roomier_few (l ∷ ls) [] v t = omega arith
roomier_few (l ∷ ls) (h ∷ hs) v t = omega (arith, ahead_most l h v t, growth_most l h v, roomier_few ls hs v t)

-- no more than can take a copy
pub roomier_most : {lows highs : List ℕ} → Ranges lows highs → (v t : ℕ)
    → roomier lows highs v t + total_at lows highs v ≤ total_at lows highs (suc v)
roomier_most Ranges.none v t = unfold roomier total_at clamped sum in omega arith
roomier_most (Ranges.also {l = l} {h = h} {ls = ls} {hs = hs} p q r) v t =
    rw (roomier_cons l h ls hs v t, total_at_cons l h ls hs v, total_at_cons l h ls hs (suc v), growth_step l h v p)
    (omega (arith, ahead_most l h v t, roomier_most r v t))

-- at v itself, just as many
pub roomier_all : {lows highs : List ℕ} → Ranges lows highs → (v : ℕ) → roomier lows highs v v + total_at lows highs v ≡ total_at lows highs (suc v)
roomier_all Ranges.none v = unfold roomier total_at clamped sum in omega arith
roomier_all (Ranges.also {l = l} {h = h} {ls = ls} {hs = hs} p q r) v =
    rw (roomier_cons l h ls hs v v, total_at_cons l h ls hs v, total_at_cons l h ls hs (suc v), growth_step l h v p, ahead_own l h v)
    (omega (arith, roomier_all r v))

-- none is above the greatest share
pub roomier_none : {lows highs : List ℕ} → Ranges lows highs → (v : ℕ) → roomier lows highs v greatest_share ≡ 0
unfolding roomier
roomier_none Ranges.none v = refl
roomier_none (Ranges.also {l = l} {h = h} p q r) v = rw (ahead_none l h v q, roomier_none r v)
