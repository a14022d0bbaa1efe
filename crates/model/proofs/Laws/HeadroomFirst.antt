-- Copies handed out by headroom go to the members with the most headroom first, and among equals to the earlier, and no other way does so. Assumes nothing.
use Rattle.std.specs.Prelude.{ℕ, zero, suc, ◌+◌, ◌-◌, ◌≤◌, ◌<◌, Bool, true, false, List, [], ◌∷◌, ◌⊎◌, ◌≡◌, refl, ltb, length, get_or}
use Rattle.std.proofs.Common.{inl, inr, sym, ap, ◌∙◌, le_of_suc-le-suc, arith, ltb-true, ltb-false}
use Rattle.std.proofs.Math.Decide.{dec_lt, ℕ_discrete}
use Rattle.model.specs.Shares.{pick, Ranges, sum}
use Rattle.model.specs.Levels.{clamp, total_at, growth, headroom, roomier, by_headroom, level, remainder, levelled}
use Rattle.model.specs.Ways.{HandsOut, CanTake, HeadroomFirst}
use Rattle.model.proofs.Laws.Least.{lower, partner, same}
use Rattle.model.proofs.Laws.Levelled.{headroom_between, headroom_adds, within_sum_high}
use Rattle.model.proofs.Laws.Lists.{within_length, within_at}
use Rattle.model.proofs.Laws.Given.{clamped_at, clamped_length}
use Rattle.model.specs.Inner.Headroom.{is_ahead}
use Rattle.model.proofs.Laws.Headroom.{growth_one, growth_most, headroom_copy, ahead_above, ahead_none, ahead_most, roomier_falls}

-- whether a member takes one: it does where fewer later ones have more headroom than copies are left
pub data Gets (ahead left g : ℕ) : ℕ → Type 0 where
  copied : ahead < left → Gets ahead left g g
  spared : left ≤ ahead → Gets ahead left g 0

gets : (ahead left g : ℕ) → Gets ahead left g (pick (ltb ahead left) g 0)
gets ahead left g = by (ltb ahead left) refl
  where
    by : (b : Bool) → ltb ahead left ≡ b → Gets ahead left g (pick b g 0)
    by true is = Gets.copied (ltb-true ahead left is)
    by false is = Gets.spared (ltb-false ahead left is)

-- at most what it can
more_most : {ahead left g more : ℕ} → Gets ahead left g more → more ≤ g
more_most (Gets.copied fewer) = omega arith
more_most (Gets.spared enough) = omega arith

-- what a member that can take one has: v, and a copy more where one is taken
share_at : {l h v : ℕ} → l ≤ v → v < h → (ahead left : ℕ) (more : ℕ) → Gets ahead left (growth l h v) more
    → (v < clamp l h v + more → ahead < left) × (clamp l h v + more ≤ v → left ≤ ahead)
share_at {l} {h} {v} low high ahead left more (Gets.copied fewer) = (λ has. fewer, λ not. absurd (omega (arith, growth_one low high)))
share_at {l} {h} {v} low high ahead left more (Gets.spared enough) = (λ has. absurd (omega arith), λ not. enough)

-- a member that has a copy has fewer members ahead than there are copies
has_copy : (lows highs : List ℕ) (v left i : ℕ) → i < length (by_headroom lows highs v left) → CanTake lows highs v i
    → v < get_or (by_headroom lows highs v left) i 0 → roomier lows highs v (get_or highs i 0) < left
unfolding by_headroom roomier
has_copy [] highs v left i inside can has = absurd (omega arith)
has_copy (l ∷ ls) [] v left i inside can has = absurd (omega arith)
has_copy (l ∷ ls) (h ∷ hs) v left zero inside can has =
    omega (arith, ahead_none l h v {t = h} (omega arith), (share_at can.0 can.1 (roomier ls hs v h) left _ (gets (roomier ls hs v h) left (growth l h v))).0 has)
has_copy (l ∷ ls) (h ∷ hs) v left (suc i) inside can has =
    by (headroom_copy ls hs v left l h) (gets (roomier ls hs v h) left (growth l h v))
    (has_copy ls hs v (left - headroom_copy ls hs v left l h) i (le_of_suc-le-suc inside) can has)
  where
    t : ℕ
    t = get_or hs i 0

    by : (more : ℕ) → Gets (roomier ls hs v h) left (growth l h v) more → roomier ls hs v t < left - more
        → is_ahead l h v t + roomier ls hs v t < left
    by more (Gets.copied fewer) rest = omega (arith, ahead_most l h v t)
    by more (Gets.spared enough) rest = elim (dec_lt t h) [
      | yes less ↦ absurd (omega (arith, roomier_falls ls hs v {t = t} {u = h} (omega arith)))
      | no not ↦ omega (arith, ahead_none l h v {t = t} (omega arith))
    ]

-- one that has none leaves all copies to others with at least its headroom
has_none : (lows highs : List ℕ) (v left i u : ℕ) → i < length (by_headroom lows highs v left) → CanTake lows highs v i
    → suc u ≡ get_or highs i 0 → get_or (by_headroom lows highs v left) i 0 ≤ v → left < roomier lows highs v u
unfolding by_headroom roomier
has_none [] highs v left i u inside can next none = absurd (omega arith)
has_none (l ∷ ls) [] v left i u inside can next none = absurd (omega arith)
has_none (l ∷ ls) (h ∷ hs) v left zero u inside can next none =
    omega (
      arith,
      (share_at can.0 can.1 (roomier ls hs v h) left _ (gets (roomier ls hs v h) left (growth l h v))).1 none,
      ahead_above l h v {t = u} (omega (arith, can.1)) (omega arith),
      growth_one can.0 can.1,
      roomier_falls ls hs v {t = u} {u = h} (omega arith),
    )
has_none (l ∷ ls) (h ∷ hs) v left (suc i) u inside can next none =
    by (headroom_copy ls hs v left l h) (gets (roomier ls hs v h) left (growth l h v))
    (has_none ls hs v (left - headroom_copy ls hs v left l h) i u (le_of_suc-le-suc inside) can next none)
  where
    by : (more : ℕ) → Gets (roomier ls hs v h) left (growth l h v) more → left - more < roomier ls hs v u
        → left < is_ahead l h v u + roomier ls hs v u
    by more (Gets.spared enough) rest = omega arith
    by more (Gets.copied fewer) rest = elim (dec_lt u h) [
      | yes less ↦ omega (arith, ahead_above l h v {t = u} (omega (arith, can.1)) less)
      | no not ↦ omega (arith, growth_most l h v, roomier_falls ls hs v {t = h} {u = u} (omega arith))
    ]

-- so of two that can take one, the one that has it has more headroom, or as much and is the earlier
first_of : (lows highs : List ℕ) (v left i j : ℕ) → i < length (by_headroom lows highs v left) → j < length (by_headroom lows highs v left)
    → CanTake lows highs v i → CanTake lows highs v j → get_or (by_headroom lows highs v left) i 0 ≤ v → v < get_or (by_headroom lows highs v left) j 0
    → (headroom (get_or highs i 0) v < headroom (get_or highs j 0) v) ⊎ ((headroom (get_or highs i 0) v ≡ headroom (get_or highs j 0) v) × (j < i))
unfolding by_headroom
first_of [] highs v left i j in_i in_j can_i can_j none has = absurd (omega arith)
first_of (l ∷ ls) [] v left i j in_i in_j can_i can_j none has = absurd (omega arith)
first_of (l ∷ ls) (h ∷ hs) v left zero zero in_i in_j can_i can_j none has = absurd (omega arith)
first_of (l ∷ ls) (h ∷ hs) v left zero (suc j) in_i in_j can_i can_j none has =
    inl (by (headroom_copy ls hs v left l h) (gets (roomier ls hs v h) left (growth l h v)) none
    (has_copy ls hs v (left - headroom_copy ls hs v left l h) j (le_of_suc-le-suc in_j) can_j has))
  where
    by : (more : ℕ) → Gets (roomier ls hs v h) left (growth l h v) more → clamp l h v + more ≤ v
        → roomier ls hs v (get_or hs j 0) < left - more → headroom h v < headroom (get_or hs j 0) v
    by more taken at_most fewer = elim (dec_lt h (get_or hs j 0)) [
      | yes less ↦ omega arith
      | no not ↦
          absurd (omega (
            arith,
            (share_at can_i.0 can_i.1 (roomier ls hs v h) left more taken).1 at_most,
            roomier_falls ls hs v {t = get_or hs j 0} {u = h} (omega arith),
          ))
    ]
first_of (l ∷ ls) (h ∷ hs) v left (suc i) zero in_i in_j can_i can_j none has =
    by (get_or hs i 0 - 1) (headroom_copy ls hs v left l h) (gets (roomier ls hs v h) left (growth l h v)) has
    (has_none ls hs v (left - headroom_copy ls hs v left l h) i (get_or hs i 0 - 1) (le_of_suc-le-suc in_i) can_i (omega (arith, can_i.1)) none) refl
  where
    by : (u more : ℕ) → Gets (roomier ls hs v h) left (growth l h v) more → v < clamp l h v + more → left - more < roomier ls hs v u
        → u ≡ get_or hs i 0 - 1 → (headroom (get_or hs i 0) v < headroom h v) ⊎ ((headroom (get_or hs i 0) v ≡ headroom h v) × (0 < suc i))
    by u more taken over enough is = elim (dec_lt (get_or hs i 0) h) [
      | yes less ↦ inl (omega (arith, can_i.1))
      | no not ↦ elim (ℕ_discrete (get_or hs i 0) h) [
        | yes same ↦ inr (ap (λ (t : ℕ). headroom t v) same, omega arith)
        | no apart ↦
            absurd (omega (
              arith,
              (share_at can_j.0 can_j.1 (roomier ls hs v h) left more taken).0 over,
              more_most taken,
              growth_most l h v,
              roomier_falls ls hs v {t = h} {u = u} (omega (arith, apart)),
            ))
      ]
    ]
first_of (l ∷ ls) (h ∷ hs) v left (suc i) (suc j) in_i in_j can_i can_j none has =
    elim (first_of ls hs v (left - headroom_copy ls hs v left l h) i j (le_of_suc-le-suc in_i) (le_of_suc-le-suc in_j) can_i can_j none has) [
      | inl more ↦ inl more
      | inr (same, earlier) ↦ inr (same, omega arith)
    ]

pub headroom_first : (lows highs : List ℕ) (v left : ℕ) → HeadroomFirst lows highs v (by_headroom lows highs v left)
headroom_first lows highs v left = record { first = first_of lows highs v left }

-- 02: the levelled shares follow it
pub levelled_first : (lows highs : List ℕ) (total : ℕ) → HeadroomFirst lows highs (level lows highs total) (levelled lows highs total)
unfolding levelled
levelled_first lows highs total = headroom_first lows highs (level lows highs total) (remainder lows highs total)

module _ {lows highs : List ℕ} (ranges : Ranges lows highs) {v left : ℕ} where
  -- a member that has more in one way than in another can take a copy, has none in the other and one here
  differs : {xs ys : List ℕ} → HandsOut lows highs v left xs → HandsOut lows highs v left ys → (i : ℕ) → i < length xs → get_or xs i 0 < get_or ys i 0
      → CanTake lows highs v i × (get_or xs i 0 ≤ v) × (v < get_or ys i 0)
  differs {xs} {ys} one other i inside less =
      let below : i < length lows = omega (arith, within_length one.between, clamped_length ranges v) in
      let there : i < length ys = omega (arith, within_length other.between, clamped_length ranges v) in
      omega (
        arith,
        within_at one.between i inside,
        within_at other.between i there,
        clamped_at ranges v i below,
        clamped_at ranges (suc v) i below,
      )

  -- so two ways that both go by headroom are one
  pub headroom_one : {xs ys : List ℕ} → HandsOut lows highs v left xs → HeadroomFirst lows highs v xs
      → HandsOut lows highs v left ys → HeadroomFirst lows highs v ys → xs ≡ ys
  headroom_one {xs} {ys} one first other second =
      let many : length xs ≡ length ys = omega (arith, within_length one.between, within_length other.between) in
      let adds : sum xs ≡ sum ys = one.adds ∙ sym other.adds in
      elim (lower xs ys many) [
        | inl (i, inside, less) ↦
            let (j, there, more) = partner ys xs (sym many) (sym adds) i (omega arith) less in
            let (can_i, none_i, has_i) = differs one other i inside less in
            let (can_j, none_j, has_j) = differs other one j there more in
            absurd (apart (headroom (get_or highs i 0) v) (headroom (get_or highs j 0) v) i j (first.first i j inside (omega arith) can_i can_j none_i has_j) (second.first j i there (omega arith) can_j can_i none_j has_i))
        | inr none ↦ same xs ys many adds none
      ]
    where
      apart : (a b i j : ℕ) → (a < b) ⊎ ((a ≡ b) × (j < i)) → (b < a) ⊎ ((b ≡ a) × (i < j)) → ⊥
      apart a b i j (inl less) (inl more) = omega arith
      apart a b i j (inl less) (inr equal) = omega arith
      apart a b i j (inr equal) (inl more) = omega arith
      apart a b i j (inr equal) (inr other_equal) = omega arith

  -- and the shares by headroom are the only ones that go by it
  pub headroom_only : {xs : List ℕ} → HandsOut lows highs v left xs → HeadroomFirst lows highs v xs → xs ≡ by_headroom lows highs v left
  unfolding total_at
  headroom_only {xs} way first =
      headroom_one way first
      (record {
        between = headroom_between ranges v left;
        adds = headroom_adds ranges v left (omega (arith, way.adds, within_sum_high way.between));
      })
      (headroom_first lows highs v left)
