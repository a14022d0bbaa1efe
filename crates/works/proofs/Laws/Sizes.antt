-- A group has at most as many members as there are units. Assumes nothing.
use Rattle.std.specs.Prelude.{ℕ, zero, suc, ◌-◌, ◌≤◌, ◌<◌, min, ◌≢◌, ◌⊎◌, ◌≡◌}
use Rattle.std.proofs.Common.{inl, inr, arith}
use Rattle.std.proofs.Math.Decide.{dec_le}
use Rattle.model.specs.Groups.{Group}
use Rattle.groups.specs.Memberships.{SoundMembers, size, unit_of}

-- the numbers but a, one after another
abbrev without : ℕ → ℕ → ℕ
without a x = x - min 1 (x - a)

without_at : (a x : ℕ) → x ≢ a → ((x < a) × (without a x ≡ x)) ⊎ ((a < x) × (suc (without a x) ≡ x))
without_at a x other = elim (dec_le x a) [ yes below ↦ inl (omega arith) | no above ↦ inr (omega arith) ]

without_same : (a x y : ℕ) → x ≢ a → y ≢ a → without a x ≡ without a y → x ≡ y
without_same a x y p q e = same (without_at a x p) (without_at a y q) e
  where
    same : {v w : ℕ} → ((x < a) × (v ≡ x)) ⊎ ((a < x) × (suc v ≡ x)) → ((y < a) × (w ≡ y)) ⊎ ((a < y) × (suc w ≡ y)) → v ≡ w → x ≡ y
    same (inl i) (inl j) e = omega arith
    same (inl i) (inr j) e = omega arith
    same (inr i) (inl j) e = omega arith
    same (inr i) (inr j) e = omega arith

-- different numbers below m are at most m
few : (n m : ℕ) (f : ℕ → ℕ) → ((k : ℕ) → k < n → f k < m)
    → ((j k : ℕ) → j < n → k < n → f j ≡ f k → j ≡ k) → n ≤ m
few zero m f below different = omega arith
few (suc n) zero f below different = absurd (omega (arith, below 0 (omega arith)))
few (suc n) (suc m) f below different =
    let apart : (k : ℕ) → k < n → f k ≢ f n = λ k h e. omega (arith, different k n (omega arith) (omega arith) e) in
    omega (
      arith,
      few n m (λ k. without (f n) (f k))
          (λ k h. omega (arith, apart k h, below k (omega arith), below n (omega arith)))
          (λ j k p q e. different j k (omega arith) (omega arith) (without_same (f n) (f j) (f k) (apart j p) (apart k q) e)),
    )

-- a sound group has at most as many members as there are units
pub size_few : {count : ℕ} {group : Group} → SoundMembers count group → size group ≤ count
size_few {count} {group} sound = few (size group) count (unit_of group) sound.below sound.different
