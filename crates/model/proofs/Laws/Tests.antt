-- Facts on tests. Assumes nothing.
use Rattle.std.specs.Prelude.{ℕ, Bool, true, false, ◌&&◌, ◌||◌, ◌≡◌, refl}
use Rattle.std.proofs.Common.{arith}

-- both sides of a test that holds, and back
pub both_left : (a b : Bool) → a && b ≡ true → a ≡ true
both_left true b e = refl
both_left false b e = e

pub both_right : (a b : Bool) → a && b ≡ true → b ≡ true
both_right true b e = e
both_right false true e = refl
both_right false false e = e

pub both : {a b : Bool} → a ≡ true → b ≡ true → a && b ≡ true
both p q = rw (p, q)

-- a test does not both hold and fail
pub clash : {b : Bool} → b ≡ true → b ≡ false → ⊥
clash holds fails = let z : ◌≡◌ {A = ℕ} 0 1 = cc in omega arith

-- a test that cannot hold fails
pub refuted : (b : Bool) → (b ≡ true → ⊥) → b ≡ false
refuted true none = absurd (none refl)
refuted false none = refl

-- one that cannot fail holds
pub upheld : (b : Bool) → (b ≡ false → ⊥) → b ≡ true
upheld true none = refl
upheld false none = absurd (none refl)

-- a test of two fails where the second does
pub right_fails : (a : Bool) {b : Bool} → b ≡ false → a && b ≡ false
right_fails true e = e
right_fails false e = refl

-- neither of two tests holds
pub neither : (a b : Bool) → a || b ≡ false → (a ≡ false) × (b ≡ false)
neither false b e = (refl, e)
neither true b e = absurd (clash refl e)

-- one of two tests holds where the second does
pub either_right : (a : Bool) {b : Bool} → b ≡ true → a || b ≡ true
either_right true e = refl
either_right false e = e

-- a test and nothing more
pub and_true : (a : Bool) → a && true ≡ a
and_true true = refl
and_true false = refl

-- three tests, in either grouping
pub and_assoc : (a b c : Bool) → a && b && c ≡ a && (b && c)
and_assoc true b c = refl
and_assoc false b c = refl

-- three tests, the first two exchanged
pub and_exchanged : (a b c : Bool) → a && (b && c) ≡ b && (a && c)
and_exchanged true b c = refl
and_exchanged false true c = refl
and_exchanged false false c = refl

-- four tests, the second and the third exchanged
pub and_regrouped : (a b c d : Bool) → a && (b && c && d) ≡ a && c && (b && d)
and_regrouped false b c d = refl
and_regrouped true true c d = refl
and_regrouped true false true d = refl
and_regrouped true false false d = refl
