-- Laws of tests in turn, each with a number. Assumes nothing.
use Rattle.std.specs.Prelude.{ℕ, suc, Bool, true, false, ◌≡◌, refl}
use Rattle.std.proofs.Common.{arith}
use Rattle.model.specs.Refusals.{unless}

-- a test that holds leaves the verdict to those after it
pub passes : {t : Bool} (n : ℕ) {v r : ℕ} → t ≡ true → v ≡ r → v ≡ unless t n r
passes n h e = rw h e

-- one that fails is the verdict
pub fails : {t : Bool} {n : ℕ} (r : ℕ) → t ≡ false → n ≡ unless t n r
fails r h = rw h

-- no number: the test holds, and so do those after it
pub unless_zero : (t : Bool) (n r : ℕ) → unless t (suc n) r ≡ 0 → (t ≡ true) × (r ≡ 0)
unless_zero true n r h = (refl, h)
unless_zero false n r h = absurd (omega arith)
