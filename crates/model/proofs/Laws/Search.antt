-- The first value upward or downward that passes a test. Assumes nothing.
use Rattle.std.specs.Prelude.{ℕ, zero, suc, ◌+◌, ◌-◌, ◌≤◌, Bool, true, false, ◌≢◌, ◌≡◌, refl}
use Rattle.std.proofs.Common.{sym, ap, ◌∙◌, arith}
use Rattle.model.proofs.Laws.Tests.{clash}
use Rattle.model.specs.Plans.{first_up, first_down}

-- a value between two others that passes the test
pub record PassesBetween (test : ℕ → Bool) (low v high : ℕ) : Type 0 where
  pub passes : test v ≡ true
  pub from : low ≤ v
  pub up_to : v ≤ high

-- a test that fails at one value and holds at another tells them apart
differ : (test : ℕ → Bool) (a w : ℕ) → test a ≡ false → test w ≡ true → a ≢ w
differ test a w fails holds same =
    clash holds (ap test (sym same) ∙ fails)

-- where some value from a on passes, the first upward passes and is no greater
pub first_up_passes : (test : ℕ → Bool) (steps a w : ℕ) → test w ≡ true → a ≤ w → w ≤ a + steps
    → PassesBetween test a (first_up test steps a) w
unfolding first_up
first_up_passes test zero a w holds low high =
    let same : a ≡ w = omega arith in
    record { passes = ap test same ∙ holds; from = omega arith; up_to = low }
first_up_passes test (suc steps) a w holds low high =
    go (test a) refl (λ more. first_up_passes test steps (suc a) w holds more (omega arith))
  where
    go : (b : Bool) → test a ≡ b → (suc a ≤ w → PassesBetween test (suc a) (first_up test steps (suc a)) w)
        → PassesBetween test a (first_up test (suc steps) a) w
    go true e next = rw (e, first_up) (record { passes = e; from = omega arith; up_to = low })
    go false e next =
        let apart : a ≢ w = differ test a w e holds in
        let found : PassesBetween test (suc a) (first_up test steps (suc a)) w = next (omega arith) in
        rw (e, first_up) (record { passes = found.passes; from = omega (arith, found.from); up_to = found.up_to })

-- where some value down from a passes, the first downward passes and is no less
pub first_down_passes : (test : ℕ → Bool) (steps a w : ℕ) → test w ≡ true → w ≤ a → a ≤ w + steps
    → PassesBetween test w (first_down test steps a) a
unfolding first_down
first_down_passes test zero a w holds high low =
    let same : a ≡ w = omega arith in
    record { passes = ap test same ∙ holds; from = high; up_to = omega arith }
first_down_passes test (suc steps) a w holds high low =
    go (test a) refl (λ less. first_down_passes test steps (a - 1) w holds less (omega arith))
  where
    go : (b : Bool) → test a ≡ b → (w ≤ a - 1 → PassesBetween test w (first_down test steps (a - 1)) (a - 1))
        → PassesBetween test w (first_down test (suc steps) a) a
    go true e next = rw (e, first_down) (record { passes = e; from = high; up_to = omega arith })
    go false e next =
        let apart : a ≢ w = differ test a w e holds in
        let found : PassesBetween test w (first_down test steps (a - 1)) (a - 1) = next (omega arith) in
        rw (e, first_down) (record { passes = found.passes; from = found.from; up_to = omega (arith, found.up_to) })
