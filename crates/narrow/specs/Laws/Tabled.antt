-- Laws of a group with its breakpoint table. Assumes nothing.
use Rattle.std.specs.Prelude.{ℕ, Bool, true, false, List, ◌≡◌, refl}
use Rattle.std.proofs.Common.{arith}
use Rattle.breakpoints.specs.Inner.Tables as probed
use Rattle.model.specs.Sound.{HasShares}
use Rattle.model.proofs.Laws.Sound.{highs_small}
use Rattle.model.proofs.Laws.Tests.{clash}

-- a group with shares of the total has a small total
pub probe_sound : {lows highs : List ℕ} {total : ℕ} → HasShares lows highs total → probed.SoundWithTotal lows highs total
probe_sound shared = record {
  ranges = shared.sound.ranges;
  paired = shared.sound.paired;
  few = shared.sound.few;
  small = omega (arith, shared.high, highs_small shared.sound);
}

-- pairs that are limited are asked for
pub asked_for : (answer all : Bool) → (answer ≡ false → all ≡ true) → all ≡ false → answer ≡ true
asked_for true all told limited = refl
asked_for false all told limited = absurd (clash (told refl) limited)
