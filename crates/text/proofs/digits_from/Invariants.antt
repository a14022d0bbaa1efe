-- The digits passed are held in the value. Assumes nothing.
use Rattle.std.proofs.Common.{◌≡◌, ◌-◌, ◌≤◌, length, drop}
use Rattle.text.specs.Inner.Numbers.{most}
use Rattle.text.specs.Inner.Spots.{digits_held}
use Rattle.text.proofs.digits_from.Given as goal

abbrev pub invariant-loop-digit : goal.invariant-loop-digit
invariant-loop-digit l =
    record { told : digits_held l.value (drop l.at l.text) ≡ digits_held l.first (drop l.from l.text); low : l.value ≤ most }

abbrev pub decreases-loop-digit : goal.decreases-loop-digit
decreases-loop-digit l = length l.text - l.at
