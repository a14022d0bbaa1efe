-- Refusals by number and place. Assumes nothing.
use Rattle.std.specs.Prelude.{ℕ, Bool}
use Rattle.model.specs.Shares.{pick}
use Rattle.model.specs.declared.Refusal.{Refusal}

-- 01: a refusal is number and place
abbrev pub refusal : ℕ → ℕ → Refusal
refusal number place = record { number = number; place = place }

-- the number of a refusal unless the test holds, and what comes after it
abbrev pub unless : Bool → ℕ → ℕ → ℕ
unless good number rest = pick good rest number
