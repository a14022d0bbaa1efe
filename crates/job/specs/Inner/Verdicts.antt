-- The verdict on a line as the code answers it. Assumes nothing.
use Rattle.std.specs.Prelude.{ℕ, zero, suc, Result, Ok, Err}
use Rattle.model.specs.Refusals.{refusal}
use Rattle.model.specs.declared.Refusal.{Refusal}

-- a refusal by the verdict's number and the line's place, none where the verdict is 0
abbrev pub verdict_answer : ℕ → ℕ → Result Unit Refusal
verdict_answer zero place = Ok tt
verdict_answer (suc number) place = Err (refusal (suc number) place)
