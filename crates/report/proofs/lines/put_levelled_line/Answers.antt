-- A levelled group has the line of its level, figures and shares; a refusal writes nothing. Assumes nothing.
use mathlib.Core.List.{List, []}
use mathlib.Core.Path.{refl}
use native.Mathlib.Omega.{arith}
use Prim.Native.Nat.{ℕ}
use Rattle.print.specs.Inner.Written.{written, Wrote}
use Rattle.report.proofs.lines.put_levelled_line.Goals as goal

-- no bytes are written at once
nothing : {buffer : List ℕ} {at : ℕ} → Wrote [] buffer at buffer at
unfolding written
nothing = record { moved = omega arith; holds = refl }

pub returns-in_default-clause-wrote : goal.returns-in_default-clause-wrote
returns-in_default-clause-wrote c = rw c.in_default.is nothing
