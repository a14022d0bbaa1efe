-- A byte is one store. Assumes nothing.
use native.Mathlib.Omega.{arith}
use mathlib.Core.Path.{sym}
use Rattle.print.specs.Laws.Written.{written_byte}
use Rattle.print.proofs.put_byte.Goals as goal

pub returns : goal.returns
returns c = record { moved = omega arith; holds = sym (written_byte _ _ _) }
