-- The numbers passed are written. Assumes nothing.
use native.Mathlib.Omega.{arith}
use mathlib.Core.Path.{refl}
use Rattle.model.proofs.Laws.Writing.{filled_none, filled_more, filled_all}
use Rattle.model.proofs.lists.copy.Goals as goal

pub loop-i-init : goal.loop-i-init
loop-i-init c = filled_none _ _

pub loop-i-preserved : goal.loop-i-preserved
loop-i-preserved c = filled_more c.loop-i.invariant (omega arith) (omega arith) _ refl

pub returns : goal.returns
returns c = filled_all c.loop-i.invariant (omega arith) (omega arith)
