-- A call on a text with its group lines in another order is let through too. Assumes nothing.
use Rattle.std.specs.Prelude.{ℕ, List, length}
use Rattle.std.proofs.Common.{ap}
use Rattle.job.specs.Orders.{Reordered}
use Rattle.job.proofs.Laws.Orders.{reordered_accepted}
use Rattle.works.specs.Called.{Cleared}

module _ {text other lows highs : List ℕ} {scratch : ℕ} (cleared : Cleared text lows highs scratch) (reordered : Reordered text other) where
  -- the checks ahead of 11 let the reordered text through
  unfoldable pub reordered_cleared : Cleared other lows highs scratch
  reordered_cleared =
      let (again, reads, same) = reordered_accepted reordered cleared.reads in
      record { found = again; reads = reads; passes = rw (← ap length same.same_lows, ← same.same_marks) cleared.passes }
