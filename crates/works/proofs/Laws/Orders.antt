-- Calls on a text with its group lines in another order: let through too, and the same table is left. Assumes nothing.
use Rattle.std.specs.Prelude.{ℕ, ◌↔◌, ◌≡◌, length}
use mathlib.Core.List.{List, Memᴰ}
use Rattle.std.proofs.Common.{ap}
use Rattle.job.specs.Orders.{Reordered}
use Rattle.job.proofs.Laws.Orders.{reordered_accepted}
use Rattle.job.specs.SameJob.{SameButOrder}
use Rattle.job.proofs.Laws.SameJob.{same_members}
use Rattle.model.specs.Groups.{Group}
use Rattle.works.specs.Called.{Cleared, groups, marks, count, called, WithoutPlan}
use Rattle.works.proofs.Laws.Repeated.{called_same_groups}
use Rattle.works.specs.Reordering.{reordered_cleared}

module _ {text other lows highs : List ℕ} {scratch : ℕ} (cleared : Cleared text lows highs scratch) (reordered : Reordered text other) where
  -- its job is the same but for the order of its groups
  pub same_job : SameButOrder cleared.found (reordered_cleared cleared reordered).found
  unfolding reordered_cleared
  same_job = (reordered_accepted reordered cleared.reads).2

  -- as many units
  pub same_units : count cleared ≡ count (reordered_cleared cleared reordered)
  same_units = ap length same_job.same_lows

  -- the same of them shut
  pub same_shut : marks cleared ≡ marks (reordered_cleared cleared reordered)
  same_shut = same_job.same_marks

  -- and the same groups
  pub same_groups : (group : Group) → Memᴰ group (groups cleared) ↔ Memᴰ group (groups (reordered_cleared cleared reordered))
  same_groups = same_members same_job

  -- every order of the group lines gives the same settled table, or every order is refused for want of a plan
  pub called_any_order : ((called cleared).lows ≡ (called (reordered_cleared cleared reordered)).lows)
      × ((called cleared).highs ≡ (called (reordered_cleared cleared reordered)).highs)
      × (WithoutPlan cleared ↔ WithoutPlan (reordered_cleared cleared reordered))
  called_any_order = called_same_groups cleared (reordered_cleared cleared reordered) same_units same_shut same_groups
