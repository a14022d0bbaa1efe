-- The shares are copied, and the running members' ones of the copy stand at its front. Assumes nothing.
use native.Mathlib.Omega.{arith}
use mathlib.Core.List.{◌++◌}
use mathlib.Core.Path.{◌≡◌, ap, ◌∙◌}
use lib.ListN.{length, take, drop}
use lib.Seq.{take_at, take-append-le}
use Prim.Native.Nat.{◌≤◌}
use Rattle.model.specs.Figures.{pairs}
use Rattle.model.specs.Running.{running}
use Rattle.model.proofs.Laws.Bounds.{sum_small}
use Rattle.model.proofs.Laws.Running.{marked_length, running_few, running_sum}
use Rattle.levelling.specs.Laws.Shared.{own_within}
use Rattle.levelling.proofs.plans.pairs_of.Goals as goal
use Rattle.levelling.proofs.plans.pairs_of.Goals.{After-pack-ran}

pub pack-ran-requires : goal.pack-ran-requires
pack-ran-requires c =
    rw (take_at c.copy_from_slice.new.self (drop (length c.args.shares.now) c.room-numbers.result) (length c.args.shares.now) (ap length c.copy_from_slice.ensures.after) ∙ c.copy_from_slice.ensures.after)
    (marked_length c.requires.marked).0

-- the front of the room held the shares, and the front of what it holds then are the running members' ones
ran : (c : After-pack-ran) → take c.pack-ran.result (c.pack-ran.new.numbers ++ drop (length c.args.shares.now) (c.copy_from_slice.new.self ++ drop (length c.args.shares.now) c.room-numbers.result))
    ≡ running c.args.marks.now c.args.shares.now
ran c =
    let numbers = c.copy_from_slice.new.self ++ drop (length c.args.shares.now) c.room-numbers.result in
    let front : take (length c.args.shares.now) numbers ≡ c.args.shares.now = take_at _ _ _ (ap length c.copy_from_slice.ensures.after) ∙ c.copy_from_slice.ensures.after in
    let few : c.pack-ran.result ≤ length c.pack-ran.new.numbers =
    omega (arith, c.pack-ran.ensures.value, running_few c.args.marks.now (take (length c.args.shares.now) numbers), c.pack-ran.auto.numbers) in
    take-append-le _ c.pack-ran.new.numbers _ few ∙ c.pack-ran.ensures.numbers_after ∙ ap (running c.args.marks.now) front

pub pairs_among-requires-clause-shares_bound : goal.pairs_among-requires-clause-shares_bound
pairs_among-requires-clause-shares_bound c =
    let within = own_within c.requires.sound.ranges in
    rw (ran (goal.at.pairs_among-requires-clause-shares_bound c).After-pack-ran)
    (omega (arith, running_sum c.requires.marked within, sum_small c.requires.sound within))

pub returns : goal.returns
returns c = c.pairs_among.ensures ∙ ap pairs (ran (goal.at.returns c).After-pack-ran)
