-- The value's distances come and the own share's go, but for the one between them. Assumes nothing.
use Rattle.std.proofs.Common.{◌≡◌, ℕ, ◌+◌, List, refl, arith}
use Rattle.model.specs.Figures.{apart, pairs}
use Rattle.model.specs.Levels.{clamped}
use Rattle.probe.specs.Inner.Pinned.{Pin}
use Rattle.breakpoints.specs.Laws.PairRows.{far_small, distances_small}
use Rattle.probe.specs.Laws.PinnedPairs.{value_told}
use Rattle.probe.proofs.pairs.with_value.Goals as goal
use Rattle.probe.proofs.pairs.with_value.Goals.{After-far_from-far}

-- both distances
told : (c : After-far_from-far) {lows' highs' : List ℕ} {gap : ℕ}
    → Pin c.args.lows.now c.args.highs.now c.args.trial.low c.args.trial.high c.args.trial.value lows' highs'
    → gap ≡ apart c.clamp-own.result c.args.trial.value
    → pairs (clamped lows' highs' c.args.here.level) + (c.far_from-near.result + gap) ≡ c.args.here.pairs + c.far_from-far.result
told c pin is =
    value_told c.requires.pair_lookable.sound.ranges pin c.requires.distances_at c.clamp-own.ensures c.far_from-near.ensures c.far_from-far.ensures is

pub overflow_add-result : goal.overflow_add-result
overflow_add-result c =
    let sound = c.requires.pair_lookable.sound in
    omega (
      arith,
      sound.few,
      c.far_from-far.ensures,
      (far_small sound.ranges c.args.here.level c.args.trial.value c.requires.asked.pin.value).0,
      (distances_small sound.ranges sound.few c.requires.level_le_greatest_share c.requires.distances_at).2,
    )

pub overflow_sub-result : goal.overflow_sub-result
overflow_sub-result c = omega (arith, told (goal.at.overflow_sub-result c).After-far_from-far c.requires.asked.pin refl)

pub overflow_sub-result-2 : goal.overflow_sub-result-2
overflow_sub-result-2 c = omega (arith, told (goal.at.overflow_sub-result-2 c).After-far_from-far c.requires.asked.pin c.abs_diff.ensures)

pub returns : goal.returns
returns c = record { is = λ pin. omega (arith, told (goal.at.returns c).After-far_from-far pin c.abs_diff.ensures) }
