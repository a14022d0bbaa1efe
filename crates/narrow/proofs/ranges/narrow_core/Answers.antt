-- Without shares the answer is 11; else it goes by whether there is a plan. Assumes nothing.
use Rattle.std.proofs.Common.{refl, sym, ◌∙◌}
use Rattle.model.specs.Plans.{turn_of}
use Rattle.model.specs.Sound.{HasShares}
use Rattle.model.proofs.Laws.Sound.{has_shares_lem}
use Rattle.narrow.specs.Laws.Turns.{turn_narrowed, turn_planless}
use Rattle.narrow.proofs.ranges.narrow_core.Goals as goal
use Rattle.narrow.proofs.ranges.narrow_core.Goals.{Else-not-has_shares}

pub returns-then-not-has_shares : goal.returns-then-not-has_shares
unfolding turn_of
returns-then-not-has_shares c = record {
  answer = rw (← c.has_shares.ensures, c.if-not-has_shares.true);
  lows_are = refl;
  highs_are = refl;
}

-- shares exist
shared : (c : Else-not-has_shares) → HasShares c.args.lows.now c.args.highs.now c.args.question.total
shared c = has_shares_lem c.requires c.args.question.total (sym c.has_shares.ensures ∙ c.if-not-has_shares.false)

pub narrow_sized-requires : goal.narrow_sized-requires
narrow_sized-requires c = shared (goal.at.narrow_sized-requires c).Else-not-has_shares

pub returns-then-not-narrow_sized : goal.returns-then-not-narrow_sized
returns-then-not-narrow_sized c =
    turn_planless (shared (goal.at.returns-then-not-narrow_sized c).Else-not-has_shares) c.narrow_sized.ensures c.if-not-narrow_sized.true

pub returns : goal.returns
returns c = turn_narrowed (shared (goal.at.returns c).Else-not-has_shares) c.narrow_sized.ensures c.if-not-narrow_sized.false
