-- The level and the copies left over are found, and the levelled shares are theirs. Assumes nothing.
use Rattle.std.proofs.Common.{◌≡◌, ◌++◌, length, take, drop, refl, ◌∙◌}
use Rattle.model.specs.Levels.{levelled}
use Rattle.model.proofs.Laws.Level.{level_share}
use Rattle.model.proofs.Laws.Levelled.{levelled_within, levelled_adds}
use Rattle.levelling.specs.Laws.Shared.{shared_out, plan_front}
use Rattle.model.proofs.Laws.Shares.{share_valid, share_copies}
use Rattle.model.proofs.Laws.Sound.{levelled_is, levelled_length}
use Rattle.levelling.specs.Laws.Additions.{level_known, has_takers}
use Rattle.levelling.proofs.share_out.Goals as goal
use Rattle.levelling.proofs.share_out.Goals.{After-fill_plan}

pub fill_plan-requires : goal.fill_plan-requires
fill_plan-requires c =
    let is = c.find_level-found.ensures in
    record {
      has_takers = has_takers c.requires.has_shares _ _ is.level_value is.left_value;
      lows_in_bounds = c.requires.lows_in_bounds;
      known_level = level_known c.requires.has_shares _ _ is.level_value is.left_value;
    }

-- the plan once it is filled begins with the levelled shares
filled : (c : After-fill_plan) → c.fill_plan.new.plan ≡ levelled c.args.lows.now c.args.highs.now c.args.total ++ drop (length c.args.lows.now) c.args.plan.now
filled c =
    let is = c.find_level-found.ensures in
    rw (← levelled_is _ _ _ _ _ is.level_value is.left_value) c.fill_plan.ensures

front : (c : After-fill_plan) → take (length c.args.lows.now) c.fill_plan.new.plan ≡ levelled c.args.lows.now c.args.highs.now c.args.total
front c = plan_front _ _ _ _ (levelled_length c.requires.has_shares.sound c.args.total) (filled c)

-- which share the total out
pub figures_of-figures-requires : goal.figures_of-figures-requires
figures_of-figures-requires c =
    let shared = c.requires.has_shares in
    let ranges = shared.sound.ranges in
    rw (front (goal.at.figures_of-figures-requires c).After-fill_plan)
    (shared_out shared.sound c.requires.marked (levelled_within ranges _) (levelled_adds ranges _ shared.low shared.high))

pub returns-clause-figures_value : goal.returns-clause-figures_value
returns-clause-figures_value c = rw (front (goal.at.returns-clause-figures_value c).After-fill_plan) at c.figures_of-figures.ensures

pub returns-clause-plan_after : goal.returns-clause-plan_after
returns-clause-plan_after c = filled (goal.at.returns-clause-plan_after c).After-fill_plan

-- the level is a share
pub unwrap-level-requires : goal.unwrap-level-requires
unwrap-level-requires c =
    let small = level_share c.args.lows.now c.args.highs.now c.args.total in
    rw (share_valid _ _ (rw c.find_level-found.ensures.level_value small) c.new.ensures) refl

pub returns-clause-level_value : goal.returns-clause-level_value
returns-clause-level_value c = share_copies _ c.new.ensures c.unwrap-level.ensures ∙ c.find_level-found.ensures.level_value
