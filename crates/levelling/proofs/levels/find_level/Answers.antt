-- The level lies between 0 and one above the greatest share, T at it is at most the total, and 20 halvings and one addition more are at most 22. Assumes nothing.
use native.Mathlib.Omega.{arith}
use Rattle.model.specs.Levels.{remainder}
use Rattle.model.proofs.Laws.Level.{total_at_least}
use Rattle.levelling.specs.Laws.Additions.{most_additions_lem, few_levels}
use Rattle.model.proofs.Laws.Sound.{level_within}
use Rattle.levelling.proofs.levels.find_level.Goals as goal

pub level_between-level-requires-clause-level_between : goal.level_between-level-requires-clause-level_between
level_between-level-requires-clause-level_between c =
    let shared = c.requires.has_shares in
    record {
      sound = shared.sound;
      apart = omega arith;
      share = omega arith;
      holds = rw (total_at_least shared.sound.ranges) shared.low;
      fails = λ share. absurd (omega arith);
    }

pub total_at-requires-clause-additions_bound : goal.total_at-requires-clause-additions_bound
total_at-requires-clause-additions_bound c = omega (arith, c.level_between-level.ensures.by_halving 21 few_levels)

pub overflow_sub-left : goal.overflow_sub-left
overflow_sub-left c =
    rw (c.total_at.ensures.value, c.level_between-level.ensures.value) (level_within c.requires.has_shares)

pub returns : goal.returns
unfolding remainder
returns c =
    record {
      level_value = c.level_between-level.ensures.value;
      left_value = rw (c.total_at.ensures.value, c.level_between-level.ensures.value);
      additions_bound = most_additions_lem _ _ _ _ few_levels c.level_between-level.ensures.by_halving c.total_at.ensures.additions_after;
    }
