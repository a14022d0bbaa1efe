-- Bisection between a share with T at most the total and one above it ends at the level; a turn adds up T once and halves the levels left. Assumes nothing.
use borrow.Author.Rules.{rules}
use borrow.Author.Tests.{leb-true, leb-false}
use native.Mathlib.Omega.{arith}
use mathlib.Core.Path.{◌≡◌, sym, ◌∙◌}
use Prim.Native.Nat.{suc}
use Rattle.model.proofs.Laws.Level.{level_unique}
use Rattle.levelling.specs.Laws.Additions.{halved_none, halved_once, few_levels}
use Rattle.levelling.proofs.levels.level_between.Goals as goal

pub holds_at-requires-clause-additions_bound : goal.holds_at-requires-clause-additions_bound
holds_at-requires-clause-additions_bound c = omega (arith, c.loop-top.invariant.spent _ (halved_none _ _) 21 (omega (arith, few_levels)))

pub loop-top-preserved-then-holds_at : goal.loop-top-preserved-then-holds_at
loop-top-preserved-then-holds_at c =
    let so_far = c.loop-top.invariant in
    record {
      between = record {
        sound = so_far.between.sound;
        apart = search rules;
        share = so_far.between.share;
        holds = leb-true _ _ (sym c.holds_at.ensures.value ∙ c.if-holds_at.true);
        fails = so_far.between.fails;
      };
      spent = λ after more. so_far.spent after (halved_once _ _ _ _ _ (omega arith) (omega arith) c.holds_at.ensures.additions_after more);
    }

pub loop-top-preserved : goal.loop-top-preserved
loop-top-preserved c =
    let so_far = c.loop-top.invariant in
    record {
      between = record {
        sound = so_far.between.sound;
        apart = search rules;
        share = search rules;
        holds = so_far.between.holds;
        fails = λ h. leb-false _ _ (sym c.holds_at.ensures.value ∙ c.if-holds_at.false);
      };
      spent = λ after more. so_far.spent after (halved_once _ _ _ _ _ (omega arith) (omega arith) c.holds_at.ensures.additions_after more);
    }

pub returns : goal.returns
returns c =
    let found = c.loop-top.invariant in
    let next : c.loop-top.top ≡ suc c.loop-top.v = omega arith in
    record {
      value = level_unique c.args.lows.now c.args.highs.now c.args.total c.loop-top.v (omega arith) found.between.holds (λ below. rw next at (found.between.fails (omega arith)));
      by_halving = found.spent _ (halved_none _ _);
    }
