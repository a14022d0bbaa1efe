-- The tests in 02's order. Assumes nothing.
use Prim.Native.Nat.{ℕ}
use mathlib.Core.Bool.{true, false}
use mathlib.Core.List.{List}
use mathlib.Core.Path.{◌≡◌, refl, ◌∙◌}
use Rattle.text.specs.Ailments.{front_line, ailment_of, ended, paired, is_named}
use Rattle.model.proofs.Laws.Refusals.{passes, fails}
use Rattle.text.specs.Laws.Walking.{ended_front, named_front}
use Rattle.text.proofs.ailments.ailment.Goals as goal

module _ (s : List ℕ) where
  unended : ended s ≡ false → 13 ≡ ailment_of (front_line s)
  unfolding ailment_of
  unended e = fails _ (ended_front s ∙ e)

  unpaired : ended s ≡ true → paired 0 0 (front_line s) ≡ false → 14 ≡ ailment_of (front_line s)
  unfolding ailment_of
  unpaired e p = passes 13 (ended_front s ∙ e) (fails _ p)

  unnamed : ended s ≡ true → paired 0 0 (front_line s) ≡ true → is_named s ≡ false → 15 ≡ ailment_of (front_line s)
  unfolding ailment_of
  unnamed e p n = passes 13 (ended_front s ∙ e) (passes 14 p (fails 3 (named_front s ∙ n)))

  otherwise : ended s ≡ true → paired 0 0 (front_line s) ≡ true → is_named s ≡ true → 3 ≡ ailment_of (front_line s)
  unfolding ailment_of
  otherwise e p n = passes 13 (ended_front s ∙ e) (passes 14 p (passes 15 (named_front s ∙ n) refl))

pub returns-then-not-is_ended : goal.returns-then-not-is_ended
returns-then-not-is_ended c = unended _ cc

pub returns-then-not-is_paired : goal.returns-then-not-is_paired
returns-then-not-is_paired c = unpaired _ (cc) (cc)

pub returns-then-not-is_named : goal.returns-then-not-is_named
returns-then-not-is_named c = unnamed _ (cc) (cc) (cc)

pub returns : goal.returns
returns c = otherwise _ (cc) (cc) (cc)
