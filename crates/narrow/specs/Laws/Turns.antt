-- Laws of what a turn of narrowing leaves in the lists. Assumes nothing.
use Rattle.std.specs.Prelude.{ℕ, Bool, true, false, List, ◌≡◌}
use Rattle.std.proofs.Common.{sym, ◌∙◌}
use Rattle.model.specs.Plans.{turn_of}
use Rattle.model.specs.Shares.{pick}
use Rattle.model.specs.Sound.{HasShares}
use Rattle.model.proofs.Laws.Sound.{shares_had}
use Rattle.model.proofs.Laws.Turns.{found_turn}
use Rattle.model.specs.declared.Limits.{Limits}
use Rattle.model.specs.declared.Turn.{Turn}
use Rattle.model.specs.declared.Turn.TheVariants.{NoPlan}
use Rattle.narrow.specs.Inner.Turns.{NarrowedIf, after_turn, Turned}

-- with a plan the narrowed list is left
pub if_planned : {planned : Bool} (narrowed was list : List ℕ) → planned ≡ true → list ≡ pick planned narrowed was → list ≡ narrowed
if_planned narrowed was list found held = rw found at held

-- a turn that narrows leaves the narrowed list, and one without a plan the list that was
pub after_narrowed : {turn : Turn} (narrowed was list : List ℕ) → turn ≡ Turn.Narrowed → list ≡ after_turn turn narrowed was → list ≡ narrowed
after_narrowed narrowed was list is_turn held = rw is_turn at held

pub after_refused : {turn : Turn} {number : ℕ} (narrowed was list : List ℕ) → turn ≡ NoPlan number → list ≡ after_turn turn narrowed was
    → list ≡ was
after_refused narrowed was list is_turn held = rw is_turn at held

-- a group with shares that has a plan is narrowed, and for one that has none the answer is 12
module _ {lows highs left_lows left_highs : List ℕ} {total : ℕ} {limits : Limits} {planned : Bool} (shared : HasShares lows highs total)
    (left : NarrowedIf lows highs total limits planned left_lows left_highs) where
  pub turn_narrowed : planned ≡ true → Turned lows highs total limits Turn.Narrowed left_lows left_highs
  turn_narrowed found = record {
    answer = sym (found_turn _ _ _ _ (sym left.answer ∙ found));
    lows_are = if_planned _ _ _ found left.lows_are;
    highs_are = if_planned _ _ _ found left.highs_are;
  }

  pub turn_planless : planned ≡ false → Turned lows highs total limits (NoPlan 12) left_lows left_highs
  unfolding turn_of
  turn_planless none = record {
    answer = rw (shares_had shared, ← left.answer, none);
    lows_are = rw none at left.lows_are;
    highs_are = rw none at left.highs_are;
  }
