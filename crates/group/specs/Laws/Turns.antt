-- Laws of what a turn of a group with marks leaves in the lists. Assumes nothing.
use Rattle.std.specs.Prelude.{ℕ, List, ◌≡◌, length}
use Rattle.std.proofs.Common.{sym, ◌∙◌}
use Rattle.model.specs.Running.{running, restored, Marked}
use Rattle.model.specs.Shares.{Ranges}
use Rattle.model.proofs.Laws.Lists.{lows_within, highs_within}
use Rattle.model.proofs.Laws.Running.{marked_length, nobody_shut, running_all}
use Rattle.model.proofs.Laws.Marked.{restored_running, restored_all}
use Rattle.model.specs.declared.Limits.{Limits}
use Rattle.model.specs.declared.Turn.{Turn}
use Rattle.model.specs.declared.Turn.TheVariants.{NoPlan}
use Rattle.narrow.specs.Inner.Turns.{Turned}
use Rattle.group.specs.Inner.Turns.{MarkedTurned}

-- a turn of the running members, whose numbers go back to their places, is one of all
pub turn_restored : (turn : Turn) {marks lows highs front_lows front_highs next_lows next_highs left_lows left_highs : List ℕ} {total : ℕ} {limits : Limits}
    → Marked marks lows highs → Ranges lows highs → front_lows ≡ running marks lows → front_highs ≡ running marks highs
    → Turned front_lows front_highs total limits turn next_lows next_highs
    → left_lows ≡ restored marks next_lows → left_highs ≡ restored marks next_highs
    → MarkedTurned marks lows highs total limits turn left_lows left_highs
turn_restored Turn.Narrowed marked ranges lows_front highs_front turned lows_back highs_back =
    record {
      answer = rw (← lows_front, ← highs_front) turned.answer;
      lows_are = rw (lows_back, ← lows_front, ← highs_front, turned.lows_are);
      highs_are = rw (highs_back, ← lows_front, ← highs_front, turned.highs_are);
    }
turn_restored (NoPlan number) marked ranges lows_front highs_front turned lows_back highs_back =
    record {
      answer = rw (← lows_front, ← highs_front) turned.answer;
      lows_are = rw (lows_back, turned.lows_are, lows_front) (restored_running marked (lows_within ranges));
      highs_are = rw (highs_back, turned.highs_are, highs_front) (restored_running marked (highs_within ranges));
    }

-- where nobody is shut, a turn of the lists as they are is one of the running members
pub turn_of_all : (turn : Turn) {marks lows highs left_lows left_highs : List ℕ} {total : ℕ} {limits : Limits}
    → Marked marks lows highs → Ranges lows highs → length (running marks marks) ≡ length marks
    → Turned lows highs total limits turn left_lows left_highs → length left_lows ≡ length lows → length left_highs ≡ length highs
    → MarkedTurned marks lows highs total limits turn left_lows left_highs
turn_of_all turn {marks} {lows} {highs} {left_lows} {left_highs} marked ranges all turned low_count high_count =
    let none_shut = nobody_shut marks all in
    let (lows_many, highs_many) = marked_length marked in
    turn_restored turn marked ranges
    (sym (running_all marks lows lows_many none_shut)) (sym (running_all marks highs highs_many none_shut)) turned
    (sym (restored_all marks left_lows (low_count ∙ lows_many) none_shut)) (sym (restored_all marks left_highs (high_count ∙ highs_many) none_shut))
