-- The members passed are in the tally; what is left is collected on. A turn spends bytes of the text. Assumes nothing.
use Rattle.std.proofs.Common.{ℕ, ◌+◌, ◌≤◌, true, length, drop, ◌≡◌}
use Rattle.form.specs.Laws.Tally.{collect}
use Rattle.form.proofs.read_members.Given as goal

abbrev pub invariant-loop-number : goal.invariant-loop-number
invariant-loop-number l = record {
  turns : ℕ;
  enough : length (drop l.next.at l.text) ≤ turns;
  counted : l.count + length (drop l.next.at l.text) ≤ length l.text;
  kept : length l.flat ≡ length l.initial.flat;
  told : collect l.units l.from turns (record { count = l.count; within = l.within; flat = l.flat }) (drop l.next.at l.text)
      ≡ collect l.units l.from (length (drop l.initial.next.at l.text)) (record { count = 0; within = true; flat = l.initial.flat }) (drop l.initial.next.at l.text);
}

abbrev pub decreases-loop-number : goal.decreases-loop-number
decreases-loop-number l = length (drop l.next.at l.text)
