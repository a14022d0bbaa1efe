-- The brackets passed are counted, and closing ones were nowhere more. Assumes nothing.
use Rattle.std.proofs.Common.{◌≡◌, drop, ◌≤◌}
use Rattle.text.specs.Ailments.{front_line, paired}
use Rattle.text.proofs.ailments.is_paired.Given as goal

abbrev pub invariant-loop-byte : goal.invariant-loop-byte
invariant-loop-byte l = record {
  told : paired l.opened l.closed (front_line (drop l.byte-index l.byte-items)) ≡ paired 0 0 (front_line (drop l.from l.text));
  few : l.closed ≤ l.opened;
  passed : l.opened ≤ l.byte-index;
}
