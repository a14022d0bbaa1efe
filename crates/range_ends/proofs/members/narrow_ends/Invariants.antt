-- The ends of the members passed are written. Assumes nothing.
use Rattle.std.proofs.Common.{◌≡◌, ◌≤◌, length, drop}
use Rattle.model.proofs.Laws.Writing.{Filled}
use Rattle.range_ends.specs.Inner.Known.{SharedHolds}
use Rattle.range_ends.specs.Inner.Members.{narrowed_ends}
use Rattle.range_ends.proofs.members.narrow_ends.Given as goal

abbrev pub invariant-loop-member : goal.invariant-loop-member
invariant-loop-member l = record {
  passed : l.member-iterator.count ≤ length l.lows;
  lows : l.member-iterator.iter.a.rest.now ≡ drop l.member-iterator.count l.lows;
  highs : l.member-iterator.iter.b.rest.now ≡ drop l.member-iterator.count l.highs;
  filled : Filled (narrowed_ends l.up l.lows l.highs l.question.total l.question.limits) l.initial.ends l.ends l.member-iterator.count;
  known : SharedHolds l.lows l.highs l.question.total l.question.limits l.shared;
}
