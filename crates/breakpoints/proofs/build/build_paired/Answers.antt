-- The bounds that rows are made of are copies of all members'. Assumes nothing.
use Rattle.breakpoints.specs.Laws.Kept.{kept_all}
use Rattle.breakpoints.proofs.build.build_paired.Goals as goal

pub build_on-requires-clause-kept : goal.build_on-requires-clause-kept
build_on-requires-clause-kept c = rw (c.copy.ensures, c.copy-2.ensures) (kept_all c.requires.sound_ranges.ranges)
