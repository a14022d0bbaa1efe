-- The checks, in turn. Assumes nothing.
use Rattle.std.proofs.Common.{◌≡◌, true, length, sym, ◌∙◌}
use Rattle.list_checks.specs.Checks.{unit_within, unit_ordered, first_beyond, first_crossed, sized, check_lists}
use Rattle.list_checks.proofs.Laws.Findings.{sized_of}
use Rattle.list_checks.proofs.Laws.Units.{place_some, place_none, sound_units}
use Rattle.list_checks.proofs.check_lists.Goals as goal
use Rattle.list_checks.proofs.check_lists.Goals.{In_default, Else-not-is_sized, Then-are_sound}

pub returns-then-not-is_sized : goal.returns-then-not-is_sized
unfolding check_lists
returns-then-not-is_sized c = rw (← c.is_sized.ensures, c.if-not-is_sized.true) c.refused.ensures

-- the lists have a group's lengths
passed-1 : (c : Else-not-is_sized) → sized (length c.args.lows.now) (length c.args.highs.now) (length c.args.marks.now) c.args.room ≡ true
passed-1 c = sym c.is_sized.ensures ∙ c.if-not-is_sized.false

-- nothing is wrong with the units
none-wrong : (c : Then-are_sound) → (first_beyond c.args.lows.now c.args.highs.now c.args.marks.now ≡ 0)
    × (first_crossed c.args.lows.now c.args.highs.now c.args.marks.now ≡ 0)
none-wrong c =
    let sizes = sized_of _ _ _ _ (sym c.is_sized.ensures ∙ c.if-not-is_sized.false) in
    sound_units _ _ _ sizes.paired sizes.each_marked (sym c.are_sound.ensures ∙ c.if-are_sound.true)

pub returns-then-amounts : goal.returns-then-amounts
unfolding check_lists
returns-then-amounts c =
    let (beyond, crossed) = none-wrong (goal.at.returns-then-amounts c).Then-are_sound in
    rw (passed-1 (goal.at.returns-then-amounts c).Else-not-is_sized, beyond, crossed, c.if-amounts.true)

pub returns-then-are_sound : goal.returns-then-are_sound
unfolding check_lists
returns-then-are_sound c =
    let (beyond, crossed) = none-wrong (goal.at.returns-then-are_sound c).Then-are_sound in
    rw (passed-1 (goal.at.returns-then-are_sound c).Else-not-is_sized, beyond, c.if-amounts.false) c.refused-then-are_sound.ensures

pub returns-in-Some : goal.returns-in-Some
unfolding check_lists
returns-in-Some c =
    let found = place_some _ _ (c.in-Some.ensures unit_within (λ low high mark answer e. e)) in
    rw (passed-1 (goal.at.returns-in-Some c).Else-not-is_sized, found.0, found.1) c.refused-in-Some.ensures

-- no unit's number is beyond its range
passed-2 : (c : In_default) → first_beyond c.args.lows.now c.args.highs.now c.args.marks.now ≡ 0
passed-2 c = place_none _ (c.in_default.ensures unit_within (λ low high mark answer e. e))

pub returns-then-not-amounts : goal.returns-then-not-amounts
unfolding check_lists
returns-then-not-amounts c =
    rw (passed-1 (goal.at.returns-then-not-amounts c).Else-not-is_sized, passed-2 (goal.at.returns-then-not-amounts c).In_default, c.if-not-amounts.true) c.refused-then-not-amounts.ensures

pub returns-in-Some-first_failing : goal.returns-in-Some-first_failing
unfolding check_lists
returns-in-Some-first_failing c =
    let found = place_some _ _ (c.in-Some-first_failing.ensures unit_ordered (λ low high mark answer e. e)) in
    rw (
      passed-1 (goal.at.returns-in-Some-first_failing c).Else-not-is_sized,
      passed-2 (goal.at.returns-in-Some-first_failing c).In_default,
      c.if-not-amounts.false,
      found.0,
      found.1,
    )
    c.refused-in-Some-first_failing.ensures

pub returns : goal.returns
unfolding check_lists
returns c =
    let none = place_none _ (c.in_default-first_failing.ensures unit_ordered (λ low high mark answer e. e)) in
    rw (passed-1 (goal.at.returns c).Else-not-is_sized, passed-2 (goal.at.returns c).In_default, c.if-not-amounts.false, none)
