-- The checks on the lists of one group give an answer exactly if 01's words for it hold. Assumes nothing.
use Rattle.std.specs.Prelude.{ℕ, zero, suc, ◌≤◌, Bool, true, false, ◌&&◌, List, [], ◌∷◌, ◌↔◌, ◌≡◌, refl, leb, eqb, length, Result, Ok, Err}
use Rattle.std.proofs.Common.{inl, inr, le_of_suc-le-suc, arith}
use Rattle.std.proofs.Math.Nat.{suc_inj}
use borrow.Author.Tests.{leb-true, le-leb, lt-ltb, eqb-true, eq-eqb}
use Rattle.model.specs.Running.{Marked}
use Rattle.model.specs.Shares.{Ranges, greatest_share, most_units}
use Rattle.model.proofs.Laws.Tests.{both, both_left, both_right, clash, refuted}
use Rattle.model.specs.declared.Refusal.{Refusal}
use Rattle.list_checks.specs.Checks.{are_shares, unit_within, unit_ordered, first_beyond, first_crossed, sized, refuse_if, check_lists}
use Rattle.model.specs.Sound.{SoundRanges}
use Rattle.model.proofs.Laws.Sound.{sound}
use Rattle.list_checks.specs.First.{EachUnit}
use Rattle.list_checks.proofs.Laws.First.{none_failing, first_failing_lem}
use Rattle.list_checks.specs.Findings.{Sized, SizedLists, Finding, CheckNumber}

-- lists have a group's lengths exactly where the test of them holds
pub sized_of : (count other marked room : ℕ) → sized count other marked room ≡ true → Sized count other marked room
sized_of count other marked room held =
    let second = both_right (leb 1 count) _ held in
    let third = both_right (eqb count other) _ second in
    let fourth = both_right (eqb count marked) _ third in
    record {
      some = leb-true _ _ (both_left _ _ held);
      paired = eqb-true _ _ (both_left _ _ second);
      each_marked = eqb-true _ _ (both_left _ _ third);
      few = leb-true _ _ (both_left _ _ fourth);
      fits = leb-true _ _ (both_right (leb count most_units) _ fourth);
    }

pub sized_is : {count other marked room : ℕ} → Sized count other marked room → sized count other marked room ≡ true
sized_is {count} {other} {marked} {room} s =
    both (le-leb 1 count s.some)
    (both (eq-eqb count other s.paired)
    (both (eq-eqb count marked s.each_marked) (both (le-leb count _ s.few) (le-leb count room s.fits))))

-- a running unit's range is in order exactly if its low is at most its high
run_ordered : (low high : ℕ) → unit_ordered low high 0 ≡ true → low ≤ high
run_ordered low high held = leb-true low high held

-- a shut unit's exactly if it is 0 to 0
shut_ordered : (low high : ℕ) → unit_ordered low high 1 ≡ true → (low ≡ 0) × (high ≡ 0)
shut_ordered low high held =
    let zeros : eqb low 0 && eqb high 0 ≡ true = held in
    (eqb-true low 0 (both_left _ _ zeros), eqb-true high 0 (both_right (eqb low 0) _ zeros))

-- units have ranges, each shut one 0 to 0, exactly if their numbers are in their ranges and in order
marked_within : {marks lows highs : List ℕ} → Marked marks lows highs → Ranges lows highs → EachUnit unit_within lows highs marks
marked_within Marked.none Ranges.none i below = absurd (omega arith)
marked_within (Marked.run {l} {h} m) (Ranges.also p q r) zero below =
    both (both (le-leb l greatest_share (omega arith)) (le-leb h greatest_share q)) refl
marked_within (Marked.shut m) (Ranges.also p q r) zero below = refl
marked_within (Marked.run m) (Ranges.also p q r) (suc i) below = marked_within m r i (le_of_suc-le-suc below)
marked_within (Marked.shut m) (Ranges.also p q r) (suc i) below = marked_within m r i (le_of_suc-le-suc below)

marked_ordered : {marks lows highs : List ℕ} → Marked marks lows highs → Ranges lows highs → EachUnit unit_ordered lows highs marks
marked_ordered Marked.none Ranges.none i below = absurd (omega arith)
marked_ordered (Marked.run {l} {h} m) (Ranges.also p q r) zero below = le-leb l h p
marked_ordered (Marked.shut m) (Ranges.also p q r) zero below = refl
marked_ordered (Marked.run m) (Ranges.also p q r) (suc i) below = marked_ordered m r i (le_of_suc-le-suc below)
marked_ordered (Marked.shut m) (Ranges.also p q r) (suc i) below = marked_ordered m r i (le_of_suc-le-suc below)

each_marked : (lows highs marks : List ℕ) → length lows ≡ length highs → length lows ≡ length marks
    → EachUnit unit_within lows highs marks → EachUnit unit_ordered lows highs marks → Ranges lows highs × Marked marks lows highs
each_marked [] [] [] paired many within ordered = (Ranges.none, Marked.none)
each_marked [] (h ∷ highs) marks paired many within ordered = absurd (omega arith)
each_marked [] [] (m ∷ marks) paired many within ordered = absurd (omega arith)
each_marked (l ∷ lows) [] marks paired many within ordered = absurd (omega arith)
each_marked (l ∷ lows) (h ∷ highs) [] paired many within ordered = absurd (omega arith)
each_marked (l ∷ lows) (h ∷ highs) (m ∷ marks) paired many within ordered =
    one m (within 0 (omega arith)) (ordered 0 (omega arith))
    (each_marked lows highs marks (suc_inj paired) (suc_inj many) (λ i below. within (suc i) (omega arith)) (λ i below. ordered (suc i) (omega arith)))
  where
    one : (m : ℕ) → unit_within l h m ≡ true → unit_ordered l h m ≡ true → Ranges lows highs × Marked marks lows highs
        → Ranges (l ∷ lows) (h ∷ highs) × Marked (m ∷ marks) (l ∷ lows) (h ∷ highs)
    one zero fits sorted (ranges, marked) =
        (Ranges.also (run_ordered l h sorted) (leb-true h greatest_share (both_right (leb l greatest_share) _ (both_left _ _ fits))) ranges, Marked.run marked)
    one (suc zero) fits sorted (ranges, marked) =
        let (low, high) = shut_ordered l h sorted in
        rw (low, high) (Ranges.also {l = 0} {h = 0} (omega arith) (omega arith) ranges, Marked.shut marked)
    one (suc (suc m)) fits sorted rest =
        absurd (omega (arith, leb-true (suc (suc m)) 1 (both_right (are_shares l h) _ fits)))

module _ (lows highs marks : List ℕ) (room : ℕ) (amounts : Bool) where
  -- the answer of the checks
  abbrev answer : Result (Unit {0}) Refusal
  answer = check_lists lows highs marks room amounts

  abbrev size : Bool
  size = sized (length lows) (length highs) (length marks) room

  -- where the words for an answer hold, the checks give it
  given : {check : Result (Unit {0}) Refusal} → Finding lows highs marks room amounts check → answer ≡ check
  unfolding check_lists
  given (Finding.missized none) = rw (refuted size (λ fits. none (sized_of _ _ _ _ fits)))
  given (Finding.beyond fits i unit) =
      rw (sized_is fits, (first_failing_lem unit_within lows highs marks fits.paired fits.each_marked i).1 unit, lt-ltb 0 (suc i) (omega arith))
  given (Finding.amount fits shares outside) = rw (sized_is fits, (none_failing unit_within lows highs marks fits.paired fits.each_marked).1 shares, outside)
  given (Finding.crossed fits shares within i unit) =
      rw (
        sized_is fits,
        (none_failing unit_within lows highs marks fits.paired fits.each_marked).1 shares,
        within,
        (first_failing_lem unit_ordered lows highs marks fits.paired fits.each_marked i).1 unit,
        lt-ltb 0 (suc i) (omega arith),
      )
  given (Finding.passed fits within ranges marked) =
      rw (
        sized_is fits,
        (none_failing unit_within lows highs marks fits.paired fits.each_marked).1 (marked_within marked ranges),
        within,
        (none_failing unit_ordered lows highs marks fits.paired fits.each_marked).1 (marked_ordered marked ranges),
      )

  -- so the words that hold are those of the answer
  held : {check : Result (Unit {0}) Refusal} → Finding lows highs marks room amounts check → Finding lows highs marks room amounts answer
  held finding = rw (given finding) finding

  -- past 1
  module _ (fits : SizedLists lows highs marks room) where
    -- 7, or passed
    by_crossed : (place : ℕ) → first_crossed lows highs marks ≡ place → EachUnit unit_within lows highs marks → amounts ≡ true
        → Finding lows highs marks room amounts answer
    by_crossed zero none shares within =
        let (ranges, marked) = each_marked lows highs marks fits.paired fits.each_marked shares
        ((none_failing unit_ordered lows highs marks fits.paired fits.each_marked).0 none) in
        held (Finding.passed fits within ranges marked)
    by_crossed (suc i) first shares within = held (Finding.crossed fits shares within i ((first_failing_lem unit_ordered lows highs marks fits.paired fits.each_marked i).0 first))

    -- 4 for total and limits, and past it
    by_amounts : (b : Bool) → amounts ≡ b → EachUnit unit_within lows highs marks → Finding lows highs marks room amounts answer
    by_amounts true within shares = by_crossed (first_crossed lows highs marks) refl shares within
    by_amounts false outside shares = held (Finding.amount fits shares outside)

    -- 4 for the units, and past it
    by_beyond : (place : ℕ) → first_beyond lows highs marks ≡ place → Finding lows highs marks room amounts answer
    by_beyond zero none = by_amounts amounts refl ((none_failing unit_within lows highs marks fits.paired fits.each_marked).0 none)
    by_beyond (suc i) first = held (Finding.beyond fits i ((first_failing_lem unit_within lows highs marks fits.paired fits.each_marked i).0 first))

  -- 1, and past it
  by_size : (b : Bool) → size ≡ b → Finding lows highs marks room amounts answer
  by_size true fits = by_beyond (sized_of _ _ _ _ fits) (first_beyond lows highs marks) refl
  by_size false fails = held (Finding.missized (λ fits. clash (sized_is fits) fails))

  -- the checks give an answer exactly if 01's words for it hold
  pub check_exactly : (check : Result (Unit {0}) Refusal) → (check_lists lows highs marks room amounts ≡ check) ↔ Finding lows highs marks room amounts check
  check_exactly check = (λ is. rw is at (by_size size refl), given)

-- lists that pass the checks are sound, with room for the shares
pub passed_sound : {lows highs marks : List ℕ} {room : ℕ} {amounts : Bool} → Finding lows highs marks room amounts (Ok tt)
    → SoundRanges lows highs × (length lows ≤ room)
passed_sound (Finding.passed fits within ranges marked) = (sound ranges fits.few, fits.fits)

-- and each shut member's range is 0 to 0
pub passed_marked : {lows highs marks : List ℕ} {room : ℕ} {amounts : Bool} → Finding lows highs marks room amounts (Ok tt) → Marked marks lows highs
passed_marked (Finding.passed fits within ranges marked) = marked

-- a check that passes refuses nothing, and what comes after it passes
pub refuse_passed : (b : Bool) (number place : ℕ) (next : Result (Unit {0}) Refusal) → refuse_if b number place next ≡ Ok tt → (b ≡ false) × (next ≡ Ok tt)
refuse_passed true number place next e = (cc, cc)
refuse_passed false number place next e = (refl, e)

-- the checks refuse with one of them
pub check_number : {lows highs marks : List ℕ} {room : ℕ} {amounts : Bool} {refused : Refusal} → Finding lows highs marks room amounts (Err refused)
    → CheckNumber refused.number
check_number (Finding.missized none) = inl refl
check_number (Finding.beyond fits i unit) = inr (inl refl)
check_number (Finding.amount fits shares outside) = inr (inl refl)
check_number (Finding.crossed fits shares within i unit) = inr (inr refl)

-- a refusal of the checks has a number from 1 to 7
pub check_between : {number : ℕ} → CheckNumber number → (1 ≤ number) × (number ≤ 7)
check_between (inl is) = omega arith
check_between (inr (inl is)) = omega arith
check_between (inr (inr is)) = omega arith
