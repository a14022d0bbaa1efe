-- The running members' numbers at the front of a list, and back at their places: each loop's step and its end. Assumes nothing.
use Rattle.std.specs.Prelude.{ℕ, zero, suc, ◌+◌, ◌-◌, ◌≤◌, ◌<◌, Bool, true, false, List, [], ◌∷◌, ◌++◌, ◌≡◌, refl, length, get_or, set, take, drop}
use Rattle.std.proofs.Common.{append_assoc, append-nil, sym, ap, subst, ◌∙◌, add-zero, add-one, arith, length-set, drop_of_length-le, drop-cons, drop-drop, drop-set-lt, take-suc-set, take-take, get_or-drop, get_or-take, get_or-set_same, length-take-le}
use Rattle.std.proofs.lemmas.List.{take-set-le}
use Rattle.model.specs.Shares.{pick}
use Rattle.model.specs.Running.{runs, running, restored}
use Rattle.model.proofs.Laws.Running.{running_run, running_skip, running_few}
use Rattle.model.proofs.Laws.Marked.{restored_run, restored_skip}

-- how many of the members from i on are running
abbrev pub running_from : List ℕ → ℕ → ℕ
running_from marks i = length (running (drop i marks) (drop i marks))

module _ (marks xs : List ℕ) (i : ℕ) (p : i < length marks) (q : i < length xs) where
  -- member i runs, and those after it
  walk_run : runs (get_or marks i 0) ≡ true
      → running (drop i marks) (drop i xs) ≡ get_or xs i 0 ∷ running (drop (i + 1) marks) (drop (i + 1) xs)
  walk_run run = rw (add-one, drop-cons marks i 0 p, drop-cons xs i 0 q) (running_run _ run _ _ _)

  -- member i is shut
  walk_skip : runs (get_or marks i 0) ≡ false → running (drop i marks) (drop i xs) ≡ running (drop (i + 1) marks) (drop (i + 1) xs)
  walk_skip shut = rw (add-one, drop-cons marks i 0 p, drop-cons xs i 0 q) (running_skip _ shut _ _ _)

-- from a running member on one more runs than after it
pub ahead_step : (marks : List ℕ) (i : ℕ) → i < length marks → (more : ℕ) → more ≡ pick (runs (get_or marks i 0)) 1 0
    → running_from marks i ≡ more + running_from marks (i + 1)
ahead_step marks i p more is = by (runs (get_or marks i 0)) refl
  where
    by : (b : Bool) → runs (get_or marks i 0) ≡ b → running_from marks i ≡ more + running_from marks (i + 1)
    by true run = omega (arith, rw run at is, ap length (walk_run marks marks i p p run))
    by false shut = omega (arith, rw shut at is, ap length (walk_skip marks marks i p p shut))

-- none is past the last member
pub ahead_none : (marks : List ℕ) (i : ℕ) → length marks ≤ i → running_from marks i ≡ 0
unfolding running
ahead_none marks i end = rw (drop_of_length-le marks end)

-- at most i are before member i
pub ahead_few : (marks : List ℕ) (i : ℕ) → running_from marks 0 ≤ i + running_from marks i
unfolding running
ahead_few marks zero = omega arith
ahead_few [] (suc i) = omega arith
ahead_few (m ∷ marks) (suc i) = by (runs m) (ahead_few marks i)
  where
    by : (b : Bool) → running_from marks 0 ≤ i + running_from marks i
        → length {A = ℕ} (elim b [ true ↦ m ∷ running marks marks | false ↦ running marks marks ]) ≤ suc i + running_from marks i
    by true rest = omega arith
    by false rest = omega arith

-- and no more are from there on than in all
ahead_less : (marks : List ℕ) (i : ℕ) → running_from marks i ≤ running_from marks 0
unfolding running
ahead_less marks zero = omega arith
ahead_less [] (suc i) = omega arith
ahead_less (m ∷ marks) (suc i) = by (runs m) (ahead_less marks i)
  where
    by : (b : Bool) → running_from marks i ≤ running_from marks 0
        → running_from marks i ≤ length {A = ℕ} (elim b [ true ↦ m ∷ running marks marks | false ↦ running marks marks ])
    by true rest = omega arith
    by false rest = omega arith

-- the running ones of the first i members are at the front, and the others' numbers are as they were
pub record Packed (marks was numbers : List ℕ) (count i : ℕ) : Type 0 where
  pub size : length numbers ≡ length was
  pub few : count ≤ i
  pub front : take count numbers ++ running (drop i marks) (drop i was) ≡ running marks was
  pub back : drop i numbers ≡ drop i was

-- none is moved yet
pub packed_none : (marks was : List ℕ) → Packed marks was was 0 0
packed_none marks was = record { size = refl; few = omega arith; front = refl; back = refl }

module _ {marks was numbers : List ℕ} {count i : ℕ} (sizes : length was ≡ length marks) (p : i < length marks)
    (held : Packed marks was numbers count i) where
  -- member i's number is the one that was
  same : get_or numbers i 0 ≡ get_or was i 0
  same = rw add-zero at (sym (get_or-drop i numbers 0 0) ∙ ap (λ (l : List ℕ). get_or l 0 0) held.back ∙ get_or-drop i was 0 0)

  -- moved to the front it leaves those after it
  behind : drop (i + 1) (set numbers count (get_or numbers i 0)) ≡ drop (i + 1) was
  behind =
      rw (drop-set-lt (i + 1) numbers count (get_or numbers i 0) (omega (arith, held.few)), ← drop-drop 1 i numbers, ← drop-drop 1 i was, held.back)

  moved_run : runs (get_or marks i 0) ≡ true
      → take (count + 1) (set numbers count (get_or numbers i 0)) ++ running (drop (i + 1) marks) (drop (i + 1) was) ≡ running marks was
  moved_run run =
      rw (add-one count, take-suc-set numbers count (get_or numbers i 0) (omega (arith, held.few, held.size)), append_assoc, same)
      (rw (walk_run marks was i p (omega arith) run) at held.front)

  moved_skip : runs (get_or marks i 0) ≡ false
      → take count (set numbers count (get_or numbers i 0)) ++ running (drop (i + 1) marks) (drop (i + 1) was) ≡ running marks was
  moved_skip shut =
      rw (take-set-le count numbers count (get_or numbers i 0) (omega arith)) (rw (walk_skip marks was i p (omega arith) shut) at held.front)

  -- member i is passed
  pub packed_step : (more : ℕ) → more ≡ pick (runs (get_or marks i 0)) 1 0
      → Packed marks was (set numbers count (get_or numbers i 0)) (count + more) (i + 1)
  packed_step more is = by (runs (get_or marks i 0)) refl
    where
      by : (b : Bool) → runs (get_or marks i 0) ≡ b → Packed marks was (set numbers count (get_or numbers i 0)) (count + more) (i + 1)
      by true run =
          let one : more ≡ 1 = rw run at is in
          record { size = rw length-set held.size; few = omega (arith, held.few); front = rw one (moved_run run); back = behind }
      by false shut =
          let none : count + more ≡ count = omega (arith, rw shut at is) in
          record { size = rw length-set held.size; few = omega (arith, held.few); front = rw none (moved_skip shut); back = behind }

-- all are passed
pub packed_all : {marks was numbers : List ℕ} {count i : ℕ} → length marks ≤ i → Packed marks was numbers count i
    → take count numbers ≡ running marks was
unfolding running
packed_all {marks} {was} {numbers} {count} {i} end held = rw (drop_of_length-le marks {i = i} end, append-nil) at held.front

-- the members from i on have their numbers back, those of the running ones from the left-th of these on; the first ones are still to come
pub record Unpacked (marks numbers ys : List ℕ) (left i : ℕ) : Type 0 where
  pub size : length numbers ≡ length marks
  pub inside : i ≤ length marks
  pub many : length ys ≡ running_from marks 0
  pub counts : left + running_from marks i ≡ running_from marks 0
  pub front : take left numbers ≡ take left ys
  pub back : drop i numbers ≡ restored (drop i marks) (drop left ys)

-- none has its number back yet
pub unpacked_none : {marks numbers : List ℕ} {count : ℕ} → length numbers ≡ length marks → count ≡ running_from marks 0
    → Unpacked marks numbers (take count numbers) count (length marks)
unfolding restored
unpacked_none {marks} {numbers} {count} sizes is =
    let fits : count ≤ length numbers = omega (arith, running_few marks marks) in
    record {
      size = sizes;
      inside = omega arith;
      many = length-take-le count numbers fits ∙ is;
      counts = omega (arith, ahead_none marks (length marks) (omega arith));
      front = sym (take-take count count numbers (omega arith));
      back = rw (drop_of_length-le numbers {i = length marks} (omega arith), drop_of_length-le marks {i = length marks} (omega arith));
    }

-- one member before another
pub member_before : {marks numbers ys : List ℕ} {left j : ℕ} → 0 < j → Unpacked marks numbers ys left j → Unpacked marks numbers ys left (j - 1 + 1)
member_before {marks} {numbers} {ys} {left} {j} some held =
    let same : j ≡ j - 1 + 1 = omega arith in
    subst (λ (n : ℕ). Unpacked marks numbers ys left n) same held

module _ {marks numbers ys : List ℕ} {left i : ℕ} (p : i < length marks) (held : Unpacked marks numbers ys left (i + 1)) where
  -- as many running ones are still to come as member i says
  pub still : (more : ℕ) → more ≡ pick (runs (get_or marks i 0)) 1 0 → (more ≤ left) × (left - more ≤ i)
  still more is = omega (arith, held.counts, ahead_step marks i p more is, ahead_few marks i, ahead_less marks i)

  -- a number written at member i is in front of those that are back
  written : (value : ℕ) → drop i (set numbers i value) ≡ value ∷ restored (drop (i + 1) marks) (drop left ys)
  written value =
      drop-cons (set numbers i value) i 0 (rw length-set (omega (arith, held.size)))
      ∙ rw (get_or-set_same numbers i value 0 (omega (arith, held.size)), drop-set-lt (suc i) numbers i value (omega arith), ← add-one i, held.back)

  -- and leaves the first ones
  in_front : (value less : ℕ) → less ≤ left → less ≤ i → take less (set numbers i value) ≡ take less ys
  in_front value less fewer below =
      take-set-le less numbers i value below ∙ sym (take-take less left numbers fewer) ∙ ap (take less) held.front ∙ take-take less left ys fewer

  back_run : (less value : ℕ) → left ≡ suc less → runs (get_or marks i 0) ≡ true → value ≡ get_or numbers less 0
      → drop i (set numbers i value) ≡ restored (drop i marks) (drop less ys)
  back_run less value is run is_value =
      let among : less < length ys = omega (arith, held.counts, held.many) in
      let first : value ≡ get_or ys less 0 =
      is_value
      ∙ sym (get_or-take left numbers less 0 (omega arith)) ∙ ap (λ (l : List ℕ). get_or l less 0) held.front ∙ get_or-take left ys less 0 (omega arith) in
      written value
      ∙ rw (add-one i, drop-cons marks i 0 p, drop-cons ys less 0 among, first, is) (sym (restored_run _ run _ _ _))

  back_skip : (value : ℕ) → runs (get_or marks i 0) ≡ false → value ≡ 0 → drop i (set numbers i value) ≡ restored (drop i marks) (drop left ys)
  back_skip value shut is_value = written value ∙ rw (add-one i, drop-cons marks i 0 p, is_value) (sym (restored_skip _ shut _ _))

  -- member i has its number back
  pub unpacked_step : (more value : ℕ) → more ≡ pick (runs (get_or marks i 0)) 1 0
      → value ≡ pick (runs (get_or marks i 0)) (get_or numbers (left - more) 0) 0
      → Unpacked marks (set numbers i value) ys (left - more) i
  unpacked_step more value is_more is_value =
      record {
        size = rw length-set held.size;
        inside = omega arith;
        many = held.many;
        counts = omega (arith, held.counts, ahead_step marks i p more is_more, still more is_more);
        front = in_front value (left - more) (omega arith) (still more is_more).1;
        back = by (runs (get_or marks i 0)) refl;
      }
    where
      by : (b : Bool) → runs (get_or marks i 0) ≡ b → drop i (set numbers i value) ≡ restored (drop i marks) (drop (left - more) ys)
      by true run =
          let one : more ≡ 1 = rw run at is_more in
          back_run (left - more) value (omega (arith, still more is_more)) run (rw run at is_value)
      by false shut =
          let none : left - more ≡ left = omega (arith, rw shut at is_more) in
          rw none (back_skip value shut (rw shut at is_value))

-- all have
pub unpacked_all : {marks numbers ys : List ℕ} {left : ℕ} → Unpacked marks numbers ys left 0 → numbers ≡ restored marks ys
unpacked_all {marks} {numbers} {ys} {left} held = let none : left ≡ 0 = omega (arith, held.counts) in rw none at held.back
