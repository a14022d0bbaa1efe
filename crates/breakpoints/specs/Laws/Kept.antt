-- A sum over the shares at a level is one over the members kept, and one that no level changes. Assumes nothing.
use Rattle.std.specs.Prelude.{ℕ, zero, suc, ◌+◌, ◌≤◌, ◌<◌, Bool, List, [], ◌∷◌, ◌++◌, ◌≡◌, length, get_or, set, take, drop}
use Rattle.std.proofs.Math.Bool.{true, false}
use Rattle.std.proofs.Common.{append_assoc, append-nil, le_of_suc-le-suc, arith, drop_of_length-le, drop-cons, lt-ltb, le-ltb}
use Rattle.std.proofs.Math.Path.{refl}
use Rattle.std.proofs.Math.Decide.{dec_lt}
use Rattle.std.proofs.Math.Numerals.{add-one}
use Rattle.std.proofs.Math.Dec.{ltb}
use Rattle.std.proofs.Math.ListN.{length-set}
use Rattle.std.proofs.Math.Seq.{take-set-le, take-suc-set}
use Rattle.model.specs.Shares.{Ranges, sum_of, pick}
use Rattle.model.specs.Levels.{clamp, clamped}
use Rattle.breakpoints.specs.Inner.Spans.{Span}
use Rattle.breakpoints.specs.Inner.Kept.{Kept, several}

-- the shares of the members with one value
fixed : {lows highs kept_lows kept_highs : List ℕ} → Kept lows highs kept_lows kept_highs → List ℕ
fixed Kept.none = []
fixed (Kept.along kept) = fixed kept
fixed (Kept.single {l} one kept) = l ∷ fixed kept

-- the kept members have ranges, and are no more than all
pub kept_ranges : {lows highs kept_lows kept_highs : List ℕ} → Ranges lows highs → Kept lows highs kept_lows kept_highs → Ranges kept_lows kept_highs
kept_ranges Ranges.none Kept.none = Ranges.none
kept_ranges (Ranges.also p q r) (Kept.along kept) = Ranges.also p q (kept_ranges r kept)
kept_ranges (Ranges.also p q r) (Kept.single one kept) = kept_ranges r kept

pub kept_few : {lows highs kept_lows kept_highs : List ℕ} → Kept lows highs kept_lows kept_highs
    → (length kept_lows ≤ length lows) × (length kept_highs ≡ length kept_lows)
kept_few Kept.none = (omega arith, refl)
kept_few (Kept.along kept) = let (few, same) = kept_few kept in (omega arith, omega arith)
kept_few (Kept.single one kept) = let (few, same) = kept_few kept in (omega arith, same)

-- at every level, the others' parts are the same
kept_sum : (f : ℕ → ℕ) {lows highs kept_lows kept_highs : List ℕ} → Ranges lows highs → (kept : Kept lows highs kept_lows kept_highs) (w : ℕ)
    → sum_of f (clamped lows highs w) ≡ sum_of f (clamped kept_lows kept_highs w) + sum_of f (fixed kept)
unfolding sum_of clamped fixed
kept_sum f Ranges.none Kept.none w = refl
kept_sum f (Ranges.also p q r) (Kept.along kept) w = omega (arith, kept_sum f r kept w)
kept_sum f (Ranges.also {l} {h} p q r) (Kept.single one kept) w =
    let at : clamp l h w ≡ l = omega arith in
    rw at (omega (arith, kept_sum f r kept w))

-- a member with several values is among the kept ones
kept_there : {lows highs kept_lows kept_highs : List ℕ} → Kept lows highs kept_lows kept_highs → (i : ℕ) → i < length lows → get_or lows i 0 < get_or highs i 0
    → (j : ℕ) × (j < length kept_lows) × (get_or kept_lows j 0 ≡ get_or lows i 0) × (get_or kept_highs j 0 ≡ get_or highs i 0)
kept_there Kept.none i below wide = absurd (omega arith)
kept_there (Kept.along kept) zero below wide = (0, omega arith, refl, refl)
kept_there (Kept.along kept) (suc i) below wide =
    let (j, inside, low, high) = kept_there kept i (le_of_suc-le-suc below) wide in (suc j, omega arith, low, high)
kept_there (Kept.single one kept) zero below wide = absurd (omega arith)
kept_there (Kept.single one kept) (suc i) below wide = kept_there kept i (le_of_suc-le-suc below) wide

-- where no bound of the kept members lies, none of all members with several values does
pub kept_span : {lows highs kept_lows kept_highs : List ℕ} {m w a b : ℕ} → Ranges lows highs → Kept lows highs kept_lows kept_highs
    → Span kept_lows kept_highs m w a b → Span lows highs m w a b
kept_span {m = m} ranges kept span = record {
  rises = span.rises;
  sums = λ f v low high. omega (arith, span.sums f v low high, kept_sum f ranges kept v, kept_sum f ranges kept m);
  clear = λ i below wide.
      let (j, inside, low, high) = kept_there kept i below wide in
      rw (low, high) at (span.clear j inside (omega arith));
}

-- the members with several values are those kept
pub kept_several : {lows highs : List ℕ} → Ranges lows highs → Kept lows highs (several lows highs lows) (several lows highs highs)
unfolding several
kept_several Ranges.none = Kept.none
kept_several (Ranges.also {l} {h} p q r) =
    elim (dec_lt l h) [
      | yes more ↦ rw (lt-ltb l h more, several) (Kept.along (kept_several r))
      | no one ↦ rw (le-ltb l h (omega arith), several) (Kept.single {l = l} {h = h} (omega arith) (kept_several r))
    ]

-- all members can be kept
pub kept_all : {lows highs : List ℕ} → Ranges lows highs → Kept lows highs lows highs
kept_all Ranges.none = Kept.none
kept_all (Ranges.also p q r) = Kept.along (kept_all r)

-- the numbers of the first i members, as far as these are kept, are at the front of a list
pub record Sifted (lows highs xs numbers : List ℕ) (count i : ℕ) : Type 0 where
  pub size : length numbers ≡ length lows
  pub few : count ≤ i
  pub front : take count numbers ++ several (drop i lows) (drop i highs) (drop i xs) ≡ several lows highs xs

-- none is there yet
pub sifted_none : (lows highs xs numbers : List ℕ) → length numbers ≡ length lows → Sifted lows highs xs numbers 0 0
sifted_none lows highs xs numbers sizes = record { size = sizes; few = omega arith; front = refl }

module _ {lows highs xs numbers : List ℕ} {count i : ℕ} (held : Sifted lows highs xs numbers count i)
    (p : i < length lows) (q : i < length highs) (s : i < length xs) where
  -- member i ahead of those after it
  ahead : several (drop i lows) (drop i highs) (drop i xs)
      ≡ several (get_or lows i 0 ∷ drop (suc i) lows) (get_or highs i 0 ∷ drop (suc i) highs) (get_or xs i 0 ∷ drop (suc i) xs)
  ahead = rw (drop-cons lows i 0 p, drop-cons highs i 0 q, drop-cons xs i 0 s)

  -- member i is passed
  pub sifted_step : (more : ℕ) → more ≡ pick (ltb (get_or lows i 0) (get_or highs i 0)) 1 0
      → Sifted lows highs xs (set numbers count (get_or xs i 0)) (count + more) (i + 1)
  unfolding several
  sifted_step more is = by (ltb (get_or lows i 0) (get_or highs i 0)) refl
    where
      by : (b : Bool) → ltb (get_or lows i 0) (get_or highs i 0) ≡ b → Sifted lows highs xs (set numbers count (get_or xs i 0)) (count + more) (i + 1)
      by true wide =
          let one : more ≡ 1 = rw wide at is in
          record {
            size = rw length-set held.size;
            few = omega (arith, held.few);
            front = rw (one, add-one count, add-one i, take-suc-set numbers count (get_or xs i 0) (omega (arith, held.few, held.size)), append_assoc)
                (rw (ahead, wide, several) at held.front);
          }
      by false narrow =
          let none : count + more ≡ count = omega (arith, rw narrow at is) in
          record {
            size = rw length-set held.size;
            few = omega (arith, held.few);
            front = rw (none, add-one i, take-set-le count numbers count (get_or xs i 0) (omega arith)) (rw (ahead, narrow, several) at held.front);
          }

-- all are passed
pub sifted_all : {lows highs xs numbers : List ℕ} {count i : ℕ} → length lows ≤ i → Sifted lows highs xs numbers count i
    → take count numbers ≡ several lows highs xs
unfolding several
sifted_all {lows} {numbers = numbers} {count = count} {i = i} end held = rw (drop_of_length-le lows {i = i} end, append-nil) at held.front
