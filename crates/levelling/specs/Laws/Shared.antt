-- Shares in sound ranges, as a list of their own. Assumes nothing.
use Rattle.std.specs.Prelude.{ℕ, zero, suc, List, ◌++◌, ◌≡◌, length, take}
use Rattle.std.proofs.Common.{arith}
use Rattle.std.proofs.Math.Seq.{take-append_seam}
use Rattle.model.specs.Shares.{Ranges, Within, sum}
use Rattle.model.specs.Running.{Marked}
use Rattle.model.proofs.Laws.Lists.{within_length}
use Rattle.model.specs.Sound.{SoundRanges}
use Rattle.levelling.specs.Inner.Shared.{SoundShares}
use Rattle.model.proofs.Laws.Sound.{sound}

-- each is a range of one value
own_ranges : {lows highs xs : List ℕ} → Ranges lows highs → Within lows highs xs → Ranges xs xs
own_ranges Ranges.none Within.none = Ranges.none
own_ranges (Ranges.also p q r) (Within.also {x} a b w) = Ranges.also {l = x} {h = x} (omega arith) (omega arith) (own_ranges r w)

-- and that of a shut member is 0
own_marked : {marks lows highs xs : List ℕ} → Marked marks lows highs → Within lows highs xs → Marked marks xs xs
own_marked Marked.none Within.none = Marked.none
own_marked (Marked.run m) (Within.also a b w) = Marked.run (own_marked m w)
own_marked (Marked.shut m) (Within.also {x = zero} a b w) = Marked.shut (own_marked m w)
own_marked (Marked.shut m) (Within.also {x = suc x} a b w) = absurd (omega arith)

-- they share their total out
pub shared_out : {marks lows highs xs : List ℕ} {total : ℕ} → SoundRanges lows highs → Marked marks lows highs → Within lows highs xs
    → sum xs ≡ total → SoundShares marks xs total
shared_out ranges marked within adds =
    record {
      sound = sound (own_ranges ranges.ranges within) (omega (arith, (within_length within).0, ranges.few));
      marked = own_marked marked within;
      adds = adds;
    }

-- shares lie in the ranges that they are
pub own_within : {xs : List ℕ} → Ranges xs xs → Within xs xs xs
own_within Ranges.none = Within.none
own_within (Ranges.also p q r) = Within.also p p (own_within r)

-- and are the front of a plan that begins with them
pub plan_front : (n : ℕ) (xs rest plan : List ℕ) → length xs ≡ n → plan ≡ xs ++ rest → take n plan ≡ xs
plan_front n xs rest plan many begins = rw (begins, ← many) (take-append_seam xs rest)
