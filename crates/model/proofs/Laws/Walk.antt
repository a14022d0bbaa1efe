-- One step of a walk over the members: the sums and shares from member i on, by member i and those after it. Assumes nothing.
use Rattle.std.specs.Prelude.{ℕ, ◌+◌, ◌-◌, ◌<◌, List, [], ◌∷◌, ◌++◌, ◌≡◌, refl, length, get_or, set, take, drop}
use Rattle.std.proofs.Common.{append_assoc, append-nil, add-one, arith, length-set, drop_of_length-le, take-append-drop, drop-drop, drop-set-lt, take-suc-set}
use Rattle.std.proofs.Math.Seq.{drop-cons}
use Rattle.model.specs.Shares.{sum}
use Rattle.model.specs.Levels.{clamp, total_at, roomier, by_headroom}
use Rattle.model.specs.Inner.Headroom.{is_ahead, Bar}
use Rattle.model.proofs.Laws.Headroom.{headroom_copy, roomier_cons}
use Rattle.model.proofs.Laws.Bars.{BarTaken, bar_step}
use Rattle.model.proofs.Laws.Level.{total_at_cons}

-- the sum from i on
pub sum_walk : (xs : List ℕ) (i : ℕ) → i < length xs → sum (drop i xs) ≡ get_or xs i 0 + sum (drop (i + 1) xs)
unfolding sum
sum_walk xs i h = rw (add-one, drop-cons xs i 0)

module _ (lows highs : List ℕ) (i : ℕ) (p : i < length lows) (q : i < length highs) (v : ℕ) where
  -- T(v) from i on
  pub total_at_walk : total_at (drop i lows) (drop i highs) v
      ≡ clamp (get_or lows i 0) (get_or highs i 0) v + total_at (drop (i + 1) lows) (drop (i + 1) highs) v
  total_at_walk = rw (add-one, drop-cons lows i 0 p, drop-cons highs i 0 q) (total_at_cons _ _ _ _ v)

  -- the members from i on that are ahead of one with high t
  pub roomier_walk : (t : ℕ) → roomier (drop i lows) (drop i highs) v t
      ≡ is_ahead (get_or lows i 0) (get_or highs i 0) v t + roomier (drop (i + 1) lows) (drop (i + 1) highs) v t
  roomier_walk t = rw (add-one, drop-cons lows i 0 p, drop-cons highs i 0 q) (roomier_cons _ _ _ _ v t)

  -- the shares from i on, with the copies left over at i
  headroom_walk : (left : ℕ) → by_headroom (drop i lows) (drop i highs) v left
      ≡ (clamp (get_or lows i 0) (get_or highs i 0) v + headroom_copy (drop (i + 1) lows) (drop (i + 1) highs) v left (get_or lows i 0) (get_or highs i 0))
      ∷ by_headroom (drop (i + 1) lows) (drop (i + 1) highs) v (left - headroom_copy (drop (i + 1) lows) (drop (i + 1) highs) v left (get_or lows i 0) (get_or highs i 0))
  unfolding by_headroom
  headroom_walk left = rw (add-one, drop-cons lows i 0 p, drop-cons highs i 0 q)

-- the shares of the members before i are written over the first numbers of the plan that was; the others are still to come
pub record SharesWritten (lows highs : List ℕ) (v left rest i : ℕ) (was plan : List ℕ) : Type 0 where
  pub size : length plan ≡ length was
  pub first : take i plan ++ by_headroom (drop i lows) (drop i highs) v rest ≡ by_headroom lows highs v left
  pub others : drop i plan ≡ drop i was

-- nothing is written yet
pub written_none : (lows highs : List ℕ) (v left : ℕ) (was : List ℕ) → SharesWritten lows highs v left left 0 was was
written_none lows highs v left was = record { size = refl; first = refl; others = refl }

-- member i's share is written
pub written_step : (lows highs : List ℕ) (i : ℕ) → i < length lows → i < length highs → (v left rest base more : ℕ) (was plan : List ℕ)
    → i < length was → base ≡ clamp (get_or lows i 0) (get_or highs i 0) v → more ≡ headroom_copy (drop (i + 1) lows) (drop (i + 1) highs) v rest (get_or lows i 0) (get_or highs i 0)
    → SharesWritten lows highs v left rest i was plan → SharesWritten lows highs v left (rest - more) (i + 1) was (set plan i (base + more))
written_step lows highs i p q v left rest base more was plan room is_clamp is_copy held =
    let room' : i < length plan = omega (arith, held.size) in
    let next : take (i + 1) (set plan i (base + more)) ≡ take i plan ++ ((base + more) ∷ []) =
    rw add-one (take-suc-set plan i (base + more) room') in
    record {
      size = rw length-set held.size;
      first = rw (next, append_assoc) (rw (headroom_walk lows highs i p q v rest, ← is_clamp, ← is_copy) at held.first);
      others =
          rw (drop-set-lt (i + 1) plan i (base + more) (omega arith), ← drop-drop 1 i plan, ← drop-drop 1 i was, held.others);
    }

-- all members' shares are written, and the other numbers are those that were
pub written_all : (lows highs : List ℕ) (v left rest i : ℕ) (was plan : List ℕ) → i ≡ length lows
    → SharesWritten lows highs v left rest i was plan → plan ≡ by_headroom lows highs v left ++ drop (length lows) was
unfolding by_headroom
written_all lows highs v left rest i was plan end held =
    let first : take i plan ≡ by_headroom lows highs v left =
    rw (drop_of_length-le lows {i = i} (omega arith), append-nil) at held.first in
    rw (← end, ← first, ← held.others, take-append-drop)

-- the same by a bar: what rests is for the members from i on that are at it
pub record Handing (lows highs : List ℕ) (v left bar rest i : ℕ) (was plan : List ℕ) : Type 0 where
  pub copies : ℕ
  pub held : Bar (drop i lows) (drop i highs) v copies bar rest
  pub written : SharesWritten lows highs v left copies i was plan

pub handing_none : {lows highs : List ℕ} {v left bar rest : ℕ} → Bar lows highs v left bar rest → (was : List ℕ)
    → Handing lows highs v left bar rest 0 was was
handing_none {lows} {highs} {v} {left} bar was = record { copies = left; held = bar; written = written_none lows highs v left was }

-- what member i takes by the bar is what it gets by headroom
bar_walk : (lows highs : List ℕ) (i : ℕ) → i < length lows → i < length highs → {v copies bar rest more after : ℕ}
    → Bar (drop i lows) (drop i highs) v copies bar rest → BarTaken (get_or lows i 0) (get_or highs i 0) v bar rest more after
    → (more ≡ headroom_copy (drop (i + 1) lows) (drop (i + 1) highs) v copies (get_or lows i 0) (get_or highs i 0))
    × Bar (drop (i + 1) lows) (drop (i + 1) highs) v (copies - more) bar after
bar_walk lows highs i p q held taken =
    rw (add-one) (bar_step _ _ _ _ _ _ _ _ (rw (drop-cons lows i 0 p, drop-cons highs i 0 q) at held) taken)

pub handing_step : (lows highs : List ℕ) (i : ℕ) → i < length lows → i < length highs → (v left bar rest base more after : ℕ) (was plan : List ℕ)
    → i < length was → base ≡ clamp (get_or lows i 0) (get_or highs i 0) v → BarTaken (get_or lows i 0) (get_or highs i 0) v bar rest more after
    → Handing lows highs v left bar rest i was plan → Handing lows highs v left bar after (i + 1) was (set plan i (base + more))
handing_step lows highs i p q v left bar rest base more after was plan room is_clamp taken so_far =
    let stepped = bar_walk lows highs i p q so_far.held taken in
    record {
      copies = so_far.copies - more;
      held = stepped.1;
      written = written_step lows highs i p q v left so_far.copies base more was plan room is_clamp stepped.0 so_far.written;
    }
