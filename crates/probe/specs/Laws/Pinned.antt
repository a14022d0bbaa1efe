-- A group with one member pinned: its sums from the group's own, the level that its total reaches, and its figures there. Assumes nothing.
use Rattle.std.specs.Prelude.{ℕ, zero, suc, ◌+◌, ◌-◌, ◌*◌, ◌≤◌, ◌<◌, List, ◌≡◌, refl, length, get_or, set}
use Rattle.std.proofs.Common.{sym, ap, ◌∙◌, mul-le-mul_left, mul-le-mul_right, le_antisymm, length-set, le-leb, lt-ltb, le-ltb}
use Rattle.std.proofs.Math.Decide.{dec_le, dec_lt}
use Rattle.std.proofs.Math.Nat.{le_dest}
use native.Mathlib.Omega.{arith, by_contra}
use Rattle.std.proofs.lemmas.Bool.{lt-leb}
use Rattle.model.specs.Shares.{Ranges, Within, greatest_share, sum, sum_of}
use Rattle.model.specs.Figures.{deviation, spread, pairs, figures_of}
use Rattle.model.specs.Levels.{clamp, clamped, total_at, growth}
use Rattle.model.specs.Ways.{topped, evened}
use Rattle.model.proofs.Laws.Least.{least}
use Rattle.model.proofs.Laws.Lists.{ranges_at, sum_sum_of}
use Rattle.model.proofs.Laws.Levelled.{topped_between, topped_within, topped_near, topped_adds, near_even, evened_within, evened_adds, shares_exist}
use Rattle.model.proofs.Laws.Pairs.{pairs_schur}
use Rattle.model.proofs.Laws.Plans.{evened_least}
use Rattle.model.proofs.Laws.Pinned.{pinned_ranges}
use Rattle.model.specs.Transfers.{SchurConvex}
use Rattle.model.proofs.Laws.Transfer.{deviation_schur, spread_schur}
use Rattle.breakpoints.specs.Laws.Sums.{between_sum, pinned_sum}
use Rattle.breakpoints.specs.Inner.Spans.{Span}
use Rattle.probe.specs.Inner.Pinned.{Pin, Reached}

-- the group with member i pinned to v
pub pinned : {lows highs : List ℕ} → Ranges lows highs → (i v : ℕ) → i < length lows → v ≤ greatest_share
    → Pin lows highs (get_or lows i 0) (get_or highs i 0) v (set lows i v) (set highs i v)
pinned {lows} {highs} ranges i v below share = record {
  ranges = pinned_ranges ranges i below v share;
  count = length-set lows i v;
  ordered = (ranges_at ranges i below).0;
  highest = (ranges_at ranges i below).1;
  value = share;
  sums = λ f w. pinned_sum f ranges i v w below;
  clear = λ span. span.clear i below;
}

-- the group itself, with nothing pinned
pub unpinned : {lows highs : List ℕ} → Ranges lows highs → Pin lows highs 0 0 0 lows highs
unpinned ranges = record {
  ranges = ranges;
  count = refl;
  ordered = omega arith;
  highest = omega arith;
  value = omega arith;
  sums = λ f w. let at : clamp 0 0 w ≡ 0 = omega arith in rw at;
  clear = λ span wide. absurd (omega arith);
}

-- a member's own part moves with the level where it grows at m, and stays elsewhere
own_sum : (f : ℕ → ℕ) (l h m w v : ℕ) → l ≤ h → (l < h → (m < l → w ≤ l) × (m < h → w ≤ h)) → m ≤ v → v ≤ w
    → f (clamp l h v) + growth l h m * f m ≡ f (clamp l h m) + growth l h m * f v
own_sum f l h m w v p clear from up_to =
    elim (dec_le l m) [
      | yes a ↦ elim (dec_lt m h) [
        | yes b ↦
            let past : w ≤ h = (clear (omega arith)).1 b in
            let at : clamp l h v ≡ v = omega arith in
            let was : clamp l h m ≡ m = omega arith in
            rw (le-leb l m a, lt-ltb m h b, at, was) (omega arith)
        | no b ↦
            let at : clamp l h v ≡ clamp l h m = omega arith in
            rw (le-leb l m a, le-ltb m h (omega arith), at) (omega arith)
      ]
      | no a ↦
          let at : clamp l h v ≡ clamp l h m =
          elim (dec_lt l h) [
            | yes wide ↦ let past : w ≤ l = (clear wide).0 (omega arith) in omega arith
            | no single ↦ omega arith
          ] in
          rw (lt-leb l m (omega arith), at) (omega arith)
    ]

-- the pinned group's sums move evenly too, by what the member itself does not move
pub pinned_span : {lows highs lows' highs' : List ℕ} {low high v m w a b : ℕ} → Pin lows highs low high v lows' highs'
    → Span lows highs m w a b → (f : ℕ → ℕ) (x : ℕ) → m ≤ x → x ≤ w
    → sum_of f (clamped lows' highs' x) + (a * f m + (b + growth low high m) * f x)
    ≡ sum_of f (clamped lows' highs' m) + (a * f x + (b + growth low high m) * f m)
pinned_span {low = low} {high = high} {m = m} {w = w} pin span f x from up_to =
    omega (
      arith,
      pin.sums f x,
      pin.sums f m,
      span.sums f x from up_to,
      own_sum f low high m w x pin.ordered (pin.clear span) from up_to,
    )

-- at a mark whose T is the total, nothing is left over
pub reached_mark : (lows highs : List ℕ) (total m : ℕ) → m ≤ greatest_share → total_at lows highs m ≡ total → Reached lows highs total m 0 m 0
reached_mark lows highs total m share holds = record { share = share; holds = omega arith; fits = omega arith; spare = λ some. absurd (omega arith); sums = λ f. omega arith }

-- copies that leave some members without one, or none at all, can be taken
spared : (r grows : ℕ) → (0 < r → r < grows) → r ≤ grows
spared zero grows fewer = omega arith
spared (suc r) grows fewer = omega (arith, fewer (omega arith))

-- sums that move evenly from m to w, with a moving up and b moving down
abbrev pub Moving : List ℕ → List ℕ → ℕ → ℕ → ℕ → ℕ → Type 0
Moving lows highs m w a b = (f : ℕ → ℕ) (x : ℕ) → m ≤ x → x ≤ w
    → sum_of f (clamped lows highs x) + (a * f m + b * f x) ≡ sum_of f (clamped lows highs m) + (a * f x + b * f m)

module _ (lows highs : List ℕ) (total m w a b : ℕ) (rises : m ≤ w) (more : total_at lows highs m < total) (up_to : total ≤ total_at lows highs w)
    (sums : Moving lows highs m w a b) where
  -- so does T
  total_even : (x : ℕ) → m ≤ x → x ≤ w → total_at lows highs x + (a * m + b * x) ≡ total_at lows highs m + (a * x + b * m)
  unfolding total_at
  total_even x from up_to = rw (sum_sum_of (clamped lows highs x), sum_sum_of (clamped lows highs m)) (sums (λ y. y) x from up_to)

  -- T rises from m to w, so more move up than down
  pub grows : b < a
  grows = by_contra _ _ (λ none.
      let (d, e) = le_dest rises in
      let less : a ≤ b = omega arith in
      omega (arith, total_even w rises (omega arith), ap (λ (t : ℕ). a * t) e, ap (λ (t : ℕ). b * t) e, mul-le-mul_right d less))

  -- what is left, divided among the members that move, leads to the next mark at most, and not to it where copies are left over
  pub level_inside : (c q r : ℕ) → c + b ≡ a → total_at lows highs m + (c * q + r) ≡ total → r < c → (m + q ≤ w) × (0 < r → suc (m + q) ≤ w)
  level_inside c q r moving left under =
      let (d, e) = le_dest rises in
      let upper : total_at lows highs w ≡ total_at lows highs m + c * d = omega (arith, rw (← moving) at (total_even w rises (omega arith)), ap (λ (t : ℕ). c * t) e, ap (λ (t : ℕ). b * t) e) in
      let before : suc d ≤ q → c * suc d ≤ c * q = mul-le-mul_left c in
      let at : d ≤ q → c * d ≤ c * q = mul-le-mul_left c in
      let inside : q ≤ d = by_contra _ _ (λ past. omega (arith, before (omega arith))) in
      (omega arith, λ some. let strict : q < d = by_contra _ _ (λ past. omega (arith, at (omega arith))) in omega arith)

  -- between two marks, the total is reached by dividing what is left among the members that move
  pub reached_between : (c q r : ℕ) → w ≤ greatest_share → c + b ≡ a → total_at lows highs m + (c * q + r) ≡ total → r < c
      → Reached lows highs total m c (m + q) r
  reached_between c q r share moving left under =
      let even : (f : ℕ → ℕ) (x : ℕ) → m ≤ x → x ≤ w → sum_of f (clamped lows highs x) + c * f m ≡ sum_of f (clamped lows highs m) + c * f x =
      (λ f x from up_to. omega (arith, rw (← moving) at (sums f x from up_to))) in
      let total_there : (k : ℕ) → m + k ≤ w → total_at lows highs (m + k) ≡ total_at lows highs m + c * k =
      (λ k up_to. omega (arith, rw (← moving) at (total_even (m + k) (omega arith) up_to))) in
      let (d, e) = le_dest rises in
      let inside : q ≤ d = by_contra _ _ (λ past.
      let less : suc d ≤ q = omega arith in omega (arith, rw e at (total_there d (omega arith)), mul-le-mul_left c less)) in
      let here : total_at lows highs (m + q) ≡ total_at lows highs m + c * q = total_there q (omega arith) in
      let suc_out : m + suc q ≡ suc (m + q) = omega arith in
      let spare : 0 < r → r < total_at lows highs (suc (m + q)) - total_at lows highs (m + q) =
      (λ some. elim (dec_lt q d) [
        | yes less ↦ omega (arith, rw suc_out at (total_there (suc q) (omega arith)), here)
        | no none ↦ let same : q ≡ d = omega arith in absurd (omega (arith, rw e at (total_there d (omega arith)), ap (λ (t : ℕ). c * t) same))
      ]) in
      record {
        share = omega arith;
        holds = omega arith;
        fits = spared r _ spare;
        spare = spare;
        sums = λ f. even f (m + q) (omega arith) (omega arith);
      }

module _ {lows highs : List ℕ} {total m c w r : ℕ} (ranges : Ranges lows highs) (reached : Reached lows highs total m c w r) where
  -- the shares at the level reached add up to the total
  pub reached_adds : sum (topped lows highs w r) ≡ total
  reached_adds = topped_adds ranges w r reached.fits ∙ reached.holds

  -- their sums are those at the mark, moved to the level
  pub reached_sum : (f : ℕ → ℕ)
      → sum_of f (topped lows highs w r) + (c * f m + r * f w) ≡ sum_of f (clamped lows highs m) + (c * f w + r * f (suc w))
  reached_sum f =
      let moved = between_sum f ranges w (topped_between ranges w r) r (topped_adds ranges w r reached.fits) in
      omega (arith, reached.sums f)

  -- they are even, so that the levelled shares have no other figure that an exchange never raises
  reached_figure : (F : List ℕ → ℕ) → SchurConvex F → F (evened lows highs total) ≡ F (topped lows highs w r)
  reached_figure F convex =
      let inside : Within lows highs (topped lows highs w r) = topped_within ranges w r in
      let exist : (sum lows ≤ total) × (total ≤ sum highs) = (shares_exist ranges total).0 (topped lows highs w r, inside, reached_adds) in
      le_antisymm
      (evened_least ranges total inside reached_adds F convex)
      (least convex inside (near_even (topped_near ranges w r)) (evened_within ranges total)
      (evened_adds ranges total exist.0 exist.1 ∙ sym reached_adds))

  -- so the same figures
  pub reached_figures : (n : ℕ) → figures_of n total (evened lows highs total) ≡ figures_of n total (topped lows highs w r)
  reached_figures n =
      rw (reached_figure (deviation n total) (deviation_schur n total), reached_figure (spread n total) (spread_schur n total), reached_figure pairs pairs_schur)
