-- The exchange of one copy between two members, and the figures that it never raises. Assumes nothing.
use Rattle.std.specs.Prelude.{ℕ, suc, ◌+◌, ◌-◌, ◌*◌, ◌<◌, List, ◌≡◌, ◌≢◌, length, get_or, set}
use Rattle.std.proofs.Common.{sym, ap, mul-le-mul_left, arith, get_or-set_same, get_or-set_other, lt-length-set}
use Rattle.model.specs.Shares.{sum_of}
use Rattle.model.specs.Figures.{apart, deviation, spread, above}
use Rattle.model.proofs.Laws.Lists.{sum_of_set}
use Rattle.model.specs.Transfers.{transfer, Additive, SchurConvex, Convex}

-- members with different shares differ
other : (xs : List ℕ) (i j : ℕ) → get_or xs j 0 < get_or xs i 0 → j ≢ i
other xs i j h e = omega (arith, ap (λ (k : ℕ). get_or xs k 0) e)

-- the giving member has one copy less
pub transfer_from : (xs : List ℕ) (i j : ℕ) → i < length xs → get_or xs j 0 < get_or xs i 0
    → suc (get_or (transfer i j xs) i 0) ≡ get_or xs i 0
unfolding transfer
transfer_from xs i j p h =
    let e : i ≢ j = λ s. other xs i j h (sym s) in
    rw (get_or-set_other, get_or-set_same) (omega arith)

-- the receiving member has one copy more
pub transfer_to : (xs : List ℕ) (i j : ℕ) → j < length xs → get_or (transfer i j xs) j 0 ≡ suc (get_or xs j 0)
unfolding transfer
transfer_to xs i j q =
    let r : j < length (set xs i (get_or xs i 0 - 1)) = lt-length-set xs i _ q in
    rw get_or-set_same

-- an exchange changes the parts of its two members alone
pub additive_transfer : {G : List ℕ → ℕ} {part : ℕ → ℕ → ℕ} → Additive G part
    → (xs : List ℕ) (i j : ℕ) → i < length xs → j < length xs → get_or xs j 0 < get_or xs i 0
    → G (transfer i j xs) + (part i (get_or xs i 0) + part j (get_or xs j 0))
    ≡ G xs + (part i (get_or xs i 0 - 1) + part j (suc (get_or xs j 0)))
unfolding transfer
additive_transfer a xs i j p q h =
    let kept : get_or (set xs i (get_or xs i 0 - 1)) j 0 ≡ get_or xs j 0 = get_or-set_other xs i j _ 0 (other xs i j h) in
    omega (
      arith,
      a.sets xs i (get_or xs i 0 - 1) p,
      rw kept at (a.sets (set xs i (get_or xs i 0 - 1)) j (suc (get_or xs j 0)) (lt-length-set xs i _ q)),
    )

-- a sum of a convex function of each share is never raised by an exchange
pub sum_of_schur : {f : ℕ → ℕ} → Convex f → SchurConvex (sum_of f)
sum_of_schur {f} c = record {
  lowers = λ xs i j p q h.
      let e : suc (get_or xs i 0 - 1) ≡ get_or xs i 0 = omega arith in
      let a : Additive (sum_of f) (λ k. f) = record { sets = sum_of_set f } in
      omega (arith, rw e at (c.bends (get_or xs i 0 - 1) (get_or xs j 0) (omega arith)), additive_transfer a xs i j p q h);
}

-- a sum of convex functions is convex
pub plus_convex : {f g : ℕ → ℕ} → Convex f → Convex g → Convex (λ x. f x + g x)
plus_convex c d = record { bends = λ a b h. omega (arith, c.bends a b h, d.bends a b h) }

-- the copies over the mean and under it, n times, are convex
over_convex : (n total : ℕ) → Convex (λ x. n * x - total)
over_convex n total = record { bends = λ a b h. omega (arith, mul-le-mul_left n h) }

under_convex : (n total : ℕ) → Convex (λ x. total - n * x)
under_convex n total = record { bends = λ a b h. omega (arith, mul-le-mul_left n h) }

-- a share's part of the deviation is convex
deviation_convex : (n total : ℕ) → Convex (λ x. apart (n * x) total)
deviation_convex n total = plus_convex (over_convex n total) (under_convex n total)

-- a share's square is convex
square_convex : Convex (λ x. x * x)
square_convex = record { bends = λ a b h. omega arith }

-- a share's copies above t are convex
above_convex : (t : ℕ) → Convex (λ x. x - t)
above_convex t = record { bends = λ a b h. omega arith }

-- a share's copies below t are convex, and so is its distance from t
below_convex : (t : ℕ) → Convex (λ x. t - x)
below_convex t = record { bends = λ a b h. omega arith }

pub apart_convex : (t : ℕ) → Convex (λ x. apart x t)
apart_convex t = plus_convex (above_convex t) (below_convex t)

-- the deviation is never raised by an exchange
pub deviation_schur : (n total : ℕ) → SchurConvex (deviation n total)
unfolding deviation
deviation_schur n total = sum_of_schur (deviation_convex n total)

-- the spread is never raised by an exchange
pub spread_schur : (n total : ℕ) → SchurConvex (spread n total)
unfolding spread
spread_schur n total = record { lowers = λ xs i j p q h. omega (arith, mul-le-mul_left n ((sum_of_schur square_convex).lowers xs i j p q h)) }

-- the total above t is never raised by an exchange
pub above_schur : (t : ℕ) → SchurConvex (above t)
unfolding above
above_schur t = sum_of_schur (above_convex t)
