-- Even shares have the least figures, and any shares with their total come nearer to them by exchanges of one copy. Assumes nothing.
use Rattle.std.specs.Prelude.{ℕ, zero, suc, ◌+◌, ◌-◌, ◌≤◌, ◌<◌, List, [], ◌∷◌, ◌⊎◌, ◌≡◌, length, get_or, set}
use Rattle.std.proofs.Common.{inl, inr, sym, ◌∙◌, le_of_suc-le-suc, ext_get_or}
use Rattle.std.proofs.Math.Decide.{dec_lt}
use Rattle.std.proofs.Math.Nat.{suc_inj}
use native.Mathlib.Omega.{arith, by_contra}
use Rattle.model.specs.Shares.{Within, sum}
use Rattle.model.proofs.Laws.Lists.{within_length, within_at, within_set, sum_set, sum_lt}
use Rattle.model.specs.Even.{Even}
use Rattle.model.specs.Transfers.{transfer, Additive, SchurConvex}
use Rattle.model.proofs.Laws.Transfer.{transfer_from, transfer_to, additive_transfer}

-- a member whose share is lower in xs than in ys
abbrev pub Lower : List ℕ → List ℕ → Type 0
Lower xs ys = (i : ℕ) × (i < length xs) × (get_or xs i 0 < get_or ys i 0)

-- some share is lower in xs than in ys, or none is
pub lower : (xs ys : List ℕ) → length xs ≡ length ys → Lower xs ys ⊎ ((k : ℕ) → k < length xs → get_or ys k 0 ≤ get_or xs k 0)
lower [] [] e = inr (λ k h. absurd (omega arith))
lower [] (y ∷ ys) e = absurd (omega arith)
lower (x ∷ xs) [] e = absurd (omega arith)
lower (x ∷ xs) (y ∷ ys) e = elim (dec_lt x y) [
  | yes p ↦ inl (0, omega arith, p)
  | no p ↦ elim (lower xs ys (suc_inj e)) [
    | inl i ↦ inl (suc i.0, omega arith, i.2)
    | inr f ↦ inr (λ k. elim k as (λ k. k < length (x ∷ xs) → get_or (y ∷ ys) k 0 ≤ get_or (x ∷ xs) k 0) [
      | zero ↦ λ h. omega arith
      | suc k ↦ λ h. f k (le_of_suc-le-suc h)
    ])
  ]
]

-- where the totals agree and one share is higher, another is lower
pub partner : (xs ys : List ℕ) → length xs ≡ length ys → sum xs ≡ sum ys
    → (i : ℕ) → i < length xs → get_or ys i 0 < get_or xs i 0 → Lower xs ys
partner xs ys e s i p h = elim (lower xs ys e) [
  | inl j ↦ j
  | inr f ↦ absurd (omega (arith, sum_lt ys xs (sym e) (λ k q. f k (omega arith)) i (omega arith) h))
]

-- where the totals agree and no share is lower, all are the same
pub same : (xs ys : List ℕ) → length xs ≡ length ys → sum xs ≡ sum ys
    → ((k : ℕ) → k < length xs → get_or ys k 0 ≤ get_or xs k 0) → xs ≡ ys
same xs ys e s f = ext_get_or 0 xs ys e (λ k p. omega (
  arith,
  f k p,
  by_contra (get_or xs k 0) (get_or ys k 0) (λ h.
      let j : Lower xs ys = partner xs ys e s k p h in omega (arith, f j.0 j.1)),
))

-- by how much the shares are above the even ones, each at its member
surplus : (ℕ → ℕ) → List ℕ → ℕ
surplus even [] = 0
surplus even (x ∷ xs) = (x - even 0) + surplus (λ k. even (suc k)) xs

-- the surplus changes by what one replaced share changes it
surplus_set : (even : ℕ → ℕ) (xs : List ℕ) (i y : ℕ) → i < length xs
    → surplus even (set xs i y) + (get_or xs i 0 - even i) ≡ surplus even xs + (y - even i)
unfolding surplus
surplus_set even [] i y h = absurd (omega arith)
surplus_set even (x ∷ xs) zero y h = omega arith
surplus_set even (x ∷ xs) (suc i) y h = omega (arith, surplus_set (λ k. even (suc k)) xs i y (le_of_suc-le-suc h))

-- ys comes of xs by exchanges: within the same ranges, with the same total, and with no figure raised
pub record Exchanged (lows highs xs ys : List ℕ) : Type 1 where
  pub within : Within lows highs ys
  pub adds : sum ys ≡ sum xs
  pub lowers : (F : List ℕ → ℕ) → SchurConvex F → F ys ≤ F xs

module _ {lows highs even xs : List ℕ} (we : Within lows highs even) (ev : Even lows highs even) (wx : Within lows highs xs) where
  -- both lists have one share for each range
  same_length : length even ≡ length xs
  same_length = omega (arith, (within_length we).0, (within_length wx).0)

  -- member i, above its even share, gives one copy to member j, below its even share
  module _ (i j : ℕ) (p : i < length xs) (q : j < length xs) (up : get_or even i 0 < get_or xs i 0) (down : get_or xs j 0 < get_or even j 0) where
    -- the giving share is the higher
    higher : get_or xs j 0 < get_or xs i 0
    higher = omega (
      arith,
      ev.near i j (omega (arith, same_length)) (omega (arith, same_length))
          (omega (arith, (within_at wx i p).1)) (omega (arith, (within_at wx j q).0)),
    )

    -- the exchange is a step
    exchanged : Exchanged lows highs xs (transfer i j xs)
    unfolding transfer
    exchanged = record {
      within =
          within_set (within_set wx i _ (omega (arith, (within_at we i (omega (arith, same_length))).0)) (omega (arith, (within_at wx i p).1)))
          j _ (omega (arith, (within_at wx j q).0)) (omega (arith, (within_at we j (omega (arith, same_length))).1));
      adds =
          let a : Additive sum (λ k x. x) = record { sets = sum_set } in
          omega (arith, higher, additive_transfer a xs i j p q higher);
      lowers = λ F schur. schur.lowers xs i j p q higher;
    }

    -- the exchange lowers the surplus
    nearer : surplus (λ k. get_or even k 0) (transfer i j xs) < surplus (λ k. get_or even k 0) xs
    nearer =
        let a : Additive (surplus (λ k. get_or even k 0)) (λ k x. x - get_or even k 0) = record { sets = surplus_set (λ k. get_or even k 0) } in
        omega (arith, additive_transfer a xs i j p q higher)

  module _ (s : sum xs ≡ sum even) (i : ℕ) (p : i < length xs) where
    -- a share above the even one can come down by one copy
    pub step_down : get_or even i 0 < get_or xs i 0 → (ys : List ℕ) × Exchanged lows highs xs ys × (suc (get_or ys i 0) ≡ get_or xs i 0)
    step_down h =
        let j : Lower xs even = partner xs even (sym same_length) s i p h in
        (transfer i j.0 xs, exchanged i j.0 p j.1 h j.2, transfer_from xs i j.0 p (higher i j.0 p j.1 h j.2))

    -- a share below the even one can go up by one copy
    pub step_up : get_or xs i 0 < get_or even i 0 → (ys : List ℕ) × Exchanged lows highs xs ys × (get_or ys i 0 ≡ suc (get_or xs i 0))
    step_up h =
        let j : Lower even xs = partner even xs same_length (sym s) i (omega (arith, same_length)) h in
        (transfer j.0 i xs, exchanged j.0 i (omega (arith, same_length)) p j.2 h, transfer_to xs j.0 i p)

-- the least law, by induction on a bound above the surplus
toward : {F : List ℕ → ℕ} → SchurConvex F → {lows highs even xs : List ℕ} → Within lows highs even → Even lows highs even
    → (fuel : ℕ) → surplus (λ k. get_or even k 0) xs < fuel → Within lows highs xs → sum xs ≡ sum even → F even ≤ F xs
toward schur we ev zero h wx s = absurd (omega arith)
toward {F} schur {even = even} {xs = xs} we ev (suc fuel) h wx s = elim (lower even xs (same_length we ev wx)) [
  | inl i ↦
      let p : i.0 < length xs = omega (arith, same_length we ev wx) in
      let j : Lower xs even = partner xs even (sym (same_length we ev wx)) s i.0 p i.2 in
      let t : Exchanged _ _ xs (transfer i.0 j.0 xs) = exchanged we ev wx i.0 j.0 p j.1 i.2 j.2 in
      omega (
        arith,
        t.lowers F schur,
        toward schur {xs = transfer i.0 j.0 xs} we ev fuel (omega (arith, nearer we ev wx i.0 j.0 p j.1 i.2 j.2)) t.within (t.adds ∙ s),
      )
  | inr f ↦ rw (same even xs (same_length we ev wx) (sym s) f) (omega arith)
]

-- even shares have the least figure of all shares within the ranges with their total
pub least : {F : List ℕ → ℕ} → SchurConvex F → {lows highs even xs : List ℕ} → Within lows highs even → Even lows highs even
    → Within lows highs xs → sum xs ≡ sum even → F even ≤ F xs
least schur {even = even} {xs = xs} we ev wx s = toward schur we ev (suc (surplus (λ k. get_or even k 0) xs)) (omega arith) wx s
