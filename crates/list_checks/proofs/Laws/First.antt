-- The first unit whose low, high and mark fail a test: what the place found says, and the search step by step. Assumes nothing.
use Prim.Native.Nat.{ℕ, zero, suc, ◌+◌, ◌≤◌, ◌<◌}
use Rattle.std.specs.Prelude.{Bool, ◌↔◌, ◌⊎◌, ◌≡◌, length, get_or, drop}
use Rattle.std.proofs.Math.Bool.{true, false}
use mathlib.Core.List.{List, [], ◌∷◌}
use Rattle.std.proofs.Math.Path.{refl}
use Rattle.std.proofs.Common.{◌∙◌, inl, inr, le_of_suc-le-suc, arith, drop_of_length-le}
use Rattle.std.proofs.Math.Decide.{dec_lt}
use Rattle.std.proofs.Math.Nat.{suc_inj}
use Rattle.std.proofs.Math.Numerals.{add-one}
use Rattle.std.proofs.Math.Seq.{drop-cons}
use Rattle.model.proofs.Laws.Tests.{clash}
use Rattle.list_checks.specs.Checks.{first_failing}
use Rattle.list_checks.specs.First.{EachUnit, FirstUnit}

-- how the search ends, where the first unit has the place after the given one: no unit fails, or the first that fails has the place found
data Searched (test : ℕ → ℕ → ℕ → Bool) (place : ℕ) (lows highs marks : List ℕ) : Type 0 where
  none : first_failing test (suc place) lows highs marks ≡ 0 → EachUnit test lows highs marks → Searched test place lows highs marks
  first : (i : ℕ) → first_failing test (suc place) lows highs marks ≡ suc (place + i) → FirstUnit test lows highs marks i → Searched test place lows highs marks

module _ (test : ℕ → ℕ → ℕ → Bool) where
  -- from the search of the others, where the first unit passes
  onward : (place l h m : ℕ) (lows highs marks : List ℕ) → test l h m ≡ true → Searched test (suc place) lows highs marks
      → Searched test place (l ∷ lows) (h ∷ highs) (m ∷ marks)
  unfolding first_failing
  onward place l h m lows highs marks passes (Searched.none is each) =
      Searched.none (rw passes is) (λ i. elim i as (λ i. i < length (l ∷ lows) → test (get_or (l ∷ lows) i 0) (get_or (h ∷ highs) i 0) (get_or (m ∷ marks) i 0) ≡ true) [
        | zero ↦ λ _. passes
        | suc k ↦ λ below. each k (le_of_suc-le-suc below)
      ])
  onward place l h m lows highs marks passes (Searched.first i is unit) =
      Searched.first (suc i) (rw passes (is ∙ omega arith)) (record {
        here = omega (arith, unit.here);
        fails = unit.fails;
        before = λ k. elim k as (λ k. k < suc i → test (get_or (l ∷ lows) k 0) (get_or (h ∷ highs) k 0) (get_or (m ∷ marks) k 0) ≡ true) [
          | zero ↦ λ _. passes
          | suc j ↦ λ below. unit.before j (le_of_suc-le-suc below)
        ];
      })

  -- every search ends so
  searched : (place : ℕ) (lows highs marks : List ℕ) → length lows ≡ length highs → length lows ≡ length marks → Searched test place lows highs marks
  unfolding first_failing
  searched place [] highs marks paired many = Searched.none refl (λ i below. absurd (omega arith))
  searched place (l ∷ lows) [] marks paired many = absurd (omega arith)
  searched place (l ∷ lows) (h ∷ highs) [] paired many = absurd (omega arith)
  searched place (l ∷ lows) (h ∷ highs) (m ∷ marks) paired many =
      by_test (test l h m) refl (searched (suc place) lows highs marks (suc_inj paired) (suc_inj many))
    where
      by_test : (b : Bool) → test l h m ≡ b → Searched test (suc place) lows highs marks → Searched test place (l ∷ lows) (h ∷ highs) (m ∷ marks)
      by_test true passes others = onward place l h m lows highs marks passes others
      by_test false fails others =
          Searched.first 0 (rw fails (omega arith)) (record { here = omega arith; fails = fails; before = λ k below. absurd (omega arith) })

  module _ (lows highs marks : List ℕ) where
    -- one unit is the first that fails
    one_first : {i j : ℕ} → FirstUnit test lows highs marks i → FirstUnit test lows highs marks j → i ≡ j
    one_first {i} {j} a b =
        elim (dec_lt i j) [
          | yes less ↦ absurd (clash (b.before i less) a.fails)
          | no more ↦ elim (dec_lt j i) [
            | yes less ↦ absurd (clash (a.before j less) b.fails)
            | no same ↦ omega arith
          ]
        ]

    -- with none where each passes
    not_first : {i : ℕ} → EachUnit test lows highs marks → FirstUnit test lows highs marks i → ⊥
    not_first {i} each unit = clash (each i unit.here) unit.fails

    module _ (paired : length lows ≡ length highs) (many : length lows ≡ length marks) where
      -- no place is found exactly if each unit passes
      pub none_failing : (first_failing test 1 lows highs marks ≡ 0) ↔ EachUnit test lows highs marks
      none_failing = (from (searched 0 lows highs marks paired many), back (searched 0 lows highs marks paired many))
        where
          from : Searched test 0 lows highs marks → first_failing test 1 lows highs marks ≡ 0 → EachUnit test lows highs marks
          from (Searched.none is each) found = each
          from (Searched.first i is unit) found = absurd (omega arith)

          back : Searched test 0 lows highs marks → EachUnit test lows highs marks → first_failing test 1 lows highs marks ≡ 0
          back (Searched.none is all) each = is
          back (Searched.first i is unit) each = absurd (not_first each unit)

      -- the place found, from 1, is that of the first unit that fails
      pub first_failing_lem : (i : ℕ) → (first_failing test 1 lows highs marks ≡ suc i) ↔ FirstUnit test lows highs marks i
      first_failing_lem i = (from (searched 0 lows highs marks paired many), back (searched 0 lows highs marks paired many))
        where
          from : Searched test 0 lows highs marks → first_failing test 1 lows highs marks ≡ suc i → FirstUnit test lows highs marks i
          from (Searched.none is each) found = absurd (omega arith)
          from (Searched.first j is unit) found = let same : j ≡ i = omega arith in rw (← same) unit

          back : Searched test 0 lows highs marks → FirstUnit test lows highs marks i → first_failing test 1 lows highs marks ≡ suc i
          back (Searched.none is each) unit = absurd (not_first each unit)
          back (Searched.first j is other) unit = rw (one_first unit other) (is ∙ omega arith)

-- the units before i pass: the first of the others that fails is the first of all
abbrev pub NoneBefore : (ℕ → ℕ → ℕ → Bool) → List ℕ → List ℕ → List ℕ → ℕ → Type 0
NoneBefore test lows highs marks i = first_failing test (i + 1) (drop i lows) (drop i highs) (drop i marks) ≡ first_failing test 1 lows highs marks

module _ (test : ℕ → ℕ → ℕ → Bool) (lows highs marks : List ℕ) (i : ℕ) (p : i < length lows) (q : i < length highs) (o : i < length marks)
    (held : NoneBefore test lows highs marks i) where
  -- where unit i fails, it is the first
  pub first_here : test (get_or lows i 0) (get_or highs i 0) (get_or marks i 0) ≡ false → i + 1 ≡ first_failing test 1 lows highs marks
  unfolding first_failing
  first_here fails = rw (← held, drop-cons lows i 0 p, drop-cons highs i 0 q, drop-cons marks i 0 o, fails)

  -- where unit i passes, the first comes after it
  pub first_after : test (get_or lows i 0) (get_or highs i 0) (get_or marks i 0) ≡ true → NoneBefore test lows highs marks (i + 1)
  unfolding first_failing
  first_after passes = rw (← held, add-one (i + 1), add-one i, drop-cons lows i 0 p, drop-cons highs i 0 q, drop-cons marks i 0 o, passes)

-- where all units pass, there is no first
pub first_nowhere : (test : ℕ → ℕ → ℕ → Bool) (lows highs marks : List ℕ) (i : ℕ) → length lows ≤ i → NoneBefore test lows highs marks i
    → 0 ≡ first_failing test 1 lows highs marks
unfolding first_failing
first_nowhere test lows highs marks i end held = rw (← held, drop_of_length-le lows end)

-- once one of the lists is at its end, no unit is left to fail
pub none_left : (test : ℕ → ℕ → ℕ → Bool) (place : ℕ) (lows highs marks : List ℕ)
    → (length lows ≡ 0) ⊎ (length highs ≡ 0) ⊎ (length marks ≡ 0) → first_failing test place lows highs marks ≡ 0
unfolding first_failing
none_left test place [] highs marks ended = refl
none_left test place (l ∷ lows) [] marks ended = refl
none_left test place (l ∷ lows) (h ∷ highs) [] ended = refl
none_left test place (l ∷ lows) (h ∷ highs) (m ∷ marks) (inl no_more) = absurd (omega arith)
none_left test place (l ∷ lows) (h ∷ highs) (m ∷ marks) (inr (inl no_more)) = absurd (omega arith)
none_left test place (l ∷ lows) (h ∷ highs) (m ∷ marks) (inr (inr no_more)) = absurd (omega arith)
