-- The search for the end of a range of values that pass a test. Assumes nothing.
use Rattle.std.specs.Prelude.{ℕ, ◌≤◌, ◌<◌, Bool, true, false, ◌≢◌, ◌≡◌}
use Rattle.std.proofs.Math.Decide.{dec_lt}
use Rattle.std.proofs.Common.{arith, sym, ap, ◌∙◌}
use Rattle.model.specs.Figures.{apart}
use Rattle.model.proofs.Laws.Tests.{clash}
use Rattle.range_ends.specs.Inner.Edges.{Amid, Straddle, Edge, Reaches}

-- the two values themselves, at the start
pub straddle_start : (test : ℕ → Bool) (outside inside : ℕ) → test outside ≡ false → test inside ≡ true
    → Straddle test outside inside outside inside
straddle_start test outside inside fails passes = record {
  fails = fails;
  passes = passes;
  rising = λ h. omega arith;
  falling = λ h. omega arith;
}

-- the end itself, or a value on the way from it to inside whose neighbour before it fails, as the end does
pub data Nearest (test : ℕ → Bool) (end inside : ℕ) : ℕ → Type 0 where
  whole : Nearest test end inside end
  part : {r : ℕ} (outer : ℕ) → test end ≡ false → test outer ≡ false → apart outer r ≤ 1
      → (end < inside → (end ≤ outer) × (outer < r) × (r ≤ inside))
      → (inside < end → (inside ≤ r) × (r < outer) × (outer ≤ end)) → Nearest test end inside r

module _ {test : ℕ → Bool} {end inside : ℕ} where
  -- where it passes, values pass up to it
  pub nearest_reach : {r : ℕ} → Nearest test end inside r → test r ≡ true → Reaches test end inside r
  nearest_reach Nearest.whole passes = Reaches.whole passes
  nearest_reach (Nearest.part outer fails fails_outer near rising falling) passes =
      Reaches.part fails (record { outer = outer; straddle = record { fails = fails_outer; passes = passes; rising = rising; falling = falling }; near = near })

  -- where it fails, an edge on the way to it is one on the way to the end
  pub nearest_edge : {r : ℕ} → Nearest test end inside r → test r ≡ false → test inside ≡ true → {e : ℕ} → Edge test r inside e → Reaches test end inside e
  nearest_edge Nearest.whole fails passes edge = Reaches.part fails edge
  nearest_edge {r} (Nearest.part outer fails fails_outer near rising falling) fails_here passes edge =
      let other : r ≢ inside = (λ same. clash passes (ap test (sym same) ∙ fails_here)) in
      Reaches.part fails (record {
        outer = edge.outer;
        straddle = record {
          fails = edge.straddle.fails;
          passes = edge.straddle.passes;
          rising = λ h. let (a, b, c) = rising h in let less : r < inside = omega (arith, other) in omega (arith, edge.straddle.rising less);
          falling = λ h. let (a, b, c) = falling h in let less : inside < r = omega (arith, other) in omega (arith, edge.straddle.falling less);
        };
        near = edge.near;
      })

-- a value strictly between two is nearer to both than they are to each other, and no greater than both
pub amid_nearer : {outer inner middle most : ℕ} → 1 < apart outer inner → outer ≤ most → inner ≤ most → Amid outer inner middle
    → (apart outer middle < apart outer inner) × (apart middle inner < apart outer inner) × (middle ≤ most)
amid_nearer {outer} {inner} far small_outer small_inner amid =
    elim (dec_lt outer inner) [
      | yes less ↦ let (after, before) = amid.rising less in (omega arith, omega arith, omega arith)
      | no more ↦ let (after, before) = amid.falling (omega arith) in (omega arith, omega arith, omega arith)
    ]

module _ (test : ℕ → Bool) (outside inside outer inner v : ℕ) (held : Straddle test outside inside outer inner) (amid : Amid outer inner v) where
  -- a value between that passes takes inner's place
  pub straddle_in : test v ≡ true → Straddle test outside inside outer v
  straddle_in passes = record {
    fails = held.fails;
    passes = passes;
    rising = λ h. let (a, b, c) = held.rising h in omega (arith, amid.rising b);
    falling = λ h. let (a, b, c) = held.falling h in omega (arith, amid.falling b);
  }

  -- and one that fails takes outer's
  pub straddle_out : test v ≡ false → Straddle test outside inside v inner
  straddle_out fails = record {
    fails = fails;
    passes = held.passes;
    rising = λ h. let (a, b, c) = held.rising h in omega (arith, amid.rising b);
    falling = λ h. let (a, b, c) = held.falling h in omega (arith, amid.falling b);
  }
