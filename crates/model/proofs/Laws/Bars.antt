-- The bar of headroom: copies go to the members with a high above it, and what rests of them to the first with that high. Assumes nothing.
use Rattle.std.specs.Prelude.{ℕ, zero, suc, ◌+◌, ◌-◌, ◌≤◌, ◌<◌, min, Bool, true, false, List, ◌∷◌, ◌≢◌, ◌≡◌, refl, ltb, eqb}
use Rattle.std.proofs.Common.{sym, ◌∙◌, arith, lt-ltb, le-ltb, eq-eqb, eqb-true}
use Rattle.std.proofs.Math.Decide.{dec_lt, ℕ_discrete}
use Rattle.model.specs.Shares.{pick, greatest_share, Ranges}
use Rattle.model.proofs.Laws.Tests.{refuted}
use Rattle.model.specs.Levels.{growth, roomier}
use Rattle.model.specs.Inner.Headroom.{is_ahead, Bar, copy_at}
use Rattle.model.proofs.Laws.Headroom.{Growing, growing, headroom_copy, ahead_above, ahead_none, ahead_rests, none_picked, roomier_cons, roomier_falls, roomier_none}

-- what a member takes by the bar, and what rests then
pub data BarTaken (l h v bar rest : ℕ) : ℕ → ℕ → Type 0 where
  stays : growth l h v ≡ 0 → BarTaken l h v bar rest 0 rest
  above : growth l h v ≡ 1 → bar < h → v ≤ bar → BarTaken l h v bar rest 1 rest
  at : {left : ℕ} → growth l h v ≡ 1 → h ≡ bar → rest ≡ suc left → v < h → BarTaken l h v bar rest 1 left
  spent : growth l h v ≡ 1 → h ≡ bar → rest ≡ 0 → BarTaken l h v bar rest 0 rest
  behind : growth l h v ≡ 1 → h < bar → v < h → BarTaken l h v bar rest 0 rest

module _ (l h v bar rest : ℕ) where
  -- no more is taken than rests
  pub at_fits : copy_at l h v bar rest ≤ rest
  at_fits = by (eqb h bar)
    where
      by : (b : Bool) → pick b (min rest (growth l h v)) 0 ≤ rest
      by true = omega arith
      by false = omega arith

  -- none is taken where none can be
  at_rests : growth l h v ≡ 0 → copy_at l h v bar rest ≡ 0
  at_rests none = none_picked (eqb h bar) (omega arith)

  -- nor away from the bar
  pub at_away : h ≢ bar → copy_at l h v bar rest ≡ 0
  at_away apart = rw (refuted (eqb h bar) (λ same. apart (eqb-true h bar same)))

  pub at_here : h ≡ bar → copy_at l h v bar rest ≡ min rest (growth l h v)
  at_here same = rw (eq-eqb h bar same)

  -- what a member above the bar takes, and what one at it does, is what it takes by the bar
  pub bar_taken : v ≤ bar → {more after : ℕ} → more ≡ is_ahead l h v bar + copy_at l h v bar rest → after ≡ rest - copy_at l h v bar rest
      → BarTaken l h v bar rest more after
  bar_taken from {more} {after} is left = by (growth l h v) (growing l h v) refl
    where
      told : (m a : ℕ) → BarTaken l h v bar rest m a → more ≡ m → after ≡ a → BarTaken l h v bar rest more after
      told m a taken same_more same_after = rw (same_more, same_after) taken

      by : (g : ℕ) → Growing l h v g → growth l h v ≡ g → BarTaken l h v bar rest more after
      by g (Growing.rests none) grown =
          told 0 rest (BarTaken.stays grown) (omega (arith, ahead_rests l h v bar grown, at_rests grown)) (omega (arith, at_rests grown))
      by g (Growing.grows low high) grown = elim (dec_lt bar h) [
        | yes past ↦
            let away = at_away (λ same. omega arith) in
            told 1 rest (BarTaken.above grown past from) (omega (arith, ahead_above l h v {t = bar} from past, away)) (omega (arith, away))
        | no not ↦
            let under = ahead_none l h v {t = bar} (omega arith) in
            elim (ℕ_discrete h bar) [
              | yes same ↦
                  let here = at_here same in
                  elim (dec_lt 0 rest) [
                    | yes some ↦ told 1 (rest - 1) (BarTaken.at {left = rest - 1} grown same (omega arith) high) (omega (arith, under, here)) (omega (arith, here))
                    | no none ↦ told 0 rest (BarTaken.spent grown same (omega arith)) (omega (arith, under, here)) (omega (arith, here))
                  ]
              | no apart ↦
                  let away = at_away apart in
                  told 0 rest (BarTaken.behind grown (omega (arith, apart)) high) (omega (arith, under, away)) (omega (arith, away))
            ]
      ]

-- a member takes no more than it can
pub taken_most : {l h v bar rest more after : ℕ} → BarTaken l h v bar rest more after → more ≤ growth l h v
taken_most (BarTaken.stays none) = omega arith
taken_most (BarTaken.above one past from) = omega arith
taken_most (BarTaken.at one is some from) = omega arith
taken_most (BarTaken.spent one is gone) = omega arith
taken_most (BarTaken.behind one less from) = omega arith

module _ (l h : ℕ) (ls hs : List ℕ) (v left bar rest : ℕ) (held : Bar (l ∷ ls) (h ∷ hs) v left bar rest) where
  -- the copies left are those for the first member, those for the others above the bar, and those that rest
  counted : is_ahead l h v bar + roomier ls hs v bar + rest ≡ left
  counted = rw (← roomier_cons l h ls hs v bar) held.over

  enough : (u : ℕ) → suc u ≡ bar → v ≤ u → left ≤ is_ahead l h v u + roomier ls hs v u
  enough u next from = rw (← roomier_cons l h ls hs v u) (held.under u next from)

  -- the first member takes what it gets by headroom, and the others have the bar for what is left
  pub bar_step : {more left_over : ℕ} → BarTaken l h v bar rest more left_over
      → (more ≡ headroom_copy ls hs v left l h) × Bar ls hs v (left - more) bar left_over
  bar_step (BarTaken.stays none) = (
    sym (none_picked (ltb (roomier ls hs v h) left) none),
    record {
      over = omega (arith, counted, ahead_rests l h v bar none);
      under = λ u next from. omega (arith, enough u next from, ahead_rests l h v u none);
    },
  )
  bar_step (BarTaken.above one past from) =
      let ahead : is_ahead l h v bar ≡ 1 = ahead_above l h v from past ∙ one in (
        rw (lt-ltb (roomier ls hs v h) left (omega (arith, counted, ahead, roomier_falls ls hs v {t = bar} {u = h} (omega arith)))) (sym one),
        record {
          over = omega (arith, counted, ahead);
          under = λ u next above. omega (arith, enough u next above, ahead_above l h v {t = u} above (omega arith), one);
        },
      )
  bar_step (BarTaken.at one is some from) =
      let none : is_ahead l h v bar ≡ 0 = ahead_none l h v {t = bar} (omega arith) in (
        rw (is, lt-ltb (roomier ls hs v bar) left (omega (arith, counted, none))) (sym (rw is at one)),
        record {
          over = omega (arith, counted, none);
          under = λ u next above. omega (arith, enough u next above, ahead_above l h v {t = u} above (omega arith), one);
        },
      )
  bar_step (BarTaken.spent one is gone) =
      let none : is_ahead l h v bar ≡ 0 = ahead_none l h v {t = bar} (omega arith) in (
        rw (is, le-ltb (roomier ls hs v bar) left (omega (arith, counted, none))),
        record {
          over = omega (arith, counted, none);
          under = λ u next above. omega (arith, counted, none, roomier_falls ls hs v {t = u} {u = bar} (omega arith));
        },
      )
  bar_step (BarTaken.behind one less from) = by bar refl
    where
      by : (b : ℕ) → b ≡ bar → (0 ≡ headroom_copy ls hs v left l h) × Bar ls hs v (left - 0) bar rest
      by zero is = absurd (omega arith)
      by (suc u) is =
          let none : is_ahead l h v bar ≡ 0 = ahead_none l h v {t = bar} (omega arith) in
          let nor : is_ahead l h v u ≡ 0 = ahead_none l h v {t = u} (omega arith) in
          let all : left ≤ roomier ls hs v u = omega (arith, enough u is (omega arith), nor) in (
            rw (le-ltb (roomier ls hs v h) left (omega (arith, all, roomier_falls ls hs v {t = h} {u = u} (omega arith)))),
            record {
              over = omega (arith, counted, none);
              under = λ w next above. let same : w ≡ u = omega arith in rw same (omega arith);
            },
          )

-- a number is the bar where just as many members are above it as there are copies
pub bar_exact : {lows highs : List ℕ} {v left bar : ℕ} → left ≡ roomier lows highs v bar → Bar lows highs v left bar 0
bar_exact {lows} {highs} {v} {left} {bar} same = record {
  over = omega arith;
  under = λ u next from. omega (arith, roomier_falls lows highs v {t = u} {u = bar} (omega arith));
}

-- or where no more are above it, and no fewer above the number under it
pub bar_between : {lows highs : List ℕ} {v left under bar above : ℕ} → bar ≤ suc under → left ≤ roomier lows highs v under
    → above ≡ roomier lows highs v bar → above ≤ left → Bar lows highs v left bar (left - above)
bar_between {lows} {highs} {v} {left} {under} {bar} near enough is few = record {
  over = omega arith;
  under = λ u next from. omega (arith, roomier_falls lows highs v {t = u} {u = under} (omega arith));
}

-- the greatest share is the bar for no copies
pub bar_none : {lows highs : List ℕ} → Ranges lows highs → {v left : ℕ} → left ≡ 0 → Bar lows highs v left greatest_share 0
bar_none ranges {v} none = bar_exact (none ∙ sym (roomier_none ranges v))
