-- The terms of a turn: what the limits allow as numbers, and the last row of the table. Assumes nothing.
use Rattle.std.specs.Prelude.{ℕ, ◌+◌, ◌-◌, ◌*◌, ◌/◌, ◌≤◌, ◌<◌, List, ◌↔◌, true, false, ◌≡◌, refl, leb}
use Rattle.std.proofs.Common.{sym, ◌∙◌, mul-le-mul, le-div_iff_mul-le, arith, le-leb}
use Rattle.std.proofs.Math.Decide.{dec_le}
use Rattle.std.proofs.lemmas.Bool.{lt-leb}
use Rattle.model.specs.Figures.{allows}
use Rattle.model.specs.Plans.{has_plan}
use Rattle.model.specs.Shares.{most_units, greatest_total}
use Rattle.probe.specs.declared.probing.GroupLevel.{GroupLevel}
use Rattle.probe.specs.declared.terms.Terms.{Terms}
use Rattle.model.specs.declared.Limit.{Limit}
use Rattle.model.specs.declared.Limit.TheVariants.{Any, AtMost}
use Rattle.model.specs.declared.Limits.{Limits}
use Rattle.breakpoints.specs.Inner.Distances.{most_pairs}
use Rattle.probe.specs.Inner.Pairs.{SpotBelow}
use Rattle.breakpoints.specs.Inner.Rows.{row_at, last_row}
use Rattle.probe.specs.Inner.Sides.{greatest_half}
use Rattle.breakpoints.specs.Inner.Tables.{greatest_part}
use Rattle.probe.specs.Inner.Terms.{HalfAllowed, SquaresAllowed, PairsAllowed, Termed}
use Rattle.probe.specs.Inner.Pinned.{Reached}
use Rattle.probe.specs.Inner.Probes.{pinned_total, Probeable, InReach, LastWithin, IntoReach}
use Rattle.probe.specs.Laws.Probes.{probeable}
use Rattle.probe.specs.Inner.Verdicts.{Lookable, Triable, LevelledOn}

-- two tests that hold together are the same
same_test : (a b c d : ℕ) → (a ≤ b → c ≤ d) → (c ≤ d → a ≤ b) → leb a b ≡ leb c d
same_test a b c d there back =
    elim (dec_le a b) [
      | yes p ↦ le-leb a b p ∙ sym (le-leb c d (there p))
      | no p ↦ lt-leb a b (omega arith) ∙ sym (elim (dec_le c d) [ yes q ↦ absurd (p (back q)) | no q ↦ lt-leb c d (omega arith) ])
    ]

-- more than any half where nothing is limited, else half of the limit
pub half_any : (r : ℕ) → greatest_half ≤ r → HalfAllowed Any r
half_any r large = record { is = λ h small. le-leb h r (omega arith) }

pub half_most : (most : ℕ) → HalfAllowed (AtMost most) (most / 2)
half_most most = record { is = λ h small. same_test h (most / 2) (2 * h) most (λ p. omega arith) (λ p. omega arith) }

module _ (n total : ℕ) where
  -- more than any sum of squares where nothing is limited
  pub squares_any : (r : ℕ) → most_units * greatest_part ≤ r → SquaresAllowed Any n total r
  squares_any r large = record { is = λ q small enough. le-leb q r (omega arith) }

  -- and where the limit is past every spread
  pub squares_every : (most r : ℕ) → most_units * greatest_part ≤ r → most_units * (most_units * greatest_part) ≤ most → n ≤ most_units → SquaresAllowed (AtMost most) n total r
  squares_every most r large limit few = record {
    is = λ q small enough. le-leb q r (omega arith) ∙ sym (le-leb (n * q - total * total) most (omega (arith, mul-le-mul few small)));
  }

  -- else the quotient: of what the limit and the square of the total are, by the members
  pub squares_most : (most : ℕ) → 0 < n → SquaresAllowed (AtMost most) n total ((most + total * total) / n)
  squares_most most some = record {
    is = λ q small enough.
        let quotient : (q ≤ (most + total * total) / n) ↔ (q * n ≤ most + total * total) = le-div_iff_mul-le some in
        same_test q ((most + total * total) / n) (n * q - total * total) most (λ p. omega (arith, quotient.0 p)) (λ p. quotient.1 (omega arith));
  }

-- without members the spread is 0
pub squares_none : (total most r : ℕ) → most_units * greatest_part ≤ r → SquaresAllowed (AtMost most) 0 total r
squares_none total most r large = record { is = λ q small enough. le-leb q r (omega arith) ∙ sym (le-leb (0 * q - total * total) most (omega arith)) }

-- no pair differences are past the greatest, and else the limit is the term
pub pairs_any : PairsAllowed Any most_pairs
pairs_any = record { is = λ p small. le-leb p most_pairs small }

pub pairs_most : (most : ℕ) → PairsAllowed (AtMost most) most
pairs_most most = record { is = λ p small. refl }

-- a limit that allows the greatest pair differences has a term past them all, and any other has a lesser one
pub pairs_unlimited : {limit : Limit} {most : ℕ} → PairsAllowed limit most → most_pairs ≤ most → allows limit most_pairs ≡ true
pairs_unlimited allowed past = sym (allowed.is most_pairs (omega arith)) ∙ le-leb most_pairs _ past

pub pairs_limited : {limit : Limit} {most : ℕ} → PairsAllowed limit most → most < most_pairs → allows limit most_pairs ≡ false
pairs_limited allowed less = sym (allowed.is most_pairs (omega arith)) ∙ lt-leb most_pairs _ less

module _ {lows highs table : List ℕ} {terms : Terms} {low high v : ℕ} (asked : Lookable lows highs table terms low high v) where
  -- the last row of the terms is that of the table
  pub reach_last : InReach table (last_row table) low high v terms.total
  reach_last = rw asked.summed.ended at asked.reach

  -- so that the row below the level can be searched for
  pub row_findable : Probeable table terms.last low high v × (pinned_total (row_at table 0) low high v ≤ terms.total)
  row_findable = (rw asked.summed.ended (probeable asked.sound asked.held asked.asked.pin), asked.reach.least)

  pub found_last : {k : ℕ} → LastWithin table terms.last low high v terms.total k → LastWithin table (last_row table) low high v terms.total k
  found_last found = rw asked.summed.ended at found

  pub spot_told : {k level over : ℕ} → SpotBelow table (last_row table) k level over → SpotBelow table terms.last k level over
  spot_told spot = rw asked.summed.ended spot

-- what can be tried can be looked up
pub lookable : {lows highs table : List ℕ} {total : ℕ} {limits : Limits} {terms : Terms} {low high v : ℕ}
    → Triable lows highs table total limits terms low high v → Lookable lows highs table terms low high v
lookable asked = record {
  sound = rw asked.termed.totals asked.sound;
  held = asked.held;
  summed = asked.termed.group;
  asked = asked.asked;
  reach = rw asked.termed.totals asked.reach;
  paired = asked.paired;
}

-- what a search for a row and a move into reach are asked and tell, with the last row and the total that the terms are of
module _ {lows highs table : List ℕ} {total : ℕ} {limits : Limits} {terms : Terms} (termed : Termed lows highs table total limits terms) {low high v : ℕ} where
  pub row_asked : Probeable table (last_row table) low high v → pinned_total (row_at table 0) low high v ≤ total
      → Probeable table terms.last low high v × (pinned_total (row_at table 0) low high v ≤ terms.total)
  row_asked rows least = rw (termed.group.ended, termed.totals) (rows, least)

  pub row_known : {k : ℕ} → LastWithin table (last_row table) low high v total k → LastWithin table terms.last low high v terms.total k
  row_known found = rw (termed.group.ended, termed.totals) found

  pub row_told : {k : ℕ} → LastWithin table terms.last low high v terms.total k → LastWithin table (last_row table) low high v total k
  row_told found = rw (termed.group.ended, termed.totals) at found

  pub reach_asked : Probeable table (last_row table) low high v → total ≤ greatest_total → pinned_total (row_at table 0) low high v ≤ total + v
      → Probeable table terms.last low high v × ((terms.total ≤ greatest_total) × (pinned_total (row_at table 0) low high v ≤ terms.total + v))
  reach_asked rows small least = rw (termed.group.ended, termed.totals) (rows, (small, least))

  pub reach_told : {r : ℕ} → IntoReach table terms.last low high v terms.total r → IntoReach table (last_row table) low high v total r
  reach_told moved = rw (termed.group.ended, termed.totals) at moved

-- what is found of the group itself, with the total and the limits that the terms are of
module _ {lows highs table : List ℕ} {total : ℕ} {limits : Limits} {terms : Terms} {at : GroupLevel} (termed : Termed lows highs table total limits terms)
    (on : LevelledOn lows highs table terms at) where
  pub level_reached : Reached lows highs total on.mark on.moving at.level at.over
  level_reached = rw termed.totals at on.reached

  pub level_planned : at.planned ≡ has_plan lows highs total limits
  level_planned = rw termed.totals at (on.decides termed.allowed)
