-- From an end of member i's range to the nearest value that the other members can make up for. Assumes nothing.
use Rattle.std.specs.Prelude.{ℕ, suc, ◌+◌, ◌-◌, ◌≤◌, ◌<◌, Bool, false, List, ◌≡◌, get_or, set}
use Rattle.std.proofs.Math.Decide.{dec_lt}
use native.Mathlib.Omega.{arith, by_contra}
use Rattle.model.specs.Shares.{greatest_share}
use Rattle.model.specs.Plans.{taken}
use Rattle.model.specs.declared.Limits.{Limits}
use Rattle.breakpoints.specs.Inner.Rows.{row_at, last_row}
use Rattle.probe.specs.Laws.Pinned.{pinned}
use Rattle.probe.specs.Inner.Probes.{pinned_total, Probeable, InReach, IntoReach}
use Rattle.probe.specs.declared.terms.Terms.{Terms}
use Rattle.probe.specs.Inner.Terms.{Termed}
use Rattle.probe.specs.Inner.Verdicts.{Triable, Decides}
use Rattle.probe.specs.Laws.Probes.{probeable}
use Rattle.probe.specs.Laws.Terms.{pairs_limited}
use Rattle.probe.specs.Laws.Reaching.{short_fails, long_fails, taken_reach}
use Rattle.range_ends.specs.Inner.Edges.{Approach}
use Rattle.range_ends.specs.Laws.Edges.{Nearest}

module _ {lows highs table : List ℕ} {total : ℕ} {limits : Limits} {i end share : ℕ} (way : Approach lows highs table total limits i end share) where
  abbrev last : ℕ
  last = last_row table

  abbrev low : ℕ
  low = get_or lows i 0

  abbrev high : ℕ
  high = get_or highs i 0

  abbrev test : ℕ → Bool
  test = taken lows highs total limits i

  -- T at the first and at the last row, with w in place of the member's own
  abbrev least : ℕ → ℕ
  least w = pinned_total (row_at table 0) low high w

  abbrev greatest : ℕ → ℕ
  greatest w = pinned_total (row_at table last) low high w

  module _ (w : ℕ) (small : w ≤ greatest_share) where
    pub probes : Probeable table last low high w
    probes = probeable way.tabled.sound way.tabled.held (pinned way.tabled.sound.ranges i w way.here small)

    -- where the others can make up for it, it can be tried
    pub triable : {terms : Terms} → Termed lows highs table total limits terms → InReach table last low high w total → Triable lows highs table total limits terms low high w
    triable termed reach = record {
      sound = way.tabled.sound;
      held = way.tabled.held;
      termed = termed;
      asked = record { pinned_lows = set lows i w; pinned_highs = set highs i w; pin = pinned way.tabled.sound.ranges i w way.here small };
      reach = rw termed.group.ended reach;
      paired = λ less. way.tabled.paired (pairs_limited termed.allowed.pairs less);
    }

    -- and what a trial tells is whether it is taken
    pub told : {answer : Bool} → Decides lows highs total limits low high w answer → answer ≡ test w
    told decides = decides.is (pinned way.tabled.sound.ranges i w way.here small)

  -- the share is in reach
  pub share_reach : InReach table last low high share total
  share_reach = taken_reach way.tabled.sound way.tabled.held limits i way.here share way.share_small way.passes

  -- T moves with the value
  module _ (k : ℕ) (up_to : k ≤ last) (v w : ℕ) (from : v ≤ w) (small : w ≤ greatest_share) where
    moves : pinned_total (row_at table k) low high w ≡ pinned_total (row_at table k) low high v + (w - v)
    unfolding pinned_total
    moves = omega (arith, ((probes v (omega arith)).rows k up_to).under)

  -- T at the first row is no more than the total and the value
  pub room : least end ≤ total + end
  unfolding pinned_total
  room = omega (arith, share_reach.least, ((probes share way.share_small).rows 0 (omega arith)).under)

  -- the value moved into reach is in reach, and between the end and the share
  pub record MovedIntoReach (r : ℕ) : Type 0 where
    pub nearest : Nearest test end share r
    pub in_reach : InReach table last low high r total
    pub small : r ≤ greatest_share

  -- too little at the last row: the value rises until there is enough
  short : {r : ℕ} → greatest end < total → r ≡ end + (total - greatest end) → MovedIntoReach r
  short {r} less is =
      let before : end < share = by_contra _ _ (λ none. omega (arith, moves last (omega arith) share end (omega arith) way.small, share_reach.greatest)) in
      let inside : r ≤ share = omega (arith, moves last (omega arith) end share (omega arith) way.share_small, share_reach.greatest) in
      let small : r ≤ greatest_share = omega (arith, way.share_small) in
      let fails : (w : ℕ) → w ≤ greatest_share → greatest w < total → test w ≡ false = short_fails way.tabled.sound way.tabled.held limits i way.here in
      record {
        nearest = Nearest.part {r = r} (r - 1) (fails end way.small less)
            (fails (r - 1) (omega arith) (omega (arith, moves last (omega arith) end (r - 1) (omega arith) (omega arith)))) (omega arith)
            (λ _. (omega arith, omega arith, inside)) (λ after. absurd (omega arith));
        in_reach = record {
          least = omega (arith, moves 0 (omega arith) r share inside way.share_small, share_reach.least);
          greatest = omega (arith, moves last (omega arith) end r (omega arith) small);
        };
        small = small;
      }

  -- too much at the first row: the value falls
  long : {r : ℕ} → total < least end → r + (least end - total) ≡ end → MovedIntoReach r
  long {r} more is =
      let after : share < end = by_contra _ _ (λ none. omega (arith, moves 0 (omega arith) end share (omega arith) way.share_small, share_reach.least)) in
      let inside : share ≤ r = omega (arith, moves 0 (omega arith) share end (omega arith) way.small, share_reach.least) in
      let small : r ≤ greatest_share = omega (arith, way.small) in
      let fails : (w : ℕ) → w ≤ greatest_share → total < least w → test w ≡ false = long_fails way.tabled.sound way.tabled.held limits i way.here in
      record {
        nearest = Nearest.part {r = r} (suc r) (fails end way.small more)
            (fails (suc r) (omega (arith, way.small)) (omega (arith, moves 0 (omega arith) (suc r) end (omega arith) way.small))) (omega arith)
            (λ before. absurd (omega arith)) (λ _. (inside, omega arith, omega arith));
        in_reach = record {
          least = omega (arith, moves 0 (omega arith) r end (omega arith) way.small);
          greatest = omega (arith, moves last (omega arith) share r inside small, share_reach.greatest);
        };
        small = small;
      }

  pub moved : {r : ℕ} → IntoReach table last low high end total r → MovedIntoReach r
  moved into =
      elim (dec_lt (greatest end) total) [
        | yes less ↦ short less (into.short less)
        | no enough ↦ elim (dec_lt total (least end)) [
          | yes more ↦ long more (into.long (omega arith) more)
          | no fits ↦
              let there : InReach table last low high end total = record { least = omega arith; greatest = omega arith } in
              rw (into.within there) (record { nearest = Nearest.whole; in_reach = there; small = way.small })
        ]
      ]
