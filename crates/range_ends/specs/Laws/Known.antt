-- What was found for one member holds for every member whose range reaches as far. Assumes nothing.
use Rattle.std.specs.Prelude.{ℕ, zero, suc, ◌+◌, ◌≤◌, ◌<◌, min, max, Bool, true, false, List, ◌≢◌, ◌≡◌, refl, length, get_or, Some}
use Rattle.std.proofs.Common.{sym, ap, ◌∙◌, arith}
use Rattle.std.proofs.Math.Decide.{dec_lt}
use Rattle.std.proofs.Math.Nat.{le_dest}
use Rattle.model.specs.Shares.{Ranges, greatest_share}
use Rattle.model.specs.Plans.{taken}
use Rattle.model.proofs.Laws.Lists.{ranges_at}
use Rattle.model.proofs.Laws.Tests.{clash, refuted}
use Rattle.model.specs.declared.Limits.{Limits}
use Rattle.breakpoints.specs.Inner.Rows.{row_at, last_row}
use Rattle.breakpoints.specs.Inner.Tables.{Breakpoints}
use Rattle.probe.specs.Laws.Alike.{Covers, alike}
use Rattle.probe.specs.Laws.Pinned.{pinned}
use Rattle.range_ends.specs.declared.known.Shared.{Shared}
use Rattle.range_ends.specs.declared.known.Bracket.{Bracket}
use Rattle.range_ends.specs.Inner.Tabled.{Tabled}
use Rattle.range_ends.specs.Inner.Edges.{Edge, Reaches, Approach}
use Rattle.range_ends.specs.Inner.Known.{Outcomes, SharedHolds, EndKnown, EdgeKnown, SeenTo, Serves, Noted, RowOf, EdgeFound}
use Rattle.range_ends.specs.Laws.Taken.{taken_between}

-- where no high is so great, nothing is claimed
pub nothing_known : {lows highs : List ℕ} {total : ℕ} {limits : Limits} {shared : Shared} → Ranges lows highs → greatest_share < shared.over
    → SharedHolds lows highs total limits shared
nothing_known ranges past = record { of = λ j below under over. absurd (omega (arith, ranges_at ranges j below)) }

module _ {lows highs table : List ℕ} {total : ℕ} {limits : Limits} {i end share : ℕ} (way : Approach lows highs table total limits i end share)
    {shared : Shared} (known : SharedHolds lows highs total limits shared) where
  abbrev test : ℕ → Bool
  test = taken lows highs total limits i

  between : (a b : ℕ) → b ≤ greatest_share → test a ≡ true → test b ≡ true → (m : ℕ) → a ≤ m → m ≤ b → test m ≡ true
  between = taken_between way.tabled.sound.ranges total limits i way.here

  -- an end between two values that are taken is taken
  end_reached : EndKnown (get_or lows i 0) (get_or highs i 0) share end shared → Reaches test end share end
  end_reached told =
      let held = known.of i way.here told.under told.over in
      elim (dec_lt end share) [
        | yes less ↦ Reaches.whole (between shared.inner share way.share_small held.passes way.passes end (told.rising less) (omega arith))
        | no more ↦ Reaches.whole (between share shared.inner held.small way.passes held.passes end (omega arith) (told.falling (omega arith)))
      ]

  -- an edge on the way to the end is how far values are taken
  edge_reached : end ≢ share → EdgeKnown (get_or lows i 0) (get_or highs i 0) share end shared → Reaches test end share shared.inner
  edge_reached other told =
      let held = known.of i way.here told.under told.over in
      elim (dec_lt end share) [
        | yes less ↦
            let (a, b, c) = told.rising less in
            let fails : test shared.outer ≡ false = held.fails (omega arith) in
            let beyond : test end ≡ false = refuted (test end) (λ passes. clash (between end share way.share_small passes way.passes shared.outer (omega arith) (omega arith)) fails) in
            Reaches.part beyond (record {
              outer = shared.outer;
              straddle = record { fails = fails; passes = held.passes; rising = λ h. (a, b, c); falling = λ h. absurd (omega arith) };
              near = held.near;
            })
        | no more ↦
            let (a, b, c) = told.falling (omega arith) in
            let fails : test shared.outer ≡ false = held.fails (omega arith) in
            let beyond : test end ≡ false = refuted (test end) (λ passes. clash (between share end way.small way.passes passes shared.outer (omega arith) (omega arith)) fails) in
            Reaches.part beyond (record {
              outer = shared.outer;
              straddle = record { fails = fails; passes = held.passes; rising = λ h. absurd (omega arith); falling = λ h. (a, b, c) };
              near = held.near;
            })
      ]

  -- values are taken as far as seen
  pub seen_reached : {r : ℕ} → SeenTo (get_or lows i 0) (get_or highs i 0) share end shared r → Reaches test end share r
  seen_reached (SeenTo.itself same) = Reaches.whole (ap test same ∙ way.passes)
  seen_reached (SeenTo.within told) = end_reached told
  seen_reached (SeenTo.before other told) = edge_reached other told

-- the levels of the rows rise
marks_rise : {lows highs table : List ℕ} → Breakpoints lows highs table → (steps a b : ℕ) → a + steps ≡ b → b ≤ last_row table
    → (row_at table a).mark ≤ (row_at table b).mark
marks_rise held zero a b is up_to = let same : a ≡ b = omega arith in rw same (omega arith)
marks_rise held (suc steps) a b is up_to =
    omega (arith, (held.spans a (omega arith)).rises, marks_rise held steps (suc a) b (omega arith) up_to)

pub rows_rise : {lows highs table : List ℕ} → Breakpoints lows highs table → (a b : ℕ) → a ≤ b → b ≤ last_row table
    → (row_at table a).mark ≤ (row_at table b).mark
rows_rise held a b less up_to = let (steps, is) = le_dest less in marks_rise held steps a b is up_to

module _ {lows highs table : List ℕ} {total : ℕ} {limits : Limits} (tabled : Tabled lows highs total limits table) {i : ℕ} (here : i < length lows)
    {was : Shared} {found : Bracket} {near : ℕ} (known : SharedHolds lows highs total limits was)
    (outcomes : Outcomes (taken lows highs total limits i) found.inner found.outer) (small : found.outer ≤ greatest_share)
    (inner_row : RowOf lows highs table total i found.inner near)
    (outer_row : RowOf lows highs table total i found.outer found.far) where
  module _ {r : Shared} (serves : Serves table (last_row table) (get_or lows i 0) (get_or highs i 0) found near r) where
    -- a range that reaches from under to over reaches over the rows between
    covers : {low high : ℕ} → low ≤ r.under → r.over ≤ high → (k : ℕ) → min near found.far ≤ k → k ≤ max near found.far
        → Covers table k low high
    covers from up_to k first top = record {
      under = omega (arith, serves.under, rows_rise tabled.held (min near found.far) k first (omega (arith, serves.follows)));
      over = omega (arith, serves.over, rows_rise tabled.held (suc k) (suc (max near found.far)) (omega arith) serves.follows);
    }

    -- so that a value with such a row has one outcome
    same_outcome : (j : ℕ) → j < length lows → get_or lows j 0 ≤ r.under → r.over ≤ get_or highs j 0
        → (v k : ℕ) → v ≤ greatest_share → RowOf lows highs table total i v k → min near found.far ≤ k → k ≤ max near found.far
        → taken lows highs total limits i v ≡ taken lows highs total limits j v
    same_outcome j below from up_to v k share row first top =
        alike tabled.sound tabled.held (omega (arith, serves.follows))
        (covers serves.from serves.up_to k first top) (covers from up_to k first top)
        (pinned tabled.sound.ranges i v here share) (pinned tabled.sound.ranges j v below share) row limits

    serve_known : SharedHolds lows highs total limits r
    serve_known = record {
      of = λ j below from up_to.
          let inner_same = same_outcome j below from up_to found.inner near outcomes.small inner_row (omega arith) (omega arith) in
          let outer_same = same_outcome j below from up_to found.outer found.far small outer_row (omega arith) (omega arith) in
          rw (serves.inner, serves.outer) (record {
            small = outcomes.small;
            passes = sym inner_same ∙ outcomes.passes;
            near = outcomes.near;
            fails = λ other. sym outer_same ∙ outcomes.fails other;
          });
    }

  -- what is noted is known
  pub noted_known : {r : Shared} → Noted table (last_row table) (get_or lows i 0) (get_or highs i 0) was found near r → SharedHolds lows highs total limits r
  noted_known (Noted.stays same) = rw same known
  noted_known (Noted.serves serves) = serve_known serves

-- a search that is over tells an edge
pub found_edge : {lows highs table : List ℕ} {total : ℕ} {limits : Limits} {i outside inside : ℕ} {found : Bracket}
    → EdgeFound lows highs table total limits i outside inside found → Edge (taken lows highs total limits i) outside inside found.inner
found_edge {found = found} over = record { outer = found.outer; straddle = over.bracketed.straddle; near = over.near }

-- which, with the row of its inner value, serves others
pub found_known : {lows highs table : List ℕ} {total : ℕ} {limits : Limits} {i outside inside k : ℕ} {found : Bracket} {was r : Shared}
    → EdgeFound lows highs table total limits i outside inside found → RowOf lows highs table total i found.inner k → SharedHolds lows highs total limits was
    → Noted table (last_row table) (get_or lows i 0) (get_or highs i 0) was found k r
    → SharedHolds lows highs total limits r
found_known over row known noted =
    let at = over.bracketed in
    let way = at.search.way in
    noted_known way.tabled way.here known
    (record { small = way.share_small; passes = way.passes; near = over.near; fails = λ other. at.search.fails })
    way.small row at.outer_row noted

-- and so does a value that is taken
pub trial_known : {lows highs table : List ℕ} {total : ℕ} {limits : Limits} {i v k : ℕ} {was r : Shared}
    → Tabled lows highs total limits table → i < length lows → SharedHolds lows highs total limits was
    → v ≤ greatest_share → taken lows highs total limits i v ≡ true → RowOf lows highs table total i v k
    → Noted table (last_row table) (get_or lows i 0) (get_or highs i 0) was (record { inner = v; outer = v; near = Some k; far = k }) k r
    → SharedHolds lows highs total limits r
trial_known tabled here known small passes row noted =
    noted_known tabled here known (record { small = small; passes = passes; near = omega arith; fails = λ other. absurd (other refl) }) small row row noted
