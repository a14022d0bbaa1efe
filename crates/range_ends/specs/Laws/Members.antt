-- What holds of lows and of highs alike, said of either end. Assumes nothing.
use Rattle.std.specs.Prelude.{ℕ, ◌<◌, Bool, true, false, List, ◌≡◌, length, get_or}
use Rattle.model.specs.Shares.{pick}
use Rattle.model.specs.Plans.{taken, narrowed_low, narrowed_high}
use Rattle.model.proofs.Laws.Narrowing.{narrowed_lows_length, narrowed_highs_length, narrowed_lows_at, narrowed_highs_at}
use Rattle.model.specs.declared.Limits.{Limits}
use Rattle.range_ends.specs.Inner.Edges.{Planned, Approach, Reaches}
use Rattle.range_ends.specs.Inner.Members.{narrowed_ends}
use Rattle.range_ends.specs.Inner.Tabled.{Tabled}
use Rattle.range_ends.specs.Laws.Ends.{to_low, to_high, low_reached, high_reached}

module _ (lows highs : List ℕ) (total : ℕ) (limits : Limits) where
  -- an end a member
  pub ends_length : (up : Bool) → length (narrowed_ends up lows highs total limits) ≡ length lows
  ends_length true = narrowed_highs_length lows highs total limits
  ends_length false = narrowed_lows_length lows highs total limits

  pub ends_at : (up : Bool) (i : ℕ) → i < length lows
      → get_or (narrowed_ends up lows highs total limits) i 0 ≡ pick up (narrowed_high lows highs total limits i) (narrowed_low lows highs total limits i)
  ends_at true i here = narrowed_highs_at lows highs total limits i here
  ends_at false i here = narrowed_lows_at lows highs total limits i here

module _ {lows highs : List ℕ} {total : ℕ} {limits : Limits} {i share : ℕ} (planned : Planned lows highs total limits i share) where
  -- the way from the share to the end
  pub to_end : (up : Bool) {table : List ℕ} → Tabled lows highs total limits table
      → Approach lows highs table total limits i (pick up (get_or highs i 0) (get_or lows i 0)) share
  to_end true tabled = to_high planned tabled
  to_end false tabled = to_low planned tabled

  -- what is reached on it is the narrowed end
  pub end_reached : (up : Bool) {r : ℕ} → Reaches (taken lows highs total limits i) (pick up (get_or highs i 0) (get_or lows i 0)) share r
      → r ≡ pick up (narrowed_high lows highs total limits i) (narrowed_low lows highs total limits i)
  end_reached true reaches = high_reached planned reaches
  end_reached false reaches = low_reached planned reaches
