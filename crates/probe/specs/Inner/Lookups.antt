-- Where pairs are limited: looking distances up in a table. Assumes nothing.
use Rattle.std.specs.Prelude.{ℕ, List, ◌≡◌, length}
use Rattle.probe.specs.declared.terms.Terms.{Terms}
use Rattle.breakpoints.specs.Inner.Distances.{Paired}
use Rattle.breakpoints.specs.Inner.Rows.{last_row}
use Rattle.breakpoints.specs.Inner.Tables.{SoundWithTotal, Breakpoints}

-- a group whose distances can be looked up
pub record PairLookable (lows highs table : List ℕ) (terms : Terms) : Type 0 where
  pub sound : SoundWithTotal lows highs terms.total
  pub held : Breakpoints lows highs table
  pub paired : Paired lows highs table
  pub counted : terms.count ≡ length lows
  pub ended : terms.last ≡ last_row table
