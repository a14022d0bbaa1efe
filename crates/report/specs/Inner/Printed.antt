-- What the program lends, the table that it opens with, and what it prints of an answer. Assumes nothing.
use Rattle.std.specs.Prelude.{ℕ, Result, Ok, Err, ◌*◌, ◌≤◌, List, ◌++◌, ◌≡◌, length, drop}
use Rattle.form.specs.Form.{most_bytes}
use Rattle.works.specs.Called.{Cleared, opening}
use Rattle.member_ranges.specs.Tables.{table_of}
use Rattle.report.specs.Lines.{refusal_line}
use Rattle.works.specs.declared.Unsettled.{Unsettled}
use Rattle.report.specs.declared.Written.{Written}
use Rattle.model.specs.Shares.{most_units}
use Rattle.works.specs.declared.Unsettled.TheVariants.{NoPlan, Refused}

-- lists and a buffer with room for every job
pub record JobRoom (lows highs scratch buffer : List ℕ) : Type 0 where
  pub for_lows : most_units ≤ length lows
  pub for_highs : most_units ≤ length highs
  pub for_scratch : 8 * most_units ≤ length scratch
  pub for_buffer : most_bytes ≤ length buffer

-- the table holds the ranges of the text's unit lines, and settling passes the checks
pub record Opened (text lows highs : List ℕ) (scratch : ℕ) : Type 0 where
  pub cleared : Cleared text lows highs scratch
  pub opens : opening cleared ≡ table_of cleared.found.lows cleared.found.highs

-- the length of what is printed of an answer: of the report that was written, or of the refusal's line
abbrev pub size_printed : Result Written Unsettled → ℕ
size_printed (Ok written) = written.length
size_printed (Err (NoPlan number place passes)) = length (refusal_line number place)
size_printed (Err (Refused refusal)) = length (refusal_line refusal.number refusal.place)

-- a line, and past it what a buffer held
abbrev over : List ℕ → List ℕ → List ℕ
over line buffer = line ++ drop (length line) buffer

-- the buffer then: with the report that it holds, or with the refusal's line at its start
abbrev pub buffer_printed : Result Written Unsettled → List ℕ → List ℕ
buffer_printed (Ok written) buffer = buffer
buffer_printed (Err (NoPlan number place passes)) buffer = over (refusal_line number place) buffer
buffer_printed (Err (Refused refusal)) buffer = over (refusal_line refusal.number refusal.place) buffer
