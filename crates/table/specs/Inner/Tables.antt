-- A table of ranges from two lists of numbers, and after each call. Assumes nothing.
use Rattle.std.specs.Prelude.{ℕ, Result, zero, suc, min, List, [], ◌∷◌, ◌++◌, length, take, drop, replicate}
use Rattle.model.specs.Shares.{most_units}
use Rattle.table.specs.declared.Range.{Range}
use Rattle.table.specs.declared.Bounds.{Bounds}
use Rattle.job.specs.declared.Counts.{Counts}
use Rattle.model.specs.declared.Refusal.{Refusal}
use Rattle.report.specs.declared.Written.{Written}
use Rattle.works.specs.declared.Unsettled.{Unsettled}
use Rattle.job.specs.Job.{JobOrRefusal}
use Rattle.job.specs.Reading.{reading_of, read_table, lows_after, highs_after}
use Rattle.report.specs.Calls.{Reported, report_text}
use Rattle.works.specs.Calls.{Settlement, settle_text}
use Rattle.writer.specs.Calls.{WrittenText, write_text}
use Rattle.table.specs.Tables.{lows_in, highs_in}

-- the table with these lows and highs
abbrev pub ranges : List ℕ → List ℕ → List Range
ranges (l ∷ ls) (h ∷ hs) = record { low = l; high = h } ∷ ranges ls hs
ranges (l ∷ ls) [] = []
ranges [] hs = []

-- ys with its first n entries from xs
abbrev pub over {ℓ} : {A : Type ℓ} → ℕ → List A → List A → List A
over zero xs ys = ys
over (suc n) [] ys = ys
over (suc n) (x ∷ xs) [] = []
over (suc n) (x ∷ xs) (y ∷ ys) = x ∷ over n xs ys

-- 256 numbers 0
unfoldable pub zeros : List ℕ
zeros = replicate most_units 0

-- the bounds of a table's first 256 entries
abbrev pub bounds_of : List Range → Bounds
bounds_of t = record {
  lows = over (min (length t) most_units) (lows_in t) zeros;
  highs = over (min (length t) most_units) (highs_in t) zeros;
  count = min (length t) most_units;
}

-- what settling a text over bounds hands back, with a scratch of so many numbers
abbrev pub after_settling : List ℕ → Bounds → ℕ → Bounds × Result ℕ Unsettled
after_settling text c scratch =
    let s : Settlement = settle_text text (take c.count c.lows) (take c.count c.highs) scratch in
    (record { lows = s.lows ++ drop c.count c.lows; highs = s.highs ++ drop c.count c.highs; count = c.count }, s.answer)

-- what reporting a text over bounds hands back, with a scratch of so many numbers
abbrev pub after_reporting : List ℕ → Bounds → ℕ → List ℕ → Bounds × Result Written Unsettled
after_reporting text c scratch buffer =
    let s : Reported = report_text text (take c.count c.lows) (take c.count c.highs) scratch buffer in
    (record { lows = s.lows ++ drop c.count c.lows; highs = s.highs ++ drop c.count c.highs; count = c.count }, s.answer)

-- and the buffer after it
abbrev pub buffer_after : List ℕ → Bounds → ℕ → List ℕ → List ℕ
buffer_after text c scratch buffer = (report_text text (take c.count c.lows) (take c.count c.highs) scratch buffer).buffer

-- what reading a text into bounds hands back
abbrev pub after_reading : List ℕ → Bounds → Bounds × Result Counts Refusal
after_reading text c =
    let lows : List ℕ = take c.count c.lows in
    let highs : List ℕ = take c.count c.highs in
    let found : JobOrRefusal = read_table text (length lows) (length highs) in (
      record { lows = lows_after found lows ++ drop c.count c.lows; highs = highs_after found highs ++ drop c.count c.highs; count = c.count },
      reading_of found,
    )

-- what writing a text's job with bounds answers, and the buffer after it
abbrev pub after_writing : List ℕ → Bounds → List ℕ → WrittenText
after_writing text c buffer = write_text text (take c.count c.lows) (take c.count c.highs) buffer
