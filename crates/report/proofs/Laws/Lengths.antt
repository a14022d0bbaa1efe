-- How long the lines of a report are, and that it fits its buffer. Assumes nothing.
use Rattle.std.specs.Prelude.{ℕ, suc, ◌+◌, ◌*◌, ◌^◌, ◌≤◌, ◌<◌, ◌≡◌, refl, length, get_or}
use mathlib.Core.List.Memᴰ
use mathlib.Core.List.{List, [], ◌∷◌, ◌++◌, flatten}
use Rattle.std.proofs.Common.{mul-le-mul, arith, length-append}
use Rattle.model.specs.Figures.{deviation, spread}
use Rattle.model.specs.Running.{running, Marked, marked_figures}
use Rattle.model.proofs.Laws.Running.{running_within}
use Rattle.model.proofs.Laws.Marked.{running_counted}
use Rattle.model.specs.Groups.{Group}
use Rattle.model.proofs.Laws.Level.{level_share}
use Rattle.model.proofs.Laws.Levelled.{levelled_within}
use Rattle.model.specs.Levels.{level, levelled}
use Rattle.model.specs.Shares.{Ranges, Within, greatest_total, most_units}
use Rattle.model.specs.declared.Figures.{Figures}
use Rattle.text.specs.Words.{bytes}
use Rattle.model.proofs.Laws.Bounds.{share_small, sum_small, squares_small, deviation_small}
use Rattle.model.proofs.Laws.Pairs.{pairs_small}
use Rattle.model.specs.Sound.{SoundRanges, HasShares}
use Rattle.model.proofs.Laws.Sound.{running_sound, levelled_length, highs_small}
use Rattle.groups.specs.Memberships.{memberships}
use Rattle.form.specs.Form.{most_bytes}
use Rattle.member_ranges.specs.Laws.Members.{gather_length}
use Rattle.works.specs.Resting.{marks_of}
use Rattle.member_ranges.specs.Tables.{Table, lows_of, highs_of}
use Rattle.print.specs.Items.{form}
use Rattle.print.specs.Laws.Lengths.{item_length, items_more, items_none, items_length, form_length, line_length}
use Rattle.report.specs.Lines.{settled_line, unit_line, group_line, refusal_line}
use Rattle.report.specs.Reportable.{AllLevelable, Reportable}
use Rattle.report.specs.Reports.{unit_lines, levelled_line, group_lines, report_of}

-- a refusal's line, with numbers of any size that the code holds
pub refusal_length : (number place : ℕ) → number < 2 ^ 64 → place < 2 ^ 64 → length (refusal_line number place) ≤ 64
refusal_length number place p q =
    omega (
      arith,
      line_length (bytes "(refused") (number ∷ place ∷ []),
      items_more number (place ∷ []),
      items_more place [],
      items_none,
      item_length 19 number (omega arith),
      item_length 19 place (omega arith),
    )

-- the line of the passes, with at most nine digits
settled_length : (passes : ℕ) → passes < 10 ^ 9 → length (settled_line passes) ≤ 20
settled_length passes h =
    omega (arith, line_length (bytes "(settled") (passes ∷ []), items_more passes [], items_none, item_length 8 passes h)

-- a unit's line, with a number below 1000 and shares
unit_length : (number low high : ℕ) → number < 10 ^ 3 → low < 10 ^ 7 → high < 10 ^ 7 → length (unit_line number low high) ≤ 27
unit_length number low high p q r =
    omega (
      arith,
      line_length (bytes "(unit") (number ∷ low ∷ high ∷ []),
      items_more number (low ∷ high ∷ []),
      items_more low (high ∷ []),
      items_more high [],
      items_none,
      item_length 2 number p,
      item_length 6 low q,
      item_length 6 high r,
    )

-- the unit lines of at most some hundreds of units
unit_lengths : {lows highs : List ℕ} → Ranges lows highs → (number : ℕ) → number + length lows < 10 ^ 3
    → length (flatten (unit_lines number lows highs)) ≤ 27 * length lows
unfolding unit_lines flatten
unit_lengths Ranges.none number few = omega arith
unit_lengths (Ranges.also {l} {h} {ls} {hs} p q ranges) number few =
    omega (
      arith,
      length-append (unit_line number l h) (flatten (unit_lines (suc number) ls hs)),
      unit_length number l h (omega arith) (omega arith) (omega arith),
      unit_lengths ranges (suc number) (omega arith),
    )

-- a group's line, with numbers of so many digits
group_length : (number level : ℕ) (figures : Figures) (shares : List ℕ) → number < 10 ^ 2 → level < 10 ^ 7
    → figures.deviation.0 < 10 ^ 11 → figures.spread.0 < 10 ^ 17 → figures.pairs.0 < 10 ^ 11 → ((i : ℕ) → i < length shares → get_or shares i 0 < 10 ^ 7)
    → length (group_line number level figures shares) ≤ 68 + 8 * length shares
unfolding group_line flatten
group_length number level figures shares p q small_deviation small_spread small_pairs small =
    let d : ℕ = figures.deviation.0 in
    let s : ℕ = figures.spread.0 in
    let g : ℕ = figures.pairs.0 in
    let opening : List ℕ = form (bytes "(group") (number ∷ level ∷ d ∷ s ∷ g ∷ []) in
    let plan : List ℕ = form (bytes " (plan") shares in
    omega (
      arith,
      length-append opening (plan ++ bytes "))\n"),
      length-append plan (bytes "))\n"),
      form_length (bytes "(group") (number ∷ level ∷ d ∷ s ∷ g ∷ []),
      form_length (bytes " (plan") shares,
      items_more number (level ∷ d ∷ s ∷ g ∷ []),
      items_more level (d ∷ s ∷ g ∷ []),
      items_more d (s ∷ g ∷ []),
      items_more s (g ∷ []),
      items_more g [],
      items_none,
      item_length 1 number p,
      item_length 6 level q,
      item_length 10 d small_deviation,
      item_length 16 s small_spread,
      item_length 10 g small_pairs,
      items_length 6 shares small,
    )

-- a group's line as the report has it
levelled_line_length : {lows highs marks : List ℕ} {total : ℕ} → Marked marks lows highs → HasShares lows highs total → (number : ℕ) → number < 10 ^ 2
    → length (levelled_line number lows highs marks total) ≤ 68 + 8 * length lows
unfolding levelled_line spread
levelled_line_length {lows} {highs} {marks} {total} marked shares number p =
    let xs : List ℕ = levelled lows highs total in
    let sound : SoundRanges lows highs = shares.sound in
    let within : Within lows highs xs = levelled_within sound.ranges total in
    let ran : SoundRanges (running marks lows) (running marks highs) = running_sound marks sound in
    let ran_within : Within (running marks lows) (running marks highs) (running marks xs) = running_within marks within in
    let counted : length (running marks xs) ≡ length (running marks lows) = running_counted marks within in
    let few : length (running marks xs) ≤ most_units = omega (arith, ran.few) in
    let small : deviation (length (running marks xs)) total (running marks xs) ≤ most_units * greatest_total =
    rw counted (deviation_small ran ran_within total (omega (arith, shares.high, highs_small sound))) in
    omega (
      arith,
      levelled_length sound total,
      group_length number (level lows highs total)
          (marked_figures marks total xs)
          xs
          p
          (omega (arith, level_share lows highs total))
          (omega (arith, small))
          (omega (arith, mul-le-mul few (squares_small ran ran_within)))
          (omega (arith, pairs_small (running marks xs), mul-le-mul few (sum_small ran ran_within)))
          (λ i h. omega (arith, share_small sound within i h)),
    )

-- the group lines of fewer than 100 groups
group_lengths : (marks : List ℕ) (table : Table) (groups : List Group) → AllLevelable marks table groups → (number : ℕ) → number + length groups < 10 ^ 2
    → length (flatten (group_lines marks number table groups)) ≤ 68 * length groups + 8 * memberships groups
unfolding group_lines flatten memberships
group_lengths marks table [] each number few = omega arith
group_lengths marks table (group ∷ groups) each number few =
    let first : List ℕ = levelled_line number (lows_of table group) (highs_of table group) (marks_of marks group) group.total in
    omega (
      arith,
      length-append first (flatten (group_lines marks (suc number) table groups)),
      gather_length table.lows group.members,
      levelled_line_length (each group (Memᴰ.head refl)).marked (each group (Memᴰ.head refl)).shares number (omega arith),
      group_lengths marks table groups (λ other member. each other (Memᴰ.tail member)) (suc number) (omega arith),
    )

-- every report fits its buffer
pub report_fits : {marks : List ℕ} {groups : List Group} {table : Table} {passes : ℕ} → Reportable marks groups table passes
    → length (report_of marks groups table passes) ≤ most_bytes
unfolding report_of flatten
report_fits {marks} {groups} {table} {passes} ready =
    let units : List ℕ = flatten (unit_lines 1 table.lows table.highs) in
    let lines : List ℕ = flatten (group_lines marks 1 table groups) in
    omega (
      arith,
      length-append (settled_line passes) (units ++ (lines ++ [])),
      length-append units (lines ++ []),
      length-append lines [],
      settled_length passes (omega (arith, ready.few_passes)),
      unit_lengths ready.valid 1 (omega (arith, ready.few_units)),
      group_lengths marks table groups ready.levelable 1 (omega (arith, ready.few_groups)),
      ready.few_units,
      ready.few_groups,
      ready.few_memberships,
    )
