-- How long the text of a job is. Assumes nothing.
use Rattle.std.specs.Prelude.{ℕ, suc, ◌+◌, ◌*◌, ◌^◌, ◌≤◌, ◌<◌, Bool, true, false, ◌≡◌, length, get_or}
use mathlib.Core.List.{List, [], ◌∷◌, ◌++◌, map, flatten}
use Rattle.std.proofs.Common.{ap, arith, leb-true, length-append}
use Rattle.groups.specs.Memberships.{memberships}
use Rattle.form.specs.Form.{print_limit, print_pairs, print_members, print_unit, space, unit_ending, deviation_opening, spread_opening, pairs_opening, members_opening, group_ending}
use Rattle.job.specs.Job.{Job}
use Rattle.job.specs.Sound.{AcceptedGroup, AcceptedGroups, SoundJob}
use Rattle.model.specs.Figures.{greatest_pairs, limit_within}
use Rattle.model.specs.Groups.{Group}
use Rattle.model.specs.Running.{Marked}
use Rattle.model.specs.Shares.{Ranges, most_units}
use Rattle.model.specs.declared.Limit.{Limit}
use Rattle.model.specs.declared.Limit.TheVariants.{Any, AtMost}
use Rattle.print.specs.Laws.Lengths.{print_length}
use Rattle.text.specs.Numbers.{print_number}
use Rattle.job_lines.specs.Laws.Pieces.{joined_both}
use Rattle.job_lines.specs.Texts.{range_lines, pairs_written, member_line, job_text, most_written}

-- a unit line of two shares
unit_length : (low high : ℕ) → low < 10 ^ 7 → high < 10 ^ 7 → length (print_unit low high) ≤ 23
unit_length low high p q =
    omega (
      arith,
      length-append (print_number low) (space ++ (print_number high ++ unit_ending)),
      length-append (print_number high) unit_ending,
      print_length 6 low p,
      print_length 6 high q,
    )

-- the unit lines
ranges_length : {marks lows highs : List ℕ} → Ranges lows highs → Marked marks lows highs
    → length (flatten (range_lines marks lows highs)) ≤ 23 * length lows
unfolding range_lines flatten
ranges_length Ranges.none Marked.none = omega arith
ranges_length (Ranges.also {l} {h} {ls} {hs} ordered fits ranges) (Marked.run {ms = ms} marked) =
    omega (
      arith,
      length-append (print_unit l h) (flatten (range_lines ms ls hs)),
      unit_length l h (omega arith) (omega arith),
      ranges_length ranges marked,
    )
ranges_length (Ranges.also ordered fits ranges) (Marked.shut marked) = omega (arith, ranges_length ranges marked)

-- a limit, with at most so many digits
limit_length : (k : ℕ) (limit : Limit) {most : ℕ} → most < 10 ^ suc k → 2 ≤ k → limit_within limit most ≡ true → length (print_limit limit) ≤ suc k
unfolding print_limit
limit_length k Any fits long within = omega arith
limit_length k (AtMost v) {most} fits long within = print_length k v (omega (arith, leb-true v most within))

-- a pairs limit, where it was there
pairs_length : (there : Bool) (limit : Limit) → limit_within limit greatest_pairs ≡ true → length (print_pairs (pairs_written there limit)) ≤ 21
unfolding print_pairs
pairs_length false limit within = omega arith
pairs_length true limit within =
    omega (arith, length-append pairs_opening (print_limit limit), limit_length 11 limit (omega arith) (omega arith) within)

-- unit numbers below 1000
members_length : (members : List ℕ) → ((k : ℕ) → k < length members → get_or members k 0 < most_units)
    → length (print_members (map suc members)) ≤ 4 * length members
unfolding print_members
members_length [] below = omega arith
members_length (m ∷ members) below =
    omega (
      arith,
      length-append (print_number (suc m)) (print_members (map suc members)),
      print_length 2 (suc m) (omega (arith, below 0 (omega arith))),
      members_length members (λ k h. below (suc k) (omega arith)),
    )

-- a group line
group_length : {units : ℕ} (g : Group) → units ≤ most_units → AcceptedGroup units g → length (member_line g) ≤ 91 + 4 * length g.members
unfolding member_line
group_length g few good =
    let numbers : List ℕ = print_members (map suc g.members) in
    let members_part : List ℕ = members_opening ++ (numbers ++ group_ending) in
    let pairs : List ℕ = print_pairs (pairs_written g.pairs_there g.limits.pairs) in
    let spread_part : List ℕ = spread_opening ++ (print_limit g.limits.spread ++ (pairs ++ members_part)) in
    let deviation_part : List ℕ = deviation_opening ++ (print_limit g.limits.deviation ++ spread_part) in
    omega (
      arith,
      length-append (print_number g.total) deviation_part,
      length-append (print_limit g.limits.deviation) spread_part,
      length-append (print_limit g.limits.spread) (pairs ++ members_part),
      length-append pairs members_part,
      length-append numbers group_ending,
      print_length 8 g.total (omega (arith, good.total_fits)),
      limit_length 11 g.limits.deviation (omega arith) (omega arith) good.deviation_fits,
      limit_length 17 g.limits.spread (omega arith) (omega arith) good.spread_fits,
      pairs_length g.pairs_there g.limits.pairs good.pairs_fits,
      members_length g.members (λ k h. omega (arith, good.sound.named.below k h)),
    )

-- the group lines
groups_length : {units : ℕ} {groups : List Group} → units ≤ most_units → AcceptedGroups units groups
    → length (flatten (map member_line groups)) ≤ 91 * length groups + 4 * memberships groups
unfolding flatten memberships
groups_length few AcceptedGroups.none = omega arith
groups_length few (AcceptedGroups.also {g} {gs} first others) =
    omega (
      arith,
      length-append (member_line g) (flatten (map member_line gs)),
      group_length g few first,
      groups_length few others,
    )

-- the text of every sound job fits
pub text_fits : (job : Job) → SoundJob job → length (job_text job) ≤ most_written
unfolding job_text
text_fits job sound =
    let built = sound.built in
    let units : List (List ℕ) = range_lines job.marks job.lows job.highs in
    let groups : List (List ℕ) = map member_line job.groups in
    omega (
      arith,
      ap length (joined_both units groups),
      length-append (flatten units) (flatten groups),
      ranges_length built.ranges built.marked,
      groups_length built.few_units built.groups_sound,
      built.few_units,
      built.few_groups,
      built.few_memberships,
    )
