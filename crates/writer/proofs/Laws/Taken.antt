-- The text of a sound job is accepted, as that job. Assumes nothing.
use Prim.Native.Nat.{ℕ, suc, ◌+◌, ◌≤◌, ◌<◌}
use Rattle.std.specs.Prelude.{Bool, false, List, [], ◌∷◌, ◌++◌, map, ◌≡◌, refl, length, get_or}
use Rattle.std.proofs.Math.Bool.{true}
use Rattle.std.proofs.Common.{append_assoc, append-nil, ◌∙◌, arith, le-leb, length-append}
use Rattle.std.proofs.Math.Path.{sym, ap}
use Rattle.std.proofs.lemmas.List.{length-map}
use Rattle.groups.specs.Memberships.{memberships, UnsaidAny}
use Rattle.groups.specs.Laws.Storing.{memberships_snoc}
use Rattle.job.specs.Accepting.{Takes}
use Rattle.form.specs.Form.{UnitLine, range, shut, line_low, line_high, line_mark, pairs_limit, is_said, limits_said, GroupLine, unit, group, print_line}
use Rattle.job.specs.Job.{Job, most_groups, most_memberships, distinct, group_of, members_verdict, verdict, add, no_lines}
use Rattle.form.specs.Named.{all_named, member_of}
use Rattle.job.proofs.Laws.Distinct.{distinct_members, different_distinct}
use Rattle.job.proofs.Laws.SameJob.{good_group}
use Rattle.job.proofs.Laws.Verdicts.{good_unit}
use Rattle.job.specs.Sound.{AcceptedGroup, AcceptedGroups, SoundJob}
use Rattle.model.specs.Figures.{greatest_deviation, greatest_spread, greatest_pairs, limit_within}
use Rattle.model.specs.Groups.{Group}
use Rattle.model.proofs.Laws.Tests.{both}
use Rattle.model.specs.Running.{Marked}
use Rattle.model.specs.Shares.{Ranges, greatest_share, most_units}
use Rattle.model.specs.declared.Limit.{Limit}
use Rattle.model.specs.declared.Limit.TheVariants.{Any}
use Rattle.model.specs.declared.Limits.{Limits}
use Rattle.job_lines.specs.Texts.{range_lines, pairs_written, heading_of, member_line, job_lines}

-- the unit numbers of members below the count are named
numbers_named : (units : ℕ) (members : List ℕ) → ((k : ℕ) → k < length members → get_or members k 0 < units) → all_named units (map suc members) ≡ true
unfolding all_named
numbers_named units [] below = refl
numbers_named units (m ∷ members) below =
    both (both (le-leb 1 (suc m) (omega arith)) (le-leb (suc m) units (omega (arith, below 0 (omega arith)))))
    (numbers_named units members (λ k h. below (suc k) (omega arith)))

-- the members behind unit numbers are the members
numbers_back : (members : List ℕ) → map member_of (map suc members) ≡ members
numbers_back [] = refl
numbers_back (m ∷ members) = let same : member_of (suc m) ≡ m = omega arith in rw (same, numbers_back members)

-- a job with these units behind its own
abbrev grown : Job → List ℕ → List ℕ → List ℕ → Job
grown job marks lows highs =
    record { lows = job.lows ++ lows; highs = job.highs ++ highs; marks = job.marks ++ marks; groups = job.groups }

-- a unit line has no refusal while there is room
unit_taken : (job : Job) (l : UnitLine) → line_low l ≤ line_high l → line_high l ≤ greatest_share → length job.groups ≡ 0
    → length job.lows < most_units → verdict job (unit l) ≡ 0
unfolding verdict
unit_taken job l ordered fits none room =
    good_unit (record { low_fits = omega arith; high_fits = fits; no_group = none; room = room; ordered = ordered })

-- the first of the units behind a job's own, taken by its line
one_more : (job : Job) (l : UnitLine) (marks lows highs : List ℕ)
    → grown (add job (unit l)) marks lows highs ≡ grown job (line_mark l ∷ marks) (line_low l ∷ lows) (line_high l ∷ highs)
unfolding add
one_more job l marks lows highs =
    rw (
      append_assoc job.lows (line_low l ∷ []) lows,
      append_assoc job.highs (line_high l ∷ []) highs,
      append_assoc job.marks (line_mark l ∷ []) marks,
    )

-- the unit lines of ranges and marks are taken, and what follows them after that
takes_ranges : (job : Job) {marks lows highs : List ℕ} {lines : List (List ℕ)} {final : Job} → Ranges lows highs → Marked marks lows highs
    → length job.groups ≡ 0 → length job.lows + length lows ≤ most_units → Takes (grown job marks lows highs) lines final
    → Takes job (range_lines marks lows highs ++ lines) final
unfolding range_lines print_line add
takes_ranges job Ranges.none Marked.none none room rest = rw (append-nil job.lows, append-nil job.highs, append-nil job.marks) at rest
takes_ranges job {lines = lines} {final = final} (Ranges.also {l} {h} {ls} {hs} ordered fits ranges) (Marked.run {ms = ms} marked) none room rest =
    let line : UnitLine = range l h in
    let after : Takes (grown (add job (unit line)) ms ls hs) lines final = rw (one_more job line ms ls hs) rest in
    Takes.also (unit line) refl (unit_taken job line ordered fits none (omega arith))
    (takes_ranges (add job (unit line)) ranges marked none (omega (arith, length-append job.lows (l ∷ []))) after)
takes_ranges job {lines = lines} {final = final} (Ranges.also {ls = ls} {hs = hs} ordered fits ranges) (Marked.shut {ms = ms} marked) none room rest =
    let after : Takes (grown (add job (unit shut)) ms ls hs) lines final = rw (one_more job shut ms ls hs) rest in
    Takes.also (unit shut) refl (unit_taken job shut ordered fits none (omega arith))
    (takes_ranges (add job (unit shut)) ranges marked none (omega (arith, length-append job.lows (0 ∷ []))) after)

-- a pairs limit is written as it was, where what was not there is any
limit_back : (there : Bool) (limit : Limit) → (there ≡ false → limit ≡ Any) → pairs_limit (pairs_written there limit) ≡ limit
limit_back false limit any = sym (any refl)
limit_back true limit any = refl

-- and only if it was there
there_back : (there : Bool) (limit : Limit) → is_said (pairs_written there limit) ≡ there
there_back false limit = refl
there_back true limit = refl

-- a group put together from its parts
group_again : (g : Group) {limit : Limit} {there : Bool} {members : List ℕ} → limit ≡ g.limits.pairs → there ≡ g.pairs_there → members ≡ g.members
    → record {
      total = g.total;
      limits = record { deviation = g.limits.deviation; spread = g.limits.spread; pairs = limit };
      pairs_there = there;
      members = members;
    } ≡ g
group_again g e f h = rw (e, f, h)

-- the group line of a group with members
pub record LineOf (g : Group) : Type 0 where
  pub line : GroupLine
  pub printed : member_line g ≡ print_line (group line)
  pub holds : group_of line ≡ g
  pub numbers : line.first ∷ line.others ≡ map suc g.members

line_of : (g : Group) → 0 < length g.members → UnsaidAny g → LineOf g
unfolding member_line print_line
line_of g some any = by_members g.members refl
  where
    by_members : (ms : List ℕ) → g.members ≡ ms → LineOf g
    by_members [] is = absurd (omega (arith, ap length is))
    by_members (m ∷ ms) is = record {
      line = record { heading = heading_of g.total g.limits g.pairs_there; first = suc m; others = map suc ms };
      printed = rw is;
      holds =
          group_again g (limit_back g.pairs_there g.limits.pairs any) (there_back g.pairs_there g.limits.pairs)
          (numbers_back (m ∷ ms) ∙ sym is);
      numbers = rw is;
    }

-- the group line of an accepted group has no refusal while there is room
module _ (job : Job) (g : Group) (found : LineOf g) (good : AcceptedGroup (length job.lows) g)
    (room : length job.groups < most_groups) (fits : memberships job.groups + length g.members ≤ most_memberships) where
  members_good : members_verdict (length job.lows) (map suc g.members) ≡ 0
  unfolding members_verdict
  members_good =
      let named : all_named (length job.lows) (map suc g.members) ≡ true = numbers_named _ g.members good.sound.named.below in
      let apart : distinct (map suc g.members) ≡ true =
      sym (distinct_members _ (map suc g.members) named)
      ∙ ap distinct (numbers_back g.members)
      ∙ different_distinct g.members good.sound.named.different in
      rw (named, apart)

  line_good : verdict job (group found.line) ≡ 0
  line_good =
      let counted : length (found.line.first ∷ found.line.others) ≡ length g.members = ap length found.numbers ∙ length-map g.members suc in
      let total_is : found.line.heading.total ≡ g.total = ap (λ (h : Group). h.total) found.holds in
      let limits_are : limits_said found.line.heading ≡ g.limits = ap (λ (h : Group). h.limits) found.holds in
      good_group job found.line (record {
        total_fits = rw total_is good.total_fits;
        deviation_fits = ap (λ (l : Limits). limit_within l.deviation greatest_deviation) limits_are ∙ good.deviation_fits;
        spread_fits = ap (λ (l : Limits). limit_within l.spread greatest_spread) limits_are ∙ good.spread_fits;
        pairs_fits = ap (λ (l : Limits). limit_within l.pairs greatest_pairs) limits_are ∙ good.pairs_fits;
        room = room;
        fits = omega (arith, counted, fits);
      }) (rw found.numbers members_good)

-- the group lines of accepted groups are taken
takes_groups : {units : ℕ} {groups : List Group} → AcceptedGroups units groups → (job : Job) → length job.lows ≡ units
    → length job.groups + length groups ≤ most_groups → memberships job.groups + memberships groups ≤ most_memberships
    → Takes job (map member_line groups) (record { lows = job.lows; highs = job.highs; marks = job.marks; groups = job.groups ++ groups })
unfolding memberships add
takes_groups AcceptedGroups.none job counted room fits =
    Takes.none (ap (λ (gs : List Group). record { lows = job.lows; highs = job.highs; marks = job.marks; groups = gs }) (sym (append-nil job.groups)))
takes_groups (AcceptedGroups.also {g} {gs} first others) job counted room fits =
    let at : LineOf g = line_of g first.sound.some first.unsaid_any in
    let grows : List Group = job.groups ++ g ∷ [] in
    let after : Takes (add job (group at.line)) (map member_line gs) (record { lows = job.lows; highs = job.highs; marks = job.marks; groups = job.groups ++ g ∷ gs }) =
    rw (at.holds, ← append_assoc job.groups (g ∷ []) gs)
    (takes_groups others (record { lows = job.lows; highs = job.highs; marks = job.marks; groups = grows }) counted
    (omega (arith, length-append job.groups (g ∷ [])))
    (omega (arith, memberships_snoc job.groups g))) in
    Takes.also (group at.line) at.printed (line_good job g at (rw counted first) (omega arith) (omega arith)) after

-- the lines of a sound job are taken, and give that job
pub takes_job : (job : Job) → SoundJob job → Takes no_lines (job_lines job) job
unfolding memberships
takes_job job sound =
    takes_ranges no_lines sound.built.ranges sound.built.marked refl (omega (arith, sound.built.few_units))
    (takes_groups sound.built.groups_sound (record { lows = job.lows; highs = job.highs; marks = job.marks; groups = [] }) refl
    (omega (arith, sound.built.few_groups))
    (omega (arith, sound.built.few_memberships)))
