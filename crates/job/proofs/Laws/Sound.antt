-- An accepted job is sound. Assumes nothing.
use Rattle.std.specs.Prelude.{ℕ, zero, suc, ◌≤◌, Bool, true, false, List, [], ◌∷◌, ◌++◌, ◌≡◌, refl, leb, length}
use Rattle.std.proofs.Common.{◌∙◌, arith, ne_eqb, eq-eqb, length-append}
use Rattle.std.proofs.Math.Decide.{ℕ_discrete}
use Rattle.std.proofs.lemmas.List.{length-map}
use Rattle.model.specs.Shares.{pick, greatest_share, Ranges, none as no_ranges, also as and_range}
use Rattle.model.specs.Running.{Marked}
use Rattle.model.specs.Groups.{Group}
use Rattle.model.specs.declared.Limit.TheVariants.{Any}
use Rattle.text.specs.Parsed.{Parsed, parsed, failed}
use Rattle.form.specs.Form.{UnitLine, range, shut, line_low, line_high, line_mark, PairsLimit, unsaid, said, pairs_limit, is_said, limits_said, Line, unit, group, line}
use Rattle.groups.specs.Memberships.{memberships}
use Rattle.groups.specs.Laws.Reading.{AllUnsaidAny}
use Rattle.groups.specs.Laws.Storing.{memberships_snoc}
use Rattle.job.specs.Job.{Job, group_of, verdict, add, place_of, judged, LineStep, next, stop, step_on, JobOrRefusal, accepted, refused}
use Rattle.form.specs.Form.{most_bytes}
use Rattle.job.specs.Job.{onward, read_lines, no_lines, some_unit, read_job}
use Rattle.job.proofs.Laws.Distinct.{distinct_members, members_below, below_at, distinct_at}
use Rattle.job.proofs.Laws.Verdicts.{unit_good, first_zero, head_good, members_good}
use Rattle.job.specs.Sound.{AcceptedGroup, none, also, AcceptedGroups, Built, SoundJob}
use Rattle.model.specs.Refusals.{refusal}

ranges_snoc : {ls hs : List ℕ} (l h : ℕ) → Ranges ls hs → l ≤ h → h ≤ greatest_share → Ranges (ls ++ l ∷ []) (hs ++ h ∷ [])
ranges_snoc l h no_ranges p q = and_range p q no_ranges
ranges_snoc l h (and_range a b r) p q = and_range a b (ranges_snoc l h r p q)

marked_snoc : {ms ls hs : List ℕ} → Marked ms ls hs → (u : UnitLine) → Marked (ms ++ line_mark u ∷ []) (ls ++ line_low u ∷ []) (hs ++ line_high u ∷ [])
marked_snoc Marked.none (range low high) = Marked.run Marked.none
marked_snoc Marked.none shut = Marked.shut Marked.none
marked_snoc (Marked.run r) u = Marked.run (marked_snoc r u)
marked_snoc (Marked.shut r) u = Marked.shut (marked_snoc r u)

groups_snoc : {units : ℕ} {gs : List Group} {g : Group} → AcceptedGroups units gs → AcceptedGroup units g → AcceptedGroups units (gs ++ g ∷ [])
groups_snoc none s = also s none
groups_snoc (also a r) s = also a (groups_snoc r s)

no_groups : (n : ℕ) (gs : List Group) → length gs ≡ 0 → AcceptedGroups n gs
no_groups n [] h = none
no_groups n (g ∷ gs) h = absurd (omega arith)

-- a pairs limit that is not there is any
unsaid_is_any : (p : PairsLimit) → is_said p ≡ false → pairs_limit p ≡ Any
unsaid_is_any unsaid missing = refl
unsaid_is_any (said limit) missing = absurd (let z : ◌≡◌ {A = ℕ} 0 1 = cc in omega arith)

-- in every group of an accepted job
pub all_unsaid_any : {units : ℕ} {gs : List Group} → AcceptedGroups units gs → AllUnsaidAny gs
all_unsaid_any none = AllUnsaidAny.none
all_unsaid_any (also good others) = AllUnsaidAny.also good.unsaid_any (all_unsaid_any others)

-- a line taken keeps it so
built_on : (job : Job) (l : Line) → Built job → verdict job l ≡ 0 → Built (add job l)
unfolding verdict add
built_on job (unit u) b e =
    let g = unit_good _ _ u e in
    record {
      ranges = ranges_snoc (line_low u) (line_high u) b.ranges g.ordered g.high_fits;
      marked = marked_snoc b.marked u;
      few_units = rw length-append (omega (arith, g.room));
      few_groups = b.few_groups;
      few_memberships = b.few_memberships;
      groups_sound = no_groups _ job.groups g.no_group;
    }
built_on job (group g) b e =
    let z = first_zero _ _ e in
    let k = head_good _ _ g.heading.total (limits_said g.heading) _ z.0 in
    let m = members_good _ (g.first ∷ g.others) z.1 in
    record {
      ranges = b.ranges;
      marked = b.marked;
      few_units = b.few_units;
      few_groups = rw length-append (omega (arith, k.room));
      few_memberships = rw (memberships_snoc job.groups (group_of g), length-map) k.fits;
      groups_sound =
          groups_snoc b.groups_sound
          (record {
            total_fits = k.total_fits;
            deviation_fits = k.deviation_fits;
            spread_fits = k.spread_fits;
            pairs_fits = k.pairs_fits;
            unsaid_any = unsaid_is_any g.heading.pairs;
            sound = record {
              some = omega arith;
              named = record {
                below = λ i h. below_at _ _ i (members_below _ _ (g.first ∷ g.others) (omega arith) m.all_named) h;
                different = distinct_at _ (distinct_members _ (g.first ∷ g.others) m.all_named ∙ m.all_distinct);
              };
            };
          });
    }

judged_zero : (v : ℕ) (j k : Job) (s r : List ℕ) (place : ℕ) → judged v j s place ≡ next k r → (v ≡ 0) × (j ≡ k)
judged_zero zero j k s r place h = (refl, cc)
judged_zero (suc v) j k s r place h = absurd (let z : ◌≡◌ {A = ℕ} 0 1 = cc in omega arith)

built_step : (job : Job) (s : List ℕ) (p : Parsed Line) (k : Job) (r : List ℕ) → Built job → step_on job s p ≡ next k r → Built k
unfolding step_on
built_step job s failed k r b h = absurd (let z : ◌≡◌ {A = ℕ} 0 1 = cc in omega arith)
built_step job s (parsed l rest) k r b h =
    let z = judged_zero (verdict job l) (add job l) k rest r (place_of job) h in
    rw (← z.1) (built_on job l b z.0)

built_lines : (n : ℕ) (job : Job) (s : List ℕ) (k : Job) → Built job → read_lines n job s ≡ accepted k → Built k
unfolding read_lines onward
built_lines zero job s k b h = let e : job ≡ k = cc in rw (← e) b
built_lines (suc n) job [] k b h = let e : job ≡ k = cc in rw (← e) b
built_lines (suc n) job (c ∷ s) k b h =
    by_step (step_on job (c ∷ s) (line (c ∷ s))) (λ j r e f. built_lines n j r k (built_step job (c ∷ s) (line (c ∷ s)) j r b e) f) refl h
  where
    by_step : (t : LineStep) → ((j : Job) (r : List ℕ) → step_on job (c ∷ s) (line (c ∷ s)) ≡ next j r → read_lines n j r ≡ accepted k → Built k)
        → step_on job (c ∷ s) (line (c ∷ s)) ≡ t → onward (λ j r. read_lines n j r) t ≡ accepted k → Built k
    by_step (next j r) again e f = again j r e f
    by_step (stop r) again e f = absurd (let z : ◌≡◌ {A = ℕ} 0 1 = cc in omega arith)

sound_unit : (o : JobOrRefusal) (k : Job) → ((j : Job) → o ≡ accepted j → Built j) → some_unit o ≡ accepted k → SoundJob k
unfolding some_unit
sound_unit (accepted job) k b h =
    elim (ℕ_discrete (length job.lows) 0) [
      | yes p ↦ absurd (let e : refused (refusal 10 0) ≡ accepted k =
          rw (eq-eqb (length job.lows) 0 p) at h in let z : ◌≡◌ {A = ℕ} 0 1 = cc in omega arith)
      | no p ↦
          let e : accepted job ≡ accepted k = rw (ne_eqb (length job.lows) 0 p) at h in
          let f : job ≡ k = cc in
          rw (← f) (record { some_unit = omega arith; built = b job refl })
    ]
sound_unit (refused r) k b h = absurd (let z : ◌≡◌ {A = ℕ} 0 1 = cc in omega arith)

-- an accepted job is sound
pub accepted_sound : (text : List ℕ) (job : Job) → read_job text ≡ accepted job → SoundJob job
unfolding read_job memberships
accepted_sound text job h = by_length (leb (length text) most_bytes) h
  where
    start : Built no_lines
    start =
        record { ranges = no_ranges; marked = Marked.none; few_units = omega arith; few_groups = omega arith; few_memberships = omega arith; groups_sound = none }

    by_length : (t : Bool) → pick t (some_unit (read_lines (length text) no_lines text)) (refused (refusal 2 0)) ≡ accepted job → SoundJob job
    by_length true e = sound_unit (read_lines (length text) no_lines text) job (λ j f. built_lines (length text) no_lines text j start f) e
    by_length false e = absurd (let z : ◌≡◌ {A = ℕ} 0 1 = cc in omega arith)
