-- The known shares of 01, of groups and of jobs, computed. Assumes nothing.
use Rattle.std.specs.Prelude.{ℕ, zero, suc, ◌<◌, true, List, [], ◌∷◌, ◌≢◌, ◌≡◌, refl, get_or}
use mathlib.Core.List.Memᴰ
use Rattle.std.proofs.Common.{⊎_elim, arith}
use Rattle.model.specs.Running.{running, Marked}
use Rattle.model.specs.Shares.{Ranges, sum, sum_of}
use Rattle.model.specs.Figures.{deviation, spread, pairs}
use Rattle.model.specs.Known.{known, is_known, four, ten, three, same_list}
use Rattle.model.specs.Levels.{clamped, total_at, level_below, level, remainder, roomier, by_headroom, levelled}
use Rattle.model.specs.Ways.{topped, evened}
use Rattle.model.specs.Plans.{has_plan, turn_of, first_up, first_down, narrowed_low, narrowed_high, tabulate, narrowed_lows, narrowed_highs}
use Rattle.works.specs.Consistency.{Suits}
use Rattle.works.specs.Resting.{ShutOpening, AtRest}
use Rattle.works.specs.Settling.{Outcome, narrowed, revise, pass_from, settle_from, settle}
use Rattle.member_ranges.specs.Tables.{widths, gather, scatter}
use Rattle.works.proofs.Laws.Resting.{settled_rest}
use Rattle.works.specs.Known.{holds_job, all_jobs, pair, three_pairs, pair_table, example, example_pairs, example_table, known_jobs}
use Rattle.groups.specs.Memberships.{SoundGroup}

-- every known share holds of the definitions
pub known_jobs_lem : all_jobs known_jobs ≡ true
unfolding all_jobs holds_job known_jobs three_pairs pair_table example example_pairs example_table settle settle_from pass_from revise narrowed widths gather scatter known is_known four ten three same_list sum sum_of deviation spread pairs clamped total_at level_below level remainder roomier by_headroom levelled topped evened has_plan turn_of first_up first_down narrowed_low narrowed_high tabulate narrowed_lows narrowed_highs
known_jobs_lem = refl

-- the three pairs settle in one pass, which leaves the opening table
pub pairs_settle : settle three_pairs pair_table ≡ Outcome.settled pair_table 1
unfolding three_pairs pair_table settle settle_from pass_from revise narrowed widths gather scatter same_list sum sum_of deviation spread pairs clamped total_at level_below level remainder roomier by_headroom levelled topped evened has_plan turn_of first_up first_down narrowed_low narrowed_high tabulate narrowed_lows narrowed_highs
pairs_settle = refl

-- two different units are a sound group
pair_sound : (units a b : ℕ) → a < units → b < units → a ≢ b → SoundGroup units (pair a b)
pair_sound units a b p q apart = record { some = omega arith; named = record { below = below; different = different } }
  where
    below : (k : ℕ) → k < 2 → get_or (a ∷ b ∷ []) k 0 < units
    below zero h = p
    below (suc zero) h = q
    below (suc (suc k)) h = absurd (omega arith)

    different : (j k : ℕ) → j < 2 → k < 2 → get_or (a ∷ b ∷ []) j 0 ≡ get_or (a ∷ b ∷ []) k 0 → j ≡ k
    different zero zero h i e = refl
    different zero (suc zero) h i e = absurd (apart e)
    different (suc zero) zero h i e = absurd (omega arith)
    different (suc zero) (suc zero) h i e = refl
    different zero (suc (suc k)) h i e = absurd (omega arith)
    different (suc zero) (suc (suc k)) h i e = absurd (omega arith)
    different (suc (suc j)) k h i e = absurd (omega arith)

-- a range [0,1] more
none_or_one : {lows highs : List ℕ} → Ranges lows highs → Ranges (0 ∷ lows) (1 ∷ highs)
none_or_one ranges = Ranges.also {l = 0} {h = 1} (omega arith) (omega arith) ranges

-- the three pairs and their table are sound, with no unit shut
pub pairs_sound : ShutOpening (0 ∷ 0 ∷ 0 ∷ []) three_pairs pair_table
unfolding three_pairs pair_table
pairs_sound = record {
  valid = none_or_one (none_or_one (none_or_one Ranges.none));
  shut = Marked.run (Marked.run (Marked.run Marked.none));
  each = λ group member.
      ⊎_elim (λ e. rw e (pair_sound 3 0 1 (omega arith) (omega arith) (omega arith)))
      (λ later. ⊎_elim (λ e. rw e (pair_sound 3 0 2 (omega arith) (omega arith) (omega arith)))
      (λ last. ⊎_elim (λ e. rw e (pair_sound 3 1 2 (omega arith) (omega arith) (omega arith)))
      (λ none. absurd (Memᴰ.not-nil none))
      (Memᴰ.cases_cons last)) (Memᴰ.cases_cons later)) (Memᴰ.cases_cons member);
}

-- 01: the three pairs are "at rest at the outset"
pub pairs_consistent : AtRest (0 ∷ 0 ∷ 0 ∷ []) three_pairs pair_table
unfolding three_pairs gather running
pairs_consistent = settled_rest pairs_sound pairs_settle

-- 01: "yet no shares suit all three"
pub pairs_unsuited : (xs : List ℕ) → Suits three_pairs pair_table xs → ⊥
unfolding three_pairs pair_table gather sum
pairs_unsuited xs suits =
    omega (
      arith,
      (suits (pair 0 1) (Memᴰ.head refl)).adds,
      (suits (pair 0 2) (Memᴰ.tail (Memᴰ.head refl))).adds,
      (suits (pair 1 2) (Memᴰ.tail (Memᴰ.tail (Memᴰ.head refl)))).adds,
    )
