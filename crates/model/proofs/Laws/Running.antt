-- Members who are shut change no total and no level: what holds of the running members holds of all. Assumes nothing.
use Rattle.std.specs.Prelude.{ℕ, zero, suc, ◌+◌, ◌-◌, ◌/◌, ◌≤◌, min, Bool, true, false, List, [], ◌∷◌, ◌≡◌, refl, leb, ltb, length, get_or}
use Rattle.std.proofs.Common.{sym, ap, ◌∙◌, arith, le-ltb, eqb-true}
use Rattle.std.proofs.Math.Nat.{suc_inj}
use Rattle.std.specs.List.{count_by}
use Rattle.std.specs.Prelude.{cond}
use Rattle.std.proofs.lemmas.List.Recursion.{is_count_by}
use Rattle.model.specs.Shares.{greatest_share, Ranges, Within, sum, sum_of}
use Rattle.model.specs.Levels.{clamp, clamped, total_at, level_below, level, growth, remainder, roomier, by_headroom, levelled}
use Rattle.model.specs.Ways.{topped, evened}
use Rattle.model.specs.Inner.Headroom.{is_ahead}
use Rattle.model.proofs.Laws.Headroom.{headroom_copy, ahead_rests, none_picked}
use Rattle.model.specs.Plans.{has_shares}
use Rattle.model.proofs.Laws.Lists.{sum_sum_of}
use Rattle.model.proofs.Laws.Tests.{right_fails}
use Rattle.model.specs.Figures.{figures_of}
use Rattle.model.specs.Running.{runs, running, Marked, marked_figures}

-- a running member's number is kept
pub running_run : (m : ℕ) → runs m ≡ true → (ms : List ℕ) (x : ℕ) (xs : List ℕ) → running (m ∷ ms) (x ∷ xs) ≡ x ∷ running ms xs
unfolding running
running_run m e ms x xs = rw (e, running)

-- a shut one's is left out
pub running_skip : (m : ℕ) → runs m ≡ false → (ms : List ℕ) (x : ℕ) (xs : List ℕ) → running (m ∷ ms) (x ∷ xs) ≡ running ms xs
unfolding running
running_skip m e ms x xs = rw (e, running)

-- without numbers nothing is kept
pub running_nil : (ms : List ℕ) → running ms [] ≡ []
unfolding running
running_nil [] = refl
running_nil (m ∷ ms) = refl

-- where nobody is shut, every number is kept
pub running_all : (ms xs : List ℕ) → length xs ≡ length ms → ((i : ℕ) → get_or ms i 0 ≡ 0) → running ms xs ≡ xs
running_all ms [] count all = running_nil ms
running_all [] (x ∷ xs) count all = absurd (omega arith)
running_all (m ∷ ms) (x ∷ xs) count all =
    running_run m (ap runs (all 0)) ms x xs
    ∙ ap (λ (l : List ℕ). x ∷ l) (running_all ms xs (suc_inj count) (λ i. all (suc i)))

-- and the figures are 01's, of all members
pub figures_all : (ms : List ℕ) (total : ℕ) (xs : List ℕ) → length xs ≡ length ms → ((i : ℕ) → get_or ms i 0 ≡ 0)
    → marked_figures ms total xs ≡ figures_of (length xs) total xs
figures_all ms total xs count all = ap (λ (l : List ℕ). figures_of (length l) total l) (running_all ms xs count all)

-- one mark for each range
pub marked_length : {ms ls hs : List ℕ} → Marked ms ls hs → (length ls ≡ length ms) × (length hs ≡ length ms)
marked_length Marked.none = (refl, refl)
marked_length (Marked.run m) = (ap suc (marked_length m).0, ap suc (marked_length m).1)
marked_length (Marked.shut m) = (ap suc (marked_length m).0, ap suc (marked_length m).1)

-- as many members run whatever numbers are asked of them
pub running_length : (ms xs ys : List ℕ) → length xs ≡ length ys → length (running ms xs) ≡ length (running ms ys)
unfolding running
running_length [] xs ys e = refl
running_length (m ∷ ms) [] [] e = refl
running_length (m ∷ ms) [] (y ∷ ys) e = absurd (omega arith)
running_length (m ∷ ms) (x ∷ xs) [] e = absurd (omega arith)
running_length (m ∷ ms) (x ∷ xs) (y ∷ ys) e = by (runs m) (running_length ms xs ys (suc_inj e))
  where
    by : (b : Bool) → length (running ms xs) ≡ length (running ms ys) → length {A = ℕ} (elim b [ true ↦ x ∷ running ms xs | false ↦ running ms xs ])
        ≡ length {A = ℕ} (elim b [ true ↦ y ∷ running ms ys | false ↦ running ms ys ])
    by true rest = ap suc rest
    by false rest = rest

-- at most all of them
pub running_few : (ms xs : List ℕ) → length (running ms xs) ≤ length xs
unfolding running
running_few [] xs = omega arith
running_few (m ∷ ms) [] = omega arith
running_few (m ∷ ms) (x ∷ xs) = by (runs m) (running_few ms xs)
  where
    by : (b : Bool) → length (running ms xs) ≤ length xs → length {A = ℕ} (elim b [ true ↦ x ∷ running ms xs | false ↦ running ms xs ]) ≤ suc (length xs)
    by true rest = omega arith
    by false rest = omega arith

-- as many run as there are marks of a running member
pub running_is : (ms : List ℕ) → length (running ms ms) ≡ count_by runs ms
unfolding running
running_is = is_count_by (λ ms. length (running ms ms)) runs refl (λ m ms. by (runs m) m (running ms ms))
  where
    by : (b : Bool) (m : ℕ) (rest : List ℕ) → length {A = ℕ} (elim b [ true ↦ m ∷ rest | false ↦ rest ]) ≡ cond b (1 + length rest) (length rest)
    by true m rest = omega arith
    by false m rest = refl

-- where as many run as there are members, nobody is shut
pub nobody_shut : (ms : List ℕ) → length (running ms ms) ≡ length ms → (i : ℕ) → get_or ms i 0 ≡ 0
nobody_shut [] all i = refl
nobody_shut (m ∷ ms) all i = by (runs m) refl (nobody_shut ms) i
  where
    by : (b : Bool) → runs m ≡ b → (length (running ms ms) ≡ length ms → (i : ℕ) → get_or ms i 0 ≡ 0) → (i : ℕ) → get_or (m ∷ ms) i 0 ≡ 0
    by true run rest zero = eqb-true m 0 run
    by true run rest (suc i) = rest (suc_inj (ap length (sym (running_run m run ms m ms)) ∙ all)) i
    by false shut rest i = absurd (omega (arith, all, ap length (running_skip m shut ms m ms), running_few ms ms))

-- the ranges of running members are ranges
pub running_ranges : (ms : List ℕ) {ls hs : List ℕ} → Ranges ls hs → Ranges (running ms ls) (running ms hs)
unfolding running
running_ranges [] r = Ranges.none
running_ranges (m ∷ ms) Ranges.none = Ranges.none
running_ranges (m ∷ ms) (Ranges.also {l} {h} {ls} {hs} p q r) = by (runs m) (running_ranges ms r)
  where
    by : (b : Bool) → Ranges (running ms ls) (running ms hs)
        → Ranges (elim b [ true ↦ l ∷ running ms ls | false ↦ running ms ls ]) (elim b [ true ↦ h ∷ running ms hs | false ↦ running ms hs ])
    by true rest = Ranges.also p q rest
    by false rest = rest

-- shares of running members in their ranges
pub running_within : (ms : List ℕ) {ls hs xs : List ℕ} → Within ls hs xs → Within (running ms ls) (running ms hs) (running ms xs)
unfolding running
running_within [] w = Within.none
running_within (m ∷ ms) Within.none = Within.none
running_within (m ∷ ms) (Within.also {l} {h} {x} {ls} {hs} {xs} p q w) = by (runs m) (running_within ms w)
  where
    by : (b : Bool) → Within (running ms ls) (running ms hs) (running ms xs)
        → Within (elim b [ true ↦ l ∷ running ms ls | false ↦ running ms ls ]) (elim b [ true ↦ h ∷ running ms hs | false ↦ running ms hs ])
        (elim b [ true ↦ x ∷ running ms xs | false ↦ running ms xs ])
    by true rest = Within.also p q rest
    by false rest = rest

-- a shut member's share is 0, so the running members have all of a sum to which 0 adds nothing
pub running_sum_of : (f : ℕ → ℕ) → f 0 ≡ 0 → {ms ls hs xs : List ℕ} → Marked ms ls hs → Within ls hs xs → sum_of f (running ms xs) ≡ sum_of f xs
unfolding running sum_of
running_sum_of f none Marked.none Within.none = refl
running_sum_of f none (Marked.run m) (Within.also {x = x} p q w) = ap (λ (n : ℕ). f x + n) (running_sum_of f none m w)
running_sum_of f none (Marked.shut m) (Within.also {x = x} p q w) =
    let nothing : x ≡ 0 = omega arith in
    omega (arith, running_sum_of f none m w, ap f nothing)

-- and the whole total
pub running_sum : {ms ls hs xs : List ℕ} → Marked ms ls hs → Within ls hs xs → sum (running ms xs) ≡ sum xs
running_sum {ms} {ls} {hs} {xs} m w = rw (sum_sum_of (running ms xs), sum_sum_of xs) (running_sum_of (λ x. x) refl m w)

pub running_lows : {ms ls hs : List ℕ} → Marked ms ls hs → sum (running ms ls) ≡ sum ls
unfolding running sum
running_lows Marked.none = refl
running_lows (Marked.run {l} m) = ap (λ (n : ℕ). l + n) (running_lows m)
running_lows (Marked.shut m) = omega (arith, running_lows m)

pub running_highs : {ms ls hs : List ℕ} → Marked ms ls hs → sum (running ms hs) ≡ sum hs
unfolding running sum
running_highs Marked.none = refl
running_highs (Marked.run {h = h} m) = ap (λ (n : ℕ). h + n) (running_highs m)
running_highs (Marked.shut m) = omega (arith, running_highs m)

-- shares with the total exist where the running members have them
pub running_shares : {ms ls hs : List ℕ} → Marked ms ls hs → (total : ℕ) → has_shares (running ms ls) (running ms hs) total ≡ has_shares ls hs total
running_shares m total = rw (running_lows m, running_highs m)

-- T(v) is that of the running members
pub running_total : {ms ls hs : List ℕ} → Marked ms ls hs → (v : ℕ) → total_at (running ms ls) (running ms hs) v ≡ total_at ls hs v
unfolding running total_at clamped sum
running_total Marked.none v = refl
running_total (Marked.run {l} {h} m) v = ap (λ (n : ℕ). clamp l h v + n) (running_total m v)
running_total (Marked.shut m) v = omega (arith, running_total m v)

-- so is the level
running_below : {ms ls hs : List ℕ} → Marked ms ls hs → (total steps v top : ℕ)
    → level_below steps (running ms ls) (running ms hs) total v top ≡ level_below steps ls hs total v top
unfolding level_below
running_below m total zero v top = refl
running_below {ms} {ls} {hs} m total (suc steps) v top =
    rw (running_total m ((v + top) / 2), level_below)
    (by (leb (total_at ls hs ((v + top) / 2)) total) (running_below m total steps))
  where
    by : (b : Bool)
        → ((v top : ℕ) → level_below steps (running ms ls) (running ms hs) total v top ≡ level_below steps ls hs total v top)
        → ◌≡◌ {A = ℕ}
        (elim b [
          | true ↦ level_below steps (running ms ls) (running ms hs) total ((v + top) / 2) top
          | false ↦ level_below steps (running ms ls) (running ms hs) total v ((v + top) / 2)
        ])
        (elim b [ true ↦ level_below steps ls hs total ((v + top) / 2) top | false ↦ level_below steps ls hs total v ((v + top) / 2) ])
    by true rest = rest ((v + top) / 2) top
    by false rest = rest v ((v + top) / 2)

pub running_level : {ms ls hs : List ℕ} → Marked ms ls hs → (total : ℕ) → level (running ms ls) (running ms hs) total ≡ level ls hs total
unfolding level
running_level m total = running_below m total 20 0 (suc greatest_share)

-- and the copies left over
running_remainder : {ms ls hs : List ℕ} → Marked ms ls hs → (total : ℕ) → remainder (running ms ls) (running ms hs) total ≡ remainder ls hs total
unfolding remainder
running_remainder m total = rw (running_level m total, running_total m)

-- a shut member takes no copy more
shut_growth : (v : ℕ) → growth 0 0 v ≡ 0
shut_growth v = rw (le-ltb v 0 (omega arith), right_fails (leb 0 v) refl)

running_topped : {ms ls hs : List ℕ} → Marked ms ls hs → (v left : ℕ)
    → running ms (topped ls hs v left) ≡ topped (running ms ls) (running ms hs) v left
unfolding running topped
running_topped Marked.none v left = refl
running_topped (Marked.run {l} {h} m) v left =
    ap (λ (xs : List ℕ). (clamp l h v + min left (growth l h v)) ∷ xs) (running_topped m v (left - min left (growth l h v)))
running_topped (Marked.shut {ms} {ls} {hs} m) v left =
    let none : left - min left (growth 0 0 v) ≡ left = omega (arith, shut_growth v) in
    ap (λ (n : ℕ). running ms (topped ls hs v n)) none ∙ running_topped m v left

-- nor is it ahead of any
running_roomier : {ms ls hs : List ℕ} → Marked ms ls hs → (v t : ℕ) → roomier (running ms ls) (running ms hs) v t ≡ roomier ls hs v t
unfolding running roomier
running_roomier Marked.none v t = refl
running_roomier (Marked.run {l} {h} m) v t = ap (λ (n : ℕ). is_ahead l h v t + n) (running_roomier m v t)
running_roomier (Marked.shut m) v t = omega (arith, ahead_rests 0 0 v t (shut_growth v), running_roomier m v t)

running_headroom : {ms ls hs : List ℕ} → Marked ms ls hs → (v left : ℕ)
    → running ms (by_headroom ls hs v left) ≡ by_headroom (running ms ls) (running ms hs) v left
unfolding running by_headroom
running_headroom Marked.none v left = refl
running_headroom (Marked.run {l} {h} {ms} {ls} {hs} m) v left =
    rw (running_roomier m v h)
    (ap (λ (xs : List ℕ). (clamp l h v + headroom_copy ls hs v left l h) ∷ xs) (running_headroom m v (left - headroom_copy ls hs v left l h)))
running_headroom (Marked.shut {ms} {ls} {hs} m) v left =
    let none : left - headroom_copy ls hs v left 0 0 ≡ left = omega (arith, none_picked (ltb (roomier ls hs v 0) left) (shut_growth v)) in
    ap (λ (n : ℕ). running ms (by_headroom ls hs v n)) none ∙ running_headroom m v left

-- the levelled shares of the running members are those that they have among all members
pub running_levelled : {ms ls hs : List ℕ} → Marked ms ls hs → (total : ℕ)
    → running ms (levelled ls hs total) ≡ levelled (running ms ls) (running ms hs) total
unfolding levelled
running_levelled m total = rw (running_level m total, running_remainder m total) (running_headroom m _ _)

-- and so are the even ones
pub running_evened : {ms ls hs : List ℕ} → Marked ms ls hs → (total : ℕ)
    → running ms (evened ls hs total) ≡ evened (running ms ls) (running ms hs) total
unfolding evened
running_evened m total = rw (running_level m total, running_remainder m total) (running_topped m _ _)
