-- A group with shut members has the plans of its running ones, with 0 for each that is shut. Assumes nothing.
use Rattle.std.specs.Prelude.{ℕ, zero, suc, ◌<◌, Bool, true, false, List, [], ◌∷◌, ◌⊎◌, ◌≡◌, refl, length, get_or}
use Rattle.std.proofs.Common.{inl, inr, ap, sym, ◌∙◌, le_refl, le_of_suc-le-suc, arith}
use Rattle.std.proofs.Math.Nat.{suc_inj}
use Rattle.model.specs.Shares.{Within, sum}
use Rattle.model.specs.Plans.{Plan}
use Rattle.model.specs.Running.{runs, running, restored, Marked, MarkedPlan}
use Rattle.model.proofs.Laws.Lists.{within_length}
use Rattle.model.proofs.Laws.Running.{running_run, running_skip, running_length, running_within, running_sum}
use Rattle.model.specs.declared.Limits.{Limits}

-- a running member has its number back
pub restored_run : (m : ℕ) → runs m ≡ true → (ms : List ℕ) (y : ℕ) (ys : List ℕ) → restored (m ∷ ms) (y ∷ ys) ≡ y ∷ restored ms ys
unfolding restored
restored_run m e ms y ys = rw (e, restored)

-- a shut one has 0
pub restored_skip : (m : ℕ) → runs m ≡ false → (ms ys : List ℕ) → restored (m ∷ ms) ys ≡ 0 ∷ restored ms ys
unfolding restored
restored_skip m e ms [] = refl
restored_skip m e ms (y ∷ ys) = rw (e, restored)

-- one number for each member
pub restored_length : (ms ys : List ℕ) → length (restored ms ys) ≡ length ms
unfolding restored
restored_length [] ys = refl
restored_length (m ∷ ms) [] = ap suc (restored_length ms [])
restored_length (m ∷ ms) (y ∷ ys) = by (runs m) (restored_length ms ys) (restored_length ms (y ∷ ys))
  where
    by : (b : Bool) → length (restored ms ys) ≡ length ms → length (restored ms (y ∷ ys)) ≡ length ms
        → length {A = ℕ} (elim b [ true ↦ y ∷ restored ms ys | false ↦ 0 ∷ restored ms (y ∷ ys) ]) ≡ suc (length ms)
    by true p q = ap suc p
    by false p q = ap suc q

-- where nobody is shut, every number is at its place
pub restored_all : (ms ys : List ℕ) → length ys ≡ length ms → ((i : ℕ) → get_or ms i 0 ≡ 0) → restored ms ys ≡ ys
unfolding restored
restored_all [] [] count all = refl
restored_all [] (y ∷ ys) count all = absurd (omega arith)
restored_all (m ∷ ms) [] count all = absurd (omega arith)
restored_all (m ∷ ms) (y ∷ ys) count all =
    restored_run m (ap runs (all 0)) ms y ys
    ∙ ap (λ (l : List ℕ). y ∷ l) (restored_all ms ys (suc_inj count) (λ i. all (suc i)))

-- where the running members have numbers in their ranges, all have
pub restored_within : {ms ls hs : List ℕ} → Marked ms ls hs → (ys : List ℕ) → Within (running ms ls) (running ms hs) ys → Within ls hs (restored ms ys)
unfolding running restored
restored_within Marked.none ys w = Within.none
restored_within (Marked.run m) [] w = elim w [ ]
restored_within (Marked.run m) (y ∷ ys) (Within.also p q w) = Within.also p q (restored_within m ys w)
restored_within (Marked.shut m) [] w = Within.also (le_refl 0) (le_refl 0) (restored_within m [] w)
restored_within (Marked.shut m) (y ∷ ys) w = Within.also (le_refl 0) (le_refl 0) (restored_within m (y ∷ ys) w)

-- and the running ones have theirs back
pub running_restored : {ms ls hs : List ℕ} → Marked ms ls hs → (ys : List ℕ) → Within (running ms ls) (running ms hs) ys → running ms (restored ms ys) ≡ ys
unfolding running restored
running_restored Marked.none [] w = refl
running_restored Marked.none (y ∷ ys) w = elim w [ ]
running_restored (Marked.run m) [] w = elim w [ ]
running_restored (Marked.run m) (y ∷ ys) (Within.also p q w) = ap (λ (l : List ℕ). y ∷ l) (running_restored m ys w)
running_restored (Marked.shut m) [] w = running_restored m [] w
running_restored (Marked.shut m) (y ∷ ys) w = running_restored m (y ∷ ys) w

-- shares of all members are those of the running ones, with 0 for each shut one
pub restored_running : {ms ls hs xs : List ℕ} → Marked ms ls hs → Within ls hs xs → restored ms (running ms xs) ≡ xs
unfolding running restored
restored_running Marked.none Within.none = refl
restored_running (Marked.run m) (Within.also {x = x} p q w) = ap (λ (l : List ℕ). x ∷ l) (restored_running m w)
restored_running (Marked.shut {ms} m) (Within.also {x = x} {xs = xs} p q w) =
    let nothing : x ≡ 0 = omega arith in
    rw nothing (restored_skip 1 refl ms (running ms xs) ∙ ap (λ (l : List ℕ). 0 ∷ l) (restored_running m w))

-- as many running members have ranges as have shares
pub running_counted : (ms : List ℕ) {ls hs xs : List ℕ} → Within ls hs xs → length (running ms xs) ≡ length (running ms ls)
running_counted ms {ls} {hs} {xs} within = running_length ms xs ls (sym (within_length within).0)

module _ {ms ls hs : List ℕ} (marked : Marked ms ls hs) {total : ℕ} {limits : Limits} where
  -- a plan has a plan of the running members
  pub marked_plan : {xs : List ℕ} → MarkedPlan ms ls hs total limits xs → Plan (running ms ls) (running ms hs) total limits (running ms xs)
  marked_plan {xs} plan =
      record {
        within = running_within ms plan.within;
        adds = running_sum marked plan.within ∙ plan.adds;
        meets = rw (← running_counted ms plan.within) plan.meets;
      }

  -- a plan of the running members is one of all, with 0 for each shut one
  pub plan_marked : {ys : List ℕ} → Plan (running ms ls) (running ms hs) total limits ys → MarkedPlan ms ls hs total limits (restored ms ys)
  plan_marked {ys} plan =
      let within = restored_within marked ys plan.within in
      let back = running_restored marked ys plan.within in
      record {
        within = within;
        adds = sym (running_sum marked within) ∙ ap sum back ∙ plan.adds;
        meets = rw (running_counted ms within, back) plan.meets;
      }

-- member i is running, and is the j-th running one, both running-counted from 0
pub data Ranked : List ℕ → ℕ → ℕ → Type 0 where
  here : {m : ℕ} {ms : List ℕ} → runs m ≡ true → Ranked (m ∷ ms) 0 0
  past : {m i j : ℕ} {ms : List ℕ} → runs m ≡ true → Ranked ms i j → Ranked (m ∷ ms) (suc i) (suc j)
  past_shut : {m i j : ℕ} {ms : List ℕ} → runs m ≡ false → Ranked ms i j → Ranked (m ∷ ms) (suc i) j

-- a member is shut, or is one of the running ones
pub ranked : (ms : List ℕ) (i : ℕ) → i < length ms → (runs (get_or ms i 0) ≡ false) ⊎ ((j : ℕ) × Ranked ms i j)
ranked [] i h = absurd (omega arith)
ranked (m ∷ ms) zero h = by (runs m) refl
  where
    by : (b : Bool) → runs m ≡ b → (runs m ≡ false) ⊎ ((j : ℕ) × Ranked (m ∷ ms) 0 j)
    by true e = inr (0, Ranked.here e)
    by false e = inl e
ranked (m ∷ ms) (suc i) h = by (runs m) refl (ranked ms i (le_of_suc-le-suc h))
  where
    by : (b : Bool) → runs m ≡ b → (runs (get_or ms i 0) ≡ false) ⊎ ((j : ℕ) × Ranked ms i j)
        → (runs (get_or ms i 0) ≡ false) ⊎ ((j : ℕ) × Ranked (m ∷ ms) (suc i) j)
    by b e (inl shut) = inl shut
    by true e (inr (j, r)) = inr (suc j, Ranked.past e r)
    by false e (inr (j, r)) = inr (j, Ranked.past_shut e r)

-- each running one is some member
pub unranked : (ms xs : List ℕ) → length xs ≡ length ms → (j : ℕ) → j < length (running ms xs) → (i : ℕ) × Ranked ms i j × (i < length ms)
unfolding running
unranked [] xs e j h = absurd (omega arith)
unranked (m ∷ ms) [] e j h = absurd (omega arith)
unranked (m ∷ ms) (x ∷ xs) e j h = by (runs m) refl j h (unranked ms xs (suc_inj e))
  where
    by : (b : Bool) → runs m ≡ b → (j : ℕ) → j < length {A = ℕ} (elim b [ true ↦ x ∷ running ms xs | false ↦ running ms xs ])
        → ((j : ℕ) → j < length (running ms xs) → (i : ℕ) × Ranked ms i j × (i < length ms))
        → (i : ℕ) × Ranked (m ∷ ms) i j × (i < length (m ∷ ms))
    by true e zero h rest = (0, Ranked.here e, omega arith)
    by true e (suc j) h rest = let (i, r, below) = rest j (le_of_suc-le-suc h) in (suc i, Ranked.past e r, omega arith)
    by false e j h rest = let (i, r, below) = rest j h in (suc i, Ranked.past_shut e r, omega arith)

-- what a running member has
pub running_at : {ms : List ℕ} {i j : ℕ} → Ranked ms i j → (xs : List ℕ) → length xs ≡ length ms
    → (get_or (running ms xs) j 0 ≡ get_or xs i 0) × (j < length (running ms xs))
unfolding running
running_at (Ranked.here e) [] f = absurd (omega arith)
running_at (Ranked.past e r) [] f = absurd (omega arith)
running_at (Ranked.past_shut e r) [] f = absurd (omega arith)
running_at (Ranked.here {m} {ms} e) (x ∷ xs) f = rw (running_run m e ms x xs) (refl, omega arith)
running_at (Ranked.past {m = m} {ms = ms} e r) (x ∷ xs) f =
    let (same, below) = running_at r xs (suc_inj f) in rw (running_run m e ms x xs) (same, omega arith)
running_at (Ranked.past_shut {m = m} {ms = ms} e r) (x ∷ xs) f = rw (running_skip m e ms x xs) (running_at r xs (suc_inj f))

-- and has back
pub restored_at : {ms : List ℕ} {i j : ℕ} → Ranked ms i j → (ys : List ℕ) → j < length ys → get_or (restored ms ys) i 0 ≡ get_or ys j 0
unfolding restored
restored_at r [] h = absurd (omega arith)
restored_at (Ranked.here {m} {ms} e) (y ∷ ys) h = rw (restored_run m e ms y ys)
restored_at (Ranked.past {m = m} {ms = ms} e r) (y ∷ ys) h = rw (restored_run m e ms y ys) (restored_at r ys (le_of_suc-le-suc h))
restored_at (Ranked.past_shut {m = m} {ms = ms} e r) (y ∷ ys) h = rw (restored_skip m e ms (y ∷ ys)) (restored_at r (y ∷ ys) h)

-- a shut member has 0
pub restored_shut : (ms ys : List ℕ) (i : ℕ) → runs (get_or ms i 0) ≡ false → get_or (restored ms ys) i 0 ≡ 0
unfolding restored
restored_shut [] ys i shut = refl
restored_shut (m ∷ ms) ys zero shut = rw (restored_skip m shut ms ys)
restored_shut (m ∷ ms) [] (suc i) shut = restored_shut ms [] i shut
restored_shut (m ∷ ms) (y ∷ ys) (suc i) shut = by (runs m) (restored_shut ms ys i shut) (restored_shut ms (y ∷ ys) i shut)
  where
    by : (b : Bool) → get_or (restored ms ys) i 0 ≡ 0 → get_or (restored ms (y ∷ ys)) i 0 ≡ 0
        → get_or {A = ℕ} (elim b [ true ↦ y ∷ restored ms ys | false ↦ 0 ∷ restored ms (y ∷ ys) ]) (suc i) 0 ≡ 0
    by true p q = p
    by false p q = q

pub marked_shut : {ms ls hs : List ℕ} → Marked ms ls hs → (i : ℕ) → i < length ms → runs (get_or ms i 0) ≡ false
    → (get_or ls i 0 ≡ 0) × (get_or hs i 0 ≡ 0)
marked_shut Marked.none i h shut = (refl, refl)
marked_shut (Marked.run m) zero h shut = absurd (let z : ◌≡◌ {A = ℕ} 0 1 = cc in omega arith)
marked_shut (Marked.shut m) zero h shut = (refl, refl)
marked_shut (Marked.run m) (suc i) h shut = marked_shut m i (le_of_suc-le-suc h) shut
marked_shut (Marked.shut m) (suc i) h shut = marked_shut m i (le_of_suc-le-suc h) shut
