-- Gathering the members' entries and scattering them back. Assumes nothing.
use Rattle.std.specs.Prelude.{ℕ, zero, suc, ◌<◌, List, [], ◌∷◌, ◌≢◌, ◌≡◌, refl, length, get_or, set}
use Rattle.std.proofs.Common.{ap, le_of_suc-le-suc, arith, length-set, get_or-set_same, get_or-set_other}
use Rattle.std.proofs.Math.Decide.{ℕ_discrete}
use Rattle.std.proofs.Math.Nat.{suc_inj}
use Rattle.member_ranges.specs.Tables.{Place, gather, scatter}

-- as many entries as members
pub gather_length : (entries members : List ℕ) → length (gather entries members) ≡ length members
unfolding gather
gather_length entries [] = refl
gather_length entries (m ∷ members) = ap suc (gather_length entries members)

-- each member's entry
pub gather_at : (entries members : List ℕ) (k : ℕ) → k < length members
    → get_or (gather entries members) k 0 ≡ get_or entries (get_or members k 0) 0
unfolding gather
gather_at entries [] k h = absurd (omega arith)
gather_at entries (m ∷ members) zero h = refl
gather_at entries (m ∷ members) (suc k) h = gather_at entries members k (le_of_suc-le-suc h)

-- scattering keeps the number of entries
pub scatter_length : (entries members values : List ℕ) → length (scatter entries members values) ≡ length entries
unfolding scatter
scatter_length entries [] values = refl
scatter_length entries (m ∷ members) [] = refl
scatter_length entries (m ∷ members) (v ∷ values) =
    rw (scatter_length (set entries m v) members values) (length-set entries m v)

-- the entry of a unit that is no member stays
pub scatter_other : (entries members values : List ℕ) (unit : ℕ)
    → (Place members unit → ⊥)
    → get_or (scatter entries members values) unit 0 ≡ get_or entries unit 0
unfolding scatter
scatter_other entries [] values unit apart = refl
scatter_other entries (m ∷ members) [] unit apart = refl
scatter_other entries (m ∷ members) (v ∷ values) unit apart =
    rw (
      scatter_other (set entries m v) members values unit (λ p. apart (suc p.0, omega arith, p.2)),
      get_or-set_other entries m unit v 0 (λ e. apart (0, omega arith, rw e)),
    )

-- different members each get their value
pub scatter_at : (entries members values : List ℕ) → length values ≡ length members
    → ((k : ℕ) → k < length members → get_or members k 0 < length entries)
    → ((j k : ℕ) → j < length members → k < length members → get_or members j 0 ≡ get_or members k 0 → j ≡ k)
    → (k : ℕ) → k < length members → get_or (scatter entries members values) (get_or members k 0) 0 ≡ get_or values k 0
unfolding scatter
scatter_at entries [] values sizes below different k h = absurd (omega arith)
scatter_at entries (m ∷ members) [] sizes below different k h = absurd (omega arith)
scatter_at entries (m ∷ members) (v ∷ values) sizes below different zero h =
    rw (
      scatter_other (set entries m v) members values m (λ p. omega (arith, different 0 (suc p.0) h (omega arith) (rw p.2))),
      get_or-set_same entries m v 0 (below 0 h),
    )
scatter_at entries (m ∷ members) (v ∷ values) sizes below different (suc k) h =
    scatter_at (set entries m v) members values (suc_inj sizes)
    (λ j p. rw (length-set entries m v) (below (suc j) (omega arith)))
    (λ i j p q e. suc_inj (different (suc i) (suc j) (omega arith) (omega arith) e))
    k (le_of_suc-le-suc h)

-- whether a unit is a member
pub place : (members : List ℕ) (unit : ℕ) → Dec (Place members unit)
place [] unit = no (λ p. omega arith)
place (m ∷ members) unit =
    elim (ℕ_discrete m unit) [ yes e ↦ yes (0, omega arith, e) | no other ↦ later other (place members unit) ]
  where
    later : m ≢ unit → Dec (Place members unit) → Dec (Place (m ∷ members) unit)
    later other (yes p) = yes (suc p.0, omega arith, p.2)
    later other (no missing) = no (λ p. absent p.0 p.1 p.2)
      where
        absent : (k : ℕ) → k < length (m ∷ members) → get_or (m ∷ members) k 0 ≡ unit → ⊥
        absent zero h e = other e
        absent (suc k) h e = missing (k, le_of_suc-le-suc h, e)
