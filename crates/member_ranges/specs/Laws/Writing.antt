-- Loops that gather the ranges of a group's running members, and write them back. Assumes nothing.
use Rattle.std.specs.Prelude.{ℕ, suc, ◌+◌, ◌≤◌, ◌<◌, List, [], ◌∷◌, ◌++◌, ◌≡◌, refl, length, get_or, set, take, drop}
use Rattle.std.proofs.Common.{append-nil, append_assoc, ◌∙◌, arith, eq-eqb, ne_eqb, drop_of_length-le}
use Rattle.std.proofs.Math.Path.{sym}
use Rattle.std.proofs.Math.Nat.{suc_inj}
use Rattle.std.proofs.Math.Numerals.{add-one}
use Rattle.std.proofs.Math.ListN.{length-set}
use Rattle.std.proofs.Math.Seq.{drop-cons, take-suc-set}
use Rattle.model.proofs.Laws.Running.{running_run, running_skip}
use Rattle.model.specs.Running.{running}
use Rattle.member_ranges.specs.Inner.Members.{running_members}
use Rattle.member_ranges.specs.Tables.{gather, scatter}

-- a member that runs is the first of the running ones
first_runs : (marks members : List ℕ) (m : ℕ) → get_or marks m 0 ≡ 0 → running_members marks (m ∷ members) ≡ m ∷ running_members marks members
unfolding gather
first_runs marks members m runs = running_run (get_or marks m 0) (eq-eqb _ 0 runs) (gather marks members) m members

-- one that is shut is not among them
first_shut : (marks members : List ℕ) (m : ℕ) → (get_or marks m 0 ≡ 0 → ⊥) → running_members marks (m ∷ members) ≡ running_members marks members
unfolding gather
first_shut marks members m shut = running_skip (get_or marks m 0) (ne_eqb _ 0 shut) (gather marks members) m members

-- of the first k members so many run, whose entries are written: the others' are still to come
pub record Gathered (members marks entries was out : List ℕ) (count k : ℕ) : Type 0 where
  pub size : length out ≡ length was
  pub few : count ≤ k
  pub rest : take count out ++ gather entries (running_members marks (drop k members)) ≡ gather entries (running_members marks members)

-- none is written yet
pub gathered_none : (members marks entries was : List ℕ) → Gathered members marks entries was was 0 0
gathered_none members marks entries was = record { size = refl; few = omega arith; rest = refl }

module _ {members marks entries was out : List ℕ} {count k : ℕ} (held : Gathered members marks entries was out count k) where
  -- the entry of member k is written
  pub gathered_more : k < length members → count < length was → get_or marks (get_or members k 0) 0 ≡ 0
      → Gathered members marks entries was (set out count (get_or entries (get_or members k 0) 0)) (count + 1) (k + 1)
  unfolding gather
  gathered_more p q runs = record {
    size = rw length-set held.size;
    few = omega (arith, held.few);
    rest =
        rw (add-one count, add-one k, take-suc-set out count (get_or entries (get_or members k 0) 0) (omega (arith, held.size)))
        (append_assoc (take count out) _ _
        ∙ rw (drop-cons members k 0 p, first_runs marks (drop (suc k) members) (get_or members k 0) runs) at held.rest);
  }

  -- member k is shut
  pub gathered_skip : k < length members → (get_or marks (get_or members k 0) 0 ≡ 0 → ⊥) → Gathered members marks entries was out count (k + 1)
  gathered_skip p shut = record {
    size = held.size;
    few = omega (arith, held.few);
    rest = rw (add-one k) (rw (drop-cons members k 0 p, first_shut marks (drop (suc k) members) (get_or members k 0) shut) at held.rest);
  }

  -- all are written
  pub gathered_all : length members ≤ k → take count out ≡ gather entries (running_members marks members)
  unfolding gather running
  gathered_all end = sym (append-nil (take count out)) ∙ (rw (drop_of_length-le members {i = k} end) at held.rest)

-- of the first k members so many run, whose entries are replaced: the others' are still to come
pub record Scattered (members marks values was entries : List ℕ) (count k : ℕ) : Type 0 where
  pub size : length entries ≡ length was
  pub few : count ≤ k
  pub rest : scatter entries (running_members marks (drop k members)) (drop count values) ≡ scatter was (running_members marks members) values

-- none is replaced yet
pub scattered_none : (members marks values was : List ℕ) → Scattered members marks values was was 0 0
scattered_none members marks values was = record { size = refl; few = omega arith; rest = refl }

module _ {members marks values was entries : List ℕ} {count k : ℕ} (held : Scattered members marks values was entries count k) where
  -- the entry of member k is replaced
  pub scattered_more : k < length members → count < length values → get_or marks (get_or members k 0) 0 ≡ 0
      → Scattered members marks values was (set entries (get_or members k 0) (get_or values count 0)) (count + 1) (k + 1)
  unfolding scatter
  scattered_more p q runs = record {
    size = rw length-set held.size;
    few = omega (arith, held.few);
    rest =
        rw (add-one k, add-one count)
        (rw (
          drop-cons members k 0 p,
          drop-cons values count 0 q,
          first_runs marks (drop (suc k) members) (get_or members k 0) runs,
        )
        at held.rest);
  }

  -- member k is shut
  pub scattered_skip : k < length members → (get_or marks (get_or members k 0) 0 ≡ 0 → ⊥)
      → Scattered members marks values was entries count (k + 1)
  scattered_skip p shut = record {
    size = held.size;
    few = omega (arith, held.few);
    rest = rw (add-one k) (rw (drop-cons members k 0 p, first_shut marks (drop (suc k) members) (get_or members k 0) shut) at held.rest);
  }

  -- all are replaced
  pub scattered_all : length members ≤ k → entries ≡ scatter was (running_members marks members) values
  unfolding scatter gather running
  scattered_all end = rw (drop_of_length-le members {i = k} end) at held.rest

-- values past the members' are not looked at
pub scatter_front : (entries members values rest : List ℕ) → length values ≡ length members → scatter entries members (values ++ rest) ≡ scatter entries members values
unfolding scatter
scatter_front entries [] [] rest sizes = refl
scatter_front entries [] (v ∷ values) rest sizes = refl
scatter_front entries (m ∷ members) [] rest sizes = absurd (omega arith)
scatter_front entries (m ∷ members) (v ∷ values) rest sizes = scatter_front (set entries m v) members values rest (suc_inj sizes)
