-- The members of a group line as the code keeps them. Assumes nothing.
use Rattle.std.specs.Prelude.{ℕ, Bool, List, ◌∷◌, map, length}
use Rattle.std.proofs.lemmas.List.Edits.{sets}
use Rattle.form.specs.Form.{is_said, Heading, limits_said, GroupLine}
use Rattle.form.specs.declared.Head.{Head}
use Rattle.form.specs.Named.{all_named, member_of}

-- the members noted so far
pub record Tally : Type 0 where
  pub count : ℕ
  pub within : Bool
  pub flat : List ℕ

-- the tally of a list of members
unfoldable pub tallied : ℕ → ℕ → List ℕ → List ℕ → Tally
tallied units from flat ms = record { count = length ms; within = all_named units ms; flat = sets flat from (map member_of ms) }

-- a group line up to its members as the code keeps it
abbrev pub kept_head : Heading → Head
kept_head h = record { total = h.total; limits = limits_said h; pairs_there = is_said h.pairs }

-- a group line as the code keeps it
pub record GroupTally : Type 0 where
  pub head : Head
  pub tally : Tally

-- a group line and the tally of its members
abbrev pub group_tally : ℕ → ℕ → List ℕ → GroupLine → GroupTally
group_tally units from flat g =
    record { head = kept_head g.heading; tally = tallied units from flat (g.first ∷ g.others) }
