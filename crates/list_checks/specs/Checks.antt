-- The checks on the lists of one group, in 01's order: 1, 4 for the units, 4 for total and limits, 7. Assumes nothing.
use Rattle.std.specs.Prelude.{ℕ, suc, Bool, true, false, not, ◌&&◌, List, [], ◌∷◌, leb, ltb, eqb, length, Result, Ok, Err}
use Rattle.model.specs.Shares.{pick, greatest_share, greatest_total, most_units}
use Rattle.model.specs.Figures.{greatest_deviation, greatest_spread, greatest_pairs, limit_within}
use Rattle.model.specs.Running.{runs}
use Rattle.model.specs.declared.Limits.{Limits}
use Rattle.model.specs.declared.Refusal.{Refusal}

-- the place of the first unit whose low, high and mark fail a test, where the first unit of the lists has the given place; 0 where none fails
unfoldable pub first_failing : (ℕ → ℕ → ℕ → Bool) → ℕ → List ℕ → List ℕ → List ℕ → ℕ
first_failing test place [] highs marks = 0
first_failing test place (l ∷ lows) [] marks = 0
first_failing test place (l ∷ lows) (h ∷ highs) [] = 0
first_failing test place (l ∷ lows) (h ∷ highs) (m ∷ marks) = pick (test l h m) (first_failing test (suc place) lows highs marks) place

-- both ends of a range are shares
abbrev pub are_shares : ℕ → ℕ → Bool
are_shares low high = leb low greatest_share && leb high greatest_share

-- 01: both ends are shares; 02: "0 running, 1 shut"
abbrev pub unit_within : ℕ → ℕ → ℕ → Bool
unit_within low high mark = are_shares low high && leb mark 1

-- 01: low at most high; 02: a shut member's range is 0 to 0
abbrev pub unit_ordered : ℕ → ℕ → ℕ → Bool
unit_ordered low high mark = pick (runs mark) (leb low high) (eqb low 0 && eqb high 0)

-- 01, 4: the first unit with a number beyond its range, from 1; 0 where there is none
abbrev pub first_beyond : List ℕ → List ℕ → List ℕ → ℕ
first_beyond lows highs marks = first_failing unit_within 1 lows highs marks

-- 01, 7: the first unit with low above high, or shut and not 0 to 0, from 1; 0 where there is none
abbrev pub first_crossed : List ℕ → List ℕ → List ℕ → ℕ
first_crossed lows highs marks = first_failing unit_ordered 1 lows highs marks

-- 01, 1: lows and highs not empty, of one length, and not over 256, with room for as many numbers; 02: as many marks
abbrev pub sized : ℕ → ℕ → ℕ → ℕ → Bool
sized count other marked room =
    leb 1 count && (eqb count other && (eqb count marked && (leb count most_units && leb count room)))

-- 01, 4 for total and limits: each is in its range
abbrev pub amounts_within : ℕ → Limits → Bool
amounts_within total limits =
    leb total greatest_total
    && (limit_within limits.deviation greatest_deviation
    && (limit_within limits.spread greatest_spread && limit_within limits.pairs greatest_pairs))

-- a refusal if the test holds, and else what comes after it
abbrev pub refuse_if : Bool → ℕ → ℕ → Result (Unit {0}) Refusal → Result (Unit {0}) Refusal
refuse_if true number place next = Err (record { number = number; place = place })
refuse_if false number place next = next

-- 01's order for lists of one group, up to 7; whether total and limits are in their ranges is the caller's to say
unfoldable pub check_lists : List ℕ → List ℕ → List ℕ → ℕ → Bool → Result (Unit {0}) Refusal
check_lists lows highs marks room amounts =
    refuse_if (not (sized (length lows) (length highs) (length marks) room)) 1 0
    (refuse_if (ltb 0 (first_beyond lows highs marks)) 4 (first_beyond lows highs marks)
    (refuse_if (not amounts) 4 0
    (refuse_if (ltb 0 (first_crossed lows highs marks)) 7 (first_crossed lows highs marks)
    (Ok tt))))
