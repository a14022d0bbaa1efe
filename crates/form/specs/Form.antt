-- The lines of a job text: what a line says, how it is printed, and how it is read. Assumes nothing.
use Rattle.std.specs.Prelude.{ℕ, zero, suc, Bool, true, false, List, [], ◌∷◌, ◌++◌, length}
use Rattle.model.specs.declared.Limit.{Limit}
use Rattle.model.specs.declared.Limit.TheVariants.{Any, AtMost}
use Rattle.model.specs.declared.Limits.{Limits}
use Rattle.text.specs.Parsed.{Parsed, parsed, failed, and_then, mapped, or_else, word}
use Rattle.text.specs.Numbers.{number_after, print_number}

-- 01: "at most 65,536 bytes"
abbrev pub most_bytes : ℕ
most_bytes = 65_536

-- 01: "A unit line holds low, high"; 02: "A line `(shut)` counts as a unit line"
pub data UnitLine : Type 0 where
  range : ℕ → ℕ → UnitLine
  shut : UnitLine

-- its low
abbrev pub line_low : UnitLine → ℕ
line_low (range low high) = low
line_low shut = 0

-- its high; 02: a shut unit has "range 0 to 0"
abbrev pub line_high : UnitLine → ℕ
line_high (range low high) = high
line_high shut = 0

-- its mark; 02: "0 running, 1 shut"
abbrev pub line_mark : UnitLine → ℕ
line_mark (range low high) = 0
line_mark shut = 1

-- 02: "A group may carry `(pairs LIMIT)` before `(of`"
pub data PairsLimit : Type 0 where
  unsaid : PairsLimit
  said : Limit → PairsLimit

-- its limit; 02: "without it the limit is any"
abbrev pub pairs_limit : PairsLimit → Limit
pairs_limit unsaid = Any
pairs_limit (said limit) = limit

-- whether it is there
abbrev pub is_said : PairsLimit → Bool
is_said unsaid = false
is_said (said limit) = true

-- what a group line says ahead of its unit numbers: total, deviation limit, spread limit, and a pairs limit or none
pub record Heading : Type 0 where
  pub total : ℕ
  pub deviation : Limit
  pub spread : Limit
  pub pairs : PairsLimit

-- its limits
abbrev pub limits_said : Heading → Limits
limits_said h = record { deviation = h.deviation; spread = h.spread; pairs = pairs_limit h.pairs }

-- 01: "A group line holds total, deviation limit, spread limit and one or more unit numbers"
pub record GroupLine : Type 0 where
  pub heading : Heading
  pub first : ℕ
  pub others : List ℕ

-- a line of a job text
pub data Line : Type 0 where
  unit : UnitLine → Line
  group : GroupLine → Line

-- (unit
abbrev pub unit_opening : List ℕ
unit_opening = 40 ∷ 117 ∷ 110 ∷ 105 ∷ 116 ∷ 32 ∷ []

-- one space
abbrev pub space : List ℕ
space = 32 ∷ []

-- the closing bracket and the line's end
abbrev pub unit_ending : List ℕ
unit_ending = 41 ∷ 10 ∷ []

-- (group
abbrev pub group_opening : List ℕ
group_opening = 40 ∷ 103 ∷ 114 ∷ 111 ∷ 117 ∷ 112 ∷ 32 ∷ []

-- (dev
abbrev pub deviation_opening : List ℕ
deviation_opening = 32 ∷ 40 ∷ 100 ∷ 101 ∷ 118 ∷ 32 ∷ []

-- ) (spread
abbrev pub spread_opening : List ℕ
spread_opening = 41 ∷ 32 ∷ 40 ∷ 115 ∷ 112 ∷ 114 ∷ 101 ∷ 97 ∷ 100 ∷ 32 ∷ []

-- ) (pairs
abbrev pub pairs_opening : List ℕ
pairs_opening = 41 ∷ 32 ∷ 40 ∷ 112 ∷ 97 ∷ 105 ∷ 114 ∷ 115 ∷ 32 ∷ []

-- ) (of
abbrev pub members_opening : List ℕ
members_opening = 41 ∷ 32 ∷ 40 ∷ 111 ∷ 102 ∷ []

-- both closing brackets and the line's end
abbrev pub group_ending : List ℕ
group_ending = 41 ∷ 41 ∷ 10 ∷ []

-- any
abbrev pub any_word : List ℕ
any_word = 97 ∷ 110 ∷ 121 ∷ []

-- 01: "Each limit is either a number or the word any"
unfoldable pub print_limit : Limit → List ℕ
print_limit Any = any_word
print_limit (AtMost v) = print_number v

-- a pairs limit, where it is there
unfoldable pub print_pairs : PairsLimit → List ℕ
print_pairs unsaid = []
print_pairs (said limit) = pairs_opening ++ print_limit limit

-- each number after a space
unfoldable pub print_members : List ℕ → List ℕ
print_members [] = []
print_members (m ∷ ms) = space ++ (print_number m ++ print_members ms)

-- a unit line as it is written: low, high
abbrev pub print_unit : ℕ → ℕ → List ℕ
print_unit low high = unit_opening ++ (print_number low ++ (space ++ (print_number high ++ unit_ending)))

-- (shut) and the line's end
abbrev pub print_shut : List ℕ
print_shut = 40 ∷ 115 ∷ 104 ∷ 117 ∷ 116 ∷ 41 ∷ 10 ∷ []

-- either of them
abbrev pub print_unit_line : UnitLine → List ℕ
print_unit_line (range low high) = print_unit low high
print_unit_line shut = print_shut

-- a group line as it is written: total, limits, unit numbers
abbrev pub print_group : Heading → List ℕ → List ℕ
print_group h numbers =
    group_opening
    ++ (print_number h.total
    ++ (deviation_opening
    ++ (print_limit h.deviation
    ++ (spread_opening
    ++ (print_limit h.spread
    ++ (print_pairs h.pairs
    ++ (members_opening ++ (print_members numbers ++ group_ending))))))))

-- a line as it is written: the form of 01
unfoldable pub print_line : Line → List ℕ
print_line (unit l) = print_unit_line l
print_line (group g) = print_group g.heading (g.first ∷ g.others)

-- a word and the number after it, held by a function of its value: the code holds numbers above every limit alike
unfoldable pub number_as : (ℕ → ℕ) → List ℕ → List ℕ → Parsed ℕ
number_as f w s = mapped f (number_after w s)

-- a word and the limit after it
unfoldable pub limit_as : (ℕ → ℕ) → List ℕ → List ℕ → Parsed Limit
limit_as f w s = and_then (word w s) (λ u s. or_else (mapped (λ u. Any) (word any_word s)) (mapped AtMost (number_as f [] s)))

-- a pairs limit, where it is there
unfoldable pub pairs_as : (ℕ → ℕ) → List ℕ → Parsed PairsLimit
pairs_as f s = or_else (mapped said (limit_as f pairs_opening s)) (parsed unsaid s)

-- a unit line with its low and high
unfoldable pub range_as : (ℕ → ℕ) → List ℕ → Parsed UnitLine
range_as f s =
    and_then (number_as f unit_opening s)
    (λ low s. and_then (number_as f space s)
    (λ high s. mapped (λ u. range low high) (word unit_ending s)))

-- a unit line: 02: `(shut)`, or else low and high
unfoldable pub unit_as : (ℕ → ℕ) → List ℕ → Parsed UnitLine
unit_as f s = or_else (mapped (λ u. shut) (word print_shut s)) (range_as f s)

-- as many members as there are, at most n
unfoldable pub members_as : (ℕ → ℕ) → ℕ → List ℕ → Parsed (List ℕ)
members_as f zero s = parsed [] s
members_as f (suc n) s = or_else (and_then (number_as f space s) (λ m s. mapped (λ ms. m ∷ ms) (members_as f n s))) (parsed [] s)

-- a group line up to its members
unfoldable pub head_as : (ℕ → ℕ) → List ℕ → Parsed Heading
head_as f s =
    and_then (number_as f group_opening s)
    (λ total s. and_then (limit_as f deviation_opening s)
    (λ deviation s. and_then (limit_as f spread_opening s)
    (λ spread s. and_then (pairs_as f s)
    (λ pairs s. mapped (λ u. record { total = total; deviation = deviation; spread = spread; pairs = pairs }) (word members_opening s)))))

-- with its members, one or more
unfoldable pub grouped : Heading → List ℕ → List ℕ → Parsed GroupLine
grouped h [] s = failed
grouped h (m ∷ ms) s = parsed (record { heading = h; first = m; others = ms }) s

-- a group line
unfoldable pub group_as : (ℕ → ℕ) → List ℕ → Parsed GroupLine
group_as f s =
    and_then (head_as f s)
    (λ h s. and_then (members_as f (length s) s)
    (λ ms s. and_then (word group_ending s)
    (λ u s. grouped h ms s)))

-- a unit line, or else a group line
unfoldable pub line_as : (ℕ → ℕ) → List ℕ → Parsed Line
line_as f s = or_else (mapped unit (unit_as f s)) (mapped group (group_as f s))

-- the line at the front of a text, and what follows it
unfoldable pub line : List ℕ → Parsed Line
line s = line_as (λ v. v) s
