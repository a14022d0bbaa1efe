-- 01's report of its example job, with 02's third figure, and that job's text. Assumes nothing.
use Rattle.std.specs.Prelude.{ℕ}
use mathlib.Core.List.{List, [], ◌∷◌, flatten}
use Rattle.text.specs.Words.{bytes}

-- 01: "For the job above, whole"; 02: the pair differences after the spread
unfoldable pub example_report : List ℕ
example_report =
    flatten
    (bytes "(settled 3)\n"
    ∷ bytes "(unit 1 5 6)\n"
    ∷ bytes "(unit 2 4 5)\n"
    ∷ bytes "(unit 3 3 4)\n"
    ∷ bytes "(group 1 5 0 0 0 (plan 5 5))\n"
    ∷ bytes "(group 2 4 0 0 0 (plan 4 4))\n"
    ∷ [])

-- 01's job text
unfoldable pub example_text : List ℕ
example_text =
    flatten
    (bytes "(unit 0 10)\n"
    ∷ bytes "(unit 0 10)\n"
    ∷ bytes "(unit 0 10)\n"
    ∷ bytes "(group 10 (dev 4) (spread any) (of 1 2))\n"
    ∷ bytes "(group 8 (dev any) (spread 4) (of 2 3))\n"
    ∷ [])
