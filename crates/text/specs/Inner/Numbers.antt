-- Numbers as a spot of a text keeps them: those past the most are held alike. Assumes nothing.
use Rattle.std.specs.Prelude.{ℕ, min}

-- a number as the code holds it: above every limit of 01 all are alike
abbrev pub most : ℕ
most = 1_000_000_000_000_000_000

-- the value, or the greatest that is told apart
abbrev pub held : ℕ → ℕ
held v = min v most
