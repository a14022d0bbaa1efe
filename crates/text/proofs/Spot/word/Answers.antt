-- A text begins with a word exactly if the word reads. Assumes nothing.
use Rattle.std.proofs.Common.{false, true, ◌≡◌, eqb, drop}
use Rattle.std.specs.List.{starts_with}
use Rattle.std.proofs.Math.Seq.{drop-drop}
use Rattle.text.specs.Laws.Spots.{word_begins}
use Rattle.text.proofs.Spot.word.Goals as goal

pub returns-then-not-starts_with : goal.returns-then-not-starts_with
returns-then-not-starts_with c =
    let other : starts_with eqb (drop c.args.self.at c.args.text.now) c.args.bytes.now ≡ false = rw (← c.rest_from.ensures, ← c.starts_with.ensures.value) c.if-not-starts_with.true in
    rw (word_begins c.args.bytes.now (drop c.args.self.at c.args.text.now), other)

pub returns : goal.returns
returns c =
    let begins : starts_with eqb (drop c.args.self.at c.args.text.now) c.args.bytes.now ≡ true = rw (← c.rest_from.ensures, ← c.starts_with.ensures.value) c.if-not-starts_with.false in
    rw (word_begins c.args.bytes.now (drop c.args.self.at c.args.text.now), begins, drop-drop)
