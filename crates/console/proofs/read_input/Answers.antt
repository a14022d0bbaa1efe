-- Each read that goes on puts the input's next bytes after those that are there.
use Rattle.std.proofs.Common.{ℕ, ◌+◌, ◌≤◌, ◌≡◌, ◌∙◌, List, ◌++◌, length, take, ap, subst, sym, le_refl, drop_at, length-take-le, arith}
use Rattle.std.specs.Io.KnownBytes.{Consumes}
use Rattle.std.proofs.KnownBytes.{Consumes-trans}
use Rattle.std.proofs.lemmas.List.{take-append-le}
use Rattle.std.proofs.lemmas.Slice.{take-put_mid_below}
use Rattle.std.proofs.Math.Seq.{take-add}
use borrow.Rule.Slice.PartMut.{put_mid, post_of}
use Rattle.console.proofs.read_input.Goals as goal

-- the front of a list in whose end another was put
front : (a k n : ℕ) (xs ys : List ℕ) → a ≤ length xs → n ≤ length ys → take a xs ++ take n ys ≡ take (a + n) (put_mid a k xs ys)
front a k n xs ys within fits =
    sym (take-add a n (put_mid a k xs ys)
    ∙ (λ i. take-put_mid_below a k xs ys a (le_refl a) within i ++ take n (drop_at (take a xs) (ys ++ post_of a k xs) a (length-take-le a xs within) i))
    ∙ ap (λ l. take a xs ++ l) (take-append-le n ys (post_of a k xs) fits))

pub loop-count-preserved : goal.loop-count-preserved
loop-count-preserved g c =
    let fits : c.in-Ok.more ≤ length c.read.new.buf = c.in-Ok.ensures.bound.0 in
    record {
      within = omega arith;
      read =
          subst (Consumes _ _) (front c.loop-count.count _ c.in-Ok.more c.loop-count.text c.read.new.buf c.loop-count.invariant.within fits)
          (Consumes-trans _ _ _ _ _ c.loop-count.invariant.read c.in-Ok.ensures.bytes.0);
    }
