-- What is kept of the members left is kept of all with the bounds in front of both lists. Assumes nothing.
use Rattle.std.proofs.Common.{rules, ◌≡◌, ◌+◌, ◌<◌, ℕ, List, [], ◌∷◌, ◌++◌, length, take, set, nat_lt, arith, ap, append_assoc, append-nil, lt-ltb, le-ltb}
use Rattle.std.proofs.Math.Decide.{dec_lt}
use Rattle.std.proofs.lemmas.List.{nil_from_length, take-set, take_more_set}
use mir.Val.{bool_byte}
use Rattle.breakpoints.specs.Inner.Kept.{Kept}
use Rattle.breakpoints.proofs.build.gather.Goals as goal

-- a member's bounds are put where the lists have come to, which go on past them where they differ
module _ {lows highs ls hs : List ℕ} (starts stops : List ℕ) {l h count more : ℕ} (is : more ≡ bool_byte (nat_lt l h)) (p : count < length starts) (q : count < length stops)
    (kept : (ks gs : List ℕ) → Kept (l ∷ ls) (h ∷ hs) ks gs → Kept lows highs (take count starts ++ ks) (take count stops ++ gs)) where
  put : (ks gs : List ℕ) → Kept ls hs ks gs → Kept lows highs (take (count + more) (set starts count l) ++ ks) (take (count + more) (set stops count h) ++ gs)
  put ks gs left = elim (dec_lt l h) [
    | yes wide ↦
        let one : more ≡ 1 = rw (lt-ltb l h wide) at is in
        rw (one, take_more_set starts count l p, take_more_set stops count h q) (simp append_assoc (kept (l ∷ ks) (h ∷ gs) (Kept.along left)))
    | no single ↦
        let none : count + more ≡ count = omega (arith, rw (le-ltb l h (omega arith)) at is) in
        rw (none, take-set starts count l, take-set stops count h) (kept ks gs (Kept.single (omega arith) left))
  ]

none-left : {lows highs : List ℕ} → length lows ≡ 0 → length highs ≡ 0 → Kept lows highs [] []
none-left {lows} {highs} p q = rw (nil_from_length lows p, nil_from_length highs q) Kept.none

pub loop-low-preserved : goal.loop-low-preserved
loop-low-preserved c =
    let inv = c.loop-low.invariant in
    let (lows, highs) = c.in-Some.ensures.steps in
    record {
      paired = omega (arith, inv.paired, ap length lows, ap length highs);
      few = search rules;
      kept = put _ _ c.from-count.ensures (omega (arith, inv.few, ap length lows)) (omega (arith, inv.few, ap length lows)) (rw (lows, highs) at inv.kept);
    }

pub returns-clause-kept : goal.returns-clause-kept
returns-clause-kept c =
    let inv = c.loop-low.invariant in
    let ended : length c.loop-low.low-iterator.a.rest.now ≡ 0 = grind (arith, c.in-None.ensures.steps, inv.paired) in
    simp append-nil at (inv.kept [] [] (none-left ended (omega (arith, inv.paired, ended))))
