-- The ends of the members passed are written. Assumes nothing.
use Rattle.std.proofs.Common.{rules, ◌≡◌, sym, ap, ◌∙◌, subst, arith, ℕ, ◌+◌, ◌<◌, min, Bool, List, set, ◌∷◌, length, get_or, drop, length-drop}
use Rattle.std.proofs.lemmas.List.{drop_more}
use Rattle.model.specs.Levels.{clamp, growth}
use Rattle.model.specs.Shares.{pick}
use Rattle.model.proofs.Laws.Lists.{ranges_at}
use Rattle.model.specs.Plans.{taken}
use Rattle.model.proofs.Laws.Writing.{Filled, filled_none, filled_more, filled_all}
use Rattle.range_ends.specs.Inner.Edges.{Planned, Reaches}
use Rattle.range_ends.specs.Inner.Members.{narrowed_ends}
use Rattle.range_ends.specs.Laws.Ends.{near_planned}
use Rattle.range_ends.specs.Laws.Known.{nothing_known, seen_reached}
use Rattle.range_ends.specs.Laws.Members.{ends_length, ends_at, to_end, end_reached}
use Rattle.range_ends.proofs.members.narrow_ends.Goals as goal
use Rattle.range_ends.proofs.members.narrow_ends.Goals.{After-end_of-end}

-- what is left of a list from place i on begins with the number there
next_left : (xs : List ℕ) {i k x : ℕ} {left rest : List ℕ} → left ≡ drop k xs → left ≡ x ∷ rest → i ≡ k
    → (i < length xs) × (get_or xs i 0 ≡ x) × (rest ≡ drop (i + 1) xs)
next_left xs {i} {k} {x} {left} {rest} from steps is =
    let left_there : drop i xs ≡ x ∷ rest = ap (λ j. drop j xs) is ∙ sym from ∙ steps in
    let here : i < length xs = omega (arith, length-drop i xs, ap length left_there) in
    let same : x ∷ rest ≡ get_or xs i 0 ∷ drop (i + 1) xs = sym left_there ∙ drop_more xs i 0 here in
    (here, sym (ap (λ ys. get_or ys 0 0) same), ap (drop 1) same)

-- with its value written, the next one is
filled_next : {values was out : List ℕ} {i k next value : ℕ} → Filled values was out k → i ≡ k → next ≡ i + 1 → i < length values → i < length was
    → value ≡ get_or values i 0 → Filled values was (set out i value) next
filled_next held is after p q same = rw after (filled_more (rw (← is) at held) p q _ same)

pub loop-member-init : goal.loop-member-init
loop-member-init c = record {
  passed = search rules;
  lows = search rules;
  highs = search rules;
  filled = search (rules, filled_none);
  known = nothing_known c.requires.narrowable.has.sound.ranges c.nothing_known-shared.ensures;
}

pub clamp-requires : goal.clamp-requires
clamp-requires c =
    let inv = c.loop-member.invariant in
    let steps = c.in-Some.ensures.steps in
    let (here, low, _) = next_left _ inv.lows steps.0.0 steps.1 in
    let (_, high, _) = next_left _ inv.highs steps.0.1 steps.1 in
    rw (← low, ← high) (ranges_at c.requires.narrowable.has.sound.ranges _ here).0

-- the loop's turn and the member's share
module _ (c : After-end_of-end) where
  abbrev lows : List ℕ
  lows = c.args.lows.now

  abbrev highs : List ℕ
  highs = c.args.highs.now

  abbrev up : Bool
  up = c.args.asked.up

  abbrev i : ℕ
  i = c.in-Some.member

  abbrev share : ℕ
  share = c.clamp.result + c.extra.result

  low_left : (i < length lows) × (get_or lows i 0 ≡ c.in-Some.field-0-1-0.now) × (c.next.new.self.iter.a.rest.now ≡ drop (i + 1) lows)
  low_left = next_left _ c.loop-member.invariant.lows c.in-Some.ensures.steps.0.0 c.in-Some.ensures.steps.1

  high_left : (i < length highs) × (get_or highs i 0 ≡ c.in-Some.field-0-1-1.now) × (c.next.new.self.iter.b.rest.now ≡ drop (i + 1) highs)
  high_left = next_left _ c.loop-member.invariant.highs c.in-Some.ensures.steps.0.1 c.in-Some.ensures.steps.1

  -- the share is one that some plan gives the member
  planned : Planned lows highs c.args.question.total c.args.question.limits i share
  planned =
      let is : clamp (get_or lows i 0) (get_or highs i 0) c.args.asked.levelled.level
      + min (pick up c.args.asked.levelled.over 0) (growth (get_or lows i 0) (get_or highs i 0) c.args.asked.levelled.level) ≡ share =
      rw (low_left.1, high_left.1) (omega (arith, c.clamp.ensures, c.extra.ensures, c.end_of-copies.ensures)) in
      subst (λ (x : ℕ). Planned lows highs c.args.question.total c.args.question.limits i x) is
      (near_planned c.requires.narrowable.has c.requires.narrowable.reached i low_left.0 up)

  end_is : c.end_of-end.result ≡ pick up (get_or highs i 0) (get_or lows i 0)
  end_is = rw (low_left.1, high_left.1) c.end_of-end.ensures

  -- one member more is passed
  passed : c.next.new.self.count ≡ i + 1
  passed = omega (arith, c.in-Some.ensures.steps)

  -- what is reached on the way to its end is written
  written : {r : ℕ} → Reaches (taken lows highs c.args.question.total c.args.question.limits i) (pick up (get_or highs i 0) (get_or lows i 0)) share r
      → Filled (narrowed_ends up lows highs c.args.question.total c.args.question.limits) c.args.ends.now (set c.loop-member.ends i r) c.next.new.self.count
  written reaches =
      filled_next c.loop-member.invariant.filled c.in-Some.ensures.steps.1 passed
      (omega (arith, ends_length lows highs c.args.question.total c.args.question.limits up, low_left.0))
      (omega (arith, c.requires.ends_len, low_left.0)) (end_reached planned up reaches ∙ sym (ends_at _ _ _ _ up i low_left.0))

pub loop-member-preserved-in-Some-seen_at : goal.loop-member-preserved-in-Some-seen_at
loop-member-preserved-in-Some-seen_at c =
    let m = (goal.at.loop-member-preserved-in-Some-seen_at c).After-end_of-end in
    let known = c.loop-member.invariant.known in
    let seen = rw (end_is m, ← (low_left m).1, ← (high_left m).1) at c.in-Some-seen_at.ensures in
    record {
      passed = omega (arith, (low_left m).0, passed m);
      lows = rw (passed m) (low_left m).2;
      highs = rw (passed m) (high_left m).2;
      filled = written m (seen_reached (to_end (planned m) (up m) c.requires.narrowable.tabled) known seen);
      known = known;
    }

pub search-found-requires-clause-approach : goal.search-found-requires-clause-approach
search-found-requires-clause-approach c =
    let m = (goal.at.search-found-requires-clause-approach c).After-end_of-end in
    rw (end_is m) (to_end (planned m) (up m) c.requires.narrowable.tabled)

pub search-found-requires-clause-shared_holds : goal.search-found-requires-clause-shared_holds
search-found-requires-clause-shared_holds c = c.loop-member.invariant.known

pub loop-member-preserved : goal.loop-member-preserved
loop-member-preserved c =
    let m = (goal.at.loop-member-preserved c).After-end_of-end in
    let found = c.search-found.ensures in
    record {
      passed = omega (arith, (low_left m).0, passed m);
      lows = rw (passed m) (low_left m).2;
      highs = rw (passed m) (high_left m).2;
      filled = written m (rw (end_is m) at found.reaches);
      known = found.known;
    }

pub returns : goal.returns
returns c =
    let inv = c.loop-member.invariant in
    let at = c.loop-member.member-iterator in
    let lows = ap length inv.lows ∙ length-drop at.count c.args.lows.now in
    let highs = ap length inv.highs ∙ length-drop at.count c.args.highs.now in
    let paired : length at.iter.b.rest.now ≡ length at.iter.a.rest.now = omega (arith, lows, highs, c.requires.narrowable.has.sound.paired) in
    let ended : length at.iter.a.rest.now ≡ 0 = grind (arith, c.in-None.ensures.steps, paired) in
    let many = ends_length c.args.lows.now c.args.highs.now c.args.question.total c.args.question.limits c.args.asked.up in
    filled_all inv.filled (c.requires.ends_len ∙ sym many) (omega (arith, many, inv.passed, lows, ended))
