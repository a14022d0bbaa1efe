-- How settling ends: with the greatest consistent table inside, or where there is none; and after how many passes. Assumes nothing.
use Prim.Native.Nat.{ℕ, zero, suc, ◌+◌, ◌≤◌, ◌<◌}
use Rattle.std.specs.Prelude.{Bool, List}
use Rattle.std.proofs.Math.Bool.{true, false}
use Rattle.std.proofs.Math.Path.{◌≡◌, refl}
use native.Mathlib.Omega.{arith, by_contra}
use Rattle.model.specs.Groups.{Group}
use Rattle.works.specs.Consistency.{SoundOpening, Consistent, NoneInside}
use Rattle.works.specs.Settling.{AfterPass, Outcome, pass, settle_from, settle}
use Rattle.member_ranges.specs.Tables.{Table, same_table, width, Inside}
use Rattle.member_ranges.specs.Laws.Inside.{inside_refl, inside_trans, same_table_lem, changed, widths_same}
use Rattle.works.specs.Endings.{After, Greatest}
use Rattle.works.proofs.Laws.Passes.{sound_inside, pass_after, pass_keeps, pass_quiet}

-- an outcome of settling that is right, after at most so many passes
pub data Right (groups : List Group) (table : Table) (most : ℕ) : Outcome → Type 0 where
  settled : {final : Table} {passes : ℕ} → Greatest groups table final → passes ≤ most → Right groups table most (Outcome.settled final passes)
  refused : {number place passes : ℕ} → NoneInside groups table → passes ≤ most → Right groups table most (Outcome.refused number place passes)

-- what is right of the table that a pass leaves is right of the table that it met
before : {groups : List Group} {table next : Table} {most : ℕ} {outcome : Outcome} → After groups next table
    → ((inner : Table) → Consistent groups inner → Inside inner table → Inside inner next)
    → Right groups next most outcome → Right groups table most outcome
before after keeps (Right.settled greatest bound) =
    Right.settled
    (record {
      after = record {
        inside = inside_trans greatest.after.inside after.inside;
        valid = greatest.after.valid;
        untouched = λ unit apart. omega (arith, greatest.after.untouched unit apart, after.untouched unit apart);
      };
      consistent = greatest.consistent;
      holds = λ inner consistent inside. greatest.holds inner consistent (keeps inner consistent inside);
    })
    bound
before after keeps (Right.refused none bound) =
    Right.refused (λ inner consistent inside. none inner consistent (keeps inner consistent inside)) bound

-- one pass and what follows it, given that what follows is right
module _ (more done most : ℕ) (groups : List Group) (table : Table) (sound : SoundOpening groups table)
    (enough : width table < suc more) (bound : done + suc (width table) ≤ most)
    (rest : (next : Table) → SoundOpening groups next → width next < more
    → suc done + suc (width next) ≤ most → Right groups next most (settle_from more (suc done) groups next))
  where
    -- after a pass that leaves a table
    passing : (next : Table) → pass groups table ≡ AfterPass.passed next → (same : Bool) → same_table next table ≡ same
        → Right groups table most (settle_from (suc more) done groups table)
    unfolding settle_from
    passing next e true test =
        rw (e, test, settle_from)
        (Right.settled {passes = suc done}
        (record {
          after = record { inside = inside_refl table; valid = sound.valid; untouched = λ unit apart. (refl, refl) };
          consistent = record {
            valid = sound.valid;
            each = pass_quiet 1 groups table next sound e (rw (same_table_lem test) (inside_refl table));
          };
          holds = λ inner consistent inside. inside;
        })
        (omega arith))
    passing next e false test =
        let after : After groups next table = pass_after 1 groups table next sound e in
        let fewer : width next < width table =
        by_contra _ _ (λ wide. changed test (widths_same after.valid sound.valid after.inside (omega arith))) in
        rw (e, test, settle_from)
        (before after
        (λ inner consistent inside.
        let (kept, same, within) = pass_keeps 1 groups table sound consistent inside in
        let one : kept ≡ next = cc in
        rw one at within)
        (rest next (sound_inside sound after.valid after.inside) (omega arith) (omega arith)))

    -- after any pass
    turning : (answer : AfterPass) → pass groups table ≡ answer → Right groups table most (settle_from (suc more) done groups table)
    unfolding settle_from
    turning (AfterPass.passed next) e = passing next e (same_table next table) refl
    turning (AfterPass.stopped number place) e =
        rw (e, settle_from)
        (Right.refused {passes = suc done}
        (λ inner consistent inside.
        let (kept, same, within) = pass_keeps 1 groups table sound consistent inside in
        let z : ◌≡◌ {A = ℕ} 0 1 = cc in
        omega arith)
        (omega arith))

-- with passes enough, settling ends right
ends : (more done most : ℕ) (groups : List Group) (table : Table) → SoundOpening groups table
    → width table < more → done + suc (width table) ≤ most
    → Right groups table most (settle_from more done groups table)
ends zero done most groups table sound enough bound = absurd (omega arith)
ends (suc more) done most groups table sound enough bound =
    turning more done most groups table sound enough bound (ends more (suc done) most groups) (pass groups table) refl

-- settling ends right, after at most 1 plus the sum of widths passes
pub settle_right : (groups : List Group) (table : Table) → SoundOpening groups table
    → Right groups table (suc (width table)) (settle groups table)
unfolding settle
settle_right groups table sound = ends _ 0 _ groups table sound (omega arith) (omega arith)
