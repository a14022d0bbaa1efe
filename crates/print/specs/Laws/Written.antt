-- Laws of bytes written one after another into a buffer. Assumes nothing.
use Rattle.std.specs.Prelude.{ℕ, suc, ◌+◌, ◌≤◌, ◌≡◌, refl, set, take, drop}
use mathlib.Core.List.{List, [], ◌∷◌, ◌++◌, flatten, append_assoc}
use Rattle.std.proofs.Common.{sym, ◌∙◌, arith}
use Rattle.std.proofs.Math.Path.{ap}
use Rattle.std.proofs.Math.ListN.{length, length-append}
use Rattle.std.proofs.lemmas.List.Edits.{sets, sets-eq}
use Rattle.std.proofs.Math.Seq.{length-sets}
use Rattle.print.specs.Inner.Written.{written, Room, Wrote}

-- writing keeps the buffer's length
pub length_written : (buffer : List ℕ) (at : ℕ) (bytes : List ℕ) → length (written buffer at bytes) ≡ length buffer
unfolding written
length_written buffer at bytes = length-sets buffer at bytes

-- what the buffer holds then: what was there before the index, the bytes, and what was there past them
pub written_is : (buffer : List ℕ) (at : ℕ) (bytes : List ℕ) → Room buffer at bytes
    → written buffer at bytes ≡ take at buffer ++ bytes ++ drop (at + length bytes) buffer
unfolding written
written_is buffer at bytes room = sets-eq bytes buffer at room.fits

-- one byte is a store
pub written_byte : (buffer : List ℕ) (at byte : ℕ) → written buffer at (byte ∷ []) ≡ set buffer at byte
unfolding written
written_byte buffer at byte = refl

-- writing one list of bytes and then another is writing both
pub written_then : (xs ys buffer : List ℕ) (at : ℕ) → written (written buffer at xs) (at + length xs) ys ≡ written buffer at (xs ++ ys)
unfolding written
written_then [] ys buffer at = ap (λ (k : ℕ). sets buffer k ys) (omega arith)
written_then (x ∷ xs) ys buffer at =
    ap (λ (k : ℕ). sets (sets (set buffer at x) (suc at) xs) k ys) (omega arith) ∙ written_then xs ys (set buffer at x) (suc at)

-- in the course of writing the bytes: the pieces that are left of them, and where they go
pub record Rest (bytes entry : List ℕ) (start : ℕ) (pieces : List (List ℕ)) (buffer : List ℕ) (at : ℕ) : Type 0 where
  pub moves : at + length (flatten pieces) ≡ start + length bytes
  pub leaves : written buffer at (flatten pieces) ≡ written entry start bytes
  pub room : Room buffer at (flatten pieces)

-- at first all pieces are left
pub begin : (pieces : List (List ℕ)) {bytes entry : List ℕ} {start : ℕ} → flatten pieces ≡ bytes → Room entry start bytes
    → Rest bytes entry start pieces entry start
begin pieces {entry} {start} e room = record {
  moves = ap (λ (bytes : List ℕ). start + length bytes) e;
  leaves = ap (λ (bytes : List ℕ). written entry start bytes) e;
  room = rw e room;
}

module _ {bytes entry : List ℕ} {start : ℕ} {buffer : List ℕ} {at : ℕ} where
  -- the next piece fits
  pub room_next : {piece : List ℕ} {pieces : List (List ℕ)} → Rest bytes entry start (piece ∷ pieces) buffer at → Room buffer at piece
  unfolding flatten
  room_next {piece} {pieces} r = record { fits = omega (arith, r.room.fits, length-append piece (flatten pieces)) }

  -- once it is written, those after it are left
  pub next : {piece : List ℕ} {pieces : List (List ℕ)} {exit : List ℕ} {to : ℕ} → Rest bytes entry start (piece ∷ pieces) buffer at
      → Wrote piece buffer at exit to → Rest bytes entry start pieces exit to
  unfolding flatten
  next {piece} {pieces} r w =
      let same : length (written buffer at piece) ≡ length buffer = length_written buffer at piece in
      rw (w.moved, w.holds) (record {
        moves = omega (arith, r.moves, length-append piece (flatten pieces));
        leaves = written_then piece (flatten pieces) buffer at ∙ r.leaves;
        room = record { fits = omega (arith, r.room.fits, length-append piece (flatten pieces)) };
      })

  -- a piece of two parts is two pieces
  pub split : (xs ys : List ℕ) {pieces : List (List ℕ)} → Rest bytes entry start ((xs ++ ys) ∷ pieces) buffer at
      → Rest bytes entry start (xs ∷ ys ∷ pieces) buffer at
  unfolding flatten
  split xs ys {pieces} r =
      let same : xs ++ ys ++ flatten pieces ≡ xs ++ (ys ++ flatten pieces) = append_assoc xs ys (flatten pieces) in
      record { moves = rw (← same) r.moves; leaves = rw (← same) r.leaves; room = rw (← same) r.room }

  -- where no byte is left, all are written
  pub done : {pieces : List (List ℕ)} → flatten pieces ≡ [] → Rest bytes entry start pieces buffer at → Wrote bytes entry start buffer at
  unfolding written
  done {pieces} e r =
      let none : length (flatten pieces) ≡ 0 = ap length e in
      record { moved = omega (arith, r.moves); holds = ap (λ (rest : List ℕ). written buffer at rest) (sym e) ∙ r.leaves }

-- two pieces, one after the other
module _ (xs ys : List ℕ) {buffer : List ℕ} {at : ℕ} (room : Room buffer at (flatten (xs ∷ ys ∷ []))) where
  -- the first one fits
  pub first_fits : Room buffer at xs
  first_fits = room_next (begin (xs ∷ ys ∷ []) refl room)

  -- once it is written, the second one fits
  pub second_fits : {exit : List ℕ} {to : ℕ} → Wrote xs buffer at exit to → Room exit to ys
  second_fits first = room_next (next (begin (xs ∷ ys ∷ []) refl room) first)

  -- once that is written too, both are
  pub both_written : {middle exit : List ℕ} {between to : ℕ} → Wrote xs buffer at middle between → Wrote ys middle between exit to
      → Wrote (flatten (xs ∷ ys ∷ [])) buffer at exit to
  unfolding flatten
  both_written first second = done refl (next (next (begin (xs ∷ ys ∷ []) refl room) first) second)

-- the buffer keeps its length
pub keeps_length : {bytes entry : List ℕ} {at : ℕ} {exit : List ℕ} {next : ℕ} → Wrote bytes entry at exit next
    → length exit ≡ length entry
keeps_length {bytes} {entry} {at} w = ap length w.holds ∙ length_written entry at bytes

-- bytes written at the start come first, then what the buffer held past them
pub from_start : {bytes entry exit : List ℕ} {next : ℕ} → Room entry 0 bytes → Wrote bytes entry 0 exit next
    → (next ≡ length bytes) × (exit ≡ bytes ++ drop (length bytes) entry)
from_start {bytes} {entry} room w =
    let same : 0 + length bytes ≡ length bytes = omega arith in
    (w.moved ∙ same, w.holds ∙ written_is entry 0 bytes room ∙ ap (λ (k : ℕ). bytes ++ drop k entry) same)

-- the length of what a list starts with lies within it
pub start_within : (bytes rest : List ℕ) {list : List ℕ} {size : ℕ} → size ≡ length bytes → list ≡ bytes ++ rest → size ≤ length list
start_within bytes rest counted holds = rw (counted, holds) (omega (arith, length-append bytes rest))
