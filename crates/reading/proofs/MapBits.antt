-- The fields of a record, read one behind the other: as many are left to read as bits stand in what is left of the map.
use Rattle.std.proofs.Common.{ℕ, zero, suc, ◌+◌, ◌-◌, ◌/◌, ◌^◌, ◌<◌, ◌≡◌, refl, sym, ap, ◌∙◌, List, arith}
use native.Mathlib.Nat.{div-one, div-eq_of_lt}
use lib.Pow.{shr-shr}
use lib.Count.{ones, ones_step}
use Rattle.lists.specs.Bits.{digit}
use Rattle.lists.specs.Run.{each}
use Rattle.reading.specs.Reader.{Read, Reader, refused, got, turn}
use Rattle.reading.specs.Fields.{BitLeft, field_at, fields, where_left, map_bits}
use Rattle.reading.proofs.Repeats.{RepeatLeft, repeat-more}

-- from bit k of a map on so many fields are left: as many as bits stand there
pub record FieldsLeft (map left k : ℕ) : Type 0 where
  pub ones_left : left ≡ ones (map / 2 ^ k)

-- the bits from k on are bit k and those from k + 1 on
ones-from : (map k : ℕ) → ones (map / 2 ^ k) ≡ digit map k + ones (map / 2 ^ (k + 1))
ones-from map k = ones_step (map / 2 ^ k) ∙ ap (λ (n : ℕ). digit map k + ones n) (shr-shr map k 1)

pub fields-left : (map : ℕ) → FieldsLeft map (ones map) 0
fields-left map = record { ones_left = sym (ap ones (div-one map)) }

module _ {map left k : ℕ} (l : FieldsLeft map left k) where
  pub bit_left : k < map_bits → BitLeft map left k
  bit_left h = record { in_map = h; counted = omega (arith, l.ones_left, ones-from map k) }

  pub left_behind : FieldsLeft map (left - digit map k) (k + 1)
  left_behind = record { ones_left = omega (arith, l.ones_left, ones-from map k) }

  -- what is left at the last bit is that bit
  last_left : map < 2 ^ (k + 1) → left ≡ digit map k
  unfolding ones
  last_left few = omega (arith, l.ones_left, ones-from map k, ap ones (div-eq_of_lt few))

module _ {A : Type 0} (field : ℕ → A → Reader A) (map : ℕ) where
  -- a bit that is clear reads nothing
  clear-turn : (k : ℕ) (r : Read A) → digit map k ≡ 0 → turn (field_at field map) k r ≡ r
  clear-turn k (refused n) e = refl
  clear-turn k (got a rest) e = rw e

  -- where no bit stands from k on, no field is read
  none_left : (n k : ℕ) (r : Read A) → ones (map / 2 ^ k) ≡ 0 → each (turn (field_at field map)) n k r ≡ r
  unfolding each
  none_left zero k r e = refl
  none_left (suc n) k r e =
      let clear : digit map k ≡ 0 = omega (arith, ones-from map k) in
      let rest : ones (map / 2 ^ (k + 1)) ≡ 0 = omega (arith, ones-from map k) in
      ap (each (turn (field_at field map)) n (k + 1)) (clear-turn k r clear) ∙ none_left n (k + 1) r rest

  -- the last field is read where one is left, and with it all are
  pub last-field : {left k last maps : ℕ} {absent a : A} {bytes rest : List ℕ} (read : Read A) → FieldsLeft map left k
      → RepeatLeft (field_at field map) map_bits absent bytes (got a rest) k → k ≡ last → last < map_bits → map < maps → maps ≡ 2 ^ (last + 1)
      → read ≡ where_left left (field last) a rest → read ≡ fields field map absent bytes
  unfolding ones
  last-field {left} {k} {last} {a = a} {rest = rest} read l here same in_map few all e =
      let below : map < 2 ^ (k + 1) = rw (all, ← same) at few in
      let last : RepeatLeft (field_at field map) map_bits _ _ read (k + 1)
      = repeat-more here (omega arith) (rw (last_left l below, ← same) at e) in
      sym (none_left (map_bits - (k + 1)) (k + 1) read (ap ones (div-eq_of_lt below))) ∙ last.turns.same
