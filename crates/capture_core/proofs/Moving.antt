-- A track that comes to an instant.
use Rattle.std.proofs.Common.{◌≡◌, ◌&&◌, not, Bool, true, false, nat_lt, Some, None, refl, arith}
use Rattle.std.proofs.lemmas.Bool.Decides.{nat_tests}
use Rattle.capture_core.specs.Track.{MovesInPlace, QuietMoves, TurnsAreReported, differ, track_at, track_move}

-- the line did not turn
pub move_kept : QuietMoves
move_kept t at b after = same b
  where
    late : nat_lt t at ≡ false
    late = grind (arith, nat_tests)

    quiet : (b : Bool) → (nat_lt at t && differ b b) ≡ false
    quiet true = grind (arith, nat_tests)
    quiet false = grind (arith, nat_tests)

    same : (b : Bool) → track_move t (track_at at b b) ≡ Some (record { track = track_at t b b; edge = None })
    same b = rw (late, quiet b) refl

-- it turned at the instant before
pub move_reported : TurnsAreReported
move_reported t at b after = reported b
  where
    late : nat_lt t at ≡ false
    late = grind (arith, nat_tests)

    later : nat_lt at t ≡ true
    later = grind (arith, nat_tests)

    reported : (b : Bool) → track_move t (track_at at (not b) b) ≡ Some (record { track = track_at t b b; edge = Some (record { at = at; low = b }) })
    reported true = rw (late, later) refl
    reported false = rw (late, later) refl

-- the same instant
pub move_same : MovesInPlace
move_same t was is = rw same refl
  where
    same : nat_lt t t ≡ false
    same = grind (arith, nat_tests)
