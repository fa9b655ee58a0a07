-- One block of those that are taken or left out.
use Rattle.std.proofs.Common.{◌≡◌, refl, ℕ, zero, suc, ◌-◌, ◌<◌, true, false, arith, List, ◌++◌, take, drop, append_assoc}
use Rattle.edid_as_source.specs.Extensions.{blocks_taken, is_taken, mended_extension}

one_less : (n : ℕ) → suc n - 1 ≡ n
one_less n = omega arith

pub taken_onto : (old : List ℕ) (room count : ℕ) (rest : List ℕ) → 0 < room → 0 < count → is_taken (take 128 rest) ≡ true
    → (old ++ mended_extension (take 128 rest)) ++ blocks_taken (room - 1) (count - 1) (drop 128 rest) ≡ old ++ blocks_taken room count rest
taken_onto old zero count rest h k e = absurd (omega (arith, h))
taken_onto old (suc room) zero rest h k e = absurd (omega (arith, k))
taken_onto old (suc room) (suc count) rest h k e =
    rw (one_less room, one_less count, e) (append_assoc old (mended_extension (take 128 rest)) (blocks_taken room count (drop 128 rest)))

pub left_onto : (old : List ℕ) (room count : ℕ) (rest : List ℕ) → 0 < room → 0 < count → is_taken (take 128 rest) ≡ false
    → old ++ blocks_taken room (count - 1) (drop 128 rest) ≡ old ++ blocks_taken room count rest
left_onto old zero count rest h k e = absurd (omega (arith, h))
left_onto old (suc room) zero rest h k e = absurd (omega (arith, k))
left_onto old (suc room) (suc count) rest h k e = rw (one_less count, e) refl
