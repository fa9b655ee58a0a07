use Rattle.std.proofs.Common.{◌≡◌, ℕ, ◌≢◌, ◌==◌, false, slice_index, refl, arith}
use Rattle.std.proofs.lemmas.Bool.Decides.{nat_tests}
use Rattle.capture_pin.proofs.line.event_cut.Goals as goal

other : (n m : ℕ) → n ≡ m → n ≢ 32 → (m == 32) ≡ false
other n m e h = grind (arith, nat_tests)

pub returns-then-byte_at-ne32 : goal.returns-then-byte_at-ne32
returns-then-byte_at-ne32 c = rw (other c.byte_at.result (slice_index c.args.rest.now 9) c.byte_at.ensures c.if-byte_at-ne32.true) refl
