use Rattle.std.proofs.Common.{◌≡◌, ℕ, ◌<◌, ◌≤◌, true, List, length, nat_le, arith}
use Rattle.std.proofs.lemmas.Bool.Decides.{nat_tests}
use Rattle.text_core.specs.Bytes.{are_bytes}
use Rattle.message_text.specs.FrameReading.{is_frame}
use Rattle.message_text.proofs.laws.frames_are_whole.Goals as goal

some : (xs : List ℕ) → 0 < length xs → nat_le 1 (length xs) ≡ true
some xs h = grind (arith, nat_tests)

few : (xs : List ℕ) → length xs ≤ 16 → nat_le (length xs) 16 ≡ true
few xs h = grind (arith, nat_tests)

whole : (xs : List ℕ) → 0 < length xs → length xs ≤ 16 → are_bytes xs ≡ true → is_frame xs ≡ true
whole xs h k bytes = rw (some xs h, few xs k) bytes

pub returns : goal.returns
returns c =
    rw c.bytes.ensures.value at (whole c.bytes.result.now c.bytes.ensures.within.0 c.bytes.ensures.within.1 c.items_are_bytes.ensures)
