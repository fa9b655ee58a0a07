-- How long a verdict is.
use Rattle.std.proofs.Common.{◌≤◌, Bool, true, false, length, arith}
use Rattle.line_frames.specs.declared.Reading.{Reading}
use Rattle.message_text.specs.ReadingText.{is_broadcast, is_complete, last_bit, verdict_by, verdict_in, verdict_text}
use Rattle.line_frames.specs.Blocks.{frame_in}

by_short : (broadcast last : Bool) → length (verdict_by broadcast last) ≤ 8
by_short true true = omega arith
by_short true false = omega arith
by_short false true = omega arith
by_short false false = omega arith

in_short : (complete : Bool) (r : Reading) → length (verdict_in complete r) ≤ 8
in_short true r = by_short (is_broadcast (frame_in r)) (last_bit r.bits.items)
in_short false r = omega arith

pub verdict_short : (r : Reading) → length (verdict_text r) ≤ 8
verdict_short r = in_short (is_complete r.ending) r
