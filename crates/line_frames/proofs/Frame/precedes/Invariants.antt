use Rattle.std.proofs.Common.{◌≡◌, drop}
use Rattle.line_frames.specs.Bits.{frame_bits, comes_before}
use Rattle.line_frames.proofs.Frame.precedes.Given as goal

-- so far the frames are alike, so what is left decides
abbrev pub invariant-loop-place : goal.invariant-loop-place
invariant-loop-place l =
    comes_before (drop l.place (frame_bits l.self)) (drop l.place (frame_bits l.other)) ≡ comes_before (frame_bits l.self) (frame_bits l.other)
