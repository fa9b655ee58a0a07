use Rattle.std.proofs.Common.{◌≡◌, false, take}
use Rattle.std.specs.List.{list_any}
use Rattle.line_frames.specs.Bits.{comes_before, frame_bits}
use Rattle.line_frames.proofs.is_least.Given as goal

-- none so far comes before the frame
abbrev pub invariant-loop-other : goal.invariant-loop-other
invariant-loop-other l = list_any (λ g. comes_before (frame_bits g) (frame_bits l.frame)) (take l.other-index l.frames) ≡ false
