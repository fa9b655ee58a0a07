-- How long after the frame before a frame has to have ended (own), by the two times within which a device answers (CEC 9.2). In microseconds.
use Rattle.std.specs.Prelude.{ℕ, ◌+◌, ◌-◌, min, nat_le, if◌then◌else◌}
use Rattle.capture_frames.specs.Frames.{FrameLine}

-- a pause rounded up: to the time within which a device answers where it can, to the one within which it has to, or to any time
abbrev pub rounded : ℕ → ℕ
rounded pause = if nat_le pause 200000 then 200000 else if nat_le pause 1000000 then 1000000 else 2000000000000

-- the pause after the end of the frame before, rounded up, and the time that the frame takes
abbrev pub duration : ℕ → FrameLine → ℕ
duration end f = min (rounded (f.begin - end) + (f.close - f.begin)) 18446744073709551615
