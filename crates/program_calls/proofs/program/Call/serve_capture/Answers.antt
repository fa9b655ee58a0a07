use Rattle.program_calls.proofs.program.Call.serve_capture.Goals as goal

pub returns : goal.returns
returns g c done = rw (c.into_below.ensures, ← c.new-out.ensures.contents) (c.follow_lines-status.ensures done)
