use Rattle.program_calls.proofs.program.Call.serve_input.Goals as goal

pub returns : goal.returns
returns g c done = rw (c.into_below.ensures, ← c.new-out.ensures.contents) (c.serve_named-status.ensures done)
