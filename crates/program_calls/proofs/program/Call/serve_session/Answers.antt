use Rattle.program_calls.proofs.program.Call.serve_session.Goals as goal

pub returns : goal.returns
returns g c done = rw (c.into_below.ensures, ← c.new-out.ensures.contents) (c.serve_lines-status.ensures done)
