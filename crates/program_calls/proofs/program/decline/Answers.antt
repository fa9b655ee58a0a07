use Rattle.program_calls.proofs.program.decline.Goals as goal

pub returns : goal.returns
returns g c done = rw (c.into_below.ensures, ← c.new-out.ensures.contents) (c.refuse-status.ensures done)
