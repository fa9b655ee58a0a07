use Rattle.capture_join.proofs.WhenIdle.{idle_once}
use Rattle.capture_join.proofs.laws.a_line_is_idle_first_once.Goals as goal

pub returns : goal.returns
returns c = idle_once
