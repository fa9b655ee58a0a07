use Rattle.capture_monitor.proofs.Waiting.{calm_reported}
use Rattle.capture_monitor.proofs.monitor.Monitor.calm.Goals as goal

pub returns : goal.returns
returns c = λ win low n h l calm.
    calm_reported win h.are low n c.args.until c.args.self.now c.wait.new.self c.wait.result h l calm (c.wait.ensures.heard h.still) c.wait.ensures.windows (c.wait.ensures.still h.still) c.wait.ensures.level
