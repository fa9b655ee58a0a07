use Rattle.capture_monitor.proofs.monitor.Monitor.new.Goals as goal

pub returns : goal.returns
returns c = c.with_windows.ensures
