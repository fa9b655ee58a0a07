use Rattle.std.proofs.Common.{◌∙◌, sym}
use Rattle.capture_monitor.proofs.monitor.Monitor.with_windows.Goals as goal

pub returns : goal.returns
returns c = λ low. record {
  are = c.requires;
  windows_are = c.new.ensures.windows;
  stood = c.new.ensures.before low;
  still = c.new.ensures.rests.1 ∙ sym c.new.ensures.rests.2;
}
