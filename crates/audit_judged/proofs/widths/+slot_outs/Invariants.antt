use Rattle.std.proofs.Common.{length}
use Rattle.audit_judged.proofs.widths.+slot_outs.Given as goal

abbrev pub decreases-slot_outs : goal.decreases-slot_outs
decreases-slot_outs l = length l.slots.now
