use Rattle.std.proofs.Common.{length}
use Rattle.edid_merge.proofs.notes.+add_rest.Given as goal

abbrev pub decreases-add_rest : goal.decreases-add_rest
decreases-add_rest g l = length l.own.now
