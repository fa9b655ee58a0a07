use Rattle.std.proofs.Common.{◌-◌, suc, vec_len}
use Rattle.std.specs.Io.KnownBytes.{Consumes}
use Rattle.program_input.proofs.read.read_input.Given as goal

-- what was read is what the reader has given
abbrev pub invariant-reads : goal.invariant-reads
invariant-reads g l = Consumes (g.R.Read.remaining l.fn.input) (g.R.Read.remaining l.input) l.bytes.items

abbrev pub decreases-reads : goal.decreases-reads
decreases-reads g l = suc l.limit - vec_len l.bytes
