use Rattle.std.proofs.Common.{rules}
use Rattle.program_calls.proofs.ServedLemmas.{compared_of}
use Rattle.program_calls.proofs.program.Call.answer_pair.Goals as goal

pub returns-in-Ok-read_file : goal.returns-in-Ok-read_file
returns-in-Ok-read_file g c zero =
    compared_of c.args.pair _ c.signal_of.result.now c.in-Ok.one.items c.deref.result.now c.in-Ok-read_file.other.items c.deref-in-Ok-read_file.result.now _ _ _ _
    c.signal_of.ensures (search rules) (search rules) (search rules) (search rules) (c.compare.ensures zero)
