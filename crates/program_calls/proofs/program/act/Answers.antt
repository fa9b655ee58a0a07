use Rattle.std.proofs.Common.{map, string_bytes}
use Rattle.cli_words.specs.Named.{named_in}
use Rattle.cli_words.specs.Operands.{asked_on}
use Rattle.program_captures.specs.Captures.{name_of}
use Rattle.program_calls.proofs.ServedLemmas.{chosen, helped}
use Rattle.program_calls.proofs.program.act.Goals as goal

pub returns-in-Ok : goal.returns-in-Ok
returns-in-Ok g c done =
    chosen (asked_on (map string_bytes c.args.line.now.words.items) (map string_bytes c.args.line.now.operands.items)) c.in-Ok.asked
    (name_of (named_in (map string_bytes c.args.line.now.words.items))) (map string_bytes c.args.line.now.operands.items) _ _ _ _ c.in-Ok.ensures.asked
    (rw (← c.deref-in-Ok.ensures.value, ← c.deref.ensures.value) (c.serve_operands.ensures done))

pub returns-in-Err : goal.returns-in-Err
returns-in-Err g c done =
    helped (asked_on (map string_bytes c.args.line.now.words.items) (map string_bytes c.args.line.now.operands.items))
    (name_of (named_in (map string_bytes c.args.line.now.words.items))) (map string_bytes c.args.line.now.operands.items) _ _ _ _ c.in-Err.ensures.asked
    (c.decline.ensures done)
