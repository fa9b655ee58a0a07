use Rattle.std.proofs.Common.{sym, ◌∙◌}
use Rattle.std.proofs.lemmas.Bool.{false≢true}
use Rattle.message_text.proofs.Whole.{no_opcode}
use Rattle.message_text.proofs.reading.opcode_named.Goals as goal

pub returns-else-is_opcode-clause-none : goal.returns-else-is_opcode-clause-none
returns-else-is_opcode-clause-none c =
    no_opcode c.args.word.now c.hex_at-code.result c.in-None.ensures.none c.hex_at-code.ensures
    (λ h. false≢true (sym c.if-is_opcode.false ∙ c.is_opcode.ensures.1 h))
