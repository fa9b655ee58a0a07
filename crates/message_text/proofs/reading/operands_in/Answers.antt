use Rattle.std.proofs.Common.{sym, ◌∙◌, arith}
use Rattle.std.proofs.lemmas.List.{length-take}
use Rattle.message_text.proofs.Shapes.{raw_again, words_again}
use Rattle.message_text.proofs.reading.operands_in.Goals as goal

pub hex_bytes-requires : goal.hex_bytes-requires
hex_bytes-requires c = rw (c.before-then-byte_at-eq58.ensures, length-take) (omega arith)

pub returns-then-byte_at-eq58 : goal.returns-then-byte_at-eq58
returns-then-byte_at-eq58 c = λ xs bytes len e.
    let again = raw_again c.args.form xs c.args.text.now bytes len e (sym c.byte_at.ensures ∙ c.if-byte_at-eq58.true) in
    rw (c.hex_bytes.ensures, c.before-then-byte_at-eq58.ensures, c.after.ensures) again

pub returns : goal.returns
returns c = λ xs bytes len e.
    c.word_operands.ensures xs bytes len (words_again c.args.form xs c.args.text.now e (λ h. c.if-byte_at-eq58.false (c.byte_at.ensures ∙ h)))
