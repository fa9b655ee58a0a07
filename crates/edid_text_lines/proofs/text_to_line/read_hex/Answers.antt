use Rattle.std.proofs.Common.{sym, ◌∙◌}
use Rattle.edid_text_lines.proofs.Hexes.{hex_short, hex_long}
use Rattle.edid_text_lines.proofs.text_to_line.read_hex.Goals as goal

pub returns-then-digits-lt2 : goal.returns-then-digits-lt2
returns-then-digits-lt2 c = λ bs f l e. c.new-bytes.ensures ∙ sym (hex_short bs c.args.digits.now e c.if-digits-lt2.true)

pub returns-then-digits-gt256 : goal.returns-then-digits-gt256
returns-then-digits-gt256 c = λ bs f l e. hex_long bs c.args.digits.now e l c.if-digits-gt256.true
