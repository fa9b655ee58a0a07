use Rattle.std.proofs.Common.{◌∙◌, ap}
use Rattle.std.specs.Result.{is_ok}
use Rattle.edid_text_lines.proofs.Hexes.{decoded}
use Rattle.edid_text_lines.proofs.text_to_line.decode_digits.Goals as goal

pub returns : goal.returns
returns c = λ bs f two e.
    let done = decoded bs c.args.digits.now c.args.bytes.now c.decode_to_slice.new.out c.decode_to_slice.result e two f c.requires c.decode_to_slice.ensures.value in
    (c.is_ok.ensures.value ∙ ap is_ok done.0, done.1)
