use Rattle.std.proofs.Common.{subst, sym, ◌∙◌, ap, arith}
use Rattle.std.specs.Fmt.{decimal}
use Rattle.std.specs.Str.{IsUtf8}
use Rattle.std.specs.Result.{result_ok}
use Rattle.std.proofs.lemmas.Str.{IsUtf8-from_ascii}
use Rattle.std.proofs.lemmas.Fmt.{IsAscii-decimal, parse-decimal}
use Rattle.edid_text_lines.proofs.text_to_line.read_number.Goals as goal

pub returns-in-Err : goal.returns-in-Err
returns-in-Err c = λ n h e. absurd (c.in-Err.ensures.cases.0 (subst IsUtf8 e (IsUtf8-from_ascii (decimal n) (IsAscii-decimal n (omega (arith, h))))))

pub returns-in-Ok : goal.returns-in-Ok
returns-in-Ok c = λ n h e.
    let is = parse-decimal 32 n c.in-Ok.text.now c.parse.result h (omega (arith, h)) (c.in-Ok.ensures.cases.0 ∙ sym e) c.parse.ensures.value.0 in
    c.ok.ensures.value ∙ ap result_ok is
