use Rattle.meaning_base.proofs.Joins.{joined}
use Rattle.meaning_base.specs.Cvt.{head_lines, code_line}
use Rattle.meaning_base.proofs.cvt.append_cvt.Goals as goal

pub returns : goal.returns
returns c =
    let p = c.args.bytes.now in
    joined _ _ _ (head_lines p) _ c.append_head.ensures.items
    (joined _ _ _ (code_line 6 p) _ c.append_code.ensures.items
    (joined _ _ _ (code_line 9 p) _ c.append_code-2.ensures.items
    (joined _ _ _ (code_line 12 p) (code_line 15 p) c.append_code-3.ensures.items c.append_code-4.ensures.items)))
