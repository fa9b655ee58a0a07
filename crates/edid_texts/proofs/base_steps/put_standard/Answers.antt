use Rattle.std.proofs.Common.{◌-◌, map, arith}
use Rattle.edid_texts.specs.Lines.{head_lines, standard_line, descriptor_line}
use Rattle.edid_texts.proofs.BaseNexts.{standard_got, set_line}
use Rattle.edid_texts.proofs.base_steps.put_standard.Goals as goal

pub returns-in_default : goal.returns-in_default
returns-in_default c = λ b e. let s = standard_got b c.args.number c.args.line.now (omega arith) (omega arith) e in c.in_default.ensures s.0 s.1

pub returns : goal.returns
returns c =
    let eight = c.args.base.now.eight in
    set_line standard_line (head_lines c.args.base.now) (map descriptor_line c.args.base.now.descriptors) c.args.base.now.standard (c.args.number - 11) c.args.number c.in-Some.standard c.args.line.now
    (omega arith) (omega (arith, eight)) c.in-Some.ensures
