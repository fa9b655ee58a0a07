use Rattle.std.proofs.Common.{◌∙◌, sym}
use Rattle.text_core.specs.Lines.{lines_of}
use Rattle.expect_text.specs.Faults.{names_in, names_of}
use Rattle.expect_text.proofs.Declaring.{name_first, name_more}
use Rattle.expect_text.proofs.faults.device_names.Goals as goal

pub lines-preserved-in-Some-declared_in : goal.lines-preserved-in-Some-declared_in
lines-preserved-in-Some-declared_in c =
    name_more (λ n. n.now) (names_of c.args.topology.now) c.lines.names.items c.push.new.self.items c.in-Some-declared_in.name (names_in (lines_of c.lines.rest.now)) (names_in (lines_of c.in-Some.after.now))
    c.lines.invariant (name_first c.in-Some-declared_in.name.now c.in-Some.line.now (lines_of c.lines.rest.now) (lines_of c.in-Some.after.now) c.in-Some-declared_in.ensures c.in-Some.ensures.lines)
    (sym c.is_full.ensures.value ∙ c.if-is_full.false) c.is_full.ensures.fits c.push.ensures.items
