use Rattle.std.proofs.Common.{None, Ok, Err, subst, sym}
use Rattle.follow_core.specs.Lines.{TakesLine}
use Rattle.follow_core.specs.declared.lines.CaptureLines.{CaptureLines}
use Rattle.follow_core.specs.declared.lines.CaptureLines.TheVariants.{File, Pin, Rows}
use Rattle.follow_core.proofs.Left.{file_takes, names_refuse, names_take}
use Rattle.follow_core.proofs.lines.CaptureLines.take.Goals as goal

pub returns-in-File-clause-takes : goal.returns-in-File-clause-takes
returns-in-File-clause-takes c =
    subst (λ (s : CaptureLines). TakesLine c.args.signal.now s c.args.number c.args.line.now c.take.result (File c.take.new.self)) (sym c.in-File.is)
    (file_takes c.args.signal.now c.in-File.reader c.take.new.self c.args.number c.args.line.now c.take.result c.take.ensures.takes)

pub returns-in-Pin-clause-takes : goal.returns-in-Pin-clause-takes
returns-in-Pin-clause-takes c =
    subst (λ (s : CaptureLines). TakesLine c.args.signal.now s c.args.number c.args.line.now c.take_pin.result (Pin c.take_pin.new.reader)) (sym c.in-Pin.is)
    (c.take_pin.ensures.takes c.args.signal.now)

pub returns-in-Rows-clause-takes : goal.returns-in-Rows-clause-takes
returns-in-Rows-clause-takes c =
    subst (λ (s : CaptureLines). TakesLine c.args.signal.now s c.args.number c.args.line.now c.take_row.result (Rows c.take_row.new.reader)) (sym c.in-Rows.is)
    (c.take_row.ensures.takes c.args.signal.now)

pub returns-in-Err-clause-takes : goal.returns-in-Err-clause-takes
returns-in-Err-clause-takes c =
    subst (λ (s : CaptureLines). TakesLine c.args.signal.now s c.args.number c.args.line.now (Err c.in-Err.fault) c.args.self.now) (sym c.in-Names.is)
    (names_refuse c.args.signal.now c.args.number c.args.line.now c.args.self.now c.in-Err.fault (sym c.in-Err.ensures.rows))

pub returns-in-Ok-clause-takes : goal.returns-in-Ok-clause-takes
returns-in-Ok-clause-takes c =
    subst (λ (s : CaptureLines). TakesLine c.args.signal.now s c.args.number c.args.line.now (Ok None) (Rows c.in-Ok.rows)) (sym c.in-Names.is)
    (names_take c.args.signal.now c.args.number c.args.line.now c.in-Ok.rows (sym c.in-Ok.ensures.rows))
