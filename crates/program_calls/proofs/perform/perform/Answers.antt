use Rattle.std.proofs.Common.{◌∙◌, OnOk, ap, subst, sym}
use Rattle.program_calls.specs.Done.{Writes}
use Rattle.cli_choice.specs.declared.choice.CommandChoice.{CommandChoice}
use Rattle.cli_choice.specs.declared.choice.CommandChoice.TheVariants.{Run}
use Rattle.program_calls.proofs.perform.perform.Goals as goal

pub returns-in-Line : goal.returns-in-Line
returns-in-Line g c =
    let P : CommandChoice → Type 0 = λ x. OnOk c.run_to_line.result (Writes x c.args.signal.now c.args.input.now (g.W.Sink.contents c.args.out.now) (g.W.Sink.contents c.run_to_line.new.out)) in
    subst P (sym (c.in-Run.is ∙ ap (λ l. Run l c.in-Run.strict) c.in-Line.is)) c.run_to_line.ensures

pub returns-in-Drives : goal.returns-in-Drives
returns-in-Drives g c =
    let P : CommandChoice → Type 0 = λ x. OnOk c.run_to_drives.result (Writes x c.args.signal.now c.args.input.now (g.W.Sink.contents c.args.out.now) (g.W.Sink.contents c.run_to_drives.new.out)) in
    subst P (sym (c.in-Run.is ∙ ap (λ l. Run l c.in-Run.strict) c.in-Drives.is)) c.run_to_drives.ensures

pub returns-in-Named : goal.returns-in-Named
returns-in-Named g c =
    let P : CommandChoice → Type 0 = λ x. OnOk c.run_to_drives-in-Named.result (Writes x c.args.signal.now c.args.input.now (g.W.Sink.contents c.args.out.now) (g.W.Sink.contents c.run_to_drives-in-Named.new.out)) in
    subst P (sym (c.in-Run.is ∙ ap (λ l. Run l c.in-Run.strict) c.in-Named.is)) c.run_to_drives-in-Named.ensures

pub returns-in-EdidDiff : goal.returns-in-EdidDiff
returns-in-EdidDiff g c =
    let P : CommandChoice → Type 0 = λ x. OnOk c.compare_edids.result (Writes x c.args.signal.now c.args.input.now (g.W.Sink.contents c.args.out.now) (g.W.Sink.contents c.compare_edids.new.out)) in
    subst P (sym c.in-EdidDiff.is) c.compare_edids.ensures
