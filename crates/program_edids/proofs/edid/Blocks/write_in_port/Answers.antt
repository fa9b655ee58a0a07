use Rattle.std.proofs.Common.{OnOk, subst, sym}
use Rattle.conversion_calls.specs.declared.passing.Passing.{Passing}
use Rattle.program_edids.specs.Edids.{Shows, ShowsPassed}
use Rattle.cli_choice.specs.declared.choice.Recipient.TheVariants.{Port}
use Rattle.cli_choice.specs.declared.choice.Sound.{Sound}
use Rattle.cli_choice.specs.declared.choice.View.TheVariants.{Whole}
use Rattle.program_edids.proofs.edid.Blocks.write_in_port.Goals as goal

pub returns-in-Kept : goal.returns-in-Kept
returns-in-Kept g c =
    let P : Passing → Type 0 = λ x. OnOk c.write_passed.result (ShowsPassed x c.args.shape c.args.self.bytes.now (g.W.Sink.contents c.args.out.now) (g.W.Sink.contents c.write_passed.new.out)) in
    let Q : Sound → Type 0 = λ s. OnOk c.write_passed.result (Shows (Whole (Port c.args.port s) c.args.shape) c.args.self.bytes.now (g.W.Sink.contents c.args.out.now) (g.W.Sink.contents c.write_passed.new.out)) in
    subst Q (sym c.in-Kept.is) (subst P c.in_port.ensures c.write_passed.ensures)

pub returns-in-Amplified : goal.returns-in-Amplified
returns-in-Amplified g c =
    let P : Passing → Type 0 = λ x. OnOk c.write_passed-in-Amplified.result (ShowsPassed x c.args.shape c.args.self.bytes.now (g.W.Sink.contents c.args.out.now) (g.W.Sink.contents c.write_passed-in-Amplified.new.out)) in
    let Q : Sound → Type 0 = λ s. OnOk c.write_passed-in-Amplified.result (Shows (Whole (Port c.args.port s) c.args.shape) c.args.self.bytes.now (g.W.Sink.contents c.args.out.now) (g.W.Sink.contents c.write_passed-in-Amplified.new.out)) in
    subst Q (sym c.in-Amplified.is) (subst P c.in_port-in-Amplified.ensures c.write_passed-in-Amplified.ensures)

pub returns-in-Spoken : goal.returns-in-Spoken
returns-in-Spoken g c =
    let Q : Sound → Type 0 = λ s. OnOk c.write_spoken.result (Shows (Whole (Port c.args.port s) c.args.shape) c.args.self.bytes.now (g.W.Sink.contents c.args.out.now) (g.W.Sink.contents c.write_spoken.new.out)) in
    subst Q (sym c.in-Spoken.is) c.write_spoken.ensures
