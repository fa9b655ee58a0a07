use Rattle.std.proofs.Common.{OnOk, subst, sym}
use Rattle.conversion_calls.specs.declared.passing.Passing.{Passing}
use Rattle.program_edids.specs.Edids.{Shows, ShowsPassed}
use Rattle.cli_choice.specs.declared.choice.Recipient.{Recipient}
use Rattle.cli_choice.specs.declared.choice.View.TheVariants.{Whole}
use Rattle.program_edids.proofs.edid.Blocks.write_whole.Goals as goal

pub returns-in-Own : goal.returns-in-Own
returns-in-Own g c =
    let Q : Recipient → Type 0 = λ p. OnOk c.write_own.result (Shows (Whole p c.args.shape) c.args.self.bytes.now (g.W.Sink.contents c.args.out.now) (g.W.Sink.contents c.write_own.new.out)) in
    subst Q (sym c.in-Own.is) c.write_own.ensures

pub returns-in-At : goal.returns-in-At
returns-in-At g c =
    let P : Passing → Type 0 = λ x. OnOk c.write_passed.result (ShowsPassed x c.args.shape c.args.self.bytes.now (g.W.Sink.contents c.args.out.now) (g.W.Sink.contents c.write_passed.new.out)) in
    let Q : Recipient → Type 0 = λ p. OnOk c.write_passed.result (Shows (Whole p c.args.shape) c.args.self.bytes.now (g.W.Sink.contents c.args.out.now) (g.W.Sink.contents c.write_passed.new.out)) in
    subst Q (sym c.in-At.is) (subst P c.at.ensures c.write_passed.ensures)

pub returns-in-Port : goal.returns-in-Port
returns-in-Port g c =
    let Q : Recipient → Type 0 = λ p. OnOk c.write_in_port.result (Shows (Whole p c.args.shape) c.args.self.bytes.now (g.W.Sink.contents c.args.out.now) (g.W.Sink.contents c.write_in_port.new.out)) in
    subst Q (sym c.in-Port.is) c.write_in_port.ensures
