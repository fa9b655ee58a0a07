use Rattle.std.proofs.Common.{OnOk, subst, sym}
use Rattle.program_calls.specs.Done.{Writes}
use Rattle.cli_choice.specs.declared.choice.CommandChoice.TheVariants.{Json}
use Rattle.cli_choice.specs.declared.choice.Objects.{Objects}
use Rattle.program_calls.proofs.objects.write_json.Goals as goal

pub returns-in-Trace : goal.returns-in-Trace
returns-in-Trace g c =
    let P : Objects → Type 0 = λ o. OnOk c.run_to_objects.result (Writes (Json o) c.args.signal.now c.args.input.now (g.W.Sink.contents c.args.out.now) (g.W.Sink.contents c.run_to_objects.new.out)) in
    subst P (sym c.in-Trace.is) c.run_to_objects.ensures

pub returns-in-Room : goal.returns-in-Room
returns-in-Room g c =
    let P : Objects → Type 0 = λ o. OnOk c.run_to_room.result (Writes (Json o) c.args.signal.now c.args.input.now (g.W.Sink.contents c.args.out.now) (g.W.Sink.contents c.run_to_room.new.out)) in
    subst P (sym c.in-Room.is) c.run_to_room.ensures
