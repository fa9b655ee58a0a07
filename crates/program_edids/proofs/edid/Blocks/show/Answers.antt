use Rattle.std.proofs.Common.{OnOk, subst, sym}
use Rattle.program_edids.specs.Edids.{Shows}
use Rattle.cli_choice.specs.declared.choice.View.{View}
use Rattle.program_edids.proofs.edid.Blocks.show.Goals as goal

pub returns-in-Meaning : goal.returns-in-Meaning
returns-in-Meaning g c =
    let Q : View → Type 0 = λ v. OnOk c.write_meaning.result (Shows v c.args.self.bytes.now (g.W.Sink.contents c.args.out.now) (g.W.Sink.contents c.write_meaning.new.out)) in
    subst Q (sym c.in-Meaning.is) c.write_meaning.ensures

pub returns-in-Fields : goal.returns-in-Fields
returns-in-Fields g c =
    let Q : View → Type 0 = λ v. OnOk c.write_fields.result (Shows v c.args.self.bytes.now (g.W.Sink.contents c.args.out.now) (g.W.Sink.contents c.write_fields.new.out)) in
    subst Q (sym c.in-Fields.is) c.write_fields.ensures

pub returns-in-Address : goal.returns-in-Address
returns-in-Address g c =
    let Q : View → Type 0 = λ v. OnOk c.write_place.result (Shows v c.args.self.bytes.now (g.W.Sink.contents c.args.out.now) (g.W.Sink.contents c.write_place.new.out)) in
    subst Q (sym c.in-Address.is) c.write_place.ensures

pub returns-in-Room : goal.returns-in-Room
returns-in-Room g c =
    let Q : View → Type 0 = λ v. OnOk c.write_rooms.result (Shows v c.args.self.bytes.now (g.W.Sink.contents c.args.out.now) (g.W.Sink.contents c.write_rooms.new.out)) in
    subst Q (sym c.in-Room.is) c.write_rooms.ensures

pub returns-in-Eld : goal.returns-in-Eld
returns-in-Eld g c =
    let Q : View → Type 0 = λ v. OnOk c.write_sound.result (Shows v c.args.self.bytes.now (g.W.Sink.contents c.args.out.now) (g.W.Sink.contents c.write_sound.new.out)) in
    subst Q (sym c.in-Eld.is) c.write_sound.ensures
