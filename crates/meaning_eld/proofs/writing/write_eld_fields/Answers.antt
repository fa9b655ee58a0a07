use Rattle.std.proofs.Common.{subst, Ok, Err}
use Rattle.edid_eld.specs.Eld.{Parts}
use Rattle.meaning_eld.specs.Records.{eld_text}
use Rattle.text_core.specs.Cut.{WrittenText}
use Rattle.meaning_eld.proofs.writing.write_eld_fields.Goals as goal

pub returns-in-Ok-write_eld : goal.returns-in-Ok-write_eld
returns-in-Ok-write_eld g c = (
  c.in-Ok.ensures.accepted,
  subst (λ (p : Parts). WrittenText (g.S.Sink.contents c.args.out.now) (g.S.Sink.contents c.write_eld.new.out) (g.S.Sink.is_stuck c.args.out.now) (g.S.Sink.is_stuck c.write_eld.new.out) (eld_text c.args.form p) (Ok c.in-Ok-write_eld.count))
      c.in-Ok.ensures.read c.in-Ok-write_eld.ensures,
)

pub returns-in-Err-write_eld : goal.returns-in-Err-write_eld
returns-in-Err-write_eld g c = (
  c.in-Ok.ensures.accepted,
  subst (λ (p : Parts). WrittenText (g.S.Sink.contents c.args.out.now) (g.S.Sink.contents c.write_eld.new.out) (g.S.Sink.is_stuck c.args.out.now) (g.S.Sink.is_stuck c.write_eld.new.out) (eld_text c.args.form p) (Err c.in-Err-write_eld.fault))
      c.in-Ok.ensures.read c.in-Err-write_eld.ensures,
)
