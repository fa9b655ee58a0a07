use Rattle.std.proofs.Common.{subst₂}
use Rattle.text_core.specs.Adds.{Adds}
use Rattle.edid_as_source.specs.Notes.{maker_by}
use Rattle.edid_as_source.proofs.notes.add_maker.Goals as goal

pub returns : goal.returns
returns g c = subst₂ (λ h l. Adds c.args.out.now c.add_maker_by.new.out (maker_by h l)) c.byte_at-high.ensures c.byte_at-low.ensures c.add_maker_by.ensures
