use Rattle.std.proofs.Common.{◌≡◌, None, ap, sym, ◌∙◌}
use Rattle.std.specs.List.{position}
use Rattle.edid_cta.specs.Audio.{is_audio}
use Rattle.edid_cta.proofs.Hearing.{soundless}
use Rattle.edid_cta.proofs.audio.amplified.Goals as goal

pub returns-in_default-clause-none : goal.returns-in_default-clause-none
returns-in_default-clause-none c =
    let none : position is_audio c.args.cta.now.blocks.items ≡ None = ap (position is_audio) (sym c.as_slice.ensures.value) ∙ sym c.first_audio.ensures ∙ c.in_default.is in
    soundless c.args.cta.now none
