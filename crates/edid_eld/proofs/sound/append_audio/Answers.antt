use Rattle.std.proofs.Common.{◌∙◌, ◌≡◌, ap, sym, length, take, min, arith, ◌-◌, ◌++◌}
use Rattle.edid_eld.proofs.Joined.{audio_fits}
use Rattle.edid_eld.proofs.sound.append_audio.Goals as goal

pub returns-clause-items : goal.returns-clause-items
returns-clause-items c =
    c.append.ensures.items ∙ ap (λ n. c.args.audio.now.items ++ take n c.args.bytes.now) c.min.ensures
    ∙ audio_fits c.args.audio.now.items c.args.bytes.now (45 - c.len-room.result) c.requires (ap (λ n. 45 - n) c.len-room.ensures.value)
