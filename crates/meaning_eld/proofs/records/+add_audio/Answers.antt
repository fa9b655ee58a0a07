use Rattle.std.proofs.lemmas.List.{take_rest}
use Rattle.meaning_eld.proofs.Audio.{audio_added}
use Rattle.meaning_eld.proofs.records.+add_audio.Goals as goal

pub returns-in-len3-up : goal.returns-in-len3-up
returns-in-len3-up g t c = audio_added c.args.form c.args.audio.now _ _ _ c.in-len3-up.len_at_least c.add_descriptor.ensures (rw take_rest at c.add_audio.ensures)
