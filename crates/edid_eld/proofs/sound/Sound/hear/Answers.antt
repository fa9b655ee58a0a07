use Rattle.std.proofs.Common.{length, ◌%◌, ◌≡◌}
use Rattle.edid_eld.proofs.Joined.{audio_whole}
use Rattle.edid_eld.proofs.sound.Sound.hear.Goals as goal

pub invariant_of-self-clause-whole : goal.invariant_of-self-clause-whole
invariant_of-self-clause-whole c = rw c.append_audio.ensures.items (audio_whole c.args.self.now.audio.items c.audio_in.result.now c.args.self.now.whole c.audio_in.ensures.whole)
