use Rattle.std.proofs.Common.{arith}
use Rattle.meaning_cta.proofs.Joins.{joined}
use Rattle.meaning_cta.specs.Hdmi.{flag_part, code_part, stereo_part, spare_part, video_meanings}
use Rattle.meaning_cta.proofs.hdmi.append_videos.Goals as goal

pub append_spare_part-requires-clause-room : goal.append_spare_part-requires-clause-room
append_spare_part-requires-clause-room c = omega (arith, c.requires.room, c.append_flag_part.ensures.len, c.append_code_part.ensures.len, c.append_stereo_part.ensures.len)

pub returns : goal.returns
unfolding video_meanings
returns c =
    let v = c.args.video in
    let p = c.args.bytes.now in
    let svds = c.args.codes.now in
    joined _ _ _ (flag_part v p) _ c.append_flag_part.ensures.items
    (joined _ _ _ (code_part v p) _ c.append_code_part.ensures.items
    (joined _ _ _ (stereo_part svds v p) (spare_part v p) c.append_stereo_part.ensures.items c.append_spare_part.ensures))
