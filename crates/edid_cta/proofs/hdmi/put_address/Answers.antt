use Rattle.std.proofs.Common.{◌≡◌, ◌+◌, ◌-◌, ◌≤◌, length, take, drop, ap, ◌∙◌, arith, length-drop}
use borrow.Rule.Slice.PartMut.{put_mid}
use Rattle.std.proofs.lemmas.List.{length-take-le}
use Rattle.edid_cta.proofs.Readdressing.{put_two, buf_is}
use Rattle.edid_cta.proofs.hdmi.put_address.Goals as goal

pub returns : goal.returns
returns c =
    let place = c.args.place in
    let two : place + 2 - place ≡ 2 = omega arith in
    let mid = take (place + 2 - place) (drop place c.args.bytes.now) in
    let there : place + 2 - place ≤ length (drop place c.args.bytes.now) = simp length-drop (omega arith) in
    let len : length mid ≡ 2 = length-take-le (place + 2 - place) (drop place c.args.bytes.now) there ∙ two in
    let buf = buf_is c.from_be_bytes-number.result c.args.address.high c.args.address.low mid c.write_u16.new.buf
    c.from_be_bytes-number.ensures (omega arith) (omega arith) len c.write_u16.ensures in
    ap (put_mid place (place + 2 - place) c.args.bytes.now) buf ∙ put_two c.args.bytes.now place (place + 2 - place) c.args.address.high c.args.address.low c.requires two
