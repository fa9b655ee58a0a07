use Rattle.std.proofs.Common.{sym}
use Rattle.message_hex.proofs.Reading.{read_more}
use Rattle.message_hex.proofs.bytes.read_bytes.Goals as goal

pub characters-preserved : goal.characters-preserved
characters-preserved c =
    read_more c.args.text.now c.characters.rest.now c.in-Some.more.now c.characters.place c.in-Ok.next c.in-Some.character c.in-Ok.byte c.characters.bytes c.keep.new.self
    c.characters.invariant c.in-Some.ensures (sym c.in-Ok.ensures) c.keep.ensures
