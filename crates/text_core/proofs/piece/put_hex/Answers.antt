use Rattle.std.proofs.Common.{rules}
use Rattle.text_core.proofs.CutShort.{cut_short}
use Rattle.text_core.specs.Piece.{hex_text}
use Rattle.text_core.proofs.piece.put_hex.Goals as goal

pub returns-in-Err : goal.returns-in-Err
returns-in-Err g c =
    let fault = c.in-Err.ensures.0 in
    let cut = cut_short hex_text c.args.bytes.now c.loop-byte.byte-index c.in-Err.fault.count c.from.result _ _ _ _ c.loop-byte-test.true
    (search rules) fault.0 c.loop-byte.invariant.so_far fault.1 in
    ((cut.0, cut.1, fault.2), search rules)
