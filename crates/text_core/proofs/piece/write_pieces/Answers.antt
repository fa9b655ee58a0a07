use Rattle.std.proofs.Common.{rules}
use Rattle.text_core.proofs.CutShort.{cut_short}
use Rattle.text_core.specs.Piece.{piece_text}
use Rattle.text_core.proofs.piece.write_pieces.Goals as goal

pub overflow_add-result : goal.overflow_add-result
overflow_add-result g c = let small = c.in-Err.ensures.1 in search rules

pub returns-in-Err : goal.returns-in-Err
returns-in-Err g c =
    let fault = c.in-Err.ensures.0 in
    let cut = cut_short piece_text c.args.pieces.now c.loop-piece.piece-index c.in-Err.fault.count c.loop-piece.written _ _ _ _ c.loop-piece-test.true
    c.loop-piece.invariant.count fault.0 c.loop-piece.invariant.so_far fault.1 in
    (cut.0, cut.1, fault.2)
