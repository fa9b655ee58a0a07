use Rattle.std.proofs.Common.{List, Some, ap, option_map, arith}
use Rattle.std.specs.Option.{option_to_list}
use Rattle.audit_pieces.specs.Pieces.{Whole, piece_of}
use Rattle.audit_pieces.specs.Stretches.{stretches_of}
use Rattle.audit_pieces.specs.Wide.{pieces_of}
use Rattle.piece_audit.specs.Wide.{lows_from}
use Rattle.capture_signs.specs.Steps.{with_pieces}
use Rattle.capture_signs.proofs.Piecing.{all_taken, no_pieces, one_taken}
use Rattle.capture_signs.proofs.Summing.{none_left}
use Rattle.capture_signs.proofs.pieces.counts_of.Goals as goal

pub lows-init : goal.lows-init
lows-init c = ap (λ (ps : List Whole). with_pieces no_pieces ps) (c.new-reader.ensures c.args.end (lows_from c.args.edges.now))

pub lows-preserved : goal.lows-preserved
lows-preserved c =
    one_taken c.args.end (pieces_of c.args.end (Some 0) (stretches_of c.args.end (lows_from c.args.edges.now))) c.lows.counts c.take_low-counts.result c.lows.reader c.take_low-counts.new.reader
    c.first_low.result c.lows.left.now c.after_first-left.result.now c.first_low.ensures c.after_first-left.ensures.rest c.lows.invariant c.take_low-counts.ensures

pub returns : goal.returns
returns c =
    all_taken c.args.end (pieces_of c.args.end (Some 0) (stretches_of c.args.end (lows_from c.args.edges.now))) (option_to_list (option_map piece_of c.last-last.result))
    (option_to_list (option_map piece_of c.finish.result)) c.lows.counts c.with_some-all.result c.with_some.result c.lows.reader c.last-last.new.self c.lows.left.now
    (none_left c.lows.left.now (omega (arith, c.lows-test.false))) c.lows.invariant c.last-last.ensures.given c.finish.ensures c.with_some-all.ensures c.with_some.ensures
