use Rattle.std.proofs.Common.{[], Some, option_map, sym, arith}
use Rattle.std.specs.Option.{option_to_list}
use Rattle.text_core.proofs.Adding.{nothing}
use Rattle.audit_pieces.specs.Pieces.{piece_of}
use Rattle.audit_pieces.specs.Stretches.{stretches_of}
use Rattle.audit_pieces.specs.Wide.{pieces_of}
use Rattle.piece_audit.specs.Wide.{lows_from}
use Rattle.piece_audit.proofs.Going.{all_read, none_left, one_more}
use Rattle.piece_audit.proofs.whole.add_pieces.Goals as goal

pub lows-init : goal.lows-init
lows-init g c = ([], nothing c.args.out.now, sym (c.new-reader.ensures c.args.end (lows_from c.args.edges.now)))

pub lows-preserved : goal.lows-preserved
lows-preserved g c =
    one_more c.args.form c.args.grid c.args.end (pieces_of c.args.end (Some 0) (stretches_of c.args.end (lows_from c.args.edges.now))) c.args.out.now c.lows.out c.add_low.new.out
    c.lows.reader c.add_low.new.reader c.first_low.result c.lows.left.now c.after_first-left.result.now c.first_low.ensures c.after_first-left.ensures.rest c.lows.invariant c.add_low.ensures

pub returns : goal.returns
returns g c =
    all_read c.args.form c.args.grid c.args.end (pieces_of c.args.end (Some 0) (stretches_of c.args.end (lows_from c.args.edges.now)))
    (option_to_list (option_map piece_of c.last-last.result)) (option_to_list (option_map piece_of c.finish.result)) c.args.out.now c.lows.out c.add_some.new.out c.add_some-2.new.out
    c.lows.reader c.last-last.new.self c.lows.left.now (none_left c.lows.left.now (omega (arith, c.lows-test.false))) c.lows.invariant c.add_some.ensures c.last-last.ensures.given c.add_some-2.ensures c.finish.ensures
