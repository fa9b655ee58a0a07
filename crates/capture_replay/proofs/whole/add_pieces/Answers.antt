use Rattle.std.proofs.Common.{[], option_map, sym, arith}
use Rattle.std.specs.Option.{option_to_list}
use Rattle.audit_pieces.specs.Pieces.{piece_of}
use Rattle.capture_replay.specs.Replay.{lows_from, pieces_in}
use Rattle.capture_replay.proofs.Going.{all_read, no_pieces, none_left, one_more}
use Rattle.capture_replay.proofs.whole.add_pieces.Goals as goal

pub lows-init : goal.lows-init
lows-init g c = ([], no_pieces c.args.address c.args.out.now c.args.counts.now, sym (c.new-reader.ensures c.args.end (lows_from c.args.edges.now)))

pub lows-preserved : goal.lows-preserved
lows-preserved g c =
    one_more c.args.address c.args.end (pieces_in c.args.edges.now c.args.end) c.args.out.now c.lows.out c.add_low.new.out c.args.counts.now c.lows.counts c.add_low.new.counts
    c.lows.reader c.add_low.new.reader c.first_low.result c.lows.left.now c.after_first-left.result.now c.first_low.ensures c.after_first-left.ensures.rest c.lows.invariant c.add_low.ensures

pub returns : goal.returns
returns g c =
    all_read c.args.address c.args.end (pieces_in c.args.edges.now c.args.end)
    (option_to_list (option_map piece_of c.last-last.result)) (option_to_list (option_map piece_of c.finish.result)) c.args.out.now c.lows.out c.add_some.new.out c.add_some-2.new.out
    c.args.counts.now c.lows.counts c.add_some.new.counts c.add_some-2.new.counts
    c.lows.reader c.last-last.new.self c.lows.left.now (none_left c.lows.left.now (omega (arith, c.lows-test.false))) c.lows.invariant c.add_some.ensures c.last-last.ensures.given c.add_some-2.ensures c.finish.ensures
