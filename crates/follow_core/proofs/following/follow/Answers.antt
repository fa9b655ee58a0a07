use Rattle.std.proofs.Common.{◌+◌, ℕ, List, Err, arith, sym, subst}
use Rattle.live_incoming.specs.Incoming.{IsWhole, Leads, bytes_left, to_come}
use Rattle.follow_core.specs.Follow.{Follows}
use Rattle.follow_core.specs.declared.error.FollowError.{FollowError}
use Rattle.follow_core.proofs.Long.{handed_after, line_fails, line_handed, lines_run_out}
use Rattle.follow_core.proofs.Written.{end_stops, going_first, going_more, held, line_stops, next_end, next_line}
use Rattle.follow_core.proofs.following.follow.Goals as goal

pub loop-read-init : goal.loop-read-init
loop-read-init g c = record {
  going = going_first c.args.form c.args.signal.now c.args.view c.args.how (g.R.Read.remaining c.args.input.now) (held g.S.Sink.contents c.args.out.now) (bytes_left c.new-lines.result) c.new-follower.result c.new-lines.ensures
      (c.new-follower.ensures.followed c.args.signal.now c.args.view) c.new-follower.ensures.prompt c.new-follower.ensures.ready;
  kept = λ none. none;
}

pub returns-in-Err-clause-follows : goal.returns-in-Err-clause-follows
returns-in-Err-clause-follows g c =
    let at = c.loop-read in
    subst (λ (e : FollowError). Follows c.args.form c.args.signal.now c.args.view c.args.how (g.R.Read.remaining c.args.input.now) (held g.S.Sink.contents c.args.out.now) (held g.S.Sink.contents at.out) (Err e)) (sym c.line_error.ensures)
    (line_fails c.args.form c.args.signal.now c.args.view c.args.how (g.R.Read.remaining c.args.input.now) (to_come at.lines (g.R.Read.remaining at.input)) (to_come c.next.new.self (g.R.Read.remaining c.next.new.input)) (held g.S.Sink.contents c.args.out.now)
    (held g.S.Sink.contents at.out) at.follower (at.read + 1) c.next.new.line.items c.in-Err.fault at.invariant.going c.in-Err.ensures.next)

pub finish-requires : goal.finish-requires
finish-requires g c = record { ready = c.loop-read.invariant.going.ready }

pub returns-then-not-more-clause-follows : goal.returns-then-not-more-clause-follows
returns-then-not-more-clause-follows g c =
    let at = c.loop-read in
    end_stops c.args.form c.args.signal.now c.args.view c.args.how (g.R.Read.remaining c.args.input.now) (to_come at.lines (g.R.Read.remaining at.input)) (held g.S.Sink.contents c.args.out.now) (held g.S.Sink.contents at.out)
    (held g.S.Sink.contents c.finish.new.out) at.follower (at.read + 1) c.finish.result at.invariant.going
    (next_end (to_come at.lines (g.R.Read.remaining at.input)) (to_come c.next.new.self (g.R.Read.remaining c.next.new.input)) c.next.new.line.items c.in-Ok.more c.if-not-more.true c.in-Ok.ensures.next) c.finish.ensures.ends

pub hear-requires : goal.hear-requires
hear-requires g c = record { ready = c.loop-read.invariant.going.ready }

pub returns-in-Err-hear-clause-follows : goal.returns-in-Err-hear-clause-follows
returns-in-Err-hear-clause-follows g c =
    let at = c.loop-read in
    let now = to_come at.lines (g.R.Read.remaining at.input) in
    let next = to_come c.next.new.self (g.R.Read.remaining c.next.new.input) in
    line_stops c.args.form c.args.signal.now c.args.view c.args.how (g.R.Read.remaining c.args.input.now) now next (held g.S.Sink.contents c.args.out.now) (held g.S.Sink.contents at.out) (held g.S.Sink.contents c.hear.new.out)
    at.follower c.hear.new.follower (at.read + 1) c.as_slice.result.now c.in-Err-hear.error at.invariant.going
    (subst (λ (line : List ℕ). Leads now next line) (sym c.as_slice.ensures.value) (next_line now next c.next.new.line.items c.in-Ok.more c.if-not-more.false c.in-Ok.ensures.next)) c.in-Err-hear.ensures.hears

pub loop-read-preserved : goal.loop-read-preserved
loop-read-preserved g c =
    let at = c.loop-read in
    let now = to_come at.lines (g.R.Read.remaining at.input) in
    let next = to_come c.next.new.self (g.R.Read.remaining c.next.new.input) in
    record {
      going = going_more c.args.form c.args.signal.now c.args.view c.args.how (g.R.Read.remaining c.args.input.now) now next (held g.S.Sink.contents c.args.out.now) (held g.S.Sink.contents at.out) (held g.S.Sink.contents c.hear.new.out)
          at.follower c.hear.new.follower (at.read + 1) c.as_slice.result.now at.invariant.going
          (subst IsWhole (sym c.as_slice.ensures.value) c.in-Ok.ensures.whole)
          (subst (λ (line : List ℕ). Leads now next line) (sym c.as_slice.ensures.value) (next_line now next c.next.new.line.items c.in-Ok.more c.if-not-more.false c.in-Ok.ensures.next))
          c.in-Ok-hear.ensures.hears c.in-Ok-hear.ensures.ready;
      kept = λ none. c.in-Ok-hear.ensures.handed;
    }

pub returns-clause-follows : goal.returns-clause-follows
returns-clause-follows g c =
    let at = c.loop-read in
    let done = c.loop-read-test.false in
    let least = c.loop-read.auto.read-end in
    lines_run_out c.args.form c.args.signal.now c.args.view c.args.how (g.R.Read.remaining c.args.input.now) (to_come at.lines (g.R.Read.remaining at.input)) (held g.S.Sink.contents c.args.out.now) (held g.S.Sink.contents at.out)
    at.follower (at.read + 1) at.invariant.going (omega arith)

pub returns-in-Err-clause-kept : goal.returns-in-Err-clause-kept
returns-in-Err-clause-kept g c = λ none. line_handed c.in-Err.fault c.line_error.result c.loop-read.out.pending.items c.line_error.ensures (c.loop-read.invariant.kept none)

pub returns-then-not-more-clause-kept : goal.returns-then-not-more-clause-kept
returns-then-not-more-clause-kept g c = handed_after c.finish.result c.args.out.now.pending.items c.loop-read.out.pending.items c.finish.new.out.pending.items c.loop-read.invariant.kept c.finish.ensures.kept

pub returns-in-Err-hear-clause-kept : goal.returns-in-Err-hear-clause-kept
returns-in-Err-hear-clause-kept g c = λ none. c.in-Err-hear.ensures.kept (c.loop-read.invariant.kept none)

pub returns-clause-kept : goal.returns-clause-kept
returns-clause-kept g c = λ none. c.loop-read.invariant.kept none
