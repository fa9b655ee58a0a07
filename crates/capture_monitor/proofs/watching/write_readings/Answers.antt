use Rattle.std.proofs.Common.{ℕ, Bool, List, Option, Ok, Err, Result, rules, subst}
use Rattle.text_core.proofs.Adding.{text_ended}
use Rattle.capture_monitor.specs.Watch.{file_readings, readings_text}
use Rattle.text_core.proofs.Counting.{all_of, front_of}
use Rattle.capture_monitor.proofs.watching.write_readings.Goals as goal

pub returns-in-Ok : goal.returns-in-Ok
returns-in-Ok g c = λ f h.
    let old = g.S.Sink.contents c.args.out.now in
    let was = g.S.Sink.is_stuck c.args.out.now in
    let text = readings_text (file_readings f) in
    all_of old _ was _ text c.written-written.result _ c.in-Ok.is
    (text_ended g.S.Sink.contents g.S.Sink.is_stuck c.args.out.now _ c.into_sink-below.result.now _ c.into_sink-below.result.ghost_name c.new-readings.result c.add_readings.new.out text c.written-written.result
    c.new-readings.ensures (c.add_readings.ensures f h) c.written-written.ensures.text
    c.into_sink-below.ensures.loan c.into_sink-below.ensures.known c.into_sink-below.ensures.stuck (search rules))

pub returns-in-Err : goal.returns-in-Err
returns-in-Err g c = λ f h.
    let old = g.S.Sink.contents c.args.out.now in
    let was = g.S.Sink.is_stuck c.args.out.now in
    let text = readings_text (file_readings f) in
    front_of old _ was _ text c.written-written.result c.in-Err.fault c.in-Err.is
    (text_ended g.S.Sink.contents g.S.Sink.is_stuck c.args.out.now _ c.into_sink-below.result.now _ c.into_sink-below.result.ghost_name c.new-readings.result c.add_readings.new.out text c.written-written.result
    c.new-readings.ensures (c.add_readings.ensures f h) c.written-written.ensures.text
    c.into_sink-below.ensures.loan c.into_sink-below.ensures.known c.into_sink-below.ensures.stuck (search rules))
