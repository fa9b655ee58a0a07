use Rattle.std.proofs.Common.{◌≡◌}
use Rattle.capture_core.specs.Edges.{Captured}
use Rattle.program_calls.specs.CaptureTests.{WritesPassedBy}
use Rattle.program_captures.specs.Captures.{without_short}
use Rattle.program_calls.proofs.ShownLemmas.{on_ok}
use Rattle.program_calls.proofs.CaptureTestLemmas.{kept_is, passed_by}
use Rattle.program_calls.proofs.capture_test.write_report.Goals as goal

pub returns : goal.returns
returns g c =
    let kept : Captured = c.in_ok-kept.kept in
    let same : kept ≡ without_short c.args.glitch c.args.whole = kept_is c.args.glitch c.args.whole kept c.in_ok-kept.ensures.edges c.in_ok-kept.ensures.end in
    on_ok c.passed.result (c.in_ok-tally.tally.failed ≡ 0) (WritesPassedBy c.args.written c.args.expectations.now c.args.glitch c.args.whole (g.W.Sink.contents c.args.out.now) (g.W.Sink.contents c.check_capture.new.out))
    (passed_by c.args.written c.args.expectations.now c.args.glitch c.args.whole kept (g.W.Sink.contents c.args.out.now) (g.W.Sink.contents c.check_capture.new.out) c.in_ok-tally.tally same c.in_ok-tally.ensures.ok)
    c.passed.ensures
