use Rattle.std.proofs.Common.{OnOk, min, refl, subst, sym}
use Rattle.capture_as_test.specs.Written.{test_text}
use Rattle.capture_replay.specs.Replay.{replay_text}
use Rattle.cli_choice.specs.declared.choice.CaptureSummary.{CaptureSummary}
use Rattle.cli_choice.specs.declared.choice.CaptureSummary.TheVariants.{Replay, Test}
use Rattle.program_captures.specs.Summaries.{Summarizes}
use Rattle.program_captures.proofs.ShownLemmas.{on_ok}
use Rattle.program_captures.proofs.summary.summarize.Goals as goal

pub returns-in-Devices : goal.returns-in-Devices
returns-in-Devices g c =
    let choice = c.args.choice in
    let Q : CaptureSummary → Type 0 = λ s. OnOk c.write_devices.result (Summarizes s choice.margin choice.strict choice.written c.args.capture.now (g.W.Sink.contents c.args.out.now) (g.W.Sink.contents c.write_devices.new.out)) in
    subst Q (sym c.in-Devices.is) c.write_devices.ensures

pub returns-in-Verdict : goal.returns-in-Verdict
returns-in-Verdict g c =
    let choice = c.args.choice in
    let Q : CaptureSummary → Type 0 = λ s. OnOk c.write_verdict.result (Summarizes s choice.margin choice.strict choice.written c.args.capture.now (g.W.Sink.contents c.args.out.now) (g.W.Sink.contents c.write_verdict.new.out)) in
    subst Q (sym c.in-Verdict.is) c.write_verdict.ensures

pub returns-in-Test : goal.returns-in-Test
returns-in-Test g c =
    let choice = c.args.choice in
    let old = g.W.Sink.contents c.args.out.now in
    let new = g.W.Sink.contents c.write_test.new.out in
    let Q : CaptureSummary → Type 0 = λ s. OnOk c.write_test.result (Summarizes s choice.margin choice.strict choice.written c.args.capture.now old new) in
    subst Q (sym c.in-Test.is)
    (on_ok c.write_test.result _ (Summarizes Test choice.margin choice.strict choice.written c.args.capture.now old new) (λ w. (test_text c.args.capture.now, refl, w)) c.write_test.ensures)

pub returns-in-Replay : goal.returns-in-Replay
returns-in-Replay g c =
    let choice = c.args.choice in
    let old = g.W.Sink.contents c.args.out.now in
    let new = g.W.Sink.contents c.put_replay.new.out in
    let address = c.in-Replay.address in
    let Q : CaptureSummary → Type 0 = λ s. OnOk c.put_replay.result (Summarizes s choice.margin choice.strict choice.written c.args.capture.now old new) in
    subst Q (sym c.in-Replay.is)
    (on_ok c.put_replay.result _ (Summarizes (Replay address) choice.margin choice.strict choice.written c.args.capture.now old new) (λ w. (replay_text (min address 15) c.args.capture.now, refl, w)) c.put_replay.ensures)
