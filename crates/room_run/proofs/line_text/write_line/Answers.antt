use Rattle.std.proofs.Common.{rules, ◌≡◌, ◌∙◌, ℕ, max, ap, subst}
use Rattle.std.specs.List.{flat_map}
use Rattle.text_core.specs.Adds.{Adds}
use Rattle.capture_forms.specs.Format.{line_end}
use Rattle.room_net.specs.State.{NetState}
use Rattle.room_run.specs.declared.run.Reporting.TheVariants.{Line}
use Rattle.room_run.specs.Run.{start, start_reported, end_reported, IsRunText}
use Rattle.room_run.specs.Happening.{line_of_turn}
use Rattle.room_run.proofs.Whole.{heard_text, line_by, run_ended, run_told}
use Rattle.room_run.proofs.line_text.write_line.Goals as goal

pub returns : goal.returns
returns g c =
    let format = c.args.format in
    let from = start c.args.net.now c.args.events.now in
    let run = c.run_turns-totals.ensures in
    let heard : Adds c.add_start.new.out c.run_turns-totals.new.reporter.text (flat_map (line_of_turn format) run.happened) =
    heard_text (λ r. r.text) (λ r. r.format) line_of_turn run.happened _ _ run.heard in
    let last : c.max.result ≡ max c.args.end run.last.net.close = c.max.ensures ∙ ap (max c.args.end) (c.close.ensures ∙ ap (λ (s : NetState). s.close) run.net_is) in
    let after : Adds c.run_turns-totals.new.reporter.text c.add_end.new.out (end_reported (Line format) c.args.end run.last.net) =
    subst (λ (n : ℕ). Adds c.run_turns-totals.new.reporter.text c.add_end.new.out (line_end format n)) last c.add_end.ensures in
    let told = run_told (Line format) (line_of_turn format) (line_by format) c.args.end from run.last run.happened c.run_turns-totals.result _ run.whole run.goes run.totals_is in
    run_ended g.S.Sink.contents g.S.Sink.is_stuck c.args.out.now _ c.into_sink-below.result.now _ c.into_sink-below.result.ghost_name
    (IsRunText (Line format) c.args.end from) (start_reported (Line format) c.args.net.now) (flat_map (line_of_turn format) run.happened) (end_reported (Line format) c.args.end run.last.net) c.run_turns-totals.result
    c.new-text.result c.add_start.new.out c.run_turns-totals.new.reporter.text c.add_end.new.out c.written-written.result c.told.result
    c.new-text.ensures told c.add_start.ensures heard after c.written-written.ensures.failed c.written-written.ensures.text c.told.ensures
    c.into_sink-below.ensures.loan c.into_sink-below.ensures.known c.into_sink-below.ensures.stuck (search rules)
