use Rattle.std.proofs.Common.{rules, ◌≡◌, ◌∙◌, ℕ, List, max, ap, subst}
use Rattle.std.specs.List.{flat_map}
use Rattle.text_core.specs.Adds.{Adds}
use Rattle.device_core.specs.State.{State}
use Rattle.room_net.specs.State.{NetState}
use Rattle.capture_vcd.specs.Text.{last}
use Rattle.room_run.specs.Run.{start}
use Rattle.room_run.proofs.Whole.{heard_text, run_ended}
use Rattle.room_driven.specs.Driven.{names_of}
use Rattle.room_driven.specs.Named.{IsDump, head_of, wires_of_turn}
use Rattle.room_driven.proofs.Named.{dump_told}
use Rattle.room_driven.proofs.run.run.Goals as goal

pub returns : goal.returns
returns g c =
    let from = start c.args.net.now c.args.events.now in
    let run = c.run_turns-totals.ensures in
    let first = head_of c.args.wires (names_of c.args.net.now.devices) in
    let said = wires_of_turn c.args.wires in
    let tail = last (max c.args.end run.last.net.close) in
    let before : Adds c.new-text.result c.add_head.new.out first = subst (λ (ds : List State). Adds c.new-text.result c.add_head.new.out (head_of c.args.wires (names_of ds))) c.devices.ensures c.add_head.ensures in
    let heard : Adds c.add_head.new.out c.run_turns-totals.new.reporter.text (flat_map said run.happened) =
    heard_text (λ r. r.text) (λ r. r.wires) wires_of_turn run.happened _ _ run.heard in
    let end : c.max.result ≡ max c.args.end run.last.net.close = c.max.ensures ∙ ap (max c.args.end) (c.close.ensures ∙ ap (λ (s : NetState). s.close) run.net_is) in
    let after : Adds c.run_turns-totals.new.reporter.text c.add_last.new.out tail =
    subst (λ (n : ℕ). Adds c.run_turns-totals.new.reporter.text c.add_last.new.out (last n)) end c.add_last.ensures in
    run_ended g.S.Sink.contents g.S.Sink.is_stuck c.args.out.now _ c.into_sink-below.result.now _ c.into_sink-below.result.ghost_name
    (IsDump c.args.wires c.args.end from) first (flat_map said run.happened) tail c.run_turns-totals.result
    c.new-text.result c.add_head.new.out c.run_turns-totals.new.reporter.text c.add_last.new.out c.written-written.result c.told.result
    c.new-text.ensures (dump_told c.args.wires c.args.end from run.last run.happened c.run_turns-totals.result _ run.whole run.goes run.totals_is) before heard after c.written-written.ensures.failed c.written-written.ensures.text c.told.ensures
    c.into_sink-below.ensures.loan c.into_sink-below.ensures.known c.into_sink-below.ensures.stuck (search rules)
