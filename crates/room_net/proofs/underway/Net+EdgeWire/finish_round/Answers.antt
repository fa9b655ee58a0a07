use Rattle.std.proofs.Common.{◌∙◌, ap, sym, subst, Some, None, List}
use Rattle.line_wave.specs.declared.Stretch.{Stretch}
use Rattle.room_net.specs.State.{NetState, next_start}
use Rattle.room_net.specs.Underway.{Takes}
use Rattle.room_net.proofs.InRound.{round_is}
use Rattle.room_net.proofs.underway.Net+EdgeWire.finish_round.Goals as goal

pub outcome_of-outcome-requires : goal.outcome_of-outcome-requires
outcome_of-outcome-requires c =
    let h = c.self.invariant.1 c.in-Some.wire (sym c.in-Some.ensures.value) in record { takes = subst (λ (ps : List Stretch). Takes ps c.in-Some.wire) (sym c.as_slice.ensures.pulls) h.takes }

pub end-requires-clause-early : goal.end-requires-clause-early
end-requires-clause-early c = (c.self.invariant.1 c.in-Some.wire (sym c.in-Some.ensures.value)).early

pub end-requires-clause-begins : goal.end-requires-clause-begins
end-requires-clause-begins c = (c.self.invariant.1 c.in-Some.wire (sym c.in-Some.ensures.value)).begins ∙ ap Some (sym c.begun_at-begin.ensures)

pub end-requires-clause-round : goal.end-requires-clause-round
end-requires-clause-round c =
    let s : NetState = (record { tree = c.self.inside.tree; devices = c.self.inside.devices.items; pulses = c.self.inside.pulses; close = c.self.inside.close; rest = c.self.inside.rest; heard = None }) in
    round_is s c.in-Some.wire c.begun_at-begin.result c.as_slice.result.now c.outcome_of-outcome.result (c.self.invariant.1 c.in-Some.wire (sym c.in-Some.ensures.value)) c.begun_at-begin.ensures c.as_slice.ensures.pulls
    c.outcome_of-outcome.ensures

pub returns-clause-begins : goal.returns-clause-begins
returns-clause-begins c =
    sym (ap next_start c.self.view_is) ∙ (c.self.invariant.1 c.in-Some.wire (sym c.in-Some.ensures.value)).begins ∙ ap Some (sym c.begun_at-begin.ensures)
