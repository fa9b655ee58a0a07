use Rattle.std.proofs.Common.{ap}
use Rattle.line_reading.specs.Reports.{listed_as}
use Rattle.audit_core.specs.Audit.{tape_at}
use Rattle.audit_report.specs.declared.parties.Parties.{Parties}
use Rattle.audit_report.proofs.Measuring.{measured_are}
use Rattle.audit_report.proofs.tally.Tally.measure.Goals as goal

pub returns-clause-rows : goal.returns-clause-rows
returns-clause-rows c =
    let parties = c.of-parties.result in
    let lows = c.measured-lows.result.items in
    let same = rw c.deref.ensures.0 at c.of-parties.ensures in
    measured_are (tape_at c.args.edges.now c.args.auditor.now) (listed_as c.args.reading.now) parties.sender parties.taker lows c.free_taken.result c.waits-waits.result.items
    c.args.self.now.rows c.charge_sent.new.rows c.charge_taken.new.rows c.charge_free.new.rows c.charge_answers.new.rows
    (ap (λ (p : Parties). p.sender) same) (ap (λ (p : Parties). p.taker) same) c.measured-lows.ensures c.free_taken.ensures c.waits-waits.ensures
    (rw (c.deref-2.ensures.0, c.as_slice.ensures.value) at c.charge_sent.ensures) (rw (c.deref-3.ensures.0, c.as_slice-2.ensures.value) at c.charge_taken.ensures)
    c.charge_free.ensures (rw c.as_slice-3.ensures.value at c.charge_answers.ensures)
