use Rattle.audit_report.proofs.Six.{six}
use Rattle.audit_report.proofs.texts.add_own.Goals as goal

pub returns : goal.returns
returns g c =
    six c.args.out.now c.add_spread.new.out c.add_spread-2.new.out c.add_spread-3.new.out c.add_spread-4.new.out c.add_spread-5.new.out c.add_spread-6.new.out _ _ _ _ _ _
    (rw c.name-start_low.ensures at c.add_spread.ensures) (rw c.name-start_total.ensures at c.add_spread-2.ensures) (rw c.name.ensures at c.add_spread-3.ensures)
    (rw c.name-2.ensures at c.add_spread-4.ensures) (rw c.name-3.ensures at c.add_spread-5.ensures) c.add_spread-6.ensures
