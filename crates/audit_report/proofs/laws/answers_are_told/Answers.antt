use Rattle.audit_report.proofs.Answers.{answers_are, spreads_are}
use Rattle.audit_report.proofs.laws.answers_are_told.Goals as goal

pub returns-clause-answers : goal.returns-clause-answers
returns-clause-answers c = answers_are

pub returns-clause-spreads : goal.returns-clause-spreads
returns-clause-spreads c = spreads_are
