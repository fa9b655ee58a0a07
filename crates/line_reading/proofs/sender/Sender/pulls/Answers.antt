use Rattle.std.proofs.Common.{◌∙◌}
use Rattle.line_reading.proofs.Sent.{pulls_so}
use Rattle.line_reading.proofs.sender.Sender.pulls.Goals as goal

pub returns-clause-round : goal.returns-clause-round
returns-clause-round c = λ low s.
    let self = c.args.self.now in
    c.is_pulling.ensures ∙ pulls_so low self.begin c.args.t self.last self.frame self.state s.state s.past
