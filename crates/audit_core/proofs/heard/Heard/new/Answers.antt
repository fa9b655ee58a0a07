use Rattle.audit_core.proofs.heard.Heard.new.Goals as goal

pub returns-clause-heard : goal.returns-clause-heard
returns-clause-heard c = record { lows = c.requires; frame = c.delivered_frame.ensures; sent = c.sent_frame.ensures }
