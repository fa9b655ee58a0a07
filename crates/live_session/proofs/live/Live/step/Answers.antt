use Rattle.live_session.proofs.NoteCalls.{note_shows}
use Rattle.live_session.proofs.live.Live.step.Goals as goal

pub returns-in-Script-clause-shown : goal.returns-in-Script-clause-shown
returns-in-Script-clause-shown c = note_shows _ _ _ c.args.line.now c.note.result c.note.ensures
