use Rattle.room_trace.proofs.round_text.add_seated.Goals as goal

pub returns : goal.returns
returns g c = c.add_reading_with.ensures
