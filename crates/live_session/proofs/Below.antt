-- Lemmas of the crates below.
pub use Rattle.line_wave.proofs.Kept.{timely_tested, wave_filter}
pub use Rattle.line_reading.proofs.Ends.{until_by}
pub use Rattle.line_rounds.proofs.Exists.{later_pulses}
pub use Rattle.line_rounds.proofs.OneOutcome.{one_outcome}
pub use Rattle.room_net.proofs.Framed.{framed-applied, framed-round, framed-started, seats_fit}
pub use Rattle.room_net.proofs.Lines.{begun}
pub use Rattle.room_net.proofs.Kept.{event_keeps}
pub use Rattle.room_run.proofs.Advance.{round_begins}
pub use Rattle.room_run.proofs.Turns.{no_turn, same_outcome}
pub use Rattle.room_run.specs.Certain.{NoTurn}
pub use Rattle.room_run.proofs.Before.{held_ends, one_turn}
pub use Rattle.room_run.proofs.Certainty.{is_late, reported_is_front, round_more, round_same, turns_are_certain, turns_stay_certain}
