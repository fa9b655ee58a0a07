-- A run without pulses is fine: its rounds are frames of whole blocks, which are sent with the nominal times and stay in order.
use Rattle.std.specs.Prelude.{◌≡◌, ◌≢◌, ℕ, ◌≤◌, true, List, [], ◌∷◌, map, is_some}
use Rattle.std.specs.List.{list_any}
use Rattle.line_wave.specs.Bounds.{latest_event}
use Rattle.line_frames.specs.declared.Ending.TheVariants.{Long}
use Rattle.line_reading.specs.Readings.{Listed, readings_of}
use Rattle.line_rounds.specs.declared.Seat.{Seat}
use Rattle.line_rounds.specs.declared.Outcome.{Outcome}
use Rattle.line_rounds.specs.Contend.{AreFrames}
use Rattle.line_rounds.specs.Round.{IsRound}
use Rattle.edid_tree.specs.Node.{Node}
use Rattle.capture_core.specs.Edges.{Captured, edges_of, line_of_edges}
use Rattle.capture_forms.specs.declared.form.CaptureForm.{CaptureForm}
use Rattle.capture_laws.specs.Formats.{IsReadText}
use Rattle.capture_verdict.specs.declared.verdict.Verdict.{Verdict}
use Rattle.capture_verdict.specs.Verdicts.{IsVerdict, pieces_in}
use Rattle.room_net.specs.State.{first_net}
use Rattle.room_script.specs.Script.{AreFramedEvents}
use Rattle.room_script.specs.declared.script.TimedEvent.{TimedEvent}
use Rattle.room_run.specs.declared.run.Reporting.TheVariants.{Line}
use Rattle.room_run.specs.declared.run.Totals.{Totals}
use Rattle.room_run.specs.Run.{start, IsRunText}
use Rattle.verdict_laws.specs.Frames.{AreFramesOf}
use Rattle.verdict_laws.specs.Sent.{AreBlocks, AreSent, Sent, wave_of}
use Rattle.verdict_laws.specs.Verdicts.{verdict_for}

-- ---- a round

-- Whoever sends, wins and acknowledges: its bits are whole blocks, up to the last one or to one that was not taken (CEC 6.1, 7.1, 9.1). One of more than
-- 16 blocks is read as too long.
abbrev pub RoundsAreBlocks : Type 0
RoundsAreBlocks = (seats : List Seat) (begin : ℕ) (o : Outcome) → AreFrames seats → IsRound seats begin [] o → list_any (λ s. is_some s.sends) seats ≡ true
    → o.reading.ending ≢ Long → AreBlocks o.reading.bits.items

-- ---- a run

-- a reading as a frame that is sent
abbrev pub sent_of : Listed → Sent
sent_of x = record { begin = x.begin; bits = x.reported.bits }

-- no reading has more than 16 blocks
abbrev pub NoneIsLong : List Listed → Type 0
NoneIsLong [] = Unit {0}
NoneIsLong (x ∷ xs) = (x.reported.ending ≢ Long) × NoneIsLong xs

-- the frames that the rule of reading has of a capture
abbrev pub sent_in : Captured → List Sent
sent_in c = map sent_of (readings_of (line_of_edges c.edges) c.end)

-- Its line is that of its frames, sent one after another with the nominal times. Read wide, it has these frames and nothing else, each without a
-- remark of widths and of how it ends; and its verdict is `fine`, or without a frame `idle`, and of no time `empty`.
pub record IsInOrder (c : Captured) : Type 0 where
  pub apart : AreSent (sent_in c)
  pub edges : c.edges ≡ edges_of (wave_of (sent_in c))
  pub frames : AreFramesOf (sent_in c) (pieces_in c)
  pub verdict : (v : Verdict) → IsVerdict c v → v ≡ verdict_for c.end (sent_in c)

-- The line of a run without pulses, within the limit of scripts and written in any format, is read as such a capture, whatever the script, where no frame
-- is too long.
abbrev pub RunsAreFine : Type 0
RunsAreFine = (format : CaptureForm) (tree : List Node) (events : List TimedEvent) (end : ℕ) (text : List ℕ) (totals : Totals)
    → AreFramedEvents events → IsRunText (Line format) end (start (first_net tree []) events) text totals → end ≤ latest_event
    → (c : Captured) × IsReadText format text c × (NoneIsLong (readings_of (line_of_edges c.edges) c.end) → IsInOrder c)
