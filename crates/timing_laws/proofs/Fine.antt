-- A run without pulses is fine.
use Rattle.std.proofs.Common.{◌≡◌, ◌≢◌, ℕ, ◌+◌, ◌*◌, ◌≤◌, true, List, [], ◌∷◌, ◌++◌, length, map, nat_lt, Some, is_some, refl, sym, ap, ◌∙◌, subst, arith}
use Rattle.std.specs.List.{filter, list_any}
use Rattle.line_wave.specs.declared.Edge.{Edge}
use Rattle.line_wave.specs.declared.Stretch.{Stretch}
use Rattle.line_wave.specs.Bounds.{latest_event}
use Rattle.line_wave.specs.Sender.{sender_stretches}
use Rattle.line_frames.specs.declared.Ending.TheVariants.{Long}
use Rattle.line_reading.specs.Readings.{Listed, readings_of}
use Rattle.line_rounds.specs.declared.Seat.{Seat}
use Rattle.line_rounds.specs.declared.Outcome.{Outcome}
use Rattle.line_rounds.specs.Alone.{outcome_listed}
use Rattle.line_rounds.specs.Round.{IsRound}
use Rattle.edid_tree.specs.Node.{Node}
use Rattle.capture_core.specs.Edges.{Captured, edges_of, line_of_edges}
use Rattle.capture_forms.specs.declared.form.CaptureForm.{CaptureForm}
use Rattle.capture_laws.specs.Formats.{IsReadText}
use Rattle.room_net.specs.State.{NetState, first_net}
use Rattle.room_net.specs.Apply.{net_after}
use Rattle.room_net.specs.Framed.{AreFramed}
use Rattle.room_net.specs.Line.{Move, Happens, Goes, GoesFrom, Moves, rounds_of, run_wave}
use Rattle.room_net.specs.Step.{after_round, seats_of}
use Rattle.room_net.proofs.Framed.{framed-applied, framed-round, framed-started, seats_fit}
use Rattle.room_net.proofs.Kept.{event_keeps}
use Rattle.room_script.specs.Script.{AreFramedEvents}
use Rattle.room_script.specs.declared.script.TimedEvent.{TimedEvent}
use Rattle.room_run.specs.declared.run.Reporting.{Reporting}
use Rattle.room_run.specs.declared.run.Reporting.TheVariants.{Line}
use Rattle.room_run.specs.declared.run.Totals.{Totals}
use Rattle.room_run.specs.Run.{start, IsRunText}
use Rattle.room_run.specs.OneRun.{rounds_reported}
use Rattle.verdict_laws.specs.Sent.{AreBlocks, AreSent, IsBefore, Sent, wave_of}
use Rattle.verdict_laws.proofs.Frames.{sent_lines}
use Rattle.verdict_laws.proofs.Verdict.{sent_fine}
use Rattle.verdict_laws.specs.Frames.{AreFramesOf, heard}
use Rattle.capture_verdict.specs.Verdicts.{pieces_in}
use Rattle.audit_pieces.specs.Pieces.{Whole}
use Rattle.audit_pieces.specs.Stretches.{stretches_of}
use Rattle.audit_pieces.specs.Wide.{pieces_of}
use Rattle.piece_audit.specs.Wide.{lows_from}
use Rattle.timing_laws.specs.Verdicts.{IsInOrder, NoneIsLong, RunsAreFine, sent_of}
use Rattle.timing_laws.proofs.Blocks.{rounds_are_blocks}
use Rattle.timing_laws.proofs.Runs.{Apart, AreTimed, leads}
use Rattle.timing_laws.proofs.Told.{moved, reported_timed, runs_say}

-- ---- rounds of whole blocks

abbrev AreRounds : List Outcome → Type 0
AreRounds [] = Unit {0}
AreRounds (o ∷ os) = (o.reading.ending ≢ Long → AreBlocks o.reading.bits.items) × AreRounds os

of_blocks : (s : NetState) (begin : ℕ) (o : Outcome) → AreFramed s → s.pulses ≡ [] → GoesFrom s begin o → o.reading.ending ≢ Long → AreBlocks o.reading.bits.items
of_blocks s begin o framed none g short =
    rounds_are_blocks (seats_of s begin) begin o (seats_fit s begin framed) (subst (λ (ps : List Stretch). IsRound (seats_of s begin) begin ps o) none g.round) sends short
  where
    sends : list_any (λ (x : Seat). is_some x.sends) (seats_of s begin) ≡ true
    sends = (leads s begin none g.begins).sends

runs_of_blocks : (s t : NetState) (ms : List Move) → AreFramed s → s.pulses ≡ [] → Moves s ms t → AreRounds (rounds_of ms)
runs_of_blocks s t [] framed none m = tt
runs_of_blocks s t (Happens at event ∷ ms) framed none m = runs_of_blocks (net_after at event s) t ms (framed-applied at event s m.0 framed) ((event_keeps at event s (net_after at event s) refl).pulses ∙ none) m.1
runs_of_blocks s t (Goes begin o ∷ ms) framed none m = (
  of_blocks s begin o framed none m.0,
  runs_of_blocks (after_round s begin o) t ms (framed-round s begin o framed) (ap (filter (λ (p : Stretch). nat_lt o.rest p.from)) none) m.1,
)

reported_blocks : (reporting : Reporting) (tree : List Node) (events : List TimedEvent) (end : ℕ) (text : List ℕ) (totals : Totals) → AreFramedEvents events
    → (reported : IsRunText reporting end (start (first_net tree []) events) text totals) → AreRounds (rounds_reported reporting end (start (first_net tree []) events) text totals reported)
reported_blocks reporting tree events end text totals framed reported =
    let m = moved reporting end reported.run.turns (start (first_net tree []) events) reported.run.last reported.run.body reported.run.leads framed in
    subst AreRounds m.rounds (runs_of_blocks (first_net tree []) reported.run.last.net m.moves (framed-started tree []) refl m.goes)

-- ---- their line

abbrev sent_for : List Outcome → List Sent
sent_for os = map sent_of (map outcome_listed os)

before_next : (o : Outcome) (os : List Outcome) → Apart o os → IsBefore (sent_of (outcome_listed o)) (sent_for os)
before_next o [] h = tt
before_next o (p ∷ os) h = let l : o.reading.begin + 9300 + 2400 * length o.reading.bits.items ≤ p.reading.begin = h.0 in omega (arith, l)

are_sent : (os : List Outcome) → AreTimed os → AreRounds os → NoneIsLong (map outcome_listed os) → AreSent (sent_for os)
are_sent [] timed blocks short = tt
are_sent (o ∷ os) timed blocks short = (blocks.0 short.0, before_next o os timed.1, are_sent os timed.2 blocks.1 short.1)

waves_are : (os : List Outcome) → AreTimed os → run_wave os ≡ wave_of (sent_for os)
waves_are [] h = refl
waves_are (o ∷ os) h =
    ap (λ (w : List Stretch). w ++ run_wave os) h.0.wave ∙ ap (λ (w : List Stretch). sender_stretches o.reading.begin o.reading.bits.items ++ w) (waves_are os h.2)

-- ---- as it is read

record AreSentSo (es : List Edge) (xs : List Listed) : Type 0 where
  apart : AreSent (map sent_of xs)
  edges : es ≡ edges_of (wave_of (map sent_of xs))

abbrev SaysSent : List Edge → List Listed → Type 0
SaysSent es xs = NoneIsLong xs → AreSentSo es xs

frames_in : (es : List Edge) (end : ℕ) (sent : List Sent) → AreSent sent → es ≡ edges_of (wave_of sent) → AreFramesOf sent (pieces_in (record { edges = es; end = end }))
frames_in es end sent h e =
    subst (λ (xs : List Edge). AreFramesOf sent (pieces_of end (Some 0) (stretches_of end (lows_from xs)))) (sym e) (sent_lines end (Some 0) sent h)

in_order : (c : Captured) → AreSentSo c.edges (readings_of (line_of_edges c.edges) c.end) → IsInOrder c
in_order c h = record {
  apart = h.apart;
  edges = h.edges;
  frames = frames_in c.edges c.end (map sent_of (readings_of (line_of_edges c.edges) c.end)) h.apart h.edges;
  verdict = λ v is. sent_fine c (map sent_of (readings_of (line_of_edges c.edges) c.end)) v h.apart h.edges is;
}

pub runs_are_fine : RunsAreFine
runs_are_fine format tree events end text totals framed reported limit =
    let timed = reported_timed (Line format) tree events end text totals framed reported in
    let os = rounds_reported (Line format) end (start (first_net tree []) events) text totals reported in
    let said = runs_say SaysSent format tree events end text totals framed reported limit
    (λ short. record {
      apart = are_sent os timed (reported_blocks (Line format) tree events end text totals framed reported) short;
      edges = ap edges_of (waves_are os timed);
    }) in
    (said.0, said.1, λ short. in_order said.0 (said.2 short))
