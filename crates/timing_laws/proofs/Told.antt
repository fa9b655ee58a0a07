-- The line of a run without pulses, as it is written and read.
use Rattle.std.proofs.Common.{◌≡◌, ℕ, zero, suc, ◌+◌, ◌≤◌, max, false, List, [], ◌∷◌, ◌++◌, map, refl, sym, ap, ◌∙◌, subst, arith}
use Rattle.std.proofs.Math.Path.{fun_ext}
use Rattle.std.specs.List.{flat_map}
use Rattle.std.proofs.lemmas.List.Elements.{All-nil}
use Rattle.line_wave.specs.declared.Stretch.{Stretch}
use Rattle.line_wave.specs.Line.{line_of, IsWave}
use Rattle.line_wave.specs.Bounds.{latest_instant}
use Rattle.line_reading.specs.Readings.{Listed, readings_of}
use Rattle.line_rounds.specs.declared.Outcome.{Outcome}
use Rattle.line_rounds.specs.Alone.{outcome_listed}
use Rattle.edid_tree.specs.Node.{Node}
use Rattle.capture_core.specs.Edges.{Captured, edges_of, line_of_edges}
use Rattle.audit_core.specs.Audit.{first_tape}
use Rattle.room_net.specs.State.{NetState, first_net}
use Rattle.room_net.specs.Apply.{net_after}
use Rattle.room_net.specs.Step.{after_round}
use Rattle.room_net.specs.Line.{Move, Happens, Goes, Moves, rounds_of, run_wave}
use Rattle.room_net.proofs.Framed.{framed-started}
use Rattle.room_script.specs.Script.{AreFramedEvents}
use Rattle.room_script.specs.declared.script.TimedEvent.{TimedEvent}
use Rattle.room_run.specs.declared.run.Reporting.{Reporting}
use Rattle.room_run.specs.declared.run.Reporting.TheVariants.{Line}
use Rattle.room_run.specs.declared.run.Totals.{Totals}
use Rattle.room_run.specs.declared.run.Turn.{Turn}
use Rattle.room_run.specs.declared.run.Turn.TheVariants.{Stop, Apply, Round}
use Rattle.room_run.specs.Run.{Config, start, turn_at, first_time, IsEventTurn, IsRunText, IsTurnBy, Leads}
use Rattle.room_run.specs.RunLine.{rounds_by, rounds_in, IsLineText}
use Rattle.room_run.specs.OneRun.{rounds_reported}
use Rattle.room_run.proofs.Advance.{round_begins}
use Rattle.room_run.proofs.OneRun.{runs_close_soon}
use Rattle.room_run.proofs.WholeLine.{lines_are_of_the_rounds}
use Rattle.capture_laws.specs.Formats.{IsReadAs}
use Rattle.capture_laws.proofs.Formats.{is_capture, lines_are_read_back}
use Rattle.capture_laws.proofs.ReadBack.{same_line}
use Rattle.capture_laws.specs.Formats.{IsReadText}
use Rattle.capture_forms.specs.declared.form.CaptureForm.{CaptureForm}
use Rattle.line_wave.specs.Bounds.{latest_event}
use Rattle.line_wave.specs.declared.Edge.{Edge}
use Rattle.timing_laws.specs.Attempts.{AreOfSix, RunsGiveUp}
use Rattle.timing_laws.specs.Times.{AreFree, AreInTime, RunsKeepTheirTimes}
use Rattle.timing_laws.proofs.Runs.{AreTimed, first_in_time, runs_are_timed}
use Rattle.timing_laws.proofs.Tries.{first_of_six}
use Rattle.timing_laws.proofs.Waits.{kept-started}

-- the moves of a run, with these rounds
pub record IsMoved (s t : NetState) (os : List Outcome) : Type 0 where
  pub moves : List Move
  pub goes : Moves s moves t
  pub rounds : rounds_of moves ≡ os

by_event : (reporting : Reporting) (at : ℕ) (events : List TimedEvent) (c d last : Config) (text : List ℕ) (os : List Outcome) → IsEventTurn reporting at events c text d → c.events ≡ events
    → AreFramedEvents events → (AreFramedEvents d.events → IsMoved d.net last.net os) → IsMoved c.net last.net os
by_event reporting at [] c d last text os t same f k =
    let m : IsMoved d.net last.net os = k (subst AreFramedEvents (sym (ap (λ (x : Config). x.events) t.1 ∙ same)) tt) in
    subst (λ (s : NetState). IsMoved s last.net os) (ap (λ (x : Config). x.net) t.1) m
by_event reporting at (e ∷ events) c d last text os t same f k =
    let m : IsMoved d.net last.net os = k (subst AreFramedEvents (sym (ap (λ (x : Config). x.events) t.1)) f.1) in
    let n : IsMoved (net_after at e.event c.net) last.net os = subst (λ (s : NetState). IsMoved s last.net os) (ap (λ (x : Config). x.net) t.1) m in
    record { moves = Happens at e.event ∷ n.moves; goes = (f.0, n.goes); rounds = n.rounds }

by_turn : (reporting : Reporting) (end : ℕ) (turn : Turn) (c d last : Config) (text : List ℕ) (os : List Outcome) → turn_at end c ≡ turn → (t : IsTurnBy reporting turn c text d)
    → AreFramedEvents c.events → (AreFramedEvents d.events → IsMoved d.net last.net os) → IsMoved c.net last.net (rounds_by reporting turn c text d t ++ os)
by_turn reporting end Stop c d last text os same t f k = absurd t
by_turn reporting end (Apply at) c d last text os same t f k = by_event reporting at c.events c d last text os t refl f k
by_turn reporting end (Round begin) c d last text os same t f k =
    let m : IsMoved d.net last.net os = k (subst AreFramedEvents (sym t.1) f) in
    let n : IsMoved (after_round c.net begin t.0.outcome) last.net os = subst (λ (s : NetState). IsMoved s last.net os) t.0.next.after_is m in
    record {
      moves = Goes begin t.0.outcome ∷ n.moves;
      goes = (record { begins = (round_begins end c.net (first_time c.events) begin same).0; wave = t.0.wave; round = t.0.next.round }, n.goes);
      rounds = ap (λ xs. t.0.outcome ∷ xs) n.rounds;
    }

pub moved : (reporting : Reporting) (end turns : ℕ) (c d : Config) (text : List ℕ) (l : Leads reporting end turns c text d) → AreFramedEvents c.events
    → IsMoved c.net d.net (rounds_in reporting end turns c text d l)
moved reporting end zero c d text l f = record { moves = []; goes = ap (λ (x : Config). x.net) l.1; rounds = refl }
moved reporting end (suc turns) c d text l f =
    by_turn reporting end (turn_at end c) c l.0 d l.1 (rounds_in reporting end turns l.0 l.2 d l.4) refl l.3 f (λ g. moved reporting end turns l.0 d l.2 l.4 g)

-- the waves of rounds make the run's line
waves_flat : (os : List Outcome) → run_wave os ≡ flat_map (λ ss. ss) (map (λ o. o.wave) os)
waves_flat [] = refl
waves_flat (o ∷ os) = ap (λ l. o.wave ++ l) (waves_flat os)

-- its rounds are of nominal times
pub reported_timed : (reporting : Reporting) (tree : List Node) (events : List TimedEvent) (end : ℕ) (text : List ℕ) (totals : Totals) → AreFramedEvents events
    → (reported : IsRunText reporting end (start (first_net tree []) events) text totals) → AreTimed (rounds_reported reporting end (start (first_net tree []) events) text totals reported)
reported_timed reporting tree events end text totals framed reported =
    let m = moved reporting end reported.run.turns (start (first_net tree []) events) reported.run.last reported.run.body reported.run.leads framed in
    subst AreTimed m.rounds (runs_are_timed (first_net tree []) reported.run.last.net m.moves (framed-started tree []) refl m.goes)

-- and have six attempts at most
reported_six : (reporting : Reporting) (tree : List Node) (events : List TimedEvent) (end : ℕ) (text : List ℕ) (totals : Totals) → AreFramedEvents events
    → (reported : IsRunText reporting end (start (first_net tree []) events) text totals)
    → AreOfSix (first_tape (edges_of (run_wave (rounds_reported reporting end (start (first_net tree []) events) text totals reported)))) (map outcome_listed (rounds_reported reporting end (start (first_net tree []) events) text totals reported))
reported_six reporting tree events end text totals framed reported =
    let m = moved reporting end reported.run.turns (start (first_net tree []) events) reported.run.last reported.run.body reported.run.leads framed in
    subst (λ (os : List Outcome). AreOfSix (first_tape (edges_of (run_wave os))) (map outcome_listed os)) m.rounds
    (first_of_six (first_net tree []) reported.run.last.net m.moves (framed-started tree []) refl m.goes (kept-started 0 0 tree))

-- what holds of the edges and the readings of its rounds holds of those of the capture that its line is read as
pub runs_say : (Says : List Edge → List Listed → Type 0) (format : CaptureForm) (tree : List Node) (events : List TimedEvent) (end : ℕ) (text : List ℕ) (totals : Totals) → AreFramedEvents events
    → (reported : IsRunText (Line format) end (start (first_net tree []) events) text totals) → end ≤ latest_event
    → Says (edges_of (run_wave (rounds_reported (Line format) end (start (first_net tree []) events) text totals reported))) (map outcome_listed (rounds_reported (Line format) end (start (first_net tree []) events) text totals reported))
    → (c : Captured) × IsReadText format text c × Says c.edges (readings_of (line_of_edges c.edges) c.end)
runs_say Says format tree events end text totals framed reported limit said = (c, record { read = read; capture = is_capture (flat_map (λ ss. ss) waves) last wave over low }, says)
  where
    os : List Outcome
    os = rounds_reported (Line format) end (start (first_net tree []) events) text totals reported

    waves : List (List Stretch)
    waves = map (λ (o : Outcome). o.wave) os

    last : ℕ
    last = max end reported.run.last.net.close

    k : IsLineText format os last text
    k = lines_are_of_the_rounds format tree [] events end text totals tt framed reported

    low : last ≤ latest_instant
    low = let soon : reported.run.last.net.close ≤ end + 458461 = runs_close_soon (Line format) tree [] events (end + 458461) end reported.run.turns reported.run.body reported.run.last (omega arith)
        (record { order = tt; ends = All-nil (λ (p : Stretch). p.from ≤ end + 448461 → p.to ≤ end + 458461) }) reported.run.leads in omega (arith, soon, limit)

    wave : IsWave (flat_map (λ ss. ss) waves)
    wave = subst (λ (ss : List Stretch). IsWave ss) (waves_flat os) k.read.wave

    over : (u : ℕ) → last ≤ u → line_of (flat_map (λ ss. ss) waves) u ≡ false
    over u h = subst (λ (ss : List Stretch). line_of ss u ≡ false) (waves_flat os) (k.read.over u h)

    c : Captured
    c = record { edges = edges_of (flat_map (λ ss. ss) waves); end = last }

    read : IsReadAs format text c
    read = subst (λ (t : List ℕ). IsReadAs format t c) (sym k.whole) (lines_are_read_back format waves last wave over low)

    readings : readings_of (line_of_edges c.edges) last ≡ map outcome_listed os
    readings = ap (λ line. readings_of line last) (fun_ext (λ u. same_line (flat_map (λ ss. ss) waves) 0 u wave)) ∙ ap (λ (ss : List Stretch). readings_of (line_of ss) last) (sym (waves_flat os)) ∙ k.read.readings

    says : Says c.edges (readings_of (line_of_edges c.edges) last)
    says = subst (λ (xs : List Listed). Says c.edges xs) (sym readings) (subst (λ (ss : List Stretch). Says (edges_of ss) (map outcome_listed os)) (waves_flat os) said)

pub runs_keep_their_times : RunsKeepTheirTimes
runs_keep_their_times format tree events end text totals framed reported limit =
    runs_say (λ es xs. AreInTime (first_tape es) xs × AreFree (first_tape es) xs) format tree events end text totals framed reported limit
    (first_in_time (rounds_reported (Line format) end (start (first_net tree []) events) text totals reported) (reported_timed (Line format) tree events end text totals framed reported))

pub runs_give_up : RunsGiveUp
runs_give_up format tree events end text totals framed reported limit =
    runs_say (λ es xs. AreOfSix (first_tape es) xs) format tree events end text totals framed reported limit (reported_six (Line format) tree events end text totals framed reported)
