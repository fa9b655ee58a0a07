-- The line of a run is read back in each format.
use Rattle.std.proofs.Common.{◌≡◌, ℕ, ◌+◌, ◌≤◌, max, false, List, [], ◌∷◌, ◌++◌, length, map, refl, sym, ap, ◌∙◌, subst, arith}
use Rattle.std.proofs.Math.Path.{fun_ext}
use Rattle.std.proofs.lemmas.Grind.{flat_map-append}
use Rattle.std.specs.List.{flat_map}
use Rattle.line_wave.specs.declared.Stretch.{Stretch}
use Rattle.line_wave.specs.Line.{line_of, IsWave, IsWaveFrom}
use Rattle.line_wave.specs.Bounds.{latest_instant}
use Rattle.line_reading.specs.Readings.{readings_of}
use Rattle.line_rounds.specs.declared.Outcome.{Outcome}
use Rattle.room_net.specs.Line.{run_wave}
use Rattle.room_net.specs.State.{first_net}
use Rattle.room_script.proofs.Sound.{scripts_are_sound}
use Rattle.capture_core.specs.Edges.{AreInTurn, EndBy, edges_of, EndsBy}
use Rattle.capture_vcd.specs.Dump as vcd_in
use Rattle.capture_vcd.specs.Text as vcd
use Rattle.capture_vcd.proofs.ReadBack.{dumps_are_read_back}
use Rattle.capture_pin.proofs.ReadBack.{pin_files_are_read_back}
use Rattle.capture_csv.specs.Csv as csv_in
use Rattle.capture_csv.specs.Text as csv
use Rattle.capture_csv.proofs.ReadBack.{csv_files_are_read_back}
use Rattle.capture_monitor.specs.EdgeText.{stretch_lines}
use Rattle.room_trace.specs.TraceText.{end_line}
use Rattle.message_text.specs.ReadingText.{reading_line}
use Rattle.capture_monitor.specs.EdgeFile.{file_of}
use Rattle.capture_monitor.specs.Watch.{readings_text}
use Rattle.capture_forms.specs.declared.form.CaptureForm.TheVariants.{Edges, Vcd, Pin, Csv}
use Rattle.room_run.specs.declared.run.Reporting.TheVariants.{Line}
use Rattle.room_run.specs.Run.{start}
use Rattle.room_run.specs.OneRun.{rounds_of_line, rounds_reported}
use Rattle.room_run.proofs.WholeLine as runs
use Rattle.room_run.proofs.OneRun.{runs_close_soon, texts_have_one_run, traces_have_parts}
use Rattle.capture_laws.specs.Waves.{WavesAreCaptures}
use Rattle.capture_laws.specs.Formats.{IsReadAs, LinesAreReadBack, LinesOfRunsHaveTheirReadings, MonitorsReportTracesInAll}
use Rattle.capture_core.proofs.Ends.{ends_by}
use Rattle.capture_laws.proofs.ReadBack.{edge_files_are_read_back, lines_of_parts, lines_of_rounds, over_by_script, same_line}

-- ---- a line that rounds make

abbrev flat : List (List Stretch) → List Stretch
flat rounds = flat_map (λ ss. ss) rounds

-- what is written of rounds by their stretches is written of all their stretches
by_stretches : (f : Stretch → List ℕ) (rounds : List (List Stretch)) → flat_map (flat_map f) rounds ≡ flat_map f (flat rounds)
by_stretches f [] = refl
by_stretches f (ss ∷ rounds) = ap (λ l. flat_map f ss ++ l) (by_stretches f rounds) ∙ sym (flat_map-append f ss (flat rounds))

pub lines_are_read_back : LinesAreReadBack
lines_are_read_back Edges rounds end wave over low =
    ap (λ l. file_of (l ++ end_line end)) (by_stretches stretch_lines rounds) ∙ (edge_files_are_read_back (flat rounds) end wave over low).file
lines_are_read_back Vcd rounds end wave over low =
    ap (λ l. vcd_in.edges_in [] (vcd.head ++ (l ++ vcd.last end))) (by_stretches vcd.change_lines rounds) ∙ dumps_are_read_back (flat rounds) end wave over low
lines_are_read_back Pin rounds end wave over low = pin_files_are_read_back rounds end wave over low
lines_are_read_back Csv rounds end wave over low =
    ap (λ l. csv_in.edges_in [] (csv.head ++ (l ++ csv.row_text end 49))) (by_stretches csv.stretch_text rounds) ∙ csv_files_are_read_back (flat rounds) end wave over low

-- ---- its capture

turns_of : (ss : List Stretch) (from : ℕ) → IsWaveFrom from ss → AreInTurn false from (edges_of ss)
turns_of [] from wave = tt
turns_of (s ∷ ss) from wave = (refl, wave.0, (refl, (let w = wave.1 in omega arith), turns_of ss (s.to + 1) wave.2))

end_of : (ss : List Stretch) (from end : ℕ) → IsWaveFrom from ss → EndsBy end ss → EndBy end (edges_of ss)
end_of [] from end wave by = tt
end_of (s ∷ ss) from end wave by = ((let w = wave.1 in let b = by.0 in omega arith), (by.0, end_of ss (s.to + 1) end wave.2 by.1))

pub is_capture : WavesAreCaptures
is_capture ss end wave over low = record { turn = turns_of ss 0 wave; ends = end_of ss 0 end wave (ends_by ss 0 end wave over); early = low }

-- ---- of runs

-- the waves of rounds make the run's line
waves_flat : (os : List Outcome) → run_wave os ≡ flat (map (λ o. o.wave) os)
waves_flat [] = refl
waves_flat (o ∷ os) = ap (λ l. o.wave ++ l) (waves_flat os)

pub lines_of_runs_have_their_readings : LinesOfRunsHaveTheirReadings
lines_of_runs_have_their_readings format tree pulses events end text totals over_by framed reported limit =
    let k = runs.lines_are_of_the_rounds format tree pulses events end text totals over_by.order framed reported in
    let last = max end reported.run.last.net.close in
    let soon : reported.run.last.net.close ≤ latest_instant = runs_close_soon (Line format) tree pulses events latest_instant end reported.run.turns reported.run.body reported.run.last (omega (arith, limit)) over_by reported.run.leads in
    let os = rounds_reported (Line format) end (start (first_net tree pulses) events) text totals reported in
    let waves = map (λ (o : Outcome). o.wave) os in
    let low : last ≤ latest_instant = omega (arith, soon, limit) in
    let wave : IsWave (flat waves) = subst (λ (ss : List Stretch). IsWave ss) (waves_flat os) k.read.wave in
    let over : (u : ℕ) → last ≤ u → line_of (flat waves) u ≡ false = λ u h. subst (λ (ss : List Stretch). line_of ss u ≡ false) (waves_flat os) (k.read.over u h) in
    let back = lines_are_read_back format waves last wave over low in (
      record { edges = edges_of (flat waves); end = last },
      record {
        read = subst (λ (t : List ℕ). IsReadAs format t (record { edges = edges_of (flat waves); end = last })) (sym k.whole) back;
        capture = is_capture (flat waves) last wave over low;
      },
      ap (λ line. readings_of line last) (fun_ext (λ u. same_line (flat waves) 0 u wave)) ∙ ap (λ (ss : List Stretch). readings_of (line_of ss) last) (sym (waves_flat os)) ∙ k.read.readings,
    )

pub monitors_report_traces_in_all : MonitorsReportTracesInAll
monitors_report_traces_in_all format topology script x y s t p q =
    let sound = scripts_are_sound q.plan.tree script q.course q.accepted.course_is in
    let file = lines_of_runs_have_their_readings format q.plan.tree q.course.pulses q.course.events q.course.end y t (over_by_script (length q.plan.tree) q.course sound) sound.framed q.line sound.limit in
    let one = texts_have_one_run format topology script x y s t p q in
    let made = traces_have_parts p.edid p.course.end (start (first_net p.plan.tree p.course.pulses) p.course.events) x s p.trace in (
      file.0,
      file.1,
      record {
        parts = made.parts;
        trace_is = made.whole;
        monitored_is = ap readings_text file.2 ∙ lines_of_rounds (rounds_of_line format topology script y t q)
            ∙ ap (flat_map (λ (o : Outcome). reading_line o.reading)) (sym one.1 ∙ made.rounds) ∙ lines_of_parts made.parts;
      },
    )
