-- A run's edge file is read back.
use Rattle.std.proofs.Common.{◌≡◌, ℕ, ◌+◌, ◌-◌, ◌<◌, ◌≤◌, ◌==◌, ◌&&◌, ◌||◌, not, max, Bool, true, false, cond, nat_lt, nat_le, List, [], ◌∷◌, ◌++◌, length, map, Result, Ok, codes, refl, sym, ap, ◌∙◌, arith, append_assoc}
use Rattle.std.proofs.Math.Path.{fun_ext}
use Rattle.std.proofs.lemmas.Bool.Decides.{nat_tests}
use Rattle.std.specs.Fmt.{decimal}
use Rattle.line_wave.specs.declared.Stretch.{Stretch}
use Rattle.line_wave.specs.Line.{covers, line_of, IsWaveFrom}
use Rattle.line_wave.specs.Bounds.{latest_instant}
use Rattle.line_reading.specs.Readings.{readings_of}
use Rattle.text_core.specs.Lines.{lines_of}
use Rattle.capture_monitor.specs.EdgeText.{edge_lines}
use Rattle.room_trace.specs.TraceText.{end_line}
use Rattle.room_run.proofs.WholeLine as runs
use Rattle.room_run.proofs.OneRun.{runs_close_soon, texts_have_one_run, traces_have_parts}
use Rattle.room_run.specs.OneRun.{rounds_of_line, Part, OfEvent, OfRound, part_rounds}
use Rattle.room_run.specs.Run.{start}
use Rattle.room_net.specs.State.{first_net}
use Rattle.std.specs.List.{flat_map}
use Rattle.capture_core.specs.Edges.{edges_of, EndsBy}
use Rattle.capture_forms.specs.declared.form.CaptureForm.TheVariants.{Edges}
use Rattle.room_run.specs.declared.run.Reporting.TheVariants.{Line}
use Rattle.room_script.proofs.Sound.{scripts_are_sound}
use Rattle.line_rounds.specs.declared.Outcome.{Outcome}
use Rattle.line_rounds.specs.Alone.{outcome_listed}
use Rattle.message_text.specs.ReadingText.{reading_line}
use Rattle.capture_monitor.specs.Watch.{readings_text}
use Rattle.capture_monitor.specs.EdgeFile.{edge_line_of, edges_read, end_read, file_of, read_line, with_edge}
use Rattle.capture_core.specs.Edges.{level_at}
use Rattle.capture_monitor.specs.declared.edge_file.EdgeLine.{EdgeLine}
use Rattle.capture_monitor.specs.declared.edge_file.EdgeLine.TheVariants.{Edge as EdgeLineOf, End}
use Rattle.capture_laws.specs.Waves.{EdgesTellWaves, ScriptsAreOver}
use Rattle.capture_laws.specs.Capture.{part_monitored, EdgeFilesAreReadBack, FilesOfRunsHaveTheirReadings, MonitorsReportTraces}
use Rattle.capture_core.proofs.Ends.{ends_by}
use Rattle.capture_core.proofs.Texts.{line_before}
use Rattle.capture_laws.proofs.Texts.{IsWithout, more_without, one_without, timed, timed_line, timed_plain, timed_reported}

-- ---- the text

-- one line of the file, and what is after it
read_timed : (t : ℕ) (mark rest : List ℕ) (number : ℕ) (is_low : Bool) (from : ℕ) (line : Result EdgeLine ℕ) → t ≤ latest_instant
    → IsWithout 10 mark → edge_line_of (timed t mark) ≡ line
    → edges_read (lines_of (timed t mark ++ 10 ∷ rest)) number is_low from
    ≡ read_line number is_low from line (λ e. edges_read (lines_of rest) (number + 1) e.low (e.at + 1)) (λ t. end_read (lines_of rest) (number + 1) t)
read_timed t mark rest number is_low from line low plain is =
    rw (line_before (timed t mark) rest (timed_plain t mark (omega arith) plain)) (rw (timed_reported t mark (omega arith)) (rw is refl))

fall_read : (t : ℕ) (rest : List ℕ) (number from : ℕ) → t ≤ latest_instant → from ≤ t
    → edges_read (lines_of (timed t (codes "0") ++ 10 ∷ rest)) number false from
    ≡ with_edge (record { at = t; low = true }) (edges_read (lines_of rest) (number + 1) true (t + 1))
fall_read t rest number from low after =
    let turn : nat_le from t ≡ true = grind (arith, nat_tests) in
    read_timed t (codes "0") rest number false from (Ok (EdgeLineOf (record { at = t; low = true }))) low (one_without 10 48 refl) (timed_line t (codes "0") low (one_without 32 48 refl))
    ∙ rw turn refl

rise_read : (t : ℕ) (rest : List ℕ) (number from : ℕ) → t ≤ latest_instant → from ≤ t
    → edges_read (lines_of (timed t (codes "1") ++ 10 ∷ rest)) number true from
    ≡ with_edge (record { at = t; low = false }) (edges_read (lines_of rest) (number + 1) false (t + 1))
rise_read t rest number from low after =
    let turn : nat_le from t ≡ true = grind (arith, nat_tests) in
    read_timed t (codes "1") rest number true from (Ok (EdgeLineOf (record { at = t; low = false }))) low (one_without 10 49 refl) (timed_line t (codes "1") low (one_without 32 49 refl))
    ∙ rw turn refl

end_without : (b : ℕ) → (101 == b) ≡ false → (110 == b) ≡ false → (100 == b) ≡ false → IsWithout b (codes "end")
end_without b e n d = more_without b 101 (110 ∷ 100 ∷ []) e (more_without b 110 (100 ∷ []) n (one_without b 100 d))

end_read_back : (t number from : ℕ) → t ≤ latest_instant → from ≤ t + 1
    → edges_read (lines_of (timed t (codes "end") ++ 10 ∷ [])) number false from ≡ Ok (record { edges = []; end = t })
end_read_back t number from low after =
    let turn : nat_le from (t + 1) ≡ true = grind (arith, nat_tests) in
    read_timed t (codes "end") [] number false from (Ok (End t)) low (end_without 10 refl refl refl) (timed_line t (codes "end") low (end_without 32 refl refl refl))
    ∙ rw turn refl

rise_parted : (b e m : List ℕ) → ((b ++ 32 ∷ 49 ∷ 10 ∷ []) ++ e) ++ m ≡ (b ++ 32 ∷ 49 ∷ []) ++ 10 ∷ (e ++ m)
rise_parted [] e m = refl
rise_parted (x ∷ b) e m = ap (λ l. x ∷ l) (rise_parted b e m)

parted : (a b e m : List ℕ) → ((a ++ 32 ∷ 48 ∷ 10 ∷ (b ++ 32 ∷ 49 ∷ 10 ∷ [])) ++ e) ++ m ≡ (a ++ 32 ∷ 48 ∷ []) ++ 10 ∷ ((b ++ 32 ∷ 49 ∷ []) ++ 10 ∷ (e ++ m))
parted [] b e m = ap (λ l. 32 ∷ 48 ∷ 10 ∷ l) (rise_parted b e m)
parted (x ∷ a) b e m = ap (λ l. x ∷ l) (parted a b e m)

-- the text of a stretch before another text
stretch_before : (s : Stretch) (ss : List Stretch) (more : List ℕ)
    → edge_lines (s ∷ ss) ++ more ≡ timed s.from (codes "0") ++ 10 ∷ (timed s.to (codes "1") ++ 10 ∷ (edge_lines ss ++ more))
stretch_before s ss more = parted (decimal s.from) (decimal s.to) (edge_lines ss) more

end_text : (end : ℕ) → end_line end ≡ timed end (codes "end") ++ 10 ∷ []
end_text end = sym (append_assoc (decimal end) (codes " end") (codes "\n"))

read_back : (ss : List Stretch) (end number from : ℕ) → IsWaveFrom from ss → EndsBy end ss → from ≤ end + 1 → end ≤ latest_instant
    → edges_read (lines_of (edge_lines ss ++ end_line end)) number false from ≡ Ok (record { edges = edges_of ss; end = end })
read_back [] end number from wave by after low = rw (end_text end) (end_read_back end number from low after)
read_back (s ∷ ss) end number from wave by after low =
    let more = edge_lines ss ++ end_line end in
    let again = read_back ss end (number + 1 + 1) (s.to + 1) wave.2 by.1 (let b = by.0 in omega arith) low in
    ap (λ text. edges_read (lines_of text) number false from) (stretch_before s ss (end_line end))
    ∙ fall_read s.from (timed s.to (codes "1") ++ 10 ∷ more) number from (let b = by.0 in let w = wave.1 in omega arith) wave.0
    ∙ ap (with_edge (record { at = s.from; low = true })) (
    rise_read s.to more (number + 1) (s.from + 1) (let b = by.0 in omega arith) (let w = wave.1 in omega arith)
    ∙ ap (with_edge (record { at = s.to; low = false })) again)

-- ---- the line

-- a wave is high before it begins
later : (ss : List Stretch) (from u : ℕ) → IsWaveFrom from ss → u < from → line_of ss u ≡ false
later [] from u wave h = refl
later (s ∷ ss) from u wave h =
    let early : u < s.from = let w = wave.0 in omega arith in
    let rest = later ss (s.to + 1) u wave.2 (let w = wave.1 in omega arith) in
    let here : covers s u ≡ false = grind (arith, nat_tests) in
    rw here rest

at_or_after : (from u : ℕ) → nat_le from u ≡ not (nat_lt u from)
at_or_after from u = grind (arith, nat_tests)

pick : (a b l r : Bool) → l ≡ r → (a ≡ true → r ≡ false) → cond a false (cond b true l) ≡ ((not a && b) || r)
pick true b l r e early = sym (early refl)
pick false true l r e early = refl
pick false false l r e early = e

less : (u from : ℕ) → nat_lt u from ≡ true → u < from
less u from h = grind (arith, nat_tests)

pub same_line : EdgesTellWaves
same_line [] from u wave = refl
same_line (s ∷ ss) from u wave =
    let again = same_line ss (s.to + 1) u wave.2 in
    let early : nat_lt u s.from ≡ true → line_of ss u ≡ false = λ h.
    later ss (s.to + 1) u wave.2 (let w = wave.1 in let l = less u s.from h in omega arith) in
    rw (at_or_after s.from u) (pick (nat_lt u s.from) (nat_lt u s.to) (level_at false (edges_of ss) u) (line_of ss u) again early)

pub edge_files_are_read_back : EdgeFilesAreReadBack
edge_files_are_read_back ss end wave over low = record {
  file = read_back ss end 1 0 wave (ends_by ss 0 end wave over) (omega arith) low;
  line = λ u. same_line ss 0 u wave;
}

-- the pulses and pulls of a script are over by the latest instant
pub over_by_script : ScriptsAreOver
over_by_script count course script = record {
  order = script.timely.order;
  ends = λ k p l early. (let from = script.early k p l in let width = script.wide k p l in omega (arith, from, width));
}

pub files_of_runs_have_their_readings : FilesOfRunsHaveTheirReadings
files_of_runs_have_their_readings tree pulses events end text totals over framed reported limit =
    let k = runs.edges_are_the_line tree pulses events end text totals over.order framed reported in
    let last = max end reported.run.last.net.close in
    let soon : reported.run.last.net.close ≤ latest_instant = runs_close_soon (Line Edges) tree pulses events latest_instant end reported.run.turns reported.run.body reported.run.last (omega (arith, limit)) over reported.run.leads in
    let back = edge_files_are_read_back _ last k.read.wave k.read.over (omega (arith, soon, limit)) in (
      record { edges = edges_of _; end = last },
      ap file_of k.whole ∙ back.file,
      ap (λ line. readings_of line last) (fun_ext back.line) ∙ k.read.readings,
    )

-- ---- beside the trace

pub lines_of_rounds : (os : List Outcome) → readings_text (map outcome_listed os) ≡ flat_map (λ (o : Outcome). reading_line o.reading) os
lines_of_rounds [] = refl
lines_of_rounds (o ∷ os) = ap (λ text. reading_line o.reading ++ text) (lines_of_rounds os)

pub lines_of_parts : (parts : List Part) → flat_map (λ (o : Outcome). reading_line o.reading) (flat_map part_rounds parts) ≡ flat_map part_monitored parts
lines_of_parts [] = refl
lines_of_parts (OfEvent at e before ∷ parts) = lines_of_parts parts
lines_of_parts (OfRound devices o ∷ parts) = ap (λ text. reading_line o.reading ++ text) (lines_of_parts parts)

pub monitors_report_traces : MonitorsReportTraces
monitors_report_traces topology script x y s t p q =
    let sound = scripts_are_sound q.plan.tree script q.course q.accepted.course_is in
    let file = files_of_runs_have_their_readings q.plan.tree q.course.pulses q.course.events q.course.end y t (over_by_script (length q.plan.tree) q.course sound) sound.framed q.line sound.limit in
    let one = texts_have_one_run Edges topology script x y s t p q in
    let made = traces_have_parts p.edid p.course.end (start (first_net p.plan.tree p.course.pulses) p.course.events) x s p.trace in (
      file.0,
      file.1,
      record {
        parts = made.parts;
        trace_is = made.whole;
        monitored_is = ap readings_text file.2 ∙ lines_of_rounds (rounds_of_line Edges topology script y t q)
            ∙ ap (flat_map (λ (o : Outcome). reading_line o.reading)) (sym one.1 ∙ made.rounds) ∙ lines_of_parts made.parts;
      },
    )
