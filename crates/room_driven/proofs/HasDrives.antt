-- Each run has a text of its drives, as it has one of its line.
use Rattle.std.proofs.Common.{ℕ, zero, suc, max, List, [], ◌++◌, refl}
use Rattle.room_net.specs.State.{first_net}
use Rattle.room_net.specs.Step.{seats_of}
use Rattle.capture_vcd.specs.Text.{last}
use Rattle.capture_wires.specs.Wires.{head}
use Rattle.capture_forms.specs.declared.form.CaptureForm.TheVariants.{Vcd}
use Rattle.room_run.specs.declared.run.Reporting.TheVariants.{Line}
use Rattle.room_run.specs.declared.run.Totals.{Totals}
use Rattle.room_run.specs.declared.run.Turn.{Turn}
use Rattle.room_run.specs.declared.run.Turn.TheVariants.{Stop, Apply, Round}
use Rattle.room_run.specs.Run.{Config, start, turn_at, IsTurnBy, Leads, IsRunTextFrom}
use Rattle.room_run.proofs.HasRun.{runs_have_texts}
use Rattle.room_driven.specs.Driven.{names_of, round_drives, IsDrivenBy, Drives, IsDriven, IsDrivenFrom, RunsHaveDrives}

driven_by : (turn : Turn) (c d : Config) (line : List ℕ) → IsTurnBy (Line Vcd) turn c line d → (text : List ℕ) × IsDrivenBy turn c line text d
driven_by Stop c d line t = absurd t
driven_by (Apply at) c d line t = ([], (t, refl))
driven_by (Round begin) c d line t = (round_drives (seats_of c.net begin) begin c.net.pulses t.0.outcome, (t.0, t.1, refl))

driven_turns : (end n : ℕ) (c d : Config) (line : List ℕ) → Leads (Line Vcd) end n c line d → (text : List ℕ) × Drives end n c line text d
driven_turns end zero c d line l = ([], (l.0, refl, l.1))
driven_turns end (suc n) c d line (mid, reported, rest, turn, after, e) =
    let one = driven_by (turn_at end c) c mid reported turn in
    let others = driven_turns end n mid d rest after in
    (one.0 ++ others.0, (mid, reported, rest, one.0, others.0, one.1, others.1, e, refl))

driven_from : (end : ℕ) (c : Config) (line : List ℕ) (totals : Totals) → IsRunTextFrom (Line Vcd) end c line totals → (text : List ℕ) × IsDrivenFrom end c text totals
driven_from end c line totals w =
    let all = driven_turns end w.turns c w.last w.body w.leads in (
      all.0 ++ last (max end w.last.net.close),
      record {
        turns = w.turns;
        at_end = w.last;
        line = w.body;
        body = all.0;
        drives = all.1;
        stops = w.stops;
        whole = refl;
        counts = w.counts;
      },
    )

pub runs_have_drives : RunsHaveDrives
runs_have_drives tree pulses events end order =
    let line = runs_have_texts (Line Vcd) tree pulses events end order in
    let c = start (first_net tree pulses) events in
    let rest = driven_from end c line.2.rest line.1 line.2.run in
    (head (names_of c.net.devices) ++ rest.0, line.1, record { rest = rest.0; run = rest.1; whole = refl })
