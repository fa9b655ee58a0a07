-- The text of a run's line is that of its rounds.
use Rattle.std.proofs.Common.{◌≡◌, ℕ, zero, suc, List, [], ◌∷◌, ◌++◌, max, map, refl, sym, ap, ap₂, ◌∙◌, append-nil, append_assoc}
use Rattle.std.proofs.lemmas.Grind.{flat_map-append}
use Rattle.std.specs.List.{flat_map}
use Rattle.line_wave.specs.declared.Stretch.{Stretch}
use Rattle.line_rounds.specs.declared.Outcome.{Outcome}
use Rattle.room_net.specs.Line.{run_wave}
use Rattle.room_net.specs.State.{first_net}
use Rattle.room_script.specs.declared.script.TimedEvent.{TimedEvent}
use Rattle.capture_forms.specs.Format.{line_start, line_round, line_end}
use Rattle.capture_forms.specs.declared.form.CaptureForm.{CaptureForm}
use Rattle.capture_forms.specs.declared.form.CaptureForm.TheVariants.{Edges}
use Rattle.room_run.specs.declared.run.Reporting.TheVariants.{Line}
use Rattle.room_run.specs.declared.run.Turn.{Turn}
use Rattle.room_run.specs.declared.run.Turn.TheVariants.{Stop, Apply, Round}
use Rattle.capture_monitor.specs.EdgeText.{stretch_lines, edge_lines}
use Rattle.room_trace.specs.TraceText.{end_line}
use Rattle.room_run.specs.Run.{Config, start, turn_at, IsEventTurn, IsTurnBy, Leads}
use Rattle.room_run.specs.RunLine.{rounds_by, rounds_in, EdgesAreTheLine, LinesAreOfTheRounds}
use Rattle.room_run.proofs.Lines.{runs_read}

-- the waves of rounds
abbrev waves : List Outcome → List (List Stretch)
waves os = map (λ o. o.wave) os

-- what is reported of the rounds of two parts of a run
two_parts : (f : List Stretch → List ℕ) (xs ys : List Outcome) → flat_map f (waves (xs ++ ys)) ≡ flat_map f (waves xs) ++ flat_map f (waves ys)
two_parts f [] ys = refl
two_parts f (x ∷ xs) ys = ap (λ l. f x.wave ++ l) (two_parts f xs ys) ∙ sym (append_assoc (f x.wave) (flat_map f (waves xs)) (flat_map f (waves ys)))

-- of an event nothing is reported
no_text : (format : CaptureForm) (at : ℕ) (events : List TimedEvent) (c d : Config) (text : List ℕ) → IsEventTurn (Line format) at events c text d → text ≡ []
no_text format at [] c d text t = t.0
no_text format at (e ∷ events) c d text t = t.0

line_by : (format : CaptureForm) (turn : Turn) (c d : Config) (text : List ℕ) (t : IsTurnBy (Line format) turn c text d)
    → text ≡ flat_map (line_round format) (waves (rounds_by (Line format) turn c text d t))
line_by format Stop c d text t = absurd t
line_by format (Apply at) c d text t = no_text format at c.events c d text t
line_by format (Round begin) c d text t = t.0.reported ∙ sym (append-nil (line_round format t.0.outcome.wave))

line_in : (format : CaptureForm) (end turns : ℕ) (c d : Config) (text : List ℕ) (l : Leads (Line format) end turns c text d)
    → text ≡ flat_map (line_round format) (waves (rounds_in (Line format) end turns c text d l))
line_in format end zero c d text l = l.0
line_in format end (suc turns) c d text l =
    l.5 ∙ ap₂ (λ a b. a ++ b) (line_by format (turn_at end c) c l.0 l.1 l.3) (line_in format end turns l.0 d l.2 l.4)
    ∙ sym (two_parts (line_round format) (rounds_by (Line format) (turn_at end c) c l.1 l.0 l.3) (rounds_in (Line format) end turns l.0 l.2 d l.4))

pub lines_are_of_the_rounds : LinesAreOfTheRounds
lines_are_of_the_rounds format tree pulses events end text totals order framed reported = record {
  read = runs_read (Line format) tree pulses events end reported.run.turns reported.run.body reported.run.last order framed reported.run.leads;
  whole = reported.whole ∙ ap (λ b. line_start format ++ b) (reported.run.whole ∙ ap (λ b. b ++ line_end format (max end reported.run.last.net.close))
      (line_in format end reported.run.turns (start (first_net tree pulses) events) reported.run.last reported.run.body reported.run.leads));
}

-- the edges of rounds are those of the line that they make
edges_of_waves : (os : List Outcome) → flat_map edge_lines (waves os) ≡ edge_lines (run_wave os)
edges_of_waves [] = refl
edges_of_waves (o ∷ os) = ap (λ l. edge_lines o.wave ++ l) (edges_of_waves os) ∙ sym (flat_map-append stretch_lines o.wave (run_wave os))

pub edges_are_the_line : EdgesAreTheLine
edges_are_the_line tree pulses events end text totals order framed reported =
    let all = lines_are_of_the_rounds Edges tree pulses events end text totals order framed reported in
    record {
      read = all.read;
      whole = all.whole ∙ ap (λ b. b ++ end_line (max end reported.run.last.net.close)) (edges_of_waves
          (rounds_in (Line Edges) end reported.run.turns (start (first_net tree pulses) events) reported.run.body reported.run.last reported.run.leads));
    }
