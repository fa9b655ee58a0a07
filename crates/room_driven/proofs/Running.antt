-- What the drives have heard of a run is the text of its drives, or its front.
use Rattle.std.proofs.Common.{◌≡◌, ◌∙◌, ℕ, Bool, true, max, List, [], ◌∷◌, ◌++◌, length, ap, sym, refl, subst, append_assoc}
use Rattle.std.specs.List.{flat_map}
use Rattle.room_script.specs.declared.script.TimedEvent.{TimedEvent}
use Rattle.capture_vcd.specs.Text.{last}
use Rattle.capture_wires.specs.Wires.{head}
use Rattle.capture_forms.specs.declared.form.CaptureForm.TheVariants.{Vcd}
use Rattle.room_run.specs.declared.run.Reporting.TheVariants.{Line}
use Rattle.room_run.specs.declared.run.Totals.{Totals}
use Rattle.room_run.specs.declared.run.Turn.{Turn}
use Rattle.room_run.specs.declared.run.Turn.TheVariants.{Stop, Apply, Round}
use Rattle.room_run.specs.Run.{Config, turn_at, IsEventTurn}
use Rattle.room_run.specs.Happening.{Happening, HappensBy, Goes, line_of_turn}
use Rattle.room_run.specs.Turns.{IsTold}
use Rattle.room_driven.specs.Driven.{names_of, drives_of_turn, IsDrivenBy, Drives, IsDriven}
use Rattle.room_driven.proofs.Turns.{front_of_text, whole_text}

driven_by : (turn : Turn) (c : Config) (x : Happening) (d : Config) → HappensBy turn c x d → IsDrivenBy turn c (line_of_turn Vcd x) (drives_of_turn x) d
driven_by Stop c x d h = absurd h
driven_by (Apply at) c x d h =
    (subst (λ (es : List TimedEvent). IsEventTurn (Line Vcd) at es c (line_of_turn Vcd x) d) (sym h.next) (ap (line_of_turn Vcd) h.is, h.after), ap drives_of_turn h.is)
driven_by (Round begin) c x d h =
    (record { outcome = h.outcome; wave = h.wave; next = h.next; reported = ap (line_of_turn Vcd) h.is; totals = h.totals }, h.events, ap drives_of_turn h.is)

drives_of : (end : ℕ) (xs : List Happening) (c d : Config) → Goes end c xs d → Drives end (length xs) c (flat_map (line_of_turn Vcd) xs) (flat_map drives_of_turn xs) d
drives_of end [] c d goes = (refl, refl, goes)
drives_of end (x ∷ xs) c d (mid, step, goes) = (
  mid,
  line_of_turn Vcd x,
  flat_map (line_of_turn Vcd) xs,
  drives_of_turn x,
  flat_map drives_of_turn xs,
  driven_by (turn_at end c) c x mid step,
  drives_of end xs mid d goes,
  refl,
  refl,
)

pub drives_told : (end : ℕ) (c at_end : Config) (xs : List Happening) (totals : Totals) (goes_on : Bool) → (goes_on ≡ true → turn_at end at_end ≡ Stop) → Goes end c xs at_end → totals ≡ at_end.totals
    → IsTold (IsDriven end c) (head (names_of c.net.devices)) (flat_map drives_of_turn xs) (last (max end at_end.net.close)) totals goes_on
drives_told end c at_end xs totals goes_on stops goes same =
    let first = head (names_of c.net.devices) in
    let line = flat_map (line_of_turn Vcd) xs in
    let body = flat_map drives_of_turn xs in
    let tail = last (max end at_end.net.close) in
    let drives = drives_of end xs c at_end goes in
    record {
      whole = λ on. record {
        rest = body ++ tail;
        run = record { turns = length xs; at_end = at_end; line = line; body = body; drives = drives; stops = stops on; whole = refl; counts = same };
        whole = refl;
      };
      front = λ text t w. (
          let go = front_of_text end (length xs) c at_end line body w.rest t drives w.run in
          (go.0, w.whole ∙ ap (λ (r : List ℕ). first ++ r) go.1 ∙ sym (append_assoc first body go.0))
          );
      same = λ on text t w. (
          let go = whole_text end (length xs) c at_end line body w.rest t drives (stops on) w.run in
          w.whole ∙ ap (λ (r : List ℕ). first ++ r) go.0 ∙ sym (append_assoc first body tail)
          );
    }
