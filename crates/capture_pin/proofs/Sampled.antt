-- A pin file that is read is its line, sampled.
use Rattle.std.proofs.Common.{◌≡◌, ℕ, ◌+◌, ◌-◌, ◌*◌, ◌≤◌, Bool, true, false, nat_lt, if◌then◌else◌, List, [], ◌∷◌, ◌++◌, Option, Some, None, Ok, Err, refl, sym, ap, subst, ◌∙◌, arith}
use Rattle.std.specs.Option.{option_to_list}
use Rattle.std.proofs.lemmas.Bool.Decides.{nat_tests}
use Rattle.std.proofs.lemmas.List.Splits.{slice_split_none}
use Rattle.line_wave.specs.declared.Edge.{Edge}
use Rattle.text_core.specs.Lines.{lines_of, is_skipped}
use Rattle.capture_core.specs.Edges.{Captured, IsCapture}
use Rattle.capture_core.specs.Samples.{Level, Sample, rounded, samples_of}
use Rattle.capture_core.specs.Track.{Moved, last_edge, track_move}
use Rattle.capture_core.specs.declared.track.Track.{Track}
use Rattle.capture_core.specs.Recording.{Records}
use Rattle.capture_core.proofs.Ends.{edge_by}
use Rattle.capture_core.proofs.Levels.{rounded_whole, samples_both, sampled_so}
use Rattle.capture_core.proofs.Recording.{moved_at, records_capture, records_end, records_level, records_line, records_moved}
use Rattle.capture_core.specs.Reading.{Step, lines_read}
use Rattle.capture_core.proofs.Passing.{onward, without_word}
use Rattle.capture_pin.specs.Pin.{Stepped, first_reader, edges_in, event_by_start, event_of, after_event, track_with_level, moved_by, moved_to, pin_form, reader_with_start, start_in_comment, took, word_at_fault}
use Rattle.capture_pin.specs.Sampling.{PinFilesAreSampled, PinLinesAreEarly, PinLinesGoOn, event_in, last_time, level_by, level_reported, levels_in, or_start, start_after, time_by}
use Rattle.capture_pin.specs.declared.line.PinEvent.{PinEvent}
use Rattle.capture_pin.specs.declared.reader.PinReader.{PinReader}

-- ---- a line

-- it is led on: from a start, at a time, with a level or none
record Goes (old : Track) (step : Step PinReader) (start time : ℕ) (level : Option Level) : Type 0 where
  start_is : step.state.start ≡ start
  at : step.state.track.at ≡ rounded time
  early : step.state.track.at ≤ 2000000000000
  more : (edges : List Edge) (samples : List Sample) (end : ℕ) → Records step.state.track edges samples end
      → Records old (option_to_list step.edge ++ edges) (samples_of (option_to_list level) ++ samples) end

abbrev GoesBy : Track → Stepped → ℕ → ℕ → Option Level → Type 0
GoesBy old (Err c) start time level = Unit {0}
GoesBy old (Ok step) start time level = Goes old step start time level

event_goes : (r : PinReader) (e : PinEvent) → GoesBy r.track (after_event (Some e) r) r.start (e.nanos - r.start) (level_reported (e.nanos - r.start) e.low)
event_goes r e = by (nat_lt e.nanos r.start)
  where
    reported : (low : Option Bool) (m : Moved) → track_move (rounded (e.nanos - r.start)) r.track ≡ Some m → e.nanos - r.start ≤ 2000000000000000
        → Goes r.track (record { state = record { start = r.start; track = track_with_level low m.track }; edge = m.edge }) r.start (e.nanos - r.start) (level_reported (e.nanos - r.start) low)
    reported None m h small =
        let at = moved_at (rounded (e.nanos - r.start)) r.track m h in
        record {
          start_is = refl;
          at = at;
          early = omega arith;
          more = λ edges samples end k. records_moved (rounded (e.nanos - r.start)) r.track m edges samples end h k;
        }
    reported (Some low) m h small =
        let at = moved_at (rounded (e.nanos - r.start)) r.track m h in
        record {
          start_is = refl;
          at = at;
          early = omega arith;
          more = λ edges samples end k.
              records_moved (rounded (e.nanos - r.start)) r.track m edges (record { at = rounded (e.nanos - r.start); low = low } ∷ samples) end h
              (subst (λ n. Records m.track edges (record { at = n; low = low } ∷ samples) end) at (records_level m.track low edges samples end k));
        }

    moves : (o : Option Moved) → track_move (rounded (e.nanos - r.start)) r.track ≡ o → e.nanos - r.start ≤ 2000000000000000
        → GoesBy r.track (moved_by o e.low r) r.start (e.nanos - r.start) (level_reported (e.nanos - r.start) e.low)
    moves None h small = tt
    moves (Some m) h small = reported e.low m h small

    late : (c : Bool) → nat_lt 2000000000000000 (e.nanos - r.start) ≡ c
        → GoesBy r.track (moved_to (if c then None else Some (rounded (e.nanos - r.start))) e.low r) r.start (e.nanos - r.start) (level_reported (e.nanos - r.start) e.low)
    late true h = tt
    late false h = moves (track_move (rounded (e.nanos - r.start)) r.track) refl (grind (arith, nat_tests))

    by : (c : Bool) → GoesBy r.track (event_by_start c e r) r.start (e.nanos - r.start) (level_reported (e.nanos - r.start) e.low)
    by true = tt
    by false = late (nat_lt 2000000000000000 (e.nanos - r.start)) refl

line_goes : (r : PinReader) (line : List ℕ) (time : ℕ) → r.track.at ≡ rounded time → r.track.at ≤ 2000000000000
    → GoesBy r.track (took line r) (start_after line r.start) (time_by r.start (event_in line) time) (level_by r.start (event_in line))
line_goes r line time at early = by (is_skipped line)
  where
    comment : (o : Option ℕ) → GoesBy r.track (Ok (record { state = reader_with_start o r; edge = None })) (or_start o r.start) time None
    comment None = record { start_is = refl; at = at; early = early; more = λ edges samples end k. k }
    comment (Some n) = record { start_is = refl; at = at; early = early; more = λ edges samples end k. k }

    event : (o : Option PinEvent) → GoesBy r.track (after_event o r) r.start (time_by r.start o time) (level_by r.start o)
    event None = tt
    event (Some e) = event_goes r e

    by : (c : Bool)
        → GoesBy r.track (if c then Ok (record { state = reader_with_start (start_in_comment line) r; edge = None }) else after_event (event_of line) r) (if c then or_start (start_in_comment line) r.start else r.start)
        (time_by r.start (if c then None else event_of line) time) (level_by r.start (if c then None else event_of line))
    by true = comment (start_in_comment line)
    by false = event (event_of line)

-- ---- a file

record Ran (r : PinReader) (e : Captured) (time : ℕ) (lines : List (List ℕ)) : Type 0 where
  records : Records r.track e.edges (samples_of (levels_in r.start lines)) e.end
  end : e.end ≡ rounded (last_time time r.start lines)
  early : e.end ≤ 2000000000000

run_more : (r : PinReader) (step : Step PinReader) (e f : Captured) (time : ℕ) (line : List ℕ) (lines : List (List ℕ))
    → Goes r.track step (start_after line r.start) (time_by r.start (event_in line) time) (level_by r.start (event_in line))
    → Ran step.state f (time_by r.start (event_in line) time) lines → e ≡ record { edges = option_to_list step.edge ++ f.edges; end = f.end } → Ran r e time (line ∷ lines)
run_more r step e f time line lines g ran is =
    subst (λ (e : Captured). Ran r e time (line ∷ lines)) (sym is) (record {
      records = rw (samples_both (option_to_list (level_by r.start (event_in line))) (levels_in (start_after line r.start) lines))
          (g.more f.edges (samples_of (levels_in (start_after line r.start) lines)) f.end
          (subst (λ n. Records step.state.track f.edges (samples_of (levels_in n lines)) f.end) g.start_is ran.records));
      end = ran.end ∙ ap (λ n. rounded (last_time (time_by r.start (event_in line) time) n lines)) g.start_is;
      early = ran.early;
    })

lines_ran : (number : ℕ) (lines : List (List ℕ)) (r : PinReader) (e : Captured) (time : ℕ) → r.track.at ≡ rounded time → r.track.at ≤ 2000000000000 → lines_read pin_form number lines r ≡ Ok e → Ran r e time lines
lines_ran number [] r e time at early h =
    let is : record { edges = option_to_list (last_edge r.track); end = r.track.at } ≡ e = cc in
    subst (λ (e : Captured). Ran r e time []) is (record { records = records_end r.track; end = at; early = early })
lines_ran number (line ∷ lines) r e time at early h =
    let o = onward pin_form number line lines r e (slice_split_none (λ b. false) line (λ k d h. refl)) h in
    let stepped : took line r ≡ Ok o.step = without_word (word_at_fault line) (took line r) o.step o.took in
    let g : Goes r.track o.step (start_after line r.start) (time_by r.start (event_in line) time) (level_by r.start (event_in line)) =
    subst (λ (st : Stepped). GoesBy r.track st (start_after line r.start) (time_by r.start (event_in line) time) (level_by r.start (event_in line))) stepped (line_goes r line time at early) in
    run_more r o.step e o.rest time line lines g (lines_ran (number + 1) lines o.step.state o.rest (time_by r.start (event_in line) time) g.at g.early o.read) o.is

pub pin_files_are_sampled : PinFilesAreSampled
pin_files_are_sampled text e h =
    let ran = lines_ran 1 (lines_of text) first_reader e 0 refl (omega arith) h in
    let ls = levels_in 0 (lines_of text) in
    record {
      line = λ u. records_line e.edges (samples_of ls) e.end ran.records u ∙ sampled_so false ls u;
      end = ran.end;
      capture = records_capture e.edges (samples_of ls) e.end ran.early ran.records;
    }

pub read_is_capture : (text : List ℕ) (e : Captured) → edges_in text ≡ Ok e → IsCapture e.edges e.end
read_is_capture text e h = let s = pin_files_are_sampled text e h in s.capture

-- ---- line by line

pub pin_lines_go_on : PinLinesGoOn
pin_lines_go_on number lines r e early h =
    let ran = lines_ran number lines r e (r.track.at * 1000) (rounded_whole r.track.at) early h in
    (ran.records.turn, ran.records.ends, ran.records.late, ran.early)

pub pin_lines_are_early : PinLinesAreEarly
pin_lines_are_early line r step early h =
    let time = r.track.at * 1000 in
    let g : Goes r.track step (start_after line r.start) (time_by r.start (event_in line) time) (level_by r.start (event_in line)) =
    subst (λ (st : Stepped). GoesBy r.track st (start_after line r.start) (time_by r.start (event_in line) time) (level_by r.start (event_in line))) h (line_goes r line time (rounded_whole r.track.at) early) in
    let last = option_to_list (last_edge step.state.track) in
    let all = g.more last [] step.state.track.at (records_end step.state.track) in
    (g.early, edge_by step.edge last step.state.track.at 2000000000000 all.ends g.early)
