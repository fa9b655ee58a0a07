-- A file that is read is its column, sampled.
use Rattle.std.proofs.Common.{◌≡◌, ℕ, ◌+◌, ◌*◌, ◌≤◌, not, Bool, true, false, nat_lt, if◌then◌else◌, List, [], ◌∷◌, ◌++◌, Option, Some, None, IfSome, Ok, Err, refl, sym, ap, subst, ◌∙◌, arith}
use Rattle.std.specs.Option.{option_to_list}
use Rattle.std.proofs.lemmas.Bool.Decides.{nat_tests}
use Rattle.std.proofs.lemmas.List.Splits.{slice_split_none}
use Rattle.line_wave.specs.declared.Edge.{Edge}
use Rattle.text_core.specs.Lines.{lines_of}
use Rattle.capture_core.specs.Edges.{Captured, EndBy, IsCapture}
use Rattle.capture_core.specs.Samples.{Level, Sample, rounded, samples_of}
use Rattle.capture_core.specs.Track.{Moved, differ, last_edge, track_move}
use Rattle.capture_core.specs.declared.track.Track.{Track}
use Rattle.capture_core.specs.Recording.{Records}
use Rattle.capture_core.specs.Onward.{Onward}
use Rattle.capture_core.proofs.Ends.{edge_by}
use Rattle.capture_core.proofs.Levels.{rounded_whole, sampled_so}
use Rattle.capture_core.proofs.Recording.{moved_at, records_capture, records_end, records_level, records_line, records_moved}
use Rattle.capture_core.specs.Reading.{Step, lines_read}
use Rattle.capture_core.proofs.Passing.{onward, without_word}
use Rattle.capture_csv.specs.Csv.{Stepped, csv_form, first_reader, column_of, column_read, edges_in, end_of, ends_after, with_row, moved_by, moved_to, named_read, or_first, row_of, since, since_by, took, took_by, word_at_fault}
use Rattle.capture_csv.specs.Level.{low_by}
use Rattle.capture_csv.specs.Sampling.{CsvFilesAreSampled, CsvLinesAreEarly, CsvLinesGoOn, end_by, level_reported, levels_of, rows_by, rows_in, rows_of}
use Rattle.capture_csv.specs.declared.column.Column.{Column}
use Rattle.capture_csv.specs.declared.row.Row.{Row}
use Rattle.capture_csv.specs.declared.row.Time.{Time}
use Rattle.capture_csv.specs.declared.reader.CsvReader.{CsvReader}

-- ---- a later end

ends_later : (end later : ℕ) (edges : List Edge) → end ≤ later → EndBy end edges → EndBy later edges
ends_later end later [] l h = tt
ends_later end later (e ∷ edges) l h = let k = h.0 in (omega arith, ends_later end later edges l h.1)

records_later : (t : Track) (edges : List Edge) (samples : List Sample) (end later : ℕ) → end ≤ later → Records t edges samples end → Records t edges samples later
records_later t edges samples end later l r = record {
  level = r.level;
  quiet = r.quiet;
  turn = r.turn;
  ends = ends_later end later edges l r.ends;
  late = let k = r.late in omega arith;
}

-- the end is not before the last row, and within the limit
after_row : (again : Bool) (at : ℕ) → at ≤ 2000000000000 → at ≤ ends_after again at
after_row true at h = omega arith
after_row false at h = omega arith

in_limit : (again : Bool) (at : ℕ) → at ≤ 2000000000000 → ends_after again at ≤ 2000000000000
in_limit true at h = h
in_limit false at h = omega arith

-- ---- a row

-- it is led on, by a level
record Goes (old : CsvReader) (step : Step CsvReader) (first : Time) (l : Level) : Type 0 where
  first_is : step.state.first ≡ Some first
  column : step.state.column ≡ old.column
  is_low : step.state.is_low ≡ l.low
  is_again : step.state.is_again ≡ not (differ l.low old.is_low)
  at : step.state.track.at ≡ rounded l.since
  early : step.state.track.at ≤ 2000000000000
  more : (edges : List Edge) (samples : List Sample) (end : ℕ) → Records step.state.track edges samples end
      → Records old.track (option_to_list step.edge ++ edges) (record { at = rounded l.since; low = l.low } ∷ samples) end

-- a row led on has a level
record GoesOn (old : CsvReader) (step : Step CsvReader) (row : Row) : Type 0 where
  nanos : ℕ
  reported : since (or_first old.first row.time) row.time ≡ Some nanos
  goes : Goes old step (or_first old.first row.time) (record { since = nanos; low = low_by row.said old.is_low })

abbrev GoesBy : CsvReader → Stepped → Row → Type 0
GoesBy old (Err c) row = Unit {0}
GoesBy old (Ok step) row = GoesOn old step row

row_goes : (r : CsvReader) (row : Row) → GoesBy r (with_row row r) row
row_goes r row = by (since (or_first r.first row.time) row.time) refl
  where
    moves : (nanos : ℕ) → since (or_first r.first row.time) row.time ≡ Some nanos → nanos ≤ 2000000000000000 → (o : Option Moved) → track_move (rounded nanos) r.track ≡ o
        → GoesBy r (moved_by (or_first r.first row.time) o (low_by row.said r.is_low) r) row
    moves nanos reported small None h = tt
    moves nanos reported small (Some m) h =
        let at = moved_at (rounded nanos) r.track m h in
        record {
          nanos = nanos;
          reported = reported;
          goes = record {
            first_is = refl;
            column = refl;
            is_low = refl;
            is_again = refl;
            at = at;
            early = omega arith;
            more = λ edges samples end k.
                records_moved (rounded nanos) r.track m edges (record { at = rounded nanos; low = low_by row.said r.is_low } ∷ samples) end h
                (subst (λ n. Records m.track edges (record { at = n; low = low_by row.said r.is_low } ∷ samples) end) at (records_level m.track (low_by row.said r.is_low) edges samples end k));
          };
        }

    late : (nanos : ℕ) → since (or_first r.first row.time) row.time ≡ Some nanos → (c : Bool) → nat_lt 2000000000000000 nanos ≡ c
        → GoesBy r (moved_to (or_first r.first row.time) (if c then None else Some (rounded nanos)) (low_by row.said r.is_low) r) row
    late nanos reported true h = tt
    late nanos reported false h = moves nanos reported (grind (arith, nat_tests)) (track_move (rounded nanos) r.track) refl

    by : (o : Option ℕ) → since (or_first r.first row.time) row.time ≡ o → GoesBy r (since_by (or_first r.first row.time) o (low_by row.said r.is_low) r) row
    by None h = tt
    by (Some nanos) h = late nanos h (nat_lt 2000000000000000 nanos) refl

-- ---- a file

-- what is read from a reader on, whose last row was at this time
record Ran (r : CsvReader) (e : Captured) (time : ℕ) (rows : List Row) : Type 0 where
  records : Records r.track e.edges (samples_of (levels_of r.first r.is_low rows)) e.end
  end : e.end ≡ end_by time r.is_low r.is_again (levels_of r.first r.is_low rows)
  early : e.end ≤ 2000000000000

run_more : (r : CsvReader) (step : Step CsvReader) (e f : Captured) (time : ℕ) (row : Row) (rows : List Row) → (g : GoesOn r step row) → Ran step.state f g.nanos rows
    → e ≡ record { edges = option_to_list step.edge ++ f.edges; end = f.end } → Ran r e time (row ∷ rows)
run_more r step e f time row rows g ran is =
    let first = or_first r.first row.time in
    let low = low_by row.said r.is_low in
    let l : Level = record { since = g.nanos; low = low } in
    let levels : levels_of r.first r.is_low (row ∷ rows) ≡ l ∷ levels_of (Some first) low rows = ap (λ o. option_to_list (level_reported o low) ++ levels_of (Some first) low rows) g.reported in
    subst (λ (e : Captured). Ran r e time (row ∷ rows)) (sym is) (record {
      records = subst (λ (ls : List Level). Records r.track (option_to_list step.edge ++ f.edges) (samples_of ls) f.end) (sym levels)
          (g.goes.more f.edges (samples_of (levels_of (Some first) low rows)) f.end
          (subst (λ b. Records step.state.track f.edges (samples_of (levels_of (Some first) b rows)) f.end) g.goes.is_low
          (subst (λ o. Records step.state.track f.edges (samples_of (levels_of o step.state.is_low rows)) f.end) g.goes.first_is ran.records)));
      end = ran.end ∙ ap (λ o. end_by g.nanos step.state.is_low step.state.is_again (levels_of o step.state.is_low rows)) g.goes.first_is
          ∙ ap (λ b. end_by g.nanos b step.state.is_again (levels_of (Some first) b rows)) g.goes.is_low
          ∙ ap (λ b. end_by g.nanos low b (levels_of (Some first) low rows)) g.goes.is_again
          ∙ sym (ap (end_by time r.is_low r.is_again) levels);
      early = ran.early;
    })

lines_ran : (number : ℕ) (lines : List (List ℕ)) (r : CsvReader) (e : Captured) (time : ℕ) → r.track.at ≡ rounded time → r.track.at ≤ 2000000000000 → lines_read csv_form number lines r ≡ Ok e
    → Ran r e time (rows_in r.column lines)
lines_ran number [] r e time at early h =
    let is : record { edges = option_to_list (last_edge r.track); end = end_of r } ≡ e = cc in
    subst (λ (e : Captured). Ran r e time []) is (record {
      records = records_later r.track (option_to_list (last_edge r.track)) [] r.track.at (end_of r) (after_row r.is_again r.track.at early) (records_end r.track);
      end = ap (ends_after r.is_again) at;
      early = in_limit r.is_again r.track.at early;
    })
lines_ran number (line ∷ lines) r e time at early h =
    let o = onward csv_form number line lines r e (slice_split_none (λ b. false) line (λ k d h. refl)) h in
    by (row_of r.column line) o (without_word (word_at_fault r.column line) (took line r) o.step o.took)
    (λ s f t a l k. lines_ran (number + 1) lines s f t a l k)
  where
    row_on : (row : Row) (o : Onward CsvReader csv_form number line lines r e) → GoesOn r o.step row
        → ((s : CsvReader) (f : Captured) (t : ℕ) → s.track.at ≡ rounded t → s.track.at ≤ 2000000000000 → lines_read csv_form (number + 1) lines s ≡ Ok f → Ran s f t (rows_in s.column lines))
        → Ran r e time (row ∷ rows_in r.column lines)
    row_on row o g ih =
        let ran = ih o.step.state o.rest g.nanos g.goes.at g.goes.early o.read in
        run_more r o.step e o.rest time row (rows_in r.column lines) g (subst (λ c. Ran o.step.state o.rest g.nanos (rows_in c lines)) g.goes.column ran) o.is

    by : (row : Option Row) (o : Onward CsvReader csv_form number line lines r e) → took_by row r ≡ Ok o.step
        → ((s : CsvReader) (f : Captured) (t : ℕ) → s.track.at ≡ rounded t → s.track.at ≤ 2000000000000 → lines_read csv_form (number + 1) lines s ≡ Ok f → Ran s f t (rows_in s.column lines))
        → Ran r e time (option_to_list row ++ rows_in r.column lines)
    by None o stepped ih = cc
    by (Some row) o stepped ih = row_on row o (subst (λ (st : Stepped). GoesBy r st row) stepped (row_goes r row)) ih

column_ran : (o : Option Column) (lines : List (List ℕ)) (e : Captured) → column_read o lines ≡ Ok e → (column : Column) × Ran (first_reader column) e 0 (rows_by o lines)
column_ran None lines e h = cc
column_ran (Some column) lines e h = (column, lines_ran 2 lines (first_reader column) e 0 refl (omega arith) h)

named_ran : (signal : List ℕ) (lines : List (List ℕ)) (e : Captured) → named_read signal lines ≡ Ok e → (column : Column) × Ran (first_reader column) e 0 (rows_of signal lines)
named_ran signal [] e h = cc
named_ran signal (line ∷ lines) e h = column_ran (column_of signal line) lines e h

pub csv_files_are_sampled : CsvFilesAreSampled
csv_files_are_sampled signal text e h =
    let ran = (named_ran signal (lines_of text) e h).1 in
    let ls = levels_of None false (rows_of signal (lines_of text)) in
    record {
      line = λ u. records_line e.edges (samples_of ls) e.end ran.records u ∙ sampled_so false ls u;
      end = ran.end;
      capture = records_capture e.edges (samples_of ls) e.end ran.early ran.records;
    }

pub read_is_capture : (signal text : List ℕ) (e : Captured) → edges_in signal text ≡ Ok e → IsCapture e.edges e.end
read_is_capture signal text e h = let s = csv_files_are_sampled signal text e h in s.capture

-- ---- line by line

pub csv_lines_go_on : CsvLinesGoOn
csv_lines_go_on number lines r e early h =
    let ran = lines_ran number lines r e (r.track.at * 1000) (rounded_whole r.track.at) early h in
    (ran.records.turn, ran.records.ends, ran.records.late, ran.early)

pub csv_lines_are_early : CsvLinesAreEarly
csv_lines_are_early line r step early h = by (row_of r.column line) h
  where
    by : (row : Option Row) → took_by row r ≡ Ok step → (step.state.track.at ≤ 2000000000000) × IfSome step.edge (λ e. e.at ≤ 2000000000000)
    by None h = cc
    by (Some row) h =
        let g : GoesOn r step row = subst (λ (st : Stepped). GoesBy r st row) h (row_goes r row) in
        let last = option_to_list (last_edge step.state.track) in
        let all = g.goes.more last [] step.state.track.at (records_end step.state.track) in
        (g.goes.early, edge_by step.edge last step.state.track.at 2000000000000 all.ends g.goes.early)
