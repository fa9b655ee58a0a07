-- A line that is taken, before those that are left.
use Rattle.std.proofs.Common.{◌≡◌, ℕ, ◌+◌, ◌≤◌, Bool, true, false, nat_le, if◌then◌else◌, List, [], ◌∷◌, ◌++◌, Option, Some, None, IfSome, Result, Ok, Err, refl, sym, ap, subst, ◌∙◌, append_assoc, arith}
use Rattle.std.specs.Option.{option_to_list}
use Rattle.std.specs.List.{slice_split}
use Rattle.std.proofs.lemmas.List.Splits.{slice_split_none}
use Rattle.line_wave.specs.declared.Edge.{Edge as EdgeOf}
use Rattle.line_wave.specs.Bounds.{latest_instant}
use Rattle.text_core.specs.Lines.{is_skipped}
use Rattle.text_core.specs.At.{at_line}
use Rattle.text_core.specs.declared.at.At.{At}
use Rattle.text_core.specs.declared.at.AtWord.{AtWord}
use Rattle.capture_core.specs.Edges.{AreInTurn, Captured, EndBy}
use Rattle.capture_core.specs.Track.{last_edge}
use Rattle.capture_core.specs.Reading.{end_read as end_of_lines}
use Rattle.capture_core.specs.declared.fault.Cause.{Cause}
use Rattle.capture_core.specs.Reading.{Step, Takes, lines_read, read_on, with_edges, word_read, words_read}
use Rattle.capture_core.proofs.Passing.{alone, without_word}
use Rattle.capture_pin.specs.Pin.{pin_form, took, word_at_fault}
use Rattle.capture_pin.specs.Sampling.{PinLinesAreEarly, PinLinesGoOn}
use Rattle.capture_pin.specs.declared.reader.PinReader.{PinReader}
use Rattle.capture_monitor.specs.EdgeFile.{EdgeFile, EdgeLinesGoOn, edge_line_of, edges_read, end_read, is_in_turn, read_line, with_edge, word_past}
use Rattle.capture_monitor.specs.declared.edge_file.EdgeFault.{EdgeFault}
use Rattle.capture_monitor.specs.declared.edge_file.EdgeFault.TheVariants as fault
use Rattle.capture_monitor.specs.declared.edge_file.EdgeLine.{EdgeLine}
use Rattle.capture_monitor.specs.declared.edge_file.EdgeLine.TheVariants.{Edge, End}
use Rattle.capture_forms.specs.Captures.{of_edges}
use Rattle.capture_csv.specs.Csv.{column_of, column_read, csv_form, named_read}
use Rattle.capture_csv.specs.Csv.{first_reader as first_rows, took as row_took, word_at_fault as row_at_fault}
use Rattle.capture_csv.specs.Sampling.{CsvLinesAreEarly, CsvLinesGoOn}
use Rattle.capture_csv.specs.declared.column.Column.{Column}
use Rattle.capture_csv.specs.declared.reader.CsvReader.{CsvReader}
use Rattle.follow_core.specs.Lines.{EndsLines, IsEarly, TakesLine, after_line, after_said, file_left, from_by, from_of, lines_left, names_left, rows_by, rows_left, took_line}
use Rattle.follow_core.specs.declared.edge_lines.EdgeReader.{EdgeReader}
use Rattle.follow_core.specs.declared.lines.CaptureLines.{CaptureLines}
use Rattle.follow_core.specs.declared.lines.CaptureLines.TheVariants.{File, Pin, Names, Rows}

-- ---- edges before what is left

pub with_none : (r : Result Captured (At Cause)) → r ≡ with_edges [] r
with_none (Ok e) = refl
with_none (Err f) = refl

pub both : (a b : List EdgeOf) (r : Result Captured (At Cause)) → with_edges a (with_edges b r) ≡ with_edges (a ++ b) r
both a b (Ok e) = ap (λ es. Ok (record { edges = es; end = e.end })) (sym (append_assoc a b e.edges))
both a b (Err f) = refl

one_more : (x : EdgeOf) (r : Result EdgeFile EdgeFault) → of_edges (with_edge x r) ≡ with_edges (x ∷ []) (of_edges r)
one_more x (Ok f) = refl
one_more x (Err f) = refl

-- a line without a gap is one word
whole : (line : List ℕ) → slice_split (λ b. false) line ≡ line ∷ []
whole line = slice_split_none (λ b. false) line (λ k d h. refl)

-- ---- an edge file

-- what a step leads to, before what is left
abbrev Leads : EdgeReader → ℕ → List ℕ → Result (Step EdgeReader) (At Cause) → Type 0
Leads e number line (Ok step) = (rest : List (List ℕ)) → lines_left [] (File e) number (line ∷ rest) ≡ with_edges (option_to_list step.edge) (lines_left [] (File step.state) (number + 1) rest)
Leads e number line (Err f) = (rest : List (List ℕ)) → lines_left [] (File e) number (line ∷ rest) ≡ Err f

-- a line that is not skipped
said_left : (e : EdgeReader) (number : ℕ) (line : List ℕ) (said : Result EdgeLine ℕ) → is_skipped line ≡ false → e.end ≡ None → edge_line_of line ≡ said → Leads e number line (after_said number said e)
said_left e number line said other still is = by said is
  where
    reads : (rest : List (List ℕ)) (o : Result EdgeLine ℕ) → edge_line_of line ≡ o
        → lines_left [] (File e) number (line ∷ rest) ≡ of_edges (read_line number e.is_low e.from o (λ x. edges_read rest (number + 1) x.low (x.at + 1)) (λ t. end_read rest (number + 1) t))
    reads rest o says =
        ap (λ end. of_edges (file_left end e number (line ∷ rest))) still
        ∙ ap (λ b. of_edges (if b then edges_read rest (number + 1) e.is_low e.from
        else read_line number e.is_low e.from (edge_line_of line) (λ x. edges_read rest (number + 1) x.low (x.at + 1)) (λ t. end_read rest (number + 1) t))) other
        ∙ ap (λ s. of_edges (read_line number e.is_low e.from s (λ x. edges_read rest (number + 1) x.low (x.at + 1)) (λ t. end_read rest (number + 1) t))) says

    by : (o : Result EdgeLine ℕ) → edge_line_of line ≡ o → Leads e number line (after_said number o e)
    by (Err word) says = λ rest. reads rest (Err word) says
    by (Ok (Edge x)) says = turn (is_in_turn e.is_low e.from x) refl
      where
        turn : (c : Bool) → is_in_turn e.is_low e.from x ≡ c → Leads e number line (after_said number (Ok (Edge x)) e)
        turn true h = rw h (λ rest. reads rest (Ok (Edge x)) says ∙ rw h (one_more x (edges_read rest (number + 1) x.low (x.at + 1))))
        turn false h = rw h (λ rest. reads rest (Ok (Edge x)) says ∙ rw h refl)
    by (Ok (End t)) says = reach (nat_le e.from (t + 1)) refl
      where
        reach : (c : Bool) → nat_le e.from (t + 1) ≡ c → Leads e number line (after_said number (Ok (End t)) e)
        reach true h = rw h (λ rest. reads rest (Ok (End t)) says ∙ rw h (with_none (of_edges (end_read rest (number + 1) t))))
        reach false h = rw h (λ rest. reads rest (Ok (End t)) says ∙ rw h refl)

past_left : (e : EdgeReader) (number : ℕ) (line : List ℕ) (end : ℕ) → is_skipped line ≡ false → e.end ≡ Some end → Leads e number line (after_line (Some end) number (edge_line_of line) e)
past_left e number line end other is = λ rest.
    ap (λ o. of_edges (file_left o e number (line ∷ rest))) is
    ∙ ap (λ b. of_edges (if b then end_read rest (number + 1) end else Err (fault.Line number (word_past (edge_line_of line))))) other

skipped_left : (e : EdgeReader) (number : ℕ) (line : List ℕ) → is_skipped line ≡ true → Leads e number line (Ok (record { state = e; edge = None }))
skipped_left e number line skips = λ rest. by rest e.end ∙ with_none (of_edges (file_left e.end e (number + 1) rest))
  where
    by : (rest : List (List ℕ)) (o : Option ℕ) → of_edges (file_left o e number (line ∷ rest)) ≡ of_edges (file_left o e (number + 1) rest)
    by rest None =
        ap (λ b. of_edges (if b then edges_read rest (number + 1) e.is_low e.from
        else read_line number e.is_low e.from (edge_line_of line) (λ x. edges_read rest (number + 1) x.low (x.at + 1)) (λ t. end_read rest (number + 1) t))) skips
    by rest (Some end) = ap (λ b. of_edges (if b then end_read rest (number + 1) end else Err (fault.Line number (word_past (edge_line_of line))))) skips

line_left : (e : EdgeReader) (number : ℕ) (line : List ℕ) → Leads e number line (took_line number line e)
line_left e number line = by (is_skipped line) refl
  where
    end_or : (o : Option ℕ) → e.end ≡ o → is_skipped line ≡ false → Leads e number line (after_line o number (edge_line_of line) e)
    end_or None is other = said_left e number line (edge_line_of line) other is refl
    end_or (Some end) is other = past_left e number line end other is

    by : (c : Bool) → is_skipped line ≡ c → Leads e number line (took_line number line e)
    by true h = rw h (skipped_left e number line h)
    by false h = rw h (end_or e.end refl h)

pub file_takes : (signal : List ℕ) (old new : EdgeReader) (number : ℕ) (line : List ℕ) (result : Result (Option EdgeOf) (At Cause)) → Takes (took_line number line old) result new → TakesLine signal (File old) number line result (File new)
file_takes signal old new number line (Ok edge) h = subst (Leads old number line) h (line_left old number line)
file_takes signal old new number line (Err f) h = subst (Leads old number line) h (line_left old number line)

-- ---- a file of pin events

pub pin_takes : (signal : List ℕ) (old new : PinReader) (number : ℕ) (line : List ℕ) (edge : Option EdgeOf) → pin_form.took 0 line old ≡ Ok (record { state = new; edge = edge })
    → TakesLine signal (Pin old) number line (Ok edge) (Pin new)
pin_takes signal old new number line edge h = λ rest. alone pin_form number line rest old (record { state = new; edge = edge }) (whole line) h

pub pin_refuses : (signal : List ℕ) (old new : PinReader) (number : ℕ) (line : List ℕ) (slip : AtWord Cause) (f : At Cause) → pin_form.took 0 line old ≡ Err slip → at_line number slip ≡ f
    → TakesLine signal (Pin old) number line (Err f) (Pin new)
pin_refuses signal old new number line slip f h is = λ rest. refused rest ∙ ap Err is
  where
    refused : (rest : List (List ℕ)) → lines_read pin_form number (line ∷ rest) old ≡ Err (at_line number slip)
    refused rest =
        ap (λ ws. read_on (words_read pin_form number 0 ws old) (lines_read pin_form (number + 1) rest)) (whole line)
        ∙ ap (λ o. read_on (word_read number o (words_read pin_form number 1 [])) (lines_read pin_form (number + 1) rest)) h

pub pin_early : (early : PinLinesAreEarly) (old new : PinReader) (line : List ℕ) (edge : Option EdgeOf) → old.track.at ≤ latest_instant → pin_form.took 0 line old ≡ Ok (record { state = new; edge = edge })
    → (new.track.at ≤ latest_instant) × IfSome edge (λ e. e.at ≤ latest_instant)
pin_early early old new line edge l h = early line old (record { state = new; edge = edge }) l (without_word (word_at_fault line) (took line old) (record { state = new; edge = edge }) h)

-- ---- comma-separated values

pub names_take : (signal : List ℕ) (number : ℕ) (line : List ℕ) (rows : CsvReader) → rows_by number (column_of signal line) ≡ Ok rows → TakesLine signal Names number line (Ok None) (Rows rows)
names_take signal number line rows h = λ rest. ap (rows_left (number + 1) rest) h ∙ with_none (lines_read csv_form (number + 1) rest rows)

pub names_refuse : (signal : List ℕ) (number : ℕ) (line : List ℕ) (new : CaptureLines) (f : At Cause) → rows_by number (column_of signal line) ≡ Err f → TakesLine signal Names number line (Err f) new
names_refuse signal number line new f h = λ rest. ap (rows_left (number + 1) rest) h

pub row_takes : (signal : List ℕ) (old new : CsvReader) (number : ℕ) (line : List ℕ) (edge : Option EdgeOf) → csv_form.took 0 line old ≡ Ok (record { state = new; edge = edge })
    → TakesLine signal (Rows old) number line (Ok edge) (Rows new)
row_takes signal old new number line edge h = λ rest. alone csv_form number line rest old (record { state = new; edge = edge }) (whole line) h

pub row_refuses : (signal : List ℕ) (old new : CsvReader) (number : ℕ) (line : List ℕ) (slip : AtWord Cause) (f : At Cause) → csv_form.took 0 line old ≡ Err slip → at_line number slip ≡ f
    → TakesLine signal (Rows old) number line (Err f) (Rows new)
row_refuses signal old new number line slip f h is = λ rest. refused rest ∙ ap Err is
  where
    refused : (rest : List (List ℕ)) → lines_read csv_form number (line ∷ rest) old ≡ Err (at_line number slip)
    refused rest =
        ap (λ ws. read_on (words_read csv_form number 0 ws old) (lines_read csv_form (number + 1) rest)) (whole line)
        ∙ ap (λ o. read_on (word_read number o (words_read csv_form number 1 [])) (lines_read csv_form (number + 1) rest)) h

pub row_early : (early : CsvLinesAreEarly) (old new : CsvReader) (line : List ℕ) (edge : Option EdgeOf) → old.track.at ≤ latest_instant → csv_form.took 0 line old ≡ Ok (record { state = new; edge = edge })
    → (new.track.at ≤ latest_instant) × IfSome edge (λ e. e.at ≤ latest_instant)
row_early early old new line edge l h =
    early line old (record { state = new; edge = edge }) l (without_word (row_at_fault old.column line) (row_took line old) (record { state = new; edge = edge }) h)

pub rows_end : (r : CsvReader) (number end : ℕ) (edge : Option EdgeOf) → csv_form.ended r ≡ Ok end → edge ≡ last_edge r.track → EndsLines (Rows r) number (Ok (record { edge = edge; end = end }))
rows_end r number end edge h last = ap (end_of_lines number r.track) h ∙ ap (λ (o : Option EdgeOf). Ok (record { edges = option_to_list o; end = end })) (sym last)

pub rows_end_not : (r : CsvReader) (number : ℕ) (f : At Cause) (cause : Cause) → csv_form.ended r ≡ Err cause → EndsLines (Rows r) number (Err f)
rows_end_not r number f cause h = cc

pub rows_end_early : (csv : CsvLinesGoOn) (r : CsvReader) (end : ℕ) → r.track.at ≤ latest_instant → csv_form.ended r ≡ Ok end → end ≤ latest_instant
rows_end_early csv r end early h = let g = csv 1 [] r (record { edges = option_to_list (last_edge r.track); end = end }) early (ap (end_of_lines 1 r.track) h) in g.3

-- ---- the front of a capture

pub names_first : (signal : List ℕ) (lines : List (List ℕ)) → names_left signal 1 lines ≡ named_read signal lines
names_first signal [] = refl
names_first signal (line ∷ lines) = by (column_of signal line)
  where
    by : (o : Option Column) → rows_left 2 lines (rows_by 1 o) ≡ column_read o lines
    by None = refl
    by (Some column) = refl

-- ---- how what is left goes on

-- at the end the name says nothing
pub end_same : (signal : List ℕ) (lines : CaptureLines) (number : ℕ) → lines_left signal lines number [] ≡ lines_left [] lines number []
end_same signal (File e) number = refl
end_same signal (Pin r) number = refl
end_same signal Names number = refl
end_same signal (Rows r) number = refl

pub record IsRest (lines : CaptureLines) (c : Captured) : Type 0 where
  pub is_low : Bool
  pub turn : AreInTurn is_low (from_of lines) c.edges
  pub ends : EndBy c.end c.edges
  pub reach : from_of lines ≤ c.end + 1

end_alone : (lines : List (List ℕ)) (number t : ℕ) (f : EdgeFile) → end_read lines number t ≡ Ok f → f ≡ record { edges = []; end = t }
end_alone [] number t f h = cc
end_alone (line ∷ lines) number t f h = by (is_skipped line) h (λ k. end_alone lines (number + 1) t f k)
  where
    by : (b : Bool) → (if b then end_read lines (number + 1) t else Err (fault.Line number (word_past (edge_line_of line)))) ≡ Ok f → (end_read lines (number + 1) t ≡ Ok f → f ≡ record { edges = []; end = t })
        → f ≡ record { edges = []; end = t }
    by true k ih = ih k
    by false k ih = cc

pub file_of_captured : (r : Result EdgeFile EdgeFault) (c : Captured) → of_edges r ≡ Ok c → (f : EdgeFile) × (r ≡ Ok f) × (c ≡ record { edges = f.edges; end = f.end })
file_of_captured (Ok f) c h = (f, refl, (let x : record { edges = f.edges; end = f.end } ≡ c = cc in sym x))
file_of_captured (Err x) c h = cc

-- a file that has ended, or has not
abbrev FileRest : Option ℕ → ℕ → Captured → Type 0
FileRest o from c = (is_low : Bool) × AreInTurn is_low (from_by o from) c.edges × EndBy c.end c.edges × (from_by o from ≤ c.end + 1)

file_rest : (go : EdgeLinesGoOn) (e : EdgeReader) (number : ℕ) (lines : List (List ℕ)) (c : Captured) (o : Option ℕ) → IfSome o (λ t. (e.from ≤ t + 1) × (t ≤ latest_instant))
    → of_edges (file_left o e number lines) ≡ Ok c → FileRest o e.from c
file_rest go e number lines c None early h =
    let f = file_of_captured (edges_read lines number e.is_low e.from) c h in
    let g = go lines number e.is_low e.from f.0 f.1 in
    subst (λ (c : Captured). FileRest None e.from c) (sym f.2) (e.is_low, g.0, g.1, g.2)
file_rest go e number lines c (Some t) early h =
    let f = file_of_captured (end_read lines number t) c h in
    let is = end_alone lines number t f.0 f.1 in
    subst (λ (c : Captured). FileRest (Some t) e.from c) (sym (f.2 ∙ ap (λ (x : EdgeFile). record { edges = x.edges; end = x.end }) is)) (e.is_low, tt, tt, omega arith)

pub rest_of : (file : EdgeLinesGoOn) (pin : PinLinesGoOn) (csv : CsvLinesGoOn) (signal : List ℕ) (lines : CaptureLines) (number : ℕ) (rest : List (List ℕ)) (c : Captured) → IsEarly lines → lines_left signal lines number rest ≡ Ok c → IsRest lines c
rest_of file pin csv signal (File e) number rest c early h =
    let r = file_rest file e number rest c e.end early.1 h in
    record { is_low = r.0; turn = r.1; ends = r.2; reach = r.3 }
rest_of file pin csv signal (Pin r) number rest c early h =
    let g = pin number rest r c early h in
    let at = g.2 in
    record { is_low = r.track.was_low; turn = g.0; ends = g.1; reach = omega (arith, at) }
rest_of file pin csv signal Names number rest c early h = names_rest rest h
  where
    column_rest : (lines : List (List ℕ)) (column : Option Column) → rows_left (number + 1) lines (rows_by number column) ≡ Ok c → IsRest Names c
    column_rest lines None k = cc
    column_rest lines (Some column) k =
        let g = csv (number + 1) lines (first_rows column) c (omega arith) k in
        record { is_low = false; turn = g.0; ends = g.1; reach = omega arith }

    names_rest : (rest : List (List ℕ)) → names_left signal number rest ≡ Ok c → IsRest Names c
    names_rest [] k = cc
    names_rest (line ∷ lines) k = column_rest lines (column_of signal line) k
rest_of file pin csv signal (Rows r) number rest c early h =
    let g = csv number rest r c early h in
    let at = g.2 in
    record { is_low = r.track.was_low; turn = g.0; ends = g.1; reach = omega (arith, at) }
