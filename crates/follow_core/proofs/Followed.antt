-- What a follower was told of a capture, and what it has reported.
use Rattle.std.proofs.Common.{Bool, option_map, ◌≡◌, ℕ, ◌+◌, ◌≤◌, false, true, List, [], ◌∷◌, ◌++◌, Option, Some, None, Ok, Err, Result, refl, sym, ap, subst, ◌∙◌, append_assoc, append-nil, arith}
use Rattle.std.specs.Option.{option_to_list}
use Rattle.line_wave.specs.declared.Edge.{Edge}
use Rattle.line_wave.specs.Line.{Line}
use Rattle.line_reading.specs.declared.times.Windows.{Windows}
use Rattle.line_reading.specs.Readings.{Listed}
use Rattle.text_core.specs.declared.at.At.{At}
use Rattle.capture_core.specs.Edges.{AreInTurn, Captured, EndBy, line_of_edges}
use Rattle.capture_core.specs.Reading.{with_edges}
use Rattle.capture_core.specs.declared.fault.Cause.{Cause}
use Rattle.capture_monitor.specs.ReadBy.{readings_by}
use Rattle.capture_monitor.specs.Watch.{captured_by}
use Rattle.audit_notes.specs.Lines.{AuditLine, lines_text}
use Rattle.capture_join.specs.Joined.{IsJoined, Stays}
use Rattle.line_reading.specs.Reports.{listed_as}
use Rattle.line_wave.specs.Bounds.{latest_instant}
use Rattle.capture_through.specs.Through.{AreFrom, passed_edges}
use Rattle.capture_through.proofs.Steps.{stay}
use Rattle.follow_core.specs.Follow.{IsFollowed, IsFront, IsTextOf, IsWhole, holding, received, received_of, start_of, starts_at}
use Rattle.follow_core.specs.Shown.{Shows, ShowsLast, listed_in, start_by}
use Rattle.follow_core.specs.declared.shown.Shown.{Shown as Held}
use Rattle.follow_core.specs.declared.view.ReadingView.{ReadingView}
use Rattle.follow_core.specs.Passing.{EndsPassing, IsKnownTo, TakesPassing, edges_in, made_read, passing_left, through_read}
use Rattle.follow_core.specs.declared.passing.LastEdges.{LastEdges}
use Rattle.follow_core.specs.declared.passing.PassedEdges.{PassedEdges}
use Rattle.follow_core.specs.declared.passing.PassingLines.{PassingLines}
use Rattle.follow_core.specs.declared.reception.Reception.{Reception}
use Rattle.follow_core.specs.declared.teller.PassedReadings.{PassedReadings}
use Rattle.follow_core.specs.Lines.{lines_captured}
use Rattle.follow_core.specs.Teller.{IsTold, IsUntold, TellsCalm, TellsEnd, TellsIdle, TellsPassed, listed_pair}
use Rattle.follow_core.specs.declared.follower.Follower.{Follower}
use Rattle.follow_core.specs.declared.follower.EndedReadings.{EndedReadings}
use Rattle.follow_core.specs.declared.lines.LineForm.{LineForm}
use Rattle.follow_core.specs.declared.lines.LineForm.TheVariants as forms
use Rattle.follow_core.specs.declared.teller.Teller.{Teller}
use Rattle.capture_pin.specs.Pin.{first_reader}
use Rattle.capture_pin.specs.Sampling.{PinLinesGoOn}
use Rattle.capture_csv.specs.Csv.{column_of, column_read, named_read}
use Rattle.capture_csv.specs.Csv.{first_reader as first_rows}
use Rattle.capture_csv.specs.Sampling.{CsvLinesGoOn}
use Rattle.capture_csv.specs.declared.column.Column.{Column}
use Rattle.capture_monitor.specs.EdgeFile.{EdgeLinesGoOn, edges_read}
use Rattle.follow_core.proofs.Left.{file_of_captured}
use Rattle.follow_core.proofs.Showing.{grows_by, grows_last, shown_first, shown_front, shown_last, shown_more}
use Rattle.follow_core.proofs.Told.{later_stays, told_front}
pub use Rattle.follow_core.proofs.Left.{both, end_same, with_none}
pub use Rattle.live_incoming.proofs.Coming.{lines_again}

-- ---- the begin

-- rows are in turn from a fall on
column_turn : (csv : CsvLinesGoOn) (column : Option Column) (lines : List (List ℕ)) (c : Captured) → column_read column lines ≡ Ok c → AreInTurn false 0 c.edges × EndBy c.end c.edges
column_turn csv None lines c h = cc
column_turn csv (Some column) lines c h = let g = csv 2 lines (first_rows column) c (omega arith) h in (g.0, g.1)

named_turn : (csv : CsvLinesGoOn) (signal : List ℕ) (lines : List (List ℕ)) (c : Captured) → named_read signal lines ≡ Ok c → AreInTurn false 0 c.edges × EndBy c.end c.edges
named_turn csv signal [] c h = cc
named_turn csv signal (line ∷ lines) c h = column_turn csv (column_of signal line) lines c h

-- the edges of a capture are in turn from a fall on
pub captured_turn : (file : EdgeLinesGoOn) (pin : PinLinesGoOn) (csv : CsvLinesGoOn) (form : LineForm) (signal : List ℕ) (lines : List (List ℕ)) (c : Captured) → lines_captured form signal lines ≡ Ok c → AreInTurn false 0 c.edges × EndBy c.end c.edges
captured_turn file pin csv forms.Edges signal lines c h =
    let f = file_of_captured (edges_read lines 1 false 0) c h in
    let g = file lines 1 false 0 f.0 f.1 in
    subst (λ (c : Captured). AreInTurn false 0 c.edges × EndBy c.end c.edges) (sym f.2) (g.0, g.1)
captured_turn file pin csv forms.Pin signal lines c h = let g = pin 1 lines first_reader c (omega arith) h in (g.0, g.1)
captured_turn file pin csv forms.Csv signal lines c h = named_turn csv signal lines c h

-- and they are a capture
captured_whole : (file : EdgeLinesGoOn) (pin : PinLinesGoOn) (csv : CsvLinesGoOn) (form : LineForm) (signal : List ℕ) (lines : List (List ℕ)) (c : Captured) → lines_captured form signal lines ≡ Ok c → c.end ≤ latest_instant
captured_whole file pin csv forms.Edges signal lines c h =
    let f = file_of_captured (edges_read lines 1 false 0) c h in
    let g = file lines 1 false 0 f.0 f.1 in
    subst (λ (c : Captured). c.end ≤ latest_instant) (sym f.2) g.3
captured_whole file pin csv forms.Pin signal lines c h = (pin 1 lines first_reader c (omega arith) h).3
captured_whole file pin csv forms.Csv signal lines c h = named_whole lines h
  where
    column_whole : (lines : List (List ℕ)) (column : Option Column) → column_read column lines ≡ Ok c → c.end ≤ latest_instant
    column_whole lines None k = cc
    column_whole lines (Some column) k = (csv 2 lines (first_rows column) c (omega arith) k).3

    named_whole : (lines : List (List ℕ)) → named_read signal lines ≡ Ok c → c.end ≤ latest_instant
    named_whole [] k = cc
    named_whole (line ∷ lines) k = column_whole lines (column_of signal line) k

-- what is made of a capture that is read
pub made_whole : (how : Reception) (r : Result Captured (At Cause)) (c : Captured) → made_read how.inverted how.glitch r ≡ Ok c → (d : Captured) × (r ≡ Ok d) × (c ≡ received how d)
made_whole how (Ok d) c h = (d, refl, (let x : received how d ≡ c = cc in sym x))
made_whole how (Err f) c h = cc

pub made_fault : (how : Reception) (r : Result Captured (At Cause)) (fault : At Cause) → made_read how.inverted how.glitch r ≡ Err fault → r ≡ Err fault
made_fault how (Ok d) fault h = cc
made_fault how (Err f) fault h = h

pub received_turn : (file : EdgeLinesGoOn) (pin : PinLinesGoOn) (csv : CsvLinesGoOn) (how : Reception) (form : LineForm) (signal : List ℕ) (lines : List (List ℕ)) (c : Captured) → received_of how form signal lines ≡ Ok c → AreInTurn false 0 c.edges × EndBy c.end c.edges
received_turn file pin csv how form signal lines c h =
    let d = made_whole how (lines_captured form signal lines) c h in
    let t = captured_turn file pin csv form signal lines d.0 d.1 in
    let made = stay how.inverted how.glitch d.0.edges d.0.end (record { turn = t.0; ends = t.1; early = captured_whole file pin csv form signal lines d.0 d.1 }) in
    subst (λ (c : Captured). AreInTurn false 0 c.edges × EndBy c.end c.edges) (sym d.2) (made.turn, made.ends)

pub followed_first : (file : EdgeLinesGoOn) (pin : PinLinesGoOn) (csv : CsvLinesGoOn) (form : LineForm) (signal : List ℕ) (view : ReadingView) (how : Reception) (f : Follower)
    → ((lines : List (List ℕ)) → passing_left signal f.lines 1 lines ≡ received_of how form signal lines) → f.lines.through.smoother.shortest ≡ how.glitch
    → IsUntold how.windows f.teller → f.shown.is_held ≡ false → f.shown.run ≡ None → IsFollowed form signal view how [] 1 f []
followed_first file pin csv form signal view how f first shortest untold held run = record {
  edges = [];
  shortest = shortest;
  read = λ rest. sym (first rest) ∙ with_none (passing_left signal f.lines 1 rest);
  told = λ rest c h.
      let t = received_turn file pin csv how form signal rest c (sym (first rest) ∙ h) in
      ([], untold c.edges c.end t.0 t.1, shown_first view (start_of view.from_idle f) f.shown held run);
}

-- ---- a line

-- of lines that are read these edges are the first
pub split_read : (edges : List Edge) (r : Result Captured (At Cause)) (c : Captured) → with_edges edges r ≡ Ok c → (d : Captured) × (r ≡ Ok d) × (c ≡ record { edges = edges ++ d.edges; end = d.end })
split_read edges (Ok d) c h = (d, refl, (let x : record { edges = edges ++ d.edges; end = d.end } ≡ c = cc in sym x))
split_read edges (Err f) c h = cc

pub followed_front : (form : LineForm) (signal : List ℕ) (view : ReadingView) (how : Reception) (past : List (List ℕ)) (number : ℕ) (f : Follower) (text : List ℕ) → IsFollowed form signal view how past number f text → IsFront true form signal view how past text
followed_front form signal view how past number f text w = λ rest c all left h is.
    let d = split_read w.edges (passing_left signal f.lines number rest) c (sym (w.read rest) ∙ h) in
    let t = w.told rest d.0 d.1 in
    let whole : Captured = record { edges = w.edges ++ d.0.edges; end = d.0.end } in
    let more = told_front how.windows f.teller (line_of_edges whole.edges) d.0.edges d.0.end t.0 t.1 in
    shown_front view f.teller.search.found f.shown whole f.teller.known t.0 more.0 (captured_by how.windows whole) text all more.1 t.1.sought.found t.1.reach t.2
    (subst (λ (x : Captured). IsTextOf view how x all) d.2 is)

-- edges in turn of which none comes before an instant
pub turn_with : (b : Bool) (from to : ℕ) (es : List Edge) → AreInTurn b from es → AreFrom to es → AreInTurn b to es
turn_with b from to [] h n = tt
turn_with b from to (e ∷ es) h n = (h.0, n.0, h.2)

-- what was told of the edges of a line
pub told_passed : (win : Windows) (old mid new : Teller) (passed : PassedEdges) (one two : PassedReadings) → TellsPassed old passed.by_edge one mid → TellsPassed mid passed.by_calm two new
    → (low : Line) (left : List Edge) (end : ℕ) (ended : List Listed) → IsTold win old low (edges_in passed ++ left) end ended → IsTold win new low left end ((ended ++ listed_pair one) ++ listed_pair two)
told_passed win old mid new passed one two first second low left end ended w =
    second.told win low left end (ended ++ listed_pair one)
    (first.told win low (passed_edges passed.by_calm ++ left) end ended
    (subst (λ (es : List Edge). IsTold win old low es end ended) (append_assoc (passed_edges passed.by_edge) (passed_edges passed.by_calm) left) w))

-- what has ended by a line
told_stays : (old mid late new : Teller) (passed : PassedEdges) (one two : PassedReadings) (known : ℕ) (last : Option Listed) → TellsPassed old passed.by_edge one mid → TellsPassed mid passed.by_calm two late → TellsCalm late known last new
    → Stays old.search.found new.search.found
told_stays old mid late new passed one two known last first second third =
    later_stays old.search.found late.search.found new.search.found (later_stays old.search.found mid.search.found late.search.found first.stays second.stays) third.stays

-- of what is left after a line
pub line_followed : (form : LineForm) (signal : List ℕ) (view : ReadingView) (how : Reception) (past : List (List ℕ)) (number : ℕ) (line : List ℕ) (old new : Follower) (mid late : Teller) (passed : PassedEdges) (heard : EndedReadings) (known : ℕ) (text : List ℕ) (shown : Held) (done : List AuditLine)
    → IsFollowed form signal view how past number old text → Shows view.folds (starts_at view.from_idle old (start_of view.from_idle new)) old.shown heard shown done
    → TakesPassing signal old.lines number line (Ok passed) new.lines → new.lines.through.smoother.shortest ≡ old.lines.through.smoother.shortest
    → IsKnownTo signal new.lines (number + 1) known → TellsPassed old.teller passed.by_edge heard.by_edge mid → TellsPassed mid passed.by_calm heard.by_calm late → TellsCalm late known (option_map listed_as heard.last) new.teller
    → IsFollowed form signal view how (past ++ line ∷ []) (number + 1) (holding new shown) (text ++ lines_text view.written done)
line_followed form signal view how past number line old new mid late passed heard known text shown done w shows takes shortest on first second last = record {
  edges = w.edges ++ edges_in passed;
  shortest = shortest ∙ w.shortest;
  read = λ rest.
      ap (received_of how form signal) (append_assoc past (line ∷ []) rest) ∙ w.read (line ∷ rest) ∙ ap (with_edges w.edges) (takes rest)
      ∙ both w.edges (edges_in passed) (passing_left signal new.lines (number + 1) rest);
  told = λ rest c h.
      let t = w.told (line ∷ rest) (record { edges = edges_in passed ++ c.edges; end = c.end }) (takes rest ∙ ap (with_edges (edges_in passed)) h) in
      let low : Line = line_of_edges ((w.edges ++ edges_in passed) ++ c.edges) in
      let start : IsTold how.windows old.teller low (edges_in passed ++ c.edges) c.end t.0 =
      subst (λ (es : List Edge). IsTold how.windows old.teller (line_of_edges es) (edges_in passed ++ c.edges) c.end t.0) (sym (append_assoc w.edges (edges_in passed) c.edges)) t.1 in
      let later = told_passed how.windows old.teller mid late passed heard.by_edge heard.by_calm first second low c.edges c.end t.0 start in
      let go = on.none rest c h in
      let one = listed_pair heard.by_edge in
      let two = listed_pair heard.by_calm in
      let end = option_to_list (option_map listed_as heard.last) in
      let now : IsTold how.windows new.teller low c.edges c.end (t.0 ++ listed_in heard) =
      subst (λ (xs : List Listed). IsTold how.windows new.teller low c.edges c.end xs) (append_assoc (t.0 ++ one) two end ∙ append_assoc t.0 one (two ++ end))
      (last.told how.windows low c.edges c.end ((t.0 ++ one) ++ two) later (later.is_low, turn_with later.is_low late.known known c.edges later.turn go.0) go.1) in (
        t.0 ++ listed_in heard,
        now,
        shown_more view (starts_at view.from_idle old (start_of view.from_idle new)) old.shown shown t.0 text heard done t.2
            (grows_by view.from_idle how.windows low old.teller.known new.teller.known old.teller.search.found new.teller.search.found t.0 start.listed
            (told_stays old.teller mid late new.teller passed heard.by_edge heard.by_calm known (option_map listed_as heard.last) first second last)
            start.sought.found now.sought.found) shows,
      );
}

-- a line at fault
pub line_refused : (form : LineForm) (signal : List ℕ) (view : ReadingView) (how : Reception) (past : List (List ℕ)) (number : ℕ) (line : List ℕ) (old : Follower) (lines : PassingLines) (fault : At Cause) (text : List ℕ) → IsFollowed form signal view how past number old text
    → TakesPassing signal old.lines number line (Err fault) lines → (rest : List (List ℕ)) → lines_captured form signal (past ++ line ∷ rest) ≡ Err fault
line_refused form signal view how past number line old lines fault text w takes rest =
    made_fault how (lines_captured form signal (past ++ line ∷ rest)) fault (w.read (line ∷ rest) ∙ ap (with_edges w.edges) (takes rest))

-- ---- the end

pub end_same_passing : (signal : List ℕ) (p : PassingLines) (number : ℕ) → passing_left signal p number [] ≡ passing_left [] p number []
end_same_passing signal p number = ap (through_read p.through) (end_same signal p.lines number)

pub end_followed : (form : LineForm) (signal : List ℕ) (view : ReadingView) (how : Reception) (past : List (List ℕ)) (number : ℕ) (f : Follower) (mid late : Teller) (last : LastEdges) (heard : EndedReadings) (idle : ℕ) (text : List ℕ) (done : List AuditLine)
    → IsFollowed form signal view how past number f text → ShowsLast view.folds (starts_at view.from_idle f (start_by view.from_idle (Some idle))) f.shown heard done
    → EndsPassing f.lines number (Ok last) → TellsPassed f.teller last.edges.by_edge heard.by_edge mid → TellsPassed mid last.edges.by_calm heard.by_calm late → TellsEnd late last.end (option_map listed_as heard.last) → TellsIdle late last.end idle
    → IsWhole form signal view how past (text ++ lines_text view.written done)
end_followed form signal view how past number f mid late last heard idle text done w shows ends first second end tells = record {
  capture = all;
  read = ap (received_of how form signal) (sym (append-nil past)) ∙ w.read [] ∙ ap (with_edges w.edges) left;
  all = shown_last view (starts_at view.from_idle f (start_by view.from_idle (Some idle))) f.shown all idle ended (captured_by how.windows all) text heard done refl joined readings (w.told [] whole left).2
      (grows_last view.from_idle how.windows low f.teller.known last.end idle f.teller.search.found ended start.listed start.sought.found start.reach joined) shows;
}
  where
    whole : Captured
    whole = record { edges = edges_in last.edges; end = last.end }

    all : Captured
    all = record { edges = w.edges ++ edges_in last.edges; end = last.end }

    left : passing_left signal f.lines number [] ≡ Ok whole
    left = end_same_passing signal f.lines number ∙ ends

    low : Line
    low = line_of_edges (w.edges ++ edges_in last.edges)

    ended : List Listed
    ended = (w.told [] whole left).0

    start : IsTold how.windows f.teller low (edges_in last.edges ++ []) last.end ended
    start = subst (λ (es : List Edge). IsTold how.windows f.teller low es last.end ended) (sym (append-nil (edges_in last.edges))) (w.told [] whole left).1

    one : List Listed
    one = listed_pair heard.by_edge

    two : List Listed
    two = listed_pair heard.by_calm

    rest : List Listed
    rest = option_to_list (option_map listed_as heard.last)

    told : IsTold how.windows late low [] last.end ((ended ++ one) ++ two)
    told = told_passed how.windows f.teller mid late last.edges heard.by_edge heard.by_calm first second low [] last.end ended start

    joined : IsJoined low last.end idle
    joined = tells how.windows low ((ended ++ one) ++ two) told

    readings : readings_by how.windows low last.end ≡ ended ++ listed_in heard
    readings = end how.windows low ((ended ++ one) ++ two) told
        ∙ append_assoc (ended ++ one) two rest ∙ append_assoc ended one (two ++ rest)

pub end_refused : (form : LineForm) (signal : List ℕ) (view : ReadingView) (how : Reception) (past : List (List ℕ)) (number : ℕ) (f : Follower) (fault : At Cause) (text : List ℕ) → IsFollowed form signal view how past number f text → EndsPassing f.lines number (Err fault)
    → lines_captured form signal past ≡ Err fault
end_refused form signal view how past number f fault text w ends =
    made_fault how (lines_captured form signal past) fault (ap (received_of how form signal) (sym (append-nil past)) ∙ w.read [] ∙ ap (with_edges w.edges) (end_same_passing signal f.lines number ∙ ends))
