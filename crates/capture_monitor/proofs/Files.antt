-- An edge file read edge by edge, and what is written of it.
use Rattle.std.proofs.Common.{◌≡◌, ℕ, suc, ◌+◌, ◌-◌, ◌<◌, ◌≤◌, Bool, true, false, ◌&&◌, nat_lt, nat_le, if◌then◌else◌, List, [], ◌∷◌, ◌++◌, Option, Result, Ok, Err, refl, arith, ap, ◌∙◌, sym, subst}
use Rattle.std.specs.Option.{option_to_list}
use Rattle.std.proofs.lemmas.Bool.Decides.{nat_tests}
use Rattle.std.proofs.lemmas.Grind.{flat_map-append}
use Rattle.line_wave.specs.declared.Edge.{Edge as EdgeOf}
use Rattle.line_wave.specs.Line.{Line, was_low}
use Rattle.line_reading.specs.Readings.{Listed, readings_of}
use Rattle.line_reading.specs.Ended.{ended_by}
use Rattle.line_reading.specs.Reports.{ended_before}
use Rattle.line_reading.proofs.Reported.{ended_first}
use Rattle.text_core.specs.Adds.{Adds, Tally}
use Rattle.text_core.specs.Lines.{lines_of, is_skipped}
use Rattle.text_core.proofs.Adding.{cut_short, nothing, then}
use Rattle.capture_core.specs.Edges.{level_at, line_of_edges}
use Rattle.capture_monitor.specs.declared.monitor.Monitor.{Monitor as Watcher}
use Rattle.capture_monitor.specs.declared.edge_file.EdgeFault.{EdgeFault}
use Rattle.capture_monitor.specs.declared.edge_file.EdgeFault.TheVariants as fault
use Rattle.capture_monitor.specs.declared.edge_file.EdgeLine.{EdgeLine}
use Rattle.capture_monitor.specs.declared.edge_file.EdgeLine.TheVariants.{Edge, End}
use Rattle.capture_monitor.specs.declared.edge_file.EdgeLines.{EdgeLines}
use Rattle.capture_monitor.specs.EdgeFile.{EdgeFile, edge_line_of, edges_read, end_read, file_left, file_of, is_in_turn, read_line, turns, with_edge, with_edges, word_out_of_turn, word_past, GoesAfter, ReadsOn}
use Rattle.capture_monitor.specs.Monitor.{HeardBefore, FollowsEdge, FollowsEnd}
use Rattle.capture_monitor.specs.Watch.{file_readings, listed_line, readings_text, reported_text}
use Rattle.line_wave.proofs.Waves.{was_now}

-- ---- edges before what is left

pub edges_more : (es : List EdgeOf) (e : EdgeOf) (r : Result EdgeFile EdgeFault) → with_edges es (with_edge e r) ≡ with_edges (es ++ e ∷ []) r
edges_more [] e r = refl
edges_more (x ∷ es) e r = ap (with_edge x) (edges_more es e r)

pub edges_fault : (es : List EdgeOf) (x : EdgeFault) → with_edges es (Err x) ≡ Err x
edges_fault [] x = refl
edges_fault (e ∷ es) x = ap (with_edge e) (edges_fault es x)

pub edges_ok : (es : List EdgeOf) (g : EdgeFile) → (f : EdgeFile) × (with_edges es (Ok g) ≡ Ok f)
edges_ok [] g = (g, refl)
edges_ok (e ∷ es) g = let f = edges_ok es g in (record { edges = e ∷ f.0.edges; end = f.0.end }, ap (with_edge e) f.1)

pub record EdgeBefore (e : EdgeOf) (r : Result EdgeFile EdgeFault) (f : EdgeFile) : Type 0 where
  pub left : EdgeFile
  pub is : r ≡ Ok left
  pub same : f ≡ record { edges = e ∷ left.edges; end = left.end }

pub edge_before : (e : EdgeOf) (r : Result EdgeFile EdgeFault) (f : EdgeFile) → with_edge e r ≡ Ok f → EdgeBefore e r f
edge_before e (Err x) f h = cc
edge_before e (Ok g) f h = record { left = g; is = refl; same = cc }

-- ---- no edge of what is left comes before `from`

pub end_none : (lines : List (List ℕ)) (number t : ℕ) (f : EdgeFile) → end_read lines number t ≡ Ok f → f ≡ record { edges = []; end = t }
end_none [] number t f h = cc
end_none (line ∷ lines) number t f h = by_skip (is_skipped line) h (λ k. end_none lines (number + 1) t f k)
  where
    by_skip : (b : Bool) → (if b then end_read lines (number + 1) t else Err (fault.Line number (word_past (edge_line_of line)))) ≡ Ok f → (end_read lines (number + 1) t ≡ Ok f → f ≡ record { edges = []; end = t })
        → f ≡ record { edges = []; end = t }
    by_skip true k ih = ih k
    by_skip false k ih = cc

Late : ℕ → EdgeFile → Type 0
Late from f = (b : Bool) (u : ℕ) → u < from → level_at b f.edges u ≡ b

late_edge : (is_low : Bool) (from : ℕ) (e : EdgeOf) (r : Result EdgeFile EdgeFault) (f : EdgeFile) → is_in_turn is_low from e ≡ true → with_edge e r ≡ Ok f → Late from f
unfolding Late
late_edge is_low from e r f turn h b u l =
    let g = edge_before e r f h in
    let after : nat_le from e.at ≡ true = right (turns is_low e) (nat_le from e.at) turn in
    ap (λ (x : EdgeFile). level_at b x.edges u) g.same
    ∙ ap (λ c. if c then b else level_at e.low g.left.edges u) (let x : nat_lt u e.at ≡ true = grind (arith, nat_tests) in x)
  where
    right : (x y : Bool) → (x && y) ≡ true → y ≡ true
    right true y k = k
    right false y k = cc

late_line : (number : ℕ) (is_low : Bool) (from : ℕ) (o : Result EdgeLine ℕ) (more : EdgeOf → Result EdgeFile EdgeFault) (lines : List (List ℕ)) (f : EdgeFile)
    → read_line number is_low from o more (λ t. end_read lines (number + 1) t) ≡ Ok f → Late from f
unfolding Late
late_line number is_low from (Err word) more lines f h = cc
late_line number is_low from (Ok (Edge e)) more lines f h = by_turn (is_in_turn is_low from e) refl h
  where
    by_turn : (c : Bool) → is_in_turn is_low from e ≡ c → (if c then with_edge e (more e) else Err (fault.Order number (word_out_of_turn is_low e))) ≡ Ok f → Late from f
    by_turn true t k = late_edge is_low from e (more e) f t k
    by_turn false t k = cc
late_line number is_low from (Ok (End t)) more lines f h = by_time (nat_le from (t + 1)) h
  where
    by_time : (c : Bool) → (if c then end_read lines (number + 1) t else Err (fault.Order number 0)) ≡ Ok f → Late from f
    by_time true k = λ b u l. ap (λ (x : EdgeFile). level_at b x.edges u) (end_none lines (number + 1) t f k)
    by_time false k = cc

late_read : (lines : List (List ℕ)) (number : ℕ) (is_low : Bool) (from : ℕ) (f : EdgeFile) → edges_read lines number is_low from ≡ Ok f → Late from f
late_read [] number is_low from f h = cc
late_read (line ∷ lines) number is_low from f h = by_skip (is_skipped line) h (λ k. late_read lines (number + 1) is_low from f k)
  where
    by_skip : (c : Bool) → (if c then edges_read lines (number + 1) is_low from
        else read_line number is_low from (edge_line_of line) (λ e. edges_read lines (number + 1) e.low (e.at + 1)) (λ t. end_read lines (number + 1) t)) ≡ Ok f
        → (edges_read lines (number + 1) is_low from ≡ Ok f → Late from f) → Late from f
    by_skip true k ih = ih k
    by_skip false k ih = late_line number is_low from (edge_line_of line) (λ e. edges_read lines (number + 1) e.low (e.at + 1)) lines f k

-- ---- the readings so far are written

pub record Watched (f : EdgeFile) (lines : EdgeLines) (m : Watcher) (a b : Tally) : Type 0 where
  pub left : EdgeFile
  pub file : file_left lines ≡ Ok left
  pub end : left.end ≡ f.end
  pub level : (u : ℕ) → lines.from ≤ u → line_of_edges f.edges u ≡ level_at lines.is_low left.edges u
  pub before : was_low (line_of_edges f.edges) lines.from ≡ lines.is_low
  pub heard : HeardBefore m (line_of_edges f.edges) lines.from
  pub so_far : Adds a b (readings_text (ended_before (line_of_edges f.edges) lines.from))

pub watched_first : (text : List ℕ) (f : EdgeFile) (lines : EdgeLines) (m : Watcher) (a : Tally) → file_of text ≡ Ok f → lines.rest.now ≡ text → lines.number ≡ 1 → lines.is_low ≡ false → lines.from ≡ 0
    → ((low : Line) → HeardBefore m low 0) → Watched f lines m a a
watched_first text f lines m a h rest number level from heard = record {
  left = f;
  file = ap (λ (t : List ℕ). edges_read (lines_of t) lines.number lines.is_low lines.from) rest ∙ ap (λ n. edges_read (lines_of text) n lines.is_low lines.from) number
      ∙ ap (λ b. edges_read (lines_of text) 1 b lines.from) level ∙ ap (edges_read (lines_of text) 1 false) from ∙ h;
  end = refl;
  level = λ u l. ap (λ b. level_at b f.edges u) (sym level);
  before = ap (was_low (line_of_edges f.edges)) from ∙ (let x : nat_lt 0 0 ≡ false = grind (arith, nat_tests) in ap (λ b. b && line_of_edges f.edges (0 - 1)) x) ∙ sym level;
  heard = subst (HeardBefore m (line_of_edges f.edges)) (sym from) (heard (line_of_edges f.edges));
  so_far = subst (λ n. Adds a a (readings_text (ended_before (line_of_edges f.edges) n))) (sym from) (nothing a);
}

-- an edge, and what was reported of it
record Told (f : EdgeFile) (lines next : EdgeLines) (m new : Watcher) (e : EdgeOf) (reported : Option Listed) : Type 0 where
  left : EdgeFile
  file : file_left next ≡ Ok left
  end : left.end ≡ f.end
  level : (u : ℕ) → next.from ≤ u → line_of_edges f.edges u ≡ level_at next.is_low left.edges u
  before : was_low (line_of_edges f.edges) next.from ≡ next.is_low
  heard : HeardBefore new (line_of_edges f.edges) next.from
  ended : ended_before (line_of_edges f.edges) next.from ≡ ended_before (line_of_edges f.edges) lines.from ++ option_to_list reported

reported_edge : (f : EdgeFile) (lines next : EdgeLines) (m new : Watcher) (e : EdgeOf) (reported : Option Listed) (a b : Tally) → Watched f lines m a b
    → GoesAfter lines e next → FollowsEdge m e reported new → Told f lines next m new e reported
unfolding Late
reported_edge f lines next m new e reported p q w g follows = record {
  left = b.left;
  file = b.is;
  end = ap (λ (x : EdgeFile). x.end) (sym b.same) ∙ w.end;
  level = λ u l. later u (omega (arith, l, g.from)) ∙ ap (λ c. level_at c b.left.edges u) (sym g.level);
  before = ap (was_low low) g.from ∙ was_now low e.at ∙ now_is ∙ sym g.level;
  heard = subst (HeardBefore new low) (sym g.from) d.0;
  ended = ap (ended_before low) (g.from ∙ (let x : e.at + 1 ≡ suc e.at = omega arith in x)) ∙ d.1;
}
  where
    low : Line
    low = line_of_edges f.edges

    b : EdgeBefore e (file_left next) w.left
    b = edge_before e (file_left next) w.left (sym g.file ∙ w.file)

    at : (u : ℕ) → lines.from ≤ u → line_of_edges f.edges u ≡ (if nat_lt u e.at then lines.is_low else level_at e.low b.left.edges u)
    at u l = w.level u l ∙ ap (λ (x : EdgeFile). level_at lines.is_low x.edges u) b.same

    calm : (u : ℕ) → lines.from ≤ u → u < e.at → line_of_edges f.edges u ≡ m.receiver.receiver.was_low
    calm u l s = at u l ∙ ap (λ c. if c then lines.is_low else level_at e.low b.left.edges u) (let x : nat_lt u e.at ≡ true = grind (arith, nat_tests) in x) ∙ sym w.before ∙ sym w.heard.stood.level

    later : (u : ℕ) → e.at ≤ u → line_of_edges f.edges u ≡ level_at e.low b.left.edges u
    later u l = at u (omega (arith, g.after, l)) ∙ ap (λ c. if c then lines.is_low else level_at e.low b.left.edges u) (let x : nat_lt u e.at ≡ false = grind (arith, nat_tests) in x)

    now_is : line_of_edges f.edges e.at ≡ e.low
    now_is = later e.at (omega arith) ∙ first e.low e.at (omega (arith, g.from))
      where
        first : Late next.from b.left
        first = late_read (lines_of next.rest.now) next.number next.is_low next.from b.left b.is

    d : HeardBefore new (line_of_edges f.edges) (e.at + 1) × (ended_by (line_of_edges f.edges) e.at ≡ ended_before (line_of_edges f.edges) lines.from ++ option_to_list reported)
    d = follows (line_of_edges f.edges) lines.from w.heard g.after calm now_is

pub text_more : (xs : List Listed) (o : Option Listed) → readings_text (xs ++ option_to_list o) ≡ readings_text xs ++ reported_text o
text_more xs o = flat_map-append listed_line xs (option_to_list o)

pub watched_more : (f : EdgeFile) (lines next : EdgeLines) (m new : Watcher) (e : EdgeOf) (reported : Option Listed) (a b c : Tally)
    → Watched f lines m a b → GoesAfter lines e next → FollowsEdge m e reported new → Adds b c (reported_text reported)
    → Watched f next new a c
watched_more f lines next m new e reported a b c w g follows added =
    let t = reported_edge f lines next m new e reported a b w g follows in
    let first : List ℕ = readings_text (ended_before (line_of_edges f.edges) lines.from) in
    let whole : readings_text (ended_before (line_of_edges f.edges) next.from) ≡ first ++ reported_text reported =
    ap readings_text t.ended ∙ text_more (ended_before (line_of_edges f.edges) lines.from) reported in
    record {
      left = t.left;
      file = t.file;
      end = t.end;
      level = t.level;
      before = t.before;
      heard = t.heard;
      so_far = subst (Adds a c) (sym whole) ((then) a b c first (reported_text reported) w.so_far added);
    }

-- ---- the end of a file

end_after : (lines : List (List ℕ)) (number : ℕ) (is_low : Bool) (from : ℕ) (f : EdgeFile) → edges_read lines number is_low from ≡ Ok f → from ≤ f.end + 1
end_after [] number is_low from f h = cc
end_after (line ∷ lines) number is_low from f h = by_skip (is_skipped line) h (λ n b m g k. end_after lines n b m g k)
  where
    by_line : (o : Result EdgeLine ℕ) → read_line number is_low from o (λ e. edges_read lines (number + 1) e.low (e.at + 1)) (λ t. end_read lines (number + 1) t) ≡ Ok f
        → ((n : ℕ) (b : Bool) (m : ℕ) (g : EdgeFile) → edges_read lines n b m ≡ Ok g → m ≤ g.end + 1) → from ≤ f.end + 1
    by_line (Err word) k ih = cc
    by_line (Ok (Edge e)) k ih = by_turn (is_in_turn is_low from e) refl k
      where
        right : (x y : Bool) → (x && y) ≡ true → y ≡ true
        right true y j = j
        right false y j = cc

        by_turn : (c : Bool) → is_in_turn is_low from e ≡ c → (if c then with_edge e (edges_read lines (number + 1) e.low (e.at + 1)) else Err (fault.Order number (word_out_of_turn is_low e))) ≡ Ok f → from ≤ f.end + 1
        by_turn true t j =
            let g = edge_before e (edges_read lines (number + 1) e.low (e.at + 1)) f j in
            let after : nat_le from e.at ≡ true = right (turns is_low e) (nat_le from e.at) t in
            let start : from ≤ e.at = grind (arith, nat_tests) in
            let same : f.end ≡ g.left.end = ap (λ (x : EdgeFile). x.end) g.same in
            omega (arith, start, same, ih (number + 1) e.low (e.at + 1) g.left g.is)
        by_turn false t j = cc
    by_line (Ok (End t)) k ih = by_time (nat_le from (t + 1)) refl k
      where
        by_time : (c : Bool) → nat_le from (t + 1) ≡ c → (if c then end_read lines (number + 1) t else Err (fault.Order number 0)) ≡ Ok f → from ≤ f.end + 1
        by_time true e j =
            let same : f.end ≡ t = ap (λ (x : EdgeFile). x.end) (end_none lines (number + 1) t f j) in
            let start : from ≤ t + 1 = grind (arith, nat_tests) in
            omega (arith, same, start)
        by_time false e j = cc

    by_skip : (c : Bool) → (if c then edges_read lines (number + 1) is_low from
        else read_line number is_low from (edge_line_of line) (λ e. edges_read lines (number + 1) e.low (e.at + 1)) (λ t. end_read lines (number + 1) t)) ≡ Ok f
        → ((n : ℕ) (b : Bool) (m : ℕ) (g : EdgeFile) → edges_read lines n b m ≡ Ok g → m ≤ g.end + 1) → from ≤ f.end + 1
    by_skip true k ih = ih (number + 1) is_low from f k
    by_skip false k ih = by_line (edge_line_of line) k ih

-- what follows an edge does not begin after the end
edge_by : (f : EdgeFile) (lines next : EdgeLines) (m : Watcher) (e : EdgeOf) (a b : Tally) → Watched f lines m a b → GoesAfter lines e next → e.at ≤ f.end
edge_by f lines next m e a b w g =
    let b = edge_before e (file_left next) w.left (sym g.file ∙ w.file) in
    let late = end_after (lines_of next.rest.now) next.number next.is_low next.from b.left b.is in
    let same : b.left.end ≡ f.end = ap (λ (x : EdgeFile). x.end) (sym b.same) ∙ w.end in
    omega (arith, late, same, g.from)

-- the line of an edge's reading was cut off
pub cut_edge : (f : EdgeFile) (lines next : EdgeLines) (m new : Watcher) (e : EdgeOf) (reported : Option Listed) (a b c : Tally)
    → Watched f lines m a b → GoesAfter lines e next → FollowsEdge m e reported new → Adds b c (reported_text reported) → c.failed ≡ true → Adds a c (readings_text (file_readings f))
cut_edge f lines next m new e reported a b c w g follows added failed =
    let t = reported_edge f lines next m new e reported a b w g follows in
    let rest = ended_first (line_of_edges f.edges) e.at f.end (edge_by f lines next m e a b w g) in
    let before : List ℕ = readings_text (ended_before (line_of_edges f.edges) lines.from) in
    let ended : ended_by (line_of_edges f.edges) e.at ≡ ended_before (line_of_edges f.edges) lines.from ++ option_to_list reported =
    sym (ap (ended_before (line_of_edges f.edges)) (g.from ∙ (let x : e.at + 1 ≡ suc e.at = omega arith in x))) ∙ t.ended in
    let whole : readings_text (file_readings f) ≡ (before ++ reported_text reported) ++ readings_text rest.0 =
    ap readings_text (rest.1 ∙ ap (λ (xs : List Listed). xs ++ rest.0) ended) ∙ flat_map-append listed_line (ended_before (line_of_edges f.edges) lines.from ++ option_to_list reported) rest.0
    ∙ ap (λ (xs : List ℕ). xs ++ readings_text rest.0) (text_more (ended_before (line_of_edges f.edges) lines.from) reported) in
    subst (Adds a c) (sym whole) (cut_short a c (before ++ reported_text reported) (readings_text rest.0) failed ((then) a b c before (reported_text reported) w.so_far added))

same_file : (a b : EdgeFile) (r : Result EdgeFile EdgeFault) → r ≡ Ok a → r ≡ Ok b → a ≡ b
same_file a b r h k = cc

-- the last reading, and with it the whole list
all_read : (f : EdgeFile) (lines : EdgeLines) (m : Watcher) (t : ℕ) (reported : Option Listed) (a b : Tally) → Watched f lines m a b
    → file_left lines ≡ Ok (record { edges = []; end = t }) → lines.from ≤ t + 1 → FollowsEnd m t reported
    → readings_text (file_readings f) ≡ readings_text (ended_before (line_of_edges f.edges) lines.from) ++ reported_text reported
all_read f lines m t reported a b w file l follows =
    let left : w.left ≡ record { edges = []; end = t } = same_file w.left (record { edges = []; end = t }) (file_left lines) w.file file in
    let end : f.end ≡ t = sym w.end ∙ ap (λ (x : EdgeFile). x.end) left in
    let level : (u : ℕ) → lines.from ≤ u → line_of_edges f.edges u ≡ lines.is_low = λ u k. w.level u k ∙ ap (λ (x : EdgeFile). level_at lines.is_low x.edges u) left in
    ap readings_text (ap (readings_of (line_of_edges f.edges)) end
    ∙ follows (line_of_edges f.edges) lines.from w.heard l (λ u k s. level u k ∙ sym w.before ∙ sym w.heard.stood.level))
    ∙ text_more (ended_before (line_of_edges f.edges) lines.from) reported

pub ended_so : (f : EdgeFile) (lines : EdgeLines) (m : Watcher) (t : ℕ) (reported : Option Listed) (a b c : Tally)
    → Watched f lines m a b → file_left lines ≡ Ok (record { edges = []; end = t }) → lines.from ≤ t + 1 → FollowsEnd m t reported → Adds b c (reported_text reported)
    → Adds a c (readings_text (file_readings f))
ended_so f lines m t reported a b c w file l follows added =
    subst (Adds a c) (sym (all_read f lines m t reported a b w file l follows)) ((then) a b c (readings_text (ended_before (line_of_edges f.edges) lines.from)) (reported_text reported) w.so_far added)

-- a file without a fault has none where it is read on
pub no_fault : (f : EdgeFile) (lines : EdgeLines) (m : Watcher) (a b : Tally) (x : EdgeFault) → Watched f lines m a b → file_left lines ≡ Err x → ⊥
no_fault f lines m a b x w e = no w.left (file_left lines) w.file e
  where
    no : (a : EdgeFile) (r : Result EdgeFile EdgeFault) → r ≡ Ok a → r ≡ Err x → ⊥
    no a r h k = cc

-- ---- what the reader of the lines answers

pub edge_read : (old new : EdgeLines) (l : EdgeLine) (e : EdgeOf) → ReadsOn old (Ok l) new → l ≡ Edge e → GoesAfter old e new
edge_read old new l e h line = subst (λ x. ReadsOn old (Ok x) new) line h

pub end_read_so : (old new : EdgeLines) (l : EdgeLine) (t : ℕ) → ReadsOn old (Ok l) new → l ≡ End t → (file_left old ≡ Ok (record { edges = []; end = t })) × (old.from ≤ t + 1) × (t ≤ 2000000000000)
end_read_so old new l t h line = subst (λ x. ReadsOn old (Ok x) new) line h
