-- A reader takes each line of the changes of several wires.
use Rattle.std.proofs.Common.{◌≡◌, ℕ, zero, suc, ◌+◌, ◌≤◌, ◌==◌, ◌&&◌, Bool, true, false, nat_lt, nat_le, if◌then◌else◌, List, [], ◌∷◌, ◌++◌, length, Option, Some, None, Ok, refl, sym, ap, ◌∙◌, subst, arith, append_assoc, ne_eqb}
use Rattle.std.specs.Fmt.{decimal}
use Rattle.std.specs.List.{flat_map, list_any, range_with_len}
use Rattle.std.specs.Option.{option_to_list}
use Rattle.std.specs.Str.{bytes_eq}
use Rattle.std.proofs.lemmas.Bool.Decides.{nat_tests}
use Rattle.line_wave.specs.declared.Edge.{Edge}
use Rattle.line_wave.specs.declared.Stretch.{Stretch}
use Rattle.line_wave.specs.Line.{line_of}
use Rattle.line_wave.specs.Bounds.{latest_instant}
use Rattle.text_core.specs.Lines.{lines_of}
use Rattle.capture_core.specs.Track.{Moved, differ, last_edge, track_move, with_level}
use Rattle.capture_core.specs.declared.track.Track.{Track}
use Rattle.capture_core.specs.Texts.{Lacks}
use Rattle.capture_core.proofs.Numbers.{number_again}
use Rattle.capture_core.proofs.Texts.{line_before}
use Rattle.capture_core.specs.Reading.{at_word, lines_read, with_edges, words_read}
use Rattle.capture_core.proofs.Passing.{line_passed, word_taken}
use Rattle.capture_vcd.specs.Scale.{instant_of}
use Rattle.capture_vcd.specs.Dump.{State, after_time, dump_form, no_edge, parts_of, timed_by, took}
use Rattle.capture_vcd.specs.Text.{last, time_line}
use Rattle.capture_vcd.specs.declared.reader.Section.TheVariants as section
use Rattle.capture_vcd.proofs.Texts.{time_parts, time_plain}
use Rattle.capture_wires.specs.Wires.{change_text, changes_from, high_at_first, id_of, instant_text, turns, wires_text}
use Rattle.capture_laws.specs.WireDumps.{AreSpans, Span, spans_text}
use Rattle.capture_laws.proofs.Levels.{micro}
use Rattle.capture_laws.proofs.Words.{line_parted, value_parts, value_plain, value_word}
use Rattle.capture_laws.proofs.Changes.{ends_span}

-- what is left is read up to an end
pub record Ends (end : ℕ) (text : List ℕ) (s : State) (number : ℕ) : Type 0 where
  pub edges : List Edge
  pub is : lines_read dump_form number (lines_of text) s ≡ Ok (record { edges = edges; end = end })

abbrev pub AllEnd : ℕ → List ℕ → State → Type 0
AllEnd end text s = (number : ℕ) → Ends end text s number

-- ---- a line

pub line_ends : (end : ℕ) (line rest : List ℕ) (s t : State) (edges : List Edge) → Lacks (λ c. c == 10) line
    → ((number : ℕ) → words_read dump_form number 0 (parts_of line) s ≡ Ok (record { edges = edges; state = t })) → AllEnd end rest t → AllEnd end (line ++ 10 ∷ rest) s
line_ends end line rest s t edges plain h more number =
    let e = more (number + 1) in
    record {
      edges = edges ++ e.edges;
      is = ap (λ ls. lines_read dump_form number ls s) (line_before line rest plain) ∙ line_passed dump_form number line (lines_of rest) s t edges (h number) ∙ ap (with_edges edges) e.is;
    }

-- one word alone
pub word_ends : (end : ℕ) (line rest : List ℕ) (s t : State) (edge : Option Edge) → Lacks (λ c. c == 10) line → parts_of line ≡ line ∷ [] → took line s ≡ Ok (record { state = t; edge = edge })
    → AllEnd end rest t → AllEnd end (line ++ 10 ∷ rest) s
word_ends end line rest s t edge plain one h more =
    line_ends end line rest s t (option_to_list edge ++ []) plain (λ number. ap (λ ws. words_read dump_form number 0 ws s) one ∙ word_taken dump_form number 0 line [] s (record { state = t; edge = edge }) (ap (at_word 0) h)) more

-- ---- among the changes

-- where a reader stands
abbrev pub stood : List ℕ → List ℕ → Track → State
stood asked candidate track = record {
  name = asked;
  section = section.Free;
  scale = Some micro;
  id = Some (33 ∷ []);
  candidate = candidate;
  is_data = true;
  track = track;
}

-- that has come to an instant by then, and not past the end
abbrev pub Reads : List ℕ → List ℕ → ℕ → ℕ → List ℕ → Type 0
Reads asked candidate end at text = (track : Track) → track.at ≤ at → track.at ≤ end → AllEnd end text (stood asked candidate track)

-- a value
value_taken : (asked candidate : List ℕ) (track : Track) (number : ℕ) (low own : Bool) → bytes_eq (id_of number ∷ []) (33 ∷ []) ≡ own
    → took (value_word low number) (stood asked candidate track) ≡ no_edge (stood asked candidate (if own then with_level low track else track))
value_taken asked candidate track number true true e = rw e refl
value_taken asked candidate track number true false e = rw e refl
value_taken asked candidate track number false true e = rw e refl
value_taken asked candidate track number false false e = rw e refl

same_at : (own low : Bool) (track : Track) → (if own then with_level low track else track).at ≡ track.at
same_at true low track = refl
same_at false low track = refl

value_reads : (asked candidate : List ℕ) (end at number : ℕ) (low : Bool) (rest : List ℕ) → Reads asked candidate end at rest → Reads asked candidate end at (value_word low number ++ 10 ∷ rest)
value_reads asked candidate end at number low rest more track by early =
    let own = bytes_eq (id_of number ∷ []) (33 ∷ []) in
    let next = if own then with_level low track else track in
    let same : next.at ≡ track.at = same_at own low track in
    word_ends end (value_word low number) rest (stood asked candidate track) (stood asked candidate next) None (value_plain low number) (value_parts low number)
    (value_taken asked candidate track number low own refl) (more next (omega (arith, same, by)) (omega (arith, same, early)))

-- a time
came : (t : ℕ) (track : Track) → track.at ≤ t → (m : Moved) × (track_move t track ≡ Some m) × (m.track.at ≡ t)
came t track after = by (nat_lt track.at t && differ track.was_low track.is_low) refl
  where
    late : nat_lt t track.at ≡ false
    late = grind (arith, nat_tests)

    by : (b : Bool) → (nat_lt track.at t && differ track.was_low track.is_low) ≡ b → (m : Moved) × (track_move t track ≡ Some m) × (m.track.at ≡ t)
    by true e = (record { track = record track { at = t; was_low = track.is_low }; edge = Some (record { at = track.at; low = track.is_low }) }, rw (late, e) refl, refl)
    by false e = (record { track = record track { at = t }; edge = None }, rw (late, e) refl, refl)

instant_again : (t : ℕ) → t ≤ latest_instant → instant_of micro (decimal t) ≡ Some t
instant_again t low =
    let other : (t == 18446744073709551615) ≡ false = grind (arith, nat_tests) in
    let small : nat_le t latest_instant ≡ true = grind (arith, nat_tests) in
    rw (number_again t (omega arith)) (rw (other, small) refl)

time_taken : (asked candidate : List ℕ) (track : Track) (t : ℕ) → t ≤ latest_instant → took (time_line t) (stood asked candidate track) ≡ after_time (Some t) (stood asked candidate track)
time_taken asked candidate track t low =
    rw (ne_eqb (suc (length (decimal t))) 0 (omega arith)) (ap (λ i. after_time i (stood asked candidate track)) (instant_again t low))

time_reads : (asked candidate : List ℕ) (end t : ℕ) (rest : List ℕ) (track : Track) → track.at ≤ t → t ≤ end → end ≤ latest_instant
    → ((next : Track) → next.at ≡ t → AllEnd end rest (stood asked candidate next)) → AllEnd end (time_line t ++ 10 ∷ rest) (stood asked candidate track)
time_reads asked candidate end t rest track after by low more =
    let m = came t track after in
    word_ends end (time_line t) rest (stood asked candidate track) (stood asked candidate m.0.track) m.0.edge (time_plain t (omega arith)) (time_parts t (omega arith))
    (time_taken asked candidate track t (omega arith) ∙ ap (λ o. timed_by o (stood asked candidate track)) m.1) (more m.0.track m.2)

-- ---- an instant

change_reads : (asked candidate : List ℕ) (end at number : ℕ) (turn low : Bool) (rest : List ℕ) → Reads asked candidate end at rest
    → Reads asked candidate end at ((if turn then (if low then 48 else 49) ∷ id_of number ∷ 10 ∷ [] else []) ++ rest)
change_reads asked candidate end at number true low rest more = value_reads asked candidate end at number low rest more
change_reads asked candidate end at number false low rest more = more

changes_read : (asked candidate : List ℕ) (end at t number : ℕ) (wires : List (List Stretch)) (rest : List ℕ) → Reads asked candidate end at rest
    → Reads asked candidate end at (changes_from t number wires ++ rest)
changes_read asked candidate end at t number [] rest more = more
changes_read asked candidate end at t number (wire ∷ wires) rest more =
    subst (Reads asked candidate end at) (sym (append_assoc (change_text t number wire) (changes_from t (number + 1) wires) rest))
    (change_reads asked candidate end at number (turns (line_of wire) t) (line_of wire t) (changes_from t (number + 1) wires ++ rest)
    (changes_read asked candidate end at t (number + 1) wires rest more))

instant_reads : (asked candidate : List ℕ) (end t : ℕ) (wires : List (List Stretch)) (rest : List ℕ) → t ≤ end → end ≤ latest_instant → Reads asked candidate end (t + 1) rest
    → Reads asked candidate end t (instant_text wires t ++ rest)
instant_reads asked candidate end t wires rest by low more track at early = step (list_any (λ wire. turns (line_of wire) t) wires)
  where
    step : (b : Bool) → AllEnd end ((if b then (35 ∷ (decimal t ++ 10 ∷ [])) ++ changes_from t 0 wires else []) ++ rest) (stood asked candidate track)
    step true =
        subst (λ (text : List ℕ). AllEnd end (35 ∷ text) (stood asked candidate track)) (sym (line_parted (decimal t) (changes_from t 0 wires) rest))
        (time_reads asked candidate end t (changes_from t 0 wires ++ rest) track at by low
        (λ next same. changes_read asked candidate end (t + 1) t 0 wires rest more next (omega (arith, same)) (omega (arith, same, by))))
    step false = more track (omega (arith, at)) early

-- ---- all of them

wires_read : (asked candidate : List ℕ) (end : ℕ) (wires : List (List Stretch)) (from count : ℕ) (rest : List ℕ) → from + count ≤ end + 1 → end ≤ latest_instant
    → Reads asked candidate end (from + count) rest → Reads asked candidate end from (wires_text wires from count ++ rest)
wires_read asked candidate end wires from zero rest by low more = λ track at early. more track (omega (arith, at)) early
wires_read asked candidate end wires from (suc count) rest by low more =
    subst (Reads asked candidate end from) (sym (append_assoc (instant_text wires from) (wires_text wires (from + 1) count) rest))
    (instant_reads asked candidate end from wires (wires_text wires (from + 1) count ++ rest) (omega (arith, by)) low
    (wires_read asked candidate end wires (from + 1) count rest (omega (arith, by)) low (λ track at early. more track (omega (arith, at)) early)))

-- the last time
last_reads : (asked candidate : List ℕ) (end at : ℕ) → end ≤ latest_instant → Reads asked candidate end at (last end)
last_reads asked candidate end at low track by early =
    time_reads asked candidate end end [] track early (omega arith) low (λ next same number. record { edges = option_to_list (last_edge next); is = ap (λ n. Ok (record { edges = option_to_list (last_edge next); end = n })) same })

pub spans_read : (asked candidate : List ℕ) (end from : ℕ) (spans : List Span) → AreSpans from end spans → end ≤ latest_instant → Reads asked candidate end from (spans_text spans ++ last end)
spans_read asked candidate end from [] h low = last_reads asked candidate end from low
spans_read asked candidate end from (s ∷ ss) h low = λ track at early. (
    let a : from ≤ s.from = h.0 in
    let by = ends_span (s.from + s.count) end ss h.2 in
    subst (Reads asked candidate end s.from) (sym (append_assoc (wires_text s.wires s.from s.count) (spans_text ss) (last end)))
    (wires_read asked candidate end s.wires s.from s.count (spans_text ss ++ last end) by low (spans_read asked candidate end (s.from + s.count) ss h.2 low)) track (omega (arith, at, a)) early)

-- each wire is high at first
pub highs_read : (asked candidate : List ℕ) (end at number count : ℕ) (rest : List ℕ) → Reads asked candidate end at rest
    → Reads asked candidate end at (flat_map high_at_first (range_with_len number count) ++ rest)
highs_read asked candidate end at number zero rest more = more
highs_read asked candidate end at number (suc count) rest more =
    subst (Reads asked candidate end at) (sym (append_assoc (high_at_first number) (flat_map high_at_first (range_with_len (number + 1) count)) rest))
    (value_reads asked candidate end at number false (flat_map high_at_first (range_with_len (number + 1) count) ++ rest) (highs_read asked candidate end at (number + 1) count rest more))
