-- The changes that a dump's words indicate one of its wires.
use Rattle.std.proofs.Common.{◌≡◌, ℕ, zero, suc, ◌+◌, ◌^◌, ◌<◌, ◌≤◌, ◌&&◌, ◌||◌, Bool, true, false, nat_lt, if◌then◌else◌, List, [], ◌∷◌, ◌++◌, refl, sym, ap, ◌∙◌, arith, append_assoc, append-nil}
use Rattle.std.specs.List.{flat_map, list_any, range_with_len}
use Rattle.std.specs.Str.{bytes_eq}
use Rattle.line_wave.specs.declared.Stretch.{Stretch}
use Rattle.line_wave.specs.Line.{line_of}
use Rattle.line_wave.specs.Bounds.{latest_instant}
use Rattle.capture_core.proofs.Numbers.{decimal_value}
use Rattle.capture_vcd.specs.Text.{last, time_line}
use Rattle.capture_vcd.specs.Wire.{Change, changes_in, is_by, level_of, words_in}
use Rattle.capture_vcd.specs.declared.reader.Section.TheVariants as section
use Rattle.capture_wires.specs.Wires.{high_at_first, id_of, instant_text, turns, wires_text}
use Rattle.capture_laws.specs.WireDumps.{AreSpans, Span, spans_text, wire_at}
use Rattle.capture_laws.proofs.Levels.{change_by, micro, own_change, own_changes, span_changes}
use Rattle.capture_laws.proofs.Words.{change_word, change_words, instant_words, instant_words_by, other_id, own_id, time_words, value_word, value_words, words_instant}

-- what words report of the wire of a number
abbrev pub reported : ℕ → ℕ → List (List ℕ) → List Change
reported k tick words = changes_in (id_of k ∷ []) tick section.Free words

-- ---- a value

value_reported : (k tick number : ℕ) (low own : Bool) (words : List (List ℕ)) → bytes_eq (id_of number ∷ []) (id_of k ∷ []) ≡ own
    → reported k tick (value_word low number ∷ words) ≡ change_by own low tick ++ reported k tick words
value_reported k tick number true true words e = rw e refl
value_reported k tick number true false words e = rw e refl
value_reported k tick number false true words e = rw e refl
value_reported k tick number false false words e = rw e refl

own_value : (k tick number : ℕ) (turn low : Bool) (words : List (List ℕ)) → number ≡ k → reported k tick (change_word turn low number ++ words) ≡ change_by turn low tick ++ reported k tick words
own_value k tick number true low words e =
    value_reported k tick number low true words (ap (λ n. bytes_eq (id_of n ∷ []) (id_of k ∷ [])) e ∙ own_id k)
own_value k tick number false low words e = refl

other_value : (k tick number : ℕ) (turn low : Bool) (words : List (List ℕ)) → (number ≡ k → ⊥) → reported k tick (change_word turn low number ++ words) ≡ reported k tick words
other_value k tick number true low words h = value_reported k tick number low false words (other_id number k h)
other_value k tick number false low words h = refl

-- ---- the values of an instant

abbrev first_word : ℕ → ℕ → List Stretch → List (List ℕ)
first_word t number wire = change_word (turns (line_of wire) t) (line_of wire t) number

more_words : (k tick t number : ℕ) (wire : List Stretch) (wires : List (List Stretch)) (words : List (List ℕ))
    → reported k tick (change_words t number (wire ∷ wires) ++ words) ≡ reported k tick (first_word t number wire ++ (change_words t (number + 1) wires ++ words))
more_words k tick t number wire wires words = ap (reported k tick) (append_assoc (first_word t number wire) (change_words t (number + 1) wires) words)

none_reported : (k tick t number : ℕ) (wires : List (List Stretch)) (words : List (List ℕ)) → k < number → reported k tick (change_words t number wires ++ words) ≡ reported k tick words
none_reported k tick t number [] words l = refl
none_reported k tick t number (wire ∷ wires) words l =
    more_words k tick t number wire wires words
    ∙ other_value k tick number (turns (line_of wire) t) (line_of wire t) (change_words t (number + 1) wires ++ words) (λ e. omega (arith, e, l))
    ∙ none_reported k tick t (number + 1) wires words (omega (arith, l))

-- a wire that is not there never turns
and_no : (b : Bool) → (b && false) ≡ false
and_no true = refl
and_no false = refl

no_wire : (t : ℕ) → turns (line_of []) t ≡ false
no_wire t = and_no (nat_lt 0 t)

own_reported : (k tick t number place : ℕ) (wires : List (List Stretch)) (words : List (List ℕ)) → number + place ≡ k
    → reported k tick (change_words t number wires ++ words) ≡ change_by (turns (line_of (wire_at place wires)) t) (line_of (wire_at place wires) t) tick ++ reported k tick words
own_reported k tick t number place [] words e = ap (λ b. change_by b false tick ++ reported k tick words) (sym (no_wire t))
own_reported k tick t number zero (wire ∷ wires) words e =
    let here : number ≡ k = omega (arith, e) in
    more_words k tick t number wire wires words
    ∙ own_value k tick number (turns (line_of wire) t) (line_of wire t) (change_words t (number + 1) wires ++ words) here
    ∙ ap (λ cs. change_by (turns (line_of wire) t) (line_of wire t) tick ++ cs) (none_reported k tick t (number + 1) wires words (omega (arith, here)))
own_reported k tick t number (suc place) (wire ∷ wires) words e =
    more_words k tick t number wire wires words
    ∙ other_value k tick number (turns (line_of wire) t) (line_of wire t) (change_words t (number + 1) wires ++ words) (λ s. omega (arith, e, s))
    ∙ own_reported k tick t (number + 1) place wires words (omega (arith, e))

-- ---- an instant

none_turns : (t : ℕ) (wires : List (List Stretch)) (place : ℕ) → list_any (λ wire. turns (line_of wire) t) wires ≡ false → turns (line_of (wire_at place wires)) t ≡ false
none_turns t [] place h = no_wire t
none_turns t (wire ∷ wires) place h = by (turns (line_of wire) t) refl h place (λ rest place. none_turns t wires place rest)
  where
    by : (b : Bool) → turns (line_of wire) t ≡ b → (b || list_any (λ w. turns (line_of w) t) wires) ≡ false → (place : ℕ)
        → (list_any (λ w. turns (line_of w) t) wires ≡ false → (place : ℕ) → turns (line_of (wire_at place wires)) t ≡ false)
        → turns (line_of (wire_at place (wire ∷ wires))) t ≡ false
    by true e k place more = cc
    by false e k zero more = e
    by false e k (suc place) more = more k place

-- whatever time came before
abbrev pub Reports : ℕ → List (List ℕ) → List Change → Type 0
Reports k words cs = (tick : ℕ) → reported k tick words ≡ cs

instant_reported : (k t : ℕ) (wires : List (List Stretch)) (words : List (List ℕ)) (cs : List Change) → t < 2 ^ 64 → Reports k words cs
    → Reports k (instant_words wires t ++ words) (own_change (line_of (wire_at k wires)) t ++ cs)
instant_reported k t wires words cs small rest tick = by (list_any (λ wire. turns (line_of wire) t) wires) refl
  where
    timed : reported k tick (time_line t ∷ (change_words t 0 wires ++ words)) ≡ reported k t (change_words t 0 wires ++ words)
    timed = ap (λ n. reported k n (change_words t 0 wires ++ words)) (decimal_value t small)

    by : (b : Bool) → list_any (λ wire. turns (line_of wire) t) wires ≡ b → reported k tick (instant_words_by b t wires ++ words) ≡ own_change (line_of (wire_at k wires)) t ++ cs
    by true e = timed ∙ own_reported k t t 0 k wires words (omega arith) ∙ ap (λ xs. own_change (line_of (wire_at k wires)) t ++ xs) (rest t)
    by false e = rest tick ∙ ap (λ b. change_by b (line_of (wire_at k wires) t) t ++ cs) (sym (none_turns t wires k e))

-- ---- all of them

wires_reported : (k : ℕ) (wires : List (List Stretch)) (from count : ℕ) (text : List ℕ) (cs : List Change) → from + count ≤ 2 ^ 64 → Reports k (words_in text) cs
    → Reports k (words_in (wires_text wires from count ++ text)) (own_changes (line_of (wire_at k wires)) from count ++ cs)
wires_reported k wires from zero text cs small rest tick = rest tick
wires_reported k wires from (suc count) text cs small rest tick =
    ap (λ t. reported k tick (words_in t)) (append_assoc (instant_text wires from) (wires_text wires (from + 1) count) text)
    ∙ ap (reported k tick) (words_instant wires from (wires_text wires (from + 1) count ++ text) (omega (arith, small)))
    ∙ instant_reported k from wires (words_in (wires_text wires (from + 1) count ++ text)) (own_changes (line_of (wire_at k wires)) (from + 1) count ++ cs) (omega (arith, small))
    (wires_reported k wires (from + 1) count text cs (omega (arith, small)) rest) tick
    ∙ sym (append_assoc (own_change (line_of (wire_at k wires)) from) (own_changes (line_of (wire_at k wires)) (from + 1) count) cs)

-- spans end by an end
pub ends_span : (from end : ℕ) (ss : List Span) → AreSpans from end ss → from ≤ end + 1
ends_span from end [] h = h
ends_span from end (s ∷ ss) h = let a : from ≤ s.from = h.0 in let b = ends_span (s.from + s.count) end ss h.2 in omega (arith, a, b)

spans_reported : (k from end : ℕ) (spans : List Span) (text : List ℕ) (cs : List Change) → AreSpans from end spans → end ≤ latest_instant → Reports k (words_in text) cs
    → Reports k (words_in (spans_text spans ++ text)) (span_changes k spans ++ cs)
spans_reported k from end [] text cs h low rest tick = rest tick
spans_reported k from end (s ∷ ss) text cs h low rest tick =
    let by = ends_span (s.from + s.count) end ss h.2 in
    ap (λ t. reported k tick (words_in t)) (append_assoc (wires_text s.wires s.from s.count) (spans_text ss) text)
    ∙ wires_reported k s.wires s.from s.count (spans_text ss ++ text) (span_changes k ss ++ cs) (omega (arith, by, low)) (spans_reported k (s.from + s.count) end ss text cs h.2 low rest) tick
    ∙ sym (append_assoc (own_changes (line_of (wire_at k s.wires)) s.from s.count) (span_changes k ss) cs)

-- after the last time nothing comes
last_reported : (k end : ℕ) → end ≤ latest_instant → Reports k (words_in (last end)) []
last_reported k end low tick = ap (reported k tick) (time_words end [] (omega (arith, low)))

pub body_reported : (k from end : ℕ) (spans : List Span) → AreSpans from end spans → end ≤ latest_instant → Reports k (words_in (spans_text spans ++ last end)) (span_changes k spans)
body_reported k from end spans h low tick = spans_reported k from end spans (last end) [] h low (last_reported k end low) tick ∙ append-nil (span_changes k spans)

-- ---- at first each wire is high

level_high : (b own : Bool) (tick u : ℕ) (cs : List Change) → b ≡ false → level_of micro b (change_by own false tick ++ cs) u ≡ level_of micro false cs u
level_high b true tick u cs h = by (is_by micro tick u)
  where
    by : (c : Bool) → level_of micro (if c then false else b) cs u ≡ level_of micro false cs u
    by true = refl
    by false = ap (λ x. level_of micro x cs u) h
level_high b false tick u cs h = ap (λ x. level_of micro x cs u) h

pub highs_reported : (k number count tick u : ℕ) (text : List ℕ)
    → level_of micro false (reported k tick (words_in (flat_map high_at_first (range_with_len number count) ++ text))) u ≡ level_of micro false (reported k tick (words_in text)) u
highs_reported k number zero tick u text = refl
highs_reported k number (suc count) tick u text =
    ap (λ t. level_of micro false (reported k tick (words_in t)) u) (append_assoc (high_at_first number) (flat_map high_at_first (range_with_len (number + 1) count)) text)
    ∙ ap (λ ws. level_of micro false (reported k tick ws) u) (value_words false number (flat_map high_at_first (range_with_len (number + 1) count) ++ text))
    ∙ ap (λ cs. level_of micro false cs u)
    (value_reported k tick number false (bytes_eq (id_of number ∷ []) (id_of k ∷ [])) (words_in (flat_map high_at_first (range_with_len (number + 1) count) ++ text)) refl)
    ∙ level_high false (bytes_eq (id_of number ∷ []) (id_of k ∷ [])) tick u (reported k tick (words_in (flat_map high_at_first (range_with_len (number + 1) count) ++ text))) refl
    ∙ highs_reported k (number + 1) count tick u text
