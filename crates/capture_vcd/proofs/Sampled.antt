-- A dump that is read is its wire, sampled.
use Rattle.std.proofs.Common.{◌≡◌, ℕ, ◌+◌, ◌*◌, ◌≤◌, ◌==◌, ◌&&◌, ◌||◌, not, Bool, true, false, nat_le, if◌then◌else◌, List, [], ◌∷◌, ◌++◌, length, drop, filter, slice_index, codes, Option, Some, None, Result, Ok, Err, refl, sym, ap, subst, ◌∙◌, arith, append_assoc, append-nil, ◌⊎◌, inl, inr}
use Rattle.std.specs.List.{flat_map, list_all}
use Rattle.std.specs.Option.{option_to_list}
use Rattle.std.specs.Str.{bytes_eq}
use Rattle.std.proofs.lemmas.Bool.{false≢true}
use Rattle.std.proofs.lemmas.Bool.Decides.{nat_tests}
use Rattle.std.proofs.lemmas.Slice.Eq.{bytes_eq-Decides}
use Rattle.line_wave.specs.declared.Edge.{Edge}
use Rattle.text_core.specs.Lines.{lines_of}
use Rattle.text_core.specs.Number.{is_numeral, value_of}
use Rattle.text_core.specs.declared.at.At.{At}
use Rattle.capture_core.specs.Edges.{Captured, IsCapture}
use Rattle.capture_core.specs.Samples.{Sample, level_in}
use Rattle.capture_core.specs.Track.{Moved, first_track as line_begun, last_edge, track_move, with_level}
use Rattle.capture_core.specs.declared.track.Track.{Track}
use Rattle.capture_core.specs.Recording.{Records}
use Rattle.capture_core.proofs.Recording.{moved_at, records_capture, records_end, records_level, records_line, records_moved}
use Rattle.capture_core.specs.Reading.{Passed as PassedOf, Step as StepOf, at_word, end_read, lines_read, onto, word_read, words_read}
use Rattle.capture_core.specs.declared.fault.Cause.TheVariants as cause
use Rattle.capture_core.specs.declared.fault.Cause.{Cause}
use Rattle.capture_core.proofs.Passing.{line_onward}
use Rattle.capture_vcd.specs.Scale.{count_times, counted_word, instant_of, micros, of_unit, unit_of, within}
use Rattle.capture_vcd.specs.Dump.{State, Stepped, dump_form, end_by, first_state, edges_in, free, in_field, in_section, is_end, is_high, is_mark, is_vector, is_none, is_other_value, no_edge, keyword, end_of_definitions, named_by, parts_of, scalar, scale_begun, scale_made, scale_made_by, after_time, timed_by, took, after_value, vector_value}
use Rattle.capture_vcd.specs.Wire.{Change, Part, Wire, DumpsAreSampled, IsSampled, change_by, change_of, changes_in, femtoseconds, first_of, id_after, is_alone, is_by, is_scalar, is_some_word, last_tick, level_of, scale_after, scale_by, section_after, tick_after, unit_in, unit_made, wire_by, wire_end, wire_from, words_in}
use Rattle.capture_vcd.specs.declared.scale.Count.{Count}
use Rattle.capture_vcd.specs.declared.scale.Count.TheVariants.{One, Ten, Hundred}
use Rattle.capture_vcd.specs.declared.reader.DefinitionField.{DefinitionField}
use Rattle.capture_vcd.specs.declared.reader.DefinitionField.TheVariants as field
use Rattle.capture_vcd.specs.declared.scale.Scale.{Scale as ScaleOf}
use Rattle.capture_vcd.specs.declared.scale.Unit.{Unit as UnitOf}
use Rattle.capture_vcd.specs.declared.scale.Unit.TheVariants.{Second, Millisecond, Microsecond, Nanosecond, Picosecond, Femtosecond}
use Rattle.capture_vcd.specs.declared.reader.Section.{Section}
use Rattle.capture_vcd.specs.declared.reader.Section.TheVariants as section

abbrev Passed : Type 0
Passed = PassedOf State

abbrev Step : Type 0
Step = StepOf State

-- ---- ticks and microseconds

-- a tick, rounded up, is by microsecond u exactly where it is not after the first instant of it
rounded : (unit : UnitOf) (n u : ℕ) → nat_le (of_unit unit n) u ≡ nat_le (n * femtoseconds unit) (u * 1000000000)
rounded Second n u = grind (arith, nat_tests)
rounded Millisecond n u = grind (arith, nat_tests)
rounded Microsecond n u = grind (arith, nat_tests)
rounded Nanosecond n u = grind (arith, nat_tests)
rounded Picosecond n u = grind (arith, nat_tests)
rounded Femtosecond n u = grind (arith, nat_tests)

-- the samples of changes
abbrev sample_of : ScaleOf → Change → Sample
sample_of sc c = record { at = micros sc c.tick; low = c.low }

abbrev samples_of : ScaleOf → List Change → List Sample
samples_of sc [] = []
samples_of sc (c ∷ cs) = sample_of sc c ∷ samples_of sc cs

samples_both : (sc : ScaleOf) (a b : List Change) → samples_of sc (a ++ b) ≡ samples_of sc a ++ samples_of sc b
samples_both sc [] b = refl
samples_both sc (c ∷ a) b = ap (λ l. sample_of sc c ∷ l) (samples_both sc a b)

sampled_so : (sc : ScaleOf) (b : Bool) (cs : List Change) (u : ℕ) → level_in b (samples_of sc cs) u ≡ level_of sc b cs u
sampled_so sc b [] u = refl
sampled_so sc b (c ∷ cs) u =
    ap (λ t. level_in (if t then c.low else b) (samples_of sc cs) u) (rounded sc.unit (count_times sc.count c.tick) u)
    ∙ sampled_so sc (if is_by sc c.tick u then c.low else b) cs u

-- ---- a word among changes

-- what the definitions gave
record Known : Type 0 where
  name : List ℕ
  candidate : List ℕ
  scale : ScaleOf
  id : List ℕ

-- where a reader stands among the changes
abbrev among : Known → Section → Track → State
among k x t = record {
  name = k.name;
  section = x;
  scale = Some k.scale;
  id = Some k.id;
  candidate = k.candidate;
  is_data = true;
  track = t;
}

-- it is led on: to a tick, with a change or none, and what comes next belongs to this section
record Goes (k : Known) (old : Track) (step : Step) (change : Option Change) (tick : ℕ) (x : Section) : Type 0 where
  track : Track
  is : step.state ≡ among k x track
  at : track.at ≡ micros k.scale tick
  early : track.at ≤ 2000000000000
  more : (edges : List Edge) (samples : List Sample) (end : ℕ) → Records track edges samples end
      → Records old (option_to_list step.edge ++ edges) (samples_of k.scale (option_to_list change) ++ samples) end

abbrev GoesBy : Known → Track → Stepped → Option Change → ℕ → Section → Type 0
GoesBy k old (Err c) change tick x = Unit {0}
GoesBy k old (Ok step) change tick x = Goes k old step change tick x

quiet : (k : Known) (x : Section) (t : Track) (tick : ℕ) → t.at ≡ micros k.scale tick → t.at ≤ 2000000000000 → GoesBy k t (no_edge (among k x t)) None tick x
quiet k x t tick at early = record { track = t; is = refl; at = at; early = early; more = λ edges samples end r. r }

-- a value
value_goes : (k : Known) (v : Option Bool) (word : List ℕ) (x : Section) (t : Track) (tick : ℕ) → t.at ≡ micros k.scale tick → t.at ≤ 2000000000000
    → GoesBy k t (no_edge (after_value v word (among k x t))) (change_by v (bytes_eq word k.id) tick) tick x
value_goes k None word x t tick at early = quiet k x t tick at early
value_goes k (Some low) word x t tick at early = reported (bytes_eq word k.id)
  where
    reported : (c : Bool) → GoesBy k t (no_edge (if c then among k x (with_level low t) else among k x t)) (if c then Some (record { tick = tick; low = low }) else None) tick x
    reported false = quiet k x t tick at early
    reported true = record {
      track = with_level low t;
      is = refl;
      at = at;
      early = early;
      more = λ edges samples end r. subst (λ n. Records t edges (record { at = n; low = low } ∷ samples) end) at (records_level t low edges samples end r);
    }

scalar_goes : (k : Known) (low : Bool) (rest : List ℕ) (t : Track) (tick : ℕ) → t.at ≡ micros k.scale tick → t.at ≤ 2000000000000
    → GoesBy k t (no_edge (scalar low rest (among k section.Free t))) (if not (length rest == 0) then change_by (Some low) (bytes_eq rest k.id) tick else None) tick
    (if length rest == 0 then section.Value (Some low) else section.Free)
scalar_goes k low rest t tick at early = by (length rest == 0)
  where
    by : (c : Bool) → GoesBy k t (no_edge (if c then among k (section.Value (Some low)) t else after_value (Some low) rest (among k section.Free t)))
        (if not c then change_by (Some low) (bytes_eq rest k.id) tick else None) tick (if c then section.Value (Some low) else section.Free)
    by true = quiet k (section.Value (Some low)) t tick at early
    by false = value_goes k (Some low) rest section.Free t tick at early

-- a time
time_goes : (k : Known) (word : List ℕ) (t : Track) → GoesBy k t (after_time (instant_of k.scale word) (among k section.Free t)) None (value_of word) section.Free
time_goes k word t = numeral (is_numeral word)
  where
    moves : (o : Option Moved) → track_move (micros k.scale (value_of word)) t ≡ o → micros k.scale (value_of word) ≤ 2000000000000
        → GoesBy k t (timed_by o (among k section.Free t)) None (value_of word) section.Free
    moves None e low = tt
    moves (Some m) e low =
        let at = moved_at (micros k.scale (value_of word)) t m e in
        record {
          track = m.track;
          is = refl;
          at = at;
          early = omega arith;
          more = λ edges samples end r. records_moved (micros k.scale (value_of word)) t m edges samples end e r;
        }

    limits : (c : Bool) → nat_le (micros k.scale (value_of word)) 2000000000000 ≡ c
        → GoesBy k t (after_time (if c then Some (micros k.scale (value_of word)) else None) (among k section.Free t)) None (value_of word) section.Free
    limits true e = moves (track_move (micros k.scale (value_of word)) t) refl (grind (arith, nat_tests))
    limits false e = tt

    fits : (c : Bool)
        → GoesBy k t (after_time (if c then None else (if nat_le (micros k.scale (value_of word)) 2000000000000 then Some (micros k.scale (value_of word)) else None)) (among k section.Free t)) None (value_of word) section.Free
    fits true = tt
    fits false = limits (nat_le (micros k.scale (value_of word)) 2000000000000) refl

    numeral : (c : Bool) → GoesBy k t (after_time (within k.scale (if c then Some (value_of word) else None)) (among k section.Free t)) None (value_of word) section.Free
    numeral true = fits (value_of word == 18446744073709551615)
    numeral false = tt

-- a keyword or a change
abbrev first : List ℕ → ℕ
first word = slice_index word 0

abbrev FreeGoes : Known → List ℕ → Track → ℕ → Type 0
FreeGoes k word t tick =
    GoesBy k t (free word (among k section.Free t)) (change_of k.id section.Free word tick) (tick_after section.Free word tick) (section_after section.Free word)

same_byte : (b n : ℕ) → (b == n) ≡ true → b ≡ n
same_byte b n h = grind (arith, nat_tests)

free_goes : (k : Known) (word : List ℕ) (t : Track) (tick : ℕ) → t.at ≡ micros k.scale tick → t.at ≤ 2000000000000 → FreeGoes k word t tick
free_goes k word t tick at early = dollar (first word == 36) refl
  where
    mark : (c : Bool) → GoesBy k t (no_edge (if c then among k section.Free t else among k section.Skipped t)) None tick (if c then section.Free else section.Skipped)
    mark true = quiet k section.Free t tick at early
    mark false = quiet k section.Skipped t tick at early

    real : (c : Bool) → GoesBy k t (if c then no_edge (among k (section.Value None) t) else Err cause.Word) None tick (section.Value None)
    real true = quiet k (section.Value None) t tick at early
    real false = tt

    binary : (c : Bool) → is_vector word ≡ c → (first word == 36) ≡ false → (first word == 35) ≡ false → (first word == 48) ≡ false → is_high (first word) ≡ false → FreeGoes k word t tick
    binary true e h36 h35 h48 high = rw (h36, h35, h48, high, e) (quiet k (section.Value (vector_value word)) t tick at early)
    binary false e h36 h35 h48 high = rw (h36, h35, h48, high, e) (real (is_other_value (first word)))

    high : (c : Bool) → is_high (first word) ≡ c → (first word == 36) ≡ false → (first word == 35) ≡ false → (first word == 48) ≡ false → FreeGoes k word t tick
    high true e h36 h35 h48 = rw (h36, h35, h48, e) (scalar_goes k false (drop 1 word) t tick at early)
    high false e h36 h35 h48 = binary (is_vector word) refl h36 h35 h48 e

    zero_byte : (c : Bool) → (first word == 48) ≡ c → (first word == 36) ≡ false → (first word == 35) ≡ false → FreeGoes k word t tick
    zero_byte true e h36 h35 = rw (same_byte (first word) 48 e) (scalar_goes k true (drop 1 word) t tick at early)
    zero_byte false e h36 h35 = high (is_high (first word)) refl h36 h35 e

    hash : (c : Bool) → (first word == 35) ≡ c → (first word == 36) ≡ false → FreeGoes k word t tick
    hash true e h36 = rw (same_byte (first word) 35 e) (time_goes k (drop 1 word) t)
    hash false e h36 = zero_byte (first word == 48) refl h36 e

    dollar : (c : Bool) → (first word == 36) ≡ c → FreeGoes k word t tick
    dollar true e = rw (same_byte (first word) 36 e) (mark (is_mark word))
    dollar false e = hash (first word == 35) refl e

-- the sections among changes
abbrev IsAmong : Section → Type 0
IsAmong section.Free = Unit {0}
IsAmong section.Skipped = Unit {0}
IsAmong (section.Value v) = Unit {0}
IsAmong _ = ⊥

among_after : (x : Section) (word : List ℕ) → IsAmong (section_after x word)
among_after section.Free word = by (first word == 36) (is_mark word) (first word == 35) (is_scalar word) (is_alone word)
  where
    by : (a b c d e : Bool)
        → IsAmong (if a then (if b then section.Free else section.Skipped) else if c then section.Free else if d then (if e then section.Value (Some (first word == 48)) else section.Free)
        else section.Value (if is_vector word then vector_value word else None))
    by true true c d e = tt
    by true false c d e = tt
    by false b true d e = tt
    by false b false true true = tt
    by false b false true false = tt
    by false b false false e = tt
among_after section.Skipped word = by (is_end word)
  where
    by : (c : Bool) → IsAmong (if c then section.Free else section.Skipped)
    by true = tt
    by false = tt
among_after section.Scale word = tt
among_after (section.Unit c) word = tt
among_after (section.Variable f) word = tt
among_after (section.Value v) word = tt

-- a word that is not empty
word_goes : (k : Known) (word : List ℕ) (x : Section) (t : Track) (tick : ℕ) → t.at ≡ micros k.scale tick → t.at ≤ 2000000000000 → IsAmong x → is_some_word word ≡ true
    → GoesBy k t (took word (among k x t)) (change_of k.id x word tick) (tick_after x word tick) (section_after x word)
word_goes k word x t tick at early rule some = rw (filled (length word == 0) some) (by x rule)
  where
    filled : (c : Bool) → not c ≡ true → c ≡ false
    filled true h = cc
    filled false h = refl

    skipped : (c : Bool) → GoesBy k t (if c then no_edge (among k section.Free t) else no_edge (among k section.Skipped t)) None tick (if c then section.Free else section.Skipped)
    skipped true = quiet k section.Free t tick at early
    skipped false = quiet k section.Skipped t tick at early

    by : (x : Section) → IsAmong x → GoesBy k t (in_section x word (among k x t)) (change_of k.id x word tick) (tick_after x word tick) (section_after x word)
    by section.Free a = free_goes k word t tick at early
    by section.Skipped a = skipped (is_end word)
    by (section.Value v) a = value_goes k v word section.Free t tick at early
    by section.Scale a = absurd a
    by (section.Unit c) a = absurd a
    by (section.Variable f) a = absurd a

-- ---- words, one after another

abbrev run_onto : List Edge → Option Passed → Option Passed
run_onto edges None = None
run_onto edges (Some p) = Some (record { edges = edges ++ p.edges; state = p.state })

abbrev run_by : Stepped → (State → Option Passed) → Option Passed
run_by (Err c) more = None
run_by (Ok step) more = run_onto (option_to_list step.edge) (more step.state)

-- what words lead to, where none is at fault
abbrev run : List (List ℕ) → State → Option Passed
run [] s = Some (record { edges = []; state = s })
run (word ∷ words) s = run_by (took word s) (run words)

run_after : (edges : List Edge) (o : Option Passed) (p : Passed) → run_onto edges o ≡ Some p → (q : Passed) × (o ≡ Some q) × (p ≡ record { edges = edges ++ q.edges; state = q.state })
run_after edges None p h = cc
run_after edges (Some q) p h =
    let is : record { edges = edges ++ q.edges; state = q.state } ≡ p = cc in
    (q, refl, sym is)

run_first : (st : Stepped) (more : State → Option Passed) (p : Passed) → run_by st more ≡ Some p
    → (step : Step) × (q : Passed) × (st ≡ Ok step) × (more step.state ≡ Some q) × (p ≡ record { edges = option_to_list step.edge ++ q.edges; state = q.state })
run_first (Err c) more p h = cc
run_first (Ok step) more p h = let a = run_after (option_to_list step.edge) (more step.state) p h in (step, a.0, refl, a.1, a.2)

record Ran (k : Known) (t : Track) (p : Passed) (tick : ℕ) (x : Section) (words : List (List ℕ)) : Type 0 where
  records : Records t (p.edges ++ option_to_list (last_edge p.state.track)) (samples_of k.scale (changes_in k.id tick x words)) p.state.track.at
  end : p.state.track.at ≡ micros k.scale (last_tick tick x words)
  early : p.state.track.at ≤ 2000000000000

and_left : (a b : Bool) → (a && b) ≡ true → a ≡ true
and_left true b h = refl
and_left false b h = cc

and_right : (a b : Bool) → (a && b) ≡ true → b ≡ true
and_right true b h = h
and_right false b h = cc

run_more : (k : Known) (t : Track) (step : Step) (p q : Passed) (word : List ℕ) (tick : ℕ) (x : Section) (words : List (List ℕ))
    → (g : Goes k t step (change_of k.id x word tick) (tick_after x word tick) (section_after x word))
    → Ran k g.track q (tick_after x word tick) (section_after x word) words → p ≡ record { edges = option_to_list step.edge ++ q.edges; state = q.state } → Ran k t p tick x (word ∷ words)
run_more k t step p q word tick x words g r is =
    subst (λ (p : Passed). Ran k t p tick x (word ∷ words)) (sym is) (record {
      records = rw (
        append_assoc (option_to_list step.edge) q.edges (option_to_list (last_edge q.state.track)),
        samples_both k.scale (option_to_list (change_of k.id x word tick)) (changes_in k.id (tick_after x word tick) (section_after x word) words),
      )
          (g.more (q.edges ++ option_to_list (last_edge q.state.track)) (samples_of k.scale (changes_in k.id (tick_after x word tick) (section_after x word) words)) q.state.track.at r.records);
      end = r.end;
      early = r.early;
    })

run_ran : (words : List (List ℕ)) (k : Known) (t : Track) (p : Passed) (tick : ℕ) (x : Section) → t.at ≡ micros k.scale tick → t.at ≤ 2000000000000 → IsAmong x → list_all is_some_word words ≡ true
    → run words (among k x t) ≡ Some p → Ran k t p tick x words
run_ran [] k t p tick x at early rule all h =
    let is : record { edges = []; state = among k x t } ≡ p = cc in
    subst (λ (p : Passed). Ran k t p tick x []) is (record { records = records_end t; end = at; early = early })
run_ran (word ∷ words) k t p tick x at early rule all h =
    let f = run_first (took word (among k x t)) (run words) p h in
    let goes = word_goes k word x t tick at early rule (and_left (is_some_word word) (list_all is_some_word words) all) in
    let g : Goes k t f.0 (change_of k.id x word tick) (tick_after x word tick) (section_after x word) =
    subst (λ st. GoesBy k t st (change_of k.id x word tick) (tick_after x word tick) (section_after x word)) f.2 goes in
    let ran = run_ran words k g.track f.1 (tick_after x word tick) (section_after x word) g.at g.early (among_after x word) (and_right (is_some_word word) (list_all is_some_word words) all)
    (subst (λ (s : State). run words s ≡ Some f.1) g.is f.3) in
    run_more k t f.0 p f.1 word tick x words g ran f.4

-- ---- lines and words

run_append : (a b : List (List ℕ)) (s : State) (p q : Passed) → run a s ≡ Some p → run b p.state ≡ Some q → run (a ++ b) s ≡ Some (record { edges = p.edges ++ q.edges; state = q.state })
run_append [] b s p q h k =
    let is : record { edges = []; state = s } ≡ p = cc in
    subst (λ (p : Passed). run b p.state ≡ Some q → run b s ≡ Some (record { edges = p.edges ++ q.edges; state = q.state })) is (λ e. e) k
run_append (word ∷ a) b s p q h k =
    let f = run_first (took word s) (run a) p h in
    let step = f.0 in
    let r = f.1 in
    let state : p.state ≡ r.state = ap (λ (x : Passed). x.state) f.4 in
    let more : run (a ++ b) step.state ≡ Some (record { edges = r.edges ++ q.edges; state = q.state }) = run_append a b step.state r q f.3 (subst (λ (t : State). run b t ≡ Some q) state k) in
    let edges : p.edges ≡ option_to_list step.edge ++ r.edges = ap (λ (x : Passed). x.edges) f.4 in
    ap (λ st. run_by st (run (a ++ b))) f.2 ∙ ap (run_onto (option_to_list step.edge)) more
    ∙ ap (λ es. Some (record { edges = es; state = q.state })) (sym (append_assoc (option_to_list step.edge) r.edges q.edges) ∙ ap (λ es. es ++ q.edges) (sym edges))

words_run : (line number : ℕ) (words : List (List ℕ)) (s : State) (p : Passed) → words_read dump_form line number words s ≡ Ok p → run words s ≡ Some p
words_run line number [] s p h = let is : record { edges = []; state = s } ≡ p = cc in ap Some is
words_run line number (word ∷ words) s p h = by (took word s) h (λ t q e. words_run line (number + 1) words t q e)
  where
    next : (step : Step) (r : Result Passed (At Cause)) → words_read dump_form line (number + 1) words step.state ≡ r → onto (option_to_list step.edge) r ≡ Ok p
        → ((t : State) (q : Passed) → words_read dump_form line (number + 1) words t ≡ Ok q → run words t ≡ Some q) → run_onto (option_to_list step.edge) (run words step.state) ≡ Some p
    next step (Err f) e k ih = cc
    next step (Ok q) e k ih =
        let is : record { edges = option_to_list step.edge ++ q.edges; state = q.state } ≡ p = cc in
        ap (run_onto (option_to_list step.edge)) (ih step.state q e) ∙ ap Some is

    by : (st : Stepped) → word_read line (at_word number st) (words_read dump_form line (number + 1) words) ≡ Ok p
        → ((t : State) (q : Passed) → words_read dump_form line (number + 1) words t ≡ Ok q → run words t ≡ Some q) → run_by st (run words) ≡ Some p
    by (Err c) k ih = cc
    by (Ok step) k ih = next step (words_read dump_form line (number + 1) words step.state) refl k ih

-- a text that is read is what its words lead to
record Runs (lines : List (List ℕ)) (s : State) (e : Captured) : Type 0 where
  passed : Passed
  runs : run (flat_map parts_of lines) s ≡ Some passed
  over : passed.state.is_data ≡ true
  is : e ≡ record { edges = passed.edges ++ option_to_list (last_edge passed.state.track); end = passed.state.track.at }

lines_run : (number : ℕ) (lines : List (List ℕ)) (s : State) (e : Captured) → lines_read dump_form number lines s ≡ Ok e → Runs lines s e
lines_run number [] s e h = by s.is_data refl h
  where
    by : (c : Bool) → s.is_data ≡ c → end_read number s.track (end_by c s.track.at) ≡ Ok e → Runs [] s e
    by true d k =
        let is : record { edges = option_to_list (last_edge s.track); end = s.track.at } ≡ e = cc in
        record { passed = record { edges = []; state = s }; runs = refl; over = d; is = sym is }
    by false d k = cc
lines_run number (line ∷ lines) s e h =
    let l = line_onward dump_form number line lines s e h in
    let more = lines_run (number + 1) lines l.passed.state l.rest l.read in
    record {
      passed = record { edges = l.passed.edges ++ more.passed.edges; state = more.passed.state };
      runs = run_append (parts_of line) (flat_map parts_of lines) s l.passed more.passed (words_run number 0 (parts_of line) s l.passed l.is_passed) more.runs;
      over = more.over;
      is = l.is ∙ ap (λ (f : Captured). record { edges = l.passed.edges ++ f.edges; end = f.end }) more.is
          ∙ ap (λ es. record { edges = es; end = more.passed.state.track.at }) (sym (append_assoc l.passed.edges more.passed.edges (option_to_list (last_edge more.passed.state.track))));
    }

-- empty words say nothing
run_some : (words : List (List ℕ)) (s : State) (p : Passed) → run words s ≡ Some p → (run (filter is_some_word words) s ≡ Some p) × (list_all is_some_word (filter is_some_word words) ≡ true)
run_some [] s p h = (h, refl)
run_some (word ∷ words) s p h = by (length word == 0) refl (λ t q e. run_some words t q e)
  where
    by : (c : Bool) → (length word == 0) ≡ c
        → ((t : State) (q : Passed) → run words t ≡ Some q → (run (filter is_some_word words) t ≡ Some q) × (list_all is_some_word (filter is_some_word words) ≡ true))
        → (run (if not c then word ∷ filter is_some_word words else filter is_some_word words) s ≡ Some p) × (list_all is_some_word (if not c then word ∷ filter is_some_word words else filter is_some_word words) ≡ true)
    by true e ih =
        let still : took word s ≡ no_edge s = ap (λ c. if c then no_edge s else in_section s.section word s) e in
        let k : run_by (no_edge s) (run words) ≡ Some p = ap (λ st. run_by st (run words)) (sym still) ∙ h in
        let f = run_after [] (run words s) p k in
        ih s p (f.1 ∙ ap Some (sym f.2))
    by false e ih =
        let f = run_first (took word s) (run words) p h in
        let more = ih f.0.state f.1 f.3 in (
          ap (λ st. run_by st (run (filter is_some_word words))) f.2 ∙ ap (run_onto (option_to_list f.0.edge)) more.0 ∙ ap Some (sym f.4),
          rw e more.1,
        )

-- ---- the definitions

-- where a reader stands in a section, of which this part is read; what it has noted is what the sections so far say
abbrev Defines : Section → Option Part → Option ScaleOf → Option (List ℕ) → List ℕ → Option ScaleOf → Option (List ℕ) → List ℕ → Type 0
Defines section.Free None noted own candidate scale id name = (noted ≡ scale) × (own ≡ id)
Defines section.Skipped (Some p) noted own candidate scale id name =
    (more : List (List ℕ)) → (scale_after (record { keyword = p.keyword; words = p.words ++ more }) scale ≡ noted) × (id_after name (record { keyword = p.keyword; words = p.words ++ more }) id ≡ own)
Defines section.Scale (Some p) noted own candidate scale id name = (p ≡ record { keyword = codes "$timescale"; words = [] }) × (noted ≡ scale) × (own ≡ id)
Defines (section.Unit count) (Some p) noted own candidate scale id name =
    (word : List ℕ) × (c : Count × List ℕ) × (p ≡ record { keyword = codes "$timescale"; words = word ∷ [] }) × (counted_word word ≡ Some c) × ((length c.1 == 0) ≡ true) × (c.0 ≡ count) × (noted ≡ scale) × (own ≡ id)
Defines (section.Variable field.Kind) (Some p) noted own candidate scale id name = (p ≡ record { keyword = codes "$var"; words = [] }) × (noted ≡ scale) × (own ≡ id)
Defines (section.Variable field.Size) (Some p) noted own candidate scale id name =
    (kind : List ℕ) × (p ≡ record { keyword = codes "$var"; words = kind ∷ [] }) × (noted ≡ scale) × (own ≡ id)
Defines (section.Variable (field.Id is_bit)) (Some p) noted own candidate scale id name =
    (kind : List ℕ) × (size : List ℕ) × (p ≡ record { keyword = codes "$var"; words = kind ∷ size ∷ [] }) × (is_bit ≡ bytes_eq size (codes "1")) × (noted ≡ scale) × (own ≡ id)
Defines (section.Variable (field.Name is_bit)) (Some p) noted own candidate scale id name =
    (kind : List ℕ) × (size : List ℕ) × (p ≡ record { keyword = codes "$var"; words = kind ∷ size ∷ candidate ∷ [] }) × (is_bit ≡ bytes_eq size (codes "1")) × (noted ≡ scale) × (own ≡ id)
Defines _ _ noted own candidate scale id name = ⊥

-- where a reader stands among the definitions
abbrev defining : List ℕ → Section → Option ScaleOf → Option (List ℕ) → List ℕ → State
defining name x noted own candidate = record {
  name = name;
  section = x;
  scale = noted;
  id = own;
  candidate = candidate;
  is_data = false;
  track = line_begun;
}

-- a word of the definitions leads on
record LeadsOn (step : Step) (name : List ℕ) (part : Option Part) (scale : Option ScaleOf) (id : Option (List ℕ)) (word : List ℕ) : Type 0 where
  place : Section
  noted : Option ScaleOf
  own : Option (List ℕ)
  candidate : List ℕ
  is : step ≡ record { state = defining name place noted own candidate; edge = None }
  part_next : Option Part
  scale_next : Option ScaleOf
  id_next : Option (List ℕ)
  defines : Defines place part_next noted own candidate scale_next id_next name
  same : (words : List (List ℕ)) → wire_from name part scale id (word ∷ words) ≡ wire_from name part_next scale_next id_next words

-- or the changes begin
record Begins (step : Step) (name : List ℕ) (part : Option Part) (scale : Option ScaleOf) (id : Option (List ℕ)) (word : List ℕ) : Type 0 where
  known : Known
  is : step ≡ record { state = among known section.Skipped line_begun; edge = None }
  same : (words : List (List ℕ)) → wire_from name part scale id (word ∷ words) ≡ Some (record { scale = known.scale; id = known.id; words = words })

abbrev LeadsBy : Stepped → List ℕ → Option Part → Option ScaleOf → Option (List ℕ) → List ℕ → Type 0
LeadsBy (Err c) name part scale id word = Unit {0}
LeadsBy (Ok step) name part scale id word = LeadsOn step name part scale id word ⊎ Begins step name part scale id word

is_same : (a b : List ℕ) → bytes_eq a b ≡ true → a ≡ b
is_same a b h = (bytes_eq-Decides a b).0 h

-- a keyword, or a word outside of a section
free_leads : (name : List ℕ) (noted : Option ScaleOf) (own : Option (List ℕ)) (candidate : List ℕ) (scale : Option ScaleOf) (id : Option (List ℕ)) (word : List ℕ) → noted ≡ scale → own ≡ id
    → LeadsBy (free word (defining name section.Free noted own candidate)) name None scale id word
free_leads name noted own candidate scale id word ns oi = dollar (first word == 36) refl
  where
    stays : (x : Section) (p : Option Part) → Defines x p noted own candidate scale id name → ((words : List (List ℕ)) → wire_from name None scale id (word ∷ words) ≡ wire_from name p scale id words)
        → LeadsBy (no_edge (defining name x noted own candidate)) name None scale id word
    stays x p d same =
        inl (record { place = x; noted = noted; own = own; candidate = candidate; is = refl; part_next = p; scale_next = scale; id_next = id; defines = d; same = same })

    names : (o : Option ScaleOf) (i : Option (List ℕ)) → o ≡ scale → i ≡ id → (first word == 36) ≡ true → bytes_eq word (codes "$enddefinitions") ≡ true
        → LeadsBy (named_by o i (defining name section.Free o i candidate)) name None scale id word
    names None i e f h36 c = tt
    names (Some sc) None e f h36 c = tt
    names (Some sc) (Some it) e f h36 c =
        inr (record {
          known = record { name = name; candidate = candidate; scale = sc; id = it };
          is = refl;
          same = λ words. rw (h36, c) (ap (λ o. wire_by o id words) (sym e) ∙ ap (λ i. wire_by (Some sc) i words) (sym f));
        })

    others : (c : Bool) → is_end word ≡ c → (first word == 36) ≡ true → bytes_eq word (codes "$enddefinitions") ≡ false → bytes_eq word (codes "$timescale") ≡ false → bytes_eq word (codes "$var") ≡ false
        → LeadsBy (if c then no_edge (defining name section.Free noted own candidate) else no_edge (defining name section.Skipped noted own candidate)) name None scale id word
    others true e h36 c1 c2 c3 = stays section.Free None (ns, oi) (λ words. rw (h36, c1, e) refl)
    others false e h36 c1 c2 c3 =
        stays section.Skipped (Some (record { keyword = word; words = [] })) (λ more. (rw c2 (sym ns), rw c3 (sym oi))) (λ words. rw (h36, c1, e) refl)

    variable : (c : Bool) → bytes_eq word (codes "$var") ≡ c → (first word == 36) ≡ true → bytes_eq word (codes "$enddefinitions") ≡ false → bytes_eq word (codes "$timescale") ≡ false
        → LeadsBy (if c then no_edge (defining name (section.Variable field.Kind) noted own candidate) else if is_end word then no_edge (defining name section.Free noted own candidate) else no_edge (defining name section.Skipped noted own candidate)) name None scale id word
    variable true e h36 c1 c2 =
        let w : word ≡ codes "$var" = is_same word (codes "$var") e in
        stays (section.Variable field.Kind) (Some (record { keyword = word; words = [] })) (ap (λ k. record { keyword = k; words = [] }) w, ns, oi)
        (λ words. subst (λ (v : List ℕ). wire_from name None scale id (v ∷ words) ≡ wire_from name (Some (record { keyword = v; words = [] })) scale id words) (sym w) refl)
    variable false e h36 c1 c2 = others (is_end word) refl h36 c1 c2 e

    time_scale : (c : Bool) → bytes_eq word (codes "$timescale") ≡ c → (first word == 36) ≡ true → bytes_eq word (codes "$enddefinitions") ≡ false
        → LeadsBy (if c then no_edge (defining name section.Scale noted own candidate) else if bytes_eq word (codes "$var") then no_edge (defining name (section.Variable field.Kind) noted own candidate)
        else if is_end word then no_edge (defining name section.Free noted own candidate) else no_edge (defining name section.Skipped noted own candidate)) name None scale id word
    time_scale true e h36 c1 =
        let w : word ≡ codes "$timescale" = is_same word (codes "$timescale") e in
        stays section.Scale (Some (record { keyword = word; words = [] })) (ap (λ k. record { keyword = k; words = [] }) w, ns, oi)
        (λ words. subst (λ (v : List ℕ). wire_from name None scale id (v ∷ words) ≡ wire_from name (Some (record { keyword = v; words = [] })) scale id words) (sym w) refl)
    time_scale false e h36 c1 = variable (bytes_eq word (codes "$var")) refl h36 c1 e

    ends : (c : Bool) → bytes_eq word (codes "$enddefinitions") ≡ c → (first word == 36) ≡ true
        → LeadsBy (if c then end_of_definitions (defining name section.Free noted own candidate) else if bytes_eq word (codes "$timescale") then no_edge (defining name section.Scale noted own candidate)
        else if bytes_eq word (codes "$var") then no_edge (defining name (section.Variable field.Kind) noted own candidate)
        else if is_end word then no_edge (defining name section.Free noted own candidate) else no_edge (defining name section.Skipped noted own candidate)) name None scale id word
    ends true e h36 = names noted own ns oi h36 e
    ends false e h36 = time_scale (bytes_eq word (codes "$timescale")) refl h36 e

    dollar : (c : Bool) → (first word == 36) ≡ c
        → LeadsBy (if c then keyword word (defining name section.Free noted own candidate) else no_edge (defining name section.Free noted own candidate)) name None scale id word
    dollar true e = ends (bytes_eq word (codes "$enddefinitions")) refl e
    dollar false e = stays section.Free None (ns, oi) (λ words. rw e refl)

-- a word of a section
no_end : (word : List ℕ) → (is_end word ≡ true → ⊥) → is_end word ≡ false
no_end word h = by (is_end word) refl
  where
    by : (c : Bool) → is_end word ≡ c → c ≡ false
    by true e = absurd (h e)
    by false e = refl

-- a section with one more word
abbrev longer : Part → List ℕ → Part
longer p word = record { keyword = p.keyword; words = p.words ++ word ∷ [] }

goes_on : (name : List ℕ) (x : Section) (p : Part) (noted : Option ScaleOf) (own : Option (List ℕ)) (candidate : List ℕ) (scale : Option ScaleOf) (id : Option (List ℕ)) (word : List ℕ)
    → is_end word ≡ false → Defines x (Some (longer p word)) noted own candidate scale id name → LeadsBy (no_edge (defining name x noted own candidate)) name (Some p) scale id word
goes_on name x p noted own candidate scale id word e d =
    inl (record {
      place = x;
      noted = noted;
      own = own;
      candidate = candidate;
      is = refl;
      part_next = Some (longer p word);
      scale_next = scale;
      id_next = id;
      defines = d;
      same = λ words. rw e refl;
    })

-- what the parts of a section say, once it is told
abbrev scale_of_part : Part → List ℕ → List (List ℕ) → Option ScaleOf → Option ScaleOf
scale_of_part p word more scale = scale_after (record { keyword = p.keyword; words = (p.words ++ word ∷ []) ++ more }) scale

abbrev id_of_part : List ℕ → Part → List ℕ → List (List ℕ) → Option (List ℕ) → Option (List ℕ)
id_of_part name p word more id = id_after name (record { keyword = p.keyword; words = (p.words ++ word ∷ []) ++ more }) id

skipped_leads : (name : List ℕ) (p : Part) (noted : Option ScaleOf) (own : Option (List ℕ)) (candidate : List ℕ) (scale : Option ScaleOf) (id : Option (List ℕ)) (word : List ℕ)
    → Defines section.Skipped (Some p) noted own candidate scale id name → (c : Bool) → is_end word ≡ c
    → LeadsBy (if c then no_edge (defining name section.Free noted own candidate) else no_edge (defining name section.Skipped noted own candidate)) name (Some p) scale id word
skipped_leads name p noted own candidate scale id word d true e =
    let k = d [] in
    let same_part : record { keyword = p.keyword; words = p.words ++ [] } ≡ p = ap (λ (ws : List (List ℕ)). record { keyword = p.keyword; words = ws }) (append-nil p.words) in
    inl (record {
      place = section.Free;
      noted = noted;
      own = own;
      candidate = candidate;
      is = refl;
      part_next = None;
      scale_next = scale_after p scale;
      id_next = id_after name p id;
      defines = (sym k.0 ∙ ap (λ (q : Part). scale_after q scale) same_part, sym k.1 ∙ ap (λ (q : Part). id_after name q id) same_part);
      same = λ words. rw e refl;
    })
skipped_leads name p noted own candidate scale id word d false e =
    goes_on name section.Skipped p noted own candidate scale id word e (λ more.
    let joined : (p.words ++ word ∷ []) ++ more ≡ p.words ++ word ∷ more = append_assoc p.words (word ∷ []) more in
    let k = d (word ∷ more) in (
      ap (λ (ws : List (List ℕ)). scale_after (record { keyword = p.keyword; words = ws }) scale) joined ∙ k.0,
      ap (λ (ws : List (List ℕ)). id_after name (record { keyword = p.keyword; words = ws }) id) joined ∙ k.1,
    ))

scale_leads : (name : List ℕ) (p : Part) (noted : Option ScaleOf) (own : Option (List ℕ)) (candidate : List ℕ) (scale : Option ScaleOf) (id : Option (List ℕ)) (word : List ℕ)
    → p ≡ record { keyword = codes "$timescale"; words = [] } → noted ≡ scale → own ≡ id → (o : Option (Count × List ℕ)) → counted_word word ≡ o
    → LeadsBy (scale_begun o (defining name section.Scale noted own candidate)) name (Some p) scale id word
scale_leads name p noted own candidate scale id word is ns oi None e = tt
scale_leads name p noted own candidate scale id word is ns oi (Some c) e = alone (length c.1 == 0) refl
  where
    open_still : is_end word ≡ false
    open_still = no_end word (λ h. let none : counted_word word ≡ None = ap counted_word (is_same word (codes "$end") h) in cc)

    with_unit : (u : Option UnitOf) → unit_of c.1 ≡ u → (length c.1 == 0) ≡ false → LeadsBy (scale_made_by c.0 u (defining name section.Scale noted own candidate)) name (Some p) scale id word
    with_unit None f t = tt
    with_unit (Some unit) f t =
        goes_on name section.Skipped p (Some (record { count = c.0; unit = unit })) own candidate scale id word open_still (λ more. (
          ap (λ (q : Part). scale_of_part q word more scale) is ∙ ap (λ o. scale_by o more) e ∙ ap (λ b. if b then unit_in c.0 more else unit_made c.0 (unit_of c.1)) t ∙ ap (unit_made c.0) f,
          ap (λ (q : Part). id_of_part name q word more id) is ∙ sym oi,
        ))

    alone : (t : Bool) → (length c.1 == 0) ≡ t
        → LeadsBy (if t then no_edge (defining name (section.Unit c.0) noted own candidate) else scale_made c.0 c.1 (defining name section.Scale noted own candidate)) name (Some p) scale id word
    alone true t =
        goes_on name (section.Unit c.0) p noted own candidate scale id word open_still (word, c, ap (λ (q : Part). longer q word) is, e, t, refl, ns, oi)
    alone false t = with_unit (unit_of c.1) refl t

unit_leads : (name : List ℕ) (count : Count) (p : Part) (noted : Option ScaleOf) (own : Option (List ℕ)) (candidate : List ℕ) (scale : Option ScaleOf) (id : Option (List ℕ)) (word first_word : List ℕ) (c : Count × List ℕ)
    → p ≡ record { keyword = codes "$timescale"; words = first_word ∷ [] } → counted_word first_word ≡ Some c → (length c.1 == 0) ≡ true → c.0 ≡ count → own ≡ id → (u : Option UnitOf) → unit_of word ≡ u
    → LeadsBy (scale_made_by count u (defining name (section.Unit count) noted own candidate)) name (Some p) scale id word
unit_leads name count p noted own candidate scale id word first_word c is e t k oi None f = tt
unit_leads name count p noted own candidate scale id word first_word c is e t k oi (Some unit) f =
    goes_on name section.Skipped p (Some (record { count = count; unit = unit })) own candidate scale id word open_still (λ more. (
      ap (λ (q : Part). scale_of_part q word more scale) is ∙ ap (λ o. scale_by o (word ∷ more)) e ∙ ap (λ b. if b then unit_in c.0 (word ∷ more) else unit_made c.0 (unit_of c.1)) t ∙ ap (unit_made c.0) f
          ∙ ap (λ n. Some (record { count = n; unit = unit })) k,
      ap (λ (q : Part). id_of_part name q word more id) is ∙ sym oi,
    ))
  where
    open_still : is_end word ≡ false
    open_still = no_end word (λ h. let none : unit_of word ≡ None = ap unit_of (is_same word (codes "$end") h) in cc)

chosen : (b x : Bool) (own : Option (List ℕ)) (candidate : List ℕ) → first_of own (if b && x then Some candidate else None) ≡ (if b && is_none own && x then Some candidate else own)
chosen true true None candidate = refl
chosen true false None candidate = refl
chosen false true None candidate = refl
chosen false false None candidate = refl
chosen true true (Some id) candidate = refl
chosen true false (Some id) candidate = refl
chosen false true (Some id) candidate = refl
chosen false false (Some id) candidate = refl

name_leads : (name : List ℕ) (is_bit : Bool) (p : Part) (noted : Option ScaleOf) (own : Option (List ℕ)) (candidate : List ℕ) (scale : Option ScaleOf) (id : Option (List ℕ)) (word kind size : List ℕ)
    → p ≡ record { keyword = codes "$var"; words = kind ∷ size ∷ candidate ∷ [] } → is_bit ≡ bytes_eq size (codes "1") → noted ≡ scale → own ≡ id → is_end word ≡ false
    → (t : Bool) → (is_bit && is_none own && ((length name == 0) || bytes_eq word name)) ≡ t
    → LeadsBy (no_edge (if t then defining name section.Skipped noted (Some candidate) candidate else defining name section.Skipped noted own candidate)) name (Some p) scale id word
name_leads name is_bit p noted own candidate scale id word kind size is b ns oi e = by
  where
    called_so : (more : List (List ℕ)) → id_of_part name p word more id ≡ (if is_bit && is_none own && ((length name == 0) || bytes_eq word name) then Some candidate else own)
    called_so more =
        ap (λ (q : Part). id_of_part name q word more id) is
        ∙ ap (λ b. first_of id (if b && ((length name == 0) || bytes_eq word name) then Some candidate else None)) (sym b)
        ∙ ap (λ o. first_of o (if is_bit && ((length name == 0) || bytes_eq word name) then Some candidate else None)) (sym oi)
        ∙ chosen is_bit ((length name == 0) || bytes_eq word name) own candidate

    by : (t : Bool) → (is_bit && is_none own && ((length name == 0) || bytes_eq word name)) ≡ t
        → LeadsBy (no_edge (if t then defining name section.Skipped noted (Some candidate) candidate else defining name section.Skipped noted own candidate)) name (Some p) scale id word
    by true t =
        goes_on name section.Skipped p noted (Some candidate) candidate scale id word e (λ more. (
          ap (λ (q : Part). scale_of_part q word more scale) is ∙ sym ns,
          called_so more ∙ ap (λ b. if b then Some candidate else own) t,
        ))
    by false t =
        goes_on name section.Skipped p noted own candidate scale id word e (λ more. (
          ap (λ (q : Part). scale_of_part q word more scale) is ∙ sym ns,
          called_so more ∙ ap (λ b. if b then Some candidate else own) t,
        ))

field_leads : (name : List ℕ) (f : DefinitionField) (p : Part) (noted : Option ScaleOf) (own : Option (List ℕ)) (candidate : List ℕ) (scale : Option ScaleOf) (id : Option (List ℕ)) (word : List ℕ)
    → Defines (section.Variable f) (Some p) noted own candidate scale id name → is_end word ≡ false → LeadsBy (no_edge (in_field f word (defining name (section.Variable f) noted own candidate))) name (Some p) scale id word
field_leads name field.Kind p noted own candidate scale id word d e =
    goes_on name (section.Variable field.Size) p noted own candidate scale id word e (word, ap (λ (q : Part). longer q word) d.0, d.1, d.2)
field_leads name field.Size p noted own candidate scale id word d e =
    goes_on name (section.Variable (field.Id (bytes_eq word (codes "1")))) p noted own candidate scale id word e (d.0, word, ap (λ (q : Part). longer q word) d.1, refl, d.2, d.3)
field_leads name (field.Id is_bit) p noted own candidate scale id word d e =
    goes_on name (section.Variable (field.Name is_bit)) p noted own word scale id word e (d.0, d.1, ap (λ (q : Part). longer q word) d.2, d.3, d.4, d.5)
field_leads name (field.Name is_bit) p noted own candidate scale id word d e =
    name_leads name is_bit p noted own candidate scale id word d.0 d.1 d.2 d.3 d.4 d.5 e (is_bit && is_none own && ((length name == 0) || bytes_eq word name)) refl

variable_leads : (name : List ℕ) (f : DefinitionField) (p : Part) (noted : Option ScaleOf) (own : Option (List ℕ)) (candidate : List ℕ) (scale : Option ScaleOf) (id : Option (List ℕ)) (word : List ℕ)
    → Defines (section.Variable f) (Some p) noted own candidate scale id name → (c : Bool) → is_end word ≡ c
    → LeadsBy (if c then Err cause.Word else no_edge (in_field f word (defining name (section.Variable f) noted own candidate))) name (Some p) scale id word
variable_leads name f p noted own candidate scale id word d true e = tt
variable_leads name f p noted own candidate scale id word d false e = field_leads name f p noted own candidate scale id word d e

section_leads : (name : List ℕ) (x : Section) (p : Part) (noted : Option ScaleOf) (own : Option (List ℕ)) (candidate : List ℕ) (scale : Option ScaleOf) (id : Option (List ℕ)) (word : List ℕ)
    → Defines x (Some p) noted own candidate scale id name → LeadsBy (in_section x word (defining name x noted own candidate)) name (Some p) scale id word
section_leads name section.Free p noted own candidate scale id word d = absurd d
section_leads name (section.Value v) p noted own candidate scale id word d = absurd d
section_leads name section.Skipped p noted own candidate scale id word d = skipped_leads name p noted own candidate scale id word d (is_end word) refl
section_leads name section.Scale p noted own candidate scale id word d = scale_leads name p noted own candidate scale id word d.0 d.1 d.2 (counted_word word) refl
section_leads name (section.Unit count) p noted own candidate scale id word d =
    unit_leads name count p noted own candidate scale id word d.0 d.1 d.2 d.3 d.4 d.5 d.7 (unit_of word) refl
section_leads name (section.Variable f) p noted own candidate scale id word d = variable_leads name f p noted own candidate scale id word d (is_end word) refl

is_filled : (c : Bool) → not c ≡ true → c ≡ false
is_filled true h = cc
is_filled false h = refl

-- outside of a section there is none, and inside there is one
none_open : (name : List ℕ) (x : Section) (noted : Option ScaleOf) (own : Option (List ℕ)) (candidate : List ℕ) (scale : Option ScaleOf) (id : Option (List ℕ)) (word : List ℕ)
    → Defines x None noted own candidate scale id name → LeadsBy (in_section x word (defining name x noted own candidate)) name None scale id word
none_open name section.Free noted own candidate scale id word d = free_leads name noted own candidate scale id word d.0 d.1
none_open name section.Skipped noted own candidate scale id word d = absurd d
none_open name section.Scale noted own candidate scale id word d = absurd d
none_open name (section.Unit c) noted own candidate scale id word d = absurd d
none_open name (section.Variable field.Kind) noted own candidate scale id word d = absurd d
none_open name (section.Variable field.Size) noted own candidate scale id word d = absurd d
none_open name (section.Variable (field.Id b)) noted own candidate scale id word d = absurd d
none_open name (section.Variable (field.Name b)) noted own candidate scale id word d = absurd d
none_open name (section.Value v) noted own candidate scale id word d = absurd d

word_leads : (name : List ℕ) (x : Section) (part : Option Part) (noted : Option ScaleOf) (own : Option (List ℕ)) (candidate : List ℕ) (scale : Option ScaleOf) (id : Option (List ℕ)) (word : List ℕ)
    → Defines x part noted own candidate scale id name → is_some_word word ≡ true → LeadsBy (took word (defining name x noted own candidate)) name part scale id word
word_leads name x None noted own candidate scale id word d some = rw (is_filled (length word == 0) some) (none_open name x noted own candidate scale id word d)
word_leads name x (Some p) noted own candidate scale id word d some = rw (is_filled (length word == 0) some) (section_leads name x p noted own candidate scale id word d)

-- ---- a dump

record Final (w : Wire) (p : Passed) : Type 0 where
  records : Records line_begun (p.edges ++ option_to_list (last_edge p.state.track)) (samples_of w.scale (changes_in w.id 0 section.Skipped w.words)) p.state.track.at
  end : p.state.track.at ≡ wire_end w
  early : p.state.track.at ≤ 2000000000000

zero_counted : (c : Count) → count_times c 0 ≡ 0
zero_counted One = refl
zero_counted Ten = refl
zero_counted Hundred = refl

zero_of : (u : UnitOf) → of_unit u 0 ≡ 0
zero_of Second = refl
zero_of Millisecond = refl
zero_of Microsecond = refl
zero_of Nanosecond = refl
zero_of Picosecond = refl
zero_of Femtosecond = refl

zero_at : (sc : ScaleOf) → 0 ≡ micros sc 0
zero_at sc = sym (ap (of_unit sc.unit) (zero_counted sc.count) ∙ zero_of sc.unit)

begins_ran : (words : List (List ℕ)) (step : Step) (name : List ℕ) (part : Option Part) (scale : Option ScaleOf) (id : Option (List ℕ)) (word : List ℕ) (p q : Passed) → Begins step name part scale id word
    → list_all is_some_word words ≡ true → run words step.state ≡ Some q → p ≡ record { edges = option_to_list step.edge ++ q.edges; state = q.state }
    → (w : Wire) × (wire_from name part scale id (word ∷ words) ≡ Some w) × Final w p
begins_ran words step name part scale id word p q b all ran is =
    let there : run words (among b.known section.Skipped line_begun) ≡ Some q = subst (λ (s : Step). run words s.state ≡ Some q) b.is ran in
    let r = run_ran words b.known line_begun q 0 section.Skipped (zero_at b.known.scale) (omega arith) tt all there in
    let same : p ≡ q = is ∙ ap (λ (s : Step). record { edges = option_to_list s.edge ++ q.edges; state = q.state }) b.is in (
      record { scale = b.known.scale; id = b.known.id; words = words },
      b.same words,
      subst (Final (record { scale = b.known.scale; id = b.known.id; words = words })) (sym same) (record { records = r.records; end = r.end; early = r.early }),
    )

defined_ran : (words : List (List ℕ)) (name : List ℕ) (x : Section) (part : Option Part) (noted : Option ScaleOf) (own : Option (List ℕ)) (candidate : List ℕ) (scale : Option ScaleOf) (id : Option (List ℕ)) (p : Passed)
    → Defines x part noted own candidate scale id name → list_all is_some_word words ≡ true → run words (defining name x noted own candidate) ≡ Some p → p.state.is_data ≡ true
    → (w : Wire) × (wire_from name part scale id words ≡ Some w) × Final w p
defined_ran [] name x part noted own candidate scale id p d all ran over =
    let is : record { edges = []; state = defining name x noted own candidate } ≡ p = cc in
    absurd (false≢true (ap (λ (q : Passed). q.state.is_data) is ∙ over))
defined_ran (word ∷ words) name x part noted own candidate scale id p d all ran over =
    let f = run_first (took word (defining name x noted own candidate)) (run words) p ran in
    let leads = word_leads name x part noted own candidate scale id word d (and_left (is_some_word word) (list_all is_some_word words) all) in
    let more = and_right (is_some_word word) (list_all is_some_word words) all in
    by f.0 f.1 (subst (λ st. LeadsBy st name part scale id word) f.2 leads) more f.3 f.4
    (λ x part noted own candidate scale id d ran over. defined_ran words name x part noted own candidate scale id f.1 d more ran over)
  where
    by : (step : Step) (q : Passed) → LeadsBy (Ok step) name part scale id word → list_all is_some_word words ≡ true → run words step.state ≡ Some q → p ≡ record { edges = option_to_list step.edge ++ q.edges; state = q.state }
        → ((x : Section) (part : Option Part) (noted : Option ScaleOf) (own : Option (List ℕ)) (candidate : List ℕ) (scale : Option ScaleOf) (id : Option (List ℕ)) → Defines x part noted own candidate scale id name
        → run words (defining name x noted own candidate) ≡ Some q → q.state.is_data ≡ true → (w : Wire) × (wire_from name part scale id words ≡ Some w) × Final w q)
        → (w : Wire) × (wire_from name part scale id (word ∷ words) ≡ Some w) × Final w p
    by step q (inr b) more ran is ih = begins_ran words step name part scale id word p q b more ran is
    by step q (inl l) more ran is ih =
        let there : run words (defining name l.place l.noted l.own l.candidate) ≡ Some q = subst (λ (s : Step). run words s.state ≡ Some q) l.is ran in
        let same : p ≡ q = is ∙ ap (λ (s : Step). record { edges = option_to_list s.edge ++ q.edges; state = q.state }) l.is in
        let r = ih l.place l.part_next l.noted l.own l.candidate l.scale_next l.id_next l.defines there (sym (ap (λ (t : Passed). t.state.is_data) same) ∙ over) in
        (r.0, l.same words ∙ r.1, subst (Final r.0) (sym same) r.2)

pub dumps_are_sampled : DumpsAreSampled
dumps_are_sampled name text e h =
    let l = lines_run 1 (lines_of text) (first_state name) e h in
    let p = l.passed in
    let some = run_some (flat_map parts_of (lines_of text)) (first_state name) p l.runs in
    let f = defined_ran (words_in text) name section.Free None None None name None None p (refl, refl) some.1 some.0 l.over in
    let cs = changes_in f.0.id 0 section.Skipped f.0.words in
    let edges = p.edges ++ option_to_list (last_edge p.state.track) in (
      f.0,
      f.1,
      subst (IsSampled f.0) (sym l.is) (record {
        line = λ u. records_line edges (samples_of f.0.scale cs) p.state.track.at f.2.records u ∙ sampled_so f.0.scale false cs u;
        end = f.2.end;
        capture = records_capture edges (samples_of f.0.scale cs) p.state.track.at f.2.early f.2.records;
      }),
    )

-- what is read is a capture
pub read_is_capture : (name text : List ℕ) (e : Captured) → edges_in name text ≡ Ok e → IsCapture e.edges e.end
read_is_capture name text e h = let s = dumps_are_sampled name text e h in s.2.capture
