-- A reader takes each line of the definitions of several wires.
use Rattle.std.proofs.Common.{◌≡◌, ℕ, suc, ◌+◌, ◌≤◌, ◌==◌, ◌||◌, not, true, false, List, [], ◌∷◌, ◌++◌, length, codes, All, Option, Some, None, Ok, inl, inr, refl, sym, ap, ◌∙◌, subst, arith, append_assoc}
use Rattle.std.specs.List.{flat_map, list_all, range_with_len}
use Rattle.std.specs.Str.{bytes_eq}
use Rattle.line_wave.specs.Bounds.{latest_instant}
use Rattle.capture_core.specs.Edges.{Captured}
use Rattle.capture_core.specs.Track.{first_track as line_begun}
use Rattle.capture_core.proofs.Texts.{shown}
use Rattle.capture_core.specs.Reading.{words_read}
use Rattle.capture_vcd.specs.Dump.{State, dump_form, first_state, edges_in, parts_of}
use Rattle.capture_vcd.specs.Text.{last}
use Rattle.capture_vcd.specs.Wire.{Wire, wire_line}
use Rattle.capture_vcd.specs.declared.scale.Scale.{Scale as ScaleOf}
use Rattle.capture_vcd.specs.declared.reader.Section.TheVariants as section
use Rattle.capture_vcd.proofs.Sampled.{dumps_are_sampled}
use Rattle.capture_wires.specs.Wires.{closing, head, high_at_first, id_of, opening, variable, variables}
use Rattle.capture_laws.specs.WireDumps.{AreSpans, DumpsAreReadAsTheLine, IsName, Span, ReportsLine, dump_of, is_word, spans_text}
use Rattle.capture_laws.proofs.Levels.{micro}
use Rattle.capture_laws.proofs.Head.{closing_parted, head_wire, high_text, line_parts, line_plain, name_of, variable_line, variable_text, variable_words}
use Rattle.capture_laws.proofs.Whole.{dumps_report_their_wires}
use Rattle.capture_laws.proofs.Words.{id_end}
use Rattle.capture_laws.proofs.Reading.{AllEnd, Reads, highs_read, line_ends, spans_read, stood}

-- a line that is written out, and reports no edge
reported_ends : (end : ℕ) (line rest : List ℕ) (s t : State) → list_all (λ c. not (c == 10)) line ≡ true
    → ((number : ℕ) → words_read dump_form number 0 (parts_of line) s ≡ Ok (record { edges = []; state = t })) → AllEnd end rest t → AllEnd end (line ++ 10 ∷ rest) s
reported_ends end line rest s t all h more = line_ends end line rest s t [] (shown (λ c. c == 10) line all) h more

-- ---- where a reader of the definitions stands

abbrev opened : List ℕ → Option ScaleOf → State
opened asked scale = record {
  name = asked;
  section = section.Free;
  scale = scale;
  id = None;
  candidate = asked;
  is_data = false;
  track = line_begun;
}

-- with the line found
abbrev declared : List ℕ → List ℕ → State
declared asked candidate = record {
  name = asked;
  section = section.Free;
  scale = Some micro;
  id = Some (33 ∷ []);
  candidate = candidate;
  is_data = false;
  track = line_begun;
}

-- ---- variables

variable_passed : (asked candidate : List ℕ) (place : ℕ) (name : List ℕ) (number : ℕ) → IsName name
    → words_read dump_form number 0 (variable_words place name) (declared asked candidate) ≡ Ok (record { edges = []; state = declared asked (id_of place ∷ []) })
variable_passed asked candidate place name number is = rw (id_end place, is.some, is.other) refl

variable_ends : (end : ℕ) (asked candidate : List ℕ) (place : ℕ) (name rest : List ℕ) → IsName name → AllEnd end rest (declared asked (id_of place ∷ []))
    → AllEnd end (variable place name ++ rest) (declared asked candidate)
variable_ends end asked candidate place name rest is more =
    subst (λ (t : List ℕ). AllEnd end t (declared asked candidate)) (sym (variable_text place name rest))
    (line_ends end (variable_line place name) rest (declared asked candidate) (declared asked (id_of place ∷ [])) [] (line_plain place name is)
    (λ number. ap (λ ws. words_read dump_form number 0 ws (declared asked candidate)) (line_parts place name is) ∙ variable_passed asked candidate place name number is) more)

variables_end : (end : ℕ) (asked candidate : List ℕ) (place : ℕ) (names : List (List ℕ)) (rest : List ℕ) → All (λ name. is_word name ≡ true) names
    → ((last : List ℕ) → AllEnd end rest (declared asked last)) → AllEnd end (variables place names ++ rest) (declared asked candidate)
variables_end end asked candidate place [] rest h more = more candidate
variables_end end asked candidate place (name ∷ names) rest h more =
    subst (λ (t : List ℕ). AllEnd end t (declared asked candidate)) (sym (append_assoc (variable place name) (variables (place + 1) names) rest))
    (variable_ends end asked candidate place name (variables (place + 1) names ++ rest) (name_of name (h 0 name (omega arith)))
    (variables_end end asked (id_of place ∷ []) (place + 1) names rest (λ k x l. h (suc k) x (omega arith)) more))

-- ---- after them

high_ends : (end : ℕ) (asked candidate : List ℕ) (count : ℕ) (rest : List ℕ) → Reads asked candidate end 0 rest → AllEnd end (high_text count rest) (stood asked candidate line_begun)
high_ends end asked candidate count rest more =
    let t3 = codes "$end" ++ 10 ∷ rest in
    let t2 = flat_map high_at_first (range_with_len 0 (count + 2)) ++ t3 in
    let t1 = codes "$dumpvars" ++ 10 ∷ t2 in
    reported_ends end (codes "#0") t1 (stood asked candidate line_begun) (stood asked candidate line_begun) refl (λ number. refl)
    (reported_ends end (codes "$dumpvars") t2 (stood asked candidate line_begun) (stood asked candidate line_begun) refl (λ number. refl)
    (highs_read asked candidate end 0 0 (count + 2) t3
    (λ track at early. reported_ends end (codes "$end") rest (stood asked candidate track) (stood asked candidate track) refl (λ number. refl) (more track at early))
    line_begun (omega arith) (omega arith)))

closing_ends : (end : ℕ) (asked candidate : List ℕ) (count : ℕ) (rest : List ℕ) → Reads asked (id_of (count + 1) ∷ []) end 0 rest → AllEnd end (closing count ++ rest) (declared asked candidate)
closing_ends end asked candidate count rest more =
    let own = id_of (count + 1) ∷ [] in
    let t3 = codes "$enddefinitions $end" ++ 10 ∷ high_text count rest in
    let t2 = codes "$upscope $end" ++ 10 ∷ t3 in
    let t1 = variable (count + 1) (codes "pulses") ++ t2 in
    subst (λ (t : List ℕ). AllEnd end t (declared asked candidate)) (sym (closing_parted count rest))
    (reported_ends end (codes "$upscope $end") t1 (declared asked candidate) (declared asked candidate) refl (λ number. refl)
    (variable_ends end asked candidate (count + 1) (codes "pulses") t2 (name_of (codes "pulses") refl)
    (reported_ends end (codes "$upscope $end") t3 (declared asked own) (declared asked own) refl (λ number. refl)
    (reported_ends end (codes "$enddefinitions $end") (high_text count rest) (declared asked own) (stood asked own line_begun) refl (λ number. refl)
    (high_ends end asked own count rest more)))))

-- ---- the head

-- the line is found by its name, or as the first wire
abbrev Finds : List ℕ → Type 0
Finds asked = (number : ℕ) → words_read dump_form number 0 (parts_of (codes "$var wire 1 ! CEC $end")) (opened asked (Some micro)) ≡ Ok (record { edges = []; state = declared asked (33 ∷ []) })

opening_ends : (end : ℕ) (asked rest : List ℕ) → Finds asked → AllEnd end rest (declared asked (33 ∷ [])) → AllEnd end (opening ++ rest) (first_state asked)
opening_ends end asked rest finds more =
    let t5 = codes "$scope module devices $end" ++ 10 ∷ rest in
    let t4 = codes "$var wire 1 ! CEC $end" ++ 10 ∷ t5 in
    let t3 = codes "$scope module hdmi $end" ++ 10 ∷ t4 in
    let t2 = codes "$timescale 1 us $end" ++ 10 ∷ t3 in
    reported_ends end (codes "$version hdminet $end") t2 (first_state asked) (first_state asked) refl (λ number. refl)
    (reported_ends end (codes "$timescale 1 us $end") t3 (first_state asked) (opened asked (Some micro)) refl (λ number. refl)
    (reported_ends end (codes "$scope module hdmi $end") t4 (opened asked (Some micro)) (opened asked (Some micro)) refl (λ number. refl)
    (reported_ends end (codes "$var wire 1 ! CEC $end") t5 (opened asked (Some micro)) (declared asked (33 ∷ [])) refl finds
    (reported_ends end (codes "$scope module devices $end") rest (declared asked (33 ∷ [])) (declared asked (33 ∷ [])) refl (λ number. refl) more))))

head_ends : (end : ℕ) (asked : List ℕ) (names : List (List ℕ)) (rest : List ℕ) → Finds asked → All (λ name. is_word name ≡ true) names
    → Reads asked (id_of (length names + 1) ∷ []) end 0 rest → AllEnd end (head names ++ rest) (first_state asked)
head_ends end asked names rest finds words more =
    subst (λ (t : List ℕ). AllEnd end t (first_state asked)) (sym (append_assoc opening (variables 1 names ++ closing (length names)) rest))
    (opening_ends end asked ((variables 1 names ++ closing (length names)) ++ rest) finds
    (subst (λ (t : List ℕ). AllEnd end t (declared asked (33 ∷ []))) (sym (append_assoc (variables 1 names) (closing (length names)) rest))
    (variables_end end asked (33 ∷ []) 1 names (closing (length names) ++ rest) words (λ last. closing_ends end asked last (length names) rest more))))

-- ---- the law

same_some : (v w : Wire) → Some v ≡ Some w → v ≡ w
same_some v w h = cc

read_by : (asked : List ℕ) (names : List (List ℕ)) (spans : List Span) (end : ℕ) → Finds asked → ((length asked == 0) || bytes_eq (codes "CEC") asked) ≡ true
    → All (λ name. is_word name ≡ true) names → AreSpans 0 end spans → end ≤ latest_instant → (c : Captured) × (edges_in asked (dump_of names spans end) ≡ Ok c) × ReportsLine spans end c
read_by asked names spans end finds named words h low =
    let rest = spans_text spans ++ last end in
    let e = head_ends end asked names rest finds words (spans_read asked (id_of (length names + 1) ∷ []) end 0 spans h low) 1 in
    let c : Captured = record { edges = e.edges; end = end } in
    let s = dumps_are_sampled asked (head names ++ rest) c e.is in
    let reported = dumps_report_their_wires names spans end words h low in
    let same : s.0 ≡ reported.line = same_some s.0 reported.line (sym s.1 ∙ head_wire asked names rest named words ∙ sym (head_wire [] names rest refl words) ∙ reported.first) in
    (c, e.is, record { line = λ u. s.2.line u ∙ ap (λ (w : Wire). wire_line w u) same ∙ ap (λ (i : List ℕ). wire_line (record { scale = reported.line.scale; id = i; words = reported.line.words }) u) reported.id ∙ reported.levels 0 u; end_is = refl; capture = s.2.capture })

pub dumps_are_read_as_the_line : DumpsAreReadAsTheLine
dumps_are_read_as_the_line asked names spans end (inl e) words h low =
    subst (λ (a : List ℕ). (c : Captured) × (edges_in a (dump_of names spans end) ≡ Ok c) × ReportsLine spans end c) (sym e)
    (read_by [] names spans end (λ number. refl) refl words h low)
dumps_are_read_as_the_line asked names spans end (inr e) words h low =
    subst (λ (a : List ℕ). (c : Captured) × (edges_in a (dump_of names spans end) ≡ Ok c) × ReportsLine spans end c) (sym e)
    (read_by (codes "CEC") names spans end (λ number. refl) refl words h low)
