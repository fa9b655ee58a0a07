-- The dump of a line is read back.
use Rattle.std.proofs.Common.{◌≡◌, ℕ, suc, ◌+◌, ◌-◌, ◌<◌, ◌≤◌, ◌==◌, not, Bool, true, false, cond, nat_lt, nat_le, List, [], ◌∷◌, ◌++◌, length, Option, Some, None, Result, Ok, Err, codes, refl, sym, ap, ◌∙◌, arith, append-nil, ne_eqb}
use Rattle.std.specs.Fmt.{decimal}
use Rattle.std.specs.List.{list_all}
use Rattle.std.specs.Option.{option_to_list}
use Rattle.std.proofs.lemmas.Bool.Decides.{nat_tests}
use Rattle.line_wave.specs.declared.Edge.{Edge}
use Rattle.line_wave.specs.declared.Stretch.{Stretch}
use Rattle.line_wave.specs.Line.{IsWaveFrom}
use Rattle.text_core.specs.Lines.{lines_of}
use Rattle.text_core.specs.declared.at.At.{At}
use Rattle.capture_core.specs.Edges.{Captured, edges_of, EndsBy}
use Rattle.capture_core.specs.Track.{first_track as line_begun, due, track_at}
use Rattle.capture_core.proofs.Ends.{ends_by}
use Rattle.capture_core.proofs.Moving.{move_kept, move_reported, move_same}
use Rattle.capture_core.proofs.Numbers.{number_again}
use Rattle.capture_core.proofs.Texts.{line_before, shown}
use Rattle.capture_core.specs.Texts.{Lacks}
use Rattle.capture_core.specs.Reading.{at_word, lines_read, with_edges, words_read}
use Rattle.capture_core.specs.declared.fault.Cause.{Cause}
use Rattle.capture_core.proofs.Passing.{alone, line_passed}
use Rattle.capture_vcd.specs.Scale.{instant_of}
use Rattle.capture_vcd.specs.Dump.{State, after_time, dump_form, first_state, no_edge, parts_of, timed_by, took}
use Rattle.capture_vcd.specs.Text.{head, changes, last, time_line, DumpsAreReadBack}
use Rattle.capture_vcd.specs.declared.scale.Scale.{Scale as ScaleOf}
use Rattle.capture_vcd.specs.declared.scale.Unit.TheVariants.{Microsecond}
use Rattle.capture_vcd.specs.declared.scale.Count.TheVariants.{One}
use Rattle.capture_vcd.specs.declared.reader.Section.TheVariants as section
use Rattle.capture_vcd.proofs.Texts.{value_line, time_plain, value_plain, time_parts, value_parts}

abbrev scale : ScaleOf
scale = record { count = One; unit = Microsecond }

-- where a reader stands among the changes
abbrev stood : ℕ → Bool → Bool → State
stood at was_low is_low = record {
  name = [];
  section = section.Free;
  scale = Some scale;
  id = Some (33 ∷ []);
  candidate = 33 ∷ [];
  is_data = true;
  track = track_at at was_low is_low;
}

-- ---- times

instant_again : (t : ℕ) → t ≤ 2000000000000 → instant_of scale (decimal t) ≡ Some t
instant_again t low =
    let other : (t == 18446744073709551615) ≡ false = grind (arith, nat_tests) in
    let small : nat_le t 2000000000000 ≡ true = grind (arith, nat_tests) in
    rw (number_again t (omega arith)) (rw (other, small) refl)

time_taken : (t at : ℕ) (was is : Bool) → t ≤ 2000000000000 → took (time_line t) (stood at was is) ≡ after_time (Some t) (stood at was is)
time_taken t at was is low =
    rw (ne_eqb (suc (length (decimal t))) 0 (omega arith)) (ap (λ i. after_time i (stood at was is)) (instant_again t low))

-- no edge is told
time_kept : (t at : ℕ) (b : Bool) → t ≤ 2000000000000 → at ≤ t → took (time_line t) (stood at b b) ≡ no_edge (stood t b b)
time_kept t at b low after = time_taken t at b b low ∙ ap (λ m. timed_by m (stood at b b)) (move_kept t at b after)

-- the edge before is told
time_reported : (t at : ℕ) (b : Bool) → t ≤ 2000000000000 → at < t
    → took (time_line t) (stood at (not b) b) ≡ Ok (record { state = stood t b b; edge = Some (record { at = at; low = b }) })
time_reported t at b low after = time_taken t at (not b) b low ∙ ap (λ m. timed_by m (stood at (not b) b)) (move_reported t at b after)

-- at the same instant it is not
time_same : (t : ℕ) (was is : Bool) → t ≤ 2000000000000 → took (time_line t) (stood t was is) ≡ no_edge (stood t was is)
time_same t was is low = time_taken t t was is low ∙ ap (λ m. timed_by m (stood t was is)) (move_same t was is)

falls : (at : ℕ) (was is : Bool) → took (value_line 48) (stood at was is) ≡ no_edge (stood at was true)
falls at was is = refl

rises : (at : ℕ) (was is : Bool) → took (value_line 49) (stood at was is) ≡ no_edge (stood at was false)
rises at was is = refl

-- ---- lines

-- one word alone on a line of a text
alone_in : (number : ℕ) (line rest : List ℕ) (s t : State) (edge : Option Edge) → Lacks (λ c. c == 10) line → parts_of line ≡ line ∷ [] → took line s ≡ Ok (record { state = t; edge = edge })
    → lines_read dump_form number (lines_of (line ++ 10 ∷ rest)) s ≡ with_edges (option_to_list edge) (lines_read dump_form (number + 1) (lines_of rest) t)
alone_in number line rest s t edge plain one h =
    ap (λ lines. lines_read dump_form number lines s) (line_before line rest plain) ∙ alone dump_form number line (lines_of rest) s (record { state = t; edge = edge }) one (ap (at_word 0) h)

-- ---- changes

-- the time of a fall; the rise before it, if it is due, is told
fall_time : (t at : ℕ) (b : Bool) → t ≤ 2000000000000 → cond b (at + 1) at ≤ t
    → took (time_line t) (stood at b false) ≡ Ok (record { state = stood t false false; edge = due at b })
fall_time t at true low after = time_reported t at false low (omega (arith, after))
fall_time t at false low after = time_kept t at false low after

-- a stretch of the dump, before what follows
stretch_reported : (number at from to : ℕ) (b : Bool) (more : List ℕ) → cond b (at + 1) at ≤ from → from < to → to ≤ 2000000000000
    → lines_read dump_form number (lines_of (time_line from ++ 10 ∷ (value_line 48 ++ 10 ∷ (time_line to ++ 10 ∷ (value_line 49 ++ 10 ∷ more))))) (stood at b false)
    ≡ with_edges (option_to_list (due at b)) (with_edges [] (with_edges (record { at = from; low = true } ∷ []) (with_edges [] (lines_read dump_form (number + 1 + 1 + 1 + 1) (lines_of more) (stood to true false)))))
stretch_reported number at from to b more after wide low =
    let early : from ≤ 2000000000000 = omega arith in
    alone_in number (time_line from) (value_line 48 ++ 10 ∷ (time_line to ++ 10 ∷ (value_line 49 ++ 10 ∷ more))) (stood at b false) (stood from false false) (due at b)
    (time_plain from (omega arith)) (time_parts from (omega arith)) (fall_time from at b early after)
    ∙ ap (with_edges (option_to_list (due at b))) (
    alone_in (number + 1) (value_line 48) (time_line to ++ 10 ∷ (value_line 49 ++ 10 ∷ more)) (stood from false false) (stood from false true) None
    (value_plain 48 refl) (value_parts 48 refl) (falls from false false)
    ∙ ap (with_edges []) (
    alone_in (number + 1 + 1) (time_line to) (value_line 49 ++ 10 ∷ more) (stood from false true) (stood to true true) (Some (record { at = from; low = true }))
    (time_plain to (omega arith)) (time_parts to (omega arith)) (time_reported to from true low wide)
    ∙ ap (with_edges (record { at = from; low = true } ∷ [])) (
    alone_in (number + 1 + 1 + 1) (value_line 49) more (stood to true true) (stood to true false) None
    (value_plain 49 refl) (value_parts 49 refl) (rises to true true))))

rise_parted : (b e m : List ℕ) → ((b ++ 10 ∷ 49 ∷ 33 ∷ 10 ∷ []) ++ e) ++ m ≡ b ++ 10 ∷ 49 ∷ 33 ∷ 10 ∷ (e ++ m)
rise_parted [] e m = refl
rise_parted (x ∷ b) e m = ap (λ l. x ∷ l) (rise_parted b e m)

parted : (a b e m : List ℕ) → ((a ++ 10 ∷ 48 ∷ 33 ∷ 10 ∷ 35 ∷ (b ++ 10 ∷ 49 ∷ 33 ∷ 10 ∷ [])) ++ e) ++ m ≡ a ++ 10 ∷ 48 ∷ 33 ∷ 10 ∷ 35 ∷ (b ++ 10 ∷ 49 ∷ 33 ∷ 10 ∷ (e ++ m))
parted [] b e m = ap (λ l. 10 ∷ 48 ∷ 33 ∷ 10 ∷ 35 ∷ l) (rise_parted b e m)
parted (x ∷ a) b e m = ap (λ l. x ∷ l) (parted a b e m)

stretch_before : (s : Stretch) (ss : List Stretch) (more : List ℕ)
    → changes (s ∷ ss) ++ more ≡ time_line s.from ++ 10 ∷ (value_line 48 ++ 10 ∷ (time_line s.to ++ 10 ∷ (value_line 49 ++ 10 ∷ (changes ss ++ more))))
stretch_before s ss more = ap (λ l. 35 ∷ l) (parted (decimal s.from) (decimal s.to) (changes ss) more)

-- the last time
end_reported : (number at end : ℕ) (b : Bool) → at ≤ end → end ≤ 2000000000000
    → lines_read dump_form number (lines_of (time_line end ++ 10 ∷ [])) (stood at b false) ≡ Ok (record { edges = option_to_list (due at b); end = end })
end_reported number at end false after low =
    alone_in number (time_line end) [] (stood at false false) (stood end false false) None (time_plain end (omega arith)) (time_parts end (omega arith)) (time_kept end at false low after)
end_reported number at end true after low = by (nat_lt at end) refl
  where
    by : (b : Bool) → nat_lt at end ≡ b
        → lines_read dump_form number (lines_of (time_line end ++ 10 ∷ [])) (stood at true false) ≡ Ok (record { edges = record { at = at; low = false } ∷ []; end = end })
    by true h =
        let earlier : at < end = grind (arith, nat_tests) in
        alone_in number (time_line end) [] (stood at true false) (stood end false false) (Some (record { at = at; low = false })) (time_plain end (omega arith)) (time_parts end (omega arith))
        (time_reported end at false low earlier)
    by false h =
        let same : at ≡ end = grind (arith, nat_tests) in
        rw same (alone_in number (time_line end) [] (stood end true false) (stood end true false) None (time_plain end (omega arith)) (time_parts end (omega arith)) (time_same end true false low))

abbrev with_end : List Edge → ℕ → Result Captured (At Cause)
with_end edges end = Ok (record { edges = edges; end = end })

read_back : (ss : List Stretch) (end number at : ℕ) (b : Bool) → IsWaveFrom (cond b (at + 1) at) ss → EndsBy end ss → at ≤ end → end ≤ 2000000000000
    → lines_read dump_form number (lines_of (changes ss ++ last end)) (stood at b false) ≡ Ok (record { edges = option_to_list (due at b) ++ edges_of ss; end = end })
read_back [] end number at b wave by after low =
    end_reported number at end b after low ∙ ap (λ es. with_end es end) (sym (append-nil (option_to_list (due at b))))
read_back (s ∷ ss) end number at b wave by after low =
    let ends = by.0 in
    ap (λ text. lines_read dump_form number (lines_of text) (stood at b false)) (stretch_before s ss (last end))
    ∙ stretch_reported number at s.from s.to b (changes ss ++ last end) wave.0 wave.1 (omega (arith, ends))
    ∙ ap (λ r. with_edges (option_to_list (due at b)) (with_edges [] (with_edges (record { at = s.from; low = true } ∷ []) (with_edges [] r))))
    (read_back ss end (number + 1 + 1 + 1 + 1) s.to true wave.2 by.1 ends low)

-- ---- definitions

head_line : (number : ℕ) (line rest : List ℕ) (s t : State) → list_all (λ c. not (c == 10)) line ≡ true → words_read dump_form number 0 (parts_of line) s ≡ Ok (record { edges = []; state = t })
    → lines_read dump_form number (lines_of (line ++ 10 ∷ rest)) s ≡ lines_read dump_form (number + 1) (lines_of rest) t
head_line number line rest s t all h =
    ap (λ lines. lines_read dump_form number lines s) (line_before line rest (shown (λ c. c == 10) line all)) ∙ line_passed dump_form number line (lines_of rest) s t [] h ∙ same (lines_read dump_form (number + 1) (lines_of rest) t)
  where
    same : (r : Result Captured (At Cause)) → with_edges [] r ≡ r
    same (Ok e) = refl
    same (Err f) = refl

-- what a reader of the definitions stands at
abbrev opened : ScaleOf → State
opened sc = record {
  name = [];
  section = section.Free;
  scale = Some sc;
  id = None;
  candidate = [];
  is_data = false;
  track = line_begun;
}

abbrev declared : State
declared = record {
  name = [];
  section = section.Free;
  scale = Some scale;
  id = Some (33 ∷ []);
  candidate = 33 ∷ [];
  is_data = false;
  track = line_begun;
}

head_1 : words_read dump_form 1 0 (parts_of (codes "$version hdminet $end")) (first_state []) ≡ Ok (record { edges = []; state = first_state [] })
head_1 = refl

head_2 : words_read dump_form 2 0 (parts_of (codes "$timescale 1 us $end")) (first_state []) ≡ Ok (record { edges = []; state = opened scale })
head_2 = refl

head_3 : words_read dump_form 3 0 (parts_of (codes "$scope module hdmi $end")) (opened scale) ≡ Ok (record { edges = []; state = opened scale })
head_3 = refl

head_4 : words_read dump_form 4 0 (parts_of (codes "$var wire 1 ! CEC $end")) (opened scale) ≡ Ok (record { edges = []; state = declared })
head_4 = refl

head_5 : words_read dump_form 5 0 (parts_of (codes "$upscope $end")) declared ≡ Ok (record { edges = []; state = declared })
head_5 = refl

head_6 : words_read dump_form 6 0 (parts_of (codes "$enddefinitions $end")) declared ≡ Ok (record { edges = []; state = stood 0 false false })
head_6 = refl

head_7 : words_read dump_form 7 0 (parts_of (codes "#0")) (stood 0 false false) ≡ Ok (record { edges = []; state = stood 0 false false })
head_7 = refl

head_8 : words_read dump_form 8 0 (parts_of (codes "$dumpvars")) (stood 0 false false) ≡ Ok (record { edges = []; state = stood 0 false false })
head_8 = refl

head_9 : words_read dump_form 9 0 (parts_of (codes "1!")) (stood 0 false false) ≡ Ok (record { edges = []; state = stood 0 false false })
head_9 = refl

head_10 : words_read dump_form 10 0 (parts_of (codes "$end")) (stood 0 false false) ≡ Ok (record { edges = []; state = stood 0 false false })
head_10 = refl

head_reported : (more : List ℕ) → lines_read dump_form 1 (lines_of (head ++ more)) (first_state []) ≡ lines_read dump_form 11 (lines_of more) (stood 0 false false)
head_reported more =
    let t10 = codes "$end" ++ 10 ∷ more in
    let t9 = codes "1!" ++ 10 ∷ t10 in
    let t8 = codes "$dumpvars" ++ 10 ∷ t9 in
    let t7 = codes "#0" ++ 10 ∷ t8 in
    let t6 = codes "$enddefinitions $end" ++ 10 ∷ t7 in
    let t5 = codes "$upscope $end" ++ 10 ∷ t6 in
    let t4 = codes "$var wire 1 ! CEC $end" ++ 10 ∷ t5 in
    let t3 = codes "$scope module hdmi $end" ++ 10 ∷ t4 in
    let t2 = codes "$timescale 1 us $end" ++ 10 ∷ t3 in
    head_line 1 (codes "$version hdminet $end") t2 (first_state []) (first_state []) refl head_1
    ∙ head_line 2 (codes "$timescale 1 us $end") t3 (first_state []) (opened scale) refl head_2
    ∙ head_line 3 (codes "$scope module hdmi $end") t4 (opened scale) (opened scale) refl head_3
    ∙ head_line 4 (codes "$var wire 1 ! CEC $end") t5 (opened scale) declared refl head_4
    ∙ head_line 5 (codes "$upscope $end") t6 declared declared refl head_5
    ∙ head_line 6 (codes "$enddefinitions $end") t7 declared (stood 0 false false) refl head_6
    ∙ head_line 7 (codes "#0") t8 (stood 0 false false) (stood 0 false false) refl head_7
    ∙ head_line 8 (codes "$dumpvars") t9 (stood 0 false false) (stood 0 false false) refl head_8
    ∙ head_line 9 (codes "1!") t10 (stood 0 false false) (stood 0 false false) refl head_9
    ∙ head_line 10 (codes "$end") more (stood 0 false false) (stood 0 false false) refl head_10

-- ---- the end

pub dumps_are_read_back : DumpsAreReadBack
dumps_are_read_back ss end wave over low =
    head_reported (changes ss ++ last end) ∙ read_back ss end 11 0 false wave (ends_by ss 0 end wave over) (omega arith) low
