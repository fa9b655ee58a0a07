-- The pin file of a line is read back.
use Rattle.std.proofs.Common.{◌≡◌, ℕ, suc, ◌+◌, ◌-◌, ◌*◌, ◌/◌, ◌%◌, ◌<◌, ◌≤◌, ◌==◌, not, Bool, true, false, cond, nat_lt, List, [], ◌∷◌, ◌++◌, length, take, drop, Option, Some, None, Result, Ok, Err, codes, refl, sym, ap, subst, ◌∙◌, arith, append-nil, append_assoc, ne_eqb}
use Rattle.std.proofs.Math.Seq.{take-append_seam, drop-append-add}
use Rattle.std.specs.Fmt.{decimal}
use Rattle.std.specs.List.{flat_map, list_all}
use Rattle.std.specs.Option.{option_to_list}
use Rattle.std.specs.Str.Parse.{AllDigits}
use Rattle.std.proofs.lemmas.Fmt.{decimal_is_IsNumeral, decimal_nonempty}
use Rattle.std.proofs.lemmas.Bool.{false≢true}
use Rattle.std.proofs.lemmas.Bool.Decides.{nat_tests}
use Rattle.std.proofs.lemmas.List.Elements.{All-append}
use Rattle.std.proofs.lemmas.List.Splits.{slice_split_none}
use Rattle.line_wave.specs.declared.Edge.{Edge}
use Rattle.line_wave.specs.declared.Stretch.{Stretch}
use Rattle.line_wave.specs.Line.{IsWaveFrom}
use Rattle.text_core.specs.Lines.{is_skipped, lines_of}
use Rattle.text_core.specs.declared.at.At.{At}
use Rattle.capture_core.specs.Edges.{Captured, edges_of, EndsBy}
use Rattle.capture_core.specs.Seconds.{dot_in, instant_of, nine_digits}
use Rattle.capture_core.specs.Track.{due, track_at}
use Rattle.capture_core.specs.Texts.{Lacks}
use Rattle.capture_core.proofs.Decimals.{decimals_again}
use Rattle.capture_core.proofs.Moving.{move_kept as moving_kept, move_reported as moving_reported, move_same as moving_same}
use Rattle.capture_core.proofs.Numbers.{number_again}
use Rattle.capture_core.proofs.Passing.{alone}
use Rattle.capture_core.proofs.Bytes.{dot_at, no_byte}
use Rattle.capture_core.proofs.Ends.{ends_by}
use Rattle.capture_core.proofs.Texts.{digits_lack, line_before, shown}
use Rattle.capture_core.specs.Reading.{at_word, lines_read, with_edges}
use Rattle.capture_core.specs.declared.fault.Cause.{Cause}
use Rattle.capture_pin.specs.Pin.{first_reader, code_of, event_by, event_by_start, event_cut, event_of, fraction_of, after_event, moved_by, moved_to, nanos_by, pin_form, took, word_at_fault}
use Rattle.capture_pin.specs.Text.{event_line, event_text, head, round_text, stretch_text, PinFilesAreReadBack}
use Rattle.capture_pin.specs.declared.reader.PinReader.{PinReader}

-- ---- lines

line_in : (number : ℕ) (line rest : List ℕ) (t u : PinReader) (edge : Option Edge) → Lacks (λ c. c == 10) line → took line t ≡ Ok (record { state = u; edge = edge })
    → lines_read pin_form number (lines_of (line ++ 10 ∷ rest)) t ≡ with_edges (option_to_list edge) (lines_read pin_form (number + 1) (lines_of rest) u)
line_in number line rest t u edge plain h =
    ap (λ lines. lines_read pin_form number lines t) (line_before line rest plain)
    ∙ alone pin_form number line (lines_of rest) t (record { state = u; edge = edge }) (slice_split_none (λ b. false) line (λ k d h. refl)) (ap (at_word (word_at_fault line)) h)

-- ---- times

fraction_ok : (n : ℕ) → n < 1000000 → fraction_of (nine_digits n) ≡ Some (n * 1000)
fraction_ok n h = decimals_again n h

instant_ok : (t : ℕ) → t ≤ 2000000000000 → instant_of (t / 1000000 * 1000000000 + t % 1000000 * 1000 - 0) ≡ Some t
instant_ok t h =
    let whole : t / 1000000 * 1000000000 + t % 1000000 * 1000 ≡ t * 1000 = omega arith in
    let low : nat_lt 2000000000000000 (t * 1000 - 0) ≡ false = grind (arith, nat_tests) in
    let up : (t * 1000 - 0 + 999) / 1000 ≡ t = omega arith in
    ap (λ nanos. instant_of (nanos - 0)) whole ∙ rw low (ap Some up)

abbrev stood : ℕ → Bool → Bool → PinReader
stood at was_low is_low = record { start = 0; track = track_at at was_low is_low }

skipped_by : (ds more : List ℕ) → 0 < length ds → AllDigits 10 ds → is_skipped (ds ++ more) ≡ false
skipped_by [] more some h = absurd (omega arith)
skipped_by (c ∷ cs) more some h = rw (ne_eqb (suc (length (cs ++ more))) 0 (omega arith), no_byte 35 c h.0 (omega arith)) refl

-- a line of an event
event_ok : (t level : ℕ) (low : Option Bool) → t ≤ 2000000000000 → ((nanos : ℕ) → event_by (Some nanos) (code_of (level ∷ [])) ≡ Some (record { nanos = nanos; low = low }))
    → event_of (event_line t level) ≡ Some (record { nanos = t / 1000000 * 1000000000 + t % 1000000 * 1000; low = low })
event_ok t level low early code =
    let s = t / 1000000 in
    let rest = nine_digits (t % 1000000) ++ 32 ∷ level ∷ [] in
    let digits = (decimal_is_IsNumeral s (omega arith)).0.1 in
    let dot : dot_in (event_line t level) ≡ length (decimal s) = dot_at (decimal s) rest (digits_lack (λ c. c == 46) (decimal s) (λ c d. no_byte 46 c d (omega arith)) digits) in
    let front : take (length (decimal s)) (event_line t level) ≡ decimal s = take-append_seam (decimal s) (46 ∷ rest) in
    let back : drop (length (decimal s) + 1) (event_line t level) ≡ rest = drop-append-add (decimal s) (46 ∷ rest) 1 in
    ap (λ n. event_cut (take n (event_line t level)) (drop (n + 1) (event_line t level))) dot
    ∙ ap (λ l. event_cut l (drop (length (decimal s) + 1) (event_line t level))) front ∙ ap (event_cut (decimal s)) back
    ∙ ap (λ n. event_by (nanos_by n (fraction_of (nine_digits (t % 1000000)))) (code_of (level ∷ []))) (number_again s (omega arith))
    ∙ ap (λ n. event_by (nanos_by (Some s) n) (code_of (level ∷ []))) (fraction_ok (t % 1000000) (omega arith))
    ∙ code (s * 1000000000 + t % 1000000 * 1000)

line_plain : (t level : ℕ) → t ≤ 2000000000000 → (level == 10) ≡ false → Lacks (λ c. c == 10) (event_line t level)
line_plain t level low other =
    let digits = (decimal_is_IsNumeral (t / 1000000) (omega arith)).0.1 in
    let n = t % 1000000 in
    All-append (λ c. (c == 10) ≡ false) (decimal (t / 1000000)) (46 ∷ (nine_digits n ++ 32 ∷ level ∷ [])) (digits_lack (λ c. c == 10) (decimal (t / 1000000)) (λ c d. no_byte 10 c d (omega arith)) digits)
    (shown (λ c. c == 10) (46 ∷ (nine_digits n ++ 32 ∷ level ∷ []))
    (rw (high (n / 100000 % 10), high (n / 10000 % 10), high (n / 1000 % 10), high (n / 100 % 10), high (n / 10 % 10), high (n % 10), other) refl))
  where
    high : (d : ℕ) → (48 + d == 10) ≡ false
    high d = grind (arith, nat_tests)

none_before : (nanos : ℕ) → nat_lt nanos 0 ≡ false
none_before nanos = grind (arith, nat_tests)

event_stood : (t level : ℕ) (low : Bool) (at : ℕ) (was is : Bool) → t ≤ 2000000000000 → ((nanos : ℕ) → event_by (Some nanos) (code_of (level ∷ [])) ≡ Some (record { nanos = nanos; low = Some low }))
    → took (event_line t level) (stood at was is) ≡ moved_to (Some t) (Some low) (stood at was is)
event_stood t level low at was is early code =
    let digits = (decimal_is_IsNumeral (t / 1000000) (omega arith)).0.1 in
    let reported : is_skipped (event_line t level) ≡ false = skipped_by (decimal (t / 1000000)) _ (decimal_nonempty (t / 1000000) (omega arith)) digits in
    rw reported (ap (λ e. after_event e (stood at was is)) (event_ok t level (Some low) early code)
    ∙ ap (λ c. event_by_start c (record { nanos = t / 1000000 * 1000000000 + t % 1000000 * 1000; low = Some low }) (stood at was is)) (none_before (t / 1000000 * 1000000000 + t % 1000000 * 1000))
    ∙ ap (λ i. moved_to i (Some low) (stood at was is)) (instant_ok t early))

event_taken : (t level : ℕ) (low : Bool) (k : PinReader) → k ≡ stood k.track.at k.track.was_low k.track.is_low → t ≤ 2000000000000 → ((nanos : ℕ) → event_by (Some nanos) (code_of (level ∷ [])) ≡ Some (record { nanos = nanos; low = Some low }))
    → took (event_line t level) k ≡ moved_to (Some t) (Some low) k
event_taken t level low k zero early code =
    subst (λ (k : PinReader). took (event_line t level) k ≡ moved_to (Some t) (Some low) k) (sym zero) (event_stood t level low k.track.at k.track.was_low k.track.is_low early code)

fall_code : (nanos : ℕ) → event_by (Some nanos) (code_of (48 ∷ [])) ≡ Some (record { nanos = nanos; low = Some true })
fall_code nanos = refl

rise_code : (nanos : ℕ) → event_by (Some nanos) (code_of (49 ∷ [])) ≡ Some (record { nanos = nanos; low = Some false })
rise_code nanos = refl

-- ---- events

move_kept : (t at : ℕ) (b low : Bool) → at ≤ t → moved_to (Some t) (Some low) (stood at b b) ≡ Ok (record { state = stood t b low; edge = None })
move_kept t at b low after = ap (λ m. moved_by m (Some low) (stood at b b)) (moving_kept t at b after)

move_reported : (t at : ℕ) (b low : Bool) → at < t → moved_to (Some t) (Some low) (stood at (not b) b) ≡ Ok (record { state = stood t b low; edge = Some (record { at = at; low = b }) })
move_reported t at b low after = ap (λ m. moved_by m (Some low) (stood at (not b) b)) (moving_reported t at b after)

move_same : (t : ℕ) (was is low : Bool) → moved_to (Some t) (Some low) (stood t was is) ≡ Ok (record { state = stood t was low; edge = None })
move_same t was is low = ap (λ m. moved_by m (Some low) (stood t was is)) (moving_same t was is)

fall_move : (t at : ℕ) (b : Bool) → cond b (at + 1) at ≤ t → moved_to (Some t) (Some true) (stood at b false) ≡ Ok (record { state = stood t false true; edge = due at b })
fall_move t at true after = move_reported t at false true (omega (arith, after))
fall_move t at false after = move_kept t at false true after

-- an event's line, before what follows
reported_line : (number t level : ℕ) (low : Bool) (more : List ℕ) (k u : PinReader) (edge : Option Edge) → k ≡ stood k.track.at k.track.was_low k.track.is_low → t ≤ 2000000000000 → (level == 10) ≡ false
    → ((nanos : ℕ) → event_by (Some nanos) (code_of (level ∷ [])) ≡ Some (record { nanos = nanos; low = Some low }))
    → moved_to (Some t) (Some low) k ≡ Ok (record { state = u; edge = edge })
    → lines_read pin_form number (lines_of (event_line t level ++ 10 ∷ more)) k ≡ with_edges (option_to_list edge) (lines_read pin_form (number + 1) (lines_of more) u)
reported_line number t level low more k u edge zero early other code move =
    line_in number (event_line t level) more k u edge (line_plain t level early other) (event_taken t level low k zero early code ∙ move)

abbrev with_end : List Edge → ℕ → Result Captured (At Cause)
with_end edges end = Ok (record { edges = edges; end = end })

-- what the rest of a file is read as, where a rise may be due
abbrev Reads : List ℕ → ℕ → Bool → List Edge → ℕ → Type 0
Reads text at b edges end = (number : ℕ) → lines_read pin_form number (lines_of text) (stood at b false) ≡ with_end (option_to_list (due at b) ++ edges) end

cut_line : (t level : ℕ) (more : List ℕ) → event_text t level ++ more ≡ event_line t level ++ 10 ∷ more
cut_line t level more =
    append_assoc (decimal (t / 1000000)) (46 ∷ (nine_digits (t % 1000000) ++ 32 ∷ level ∷ 10 ∷ [])) more
    ∙ sym (append_assoc (decimal (t / 1000000)) (46 ∷ (nine_digits (t % 1000000) ++ 32 ∷ level ∷ [])) (10 ∷ more))

-- a stretch
stretch_reads : (s : Stretch) (at : ℕ) (b : Bool) (more : List ℕ) (edges : List Edge) (end : ℕ) → cond b (at + 1) at ≤ s.from → s.from < s.to → s.to ≤ 2000000000000
    → Reads more s.to true edges end → Reads (stretch_text s ++ more) at b (record { at = s.from; low = true } ∷ record { at = s.to; low = false } ∷ edges) end
stretch_reads s at b more edges end after wide low rest number =
    let parts : stretch_text s ++ more ≡ event_line s.from 48 ++ 10 ∷ (event_line s.to 49 ++ 10 ∷ more) =
    append_assoc (event_text s.from 48) (event_text s.to 49) more ∙ ap (λ l. event_text s.from 48 ++ l) (cut_line s.to 49 more) ∙ cut_line s.from 48 (event_line s.to 49 ++ 10 ∷ more) in
    ap (λ text. lines_read pin_form number (lines_of text) (stood at b false)) parts
    ∙ reported_line number s.from 48 true (event_line s.to 49 ++ 10 ∷ more) (stood at b false) (stood s.from false true) (due at b) refl (omega arith) refl fall_code (fall_move s.from at b after)
    ∙ ap (with_edges (option_to_list (due at b))) (
    reported_line (number + 1) s.to 49 false more (stood s.from false true) (stood s.to true false) (Some (record { at = s.from; low = true })) refl low refl rise_code (move_reported s.to s.from true false wide)
    ∙ ap (with_edges (record { at = s.from; low = true } ∷ [])) (rest (number + 1 + 1)))

-- the level is reported again
again_reads : (u at : ℕ) (b : Bool) (more : List ℕ) (edges : List Edge) (end : ℕ) → at ≤ u → u ≤ 2000000000000
    → ((c : Bool) → (c ≡ true → b ≡ true) → (c ≡ true → at ≡ u) → Reads more u c edges end) → Reads (event_text u 49 ++ more) at b edges end
again_reads u at false more edges end after low rest number =
    ap (λ text. lines_read pin_form number (lines_of text) (stood at false false)) (cut_line u 49 more)
    ∙ reported_line number u 49 false more (stood at false false) (stood u false false) None refl low refl rise_code (move_kept u at false false after)
    ∙ ap (with_edges []) (rest false (λ h. absurd (false≢true h)) (λ h. absurd (false≢true h)) (number + 1))
again_reads u at true more edges end after low rest number = by (nat_lt at u) refl
  where
    by : (t : Bool) → nat_lt at u ≡ t → lines_read pin_form number (lines_of (event_text u 49 ++ more)) (stood at true false) ≡ with_end (record { at = at; low = false } ∷ edges) end
    by true h =
        let earlier : at < u = grind (arith, nat_tests) in
        ap (λ text. lines_read pin_form number (lines_of text) (stood at true false)) (cut_line u 49 more)
        ∙ reported_line number u 49 false more (stood at true false) (stood u false false) (Some (record { at = at; low = false })) refl low refl rise_code (move_reported u at false false earlier)
        ∙ ap (with_edges (record { at = at; low = false } ∷ [])) (rest false (λ h. refl) (λ h. absurd (false≢true h)) (number + 1))
    by false h =
        let same : at ≡ u = grind (arith, nat_tests) in
        ap (λ text. lines_read pin_form number (lines_of text) (stood at true false)) (cut_line u 49 more)
        ∙ rw same (reported_line number u 49 false more (stood u true false) (stood u true false) None refl low refl rise_code (move_same u true false false)
        ∙ ap (with_edges []) (rest true (λ h. refl) (λ h. same) (number + 1)))

-- ---- rounds

abbrev flat : List (List Stretch) → List Stretch
flat rounds = flat_map (λ ss. ss) rounds

-- the stretches of a round after its first one
rest_reads : (ss others : List Stretch) (at : ℕ) (more : List ℕ) (edges : List Edge) (end : ℕ) → IsWaveFrom (at + 1) (ss ++ others) → EndsBy end (ss ++ others) → at ≤ end → end ≤ 2000000000000
    → ((to : ℕ) → IsWaveFrom (to + 1) others → EndsBy end others → to ≤ end → Reads more to true edges end)
    → Reads (flat_map stretch_text ss ++ more) at true (edges_of ss ++ edges) end
rest_reads [] others at more edges end wave by after low rest = rest at wave by after
rest_reads (s ∷ ss) others at more edges end wave by after low rest = λ number.
    let ends = by.0 in
    ap (λ text. lines_read pin_form number (lines_of text) (stood at true false)) (append_assoc (stretch_text s) (flat_map stretch_text ss) more)
    ∙ stretch_reads s at true (flat_map stretch_text ss ++ more) (edges_of ss ++ edges) end wave.0 wave.1 (omega (arith, ends))
    (rest_reads ss others s.to more edges end wave.2 by.1 ends low rest) number

edges_both : (ss others : List Stretch) → edges_of ss ++ edges_of others ≡ edges_of (ss ++ others)
edges_both [] others = refl
edges_both (s ∷ ss) others = ap (λ es. record { at = s.from; low = true } ∷ record { at = s.to; low = false } ∷ es) (edges_both ss others)

still_after : (c : Bool) (at from : ℕ) → (c ≡ true → at + 1 ≤ from) → (c ≡ true → at ≡ from - 1) → cond c (from - 1 + 1) (from - 1) ≤ from
still_after true at from h e = omega (arith, h refl, e refl)
still_after false at from h e = omega arith

early_by : (b : Bool) (at from : ℕ) → cond b (at + 1) at ≤ from → (b ≡ false → at ≡ 0) → at ≤ from - 1
early_by true at from h z = omega (arith, h)
early_by false at from h z = omega (arith, z refl)

step_by : (b : Bool) (at from : ℕ) → b ≡ true → cond b (at + 1) at ≤ from → at + 1 ≤ from
step_by true at from e h = h
step_by false at from e h = absurd (false≢true e)

over : (c : Bool) (u : ℕ) → Reads [] u c [] u
over true u = λ number. refl
over false u = λ number. refl

round_parts : (a b c d : List ℕ) → ((a ++ b) ++ c) ++ d ≡ a ++ (b ++ (c ++ d))
round_parts a b c d = append_assoc (a ++ b) c d ∙ append_assoc a b (c ++ d)

rounds_read : (rounds : List (List Stretch)) (at : ℕ) (b : Bool) (end : ℕ) → IsWaveFrom (cond b (at + 1) at) (flat rounds) → EndsBy end (flat rounds) → at ≤ end → end ≤ 2000000000000 → (b ≡ false → at ≡ 0)
    → Reads (flat_map round_text rounds ++ event_text end 49) at b (edges_of (flat rounds)) end
rounds_read [] at b end wave by after low zero = λ number.
    ap (λ text. lines_read pin_form number (lines_of text) (stood at b false)) (sym (append-nil (event_text end 49)))
    ∙ again_reads end at b [] [] end after low (λ c h e. over c end) number
rounds_read ([] ∷ rs) at b end wave by after low zero = rounds_read rs at b end wave by after low zero
rounds_read ((s ∷ ss) ∷ rs) at b end wave by after low zero = λ number.
    let ends = by.0 in
    let others = flat rs in
    let tail = flat_map round_text rs ++ event_text end 49 in
    ap (λ text. lines_read pin_form number (lines_of text) (stood at b false)) (round_parts (event_text (s.from - 1) 49) (flat_map stretch_text (s ∷ ss)) (flat_map round_text rs) (event_text end 49))
    ∙ again_reads (s.from - 1) at b (flat_map stretch_text (s ∷ ss) ++ tail) (edges_of (s ∷ ss) ++ edges_of others) end (early_by b at s.from wave.0 zero) (let w = wave.1 in omega (arith, ends))
    (λ c h e. λ n.
    ap (λ text. lines_read pin_form n (lines_of text) (stood (s.from - 1) c false)) (append_assoc (stretch_text s) (flat_map stretch_text ss) tail)
    ∙ stretch_reads s (s.from - 1) c (flat_map stretch_text ss ++ tail) (edges_of ss ++ edges_of others) end
    (still_after c at s.from (λ t. step_by b at s.from (h t) wave.0) e) wave.1 (omega (arith, ends))
    (rest_reads ss others s.to tail (edges_of others) end wave.2 by.1 ends low
    (λ to w y le. rounds_read rs to true end w y le low (λ f. absurd (false≢true (sym f))))) n) number
    ∙ ap (λ es. with_end (option_to_list (due at b) ++ es) end) (edges_both (s ∷ ss) others)

-- ---- the head

head_line : (number : ℕ) (line rest : List ℕ) (t u : PinReader) → list_all (λ c. not (c == 10)) line ≡ true → took line t ≡ Ok (record { state = u; edge = None })
    → lines_read pin_form number (lines_of (line ++ 10 ∷ rest)) t ≡ lines_read pin_form (number + 1) (lines_of rest) u
head_line number line rest t u all h = line_in number line rest t u None (shown (λ c. c == 10) line all) h ∙ same (lines_read pin_form (number + 1) (lines_of rest) u)
  where
    same : (r : Result Captured (At Cause)) → with_edges [] r ≡ r
    same (Ok e) = refl
    same (Err f) = refl

abbrev still : PinReader
still = stood 0 false false

head_read : (more : List ℕ) → lines_read pin_form 1 (lines_of (head ++ more)) first_reader ≡ lines_read pin_form 8 (lines_of more) still
head_read more =
    let t7 = codes "0.000000000 1" ++ 10 ∷ more in
    let t6 = codes "# phys_addr f.f.f.f" ++ 10 ∷ t7 in
    let t5 = codes "# log_addr_mask 0x0000" ++ 10 ∷ t6 in
    let t4 = codes "# start_timeofday 0.000000" ++ 10 ∷ t5 in
    let t3 = codes "# start_monotonic 0.000000000" ++ 10 ∷ t4 in
    let t2 = codes "# version 1" ++ 10 ∷ t3 in
    head_line 1 (codes "# cec-ctl --store-pin") t2 still still refl refl
    ∙ head_line 2 (codes "# version 1") t3 still still refl refl
    ∙ head_line 3 (codes "# start_monotonic 0.000000000") t4 still still refl refl
    ∙ head_line 4 (codes "# start_timeofday 0.000000") t5 still still refl refl
    ∙ head_line 5 (codes "# log_addr_mask 0x0000") t6 still still refl refl
    ∙ head_line 6 (codes "# phys_addr f.f.f.f") t7 still still refl refl
    ∙ head_line 7 (codes "0.000000000 1") more still still refl refl

-- ---- the end

pub pin_files_are_read_back : PinFilesAreReadBack
pin_files_are_read_back rounds end wave high low =
    head_read (flat_map round_text rounds ++ event_text end 49)
    ∙ rounds_read rounds 0 false end wave (ends_by (flat rounds) 0 end wave high) (omega arith) low (λ h. refl) 8
