-- A plain script that ends earlier says the same events before then, the same pulses and pulls, and that end, which lets the pin go.
use Rattle.std.proofs.Common.{◌≡◌, ℕ, suc, ◌+◌, ◌^◌, ◌<◌, ◌≤◌, ◌==◌, ◌&&◌, Bool, true, false, cond, codes, if◌then◌else◌, List, [], ◌∷◌, ◌++◌, length, map, min, filter, nat_lt, nat_le, Some, None, is_some, option_map, inl, inr, Result, Ok, Err, refl, sym, ap, subst, ◌∙◌, arith, ne_eqb}
use Rattle.std.specs.Fmt.{decimal}
use Rattle.std.proofs.lemmas.Bool.Decides.{nat_tests}
use Rattle.std.specs.Char.{digit_value}
use Rattle.std.proofs.lemmas.List.Elements.{All-nil, filter_passes}
use Rattle.std.proofs.lemmas.List.Splits.{slice_split_at, slice_split_none}
use Rattle.edid_tree.specs.Node.{Node}
use Rattle.line_wave.specs.Bounds.{latest_event}
use Rattle.text_core.specs.Lines.{lines_of, is_skipped}
use Rattle.text_core.specs.Number.{number_of}
use Rattle.text_core.specs.Words.{words_of}
use Rattle.text_forms.specs.Forms.{Meaning, Place, Said, fault_in, is_whole, level_at, meanings_of, number_at, read_by, row_of, time_at}
use Rattle.text_forms.specs.Forms.Meaning.{Itself, Number}
use Rattle.text_forms.specs.declared.form.Slot.TheVariants as slots
use Rattle.room_lines.specs.declared.script.ScriptVerb.{ScriptVerb}
use Rattle.room_lines.specs.declared.script.ScriptVerb.TheVariants as verbs
use Rattle.capture_core.specs.Texts.{Lacks}
use Rattle.capture_core.proofs.Numbers.{number_again}
use Rattle.capture_core.proofs.Texts.{more_lack, none_lack, number_lacks, number_plain}
use Rattle.room_script.specs.declared.script.TimedEvent.{TimedEvent}
use Rattle.text_core.specs.At.{at_word}
use Rattle.text_core.specs.declared.at.AtWord.{AtWord}
use Rattle.room_script.specs.declared.script.ScriptCause.{ScriptCause}
use Rattle.room_script.specs.declared.script.ScriptCause.TheVariants.{End}
use Rattle.room_script.specs.Script.{Course, Notes, last_time, notes_with_event, notes_with_pulse, notes_with_pull, notes_with_level, pulse_of, pulses_ended, end_checked, course_at_end, line_said, no_notes, IsLineRead, IsSaid, IsSaidRead, Onward, AreLinesRead}
use Rattle.room_script.specs.Lines.{first_of}
use Rattle.room_script.proofs.Begins.{lines_begin}
use Rattle.text_core.specs.declared.at.At.{At}
use Rattle.expect_text.specs.Line.{cut_line, cut_script, has_verb, is_before, is_event, is_sooner}
use Rattle.expect_run.specs.Cuts.{CutsAreRead, IsCut, is_early}
use Rattle.expect_run.proofs.EachLine.{lines_each}
use Rattle.expect_run.proofs.CutNotes.{cut_notes, notes_ended, AreInOrder, early_end, event_goes, event_takes, taken, Ends, Goes, Gone, Says, Stays, pulse_goes, pull_goes, level_goes, pin_opens, end_given, some_end, AreSame, ok_same}

-- the line `end T`
abbrev end_line : ℕ → List ℕ
end_line time = codes "end " ++ decimal time

low_digit : (c : ℕ) → digit_value c < 10 → (c == 32) ≡ false
low_digit c h = grind (arith, nat_tests)

end_line_words : (time : ℕ) → time < 2 ^ 64 → words_of (end_line time) ≡ codes "end" ∷ decimal time ∷ []
end_line_words time small =
    let solid : Lacks (λ c. c == 32) (codes "end") = more_lack (λ c. c == 32) 101 (110 ∷ 100 ∷ []) refl (more_lack (λ c. c == 32) 110 (100 ∷ []) refl (more_lack (λ c. c == 32) 100 [] refl (none_lack (λ c. c == 32)))) in
    slice_split_at (λ b. b == 32) (codes "end") 32 (decimal time) solid refl
    ∙ ap (λ ws. codes "end" ∷ ws) (slice_split_none (λ b. b == 32) (decimal time) (number_lacks (λ c. c == 32) time small low_digit))

end_line_reported : (time : ℕ) → is_skipped (end_line time) ≡ false
end_line_reported time = reported (110 ∷ 100 ∷ 32 ∷ decimal time)
  where
    reported : (cs : List ℕ) → is_skipped (101 ∷ cs) ≡ false
    reported cs = rw (ne_eqb (suc (length cs)) 0 (omega arith)) refl

abbrev end_form : List Place
end_form = (slots.Word, codes "end") ∷ (slots.Time, codes "T") ∷ []

abbrev end_values : ℕ → List Meaning
end_values time = Itself ∷ Number time ∷ []

end_row : (w : List ℕ) → line_said (codes "end" ∷ w ∷ []) ≡ read_by verbs.End end_form (codes "end" ∷ w ∷ [])
unfolding line_said row_of is_whole
end_row w = refl

end_read : (w : List ℕ) (time : ℕ) → number_of w ≡ Some time → nat_lt latest_event time ≡ false → read_by verbs.End end_form (codes "end" ∷ w ∷ []) ≡ Ok (verbs.End, end_values time)
unfolding fault_in meanings_of
end_read w time is within = rw (is, within) refl

within : (time : ℕ) → time ≤ latest_event → nat_lt latest_event time ≡ false
within time low = grind (arith, nat_tests)

least : (time : ℕ) → time ≤ latest_event → min time latest_event ≡ time
least time low = omega (arith, low)

end_line_said : (time : ℕ) → time ≤ latest_event → line_said (words_of (end_line time)) ≡ Ok (verbs.End, end_values time)
end_line_said time low =
    ap line_said (end_line_words time (omega (arith, low))) ∙ end_row (decimal time) ∙ end_read (decimal time) time (number_again time (omega (arith, low))) (within time low)

end_cut : (time : ℕ) (notes : Notes) → time ≤ latest_event → is_some notes.end ≡ false → end_checked (cut_notes time notes) (time_at (end_values time) 1) ≡ Ok (notes_ended time notes)
end_cut time notes low unended =
    let early : (nat_lt 0 (length (filter (is_early time) notes.events)) && nat_le time (last_time (filter (is_early time) notes.events))) ≡ false =
    early_end time (filter (is_early time) notes.events) (filter_passes (is_early time) notes.events) in
    ap (end_checked (cut_notes time notes)) (least time low)
    ∙ chosen (is_some (option_map (λ (t : ℕ). time) notes.end)) (nat_lt 0 (length (filter (is_early time) notes.events)) && nat_le time (last_time (filter (is_early time) notes.events)))
    (notes_ended time notes) (some_end time notes.end ∙ unended) early
  where
    chosen : (a b : Bool) (n : Notes) → a ≡ false → b ≡ false → (if a then Err (at_word 0 End) else if b then Err (at_word 1 End) else Ok n) ≡ Ok n
    chosen true b n p q = cc
    chosen false true n p q = cc
    chosen false false n p q = refl

-- ---- a line

-- what a line that is not skipped gives by its row
row_read : (tree : List Node) (n : Notes) (waiting line : ℕ) (text : List ℕ) (verb : ScriptVerb) (values : List Meaning) (read : Result Notes (AtWord ScriptCause)) → is_skipped text ≡ false → line_said (words_of text) ≡ Ok (verb, values)
    → IsSaid tree n waiting line verb values read → IsLineRead tree n waiting line text read
row_read tree n waiting line text verb values read reported is h =
    let said = subst (λ s. IsSaidRead tree n waiting line s read) (sym is) h in
    subst (λ b. cond {A = Type 0} b (read ≡ Ok n) (IsSaidRead tree n waiting line (line_said (words_of text)) read)) (sym reported) said

end_goes : (tree : List Node) (time line : ℕ) (notes next : Notes) (at : ℕ) → time ≤ latest_event → Ok next ≡ end_checked notes at → Ends tree time line (end_line time) notes next
end_goes tree time line notes next at low e =
    let given = end_given notes next at e in
    record {
      at = at;
      next_is = given.1;
      cut_is = row_read tree (cut_notes time notes) (length notes.pulses) line (end_line time) verbs.End (end_values time) (Ok (notes_ended time notes)) (end_line_reported time) (end_line_said time low) (sym (end_cut time notes low given.0));
    }

in_order : (notes next : Notes) → next.events ≡ notes.events → AreInOrder notes.events → AreInOrder next.events
in_order notes next e order = subst (λ (es : List TimedEvent). AreInOrder es) (sym e) order

-- the cut of a line that is not skipped, by its words
abbrev cut_words : ℕ → List ℕ → List (List ℕ) → List ℕ
cut_words time text words = if is_event words then (if is_before time words then text else []) else if has_verb (codes "end") words then end_line time else text

-- a line of an event
event_said : (tree : List Node) (time line : ℕ) (text : List ℕ) (verb : ScriptVerb) (values : List Meaning) (notes next : Notes) → first_of verb ≡ codes "at" → AreInOrder notes.events → is_skipped text ≡ false
    → line_said (words_of text) ≡ Ok (verb, values) → Says tree line verb values notes (Ok next) → Gone tree time line text (cut_words time text (words_of text)) notes next
event_said tree time line text verb values notes next at order reported is h =
    let t = event_takes tree line verb values notes next at h in
    let begin = lines_begin (words_of text) verb values t.at is t.time_is in
    let words : words_of text ≡ codes "at" ∷ begin.0 ∷ begin.1 = begin.2 ∙ ap (λ v. v ∷ begin.0 ∷ begin.1) at in
    let goes = event_goes tree time line t.at text t.event notes next order (taken notes line t.at t.event next t.now)
    (λ n. row_read tree n (length n.pulses) line text verb values (notes_with_event n line t.at t.event) reported is (t.reads n)) in
    let by_time = subst (λ o. Goes tree time line text (if is_sooner time o then text else []) notes next) (sym begin.3) goes in
    inl (subst (λ ws. Goes tree time line text (cut_words time text ws) notes next) (sym words) by_time)

-- a line that is no event and not the end
other_said : (tree : List Node) (time line : ℕ) (text : List ℕ) (verb : ScriptVerb) (values : List Meaning) (notes next : Notes) (cut : Result Notes (AtWord ScriptCause)) (word : List ℕ) (others : List (List ℕ))
    → words_of text ≡ first_of verb ∷ word ∷ others → cut_words time text (first_of verb ∷ word ∷ others) ≡ text → AreInOrder notes.events → is_skipped text ≡ false → line_said (words_of text) ≡ Ok (verb, values)
    → IsSaid tree (cut_notes time notes) (length notes.pulses) line verb values cut → Stays time notes next cut → Gone tree time line text (cut_words time text (words_of text)) notes next
other_said tree time line text verb values notes next cut word others words same order reported is h g =
    subst (λ c. Gone tree time line text c notes next) (sym (ap (cut_words time text) words ∙ same))
    (inl (record {
      order = in_order notes next g.events order;
      same_end = g.same_end;
      cut_is = row_read tree (cut_notes time notes) (length notes.pulses) line text verb values (Ok (cut_notes time next)) reported is (subst (λ r. IsSaid tree (cut_notes time notes) (length notes.pulses) line verb values r) g.cut_is h);
    }))

said_goes : (tree : List Node) (time line : ℕ) (text : List ℕ) (verb : ScriptVerb) (values : List Meaning) (notes next : Notes) → time ≤ latest_event → AreInOrder notes.events → is_skipped text ≡ false
    → line_said (words_of text) ≡ Ok (verb, values) → Says tree line verb values notes (Ok next) → Gone tree time line text (cut_words time text (words_of text)) notes next
said_goes tree time line text (verbs.Press word) values notes next low order reported is h = event_said tree time line text (verbs.Press word) values notes next refl order reported is h
said_goes tree time line text (verbs.Release word) values notes next low order reported is h = event_said tree time line text (verbs.Release word) values notes next refl order reported is h
said_goes tree time line text verbs.Plug values notes next low order reported is h = event_said tree time line text verbs.Plug values notes next refl order reported is h
said_goes tree time line text verbs.Unplug values notes next low order reported is h = event_said tree time line text verbs.Unplug values notes next refl order reported is h
said_goes tree time line text verbs.Send values notes next low order reported is h = event_said tree time line text verbs.Send values notes next refl order reported is h
said_goes tree time line text verbs.Hold values notes next low order reported is h = event_said tree time line text verbs.Hold values notes next refl order reported is h
said_goes tree time line text verbs.Drop values notes next low order reported is h = event_said tree time line text verbs.Drop values notes next refl order reported is h
said_goes tree time line text verbs.Pulse values notes next low order reported is h =
    let begin = lines_begin (words_of text) verbs.Pulse values (time_at values 1) is refl in
    let pulse = pulse_of (time_at values 1) (number_at values 2) in
    other_said tree time line text verbs.Pulse values notes next (notes_with_pulse (cut_notes time notes) (length notes.pulses) pulse) begin.0 begin.1 begin.2 refl order reported is refl
    (pulse_goes time notes next pulse h).stays
said_goes tree time line text verbs.Pull values notes next low order reported is h =
    let begin = lines_begin (words_of text) verbs.Pull values (time_at values 1) is refl in
    other_said tree time line text verbs.Pull values notes next (notes_with_pull (cut_notes time notes) (length notes.pulses) (time_at values 1) (number_at values 2)) begin.0 begin.1 begin.2 refl order reported is refl
    (pull_goes time notes next (time_at values 1) (number_at values 2) h).stays
said_goes tree time line text verbs.Pin values notes next low order reported is h =
    let begin = lines_begin (words_of text) verbs.Pin values (time_at values 1) is refl in
    other_said tree time line text verbs.Pin values notes next (notes_with_level (cut_notes time notes) (length notes.pulses) (time_at values 1) notes.pin (level_at values 2)) begin.0 begin.1 begin.2 refl order reported is refl
    (level_goes time notes next (time_at values 1) notes.pin (level_at values 2) h)
said_goes tree time line text verbs.End values notes next low order reported is h =
    let begin = lines_begin (words_of text) verbs.End values (time_at values 1) is refl in
    let Cut : List ℕ → Type 0 = λ c. Gone tree time line text c notes next in
    subst Cut (sym (ap (cut_words time text) begin.2)) (inr (end_goes tree time line notes next (time_at values 1) low h))

line_goes : (tree : List Node) (time line : ℕ) (text : List ℕ) (notes next : Notes) → time ≤ latest_event → AreInOrder notes.events → IsLineRead tree notes (length notes.pulses) line text (Ok next)
    → Gone tree time line text (cut_line time text) notes next
line_goes tree time line text notes next low order h = by (is_skipped text) refl h
  where
    said : is_skipped text ≡ false → (s : Said ScriptVerb) → line_said (words_of text) ≡ s → IsSaidRead tree notes (length notes.pulses) line s (Ok next) → Gone tree time line text (cut_words time text (words_of text)) notes next
    said reported (Err fault) is h = cc
    said reported (Ok (verb, values)) is h = said_goes tree time line text verb values notes next low order reported is h

    by : (b : Bool) → is_skipped text ≡ b → cond {A = Type 0} b (AreSame next notes) (IsSaidRead tree notes (length notes.pulses) line (line_said (words_of text)) (Ok next))
        → Gone tree time line text (if b then text else cut_words time text (words_of text)) notes next
    by true e h =
        let same = ok_same next notes h in
        inl (record {
          order = subst (λ (n : Notes). AreInOrder n.events) (sym same) order;
          same_end = ap (λ (n : Notes). n.end) same;
          cut_is = subst (λ b. cond {A = Type 0} b (AreSame (cut_notes time next) (cut_notes time notes)) (IsSaidRead tree (cut_notes time notes) (length notes.pulses) line (line_said (words_of text)) (Ok (cut_notes time next)))) (sym e) (ap (λ (n : Notes). Ok (cut_notes time n)) same);
        })
    by false e h = said e (line_said (words_of text)) refl h

-- ---- after the end

both_ways : (b : Bool) → b ≡ true → b ≡ false → ⊥
both_ways true p q = cc
both_ways false p q = cc

event_over : (tree : List Node) (line : ℕ) (verb : ScriptVerb) (values : List Meaning) (notes next : Notes) → first_of verb ≡ codes "at" → is_some notes.end ≡ true → Says tree line verb values notes (Ok next) → ⊥
event_over tree line verb values notes next at over h =
    let t = event_takes tree line verb values notes next at h in
    both_ways (is_some notes.end) over (taken notes line t.at t.event next t.now).open_end

-- a line that is taken there is skipped
said_over : (tree : List Node) (line : ℕ) (verb : ScriptVerb) (values : List Meaning) (notes next : Notes) → is_some notes.end ≡ true → notes.pin ≡ None → Says tree line verb values notes (Ok next) → ⊥
said_over tree line (verbs.Press word) values notes next over high h = event_over tree line (verbs.Press word) values notes next refl over h
said_over tree line (verbs.Release word) values notes next over high h = event_over tree line (verbs.Release word) values notes next refl over h
said_over tree line verbs.Plug values notes next over high h = event_over tree line verbs.Plug values notes next refl over h
said_over tree line verbs.Unplug values notes next over high h = event_over tree line verbs.Unplug values notes next refl over h
said_over tree line verbs.Send values notes next over high h = event_over tree line verbs.Send values notes next refl over h
said_over tree line verbs.Hold values notes next over high h = event_over tree line verbs.Hold values notes next refl over h
said_over tree line verbs.Drop values notes next over high h = event_over tree line verbs.Drop values notes next refl over h
said_over tree line verbs.Pulse values notes next over high h = both_ways (is_some notes.end) over (pulse_goes 0 notes next (pulse_of (time_at values 1) (number_at values 2)) h).open_end
said_over tree line verbs.Pull values notes next over high h = both_ways (is_some notes.end) over (pull_goes 0 notes next (time_at values 1) (number_at values 2) h).open_end
said_over tree line verbs.Pin values notes next over high h = both_ways (is_some notes.end) over (pin_opens notes next (time_at values 1) (level_at values 2) high h)
said_over tree line verbs.End values notes next over high h = both_ways (is_some notes.end) over (end_given notes next (time_at values 1) h).0

words_over : (tree : List Node) (line : ℕ) (notes next : Notes) (said : Said ScriptVerb) → is_some notes.end ≡ true → notes.pin ≡ None → IsSaidRead tree notes (length notes.pulses) line said (Ok next) → ⊥
words_over tree line notes next (Err fault) over high h = cc
words_over tree line notes next (Ok said) over high h = said_over tree line said.0 said.1 notes next over high h

-- what lines after the end give, and those of the script that ends earlier
record Over (tree : List Node) (time line : ℕ) (texts : List (List ℕ)) (notes cut : Notes) (course : Course) (t : ℕ) : Type 0 where
  pub course_is : course ≡ record { events = notes.events; pulses = notes.pulses; end = t }
  pub cut_is : AreLinesRead tree (map (cut_line time) texts) line cut (Ok (record { events = cut.events; pulses = cut.pulses; end = time }))

lines_over : (tree : List Node) (time : ℕ) (texts : List (List ℕ)) (line : ℕ) (notes cut : Notes) (course : Course) (t : ℕ) → notes.end ≡ Some t → notes.pin ≡ None → cut.end ≡ Some time
    → AreLinesRead tree texts line notes (Ok course) → Over tree time line texts notes cut course t
lines_over tree time [] line notes cut course t end high cut_end h =
    let whole : Ok course ≡ course_at_end notes line (Some t) = h ∙ ap (course_at_end notes line) end in
    record {
      course_is = same_course course (record { events = notes.events; pulses = notes.pulses; end = t }) whole;
      cut_is = sym (ap (course_at_end cut line) cut_end);
    }
  where
    same_course : (a b : Course) → ◌≡◌ {A = Result Course (At ScriptCause)} (Ok a) (Ok b) → a ≡ b
    same_course a b e = cc
lines_over tree time (text ∷ texts) line notes cut course t end high cut_end h = step h.0 h.1 h.2 (λ next e p k. lines_over tree time texts (line + 1) next cut course t e p cut_end k)
  where
    skipped : (next : Notes) (b : Bool) → is_skipped text ≡ b → cond {A = Type 0} b (AreSame next notes) (IsSaidRead tree notes (length notes.pulses) line (line_said (words_of text)) (Ok next)) → (b ≡ true) × (next ≡ notes)
    skipped next true e k = (refl, ok_same next notes k)
    skipped next false e k = absurd (words_over tree line notes next (line_said (words_of text)) (ap is_some end) high k)

    step : (now : Result Notes (AtWord ScriptCause)) → IsLineRead tree notes (length notes.pulses) line text now → Onward line now (λ next. AreLinesRead tree texts (line + 1) next (Ok course)) (Ok course)
        → ((next : Notes) → next.end ≡ Some t → next.pin ≡ None → AreLinesRead tree texts (line + 1) next (Ok course) → Over tree time (line + 1) texts next cut course t)
        → Over tree time line (text ∷ texts) notes cut course t
    step (Err cause) l o later = cc
    step (Ok next) l o later =
        let is = skipped next (is_skipped text) refl l in
        let rest = later next (ap (λ (n : Notes). n.end) is.1 ∙ end) (ap (λ (n : Notes). n.pin) is.1 ∙ high) o in
        record {
          course_is = rest.course_is ∙ ap (λ (n : Notes). let c : Course = record { events = n.events; pulses = n.pulses; end = t } in c) is.1;
          cut_is = (
            Ok cut,
            subst (λ b. cond {A = Type 0} b (AreSame cut cut) (IsSaidRead tree cut (length cut.pulses) line (line_said (words_of (cut_line time text))) (Ok cut))) (sym (still is.0)) refl,
            rest.cut_is,
          );
        }
      where
        by : (b : Bool) → b ≡ true → (line : List ℕ) → is_skipped text ≡ b → is_skipped (if b then text else line) ≡ true
        by true e line k = k
        by false e line k = cc

        still : is_skipped text ≡ true → is_skipped (cut_line time text) ≡ true
        still e = by (is_skipped text) e (cut_words time text (words_of text)) refl

-- ---- all lines

-- the script that ends earlier, and what it says
record IsCutRead (tree : List Node) (time line : ℕ) (texts : List (List ℕ)) (notes : Notes) (course : Course) : Type 0 where
  pub cut : Course
  pub is_cut : IsCut time course cut
  pub read : AreLinesRead tree (map (cut_line time) texts) line (cut_notes time notes) (Ok cut)

lines_go : (tree : List Node) (time : ℕ) (texts : List (List ℕ)) (line : ℕ) (notes : Notes) (course : Course) → time ≤ latest_event → AreInOrder notes.events → notes.end ≡ None
    → AreLinesRead tree texts line notes (Ok course) → IsCutRead tree time line texts notes course
lines_go tree time [] line notes course low order above h = (let none = h ∙ ap (course_at_end notes line) above in cc)
lines_go tree time (text ∷ texts) line notes course low order above h = step h.0 h.1 h.2 (λ next o e k. lines_go tree time texts (line + 1) next course low o e k)
  where
    step : (now : Result Notes (AtWord ScriptCause)) → IsLineRead tree notes (length notes.pulses) line text now → Onward line now (λ next. AreLinesRead tree texts (line + 1) next (Ok course)) (Ok course)
        → ((next : Notes) → AreInOrder next.events → next.end ≡ None → AreLinesRead tree texts (line + 1) next (Ok course) → IsCutRead tree time (line + 1) texts next course)
        → IsCutRead tree time line (text ∷ texts) notes course
    step (Err cause) l o later = cc
    step (Ok next) l o later = by (line_goes tree time line text notes next low order l)
      where
        by : Gone tree time line text (cut_line time text) notes next → IsCutRead tree time line (text ∷ texts) notes course
        by (inl g) =
            let rest = later next g.order (g.same_end ∙ above) o in
            record { cut = rest.cut; is_cut = rest.is_cut; read = (Ok (cut_notes time next), g.cut_is, rest.read) }
        by (inr g) =
            let over = lines_over tree time texts (line + 1) next (notes_ended time notes) course g.at (ap (λ (n : Notes). n.end) g.next_is) (ap (λ (n : Notes). n.pin) g.next_is) refl o in
            let whole : course ≡ record { events = notes.events; pulses = pulses_ended notes.pin notes.pulses g.at; end = g.at } =
            over.course_is ∙ ap (λ (n : Notes). let c : Course = record { events = n.events; pulses = n.pulses; end = g.at } in c) g.next_is in
            record {
              cut = record { events = filter (is_early time) notes.events; pulses = pulses_ended notes.pin notes.pulses time; end = time };
              is_cut = subst (λ (c : Course). IsCut time c (record { events = filter (is_early time) notes.events; pulses = pulses_ended notes.pin notes.pulses time; end = time })) (sym whole)
                  (record { pulses = notes.pulses; pin = notes.pin; whole = refl; cut_is = refl });
              read = (Ok (notes_ended time notes), g.cut_is, over.cut_is);
            }

-- ---- the lines of the text

cut_lacks : (time : ℕ) (line : List ℕ) → time ≤ latest_event → Lacks (λ c. c == 10) line → Lacks (λ c. c == 10) (cut_line time line)
cut_lacks time line low h = by (is_skipped line) (is_event (words_of line)) (is_before time (words_of line)) (has_verb (codes "end") (words_of line))
  where
    last : Lacks (λ c. c == 10) (end_line time)
    last = more_lack (λ c. c == 10) 101 (110 ∷ 100 ∷ 32 ∷ decimal time) refl (more_lack (λ c. c == 10) 110 (100 ∷ 32 ∷ decimal time) refl (more_lack (λ c. c == 10) 100 (32 ∷ decimal time) refl
        (more_lack (λ c. c == 10) 32 (decimal time) refl (number_plain time (omega (arith, low))))))

    by : (s e b n : Bool) → Lacks (λ c. c == 10) (if s then line else if e then (if b then line else []) else if n then end_line time else line)
    by true e b n = h
    by false true true n = h
    by false true false n = none_lack (λ c. c == 10)
    by false false b true = last
    by false false b false = h

-- ---- all

pub cuts_are_read : CutsAreRead
cuts_are_read tree time script course low h =
    let lines : lines_of (cut_script time script) ≡ map (cut_line time) (lines_of script) =
    lines_each (cut_line time) script (λ line h. cut_lacks time line low h) in
    let all = lines_go tree time (lines_of script) 1 no_notes course low (All-nil (λ (e : TimedEvent). e.at ≤ last_time [])) refl h in
    (all.cut, all.is_cut, subst (λ ls. AreLinesRead tree ls 1 no_notes (Ok all.cut)) (sym lines) all.read)
