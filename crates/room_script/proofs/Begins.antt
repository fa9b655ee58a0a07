-- A line that is read begins with its row's word, and then with its time.
use Rattle.std.proofs.Common.{◌≡◌, ℕ, ◌==◌, ◌&&◌, ◌||◌, not, Bool, true, false, if◌then◌else◌, List, [], ◌∷◌, ◌++◌, get_or, min, nat_lt, Option, Some, None, is_none, option_map, Result, Ok, Err, refl, sym, ap, ◌∙◌, subst, arith, true≢false}
use Rattle.std.specs.List.{list_all}
use Rattle.std.specs.Str.{bytes_eq}
use Rattle.std.proofs.lemmas.Slice.Eq.{bytes_eq-Decides}
use Rattle.std.proofs.lemmas.Bool.Decides.{nat_tests}
use Rattle.device_features.specs.declared.key_word.KeyWord.{KeyWord}
use Rattle.device_features.specs.declared.key_word.KeyWord.TheVariants as key_words
use Rattle.text_core.specs.Number.{number_of}
use Rattle.text_core.specs.declared.at.AtWord.{AtWord}
use Rattle.text_forms.specs.Limits.{at_most, latest}
use Rattle.text_forms.specs.Forms.{Meaning, Place, fault_in, fits, is_itself, is_rest, is_whole, may_be, late_time_at, late_time_of_meaning, meaning_of, meanings_of, read_by, time_at, time_of_meaning, turn_of, unless, value_or}
use Rattle.text_forms.specs.Forms.Meaning.{Itself, Number}
use Rattle.text_forms.specs.declared.form.Slot.{Slot}
use Rattle.text_forms.specs.declared.form.Slot.TheVariants as slots
use Rattle.text_forms.specs.declared.form.LineCause.{LineCause}
use Rattle.room_lines.specs.Script.{script_rows}
use Rattle.room_lines.specs.declared.script.ScriptVerb.{ScriptVerb}
use Rattle.room_lines.specs.declared.script.ScriptVerb.TheVariants as verbs
use Rattle.room_script.specs.Script.{key_time}
use Rattle.room_script.specs.Lines.{IsOfRow, LinesBeginSo, first_of, time_said}
use Rattle.room_script.proofs.Rows.{of_rows}

-- ---- the rows

-- whether the caller tells a fault of the time
abbrev is_late_key : KeyWord → Bool
is_late_key key_words.Watch = true
is_late_key key_words.Language = true
is_late_key key_words.Remote = true
is_late_key _ = false

abbrev is_late : ScriptVerb → Bool
is_late (verbs.Press word) = is_late_key word
is_late (verbs.Release word) = is_late_key word
is_late verbs.Send = true
is_late verbs.Hold = true
is_late _ = false

abbrev is_time : Slot → Bool → Bool
is_time slots.Time late = not late
is_time slots.LateTime late = late
is_time _ late = false

abbrev begins_by : List ℕ → Bool → List Place → Bool
begins_by first late [] = false
begins_by first late (p ∷ []) = false
begins_by first late (p ∷ q ∷ ps) = is_itself p.0 && (not (is_rest p.0) && (bytes_eq p.1 first && is_time q.0 late))

abbrev begins : ScriptVerb × List Place → Bool
begins row = begins_by (first_of row.0) (is_late row.0) row.1

rows_begin : list_all begins script_rows ≡ true
rows_begin = refl

-- ---- Bool

and_both : (a b : Bool) → (a && b) ≡ true → (a ≡ true) × (b ≡ true)
and_both true b h = (refl, h)
and_both false b h = cc

not_so : (a : Bool) → not a ≡ true → a ≡ false
not_so true h = cc
not_so false h = refl

or_second : (a b : Bool) → a ≡ false → (a || b) ≡ true → b ≡ true
or_second true b e h = cc
or_second false b e h = h

if_true : (a b c : Bool) → a ≡ true → (if a then b else c) ≡ true → b ≡ true
if_true true b c e h = h
if_true false b c e h = cc

not_both : (a b : Bool) → a ≡ true → (a && b) ≡ false → b ≡ false
not_both true b e h = h
not_both false b e h = cc

each_of : {X : Type 0} (f : X → Bool) (before after : List X) (x : X) → list_all f (before ++ x ∷ after) ≡ true → f x ≡ true
each_of f [] after x h = (and_both (f x) (list_all f after) h).0
each_of f (y ∷ before) after x h = each_of f before after x (and_both (f y) (list_all f (before ++ x ∷ after)) h).1

-- ---- a time at the second place

time_slot : (slot : Slot) (late : Bool) (w : List ℕ) → is_time slot late ≡ true → (is_rest slot ≡ false) × (meaning_of slot w ≡ option_map Number (at_most latest (number_of w))) × (late ≡ false → turn_of slot ≡ 2)
time_slot slots.Word late w h = cc
time_slot slots.Key late w h = cc
time_slot slots.Time true w h = cc
time_slot slots.Time false w h = (refl, refl, λ e. refl)
time_slot slots.LateTime true w h = (refl, refl, λ e. absurd (true≢false e))
time_slot slots.LateTime false w h = cc
time_slot slots.Number late w h = cc
time_slot slots.Port late w h = cc
time_slot slots.KeyPort late w h = cc
time_slot slots.Ports late w h = cc
time_slot slots.Level late w h = cc
time_slot slots.Switch late w h = cc
time_slot slots.Kind late w h = cc
time_slot slots.Opcode late w h = cc
time_slot slots.Text late w h = cc
time_slot slots.Rest late w h = cc

none_of : (a : Bool) (fault : AtWord LineCause) (rest : Option (AtWord LineCause)) → (if a then Some fault else rest) ≡ None → (a ≡ false) × (rest ≡ None)
none_of true fault rest h = cc
none_of false fault rest h = (refl, h)

in_turn : (turn : ℕ) → turn ≡ 2 → (turn == 2) ≡ true
in_turn turn h = grind (arith, nat_tests)

no_second_fault : (p q : Place) (ps : List Place) (x y : List ℕ) (ws : List (List ℕ)) → fault_in 2 0 (p ∷ q ∷ ps) (x ∷ y ∷ ws) ≡ None → turn_of q.0 ≡ 2 → is_none (meaning_of q.0 y) ≡ false
unfolding fault_in
no_second_fault p q ps x y ws h turn =
    let later = (none_of ((turn_of p.0 == 2) && is_none (meaning_of p.0 x)) _ _ h).1 in
    not_both (turn_of q.0 == 2) (is_none (meaning_of q.0 y)) (in_turn (turn_of q.0) turn) (none_of ((turn_of q.0 == 2) && is_none (meaning_of q.0 y)) _ _ later).0

second_value : (p q : Place) (ps : List Place) (x y : List ℕ) (ws : List (List ℕ)) → is_rest p.0 ≡ false → is_rest q.0 ≡ false → get_or (meanings_of (p ∷ q ∷ ps) (x ∷ y ∷ ws)) 1 Itself ≡ value_or (meaning_of q.0 y)
unfolding meanings_of
second_value p q ps x y ws first second = rw (first, second) refl

-- ---- the words of a row

record Begun (words : List (List ℕ)) (first : List ℕ) (late : Bool) (values : List Meaning) : Type 0 where
  word : List ℕ
  others : List (List ℕ)
  words_are : words ≡ first ∷ word ∷ others
  value : get_or values 1 Itself ≡ value_or (option_map Number (at_most latest (number_of word)))
  some : late ≡ false → is_none (option_map Number (at_most latest (number_of word))) ≡ false

-- what is read has no fault, and the values of its places
parts : (verb : ScriptVerb) (ms values : List Meaning) (words first second : Option (AtWord LineCause)) → unless words (unless first (unless second (Ok (verb, ms)))) ≡ Ok (verb, values) → (second ≡ None) × (ms ≡ values)
parts verb ms values (Some fault) first second h = cc
parts verb ms values None (Some fault) second h = cc
parts verb ms values None None (Some fault) h = cc
parts verb ms values None None None h =
    let same : ◌≡◌ {A = ScriptVerb × List Meaning} (verb, ms) (verb, values) = cc in (refl, ap (λ p. p.1) same)

whole_after : (p : Place) (ps : List Place) (x : List ℕ) (ws : List (List ℕ)) → is_rest p.0 ≡ false → is_whole (p ∷ ps) (x ∷ ws) ≡ true → (fits p x ≡ true) × (is_whole ps ws ≡ true)
unfolding is_whole
whole_after p ps x ws solid h =
    let both = and_both (fits p x) (is_rest p.0 || is_whole ps ws) h in
    (both.0, or_second (is_rest p.0) (is_whole ps ws) solid both.1)

none_whole : (p : Place) (ps : List Place) → is_whole (p ∷ ps) [] ≡ true → ⊥
unfolding is_whole
none_whole p ps h = cc

first_is : (p : Place) (x first : List ℕ) → is_itself p.0 ≡ true → bytes_eq p.1 first ≡ true → fits p x ≡ true → x ≡ first
first_is p x first itself same fit =
    let right : p.1 ≡ first = (bytes_eq-Decides p.1 first).0 same in
    let left : p.1 ≡ x = (bytes_eq-Decides p.1 x).0 (if_true (is_itself p.0) (bytes_eq p.1 x) (may_be p.0 x) itself fit) in
    sym left ∙ right

begun : (verb : ScriptVerb) (form : List Place) (words : List (List ℕ)) (values : List Meaning) (first : List ℕ) (late : Bool) → begins_by first late form ≡ true → is_whole form words ≡ true
    → read_by verb form words ≡ Ok (verb, values) → Begun words first late values
begun verb [] words values first late b w r = cc
begun verb (p ∷ []) words values first late b w r = cc
begun verb (p ∷ q ∷ ps) [] values first late b w r = absurd (none_whole p (q ∷ ps) w)
begun verb (p ∷ q ∷ ps) (x ∷ []) values first late b w r =
    let itself = and_both (is_itself p.0) (not (is_rest p.0) && (bytes_eq p.1 first && is_time q.0 late)) b in
    let solid = and_both (not (is_rest p.0)) (bytes_eq p.1 first && is_time q.0 late) itself.1 in
    absurd (none_whole q ps (whole_after p (q ∷ ps) x [] (not_so (is_rest p.0) solid.0) w).1)
begun verb (p ∷ q ∷ ps) (x ∷ y ∷ ws) values first late b w r =
    let itself = and_both (is_itself p.0) (not (is_rest p.0) && (bytes_eq p.1 first && is_time q.0 late)) b in
    let solid = and_both (not (is_rest p.0)) (bytes_eq p.1 first && is_time q.0 late) itself.1 in
    let same = and_both (bytes_eq p.1 first) (is_time q.0 late) solid.1 in
    let single = not_so (is_rest p.0) solid.0 in
    let fit = whole_after p (q ∷ ps) x (y ∷ ws) single w in
    let time = time_slot q.0 late y same.1 in
    let read = parts verb (meanings_of (p ∷ q ∷ ps) (x ∷ y ∷ ws)) values (fault_in 0 0 (p ∷ q ∷ ps) (x ∷ y ∷ ws)) (fault_in 1 0 (p ∷ q ∷ ps) (x ∷ y ∷ ws)) (fault_in 2 0 (p ∷ q ∷ ps) (x ∷ y ∷ ws)) r in
    record {
      word = y;
      others = ws;
      words_are = ap (λ v. v ∷ y ∷ ws) (first_is p x first itself.0 same.0 fit.0);
      value = sym (ap (λ ms. get_or ms 1 Itself) read.1) ∙ second_value p q ps x y ws single time.0 ∙ ap value_or time.1;
      some = λ e. sym (ap is_none time.1) ∙ no_second_fault p q ps x y ws read.0 (time.2 e);
    }

-- ---- the time

-- what the values of a row say of its time
abbrev time_by : Bool → Meaning → Option ℕ
time_by late m = if late then late_time_of_meaning m else Some (time_of_meaning m)

least : (n : ℕ) → nat_lt latest n ≡ false → min n latest ≡ n
least n h = grind (arith, nat_tests)

time_is : (n : Option ℕ) (late : Bool) (time : ℕ) → (late ≡ false → is_none (option_map Number (at_most latest n)) ≡ false) → time_by late (value_or (option_map Number (at_most latest n))) ≡ Some time → n ≡ Some time
time_is None true time some h = cc
time_is None false time some h = absurd (true≢false (some refl))
time_is (Some n) late time some h = over (nat_lt latest n) refl late some h
  where
    over : (b : Bool) → nat_lt latest n ≡ b → (late : Bool) → (late ≡ false → is_none (option_map Number (if b then None else Some n)) ≡ false) → time_by late (value_or (option_map Number (if b then None else Some n))) ≡ Some time
        → Some n ≡ Some time
    over true e true some h = cc
    over true e false some h = absurd (true≢false (some refl))
    over false e true some h = sym (ap Some (least n e)) ∙ h
    over false e false some h = sym (ap Some (least n e)) ∙ h

key_timed : (word : KeyWord) (values : List Meaning) → key_time word values ≡ time_by (is_late_key word) (get_or values 1 Itself)
key_timed key_words.Play values = refl
key_timed key_words.Stop values = refl
key_timed key_words.Eject values = refl
key_timed key_words.Load values = refl
key_timed key_words.Menu values = refl
key_timed key_words.Power values = refl
key_timed key_words.VolumeUp values = refl
key_timed key_words.VolumeDown values = refl
key_timed key_words.Mute values = refl
key_timed key_words.Port values = refl
key_timed key_words.Watch values = refl
key_timed key_words.Language values = refl
key_timed key_words.Audio values = refl
key_timed key_words.Arc values = refl
key_timed key_words.Remote values = refl

said_timed : (verb : ScriptVerb) (values : List Meaning) → time_said verb values ≡ time_by (is_late verb) (get_or values 1 Itself)
said_timed (verbs.Press word) values = key_timed word values
said_timed (verbs.Release word) values = key_timed word values
said_timed verbs.Plug values = refl
said_timed verbs.Unplug values = refl
said_timed verbs.Send values = refl
said_timed verbs.Hold values = refl
said_timed verbs.Drop values = refl
said_timed verbs.Pulse values = refl
said_timed verbs.Pull values = refl
said_timed verbs.Pin values = refl
said_timed verbs.End values = refl

pub lines_begin : LinesBeginSo
lines_begin words verb values time read said =
    let row : IsOfRow words verb values = of_rows words verb values read in
    let table = subst (λ rows. list_all begins rows ≡ true) row.row_is rows_begin in
    let b = begun verb row.form words values (first_of verb) (is_late verb) (each_of begins row.before row.after (verb, row.form) table) row.whole row.read in
    let late = is_late verb in
    let timed : time_by late (value_or (option_map Number (at_most latest (number_of b.word)))) ≡ Some time = sym (ap (time_by late) b.value) ∙ (sym (said_timed verb values) ∙ said) in
    (b.word, b.others, b.words_are, time_is (number_of b.word) late time b.some timed)
