-- The words of a state line are those that an expectation of a state may ask for.
use Rattle.std.proofs.Common.{◌≡◌, ℕ, ◌+◌, ◌/◌, ◌%◌, ◌<◌, ◌≤◌, ◌^◌, nat_lt, ◌&&◌, ◌⊎◌, inl, inr, Bool, true, false, if◌then◌else◌, codes, length, List, [], ◌∷◌, ◌++◌, Option, Some, None, is_some, slice_get, refl, sym, ap, subst, ◌∙◌, arith, append_assoc, true≢false}
use Rattle.std.specs.Prelude.{decimal}
use Rattle.std.specs.List.{All, flat_map}
use Rattle.std.proofs.lemmas.Grind.{common_steps}
use Rattle.std.proofs.lemmas.List.Elements.{All-cons, All-nil}
use Rattle.text_core.specs.Bytes.{are_bytes}
use Rattle.text_core.specs.Kind.{kind_word}
use Rattle.text_core.specs.Piece.{dash_or, hex_or_dash, hex_text, nibble_text, phys_text, switch_text}
use Rattle.text_core.specs.declared.kind.Kind.{Kind}
use Rattle.text_core.specs.declared.kind.Kind.TheVariants.{Tv, Amp, Player, Recorder, Switch, Combo, Outside, OutsideTv}
use Rattle.text_core.specs.declared.phys.Phys.{Phys}
use Rattle.message_table.specs.DeckWords.{deck_info_byte}
use Rattle.device_features.specs.declared.record.HeardReport.{HeardReport}
use Rattle.device_features.specs.Kinds.{is_outside}
use Rattle.device_core.specs.declared.outside.MoreHeld.{MoreHeld}
use Rattle.device_core.specs.State.{State, addresses_held, held_by, more_of}
use Rattle.device_core.specs.Place.{is_on_wire}
use Rattle.device_core.specs.declared.place.Place.{Place}
use Rattle.device_core.specs.declared.place.Place.TheVariants.{Off, Polls, Settled}
use Rattle.room_trace.specs.StateText.{address_text, held_text, language_bytes, note_text, outside_line, phys_on, power_text, state_line_of, unit_text}
use Rattle.expect_text.specs.Parts.{IsTextOf}
use Rattle.expect_text.specs.StateTest.{fields}
use Rattle.expect_text.specs.StateWords.{AreBytes, IsDash, IsNumber, IsStateWord, IsUnit, note_parts, physical_parts, three_parts}
use Rattle.expect_text.specs.declared.part.Class.TheVariants.{Hex}
use Rattle.expect_text.specs.declared.part.PatternPart.{PatternPart}
use Rattle.expect_text.specs.declared.part.PatternPart.TheVariants.{Byte, One}
use Rattle.expect_text.proofs.Readings.{hex_digit}
use Rattle.judge_laws.specs.Lines.{IsPort, IsSaid, IsSized, StateLinesAreSaid, bytes_of, note_bytes, phys_bytes, spaced}

-- ---- both of two

pub and_both : (a b : Bool) → a ≡ true → b ≡ true → (a && b) ≡ true
and_both true b h k = k
and_both false b h k = absurd (true≢false (sym h))

first_of : (a b : Bool) → (a && b) ≡ true → a ≡ true
first_of true b h = refl
first_of false b h = h

second_of : (a b : Bool) → (a && b) ≡ true → b ≡ true
second_of true b h = h
second_of false b h = absurd (true≢false (sym h))

-- ---- texts

high : (b : ℕ) → nat_lt b 256 ≡ true → b / 16 < 16
high b h = grind (arith, common_steps)

low : (b : ℕ) → b % 16 < 16
low b = grind (arith, common_steps)

nibble_before : (parts : List PatternPart) (n : ℕ) (more : List ℕ) → n < 16 → IsTextOf parts more → IsTextOf (One Hex ∷ parts) (nibble_text n ++ more)
nibble_before parts n more l t = ((if nat_lt n 10 then 48 + n else 87 + n), more, hex_digit n l, refl, t)

two_digits : (parts : List PatternPart) (b : ℕ) (more : List ℕ) → nat_lt b 256 ≡ true → IsTextOf parts more → IsTextOf (One Hex ∷ One Hex ∷ parts) (hex_text b ++ more)
two_digits parts b more h t = nibble_before (One Hex ∷ parts) (b / 16) (nibble_text (b % 16) ++ more) (high b h) (nibble_before parts (b % 16) more (low b) t)

nibble_is : (n : ℕ) → n < 16 → IsTextOf (One Hex ∷ []) (nibble_text n)
nibble_is n l = nibble_before [] n [] l refl

byte_is : (b : ℕ) → nat_lt b 256 ≡ true → IsTextOf (One Hex ∷ One Hex ∷ []) (hex_text b)
byte_is b h = two_digits [] b [] h refl

phys_is : (p : Phys) → are_bytes (phys_bytes p) ≡ true → IsTextOf physical_parts (phys_text p)
phys_is p h =
    let up = high p.high (first_of (nat_lt p.high 256) (nat_lt p.low 256 && true) h) in
    let down = high p.low (first_of (nat_lt p.low 256) true (second_of (nat_lt p.high 256) (nat_lt p.low 256 && true) h)) in
    nibble_before (Byte 46 ∷ One Hex ∷ Byte 46 ∷ One Hex ∷ Byte 46 ∷ One Hex ∷ []) (p.high / 16) (46 ∷ nibble_text (p.high % 16) ++ 46 ∷ nibble_text (p.low / 16) ++ 46 ∷ nibble_text (p.low % 16)) up (
      nibble_text (p.high % 16) ++ 46 ∷ nibble_text (p.low / 16) ++ 46 ∷ nibble_text (p.low % 16),
      refl,
      nibble_before (Byte 46 ∷ One Hex ∷ Byte 46 ∷ One Hex ∷ []) (p.high % 16) (46 ∷ nibble_text (p.low / 16) ++ 46 ∷ nibble_text (p.low % 16)) (low p.high) (
        nibble_text (p.low / 16) ++ 46 ∷ nibble_text (p.low % 16),
        refl,
        nibble_before (Byte 46 ∷ One Hex ∷ []) (p.low / 16) (46 ∷ nibble_text (p.low % 16)) down
            (nibble_text (p.low % 16), refl, nibble_is (p.low % 16) (low p.low)),
      ),
    )

note_is : (n : HeardReport) → are_bytes (note_bytes n) ≡ true → IsTextOf note_parts (note_text n)
note_is n h =
    let opcode = first_of (nat_lt n.opcode 256) (nat_lt n.first 256 && true) h in
    let first = first_of (nat_lt n.first 256) true (second_of (nat_lt n.opcode 256) (nat_lt n.first 256 && true) h) in
    nibble_before (Byte 58 ∷ One Hex ∷ One Hex ∷ Byte 58 ∷ One Hex ∷ One Hex ∷ []) (n.from % 16) (58 ∷ hex_text n.opcode ++ 58 ∷ hex_text n.first) (low n.from) (
      hex_text n.opcode ++ 58 ∷ hex_text n.first,
      refl,
      two_digits (Byte 58 ∷ One Hex ∷ One Hex ∷ []) n.opcode (58 ∷ hex_text n.first) opcode (hex_text n.first, refl, byte_is n.first first),
    )

-- ---- values

abbrev IsSwitch : List ℕ → Type 0
IsSwitch text = (text ≡ codes "on") ⊎ ((text ≡ codes "off") ⊎ IsDash text)

abbrev IsText : List PatternPart → List ℕ → Type 0
IsText parts text = IsTextOf parts text ⊎ IsDash text

abbrev byte_parts : List PatternPart
byte_parts = One Hex ∷ One Hex ∷ []

switch_is : (b : Bool) → IsSwitch (switch_text b)
switch_is true = inl refl
switch_is false = inr (inl refl)

maybe_phys : (o : Option Phys) → are_bytes (bytes_of phys_bytes o) ≡ true → IsText physical_parts (dash_or phys_text o)
maybe_phys None h = inr refl
maybe_phys (Some p) h = inl (phys_is p h)

maybe_byte : (o : Option ℕ) → are_bytes (bytes_of (λ b. b ∷ []) o) ≡ true → IsText byte_parts (dash_or hex_text o)
maybe_byte None h = inr refl
maybe_byte (Some b) h = inl (byte_is b (first_of (nat_lt b 256) true h))

maybe_number : (o : Option ℕ) → IsPort o → IsNumber 15 (dash_or decimal o) ⊎ IsDash (dash_or decimal o)
maybe_number None h = inr refl
maybe_number (Some n) h = inl (n, h, refl)

maybe_note : (o : Option HeardReport) → are_bytes (bytes_of note_bytes o) ≡ true → IsText note_parts (dash_or note_text o)
maybe_note None h = inr refl
maybe_note (Some n) h = inl (note_is n h)

maybe_nibble : (o : Option ℕ) → IsUnit (dash_or (λ n. nibble_text (n % 16)) o)
maybe_nibble None = inr refl
maybe_nibble (Some n) = inl (nibble_is (n % 16) (low n))

maybe_hex : (bs : List ℕ) → are_bytes bs ≡ true → length bs ≤ 16 → AreBytes 1 16 (hex_or_dash bs) ⊎ IsDash (hex_or_dash bs)
maybe_hex [] h few = inr refl
maybe_hex (b ∷ bs) h few = inl (b ∷ bs, h, omega arith, few, refl)

-- ---- words

-- what is there
abbrev there : {T : Type 0} → (o : Option T) → is_some o ≡ true → T
there None h = absurd (true≢false (sym h))
there (Some x) h = x

active_is : (text : List ℕ) → IsText physical_parts text → IsStateWord (codes "active=" ++ text)
active_is text h = inr (there (slice_get fields 0) refl, text, refl, h)

path_is : (text : List ℕ) → IsText physical_parts text → IsStateWord (codes "path=" ++ text)
path_is text h = inr (there (slice_get fields 1) refl, text, refl, h)

deck_is : (text : List ℕ) → IsText byte_parts text → IsStateWord (codes "deck=" ++ text)
deck_is text h = inr (there (slice_get fields 2) refl, text, refl, h)

menu_is : (text : List ℕ) → IsSwitch text → IsStateWord (codes "menu=" ++ text)
menu_is text h = inr (there (slice_get fields 3) refl, text, refl, h)

audio_is : (text : List ℕ) → IsSwitch text → IsStateWord (codes "audio=" ++ text)
audio_is text h = inr (there (slice_get fields 4) refl, text, refl, h)

volume_is : (text : List ℕ) → IsNumber 100 text ⊎ IsDash text → IsStateWord (codes "volume=" ++ text)
volume_is text h = inr (there (slice_get fields 5) refl, text, refl, h)

mute_is : (text : List ℕ) → IsSwitch text → IsStateWord (codes "mute=" ++ text)
mute_is text h = inr (there (slice_get fields 6) refl, text, refl, h)

arc_is : (text : List ℕ) → IsSwitch text → IsStateWord (codes "arc=" ++ text)
arc_is text h = inr (there (slice_get fields 7) refl, text, refl, h)

selected_is : (text : List ℕ) → IsNumber 15 text ⊎ IsDash text → IsStateWord (codes "sel=" ++ text)
selected_is text h = inr (there (slice_get fields 8) refl, text, refl, h)

language_is : (text : List ℕ) → AreBytes 3 3 text ⊎ IsDash text → IsStateWord (codes "lang=" ++ text)
language_is text h = inr (there (slice_get fields 9) refl, text, refl, h)

osd_is : (text : List ℕ) → AreBytes 1 16 text ⊎ IsDash text → IsStateWord (codes "osd=" ++ text)
osd_is text h = inr (there (slice_get fields 10) refl, text, refl, h)

held_is : (text : List ℕ) → IsText byte_parts text → IsStateWord (codes "held=" ++ text)
held_is text h = inr (there (slice_get fields 11) refl, text, refl, h)

heard_is : (text : List ℕ) → IsText note_parts text → IsStateWord (codes "heard=" ++ text)
heard_is text h = inr (there (slice_get fields 12) refl, text, refl, h)

sub_is : (text : List ℕ) → IsUnit text → IsStateWord (codes "sub=" ++ text)
sub_is text h = inr (there (slice_get fields 13) refl, text, refl, h)

queue_is : (text : List ℕ) → IsNumber 16 text → IsStateWord (codes "queue=" ++ text)
queue_is text h = inr (there (slice_get fields 14) refl, text, refl, h)

dropped_is : (text : List ℕ) → IsNumber 18446744073709551615 text → IsStateWord (codes "dropped=" ++ text)
dropped_is text h = inr (there (slice_get fields 15) refl, text, refl, h)

power_is : (b : Bool) → IsStateWord (power_text b)
power_is true = inl (inl refl)
power_is false = inl (inr (inl refl))

kind_is : (k : Kind) → IsStateWord (kind_word k)
kind_is k = inl (inr (inr (inl (k, refl))))

unit_is : (text : List ℕ) → IsUnit text → IsStateWord text
unit_is text h = inl (inr (inr (inr (inl h))))

pair_is : (n : ℕ) (second : Option ℕ) → IsStateWord ((unit_text (Some n) ++ 43 ∷ []) ++ unit_text second)
pair_is n second =
    subst IsStateWord (sym (append_assoc (unit_text (Some n)) (43 ∷ []) (unit_text second)))
    (inl (inr (inr (inr (inr (inl (inl (unit_text (Some n), unit_text second, refl, nibble_is (n % 16) (low n), maybe_nibble second))))))))

no_pair_is : IsStateWord (codes "-+-")
no_pair_is = inl (inr (inr (inr (inr (inl (inr refl))))))

place_is : (text : List ℕ) → IsTextOf physical_parts text ⊎ IsDash text → IsStateWord text
place_is text (inl h) = inl (inr (inr (inr (inr (inr (inr (inr h)))))))
place_is text (inr h) = unit_is text (inr h)

one_is : (first : Option ℕ) → IsStateWord (unit_text first)
one_is first = unit_is (unit_text first) (maybe_nibble first)

-- the second unit has an address only where the first one has
abbrev AreInTurn : Option ℕ → Option ℕ → Type 0
AreInTurn None second = second ≡ None
AreInTurn (Some n) second = Unit {0}

box_is : (first second : Option ℕ) → AreInTurn first second → IsStateWord (address_text Combo (first ∷ second ∷ []))
box_is None second h = subst (λ s. IsStateWord (address_text Combo (None ∷ s ∷ []))) (sym h) no_pair_is
box_is (Some n) second h = pair_is n second

two_are : (kind : Kind) (first second : Option ℕ) → AreInTurn first second → IsStateWord (address_text kind (first ∷ second ∷ []))
two_are Combo first second h = box_is first second h
two_are Tv first second h = one_is first
two_are Amp first second h = one_is first
two_are Player first second h = one_is first
two_are Recorder first second h = one_is first
two_are Switch first second h = one_is first
two_are Outside first second h = one_is first
two_are OutsideTv first second h = one_is first

polls_in_turn : (found : Option ℕ) → AreInTurn found None
polls_in_turn None = refl
polls_in_turn (Some n) = tt

address_is : (kind : Kind) (place : Place) → IsStateWord (address_text kind (addresses_held place))
address_is kind Off = two_are kind None None refl
address_is kind (Polls found a) = two_are kind found None (polls_in_turn found)
address_is kind (Settled first second) = two_are kind (Some first) second tt

-- three addresses, and four
after_plus : (parts : List PatternPart) (more : List ℕ) → IsTextOf parts more → IsTextOf (Byte 43 ∷ parts) (43 ∷ more)
after_plus parts more t = (more, refl, t)

three_is : (a b c : ℕ) → IsStateWord (unit_text (Some a) ++ (43 ∷ (unit_text (Some b) ++ (43 ∷ unit_text (Some c)))))
three_is a b c =
    let last = after_plus (One Hex ∷ []) (nibble_text (c % 16)) (nibble_is (c % 16) (low c)) in
    let both = after_plus (One Hex ∷ Byte 43 ∷ One Hex ∷ []) (nibble_text (b % 16) ++ (43 ∷ nibble_text (c % 16)))
    (nibble_before (Byte 43 ∷ One Hex ∷ []) (b % 16) (43 ∷ nibble_text (c % 16)) (low b) last) in
    inl (inr (inr (inr (inr (inr (inl
    (nibble_before (Byte 43 ∷ One Hex ∷ Byte 43 ∷ One Hex ∷ []) (a % 16) (43 ∷ (nibble_text (b % 16) ++ (43 ∷ nibble_text (c % 16)))) (low a) both)))))))

four_is : (a b c d : ℕ) → IsStateWord (unit_text (Some a) ++ (43 ∷ (unit_text (Some b) ++ (43 ∷ (unit_text (Some c) ++ (43 ∷ unit_text (Some d)))))))
four_is a b c d =
    let last = after_plus (One Hex ∷ []) (nibble_text (d % 16)) (nibble_is (d % 16) (low d)) in
    let both = after_plus (One Hex ∷ Byte 43 ∷ One Hex ∷ []) (nibble_text (c % 16) ++ (43 ∷ nibble_text (d % 16)))
    (nibble_before (Byte 43 ∷ One Hex ∷ []) (c % 16) (43 ∷ nibble_text (d % 16)) (low c) last) in
    let three = after_plus three_parts (nibble_text (b % 16) ++ (43 ∷ (nibble_text (c % 16) ++ (43 ∷ nibble_text (d % 16)))))
    (nibble_before (Byte 43 ∷ One Hex ∷ Byte 43 ∷ One Hex ∷ []) (b % 16) (43 ∷ (nibble_text (c % 16) ++ (43 ∷ nibble_text (d % 16)))) (low b) both) in
    inl (inr (inr (inr (inr (inr (inr (inl
    (nibble_before (Byte 43 ∷ three_parts) (a % 16) (43 ∷ (nibble_text (b % 16) ++ (43 ∷ (nibble_text (c % 16) ++ (43 ∷ nibble_text (d % 16)))))) (low a) three))))))))

-- what a device from outside holds: the first one, and those of the others that there are
held_is_word : (a : ℕ) (second third fourth : Option ℕ) → IsStateWord (held_text (Some a ∷ second ∷ third ∷ fourth ∷ []))
held_is_word a None None None = one_is (Some a)
held_is_word a (Some b) None None = pair_is a (Some b)
held_is_word a None (Some c) None = pair_is a (Some c)
held_is_word a None None (Some d) = pair_is a (Some d)
held_is_word a (Some b) (Some c) None = three_is a b c
held_is_word a (Some b) None (Some d) = three_is a b d
held_is_word a None (Some c) (Some d) = three_is a c d
held_is_word a (Some b) (Some c) (Some d) = four_is a b c d

held_place_is : (outside : Bool) (place : Place) (more : MoreHeld) → IsStateWord (held_text (addresses_held place ++ more_of outside place more))
held_place_is true Off more = one_is None
held_place_is false Off more = one_is None
held_place_is true (Polls None a) more = one_is None
held_place_is true (Polls (Some n) a) more = one_is (Some n)
held_place_is false (Polls None a) more = one_is None
held_place_is false (Polls (Some n) a) more = one_is (Some n)
held_place_is true (Settled first second) more = held_is_word first second more.third more.fourth
held_place_is false (Settled first second) more = held_is_word first second None None

phys_on_is : (on : Bool) (p : Phys) → are_bytes (phys_bytes p) ≡ true → are_bytes (bytes_of phys_bytes (phys_on on p)) ≡ true
phys_on_is true p h = h
phys_on_is false p h = refl

on_wire_is : (d : State) → IsSized d → IsStateWord (dash_or phys_text (phys_on (is_on_wire d) d.phys))
on_wire_is d h = place_is (dash_or phys_text (phys_on (is_on_wire d) d.phys)) (maybe_phys (phys_on (is_on_wire d) d.phys) (phys_on_is (is_on_wire d) d.phys h.phys))

-- one word more
more : (word : List ℕ) (words : List (List ℕ)) → IsStateWord word → All IsStateWord words → All IsStateWord (word ∷ words)
more word words h k = All-cons IsStateWord word words h k

-- ---- a line

abbrev pub last_words : State → List (List ℕ)
last_words d = (codes "queue=" ++ decimal (length d.queue)) ∷ (codes "dropped=" ++ decimal d.dropped) ∷ []

below_word : (n : ℕ) → n < 2 ^ 64 → n ≤ 18446744073709551615
below_word n h = omega (arith, h)

last_are : (d : State) → IsSized d → All IsStateWord (last_words d)
last_are d h =
    more (codes "queue=" ++ decimal (length d.queue)) ((codes "dropped=" ++ decimal d.dropped) ∷ []) (queue_is (decimal (length d.queue)) (length d.queue, h.queue, refl))
    (more (codes "dropped=" ++ decimal d.dropped) [] (dropped_is (decimal d.dropped) (d.dropped, below_word d.dropped h.dropped, refl)) (All-nil IsStateWord))

abbrev pub known_from_sub : State → List (List ℕ)
known_from_sub d = (codes "sub=" ++ dash_or (λ n. nibble_text (n % 16)) d.record_of.sub) ∷ last_words d

known_from_sub_are : (d : State) → IsSized d → All IsStateWord (known_from_sub d)
known_from_sub_are d h = more (codes "sub=" ++ dash_or (λ n. nibble_text (n % 16)) d.record_of.sub) (last_words d) (sub_is (dash_or (λ n. nibble_text (n % 16)) d.record_of.sub) (maybe_nibble d.record_of.sub)) (last_are d h)

abbrev pub known_from_heard : State → List (List ℕ)
known_from_heard d = (codes "heard=" ++ dash_or note_text d.record_of.heard) ∷ known_from_sub d

known_from_heard_are : (d : State) → IsSized d → All IsStateWord (known_from_heard d)
known_from_heard_are d h = more (codes "heard=" ++ dash_or note_text d.record_of.heard) (known_from_sub d) (heard_is (dash_or note_text d.record_of.heard) (maybe_note d.record_of.heard h.record_of.heard)) (known_from_sub_are d h)

abbrev pub known_from_held : State → List (List ℕ)
known_from_held d = (codes "held=" ++ dash_or hex_text d.record_of.held) ∷ known_from_heard d

known_from_held_are : (d : State) → IsSized d → All IsStateWord (known_from_held d)
known_from_held_are d h = more (codes "held=" ++ dash_or hex_text d.record_of.held) (known_from_heard d) (held_is (dash_or hex_text d.record_of.held) (maybe_byte d.record_of.held h.record_of.held)) (known_from_heard_are d h)

abbrev pub known_from_osd : State → List (List ℕ)
known_from_osd d = (codes "osd=" ++ hex_or_dash d.record_of.osd.items) ∷ known_from_held d

known_from_osd_are : (d : State) → IsSized d → All IsStateWord (known_from_osd d)
known_from_osd_are d h = more (codes "osd=" ++ hex_or_dash d.record_of.osd.items) (known_from_held d) (osd_is (hex_or_dash d.record_of.osd.items) (maybe_hex d.record_of.osd.items h.record_of.osd h.record_of.osd_fits)) (known_from_held_are d h)

abbrev pub known_from_lang : State → List (List ℕ)
known_from_lang d = (codes "lang=" ++ flat_map hex_text (language_bytes d.record_of.language)) ∷ known_from_osd d

known_from_lang_are : (d : State) → IsSized d → All IsStateWord (known_from_lang d)
known_from_lang_are d h = more (codes "lang=" ++ flat_map hex_text (language_bytes d.record_of.language)) (known_from_osd d) (language_is (flat_map hex_text (language_bytes d.record_of.language)) (inl (language_bytes d.record_of.language, h.record_of.language, omega arith, omega arith, refl))) (known_from_osd_are d h)

abbrev pub known_from_sel : State → List (List ℕ)
known_from_sel d = (codes "sel=" ++ dash_or decimal d.record_of.selected) ∷ known_from_lang d

known_from_sel_are : (d : State) → IsSized d → All IsStateWord (known_from_sel d)
known_from_sel_are d h = more (codes "sel=" ++ dash_or decimal d.record_of.selected) (known_from_lang d) (selected_is (dash_or decimal d.record_of.selected) (maybe_number d.record_of.selected h.record_of.selected)) (known_from_lang_are d h)

abbrev pub known_from_arc : State → List (List ℕ)
known_from_arc d = (codes "arc=" ++ switch_text d.record_of.arc) ∷ known_from_sel d

known_from_arc_are : (d : State) → IsSized d → All IsStateWord (known_from_arc d)
known_from_arc_are d h = more (codes "arc=" ++ switch_text d.record_of.arc) (known_from_sel d) (arc_is (switch_text d.record_of.arc) (switch_is d.record_of.arc)) (known_from_sel_are d h)

abbrev pub known_from_mute : State → List (List ℕ)
known_from_mute d = (codes "mute=" ++ switch_text d.record_of.mute) ∷ known_from_arc d

known_from_mute_are : (d : State) → IsSized d → All IsStateWord (known_from_mute d)
known_from_mute_are d h = more (codes "mute=" ++ switch_text d.record_of.mute) (known_from_arc d) (mute_is (switch_text d.record_of.mute) (switch_is d.record_of.mute)) (known_from_arc_are d h)

abbrev pub known_from_volume : State → List (List ℕ)
known_from_volume d = (codes "volume=" ++ decimal d.record_of.volume) ∷ known_from_mute d

known_from_volume_are : (d : State) → IsSized d → All IsStateWord (known_from_volume d)
known_from_volume_are d h = more (codes "volume=" ++ decimal d.record_of.volume) (known_from_mute d) (volume_is (decimal d.record_of.volume) (inl (d.record_of.volume, h.record_of.volume, refl))) (known_from_mute_are d h)

abbrev pub known_from_audio : State → List (List ℕ)
known_from_audio d = (codes "audio=" ++ switch_text d.record_of.audio) ∷ known_from_volume d

known_from_audio_are : (d : State) → IsSized d → All IsStateWord (known_from_audio d)
known_from_audio_are d h = more (codes "audio=" ++ switch_text d.record_of.audio) (known_from_volume d) (audio_is (switch_text d.record_of.audio) (switch_is d.record_of.audio)) (known_from_volume_are d h)

abbrev pub known_from_menu : State → List (List ℕ)
known_from_menu d = (codes "menu=" ++ switch_text d.record_of.menu) ∷ known_from_audio d

known_from_menu_are : (d : State) → IsSized d → All IsStateWord (known_from_menu d)
known_from_menu_are d h = more (codes "menu=" ++ switch_text d.record_of.menu) (known_from_audio d) (menu_is (switch_text d.record_of.menu) (switch_is d.record_of.menu)) (known_from_audio_are d h)

abbrev pub known_from_deck : State → List (List ℕ)
known_from_deck d = (codes "deck=" ++ hex_text (deck_info_byte d.record_of.deck)) ∷ known_from_menu d

known_from_deck_are : (d : State) → IsSized d → All IsStateWord (known_from_deck d)
known_from_deck_are d h = more (codes "deck=" ++ hex_text (deck_info_byte d.record_of.deck)) (known_from_menu d) (deck_is (hex_text (deck_info_byte d.record_of.deck)) (inl (byte_is (deck_info_byte d.record_of.deck) (first_of (nat_lt (deck_info_byte d.record_of.deck) 256) true h.record_of.deck)))) (known_from_menu_are d h)

abbrev pub known_from_path : State → List (List ℕ)
known_from_path d = (codes "path=" ++ dash_or phys_text d.record_of.path) ∷ known_from_deck d

known_from_path_are : (d : State) → IsSized d → All IsStateWord (known_from_path d)
known_from_path_are d h = more (codes "path=" ++ dash_or phys_text d.record_of.path) (known_from_deck d) (path_is (dash_or phys_text d.record_of.path) (maybe_phys d.record_of.path h.record_of.path)) (known_from_deck_are d h)

abbrev pub known_from_active : State → List (List ℕ)
known_from_active d = (codes "active=" ++ dash_or phys_text d.record_of.active) ∷ known_from_path d

known_from_active_are : (d : State) → IsSized d → All IsStateWord (known_from_active d)
known_from_active_are d h = more (codes "active=" ++ dash_or phys_text d.record_of.active) (known_from_path d) (active_is (dash_or phys_text d.record_of.active) (maybe_phys d.record_of.active h.record_of.active)) (known_from_path_are d h)

abbrev pub words_of_record : State → List (List ℕ)
words_of_record d = power_text d.record_of.power ∷ known_from_active d

record_is : (d : State) → IsSized d → All IsStateWord (words_of_record d)
record_is d h = more (power_text d.record_of.power) (known_from_active d) (power_is d.record_of.power) (known_from_active_are d h)

abbrev pub words_of_line : State → List (List ℕ)
words_of_line d = kind_word d.kind ∷ address_text d.kind (addresses_held d.place) ∷ dash_or phys_text (phys_on (is_on_wire d) d.phys) ∷ words_of_record d

line_is : (d : State) → IsSized d → All IsStateWord (words_of_line d)
line_is d h =
    more (kind_word d.kind) (address_text d.kind (addresses_held d.place) ∷ dash_or phys_text (phys_on (is_on_wire d) d.phys) ∷ words_of_record d) (kind_is d.kind)
    (more (address_text d.kind (addresses_held d.place)) (dash_or phys_text (phys_on (is_on_wire d) d.phys) ∷ words_of_record d) (address_is d.kind d.place)
    (more (dash_or phys_text (phys_on (is_on_wire d) d.phys)) (words_of_record d) (on_wire_is d h) (record_is d h)))

line_spelled : (d : State)
    → state_line_of d (address_text d.kind (addresses_held d.place)) (language_bytes d.record_of.language) (dash_or note_text d.record_of.heard) ≡ codes "state " ++ (d.name ++ spaced (words_of_line d))
line_spelled d = refl

-- ---- a device from outside

abbrev pub unknown_from_sub : State → List (List ℕ)
unknown_from_sub d = (codes "sub=" ++ codes "-") ∷ last_words d

unknown_from_sub_are : (d : State) → IsSized d → All IsStateWord (unknown_from_sub d)
unknown_from_sub_are d h = more (codes "sub=" ++ codes "-") (last_words d) (sub_is (codes "-") (inr refl)) (last_are d h)

abbrev pub unknown_from_heard : State → List (List ℕ)
unknown_from_heard d = (codes "heard=" ++ codes "-") ∷ unknown_from_sub d

unknown_from_heard_are : (d : State) → IsSized d → All IsStateWord (unknown_from_heard d)
unknown_from_heard_are d h = more (codes "heard=" ++ codes "-") (unknown_from_sub d) (heard_is (codes "-") (inr refl)) (unknown_from_sub_are d h)

abbrev pub unknown_from_held : State → List (List ℕ)
unknown_from_held d = (codes "held=" ++ codes "-") ∷ unknown_from_heard d

unknown_from_held_are : (d : State) → IsSized d → All IsStateWord (unknown_from_held d)
unknown_from_held_are d h = more (codes "held=" ++ codes "-") (unknown_from_heard d) (held_is (codes "-") (inr refl)) (unknown_from_heard_are d h)

abbrev pub unknown_from_osd : State → List (List ℕ)
unknown_from_osd d = (codes "osd=" ++ codes "-") ∷ unknown_from_held d

unknown_from_osd_are : (d : State) → IsSized d → All IsStateWord (unknown_from_osd d)
unknown_from_osd_are d h = more (codes "osd=" ++ codes "-") (unknown_from_held d) (osd_is (codes "-") (inr refl)) (unknown_from_held_are d h)

abbrev pub unknown_from_lang : State → List (List ℕ)
unknown_from_lang d = (codes "lang=" ++ codes "-") ∷ unknown_from_osd d

unknown_from_lang_are : (d : State) → IsSized d → All IsStateWord (unknown_from_lang d)
unknown_from_lang_are d h = more (codes "lang=" ++ codes "-") (unknown_from_osd d) (language_is (codes "-") (inr refl)) (unknown_from_osd_are d h)

abbrev pub unknown_from_sel : State → List (List ℕ)
unknown_from_sel d = (codes "sel=" ++ codes "-") ∷ unknown_from_lang d

unknown_from_sel_are : (d : State) → IsSized d → All IsStateWord (unknown_from_sel d)
unknown_from_sel_are d h = more (codes "sel=" ++ codes "-") (unknown_from_lang d) (selected_is (codes "-") (inr refl)) (unknown_from_lang_are d h)

abbrev pub unknown_from_arc : State → List (List ℕ)
unknown_from_arc d = (codes "arc=" ++ codes "-") ∷ unknown_from_sel d

unknown_from_arc_are : (d : State) → IsSized d → All IsStateWord (unknown_from_arc d)
unknown_from_arc_are d h = more (codes "arc=" ++ codes "-") (unknown_from_sel d) (arc_is (codes "-") (inr (inr refl))) (unknown_from_sel_are d h)

abbrev pub unknown_from_mute : State → List (List ℕ)
unknown_from_mute d = (codes "mute=" ++ codes "-") ∷ unknown_from_arc d

unknown_from_mute_are : (d : State) → IsSized d → All IsStateWord (unknown_from_mute d)
unknown_from_mute_are d h = more (codes "mute=" ++ codes "-") (unknown_from_arc d) (mute_is (codes "-") (inr (inr refl))) (unknown_from_arc_are d h)

abbrev pub unknown_from_volume : State → List (List ℕ)
unknown_from_volume d = (codes "volume=" ++ codes "-") ∷ unknown_from_mute d

unknown_from_volume_are : (d : State) → IsSized d → All IsStateWord (unknown_from_volume d)
unknown_from_volume_are d h = more (codes "volume=" ++ codes "-") (unknown_from_mute d) (volume_is (codes "-") (inr refl)) (unknown_from_mute_are d h)

abbrev pub unknown_from_audio : State → List (List ℕ)
unknown_from_audio d = (codes "audio=" ++ codes "-") ∷ unknown_from_volume d

unknown_from_audio_are : (d : State) → IsSized d → All IsStateWord (unknown_from_audio d)
unknown_from_audio_are d h = more (codes "audio=" ++ codes "-") (unknown_from_volume d) (audio_is (codes "-") (inr (inr refl))) (unknown_from_volume_are d h)

abbrev pub unknown_from_menu : State → List (List ℕ)
unknown_from_menu d = (codes "menu=" ++ codes "-") ∷ unknown_from_audio d

unknown_from_menu_are : (d : State) → IsSized d → All IsStateWord (unknown_from_menu d)
unknown_from_menu_are d h = more (codes "menu=" ++ codes "-") (unknown_from_audio d) (menu_is (codes "-") (inr (inr refl))) (unknown_from_audio_are d h)

abbrev pub unknown_from_deck : State → List (List ℕ)
unknown_from_deck d = (codes "deck=" ++ codes "-") ∷ unknown_from_menu d

unknown_from_deck_are : (d : State) → IsSized d → All IsStateWord (unknown_from_deck d)
unknown_from_deck_are d h = more (codes "deck=" ++ codes "-") (unknown_from_menu d) (deck_is (codes "-") (inr refl)) (unknown_from_menu_are d h)

abbrev pub unknown_from_path : State → List (List ℕ)
unknown_from_path d = (codes "path=" ++ codes "-") ∷ unknown_from_deck d

unknown_from_path_are : (d : State) → IsSized d → All IsStateWord (unknown_from_path d)
unknown_from_path_are d h = more (codes "path=" ++ codes "-") (unknown_from_deck d) (path_is (codes "-") (inr refl)) (unknown_from_deck_are d h)

abbrev pub unknown_from_active : State → List (List ℕ)
unknown_from_active d = (codes "active=" ++ codes "-") ∷ unknown_from_path d

unknown_from_active_are : (d : State) → IsSized d → All IsStateWord (unknown_from_active d)
unknown_from_active_are d h = more (codes "active=" ++ codes "-") (unknown_from_path d) (active_is (codes "-") (inr refl)) (unknown_from_path_are d h)

abbrev pub unknown_words : State → List (List ℕ)
unknown_words d = codes "-" ∷ unknown_from_active d

unknown_is : (d : State) → IsSized d → All IsStateWord (unknown_words d)
unknown_is d h = more (codes "-") (unknown_from_active d) (unit_is (codes "-") (inr refl)) (unknown_from_active_are d h)

abbrev pub words_of_outside : State → List (List ℕ)
words_of_outside d = kind_word d.kind ∷ held_text (held_by d) ∷ dash_or phys_text (phys_on (is_on_wire d) d.phys) ∷ unknown_words d

outside_is : (d : State) → IsSized d → All IsStateWord (words_of_outside d)
outside_is d h =
    more (kind_word d.kind) (held_text (held_by d) ∷ dash_or phys_text (phys_on (is_on_wire d) d.phys) ∷ unknown_words d) (kind_is d.kind)
    (more (held_text (held_by d)) (dash_or phys_text (phys_on (is_on_wire d) d.phys) ∷ unknown_words d) (held_place_is (is_outside d.kind) d.place d.more)
    (more (dash_or phys_text (phys_on (is_on_wire d) d.phys)) (unknown_words d) (on_wire_is d h) (unknown_is d h)))

outside_spelled : (d : State) → outside_line d (held_text (held_by d)) ≡ codes "state " ++ (d.name ++ spaced (words_of_outside d))
outside_spelled d = refl

-- ---- all

abbrev line_by : State → Bool → List ℕ
line_by d is_strange =
    if is_strange then outside_line d (held_text (held_by d))
    else state_line_of d (address_text d.kind (addresses_held d.place)) (language_bytes d.record_of.language) (dash_or note_text d.record_of.heard)

pub outside_is_said : (d : State) → is_outside d.kind ≡ true → IsSized d → IsSaid d (words_of_outside d)
outside_is_said d e h = record { spelled = ap (line_by d) e ∙ outside_spelled d; words_are = outside_is d h }

pub line_is_said : (d : State) → is_outside d.kind ≡ false → IsSized d → IsSaid d (words_of_line d)
line_is_said d e h = record { spelled = ap (line_by d) e ∙ line_spelled d; words_are = line_is d h }

pub state_lines_are_said : StateLinesAreSaid
state_lines_are_said d h = by (is_outside d.kind) refl
  where
    by : (b : Bool) → is_outside d.kind ≡ b → (words : List (List ℕ)) × IsSaid d words
    by true e = (words_of_outside d, outside_is_said d e h)
    by false e = (words_of_line d, line_is_said d e h)
