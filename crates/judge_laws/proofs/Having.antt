-- Each word that is taken in an expectation of a state stands in the state line of some device.
use Rattle.std.proofs.Common.{◌≡◌, ℕ, ◌/◌, ◌%◌, ◌<◌, ◌≤◌, ◌^◌, nat_lt, inl, inr, true, false, codes, length, replicate, List, [], ◌∷◌, ◌++◌, Option, Some, None, slice_get, refl, sym, ap, subst, ◌∙◌, arith, rules}
use Rattle.std.specs.Prelude.{decimal}
use Rattle.std.specs.List.{flat_map}
use Rattle.std.proofs.lemmas.List.{length-replicate}
use Rattle.std.proofs.lemmas.List.Elements.{All-get_or}
use Rattle.std.proofs.lemmas.Option.{get_or_from_slice_get, slice_get_within}
use Rattle.line_frames.specs.declared.free_time.FreeTime.TheVariants.{NewInitiator}
use Rattle.text_core.specs.Bytes.{are_bytes}
use Rattle.text_core.specs.Kind.{kind_word}
use Rattle.text_core.specs.Piece.{hex_text, nibble_text, phys_text}
use Rattle.text_core.specs.declared.kind.Kind.{Kind}
use Rattle.text_core.specs.declared.kind.Kind.TheVariants.{Tv, Amp, Player, Recorder, Switch, Combo, Outside, OutsideTv}
use Rattle.text_core.specs.declared.phys.Phys.{Phys}
use Rattle.message_table.specs.DeckWords.{deck_info_at, deck_info_byte}
use Rattle.message_table.specs.declared.message.Message.{Message}
use Rattle.message_table.specs.declared.message.Message.TheVariants.{DeckStatus}
use Rattle.message_table.specs.declared.message.Decoded.TheVariants.{Known}
use Rattle.message_table.specs.Table.{spelling}
use Rattle.message_table.proofs.RowLemmas.{operands_kept}
use Rattle.device_features.specs.Fresh.{fresh_record}
use Rattle.device_features.specs.Kinds.{is_outside}
use Rattle.device_features.specs.declared.record.HeardReport.{HeardReport}
use Rattle.device_features.specs.declared.record.Record.{Record}
use Rattle.device_core.specs.State.{State}
use Rattle.device_core.specs.declared.device.Queued.{Queued}
use Rattle.device_core.specs.declared.place.Place.{Place}
use Rattle.device_core.specs.declared.place.Place.TheVariants.{Off, Polls, Settled}
use Rattle.room_trace.specs.StateText.{language_bytes, note_text}
use Rattle.expect_text.specs.Parts.{IsTextOf}
use Rattle.expect_text.specs.StateWords.{IsBare, IsDash, IsPair, IsStateWord, IsUnit, IsValue, four_parts, key, note_parts, physical_parts, three_parts, value_of}
use Rattle.expect_text.specs.declared.part.Class.TheVariants.{Hex}
use Rattle.expect_text.specs.declared.part.PatternPart.TheVariants.{One}
use Rattle.expect_text.specs.declared.state_words.StateField.{StateField}
use Rattle.expect_text.specs.declared.state_words.StateField.TheVariants.{Active, Path, Deck, Menu, Audio, Volume, Mute, Arc, Selected, Language, Osd, Held, Heard, Sub, Queue, Dropped}
use Rattle.expect_text.proofs.Wording.{byte_of, digit_of, state_words_are_met}
use Rattle.judge_laws.specs.Lines.{IsOfSomeDevice, IsPort, IsRecordSized, IsSized, StateWordsAreSaid, bytes_of, note_bytes, phys_bytes}
use Rattle.judge_laws.proofs.SaidOnce.{and_both, line_is_said, outside_is_said, words_of_line, words_of_outside}

-- ---- values of texts

nibble_of_text : (text : List ℕ) → IsTextOf (One Hex ∷ []) text → (n : ℕ) × (n < 16) × (nibble_text n ≡ text)
nibble_of_text text h =
    let n = digit_of h.0 h.2 in
    (n.0, n.1, ap (λ d. d ∷ []) n.2 ∙ sym (h.3 ∙ ap (λ t. h.0 ∷ t) h.4))

byte_of_text : (text : List ℕ) → IsTextOf (One Hex ∷ One Hex ∷ []) text → (b : ℕ) × (nat_lt b 256 ≡ true) × (hex_text b ≡ text)
byte_of_text text h =
    let second = h.4 in
    let b = byte_of h.0 second.0 h.2 second.2 in
    (b.0, b.1, b.2 ∙ sym (h.3 ∙ ap (λ t. h.0 ∷ t) (second.3 ∙ ap (λ t. second.0 ∷ t) second.4)))

-- the digits of a byte
high_digit : (b x y : ℕ) → hex_text b ≡ x ∷ y ∷ [] → nibble_text (b / 16) ≡ x ∷ []
high_digit b x y e = cc

low_digit : (b x y : ℕ) → hex_text b ≡ x ∷ y ∷ [] → nibble_text (b % 16) ≡ y ∷ []
low_digit b x y e = cc

dotted : (p : Phys) (a b c d : ℕ) → hex_text p.high ≡ a ∷ b ∷ [] → hex_text p.low ≡ c ∷ d ∷ [] → phys_text p ≡ a ∷ 46 ∷ b ∷ 46 ∷ c ∷ 46 ∷ d ∷ []
dotted p a b c d up down =
    ap (λ t. t ++ 46 ∷ nibble_text (p.high % 16) ++ 46 ∷ nibble_text (p.low / 16) ++ 46 ∷ nibble_text (p.low % 16)) (high_digit p.high a b up)
    ∙ ap (λ t. a ∷ 46 ∷ t ++ 46 ∷ nibble_text (p.low / 16) ++ 46 ∷ nibble_text (p.low % 16)) (low_digit p.high a b up)
    ∙ ap (λ t. a ∷ 46 ∷ b ∷ 46 ∷ t ++ 46 ∷ nibble_text (p.low % 16)) (high_digit p.low c d down)
    ∙ ap (λ t. a ∷ 46 ∷ b ∷ 46 ∷ c ∷ 46 ∷ t) (low_digit p.low c d down)

phys_of_text : (text : List ℕ) → IsTextOf physical_parts text → (p : Phys) × (are_bytes (phys_bytes p) ≡ true) × (phys_text p ≡ text)
phys_of_text text h =
    let b = h.4.2 in
    let c = b.4.2 in
    let d = c.4.2 in
    let up = byte_of h.0 b.0 h.2 b.2 in
    let down = byte_of c.0 d.0 c.2 d.2 in
    let p : Phys = record { high = up.0; low = down.0 } in (
      p,
      and_both (nat_lt up.0 256) (are_bytes (down.0 ∷ [])) up.1 (and_both (nat_lt down.0 256) true down.1 refl),
      dotted p h.0 b.0 c.0 d.0 up.2 down.2
          ∙ sym (h.3 ∙ ap (λ t. h.0 ∷ t) (h.4.1 ∙ ap (λ t. 46 ∷ t) (b.3 ∙ ap (λ t. b.0 ∷ t) (b.4.1 ∙ ap (λ t. 46 ∷ t) (c.3 ∙ ap (λ t. c.0 ∷ t) (c.4.1 ∙ ap (λ t. 46 ∷ t) (d.3 ∙ ap (λ t. d.0 ∷ t) d.4))))))),
    )

itself : (n : ℕ) → n < 16 → n % 16 ≡ n
itself n l = omega arith

noted : (n : HeardReport) (a b c d e : ℕ) → nibble_text (n.from % 16) ≡ a ∷ [] → hex_text n.opcode ≡ b ∷ c ∷ [] → hex_text n.first ≡ d ∷ e ∷ []
    → note_text n ≡ a ∷ 58 ∷ b ∷ c ∷ 58 ∷ d ∷ e ∷ []
noted n a b c d e from opcode first =
    ap (λ t. t ++ 58 ∷ hex_text n.opcode ++ 58 ∷ hex_text n.first) from
    ∙ ap (λ t. a ∷ 58 ∷ t ++ 58 ∷ hex_text n.first) opcode
    ∙ ap (λ t. a ∷ 58 ∷ b ∷ c ∷ 58 ∷ t) first

note_of_text : (text : List ℕ) → IsTextOf note_parts text → (n : HeardReport) × (are_bytes (note_bytes n) ≡ true) × (note_text n ≡ text)
note_of_text text h =
    let b = h.4.2 in
    let c = b.4 in
    let d = c.4.2 in
    let e = d.4 in
    let from = digit_of h.0 h.2 in
    let opcode = byte_of b.0 c.0 b.2 c.2 in
    let first = byte_of d.0 e.0 d.2 e.2 in
    let n : HeardReport = record { from = from.0; opcode = opcode.0; first = first.0 } in (
      n,
      and_both (nat_lt opcode.0 256) (are_bytes (first.0 ∷ [])) opcode.1 (and_both (nat_lt first.0 256) true first.1 refl),
      noted n h.0 b.0 c.0 d.0 e.0 (ap nibble_text (itself from.0 from.1) ∙ ap (λ x. x ∷ []) from.2) opcode.2 first.2
          ∙ sym (h.3 ∙ ap (λ t. h.0 ∷ t) (h.4.1 ∙ ap (λ t. 58 ∷ t) (b.3 ∙ ap (λ t. b.0 ∷ t) (c.3 ∙ ap (λ t. c.0 ∷ t) (c.4.1 ∙ ap (λ t. 58 ∷ t) (d.3 ∙ ap (λ t. d.0 ∷ t) (e.3 ∙ ap (λ t. e.0 ∷ t) e.4))))))),
    )

known_is : (a b : Message) → Known a ≡ Known b → a ≡ b
known_is a b e = search rules

operand_is : (x y : ℕ) → 0x1b ∷ x ∷ [] ≡ 0x1b ∷ y ∷ [] → x ≡ y
operand_is x y e = cc

-- what a deck does is its byte: it is the operand of a frame that says so
deck_again : (b : ℕ) → nat_lt b 256 ≡ true → deck_info_byte (deck_info_at b) ≡ b
deck_again b h =
    let says = operands_kept 0x1b (b ∷ []) refl (and_both (nat_lt b 256) true h refl) refl in
    let is : DeckStatus (deck_info_at b) ≡ says.message = known_is (DeckStatus (deck_info_at b)) says.message says.said in
    operand_is (deck_info_byte (deck_info_at b)) b (ap spelling is ∙ says.sent)

-- ---- devices

abbrev root : Phys
root = record { high = 0; low = 0 }

-- what a new television remembers
abbrev plain : Record
plain = fresh_record Tv 0

abbrev device : Kind → Place → Phys → Record → List Queued → ℕ → State
device kind place phys r queue dropped = record {
  kind = kind;
  name = codes "a";
  ports = 0;
  number = 0;
  phys = phys;
  place = place;
  more = record { third = None; fourth = None };
  record_of = r;
  queue = queue;
  attempts = 0;
  class = NewInitiator;
  poll_ready = 0;
  dropped = dropped;
}

twenty : 20 ≤ 100
twenty = omega arith

few : 0 ≤ 16
few = omega arith

none : 0 < 2 ^ 64
none = omega arith

record_sized : (r : Record) → are_bytes (bytes_of phys_bytes r.active) ≡ true → are_bytes (bytes_of phys_bytes r.path) ≡ true → are_bytes (deck_info_byte r.deck ∷ []) ≡ true
    → r.volume ≤ 100 → IsPort r.selected → are_bytes (language_bytes r.language) ≡ true → are_bytes r.osd.items ≡ true → length r.osd.items ≤ 16
    → are_bytes (bytes_of (λ b. b ∷ []) r.held) ≡ true → are_bytes (bytes_of note_bytes r.heard) ≡ true → IsRecordSized r
record_sized r active path deck volume selected language osd osd_fits held heard = record {
  active = active;
  path = path;
  deck = deck;
  volume = volume;
  selected = selected;
  language = language;
  osd = osd;
  osd_fits = osd_fits;
  held = held;
  heard = heard;
}

plain_is : IsRecordSized plain
plain_is = record_sized plain refl refl refl twenty tt refl refl few refl refl

device_sized : (kind : Kind) (place : Place) (phys : Phys) (r : Record) (queue : List Queued) (dropped : ℕ) → are_bytes (phys_bytes phys) ≡ true → IsRecordSized r
    → length queue ≤ 16 → dropped < 2 ^ 64 → IsSized (device kind place phys r queue dropped)
device_sized kind place phys r queue dropped p h q d = record { phys = p; record_of = h; queue = q; dropped = d }

-- a word of the line of a device
of_device : (d : State) → is_outside d.kind ≡ false → IsSized d → (place : ℕ) (word : List ℕ) → slice_get (words_of_line d) place ≡ Some word → IsOfSomeDevice word
of_device d k h place word e = (d, h, words_of_line d, line_is_said d k h, place, e)

of_stranger : (d : State) → is_outside d.kind ≡ true → IsSized d → (place : ℕ) (word : List ℕ) → slice_get (words_of_outside d) place ≡ Some word → IsOfSomeDevice word
of_stranger d k h place word e = (d, h, words_of_outside d, outside_is_said d k h, place, e)

-- a television that remembers this
abbrev television : Record → State
television r = device Tv (Settled 0 None) root r [] 0

of_record : (r : Record) → IsRecordSized r → (place : ℕ) (word : List ℕ) → slice_get (words_of_line (television r)) place ≡ Some word → IsOfSomeDevice word
of_record r h place word e = of_device (television r) refl (device_sized Tv (Settled 0 None) root r [] 0 refl h few none) place word e

-- a device from outside, of which nobody knows more
abbrev stranger : State
stranger = device Outside (Settled 15 None) root plain [] 0

stranger_is : IsSized stranger
stranger_is = device_sized Outside (Settled 15 None) root plain [] 0 refl plain_is few none

unknown : (place : ℕ) (front text : List ℕ) → IsDash text → slice_get (words_of_outside stranger) place ≡ Some (front ++ codes "-") → IsOfSomeDevice (front ++ text)
unknown place front text h e =
    of_stranger stranger refl stranger_is place (front ++ text) (e ∙ ap (λ t. Some (front ++ t)) (sym h))

-- ---- fields

-- a value that is a switch
switched : (r : Record) → IsRecordSized r → (place : ℕ) (front value text : List ℕ) → text ≡ value → slice_get (words_of_line (television r)) place ≡ Some (front ++ value) → IsOfSomeDevice (front ++ text)
switched r h place front value text s e = of_record r h place (front ++ text) (e ∙ ap (λ t. Some (front ++ t)) (sym s))

language_of : (bytes text : List ℕ) → are_bytes bytes ≡ true → 3 ≤ length bytes → length bytes ≤ 3 → text ≡ flat_map hex_text bytes → IsOfSomeDevice (codes "lang=" ++ text)
language_of [] text h low high e = absurd (omega arith)
language_of (a ∷ []) text h low high e = absurd (omega arith)
language_of (a ∷ b ∷ []) text h low high e = absurd (omega arith)
language_of (a ∷ b ∷ c ∷ []) text h low high e =
    let r : Record = record plain { language = record { first = a; second = b; third = c } } in
    of_record r (record_sized r refl refl refl twenty tt h refl few refl refl) 13 (codes "lang=" ++ text) (ap (λ t. Some (codes "lang=" ++ t)) (sym e))
language_of (a ∷ b ∷ c ∷ d ∷ more) text h low high e = absurd (omega arith)

osd_of : (bytes text : List ℕ) → are_bytes bytes ≡ true → 1 ≤ length bytes → length bytes ≤ 16 → text ≡ flat_map hex_text bytes → IsOfSomeDevice (codes "osd=" ++ text)
osd_of [] text h low high e = absurd (omega arith)
osd_of (b ∷ bs) text h low high e =
    let r : Record = record plain { osd = record { items = b ∷ bs } } in
    of_record r (record_sized r refl refl refl twenty tt refl h high refl refl) 14 (codes "osd=" ++ text) (ap (λ t. Some (codes "osd=" ++ t)) (sym e))

abbrev waiting : Queued
waiting = record { frame = 0 ∷ []; ready = 0; ticket = None }

queue_of : (n : ℕ) (text : List ℕ) → n ≤ 16 → text ≡ decimal n → IsOfSomeDevice (codes "queue=" ++ text)
queue_of n text h e =
    let size : length (replicate n waiting) ≡ n = length-replicate n waiting in
    of_device (device Tv (Settled 0 None) root plain (replicate n waiting) 0) refl
    (device_sized Tv (Settled 0 None) root plain (replicate n waiting) 0 refl plain_is (omega (arith, size, h)) none) 18 (codes "queue=" ++ text)
    (ap (λ k. Some (codes "queue=" ++ decimal k)) size ∙ ap (λ t. Some (codes "queue=" ++ t)) (sym e))

dropped_of : (n : ℕ) (text : List ℕ) → n ≤ 18446744073709551615 → text ≡ decimal n → IsOfSomeDevice (codes "dropped=" ++ text)
dropped_of n text h e =
    of_device (device Tv (Settled 0 None) root plain [] n) refl
    (device_sized Tv (Settled 0 None) root plain [] n refl plain_is few (omega (arith, h))) 19 (codes "dropped=" ++ text)
    (ap (λ t. Some (codes "dropped=" ++ t)) (sym e))

field_said : (field : StateField) (text : List ℕ) → IsValue (value_of field) text → IsOfSomeDevice (key field ++ text)
field_said Active text (inl h) =
    let p = phys_of_text text h in
    let r : Record = record plain { active = Some p.0 } in
    of_record r (record_sized r p.1 refl refl twenty tt refl refl few refl refl) 4 (codes "active=" ++ text) (ap (λ t. Some (codes "active=" ++ t)) p.2)
field_said Active text (inr h) = unknown 4 (codes "active=") text h refl
field_said Path text (inl h) =
    let p = phys_of_text text h in
    let r : Record = record plain { path = Some p.0 } in
    of_record r (record_sized r refl p.1 refl twenty tt refl refl few refl refl) 5 (codes "path=" ++ text) (ap (λ t. Some (codes "path=" ++ t)) p.2)
field_said Path text (inr h) = unknown 5 (codes "path=") text h refl
field_said Deck text (inl h) =
    let b = byte_of_text text h in
    let r : Record = record plain { deck = deck_info_at b.0 } in
    of_record r (record_sized r refl refl (ap (λ n. are_bytes (n ∷ [])) (deck_again b.0 b.1) ∙ and_both (nat_lt b.0 256) true b.1 refl) twenty tt refl refl few refl refl) 6 (codes "deck=" ++ text)
    (ap (λ n. Some (codes "deck=" ++ hex_text n)) (deck_again b.0 b.1) ∙ ap (λ t. Some (codes "deck=" ++ t)) b.2)
field_said Deck text (inr h) = unknown 6 (codes "deck=") text h refl
field_said Menu text (inl h) =
    let r : Record = record plain { menu = true } in switched r (record_sized r refl refl refl twenty tt refl refl few refl refl) 7 (codes "menu=") (codes "on") text h refl
field_said Menu text (inr (inl h)) = switched plain plain_is 7 (codes "menu=") (codes "off") text h refl
field_said Menu text (inr (inr h)) = unknown 7 (codes "menu=") text h refl
field_said Audio text (inl h) =
    let r : Record = record plain { audio = true } in switched r (record_sized r refl refl refl twenty tt refl refl few refl refl) 8 (codes "audio=") (codes "on") text h refl
field_said Audio text (inr (inl h)) = switched plain plain_is 8 (codes "audio=") (codes "off") text h refl
field_said Audio text (inr (inr h)) = unknown 8 (codes "audio=") text h refl
field_said Volume text (inl h) =
    let r : Record = record plain { volume = h.0 } in
    of_record r (record_sized r refl refl refl h.1 tt refl refl few refl refl) 9 (codes "volume=" ++ text) (ap (λ t. Some (codes "volume=" ++ t)) (sym h.2))
field_said Volume text (inr h) = unknown 9 (codes "volume=") text h refl
field_said Mute text (inl h) =
    let r : Record = record plain { mute = true } in switched r (record_sized r refl refl refl twenty tt refl refl few refl refl) 10 (codes "mute=") (codes "on") text h refl
field_said Mute text (inr (inl h)) = switched plain plain_is 10 (codes "mute=") (codes "off") text h refl
field_said Mute text (inr (inr h)) = unknown 10 (codes "mute=") text h refl
field_said Arc text (inl h) =
    let r : Record = record plain { arc = true } in switched r (record_sized r refl refl refl twenty tt refl refl few refl refl) 11 (codes "arc=") (codes "on") text h refl
field_said Arc text (inr (inl h)) = switched plain plain_is 11 (codes "arc=") (codes "off") text h refl
field_said Arc text (inr (inr h)) = unknown 11 (codes "arc=") text h refl
field_said Selected text (inl h) =
    let r : Record = record plain { selected = Some h.0 } in
    of_record r (record_sized r refl refl refl twenty h.1 refl refl few refl refl) 12 (codes "sel=" ++ text) (ap (λ t. Some (codes "sel=" ++ t)) (sym h.2))
field_said Selected text (inr h) = unknown 12 (codes "sel=") text h refl
field_said Language text (inl h) = language_of h.0 text h.1 h.2 h.3 h.4
field_said Language text (inr h) = unknown 13 (codes "lang=") text h refl
field_said Osd text (inl h) = osd_of h.0 text h.1 h.2 h.3 h.4
field_said Osd text (inr h) = unknown 14 (codes "osd=") text h refl
field_said Held text (inl h) =
    let b = byte_of_text text h in
    let r : Record = record plain { held = Some b.0 } in
    of_record r (record_sized r refl refl refl twenty tt refl refl few (and_both (nat_lt b.0 256) true b.1 refl) refl) 15 (codes "held=" ++ text) (ap (λ t. Some (codes "held=" ++ t)) b.2)
field_said Held text (inr h) = unknown 15 (codes "held=") text h refl
field_said Heard text (inl h) =
    let n = note_of_text text h in
    let r : Record = record plain { heard = Some n.0 } in
    of_record r (record_sized r refl refl refl twenty tt refl refl few refl n.1) 16 (codes "heard=" ++ text) (ap (λ t. Some (codes "heard=" ++ t)) n.2)
field_said Heard text (inr h) = unknown 16 (codes "heard=") text h refl
field_said Sub text (inl h) =
    let n = nibble_of_text text h in
    let r : Record = record plain { sub = Some n.0 } in
    of_record r (record_sized r refl refl refl twenty tt refl refl few refl refl) 17 (codes "sub=" ++ text)
    (ap (λ k. Some (codes "sub=" ++ nibble_text k)) (itself n.0 n.1) ∙ ap (λ t. Some (codes "sub=" ++ t)) n.2)
field_said Sub text (inr h) = unknown 17 (codes "sub=") text h refl
field_said Queue text h = queue_of h.0 text h.1 h.2
field_said Dropped text h = dropped_of h.0 text h.1 h.2

-- ---- words without a key

-- a device that remembers what a new one does
of_place : (kind : Kind) → is_outside kind ≡ false → (place : Place) (phys : Phys) → are_bytes (phys_bytes phys) ≡ true → (at : ℕ) (word : List ℕ)
    → slice_get (words_of_line (device kind place phys plain [] 0)) at ≡ Some word → IsOfSomeDevice word
of_place kind k place phys p at word e = of_device (device kind place phys plain [] 0) k (device_sized kind place phys plain [] 0 p plain_is few none) at word e

kind_said : (kind : Kind) → IsOfSomeDevice (kind_word kind)
kind_said Tv = of_place Tv refl Off root refl 0 (kind_word Tv) refl
kind_said Amp = of_place Amp refl Off root refl 0 (kind_word Amp) refl
kind_said Player = of_place Player refl Off root refl 0 (kind_word Player) refl
kind_said Recorder = of_place Recorder refl Off root refl 0 (kind_word Recorder) refl
kind_said Switch = of_place Switch refl Off root refl 0 (kind_word Switch) refl
kind_said Combo = of_place Combo refl Off root refl 0 (kind_word Combo) refl
kind_said Outside = of_stranger stranger refl stranger_is 0 (kind_word Outside) refl
kind_said OutsideTv =
    of_stranger (device OutsideTv (Settled 15 None) root plain [] 0) refl (device_sized OutsideTv (Settled 15 None) root plain [] 0 refl plain_is few none) 0 (kind_word OutsideTv) refl

unit_said : (word : List ℕ) → IsUnit word → IsOfSomeDevice word
unit_said word (inl h) =
    let n = nibble_of_text word h in
    of_place Tv refl (Settled n.0 None) root refl 1 word (ap (λ k. Some (nibble_text k)) (itself n.0 n.1) ∙ ap Some n.2)
unit_said word (inr h) = of_place Tv refl Off root refl 1 word (ap Some (sym h))

-- two digits with a plus between them
two_said : (n m : ℕ) → n < 16 → m < 16 → IsOfSomeDevice (nibble_text n ++ 43 ∷ nibble_text m)
two_said n m l k =
    of_place Combo refl (Settled n (Some m)) root refl 1 (nibble_text n ++ 43 ∷ nibble_text m)
    (ap (λ x. Some (nibble_text x ++ 43 ∷ nibble_text (m % 16))) (itself n l) ∙ ap (λ x. Some (nibble_text n ++ 43 ∷ nibble_text x)) (itself m k))

pair_by : (first second : List ℕ) → IsTextOf (One Hex ∷ []) first → IsUnit second → IsOfSomeDevice (first ++ 43 ∷ second)
pair_by first second f (inl s) =
    let n = nibble_of_text first f in
    let m = nibble_of_text second s in
    subst IsOfSomeDevice (ap (λ t. t ++ 43 ∷ nibble_text m.0) n.2 ∙ ap (λ t. first ++ 43 ∷ t) m.2) (two_said n.0 m.0 n.1 m.1)
pair_by first second f (inr s) =
    let n = nibble_of_text first f in
    of_place Combo refl (Polls (Some n.0) 0) root refl 1 (first ++ 43 ∷ second)
    (ap (λ x. Some (nibble_text x ++ 43 ∷ 45 ∷ [])) (itself n.0 n.1) ∙ ap (λ t. Some (t ++ 43 ∷ 45 ∷ [])) n.2 ∙ ap (λ t. Some (first ++ 43 ∷ t)) (sym s))

pair_said : (word : List ℕ) → IsPair word → IsOfSomeDevice word
pair_said word (inl h) = subst IsOfSomeDevice (sym h.2) (pair_by h.0 h.1 h.3 h.4)
pair_said word (inr h) = of_place Combo refl Off root refl 1 word (ap Some (sym h))

-- a device from outside that holds these
abbrev holder : ℕ → ℕ → ℕ → Option ℕ → State
holder n m k fourth = record (device Outside (Settled n (Some m)) root plain [] 0) { more = record { third = Some k; fourth = fourth } }

holder_is : (n m k : ℕ) (fourth : Option ℕ) → IsSized (holder n m k fourth)
holder_is n m k fourth =
    let s = device_sized Outside (Settled n (Some m)) root plain [] 0 refl plain_is few none in record { phys = s.phys; record_of = s.record_of; queue = s.queue; dropped = s.dropped }

three_digits : (n m k : ℕ) → n < 16 → m < 16 → k < 16 → IsOfSomeDevice (nibble_text n ++ (43 ∷ (nibble_text m ++ (43 ∷ nibble_text k))))
three_digits n m k a b c =
    of_stranger (holder n m k None) refl (holder_is n m k None) 1 (nibble_text n ++ (43 ∷ (nibble_text m ++ (43 ∷ nibble_text k))))
    (ap (λ x. Some (nibble_text x ++ (43 ∷ (nibble_text (m % 16) ++ (43 ∷ nibble_text (k % 16)))))) (itself n a) ∙ ap (λ x. Some (nibble_text n ++ (43 ∷ (nibble_text x ++ (43 ∷ nibble_text (k % 16)))))) (itself m b)
    ∙ ap (λ x. Some (nibble_text n ++ (43 ∷ (nibble_text m ++ (43 ∷ nibble_text x))))) (itself k c))

four_digits : (n m k l : ℕ) → n < 16 → m < 16 → k < 16 → l < 16 → IsOfSomeDevice (nibble_text n ++ (43 ∷ (nibble_text m ++ (43 ∷ (nibble_text k ++ (43 ∷ nibble_text l))))))
four_digits n m k l a b c d =
    of_stranger (holder n m k (Some l)) refl (holder_is n m k (Some l)) 1 (nibble_text n ++ (43 ∷ (nibble_text m ++ (43 ∷ (nibble_text k ++ (43 ∷ nibble_text l))))))
    (ap (λ x. Some (nibble_text x ++ (43 ∷ (nibble_text (m % 16) ++ (43 ∷ (nibble_text (k % 16) ++ (43 ∷ nibble_text (l % 16)))))))) (itself n a)
    ∙ ap (λ x. Some (nibble_text n ++ (43 ∷ (nibble_text x ++ (43 ∷ (nibble_text (k % 16) ++ (43 ∷ nibble_text (l % 16)))))))) (itself m b)
    ∙ ap (λ x. Some (nibble_text n ++ (43 ∷ (nibble_text m ++ (43 ∷ (nibble_text x ++ (43 ∷ nibble_text (l % 16)))))))) (itself k c)
    ∙ ap (λ x. Some (nibble_text n ++ (43 ∷ (nibble_text m ++ (43 ∷ (nibble_text k ++ (43 ∷ nibble_text x))))))) (itself l d))

three_said : (word : List ℕ) → IsTextOf three_parts word → IsOfSomeDevice word
three_said word h =
    let b = h.4.2 in
    let c = b.4.2 in
    let n = nibble_of_text (h.0 ∷ []) (h.0, [], h.2, refl, refl) in
    let m = nibble_of_text (b.0 ∷ []) (b.0, [], b.2, refl, refl) in
    let k = nibble_of_text (c.0 ∷ []) (c.0, [], c.2, refl, refl) in
    let whole : word ≡ h.0 ∷ 43 ∷ b.0 ∷ 43 ∷ c.0 ∷ [] =
    h.3 ∙ ap (λ t. h.0 ∷ t) (h.4.1 ∙ ap (λ t. 43 ∷ t) (b.3 ∙ ap (λ t. b.0 ∷ t) (b.4.1 ∙ ap (λ t. 43 ∷ t) (c.3 ∙ ap (λ t. c.0 ∷ t) c.4)))) in
    subst IsOfSomeDevice
    (ap (λ t. t ++ (43 ∷ (nibble_text m.0 ++ (43 ∷ nibble_text k.0)))) n.2 ∙ ap (λ t. h.0 ∷ 43 ∷ (t ++ (43 ∷ nibble_text k.0))) m.2 ∙ ap (λ t. h.0 ∷ 43 ∷ b.0 ∷ 43 ∷ t) k.2 ∙ sym whole)
    (three_digits n.0 m.0 k.0 n.1 m.1 k.1)

four_said : (word : List ℕ) → IsTextOf four_parts word → IsOfSomeDevice word
four_said word h =
    let b = h.4.2 in
    let c = b.4.2 in
    let d = c.4.2 in
    let n = nibble_of_text (h.0 ∷ []) (h.0, [], h.2, refl, refl) in
    let m = nibble_of_text (b.0 ∷ []) (b.0, [], b.2, refl, refl) in
    let k = nibble_of_text (c.0 ∷ []) (c.0, [], c.2, refl, refl) in
    let l = nibble_of_text (d.0 ∷ []) (d.0, [], d.2, refl, refl) in
    let whole : word ≡ h.0 ∷ 43 ∷ b.0 ∷ 43 ∷ c.0 ∷ 43 ∷ d.0 ∷ [] =
    h.3 ∙ ap (λ t. h.0 ∷ t) (h.4.1 ∙ ap (λ t. 43 ∷ t) (b.3 ∙ ap (λ t. b.0 ∷ t) (b.4.1 ∙ ap (λ t. 43 ∷ t) (c.3 ∙ ap (λ t. c.0 ∷ t) (c.4.1 ∙ ap (λ t. 43 ∷ t) (d.3 ∙ ap (λ t. d.0 ∷ t) d.4)))))) in
    subst IsOfSomeDevice
    (ap (λ t. t ++ (43 ∷ (nibble_text m.0 ++ (43 ∷ (nibble_text k.0 ++ (43 ∷ nibble_text l.0)))))) n.2 ∙ ap (λ t. h.0 ∷ 43 ∷ (t ++ (43 ∷ (nibble_text k.0 ++ (43 ∷ nibble_text l.0))))) m.2
    ∙ ap (λ t. h.0 ∷ 43 ∷ b.0 ∷ 43 ∷ (t ++ (43 ∷ nibble_text l.0))) k.2 ∙ ap (λ t. h.0 ∷ 43 ∷ b.0 ∷ 43 ∷ c.0 ∷ 43 ∷ t) l.2 ∙ sym whole)
    (four_digits n.0 m.0 k.0 l.0 n.1 m.1 k.1 l.1)

bare_said : (word : List ℕ) → IsBare word → IsOfSomeDevice word
bare_said word (inl h) = of_record plain plain_is 3 word (ap Some (sym h))
bare_said word (inr (inl h)) =
    let r : Record = record plain { power = false } in of_record r (record_sized r refl refl refl twenty tt refl refl few refl refl) 3 word (ap Some (sym h))
bare_said word (inr (inr (inl h))) = subst IsOfSomeDevice (sym h.1) (kind_said h.0)
bare_said word (inr (inr (inr (inl h)))) = unit_said word h
bare_said word (inr (inr (inr (inr (inl h))))) = pair_said word h
bare_said word (inr (inr (inr (inr (inr (inl h)))))) = three_said word h
bare_said word (inr (inr (inr (inr (inr (inr (inl h))))))) = four_said word h
bare_said word (inr (inr (inr (inr (inr (inr (inr h))))))) = let p = phys_of_text word h in of_place Tv refl (Settled 0 None) p.0 p.1 2 word (ap Some p.2)

-- ---- all

word_said : (word : List ℕ) → IsStateWord word → IsOfSomeDevice word
word_said word (inl h) = bare_said word h
word_said word (inr h) = subst IsOfSomeDevice (sym h.2) (field_said h.0 h.1 h.3)

word_is : (word : List ℕ) → IsOfSomeDevice word → IsStateWord word
word_is word h =
    subst IsStateWord (get_or_from_slice_get h.2 h.4 word word h.5)
    (All-get_or IsStateWord h.2 h.4 word (slice_get_within h.2 h.4 word h.5) h.3.words_are)

pub state_words_are_said : StateWordsAreSaid
state_words_are_said word = (λ h. word_said word ((state_words_are_met word).0 h), λ h. (state_words_are_met word).1 (word_is word h))
