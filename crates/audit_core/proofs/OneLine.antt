-- The line of a reading is one line, and begins with a digit.
use Rattle.std.proofs.Common.{◌≡◌, ◌≢◌, ℕ, ◌/◌, ◌%◌, ◌==◌, ◌≤◌, Bool, true, false, not, ◌&&◌, nat_le, if◌then◌else◌, List, [], ◌∷◌, ◌++◌, length, map, take, drop, Option, None, Some, find, option_map, unwrap_or, codes, refl, sym, arith}
use Rattle.std.specs.Fmt.{decimal}
use Rattle.std.specs.List.{flat_map, list_all}
use Rattle.std.proofs.lemmas.Bool.{false≢true}
use Rattle.std.proofs.lemmas.Bool.Decides.{nat_tests}
use Rattle.text_core.specs.Piece.{hex_text, nibble_text}
use Rattle.line_frames.specs.declared.Ending.{Ending}
use Rattle.line_frames.specs.declared.Ending.TheVariants.{Complete, Short, Silent, BadStart, Long, Open}
use Rattle.line_frames.specs.Blocks.{frame_in}
use Rattle.line_frames.specs.declared.Reading.{Reading}
use Rattle.message_table.specs.Operands.{size_of}
use Rattle.message_table.specs.Table.{Row, name_of, operands_of, rows}
use Rattle.message_table.specs.WordSets.{NamedByte as WordRow, word_of, words_of}
use Rattle.message_table.specs.declared.operand.Operand.{Operand}
use Rattle.message_table.specs.declared.operand.Operand.TheVariants.{Byte, Word, Language, Vendor, Address}
use Rattle.message_table.specs.declared.operand.Operands.{Operands}
use Rattle.message_table.specs.declared.operand.Operands.TheVariants.{Raw, Nothing, One, Optional, Two, Volume, Text, WordAndText}
use Rattle.message_table.specs.declared.word_set.WordSet.{WordSet}
use Rattle.message_table.specs.declared.word_set.WordSet.TheVariants.{Reason, Power, OnOff, DeviceType, StatusRequest, DeckInfo, PlayMode, DeckControl, Display, MenuRequest, MenuState, Version, UserControl}
use Rattle.message_text.specs.FrameText.{frame_text, header_text, is_letter, is_text_byte, opcode_text, operand_word, operand_words, operands_text, quoted_text, raw_text, spaced_word, with_both}
use Rattle.message_text.specs.ReadingText.{bit_digit, bits_text, ending_text, is_broadcast, is_complete, last_bit, reading_text, reported_by, reported_frame, reported_text, verdict_by, verdict_in, verdict_text}
use Rattle.audit_core.specs.Kept.{IsPlain, PlainIf, shown}
use Rattle.audit_core.proofs.Plain.{plain_codes, plain_decimal, plain_hex, plain_more, plain_nibble, plain_phys}

-- ---- parts that may be missing

pub or_else : (o : Option (List ℕ)) (other : List ℕ) → PlainIf o → IsPlain other → IsPlain (unwrap_or o other)
or_else None other h k = k
or_else (Some text) other h k = h

blank : IsPlain (codes " ")
blank = plain_codes (codes " ") refl

spaced : (o : Option (List ℕ)) → PlainIf o → PlainIf (option_map (λ w. 32 ∷ w) o)
spaced None h = tt
spaced (Some text) h = (blank.0, h)

-- ---- tables

pub named : (table : List Row) → list_all (λ r. shown r.name) table ≡ true → (code : ℕ) → PlainIf (option_map (λ r. r.name) (find (λ r. r.code == code) table))
named [] h code = tt
named (r ∷ table) h code = by (shown r.name) (r.code == code) refl h (named table)
  where
    by : (s found : Bool) → shown r.name ≡ s → (s && list_all (λ r. shown r.name) table) ≡ true → (list_all (λ r. shown r.name) table ≡ true → (code : ℕ) → PlainIf (option_map (λ r. r.name) (find (λ r. r.code == code) table)))
        → PlainIf (option_map (λ r. r.name) (if found then Some r else find (λ r. r.code == code) table))
    by true true e k more = plain_codes r.name e
    by true false e k more = more k code
    by false found e k more = absurd (false≢true k)

pub plain_opcode : (code : ℕ) → IsPlain (opcode_text code)
plain_opcode code = or_else (name_of code) (codes "op-" ++ hex_text code) (named rows refl code) (plain_more (codes "op-") (hex_text code) (plain_codes (codes "op-") refl) (plain_hex code))

pub worded : (table : List WordRow) → list_all (λ w. shown w.text) table ≡ true → (byte : ℕ) → PlainIf (word_of table byte)
worded [] h byte = tt
worded (w ∷ table) h byte = by (shown w.text) (w.code == byte) refl h (worded table)
  where
    by : (s found : Bool) → shown w.text ≡ s → (s && list_all (λ w. shown w.text) table) ≡ true → (list_all (λ w. shown w.text) table ≡ true → (byte : ℕ) → PlainIf (word_of table byte))
        → PlainIf (option_map (λ w. w.text) (if found then Some w else find (λ w. w.code == byte) table))
    by true true e k more = plain_codes w.text e
    by true false e k more = more k byte
    by false found e k more = absurd (false≢true k)

plain_sets : (set : WordSet) → list_all (λ w. shown w.text) (words_of set) ≡ true
plain_sets Reason = refl
plain_sets Power = refl
plain_sets OnOff = refl
plain_sets DeviceType = refl
plain_sets StatusRequest = refl
plain_sets DeckInfo = refl
plain_sets PlayMode = refl
plain_sets DeckControl = refl
plain_sets Display = refl
plain_sets MenuRequest = refl
plain_sets MenuState = refl
plain_sets Version = refl
plain_sets UserControl = refl

plain_word : (set : WordSet) (byte : ℕ) → PlainIf (spaced_word set byte)
plain_word set byte = spaced (word_of (words_of set) byte) (worded (words_of set) (plain_sets set) byte)

-- ---- operands

plain_hexes : (xs : List ℕ) → IsPlain (flat_map hex_text xs)
plain_hexes [] = tt
plain_hexes (x ∷ xs) = plain_more (hex_text x) (flat_map hex_text xs) (plain_hex x) (plain_hexes xs)

not_feed : (c : ℕ) → 11 ≤ c → c ≢ 10
not_feed c h = λ p. absurd (omega arith)

letter : (c : ℕ) → is_letter c ≡ true → c ≢ 10
letter c h = not_feed c (let low : nat_le 97 c ≡ true = left (nat_le 97 c) (nat_le c 122) h in let l : 97 ≤ c = grind (arith, nat_tests) in omega arith)
  where
    left : (a b : Bool) → (a && b) ≡ true → a ≡ true
    left true b h = refl
    left false b h = h

plain_texts : (xs : List ℕ) → list_all is_text_byte xs ≡ true → IsPlain xs
plain_texts [] h = tt
plain_texts (x ∷ xs) h = by (nat_le 32 x) (nat_le x 126) (not (x == 34)) refl h (plain_texts xs)
  where
    by : (low top other : Bool) → nat_le 32 x ≡ low → (((low && top) && other) && list_all is_text_byte xs) ≡ true → (list_all is_text_byte xs ≡ true → IsPlain xs) → IsPlain (x ∷ xs)
    by true true true e k more = (not_feed x (let l : 32 ≤ x = grind (arith, nat_tests) in omega arith), more k)
    by true true false e k more = absurd (false≢true k)
    by true false other e k more = absurd (false≢true k)
    by false top other e k more = absurd (false≢true k)

plain_quoted : (xs : List ℕ) → list_all is_text_byte xs ≡ true → IsPlain (quoted_text xs)
plain_quoted xs h = plain_more (codes " \"") (xs ++ codes "\"") (plain_codes (codes " \"") refl) (plain_more xs (codes "\"") (plain_texts xs h) (plain_codes (codes "\"") refl))

plain_if_text : (a b c : Bool) (xs : List ℕ) → c ≡ list_all is_text_byte xs → PlainIf (if a && b && c then Some (quoted_text xs) else None)
plain_if_text true true true xs h = plain_quoted xs (sym h)
plain_if_text true true false xs h = tt
plain_if_text true false c xs h = tt
plain_if_text false b c xs h = tt

plain_letters : (p q r : Bool) (a b c : ℕ) → is_letter a ≡ p → is_letter b ≡ q → is_letter c ≡ r → PlainIf (if p && q && r then Some (32 ∷ a ∷ b ∷ c ∷ []) else None)
plain_letters true true true a b c x y z = (blank.0, (letter a x, (letter b y, (letter c z, tt))))
plain_letters true true false a b c x y z = tt
plain_letters true false r a b c x y z = tt
plain_letters false q r a b c x y z = tt

plain_operand : (operand : Operand) (xs : List ℕ) → PlainIf (operand_word operand xs)
plain_operand Byte [] = tt
plain_operand Byte (a ∷ []) = (blank.0, plain_hex a)
plain_operand Byte (a ∷ b ∷ xs) = tt
plain_operand (Word set) [] = tt
plain_operand (Word set) (a ∷ []) = plain_word set a
plain_operand (Word set) (a ∷ b ∷ xs) = tt
plain_operand Language [] = tt
plain_operand Language (a ∷ []) = tt
plain_operand Language (a ∷ b ∷ []) = tt
plain_operand Language (a ∷ b ∷ c ∷ []) = plain_letters (is_letter a) (is_letter b) (is_letter c) a b c refl refl refl
plain_operand Language (a ∷ b ∷ c ∷ d ∷ xs) = tt
plain_operand Vendor [] = tt
plain_operand Vendor (a ∷ []) = tt
plain_operand Vendor (a ∷ b ∷ []) = tt
plain_operand Vendor (a ∷ b ∷ c ∷ []) = (blank.0, plain_more (hex_text a) (hex_text b ++ hex_text c) (plain_hex a) (plain_more (hex_text b) (hex_text c) (plain_hex b) (plain_hex c)))
plain_operand Vendor (a ∷ b ∷ c ∷ d ∷ xs) = tt
plain_operand Address [] = tt
plain_operand Address (a ∷ []) = tt
plain_operand Address (a ∷ b ∷ []) = (blank.0, plain_phys (record { high = a; low = b }))
plain_operand Address (a ∷ b ∷ c ∷ xs) = tt

plain_both : (a b : Option (List ℕ)) → PlainIf a → PlainIf b → PlainIf (with_both a b)
plain_both (Some a) (Some b) h k = plain_more a b h k
plain_both (Some a) None h k = tt
plain_both None (Some b) h k = tt
plain_both None None h k = tt

plain_volume : (loud muted : Bool) (n : ℕ) → PlainIf (if loud then Some ((if muted then codes " mute " else codes " sound ") ++ decimal n) else None)
plain_volume true true n = plain_more (codes " mute ") (decimal n) (plain_codes (codes " mute ") refl) (plain_decimal n)
plain_volume true false n = plain_more (codes " sound ") (decimal n) (plain_codes (codes " sound ") refl) (plain_decimal n)
plain_volume false muted n = tt

plain_named_text : (a b c : Bool) (o : Option (List ℕ)) (xs : List ℕ) → PlainIf o → c ≡ list_all is_text_byte xs → PlainIf (if a && b && c then option_map (λ w. w ++ quoted_text xs) o else None)
plain_named_text true true true None xs h k = tt
plain_named_text true true true (Some w) xs h k = plain_more w (quoted_text xs) h (plain_quoted xs (sym k))
plain_named_text true true false o xs h k = tt
plain_named_text true false c o xs h k = tt
plain_named_text false b c o xs h k = tt

plain_operands : (form : Operands) (xs : List ℕ) → PlainIf (operand_words form xs)
plain_operands Raw xs = tt
plain_operands Nothing [] = tt
plain_operands Nothing (x ∷ xs) = tt
plain_operands (One operand) xs = plain_operand operand xs
plain_operands (Optional operand) [] = tt
plain_operands (Optional operand) (x ∷ xs) = plain_operand operand (x ∷ xs)
plain_operands (Two first second) xs = plain_both (operand_word first (take (size_of first) xs)) (operand_word second (drop (size_of first) xs)) (plain_operand first (take (size_of first) xs)) (plain_operand second (drop (size_of first) xs))
plain_operands Volume [] = tt
plain_operands Volume (a ∷ []) = plain_volume (nat_le (a % 128) 100) (nat_le 128 a) (a % 128)
plain_operands Volume (a ∷ b ∷ xs) = tt
plain_operands Text xs = plain_if_text (nat_le 1 (length xs)) (nat_le (length xs) 14) (list_all is_text_byte xs) xs refl
plain_operands (WordAndText set) [] = tt
plain_operands (WordAndText set) (a ∷ []) = plain_word set a
plain_operands (WordAndText set) (a ∷ x ∷ xs) = plain_named_text (nat_le 1 (length (x ∷ xs))) (nat_le (length (x ∷ xs)) 13) (list_all is_text_byte (x ∷ xs)) (spaced_word set a) (x ∷ xs) (plain_word set a) refl

plain_operands_text : (form : Operands) (xs : List ℕ) → IsPlain (operands_text form xs)
plain_operands_text form xs = or_else (operand_words form xs) (raw_text xs) (plain_operands form xs) (plain_more (codes " :") (flat_map hex_text xs) (plain_codes (codes " :") refl) (plain_hexes xs))

-- ---- frames and readings

plain_header : (header : ℕ) → IsPlain (header_text header)
plain_header header = plain_more (nibble_text (header / 16)) (codes ">" ++ nibble_text (header % 16)) (plain_nibble (header / 16)) (plain_more (codes ">") (nibble_text (header % 16)) (plain_codes (codes ">") refl) (plain_nibble (header % 16)))

pub plain_frame : (frame : List ℕ) → IsPlain (frame_text frame)
plain_frame [] = tt
plain_frame (header ∷ []) = plain_header header
plain_frame (header ∷ code ∷ operands) =
    plain_more (header_text header) ((32 ∷ opcode_text code) ++ operands_text (operands_of code) operands) (plain_header header)
    (plain_more (32 ∷ opcode_text code) (operands_text (operands_of code) operands) (blank.0, plain_opcode code) (plain_operands_text (operands_of code) operands))

plain_bits : (bits : List Bool) → IsPlain (map bit_digit bits)
plain_bits [] = tt
plain_bits (true ∷ bits) = ((plain_codes (codes "1") refl).0, plain_bits bits)
plain_bits (false ∷ bits) = ((plain_codes (codes "0") refl).0, plain_bits bits)

plain_bits_text : (bits : List Bool) → IsPlain (bits_text bits)
plain_bits_text [] = plain_codes (codes "-") refl
plain_bits_text (b ∷ bits) = plain_bits (b ∷ bits)

plain_ending : (ending : Ending) → IsPlain (ending_text ending)
plain_ending Complete = plain_codes (codes " complete ") refl
plain_ending Short = plain_codes (codes " short ") refl
plain_ending Silent = plain_codes (codes " silent ") refl
plain_ending BadStart = plain_codes (codes " bad-start ") refl
plain_ending Long = plain_codes (codes " long ") refl
plain_ending Open = plain_codes (codes " open ") refl

plain_reported_frame : (o : Option (List ℕ)) → IsPlain (reported_frame o)
plain_reported_frame None = tt
plain_reported_frame (Some frame) = plain_frame frame

plain_reported : (whole : Bool) (r : Reading) → IsPlain (reported_by whole r)
plain_reported true r = plain_reported_frame (frame_in r)
plain_reported false r = plain_bits_text r.bits.items

plain_verdict_by : (to_all last : Bool) → IsPlain (verdict_by to_all last)
plain_verdict_by true true = plain_codes (codes " ok") refl
plain_verdict_by true false = plain_codes (codes " refused") refl
plain_verdict_by false true = plain_codes (codes " nack") refl
plain_verdict_by false false = plain_codes (codes " ack") refl

plain_verdict : (whole : Bool) (r : Reading) → IsPlain (verdict_in whole r)
plain_verdict true r = plain_verdict_by (is_broadcast (frame_in r)) (last_bit r.bits.items)
plain_verdict false r = tt

pub plain_reading : (r : Reading) → IsPlain (reading_text r)
plain_reading r =
    plain_more (decimal r.begin) (codes " " ++ (decimal r.at ++ (ending_text r.ending ++ (reported_text r ++ (verdict_text r ++ []))))) (plain_decimal r.begin)
    (plain_more (codes " ") (decimal r.at ++ (ending_text r.ending ++ (reported_text r ++ (verdict_text r ++ [])))) (plain_codes (codes " ") refl)
    (plain_more (decimal r.at) (ending_text r.ending ++ (reported_text r ++ (verdict_text r ++ []))) (plain_decimal r.at)
    (plain_more (ending_text r.ending) (reported_text r ++ (verdict_text r ++ [])) (plain_ending r.ending)
    (plain_more (reported_text r) (verdict_text r ++ []) (plain_reported (is_complete r.ending) r)
    (plain_more (verdict_text r) [] (plain_verdict (is_complete r.ending) r) tt)))))
