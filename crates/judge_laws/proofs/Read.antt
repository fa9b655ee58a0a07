-- What is read of a round: whole blocks where it is complete, none of a bad start, else the bits that a reading can have that ends so.
use Rattle.std.proofs.Common.{◌≡◌, ℕ, zero, suc, ◌+◌, ◌-◌, ◌*◌, ◌/◌, ◌%◌, ◌==◌, ◌<◌, ◌≤◌, nat_lt, nat_le, ◌&&◌, ◌⊎◌, inl, inr, Bool, true, false, not, if◌then◌else◌, length, length-append, append_assoc, append-nil, slice_index_or, List, [], ◌∷◌, ◌++◌, Option, Some, None, Result, Ok, Err, refl, sym, ap, subst, ◌∙◌, arith}
use Rattle.std.specs.List.{find, range_with_len}
use Rattle.std.proofs.lemmas.Bool.Decides.{nat_tests}
use Rattle.text_core.specs.Bytes.{are_bytes}
use Rattle.line_wave.specs.Line.{Line}
use Rattle.line_frames.specs.Bits.{frame_bits}
use Rattle.line_frames.specs.Blocks.{bit_value, byte_of, bytes_of, frame_of}
use Rattle.line_frames.specs.declared.Ending.{Ending}
use Rattle.line_frames.specs.declared.Ending.TheVariants.{BadStart, Open}
use Rattle.line_reading.specs.Reading.{bits_of, read_start, reading_of, start_of}
use Rattle.line_reading.specs.Sending.{is_out_by, is_whole, known_bits}
use Rattle.line_rounds.specs.Round.{all_known, out_of}
use Rattle.line_rounds.proofs.Polled.{reported_bits}
use Rattle.line_rounds.proofs.Spans.{reading_spans}
use Rattle.message_text.specs.FrameReading.{is_frame}
use Rattle.expect_text.specs.Bits.{FitsEnding}
use Rattle.judge_laws.proofs.Ended.{IsWay, bits_by, slots_heard, slots_known, ways_are_few}

-- ---- a reading

-- a bad start, or slots that end so
abbrev pub IsHeard : List Bool → Ending → Type 0
IsHeard bits ending = ((ending ≡ BadStart) × (bits ≡ [])) ⊎ IsWay bits ending

pub reading_heard : (low : Line) (begin : ℕ) → IsHeard (bits_of (reading_of low begin)) (reading_of low begin).ending
reading_heard low begin = by (start_of low begin)
  where
    by : (s : Result ℕ ℕ) → IsHeard (bits_of (read_start low begin s)) (read_start low begin s).ending
    by (Ok fall) = inr (slots_heard low fall)
    by (Err at) = inl (refl, refl)

-- one that is cut before it is over has the bits of an open one
pub reading_cut : (low : Line) (begin t : ℕ) → t ≤ (reading_of low begin).at → FitsEnding Open (bits_by t (reading_of low begin).slots)
reading_cut low begin t l = by (start_of low begin) l
  where
    by : (s : Result ℕ ℕ) → t ≤ (read_start low begin s).at → FitsEnding Open (bits_by t (read_start low begin s).slots)
    by (Ok fall) h = slots_known low fall t h
    by (Err at) h = (omega arith, omega arith, refl)

few_heard : (bits : List Bool) (ending : Ending) → IsHeard bits ending → length bits ≤ 160
few_heard bits ending (inl bad) = omega (arith, ap length bad.1)
few_heard bits ending (inr way) = ways_are_few bits ending way

-- ---- who is out, and where

found_one : (b : Bool) (a n m : ℕ) (o : Option ℕ) → (o ≡ Some m → (a + 1 ≤ m) × (m < a + 1 + n)) → (if b then Some a else o) ≡ Some m → (a ≤ m) × (m < a + suc n)
found_one true a n m o h k = let x : a ≡ m = cc in (omega (arith, x), omega (arith, x))
found_one false a n m o h k = let x = h k in (omega (arith, x.0), omega (arith, x.1))

found_within : (p : ℕ → Bool) (a n m : ℕ) → find p (range_with_len a n) ≡ Some m → (a ≤ m) × (m < a + n)
found_within p a zero m h = cc
found_within p a (suc n) m h = found_one (p a) a n m (find p (range_with_len (a + 1) n)) (found_within p (a + 1) n m) h

-- of a reading of at most 160 bits
pub out_within : (low : Line) (begin : ℕ) (sends : Option (List ℕ)) (slot : ℕ) → out_of (reading_of low begin) sends ≡ Some slot → (1 ≤ slot) × (slot ≤ 160)
out_within low begin None slot e = cc
out_within low begin (Some f) slot e =
    let r = reading_of low begin in
    let k = all_known r in
    let all = ap length (reported_bits (r.until + 1) r.until r.slots (reading_spans low begin).reported (omega arith)) in
    let few = few_heard (bits_of r) r.ending (reading_heard low begin) in
    let found = found_within (is_out_by (known_bits k) (is_whole k.ended) (frame_bits f)) 1 (length (known_bits k)) slot e in
    (found.0, omega (arith, found.1, all, few))

-- ---- the frame of whole blocks

weight : (w : ℕ) (b : Bool) → bit_value w b ≤ w
weight w true = omega arith
weight w false = omega arith

below : (n m : ℕ) → n < m → nat_lt n m ≡ true
below n m l = grind (arith, nat_tests)

byte_small : (a b c d e f g h : Bool) → nat_lt (byte_of a b c d e f g h) 256 ≡ true
byte_small a b c d e f g h =
    below (byte_of a b c d e f g h) 256 (omega (arith, weight 128 a, weight 64 b, weight 32 c, weight 16 d, weight 8 e, weight 4 f, weight 2 g, weight 1 h))

both : (x y : Bool) → x ≡ true → y ≡ true → (x && y) ≡ true
both x y h k = rw (h, k) refl

blocks_are : (n : ℕ) (bits : List Bool) → length bits ≡ n * 10 → (length (bytes_of bits) ≡ n) × (are_bytes (bytes_of bits) ≡ true)
blocks_are zero [] l = (refl, refl)
blocks_are zero (a ∷ bits) l = absurd (omega (arith, l))
blocks_are (suc n) [] l = absurd (omega (arith, l))
blocks_are (suc n) (a ∷ []) l = absurd (omega (arith, l))
blocks_are (suc n) (a ∷ b ∷ []) l = absurd (omega (arith, l))
blocks_are (suc n) (a ∷ b ∷ c ∷ []) l = absurd (omega (arith, l))
blocks_are (suc n) (a ∷ b ∷ c ∷ d ∷ []) l = absurd (omega (arith, l))
blocks_are (suc n) (a ∷ b ∷ c ∷ d ∷ e ∷ []) l = absurd (omega (arith, l))
blocks_are (suc n) (a ∷ b ∷ c ∷ d ∷ e ∷ f ∷ []) l = absurd (omega (arith, l))
blocks_are (suc n) (a ∷ b ∷ c ∷ d ∷ e ∷ f ∷ g ∷ []) l = absurd (omega (arith, l))
blocks_are (suc n) (a ∷ b ∷ c ∷ d ∷ e ∷ f ∷ g ∷ h ∷ []) l = absurd (omega (arith, l))
blocks_are (suc n) (a ∷ b ∷ c ∷ d ∷ e ∷ f ∷ g ∷ h ∷ i ∷ []) l = absurd (omega (arith, l))
blocks_are (suc n) (a ∷ b ∷ c ∷ d ∷ e ∷ f ∷ g ∷ h ∷ i ∷ j ∷ bits) l =
    let r = blocks_are n bits (omega (arith, l)) in
    (omega (arith, r.0), both (nat_lt (byte_of a b c d e f g h) 256) (are_bytes (bytes_of bits)) (byte_small a b c d e f g h) r.1)

sized : (n : ℕ) → 0 < n → n ≤ 16 → (nat_le 1 n && nat_le n 16) ≡ true
sized n some few =
    let least : nat_le 1 n ≡ true = grind (arith, nat_tests) in
    let most : nat_le n 16 ≡ true = grind (arith, nat_tests) in
    both (nat_le 1 n) (nat_le n 16) least most

pub frame_there : (bits : List Bool) → 0 < length bits → length bits % 10 ≡ 0 → length bits ≤ 160 → (frame : List ℕ) × (frame_of (bytes_of bits) ≡ Some frame) × (is_frame frame ≡ true)
frame_there bits some tens few =
    let blocks = blocks_are (length bits / 10) bits (omega (arith, tens)) in
    by (bytes_of bits) (omega (arith, blocks.0, some, tens)) (omega (arith, blocks.0, few)) blocks.1
  where
    by : (xs : List ℕ) → 0 < length xs → length xs ≤ 16 → are_bytes xs ≡ true → (frame : List ℕ) × (frame_of xs ≡ Some frame) × (is_frame frame ≡ true)
    by [] least most h = absurd (omega (arith, least))
    by (x ∷ xs) least most h = (x ∷ xs, refl, both (nat_le 1 (length (x ∷ xs)) && nat_le (length (x ∷ xs)) 16) (are_bytes (x ∷ xs)) (sized (length (x ∷ xs)) least most) h)
