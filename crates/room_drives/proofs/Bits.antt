-- The bits of a frame, one by one, and how many low stretches they take.
use Rattle.std.proofs.Common.{◌≡◌, ℕ, zero, suc, ◌+◌, ◌-◌, ◌≤◌, Bool, List, [], ◌∷◌, ◌++◌, length, take, slice_get, Some, refl, ap, arith}
use Rattle.std.specs.List.{flat_map, range_with_len}
use Rattle.line_wave.specs.Sender.{sender_stretches, slot_stretches}
use Rattle.line_frames.specs.Bits.{frame_bits}
use Rattle.line_frames.proofs.Slots.{length-frame_bits}
use Rattle.line_wave.specs.Bounds.{most_sent, most_slots}

pub frame_room : (f : List ℕ) → length f ≤ 16 → length (frame_bits f) ≤ most_slots
frame_room f few = omega (arith, length-frame_bits f)

-- one bit more
pub bit_more : (bits : List Bool) (i : ℕ) (b : Bool) → slice_get bits i ≡ Some b → take (suc i) bits ≡ take i bits ++ b ∷ []
bit_more [] i b h = cc
bit_more (x ∷ bits) zero b h = let same : x ≡ b = cc in rw same refl
bit_more (x ∷ bits) (suc i) b h = ap (λ l. x ∷ l) (bit_more bits i b h)

pub bit_next : (bits : List Bool) (i : ℕ) (b : Bool) → slice_get bits i ≡ Some b → take (i + 1) bits ≡ take i bits ++ b ∷ []
bit_next bits i b h = let e : i + 1 ≡ suc i = omega arith in rw e (bit_more bits i b h)

pub all_bits : (bits : List Bool) (n : ℕ) → length bits ≤ n → take n bits ≡ bits
all_bits [] zero h = refl
all_bits [] (suc n) h = refl
all_bits (x ∷ bits) zero h = absurd (omega arith)
all_bits (x ∷ bits) (suc n) h = ap (λ l. x ∷ l) (all_bits bits n (omega arith))

length-slots : (fall : ℕ) (bits : List Bool) → length (slot_stretches fall bits) ≡ length bits
length-slots fall [] = refl
length-slots fall (b ∷ bits) = ap suc (length-slots (fall + 2400) bits)

pub sent_room : (begin : ℕ) (bits : List Bool) → length bits ≤ most_slots → length (sender_stretches begin bits) ≤ most_sent
sent_room begin bits few = omega (arith, length-slots (begin + 4500) bits)

-- the first of so many numbers
pub first_number : {X : Type 0} (f : ℕ → List X) (a n : ℕ) → 1 ≤ n → flat_map f (range_with_len a n) ≡ f a ++ flat_map f (range_with_len (a + 1) (n - 1))
first_number f a zero some = absurd (omega arith)
first_number f a (suc n) some = let less : suc n - 1 ≡ n = omega arith in rw less refl
