-- The slots of a frame by their place: slot 10 * j + p + 1 is place p of block j.
use Rattle.std.proofs.Common.{◌≡◌, ℕ, ◌+◌, ◌-◌, ◌*◌, ◌/◌, ◌%◌, ◌<◌, ◌≤◌, ◌==◌, Bool, true, false, List, [], ◌∷◌, ◌++◌, length, get_or, Some, slice_get, refl, arith, ap, ◌∙◌, sym, suc, zero}
use Rattle.std.specs.Int.{bit_at}
use Rattle.std.proofs.lemmas.Bool.Decides.{nat_tests}
use Rattle.line_frames.specs.Bits.{frame_bits, block_bits, TenSlotsABlock, EndOfMessageSlots, AcknowledgeSlots}

pub length-frame_bits : TenSlotsABlock
length-frame_bits [] = refl
length-frame_bits (b ∷ []) = refl
length-frame_bits (b ∷ c ∷ bs) = omega (arith, length-frame_bits (c ∷ bs))

-- past a block
past : (b : ℕ) (l : Bool) (xs : List Bool) (i : ℕ) → slice_get (block_bits b l ++ xs) (10 + i) ≡ slice_get xs i
past b l xs i =
    let e : 10 + i ≡ suc (suc (suc (suc (suc (suc (suc (suc (suc (suc i))))))))) = omega arith in
    rw e refl

within : (b : ℕ) (l : Bool) (xs : List Bool) (p : ℕ) → p < 10 → slice_get (block_bits b l ++ xs) p ≡ slice_get (block_bits b l) p
within b l xs zero h = refl
within b l xs (suc zero) h = refl
within b l xs (suc (suc zero)) h = refl
within b l xs (suc (suc (suc zero))) h = refl
within b l xs (suc (suc (suc (suc zero)))) h = refl
within b l xs (suc (suc (suc (suc (suc zero))))) h = refl
within b l xs (suc (suc (suc (suc (suc (suc zero)))))) h = refl
within b l xs (suc (suc (suc (suc (suc (suc (suc zero))))))) h = refl
within b l xs (suc (suc (suc (suc (suc (suc (suc (suc zero)))))))) h = refl
within b l xs (suc (suc (suc (suc (suc (suc (suc (suc (suc zero))))))))) h = refl
within b l xs (suc (suc (suc (suc (suc (suc (suc (suc (suc (suc p)))))))))) h = absurd (omega arith)

pub slot_at : (bs : List ℕ) (j p n : ℕ) → n ≡ 10 * j + p → j < length bs → p < 10
    → slice_get (frame_bits bs) n ≡ slice_get (block_bits (get_or bs j 0) (j + 1 == length bs)) p
slot_at [] j p n e h k = absurd (omega arith)
slot_at (b ∷ []) zero p n e h k = let f : n ≡ p = omega arith in ap (slice_get (block_bits b true)) f
slot_at (b ∷ []) (suc j) p n e h k = absurd (omega arith)
slot_at (b ∷ c ∷ bs) zero p n e h k =
    let g : n ≡ p = omega arith in
    let f : (0 + 1 == length (b ∷ c ∷ bs)) ≡ false = grind (arith, nat_tests) in
    rw g (within b false (frame_bits (c ∷ bs)) p k ∙ sym (ap (λ v. slice_get (block_bits b v) p) f))
slot_at (b ∷ c ∷ bs) (suc j) p n e h k =
    let g : n ≡ 10 + (10 * j + p) = omega arith in
    let f : (suc j + 1 == length (b ∷ c ∷ bs)) ≡ (j + 1 == length (c ∷ bs)) = grind (arith, nat_tests) in
    rw g (past b false (frame_bits (c ∷ bs)) (10 * j + p) ∙ slot_at (c ∷ bs) j p (10 * j + p) refl (omega arith) k ∙ sym (ap (λ v. slice_get (block_bits (get_or (c ∷ bs) j 0) v) p) f))

pub place_of_bit : (b : ℕ) (l : Bool) (p : ℕ) → p < 8 → slice_get (block_bits b l) p ≡ Some (bit_at b (7 - p) == 1)
place_of_bit b l zero h = refl
place_of_bit b l (suc zero) h = refl
place_of_bit b l (suc (suc zero)) h = refl
place_of_bit b l (suc (suc (suc zero))) h = refl
place_of_bit b l (suc (suc (suc (suc zero)))) h = refl
place_of_bit b l (suc (suc (suc (suc (suc zero))))) h = refl
place_of_bit b l (suc (suc (suc (suc (suc (suc zero)))))) h = refl
place_of_bit b l (suc (suc (suc (suc (suc (suc (suc zero))))))) h = refl
place_of_bit b l (suc (suc (suc (suc (suc (suc (suc (suc p)))))))) h = absurd (omega arith)

-- slot k is place (k - 1) % 10 of block (k - 1) / 10
pub block_within : (bs : List ℕ) (k : ℕ) → 1 ≤ k → k ≤ length (frame_bits bs) → (k - 1) / 10 < length bs
block_within bs k l h = omega (arith, length-frame_bits bs)

pub slot_of : (bs : List ℕ) (k : ℕ) → 1 ≤ k → k ≤ length (frame_bits bs)
    → slice_get (frame_bits bs) (k - 1) ≡ slice_get (block_bits (get_or bs ((k - 1) / 10) 0) ((k - 1) / 10 + 1 == length bs)) ((k - 1) % 10)
slot_of bs k l h = slot_at bs ((k - 1) / 10) ((k - 1) % 10) (k - 1) (omega arith) (block_within bs k l h) (omega arith)

pub bit_slot : (bs : List ℕ) (k : ℕ) → 1 ≤ k → k ≤ length (frame_bits bs) → (k - 1) % 10 < 8
    → slice_get (frame_bits bs) (k - 1) ≡ Some (bit_at (get_or bs ((k - 1) / 10) 0) (7 - (k - 1) % 10) == 1)
bit_slot bs k l h p = slot_of bs k l h ∙ place_of_bit (get_or bs ((k - 1) / 10) 0) ((k - 1) / 10 + 1 == length bs) ((k - 1) % 10) p

pub eom_slot : EndOfMessageSlots
eom_slot bs k l h p = slot_of bs k l h ∙ ap (slice_get (block_bits (get_or bs ((k - 1) / 10) 0) ((k - 1) / 10 + 1 == length bs))) p

pub ack_slot : AcknowledgeSlots
ack_slot bs k l h p = slot_of bs k l h ∙ ap (slice_get (block_bits (get_or bs ((k - 1) / 10) 0) ((k - 1) / 10 + 1 == length bs))) p
