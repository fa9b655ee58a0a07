-- The bytes of a frame's bits are that frame.
use Rattle.std.proofs.Common.{◌≡◌, ℕ, zero, suc, ◌*◌, ◌/◌, ◌%◌, ◌==◌, ◌<◌, Bool, true, false, List, [], ◌∷◌, ◌++◌, length, get_or, refl, arith, ap, ◌∙◌, subst}
use Rattle.std.specs.Int.{bit_at}
use Rattle.std.proofs.lemmas.Bool.Decides.{nat_tests}
use Rattle.line_frames.specs.Bits.{frame_bits, block_bits}
use Rattle.line_frames.specs.Blocks.{bit_value, byte_of, bytes_of, AreBytes, OwnBitsAreRead, FramesAreRead}

-- ---- one byte

weighs : (w x : ℕ) → x < 2 → bit_value w (x == 1) ≡ w * x
weighs w zero h = omega arith
weighs w (suc zero) h = omega arith
weighs w (suc (suc x)) h = absurd (omega arith)

byte_again : (b : ℕ) → b < 256
    → byte_of (bit_at b 7 == 1) (bit_at b 6 == 1) (bit_at b 5 == 1) (bit_at b 4 == 1) (bit_at b 3 == 1) (bit_at b 2 == 1) (bit_at b 1 == 1) (bit_at b 0 == 1) ≡ b
byte_again b h =
    let a7 = weighs 128 (b / 128 % 2) (omega arith) in
    let a6 = weighs 64 (b / 64 % 2) (omega arith) in
    let a5 = weighs 32 (b / 32 % 2) (omega arith) in
    let a4 = weighs 16 (b / 16 % 2) (omega arith) in
    let a3 = weighs 8 (b / 8 % 2) (omega arith) in
    let a2 = weighs 4 (b / 4 % 2) (omega arith) in
    let a1 = weighs 2 (b / 2 % 2) (omega arith) in
    let a0 = weighs 1 (b / 1 % 2) (omega arith) in
    omega arith

-- ---- block by block

is_nil : List ℕ → Bool
is_nil [] = true
is_nil (b ∷ bs) = false

frame_more : (b : ℕ) (bs : List ℕ) → frame_bits (b ∷ bs) ≡ block_bits b (is_nil bs) ++ frame_bits bs
unfolding is_nil
frame_more b [] = refl
frame_more b (c ∷ bs) = refl

-- as many bits, and the same but for each tenth
Same : List Bool → List Bool → Type 0
Same bits sent = (k : ℕ) → k < length bits → (k % 10 == 9) ≡ false → get_or bits k false ≡ get_or sent k false

block_again : (b : ℕ) (is_last : Bool) (f : List ℕ) (sent bits : List Bool) → b < 256 → length bits ≡ length (block_bits b is_last ++ sent) → Same bits (block_bits b is_last ++ sent)
    → ((more : List Bool) → length more ≡ length sent → Same more sent → bytes_of more ≡ f) → bytes_of bits ≡ b ∷ f
unfolding Same
block_again b is_last f sent (a7 ∷ a6 ∷ a5 ∷ a4 ∷ a3 ∷ a2 ∷ a1 ∷ a0 ∷ last ∷ ack ∷ bits) small long same rest =
    let e7 : a7 ≡ (bit_at b 7 == 1) = same 0 (omega arith) refl in
    let e6 : a6 ≡ (bit_at b 6 == 1) = same 1 (omega arith) refl in
    let e5 : a5 ≡ (bit_at b 5 == 1) = same 2 (omega arith) refl in
    let e4 : a4 ≡ (bit_at b 4 == 1) = same 3 (omega arith) refl in
    let e3 : a3 ≡ (bit_at b 3 == 1) = same 4 (omega arith) refl in
    let e2 : a2 ≡ (bit_at b 2 == 1) = same 5 (omega arith) refl in
    let e1 : a1 ≡ (bit_at b 1 == 1) = same 6 (omega arith) refl in
    let e0 : a0 ≡ (bit_at b 0 == 1) = same 7 (omega arith) refl in
    let byte : byte_of a7 a6 a5 a4 a3 a2 a1 a0 ≡ b =
    ap (λ x. byte_of x a6 a5 a4 a3 a2 a1 a0) e7 ∙ ap (λ x. byte_of (bit_at b 7 == 1) x a5 a4 a3 a2 a1 a0) e6
    ∙ ap (λ x. byte_of (bit_at b 7 == 1) (bit_at b 6 == 1) x a4 a3 a2 a1 a0) e5
    ∙ ap (λ x. byte_of (bit_at b 7 == 1) (bit_at b 6 == 1) (bit_at b 5 == 1) x a3 a2 a1 a0) e4
    ∙ ap (λ x. byte_of (bit_at b 7 == 1) (bit_at b 6 == 1) (bit_at b 5 == 1) (bit_at b 4 == 1) x a2 a1 a0) e3
    ∙ ap (λ x. byte_of (bit_at b 7 == 1) (bit_at b 6 == 1) (bit_at b 5 == 1) (bit_at b 4 == 1) (bit_at b 3 == 1) x a1 a0) e2
    ∙ ap (λ x. byte_of (bit_at b 7 == 1) (bit_at b 6 == 1) (bit_at b 5 == 1) (bit_at b 4 == 1) (bit_at b 3 == 1) (bit_at b 2 == 1) x a0) e1
    ∙ ap (λ x. byte_of (bit_at b 7 == 1) (bit_at b 6 == 1) (bit_at b 5 == 1) (bit_at b 4 == 1) (bit_at b 3 == 1) (bit_at b 2 == 1) (bit_at b 1 == 1) x) e0
    ∙ byte_again b small in
    ap (λ x. x ∷ bytes_of bits) byte
    ∙ ap (λ (bs : List ℕ). b ∷ bs) (rest bits (omega (arith, long)) (λ k d n. same (suc (suc (suc (suc (suc (suc (suc (suc (suc (suc k)))))))))) (omega (arith, d)) (let x : (suc (suc (suc (suc (suc (suc (suc (suc (suc (suc k))))))))) % 10 == 9) ≡ false = grind (arith, nat_tests) in x)))
block_again b is_last f sent bits small long same rest = absurd (omega (arith, long))

bytes_again : (f : List ℕ) (bits : List Bool) → AreBytes f → length bits ≡ length (frame_bits f) → Same bits (frame_bits f) → bytes_of bits ≡ f
bytes_again [] [] small long same = refl
bytes_again [] (bit ∷ bits) small long same = absurd (omega (arith, long))
bytes_again (b ∷ f) bits small long same =
    block_again b (is_nil f) f (frame_bits f) bits (small 0 0 (omega arith)) (long ∙ ap (λ (bs : List Bool). length bs) (frame_more b f)) (subst (Same bits) (frame_more b f) same)
    (λ more l s. bytes_again f more (λ k d m. small (suc k) d (omega (arith, m))) l s)

pub frames_are_read : FramesAreRead
unfolding Same
frames_are_read f bits small read = bytes_again f bits small read.long read.same

pub own_bits_are_read : OwnBitsAreRead
unfolding Same
own_bits_are_read f small = bytes_again f (frame_bits f) small refl (λ k d n. refl)
