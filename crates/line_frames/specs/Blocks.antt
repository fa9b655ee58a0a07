-- The frame of a complete reading: the first eight bits of each block of ten slots, the header block's and the data
-- blocks' (CEC 6).
use Rattle.std.specs.Prelude.{◌≡◌, ℕ, ◌+◌, ◌%◌, ◌==◌, ◌<◌, Bool, false, if◌then◌else◌, List, [], ◌∷◌, length, slice_index_or, Option, Some, None, All}
use Rattle.line_frames.specs.declared.Ending.{Ending}
use Rattle.line_frames.specs.declared.Ending.TheVariants.{Complete}
use Rattle.line_frames.specs.declared.Reading.{Reading}
use Rattle.line_frames.specs.Bits.{frame_bits}

-- a bit at a place of this weight
abbrev pub bit_value : ℕ → Bool → ℕ
bit_value weight bit = if bit then weight else 0

-- a byte's bits, the most significant first (CEC 6.1)
abbrev pub byte_of : Bool → Bool → Bool → Bool → Bool → Bool → Bool → Bool → ℕ
byte_of a b c d e f g h =
    bit_value 128 a + bit_value 64 b + bit_value 32 c + bit_value 16 d + (bit_value 8 e + bit_value 4 f + bit_value 2 g + bit_value 1 h)

-- the bytes of the blocks that were read
abbrev pub bytes_of : List Bool → List ℕ
bytes_of (a ∷ b ∷ c ∷ d ∷ e ∷ f ∷ g ∷ h ∷ last ∷ ack ∷ bits) = byte_of a b c d e f g h ∷ bytes_of bits
bytes_of _ = []

abbrev pub frame_of : List ℕ → Option (List ℕ)
frame_of [] = None
frame_of (header ∷ bytes) = Some (header ∷ bytes)

abbrev pub frame_by : Ending → List Bool → Option (List ℕ)
frame_by Complete bits = frame_of (bytes_of bits)
frame_by _ bits = None

-- the frame of a reading that ended with all its blocks
abbrev pub frame_in : Reading → Option (List ℕ)
frame_in reading = frame_by reading.ending reading.bits.items

-- ---- a frame that is read as it was sent

-- bytes of eight bits
abbrev pub AreBytes : List ℕ → Type 0
AreBytes f = All (λ b. b < 256) f

-- These bits are as many as a frame has, and those that it sends, but for the acknowledge slots, the last of each ten
-- (CEC 6.1.2). Slots are counted from 0.
pub record IsReadAs (bits : List Bool) (f : List ℕ) : Type 0 where
  pub long : length bits ≡ length (frame_bits f)
  pub same : (k : ℕ) → k < length bits → (k % 10 == 9) ≡ false → slice_index_or bits k false ≡ slice_index_or (frame_bits f) k false

-- The bytes of a frame's bits are that frame.
abbrev pub OwnBitsAreRead : Type 0
OwnBitsAreRead = (f : List ℕ) → AreBytes f → bytes_of (frame_bits f) ≡ f

-- So they are whatever its acknowledge slots were read as.
abbrev pub FramesAreRead : Type 0
FramesAreRead = (f : List ℕ) (bits : List Bool) → AreBytes f → IsReadAs bits f → bytes_of bits ≡ f
