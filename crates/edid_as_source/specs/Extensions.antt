-- The extensions that a source takes.
use Rattle.std.specs.Prelude.{ℕ, zero, suc, ◌%◌, ◌==◌, ◌||◌, Bool, if◌then◌else◌, List, [], ◌∷◌, ◌++◌, take, drop, slice_index, sum}
use Rattle.edid_base.specs.Check.{block_with_checksum}
use Rattle.edid_as_source.specs.Count.{begins_with_override}

-- the checksum is right, or the extension is one of CTA-861
abbrev pub is_taken : List ℕ → Bool
is_taken block = (sum block % 256 == 0) || (slice_index block 0 == 2)

-- with its right checksum
abbrev pub mended_extension : List ℕ → List ℕ
mended_extension block = block_with_checksum (take 127 block)

-- of so many blocks those that are taken, as many as there is room for
abbrev pub blocks_taken : ℕ → ℕ → List ℕ → List ℕ
blocks_taken room zero rest = []
blocks_taken zero (suc count) rest = []
blocks_taken (suc room) (suc count) rest =
    if is_taken (take 128 rest) then mended_extension (take 128 rest) ++ blocks_taken room count (drop 128 rest)
    else blocks_taken (suc room) count (drop 128 rest)

-- an extension that begins with an override, which counts so many, with its right checksum
abbrev pub with_override : ℕ → List ℕ → List ℕ
with_override count block = block_with_checksum (take 6 block ++ (count ∷ take 120 (drop 7 block)))

-- extensions of which an override counts so many, where they begin with one
abbrev pub overridden : ℕ → List ℕ → List ℕ
overridden count blocks = if begins_with_override blocks then with_override count blocks ++ drop 128 blocks else blocks
