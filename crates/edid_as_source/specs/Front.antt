-- The base block as a source takes it: what Linux does not ask of it is mended (own form).
use Rattle.std.specs.Prelude.{ℕ, ◌+◌, ◌*◌, ◌/◌, ◌%◌, ◌==◌, ◌&&◌, nat_le, if◌then◌else◌, List, [], ◌∷◌, ◌++◌, take, drop, slice_index}
use Rattle.edid_base.specs.Check.{block_with_checksum}
use Rattle.edid_base.specs.Header.{header}

-- at how many places bytes are those of a header
abbrev pub right_places : List ℕ → List ℕ → ℕ
right_places bytes [] = 0
right_places [] (h ∷ hs) = 0
right_places (b ∷ bs) (h ∷ hs) = if b == h then right_places bs hs + 1 else right_places bs hs

-- version 1 of any revision is read; one above 4 is read as 4, one below 3 as 3
abbrev pub mended_revision : ℕ → ℕ
mended_revision r = if nat_le r 3 then 3 else 4

-- X for five bits that are no letter
abbrev pub mended_letter : ℕ → ℕ
mended_letter n = if nat_le 1 n && nat_le n 26 then n else 24

abbrev pub mended_maker : ℕ → ℕ → List ℕ
mended_maker high low =
    let first = mended_letter (high / 4 % 32) in
    let second = mended_letter (high % 4 * 8 + low / 32) in
    let third = mended_letter (low % 32) in
    (first * 4 + second / 8) ∷ (second % 8 * 32 + third) ∷ []

-- the 128 bytes of a base block with its header, maker, revision and checksum mended, and with another count of extensions
abbrev pub mended_block : List ℕ → ℕ → List ℕ
mended_block b count =
    block_with_checksum (header ++ (mended_maker (slice_index b 8) (slice_index b 9) ++ (take 8 (drop 10 b)
    ++ (1 ∷ mended_revision (slice_index b 19) ∷ (take 106 (drop 20 b) ++ (count ∷ []))))))
