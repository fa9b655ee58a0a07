-- A speaker allocation data block in words (CTA-861-G, section 7.5.3, and bit 20 of CTA-861-H).
use Rattle.std.specs.Prelude.{ℕ, ◌/◌, ◌%◌, List, [], ◌∷◌, codes, Result, Ok, Err}
use Rattle.edid_spelling.specs.Rows.{Row, row, bits_of}

-- left and right, low frequency effects, front, back, of center, wide, top, surround, side, bottom
unfoldable pub speaker_rows : List Row
speaker_rows =
    row (codes "FL/FR") 1 ∷
    row (codes "LFE") 2 ∷
    row (codes "FC") 4 ∷
    row (codes "BL/BR") 8 ∷
    row (codes "BC") 16 ∷
    row (codes "FLc/FRc") 32 ∷
    row (codes "RLC/RRC") 64 ∷
    row (codes "FLw/FRw") 128 ∷
    row (codes "TpFL/TpFR") 256 ∷
    row (codes "TpC") 512 ∷
    row (codes "TpFC") 1024 ∷
    row (codes "LS/RS") 2048 ∷
    row (codes "LFE2") 4096 ∷
    row (codes "TpBC") 8192 ∷
    row (codes "SiL/SiR") 16384 ∷
    row (codes "TpSiL/TpSiR") 32768 ∷
    row (codes "TpBL/TpBR") 65536 ∷
    row (codes "BtFC") 131072 ∷
    row (codes "BtFL/BtFR") 262144 ∷
    row (codes "TpLS/TpRS") 524288 ∷
    row (codes "LSd/RSd") 1048576 ∷ []

-- three bytes, the lowest first
abbrev pub three_bytes : Result ℕ ℕ → Result (List ℕ) ℕ
three_bytes (Ok bits) = Ok (bits % 256 ∷ bits / 256 % 256 ∷ bits / 65536 % 256 ∷ [])
three_bytes (Err number) = Err number

-- The bytes of these words, which stand in the order of their bits, or the number of the word at fault.
abbrev pub speakers_of : List (List ℕ) → Result (List ℕ) ℕ
speakers_of words = three_bytes (bits_of speaker_rows 1 words)
