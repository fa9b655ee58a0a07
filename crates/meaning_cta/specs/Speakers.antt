-- What a speaker allocation data block means (CTA-861-G, section 7.5.3, and bit 20 of CTA-861-H).
use Rattle.std.specs.Prelude.{ℕ, ◌+◌, ◌*◌, List, [], ◌∷◌, ◌++◌, drop, slice_index, codes}
use Rattle.meaning_words.specs.Notes.{Row, row, below, set_words, rest_words}

-- left and right, low frequency effects, front, back, of center, wide, top, surround, side, bottom
abbrev pub speaker_rows : List Row
speaker_rows =
    row 1 (codes "FL FR") ∷
    row 2 (codes "LFE") ∷
    row 4 (codes "FC") ∷
    row 8 (codes "BL BR") ∷
    row 16 (codes "BC") ∷
    row 32 (codes "FLc FRc") ∷
    row 64 (codes "RLC RRC") ∷
    row 128 (codes "FLw FRw") ∷
    row 256 (codes "TpFL TpFR") ∷
    row 512 (codes "TpC") ∷
    row 1024 (codes "TpFC") ∷
    row 2048 (codes "LS RS") ∷
    row 4096 (codes "LFE2") ∷
    row 8192 (codes "TpBC") ∷
    row 16384 (codes "SiL SiR") ∷
    row 32768 (codes "TpSiL TpSiR") ∷
    row 65536 (codes "TpBL TpBR") ∷
    row 131072 (codes "BtFC") ∷
    row 262144 (codes "BtFL BtFR") ∷
    row 524288 (codes "TpLS TpRS") ∷
    row 1048576 (codes "LSd RSd") ∷
    row 2097152 (codes "reserved speaker 21") ∷
    row 4194304 (codes "reserved speaker 22") ∷
    row 8388608 (codes "reserved speaker 23") ∷ []

-- three bytes, the lowest first; a byte that is not there is 0
abbrev pub speaker_bits : List ℕ → ℕ
speaker_bits payload = slice_index payload 0 + slice_index payload 1 * 256 + slice_index payload 2 * 65536

abbrev pub speaker_words : List ℕ → List ℕ
speaker_words payload = set_words speaker_rows (speaker_bits payload) ++ rest_words (drop 3 payload)

unfoldable pub speaker_meanings : List ℕ → List (List ℕ)
speaker_meanings payload = below (speaker_words payload)
