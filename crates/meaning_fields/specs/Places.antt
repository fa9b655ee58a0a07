-- Video codes by their places among those of the video data blocks of an EDID, in their order (CTA-861-G, sections 7.5.1 and 7.5.11;
-- HDMI 1.4, section 8.3.2).
use Rattle.std.specs.Prelude.{ℕ, ◌+◌, List, [], ◌++◌, slice_get, Option, Some, None, codes}
use Rattle.meaning_words.specs.Notes.{text_between}
use Rattle.meaning_words.specs.Videos.{code_text}

-- a code, and its format
abbrev pub coded_text : ℕ → List ℕ
coded_text code = text_between [] code (codes ": ") ++ code_text code

-- a place counts from 0 on, and is told from 1 on
abbrev pub found_text : ℕ → Option ℕ → List ℕ
found_text place (Some code) = coded_text code
found_text place None = text_between (codes "place ") (place + 1) (codes ": no code")

abbrev pub place_text : List ℕ → ℕ → List ℕ
place_text svds place = found_text place (slice_get svds place)
