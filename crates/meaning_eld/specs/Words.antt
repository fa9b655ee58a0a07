-- Words of an ELD (own), and those that an EDID's meaning has for the same.
use Rattle.std.specs.Prelude.{ℕ, ◌+◌, ◌*◌, ◌/◌, ◌%◌, List, [], ◌∷◌, codes, slice_index, map, if◌then◌else◌}
use Rattle.edid_base.specs.Letters.{has_letters}
use Rattle.edid_eld.specs.declared.codes.Connection.{Connection}
use Rattle.edid_eld.specs.declared.codes.Connection.TheVariants.{Hdmi, DisplayPort, Reserved2, Reserved3}
use Rattle.meaning_cta.specs.Speakers.{speaker_words}
use Rattle.meaning_words.specs.Notes.{printable}

abbrev pub connection_name : Connection → List ℕ
connection_name Hdmi = codes "hdmi"
connection_name DisplayPort = codes "displayport"
connection_name Reserved2 = codes "reserved-2"
connection_name Reserved3 = codes "reserved-3"

-- a maker's three letters, of five bits each (E-EDID Release A, 3.4.1), and a dash for what are none
abbrev pub letters_of : ℕ → List ℕ
letters_of n = (n / 1024 + 64) ∷ (n / 32 % 32 + 64) ∷ (n % 32 + 64) ∷ []

abbrev pub maker_letters : ℕ → ℕ → List ℕ
maker_letters high low = if has_letters high low then letters_of (high * 256 + low) else codes "-"

abbrev pub maker_word : List ℕ → List ℕ
maker_word m = maker_letters (slice_index m 0) (slice_index m 1)

-- the name, a dot for each byte that is no character of ASCII, and a dash for none
abbrev pub name_word : List ℕ → List ℕ
name_word [] = codes "-"
name_word (c ∷ cs) = map printable (c ∷ cs)

-- words, each with a comma and a space before it, without the first comma, and a dash for none
abbrev pub words_or_dash : List ℕ → List ℕ
words_or_dash [] = codes "-"
words_or_dash (c ∷ []) = codes "-"
words_or_dash (c ∷ d ∷ text) = text

abbrev pub speakers_word : ℕ → List ℕ
speakers_word speakers = words_or_dash (speaker_words (speakers ∷ []))
