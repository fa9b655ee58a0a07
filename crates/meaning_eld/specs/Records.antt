-- The records of an ELD (own): one of its fields, one of its speakers, and one of each short audio descriptor.
use Rattle.std.specs.Prelude.{ℕ, ◌*◌, Bool, List, [], ◌∷◌, ◌++◌, codes}
use Rattle.edid_eld.specs.Codes.{version_number}
use Rattle.edid_eld.specs.Eld.{Parts}
use Rattle.meaning_cta.specs.Audio.{audio_text}
use Rattle.meaning_eld.specs.Words.{connection_name, maker_word, name_word, speakers_word}
use Rattle.record_core.specs.Cells.{PlainCell, both}
use Rattle.record_core.specs.Records.{record_text}
use Rattle.record_core.specs.Values as values
use Rattle.record_core.specs.declared.cell.Form.{Form}

-- the delay in ms
abbrev pub eld_cells : ℕ → ℕ → List ℕ → Bool → Bool → ℕ → List ℕ → List ℕ → List ℕ → ℕ → List ℕ → List PlainCell
eld_cells version cta connection ai hdcp delay port letters maker product name =
    both (codes "eld version ") (codes "version") (values.number version)
    ∷ both (codes " cta ") (codes "cta") (values.number cta)
    ∷ both (codes " connection ") (codes "connection") (values.text connection)
    ∷ both (codes " ai ") (codes "ai") (values.switch ai)
    ∷ both (codes " hdcp ") (codes "hdcp") (values.switch hdcp)
    ∷ both (codes " delay ") (codes "delay") (values.number delay)
    ∷ both (codes " port ") (codes "port") (values.hex port)
    ∷ both (codes " maker ") (codes "maker") (values.text letters)
    ∷ both (codes " ") (codes "maker_bytes") (values.hex maker)
    ∷ both (codes " product ") (codes "product") (values.number product)
    ∷ both (codes " name ") (codes "name") (values.text name) ∷ []

abbrev pub eld_record : Form → Parts → List ℕ
eld_record form p =
    record_text form (codes "eld")
    (eld_cells (version_number p.version) p.cta_version (connection_name p.connection) p.ai p.hdcp (2 * p.delay) p.port (maker_word p.maker) p.maker p.product (name_word p.name))

-- bytes, and what they mean
abbrev pub meant_cells : List ℕ → List ℕ → List ℕ → List PlainCell
meant_cells kind bytes meaning = both kind (codes "bytes") (values.hex bytes) ∷ both (codes " ") (codes "meaning") (values.text meaning) ∷ []

abbrev pub speakers_record : Form → ℕ → List ℕ
speakers_record form speakers = record_text form (codes "speakers") (meant_cells (codes "speakers ") (speakers ∷ []) (speakers_word speakers))

abbrev pub audio_record : Form → ℕ → ℕ → ℕ → List ℕ
audio_record form first second third =
    record_text form (codes "audio") (meant_cells (codes "audio ") (first ∷ second ∷ third ∷ []) (audio_text first second third))

-- a record for each three bytes
unfoldable pub audio_records : Form → List ℕ → List ℕ
audio_records form (first ∷ second ∷ third ∷ others) = audio_record form first second third ++ audio_records form others
audio_records form [] = []
audio_records form (first ∷ []) = []
audio_records form (first ∷ second ∷ []) = []

-- THE text of an ELD
abbrev pub eld_text : Form → Parts → List ℕ
eld_text form p = eld_record form p ++ (speakers_record form p.speakers ++ audio_records form p.audio)
