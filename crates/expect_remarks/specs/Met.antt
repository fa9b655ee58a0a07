-- Which remarks of an audit meet a pattern, and how they are shown (own).
use Rattle.std.specs.Prelude.{◌≡◌, ℕ, ◌==◌, ◌&&◌, ◌||◌, Bool, false, codes, length, take, drop, filter, List, [], ◌∷◌, Option, Some, None}
use Rattle.std.specs.List.{flat_map}
use Rattle.text_core.specs.Words.{text_of, words_of}
use Rattle.record_core.specs.Cells.{line_only}
use Rattle.record_core.specs.Records.{record_text, said}
use Rattle.record_core.specs.Values.{string}
use Rattle.record_core.specs.declared.cell.Form.{Form}
use Rattle.audit_notes.specs.Kinds.{name_of}
use Rattle.audit_notes.specs.Notes.{cells_by, kind_of, own_cells}
use Rattle.audit_notes.specs.declared.note.AuditNote.{AuditNote}
use Rattle.expect_text.specs.Fits.{fits}

-- what a remark says, after two spaces
abbrev pub said_of : AuditNote → List ℕ
said_of note = said (cells_by (kind_of note) (own_cells note))

-- what it says is what a pattern is met by, where there is one
abbrev pub is_rest_met : List ℕ → List ℕ → Bool
is_rest_met rest text = (length rest == 0) || fits rest (drop 2 text)

-- a remark is of a kind that the first of these words meets, and says what the others are met by
abbrev pub is_met_so : List (List ℕ) → AuditNote → List ℕ → Bool
is_met_so [] note text = false
is_met_so (kind ∷ words) note text = fits kind (name_of (kind_of note)) && is_rest_met (text_of words) text

abbrev pub is_met_by : List ℕ → AuditNote → List ℕ → Bool
is_met_by pattern note text = is_met_so (words_of pattern) note text

abbrev pub is_met : List ℕ → AuditNote → Bool
is_met pattern note = is_met_by pattern note (said_of note)

-- the remarks that meet a pattern; without one all of them
abbrev pub remarks_met : Option (List ℕ) → List AuditNote → List AuditNote
remarks_met None remarks = remarks
remarks_met (Some pattern) remarks = filter (is_met pattern) remarks

-- below a test a remark stands by what it says alone
abbrev pub shown_remark : Form → AuditNote → List ℕ
shown_remark form note = record_text form (codes "other") (line_only (codes "# ") (string (said_of note)) ∷ [])

-- below a test that failed stand the first eight of these remarks
abbrev pub shown_remarks : Form → List AuditNote → List ℕ
shown_remarks form remarks = flat_map (shown_remark form) (take 8 remarks)

-- where none is shown there is none
abbrev pub WhatIsShownWasMet : Type 0
WhatIsShownWasMet = (form : Form) (remarks : List AuditNote) → (length (shown_remarks form remarks) == 0) ≡ (length remarks == 0)
