-- THE text of a piece: its line, and below it what is said of it (own).
use Rattle.std.specs.Prelude.{ℕ, List, [], ◌∷◌, ◌++◌, Option, Some, None, codes}
use Rattle.std.specs.List.{flat_map}
use Rattle.record_core.specs.declared.cell.Form.{Form}
use Rattle.record_core.specs.Records.{record_text}
use Rattle.reading_record.specs.Reading.{reading_cells}
use Rattle.capture_monitor.specs.Watch.{reading_as}
use Rattle.audit_pieces.specs.declared.piece.Slot.{Slot}
use Rattle.audit_pieces.specs.Pieces.{Whole}
use Rattle.audit_judged.specs.declared.endings.Said.{Said}
use Rattle.audit_judged.specs.declared.endings.Said.TheVariants.{Nothing, Allowed, Remarked}
use Rattle.audit_judged.specs.declared.widths.Party.TheVariants.{Initiator}
use Rattle.audit_judged.specs.declared.widths.WidthKind.{WidthKind}
use Rattle.audit_judged.specs.declared.widths.WidthRemark.{WidthRemark}
use Rattle.audit_judged.specs.Endings.{ending_party, goes_on_after, said_of}
use Rattle.audit_judged.specs.Header.{initiator_of}
use Rattle.audit_judged.specs.Widths.{remark_for, width_remarks}
use Rattle.piece_notes.specs.Notes.{cause_text, ending_text, goes_on_text, width_text}
use Rattle.piece_audit.specs.Readings.{listed_of}

-- the line of its reading, or the object
abbrev pub line_text : Form → Whole → List ℕ
line_text form p = record_text form (codes "reading") (reading_cells (reading_as (listed_of p)))

-- ---- what is said of it

abbrev pub width_part : Form → Option WidthRemark → List ℕ
width_part form None = []
width_part form (Some r) = width_text form r

abbrev pub widths_text : Form → ℕ → Whole → List ℕ
widths_text form grid p = flat_map (width_text form) (width_remarks grid p)

abbrev pub said_part : Form → List Slot → Said → List ℕ
said_part form slots Nothing = []
said_part form slots (Allowed cause) = cause_text form cause
said_part form slots (Remarked r) = ending_text form r (ending_party slots r)

abbrev pub said_text : Form → Whole → List ℕ
said_text form p = said_part form p.parts.slots (said_of p)

abbrev pub goes_on_part : Form → List Slot → Option ℕ → List ℕ
goes_on_part form slots None = []
goes_on_part form slots (Some block) = goes_on_text form block (Initiator (initiator_of slots))

abbrev pub untaken_text : Form → Whole → List ℕ
untaken_text form p = goes_on_part form p.parts.slots (goes_on_after p)

-- ---- all of it

abbrev pub piece_text : Form → ℕ → Whole → List ℕ
piece_text form grid p = line_text form p ++ (widths_text form grid p ++ (said_text form p ++ untaken_text form p))

abbrev pub pieces_text : Form → ℕ → List Whole → List ℕ
pieces_text form grid ps = flat_map (piece_text form grid) ps
