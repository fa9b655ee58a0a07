-- The records of room (own): the number of the block and its kind, of an extension of CTA-861 the bytes of its parts, the bytes that are
-- used and left, and what there is room for.
use Rattle.std.specs.Prelude.{ℕ, ◌+◌, ◌/◌, List, [], ◌∷◌, ◌++◌, codes}
use Rattle.edid_base.specs.declared.base.Base.{Base}
use Rattle.edid_cta.specs.declared.cta.Cta.{Cta}
use Rattle.edid_cta.specs.declared.raw.Ext.{Ext}
use Rattle.edid_cta.specs.declared.raw.Ext.TheVariants as exts
use Rattle.edid_room.specs.Room.{base_left, base_used, cta_blocks, cta_left, cta_tail, cta_timings, cta_used, unset_established, unused_descriptors, unused_standards}
use Rattle.record_core.specs.Cells.{PlainCell, both, hidden}
use Rattle.record_core.specs.Records.{record_text}
use Rattle.record_core.specs.Values as values
use Rattle.record_core.specs.declared.cell.Form.{Form}

abbrev pub base_cells : ℕ → ℕ → ℕ → ℕ → ℕ → List PlainCell
base_cells used left descriptors standards established =
    both (codes "block ") (codes "block") (values.number 0) ∷ both (codes " ") (codes "kind") (values.text (codes "base"))
    ∷ hidden (codes "blocks") values.nothing ∷ hidden (codes "timings") values.nothing ∷ hidden (codes "tail") values.nothing
    ∷ both (codes " used ") (codes "used") (values.number used) ∷ both (codes " left ") (codes "left") (values.number left)
    ∷ both (codes " free-descriptors ") (codes "free_descriptors") (values.number descriptors)
    ∷ both (codes " free-standards ") (codes "free_standards") (values.number standards)
    ∷ both (codes " free-established ") (codes "free_established") (values.number established)
    ∷ hidden (codes "free_timings") values.nothing ∷ []

abbrev pub cta_cells : ℕ → ℕ → ℕ → ℕ → ℕ → ℕ → ℕ → List PlainCell
cta_cells number blocks timings tail used left more =
    both (codes "block ") (codes "block") (values.number number) ∷ both (codes " ") (codes "kind") (values.text (codes "cta"))
    ∷ both (codes " blocks ") (codes "blocks") (values.number blocks) ∷ both (codes " timings ") (codes "timings") (values.number timings)
    ∷ both (codes " tail ") (codes "tail") (values.number tail)
    ∷ both (codes " used ") (codes "used") (values.number used) ∷ both (codes " left ") (codes "left") (values.number left)
    ∷ hidden (codes "free_descriptors") values.nothing ∷ hidden (codes "free_standards") values.nothing
    ∷ hidden (codes "free_established") values.nothing ∷ both (codes " free-timings ") (codes "free_timings") (values.number more) ∷ []

-- an extension that takes no data block: all its bytes are used
abbrev pub full_cells : ℕ → List ℕ → List PlainCell
full_cells number kind =
    both (codes "block ") (codes "block") (values.number number) ∷ both (codes " ") (codes "kind") (values.text kind)
    ∷ hidden (codes "blocks") values.nothing ∷ hidden (codes "timings") values.nothing ∷ hidden (codes "tail") values.nothing
    ∷ both (codes " used ") (codes "used") (values.number 128) ∷ both (codes " left ") (codes "left") (values.number 0)
    ∷ hidden (codes "free_descriptors") values.nothing ∷ hidden (codes "free_standards") values.nothing
    ∷ hidden (codes "free_established") values.nothing ∷ hidden (codes "free_timings") values.nothing ∷ []

abbrev pub base_by : Form → ℕ → ℕ → ℕ → List ℕ
base_by form descriptors standards established =
    record_text form (codes "room") (base_cells (base_used descriptors standards) (base_left descriptors standards) descriptors standards established)

abbrev pub base_record : Form → Base → List ℕ
base_record form b = base_by form (unused_descriptors b.descriptors) (unused_standards b.standard) (unset_established b.established)

abbrev pub cta_record : Form → ℕ → Cta → List ℕ
cta_record form number c = record_text form (codes "room") (cta_cells number (cta_blocks c) (cta_timings c) (cta_tail c) (cta_used c) (cta_left c) (cta_left c / 18))

abbrev pub full_record : Form → ℕ → List ℕ → List ℕ
full_record form number kind = record_text form (codes "room") (full_cells number kind)

abbrev pub ext_record : Form → ℕ → Ext → List ℕ
ext_record form number (exts.Cta c) = cta_record form number c
ext_record form number (exts.Bare b) = full_record form number (codes "cta-none")
ext_record form number (exts.Raw r) = full_record form number (codes "ext")

-- extensions, the first of which has this number
abbrev pub exts_records : Form → ℕ → List Ext → List ℕ
exts_records form number [] = []
exts_records form number (x ∷ xs) = ext_record form number x ++ exts_records form (number + 1) xs

abbrev pub room_text : Form → Base → List Ext → List ℕ
room_text form base extensions = base_record form base ++ exts_records form 1 extensions
