-- The lines of endings and of causes begin with two spaces, and have no line feed but at their end.
use Rattle.std.proofs.Common.{◌≡◌, ℕ, ◌%◌, Bool, true, false, ◌++◌, if◌then◌else◌, List, [], ◌∷◌, Option, None, Some, codes, refl, sym, subst}
use Rattle.std.specs.Fmt.{decimal}
use Rattle.record_core.specs.Cells.{PlainCell}
use Rattle.record_core.specs.Records.{line_of, said, shown_text}
use Rattle.record_core.specs.Values.{nibble_or}
use Rattle.record_core.specs.declared.cell.Form.TheVariants.{Text}
use Rattle.audit_judged.specs.declared.endings.Cause.{Cause}
use Rattle.audit_judged.specs.declared.endings.Cause.TheVariants as causes
use Rattle.audit_judged.specs.declared.endings.EndingRemark.{EndingRemark}
use Rattle.audit_judged.specs.declared.endings.EndingRemark.TheVariants as endings
use Rattle.audit_judged.specs.declared.widths.Party.{Party}
use Rattle.audit_judged.specs.declared.widths.Party.TheVariants.{Initiator, Follower, Either, Unknown}
use Rattle.audit_widths.specs.Misfits.{fits, window}
use Rattle.piece_notes.specs.Notes.{bad_drive_cells, good_drive_cells, own_cells, place_cells, who_cells}
use Rattle.audit_notes.specs.Notes.{cells_by, goes_on_cells, note_text, own_cells as note_cells}
use Rattle.audit_notes.specs.declared.kind.NoteKind.TheVariants as kinds
use Rattle.audit_notes.specs.declared.note.AuditNote.TheVariants as notes
use Rattle.audit_core.specs.Kept.{IsPlain, IsRemark}
use Rattle.audit_core.proofs.Plain.{plain_codes, plain_decimal, plain_more, plain_nibble}

-- ---- cells without a line feed

abbrev IsPlainCell : PlainCell → Type 0
IsPlainCell c = IsPlain c.lead × IsPlain (shown_text c.shown c.value.word)

abbrev ArePlain : List PlainCell → Type 0
ArePlain [] = Unit {0}
ArePlain (c ∷ cells) = IsPlainCell c × ArePlain cells

plain_said : (cells : List PlainCell) → ArePlain cells → IsPlain (said cells)
plain_said [] h = tt
plain_said (c ∷ cells) h = plain_more _ (said cells) (plain_more c.lead _ h.0.0 h.0.1) (plain_said cells h.1)

plain_both : (xs ys : List PlainCell) → ArePlain xs → ArePlain ys → ArePlain (xs ++ ys)
plain_both [] ys h k = k
plain_both (x ∷ xs) ys h k = (h.0, plain_both xs ys h.1 k)

-- a line of them that begins with two spaces
remark_of : (cells : List PlainCell) (rest : List ℕ) → said cells ≡ 32 ∷ 32 ∷ rest → ArePlain cells → IsRemark (line_of cells)
remark_of cells rest e h =
    let k : IsPlain (32 ∷ 32 ∷ rest) = subst IsPlain e (plain_said cells h) in
    subst (λ (text : List ℕ). IsRemark (text ++ 10 ∷ [])) (sym e) (refl, refl, record { rest = rest; same = refl; plain = k.1.1 })

-- ---- who is at fault

plain_or : (o : Option ℕ) → IsPlain (nibble_or o).word
plain_or None = plain_codes (codes "-") refl
plain_or (Some n) = plain_nibble (n % 16)

plain_who : (who : Party) → ArePlain (who_cells who)
plain_who (Initiator i) = ((tt, tt), ((plain_codes (codes " by initiator ") refl, plain_or i), ((tt, tt), tt)))
plain_who (Follower None) = ((tt, tt), ((tt, tt), ((plain_codes (codes " by a follower") refl, tt), tt)))
plain_who (Follower (Some f)) = ((tt, tt), ((tt, tt), ((plain_codes (codes " by follower ") refl, plain_or (Some f)), tt)))
plain_who (Either i None) = ((tt, tt), ((plain_codes (codes " by initiator ") refl, plain_or i), ((plain_codes (codes " or a follower") refl, tt), tt)))
plain_who (Either i (Some f)) = ((tt, tt), ((plain_codes (codes " by initiator ") refl, plain_or i), ((plain_codes (codes " or follower ") refl, plain_or (Some f)), tt)))
plain_who Unknown = ((tt, tt), ((tt, tt), ((tt, tt), tt)))

-- ---- endings

-- with what the object has first
with_who : (own : List PlainCell) (r : EndingRemark) (who : Party) → ArePlain own → ArePlain (cells_by (kinds.Ending r) (own ++ who_cells who))
with_who own r who h = ((tt, tt), ((tt, tt), plain_both own (who_cells who) h (plain_who who)))

abbrev ending_cells : EndingRemark → Party → List PlainCell
ending_cells r who = cells_by (kinds.Ending r) (own_cells r ++ who_cells who)

-- a low drive, in its window or out of it
placed : (slots gap : ℕ) → ArePlain (place_cells (codes " after slot ") slots gap)
placed slots gap = ((plain_codes (codes " after slot ") refl, plain_decimal slots), ((plain_codes (codes ", ") refl, plain_decimal gap), ((plain_codes (codes " from its fall") refl, tt), tt)))

abbrev drive_line : ℕ → ℕ → ℕ → List PlainCell → Party → List PlainCell
drive_line slots gap width own who = cells_by (kinds.Ending (endings.LowDrive slots gap width)) (own ++ who_cells who)

drive_remark : (slots gap width : ℕ) (who : Party) (b : Bool) → IsRemark (line_of (drive_line slots gap width (if b then good_drive_cells slots gap width else bad_drive_cells slots gap width) who))
drive_remark slots gap width who true =
    remark_of (drive_line slots gap width (good_drive_cells slots gap width) who) _ refl
    (with_who (good_drive_cells slots gap width) (endings.LowDrive slots gap width) who ((plain_codes (codes "  low drive ") refl, plain_decimal width), ((tt, tt), ((tt, tt), placed slots gap))))
drive_remark slots gap width who false =
    remark_of (drive_line slots gap width (bad_drive_cells slots gap width) who) _ refl
    (with_who (bad_drive_cells slots gap width) (endings.LowDrive slots gap width) who ((plain_codes (codes "  low drive ") refl, plain_decimal width), ((plain_codes (codes " not ") refl, plain_decimal 3360), ((plain_codes (codes "..") refl, plain_decimal 3840), placed slots gap))))

pub ending_remark : (r : EndingRemark) (who : Party) → IsRemark (note_text Text (notes.Ending r who))
ending_remark (endings.Stray bits) who =
    remark_of (ending_cells (endings.Stray bits) who) _ refl (with_who (own_cells (endings.Stray bits)) (endings.Stray bits) who ((plain_codes (codes "  bits without a start bit: ") refl, plain_decimal bits), tt))
ending_remark (endings.LoneStart width) who =
    remark_of (ending_cells (endings.LoneStart width) who) _ refl (with_who (own_cells (endings.LoneStart width)) (endings.LoneStart width) who ((plain_codes (codes "  low for ") refl, plain_decimal width), ((plain_codes (codes " and nothing after it") refl, tt), tt)))
ending_remark (endings.Stuck width) who =
    remark_of (ending_cells (endings.Stuck width) who) _ refl (with_who (own_cells (endings.Stuck width)) (endings.Stuck width) who ((plain_codes (codes "  low for ") refl, plain_decimal width), ((plain_codes (codes ", at most ") refl, plain_decimal 5540), tt)))
ending_remark (endings.LowDrive slots gap width) who = drive_remark slots gap width who (fits (window 3360 3840) width)
ending_remark (endings.Overrun slots) who =
    remark_of (ending_cells (endings.Overrun slots) who) _ refl (with_who (own_cells (endings.Overrun slots)) (endings.Overrun slots) who ((plain_codes (codes "  another start bit after slot ") refl, plain_decimal slots), tt))
ending_remark (endings.Intruder slots gap) who =
    remark_of (ending_cells (endings.Intruder slots gap) who) _ refl (with_who (own_cells (endings.Intruder slots gap)) (endings.Intruder slots gap) who ((plain_codes (codes "  another fall after slot ") refl, plain_decimal slots), ((plain_codes (codes ", ") refl, plain_decimal gap), ((plain_codes (codes " from its fall") refl, tt), tt))))
ending_remark endings.TooLong who =
    remark_of (ending_cells endings.TooLong who) _ refl (with_who (own_cells endings.TooLong) endings.TooLong who ((plain_codes (codes "  goes on after block ") refl, plain_decimal 16), tt))
ending_remark (endings.Unfinished block) who =
    remark_of (ending_cells (endings.Unfinished block) who) _ refl (with_who (own_cells (endings.Unfinished block)) (endings.Unfinished block) who ((plain_codes (codes "  ends after block ") refl, plain_decimal block), ((plain_codes (codes " without EOM") refl, tt), tt)))
ending_remark (endings.Stops slots) who =
    remark_of (ending_cells (endings.Stops slots) who) _ refl (with_who (own_cells (endings.Stops slots)) (endings.Stops slots) who ((plain_codes (codes "  stops after slot ") refl, plain_decimal slots), tt))
ending_remark (endings.AfterEnd bits) who =
    remark_of (ending_cells (endings.AfterEnd bits) who) _ refl (with_who (own_cells (endings.AfterEnd bits)) (endings.AfterEnd bits) who ((plain_codes (codes "  bits after EOM: ") refl, plain_decimal bits), tt))

pub goes_on_remark : (block : ℕ) (who : Party) → IsRemark (note_text Text (notes.GoesOn block who))
goes_on_remark block who =
    remark_of (cells_by kinds.GoesOn (goes_on_cells block who)) _ refl
    ((tt, tt), ((tt, tt), ((plain_codes (codes "  goes on after block ") refl, plain_decimal block), ((plain_codes (codes ", which was not taken,") refl, tt), plain_who who))))

-- ---- causes

abbrev cells_of : Cause → List PlainCell
cells_of c = cells_by (kinds.Cause c) (note_cells (notes.Cause c))

pub cause_remark : (c : Cause) → IsRemark (note_text Text (notes.Cause c))
cause_remark causes.ArbitrationLost = remark_of (cells_of causes.ArbitrationLost) _ refl ((tt, tt), ((tt, tt), ((plain_codes (codes "  arbitration lost") refl, tt), tt)))
cause_remark causes.PollUnanswered = remark_of (cells_of causes.PollUnanswered) _ refl ((tt, tt), ((tt, tt), ((plain_codes (codes "  poll unanswered") refl, tt), tt)))
cause_remark causes.NotAcknowledged = remark_of (cells_of causes.NotAcknowledged) _ refl ((tt, tt), ((tt, tt), ((plain_codes (codes "  not acknowledged") refl, tt), tt)))
cause_remark causes.Refused = remark_of (cells_of causes.Refused) _ refl ((tt, tt), ((tt, tt), ((plain_codes (codes "  refused") refl, tt), tt)))
cause_remark causes.CutByTheEnd = remark_of (cells_of causes.CutByTheEnd) _ refl ((tt, tt), ((tt, tt), ((plain_codes (codes "  cut by the end") refl, tt), tt)))
cause_remark causes.MidFrame = remark_of (cells_of causes.MidFrame) _ refl ((tt, tt), ((tt, tt), ((plain_codes (codes "  begins in mid frame") refl, tt), tt)))
