-- Without the meanings the texts are left.
use Rattle.std.proofs.Common.{◌≡◌, ℕ, ◌+◌, ◌/◌, ◌%◌, ◌==◌, Bool, true, false, nat_lt, if◌then◌else◌, Option, None, Some, Result, Ok, Err, List, [], ◌∷◌, ◌++◌, append_assoc, codes, refl, sym, ap, ◌∙◌, arith}
use Rattle.std.specs.List.{flat_map}
use Rattle.std.proofs.lemmas.Bool.Decides.{nat_tests}
use Rattle.message_text.specs.FrameText.{frame_text}
use Rattle.audit_core.specs.Kept.{IsPlain, PlainIf, is_remark, without_remarks}
use Rattle.audit_core.proofs.KeptLines.{by_line, remark_gone}
use Rattle.audit_core.proofs.OneLine.{plain_frame}
use Rattle.audit_core.proofs.Plain.{plain_codes, plain_more}
use Rattle.message_hex.specs.Lines.{line_frame, read_text, text_by}
use Rattle.message_meaning.specs.FrameLine.{frame_line, remark_text}
use Rattle.message_hex.specs.Remark.{remark}
use Rattle.message_hex.specs.declared.bytes.DisCause.{DisCause}
use Rattle.message_meaning.specs.Meaning.{meaning_line}
use Rattle.message_meaning.specs.Records.{dis_record, meaning_record}
use Rattle.message_meaning.proofs.Stays.{frame_lines, meaning_lines}
use Rattle.record_core.specs.declared.cell.Form.TheVariants.{Text}
use Rattle.dis_laws.specs.Kept.{MeaningsKeepTheTexts}
use Rattle.dis_laws.proofs.Meanings.{meaning_remark}
use Rattle.dis_laws.proofs.Words.{plain_remark}

-- the line of a frame, and below it what it means
abbrev meant_frame : List ℕ → List ℕ
meant_frame frame = frame_line frame ++ meaning_line frame

glyph : (n : ℕ) → ((if nat_lt n 10 then 48 + n else 87 + n) == 32) ≡ false
glyph n = by (nat_lt n 10)
  where
    by : (b : Bool) → ((if b then 48 + n else 87 + n) == 32) ≡ false
    by true = grind (arith, nat_tests)
    by false = grind (arith, nat_tests)

begins : (frame rest : List ℕ) → is_remark (frame_text frame ++ remark_text (remark frame)) ≡ false
begins [] rest = refl
begins (header ∷ []) rest = glyph (header / 16)
begins (header ∷ code ∷ operands) rest = glyph (header / 16)

plain_end : (w : Option (List ℕ)) → PlainIf w → IsPlain (remark_text w)
plain_end None h = tt
plain_end (Some w) h = plain_more (codes " # ") w (plain_codes (codes " # ") refl) h

frame_stays : (frame rest : List ℕ) → without_remarks (frame_line frame ++ rest) ≡ frame_line frame ++ without_remarks rest
frame_stays frame rest =
    by_line (frame_text frame ++ remark_text (remark frame)) rest false (begins frame rest)
    (plain_more (frame_text frame) (remark_text (remark frame)) (plain_frame frame) (plain_end (remark frame) (plain_remark frame)))

meaning_gone : (frame rest : List ℕ) → without_remarks (meaning_line frame ++ rest) ≡ without_remarks rest
meaning_gone [] rest = refl
meaning_gone (header ∷ others) rest = remark_gone (meaning_line (header ∷ others)) rest (meaning_remark header others)

one_kept : (read : Result (Option (List ℕ)) DisCause) (rest : List ℕ) → without_remarks (read_text meant_frame read ++ rest) ≡ read_text frame_line read ++ without_remarks rest
one_kept (Ok None) rest = refl
one_kept (Ok (Some frame)) rest =
    ap without_remarks (append_assoc (frame_line frame) (meaning_line frame) rest) ∙ frame_stays frame (meaning_line frame ++ rest) ∙ ap (λ (t : List ℕ). frame_line frame ++ t) (meaning_gone frame rest)
one_kept (Err cause) rest = refl

texts_kept : (lines : List (List ℕ)) → without_remarks (flat_map (text_by meant_frame) lines) ≡ flat_map (text_by frame_line) lines
texts_kept [] = refl
texts_kept (line ∷ lines) =
    one_kept (line_frame line) (flat_map (text_by meant_frame) lines) ∙ ap (λ (t : List ℕ). text_by frame_line line ++ t) (texts_kept lines)

-- ---- by their records

read_alike : (f h : List ℕ → List ℕ) (same : (frame : List ℕ) → f frame ≡ h frame) (read : Result (Option (List ℕ)) DisCause) → read_text f read ≡ read_text h read
read_alike f h same (Ok None) = refl
read_alike f h same (Ok (Some frame)) = same frame
read_alike f h same (Err cause) = refl

all_alike : (f h : List ℕ → List ℕ) (same : (frame : List ℕ) → f frame ≡ h frame) (lines : List (List ℕ)) → flat_map (text_by f) lines ≡ flat_map (text_by h) lines
all_alike f h same [] = refl
all_alike f h same (line ∷ lines) =
    ap (λ (t : List ℕ). t ++ flat_map (text_by f) lines) (read_alike f h same (line_frame line)) ∙ ap (λ (t : List ℕ). text_by h line ++ t) (all_alike f h same lines)

meant_alike : (frame : List ℕ) → dis_record Text true frame ≡ meant_frame frame
meant_alike frame =
    ap (λ (t : List ℕ). t ++ meaning_record Text frame) (frame_lines frame) ∙ ap (λ (t : List ℕ). frame_line frame ++ t) (meaning_lines frame)

pub meanings_keep_the_texts : MeaningsKeepTheTexts
meanings_keep_the_texts = λ lines.
    ap without_remarks (all_alike (dis_record Text true) meant_frame meant_alike lines) ∙ texts_kept lines ∙ sym (all_alike (dis_record Text false) frame_line frame_lines lines)
