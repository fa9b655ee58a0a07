-- What the cells of a reading say is its text.
use Rattle.std.proofs.Common.{◌≡◌, ℕ, Bool, true, false, codes, List, [], ◌∷◌, ◌++◌, drop, refl, ap, sym, subst}
use Rattle.std.specs.Fmt.{decimal}
use Rattle.std.specs.List.{concat}
use Rattle.line_frames.specs.declared.Ending.{Ending}
use Rattle.line_frames.specs.declared.Ending.TheVariants.{Complete, Short, Silent, BadStart, Long, Open}
use Rattle.line_frames.specs.declared.Reading.{Reading}
use Rattle.message_text.specs.ReadingText.{ending_text, is_broadcast, is_complete, last_bit, reported_text, verdict_by, verdict_in, verdict_text}
use Rattle.line_frames.specs.Blocks.{frame_in}
use Rattle.record_core.specs.Records.{said}
use Rattle.reading_record.specs.Reading.{ReadingsAreRecords, begun_cells, bytes_in, ending_name, told_cells}

-- a verdict after a space, or none
abbrev Spaced : Bool → List ℕ → Type 0
Spaced true verdict = codes " " ++ drop 1 verdict ≡ verdict
Spaced false verdict = verdict ≡ []

verdict_spaced : (broadcast last : Bool) → Spaced true (verdict_by broadcast last)
verdict_spaced true true = refl
verdict_spaced true false = refl
verdict_spaced false true = refl
verdict_spaced false false = refl

spaced : (complete : Bool) (r : Reading) → Spaced complete (verdict_in complete r)
spaced true r = verdict_spaced (is_broadcast (frame_in r)) (last_bit r.bits.items)
spaced false r = refl

abbrev text_with : ℕ → ℕ → List ℕ → List ℕ → List ℕ → List ℕ
text_with begin at ending told verdict = concat (decimal begin ∷ codes " " ∷ decimal at ∷ ending ∷ told ∷ verdict ∷ [])

same_by : (e : Ending) (begin at : ℕ) (bytes told verdict : List ℕ) → Spaced (is_complete e) verdict
    → said (begun_cells begin at (ending_name e) (told_cells (is_complete e) bytes told verdict)) ≡ text_with begin at (ending_text e) told verdict
same_by Complete begin at bytes told verdict is = ap (text_with begin at (ending_text Complete) told) is
same_by Short begin at bytes told verdict is = ap (text_with begin at (ending_text Short) told) (sym is)
same_by Silent begin at bytes told verdict is = ap (text_with begin at (ending_text Silent) told) (sym is)
same_by BadStart begin at bytes told verdict is = ap (text_with begin at (ending_text BadStart) told) (sym is)
same_by Long begin at bytes told verdict is = ap (text_with begin at (ending_text Long) told) (sym is)
same_by Open begin at bytes told verdict is = ap (text_with begin at (ending_text Open) told) (sym is)

pub same : ReadingsAreRecords
same = λ r. same_by r.ending r.begin r.at (bytes_in r) (reported_text r) (verdict_text r) (spaced (is_complete r.ending) r)
