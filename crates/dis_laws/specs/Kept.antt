-- The meanings of frames stand below their texts, and change none (own).
use Rattle.std.specs.Prelude.{◌≡◌, ℕ, true, false, List}
use Rattle.std.specs.List.{flat_map}
use Rattle.audit_core.specs.Kept.{without_remarks}
use Rattle.message_meaning.specs.Records.{dis_text}
use Rattle.record_core.specs.declared.cell.Form.TheVariants.{Text}

-- The lines that do not begin with a space are those that are written without meanings.
abbrev pub MeaningsKeepTheTexts : Type 0
MeaningsKeepTheTexts = (lines : List (List ℕ)) → without_remarks (flat_map (dis_text Text true) lines) ≡ flat_map (dis_text Text false) lines
