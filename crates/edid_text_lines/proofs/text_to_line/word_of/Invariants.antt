use Rattle.std.proofs.Common.{◌≡◌, ℕ, ◌<◌, get_or}
use Rattle.edid_text_lines.specs.Text.{word_text}
use Rattle.edid_text_lines.specs.declared.line.TheConstants.{WORDS}
use Rattle.edid_text_lines.specs.declared.line.Keyword.TheVariants.{Edid}
use Rattle.edid_text_lines.proofs.text_to_line.word_of.Given as goal

abbrev pub invariant-loop-word : goal.invariant-loop-word
invariant-loop-word l = (k : ℕ) → k < l.word-index → word_text (get_or WORDS k Edid) ≡ l.text → ⊥
