-- Lines of frames in hex, one after another.
use Rattle.std.proofs.Common.{◌≡◌, ℕ, ◌+◌, List, [], ◌∷◌, Option, Some, Ok, Err, refl, ap, ◌∙◌}
use Rattle.std.specs.List.{flat_map}
use Rattle.text_core.specs.ByLine.{AreInOrder}
use Rattle.text_core.specs.Lines.{lines_of}
use Rattle.message_hex.specs.Lines.{fault_of, first_fault, line_frame}
use Rattle.message_hex.specs.declared.bytes.DisCause.{DisCause}

-- one more line without a fault
pub checked_more : (text rest after current : List ℕ) (number : ℕ) (frame : Option (List ℕ))
    → first_fault 1 (lines_of text) ≡ first_fault number (lines_of rest) → lines_of rest ≡ current ∷ lines_of after
    → line_frame current ≡ Ok frame → first_fault 1 (lines_of text) ≡ first_fault (number + 1) (lines_of after)
checked_more text rest after current number frame same parts read =
    same ∙ ap (first_fault number) parts ∙ ap (λ r. fault_of number r (first_fault (number + 1) (lines_of after))) read

pub fault_at : (text rest after current : List ℕ) (number : ℕ) (cause : DisCause)
    → first_fault 1 (lines_of text) ≡ first_fault number (lines_of rest) → lines_of rest ≡ current ∷ lines_of after
    → line_frame current ≡ Err cause → first_fault 1 (lines_of text) ≡ Some (record { line = number; cause = cause; word = 0 })
fault_at text rest after current number cause same parts read =
    same ∙ ap (first_fault number) parts ∙ ap (λ r. fault_of number r (first_fault (number + 1) (lines_of after))) read

-- what is written of lines is what is written of each, in order
pub each_in_order : (f : List ℕ → List ℕ) (lines : List (List ℕ)) → AreInOrder (λ line text. text ≡ f line) lines (flat_map f lines)
each_in_order f [] = refl
each_in_order f (line ∷ lines) = (f line, flat_map f lines, refl, each_in_order f lines, refl)
