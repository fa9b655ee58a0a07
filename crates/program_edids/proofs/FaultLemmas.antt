-- The fault of a text.
use Rattle.std.proofs.Common.{◌≡◌, sym, subst, ℕ, List, Result, Ok, Err}
use Rattle.edid_core.specs.declared.edid.Edid.{Edid}
use Rattle.edid_texts.specs.Cut.{lines_with_feeds}
use Rattle.edid_texts.specs.Lines.{edid_text}
use Rattle.edid_texts.specs.Refusal.{IsRefusal}
use Rattle.edid_texts.specs.declared.parse.TextError.{TextError}
use Rattle.edid_texts.specs.declared.parse.TextError.TheVariants.{Syntax, Field, Memory}
use Rattle.program_edids.specs.Edids.{IsFaultOf, IsTextFault}
use Rattle.program_edids.specs.declared.edid_fault.EdidFault.{EdidFault}

pub text_fault : (text : List ℕ) (error : TextError) (fault : EdidFault) → IsRefusal (lines_with_feeds text) error → ((e : Edid) → edid_text e ≡ text → ⊥)
    → IsFaultOf error fault → IsTextFault text fault
text_fault text (Syntax line) fault r none is = subst (IsTextFault text) (sym is) (r, none)
text_fault text (Field line word) fault r none is = subst (IsTextFault text) (sym is) (r, none)
text_fault text Memory fault r none is = absurd r

pub not_both : {A E : Type 0} (r : Result A E) (x : E) (y : A) → r ≡ Err x → r ≡ Ok y → ⊥
not_both r x y is was = cc
