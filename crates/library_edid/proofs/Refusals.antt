-- Refusals have numbers of their own, and what is put leaves none of them.
use Rattle.std.proofs.Common.{◌≡◌, ℕ, ◌==◌, ◌<◌, ◌≤◌, Bool, true, false, if◌then◌else◌, List, length, inl, inr, arith, ap}
use Rattle.std.proofs.lemmas.Bool.{cases_lt}
use Rattle.edid_base.specs.declared.base.BaseError.{BaseError}
use Rattle.edid_base.specs.declared.base.BaseError.TheVariants as bases
use Rattle.edid_core.specs.declared.bytes.EdidError.{EdidError}
use Rattle.edid_core.specs.declared.bytes.EdidError.TheVariants as edids
use Rattle.conversion_calls.specs.declared.edid_text.EdidToTextError.{EdidToTextError}
use Rattle.conversion_calls.specs.declared.edid_text.EdidToTextError.TheVariants as reads
use Rattle.conversion_calls.specs.declared.edid_text.TextToHexError.{TextToHexError}
use Rattle.conversion_calls.specs.declared.edid_text.TextToHexError.TheVariants as texts
use Rattle.library_answers.specs.Codes.{number_of}
use Rattle.library_answers.specs.Faults.{base_code, edid_code}
use Rattle.library_answers.specs.Room.{IsPut}
use Rattle.library_answers.specs.declared.answer.Answer.{Answer}
use Rattle.library_answers.specs.declared.code.Code.TheVariants.{EdidFirst, EdidSecond, EdidThird}
use Rattle.library_edid.specs.Edids.{edid_answer, text_answer}

base_more : (cause : BaseError) → 1 < number_of (base_code cause)
base_more bases.Header = omega arith
base_more bases.Checksum = omega arith
base_more bases.Revision = omega arith
base_more bases.Maker = omega arith

one_of : (a b : Bool) → 1 < number_of (if a then EdidFirst else if b then EdidSecond else EdidThird)
one_of true b = omega arith
one_of false true = omega arith
one_of false false = omega arith

cause_more : (cause : EdidError) → 1 < number_of (edid_code cause)
cause_more edids.Length = omega arith
cause_more edids.Count = omega arith
cause_more (edids.Base cause) = base_more cause
cause_more (edids.Ext number cause) = one_of (number == 1) (number == 2)

edid_more : (error : EdidToTextError) → 1 < (edid_answer error).code
edid_more (reads.Edid cause) = cause_more cause
edid_more (reads.Write count) = omega arith

text_more : (error : TextToHexError) → 1 < (text_answer error).code
text_more (texts.Syntax line) = omega arith
text_more (texts.Field line word) = omega arith
text_more (texts.Write count) = omega arith
text_more texts.Memory = omega arith

-- bytes that are refused are not put
pub not_read : (error : EdidToTextError) (answer : Answer) → answer ≡ edid_answer error → answer.code ≤ 1 → ⊥
not_read error answer is little =
    let code : answer.code ≡ (edid_answer error).code = ap (λ (a : Answer). a.code) is in
    let more = edid_more error in
    omega (arith, code, more, little)

pub not_spelled : (error : TextToHexError) (answer : Answer) → answer ≡ text_answer error → answer.code ≤ 1 → ⊥
not_spelled error answer is little =
    let code : answer.code ≡ (text_answer error).code = ap (λ (a : Answer). a.code) is in
    let more = text_more error in
    omega (arith, code, more, little)

-- bytes that are put are refused for want of room alone
pub no_refusal : (text old new : List ℕ) (answer : Answer) → IsPut text old new answer → 1 < answer.code → ⊥
no_refusal text old new answer p more = elim (cases_lt (length old) (length text)) [
  | inl lt ↦ (let k = (p.too_long lt).0 in omega (arith, k, more))
  | inr ge ↦ (let k = (p.fits (omega (arith, ge))).0 in omega (arith, k, more))
]
