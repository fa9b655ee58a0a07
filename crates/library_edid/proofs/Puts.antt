-- What is held is what was written, and that is put into the room.
use Rattle.std.proofs.Common.{◌≡◌, ℕ, Bool, List, [], Option, Some, Ok, Err, subst}
use Rattle.std.specs.Io.KnownBytes.{Appends}
use Rattle.edid_core.specs.Bytes.{edid_bytes}
use Rattle.rules_check.specs.Text.{findings_text}
use Rattle.rules_check.specs.declared.rule.Origin.TheVariants.{Display}
use Rattle.conversion_calls.specs.EdidFindings.{FindingAnswers, faults_of}
use Rattle.conversion_calls.specs.EdidText.{FormAnswers}
use Rattle.conversion_calls.specs.declared.edid_text.EdidToTextError.{EdidToTextError}
use Rattle.conversion_calls.specs.declared.edid_text.EdidToTextError.TheVariants as reads
use Rattle.conversion_calls.specs.declared.edid_text.TextToHexError.{TextToHexError}
use Rattle.conversion_calls.specs.declared.edid_text.TextToHexError.TheVariants as texts
use Rattle.conversion_calls.specs.declared.form.EdidForm.TheVariants.{Bytes}
use Rattle.conversion_notes.specs.EdidMeaning.{MeaningAnswers, meaning_of}
use Rattle.library_answers.specs.Room.{IsPut}
use Rattle.library_answers.specs.declared.answer.Answer.{Answer}
use Rattle.library_edid.specs.Edids.{AreFindingsPut, IsEdidPut, IsEdidReported, IsMeaningPut, IsTextReported}

all_held : (before after : Option (List ℕ)) (bytes text : List ℕ) → before ≡ Some [] → after ≡ Some bytes → Appends before after text → bytes ≡ text
all_held before after bytes text e f a = rw (e, f) at a

pub edid_put : (text held old new : List ℕ) (before after : Option (List ℕ)) (was is : Bool) (done : Unit {0}) (answer : Answer) → FormAnswers Bytes before after was is text (Ok done)
    → before ≡ Some [] → after ≡ Some held → IsPut held old new answer → IsEdidPut text old new answer
edid_put text held old new before after was is done answer (e, spelled, appended, same) empty all put =
    (e, spelled, subst (λ (x : List ℕ). IsPut x old new answer) (all_held before after held (edid_bytes e) empty all appended) put)

pub findings_put : (bytes held old new : List ℕ) (before after : Option (List ℕ)) (was is fails : Bool) (answer : Answer)
    → FindingAnswers before after was is bytes (Ok fails) → before ≡ Some [] → after ≡ Some held → IsPut held old new answer → AreFindingsPut bytes old new fails answer
findings_put bytes held old new before after was is fails answer (e, spelled, appended, same, judged) empty all put =
    (e, spelled, judged, subst (λ (x : List ℕ). IsPut x old new answer) (all_held before after held (findings_text (faults_of Display e)) empty all appended) put)

pub meaning_put : (bytes held old new : List ℕ) (before after : Option (List ℕ)) (was is : Bool) (done : Unit {0}) (answer : Answer) → MeaningAnswers before after was is bytes (Ok done)
    → before ≡ Some [] → after ≡ Some held → IsPut held old new answer → IsMeaningPut bytes old new answer
meaning_put bytes held old new before after was is done answer (e, spelled, appended, same) empty all put =
    (e, spelled, subst (λ (x : List ℕ). IsPut x old new answer) (all_held before after held (meaning_of e) empty all appended) put)

-- ---- why there is nothing to put

pub text_reported : (text : List ℕ) (before after : Option (List ℕ)) (was is : Bool) (error : TextToHexError) → FormAnswers Bytes before after was is text (Err error)
    → IsTextReported text error
text_reported text before after was is (texts.Syntax line) p = p.0
text_reported text before after was is (texts.Field line word) p = p.0
text_reported text before after was is (texts.Write count) p = (p.0, p.1)
text_reported text before after was is texts.Memory p = p

pub findings_reported : (bytes : List ℕ) (before after : Option (List ℕ)) (was is : Bool) (error : EdidToTextError) → FindingAnswers before after was is bytes (Err error)
    → IsEdidReported bytes error
findings_reported bytes before after was is (reads.Edid cause) p = p.0
findings_reported bytes before after was is (reads.Write count) p = (p.0, p.1)

pub meaning_reported : (bytes : List ℕ) (before after : Option (List ℕ)) (was is : Bool) (error : EdidToTextError) → MeaningAnswers before after was is bytes (Err error)
    → IsEdidReported bytes error
meaning_reported bytes before after was is (reads.Edid cause) p = p.0
meaning_reported bytes before after was is (reads.Write count) p = (p.0, p.1)
