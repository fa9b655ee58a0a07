-- What is put, and how it is handed on.
use Rattle.std.proofs.Common.{◌≡◌, ℕ, Bool, true, false, List, length, take, Option, Some, None, Result, Ok, Err, IsErr, IfErr, refl, sym, subst, ◌∙◌, arith}
use Rattle.std.specs.Io.KnownBytes.{Appends, Keeps}
use Rattle.std.proofs.Math.Seq.{take_all}
use Rattle.std.proofs.lemmas.Bool.{false≢true}
use Rattle.text_core.specs.declared.buffered.Buffered.{Buffered}
use Rattle.text_core.specs.declared.sink.WriteFault.{WriteFault}
use Rattle.text_core.specs.Buffered.{handed_count}
use Rattle.text_core.specs.Cut.{CutOff}
use Rattle.live_dialogue.specs.declared.error.SessionError.{SessionError}
use Rattle.live_dialogue.specs.declared.error.SessionError.TheVariants.{Read, TooLong, NoScriptLine, Topology, Edid, Script, Write, Memory}
use Rattle.live_dialogue.specs.Dialogue.{AreHanded, IsCutShort, IsFlushed, is_write}

abbrev pub is_stuck : {S : Type 0} → Buffered S → Bool
is_stuck b = b.stuck

pub appends_keep : (old mid new : Option (List ℕ)) (text : List ℕ) → Appends old mid text → Keeps mid new → Appends old new text
appends_keep None mid new text a k = tt
appends_keep (Some x) None new text a k = absurd a
appends_keep (Some x) (Some y) None text a k = absurd k
appends_keep (Some x) (Some y) (Some z) text a k = k ∙ a

pub all_short : (text : List ℕ) (old new : Option (List ℕ)) → Appends old new text → IsCutShort text old new
all_short text old new a = (length text, omega arith, subst (λ (t : List ℕ). Appends old new t) (sym (take_all (length text) text (omega arith))) a)

pub cut_short : (text : List ℕ) (old mid new : Option (List ℕ)) (fault : WriteFault) → CutOff old mid text fault → Keeps mid new → IsCutShort text old new
cut_short text old mid new fault cut k = let less = cut.1 in (cut.0, omega (arith, less), appends_keep old mid new (take cut.0 text) cut.3 k)

-- ---- handing on

pub handed_same : {S : Type 0} (stuck : Buffered S → Bool) (b : Buffered S) (result : Result Unit SessionError) → is_write result ≡ false → AreHanded stuck b b result
handed_same stuck b (Ok done) quiet = record { write = λ e. e; handed = λ e. e }
handed_same stuck b (Err (Write count)) quiet = absurd (false≢true (sym quiet))
handed_same stuck b (Err Read) quiet = record { write = λ e. e; handed = λ e. e }
handed_same stuck b (Err TooLong) quiet = record { write = λ e. e; handed = λ e. e }
handed_same stuck b (Err NoScriptLine) quiet = record { write = λ e. e; handed = λ e. e }
handed_same stuck b (Err (Topology line cause word)) quiet = record { write = λ e. e; handed = λ e. e }
handed_same stuck b (Err (Edid cause)) quiet = record { write = λ e. e; handed = λ e. e }
handed_same stuck b (Err (Script line cause)) quiet = record { write = λ e. e; handed = λ e. e }
handed_same stuck b (Err Memory) quiet = record { write = λ e. e; handed = λ e. e }

pub handed_on : {S : Type 0} (stuck : Buffered S → Bool) (old mid new : Buffered S) (result : Result Unit SessionError) → AreHanded stuck old mid (Ok tt) → AreHanded stuck mid new result → AreHanded stuck old new result
handed_on stuck old mid new result a b = record { write = λ e. b.write (a.write e); handed = λ e. b.handed (a.handed e) }

-- a flush of a sink that is stuck fails
pub fails : {S : Type 0} (stuck : Buffered S → Bool) (mid new : Buffered S) (result : Result Unit SessionError) → IsFlushed stuck mid new result → stuck mid ≡ true → IsErr result
fails stuck mid new (Ok done) flush e = absurd (false≢true (sym flush.2 ∙ e))
fails stuck mid new (Err error) flush e = refl

-- where it fails, it says how much was handed on
pub reports : {S : Type 0} (stuck : Buffered S → Bool) (mid new : Buffered S) (result : Result Unit SessionError) → IsFlushed stuck mid new result → IfErr result (λ error. error ≡ Write (handed_count new))
reports stuck mid new (Ok done) flush = tt
reports stuck mid new (Err error) flush = flush.0
