-- A script without labels and expectations has a line for each of the script's.
use Rattle.std.proofs.Common.{◌≡◌, ℕ, ◌==◌, Bool, true, false, cond, codes, if◌then◌else◌, List, [], ◌∷◌, length, map, Result, Ok, Err, IfOk, refl, sym, ap, subst, arith}
use Rattle.std.specs.Str.{bytes_eq}
use Rattle.std.specs.List.{onto_first}
use Rattle.std.proofs.lemmas.List.Elements.{All-append, All-head, All-tail}
use Rattle.edid_tree.specs.Node.{Node}
use Rattle.text_core.specs.Lines.{lines_of}
use Rattle.text_core.specs.Words.{words_of, text_of}
use Rattle.capture_core.proofs.Texts.{more_lack, none_lack}
use Rattle.text_core.specs.At.{at_line}
use Rattle.room_script.specs.Script.{Course, Notes, AreLinesRead, Gives, GivesCourse, GivesScript, IsLineRead, IsScript, IsScriptRead, course_at_end, course_of, error_at, no_notes}
use Rattle.text_core.specs.declared.at.At.{At}
use Rattle.room_script.specs.declared.script.ScriptCause.{ScriptCause}
use Rattle.text_core.specs.declared.at.AtWord.{AtWord}
use Rattle.capture_core.specs.Texts.{Lacks}
use Rattle.room_script.specs.declared.course.Script.{Script}
use Rattle.room_script.specs.declared.script.ScriptError.{ScriptError}
use Rattle.room_script.specs.declared.script.ScriptLineError.{ScriptLineError}
use Rattle.room_script.specs.declared.script.ScriptLineError.TheVariants.{Fault, Memory}
use Rattle.room_script.specs.Lines.{AreFew, AreSound}
use Rattle.room_script.proofs.Adding.{few_pulses}
use Rattle.room_script.proofs.Reading.{last_line}
use Rattle.room_script.proofs.Sound.{answer_given, sound_start}
use Rattle.expect_text.specs.Line.{after_name, is_expectation, plain_part, plain_script, unlabelled_words}
use Rattle.expect_run.proofs.EachLine.{Lacking, lines_each}

abbrev IsPlain : List ℕ → Type 0
IsPlain text = Lacks (λ c. c == 10) text

words_lack : (text : List ℕ) → IsPlain text → Lacking (words_of text)
words_lack [] h = (none_lack (λ c. c == 10), tt)
words_lack (c ∷ cs) h =
    by (c == 32) (All-head (λ (c : ℕ). (c == 10) ≡ false) c cs h) (words_of cs) (words_lack cs (All-tail (λ (c : ℕ). (c == 10) ≡ false) c cs h))
  where
    by : (b : Bool) → (c == 10) ≡ false → (words : List (List ℕ)) → Lacking words → Lacking (cond b ([] ∷ words) (onto_first c words))
    by true e words h = (none_lack (λ c. c == 10), h)
    by false e [] h = (more_lack (λ c. c == 10) c [] e (none_lack (λ c. c == 10)), tt)
    by false e (word ∷ words) h = (more_lack (λ c. c == 10) c word e h.0, h.1)

text_lacks : (words : List (List ℕ)) → Lacking words → IsPlain (text_of words)
text_lacks [] h = none_lack (λ c. c == 10)
text_lacks (word ∷ []) h = h.0
text_lacks (word ∷ next ∷ words) h =
    All-append (λ (c : ℕ). (c == 10) ≡ false) word (32 ∷ text_of (next ∷ words)) h.0 (more_lack (λ c. c == 10) 32 (text_of (next ∷ words)) refl (text_lacks (next ∷ words) h.1))

unlabelled_lack : (words : List (List ℕ)) → Lacking words → Lacking (unlabelled_words words)
unlabelled_lack [] h = tt
unlabelled_lack (verb ∷ words) h = by (bytes_eq verb (codes "label")) words h
  where
    by : (b : Bool) (words : List (List ℕ)) → Lacking (verb ∷ words) → Lacking (if b then after_name (verb ∷ words) words else verb ∷ words)
    by true [] h = h
    by true (name ∷ words) h = h.1.1
    by false words h = h

part_lacks : (line : List ℕ) → IsPlain line → IsPlain (plain_part line)
part_lacks line h = by (is_expectation (unlabelled_words (words_of line)))
  where
    by : (b : Bool) → IsPlain (if b then [] else text_of (unlabelled_words (words_of line)))
    by true = none_lack (λ c. c == 10)
    by false = text_lacks (unlabelled_words (words_of line)) (unlabelled_lack (words_of line) (words_lack line h))

pub plain_lines : (script : List ℕ) → lines_of (plain_script script) ≡ map plain_part (lines_of script)
plain_lines script = lines_each plain_part script part_lacks

-- ---- read line by line

-- what these lines give after those so far, the plain script gives
abbrev pub Leads : List Node → List ℕ → List (List ℕ) → ℕ → Notes → Type 0
Leads tree script lines number notes =
    (read : Result Course (At ScriptCause)) → AreLinesRead tree (map plain_part lines) number notes read → IsScriptRead tree (plain_script script) read

first_lead : (tree : List Node) (script : List ℕ) → Leads tree script (lines_of script) 1 no_notes
first_lead tree script read h = subst (λ ls. AreLinesRead tree ls 1 no_notes read) (sym (plain_lines script)) h

-- what the lines so far pull low is few
abbrev pub HoldsFew : Notes → Type 0
HoldsFew notes = AreFew notes

pub few_more : (tree : List Node) (notes : Notes) (line : ℕ) (text : List ℕ) (next : Notes) → IsLineRead tree notes (length notes.pulses) line text (Ok next) → HoldsFew notes → HoldsFew next
few_more tree notes line text next read few = few_pulses tree notes line text next read few

-- before the first line
pub begun : (tree : List Node) (script : List ℕ) (notes : Notes) → notes ≡ no_notes → Leads tree script (lines_of script) 1 notes × AreSound (length tree) notes × HoldsFew notes
begun tree script notes is =
    subst (λ (n : Notes). Leads tree script (lines_of script) 1 n × AreSound (length tree) n × HoldsFew n) (sym is)
    (first_lead tree script, sound_start (length tree), omega arith)

read_again : (tree : List Node) (line text : List ℕ) (number waiting : ℕ) (notes : Notes) (read : Result Notes (AtWord ScriptCause)) → text ≡ plain_part line → waiting ≡ length notes.pulses
    → IsLineRead tree notes waiting number text read → IsLineRead tree notes (length notes.pulses) number (plain_part line) read
read_again tree line text number waiting notes read part wait h =
    subst (λ (w : ℕ). IsLineRead tree notes w number (plain_part line) read) wait (subst (λ (t : List ℕ). IsLineRead tree notes waiting number t read) part h)

-- a line that is refused
pub line_refused : (tree : List Node) (script : List ℕ) (lines after : List (List ℕ)) (line text : List ℕ) (number waiting : ℕ) (notes now : Notes) (error : ScriptLineError)
    → Leads tree script lines number notes → lines ≡ line ∷ after → text ≡ plain_part line → waiting ≡ length notes.pulses
    → Gives now (Err error) (IsLineRead tree notes waiting number text) → GivesScript tree (plain_script script) (Err (error_at number error))
line_refused tree script lines after line text number waiting notes now Memory leads split part wait gives = tt
line_refused tree script lines after line text number waiting notes now (Fault fault) leads split part wait gives =
    leads (Err (at_line number fault)) (subst (λ ls. AreLinesRead tree (map plain_part ls) number notes (Err (at_line number fault))) (sym split)
    (Err fault, read_again tree line text number waiting notes (Err fault) part wait gives, refl))

-- after the last line
pub last_read : (tree : List Node) (script : List ℕ) (lines : List (List ℕ)) (number : ℕ) (notes : Notes) (answer : Result Script ScriptError) → Leads tree script lines number notes → lines ≡ []
    → GivesCourse answer (course_at_end notes number notes.end) → GivesScript tree (plain_script script) answer × IfOk answer (λ read. IsScript (length tree) (course_of read))
last_read tree script lines number notes answer leads none gives =
    answer_given tree (plain_script script) _ answer (leads _ (last_line tree (map plain_part lines) number notes (ap (map plain_part) none))) gives
