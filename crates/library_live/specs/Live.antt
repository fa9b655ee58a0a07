-- What is answered of a session that its caller keeps (this profile's own). Its lines are those of `hdminet live`, and so are the texts.
use Rattle.std.specs.Prelude.{◌≡◌, ℕ, ◌⊎◌, ◌&&◌, ◌==◌, Bool, true, false, nat_le, not, codes, List, ◌++◌, length, Option, Some, None, IsSome, Result, Ok, Err}
use Rattle.std.specs.Fmt.{decimal}
use Rattle.std.specs.List.{list_any}
use Rattle.text_core.specs.Held.{held_bytes}
use Rattle.record_core.specs.declared.cell.Form.TheVariants.{Text}
use Rattle.live_session.specs.Session.{Session}
use Rattle.live_session.specs.Whole.{IsLine}
use Rattle.live_dialogue.specs.declared.error.SessionError.{SessionError}
use Rattle.live_dialogue.specs.declared.error.SessionError.TheVariants as sessions
use Rattle.live_incoming.specs.Incoming.{longest_line}
use Rattle.live_dialogue.specs.Dialogue.{HasBegun, IsTopologyFault, first_reported}
use Rattle.room_run.specs.declared.emulate.EmulateError.TheVariants as runs
use Rattle.library_answers.specs.Room.{IsPut, IsRefused, refusal}
use Rattle.library_answers.specs.declared.answer.Answer.{Answer}
use Rattle.library_answers.specs.declared.code.Code.{Code}
use Rattle.library_answers.specs.declared.code.Code.TheVariants as codes
use Rattle.library_run.specs.Run.{run_answer}
use Rattle.library_live.specs.declared.talk.Talk.{Talk}
use Rattle.library_live.specs.declared.talk.LineFault.{LineFault}
use Rattle.library_live.specs.declared.talk.LineFault.TheVariants as faults

-- ---- the beginning

-- what stands before the first answer is said of a session that has begun
abbrev pub IsTalkBegun : List ℕ → Result Talk SessionError → Type 0
IsTalkBegun topology (Ok talk) = HasBegun Text topology talk.live × (held_bytes talk.said ≡ first_reported talk.live)
IsTalkBegun topology (Err error) = IsTopologyFault topology error

abbrev pub open_answer : SessionError → Answer
open_answer (sessions.Topology line cause word) = run_answer (runs.Topology line cause word)
open_answer (sessions.Edid cause) = run_answer (runs.Edid cause)
open_answer sessions.Memory = refusal codes.Memory 0
open_answer sessions.Read = refusal codes.Memory 0
open_answer sessions.TooLong = refusal codes.Memory 0
open_answer sessions.NoScriptLine = refusal codes.Memory 0
open_answer (sessions.Script line cause) = refusal codes.Memory 0
open_answer (sessions.Write count) = refusal codes.Memory 0

-- a session is open, or the topology or its EDID is refused, or memory ran out; then nothing has changed
abbrev pub AnswersOpen : List ℕ → Option Talk → Option Talk → List ℕ → List ℕ → Answer → Type 0
AnswersOpen topology before after old new answer =
    ((talk : Talk) × IsTalkBegun topology (Ok talk) × (after ≡ Some talk) × IsPut (held_bytes talk.said) old new answer)
    ⊎ ((error : SessionError) × IsTopologyFault topology error × (answer ≡ open_answer error) × (after ≡ before) × (new ≡ old))

-- ---- a line

-- it has no end in it, and is not too long
abbrev pub has_end : List ℕ → Bool
has_end line = list_any (λ byte. byte == 10) line

abbrev pub is_fit : List ℕ → Bool
is_fit line = nat_le (length line) longest_line && not (has_end line)

-- a line was answered by this text
abbrev pub IsSaid : Session → List ℕ → Session → List ℕ → Type 0
IsSaid s line t text = (kept : List ℕ) × (reported : List ℕ) × IsLine s line kept reported text t

abbrev pub IsLineHeard : Talk → List ℕ → Talk → Result Unit LineFault → Type 0
IsLineHeard s line t (Ok done) = (is_fit line ≡ true) × IsSaid s.live line t.live (held_bytes t.said)
IsLineHeard s line t (Err faults.Closed) = IsSome s.live.notes.end × (t ≡ s)
IsLineHeard s line t (Err faults.Line) = (s.live.notes.end ≡ None) × (is_fit line ≡ false) × (t ≡ s)
IsLineHeard s line t (Err faults.Memory) = (s.live.notes.end ≡ None) × (is_fit line ≡ true)

-- `pin T 0` and `pin T 1`, `edge T`
abbrev pub pin_line : ℕ → Bool → List ℕ
pin_line t true = codes "pin " ++ (decimal t ++ codes " 0")
pin_line t false = codes "pin " ++ (decimal t ++ codes " 1")

abbrev pub edge_line : ℕ → List ℕ
edge_line t = codes "edge " ++ decimal t

abbrev pub fault_code : LineFault → Code
fault_code faults.Closed = codes.Closed
fault_code faults.Line = codes.Line
fault_code faults.Memory = codes.Memory

-- why a line is not answered, and what is open then
abbrev pub IsLineFault : Option Talk → List ℕ → Option Talk → LineFault → Type 0
IsLineFault None line after faults.Closed = after ≡ None
IsLineFault None line after faults.Line = ⊥
IsLineFault None line after faults.Memory = ⊥
IsLineFault (Some s) line after faults.Closed = IsSome s.live.notes.end × (after ≡ Some s)
IsLineFault (Some s) line after faults.Line = (s.live.notes.end ≡ None) × (is_fit line ≡ false) × (after ≡ Some s)
IsLineFault (Some s) line after faults.Memory = (s.live.notes.end ≡ None) × (is_fit line ≡ true) × (after ≡ None)

abbrev pub AnswersLine : List ℕ → Option Talk → Option Talk → List ℕ → List ℕ → Answer → Type 0
AnswersLine line before after old new answer =
    ((s : Talk) × (t : Talk) × (before ≡ Some s) × (is_fit line ≡ true) × IsSaid s.live line t.live (held_bytes t.said) × (after ≡ Some t) × IsPut (held_bytes t.said) old new answer)
    ⊎ ((fault : LineFault) × IsLineFault before line after fault × IsRefused (fault_code fault) 0 old new answer)

-- what was said last is put once more
abbrev pub AnswersAgain : Option Talk → List ℕ → List ℕ → Answer → Type 0
AnswersAgain None old new answer = IsRefused codes.Closed 0 old new answer
AnswersAgain (Some talk) old new answer = IsPut (held_bytes talk.said) old new answer
