-- A session over an input and a sink: what it reads, and what it writes of that (this profile's own).
use Rattle.std.specs.Prelude.{◌≡◌, ◌≢◌, ℕ, ◌+◌, ◌<◌, ◌≤◌, ◌⊎◌, Bool, true, false, List, [], ◌∷◌, ◌++◌, length, take, codes, Option, Some, None, IfSome, Result, Ok, Err, All}
use Rattle.std.specs.Io.KnownBytes.{Appends, Consumes, IsAtEnd, append_known}
use Rattle.text_core.specs.declared.buffered.Buffered.{Buffered}
use Rattle.text_core.specs.Buffered.{below, handed_count, pending}
use Rattle.edid_core.specs.declared.edid.Edid.{Edid as EdidValue}
use Rattle.text_core.specs.Lines.{lines_of}
use Rattle.live_incoming.specs.Incoming.{IsWhole, Leads, text_of_lines, longest_line}
use Rattle.room_script.specs.Topology.{topology_of, Plan}
use Rattle.edid_core.specs.Root.{IsRoot, IsNoRoot}
use Rattle.room_net.specs.State.{first_net}
use Rattle.record_core.specs.declared.cell.Form.{Form}
use Rattle.room_run.specs.Run.{IsRunText, start, start_reported}
use Rattle.live_session.specs.declared.live.Step.{Step}
use Rattle.live_session.specs.Session.{Session, first_session, IsStep, IsDue}
use Rattle.live_session.specs.Turns.{reporting_of}
use Rattle.live_session.specs.Whole.{IsLine, AreLines, IsReportOf}
use Rattle.live_dialogue.specs.declared.error.ScriptEnd.{ScriptEnd}
use Rattle.live_dialogue.specs.declared.error.ScriptEnd.TheVariants as ends
use Rattle.live_dialogue.specs.declared.error.SessionError.{SessionError}
use Rattle.live_dialogue.specs.declared.error.SessionError.TheVariants.{Read, TooLong, NoScriptLine, Topology, Edid, Script, Write, Memory}
use Rattle.line_wave.specs.Bounds.{most_pulses}

-- ---- limits, in bytes and in lines (`longest_line` is that of live_incoming)

-- the most bytes of a topology, each line with its end
abbrev pub longest_topology : ℕ
longest_topology = 1048576

-- the most lines after the line `script`
abbrev pub most_lines : ℕ
most_lines = 18446744073709551615

abbrev pub IsShort : List ℕ → Type 0
IsShort line = length line ≤ longest_line

-- ---- the input

-- what is still to come of an input, where that is known, and the line that came last
pub record InputState : Type 0 where
  pub rest : Option (List ℕ)
  pub line : List ℕ

-- these lines came, one after another
abbrev pub Come : Option (List ℕ) → Option (List ℕ) → List (List ℕ) → Type 0
Come None after lines = Unit {0}
Come (Some before) None lines = ⊥
Come (Some before) (Some after) lines = lines_of before ≡ lines ++ lines_of after

abbrev pub AreOthers : List (List ℕ) → Type 0
AreOthers lines = All (λ line. line ≢ codes "script") lines

-- the text before the first line `script` came, and that line
pub record IsOpened (before after : Option (List ℕ)) (text : List ℕ) : Type 0 where
  pub lines : List (List ℕ)
  pub spelled : text ≡ text_of_lines lines
  pub whole : All IsWhole lines
  pub others : AreOthers lines
  pub come : Come before after (lines ++ codes "script" ∷ [])

-- no line is `script`
pub record HasNoScript (before : Option (List ℕ)) : Type 0 where
  pub lines : List (List ℕ)
  pub others : AreOthers lines
  pub all : IfSome before (λ text. lines_of text ≡ lines)

-- the lines of a text before its first line `script`, or all of them
abbrev pub AreFirst : List (List ℕ) → List ℕ → Type 0
AreFirst lines text = (lines_of text ≡ lines) ⊎ ((rest : List (List ℕ)) × (lines_of text ≡ lines ++ codes "script" ∷ rest))

-- they are within the limits of a topology
pub record HasRoom (before : Option (List ℕ)) : Type 0 where
  pub lines : List (List ℕ)
  pub others : AreOthers lines
  pub short : All IsShort lines
  pub fits : length (text_of_lines lines) ≤ longest_topology
  pub first : IfSome before (AreFirst lines)

-- more than 4,096 bytes have come before a line's end
abbrev pub IsLongLine : Option (List ℕ) → Option (List ℕ) → Type 0
IsLongLine before after = (front : List ℕ) × IsWhole front × (longest_line < length front) × Consumes before after front

-- lines that are not `script` came, whose text this is
pub record HasCome (before after : Option (List ℕ)) (text : List ℕ) : Type 0 where
  pub lines : List (List ℕ)
  pub spelled : text ≡ text_of_lines lines
  pub whole : All IsWhole lines
  pub short : All IsShort lines
  pub others : AreOthers lines
  pub come : Come before after lines

-- a topology is too long: a line of it after lines that have room, or the lines of it that came
abbrev pub IsLongTopology : Option (List ℕ) → Option (List ℕ) → Type 0
IsLongTopology before after =
    ((text : List ℕ) × (mid : Option (List ℕ)) × HasCome before mid text × (length text ≤ longest_topology) × IsLongLine mid after)
    ⊎ ((text : List ℕ) × HasCome before after text × (longest_topology < length text))

abbrev pub IsOpening : Option (List ℕ) → Option (List ℕ) → Result (List ℕ) SessionError → Type 0
IsOpening before after (Ok text) = IsOpened before after text × HasRoom before
IsOpening before after (Err NoScriptLine) = HasNoScript before × HasRoom before
IsOpening before after (Err Read) = Unit {0}
IsOpening before after (Err TooLong) = IsLongTopology before after
IsOpening before after (Err Memory) = Unit {0}
IsOpening before after (Err (Topology line cause word)) = ⊥
IsOpening before after (Err (Edid cause)) = ⊥
IsOpening before after (Err (Script line cause)) = ⊥
IsOpening before after (Err (Write count)) = ⊥

-- a line before the line `script` came
abbrev pub IsTopologyLine : Option (List ℕ) → Option (List ℕ) → List ℕ → Result Unit SessionError → Type 0
IsTopologyLine before after line (Ok done) = IsWhole line × Leads before after line
IsTopologyLine before after line (Err NoScriptLine) = IsAtEnd before
IsTopologyLine before after line (Err Read) = Unit {0}
IsTopologyLine before after line (Err TooLong) = IsLongLine before after
IsTopologyLine before after line (Err Memory) = ⊥
IsTopologyLine before after line (Err (Topology at cause word)) = ⊥
IsTopologyLine before after line (Err (Edid cause)) = ⊥
IsTopologyLine before after line (Err (Script at cause)) = ⊥
IsTopologyLine before after line (Err (Write count)) = ⊥

-- why a line is the last that is looked at: the input has ended, or more than 4,096 bytes have come before the line's end
abbrev pub IsScriptEnd : Option (List ℕ) → Option (List ℕ) → ScriptEnd → Type 0
IsScriptEnd before after ends.End = IsAtEnd before
IsScriptEnd before after ends.TooLong = IsLongLine before after

abbrev pub IsScriptLine : Option (List ℕ) → Option (List ℕ) → List ℕ → ℕ → Result Unit SessionError → Type 0
IsScriptLine before after line number (Ok done) = IsWhole line × Leads before after line
IsScriptLine before after line number (Err (Script at cause)) = (at ≡ number) × IsScriptEnd before after cause
IsScriptLine before after line number (Err Read) = Unit {0}
IsScriptLine before after line number (Err TooLong) = ⊥
IsScriptLine before after line number (Err NoScriptLine) = ⊥
IsScriptLine before after line number (Err (Topology at cause word)) = ⊥
IsScriptLine before after line number (Err (Edid cause)) = ⊥
IsScriptLine before after line number (Err (Write count)) = ⊥
IsScriptLine before after line number (Err Memory) = ⊥

-- ---- the topology

-- a topology and its EDID are accepted, for a session that says lines or objects
pub record HasBegun (form : Form) (topology : List ℕ) (s : Session) : Type 0 where
  pub plan : Plan
  pub edid : Option EdidValue
  pub plan_is : topology_of topology ≡ Ok plan
  pub root : IsRoot plan.edid edid
  pub is : s ≡ first_session (reporting_of form edid) plan.tree

-- or refused
abbrev pub IsTopologyFault : List ℕ → SessionError → Type 0
IsTopologyFault topology (Topology line cause word) = topology_of topology ≡ Err (record { line = line; cause = cause; word = word })
IsTopologyFault topology (Edid cause) = (plan : Plan) × (topology_of topology ≡ Ok plan) × (bytes : List ℕ) × (plan.edid ≡ Some bytes) × IsNoRoot bytes cause
IsTopologyFault topology Memory = Unit {0}
IsTopologyFault topology Read = ⊥
IsTopologyFault topology TooLong = ⊥
IsTopologyFault topology NoScriptLine = ⊥
IsTopologyFault topology (Script line cause) = ⊥
IsTopologyFault topology (Write count) = ⊥

abbrev pub IsBegun : Form → List ℕ → Result Session SessionError → Type 0
IsBegun form topology (Ok s) = HasBegun form topology s
IsBegun form topology (Err error) = IsTopologyFault topology error

-- ---- what is put

-- the front of a text is put, or all of it
abbrev pub IsCutShort : List ℕ → Option (List ℕ) → Option (List ℕ) → Type 0
IsCutShort text old new = (count : ℕ) × (count ≤ length text) × Appends old new (take count text)

-- what is due of a line, which there is, is cut short
abbrev pub IsCutLine : Session → List ℕ → Option (List ℕ) → Option (List ℕ) → Type 0
IsCutLine s line old new = (step : Step) × (asked : Session) × IsStep s line step asked × (text : List ℕ) × (after : Session) × IsDue step asked text after × IsCutShort text old new

-- what stands before the first answer: the lines of the ports, or their objects
abbrev pub first_reported : Session → List ℕ
first_reported s = start_reported s.reporting s.place.net

abbrev pub IsFirstPut : Session → Option (List ℕ) → Option (List ℕ) → Result Unit SessionError → Type 0
IsFirstPut s old new (Ok done) = Appends old new (first_reported s)
IsFirstPut s old new (Err (Write count)) = IsCutShort (first_reported s) old new
IsFirstPut s old new (Err Read) = ⊥
IsFirstPut s old new (Err TooLong) = ⊥
IsFirstPut s old new (Err NoScriptLine) = ⊥
IsFirstPut s old new (Err (Topology line cause word)) = ⊥
IsFirstPut s old new (Err (Edid cause)) = ⊥
IsFirstPut s old new (Err (Script line cause)) = ⊥
IsFirstPut s old new (Err Memory) = ⊥

-- a line is answered
pub record HasAnswered (s : Session) (line : List ℕ) (old new : Option (List ℕ)) (t : Session) : Type 0 where
  pub kept : List ℕ
  pub reported : List ℕ
  pub text : List ℕ
  pub is : IsLine s line kept reported text t
  pub put : Appends old new text

abbrev pub IsLineAnswered : Session → List ℕ → Session → Option (List ℕ) → Option (List ℕ) → Result Unit SessionError → Type 0
IsLineAnswered s line t old new (Ok done) = HasAnswered s line old new t
IsLineAnswered s line t old new (Err (Write count)) = IsCutLine s line old new
IsLineAnswered s line t old new (Err Memory) = new ≡ old
IsLineAnswered s line t old new (Err Read) = ⊥
IsLineAnswered s line t old new (Err TooLong) = ⊥
IsLineAnswered s line t old new (Err NoScriptLine) = ⊥
IsLineAnswered s line t old new (Err (Topology at cause word)) = ⊥
IsLineAnswered s line t old new (Err (Edid cause)) = ⊥
IsLineAnswered s line t old new (Err (Script at cause)) = ⊥

-- lines are answered, one after another
pub record HaveAnswers (before after : Option (List ℕ)) (s : Session) (old new : Option (List ℕ)) (t : Session) : Type 0 where
  pub lines : List (List ℕ)
  pub kept : List (List ℕ)
  pub reported : List ℕ
  pub text : List ℕ
  pub come : Come before after lines
  pub whole : All IsWhole lines
  pub few : length lines ≤ most_lines
  pub are : AreLines lines s kept reported text t
  pub put : Appends old new text

-- lines are answered, and the script has ended
pub record HasEnded (before after : Option (List ℕ)) (s : Session) (old new : Option (List ℕ)) : Type 0 where
  pub last : Session
  pub end : ℕ
  pub answers : HaveAnswers before after s old new last
  pub ended : last.notes.end ≡ Some end

-- lines are answered, and no more could be
pub record HasStopped (before after : Option (List ℕ)) (s : Session) (old new : Option (List ℕ)) (line : ℕ) (cause : ScriptEnd) : Type 0 where
  pub last : Session
  pub mid : Option (List ℕ)
  pub answers : HaveAnswers before mid s old new last
  pub goes_on : last.notes.end ≡ None
  pub room : length answers.lines < most_lines
  pub number : line ≡ length answers.lines + 1
  pub stops : IsScriptEnd mid after cause

-- lines are answered, and what is due of the next is cut short
pub record HasCut (before after : Option (List ℕ)) (s : Session) (old new : Option (List ℕ)) : Type 0 where
  pub last : Session
  pub mid : Option (List ℕ)
  pub line : List ℕ
  pub so_far : Option (List ℕ)
  pub answers : HaveAnswers before mid s old so_far last
  pub room : length answers.lines < most_lines
  pub came : Leads mid after line
  pub cut : IsCutLine last line so_far new

-- as many lines are answered as a session may have, and the script has not ended
pub record HasFilled (before after : Option (List ℕ)) (s : Session) (old new : Option (List ℕ)) : Type 0 where
  pub last : Session
  pub answers : HaveAnswers before after s old new last
  pub goes_on : last.notes.end ≡ None
  pub full : length answers.lines ≡ most_lines

-- lines are answered
pub record HasGone (before : Option (List ℕ)) (s : Session) (old new : Option (List ℕ)) : Type 0 where
  pub last : Session
  pub mid : Option (List ℕ)
  pub answers : HaveAnswers before mid s old new last

abbrev pub IsAnswering : Option (List ℕ) → Option (List ℕ) → Session → Option (List ℕ) → Option (List ℕ) → Result Unit SessionError → Type 0
IsAnswering before after s old new (Ok done) = HasEnded before after s old new
IsAnswering before after s old new (Err (Script line cause)) = HasStopped before after s old new line cause
IsAnswering before after s old new (Err (Write count)) = HasCut before after s old new
IsAnswering before after s old new (Err Read) = HasGone before s old new
IsAnswering before after s old new (Err TooLong) = HasFilled before after s old new
IsAnswering before after s old new (Err Memory) = HasGone before s old new
IsAnswering before after s old new (Err NoScriptLine) = ⊥
IsAnswering before after s old new (Err (Topology line cause word)) = ⊥
IsAnswering before after s old new (Err (Edid cause)) = ⊥

-- a write failed
abbrev pub is_write : Result Unit SessionError → Bool
is_write (Ok done) = false
is_write (Err (Write count)) = true
is_write (Err Read) = false
is_write (Err TooLong) = false
is_write (Err NoScriptLine) = false
is_write (Err (Topology line cause word)) = false
is_write (Err (Edid cause)) = false
is_write (Err (Script line cause)) = false
is_write (Err Memory) = false

-- ---- a whole session

-- Before the line `script` stands a topology that is accepted, what stands first is put, and then lines are answered.
pub record HasRun (form : Form) (before after old new : Option (List ℕ)) : Type 0 where
  pub topology : List ℕ
  pub first : Session
  pub mid : Option (List ℕ)
  pub so_far : Option (List ℕ)
  pub opened : IsOpened before mid topology
  pub begins : HasBegun form topology first
  pub put : Appends old so_far (first_reported first)

-- A session is done: its lines are answered up to `end`, and what they have reported, without the answers, is the trace of the
-- topology with what the lines of its script say, or the objects of that trace. Where these have no more pulses than a script may have, it
-- is the trace of the topology with that script, in which the lines that were refused and the session's own ones are emptied.
pub record IsDone (form : Form) (before after old new : Option (List ℕ)) : Type 0 where
  pub run : HasRun form before after old new
  pub over : HasEnded run.mid after run.first run.so_far new
  pub reported : IsRunText (reporting_of form run.begins.edid) over.end (start (first_net run.begins.plan.tree over.last.notes.pulses) over.last.notes.events) (first_reported run.first ++ over.answers.reported) over.last.place.totals
  pub trace : length over.last.notes.pulses ≤ most_pulses → IsReportOf form run.topology (text_of_lines over.answers.kept) (first_reported run.first ++ over.answers.reported) over.last.place.totals

-- what is put where a session stops
abbrev pub IsStopped : Form → Option (List ℕ) → Option (List ℕ) → Option (List ℕ) → Option (List ℕ) → ℕ → ScriptEnd → Type 0
IsStopped form before after old new line cause = (run : HasRun form before after old new) × HasStopped run.mid after run.first run.so_far new line cause

abbrev pub IsCut : Form → Option (List ℕ) → Option (List ℕ) → Option (List ℕ) → Option (List ℕ) → Type 0
IsCut form before after old new =
    ((run : HasRun form before after old new) × HasCut run.mid after run.first run.so_far new)
    ⊎ ((topology : List ℕ) × (first : Session) × (mid : Option (List ℕ)) × IsOpened before mid topology × HasBegun form topology first × IsCutShort (first_reported first) old new)

-- nothing is put, or what is due of the lines so far
abbrev pub IsLeft : Form → Option (List ℕ) → Option (List ℕ) → Option (List ℕ) → Option (List ℕ) → Type 0
IsLeft form before after old new = (new ≡ old) ⊎ ((run : HasRun form before after old new) × HasGone run.mid run.first run.so_far new)

-- the topology is too long, and nothing is put; or the session has as many lines as there may be
abbrev pub IsTooLong : Form → Option (List ℕ) → Option (List ℕ) → Option (List ℕ) → Option (List ℕ) → Type 0
IsTooLong form before after old new = (IsLongTopology before after × (new ≡ old)) ⊎ ((run : HasRun form before after old new) × HasFilled run.mid after run.first run.so_far new)

-- a topology is refused
abbrev pub IsRefused : Option (List ℕ) → SessionError → Type 0
IsRefused before error = (topology : List ℕ) × (mid : Option (List ℕ)) × IsOpened before mid topology × IsTopologyFault topology error

abbrev pub IsSession : Form → Option (List ℕ) → Option (List ℕ) → Option (List ℕ) → Option (List ℕ) → Result Unit SessionError → Type 0
IsSession form before after old new (Ok done) = IsDone form before after old new
IsSession form before after old new (Err NoScriptLine) = HasNoScript before × (new ≡ old)
IsSession form before after old new (Err (Topology line cause word)) = IsRefused before (Topology line cause word) × (new ≡ old)
IsSession form before after old new (Err (Edid cause)) = IsRefused before (Edid cause) × (new ≡ old)
IsSession form before after old new (Err (Script line cause)) = IsStopped form before after old new line cause
IsSession form before after old new (Err (Write count)) = IsCut form before after old new
IsSession form before after old new (Err Read) = IsLeft form before after old new
IsSession form before after old new (Err TooLong) = IsTooLong form before after old new
IsSession form before after old new (Err Memory) = IsLeft form before after old new

-- A session goes on with no topology past its limits: it then stops with `TooLong`, or before that for want of memory or as a
-- read fails.
abbrev pub IsInLimits : Option (List ℕ) → Result Unit SessionError → Type 0
IsInLimits before (Ok done) = HasRoom before
IsInLimits before (Err NoScriptLine) = HasRoom before
IsInLimits before (Err (Topology line cause word)) = HasRoom before
IsInLimits before (Err (Edid cause)) = HasRoom before
IsInLimits before (Err (Script line cause)) = HasRoom before
IsInLimits before (Err (Write count)) = HasRoom before
IsInLimits before (Err TooLong) = Unit {0}
IsInLimits before (Err Read) = Unit {0}
IsInLimits before (Err Memory) = Unit {0}

-- ---- the sink

-- what was put to a sink in all: what it has taken, and then what is pending
abbrev pub held : {S : Type 0} → (S → Option (List ℕ)) → Buffered S → Option (List ℕ)
held contents b = append_known (contents (below b)) (pending b)

-- all that was put is handed on; after a failed write so many bytes were
abbrev pub IsHandedOn : {S : Type 0} → Buffered S → Result Unit SessionError → Type 0
IsHandedOn b (Ok done) = pending b ≡ []
IsHandedOn b (Err (Write count)) = count ≡ handed_count b
IsHandedOn b (Err Read) = pending b ≡ []
IsHandedOn b (Err TooLong) = pending b ≡ []
IsHandedOn b (Err NoScriptLine) = pending b ≡ []
IsHandedOn b (Err (Topology line cause word)) = pending b ≡ []
IsHandedOn b (Err (Edid cause)) = pending b ≡ []
IsHandedOn b (Err (Script line cause)) = pending b ≡ []
IsHandedOn b (Err Memory) = pending b ≡ []

-- what was put is handed on, all of it or up to a write fault; a sink that was stuck stays as it is
abbrev pub IsFlushed : {S : Type 0} → (Buffered S → Bool) → Buffered S → Buffered S → Result Unit SessionError → Type 0
IsFlushed stuck old new (Ok done) = (pending new ≡ []) × (stuck new ≡ false) × (stuck old ≡ false)
IsFlushed stuck old new (Err error) = (error ≡ Write (handed_count new)) × (stuck new ≡ true) × (stuck old ≡ true → new ≡ old)

-- a write fault comes where the sink was found stuck, and there alone
pub record AreHanded {S : Type 0} (stuck : Buffered S → Bool) (old new : Buffered S) (result : Result Unit SessionError) : Type 0 where
  pub write : stuck old ≡ false → stuck new ≡ is_write result
  pub handed : pending old ≡ [] → IsHandedOn new result
