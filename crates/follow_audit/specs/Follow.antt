-- What is written of a capture as its lines come, with what there is to remark: at each moment the front of the audit of the whole,
-- whatever comes later (own).
use Rattle.std.specs.Prelude.{◌≡◌, ℕ, ◌+◌, ◌≤◌, Bool, true, false, List, [], ◌∷◌, ◌++◌, ◌||◌, length, Option, IfErr, IfSome, Result, Ok, Err}
use Rattle.std.specs.Io.KnownBytes.{Appends}
use Rattle.text_core.specs.Lines.{lines_of}
use Rattle.text_core.specs.declared.at.At.{At}
use Rattle.line_wave.specs.declared.Edge.{Edge}
use Rattle.line_reading.specs.declared.times.Windows.{Windows}
use Rattle.line_reading.specs.Readings.{Listed}
use Rattle.capture_core.specs.Edges.{Captured, line_of_edges}
use Rattle.capture_core.specs.Reading.{with_edges}
use Rattle.capture_core.specs.declared.fault.Cause.{Cause}
use Rattle.capture_monitor.specs.Watch.{captured_by}
use Rattle.audit_core.specs.Audit.{audit_lines}
use Rattle.audit_notes.specs.Lines.{AuditLine, has_remark, lines_text}
use Rattle.capture_forms.specs.Captures.{capture_in}
use Rattle.follow_core.specs.Follow.{AreLeft, StopsAtFault, StopsAtLength, StopsAtRead}
use Rattle.live_incoming.specs.declared.incoming.IncomingFault.{IncomingFault}
use Rattle.live_incoming.specs.declared.incoming.IncomingFault.TheVariants as line_fault
use Rattle.capture_through.specs.Through.{AreFrom}
use Rattle.follow_core.specs.Follow.{received, received_of}
use Rattle.follow_core.specs.Lines.{form_as, from_of, lines_captured}
use Rattle.follow_core.specs.Passing.{IsPassing, passing_left}
use Rattle.follow_core.specs.Teller.{IsTold, IsToldEarly}
use Rattle.follow_core.specs.declared.passing.PassingLines.{PassingLines}
use Rattle.follow_core.specs.declared.reception.Reception.{Reception}
use Rattle.follow_core.specs.declared.lines.LineForm.{LineForm}
use Rattle.follow_audit.specs.Listener.{IsAudited, SaysAllKnown, audit_text}
use Rattle.follow_audit.specs.Settled.{TwoWait}
use Rattle.follow_audit.specs.declared.error.FollowAuditError.{FollowAuditError}
use Rattle.follow_audit.specs.declared.error.FollowAuditError.TheVariants.{Capture, Memory, Read, TooLong, Waiting, Write}
use Rattle.follow_audit.specs.declared.follower.AuditFollower.{AuditFollower}
use Rattle.follow_audit.specs.declared.view.AuditView.{AuditView}

-- the audit of a whole capture: its lines, and what is written of them
abbrev pub lines_in : AuditView → Windows → Captured → List AuditLine
lines_in view windows c = audit_lines view.timing c (captured_by windows c)

abbrev pub text_of : AuditView → Windows → Captured → List ℕ
text_of view windows c = audit_text view c (captured_by windows c)

-- ---- a follower

-- Of a capture these lines came, before the one of this number, and these of the audit were heard: whatever comes later, they are the
-- audit of the readings that have ended; and it is known whether one of them is a remark.
pub record IsFollowed (form : LineForm) (signal : List ℕ) (how : Reception) (view : AuditView) (past : List (List ℕ)) (number : ℕ) (f : AuditFollower) (heard : List AuditLine) : Type 0 where
  pub edges : List Edge
  pub shortest : f.lines.through.smoother.shortest ≡ how.glitch
  pub viewed : f.listener.view ≡ view
  pub noted : f.remarked ≡ has_remark heard
  pub read : (rest : List (List ℕ)) → received_of how form signal (past ++ rest) ≡ with_edges edges (passing_left signal f.lines number rest)
  pub told : (rest : List (List ℕ)) (c : Captured) → passing_left signal f.lines number rest ≡ Ok c
      → (ended : List Listed) × IsTold how.windows f.teller (line_of_edges (edges ++ c.edges)) c.edges c.end ended × IsAudited (edges ++ c.edges) f.listener c.edges ended heard

-- all is told that the lines say, up to the shortest pulse
abbrev pub IsToldTo : AuditFollower → Type 0
IsToldTo f = from_of f.lines.lines ≤ f.teller.known + f.lines.through.smoother.shortest

-- and all is written that is known
abbrev pub IsPrompt : AuditFollower → Type 0
IsPrompt f = IsToldTo f × SaysAllKnown f.listener

abbrev pub IsReady : AuditFollower → Type 0
IsReady f = IsPassing f.lines × IsToldEarly f.teller

-- ---- what goes on after edges

-- before edges with which it goes on: what was told, and what was heard
pub record IsAt (windows : Windows) (f : AuditFollower) (all left : List Edge) (end : ℕ) (heard : List AuditLine) : Type 0 where
  pub ended : List Listed
  pub told : IsTold windows f.teller (line_of_edges all) left end ended
  pub audited : IsAudited all f.listener left ended heard

-- this text is a front of the audit of a capture
abbrev pub IsFrontOfAll : Windows → AuditView → List Edge → ℕ → List ℕ → Type 0
IsFrontOfAll windows view all end text = (rest : List ℕ) × (text_of view windows (record { edges = all; end = end }) ≡ text ++ rest)

-- none of the edges that are left comes before an instant
abbrev pub IsCalmTo : ℕ → List Edge → ℕ → Type 0
IsCalmTo known left end = AreFrom known left × (known ≤ end + 1)

-- these edges are told, and that none comes before an instant
pub record GoesOn (old : AuditFollower) (edges : List Edge) (known : ℕ) (new : AuditFollower) (before after : Option (List ℕ)) : Type 0 where
  pub heard : List AuditLine
  pub put : Appends before after (lines_text old.listener.view.written heard)
  pub lines : new.lines ≡ old.lines
  pub view : new.listener.view ≡ old.listener.view
  pub noted : new.remarked ≡ (old.remarked || has_remark heard)
  pub goes : (windows : Windows) (all left : List Edge) (end : ℕ) (so_far : List AuditLine) → IsCalmTo known left end → IsAt windows old all (edges ++ left) end so_far → IsAt windows new all left end (so_far ++ heard)

pub record GoesTo (old : AuditFollower) (edges : List Edge) (known : ℕ) (before after : Option (List ℕ)) : Type 0 where
  pub text : List ℕ
  pub put : Appends before after text
  pub front : (windows : Windows) (all left : List Edge) (end : ℕ) (so_far : List AuditLine) → IsCalmTo known left end
      → IsAt windows old all (edges ++ left) end so_far → IsFrontOfAll windows old.listener.view all end (lines_text old.listener.view.written so_far ++ text)

-- by the first of these edges two readings wait, whatever comes later
pub record EndsTwo (old : AuditFollower) (edges : List Edge) (known : ℕ) : Type 0 where
  pub front : List Edge
  pub later : List Edge
  pub parts : edges ≡ front ++ later
  pub first : Listed
  pub second : Listed
  pub wait : (windows : Windows) (come left : List Edge) (end : ℕ) (so_far : List AuditLine) → IsCalmTo known left end → IsAt windows old ((come ++ edges) ++ left) (edges ++ left) end so_far
      → TwoWait (come ++ front) first second (captured_by windows (record { edges = (come ++ edges) ++ left; end = end }))

-- neither a fault of a line nor of a reader, nor that more came than is followed
abbrev pub IsOfGoing : AuditFollower → List Edge → ℕ → FollowAuditError → Type 0
IsOfGoing old edges known (Write count) = Unit {0}
IsOfGoing old edges known Waiting = EndsTwo old edges known
IsOfGoing old edges known Memory = Unit {0}
IsOfGoing old edges known (Capture fault) = ⊥
IsOfGoing old edges known Read = ⊥
IsOfGoing old edges known TooLong = ⊥

abbrev pub Goes : AuditFollower → List Edge → ℕ → AuditFollower → Option (List ℕ) → Option (List ℕ) → Result (Unit {0}) FollowAuditError → Type 0
Goes old edges known new before after (Ok done) = GoesOn old edges known new before after
Goes old edges known new before after (Err error) = GoesTo old edges known before after × IsOfGoing old edges known error

-- the same of those of the lines that are left
abbrev pub IsCalmIn : List ℕ → PassingLines → ℕ → ℕ → Type 0
IsCalmIn signal lines number known = (rest : List (List ℕ)) (c : Captured) → passing_left signal lines number rest ≡ Ok c → IsCalmTo known c.edges c.end

-- a line is told: up to an instant before which no edge comes that is left
pub record GoesLine (old : AuditFollower) (edges : List Edge) (new : AuditFollower) (before after : Option (List ℕ)) (result : Result (Unit {0}) FollowAuditError) : Type 0 where
  pub known : ℕ
  pub calm : (signal : List ℕ) (number : ℕ) → IsCalmIn signal old.lines number known
  pub goes : Goes old edges known new before after result

-- the last edges and the end
pub record GoesLast (old : AuditFollower) (edges : List Edge) (end : ℕ) (is : Bool) (before after : Option (List ℕ)) : Type 0 where
  pub heard : List AuditLine
  pub put : Appends before after (lines_text old.listener.view.written heard)
  pub noted : is ≡ (old.remarked || has_remark heard)
  pub whole : (windows : Windows) (all : List Edge) (so_far : List AuditLine) → IsAt windows old all edges end so_far
      → lines_in old.listener.view windows (record { edges = all; end = end }) ≡ so_far ++ heard

pub record GoesCut (old : AuditFollower) (edges : List Edge) (end : ℕ) (before after : Option (List ℕ)) : Type 0 where
  pub text : List ℕ
  pub put : Appends before after text
  pub front : (windows : Windows) (all : List Edge) (so_far : List AuditLine) → IsAt windows old all edges end so_far → IsFrontOfAll windows old.listener.view all end (lines_text old.listener.view.written so_far ++ text)

-- nor that two wait
abbrev pub IsOfEnding : FollowAuditError → Type 0
IsOfEnding (Write count) = Unit {0}
IsOfEnding Memory = Unit {0}
IsOfEnding Waiting = ⊥
IsOfEnding (Capture fault) = ⊥
IsOfEnding Read = ⊥
IsOfEnding TooLong = ⊥

abbrev pub GoesEnd : AuditFollower → List Edge → ℕ → Option (List ℕ) → Option (List ℕ) → Result Bool FollowAuditError → Type 0
GoesEnd old edges end before after (Ok is) = GoesLast old edges end is before after
GoesEnd old edges end before after (Err error) = GoesCut old edges end before after × IsOfEnding error

-- ---- lines

-- Whatever comes after these lines, where some may come, this text is a front of the audit of the capture.
abbrev pub IsFront : Bool → LineForm → List ℕ → Reception → AuditView → List (List ℕ) → List ℕ → Type 0
IsFront more form signal how view past text = (rest : List (List ℕ)) (c : Captured) → AreLeft more rest → received_of how form signal (past ++ rest) ≡ Ok c
    → (left : List ℕ) × (text_of view how.windows c ≡ text ++ left)

-- By the edges that these lines say, before the one of this number, two readings wait: both are of each capture that begins so.
pub record BeginsWithTwo (form : LineForm) (signal : List ℕ) (how : Reception) (past : List (List ℕ)) (number : ℕ) : Type 0 where
  pub come : List Edge
  pub later : List Edge
  pub lines : PassingLines
  pub read : (rest : List (List ℕ)) → received_of how form signal (past ++ rest) ≡ with_edges (come ++ later) (passing_left signal lines number rest)
  pub first : Listed
  pub second : Listed
  pub wait : (rest : List (List ℕ)) (c : Captured) → received_of how form signal (past ++ rest) ≡ Ok c → TwoWait come first second (captured_by how.windows c)

-- a line has come, and what there is to say by it is written
pub record HasHeard (signal : List ℕ) (number : ℕ) (line : List ℕ) (old new : AuditFollower) (before after : Option (List ℕ)) : Type 0 where
  pub heard : List AuditLine
  pub put : Appends before after (lines_text old.listener.view.written heard)
  pub followed : (form : LineForm) (how : Reception) (view : AuditView) (past : List (List ℕ)) (so_far : List AuditLine) → IsFollowed form signal how view past number old so_far
      → IsFollowed form signal how view (past ++ line ∷ []) (number + 1) new (so_far ++ heard)
  pub prompt : IsPrompt new

-- it is at fault, and nothing is written
pub record IsAtFault (signal : List ℕ) (number : ℕ) (line : List ℕ) (old : AuditFollower) (before after : Option (List ℕ)) (fault : At Cause) : Type 0 where
  pub put : Appends before after []
  pub place : fault.line ≡ number
  pub refused : (form : LineForm) (how : Reception) (view : AuditView) (past : List (List ℕ)) (so_far : List AuditLine) → IsFollowed form signal how view past number old so_far
      → (rest : List (List ℕ)) → lines_captured form signal (past ++ line ∷ rest) ≡ Err fault

-- or not all is written
pub record HasStopped (signal : List ℕ) (number : ℕ) (line : List ℕ) (old : AuditFollower) (before after : Option (List ℕ)) : Type 0 where
  pub text : List ℕ
  pub put : Appends before after text
  pub front : (form : LineForm) (how : Reception) (view : AuditView) (past : List (List ℕ)) (so_far : List AuditLine) → IsFollowed form signal how view past number old so_far
      → IsFront true form signal how view (past ++ line ∷ []) (lines_text view.written so_far ++ text)

-- by this line two readings wait
abbrev pub HearsTwo : List ℕ → ℕ → List ℕ → AuditFollower → Type 0
HearsTwo signal number line old = (form : LineForm) (how : Reception) (view : AuditView) (past : List (List ℕ)) (so_far : List AuditLine) → IsFollowed form signal how view past number old so_far
    → BeginsWithTwo form signal how (past ++ line ∷ []) (number + 1)

abbrev pub Hears : List ℕ → ℕ → List ℕ → AuditFollower → AuditFollower → Option (List ℕ) → Option (List ℕ) → Result (Unit {0}) FollowAuditError → Type 0
Hears signal number line old new before after (Ok done) = HasHeard signal number line old new before after
Hears signal number line old new before after (Err (Capture fault)) = IsAtFault signal number line old before after fault
Hears signal number line old new before after (Err (Write count)) = HasStopped signal number line old before after
Hears signal number line old new before after (Err Waiting) = HasStopped signal number line old before after × HearsTwo signal number line old
Hears signal number line old new before after (Err Memory) = HasStopped signal number line old before after
Hears signal number line old new before after (Err Read) = ⊥
Hears signal number line old new before after (Err TooLong) = ⊥

-- no line is left: the audit of the whole is written
pub record IsWhole (form : LineForm) (signal : List ℕ) (how : Reception) (view : AuditView) (lines : List (List ℕ)) (heard : List AuditLine) : Type 0 where
  pub capture : Captured
  pub read : received_of how form signal lines ≡ Ok capture
  pub all : lines_in view how.windows capture ≡ heard

pub record HasWritten (number : ℕ) (f : AuditFollower) (is : Bool) (before after : Option (List ℕ)) : Type 0 where
  pub heard : List AuditLine
  pub put : Appends before after (lines_text f.listener.view.written heard)
  pub noted : is ≡ (f.remarked || has_remark heard)
  pub all : (form : LineForm) (signal : List ℕ) (how : Reception) (view : AuditView) (past : List (List ℕ)) (so_far : List AuditLine) → IsFollowed form signal how view past number f so_far
      → IsWhole form signal how view past (so_far ++ heard)

-- or the end is missing
pub record LacksEnd (number : ℕ) (f : AuditFollower) (before after : Option (List ℕ)) (fault : At Cause) : Type 0 where
  pub put : Appends before after []
  pub place : fault.line ≡ number
  pub refused : (form : LineForm) (signal : List ℕ) (how : Reception) (view : AuditView) (past : List (List ℕ)) (so_far : List AuditLine) → IsFollowed form signal how view past number f so_far
      → lines_captured form signal past ≡ Err fault

-- or not all is written
pub record HasCut (number : ℕ) (f : AuditFollower) (before after : Option (List ℕ)) : Type 0 where
  pub text : List ℕ
  pub put : Appends before after text
  pub front : (form : LineForm) (signal : List ℕ) (how : Reception) (view : AuditView) (past : List (List ℕ)) (so_far : List AuditLine) → IsFollowed form signal how view past number f so_far
      → IsFront false form signal how view past (lines_text view.written so_far ++ text)

abbrev pub Ends : ℕ → AuditFollower → Option (List ℕ) → Option (List ℕ) → Result Bool FollowAuditError → Type 0
Ends number f before after (Ok is) = HasWritten number f is before after
Ends number f before after (Err (Capture fault)) = LacksEnd number f before after fault
Ends number f before after (Err (Write count)) = HasCut number f before after
Ends number f before after (Err Waiting) = ⊥
Ends number f before after (Err Memory) = HasCut number f before after
Ends number f before after (Err Read) = ⊥
Ends number f before after (Err TooLong) = ⊥

-- ---- an input

-- the audit of the capture that an input spells is written, and nothing else, and it is known whether one of its lines is a remark
pub record HasFollowed (form : LineForm) (signal : List ℕ) (how : Reception) (view : AuditView) (is : Bool) (known old new : Option (List ℕ)) : Type 0 where
  pub input : List ℕ
  pub all : IfSome known (λ text. input ≡ text)
  pub capture : Captured
  pub read : capture_in (form_as form) signal input ≡ Ok capture
  pub put : Appends old new (text_of view how.windows (received how capture))
  pub noted : is ≡ has_remark (lines_in view how.windows (received how capture))

-- All that these lines say is written, and nothing else: the front of the audit of each capture that begins so.
pub record IsUpToDate (form : LineForm) (signal : List ℕ) (how : Reception) (view : AuditView) (past : List (List ℕ)) (old new : Option (List ℕ)) : Type 0 where
  pub follower : AuditFollower
  pub heard : List AuditLine
  pub followed : IsFollowed form signal how view past (length past + 1) follower heard
  pub prompt : IsPrompt follower
  pub front : IsFront true form signal how view past (lines_text view.written heard)
  pub put : Appends old new (lines_text view.written heard)

-- lines of it have come, all of them or not, and a front of the audit is written
pub record HasBegun (form : LineForm) (signal : List ℕ) (how : Reception) (view : AuditView) (known old new : Option (List ℕ)) : Type 0 where
  pub past : List (List ℕ)
  pub more : Bool
  pub came : IfSome known (λ text. (rest : List (List ℕ)) × (lines_of text ≡ past ++ rest) × AreLeft more rest)
  pub text : List ℕ
  pub front : IsFront more form signal how view past text
  pub put : Appends old new text

-- the same where two readings wait
pub record StopsAtTwo (form : LineForm) (signal : List ℕ) (how : Reception) (view : AuditView) (known old new : Option (List ℕ)) : Type 0 where
  pub begun : HasBegun form signal how view known old new
  pub two : BeginsWithTwo form signal how begun.past (length begun.past + 1)

abbrev pub Follows : LineForm → List ℕ → Reception → AuditView → Option (List ℕ) → Option (List ℕ) → Option (List ℕ) → Result Bool FollowAuditError → Type 0
Follows form signal how view known old new (Ok is) = HasFollowed form signal how view is known old new
Follows form signal how view known old new (Err (Capture fault)) = StopsAtFault form signal known fault (λ past. IsUpToDate form signal how view past old new)
Follows form signal how view known old new (Err Read) = StopsAtRead known (λ past. IsUpToDate form signal how view past old new)
Follows form signal how view known old new (Err TooLong) = StopsAtLength known (λ past. IsUpToDate form signal how view past old new)
Follows form signal how view known old new (Err Waiting) = StopsAtTwo form signal how view known old new
Follows form signal how view known old new (Err Memory) = HasBegun form signal how view known old new
Follows form signal how view known old new (Err (Write count)) = HasBegun form signal how view known old new

-- of a fault of the capture nothing is held back
abbrev pub IsHandedOn : FollowAuditError → List ℕ → Type 0
IsHandedOn (Capture fault) pending = pending ≡ []
IsHandedOn Read pending = pending ≡ []
IsHandedOn TooLong pending = pending ≡ []
IsHandedOn Waiting pending = Unit {0}
IsHandedOn Memory pending = Unit {0}
IsHandedOn (Write count) pending = Unit {0}

-- what was put with such a fault: nothing
abbrev pub LeavesAlone : {A : Type 0} → FollowAuditError → A → A → Type 0
LeavesAlone (Capture fault) old new = new ≡ old
LeavesAlone Read old new = new ≡ old
LeavesAlone TooLong old new = new ≡ old
LeavesAlone Waiting old new = Unit {0}
LeavesAlone Memory old new = Unit {0}
LeavesAlone (Write count) old new = Unit {0}

-- an error without its count
abbrev pub kind_of : FollowAuditError → FollowAuditError
kind_of (Write count) = Write 0
kind_of (Capture fault) = Capture fault
kind_of Read = Read
kind_of TooLong = TooLong
kind_of Waiting = Waiting
kind_of Memory = Memory

-- where nothing was held back before
abbrev pub HoldsNothing : {A : Type 0} → Result A FollowAuditError → List ℕ → List ℕ → Type 0
HoldsNothing result old new = IfErr result (λ error. old ≡ [] → IsHandedOn error new)

-- why no line could be read
abbrev pub line_error : IncomingFault → FollowAuditError
line_error line_fault.Read = Read
line_error line_fault.TooLong = TooLong
