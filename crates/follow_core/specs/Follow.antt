-- What is reported of a capture as its lines come: at each moment the front of the text of the whole, whatever comes later (own).
use Rattle.std.specs.Prelude.{◌≡◌, ℕ, ◌+◌, ◌<◌, ◌≤◌, ◌⊎◌, Bool, true, false, List, [], ◌∷◌, ◌++◌, length, Option, Some, None, IfErr, IfSome, Result, Ok, Err}
use Rattle.std.specs.Io.KnownBytes.{Appends}
use Rattle.text_core.specs.Lines.{lines_of}
use Rattle.text_core.specs.declared.at.At.{At}
use Rattle.line_wave.specs.declared.Edge.{Edge}
use Rattle.capture_core.specs.Edges.{Captured, line_of_edges}
use Rattle.capture_core.specs.Reading.{with_edges}
use Rattle.capture_core.specs.declared.fault.Cause.{Cause}
use Rattle.capture_monitor.specs.Watch.{captured_by}
use Rattle.audit_notes.specs.Lines.{AuditLine, lines_text}
use Rattle.capture_forms.specs.Captures.{capture_in}
use Rattle.live_incoming.specs.Incoming.{IsNext, longest_line}
use Rattle.live_incoming.specs.declared.incoming.IncomingFault.{IncomingFault}
use Rattle.live_incoming.specs.declared.incoming.IncomingFault.TheVariants as line_fault
use Rattle.line_reading.specs.Readings.{Listed}
use Rattle.capture_through.specs.Through.{made_of}
use Rattle.follow_core.specs.Lines.{form_as, from_of, lines_captured}
use Rattle.follow_core.specs.Passing.{IsPassing, passing_captured, passing_left}
use Rattle.follow_core.specs.Shown.{IsShown, IsShownOf, Puts, Shows, ShowsLast, start_by}
use Rattle.follow_core.specs.Teller.{IsTold, IsToldEarly}
use Rattle.follow_core.specs.declared.shown.Shown.{Shown}
use Rattle.follow_core.specs.declared.shown.Starts.{Starts}
use Rattle.follow_core.specs.declared.view.ReadingView.{ReadingView}
use Rattle.follow_core.specs.declared.follower.LastReadings.{LastReadings}
use Rattle.follow_core.specs.declared.reception.Reception.{Reception}
use Rattle.follow_core.specs.declared.lines.LineForm.{LineForm}
use Rattle.follow_core.specs.declared.follower.Follower.{Follower}
use Rattle.follow_core.specs.declared.follower.EndedReadings.{EndedReadings}
use Rattle.follow_core.specs.declared.error.FollowError.{FollowError}
use Rattle.follow_core.specs.declared.error.FollowError.TheVariants.{Capture, Read, TooLong, Write}

-- a whole capture, as it is read, and that a text is what is shown of it
abbrev pub received : Reception → Captured → Captured
received how c = record { edges = made_of how.inverted how.glitch c.edges; end = c.end }

abbrev pub IsTextOf : ReadingView → Reception → Captured → List ℕ → Type 0
IsTextOf view how c text = IsShownOf view c (captured_by how.windows c) text

-- what is read of lines
abbrev pub received_of : Reception → LineForm → List ℕ → List (List ℕ) → Result Captured (At Cause)
received_of how form signal lines = passing_captured how.inverted how.glitch form signal lines

-- ---- a follower

-- from which instant readings are by themselves, where it is known
abbrev pub start_of : Bool → Follower → Option ℕ
start_of from_idle f = start_by from_idle f.teller.search.found

-- Of a capture these lines came, before the one of this number, and this text was shown: whatever comes later, it is what is shown of
-- the readings that have ended.
pub record IsFollowed (form : LineForm) (signal : List ℕ) (view : ReadingView) (how : Reception) (past : List (List ℕ)) (number : ℕ) (f : Follower) (text : List ℕ) : Type 0 where
  pub edges : List Edge
  pub shortest : f.lines.through.smoother.shortest ≡ how.glitch
  pub read : (rest : List (List ℕ)) → received_of how form signal (past ++ rest) ≡ with_edges edges (passing_left signal f.lines number rest)
  pub told : (rest : List (List ℕ)) (c : Captured) → passing_left signal f.lines number rest ≡ Ok c
      → (ended : List Listed) × IsTold how.windows f.teller (line_of_edges (edges ++ c.edges)) c.edges c.end ended × IsShown view (start_of view.from_idle f) f.shown ended text

-- all is told that the lines say, up to the shortest pulse: each reading that is over by them has ended
abbrev pub IsPrompt : Follower → Type 0
IsPrompt f = from_of f.lines.lines ≤ f.teller.known + f.lines.through.smoother.shortest

abbrev pub IsReady : Follower → Type 0
IsReady f = IsPassing f.lines × IsToldEarly f.teller

-- the same follower, of which this is held back
abbrev pub holding : Follower → Shown → Follower
holding f shown = record f { shown = shown }

abbrev pub starts_at : Bool → Follower → Option ℕ → Starts
starts_at from_idle f now = record { before = start_of from_idle f; now = now }

-- a line has come
abbrev pub HearsLine : List ℕ → ℕ → List ℕ → Follower → Result EndedReadings (At Cause) → Follower → Type 0
HearsLine signal number line old (Ok heard) new = (form : LineForm) (view : ReadingView) (how : Reception) (past : List (List ℕ)) (text : List ℕ) (shown : Shown) (done : List AuditLine) → IsFollowed form signal view how past number old text
    → Shows view.folds (starts_at view.from_idle old (start_of view.from_idle new)) old.shown heard shown done
    → IsFollowed form signal view how (past ++ line ∷ []) (number + 1) (holding new shown) (text ++ lines_text view.written done)
HearsLine signal number line old (Err fault) new = (form : LineForm) (view : ReadingView) (how : Reception) (past : List (List ℕ)) (text : List ℕ) → IsFollowed form signal view how past number old text
    → (rest : List (List ℕ)) → lines_captured form signal (past ++ line ∷ rest) ≡ Err fault

-- no line is left
pub record IsWhole (form : LineForm) (signal : List ℕ) (view : ReadingView) (how : Reception) (lines : List (List ℕ)) (text : List ℕ) : Type 0 where
  pub capture : Captured
  pub read : received_of how form signal lines ≡ Ok capture
  pub all : IsTextOf view how capture text

abbrev pub HearsEnd : ℕ → Follower → Result LastReadings (At Cause) → Type 0
HearsEnd number f (Ok last) = (form : LineForm) (signal : List ℕ) (view : ReadingView) (how : Reception) (past : List (List ℕ)) (text : List ℕ) (done : List AuditLine) → IsFollowed form signal view how past number f text
    → ShowsLast view.folds (starts_at view.from_idle f (start_by view.from_idle (Some last.idle))) f.shown last.ended done → IsWhole form signal view how past (text ++ lines_text view.written done)
HearsEnd number f (Err fault) = (form : LineForm) (signal : List ℕ) (view : ReadingView) (how : Reception) (past : List (List ℕ)) (text : List ℕ) → IsFollowed form signal view how past number f text
    → lines_captured form signal past ≡ Err fault

-- ---- what is written

-- nothing but a write fails
abbrev pub IsOfWriting : Result (Unit {0}) FollowError → Type 0
IsOfWriting (Ok done) = Unit {0}
IsOfWriting (Err (Write count)) = Unit {0}
IsOfWriting (Err (Capture fault)) = ⊥
IsOfWriting (Err Read) = ⊥
IsOfWriting (Err TooLong) = ⊥

-- whether lines are left, or these are all
abbrev pub AreLeft : Bool → List (List ℕ) → Type 0
AreLeft true rest = Unit {0}
AreLeft false rest = rest ≡ []

-- Whatever comes after these lines, where some may come, this text is a front of what is shown of the capture.
abbrev pub IsFront : Bool → LineForm → List ℕ → ReadingView → Reception → List (List ℕ) → List ℕ → Type 0
IsFront more form signal view how past text = (rest : List (List ℕ)) (c : Captured) (all : List ℕ) → AreLeft more rest → received_of how form signal (past ++ rest) ≡ Ok c → IsTextOf view how c all
    → (left : List ℕ) × (all ≡ text ++ left)

-- a line has come, and what has ended by it is written
pub record HasHeard (view : ReadingView) (signal : List ℕ) (number : ℕ) (line : List ℕ) (old new : Follower) (before after : Option (List ℕ)) : Type 0 where
  pub text : List ℕ
  pub put : Appends before after text
  pub followed : (form : LineForm) (how : Reception) (past : List (List ℕ)) (so_far : List ℕ) → IsFollowed form signal view how past number old so_far
      → IsFollowed form signal view how (past ++ line ∷ []) (number + 1) new (so_far ++ text)
  pub prompt : IsPrompt new

-- it is at fault, and nothing is written
pub record IsAtFault (signal : List ℕ) (number : ℕ) (line : List ℕ) (old : Follower) (before after : Option (List ℕ)) (fault : At Cause) : Type 0 where
  pub put : Appends before after []
  pub place : fault.line ≡ number
  pub refused : (form : LineForm) (view : ReadingView) (how : Reception) (past : List (List ℕ)) (so_far : List ℕ) → IsFollowed form signal view how past number old so_far
      → (rest : List (List ℕ)) → lines_captured form signal (past ++ line ∷ rest) ≡ Err fault

-- a write failed: a front of what has ended by it is written
pub record IsCut (view : ReadingView) (signal : List ℕ) (number : ℕ) (line : List ℕ) (old new : Follower) (before after : Option (List ℕ)) : Type 0 where
  pub text : List ℕ
  pub left : List ℕ
  pub put : Appends before after text
  pub followed : (form : LineForm) (how : Reception) (past : List (List ℕ)) (so_far : List ℕ) → IsFollowed form signal view how past number old so_far
      → IsFollowed form signal view how (past ++ line ∷ []) (number + 1) new (so_far ++ (text ++ left))
  pub prompt : IsPrompt new

abbrev pub Hears : ReadingView → List ℕ → ℕ → List ℕ → Follower → Follower → Option (List ℕ) → Option (List ℕ) → Result (Unit {0}) FollowError → Type 0
Hears view signal number line old new before after (Ok done) = HasHeard view signal number line old new before after
Hears view signal number line old new before after (Err (Capture fault)) = IsAtFault signal number line old before after fault
Hears view signal number line old new before after (Err (Write count)) = IsCut view signal number line old new before after
Hears view signal number line old new before after (Err Read) = ⊥
Hears view signal number line old new before after (Err TooLong) = ⊥

-- no line is left, and the rest is written, or the end is missing
pub record HasWritten (view : ReadingView) (number : ℕ) (f : Follower) (before after : Option (List ℕ)) : Type 0 where
  pub text : List ℕ
  pub put : Appends before after text
  pub all : (form : LineForm) (signal : List ℕ) (how : Reception) (past : List (List ℕ)) (so_far : List ℕ) → IsFollowed form signal view how past number f so_far
      → IsWhole form signal view how past (so_far ++ text)

pub record LacksEnd (number : ℕ) (f : Follower) (before after : Option (List ℕ)) (fault : At Cause) : Type 0 where
  pub put : Appends before after []
  pub place : fault.line ≡ number
  pub refused : (form : LineForm) (signal : List ℕ) (view : ReadingView) (how : Reception) (past : List (List ℕ)) (so_far : List ℕ) → IsFollowed form signal view how past number f so_far → lines_captured form signal past ≡ Err fault

pub record IsCutLast (view : ReadingView) (number : ℕ) (f : Follower) (before after : Option (List ℕ)) : Type 0 where
  pub text : List ℕ
  pub left : List ℕ
  pub put : Appends before after text
  pub all : (form : LineForm) (signal : List ℕ) (how : Reception) (past : List (List ℕ)) (so_far : List ℕ) → IsFollowed form signal view how past number f so_far
      → IsWhole form signal view how past (so_far ++ (text ++ left))

abbrev pub Ends : ReadingView → ℕ → Follower → Option (List ℕ) → Option (List ℕ) → Result (Unit {0}) FollowError → Type 0
Ends view number f before after (Ok done) = HasWritten view number f before after
Ends view number f before after (Err (Capture fault)) = LacksEnd number f before after fault
Ends view number f before after (Err (Write count)) = IsCutLast view number f before after
Ends view number f before after (Err Read) = ⊥
Ends view number f before after (Err TooLong) = ⊥

-- ---- an input

-- what is shown of the capture that an input spells is written, and nothing else
pub record HasFollowed (form : LineForm) (signal : List ℕ) (view : ReadingView) (how : Reception) (known old new : Option (List ℕ)) : Type 0 where
  pub input : List ℕ
  pub all : IfSome known (λ text. input ≡ text)
  pub capture : Captured
  pub read : capture_in (form_as form) signal input ≡ Ok capture
  pub text : List ℕ
  pub is : IsTextOf view how (received how capture) text
  pub put : Appends old new text

-- its first lines are these
abbrev pub AreFirst : Option (List ℕ) → List (List ℕ) → Type 0
AreFirst known past = IfSome known (λ text. (rest : List (List ℕ)) × (lines_of text ≡ past ++ rest))

-- and the next one is this, or there is none
abbrev pub HaveCome : Option (List ℕ) → List (List ℕ) → Option (List ℕ) → Type 0
HaveCome known past (Some line) = AreFirst known (past ++ line ∷ [])
HaveCome known past None = IfSome known (λ text. lines_of text ≡ past)

-- these lines came of an input, and this is left of it
abbrev pub Come : Option (List ℕ) → Option (List ℕ) → List (List ℕ) → Type 0
Come None after lines = Unit {0}
Come (Some before) None lines = ⊥
Come (Some before) (Some after) lines = lines_of before ≡ lines ++ lines_of after

-- What is shown of the readings that are over by these lines is written, and nothing else: the front of what is shown of each capture
-- that begins so.
pub record IsUpToDate (form : LineForm) (signal : List ℕ) (view : ReadingView) (how : Reception) (past : List (List ℕ)) (old new : Option (List ℕ)) : Type 0 where
  pub follower : Follower
  pub text : List ℕ
  pub followed : IsFollowed form signal view how past (length past + 1) follower text
  pub prompt : IsPrompt follower
  pub front : IsFront true form signal view how past text
  pub put : Appends old new text

-- a line is at fault whatever comes after it, or the end is missing
abbrev pub IsRefused : LineForm → List ℕ → List (List ℕ) → Option (List ℕ) → At Cause → Type 0
IsRefused form signal past (Some line) fault = (rest : List (List ℕ)) → lines_captured form signal (past ++ line ∷ rest) ≡ Err fault
IsRefused form signal past None fault = lines_captured form signal past ≡ Err fault

-- the fault is that of the input, and at the line after these, up to which all is written
pub record StopsAtFault (form : LineForm) (signal : List ℕ) (known : Option (List ℕ)) (fault : At Cause) (IsUpTo : List (List ℕ) → Type 0) : Type 0 where
  pub past : List (List ℕ)
  pub next : Option (List ℕ)
  pub came : HaveCome known past next
  pub place : fault.line ≡ length past + 1
  pub refused : IsRefused form signal past next fault
  pub read : IfSome known (λ text. capture_in (form_as form) signal text ≡ Err fault)
  pub written : IsUpTo past

-- a read failed after these lines
pub record StopsAtRead (known : Option (List ℕ)) (IsUpTo : List (List ℕ) → Type 0) : Type 0 where
  pub past : List (List ℕ)
  pub came : AreFirst known past
  pub written : IsUpTo past

-- the line after these has more bytes than a line may have, or these are as many as are counted
abbrev pub IsTooMuch : Option (List ℕ) → List (List ℕ) → Type 0
IsTooMuch known past = ((line : List ℕ) × (longest_line < length line) × HaveCome known past (Some line)) ⊎ ((length past ≡ 18446744073709551615) × AreFirst known past)

-- where more has come of a line than it may have, it is too long
abbrev pub LongLinesAreTooMuch : Type 0
LongLinesAreTooMuch = (known now next : Option (List ℕ)) (past : List (List ℕ)) (line : List ℕ) → Come known now past → IsNext now next line (Err line_fault.TooLong) → IsTooMuch known past

-- more came than is followed: all is written that the lines before say
pub record StopsAtLength (known : Option (List ℕ)) (IsUpTo : List (List ℕ) → Type 0) : Type 0 where
  pub past : List (List ℕ)
  pub over : IsTooMuch known past
  pub written : IsUpTo past

-- this text is all that is shown of what is over by these lines and the next one, or by all of them where there is none; and this is a front of that of
-- each capture that begins so
abbrev pub IsOverBy : LineForm → List ℕ → ReadingView → Reception → List (List ℕ) → Option (List ℕ) → List ℕ → List ℕ → Type 0
IsOverBy form signal view how past (Some line) text front =
    (f : Follower) × IsFollowed form signal view how (past ++ line ∷ []) (length past + 1 + 1) f text × IsPrompt f × IsFront true form signal view how (past ++ line ∷ []) front
IsOverBy form signal view how past None text front = IsWhole form signal view how past text × IsFront false form signal view how past front

-- a write failed: what was over by these lines is written, and a front of what is over by the next one, or with the end
pub record StopsAtWrite (form : LineForm) (signal : List ℕ) (view : ReadingView) (how : Reception) (known old new : Option (List ℕ)) : Type 0 where
  pub past : List (List ℕ)
  pub next : Option (List ℕ)
  pub came : HaveCome known past next
  pub follower : Follower
  pub text : List ℕ
  pub followed : IsFollowed form signal view how past (length past + 1) follower text
  pub prompt : IsPrompt follower
  pub front : List ℕ
  pub left : List ℕ
  pub over : IsOverBy form signal view how past next (text ++ (front ++ left)) (text ++ front)
  pub put : Appends old new (text ++ front)

-- nothing is held back, but where a write failed
abbrev pub IsHandedOn : FollowError → List ℕ → Type 0
IsHandedOn (Capture fault) pending = pending ≡ []
IsHandedOn Read pending = pending ≡ []
IsHandedOn TooLong pending = pending ≡ []
IsHandedOn (Write count) pending = Unit {0}

-- where nothing was held back before
abbrev pub HoldsNothing : Result (Unit {0}) FollowError → List ℕ → List ℕ → Type 0
HoldsNothing result old new = IfErr result (λ error. old ≡ [] → IsHandedOn error new)

-- why no line was read
abbrev pub line_error : IncomingFault → FollowError
line_error line_fault.Read = Read
line_error line_fault.TooLong = TooLong

abbrev pub Stops : LineForm → List ℕ → ReadingView → Reception → Option (List ℕ) → Option (List ℕ) → Option (List ℕ) → FollowError → Type 0
Stops form signal view how known old new (Capture fault) = StopsAtFault form signal known fault (λ past. IsUpToDate form signal view how past old new)
Stops form signal view how known old new Read = StopsAtRead known (λ past. IsUpToDate form signal view how past old new)
Stops form signal view how known old new TooLong = StopsAtLength known (λ past. IsUpToDate form signal view how past old new)
Stops form signal view how known old new (Write count) = StopsAtWrite form signal view how known old new

abbrev pub Follows : LineForm → List ℕ → ReadingView → Reception → Option (List ℕ) → Option (List ℕ) → Option (List ℕ) → Result (Unit {0}) FollowError → Type 0
Follows form signal view how known old new (Ok done) = HasFollowed form signal view how known old new
Follows form signal view how known old new (Err error) = Stops form signal view how known old new error
