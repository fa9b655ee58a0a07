-- What is written of the readings of a capture as they end: the front of its audit (own).
use Rattle.std.specs.Prelude.{◌≡◌, ℕ, Bool, true, false, List, [], ◌∷◌, ◌++◌, ◌||◌, length, Option, Some, None, Result, Ok, Err, option_map}
use Rattle.std.specs.Option.{option_to_list}
use Rattle.std.specs.Io.KnownBytes.{Appends}
use Rattle.line_wave.specs.declared.Edge.{Edge}
use Rattle.line_reading.specs.Readings.{Listed}
use Rattle.line_reading.specs.Reports.{listed_as}
use Rattle.audit_widths.specs.Lows.{gone_to}
use Rattle.capture_core.specs.Edges.{Captured}
use Rattle.audit_notes.specs.Lines.{AuditLine, has_remark, lines_text}
use Rattle.audit_notes.specs.Lines.AuditLine.{Reading}
use Rattle.follow_audit.specs.declared.view.AuditView.{AuditView}
use Rattle.audit_core.specs.Audit.{after_all, audit_lines, first_tape, heard_all, remark_lines, tape_at}
use Rattle.follow_audit.specs.Settled.{IsKnown, TwoWait, is_settled, later}
use Rattle.follow_audit.specs.declared.error.FollowAuditError.{FollowAuditError}
use Rattle.follow_audit.specs.declared.error.FollowAuditError.TheVariants.{Capture, Memory, Read, TooLong, Waiting, Write}
use Rattle.follow_audit.specs.declared.listener.Listener.{Listener}

-- the line of a reading, of which what there is to remark is not written
abbrev pub line_of : Option Listed → List AuditLine
line_of None = []
line_of (Some x) = Reading x ∷ []

-- what waits
abbrev pub waits : Listener → Option Listed
waits a = option_map listed_as a.waiting

abbrev pub waiting_count : Listener → ℕ
waiting_count a = length (option_to_list (waits a))

-- Of a capture of these edges, some of which are left, these readings have ended: all lines of them were heard, but for what there is
-- to remark of the last one, where that waits. Of the edges that have come, those are kept from where the audit stands on.
pub record IsAudited (edges : List Edge) (a : Listener) (left : List Edge) (ended : List Listed) (lines : List AuditLine) : Type 0 where
  pub done : List Listed
  pub parts : ended ≡ done ++ option_to_list (waits a)
  pub kept : tape_at (gone_to a.from (a.window.items ++ left)) a.auditor ≡ after_all (first_tape edges) done
  pub said : lines ≡ heard_all a.view.timing (first_tape edges) done ++ line_of (waits a)
  pub come : List Edge
  pub all : edges ≡ come ++ left
  pub stands : (es : List Edge) → (after_all (first_tape es) done).place ≡ gone_to a.from es
  pub window : (more : List Edge) → gone_to a.from (come ++ more) ≡ gone_to a.from (a.window.items ++ more)

-- an edge is kept, if there is one
abbrev pub TakesEdge : Listener → Option Edge → Listener → Type 0
TakesEdge old edge new = (new.view ≡ old.view) × (new.waiting ≡ old.waiting) × ((edges left : List Edge) (ended : List Listed) (lines : List AuditLine)
    → IsAudited edges old (option_to_list edge ++ left) ended lines → IsAudited edges new left ended lines)

-- edges are kept
abbrev pub TakesEdges : Listener → List Edge → Listener → Type 0
TakesEdges old edges new = (new.view ≡ old.view) × ((all left : List Edge) (ended : List Listed) (lines : List AuditLine) → IsAudited all old (edges ++ left) ended lines → IsAudited all new left ended lines)

-- what there is to remark of what waits, by the edges that have come
abbrev pub remarks_for : Listener → Option Listed → List AuditLine
remarks_for a None = []
remarks_for a (Some x) = remark_lines a.view.timing (tape_at (gone_to (later a.from x.begin) a.window.items) a.auditor) x

abbrev pub remarks_of : Listener → List AuditLine
remarks_of a = remarks_for a (waits a)

-- it is known, whatever comes later
abbrev pub KnownBy : Listener → List Edge → Option Listed → Type 0
KnownBy a left None = Unit {0}
KnownBy a left (Some x) = IsKnown a.from a.window.items left x

abbrev pub WaitsForNothing : Listener → List Edge → Type 0
WaitsForNothing a left = KnownBy a left (waits a)

-- nothing waits that is known
abbrev pub settled_by : Listener → Option Listed → Bool
settled_by a None = false
settled_by a (Some x) = is_settled x (gone_to (later a.from x.begin) a.window.items)

abbrev pub SaysAllKnown : Listener → Type 0
SaysAllKnown a = settled_by a (waits a) ≡ false

-- what waits is said whole
pub record Remarks (old new : Listener) : Type 0 where
  pub none : new.waiting ≡ None
  pub view : new.view ≡ old.view
  pub audited : (edges left : List Edge) (ended : List Listed) (lines : List AuditLine) → WaitsForNothing old left → IsAudited edges old left ended lines → IsAudited edges new left ended (lines ++ remarks_of old)

-- some lines are heard, which go on with the audit, of these further readings
pub record Says {H : Type 0} (hears : H → List AuditLine → H → Type 0) (old : Listener) (more : List Listed) (new : Listener) (mid out : H) : Type 0 where
  pub lines : List AuditLine
  pub put : hears mid lines out
  pub view : new.view ≡ old.view
  pub audited : (edges left : List Edge) (ended : List Listed) (so_far : List AuditLine) → IsAudited edges old left ended so_far → IsAudited edges new left (ended ++ more) (so_far ++ lines)

-- or only of the first of them: one waits, and the next would wait beside it
pub record SaysSome {H : Type 0} (hears : H → List AuditLine → H → Type 0) (old : Listener) (more : List Listed) (new : Listener) (mid out : H) : Type 0 where
  pub heard : List Listed
  pub next : Listed
  pub rest : List Listed
  pub parts : more ≡ heard ++ next ∷ rest
  pub one : waiting_count new ≡ 1
  pub says : Says hears old heard new mid out

-- where readings are heard, by whether nothing waited before each
abbrev pub HearsAll : {H : Type 0} → (H → List AuditLine → H → Type 0) → Listener → List Listed → Bool → Listener → H → H → Type 0
HearsAll hears old more true new mid out = Says hears old more new mid out
HearsAll hears old more false new mid out = SaysSome hears old more new mid out

-- the same where no edge is left, so that nothing waits
pub record SaysLast {H : Type 0} (hears : H → List AuditLine → H → Type 0) (old : Listener) (more : List Listed) (new : Listener) (mid out : H) : Type 0 where
  pub lines : List AuditLine
  pub put : hears mid lines out
  pub none : new.waiting ≡ None
  pub view : new.view ≡ old.view
  pub audited : (edges : List Edge) (ended : List Listed) (so_far : List AuditLine) → IsAudited edges old [] ended so_far → IsAudited edges new [] (ended ++ more) (so_far ++ lines)

-- and the rest, up to an end
pub record SaysEnd {H : Type 0} (hears : H → List AuditLine → H → Type 0) (old : Listener) (more : List Listed) (end : ℕ) (mid out : H) : Type 0 where
  pub lines : List AuditLine
  pub put : hears mid lines out
  pub whole : (edges : List Edge) (ended : List Listed) (so_far : List AuditLine) → IsAudited edges old [] ended so_far → audit_lines old.view.timing (record { edges = edges; end = end }) (ended ++ more) ≡ so_far ++ lines

-- ---- what is written of the lines

-- the audit of a capture with these readings: its lines, or their objects
abbrev pub audit_text : AuditView → Captured → List Listed → List ℕ
audit_text view c xs = lines_text view.written (audit_lines view.timing c xs)

-- this text is a front of the audit of each capture whose edges these are and whose readings begin with these
abbrev pub IsFrontOf : AuditView → List Edge → List Listed → List ℕ → Type 0
IsFrontOf view edges ended text = (end : ℕ) (more : List Listed) → (rest : List ℕ) × (audit_text view (record { edges = edges; end = end }) (ended ++ more) ≡ text ++ rest)

-- with these further readings two wait
pub record TellsTwo (old : Listener) (more : List Listed) : Type 0 where
  pub first : Listed
  pub second : Listed
  pub wait : (come left : List Edge) (ended : List Listed) (so_far : List AuditLine) → IsAudited (come ++ left) old left ended so_far → TwoWait come first second (ended ++ more)

-- readings that have ended are told one after another: what goes on with the audit is put, or a front of it, where two wait or a
-- `put` took none
abbrev pub IsOfListening : Listener → List Listed → FollowAuditError → Type 0
IsOfListening old more (Write count) = Unit {0}
IsOfListening old more Waiting = TellsTwo old more
IsOfListening old more TooLong = ⊥
IsOfListening old more (Capture fault) = ⊥
IsOfListening old more Read = ⊥
IsOfListening old more Memory = ⊥

-- all lines are put, and it is known whether one of them, or one before them, is a remark
pub record PutsAll (old : Listener) (more : List Listed) (new : Listener) (was is : Bool) (before after : Option (List ℕ)) : Type 0 where
  pub lines : List AuditLine
  pub put : Appends before after (lines_text old.view.written lines)
  pub noted : is ≡ (was || has_remark lines)
  pub view : new.view ≡ old.view
  pub audited : (edges left : List Edge) (ended : List Listed) (so_far : List AuditLine) → IsAudited edges old left ended so_far → IsAudited edges new left (ended ++ more) (so_far ++ lines)

pub record PutsFront (old : Listener) (more : List Listed) (before after : Option (List ℕ)) : Type 0 where
  pub text : List ℕ
  pub put : Appends before after text
  pub front : (edges left : List Edge) (ended : List Listed) (so_far : List AuditLine) → IsAudited edges old left ended so_far → IsFrontOf old.view edges (ended ++ more) (lines_text old.view.written so_far ++ text)

abbrev pub Puts : Listener → List Listed → Listener → Bool → Bool → Option (List ℕ) → Option (List ℕ) → Result (Unit {0}) FollowAuditError → Type 0
Puts old more new was is before after (Ok done) = PutsAll old more new was is before after
Puts old more new was is before after (Err error) = PutsFront old more before after × IsOfListening old more error

-- no edge is left: all is put, up to the end
pub record PutsLast (old : Listener) (more : List Listed) (end : ℕ) (was is : Bool) (before after : Option (List ℕ)) : Type 0 where
  pub lines : List AuditLine
  pub put : Appends before after (lines_text old.view.written lines)
  pub noted : is ≡ (was || has_remark lines)
  pub whole : (edges : List Edge) (ended : List Listed) (so_far : List AuditLine) → IsAudited edges old [] ended so_far → audit_lines old.view.timing (record { edges = edges; end = end }) (ended ++ more) ≡ so_far ++ lines

pub record PutsCut (old : Listener) (more : List Listed) (end : ℕ) (before after : Option (List ℕ)) : Type 0 where
  pub text : List ℕ
  pub rest : List ℕ
  pub put : Appends before after text
  pub whole : (edges : List Edge) (ended : List Listed) (so_far : List AuditLine) → IsAudited edges old [] ended so_far
      → audit_text old.view (record { edges = edges; end = end }) (ended ++ more) ≡ lines_text old.view.written so_far ++ (text ++ rest)

-- a `put` took none
abbrev pub IsOfWriting : FollowAuditError → Type 0
IsOfWriting (Write count) = Unit {0}
IsOfWriting Waiting = ⊥
IsOfWriting TooLong = ⊥
IsOfWriting (Capture fault) = ⊥
IsOfWriting Read = ⊥
IsOfWriting Memory = ⊥

abbrev pub Finishes : Listener → List Listed → ℕ → Bool → Option (List ℕ) → Option (List ℕ) → Result Bool FollowAuditError → Type 0
Finishes old more end was before after (Ok is) = PutsLast old more end was is before after
Finishes old more end was before after (Err error) = PutsCut old more end before after × IsOfWriting error
