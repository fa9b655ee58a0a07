-- What is shown of readings that have ended, and of those that come after them.
use Rattle.std.proofs.Common.{◌≡◌, ℕ, ◌+◌, ◌≤◌, ◌||◌, Bool, true, false, List, [], ◌∷◌, ◌++◌, map, Option, Some, None, refl, sym, ap, subst, ◌∙◌, append_assoc, append-nil, arith}
use Rattle.std.proofs.lemmas.Grind.{flat_map-append}
use Rattle.line_wave.specs.Line.{Line}
use Rattle.capture_core.specs.Edges.{Captured, line_of_edges}
use Rattle.capture_join.specs.Joined.{IsFoundBefore, IsJoined, Stays, has_begun, joined_lines, lines_from, opened}
use Rattle.capture_join.proofs.WhenIdle.{idle_once}
use Rattle.capture_join.proofs.JoinedLines.{begun_more, begun_none, lines_from_more, no_lines_from, none_joined, one_line}
use Rattle.capture_join.proofs.Search.{found_later, joined_later, known_joined}
use Rattle.capture_monitor.specs.ReadBy.{ended_before_by}
use Rattle.capture_monitor.specs.Watch.{captured_by}
use Rattle.follow_core.specs.Follow.{IsTextOf}
use Rattle.follow_core.specs.declared.reception.Reception.{Reception}
use Rattle.line_reading.specs.declared.times.Windows.{Windows}
use Rattle.line_reading.specs.Readings.{Listed}
use Rattle.record_core.specs.declared.cell.Form.{Form}
use Rattle.audit_notes.specs.Folded.{Run, closed, folded_after, folded_if, held_as, shown_after}
use Rattle.audit_notes.specs.declared.folding.HeldRun.{HeldRun}
use Rattle.audit_notes.specs.Lines.{AuditLine, line_text, lines_text}
use Rattle.audit_notes.specs.Lines.AuditLine.{Reading}
use Rattle.audit_notes.proofs.Groups.{folding}
use Rattle.follow_core.specs.Shown.{AreReported, IsShown, IsShownOf, Shows, ShowsLast, ended_lines, listed_in, start_by}
use Rattle.follow_core.specs.declared.follower.EndedReadings.{EndedReadings}
use Rattle.follow_core.specs.declared.shown.Shown.{Shown as Held}
use Rattle.follow_core.specs.declared.shown.Starts.{Starts}
use Rattle.follow_core.specs.declared.view.ReadingView.{ReadingView}
use Rattle.follow_core.proofs.Begun.{ended_began}

pub texts_more : (written : Form) (xs ys : List AuditLine) → lines_text written (xs ++ ys) ≡ lines_text written xs ++ lines_text written ys
texts_more written xs ys = flat_map-append (line_text written) xs ys

-- ---- one after another

or_assoc : (a b c : Bool) → ((a || b) || c) ≡ (a || (b || c))
or_assoc true b c = refl
or_assoc false b c = refl

pub held_more : (start : Option ℕ) (held mid after : Bool) (xs ys : List Listed) → mid ≡ (held || has_begun start xs) → after ≡ (mid || has_begun start ys) → after ≡ (held || has_begun start (xs ++ ys))
held_more start held mid after xs ys one two =
    two ∙ ap (λ b. b || has_begun start ys) one ∙ or_assoc held (has_begun start xs) (has_begun start ys) ∙ ap (λ b. held || b) (sym (begun_more start xs ys))

pub lines_then : {H : Type 0} (hears : H → List AuditLine → H → Type 0) (then : (a b c : H) (xs ys : List AuditLine) → hears a xs b → hears b ys c → hears a (xs ++ ys) c) (a b c : H) (start : Option ℕ) (held mid : Bool) (xs ys : List Listed)
    → mid ≡ (held || has_begun start xs) → hears a (lines_from start held xs) b → hears b (lines_from start mid ys) c → hears a (lines_from start held (xs ++ ys)) c
lines_then hears then a b c start held mid xs ys is one two =
    subst (λ (ls : List AuditLine). hears a ls c) (sym (lines_from_more start held xs ys))
    (then a b c (lines_from start held xs) (lines_from start (held || has_begun start xs) ys) one (subst (λ m. hears b (lines_from start m ys) c) is two))

-- a run that was held, by another name
pub run_was : (taken old new : Option HeldRun) (lines done : List AuditLine) → taken ≡ old → ((rest : List AuditLine) → folded_after (held_as taken) (lines ++ rest) ≡ done ++ folded_after (held_as new) rest)
    → (rest : List AuditLine) → folded_after (held_as old) (lines ++ rest) ≡ done ++ folded_after (held_as new) rest
run_was taken old new lines done is h rest = ap (λ (run : Option HeldRun). folded_after (held_as run) (lines ++ rest)) (sym is) ∙ h rest

-- ---- no line is left

pub folded_last : (old new : Option Run) (lines done : List AuditLine) → ((rest : List AuditLine) → folded_after old (lines ++ rest) ≡ done ++ folded_after new rest) → folded_after old lines ≡ done ++ closed new
folded_last old new lines done h = ap (folded_after old) (sym (append-nil lines)) ∙ h []

pub plain_last : (lines done : List AuditLine) → ((rest : List AuditLine) → lines ++ rest ≡ done ++ rest) → lines ≡ done
plain_last lines done h = sym (append-nil lines) ∙ h [] ∙ append-nil done

-- ---- an instant that is known now

-- what stands for the readings that have ended is what stood for them before, and the line that opens the rest
pub record Grows (before now : Option ℕ) (ended : List Listed) : Type 0 where
  pub lines : lines_from now false ended ≡ lines_from before false ended ++ opened before now (has_begun before ended)
  pub begun : has_begun now ended ≡ has_begun before ended

stands : (start : Option ℕ) (ended : List Listed) → opened start start (has_begun start ended) ≡ [] → Grows start start ended
stands start ended none = record { lines = sym (append-nil (lines_from start false ended)) ∙ ap (λ (ls : List AuditLine). lines_from start false ended ++ ls) (sym none); begun = refl }

pub stands_known : (t : ℕ) (ended : List Listed) → Grows (Some t) (Some t) ended
stands_known t ended = stands (Some t) ended refl

opens : (w : Windows) (low : Line) (n t : ℕ) → n ≤ t + 1 → Grows None (Some t) (ended_before_by w low n)
opens w low n t l = let one = one_line t (ended_before_by w low n) (ended_began w low n t l) in record { lines = one.lines; begun = one.begun }

-- by a line
found_grows : (w : Windows) (low : Line) (n k : ℕ) (before now : Option ℕ) → Stays before now → IsFoundBefore low n before → IsFoundBefore low k now → Grows before now (ended_before_by w low n)
found_grows w low n k (Some t) now stays is seeks = subst (λ (o : Option ℕ). Grows (Some t) o (ended_before_by w low n)) (sym stays) (stands_known t (ended_before_by w low n))
found_grows w low n k None None stays is seeks = stands None (ended_before_by w low n) refl
found_grows w low n k None (Some t) stays is seeks = opens w low n t (found_later low n k t is seeks)

pub grows_by : (from_idle : Bool) (w : Windows) (low : Line) (n k : ℕ) (before now : Option ℕ) (ended : List Listed) → ended ≡ ended_before_by w low n → Stays before now → IsFoundBefore low n before → IsFoundBefore low k now
    → Grows (start_by from_idle before) (start_by from_idle now) ended
grows_by true w low n k before now ended is stays sought seeks = subst (λ (xs : List Listed). Grows before now xs) (sym is) (found_grows w low n k before now stays sought seeks)
grows_by false w low n k before now ended is stays sought seeks = stands_known 0 ended

-- with the end
joined_grows : (w : Windows) (low : Line) (n end t : ℕ) (before : Option ℕ) → IsFoundBefore low n before → n ≤ end + 1 → IsJoined low end t → Grows before (Some t) (ended_before_by w low n)
joined_grows w low n end t (Some u) is l joined =
    subst (λ (o : ℕ). Grows (Some u) (Some o) (ended_before_by w low n)) (idle_once low end u t (known_joined low n end u is l) joined) (stands_known u (ended_before_by w low n))
joined_grows w low n end t None is l joined = opens w low n t (joined_later low n end t is l joined)

pub grows_last : (from_idle : Bool) (w : Windows) (low : Line) (n end t : ℕ) (before : Option ℕ) (ended : List Listed) → ended ≡ ended_before_by w low n → IsFoundBefore low n before → n ≤ end + 1 → IsJoined low end t
    → Grows (start_by from_idle before) (start_by from_idle (Some t)) ended
grows_last true w low n end t before ended is sought l joined = subst (λ (xs : List Listed). Grows before (Some t) xs) (sym is) (joined_grows w low n end t before sought l joined)
grows_last false w low n end t before ended is sought l joined = stands_known 0 ended

-- ---- what comes after

-- the lines of all, by those before
all_lines : (starts : Starts) (ended xs : List Listed) → Grows starts.before starts.now ended
    → lines_from starts.now false (ended ++ xs) ≡ lines_from starts.before false ended ++ (opened starts.before starts.now (has_begun starts.before ended) ++ lines_from starts.now (has_begun starts.before ended) xs)
all_lines starts ended xs g =
    lines_from_more starts.now false ended xs
    ∙ ap (λ (ls : List AuditLine). ls ++ lines_from starts.now (has_begun starts.now ended) xs) g.lines
    ∙ ap (λ b. (lines_from starts.before false ended ++ opened starts.before starts.now (has_begun starts.before ended)) ++ lines_from starts.now b xs) g.begun
    ∙ append_assoc (lines_from starts.before false ended) (opened starts.before starts.now (has_begun starts.before ended)) (lines_from starts.now (has_begun starts.before ended) xs)

by_held : (view : ReadingView) (starts : Starts) (s : Held) (ended : List Listed) (text : List ℕ) (heard : EndedReadings) → IsShown view starts.before s ended text → Grows starts.before starts.now ended
    → lines_from starts.now false (ended ++ listed_in heard) ≡ lines_from starts.before false ended ++ ended_lines starts s.is_held heard
by_held view starts s ended text heard w g =
    all_lines starts ended (listed_in heard) g
    ∙ ap (λ b. lines_from starts.before false ended ++ (opened starts.before starts.now b ++ lines_from starts.now b (listed_in heard))) (sym w.held)

-- before these lines
shown_rest : (view : ReadingView) (start : Option ℕ) (s : Held) (ended : List Listed) (text : List ℕ) (lines rest : List AuditLine) → (w : IsShown view start s ended text) → lines ≡ lines_from start false ended ++ rest
    → lines_text view.written (folded_if view.folds lines) ≡ text ++ lines_text view.written (shown_after view.folds (held_as s.run) rest)
shown_rest view start s ended text lines rest w is =
    ap (lines_text view.written) (sym (folding.whole view.folds lines) ∙ ap (shown_after view.folds None) is ∙ w.lines rest)
    ∙ texts_more view.written w.done (shown_after view.folds (held_as s.run) rest)
    ∙ ap (λ (t : List ℕ). t ++ lines_text view.written (shown_after view.folds (held_as s.run) rest)) (sym w.spelled)

pub shown_first : (view : ReadingView) (start : Option ℕ) (s : Held) → s.is_held ≡ false → s.run ≡ None → IsShown view start s [] []
shown_first view start s held run = record {
  done = [];
  held = held ∙ sym (begun_none start);
  lines = λ rest.
      ap (λ (ls : List AuditLine). shown_after view.folds None (ls ++ rest)) (no_lines_from start false)
      ∙ ap (λ r. shown_after view.folds (held_as r) rest) (sym run);
  spelled = refl;
}

pub shown_more : (view : ReadingView) (starts : Starts) (old new : Held) (ended : List Listed) (text : List ℕ) (heard : EndedReadings) (done : List AuditLine) → IsShown view starts.before old ended text → Grows starts.before starts.now ended
    → Shows view.folds starts old heard new done → IsShown view starts.now new (ended ++ listed_in heard) (text ++ lines_text view.written done)
shown_more view starts old new ended text heard done w g s = record {
  done = w.done ++ done;
  held = s.held ∙ ap (λ b. b || has_begun starts.now (listed_in heard)) (w.held ∙ sym g.begun) ∙ sym (begun_more starts.now ended (listed_in heard));
  lines = λ rest.
      ap (λ (ls : List AuditLine). shown_after view.folds None (ls ++ rest)) (by_held view starts old ended text heard w g)
      ∙ ap (shown_after view.folds None) (append_assoc (lines_from starts.before false ended) (ended_lines starts old.is_held heard) rest)
      ∙ w.lines (ended_lines starts old.is_held heard ++ rest)
      ∙ ap (λ (ls : List AuditLine). w.done ++ ls) (s.lines rest)
      ∙ sym (append_assoc w.done done (shown_after view.folds (held_as new.run) rest));
  spelled = ap (λ (t : List ℕ). t ++ lines_text view.written done) w.spelled ∙ sym (texts_more view.written w.done done);
}

-- ---- a whole capture

-- all readings, by an instant
reported_by : (from_idle : Bool) (c : Captured) (xs : List Listed) (t : ℕ) → IsJoined (line_of_edges c.edges) c.end t → AreReported from_idle c xs (lines_from (start_by from_idle (Some t)) false xs)
reported_by true c xs t is = (t, is, refl)
reported_by false c xs t is = none_joined false xs

pub shown_last : (view : ReadingView) (starts : Starts) (s : Held) (c : Captured) (t : ℕ) (ended all : List Listed) (text : List ℕ) (heard : EndedReadings) (done : List AuditLine) → starts.now ≡ start_by view.from_idle (Some t)
    → IsJoined (line_of_edges c.edges) c.end t → all ≡ ended ++ listed_in heard → IsShown view starts.before s ended text → Grows starts.before starts.now ended
    → ShowsLast view.folds starts s heard done → IsShownOf view c all (text ++ lines_text view.written done)
shown_last view starts s c t ended all text heard done now joined whole w g shows =
    let lines : List AuditLine = lines_from starts.now false (ended ++ listed_in heard) in (
      lines,
      subst (λ (o : Option ℕ). AreReported view.from_idle c all (lines_from o false (ended ++ listed_in heard))) (sym now)
          (subst (λ (xs : List Listed). AreReported view.from_idle c all (lines_from (start_by view.from_idle (Some t)) false xs)) whole (reported_by view.from_idle c all t joined)),
      sym (shown_rest view starts.before s ended text lines (ended_lines starts s.is_held heard) w (by_held view starts s ended text heard w g)
          ∙ ap (λ (ls : List AuditLine). text ++ lines_text view.written ls) shows),
    )

-- what is shown so far is its front
abbrev BeginsWith : Option ℕ → List Listed → List AuditLine → Type 0
BeginsWith start ended lines = (rest : List AuditLine) × (lines ≡ lines_from start false ended ++ rest)

begins : (from_idle : Bool) (c : Captured) (n : ℕ) (found : Option ℕ) (ended more : List Listed) (lines : List AuditLine) → IsFoundBefore (line_of_edges c.edges) n found → n ≤ c.end + 1 → AreReported from_idle c (ended ++ more) lines
    → BeginsWith (start_by from_idle found) ended lines
begins false c n found ended more lines is l h =
    (lines_from (Some 0) (has_begun (Some 0) ended) more, h ∙ sym (none_joined false (ended ++ more)) ∙ lines_from_more (Some 0) false ended more)
begins true c n None ended more lines is l h = (lines, refl)
begins true c n (Some t) ended more lines is l h = (
  lines_from (Some t) (has_begun (Some t) ended) more,
  h.2 ∙ ap (λ u. joined_lines u false (ended ++ more)) (idle_once (line_of_edges c.edges) c.end h.0 t h.1 (known_joined (line_of_edges c.edges) n c.end t is l)) ∙ lines_from_more (Some t) false ended more,
)

pub shown_front : (view : ReadingView) (found : Option ℕ) (s : Held) (c : Captured) (n : ℕ) (ended more all : List Listed) (text whole : List ℕ) → all ≡ ended ++ more → IsFoundBefore (line_of_edges c.edges) n found → n ≤ c.end + 1
    → IsShown view (start_by view.from_idle found) s ended text → IsShownOf view c all whole → (left : List ℕ) × (whole ≡ text ++ left)
shown_front view found s c n ended more all text whole are is l w h =
    let b = begins view.from_idle c n found ended more h.0 is l (subst (λ (xs : List Listed). AreReported view.from_idle c xs h.0) are h.1) in
    (lines_text view.written (shown_after view.folds (held_as s.run) b.0), h.2 ∙ shown_rest view (start_by view.from_idle found) s ended text h.0 b.0 w b.1)

-- one text is that of a capture
lines_once : (from_idle : Bool) (c : Captured) (xs : List Listed) (a b : List AuditLine) → AreReported from_idle c xs a → AreReported from_idle c xs b → a ≡ b
lines_once false c xs a b h k = h ∙ sym k
lines_once true c xs a b h k = h.2 ∙ ap (λ t. joined_lines t false xs) (idle_once (line_of_edges c.edges) c.end h.0 k.0 h.1 k.1) ∙ sym k.2

pub shown_once : (view : ReadingView) (how : Reception) (c : Captured) (a b : List ℕ) → IsTextOf view how c a → IsTextOf view how c b → a ≡ b
shown_once view how c a b h k =
    h.2 ∙ ap (λ (ls : List AuditLine). lines_text view.written (folded_if view.folds ls)) (lines_once view.from_idle c (captured_by how.windows c) h.0 k.0 h.1 k.1) ∙ sym k.2
