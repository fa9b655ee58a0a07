-- The turns that a session reports (this profile's own).
use Rattle.std.specs.Prelude.{◌≡◌, ℕ, zero, suc, ◌+◌, ◌<◌, ◌≤◌, min, Bool, true, false, List, [], ◌∷◌, ◌++◌, length, Option, Some, None, IsSome, All}
use Rattle.line_wave.specs.declared.Stretch.{Stretch}
use Rattle.line_wave.specs.Line.{IsWave}
use Rattle.line_wave.specs.Bounds.{latest_instant}
use Rattle.line_rounds.specs.declared.Outcome.{Outcome}
use Rattle.device_core.specs.State.{State}
use Rattle.room_net.specs.Progress.{IsProgress}
use Rattle.edid_tree.specs.Path.{is_on_wire}
use Rattle.room_net.specs.State.{NetState, next_start}
use Rattle.room_net.specs.Apply.{net_after}
use Rattle.room_net.specs.Step.{IsNextRound, after_round}
use Rattle.room_script.specs.declared.script.TimedEvent.{TimedEvent}
use Rattle.record_core.specs.declared.cell.Form.{Form}
use Rattle.record_core.specs.declared.cell.Form.TheVariants.{Text, Json}
use Rattle.room_trace.specs.Notes.{moved_notes, sent_notes}
use Rattle.edid_core.specs.declared.edid.Edid.{Edid}
use Rattle.room_run.specs.declared.run.Reporting.{Reporting}
use Rattle.room_run.specs.declared.run.Reporting.TheVariants.{Trace, Objects, Line}
use Rattle.room_run.specs.declared.run.Turn.{Turn}
use Rattle.room_run.specs.declared.run.Turn.TheVariants.{Stop, Apply, Round}
use Rattle.room_run.specs.Run.{Config, turn_at, IsTurn}
use Rattle.room_run.specs.Happening.{Happening, OfEvent, OfRound, Happens, objects_of, text_of}
use Rattle.room_run.specs.Heard.{Hears}
use Rattle.room_run.specs.Certain.{ComesFrom, IsOverBy, LeadsIf, IsHeld, IsHeldBy}
use Rattle.live_session.specs.declared.edges.InstantRange.{InstantRange}
use Rattle.live_session.specs.Edges.{edges_reported, pinned_by}

-- ---- what a session reports

-- the trace of its run, or the objects of that
abbrev pub reporting_of : Form → Option Edid → Reporting
reporting_of Text edid = Trace edid
reporting_of Json edid = Objects edid None

-- whether it says lines or objects
abbrev pub form_of : Reporting → Form
form_of (Trace edid) = Text
form_of (Objects edid room) = Json
form_of (Line format) = Text

-- ---- what is certain of a run

-- The instant before which turns are certain: the horizon. While the pin is low its pull is still to come, and began when it went low.
abbrev pub certain_until : Option ℕ → ℕ → ℕ
certain_until None horizon = horizon
certain_until (Some low) horizon = min horizon low

-- What may still come of a script: all of it for the horizon or later, but first the pull of the pin, where that is low. It began when
-- the pin went low, and ends at the horizon or later.
abbrev pub MayCome : Option ℕ → ℕ → List TimedEvent → List Stretch → ℕ → Type 0
MayCome None horizon events later end = ComesFrom horizon events later end
MayCome (Some low) horizon events [] end = ⊥
MayCome (Some low) horizon events (pull ∷ later) end = (pull.from ≡ low) × (horizon ≤ pull.to) × ComesFrom horizon events later end

-- What a turn has to be to be reported: while more lines may come, over before the horizon; once the script has ended, each is.
abbrev pub IsReported : Bool → ℕ → Turn → Config → Type 0
IsReported false until turn after = IsOverBy until turn after
IsReported true until turn after = Unit {0}

-- no further turn is reported
abbrev pub IsLast : Bool → ℕ → Config → Type 0
IsLast false until c = IsHeld until c
IsLast true until c = turn_at until c ≡ Stop

-- all turns that are reported from one place on, and their texts one after another
pub record Goes (reporting : Reporting) (ended : Bool) (until : ℕ) (c : Config) (text : List ℕ) (d : Config) : Type 0 where
  pub turns : ℕ
  pub leads : LeadsIf (IsReported ended until) reporting until turns c text d
  pub last : IsLast ended until d

-- ---- the edges of turns

-- the edges of the next round, which begins then, that lie in a span, by the pin
abbrev pub HasEdges : Form → InstantRange → Option ℕ → ℕ → NetState → List ℕ → Type 0
HasEdges form span pin begin net edges =
    (outcome : Outcome) × (after : NetState) × IsWave outcome.wave × IsNextRound net begin outcome after × (edges ≡ edges_reported form span (pinned_by pin outcome.wave))

-- what a turn has of edges: those of a round, and the pin's
abbrev pub AreEdgesOf : Form → InstantRange → Option ℕ → NetState → Turn → List ℕ → Type 0
AreEdgesOf form span pin net Stop edges = edges ≡ edges_reported form span (pinned_by pin [])
AreEdgesOf form span pin net (Apply at) edges = edges ≡ edges_reported form span (pinned_by pin [])
AreEdgesOf form span pin net (Round begin) edges = HasEdges form span pin begin net edges

-- ---- the notes of turns

-- where devices from outside come or leave by the next event
abbrev pub moved_by : Form → ℕ → List TimedEvent → NetState → List ℕ
moved_by form at [] net = []
moved_by form at (e ∷ events) net = moved_notes form (is_on_wire net.tree) 0 (net_after at e.event net).devices

-- what becomes of frames that were handed in, in the next round, which begins then
abbrev pub HasSent : Form → ℕ → NetState → List ℕ → Type 0
HasSent form begin net notes = (outcome : Outcome) × (after : NetState) × IsWave outcome.wave × IsNextRound net begin outcome after × (notes ≡ sent_notes form outcome 0 net.devices)

abbrev pub AreNotesBy : Form → Config → Turn → List ℕ → Type 0
AreNotesBy form c Stop notes = notes ≡ []
AreNotesBy form c (Apply at) notes = notes ≡ moved_by form at c.events c.net
AreNotesBy form c (Round begin) notes = HasSent form begin c.net notes

-- the notes of a turn, where they are asked for
abbrev pub AreNotesOf : Bool → Form → Config → Turn → List ℕ → Type 0
AreNotesOf false form c turn notes = notes ≡ []
AreNotesOf true form c turn notes = AreNotesBy form c turn notes

-- the text of a turn and of those after it: its edges, what the trace has of it, and its notes
pub record IsTurnText (seats : Bool) (form : Form) (c : Config) (turn : Turn) (edges line rest text : List ℕ) : Type 0 where
  pub notes : List ℕ
  pub are : AreNotesOf seats form c turn notes
  pub is : text ≡ (edges ++ (line ++ notes)) ++ rest

-- So many turns that are reported: what they report in the trace, and the same with the edges of each round before its line, and with
-- the notes after it.
abbrev pub LeadsWith : Reporting → Bool → Bool → InstantRange → ℕ → ℕ → Config → List ℕ → List ℕ → Config → Type 0
LeadsWith reporting ended seats span until zero c reported text d = (reported ≡ []) × (text ≡ []) × (d ≡ c)
LeadsWith reporting ended seats span until (suc turns) c reported text d =
    (mid : Config) × (line : List ℕ) × (edges : List ℕ) × (others : List ℕ) × (rest : List ℕ) × IsTurn reporting until c line mid × IsReported ended until (turn_at until c) mid
    × AreEdgesOf (form_of reporting) span None c.net (turn_at until c) edges × LeadsWith reporting ended seats span until turns mid others rest d × (reported ≡ line ++ others)
    × IsTurnText seats (form_of reporting) c (turn_at until c) edges line rest text

-- All turns that are reported from one place on, with their edges that lie in a span and with their notes, and last those of the round that comes next:
-- of one that is on, for no edge of a later one lies before the horizon, and from where the pin is low no edge but its fall.
pub record GoesWith (reporting : Reporting) (ended seats : Bool) (pin : Option ℕ) (span : InstantRange) (until : ℕ) (c : Config) (reported text : List ℕ) (d : Config) : Type 0 where
  pub turns : ℕ
  pub over : List ℕ
  pub on : List ℕ
  pub leads : LeadsWith reporting ended seats span until turns c reported over d
  pub last : IsLast ended until d
  pub on_is : AreEdgesOf (form_of reporting) span pin d.net (turn_at until d) on
  pub text_is : text ≡ over ++ on

-- ---- what is heard of turns

-- of a turn: its edges that lie in a span, a round's alone
abbrev pub edges_of : Form → InstantRange → Happening → List ℕ
edges_of form span (OfEvent at e before) = []
edges_of form span (OfRound begin before o) = edges_reported form span o.wave

-- what the trace has of it, or its objects
abbrev pub said_of : Form → Option Edid → Happening → List ℕ
said_of Text edid x = text_of edid x
said_of Json edid x = objects_of edid None x

-- notes, where they are asked for
abbrev pub moved_if : Bool → Form → (ℕ → Bool) → List State → List ℕ
moved_if false form was devices = []
moved_if true form was devices = moved_notes form was 0 devices

abbrev pub sent_if : Bool → Form → Outcome → List State → List ℕ
sent_if false form o devices = []
sent_if true form o devices = sent_notes form o 0 devices

-- those of a turn
abbrev pub turn_notes : Bool → Form → Happening → List ℕ
turn_notes seats form (OfEvent at e before) = moved_if seats form (is_on_wire before.tree) (net_after at e.event before).devices
turn_notes seats form (OfRound begin before o) = sent_if seats form o before.devices

-- what stays from one turn to the next of what hears of them: whether notes are asked for, the form, the EDID that ports pass on, and
-- the span
abbrev pub keys : Bool → Form → Option Edid → InstantRange → Bool × Form × Option Edid × InstantRange
keys seats form edid span = (seats, form, edid, span)

-- and that after its edges, and before its notes
abbrev pub text_with : Bool → Form → Option Edid → InstantRange → Happening → List ℕ
text_with seats form edid span x = edges_of form span x ++ (said_of form edid x ++ turn_notes seats form x)

-- one turn after another, of each of which something holds
abbrev pub GoesIf : (Turn → Config → Type 0) → ℕ → Config → List Happening → Config → Type 0
GoesIf Holds until c [] d = d ≡ c
GoesIf Holds until c (x ∷ xs) d = (mid : Config) × Happens until c x mid × Holds (turn_at until c) mid × GoesIf Holds until mid xs d

-- a round closes soon enough to be reported
abbrev pub IsSoon : Bool → ℕ → NetState → Type 0
IsSoon true until after = Unit {0}
IsSoon false until after = after.close < until

-- Whether the next round, which begins then, is on: more lines may come, and it closes at an instant or later.
abbrev pub IsOn : Bool → Bool → ℕ → ℕ → NetState → Type 0
IsOn true ended until begin net = (ended ≡ false) × IsHeldBy until net (Round begin)
IsOn false ended until begin net = (outcome : Outcome) (after : NetState) → IsWave outcome.wave → IsNextRound net begin outcome after → IsSoon ended until after

-- nothing comes, or a round that is on
abbrev pub ComesLast : Bool → ℕ → Config → Option ℕ → Type 0
ComesLast ended until d None = turn_at until d ≡ Stop
ComesLast ended until d (Some begin) = (turn_at until d ≡ Round begin) × IsOn true ended until begin d.net

-- the edges of the round that is on, where one is, and the pin's
abbrev pub AreEdgesOn : Form → InstantRange → Option ℕ → NetState → Option ℕ → List ℕ → Type 0
AreEdgesOn form span pin net None edges = edges ≡ edges_reported form span (pinned_by pin [])
AreEdgesOn form span pin net (Some begin) edges = HasEdges form span pin begin net edges

-- turns that are reported were heard of, each once and in order: all of them, where it still wants to hear more
pub record AreHeard {R : Type 0} (hears : R → Happening → R → Type 0) (ended : Bool) (until : ℕ) (c d : Config) (old new : R) (goes_on : Bool) (on : Option ℕ) : Type 0 where
  pub happened : List Happening
  pub goes : GoesIf (IsReported ended until) until c happened d
  pub heard : Hears hears old happened new
  pub last : goes_on ≡ true → ComesLast ended until d on

-- ---- a round

-- what the next round gives
abbrev pub IsForeseen : NetState → Option Outcome → Type 0
IsForeseen net None = Unit {0}
IsForeseen net (Some o) = IsWave o.wave × ((begin : ℕ) → next_start net ≡ Some begin → IsNextRound net begin o (after_round net begin o) × IsProgress net begin (after_round net begin o))

-- what is kept is that, where it is known
abbrev pub IsKept : Bool → NetState → Option Outcome → Type 0
IsKept true net next = IsForeseen net next × IsSome next
IsKept false net next = Unit {0}

-- ---- what stays within its limits

-- the pulses and pulls of a network: they are in order, and none begins before its line has come to rest
pub record AreAhead (net : NetState) : Type 0 where
  pub order : IsWave net.pulses
  pub later : All (λ p. net.rest ≤ p.from) net.pulses

-- times and counts at a place
pub record IsWithin (c : Config) : Type 0 where
  pub closed : c.net.close ≤ latest_instant
  pub rested : c.net.rest ≤ latest_instant
  pub rounds : c.totals.rounds ≤ c.net.rest
  pub complete : c.totals.complete ≤ c.totals.rounds

-- what turns leave as it was
pub record Keeps (c d : Config) : Type 0 where
  pub tree : length d.net.tree ≡ length c.net.tree
  pub refused : d.totals.refused + length d.events ≤ c.totals.refused + length c.events
