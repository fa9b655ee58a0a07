-- What a driver of devices from outside is told of a turn besides its line (own): what became of the frames that were handed in, and
-- where devices from outside came onto the wire or left it.
use Rattle.std.specs.Prelude.{ℕ, ◌+◌, ◌==◌, ◌||◌, Bool, true, false, if◌then◌else◌, List, [], ◌∷◌, ◌++◌, Option, Some, None, codes}
use Rattle.std.specs.List.{list_any}
use Rattle.text_core.specs.declared.phys.Phys.{Phys}
use Rattle.line_frames.specs.declared.Fate.{Fate}
use Rattle.line_frames.specs.declared.Fate.TheVariants.{Delivered, Unacked, Lost, Broken}
use Rattle.line_rounds.specs.declared.Outcome.{Outcome}
use Rattle.line_rounds.specs.Round.{fate_in}
use Rattle.device_features.specs.Kinds.{is_outside}
use Rattle.device_core.specs.State.{State}
use Rattle.device_core.specs.Place.{is_on_wire}
use Rattle.device_core.specs.Sent.{sent_of}
use Rattle.device_core.specs.declared.sent.Sent.{Sent}
use Rattle.record_core.specs.Cells.{PlainCell, both}
use Rattle.record_core.specs.Records.{record_text}
use Rattle.record_core.specs.Values.{number, phys_or, text}
use Rattle.record_core.specs.declared.cell.Form.{Form}
use Rattle.room_trace.specs.StateText.{phys_on}

-- ---- frames that were handed in

abbrev pub fate_word : Fate → List ℕ
fate_word Delivered = codes "ack"
fate_word Unacked = codes "nack"
fate_word Lost = codes "lost"
fate_word Broken = codes "broken"

abbrev pub sent_cells : ℕ → List ℕ → ℕ → List PlainCell
sent_cells line fate attempts =
    both (codes "* sent ") (codes "script_line") (number line) ∷ both (codes " ") (codes "fate") (text fate) ∷ both (codes " ") (codes "attempts") (number attempts) ∷ []

abbrev pub sent_note : Form → Option Sent → List ℕ
sent_note form None = []
sent_note form (Some sent) = record_text form (codes "sent") (sent_cells sent.line (fate_word sent.fate) sent.attempts)

-- it sent in a round, to the end or not
abbrev pub took_part : Outcome → ℕ → Bool
took_part o number = list_any (λ seat. seat == number) o.survivors.items || list_any (λ loser. loser.seat == number) o.losers.items

abbrev pub sent_note_of : Form → Outcome → ℕ → State → List ℕ
sent_note_of form o number d = if took_part o number then sent_note form (sent_of d (fate_in o number)) else []

-- of a round what became of the frames that are over by it, by the numbers of their devices, from this one on
abbrev pub sent_notes : Form → Outcome → ℕ → List State → List ℕ
sent_notes form o number [] = []
sent_notes form o number (d ∷ devices) = sent_note_of form o number d ++ sent_notes form o (number + 1) devices

-- ---- devices from outside that came or left

abbrev pub moved_cells : List ℕ → Option Phys → List PlainCell
moved_cells name phys = both (codes "* moved ") (codes "device") (text name) ∷ both (codes " ") (codes "physical_address") (phys_or phys) ∷ []

-- of one that was on the wire before an event, or was not
abbrev pub has_moved : Bool → State → Bool
has_moved true d = if is_on_wire d then false else is_outside d.kind
has_moved false d = if is_on_wire d then is_outside d.kind else false

abbrev pub moved_note : Form → Bool → State → List ℕ
moved_note form was d = if has_moved was d then record_text form (codes "moved") (moved_cells d.name (phys_on (is_on_wire d) d.phys)) else []

-- of an event, by which devices were on the wire before it and by the devices after it, from this one on
abbrev pub moved_notes : Form → (ℕ → Bool) → ℕ → List State → List ℕ
moved_notes form was number [] = []
moved_notes form was number (d ∷ devices) = moved_note form (was number) d ++ moved_notes form was (number + 1) devices
