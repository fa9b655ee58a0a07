use Rattle.std.proofs.Common.{rules, ◌≡◌, ◌∙◌, [], ◌∷◌, codes, length}
use Rattle.text_core.specs.Kind.{kind_word}
use Rattle.device_core.specs.Place.{is_on_wire}
use Rattle.record_core.specs.Cells.{both}
use Rattle.record_core.specs.Values.{number, phys_or, pieces, text}
use Rattle.room_trace.specs.Records.{none}
use Rattle.room_trace.specs.StateText.{phys_on}
use Rattle.room_trace.proofs.state_text.outside_cells.Goals as goal

pub returns : goal.returns
returns c =
    let d = c.args.device.now in
    let name : c.name.result.now ≡ d.name = search rules in
    let word : c.word.result.now ≡ kind_word d.kind = search rules in
    let wired : c.is_on_wire.result ≡ is_on_wire d = search rules in
    let phys : c.phys.result ≡ d.phys = search rules in
    let place : c.phys_on_wire.result ≡ phys_on (is_on_wire d) d.phys = c.phys_on_wire.ensures ∙ (λ i. phys_on (wired i) (phys i)) in
    let queue : c.queue_len.result ≡ length d.queue = search rules in
    let dropped : c.dropped.result ≡ d.dropped = search rules in
    λ i.
    both (codes "state ") (codes "device") (text (name i)) ∷ both (codes " ") (codes "kind") (text (word i))
    ∷ both (codes " ") (codes "logical_addresses") (pieces (codes "+") c.args.units.now) ∷ both (codes " ") (codes "physical_address") (phys_or (place i))
    ∷ both (codes " ") (codes "power") none ∷ both (codes " active=") (codes "active_source") none ∷ both (codes " path=") (codes "path") none ∷ both (codes " deck=") (codes "deck") none ∷ both (codes " menu=") (codes "menu") none ∷ both (codes " audio=") (codes "system_audio") none ∷ both (codes " volume=") (codes "volume") none ∷ both (codes " mute=") (codes "mute") none ∷ both (codes " arc=") (codes "audio_return_channel") none ∷ both (codes " sel=") (codes "selected_port") none ∷ both (codes " lang=") (codes "menu_language") none ∷ both (codes " osd=") (codes "osd_text") none ∷ both (codes " held=") (codes "held_key") none ∷ both (codes " heard=") (codes "heard") none ∷ both (codes " sub=") (codes "subscriber") none
    ∷ both (codes " queue=") (codes "queued") (number (queue i)) ∷ both (codes " dropped=") (codes "dropped") (number (dropped i)) ∷ []
