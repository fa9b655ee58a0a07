use Rattle.std.proofs.Common.{rules, ◌≡◌, ◌∙◌, [], ◌∷◌, codes, length}
use Rattle.text_core.specs.Kind.{kind_word}
use Rattle.message_table.specs.DeckWords.{deck_info_byte}
use Rattle.device_core.specs.Place.{is_on_wire}
use Rattle.record_core.specs.Cells.{both}
use Rattle.record_core.specs.Values.{hex, hex_byte, hex_byte_or, hex_or, nibble_or, number, number_or, phys_or, pieces, switch, text}
use Rattle.room_trace.specs.Records.{parts_value}
use Rattle.room_trace.specs.StateText.{phys_on, power_text}
use Rattle.room_trace.proofs.state_text.state_cells.Goals as goal

pub returns : goal.returns
returns c =
    let d = c.args.device.now in
    let name : c.name.result.now ≡ d.name = search rules in
    let word : c.word.result.now ≡ kind_word d.kind = search rules in
    let wired : c.is_on_wire.result ≡ is_on_wire d = search rules in
    let phys : c.phys.result ≡ d.phys = search rules in
    let place : c.phys_on_wire.result ≡ phys_on (is_on_wire d) d.phys = c.phys_on_wire.ensures ∙ (λ i. phys_on (wired i) (phys i)) in
    let record_is : c.record-record.result.now ≡ d.record_of = search rules in
    let power : c.power_word.result.now ≡ power_text d.record_of.power = search rules in
    let deck : c.byte.result ≡ deck_info_byte d.record_of.deck = search rules in
    let volume : c.value.result ≡ d.record_of.volume = search rules in
    let selected : c.port_number.result ≡ d.record_of.selected = search rules in
    let osd : c.as_slice.result.now ≡ d.record_of.osd.items = search rules in
    let sub : c.number_of.result ≡ d.record_of.sub = search rules in
    let queue : c.queue_len.result ≡ length d.queue = search rules in
    let dropped : c.dropped.result ≡ d.dropped = search rules in
    λ i.
    both (codes "state ") (codes "device") (text (name i)) ∷ both (codes " ") (codes "kind") (text (word i))
    ∷ both (codes " ") (codes "logical_addresses") (pieces (codes "+") c.args.units.now) ∷ both (codes " ") (codes "physical_address") (phys_or (place i))
    ∷ both (codes " ") (codes "power") (text (power i)) ∷ both (codes " active=") (codes "active_source") (phys_or (record_is i).active)
    ∷ both (codes " path=") (codes "path") (phys_or (record_is i).path) ∷ both (codes " deck=") (codes "deck") (hex_byte (deck i))
    ∷ both (codes " menu=") (codes "menu") (switch (record_is i).menu) ∷ both (codes " audio=") (codes "system_audio") (switch (record_is i).audio)
    ∷ both (codes " volume=") (codes "volume") (number (volume i)) ∷ both (codes " mute=") (codes "mute") (switch (record_is i).mute)
    ∷ both (codes " arc=") (codes "audio_return_channel") (switch (record_is i).arc) ∷ both (codes " sel=") (codes "selected_port") (number_or (selected i))
    ∷ both (codes " lang=") (codes "menu_language") (hex c.args.language.now) ∷ both (codes " osd=") (codes "osd_text") (hex_or (osd i))
    ∷ both (codes " held=") (codes "held_key") (hex_byte_or (record_is i).held) ∷ both (codes " heard=") (codes "heard") (parts_value c.args.heard.now)
    ∷ both (codes " sub=") (codes "subscriber") (nibble_or (sub i)) ∷ both (codes " queue=") (codes "queued") (number (queue i))
    ∷ both (codes " dropped=") (codes "dropped") (number (dropped i)) ∷ []
