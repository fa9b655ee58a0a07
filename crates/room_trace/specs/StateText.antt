-- The line that reports the state of a device (the profile's own text).
use Rattle.std.specs.Prelude.{ℕ, ◌%◌, Bool, true, false, List, [], ◌∷◌, ◌++◌, if◌then◌else◌, Option, Some, None, codes}
use Rattle.std.specs.Fmt.{decimal}
use Rattle.std.specs.List.{concat, flat_map}
use Rattle.text_core.specs.Kind.{kind_word}
use Rattle.text_core.specs.declared.kind.Kind.{Kind}
use Rattle.text_core.specs.declared.kind.Kind.TheVariants.{Combo}
use Rattle.text_core.specs.declared.phys.Phys.{Phys}
use Rattle.text_core.specs.Piece.{nibble_text, hex_text, hex_or_dash, phys_text, dash_or, switch_text}
use Rattle.message_table.specs.declared.message.Triple.{Triple}
use Rattle.message_table.specs.DeckWords.{deck_info_byte}
use Rattle.device_features.specs.declared.record.HeardReport.{HeardReport}
use Rattle.device_core.specs.State.{State, addresses_held, held_by}
use Rattle.device_core.specs.Place.{is_on_wire}
use Rattle.device_features.specs.Kinds.{is_outside}
use Rattle.std.specs.Prelude.{length}

-- A unit's logical address: none off the wire and while it has not settled, and `f` where it settled without one.
abbrev pub unit_text : Option ℕ → List ℕ
unit_text unit = dash_or (λ n. nibble_text (n % 16)) unit

-- the logical address of a device, and of a box those of both its units
abbrev pub address_text : Kind → List (Option ℕ) → List ℕ
address_text Combo (first ∷ second ∷ _) = unit_text first ++ codes "+" ++ unit_text second
address_text _ (first ∷ _) = unit_text first
address_text _ [] = []

-- the physical address: none off the wire
abbrev pub phys_on : Bool → Phys → Option Phys
phys_on is_on p = if is_on then Some p else None

abbrev pub power_text : Bool → List ℕ
power_text true = codes "on"
power_text false = codes "standby"

abbrev pub language_bytes : Triple → List ℕ
language_bytes t = t.first ∷ t.second ∷ t.third ∷ []

-- initiator, opcode and first operand of the last report that was heard
abbrev pub note_text : HeardReport → List ℕ
note_text n = nibble_text (n.from % 16) ++ codes ":" ++ hex_text n.opcode ++ codes ":" ++ hex_text n.first

-- the line, from the text of the logical address, the bytes of the language and the text of what was heard
abbrev pub state_line_of : State → List ℕ → List ℕ → List ℕ → List ℕ
state_line_of d address language heard = concat (
    codes "state " ∷ d.name ∷ codes " " ∷ kind_word d.kind ∷ codes " " ∷ address ∷ codes " " ∷ dash_or phys_text (phys_on (is_on_wire d) d.phys)
    ∷ codes " " ∷ power_text d.record_of.power ∷ codes " active=" ∷ dash_or phys_text d.record_of.active ∷ codes " path=" ∷ dash_or phys_text d.record_of.path
    ∷ codes " deck=" ∷ hex_text (deck_info_byte d.record_of.deck) ∷ codes " menu=" ∷ switch_text d.record_of.menu ∷ codes " audio=" ∷ switch_text d.record_of.audio
    ∷ codes " volume=" ∷ decimal d.record_of.volume ∷ codes " mute=" ∷ switch_text d.record_of.mute ∷ codes " arc=" ∷ switch_text d.record_of.arc
    ∷ codes " sel=" ∷ dash_or decimal d.record_of.selected ∷ codes " lang=" ∷ flat_map hex_text language
    ∷ codes " osd=" ∷ hex_or_dash d.record_of.osd.items ∷ codes " held=" ∷ dash_or hex_text d.record_of.held
    ∷ codes " heard=" ∷ heard ∷ codes " sub=" ∷ dash_or (λ n. nibble_text (n % 16)) d.record_of.sub
    ∷ codes " queue=" ∷ decimal (length d.queue) ∷ codes " dropped=" ∷ decimal d.dropped ∷ codes "\n" ∷ [])

-- one more address of a device from outside
abbrev pub more_text : Option ℕ → List ℕ
more_text None = []
more_text (Some a) = codes "+" ++ unit_text (Some a)

-- those that a device from outside holds
abbrev pub held_text : List (Option ℕ) → List ℕ
held_text [] = codes "-"
held_text (first ∷ others) = unit_text first ++ flat_map more_text others

-- the line of a device from outside, with a text in the place of its record, up to the length of its queue
abbrev pub outside_line_of : State → List ℕ → List ℕ → List ℕ
outside_line_of d address unknown = concat (
    codes "state " ∷ d.name ∷ codes " " ∷ kind_word d.kind ∷ codes " " ∷ address ∷ codes " " ∷ dash_or phys_text (phys_on (is_on_wire d) d.phys)
    ∷ unknown ∷ decimal (length d.queue) ∷ codes " dropped=" ∷ decimal d.dropped ∷ codes "\n" ∷ [])

-- nobody but its driver knows more of it
abbrev pub outside_line : State → List ℕ → List ℕ
outside_line d address =
    outside_line_of d address (codes " - active=- path=- deck=- menu=- audio=- volume=- mute=- arc=- sel=- lang=- osd=- held=- heard=- sub=- queue=")

abbrev pub state_line : State → List ℕ
state_line d =
    if is_outside d.kind then outside_line d (held_text (held_by d))
    else state_line_of d (address_text d.kind (addresses_held d.place)) (language_bytes d.record_of.language) (dash_or note_text d.record_of.heard)
