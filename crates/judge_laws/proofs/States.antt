-- A device's state line is what is said of it, and a line feed.
use Rattle.std.proofs.Common.{◌≡◌, ℕ, ◌%◌, ◌-◌, ◌+◌, Bool, true, false, if◌then◌else◌, List, [], ◌∷◌, ◌++◌, length, take, codes, Option, Some, None, refl, sym, ap, ◌∙◌, arith, append_assoc, length-append}
use Rattle.std.specs.Fmt.{decimal}
use Rattle.std.specs.List.{concat, flat_map}
use Rattle.std.proofs.lemmas.List.{take_at}
use Rattle.text_core.specs.Kind.{kind_word}
use Rattle.text_core.specs.Piece.{dash_or, hex_or_dash, hex_text, nibble_text, phys_text, switch_text}
use Rattle.message_table.specs.DeckWords.{deck_info_byte}
use Rattle.device_features.specs.Kinds.{is_outside}
use Rattle.device_core.specs.Place.{is_on_wire}
use Rattle.device_core.specs.State.{State, addresses_held, held_by}
use Rattle.room_trace.specs.StateText.{address_text, held_text, language_bytes, note_text, outside_line, outside_line_of, phys_on, power_text, state_line, state_line_of}
use Rattle.expect_run.specs.States.{state_said}
use Rattle.judge_laws.specs.States.{IsStateLine}

record EndsSo (text : List ℕ) : Type 0 where
  front : List ℕ
  same : text ≡ front ++ codes "\n"

-- the last of these is a line feed
abbrev EndWithFeed : List (List ℕ) → Type 0
EndWithFeed [] = ⊥
EndWithFeed (part ∷ []) = part ≡ codes "\n"
EndWithFeed (part ∷ other ∷ parts) = EndWithFeed (other ∷ parts)

parts_end : (parts : List (List ℕ)) → EndWithFeed parts → EndsSo (concat parts)
parts_end [] h = absurd h
parts_end (part ∷ []) h = record { front = []; same = ap (λ (t : List ℕ). t ++ []) h }
parts_end (part ∷ other ∷ parts) h =
    let rest = parts_end (other ∷ parts) h in
    record { front = part ++ rest.front; same = ap (λ (t : List ℕ). part ++ t) rest.same ∙ sym (append_assoc part rest.front (codes "\n")) }

inside_ends : (d : State) (address language heard : List ℕ) → EndsSo (state_line_of d address language heard)
inside_ends d address language heard =
    parts_end (
    codes "state " ∷ d.name ∷ codes " " ∷ kind_word d.kind ∷ codes " " ∷ address ∷ codes " " ∷ dash_or phys_text (phys_on (is_on_wire d) d.phys)
    ∷ codes " " ∷ power_text d.record_of.power ∷ codes " active=" ∷ dash_or phys_text d.record_of.active ∷ codes " path=" ∷ dash_or phys_text d.record_of.path
    ∷ codes " deck=" ∷ hex_text (deck_info_byte d.record_of.deck) ∷ codes " menu=" ∷ switch_text d.record_of.menu ∷ codes " audio=" ∷ switch_text d.record_of.audio
    ∷ codes " volume=" ∷ decimal d.record_of.volume ∷ codes " mute=" ∷ switch_text d.record_of.mute ∷ codes " arc=" ∷ switch_text d.record_of.arc
    ∷ codes " sel=" ∷ dash_or decimal d.record_of.selected ∷ codes " lang=" ∷ flat_map hex_text language
    ∷ codes " osd=" ∷ hex_or_dash d.record_of.osd.items ∷ codes " held=" ∷ dash_or hex_text d.record_of.held
    ∷ codes " heard=" ∷ heard ∷ codes " sub=" ∷ dash_or (λ n. nibble_text (n % 16)) d.record_of.sub
    ∷ codes " queue=" ∷ decimal (length d.queue) ∷ codes " dropped=" ∷ decimal d.dropped ∷ codes "\n" ∷ []) refl

outside_ends : (d : State) (address unknown : List ℕ) → EndsSo (outside_line_of d address unknown)
outside_ends d address unknown =
    parts_end (
    codes "state " ∷ d.name ∷ codes " " ∷ kind_word d.kind ∷ codes " " ∷ address ∷ codes " " ∷ dash_or phys_text (phys_on (is_on_wire d) d.phys)
    ∷ unknown ∷ decimal (length d.queue) ∷ codes " dropped=" ∷ decimal d.dropped ∷ codes "\n" ∷ []) refl

line_ends : (d : State) → EndsSo (state_line d)
line_ends d = either (is_outside d.kind)
  where
    either : (b : Bool) → EndsSo (if b then outside_line d (held_text (held_by d))
        else state_line_of d (address_text d.kind (addresses_held d.place)) (language_bytes d.record_of.language) (dash_or note_text d.record_of.heard))
    either true = outside_ends d (held_text (held_by d)) (codes " - active=- path=- deck=- menu=- audio=- volume=- mute=- arc=- sel=- lang=- osd=- held=- heard=- sub=- queue=")
    either false = inside_ends d (address_text d.kind (addresses_held d.place)) (language_bytes d.record_of.language) (dash_or note_text d.record_of.heard)

trimmed : (text : List ℕ) → EndsSo text → take (length text - 1) text ++ codes "\n" ≡ text
trimmed text e =
    let long : length text ≡ length e.front + 1 = ap length e.same ∙ length-append e.front (codes "\n") in
    let many : length e.front ≡ length text - 1 = omega (arith, long) in
    ap (λ (t : List ℕ). take (length text - 1) t ++ codes "\n") e.same ∙ ap (λ (t : List ℕ). t ++ codes "\n") (take_at e.front (codes "\n") (length text - 1) many) ∙ sym e.same

pub said_is : (o : Option State) → IsStateLine o (state_said o)
said_is None = refl
said_is (Some d) = trimmed (state_line d) (line_ends d)
