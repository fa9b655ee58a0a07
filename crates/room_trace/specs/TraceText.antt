-- The lines of a trace that tell rounds and events (the profile's own text).
use Rattle.std.specs.Prelude.{ℕ, List, [], ◌∷◌, ◌++◌, map, slice_get, Option, Some, None, codes}
use Rattle.std.specs.Fmt.{decimal}
use Rattle.std.specs.List.{concat, flat_map}
use Rattle.line_rounds.specs.declared.Loser.{Loser}
use Rattle.line_rounds.specs.declared.Outcome.{Outcome}
use Rattle.message_text.specs.ReadingText.{reported_text, verdict_text, reading_text_of}
use Rattle.device_core.specs.declared.keys.KeyError.{KeyError}
use Rattle.device_core.specs.declared.keys.KeyError.TheVariants as key
use Rattle.device_core.specs.declared.device.SubmitError.{SubmitError}
use Rattle.device_core.specs.declared.device.SubmitError.TheVariants as submit
use Rattle.device_core.specs.State.{State}
use Rattle.room_event.specs.declared.event.EventError.{EventError}
use Rattle.room_event.specs.declared.event.EventError.TheVariants.{Plug, Unplug, Key, Send}
use Rattle.edid_tree.specs.declared.plug.PlugError.{PlugError}
use Rattle.edid_tree.specs.declared.plug.PlugError.TheVariants as plug
use Rattle.edid_tree.specs.declared.plug.UnplugError.{UnplugError}
use Rattle.edid_tree.specs.declared.plug.UnplugError.TheVariants as unplug

-- texts with commas between them, a dash for none
abbrev pub comma_list : List (List ℕ) → List ℕ
comma_list [] = codes "-"
comma_list (text ∷ texts) = text ++ flat_map (λ t. 44 ∷ t) texts

-- ---- rounds

-- the name of the device of a number
abbrev pub name_of : Option State → List ℕ
name_of None = []
name_of (Some d) = d.name

abbrev pub name_at : List State → ℕ → List ℕ
name_at devices number = name_of (slice_get devices number)

abbrev pub loser_text : List State → Loser → List ℕ
loser_text devices loser = name_at devices loser.seat ++ (64 ∷ decimal loser.slot)

-- a round's line, by its devices, from what its reading reports and the verdict
abbrev pub round_line_of : List State → Outcome → List ℕ → List ℕ → List ℕ
round_line_of devices o reported verdict = concat (
    reading_text_of o.reading reported verdict ∷ codes " by " ∷ comma_list (map (name_at devices) o.survivors.items)
    ∷ codes " out " ∷ comma_list (map (loser_text devices) o.losers.items) ∷ codes "\n" ∷ [])

abbrev pub round_line : List State → Outcome → List ℕ
round_line devices o = round_line_of devices o (reported_text o.reading) (verdict_text o.reading)

-- ---- events

abbrev pub plug_word : PlugError → List ℕ
plug_word plug.PortRange = codes "port-range"
plug_word plug.PortTaken = codes "port-taken"
plug_word plug.NotLoose = codes "not-loose"
plug_word plug.Loop = codes "loop"

abbrev pub unplug_word : UnplugError → List ℕ
unplug_word unplug.NotPlugged = codes "not-plugged"

abbrev pub key_word : KeyError → List ℕ
key_word key.NotForKind = codes "not-for-kind"
key_word key.OffWire = codes "off-wire"

abbrev pub submit_word : SubmitError → List ℕ
submit_word submit.QueueFull = codes "queue-full"
submit_word submit.OwnAddress = codes "own-address"
submit_word submit.NoAddress = codes "no-address"
submit_word submit.OffWire = codes "off-wire"

abbrev pub error_word : EventError → List ℕ
error_word (Plug e) = plug_word e
error_word (Unplug e) = unplug_word e
error_word (Key e) = key_word e
error_word (Send e) = submit_word e

-- an event's line: the instant at which it was applied, its line in the script, and whether it was refused
abbrev pub event_line : ℕ → ℕ → Option EventError → List ℕ
event_line at line None = concat (decimal at ∷ codes " event " ∷ decimal line ∷ codes " ok\n" ∷ [])
event_line at line (Some error) = concat (decimal at ∷ codes " event " ∷ decimal line ∷ codes " refused " ∷ error_word error ∷ codes "\n" ∷ [])

abbrev pub end_line : ℕ → List ℕ
end_line end = concat (decimal end ∷ codes " end\n" ∷ [])
