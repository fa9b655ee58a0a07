-- Who sends in a round, and who holds which logical address when it begins (own): `@NAME=ADDRESS@NAME=ADDRESS@`.
use Rattle.std.specs.Prelude.{ℕ, ◌%◌, nat_lt, List, [], ◌++◌, if◌then◌else◌, map, Option, Some, None, codes}
use Rattle.std.specs.List.{flat_map}
use Rattle.text_core.specs.Piece.{nibble_text}
use Rattle.device_core.specs.State.{State, held_by as all_held}
use Rattle.room_trace.specs.TraceText.{comma_list, loser_text, name_at}
use Rattle.line_rounds.specs.declared.Loser.{Loser}
use Rattle.line_rounds.specs.declared.Outcome.{Outcome}

-- an address below 15 of a device: 15 is none (CEC 10.2)
abbrev pub holding : List ℕ → Option ℕ → List ℕ
holding name None = []
holding name (Some a) = if nat_lt a 15 then name ++ (codes "=" ++ (nibble_text (a % 16) ++ codes "@")) else []

abbrev pub held_by : State → List ℕ
held_by d = flat_map (holding d.name) (all_held d)

-- who was out, each with the slot
abbrev pub out_text : List State → List Loser → List ℕ
out_text devices losers = codes " out " ++ comma_list (map (loser_text devices) losers)

-- who went on to the end, and who did not
abbrev pub senders_text : List State → Outcome → List ℕ
senders_text devices o = codes " by " ++ (comma_list (map (name_at devices) o.survivors.items) ++ out_text devices o.losers.items)

-- who holds which address, as one word more
abbrev pub holders_text : List State → List ℕ
holders_text devices = codes " @" ++ flat_map held_by devices
