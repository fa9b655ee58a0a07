-- What a receiver hears, in plain numbers (this profile's own).
use Rattle.std.specs.Prelude.{ℕ, ◌==◌, false, if◌then◌else◌, Option, Some, None, option_map}
use Rattle.line_frames.specs.declared.Ending.{Ending}
use Rattle.line_frames.specs.declared.Ending.TheVariants.{Complete, Short, Silent, BadStart, Long, Open}
use Rattle.line_reading.specs.declared.receiver.Told.{Told}
use Rattle.line_reading.specs.declared.receiver.Told.TheVariants.{Nothing, Bit, Last, Ended}
use Rattle.library_answers.specs.Codes.{number_of}
use Rattle.library_answers.specs.declared.code.Code.{Code}
use Rattle.library_answers.specs.declared.code.Code.TheVariants.{Done, Absent}
use Rattle.library_wire.specs.declared.heard.InstantHeard.{InstantHeard}
use Rattle.library_wire.specs.declared.heard.Instant.{Instant}

-- ---- how a reading ends

abbrev pub ending_number : Ending → ℕ
ending_number Complete = 1
ending_number Short = 2
ending_number Silent = 3
ending_number BadStart = 4
ending_number Long = 5
ending_number Open = 6

abbrev pub ending_in : ℕ → Option Ending
ending_in n =
    if n == 1 then Some Complete
    else if n == 2 then Some Short
    else if n == 3 then Some Silent
    else if n == 4 then Some BadStart
    else if n == 5 then Some Long
    else if n == 6 then Some Open
    else None

-- ---- what an instant reports

abbrev pub heard_of : Told → InstantHeard
heard_of Nothing = record { code = 0; kind = 0; ending = 0; bit = false; slot = 0 }
heard_of (Bit slot value) = record { code = 0; kind = 1; ending = 0; bit = value; slot = slot }
heard_of (Last value ending) = record { code = 0; kind = 2; ending = ending_number ending; bit = value; slot = 0 }
heard_of (Ended ending) = record { code = 0; kind = 3; ending = ending_number ending; bit = false; slot = 0 }

abbrev pub reported_in : InstantHeard → Option Told
reported_in h =
    if h.kind == 0 then Some Nothing
    else if h.kind == 1 then Some (Bit h.slot h.bit)
    else if h.kind == 2 then option_map (λ e. Last h.bit e) (ending_in h.ending)
    else if h.kind == 3 then option_map (λ e. Ended e) (ending_in h.ending)
    else None

-- nothing was heard
abbrev pub heard_code : Code → InstantHeard
heard_code code = record { code = number_of code; kind = 0; ending = 0; bit = false; slot = 0 }

-- ---- instants

abbrev pub instant_of : Option ℕ → Instant
instant_of None = record { code = number_of Absent; at = 0 }
instant_of (Some t) = record { code = number_of Done; at = t }

abbrev pub instant_refused : Code → Instant
instant_refused code = record { code = number_of code; at = 0 }
