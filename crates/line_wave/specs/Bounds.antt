-- The bounds of times, in microseconds, and of counts (own, but where a clause is named).
use Rattle.std.specs.Prelude.{ℕ}

-- the latest time of a script: of an event, of a pulse and of its end
abbrev pub latest_event : ℕ
latest_event = 1000000000000

-- the latest instant of a captured line, and of a run
abbrev pub latest_instant : ℕ
latest_instant = 2000000000000

-- the latest begin of a round, and the latest instant at which a line may have come to rest before one
abbrev pub latest_begin : ℕ
latest_begin = 2000000100000

abbrev pub latest_rest : ℕ
latest_rest = 2500000000000

-- the latest instant that receivers and senders are told of
abbrev pub latest_heard : ℕ
latest_heard = 3000000000000

-- the most pulses of a script, and those of a session that wait
abbrev pub most_pulses : ℕ
most_pulses = 4096

-- the most pulses and pulls of a script, and those of a session that wait
abbrev pub most_pulls : ℕ
most_pulls = 16384

-- the widest pull of a script, in microseconds
abbrev pub widest_pull : ℕ
widest_pull = 10000000

-- the most slots of a message after its start bit: ten for each of 16 blocks (CEC 6)
abbrev pub most_slots : ℕ
most_slots = 160

-- the most low stretches of a sender: the start bit's, and those of its slots
abbrev pub most_sent : ℕ
most_sent = 161

-- the most low stretches of a round's line
abbrev pub most_stretches : ℕ
most_stretches = 192
