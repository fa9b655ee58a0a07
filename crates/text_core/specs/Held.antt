-- What a `Held` holds (own).
use Rattle.std.specs.Prelude.{ℕ, Bool, List}
use Rattle.text_core.specs.declared.held.Held.{Held}

-- what was put to it
abbrev pub held_bytes : Held → List ℕ
held_bytes held = held.bytes.items

-- whether memory ran out
abbrev pub is_full : Held → Bool
is_full held = held.stuck
