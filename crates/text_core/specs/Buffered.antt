-- What a `Buffered` holds, and how it hands that on (own).
use Rattle.std.specs.Prelude.{◌≡◌, ℕ, ◌+◌, ◌-◌, ◌^◌, min, List, ◌++◌, length, Option}
use Rattle.std.specs.Io.KnownBytes.{Appends}
use Rattle.text_core.specs.declared.buffered.Buffered.{Buffered}

-- the sink below
abbrev pub below : {S : Type 0} → Buffered S → S
below b = b.sink

-- what was put, and is not handed on yet
abbrev pub pending : {S : Type 0} → Buffered S → List ℕ
pending b = b.pending.items

-- how many bytes the sink below has taken
abbrev pub handed_count : {S : Type 0} → Buffered S → ℕ
handed_count b = b.handed

-- these bytes are put: of what was pending and of them the sink below takes the front, and the rest is pending.
-- The count is that of a u128, which stays at its greatest value
abbrev pub HandsOn : {S : Type 0} → (S → Option (List ℕ)) → Buffered S → Buffered S → List ℕ → Type 0
HandsOn contents old new bytes = (moved : List ℕ) × (moved ++ pending new ≡ pending old ++ bytes)
    × Appends (contents (below old)) (contents (below new)) moved × (handed_count new ≡ min (handed_count old + length moved) (2 ^ 128 - 1))
