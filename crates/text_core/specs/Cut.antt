-- What has been written of a text, and how a fault reports it.
use Rattle.std.specs.Prelude.{◌≡◌, ℕ, ◌+◌, ◌<◌, min, Bool, true, List, ◌++◌, length, take, get_or, Option, Result, Ok, Err}
use Rattle.std.specs.Io.KnownBytes.{Appends}
use Rattle.std.specs.List.{flat_map}
use Rattle.text_core.specs.declared.sink.WriteFault.{WriteFault}

-- a count of bytes as a u128 reports it, which stays at its greatest value
abbrev pub reported_count : ℕ → ℕ
reported_count n = min n 340282366920938463463374607431768211455

-- a fault cut the text off: its front was written, as long as the fault reports
abbrev pub CutOff : Option (List ℕ) → Option (List ℕ) → List ℕ → WriteFault → Type 0
CutOff old new text fault = (count : ℕ) × (count < length text) × (fault.count ≡ reported_count count) × Appends old new (take count text)

-- a text was written whole, whose length is answered, or a fault cut it off and the sink is stuck
abbrev pub WrittenText : Option (List ℕ) → Option (List ℕ) → Bool → Bool → List ℕ → Result ℕ WriteFault → Type 0
WrittenText old new was is text (Ok n) = (n ≡ reported_count (length text)) × Appends old new text × (is ≡ was)
WrittenText old new was is text (Err fault) = CutOff old new text fault × (is ≡ true)

-- the same, where the length is not answered
abbrev pub WritesText : Option (List ℕ) → Option (List ℕ) → Bool → Bool → List ℕ → Result (Unit {0}) WriteFault → Type 0
WritesText old new was is text (Ok n) = Appends old new text × (is ≡ was)
WritesText old new was is text (Err fault) = CutOff old new text fault × (is ≡ true)

-- a text is written, and a fault cuts off the one after it
abbrev pub CutLater : Type 0
CutLater = (a b c : Option (List ℕ)) (xs ys : List ℕ) (n : ℕ) (inner fault : WriteFault) → n ≡ reported_count (length xs) → Appends a b xs
    → CutOff b c ys inner → fault.count ≡ reported_count (n + inner.count) → CutOff a c (xs ++ ys) fault

-- the parts of a list are written up to one, and then the front of that one
abbrev pub CutPart : Type 0 → Type 0
CutPart X = (f : X → List ℕ) (parts : List X) (i k n : ℕ) (d : X) (a b c : Option (List ℕ)) → i < length parts
    → n ≡ length (flat_map f (take i parts)) → k < length (f (get_or parts i d)) → Appends a b (flat_map f (take i parts)) → Appends b c (take k (f (get_or parts i d)))
    → (n + k < length (flat_map f parts)) × Appends a c (take (n + k) (flat_map f parts))
