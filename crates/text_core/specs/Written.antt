-- What a call has written to a sink.
use Rattle.std.specs.Prelude.{◌≡◌, ℕ, ◌<◌, ◌^◌, Bool, true, List, length, take, Option, Result, Ok, Err}
use Rattle.std.specs.Io.KnownBytes.{Appends}
use Rattle.text_core.specs.declared.sink.WriteFault.{WriteFault}

-- after a fault the front of the text is written, as long as the fault says, and the sink is stuck
abbrev pub WrittenFront : Option (List ℕ) → Option (List ℕ) → Bool → List ℕ → WriteFault → Type 0
WrittenFront old new is text fault = (fault.count < length text) × Appends old new (take fault.count text) × (is ≡ true)

-- a text is written, whose length is answered, or its front up to a fault
abbrev pub Written : Option (List ℕ) → Option (List ℕ) → Bool → Bool → List ℕ → Result ℕ WriteFault → Type 0
Written old new was is text (Ok n) = (n ≡ length text) × Appends old new text × (is ≡ was)
Written old new was is text (Err fault) = WrittenFront old new is text fault × (fault.count < 2 ^ 64)

-- a text is written whole, or its front up to a fault
abbrev pub WrittenAll : Option (List ℕ) → Option (List ℕ) → Bool → Bool → List ℕ → Result (Unit {0}) WriteFault → Type 0
WrittenAll old new was is text (Ok n) = Appends old new text × (is ≡ was)
WrittenAll old new was is text (Err fault) = WrittenFront old new is text fault

-- a line is written whole, and its length answered, or its front up to a fault
abbrev pub WrittenLine : Option (List ℕ) → Option (List ℕ) → Bool → Bool → List ℕ → Result ℕ WriteFault → Type 0
WrittenLine old new was is text (Ok n) = (n ≡ length text) × Appends old new text × (is ≡ was)
WrittenLine old new was is text (Err fault) = WrittenFront old new is text fault
