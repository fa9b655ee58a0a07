-- What is still to come of a text that is read plain (own).
use Rattle.std.specs.Prelude.{◌≡◌, ◌≢◌, ℕ, slice_index, ◌==◌, Bool, true, false, List, [], ◌∷◌, ◌++◌, drop, take, length, ◌<◌, ◌≤◌, Option, Result, Ok, Err}
use Rattle.std.specs.List.{position_or_len}
use Rattle.std.specs.Io.KnownBytes.{Consumes, IsAtEnd, Keeps, prepend_known}
use Rattle.std.specs.Option.{option_map}
use Rattle.program_input.specs.Plain.{without_mark, without_returns}
use Rattle.program_input.specs.declared.returns.WithoutReturns.{WithoutReturns}
use Rattle.program_input.specs.declared.mark.WithoutMark.{WithoutMark}

-- a carriage return that was read, where it is not known yet whether a line ends there
abbrev pub held_back : Bool → List ℕ
held_back false = []
held_back true = 13 ∷ []

-- what is handed out of a text that is left: as it stands, or after a return that was held back without the returns
abbrev pub plain_of : Bool → Bool → List ℕ → List ℕ
plain_of false held text = text
plain_of true held text = without_returns (held_back held ++ text)

-- the same of what was read and not handed out, and then what the reader has, where that is known
abbrev pub plain_left : Bool → Bool → List ℕ → Option (List ℕ) → Option (List ℕ)
plain_left is_plain held left rest = option_map (λ xs. plain_of is_plain held (left ++ xs)) rest

-- more was read, or none is left; after a fault all is as it was
abbrev pub IsFilled : {E : Type 0} → Option (List ℕ) → Option (List ℕ) → List ℕ → Result Unit E → Type 0
IsFilled old new left (Ok done) = Consumes old new [] × (left ≡ [] → IsAtEnd new)
IsFilled old new left (Err fault) = Keeps old new

-- what was read and is not handed out
abbrev pub left_of : {R : Type 0} → WithoutReturns R → List ℕ
left_of text = drop text.handed (take text.given text.pending)

-- what is still to come of a text, where it is known what its reader has
abbrev pub still_left : {R : Type 0} → WithoutReturns R → Option (List ℕ) → Option (List ℕ)
still_left text rest = plain_left text.is_plain text.held (left_of text) rest

-- nothing but the end is left, or a byte that may be handed out
abbrev pub IsRun : Bool → Bool → List ℕ → Type 0
IsRun false held left = Unit {0}
IsRun true true left = Unit {0}
IsRun true false left = slice_index left 0 ≢ 13

-- so many bytes were handed out: none but at the end
abbrev pub IsHanded : Option (List ℕ) → Option (List ℕ) → List ℕ → ℕ → Type 0
IsHanded old new bytes count = Consumes old new (take count bytes) × (count ≡ 0 → IsAtEnd new)

-- how much of what is left is handed out at once: up to a carriage return where these are left out
abbrev pub run_of : Bool → List ℕ → ℕ
run_of false left = length left
run_of true left = position_or_len (λ b. b == 13) left

-- what is handed out of a text that is left: all of it, or at its front without the mark
abbrev pub unmarked_of : Bool → List ℕ → List ℕ
unmarked_of false text = text
unmarked_of true text = without_mark text

abbrev pub unmarked_left : Bool → List ℕ → Option (List ℕ) → Option (List ℕ)
unmarked_left is_front front rest = option_map (λ xs. unmarked_of is_front (front ++ xs)) rest

abbrev pub still_unmarked : {R : Type 0} → WithoutMark R → Option (List ℕ) → Option (List ℕ)
still_unmarked text rest = unmarked_left text.is_front text.front.items rest

-- no byte is lost, and one more was read where there is room and one is left
abbrev pub IsGrown : Option (List ℕ) → Option (List ℕ) → List ℕ → List ℕ → Type 0
IsGrown old new front after = Consumes (prepend_known front old) (prepend_known after new) [] × (length after ≡ length front → length front < 3 → IsAtEnd new) × (length front ≤ length after)

-- one byte more was read, or none is left; after a fault all is as it was
abbrev pub IsWidened : {E : Type 0} → Option (List ℕ) → Option (List ℕ) → List ℕ → List ℕ → Result Unit E → Type 0
IsWidened old new front after (Ok done) = IsGrown old new front after
IsWidened old new front after (Err fault) = Consumes (prepend_known front old) (prepend_known after new) []
