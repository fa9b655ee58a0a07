-- What is added to a text that goes to a sink.
use Rattle.std.specs.Prelude.{◌≡◌, ℕ, ◌+◌, ◌<◌, Bool, true, false, List, ◌++◌, length, take, get_or, Option, Result}
use Rattle.std.specs.Borrow.{GName}
use Rattle.std.specs.Io.KnownBytes.{Appends}
use Rattle.std.specs.List.{flat_map}
use Rattle.text_core.specs.Cut.{WrittenText, reported_count}
use Rattle.text_core.specs.declared.sink.WriteFault.{WriteFault}

-- a sink that is lent for a text: the bytes that it holds, where they are known, whether it is stuck, how many bytes of the text
-- it took, whether it failed on the way, and whose loan it is
pub record Tally : Type 0 where
  pub known : Option (List ℕ)
  pub stuck : Bool
  pub count : ℕ
  pub failed : Bool
  pub loan : GName

-- before the first part
abbrev pub begun : Option (List ℕ) → Bool → GName → Tally
begun known stuck loan = record { known = known; stuck = stuck; count = 0; failed = false; loan = loan }

-- it took these bytes, and counts them: the count stays at its greatest value
pub record Took (old new : Tally) (bytes : List ℕ) : Type 0 where
  pub below : Appends old.known new.known bytes
  pub counts : reported_count new.count ≡ reported_count (old.count + length bytes)
  pub loan : new.loan ≡ old.loan

-- it took the text whole
pub record TookAll (old new : Tally) (text : List ℕ) : Type 0 where
  pub took : Took old new text
  pub stuck : new.stuck ≡ old.stuck

-- it took a front of the text, and then a `put` took none
pub record TookFront (old new : Tally) (text : List ℕ) : Type 0 where
  pub front : List ℕ
  pub rest : List ℕ
  pub parts : text ≡ front ++ rest
  pub short : 0 < length rest
  pub took : Took old new front
  pub stuck : new.stuck ≡ true

-- By whether it had failed before, and has by now: after a fault nothing more is taken.
abbrev pub AddsBy : Bool → Bool → Tally → Tally → List ℕ → Type 0
AddsBy true failed old new text = new ≡ old
AddsBy false false old new text = TookAll old new text
AddsBy false true old new text = TookFront old new text

-- THE clause of what writes: a text is added
abbrev pub Adds : Tally → Tally → List ℕ → Type 0
Adds old new text = AddsBy old.failed new.failed old new text

-- the parts of a list are added up to one, and then that one
abbrev pub PartsAdded : Type 0 → Type 0
PartsAdded X = (f : X → List ℕ) (parts : List X) (i : ℕ) (x : X) (a b c : Tally) → i < length parts → get_or parts i x ≡ x
    → Adds a b (flat_map f (take i parts)) → Adds b c (f x) → Adds a c (flat_map f (take (i + 1) parts))

-- a sink that is lent for a text is at the end of the loan as the text left it, by whose loan it is
abbrev pub TextEnded : Type 0 → Type 0
TextEnded V = (contents : V → Option (List ℕ)) (is_stuck : V → Bool) (old new below : V) (loan back : GName) (a b : Tally) (text : List ℕ) (result : Result ℕ WriteFault)
    → a ≡ begun (contents old) (is_stuck old) loan → Adds a b text
    → ((known : Option (List ℕ)) (was : Bool) (name : GName) (t : List ℕ) → Adds (begun known was name) b t → WrittenText known b.known was b.stuck t result)
    → back ≡ b.loan → contents below ≡ b.known → is_stuck below ≡ b.stuck → (back ≡ loan → new ≡ below)
    → WrittenText (contents old) (contents new) (is_stuck old) (is_stuck new) text result
