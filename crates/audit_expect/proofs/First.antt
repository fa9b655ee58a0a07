-- The first line at fault, where faults are of two kinds.
use Rattle.std.proofs.Common.{◌≡◌, ℕ, ◌+◌, ◌≤◌, Bool, true, false, nat_lt, List, [], ◌∷◌, Option, Some, None, ap, refl, cond, arith, lt-ltb, le-ltb}
use Rattle.expect_text.specs.Faults.{fault_or, reading_fault, faults_from as expectations_from}
use Rattle.expect_text.specs.Senders.Judged.{Capture}
use Rattle.text_core.specs.declared.at.AtWord.{AtWord}
use Rattle.expect_text.specs.declared.form.ExpectCause.{ExpectCause}
use Rattle.text_core.specs.declared.at.At.{At}
use Rattle.audit_expect.specs.Lines.{line_fault}
use Rattle.audit_expect.specs.Faults.{earlier, faults_from, kinds_from, or_else}

-- a fault stands on this line or after it
abbrev NotBefore : ℕ → Option (At ExpectCause) → Type 0
NotBefore number None = Unit {0}
NotBefore number (Some fault) = number ≤ fault.line

not_before : (number : ℕ) (fault : Option (AtWord ExpectCause)) (next : Option (At ExpectCause)) → NotBefore (number + 1) next → NotBefore number (fault_or number fault next)
not_before number None None h = tt
not_before number None (Some later) h = omega (arith, h)
not_before number (Some fault) next h = omega arith

kinds_not_before : (number : ℕ) (lines : List (List ℕ)) → NotBefore number (kinds_from number lines)
kinds_not_before number [] = tt
kinds_not_before number (line ∷ lines) = not_before number (line_fault line) (kinds_from (number + 1) lines) (kinds_not_before (number + 1) lines)

expectations_not_before : (text : List ℕ) (number : ℕ) (lines : List (List ℕ)) → NotBefore number (expectations_from Capture [] text number lines)
expectations_not_before text number [] = tt
expectations_not_before text number (line ∷ lines) =
    not_before number (reading_fault text number line) (expectations_from Capture [] text (number + 1) lines) (expectations_not_before text (number + 1) lines)

choose : (b c : Bool) (x y : At ExpectCause) → b ≡ c → (cond b (Some x) (Some y)) ≡ cond c (Some x) (Some y)
choose b c x y e = ap (λ v. cond v (Some x) (Some y)) e

joined : (number : ℕ) (own other : Option (AtWord ExpectCause)) (kinds expectations all : Option (At ExpectCause)) → NotBefore (number + 1) kinds → NotBefore (number + 1) expectations
    → earlier kinds expectations ≡ all → earlier (fault_or number own kinds) (fault_or number other expectations) ≡ fault_or number (or_else own other) all
joined number None None kinds expectations all k e is = is
joined number None (Some other) None expectations all k e is = refl
joined number None (Some other) (Some fault) expectations all k e is =
    choose (nat_lt number fault.line) true (record { line = number; cause = other.cause; word = other.word }) fault (lt-ltb number fault.line (omega (arith, k)))
joined number (Some own) None kinds None all k e is = refl
joined number (Some own) None kinds (Some fault) all k e is =
    choose (nat_lt fault.line number) false fault (record { line = number; cause = own.cause; word = own.word }) (le-ltb fault.line number (omega (arith, e)))
joined number (Some own) (Some other) kinds expectations all k e is =
    choose (nat_lt number number) false (record { line = number; cause = other.cause; word = other.word }) (record { line = number; cause = own.cause; word = own.word }) (le-ltb number number (omega arith))

pub first_is : (text : List ℕ) (number : ℕ) (lines : List (List ℕ)) → earlier (kinds_from number lines) (expectations_from Capture [] text number lines) ≡ faults_from text number lines
first_is text number [] = refl
first_is text number (line ∷ lines) =
    joined number (line_fault line) (reading_fault text number line) (kinds_from (number + 1) lines) (expectations_from Capture [] text (number + 1) lines) (faults_from text (number + 1) lines)
    (kinds_not_before (number + 1) lines) (expectations_not_before text (number + 1) lines) (first_is text (number + 1) lines)
