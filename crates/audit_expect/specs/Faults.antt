-- The first line of expectations of a capture that is at fault (own). Lines count from 1.
use Rattle.std.specs.Prelude.{ℕ, ◌+◌, nat_lt, if◌then◌else◌, List, [], ◌∷◌, Option, Some, None}
use Rattle.text_core.specs.Lines.{lines_of}
use Rattle.expect_text.specs.Faults.{fault_or, reading_fault}
use Rattle.text_core.specs.declared.at.AtWord.{AtWord}
use Rattle.expect_text.specs.declared.form.ExpectCause.{ExpectCause}
use Rattle.text_core.specs.declared.at.At.{At}
use Rattle.audit_expect.specs.Lines.{line_fault}
use Rattle.audit_expect.specs.Wanted.{plain_text, wanted_faults}

abbrev pub or_else : Option (AtWord ExpectCause) → Option (AtWord ExpectCause) → Option (AtWord ExpectCause)
or_else None next = next
or_else (Some fault) next = Some fault

-- the first line at fault of these, of which the first has this number: it is none of a capture's, or its label or expectation is
-- at fault as in a script; there are no devices, and nobody is said to send
abbrev pub faults_from : List ℕ → ℕ → List (List ℕ) → Option (At ExpectCause)
faults_from text number [] = None
faults_from text number (line ∷ lines) = fault_or number (or_else (line_fault line) (reading_fault text number line)) (faults_from text (number + 1) lines)

-- of expectations of readings
abbrev pub readings_fault : List ℕ → Option (At ExpectCause)
readings_fault text = faults_from text 1 (lines_of text)

-- ---- as it is found

-- the first line that is none of a capture's
abbrev pub kinds_from : ℕ → List (List ℕ) → Option (At ExpectCause)
kinds_from number [] = None
kinds_from number (line ∷ lines) = fault_or number (line_fault line) (kinds_from (number + 1) lines)

-- ---- of readings and of remarks

-- the one on the earlier line, or else the first
abbrev pub earlier : Option (At ExpectCause) → Option (At ExpectCause) → Option (At ExpectCause)
earlier None other = other
earlier (Some fault) None = Some fault
earlier (Some fault) (Some other) = if nat_lt other.line fault.line then Some other else Some fault

-- the first line at fault of all
abbrev pub first_fault : List ℕ → Option (At ExpectCause)
first_fault text = earlier (wanted_faults 1 (lines_of text)) (readings_fault (plain_text text))
