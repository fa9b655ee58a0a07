-- Expectations of the remarks that an audit of a capture has (own): `expect no-remark`, that it has none, `expect no-remark PATTERN`, that
-- none meets the pattern, and `expect remark PATTERN`, that one does. No label stands before them.
use Rattle.std.specs.Prelude.{ℕ, ◌+◌, ◌==◌, Bool, if◌then◌else◌, codes, length, is_some, List, [], ◌∷◌, ◌++◌, Option, Some, None}
use Rattle.std.specs.Str.{bytes_eq}
use Rattle.std.specs.List.{flat_map, list_any}
use Rattle.text_core.specs.Lines.{lines_of}
use Rattle.text_core.specs.Words.{text_of, words_of}
use Rattle.audit_notes.specs.declared.note.AuditNote.{AuditNote}
use Rattle.text_core.specs.At.{at_word}
use Rattle.expect_text.specs.Faults.{fault_or}
use Rattle.expect_text.specs.Remarks.{is_remark_called}
use Rattle.expect_remarks.specs.Met.{is_met, remarks_met, shown_remarks}
use Rattle.expect_text.specs.Form.{is_pattern}
use Rattle.text_core.specs.declared.at.AtWord.{AtWord}
use Rattle.expect_text.specs.declared.form.ExpectCause.{ExpectCause}
use Rattle.text_core.specs.declared.at.At.{At}
use Rattle.expect_text.specs.declared.form.ExpectCause.TheVariants.{Word, Pattern, Unmet}
use Rattle.record_core.specs.declared.cell.Form.{Form}
use Rattle.expect_run.specs.Report.{Report, with_remarks, with_test}
use Rattle.audit_expect.specs.declared.wanted.WantedRemarks.{WantedRemarks as WantedRead}
use Rattle.audit_expect.specs.declared.wanted.WantedRemarks.TheVariants as wants

-- no remark that meets a pattern, which where it is empty all do, or one that meets it
pub data WantedRemarks : Type 0 where
  NoRemark : List ℕ → WantedRemarks
  Remark : List ℕ → WantedRemarks

-- without where the pattern lies in memory
abbrev pub wanted_as : WantedRead → WantedRemarks
wanted_as (wants.NoRemark pattern) = NoRemark pattern.now
wanted_as (wants.Remark pattern) = Remark pattern.now

-- ---- lines

abbrev pub wanted_by : List ℕ → List ℕ → Option WantedRemarks
wanted_by how rest =
    if bytes_eq how (codes "no-remark") then Some (NoRemark rest)
    else if bytes_eq how (codes "remark") then Some (Remark rest)
    else None

-- what a line expects of remarks
abbrev pub wanted_in : List (List ℕ) → Option WantedRemarks
wanted_in [] = None
wanted_in (verb ∷ []) = None
wanted_in (verb ∷ how ∷ words) = if bytes_eq verb (codes "expect") then wanted_by how (text_of words) else None

abbrev pub wanted_of : List ℕ → Option WantedRemarks
wanted_of line = wanted_in (words_of line)

-- some line expects something of them
abbrev pub is_any_wanted : List (List ℕ) → Bool
is_any_wanted lines = list_any (λ line. is_some (wanted_of line)) lines

abbrev pub plain_line : List ℕ → List ℕ
plain_line line = if is_some (wanted_of line) then [] else line

-- the expectations of the readings alone, line for line: any other line is empty
abbrev pub plain_text : List ℕ → List ℕ
plain_text text = flat_map (λ line. plain_line line ++ 10 ∷ []) (lines_of text)

-- ---- faults

-- a pattern is one as of readings, whose first word the name of some kind of remarks meets
abbrev pub pattern_fault : List ℕ → Option (AtWord ExpectCause)
pattern_fault pattern =
    if length pattern == 0 then Some (at_word 2 Word)
    else if is_pattern pattern then (if is_remark_called pattern then None else Some (at_word 2 Unmet))
    else Some (at_word 2 Pattern)

-- nothing or a pattern stands after `no-remark`
abbrev pub unremarked_fault : List ℕ → List ℕ → Option (AtWord ExpectCause)
unremarked_fault line pattern = if bytes_eq line (codes "expect no-remark") then None else pattern_fault pattern

abbrev pub wanted_fault : List ℕ → Option WantedRemarks → Option (AtWord ExpectCause)
wanted_fault line None = None
wanted_fault line (Some (NoRemark pattern)) = unremarked_fault line pattern
wanted_fault line (Some (Remark pattern)) = pattern_fault pattern

-- the first of these lines, of which the first has this number, that expects something of remarks and is at fault
abbrev pub wanted_faults : ℕ → List (List ℕ) → Option (At ExpectCause)
wanted_faults number [] = None
wanted_faults number (line ∷ lines) = fault_or number (wanted_fault line (wanted_of line)) (wanted_faults (number + 1) lines)

-- ---- verdicts

-- the pattern of `no-remark`, where one stands there
abbrev pub pattern_in : List ℕ → Option (List ℕ)
pattern_in [] = None
pattern_in (b ∷ bs) = Some (b ∷ bs)

-- by the remarks of an audit
abbrev pub holds_of : List AuditNote → WantedRemarks → Bool
holds_of remarks (NoRemark pattern) = length (remarks_met (pattern_in pattern) remarks) == 0
holds_of remarks (Remark pattern) = list_any (is_met pattern) remarks

-- below a test that failed stand the first eight of the remarks that were not to be there, or of all of them
abbrev pub seen_of : List AuditNote → WantedRemarks → List AuditNote
seen_of remarks (NoRemark pattern) = remarks_met (pattern_in pattern) remarks
seen_of remarks (Remark pattern) = remarks

abbrev pub with_wanted : Form → List AuditNote → Report → ℕ → List ℕ → Option WantedRemarks → Report
with_wanted form remarks r number line None = r
with_wanted form remarks r number line (Some wanted) =
    with_remarks (with_test form r (holds_of remarks wanted) number line) (holds_of remarks wanted) (shown_remarks form (seen_of remarks wanted))

-- of these lines, of which the first has this number
abbrev pub with_wanted_lines : Form → List AuditNote → Report → ℕ → List (List ℕ) → Report
with_wanted_lines form remarks r number [] = r
with_wanted_lines form remarks r number (line ∷ lines) = with_wanted_lines form remarks (with_wanted form remarks r number line (wanted_of line)) (number + 1) lines
