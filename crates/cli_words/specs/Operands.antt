-- The words of a command line that name its input (own).
use Rattle.std.specs.Prelude.{ℕ, ◌+◌, ◌==◌, nat_le, List, [], ◌∷◌, ◌++◌, length, take, Bool, true, false, not, ◌&&◌, ◌||◌, if◌then◌else◌, codes, Option, Some, None, option_and_then}
use Rattle.std.specs.Str.{bytes_eq}
use Rattle.cli_words.specs.Line.{asked_by}
use Rattle.cli_choice.specs.declared.choice.Asked.{Asked}
use Rattle.cli_choice.specs.declared.choice.CommandChoice.{CommandChoice}
use Rattle.cli_choice.specs.declared.choice.CommandChoice.TheVariants.{CaptureDiff, Check, CheckCapture, Edid, EdidDiff, InfoFrame, Live}
use Rattle.cli_choice.specs.declared.choice.Source.{Source}
use Rattle.cli_choice.specs.declared.choice.Source.TheVariants.{Bytes, Pair}
use Rattle.cli_choice.specs.declared.choice.TestView.{TestView}
use Rattle.cli_choice.specs.declared.choice.TestView.TheVariants.{Report, Progress, Traced, Plain}
use Rattle.cli_words.specs.declared.operands.Place.{Place}
use Rattle.cli_words.specs.declared.operands.Place.TheVariants as place
use Rattle.cli_words.specs.declared.operands.WordKind.{WordKind}
use Rattle.cli_words.specs.declared.operands.WordKind.TheVariants as kind

-- a flag that a value follows, as a word of its own
abbrev pub takes_value : List ℕ → Bool
takes_value word =
    bytes_eq word (codes "--as") || bytes_eq word (codes "--from") || bytes_eq word (codes "--signal") || bytes_eq word (codes "--scale")
    || bytes_eq word (codes "--glitch") || bytes_eq word (codes "--margin") || bytes_eq word (codes "--replay") || bytes_eq word (codes "--address") || bytes_eq word (codes "--port") || bytes_eq word (codes "--below")
    || bytes_eq word (codes "--speakers") || bytes_eq word (codes "--rows") || bytes_eq word (codes "--infoframe") || bytes_eq word (codes "--nth")

-- it begins with `-`, and is more
abbrev pub is_flag : List ℕ → Bool
is_flag word = bytes_eq (take 1 word) (codes "-") && not (bytes_eq word (codes "-"))

-- what a word is, by its place
abbrev pub kind_of : Place → List ℕ → WordKind
kind_of place.Name word = kind.Asking
kind_of place.Command word = if bytes_eq word (codes "--") then kind.End else kind.Asking
kind_of place.Flags word = if bytes_eq word (codes "--") then kind.End else if is_flag word then kind.Asking else kind.Operand
kind_of place.Value word = kind.Asking
kind_of place.Operands word = kind.Operand

-- the place of the word after it
abbrev pub place_after : Place → List ℕ → Place
place_after place.Name word = place.Command
place_after place.Command word = if bytes_eq word (codes "--") then place.Operands else if is_flag word then place.Command else place.Flags
place_after place.Flags word = if bytes_eq word (codes "--") then place.Operands else if takes_value word then place.Value else place.Flags
place_after place.Value word = place.Flags
place_after place.Operands word = place.Operands

-- a word among those that ask, and among the operands
abbrev pub asking : WordKind → List ℕ → List (List ℕ)
asking kind.Asking word = word ∷ []
asking kind.End word = []
asking kind.Operand word = []

abbrev pub operand : WordKind → List ℕ → List (List ℕ)
operand kind.Asking word = []
operand kind.End word = []
operand kind.Operand word = word ∷ []

-- the words that ask, from a place on, and the operands
abbrev pub words_from : Place → List (List ℕ) → List (List ℕ)
words_from at [] = []
words_from at (word ∷ words) = asking (kind_of at word) word ++ words_from (place_after at word) words

abbrev pub operands_from : Place → List (List ℕ) → List (List ℕ)
operands_from at [] = []
operands_from at (word ∷ words) = operand (kind_of at word) word ++ operands_from (place_after at word) words

-- those of a whole command line
abbrev pub words_in : List (List ℕ) → List (List ℕ)
words_in words = words_from place.Name words

abbrev pub operands_in : List (List ℕ) → List (List ℕ)
operands_in words = operands_from place.Name words

-- standard input is one of some operands
abbrev pub has_standard_input : List (List ℕ) → Bool
has_standard_input [] = false
has_standard_input (operand ∷ operands) = bytes_eq operand (codes "-") || has_standard_input operands

-- what is written is a report
abbrev pub is_report_view : TestView → Bool
is_report_view Report = true
is_report_view Progress = true
is_report_view Traced = true
is_report_view Plain = false

abbrev pub is_report : CommandChoice → Bool
is_report (Check view) = is_report_view view
is_report (CheckCapture form glitch) = true
is_report choice = false

-- what is read are two EDIDs, or two captures
abbrev pub is_pair_source : Source → Bool
is_pair_source (Pair dumps table) = true
is_pair_source source = false

abbrev pub is_pair : CommandChoice → Bool
is_pair (CaptureDiff pair) = true
is_pair (EdidDiff dumps form) = true
is_pair (Edid (Some source) reading view) = is_pair_source source
is_pair (InfoFrame (Some source) reading place form) = is_pair_source source
is_pair choice = false

abbrev pub is_session : CommandChoice → Bool
is_session (Live json) = true
is_session choice = false

-- A choice takes so many operands: one, two EDIDs or captures, and any number of inputs that reports are made of. A session reads standard input
-- alone, whose lines come while it answers.
abbrev pub takes : CommandChoice → ℕ → Bool
takes choice count = (count == 0) || ((count == 1) && not (is_session choice)) || ((count == 2) && is_pair choice) || is_report choice

-- and these, of which standard input is one alone
abbrev pub goes_with : CommandChoice → List (List ℕ) → Bool
goes_with choice operands = takes choice (length operands) && (nat_le (length operands) 1 || not (has_standard_input operands))

-- the first operand is a file, and not standard input
abbrev pub is_file : List (List ℕ) → Bool
is_file [] = false
is_file (operand ∷ operands) = not (bytes_eq operand (codes "-"))

-- what a file is read for: of an EDID's file of which no flag says what it holds, its first bytes do
abbrev pub of_file : CommandChoice → CommandChoice
of_file (Edid (Some Bytes) reading view) = Edid None reading view
of_file (InfoFrame (Some Bytes) reading place form) = InfoFrame None reading place form
of_file choice = choice

-- what words ask for, of these operands
abbrev pub of_operands : List (List ℕ) → Asked → Asked
of_operands operands asked = if is_file operands then record asked { choice = of_file asked.choice } else asked

abbrev pub asked_of_operands : List (List ℕ) → Asked → Option Asked
asked_of_operands operands asked = if goes_with (of_operands operands asked).choice operands then Some (of_operands operands asked) else None

abbrev pub asked_on : List (List ℕ) → List (List ℕ) → Option Asked
asked_on words operands = option_and_then (asked_of_operands operands) (asked_by words)
