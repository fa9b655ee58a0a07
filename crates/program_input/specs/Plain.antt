-- Texts of captures as other systems write them, which are read with the lines of this one (own).
use Rattle.std.specs.Prelude.{ℕ, ◌==◌, ◌&&◌, ◌||◌, Bool, true, false, if◌then◌else◌, List, [], ◌∷◌, drop, take, Option}
use Rattle.std.specs.Option.{is_some, option_map}
use Rattle.std.specs.Str.{bytes_eq}
use Rattle.cli_choice.specs.declared.choice.CommandChoice.{CommandChoice}
use Rattle.cli_choice.specs.declared.choice.CommandChoice.TheVariants.{CheckCapture, Mon, Summary, CaptureDiff, Follow, CapturedLine, Json}
use Rattle.cli_choice.specs.declared.choice.Objects.{Objects}
use Rattle.cli_choice.specs.declared.choice.Objects.TheVariants.{CaptureTest}

-- a line ends here: with its line feed, or with the text
abbrev pub ends_line : List ℕ → Bool
ends_line [] = true
ends_line (b ∷ rest) = b == 10

-- a text without the carriage return at the end of each line
abbrev pub without_returns : List ℕ → List ℕ
without_returns [] = []
without_returns (b ∷ rest) = if (b == 13) && ends_line rest then without_returns rest else b ∷ without_returns rest

-- the byte order mark of UTF-8
abbrev pub mark : List ℕ
mark = 239 ∷ 187 ∷ 191 ∷ []

-- a text without the byte order mark at its front
abbrev pub without_mark : List ℕ → List ℕ
without_mark text = if bytes_eq (take 3 text) mark then drop 3 text else text

-- a text as it stands, or without both
abbrev pub plain_if : Bool → List ℕ → List ℕ
plain_if false text = text
plain_if true text = without_returns (without_mark text)

-- the same of what is known of an input, and of files
abbrev pub plain_known : Bool → Option (List ℕ) → Option (List ℕ)
plain_known is_plain known = option_map (plain_if is_plain) known

abbrev pub plain_held : Bool → (List ℕ → Option (List ℕ)) → List ℕ → Option (List ℕ)
plain_held is_plain held name = plain_known is_plain (held name)

-- Plain is a capture in a file, one whose form is given, and one that is followed. An edge file on standard input whose form is not given
-- is read as it stands, and so is what is no capture.
abbrev pub takes_plain_objects : Objects → Bool → Bool
takes_plain_objects (CaptureTest form glitch) is_file = is_file || is_some form
takes_plain_objects objects is_file = false

abbrev pub takes_plain : CommandChoice → Bool → Bool
takes_plain (Mon choice) is_file = is_file || is_some choice.form
takes_plain (Summary choice) is_file = is_file || is_some choice.form
takes_plain (CaptureDiff pair) is_file = is_file || is_some pair.form
takes_plain (CapturedLine form inverted factor glitch) is_file = is_file || is_some form
takes_plain (CheckCapture form glitch) is_file = is_file || is_some form
takes_plain (Json objects) is_file = takes_plain_objects objects is_file
takes_plain (Follow choice) is_file = true
takes_plain choice is_file = false
