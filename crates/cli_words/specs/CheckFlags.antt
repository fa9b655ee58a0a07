-- The flags of `check` (own).
use Rattle.std.specs.Prelude.{ℕ, List, [], ◌∷◌, Bool, Option, Some, None, if◌then◌else◌, true, false, codes, not, ◌&&◌, ◌||◌, is_some, unwrap_or, option_and_then, is_none}
use Rattle.std.specs.Option.{option_map}
use Rattle.std.specs.Str.{bytes_eq}
use Rattle.cli_choice.specs.Joined.{joined}
use Rattle.cli_choice.specs.Micros.{micros_of}
use Rattle.cli_words.specs.MonFlags.{form_of, has_names}
use Rattle.cli_words.specs.declared.check_flags.CheckFlags.{CheckFlags}
use Rattle.cli_choice.specs.declared.choice.Asked.{Asked}
use Rattle.cli_choice.specs.declared.choice.CommandChoice.{CommandChoice}
use Rattle.cli_choice.specs.declared.choice.CommandChoice.TheVariants.{Check, CheckCapture, Json}
use Rattle.capture_forms.specs.declared.form.CaptureForm.{CaptureForm}
use Rattle.cli_choice.specs.declared.choice.Objects.TheVariants as objects
use Rattle.cli_choice.specs.declared.choice.TestView.{TestView}
use Rattle.cli_choice.specs.declared.choice.TestView.TheVariants.{Report, Progress, Traced, Plain}
use Rattle.cli_words.specs.declared.mon_flags.MonValue.{MonValue}
use Rattle.cli_words.specs.declared.mon_flags.MonValue.TheVariants.{From, Signal, Scale, Glitch, Margin, Replay}

-- the flags with the value of the last
abbrev pub with_check_value : CheckFlags → MonValue → List ℕ → Option CheckFlags
with_check_value flags From word = option_map (λ form. record flags { form = Some form; waits = None }) (form_of word)
with_check_value flags Signal word = Some (record flags { named = true; waits = None })
with_check_value flags Glitch word = option_map (λ glitch. record flags { glitch = Some glitch; waits = None }) (micros_of word)
with_check_value flags Scale word = None
with_check_value flags Margin word = None
with_check_value flags Replay word = None

-- the flags with one more; each stands once at most
abbrev pub with_check_flag : CheckFlags → List ℕ → Option CheckFlags
with_check_flag flags word =
    if bytes_eq word (codes "--plain") && not flags.plain then Some (record flags { plain = true })
    else if bytes_eq word (codes "--trace") && not flags.trace then Some (record flags { trace = true })
    else if bytes_eq word (codes "--json") && not flags.json then Some (record flags { json = true })
    else if bytes_eq word (codes "--progress") && not flags.progress then Some (record flags { progress = true })
    else if bytes_eq word (codes "--capture") && not flags.capture then Some (record flags { capture = true })
    else if bytes_eq word (codes "--from") && is_none flags.form then Some (record flags { waits = Some From })
    else if bytes_eq word (codes "--signal") && not flags.named then Some (record flags { waits = Some Signal })
    else if bytes_eq word (codes "--glitch") && is_none flags.glitch then Some (record flags { waits = Some Glitch })
    else if bytes_eq word (codes "--explain") && not flags.explains then Some (record flags { explains = true })
    else None

-- a flag that waits for a value, with this one
abbrev pub waited_check : List ℕ → CheckFlags → Option CheckFlags
waited_check word flags = option_and_then (λ value. with_check_value flags value word) flags.waits

-- the flags with one more, or with a flag and its value
abbrev pub with_check_parts : CheckFlags → List ℕ → Option (List ℕ × List ℕ) → Option CheckFlags
with_check_parts flags word None = with_check_flag flags word
with_check_parts flags word (Some parts) = option_and_then (waited_check parts.1) (with_check_flag flags parts.0)

-- the flags with one word more, which is a value where a flag waits for one
abbrev pub with_check_word : CheckFlags → Option MonValue → List ℕ → Option CheckFlags
with_check_word flags (Some value) word = with_check_value flags value word
with_check_word flags None word = with_check_parts flags word (joined word)

-- and with each of some words
abbrev pub check_flags : CheckFlags → List (List ℕ) → Option CheckFlags
check_flags flags [] = Some flags
check_flags flags (word ∷ words) = option_and_then (λ more. check_flags more words) (with_check_word flags flags.waits word)

-- what is written of a run: the plain script, or a report, with its trace or without
abbrev pub test_view : Bool → Bool → Option TestView
test_view false false = Some Report
test_view false true = Some Traced
test_view true false = Some Plain
test_view true true = None

-- the same, and how far a sweep is; what is no report has no sweep
abbrev pub with_progress : Bool → TestView → Option TestView
with_progress false view = Some view
with_progress true Report = Some Progress
with_progress true Progress = None
with_progress true Traced = None
with_progress true Plain = None

-- a flag that speaks of a capture
abbrev pub has_capture_flag : CheckFlags → Bool
has_capture_flag flags = is_some flags.form || flags.named || is_some flags.glitch

-- the report of a test of a capture, or its objects
abbrev pub capture_choice : Bool → Option CaptureForm → ℕ → CommandChoice
capture_choice true form glitch = Json (objects.CaptureTest form glitch)
capture_choice false form glitch = CheckCapture form glitch

-- a report of a capture alone is written, and wires of some forms have no names
abbrev pub of_capture : CheckFlags → Option CommandChoice
of_capture flags =
    if flags.plain || flags.trace || flags.progress || (flags.named && not (has_names flags.form)) then None
    else Some (capture_choice flags.json flags.form (unwrap_or flags.glitch 0))

-- what is written of a test of a run; objects are those of its report, with its trace or without
abbrev pub run_choice : Bool → TestView → Option CommandChoice
run_choice true Report = Some (Json (objects.Test false))
run_choice true Progress = None
run_choice true Traced = Some (Json (objects.Test true))
run_choice true Plain = None
run_choice false view = Some (Check view)

abbrev pub of_run : CheckFlags → Option CommandChoice
of_run flags = if has_capture_flag flags then None else option_and_then (run_choice flags.json) (option_and_then (with_progress flags.progress) (test_view flags.plain flags.trace))

abbrev pub check_choice : CheckFlags → Option CommandChoice
check_choice flags = if flags.capture then of_capture flags else of_run flags

-- what they ask for
abbrev pub check_asked : CheckFlags → Option Asked
check_asked flags =
    if is_some flags.waits then None
    else option_map (λ choice. record { choice = choice; explains = flags.explains }) (check_choice flags)
