-- The flags of `run` (own).
use Rattle.std.specs.Prelude.{ℕ, List, [], ◌∷◌, Bool, Option, Some, None, if◌then◌else◌, true, false, codes, ◌&&◌, ◌||◌, option_and_then, is_none, not}
use Rattle.std.specs.Option.{option_map}
use Rattle.std.specs.Str.{bytes_eq}
use Rattle.capture_forms.specs.declared.form.CaptureForm.{CaptureForm}
use Rattle.capture_forms.specs.declared.form.CaptureForm.TheVariants.{Edges, Vcd, Pin, Csv}
use Rattle.cli_choice.specs.Joined.{joined}
use Rattle.cli_choice.specs.declared.choice.Asked.{Asked}
use Rattle.cli_choice.specs.declared.choice.CommandChoice.{CommandChoice}
use Rattle.cli_choice.specs.declared.choice.CommandChoice.TheVariants.{Run, Json}
use Rattle.cli_choice.specs.declared.choice.Objects.TheVariants as objects
use Rattle.cli_choice.specs.declared.choice.Listing.{Listing}
use Rattle.cli_choice.specs.declared.choice.Listing.TheVariants.{Trace, Line, Drives, Named}
use Rattle.cli_words.specs.declared.run_flags.RunFlags.{RunFlags}

-- the format of a line that a word names
abbrev pub format_named : List ℕ → Option CaptureForm
format_named word =
    if bytes_eq word (codes "vcd") then Some Vcd
    else if bytes_eq word (codes "pin") then Some Pin
    else if bytes_eq word (codes "csv") then Some Csv
    else None

-- the flags with one more; each stands once at most
abbrev pub one_run_flag : RunFlags → List ℕ → Option RunFlags
one_run_flag flags word =
    if bytes_eq word (codes "--edges") && not flags.edges then Some (record flags { edges = true })
    else if bytes_eq word (codes "--as") && is_none flags.format then Some (record flags { waits = true })
    else if bytes_eq word (codes "--drives") && not flags.drives then Some (record flags { drives = true })
    else if bytes_eq word (codes "--named") && not flags.named then Some (record flags { named = true })
    else if bytes_eq word (codes "--strict") && not flags.strict then Some (record flags { strict = true })
    else if bytes_eq word (codes "--json") && not flags.json then Some (record flags { json = true })
    else if bytes_eq word (codes "--room") && not flags.room then Some (record flags { room = true })
    else if bytes_eq word (codes "--explain") && not flags.explains then Some (record flags { explains = true })
    else None

-- or with the value of the last
abbrev pub with_run_value : RunFlags → List ℕ → Option RunFlags
with_run_value flags word = option_map (λ format. record flags { format = Some format; waits = false }) (format_named word)

-- a flag that waits for a value, with this one
abbrev pub waited_run : List ℕ → RunFlags → Option RunFlags
waited_run word flags = if flags.waits then with_run_value flags word else None

-- the flags with one more, or with a flag and its value
abbrev pub with_run_parts : RunFlags → List ℕ → Option (List ℕ × List ℕ) → Option RunFlags
with_run_parts flags word None = one_run_flag flags word
with_run_parts flags word (Some parts) = option_and_then (waited_run parts.1) (one_run_flag flags parts.0)

-- the flags with one word more, which is a value where a flag waits for one
abbrev pub with_run_word : RunFlags → List ℕ → Option RunFlags
with_run_word flags word = if flags.waits then with_run_value flags word else with_run_parts flags word (joined word)

-- and with each of some words
abbrev pub run_flags : RunFlags → List (List ℕ) → Option RunFlags
run_flags flags [] = Some flags
run_flags flags (word ∷ words) = option_and_then (λ more. run_flags more words) (with_run_word flags word)

-- what is written: with `--as` and not `--edges` nothing
abbrev pub run_listing : Bool → Option CaptureForm → Option Listing
run_listing true (Some format) = Some (Line format)
run_listing true None = Some (Line Edges)
run_listing false (Some format) = None
run_listing false None = Some Trace

-- who drives the line, with frames and bits as strings or without
abbrev pub drives_listing : Bool → Listing
drives_listing true = Named
drives_listing false = Drives

-- with who drives the line: of a dump of the line alone; frames and bits go with that alone
abbrev pub with_drives : Bool → Bool → Option Listing → Option Listing
with_drives true named (Some (Line Vcd)) = Some (drives_listing named)
with_drives true named listing = None
with_drives false true listing = None
with_drives false false listing = listing

-- what is done with the run
abbrev pub run_choice : Bool → Bool → Listing → Bool → CommandChoice
run_choice true true listing strict = Json (objects.Room strict)
run_choice true false listing strict = Json (objects.Trace strict)
run_choice false room listing strict = Run listing strict

-- what they ask for; objects are those of the trace
abbrev pub run_asked : RunFlags → Option Asked
run_asked flags =
    if flags.waits || (flags.edges && flags.json) || (flags.room && not flags.json) then None
    else option_map (λ listing. record { choice = run_choice flags.json flags.room listing flags.strict; explains = flags.explains }) (with_drives flags.drives flags.named (run_listing flags.edges flags.format))
