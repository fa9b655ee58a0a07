-- The flags of subcommands that have `--json` and `--explain` alone (own).
use Rattle.std.specs.Prelude.{ℕ, List, [], ◌∷◌, Option, Some, None, if◌then◌else◌, true, codes, ◌&&◌, option_and_then, not}
use Rattle.std.specs.Str.{bytes_eq}
use Rattle.cli_choice.specs.Form.{form_by}
use Rattle.cli_choice.specs.declared.choice.Asked.{Asked}
use Rattle.cli_choice.specs.declared.choice.CommandChoice.TheVariants.{Lay, Live, Step}
use Rattle.cli_words.specs.declared.json_flags.JsonFlags.{JsonFlags}

-- the flags with one more; each stands once at most
abbrev pub one_json_flag : JsonFlags → List ℕ → Option JsonFlags
one_json_flag flags word =
    if bytes_eq word (codes "--json") && not flags.json then Some (record flags { json = true })
    else if bytes_eq word (codes "--explain") && not flags.explains then Some (record flags { explains = true })
    else None

-- and with each of some words
abbrev pub json_flags : JsonFlags → List (List ℕ) → Option JsonFlags
json_flags flags [] = Some flags
json_flags flags (word ∷ words) = option_and_then (λ more. json_flags more words) (one_json_flag flags word)

-- what they ask for
abbrev pub step_asked : JsonFlags → Asked
step_asked flags = record { choice = Step (form_by flags.json); explains = flags.explains }

abbrev pub live_asked : JsonFlags → Asked
live_asked flags = record { choice = Live flags.json; explains = flags.explains }

abbrev pub lay_asked : JsonFlags → Asked
lay_asked flags = record { choice = Lay (form_by flags.json); explains = flags.explains }
