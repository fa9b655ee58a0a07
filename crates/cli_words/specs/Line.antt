-- What a command line asks for (own).
use Rattle.std.specs.Prelude.{ℕ, List, [], ◌∷◌, Option, Some, None, if◌then◌else◌, false, codes, option_and_then, true}
use Rattle.std.specs.Option.{option_map}
use Rattle.std.specs.Str.{bytes_eq}
use Rattle.cli_words.specs.CheckFlags.{check_asked, check_flags}
use Rattle.cli_words.specs.DisFlags.{dis_asked, dis_flags}
use Rattle.cli_edid.specs.EdidFlags.{edid_asked, edid_flags}
use Rattle.cli_words.specs.JsonFlags.{json_flags, lay_asked, live_asked, step_asked}
use Rattle.cli_words.specs.MonFlags.{mon_asked, mon_flags}
use Rattle.cli_words.specs.RunFlags.{run_asked, run_flags}
use Rattle.cli_words.specs.declared.check_flags.CheckFlags.{CheckFlags}
use Rattle.cli_choice.specs.declared.choice.Asked.{Asked}
use Rattle.cli_choice.specs.declared.choice.CommandChoice.{CommandChoice}
use Rattle.cli_choice.specs.declared.choice.CommandChoice.TheVariants as choices
use Rattle.cli_edid.specs.declared.flags.EdidFlags.{EdidFlags}
use Rattle.cli_words.specs.declared.json_flags.JsonFlags.{JsonFlags}
use Rattle.cli_words.specs.declared.mon_flags.MonFlags.{MonFlags}
use Rattle.cli_words.specs.declared.run_flags.RunFlags.{RunFlags}
use Rattle.cli_words.specs.declared.subcommand.Subcommand.{Subcommand}
use Rattle.cli_words.specs.declared.subcommand.Subcommand.TheVariants.{Run, Check, Step, Live, Asm, Dis, Lay, Mon, Edid}

-- the subcommand of a word
abbrev pub subcommand_of : List ℕ → Option Subcommand
subcommand_of word =
    if bytes_eq word (codes "run") then Some Run
    else if bytes_eq word (codes "check") then Some Check
    else if bytes_eq word (codes "step") then Some Step
    else if bytes_eq word (codes "live") then Some Live
    else if bytes_eq word (codes "asm") then Some Asm
    else if bytes_eq word (codes "dis") then Some Dis
    else if bytes_eq word (codes "lay") then Some Lay
    else if bytes_eq word (codes "mon") then Some Mon
    else if bytes_eq word (codes "edid") then Some Edid
    else None

-- `--explain` and no other flag
abbrev pub only_explained : CommandChoice → List (List ℕ) → Option Asked
only_explained choice [] = Some (record { choice = choice; explains = false })
only_explained choice (word ∷ []) = if bytes_eq word (codes "--explain") then Some (record { choice = choice; explains = true }) else None
only_explained choice words = None

-- no flag of a subcommand
abbrev pub no_run_flags : RunFlags
no_run_flags = record { edges = false; format = None; drives = false; named = false; strict = false; json = false; room = false; explains = false; waits = false }

abbrev pub no_check_flags : CheckFlags
no_check_flags = record { plain = false; trace = false; json = false; progress = false; capture = false; form = None; named = false; glitch = None; explains = false; waits = None }

abbrev pub no_mon_flags : MonFlags
no_mon_flags = record { form = None; named = false; scale = None; glitch = None; margin = None; inverted = false; start = None; audit = false; timing = false; strict = false; folded = false; json = false; edges = false; summary = None; compares = false; follows = false; explains = false; waits = None }

abbrev pub no_edid_flags : EdidFlags
no_edid_flags = record { source = None; nth = None; reading = None; mends = false; wanted = None; eld = false; framed = false; json = false; address = None; port = None; amplified = false; spoken = false; merges = false; reads_eld = false; compares = false; rows = None; explains = false; waits = None }

abbrev pub no_json_flags : JsonFlags
no_json_flags = record { json = false; explains = false }

-- what a subcommand with these flags asks for
abbrev pub asked_of : Subcommand → List (List ℕ) → Option Asked
asked_of Run words = option_and_then run_asked (run_flags no_run_flags words)
asked_of Check words = option_and_then check_asked (check_flags no_check_flags words)
asked_of Step words = option_map step_asked (json_flags no_json_flags words)
asked_of Live words = option_map live_asked (json_flags no_json_flags words)
asked_of Asm words = only_explained choices.Asm words
asked_of Dis words = option_map dis_asked (dis_flags (record { meaning = false; json = false; explains = false }) words)
asked_of Lay words = option_map lay_asked (json_flags no_json_flags words)
asked_of Mon words = option_and_then mon_asked (mon_flags no_mon_flags words)
asked_of Edid words = option_and_then edid_asked (edid_flags no_edid_flags words)

-- a subcommand and its flags; no word at all is `run`
abbrev pub asked_as : List (List ℕ) → Option Asked
asked_as [] = asked_of Run []
asked_as (word ∷ flags) = option_and_then (λ subcommand. asked_of subcommand flags) (subcommand_of word)

abbrev pub explained : Asked → Asked
explained asked = record asked { explains = true }

-- the same, with `--explain` before it or not
abbrev pub asked_with : List (List ℕ) → Option Asked
asked_with [] = asked_as []
asked_with (word ∷ words) =
    if bytes_eq word (codes "--explain") then option_map explained (asked_as words)
    else asked_as (word ∷ words)

-- the same after the program's name: what the words of a command line ask for, without its operands
abbrev pub asked_by : List (List ℕ) → Option Asked
asked_by [] = None
asked_by (name ∷ words) = asked_with words
