-- The flags of `dis` (own).
use Rattle.std.specs.Prelude.{ℕ, List, [], ◌∷◌, Option, Some, None, if◌then◌else◌, true, codes, ◌&&◌, option_and_then, not}
use Rattle.std.specs.Str.{bytes_eq}
use Rattle.cli_choice.specs.Form.{form_by}
use Rattle.cli_choice.specs.declared.choice.Asked.{Asked}
use Rattle.cli_choice.specs.declared.choice.CommandChoice.TheVariants.{Dis}
use Rattle.cli_words.specs.declared.dis_flags.DisFlags.{DisFlags}

-- the flags with one more; each stands once at most
abbrev pub one_dis_flag : DisFlags → List ℕ → Option DisFlags
one_dis_flag flags word =
    if bytes_eq word (codes "--meaning") && not flags.meaning then Some (record flags { meaning = true })
    else if bytes_eq word (codes "--json") && not flags.json then Some (record flags { json = true })
    else if bytes_eq word (codes "--explain") && not flags.explains then Some (record flags { explains = true })
    else None

-- and with each of some words
abbrev pub dis_flags : DisFlags → List (List ℕ) → Option DisFlags
dis_flags flags [] = Some flags
dis_flags flags (word ∷ words) = option_and_then (λ more. dis_flags more words) (one_dis_flag flags word)

-- what they ask for
abbrev pub dis_asked : DisFlags → Asked
dis_asked flags = record { choice = Dis flags.meaning (form_by flags.json); explains = flags.explains }
