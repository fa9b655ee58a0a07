-- Values that their flags do not take (own).
use Rattle.std.specs.Prelude.{ℕ, List, [], ◌∷◌, Option, Some, None, if◌then◌else◌, codes, option_and_then}
use Rattle.std.specs.Option.{option_map}
use Rattle.std.specs.Str.{bytes_eq}
use Rattle.cli_words.specs.CheckFlags.{with_check_flag, with_check_word}
use Rattle.cli_edid.specs.EdidFlags.{with_edid_flag, with_edid_word}
use Rattle.cli_choice.specs.Joined.{joined}
use Rattle.cli_words.specs.Line.{no_check_flags, no_edid_flags, no_mon_flags, no_run_flags, subcommand_of}
use Rattle.cli_words.specs.MonFlags.{with_mon_flag, with_mon_word}
use Rattle.cli_words.specs.RunFlags.{one_run_flag, with_run_word}
use Rattle.cli_words.specs.declared.at_fault.Valued.{Valued}
use Rattle.cli_words.specs.declared.at_fault.Valued.TheVariants as valued
use Rattle.cli_words.specs.declared.check_flags.CheckFlags.{CheckFlags}
use Rattle.cli_edid.specs.declared.flags.EdidFlags.{EdidFlags}
use Rattle.cli_edid.specs.declared.flags.EdidValue.{EdidValue}
use Rattle.cli_edid.specs.declared.flags.EdidValue.TheVariants as edid
use Rattle.cli_words.specs.declared.mon_flags.MonFlags.{MonFlags}
use Rattle.cli_words.specs.declared.mon_flags.MonValue.{MonValue}
use Rattle.cli_words.specs.declared.mon_flags.MonValue.TheVariants.{From, Signal, Scale, Glitch, Margin, Replay}
use Rattle.cli_words.specs.declared.run_flags.RunFlags.{RunFlags}
use Rattle.cli_words.specs.declared.subcommand.Subcommand.{Subcommand}
use Rattle.cli_words.specs.declared.subcommand.Subcommand.TheVariants.{Run, Check, Mon, Edid}

-- ---- how the flags of a subcommand are read

-- the flag whose value comes next; the flags with one more, and with one word more, which may be a value
pub record FlagForm (F : Type 0) : Type 0 where
  pub waits : F → Option Valued
  pub with_flag : F → List ℕ → Option F
  pub with_word : F → List ℕ → Option F

abbrev pub run_form : FlagForm RunFlags
run_form = record { waits = λ flags. if flags.waits then Some valued.As else None; with_flag = one_run_flag; with_word = with_run_word }

-- the flag of a capture that a value follows
abbrev pub capture_flag : MonValue → Valued
capture_flag From = valued.From
capture_flag Signal = valued.Signal
capture_flag Scale = valued.Scale
capture_flag Glitch = valued.Glitch
capture_flag Margin = valued.Margin
capture_flag Replay = valued.Replay

abbrev pub check_form : FlagForm CheckFlags
check_form = record {
  waits = λ flags. option_map capture_flag flags.waits;
  with_flag = with_check_flag;
  with_word = λ flags word. with_check_word flags flags.waits word;
}

abbrev pub mon_form : FlagForm MonFlags
mon_form = record {
  waits = λ flags. option_map capture_flag flags.waits;
  with_flag = with_mon_flag;
  with_word = λ flags word. with_mon_word flags flags.waits word;
}

-- the flag of an EDID that a value follows
abbrev pub edid_flag : EdidValue → Valued
edid_flag edid.Address = valued.Address
edid_flag edid.Port = valued.Port
edid_flag edid.Below = valued.Below
edid_flag edid.Speakers = valued.Speakers
edid_flag edid.Rows = valued.Rows
edid_flag edid.Nth = valued.Nth
edid_flag edid.As = valued.EdidAs
edid_flag edid.InfoFrame = valued.InfoFrame

abbrev pub edid_form : FlagForm EdidFlags
edid_form = record {
  waits = λ flags. option_map edid_flag flags.waits;
  with_flag = with_edid_flag;
  with_word = λ flags word. with_edid_word flags flags.waits word;
}

-- ---- the first value that its flag does not take

-- what goes by flags, where there are some
abbrev pub by_flags : {F X : Type 0} → (F → X) → X → Option F → X
by_flags some none (Some flags) = some flags
by_flags some none None = none

-- a flag and the value that stands after `=` in its word
abbrev pub joined_value : {F : Type 0} → FlagForm F → F → List ℕ × List ℕ → Option (Valued × List ℕ)
joined_value form flags parts = option_map (λ flag. (flag, parts.1)) (option_and_then form.waits (form.with_flag flags parts.0))

-- the value in a word that is refused after some flags: the word where a flag waits for one
abbrev pub value_by : {F : Type 0} → FlagForm F → F → List ℕ → Option Valued → Option (Valued × List ℕ)
value_by form flags word (Some flag) = Some (flag, word)
value_by form flags word None = option_and_then (joined_value form flags) (joined word)

abbrev pub value_after : {F : Type 0} → FlagForm F → F → List ℕ → Option (Valued × List ℕ)
value_after form flags word = value_by form flags word (form.waits flags)

-- the value in the first of some words that is refused; where none is, an empty one of the flag that still waits
abbrev pub fault_among : {F : Type 0} → FlagForm F → F → List (List ℕ) → Option (Valued × List ℕ)
fault_among form flags [] = option_map (λ flag. (flag, [])) (form.waits flags)
fault_among form flags (word ∷ words) = by_flags (λ more. fault_among form more words) (value_after form flags word) (form.with_word flags word)

-- of a subcommand with values
abbrev pub fault_of : Subcommand → List (List ℕ) → Option (Valued × List ℕ)
fault_of Run words = fault_among run_form no_run_flags words
fault_of Check words = fault_among check_form no_check_flags words
fault_of Mon words = fault_among mon_form no_mon_flags words
fault_of Edid words = fault_among edid_form no_edid_flags words
fault_of subcommand words = None

-- of the subcommand that stands first
abbrev pub fault_as : List (List ℕ) → Option (Valued × List ℕ)
fault_as [] = None
fault_as (word ∷ flags) = option_and_then (λ subcommand. fault_of subcommand flags) (subcommand_of word)

-- the same, with `--explain` before it or not
abbrev pub fault_with : List (List ℕ) → Option (Valued × List ℕ)
fault_with [] = None
fault_with (word ∷ words) = if bytes_eq word (codes "--explain") then fault_as words else fault_as (word ∷ words)

-- the same after the program's name
abbrev pub value_at_fault : List (List ℕ) → Option (Valued × List ℕ)
value_at_fault [] = None
value_at_fault (name ∷ words) = fault_with words
