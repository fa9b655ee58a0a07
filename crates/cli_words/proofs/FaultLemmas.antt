-- A line with a value that its flag does not take asks for nothing.
use Rattle.std.proofs.Common.{◌≡◌, ℕ, Bool, true, false, if◌then◌else◌, List, [], ◌∷◌, Option, Some, None, option_and_then, option_map, codes, refl, sym, ap, subst, ◌∙◌}
use Rattle.std.specs.Str.{bytes_eq}
use Rattle.cli_words.specs.AtFault.{FlagForm, by_flags, capture_flag, check_form, edid_flag, edid_form, fault_among, fault_as, fault_of, fault_with, mon_form, run_form, value_after, value_at_fault, value_by}
use Rattle.cli_words.specs.CheckFlags.{check_asked, check_flags, with_check_word}
use Rattle.cli_edid.specs.EdidFlags.{edid_asked, edid_flags, with_edid_word}
use Rattle.cli_words.specs.Line.{asked_as, asked_by, asked_of, asked_with, explained, no_check_flags, no_edid_flags, no_mon_flags, no_run_flags, subcommand_of}
use Rattle.cli_words.specs.MonFlags.{mon_asked, mon_flags, with_mon_word}
use Rattle.cli_words.specs.RunFlags.{run_asked, run_flags, with_run_word}
use Rattle.cli_words.specs.declared.at_fault.Valued.{Valued}
use Rattle.cli_words.specs.declared.at_fault.Valued.TheVariants as valued
use Rattle.cli_words.specs.declared.check_flags.CheckFlags.{CheckFlags}
use Rattle.cli_choice.specs.declared.choice.Asked.{Asked}
use Rattle.cli_edid.specs.declared.flags.EdidFlags.{EdidFlags}
use Rattle.cli_edid.specs.declared.flags.EdidValue.{EdidValue}
use Rattle.cli_words.specs.declared.mon_flags.MonFlags.{MonFlags}
use Rattle.cli_words.specs.declared.mon_flags.MonValue.{MonValue}
use Rattle.cli_words.specs.declared.run_flags.RunFlags.{RunFlags}
use Rattle.cli_words.specs.declared.subcommand.Subcommand.{Subcommand}
use Rattle.cli_words.specs.declared.subcommand.Subcommand.TheVariants.{Run, Check, Step, Live, Asm, Dis, Lay, Mon, Edid}

none_some : {X T : Type 0} (x : X) → None ≡ Some x → T
none_some x e = cc

some_none : {X T : Type 0} (x : X) → Some x ≡ None → T
some_none x e = cc

-- ---- the flags of any subcommand

-- A flag that waits asks for nothing.
module _ {F : Type 0} (form : FlagForm F) (reads : F → List (List ℕ) → Option F) (asked : F → Option Asked)
    (nothing : (flags : F) → reads flags [] ≡ Some flags)
    (more : (flags : F) (word : List ℕ) (words : List (List ℕ)) → reads flags (word ∷ words) ≡ option_and_then (λ m. reads m words) (form.with_word flags word))
    (waiting : (flags : F) (flag : Valued) → form.waits flags ≡ Some flag → asked flags ≡ None) where
  at_end : (flags : F) (fault : Valued × List ℕ) → fault_among form flags [] ≡ Some fault → asked flags ≡ None
  at_end flags fault h = by (form.waits flags) refl h
    where
      by : (o : Option Valued) → form.waits flags ≡ o → option_map (λ (flag : Valued). (flag, [])) o ≡ Some fault → asked flags ≡ None
      by (Some flag) e k = waiting flags flag e
      by None e k = none_some fault k

  refuses : (flags : F) (words : List (List ℕ)) (fault : Valued × List ℕ) → fault_among form flags words ≡ Some fault → option_and_then asked (reads flags words) ≡ None
  refuses flags [] fault h = ap (option_and_then asked) (nothing flags) ∙ at_end flags fault h
  refuses flags (word ∷ words) fault h = ap (option_and_then asked) (more flags word words) ∙ by (form.with_word flags word) (λ m k. refuses m words fault k) h
    where
      by : (o : Option F) → ((m : F) → fault_among form m words ≡ Some fault → option_and_then asked (reads m words) ≡ None)
          → by_flags (λ m. fault_among form m words) (value_after form flags word) o ≡ Some fault → option_and_then asked (option_and_then (λ m. reads m words) o) ≡ None
      by (Some m) tail k = tail m k
      by None tail k = refl

-- ---- of each that has values

run_waits : (flags : RunFlags) (flag : Valued) → run_form.waits flags ≡ Some flag → run_asked flags ≡ None
run_waits flags flag h = by flags.waits refl h
  where
    by : (b : Bool) → flags.waits ≡ b → (if b then Some valued.As else None) ≡ Some flag → run_asked flags ≡ None
    by true e k = rw e refl
    by false e k = none_some flag k

check_waits : (flags : CheckFlags) (flag : Valued) → check_form.waits flags ≡ Some flag → check_asked flags ≡ None
check_waits flags flag h = by flags.waits refl h
  where
    by : (o : Option MonValue) → flags.waits ≡ o → option_map capture_flag o ≡ Some flag → check_asked flags ≡ None
    by (Some value) e k = rw e refl
    by None e k = none_some flag k

mon_waits : (flags : MonFlags) (flag : Valued) → mon_form.waits flags ≡ Some flag → mon_asked flags ≡ None
mon_waits flags flag h = by flags.waits refl h
  where
    by : (o : Option MonValue) → flags.waits ≡ o → option_map capture_flag o ≡ Some flag → mon_asked flags ≡ None
    by (Some value) e k = rw e refl
    by None e k = none_some flag k

edid_waits : (flags : EdidFlags) (flag : Valued) → edid_form.waits flags ≡ Some flag → edid_asked flags ≡ None
edid_waits flags flag h = by flags.waits refl h
  where
    by : (o : Option EdidValue) → flags.waits ≡ o → option_map edid_flag o ≡ Some flag → edid_asked flags ≡ None
    by (Some value) e k = rw e refl
    by None e k = none_some flag k

of_refused : (subcommand : Subcommand) (words : List (List ℕ)) (fault : Valued × List ℕ) → fault_of subcommand words ≡ Some fault → asked_of subcommand words ≡ None
of_refused Run words fault h = refuses run_form run_flags run_asked (λ f. refl) (λ f w ws. refl) run_waits no_run_flags words fault h
of_refused Check words fault h = refuses check_form check_flags check_asked (λ f. refl) (λ f w ws. refl) check_waits no_check_flags words fault h
of_refused Mon words fault h = refuses mon_form mon_flags mon_asked (λ f. refl) (λ f w ws. refl) mon_waits no_mon_flags words fault h
of_refused Edid words fault h = refuses edid_form edid_flags edid_asked (λ f. refl) (λ f w ws. refl) edid_waits no_edid_flags words fault h
of_refused Step words fault h = none_some fault h
of_refused Live words fault h = none_some fault h
of_refused Asm words fault h = none_some fault h
of_refused Dis words fault h = none_some fault h
of_refused Lay words fault h = none_some fault h

-- ---- of whole lines

as_refused : (words : List (List ℕ)) (fault : Valued × List ℕ) → fault_as words ≡ Some fault → asked_as words ≡ None
as_refused [] fault h = none_some fault h
as_refused (word ∷ flags) fault h = by (subcommand_of word) h
  where
    by : (o : Option Subcommand) → option_and_then (λ s. fault_of s flags) o ≡ Some fault → option_and_then (λ s. asked_of s flags) o ≡ None
    by (Some s) k = of_refused s flags fault k
    by None k = refl

with_refused : (words : List (List ℕ)) (fault : Valued × List ℕ) → fault_with words ≡ Some fault → asked_with words ≡ None
with_refused [] fault h = none_some fault h
with_refused (word ∷ words) fault h = by (bytes_eq word (codes "--explain")) h
  where
    by : (b : Bool) → (if b then fault_as words else fault_as (word ∷ words)) ≡ Some fault → (if b then option_map explained (asked_as words) else asked_as (word ∷ words)) ≡ None
    by true k = ap (option_map explained) (as_refused words fault k)
    by false k = as_refused (word ∷ words) fault k

pub is_refused : (words : List (List ℕ)) (fault : Valued × List ℕ) → value_at_fault words ≡ Some fault → asked_by words ≡ None
is_refused [] fault h = none_some fault h
is_refused (name ∷ words) fault h = with_refused words fault h
