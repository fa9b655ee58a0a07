-- What is written of a test: a report, a report and after it the remarks of a trace, stretches.
use Rattle.std.proofs.Common.{◌≡◌, ℕ, Bool, true, List, ◌++◌, Option, Some, None, Result, Ok, Err, inl, inr, not, length, filter, refl, sym, ap, subst, ◌∙◌}
use Rattle.std.specs.Io.KnownBytes.{Appends}
use Rattle.record_core.specs.declared.cell.Form.{Form}
use Rattle.expect_run.specs.Check.{IsChecked}
use Rattle.expect_run.specs.declared.checking.Tally.{Tally}
use Rattle.expect_sweep.specs.Order.{crossing, ordered, ordered_range, unless_crossing}
use Rattle.expect_sweep.specs.Script.{range_of}
use Rattle.expect_sweep.specs.Series.{InstantSeries}
use Rattle.text_core.specs.declared.at.At.{At}
use Rattle.expect_text.specs.declared.range.RangeCause.{RangeCause}
use Rattle.expect_sweep.specs.Stretches.{stretches_text}
use Rattle.expect_sweep.specs.Sweep.{IsSwept}
use Rattle.program_calls.proofs.LiveLemmas.{Appends-trans}
use Rattle.program_calls.specs.Tests.{AreRemarksOf, WritesPassed, WritesTest}
use Rattle.cli_choice.specs.declared.choice.TestView.TheVariants as views

pub traced : (form : Form) (topology script remarks put : List ℕ) (old middle new : Option (List ℕ)) (tally : Tally) → IsChecked form topology script old middle tally
    → AreRemarksOf form topology script remarks → put ≡ remarks → Appends middle new put → tally.failed ≡ 0 → WritesTest form views.Traced topology script old new
traced form topology script remarks put old middle new tally checked are same written none =
    let r = checked.0 in
    let holds : length (filter not r.verdicts) ≡ 0 = sym (ap (λ t. t.failed) checked.2) ∙ none in
    let more : Appends middle new remarks = subst (λ t. Appends middle new t) same written in
    (r.text ++ remarks, (r.text, remarks, (r, checked.1, holds, refl), are, refl), Appends-trans old middle new r.text remarks checked.3 more)

-- a range that breaks the order of its script, or keeps it, is one
is_range : (s : InstantSeries) (crossed : Option (At RangeCause)) → unless_crossing s crossed ≡ Ok None → ⊥
is_range s None e = cc
is_range s (Some fault) e = cc

-- where no range is one to sweep, the script has none
no_range : (script : List ℕ) (read : Result (Option InstantSeries) (At RangeCause)) → ordered script read ≡ Ok None → read ≡ Ok None
no_range script (Ok None) e = refl
no_range script (Ok (Some s)) e = absurd (is_range s (crossing script s) e)
no_range script (Err fault) e = cc

-- the report of a script without a range
pub reported : (form : Form) (topology script : List ℕ) (old middle new : Option (List ℕ)) → ordered_range script ≡ Ok None → middle ≡ old → WritesPassed form topology script middle new
    → WritesTest form views.Report topology script old new
reported form topology script old middle new none same written =
    (written.0, inl (no_range script (range_of script) none, written.1), subst (λ o. Appends o new written.0) same written.2)

-- the stretches of one that has a range
pub swept : (form : Form) (topology script : List ℕ) (old new : Option (List ℕ)) (holds : Bool) → IsSwept form topology script old new holds → holds ≡ true
    → WritesTest form views.Report topology script old new
swept form topology script old new holds are all = (stretches_text form are.0, inr (are.0, are.1, sym are.2 ∙ all, refl), are.3)
