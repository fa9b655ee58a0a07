-- What is written of a test of a capture.
use Rattle.std.proofs.Common.{◌≡◌, ℕ, List, Option, not, length, filter, refl, sym, ap, subst, ◌∙◌}
use Rattle.record_core.specs.declared.cell.Form.{Form}
use Rattle.audit_expect.specs.Check.{IsCaptureChecked, capture_report}
use Rattle.expect_run.specs.declared.checking.Tally.{Tally}
use Rattle.capture_core.specs.Edges.{Captured}
use Rattle.program_calls.specs.CaptureTests.{WritesPassedBy}
use Rattle.program_captures.specs.Captures.{edges_kept, without_short}

-- a capture without short pulses and gaps, by its edges and its end
pub kept_is : (glitch : ℕ) (whole kept : Captured) → kept.edges ≡ edges_kept glitch whole.edges → kept.end ≡ whole.end → kept ≡ without_short glitch whole
kept_is glitch whole kept edges end =
    let with_edges : (let c : Captured = record { edges = kept.edges; end = kept.end } in c) ≡ record { edges = edges_kept glitch whole.edges; end = kept.end } =
    ap (λ es. let c : Captured = record { edges = es; end = kept.end } in c) edges in
    with_edges ∙ ap (λ n. let c : Captured = record { edges = edges_kept glitch whole.edges; end = n } in c) end

-- the report of a capture, by the one that it is without short pulses and gaps
pub passed_by : (written : Form) (expectations : List ℕ) (glitch : ℕ) (whole kept : Captured) (old new : Option (List ℕ)) (tally : Tally) → kept ≡ without_short glitch whole
    → IsCaptureChecked written expectations kept old new tally → tally.failed ≡ 0 → WritesPassedBy written expectations glitch whole old new
passed_by written expectations glitch whole kept old new tally same checked none =
    let is : IsCaptureChecked written expectations (without_short glitch whole) old new tally = subst (λ k. IsCaptureChecked written expectations k old new tally) same checked in
    let hold : length (filter not (capture_report written expectations (without_short glitch whole)).verdicts) ≡ 0 = sym (ap (λ t. t.failed) is.tally_is) ∙ none in
    ((capture_report written expectations (without_short glitch whole)).text, record { accepted = is.accepted; hold = hold; report = refl }, is.written)
