-- A script that is refused at an instant of its series.
use Rattle.std.proofs.Common.{◌≡◌, ℕ, suc, ◌+◌, ◌-◌, ◌/◌, ◌<◌, ◌≤◌, Bool, List, [], ◌∷◌, ap, sym, subst, ◌∙◌, arith}
use Rattle.std.proofs.lemmas.List.Elements.{All-nil}
use Rattle.expect_sweep.specs.Series.{InstantSeries, instants_from, instants_of}
use Rattle.expect_sweep.specs.Stretches.{StretchesDraft}
use Rattle.expect_sweep.specs.Sweep.{AreVerdictsAt, IsFirstRefusal, IsRefusalAt, IsSeriesReported}
use Rattle.expect_sweep.specs.declared.sweeping.SweepError.{SweepError}
use Rattle.expect_sweep.specs.declared.sweeping.SweepError.TheVariants.{NoRange, Range, At, Write, Memory}
use Rattle.expect_sweep.proofs.Stretching.{IsDraft, over_before}

-- at the first one
pub refused_first : (topology script : List ℕ) (s : InstantSeries) (at : ℕ) (error : SweepError) → at ≡ s.from → IsRefusalAt topology script at error → IsSeriesReported topology script s error
refused_first topology script s at (At instant error) is h = subst (λ t. IsFirstRefusal topology script s t error) (sym h.0) (record {
  before = [];
  after = instants_from (s.from + s.step) s.step ((s.to - s.from) / s.step);
  place = split;
  taken = All-nil (λ t. (verdicts : List Bool) × AreVerdictsAt topology script t verdicts);
  reported = h.1;
}) where
  one_more : (n : ℕ) → instants_from s.from s.step (n + 1) ≡ s.from ∷ instants_from (s.from + s.step) s.step n
  one_more n = let e : n + 1 ≡ suc n = omega arith in ap (instants_from s.from s.step) e

  split : instants_of s ≡ at ∷ instants_from (s.from + s.step) s.step ((s.to - s.from) / s.step)
  split = one_more ((s.to - s.from) / s.step) ∙ ap (λ t. t ∷ instants_from (s.from + s.step) s.step ((s.to - s.from) / s.step)) (sym is)
refused_first topology script s at Memory is h = tt
refused_first topology script s at NoRange is h = absurd h
refused_first topology script s at (Range fault) is h = absurd h
refused_first topology script s at (Write count) is h = absurd h

-- at a later one
refused_next : (topology script : List ℕ) (s : InstantSeries) (d : StretchesDraft) (error : SweepError) → 0 < s.step → d.last.last ≤ s.to → s.step ≤ s.to - d.last.last
    → IsRefusalAt topology script (d.last.last + s.step) error → IsDraft (AreVerdictsAt topology script) s d → IsSeriesReported topology script s error
refused_next topology script s d (At instant error) moves within room h is =
    let o = over_before (AreVerdictsAt topology script) s d moves within room is in
    subst (λ t. IsFirstRefusal topology script s t error) (sym h.0) (record { before = o.0; after = o.1; place = o.2; taken = o.3; reported = h.1 })
refused_next topology script s d Memory moves within room h is = tt
refused_next topology script s d NoRange moves within room h is = absurd h
refused_next topology script s d (Range fault) moves within room h is = absurd h
refused_next topology script s d (Write count) moves within room h is = absurd h

pub refused_later : (topology script : List ℕ) (s : InstantSeries) (d : StretchesDraft) (at step to : ℕ) (error : SweepError) → step ≡ s.step → to ≡ s.to → d.last.last ≡ at → 0 < s.step → at ≤ to → step ≤ to - at
    → IsRefusalAt topology script (at + step) error → IsDraft (AreVerdictsAt topology script) s d → IsSeriesReported topology script s error
refused_later topology script s d at step to error step_is to_is last moves within room h is =
    let t : at + step ≡ d.last.last + s.step = omega (arith, step_is, last) in
    let before : d.last.last ≤ s.to = omega (arith, to_is, last, within) in
    let more : s.step ≤ s.to - d.last.last = omega (arith, step_is, to_is, last, room) in
    refused_next topology script s d error moves before more (subst (λ u. IsRefusalAt topology script u error) t h) is
