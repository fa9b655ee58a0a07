-- How far a sweep is, as it is told.
use Rattle.std.proofs.Common.{◌≡◌, ℕ, suc, ◌+◌, ◌-◌, ◌*◌, ◌/◌, ◌%◌, ◌==◌, ◌<◌, ◌≤◌, Bool, true, false, List, [], ◌∷◌, ◌++◌, length, cond, ap, sym, refl, subst, ◌∙◌, arith, append-nil}
use Rattle.std.specs.List.{flat_map}
use Rattle.std.proofs.lemmas.Bool.Decides.{nat_tests}
use Rattle.std.proofs.lemmas.List.Elements.{All-push}
use Rattle.expect_sweep.specs.Progress.{IsHeardAll, IsHeardSome, IsHeardTo, IsProgress, IsTold, first_instants, told_each}
use Rattle.expect_sweep.specs.Series.{InstantSeries, instants, instants_from, instants_of}
use Rattle.record_core.specs.declared.cell.Form.{Form}
use Rattle.expect_sweep.specs.Stretches.{AreStretches, DifferInTurn, IsFound, StretchesDraft, are_same, first_draft, instants_in, longer, next, with_instant}
use Rattle.expect_sweep.specs.declared.progress.SweepProgress.{SweepProgress}
use Rattle.expect_sweep.proofs.Instants.{counted, counted_none, instants_up_to}
use Rattle.expect_sweep.proofs.Stretching.{IsDraft, flat_map_push, length-push, verdicts_push}

-- the stretches of a draft are those of its instants alone
so_far : (Found : ℕ → List Bool → Type 0) (s : InstantSeries) (d : StretchesDraft) (is : IsDraft Found s d) → AreStretches Found (first_instants d.done s) (is.before ++ d.last ∷ [])
so_far Found s d is = record {
  whole = flat_map_push (instants_in s.step) is.before d.last ∙ is.front ∙ ap (instants s.step s.from) reached;
  found = All-push (IsFound Found s.step) is.before d.last is.found is.found_last;
  longest = subst DifferInTurn (sym (verdicts_push is.before d.last)) is.longest;
} where
  one_less : d.done - 1 ≡ is.passed
  one_less = omega (arith, is.done)

  reached : d.last.last ≡ s.from + (d.done - 1) * s.step
  reached = is.reach ∙ sym (ap (λ n. s.from + n * s.step) one_less)

progress_is : (Found : ℕ → List Bool → Type 0) (s : InstantSeries) (d : StretchesDraft) (count : ℕ) → count ≡ length (instants_of s) → IsDraft Found s d
    → IsProgress Found s d.done (record { done = d.done; count = count; stretches = d.stretches })
progress_is Found s d count all is = record {
  done = refl;
  count = all;
  stretches = is.before ++ d.last ∷ [];
  are = so_far Found s d is;
  counted = is.counted ∙ sym (length-push is.before d.last);
}

-- ---- as they are made

pub begun_heard : {H : Type 0} (hears : H → SweepProgress → H → Type 0) (Found : ℕ → List Bool → Type 0) (s : InstantSeries) (form : Form) (d : StretchesDraft) (at : ℕ) (vs : List Bool) (old : H) → d ≡ first_draft form at vs
    → IsHeardTo hears Found s ((d.done - 1) / told_each) old old
begun_heard {H} hears Found s form d at vs old made = subst (λ (x : StretchesDraft). IsHeardTo hears Found s ((x.done - 1) / told_each) old old) (sym made) refl

one_by : (d : StretchesDraft) (t : ℕ) (vs : List Bool) (same : Bool) → (cond same (longer d t) (next d t vs)).done ≡ d.done + 1
one_by d t vs true = refl
one_by d t vs false = refl

pub one_more : (d e : StretchesDraft) (t : ℕ) (vs : List Bool) → e ≡ with_instant d t vs → e.done ≡ d.done + 1
one_more d e t vs made = ap (λ (x : StretchesDraft). x.done) made ∙ one_by d t vs (are_same d.last.verdicts vs)

-- ---- after one more turn

told_by : {H : Type 0} (hears : H → SweepProgress → H → Type 0) (Found : ℕ → List Bool → Type 0) (s : InstantSeries) (n : ℕ) (p : SweepProgress) (b : Bool) (old mid new : H)
    → (n % told_each == 0) ≡ b → 1 ≤ n → IsProgress Found s n p → IsHeardTo hears Found s ((n - 1) / told_each) old mid → IsTold hears b mid p new → IsHeardTo hears Found s (n / told_each) old new
told_by {H} hears Found s n p true old mid new e least is heard told =
    let zero_is : n % 1000 ≡ 0 = grind (arith, nat_tests, e) in
    let next : n / 1000 ≡ suc ((n - 1) / 1000) = omega (arith, zero_is, least) in
    let at : n ≡ 1000 * suc ((n - 1) / 1000) = omega (arith, zero_is, least) in
    subst (λ k. IsHeardTo hears Found s k old new) (sym next) (mid, heard, p, subst (λ m. IsProgress Found s m p) at is, told)
told_by {H} hears Found s n p false old mid new e least is heard told =
    let some : 1 ≤ n % 1000 = grind (arith, nat_tests, e) in
    let same : (n - 1) / 1000 ≡ n / 1000 = omega (arith, some, least) in
    subst (λ h. IsHeardTo hears Found s (n / 1000) old h) (sym told) (subst (λ k. IsHeardTo hears Found s k old mid) same heard)

pub told_more : {H : Type 0} (hears : H → SweepProgress → H → Type 0) (Found : ℕ → List Bool → Type 0) (s : InstantSeries) (d e : StretchesDraft) (count : ℕ) (old mid new : H)
    → count ≡ length (instants_of s) → IsDraft Found s d → e.done ≡ d.done + 1 → IsHeardTo hears Found s ((d.done - 1) / told_each) old mid
    → IsTold hears (d.done % told_each == 0) mid (record { done = d.done; count = count; stretches = d.stretches }) new → IsHeardTo hears Found s ((e.done - 1) / told_each) old new
told_more {H} hears Found s d e count old mid new all is one heard told =
    let least : 1 ≤ d.done = omega (arith, is.done) in
    let n : d.done ≡ e.done - 1 = omega (arith, one) in
    subst (λ m. IsHeardTo hears Found s (m / told_each) old new) n
    (told_by hears Found s d.done (record { done = d.done; count = count; stretches = d.stretches }) (d.done % told_each == 0) old mid new refl least (progress_is Found s d count all is) heard told)

-- where the next instant is refused, or memory runs out
pub heard_some : {H : Type 0} (hears : H → SweepProgress → H → Type 0) (Found : ℕ → List Bool → Type 0) (s : InstantSeries) (d : StretchesDraft) (count : ℕ) (old mid new : H)
    → count ≡ length (instants_of s) → IsDraft Found s d → IsHeardTo hears Found s ((d.done - 1) / told_each) old mid
    → IsTold hears (d.done % told_each == 0) mid (record { done = d.done; count = count; stretches = d.stretches }) new → IsHeardSome hears Found s old new
heard_some {H} hears Found s d count old mid new all is heard told =
    let least : 1 ≤ d.done = omega (arith, is.done) in
    (d.done / told_each, told_by hears Found s d.done (record { done = d.done; count = count; stretches = d.stretches }) (d.done % told_each == 0) old mid new refl least (progress_is Found s d count all is) heard told)

-- ---- after the last

all_done : (Found : ℕ → List Bool → Type 0) (s : InstantSeries) (d : StretchesDraft) → 0 < s.step → s.to - d.last.last < s.step → IsDraft Found s d → length (instants_of s) ≡ d.done
all_done Found s d moves none is = ap (λ ts. length ts) same ∙ counted s.from s.step (suc is.passed) ∙ sym is.done where
  ends : flat_map (instants_in s.step) is.before ++ instants_in s.step d.last ≡ instants_of s
  ends = ap (λ ts. flat_map (instants_in s.step) is.before ++ ts) (sym (append-nil (instants_in s.step d.last)))
      ∙ ap (λ ts. flat_map (instants_in s.step) is.before ++ (instants_in s.step d.last ++ ts)) (sym (counted_none s.step d.last.last s.to moves none))
      ∙ is.whole

  same : instants_of s ≡ instants_from s.from s.step (suc is.passed)
  same = sym ends ∙ is.front ∙ instants_up_to s.step s.from is.passed d.last.last moves is.reach

pub heard_all : {H : Type 0} (hears : H → SweepProgress → H → Type 0) (Found : ℕ → List Bool → Type 0) (s : InstantSeries) (d : StretchesDraft) (at step to : ℕ) (old new : H) → step ≡ s.step → to ≡ s.to → d.last.last ≡ at
    → 0 < s.step → to - at < step → IsDraft Found s d → IsHeardTo hears Found s ((d.done - 1) / told_each) old new → IsHeardAll hears Found s old new
heard_all {H} hears Found s d at step to old new step_is to_is last moves none is heard =
    let past : s.to - d.last.last < s.step = omega (arith, step_is, to_is, last, none) in
    subst (λ n. IsHeardTo hears Found s ((n - 1) / told_each) old new) (sym (all_done Found s d moves past is)) heard
