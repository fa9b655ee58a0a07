-- What is read of a line by windows: instant by instant, up to the next edge or wake, and by the standard's windows.
use Rattle.std.proofs.Common.{◌≡◌, ℕ, zero, suc, ◌+◌, ◌-◌, ◌<◌, ◌≤◌, Bool, List, [], ◌++◌, append-nil, append_assoc, Some, refl, arith, ap, ◌∙◌, sym}
use Rattle.std.specs.Option.{option_to_list}
use Rattle.line_wave.specs.Line.{Line, was_low}
use Rattle.line_reading.specs.declared.receiver.Told.TheVariants.{Nothing}
use Rattle.line_reading.specs.declared.times.Windows.{Windows}
use Rattle.line_reading.specs.Windows.{AreWindows, standard}
use Rattle.line_reading.specs.Hears.{Hears, Heard, hear_in_by, hears, hears_with, wake_of_by}
use Rattle.line_reading.specs.Kept.{kept_before, kept_with_before, reported_at, reported_with_at}
use Rattle.line_reading.specs.Readings.{Listed, readings_of}
use Rattle.line_reading.specs.Reports.{ended_before, ended_of, running_by}
use Rattle.line_reading.proofs.FollowingBy.{once_so, stood_calm, wake_late}
use Rattle.line_reading.proofs.Keeping as usual
use Rattle.line_reading.proofs.KeepingBy.{before_heard, kept_heard, reported_heard}
use Rattle.line_reading.proofs.Reported.{endings_are_reported, running_is_kept}
use Rattle.line_reading.proofs.Standard.{standard_are}
use Rattle.capture_monitor.specs.ReadBy.{EndedComeFirst, ended_at, ended_before_by, readings_by}
use Rattle.line_wave.proofs.Waves.{was_now}

-- ---- what has ended stays

ended_on : (win : Windows) (low : Line) (n m : ℕ) → (zs : List Listed) × (ended_before_by win low (n + m) ≡ ended_before_by win low n ++ zs)
unfolding ended_before_by
ended_on win low n zero = ([], ap (ended_before_by win low) (let x : n + zero ≡ n = omega arith in x) ∙ sym (append-nil (ended_before_by win low n)))
ended_on win low n (suc m) =
    let before = ended_on win low n m in
    let reported : List Listed = option_to_list (ended_at win low (n + m)) in (
      before.0 ++ reported,
      ap (ended_before_by win low) (let x : n + suc m ≡ suc (n + m) = omega arith in x) ∙ ap (λ (xs : List Listed). xs ++ reported) before.1
          ∙ append_assoc (ended_before_by win low n) before.0 reported,
    )

-- the readings that have ended before an instant are the first of those of the line
pub ended_first : EndedComeFirst
ended_first win low n u l =
    let on = ended_on win low n (u + 1 - n) in
    let last : List Listed = option_to_list (running_by (kept_with_before win low (suc u)) u) in (
      on.0 ++ last,
      ap (λ (xs : List Listed). xs ++ last) (ap (ended_before_by win low) (let x : suc u ≡ n + (u + 1 - n) = omega (arith, l) in x) ∙ on.1)
          ∙ append_assoc (ended_before_by win low n) on.0 last,
    )

-- where nothing is added, nothing ends
ended_calm : (win : Windows) (low : Line) (n m : ℕ) → ((u : ℕ) → n ≤ u → u < n + m → reported_with_at win low u ≡ Nothing) → ended_before_by win low (n + m) ≡ ended_before_by win low n
unfolding ended_before_by
ended_calm win low n zero q = ap (ended_before_by win low) (let x : n + zero ≡ n = omega arith in x)
ended_calm win low n (suc m) q =
    ap (ended_before_by win low) (let x : n + suc m ≡ suc (n + m) = omega arith in x)
    ∙ ap (λ x. ended_before_by win low (n + m) ++ option_to_list (ended_of x (n + m) (running_by (kept_with_before win low (n + m)) (n + m)))) (q (n + m) (omega arith) (omega arith))
    ∙ append-nil (ended_before_by win low (n + m))
    ∙ ended_calm win low n m (λ u a c. q u a (omega (arith, c)))

-- ---- by the standard's windows

standard_kept : (low : Line) (n : ℕ) → kept_with_before standard low n ≡ kept_before low n
unfolding hears
standard_kept low n = before_heard standard standard_are low n ∙ sym (usual.before_heard low n)

standard_reported : (low : Line) (t : ℕ) → reported_with_at standard low t ≡ reported_at low t
unfolding hears
standard_reported low t = reported_heard standard standard_are low t ∙ sym (usual.reported_heard low t)

pub standard_ended : (low : Line) (n : ℕ) → ended_before_by standard low n ≡ ended_before low n
unfolding ended_before_by
standard_ended low zero = refl
standard_ended low (suc t) =
    ap (λ (xs : List Listed). xs ++ option_to_list (ended_at standard low t)) (standard_ended low t)
    ∙ ap (λ x. ended_before low t ++ option_to_list (ended_of x t (running_by (kept_with_before standard low t) t))) (standard_reported low t)
    ∙ ap (λ k. ended_before low t ++ option_to_list (ended_of (reported_at low t) t (running_by k t))) (standard_kept low t)
    ∙ sym (endings_are_reported low t)

-- the readings are those of the line
pub standard_readings : (low : Line) (t : ℕ) → readings_by standard low t ≡ readings_of low t
standard_readings low t =
    ap (λ (xs : List Listed). xs ++ option_to_list (running_by (kept_with_before standard low (suc t)) t)) (standard_ended low (suc t))
    ∙ ap (λ k. ended_before low (suc t) ++ option_to_list (running_by k t)) (standard_kept low (suc t))
    ∙ sym (running_is_kept low t)

module _ (win : Windows) (ok : AreWindows win) where
  -- where nothing happens from n to t, what is kept and has ended stays
  pub record Stays (low : Line) (h : Hears) (n t : ℕ) (b : Bool) : Type 0 where
    pub kept : kept_with_before win low t ≡ h
    pub level : was_low low t ≡ b
    pub ended : ended_before_by win low t ≡ ended_before_by win low n

  pub stays : (low : Line) (h : Hears) (n t : ℕ) (b : Bool) → n ≤ t → h ≡ kept_with_before win low n → was_low low n ≡ b → ((u : ℕ) → n ≤ u → u < t → low u ≡ b)
      → ((w : ℕ) → wake_of_by win h ≡ Some w → t ≤ w) → Stays low h n t b
  stays low h n t b l is level q k =
      let c = stood_calm win ok h b low n t is (sym level) l q k in
      let split : n + (t - n) ≡ t = omega (arith, l) in
      record {
        kept = sym c.0;
        level = sym c.1;
        ended = ap (ended_before_by win low) (sym split) ∙ ended_calm win low n (t - n) (λ u a d. once_so win ok h b t low n is (sym level) q k u a (omega (arith, d, l)));
      }

  -- a wake does not come before what was heard
  pub wake_after : (low : Line) (h : Hears) (n w : ℕ) → h ≡ kept_with_before win low n → wake_of_by win h ≡ Some w → n ≤ w
  wake_after low h n w is e = wake_late win ok h low n w is e

  -- a microsecond: what it leads to, and what it ends
  pub record Hearing (low : Line) (h : Hears) (t : ℕ) (was is : Bool) : Type 0 where
    pub kept : kept_with_before win low (t + 1) ≡ (hear_in_by win t was is h).state
    pub level : was_low low (t + 1) ≡ is
    pub ended : ended_before_by win low (t + 1) ≡ ended_before_by win low t ++ option_to_list (ended_of (hear_in_by win t was is h).reported t (running_by h t))

  pub hearing : (low : Line) (h : Hears) (t : ℕ) (was is : Bool) → h ≡ kept_with_before win low t → was_low low t ≡ was → low t ≡ is → Hearing low h t was is
  unfolding hears_with ended_before_by
  hearing low h t was is keeps before now =
      let same : h ≡ hears_with win low t = keeps ∙ before_heard win ok low t in
      let made : hear_in_by win t (was_low low t) (low t) (hears_with win low t) ≡ hear_in_by win t was is h =
      ap (λ b. hear_in_by win t b (low t) (hears_with win low t)) before ∙ ap (λ b. hear_in_by win t was b (hears_with win low t)) now ∙ ap (hear_in_by win t was is) (sym same) in
      let next : t + 1 ≡ suc t = omega arith in
      record {
        kept = ap (kept_with_before win low) next ∙ kept_heard win ok low t ∙ ap (λ (x : Heard). x.state) made;
        level = was_now low t ∙ now;
        ended = ap (ended_before_by win low) next
            ∙ ap (λ x. ended_before_by win low t ++ option_to_list (ended_of x t (running_by (kept_with_before win low t) t))) (reported_heard win ok low t ∙ ap (λ (x : Heard). x.reported) made)
            ∙ ap (λ k. ended_before_by win low t ++ option_to_list (ended_of (hear_in_by win t was is h).reported t (running_by k t))) (sym keeps);
      }
