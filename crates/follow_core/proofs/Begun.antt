-- A reading that has ended began before.
use Rattle.std.proofs.Common.{◌≡◌, ℕ, zero, suc, ◌+◌, ◌-◌, ◌<◌, ◌≤◌, Bool, true, false, nat_lt, if◌then◌else◌, List, [], ◌∷◌, ◌++◌, Option, Some, None, option_map, refl, sym, ap, subst, ◌∙◌, arith}
use Rattle.std.specs.Option.{option_to_list}
use Rattle.std.proofs.lemmas.Bool.Decides.{nat_tests}
use Rattle.line_wave.specs.Line.{Line, is_fall}
use Rattle.line_reading.specs.declared.times.Windows.{Windows}
use Rattle.line_reading.specs.declared.receiver.ReceiverState.{ReceiverState}
use Rattle.line_reading.specs.declared.receiver.ReceiverState.TheVariants.{Rest, StartLow, StartHigh, Unsampled, Sampled}
use Rattle.line_reading.specs.declared.receiver.Told.{Told}
use Rattle.line_reading.specs.declared.receiver.Told.TheVariants.{Nothing, Bit, Last, Ended}
use Rattle.line_reading.specs.Hears.{Hears}
use Rattle.line_reading.specs.Kept.{kept_in, kept_since, kept_with, kept_with_before, reported_with_at, running_from_by, runs_on_by}
use Rattle.line_reading.specs.Kept.{running_by as runs_at}
use Rattle.line_reading.specs.Reading.{Slot, first_in, known_at, reading_by}
use Rattle.line_reading.specs.Readings.{Listed}
use Rattle.line_reading.specs.Reports.{ended_of, running_by}
use Rattle.line_reading.proofs.Search.{found_first}
use Rattle.capture_join.specs.Joined.{BeginBefore}
use Rattle.capture_monitor.specs.ReadBy.{ended_at, ended_before_by}

-- ---- the fall of the reading that runs

abbrev AtMost : ℕ → Option ℕ → Type 0
AtMost t None = Unit {0}
AtMost t (Some e) = e ≤ t

on_early : (w : Windows) (low : Line) (t : ℕ) (o : Option ℕ) (later : ℕ → Option ℕ) → AtMost t o → ((from : ℕ) → AtMost t (later from)) → AtMost t (runs_on_by w low t o later)
on_early w low t None later h k = tt
on_early w low t (Some e) later h k = by (nat_lt t (reading_by w low e).at)
  where
    by : (b : Bool) → AtMost t (if b then Some e else later ((reading_by w low e).until + 1))
    by true = h
    by false = k ((reading_by w low e).until + 1)

first_early : (low : Line) (from t : ℕ) (o : Option ℕ) → first_in (is_fall low) from (t + 1 - from) ≡ o → AtMost t o
first_early low from t None h = tt
first_early low from t (Some e) h = let f = found_first (is_fall low) from (t + 1 - from) e h in let l = f.within in let a = f.after in omega (arith, l, a)

runs_early : (w : Windows) (low : Line) (t readings from : ℕ) → AtMost t (running_from_by w low t readings from)
unfolding running_from_by
runs_early w low t zero from = tt
runs_early w low t (suc readings) from =
    on_early w low t (first_in (is_fall low) from (t + 1 - from)) (running_from_by w low t readings) (first_early low from t (first_in (is_fall low) from (t + 1 - from)) refl) (runs_early w low t readings)

-- ---- a reading that runs, or has ended

abbrev BeginsBefore : ℕ → Option Listed → Type 0
BeginsBefore t None = Unit {0}
BeginsBefore t (Some x) = x.begin < t

rests : (t n : ℕ) (h : Hears) → h.begin < n → BeginsBefore n (running_by h t)
rests t n h l = by h.place
  where
    by : (p : ReceiverState) → BeginsBefore n (running_by (record h { place = p }) t)
    by Rest = tt
    by StartLow = l
    by StartHigh = l
    by Unsampled = l
    by Sampled = l

kept_early : (low : Line) (u t e : ℕ) (slots : List Slot) → e < t → BeginsBefore t (running_by (kept_in low u e slots) t)
kept_early low u t e [] l = rests t t (kept_in low u e []) l
kept_early low u t e (s ∷ ss) l = rests t t (kept_in low u e (s ∷ ss)) l

since_early : (w : Windows) (low : Line) (t : ℕ) (o : Option ℕ) → AtMost t o → BeginsBefore (suc t) (running_by (kept_since w low t o) (suc t))
since_early w low t None h = tt
since_early w low t (Some e) h = kept_early low t (suc t) e (known_at (t + 1) (reading_by w low e)).slots (omega (arith, h))

running_early : (w : Windows) (low : Line) (t : ℕ) → BeginsBefore t (running_by (kept_with_before w low t) t)
running_early w low zero = tt
running_early w low (suc t) = since_early w low t (runs_at w low t) (runs_early w low t (t + 1) 0)

ended_early : (told : Told) (t : ℕ) (o : Option Listed) → BeginsBefore t o → BeginsBefore t (ended_of told t o)
ended_early Nothing t o h = tt
ended_early (Bit slot value) t o h = tt
ended_early (Last value ending) t None h = tt
ended_early (Last value ending) t (Some x) h = h
ended_early (Ended ending) t None h = tt
ended_early (Ended ending) t (Some x) h = h

-- ---- those that have ended before an instant

before_later : (t u : ℕ) (xs : List Listed) → t ≤ u → BeginBefore t xs → BeginBefore u xs
before_later t u [] l h = tt
before_later t u (x ∷ xs) l h = let sooner = h.0 in (omega (arith, l, sooner), before_later t u xs l h.1)

before_more : (t : ℕ) (xs : List Listed) (o : Option Listed) → BeginBefore t xs → BeginsBefore t o → BeginBefore t (xs ++ option_to_list o)
before_more t [] None h k = tt
before_more t [] (Some x) h k = (k, tt)
before_more t (x ∷ xs) o h k = (h.0, before_more t xs o h.1 k)

pub ended_began : (w : Windows) (low : Line) (n t : ℕ) → n ≤ t + 1 → BeginBefore t (ended_before_by w low n)
unfolding ended_before_by
ended_began w low zero t l = tt
ended_began w low (suc n) t l =
    before_later n t (ended_before_by w low n ++ option_to_list (ended_at w low n)) (omega (arith, l))
    (before_more n (ended_before_by w low n) (ended_at w low n) (ended_began w low n n (omega arith))
    (ended_early (reported_with_at w low n) n (running_by (kept_with_before w low n) n) (running_early w low n)))
