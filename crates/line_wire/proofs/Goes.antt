-- The wire goes from microsecond to microsecond.
use Rattle.std.proofs.Common.{◌≡◌, ℕ, zero, suc, ◌+◌, ◌==◌, ◌<◌, ◌≤◌, Bool, true, false, nat_lt, if◌then◌else◌, List, ◌++◌, Option, Some, None, refl, arith, ap, ◌∙◌, sym, subst, All}
use Rattle.std.proofs.lemmas.Bool.Decides.{nat_tests}
use Rattle.line_wave.specs.Line.{Line, was_low, IsWave}
use Rattle.line_wave.specs.declared.Stretch.{Stretch}
use Rattle.line_reading.specs.declared.receiver.Receiver.{Receiver}
use Rattle.line_reading.specs.declared.receiver.Told.TheVariants.{Nothing}
use Rattle.line_reading.specs.declared.sender.Sender.{Sender}
use Rattle.line_frames.specs.declared.Ending.{Ending}
use Rattle.line_reading.specs.Hears.{heard_by, wake_of}
use Rattle.line_reading.specs.Reading.{End, known_at, reading_of}
use Rattle.line_reading.specs.Kept.{Sample, kept_before, reported_with, reported_in, reported_at, sample_in}
use Rattle.line_reading.proofs.Following.{stood_calm, once_so}
use Rattle.line_rounds.specs.declared.Seat.{Seat}
use Rattle.line_rounds.specs.Round.{IsRoundLine}
use Rattle.line_wire.specs.Listening.{IsReadOnce}
use Rattle.line_wire.specs.Pulls.{Stands, until_of, IsHeld, low_in}
use Rattle.line_wire.specs.Wire.{IsRead, IsAt, until_by}
use Rattle.line_wire.proofs.Standing.{all_later, until_by as until_at}
use Rattle.line_wire.proofs.Lows.{low_is_heard, due_is_heard, held_when_due, runs_in_it}
use Rattle.line_wire.specs.Line.{HaveBegun}

over_known : (low : Line) (begin t : ℕ) (end : End) → (reading_of low begin).at < t → end ≡ record { ending = (reading_of low begin).ending; at = (reading_of low begin).at; until = (reading_of low begin).until }
    → until_of (known_at t (reading_of low begin)).ended t ≡ end.until
over_known low begin t end l e =
    ap (λ b. let o : Option End = if b then Some (record { ending = (reading_of low begin).ending; at = (reading_of low begin).at; until = (reading_of low begin).until }) else None in until_of o t)
    (let u = until_at low begin in let x : nat_lt (reading_of low begin).until t ≡ true = grind (arith, nat_tests) in x)
    ∙ ap (λ (x : End). x.until) (sym e)

stands_so : (seats : List Seat) (begin : ℕ) (r : Receiver) (senders : List (Option Sender)) (bits : List Bool) (ended : Option End) (held : ℕ) (low : Line) (t : ℕ)
    → IsAt seats begin r senders bits ended held low t → Stands seats begin senders (until_by r ended t) held low t
stands_so seats begin r senders bits None held low t s = record {
  from = s.from;
  whose = s.whose;
  sending = s.sending;
  until_is = sym (due_is_heard r low begin t s.once s.stood s.from s.read.0);
  held_is = subst (λ n. IsHeld seats low begin t n) (sym s.read.2) (held_when_due seats r low begin t s.once s.stood s.from s.read.0);
}
stands_so seats begin r senders bits (Some end) held low t s = record {
  from = s.from;
  whose = s.whose;
  sending = s.sending;
  until_is = sym (over_known low begin t end s.read.0 s.read.1);
  held_is = s.read.3 t (omega arith);
}

-- The next microsecond's low, as the wire finds it, is that of each line that the round can have.
pub low_is_found : (seats : List Seat) (begin : ℕ) (past later : List Stretch) (last : Option Stretch) (r : Receiver) (senders : List (Option Sender)) (bits : List Bool) (ended : Option End) (held : ℕ) (low told : ℕ → Bool) (t w : ℕ)
    → IsWave (past ++ later) → IsRoundLine seats begin (past ++ later) low → All (λ p. w ≤ p.from) later → t < w → HaveBegun begin past last t
    → reading_of told begin ≡ reading_of low begin → IsAt seats begin r senders bits ended held told t
    → low t ≡ low_in senders last (until_by r ended t) held (was_low low t) t
low_is_found seats begin past later last r senders bits ended held low told t w wave line far near begun reads s =
    low_is_heard seats begin past later last senders (until_by r ended t) held low told t w wave line far near begun reads (stands_so seats begin r senders bits ended held told t s)

-- ---- a microsecond that tells nothing

not_at : (low : Line) (begin t : ℕ) → IsReadOnce low begin → begin < t → t ≤ (reading_of low begin).at → reported_at low t ≡ Nothing → t < (reading_of low begin).at
not_at low begin zero once from runs none = absurd (omega (arith, from))
not_at low begin (suc n) once from runs none = by_now ((reading_of low begin).at == suc n) refl
  where
    reported : reported_in low (suc n) (Some begin) ≡ Nothing
    reported = ap (reported_in low (suc n)) (sym (runs_in_it low begin n once (omega (arith, from)) (omega (arith, runs)))) ∙ none

    something : (o : Option Sample) (ending : Ending) → reported_with o true ending ≡ Nothing → suc n < (reading_of low begin).at
    something None ending e = cc
    something (Some s) ending e = cc

    by_now : (b : Bool) → ((reading_of low begin).at == suc n) ≡ b → suc n < (reading_of low begin).at
    by_now true e = something (sample_in (suc n) 1 (known_at (suc n + 1) (reading_of low begin)).slots) (reading_of low begin).ending
        (ap (λ b. reported_with (sample_in (suc n) 1 (known_at (suc n + 1) (reading_of low begin)).slots) b (reading_of low begin).ending) (sym e) ∙ reported)
    by_now false e = let l = runs in let x : suc n < (reading_of low begin).at = grind (arith, nat_tests) in x

read_stays : (seats : List Seat) (begin : ℕ) (r : Receiver) (bits : List Bool) (ended : Option End) (held : ℕ) (low : Line) (t : ℕ) → IsReadOnce low begin → begin < t → reported_at low t ≡ Nothing
    → IsRead seats begin r bits ended held low t → IsRead seats begin r bits ended held low (t + 1)
read_stays seats begin r bits None held low t once from none h = (let x = not_at low begin t once from h.0 none in omega (arith, x), h.1, h.2)
read_stays seats begin r bits (Some end) held low t once from none h = (omega (arith, h.0), h.1, h.2, λ u l. h.3 u (omega (arith, l)))

-- Where the line stays as it was and the receiver does not wake, the wire stands a microsecond later as it does.
pub calm_stays : (seats : List Seat) (begin : ℕ) (r : Receiver) (senders : List (Option Sender)) (bits : List Bool) (ended : Option End) (held : ℕ) (low : ℕ → Bool) (t : ℕ)
    → IsAt seats begin r senders bits ended held low t → low t ≡ r.was_low → ((w : ℕ) → wake_of (heard_by r) ≡ Some w → t < w)
    → IsAt seats begin r senders bits ended held low (t + 1)
calm_stays seats begin r senders bits ended held low t s same wakes = record {
  from = omega (arith, s.from);
  once = s.once;
  stood = record { keeps = c.0; level = c.1 };
  whose = s.whose;
  sending = all_later low begin t (t + 1) senders s.once (omega (arith, s.from)) (omega arith) (λ u a b. reported u a b) s.sending;
  read = read_stays seats begin r bits ended held low t s.once s.from (reported t (omega arith) (omega arith)) s.read;
}
  where
    calm : (u : ℕ) → t ≤ u → u < t + 1 → low u ≡ r.was_low
    calm u a b = let x : u ≡ t = omega arith in ap low x ∙ same

    wake : (w : ℕ) → wake_of (heard_by r) ≡ Some w → t + 1 ≤ w
    wake w e = let x = wakes w e in omega (arith, x)

    reported : (u : ℕ) → t ≤ u → u < t + 1 → reported_at low u ≡ Nothing
    reported = once_so (heard_by r) r.was_low (t + 1) low t s.stood.keeps s.stood.level calm wake

    c : (heard_by r ≡ kept_before low (t + 1)) × (r.was_low ≡ was_low low (t + 1))
    c = stood_calm (heard_by r) r.was_low low t (t + 1) s.stood.keeps s.stood.level (omega arith) calm wake

-- Where the line has no edge before an instant and the receiver does not wake before it, the wire stands there as it does.
pub calm_to : (seats : List Seat) (begin : ℕ) (r : Receiver) (senders : List (Option Sender)) (bits : List Bool) (ended : Option End) (held : ℕ) (low : ℕ → Bool) (t n : ℕ)
    → IsAt seats begin r senders bits ended held low t → ((u : ℕ) → t ≤ u → u < t + n → low u ≡ r.was_low) → ((w : ℕ) → wake_of (heard_by r) ≡ Some w → t + n ≤ w)
    → IsAt seats begin r senders bits ended held low (t + n)
calm_to seats begin r senders bits ended held low t zero s calm wake = subst (λ m. IsAt seats begin r senders bits ended held low m) (let x : t ≡ t + zero = omega arith in x) s
calm_to seats begin r senders bits ended held low t (suc n) s calm wake =
    subst (λ m. IsAt seats begin r senders bits ended held low m) (let x : t + n + 1 ≡ t + suc n = omega arith in x)
    (calm_stays seats begin r senders bits ended held low (t + n)
    (calm_to seats begin r senders bits ended held low t n s (λ u a b. calm u a (omega (arith, b))) (λ w e. let x = wake w e in omega (arith, x)))
    (calm (t + n) (omega arith) (omega arith)) (λ w e. let x = wake w e in omega (arith, x)))
