-- The wave of a round's line, as a wire records it.
use Rattle.std.proofs.Common.{◌≡◌, ℕ, zero, suc, ◌+◌, ◌<◌, ◌≤◌, Bool, true, false, List, [], ◌∷◌, length, Option, Some, None, is_some, arith, subst}
use Rattle.std.specs.List.{All}
use Rattle.line_wave.specs.declared.Stretch.{Stretch}
use Rattle.line_wave.specs.Line.{Line, line_of, is_fall, IsWaveFrom}
use Rattle.line_wave.specs.Bounds.{most_stretches}
use Rattle.line_rounds.specs.declared.Seat.{Seat}
use Rattle.line_rounds.specs.Machine.{wave_after, low_since, IsReady}
use Rattle.line_rounds.specs.Round.{IsRoundLine}
use Rattle.line_rounds.specs.Recorded as recorded
use Rattle.line_rounds.proofs.Records as recorder
use Rattle.line_wire.specs.Wired.{Records}
use Rattle.line_wire.proofs.Room.{room_is_left}
use Rattle.line_wire.proofs.Told.{high_before}

-- ---- the same record in two ways

pub ends_to : (t : ℕ) (ss : List Stretch) → All (λ s. s.to < t) ss → recorded.EndBefore t ss
ends_to t [] h = tt
ends_to t (s ∷ ss) h = (h 0 s (omega arith), ends_to t ss (λ k d l. h (suc k) d (omega (arith, l))))

ends_of : (t : ℕ) (ss : List Stretch) → recorded.EndBefore t ss → All (λ s. s.to < t) ss
ends_of t [] h i d l = absurd (omega (arith, l))
ends_of t (s ∷ ss) h zero d l = h.0
ends_of t (s ∷ ss) h (suc i) d l = ends_of t ss h.1 i d (omega (arith, l))

falls_to : (low : Line) (from end t : ℕ) (ss : List Stretch) → end ≤ t → IsWaveFrom from ss → All (λ s. s.to < end) ss → All (λ s. is_fall low s.from ≡ true) ss → recorded.AreFalls low t ss
falls_to low from end t [] m w e f = tt
falls_to low from end t (s ∷ ss) m w e f =
    ((let x = e 0 s (omega arith) in omega (arith, x, w.1, m)), f 0 s (omega arith), falls_to low (s.to + 1) end t ss m w.2 (λ k d l. e (suc k) d (omega (arith, l))) (λ k d l. f (suc k) d (omega (arith, l))))

falls_of : (low : Line) (t : ℕ) (ss : List Stretch) → recorded.AreFalls low t ss → All (λ s. is_fall low s.from ≡ true) ss
falls_of low t [] h i d l = absurd (omega (arith, l))
falls_of low t (s ∷ ss) h zero d l = h.1
falls_of low t (s ∷ ss) h (suc i) d l = falls_of low t ss h.2 i d (omega (arith, l))

to_old : (low : Line) (t : ℕ) (wave : List Stretch) (since : Option ℕ) → Records low t wave since → recorded.Records low t wave since
to_old low t wave None r = record { same = r.same; order = r.order; ends = ends_to t wave r.ends; falls = falls_to low 0 t t wave (omega arith) r.order r.ends r.falls; begins = tt; was = r.was }
to_old low t wave (Some s) r =
    record { same = r.same; order = r.order; ends = ends_to s wave r.ends; falls = falls_to low 0 s t wave (omega (arith, r.begins.0)) r.order r.ends r.falls; begins = r.begins; was = r.was }

of_old : (low : Line) (t : ℕ) (wave : List Stretch) (since : Option ℕ) → recorded.Records low t wave since → Records low t wave since
of_old low t wave None r = record { same = r.same; order = r.order; ends = ends_of t wave r.ends; falls = falls_of low t wave r.falls; begins = tt; was = r.was }
of_old low t wave (Some s) r = record { same = r.same; order = r.order; ends = ends_of s wave r.ends; falls = falls_of low t wave r.falls; begins = r.begins; was = r.was }

-- ---- from microsecond to microsecond

pub records_first : (seats : List Seat) (begin : ℕ) (pulses : List Stretch) (low : Line) → IsRoundLine seats begin pulses low → Records low begin [] None
records_first seats begin pulses low line = of_old low begin [] None (recorder.record_first low begin (high_before seats begin pulses low line))

pub records_next : (low : Line) (t : ℕ) (wave : List Stretch) (since : Option ℕ) (b : Bool) → Records low t wave since → low t ≡ b → Records low (t + 1) (wave_after wave since t b) (low_since since t b)
records_next low t wave since b r h = of_old low (t + 1) (wave_after wave since t b) (low_since since t b) (recorder.record_step low t wave since b (to_old low t wave since r) h)

records_same : (low : Line) (t : ℕ) (wave : List Stretch) (since : Option ℕ) → Records low t wave since → low t ≡ is_some since → Records low (t + 1) wave since
records_same low t wave None r h = records_next low t wave None false r h
records_same low t wave (Some s) r h = records_next low t wave (Some s) true r h

-- as long as the line stays as it was
pub records_calm : (low : Line) (t n : ℕ) (wave : List Stretch) (since : Option ℕ) → Records low t wave since → ((u : ℕ) → t ≤ u → u < t + n → low u ≡ is_some since) → Records low (t + n) wave since
records_calm low t zero wave since r h = subst (λ m. Records low m wave since) (let x : t ≡ t + zero = omega arith in x) r
records_calm low t (suc n) wave since r h =
    subst (λ m. Records low m wave since) (let x : t + n + 1 ≡ t + suc n = omega arith in x)
    (records_same low (t + n) wave since (records_calm low t n wave since r (λ u a b. h u a (omega (arith, b)))) (h (t + n) (omega arith) (omega arith)))

-- ---- what the recorder asks for

pub records_ready : (low : Line) (t : ℕ) (wave : List Stretch) (since : Option ℕ) → Records low t wave since → IsReady wave since t
records_ready low t wave since r = recorder.is_ready low t wave since (to_old low t wave since r)

pub records_room : (seats : List Seat) (begin : ℕ) (pulses : List Stretch) (low : Line) (t : ℕ) (wave : List Stretch) (since : Option ℕ) → IsRoundLine seats begin pulses low → Records low t wave since → length wave < most_stretches
records_room seats begin pulses low t wave since line r = omega (arith, room_is_left seats begin pulses low wave line r.order r.falls)

-- ---- where nothing is low any more

pub line_ends : (low : Line) (t : ℕ) (wave : List Stretch) → Records low t wave None → (u : ℕ) → t ≤ u → line_of wave u ≡ false
line_ends low t wave r u l = recorder.no_line t u wave (ends_to t wave r.ends) l
