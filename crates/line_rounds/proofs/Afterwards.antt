-- After the ending of a round's reading its line does not fall any more.
use Rattle.std.proofs.Common.{◌≡◌, ℕ, zero, suc, ◌+◌, ◌-◌, ◌<◌, ◌≤◌, Bool, true, false, ◌&&◌, ◌||◌, nat_lt, nat_le, if◌then◌else◌, List, [], ◌++◌, slice_get, ◌⊎◌, inl, inr, Option, Some, None, Result, Ok, Err, refl, arith, ap, ◌∙◌, sym, subst}
use Rattle.std.specs.List.{list_any}
use Rattle.std.specs.Option.{option_to_list}
use Rattle.std.proofs.lemmas.Bool.Decides.{nat_tests}
use Rattle.line_wave.specs.Line.{Line, was_low, is_fall}
use Rattle.line_frames.specs.Bits.{frame_bits}
use Rattle.line_frames.specs.declared.Ending.{Ending}
use Rattle.line_frames.specs.declared.Ending.TheVariants.{Complete, Short, Silent, BadStart, Long, Open}
use Rattle.line_reading.specs.Reading.After.{Next, Ends}
use Rattle.line_reading.specs.Windows.{standard, sample_at}
use Rattle.line_reading.specs.Reading.{next_fall, Read, Slot, known_at, reading_of, read_start, read_slots, read_on, read_then, after_slot, after_fall, after_last, last_ending, last_heard, bit_sampled_at, start_of, After}
use Rattle.line_reading.specs.Sending.{known_bits, out_slot, goes_on, sender_pulls}
use Rattle.line_rounds.specs.Round.{frames_of, is_within, pulse_pulls, is_acknowledged, is_broken}
use Rattle.line_rounds.specs.Contend.{Stays}
use Rattle.line_rounds.specs.Quiet.{NoFallAfter}
use Rattle.line_rounds.proofs.Early.{and_right, stays_before}
use Rattle.line_rounds.proofs.Inside.{not_whole, heard_start, stays_by}
use Rattle.line_rounds.proofs.Law.{not_true, pulled_more, start_fails}
use Rattle.line_rounds.proofs.Spans.{reading_spans, bits_more}
use Rattle.line_rounds.proofs.Falls.{Keeps, Makes, fall_by, out_none}
use Rattle.line_rounds.proofs.Lasting.{begun_by}

-- ---- an ending that comes after its last microsecond: silence after a slot, or a start bit with no slot

abbrev pub LateEnd : List Slot → ℕ → Type 0
LateEnd ss at = (k : ℕ) × (s : Slot) × (slice_get ss k ≡ Some s) × (at ≡ s.fall + (standard.bit_total.most + 1))

silent_only : (ending : Ending) (at : ℕ) → last_heard ending at < at → ending ≡ Silent
silent_only Silent at h = refl
silent_only Complete at h = absurd (omega (arith, h))
silent_only Short at h = absurd (omega (arith, h))
silent_only BadStart at h = absurd (omega (arith, h))
silent_only Long at h = absurd (omega (arith, h))
silent_only Open at h = absurd (omega (arith, h))

by_last_ending : (bits : List Bool) → last_ending bits ≡ Some Silent → ⊥
by_last_ending bits h = by_tests _ _ _ h
  where
    by_tests : (a b c : Bool) → (if a then (if b then Some Complete else if c then Some Long else None) else None) ≡ Some Silent → ⊥
    by_tests true true c e = cc
    by_tests true false true e = cc
    by_tests true false false e = cc
    by_tests false b c e = cc

silent_after : (low : Line) (e at : ℕ) (bits : List Bool) → after_slot low e (last_ending bits) ≡ Ends Silent at → at ≡ e + (standard.bit_total.most + 1)
silent_after low e at bits h = by_last (last_ending bits) refl h
  where
    by_soon : (f : ℕ) (b : Bool) → (if b then Ends Short f else Next f) ≡ Ends Silent at → at ≡ e + (standard.bit_total.most + 1)
    by_soon f true k = cc
    by_soon f false k = cc

    by_fall : (o : Option ℕ) → after_fall e o ≡ Ends Silent at → at ≡ e + (standard.bit_total.most + 1)
    by_fall None k = let x : e + (standard.bit_total.most + 1) ≡ at = cc in omega (arith, x)
    by_fall (Some f) k = by_soon f (nat_lt f (e + standard.bit_total.least)) k

    no_last : (ending : Ending) (o : Option ℕ) → last_ending bits ≡ Some ending → after_last e ending o ≡ Ends Silent at → at ≡ e + (standard.bit_total.most + 1)
    no_last ending None l k = let x : ending ≡ Silent = cc in absurd (by_last_ending bits (l ∙ ap (λ y. let o : Option Ending = Some y in o) x))
    no_last ending (Some f) l k = cc

    by_last : (last : Option Ending) → last_ending bits ≡ last → after_slot low e last ≡ Ends Silent at → at ≡ e + (standard.bit_total.most + 1)
    by_last None l k = by_fall (next_fall low e standard.bit_total.most) k
    by_last (Some ending) l k = no_last ending (next_fall low e sample_at) l k

late_on : (low : Line) (e : ℕ) (bits : List Bool) (s : Slot) (rest : ℕ → Read) (a : After) → s.fall ≡ e → after_slot low e (last_ending bits) ≡ a → ((f : ℕ) → (rest f).until < (rest f).at → LateEnd (rest f).slots (rest f).at)
    → (read_then s (read_on rest a)).until < (read_then s (read_on rest a)).at → LateEnd (read_then s (read_on rest a)).slots (read_then s (read_on rest a)).at
late_on low e bits s rest (Next f) same h ih l = let q = ih f l in (suc q.0, q.1, q.2, q.3)
late_on low e bits s rest (Ends ending at) same h ih l =
    let x : ending ≡ Silent = silent_only ending at l in
    (0, s, refl, silent_after low e at bits (h ∙ ap (λ y. let a : After = Ends y at in a) x) ∙ ap (λ n. n + (standard.bit_total.most + 1)) (sym same))

late_slots : (low : Line) (left : ℕ) (bits : List Bool) (e : ℕ) → (read_slots low left bits e).until < (read_slots low left bits e).at → LateEnd (read_slots low left bits e).slots (read_slots low left bits e).at
unfolding read_slots
late_slots low zero bits e l = absurd (omega (arith, l))
late_slots low (suc left) bits e l =
    late_on low e bits (record { fall = e; bit = bit_sampled_at low e }) (read_slots low left (bits ++ option_to_list (bit_sampled_at low e))) (after_slot low e (last_ending bits)) refl refl
    (λ f m. late_slots low left (bits ++ option_to_list (bit_sampled_at low e)) f m) l

pub late_start : (low : Line) (begin : ℕ) (r : Result ℕ ℕ) → start_of low begin ≡ r → (read_start low begin r).until < (read_start low begin r).at
    → ((read_start low begin r).at ≡ begin + (standard.start_total.most + 1)) ⊎ LateEnd (read_start low begin r).slots (read_start low begin r).at
late_start low begin (Ok f) h l = inr (late_slots low 160 [] f l)
late_start low begin (Err at) h l = inl (omega (arith, l, start_fails low begin at h))

-- ---- a sender that is not out was not out before

pub not_out : (low : Line) (begin t u : ℕ) (f : List ℕ) → u ≤ t → out_slot (known_at t (reading_of low begin)) (frame_bits f) ≡ None → goes_on (known_at t (reading_of low begin)).ended t ≡ true
    → out_slot (known_at u (reading_of low begin)) (frame_bits f) ≡ None
not_out low begin t u f l h g = out_none (known_at u (reading_of low begin)) (frame_bits f) (stays_before (known_bits (known_at u (reading_of low begin))) reported.0 (frame_bits f) (subst (λ (b : List Bool). Stays b (frame_bits f)) reported.1 stays_t))
  where
    stays_t : Stays (known_bits (known_at t (reading_of low begin))) (frame_bits f)
    stays_t = stays_by (known_at t (reading_of low begin)) (frame_bits f) (not_whole t (reading_of low begin) (heard_start low begin (start_of low begin)) g) h

    reported : (ys : List Bool) × (known_bits (known_at t (reading_of low begin)) ≡ known_bits (known_at u (reading_of low begin)) ++ ys)
    reported = bits_more u t (reading_of low begin).slots 0 (reading_spans low begin).spaced l

-- ---- no fall

pub no_fall_after : NoFallAfter
no_fall_after seats begin pulses low line u past = by_fall (is_fall low u) refl
  where
    begins : begin ≤ (reading_of low begin).until
    begins = (begun_by low begin (start_of low begin) refl).goes

    over : is_within (known_at u (reading_of low begin)).ended u ≡ false
    over =
        let ended : nat_lt (reading_of low begin).until u ≡ true = grind (arith, nat_tests) in
        let late : nat_le u (reading_of low begin).until ≡ false = grind (arith, nat_tests) in
        ap (λ c. is_within (if c then Some (record { ending = (reading_of low begin).ending; at = (reading_of low begin).at; until = (reading_of low begin).until }) else None) u) ended ∙ late

    -- no sender makes it: past the reading it pulls only where the line is low already
    no_sender : is_fall low u ≡ true → Makes [] seats begin pulses low u
    no_sender fall l =
        let k = known_at u (reading_of low begin) in
        step (list_any (pulse_pulls begin k.ended (was_low low u) u) pulses) (list_any (sender_pulls begin k u) (frames_of seats)) (is_within k.ended u) (was_low low u) (is_acknowledged seats k u || is_broken seats k u k.ended)
        over (not_true (was_low low u) (and_right (low u) _ fall)) (sym (line u) ∙ l)
      where
        step : (a b w v d : Bool) → w ≡ false → v ≡ false → (a || ((b && (w || v)) || d)) ≡ true → (a || (false || d)) ≡ true
        step true b w v d e f m = refl
        step false true true v d e f m = cc
        step false true false true d e f m = cc
        step false true false false d e f m = m
        step false false w v d e f m = m

    before : 0 < u → Keeps [] seats begin pulses low (u - 1)
    before p h = line (u - 1) ∙ pulled_more [] (frames_of seats) seats begin pulses (was_low low (u - 1)) (known_at (u - 1) (reading_of low begin)) (u - 1) (λ g. cc) h

    by_fall : (b : Bool) → is_fall low u ≡ b → is_fall low u ≡ false
    by_fall false h = h
    by_fall true h = elim (fall_by [] seats begin pulses low u (no_sender h) before h) [
      | inl e ↦ absurd (omega (arith, e, begins, past))
      | inr (inl q) ↦ absurd q.1
      | inr (inr q) ↦ absurd (omega (arith, q.2, past))
    ]
