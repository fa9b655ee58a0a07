-- A tick leaves the wire where the line stands.
use Rattle.std.proofs.Common.{◌≡◌, ◌≢◌, ℕ, zero, suc, ◌+◌, ◌==◌, ◌<◌, ◌≤◌, Bool, true, false, not, ◌&&◌, nat_lt, if◌then◌else◌, List, ◌++◌, append-nil, Option, Some, None, refl, arith, ap, ◌∙◌, sym, subst}
use Rattle.std.proofs.lemmas.Bool.Decides.{nat_tests}
use Rattle.line_wave.specs.Line.{Line, was_low}
use Rattle.line_frames.specs.declared.Ending.{Ending}
use Rattle.line_reading.specs.declared.receiver.Receiver.{Receiver}
use Rattle.line_reading.specs.declared.receiver.Told.{Told}
use Rattle.line_reading.specs.declared.receiver.Told.TheVariants.{Nothing, Bit, Last, Ended}
use Rattle.line_reading.specs.declared.sender.Sender.{Sender}
use Rattle.line_reading.specs.Hears.{Hears, Heard, heard_by, hear_in, hears}
use Rattle.line_reading.specs.Reading.{End, known_at, reading_of, read_slots, bits_of}
use Rattle.line_reading.specs.Kept.{Sample, kept_before, reported_with, reported_in, reported_at, sample_in}
use Rattle.line_reading.proofs.Stood.{step, stands_at}
use Rattle.line_reading.specs.Sending.{known_bits}
use Rattle.line_reading.specs.Follows.{StandsOn}
use Rattle.line_rounds.specs.declared.Seat.{Seat}
use Rattle.line_wire.specs.Listening.{IsReadOnce, AreSending}
use Rattle.line_wire.specs.Pulls.{until_of, held_in, IsHeld}
use Rattle.line_wire.specs.Wire.{IsAt, Ticked, until_by, goes_on, bits_in, ends_as, held_from}
use Rattle.line_wire.proofs.Ended.{EndsHeld, ends_held}
use Rattle.line_wire.proofs.By.{GoesBy, goes_by}
use Rattle.line_wire.proofs.Standing.{all_later, all_told, runs_after, until_by as until_at, reading_spans, reported_bits}
use Rattle.line_wire.proofs.Lows.{due_is_heard, runs_in_it, runs_there, begin_is, before_heard, reported_heard}
use Rattle.line_wave.proofs.Waves.{was_now}
use Rattle.line_reading.specs.Places.{runs_in, KnowsEnd}

-- what t tells of the reading that runs
told_now : (low : Line) (begin t : ℕ) → IsReadOnce low begin → begin < t → t ≤ (reading_of low begin).at → reported_at low t ≡ reported_in low t (Some begin)
told_now low begin zero once from runs = absurd (omega (arith, from))
told_now low begin (suc n) once from runs = ap (reported_in low (suc n)) (runs_in_it low begin n once (omega (arith, from)) (omega (arith, runs)))

goes_past : (o : Option Sample) (b : Bool) (ending : Ending) → goes_on (reported_with o b ending) ≡ true → b ≡ false
goes_past None true ending e = cc
goes_past (Some s) true ending e = cc
goes_past o false ending e = refl

ends_now : (o : Option Sample) (b : Bool) (ending e : Ending) → ends_as (reported_with o b ending) ≡ Some e → (b ≡ true) × (ending ≡ e)
ends_now None true ending e h = (refl, cc)
ends_now (Some s) true ending e h = (refl, cc)
ends_now None false ending e h = cc
ends_now (Some s) false ending e h = cc

-- the bits that it keeps
bits_go : (begin : ℕ) (bits : List Bool) (h : Hears) (reported : Told) → GoesBy begin bits h reported → goes_on reported ≡ true → bits ++ bits_in reported ≡ h.bits
bits_go begin bits h Nothing g e = append-nil bits ∙ sym g.1
bits_go begin bits h (Bit slot value) g e = sym g.1
bits_go begin bits h (Last value ending) g e = cc
bits_go begin bits h (Ended ending) g e = cc

silent_one : (low : Line) (t : ℕ) → reported_at low t ≡ Nothing → (u : ℕ) → t ≤ u → u < t + 1 → reported_at low u ≡ Nothing
silent_one low t e u a b = let x : u ≡ t = omega arith in ap (reported_at low) x ∙ e

sent_on : (seats : List Seat) (begin : ℕ) (r new : Receiver) (reported : Told) (senders news : List (Option Sender)) (low : Line) (t : ℕ) → IsReadOnce low begin → begin < t → AreSending low begin t senders
    → Ticked seats begin r new reported senders news low t → (x : Told) → reported ≡ x → AreSending low begin (t + 1) news
sent_on seats begin r new reported senders news low t once from s k Nothing e =
    subst (λ (os : List (Option Sender)). AreSending low begin (t + 1) os) (sym (k.quiet e)) (all_later low begin t (t + 1) senders once (omega (arith, from)) (omega arith) (silent_one low t (sym k.reported_is ∙ e)) s)
sent_on seats begin r new reported senders news low t once from s k (Bit slot value) e = let n : reported ≢ Nothing = λ z. let y : Bit slot value ≡ Nothing = sym e ∙ z in cc in all_told low begin t reported senders news once k.reported_is n (k.each n) s
sent_on seats begin r new reported senders news low t once from s k (Last value ending) e = let n : reported ≢ Nothing = λ z. let y : Last value ending ≡ Nothing = sym e ∙ z in cc in all_told low begin t reported senders news once k.reported_is n (k.each n) s
sent_on seats begin r new reported senders news low t once from s k (Ended ending) e = let n : reported ≢ Nothing = λ z. let y : Ended ending ≡ Nothing = sym e ∙ z in cc in all_told low begin t reported senders news once k.reported_is n (k.each n) s

-- where the reading goes on the wire stands after it
pub tick_goes : (seats : List Seat) (begin : ℕ) (r new : Receiver) (reported : Told) (senders news : List (Option Sender)) (bits : List Bool) (held : ℕ) (low : ℕ → Bool) (t : ℕ)
    → IsAt seats begin r senders bits None held low t → Ticked seats begin r new reported senders news low t → goes_on reported ≡ true
    → IsAt seats begin new news (bits ++ bits_in reported) None (held_in seats new.place new.fall new.bits.items) low (t + 1)
tick_goes seats begin r new reported senders news bits held low t s k goes = record {
  from = omega (arith, s.from);
  once = s.once;
  stood = record { keeps = k.stands.keeps ∙ ap (λ m. kept_before low m) (let x : suc t ≡ t + 1 = omega arith in x); level = k.stands.level.0 ∙ sym (was_now low t) };
  whose = k.whose;
  sending = sent_on seats begin r new reported senders news low t s.once s.from s.sending k reported refl;
  read = (past, ap (λ (bs : List Bool). bs ++ bits_in reported) s.read.1 ∙ kept, refl);
}
  where
    past : t + 1 ≤ (reading_of low begin).at
    past =
        let n : ((reading_of low begin).at == t) ≡ false = goes_past (sample_in t 1 (known_at (t + 1) (reading_of low begin)).slots) ((reading_of low begin).at == t) (reading_of low begin).ending
        (ap goes_on (sym (k.reported_is ∙ told_now low begin t s.once s.from s.read.0)) ∙ goes) in
        let l = s.read.0 in
        let x : t < (reading_of low begin).at = grind (arith, nat_tests) in omega (arith, x)

    runs : runs_in r.place r.begin ≡ Some begin
    runs = ap (λ (h : Hears). runs_in h.place h.begin) (s.stood.keeps ∙ before_heard low t) ∙ runs_there low begin t s.once s.from s.read.0

    kept : r.bits.items ++ bits_in reported ≡ new.bits.items
    kept = bits_go r.begin r.bits.items (heard_by new) reported
        (subst (λ (x : Heard). GoesBy r.begin r.bits.items x.state x.reported) (sym k.heard)
        (goes_by t r.place r.begin r.fall r.bits.items (low t && not (was_low low t)) (not (low t) && was_low low t) (low t) begin runs)) goes

until_here : (low : Line) (begin t : ℕ) → (reading_of low begin).at ≡ t → (reading_of low begin).until ≡ until_of (known_at t (reading_of low begin)).ended t
until_here low begin t e = by_time (nat_lt (reading_of low begin).until t) refl
  where
    by_time : (b : Bool) → nat_lt (reading_of low begin).until t ≡ b
        → (reading_of low begin).until ≡ until_of (if b then Some (record { ending = (reading_of low begin).ending; at = (reading_of low begin).at; until = (reading_of low begin).until }) else None) t
    by_time true h = refl
    by_time false h = let u = until_at low begin in let x : t ≤ (reading_of low begin).until = grind (arith, nat_tests) in omega (arith, u, x, e)

-- the bits of a reading that has ended
end_bits : (low : Line) (begin t : ℕ) (bits : List Bool) (reported : Told) (ending : Ending) → KnowsEnd low t begin bits reported → ends_as reported ≡ Some ending → known_bits (known_at (t + 1) (reading_of low begin)) ≡ bits ++ bits_in reported
unfolding read_slots
end_bits low begin t bits Nothing ending k e = cc
end_bits low begin t bits (Bit slot value) ending k e = cc
end_bits low begin t bits (Last value x) ending k e = k.0.bits_are
end_bits low begin t bits (Ended x) ending k e = k.bits_are ∙ sym (append-nil bits)

-- where it ends, it ends at t, so, and its last microsecond is that which was due
pub tick_ends : (seats : List Seat) (begin : ℕ) (r new : Receiver) (reported : Told) (senders news : List (Option Sender)) (bits : List Bool) (held : ℕ) (low : ℕ → Bool) (t : ℕ) (ending : Ending)
    → IsAt seats begin r senders bits None held low t → Ticked seats begin r new reported senders news low t → ends_as reported ≡ Some ending
    → ((reading_of low begin).at ≡ t) × ((reading_of low begin).ending ≡ ending) × ((reading_of low begin).until ≡ until_by r None t) × (bits ++ bits_in reported ≡ bits_of (reading_of low begin))
tick_ends seats begin r new reported senders news bits held low t ending s k ends =
    let o = sample_in t 1 (known_at (t + 1) (reading_of low begin)).slots in
    let n = ends_now o ((reading_of low begin).at == t) (reading_of low begin).ending ending (ap ends_as (sym (k.reported_is ∙ told_now low begin t s.once s.from s.read.0)) ∙ ends) in
    let now = n.0 in
    let at : (reading_of low begin).at ≡ t = grind (arith, nat_tests) in
    (at, n.1, until_here low begin t at ∙ due_is_heard r low begin t s.once s.stood s.from s.read.0, all_bits at)
  where
    h : Hears
    h = hears low t

    same : heard_by r ≡ h
    same = s.stood.keeps ∙ before_heard low t

    begins : h.begin ≡ begin
    begins = begin_is h.place h.begin begin (runs_there low begin t s.once s.from s.read.0)

    ended : KnowsEnd low t begin h.bits reported
    ended = subst (λ x. KnowsEnd low t begin h.bits x) (sym (k.reported_is ∙ reported_heard low t))
        (subst (λ b. KnowsEnd low t b h.bits (hear_in t (was_low low t) (low t) h).reported) begins (step low t h.place h.begin h.fall h.bits (stands_at low t)).ends)

    all_bits : (reading_of low begin).at ≡ t → bits ++ bits_in reported ≡ bits_of (reading_of low begin)
    all_bits at =
        ap (λ (bs : List Bool). bs ++ bits_in reported) (s.read.1 ∙ ap (λ (x : Hears). x.bits) same)
        ∙ sym (end_bits low begin t h.bits reported ending ended ends)
        ∙ reported_bits (t + 1) (reading_of low begin).until (reading_of low begin).slots (reading_spans low begin).reported (let u = until_at low begin in omega (arith, u, at))

-- ---- and afterwards

over_held : (seats : List Seat) (begin : ℕ) (r new : Receiver) (reported : Told) (senders news : List (Option Sender)) (bits : List Bool) (held : ℕ) (low : Line) (t : ℕ) (ending : Ending)
    → IsAt seats begin r senders bits None held low t → Ticked seats begin r new reported senders news low t → ends_as reported ≡ Some ending → (u : ℕ) → t < u → IsHeld seats low begin u (held_from seats bits reported held t)
over_held seats begin r new reported senders news bits held low t ending s k ends = by_told reported refl held_now ends
  where
    h : Hears
    h = hears low t

    same : heard_by r ≡ h
    same = s.stood.keeps ∙ before_heard low t

    runs : runs_in h.place h.begin ≡ Some begin
    runs = runs_there low begin t s.once s.from s.read.0

    begins : h.begin ≡ begin
    begins = begin_is h.place h.begin begin runs

    held_is : held_in seats h.place h.fall h.bits ≡ held
    held_is = sym (s.read.2 ∙ ap (λ (x : Hears). held_in seats x.place x.fall x.bits) same)

    bits_are : h.bits ≡ bits
    bits_are = sym (s.read.1 ∙ ap (λ (x : Hears). x.bits) same)

    held_now : EndsHeld seats low begin t held bits reported
    held_now =
        subst (λ x. EndsHeld seats low begin t held bits x) (sym (k.reported_is ∙ reported_heard low t))
        (subst (λ (bs : List Bool). EndsHeld seats low begin t held bs (hear_in t (was_low low t) (low t) h).reported) bits_are
        (subst (λ n. EndsHeld seats low begin t n h.bits (hear_in t (was_low low t) (low t) h).reported) held_is
        (subst (λ n. EndsHeld seats low n t (held_in seats h.place h.fall h.bits) h.bits (hear_in t (was_low low t) (low t) h).reported) begins
        (ends_held seats low t h.place h.begin h.fall h.bits begin (stands_at low t) runs))))

    by_told : (x : Told) → reported ≡ x → EndsHeld seats low begin t held bits x → ends_as x ≡ Some ending → (u : ℕ) → t < u → IsHeld seats low begin u (held_from seats bits reported held t)
    by_told Nothing e q n = cc
    by_told (Bit slot value) e q n = cc
    by_told (Last value x) e q n = subst (λ y. (u : ℕ) → t < u → IsHeld seats low begin u (held_from seats bits y held t)) (sym e) q
    by_told (Ended x) e q n = subst (λ y. (u : ℕ) → t < u → IsHeld seats low begin u (held_from seats bits y held t)) (sym e) q

-- and the wire stands a microsecond later
pub tick_over : (seats : List Seat) (begin : ℕ) (r new : Receiver) (reported : Told) (senders news : List (Option Sender)) (bits : List Bool) (held : ℕ) (low : ℕ → Bool) (t : ℕ) (ending : Ending)
    → IsAt seats begin r senders bits None held low t → Ticked seats begin r new reported senders news low t → ends_as reported ≡ Some ending
    → IsAt seats begin new news (bits ++ bits_in reported) (Some (record { ending = ending; at = t; until = until_by r None t })) (held_from seats bits reported held t) low (t + 1)
tick_over seats begin r new reported senders news bits held low t ending s k ends = record {
  from = omega (arith, s.from);
  once = s.once;
  stood = record { keeps = k.stands.keeps ∙ ap (λ m. kept_before low m) (let x : suc t ≡ t + 1 = omega arith in x); level = k.stands.level.0 ∙ sym (was_now low t) };
  whose = k.whose;
  sending = sent_on seats begin r new reported senders news low t s.once s.from s.sending k reported refl;
  read = (
    omega (arith, e.0),
    ap (λ x. end_by x t (until_by r None t)) (sym e.1) ∙ ap (λ n. end_by (reading_of low begin).ending n (until_by r None t)) (sym e.0) ∙ ap (λ n. end_by (reading_of low begin).ending (reading_of low begin).at n) (sym e.2),
    e.3,
    λ u l. over_held seats begin r new reported senders news bits held low t ending s k ends u (omega (arith, l)),
  );
}
  where
    end_by : Ending → ℕ → ℕ → End
    end_by x at until = record { ending = x; at = at; until = until }

    e : ((reading_of low begin).at ≡ t) × ((reading_of low begin).ending ≡ ending) × ((reading_of low begin).until ≡ until_by r None t) × (bits ++ bits_in reported ≡ bits_of (reading_of low begin))
    e = tick_ends seats begin r new reported senders news bits held low t ending s k ends

-- Once it has ended, no tick changes more than where the receiver stands.
pub tick_after : (seats : List Seat) (begin : ℕ) (r new : Receiver) (senders : List (Option Sender)) (bits : List Bool) (end : End) (held : ℕ) (low : ℕ → Bool) (t : ℕ)
    → IsAt seats begin r senders bits (Some end) held low t → StandsOn new low t → IsAt seats begin new senders bits (Some end) held low (t + 1)
tick_after seats begin r new senders bits end held low t s k = record {
  from = omega (arith, s.from);
  once = s.once;
  stood = record { keeps = k.keeps ∙ ap (λ m. kept_before low m) (let x : suc t ≡ t + 1 = omega arith in x); level = k.level.0 ∙ sym (was_now low t) };
  whose = s.whose;
  sending = all_later low begin t (t + 1) senders s.once (omega (arith, s.from)) (omega arith) (silent_one low t (nothing_after low begin t s.once s.from s.read.0)) s.sending;
  read = (omega (arith, s.read.0), s.read.1, s.read.2, λ u l. s.read.3 u (omega (arith, l)));
}
  where
    nothing_after : (line : Line) (b n : ℕ) → IsReadOnce line b → b < n → (reading_of line b).at < n → reported_at line n ≡ Nothing
    nothing_after line b zero once from past = refl
    nothing_after line b (suc n) once from past = ap (reported_in line (suc n)) (runs_after line b n once (omega (arith, from)) (omega (arith, past)))
