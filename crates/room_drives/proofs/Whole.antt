-- The drives of a round are the lines of its rule.
use Rattle.std.proofs.Common.{◌≡◌, ℕ, zero, suc, ◌+◌, ◌-◌, ◌==◌, ◌<◌, ◌≤◌, Bool, true, false, not, nat_lt, ◌&&◌, ◌||◌, nat_le, if◌then◌else◌, List, [], ◌∷◌, ◌++◌, map, slice_get, inl, inr, Option, Some, None, refl, arith, ap, ap₂, ◌∙◌, sym, subst}
use Rattle.std.specs.List.{list_any, cons_option}
use Rattle.std.proofs.lemmas.Bool.{and_parts, cases_lt, or_cases}
use Rattle.std.proofs.lemmas.Bool.Decides.{nat_tests}
use Rattle.line_wave.specs.declared.Stretch.{Stretch}
use Rattle.line_wave.specs.Line.{Line, covers, line_of, was_low, IsWave}
use Rattle.line_reading.specs.Reading.{End, Read, known_at, reading_of, start_of}
use Rattle.line_rounds.specs.declared.Loser.{Loser}
use Rattle.line_rounds.specs.declared.Seat.{Seat}
use Rattle.line_rounds.specs.declared.Outcome.{Outcome}
use Rattle.line_rounds.specs.Bounds.{begun_within}
use Rattle.line_reading.specs.Sending.{sender_pulls}
use Rattle.line_rounds.specs.Round.{frames_of, is_acknowledged, is_broken, is_within, lost_at, losers_from, out_in, out_of, pulse_pulls, IsRoundLine}
use Rattle.line_rounds.proofs.Afterwards.{no_fall_after}
use Rattle.line_rounds.proofs.Lasting.{begun_by, contended, low_at_begin}
use Rattle.line_rounds.proofs.Still.{high_before}
use Rattle.room_drives.specs.Drives.{AreOfPulses, AreOfSeats, DrivesAreRuled, DrivesAreTheLine, IsBegunRound, drives_of, end_of, low_before, pulse_line, seat_line}
use Rattle.room_drives.specs.Stretches.{ack_stretches, break_stretches, drives_from, fall_by, seat_stretches_by, sent_stretches, slot_fall}
use Rattle.room_drives.proofs.Driven.{lines_are_driven}
use Rattle.room_drives.proofs.Acks.{ack_line, any_append}
use Rattle.room_drives.proofs.Pulses.{covers_own, pulses_line}
use Rattle.room_drives.proofs.Seats.{IsTimely, Reports, break_line, may_fall, sent_line}
use Rattle.room_drives.proofs.Slots.{falls_at, slots_fall}
use Rattle.line_wave.proofs.Waves.{quiet}

-- ---- the first stretch begins with the round

first_begin : (ss : List Stretch) (begin : ℕ) → IsWave ss → line_of ss begin ≡ true → ((u : ℕ) → u < begin → line_of ss u ≡ false)
    → (s : Stretch) × (rest : List Stretch) × (ss ≡ s ∷ rest) × (s.from ≡ begin)
first_begin [] begin w l h = cc
first_begin (s ∷ rest) begin w l h = (
  s,
  rest,
  refl,
  elim (cases_lt begin s.from) [
    | inl early ↦ (let no = quiet (s ∷ rest) s.from begin (omega arith, w.1, w.2) early in cc)
    | inr le ↦ elim (cases_lt s.from begin) [
      | inl late ↦ (let is : covers s s.from ≡ true = covers_own s s.from (omega arith) w.1 in let no = h s.from late in let yes : line_of (s ∷ rest) s.from ≡ true = rw is refl in cc)
      | inr ge ↦ omega arith
    ]
  ],
)

-- ---- what an outcome reports

reports_by : (wave : List Stretch) (begin : ℕ) (o : Outcome) (s : Stretch) (rest : List Stretch) → o.wave ≡ wave → wave ≡ s ∷ rest → s.from ≡ begin → IsWave (s ∷ rest)
    → o.reading.at ≡ (reading_of (line_of wave) begin).at → (n : ℕ) → 1 ≤ n → slot_fall o n ≡ falls_at (reading_of (line_of wave) begin).slots (n - 1)
reports_by wave begin o s rest own same first w at zero some = absurd (omega arith)
reports_by wave begin o s rest own same first w at (suc k) some =
    let less : suc k - 1 ≡ k = omega arith in
    ap₂ (λ n (ss : List Stretch). fall_by n (slice_get ss (suc k))) at (own ∙ same)
    ∙ subst (λ b. fall_by (reading_of (line_of wave) b).at (slice_get rest k) ≡ falls_at (reading_of (line_of wave) b).slots k) first
    (subst (λ (ss : List Stretch). fall_by (reading_of (line_of ss) s.from).at (slice_get rest k) ≡ falls_at (reading_of (line_of ss) s.from).slots k) (sym same) (sym (slots_fall s rest 0 w k)))
    ∙ ap (falls_at (reading_of (line_of wave) begin).slots) (sym less)

-- ---- seat by seat

-- where one of those who send would pull by its frame, the line is low exactly where it may
timely : (seats : List Seat) (begin : ℕ) (pulses : List Stretch) (low : Line) → IsRoundLine seats begin pulses low → (t : ℕ)
    → list_any (sender_pulls begin (known_at t (reading_of low begin)) t) (frames_of seats) ≡ true → low t ≡ may_fall low begin t
timely seats begin pulses low line t sends = by (may_fall low begin t) refl
  where
    pulled : (a p w c : Bool) → p ≡ true → w ≡ true → (a || ((p && w) || c)) ≡ true
    pulled true p w c x y = refl
    pulled false true true c x y = refl
    pulled false true false c x y = cc
    pulled false false w c x y = cc

    within_not : (b w : Bool) → (is_within (if b then (let some : Option End = Some (record { ending = (reading_of low begin).ending; at = (reading_of low begin).at; until = (reading_of low begin).until }) in some) else None) t || w) ≡ false → b ≡ true
    within_not true w h = refl
    within_not false w h = cc

    was_not : (a w : Bool) → (a || w) ≡ false → w ≡ false
    was_not true w h = cc
    was_not false w h = h

    by : (b : Bool) → may_fall low begin t ≡ b → low t ≡ b
    by true e =
        line t ∙ pulled (list_any (pulse_pulls begin (known_at t (reading_of low begin)).ended (was_low low t) t) pulses) (list_any (sender_pulls begin (known_at t (reading_of low begin)) t) (frames_of seats)) (may_fall low begin t)
        (is_acknowledged seats (known_at t (reading_of low begin)) t || is_broken seats (known_at t (reading_of low begin)) t (known_at t (reading_of low begin)).ended) sends e
    by false e =
        let over : nat_lt (reading_of low begin).until t ≡ true = within_not (nat_lt (reading_of low begin).until t) (was_low low t) e in
        let past : (reading_of low begin).until < t = grind (arith, nat_tests) in
        let high = was_not (is_within (known_at t (reading_of low begin)).ended t) (was_low low t) e in
        level (low t) (was_low low t) high (no_fall_after seats begin pulses low line t past)
      where
        level : (a w : Bool) → w ≡ false → (a && not w) ≡ false → a ≡ false
        level false w x y = refl
        level true false x y = cc
        level true true x y = cc

seat_same : (low : Line) (begin t : ℕ) (o : Outcome) → Reports low begin o → (seat : Seat) → IsTimely low begin t seat.sends
    → line_of (seat_stretches_by begin o seat (out_of (reading_of low begin) seat.sends)) t ≡ seat_line begin low seat t
seat_same low begin t o reports seat now =
    let out = out_of (reading_of low begin) seat.sends in
    any_append (λ s. covers s t) (sent_stretches begin o out seat.sends) (ack_stretches o seat out ++ break_stretches o seat out)
    ∙ ap₂ (λ a b. a || b) (sent_line low begin t o reports seat.sends now)
    (any_append (λ s. covers s t) (ack_stretches o seat out) (break_stretches o seat out) ∙ ap₂ (λ a b. a || b) (ack_line low begin t o reports seat) (break_line low begin t o reports seat))

-- the losers after place n have greater places
later_losers : (r : Read) (n k : ℕ) (seats : List Seat) → k < n → out_in (losers_from r n seats) k ≡ None
later_losers r n k [] h = refl
later_losers r n k (s ∷ ss) h = by_out (out_of r s.sends) (later_losers r (n + 1) k ss (omega arith))
  where
    by_out : (o : Option ℕ) → out_in (losers_from r (n + 1) ss) k ≡ None → out_in (lost_at n o ++ losers_from r (n + 1) ss) k ≡ None
    by_out None e = e
    by_out (Some slot) e = let x : (n == k) ≡ false = grind (arith, nat_tests) in ap (λ b. if b then Some slot else out_in (losers_from r (n + 1) ss) k) x ∙ e

out_found : (r : Read) (n k m : ℕ) (seats : List Seat) (s : Seat) → m ≡ n + k → slice_get seats k ≡ Some s → out_in (losers_from r n seats) m ≡ out_of r s.sends
out_found r n k m [] s e h = cc
out_found r n zero m (x ∷ ss) s e h =
    let same : x ≡ s = cc in
    by_out (out_of r x.sends) (later_losers r (n + 1) m ss (omega arith)) ∙ ap (λ (y : Seat). out_of r y.sends) same
  where
    by_out : (o : Option ℕ) → out_in (losers_from r (n + 1) ss) m ≡ None → out_in (lost_at n o ++ losers_from r (n + 1) ss) m ≡ o
    by_out None q = q
    by_out (Some slot) q = let y : (n == m) ≡ true = grind (arith, nat_tests) in ap (λ b. if b then Some slot else out_in (losers_from r (n + 1) ss) m) y
out_found r n (suc k) m (x ∷ ss) s e h = by_out (out_of r x.sends) (out_found r (n + 1) k m ss s (omega arith) h)
  where
    by_out : (o : Option ℕ) → out_in (losers_from r (n + 1) ss) m ≡ out_of r s.sends → out_in (lost_at n o ++ losers_from r (n + 1) ss) m ≡ out_of r s.sends
    by_out None q = q
    by_out (Some slot) q = let y : (n == m) ≡ false = grind (arith, nat_tests) in ap (λ b. if b then Some slot else out_in (losers_from r (n + 1) ss) m) y ∙ q

-- of each seat
seats_same : (low : Line) (begin t : ℕ) (o : Outcome) → Reports low begin o → (n : ℕ) (seats : List Seat)
    → ((k : ℕ) (s : Seat) → slice_get seats k ≡ Some s → (out_in o.losers.items (n + k) ≡ out_of (reading_of low begin) s.sends) × IsTimely low begin t s.sends)
    → map (λ ss. line_of ss t) (drives_from begin o n seats) ≡ map (λ seat. seat_line begin low seat t) seats
seats_same low begin t o reports n [] outs = refl
seats_same low begin t o reports n (seat ∷ seats) outs =
    let first : out_in o.losers.items n ≡ out_of (reading_of low begin) seat.sends = ap (out_in o.losers.items) (let e : n ≡ n + 0 = omega arith in e) ∙ (outs 0 seat refl).0 in
    ap₂ (λ a (bs : List Bool). a ∷ bs) (ap (λ out. line_of (seat_stretches_by begin o seat out) t) first ∙ seat_same low begin t o reports seat (outs 0 seat refl).1)
    (seats_same low begin t o reports (n + 1) seats (λ k s h. (ap (out_in o.losers.items) (let e : n + 1 + k ≡ n + suc k = omega arith in e) ∙ (outs (suc k) s h).0, (outs (suc k) s h).1)))

-- what one seat sends is among what all send
sent_among : (test : List ℕ → Bool) (k : ℕ) (seats : List Seat) (s : Seat) → slice_get seats k ≡ Some s → list_any test (frames_of (s ∷ [])) ≡ true → list_any test (frames_of seats) ≡ true
sent_among test k [] s h e = cc
sent_among test zero (x ∷ ss) s h e =
    let same : x ≡ s = cc in
    subst (λ (y : Seat). list_any test (frames_of (y ∷ ss)) ≡ true) (sym same) (by s.sends e)
  where
    by : (o : Option (List ℕ)) → list_any test (cons_option o []) ≡ true → list_any test (cons_option o (frames_of ss)) ≡ true
    by None q = cc
    by (Some f) q = by_first (test f) q
      where
        by_first : (b : Bool) → (b || false) ≡ true → (b || list_any test (frames_of ss)) ≡ true
        by_first true r = refl
        by_first false r = cc
sent_among test (suc k) (x ∷ ss) s h e = by x.sends (sent_among test k ss s h e)
  where
    by : (o : Option (List ℕ)) → list_any test (frames_of ss) ≡ true → list_any test (cons_option o (frames_of ss)) ≡ true
    by None q = q
    by (Some f) q = rw q (or_true (test f))
      where
        or_true : (b : Bool) → (b || true) ≡ true
        or_true true = refl
        or_true false = refl

-- ---- what the seats drive

pub seats_drive : (seats : List Seat) (begin : ℕ) (pulses : List Stretch) (o : Outcome) → IsBegunRound seats begin pulses o
    → (t : ℕ) → map (λ ss. line_of ss t) (drives_from begin o 0 seats) ≡ map (λ seat. seat_line begin (line_of o.wave) seat t) seats
seats_drive seats begin pulses o is t =
    let b = begun_by (line_of o.wave) begin (start_of (line_of o.wave) begin) refl in
    let starts : line_of o.wave begin ≡ true = low_at_begin seats begin pulses (line_of o.wave) is.order (contended seats begin pulses (line_of o.wave) is.round.line) b.reports is.begun in
    let first = first_begin o.wave begin is.wave starts (high_before seats begin pulses (line_of o.wave) is.round.line) in
    let reports : Reports (line_of o.wave) begin o = record {
      at = is.round.ends;
      ending = is.round.ending;
      bits = is.round.bits;
      slots = reports_by o.wave begin o first.0 first.1 refl first.2 first.3 (subst IsWave first.2 is.wave) is.round.ends;
      level = ap (line_of o.wave) is.round.ends;
      past = omega (arith, b.ends);
    } in
    seats_same (line_of o.wave) begin t o reports 0 seats
    (λ k s h. (
      ap (λ (ls : List Loser). out_in ls (0 + k)) is.round.losers ∙ out_found (reading_of (line_of o.wave) begin) 0 k (0 + k) seats s refl h,
      λ e. timely seats begin pulses (line_of o.wave) is.round.line t
          (sent_among (sender_pulls begin (known_at t (reading_of (line_of o.wave) begin)) t) k seats s h e),
    ))

pub of_seats : (seats : List Seat) (begin : ℕ) (o : Outcome) (drives : List (List Stretch)) → drives ≡ drives_from begin o 0 seats → AreOfSeats seats begin o drives
of_seats seats begin o drives made pulses is t = ap (map (λ ss. line_of ss t)) made ∙ seats_drive seats begin pulses o is t

pub of_pulses : (begin : ℕ) (pulses : List Stretch) (rest : ℕ) (begun : List Stretch) → begun ≡ begun_within begin rest pulses → AreOfPulses begin pulses rest begun
of_pulses begin pulses rest begun made seats o same is t =
    ap (λ (ss : List Stretch). line_of ss t) (made ∙ ap (λ n. begun_within begin n pulses) (sym same)) ∙ sym (pulses_line seats begin pulses o is.order is.wave is.round t)

-- ---- the same by the rule alone

-- low microseconds before an instant are those of the line
level : (low : Line) (n t : ℕ) → line_of (low_before low n) t ≡ (nat_lt t n && low t)
unfolding low_before
level low zero t = let none : nat_lt t 0 ≡ false = grind (arith, nat_tests) in sym (ap (λ b. b && low t) none)
level low (suc n) t = by (low n) refl (level low n t)
  where
    piece : Stretch
    piece = record { from = n; to = suc n }

    here : (b : Bool) → low n ≡ b → t ≡ n → low t ≡ b
    here b e same = ap low same ∙ e

    by : (b : Bool) → low n ≡ b → line_of (low_before low n) t ≡ (nat_lt t n && low t) → line_of (if b then piece ∷ low_before low n else low_before low n) t ≡ (nat_lt t (suc n) && low t)
    by b e rest = elim (cases_lt t n) [
      | inl lt ↦ before b rest lt
      | inr ge ↦ elim (cases_lt n t) [ inl gt ↦ after b rest gt | inr le ↦ there b e rest (omega (arith, ge, le)) ]
    ]
      where
        before : (b : Bool) → line_of (low_before low n) t ≡ (nat_lt t n && low t) → t < n → line_of (if b then piece ∷ low_before low n else low_before low n) t ≡ (nat_lt t (suc n) && low t)
        before true r lt =
            let no : nat_le n t ≡ false = grind (arith, nat_tests) in
            let a : nat_lt t n ≡ true = grind (arith, nat_tests) in
            let c : nat_lt t (suc n) ≡ true = grind (arith, nat_tests) in
            ap (λ x. (x && nat_lt t (suc n)) || line_of (low_before low n) t) no ∙ r ∙ ap (λ x. x && low t) (a ∙ sym c)
        before false r lt =
            let a : nat_lt t n ≡ true = grind (arith, nat_tests) in
            let c : nat_lt t (suc n) ≡ true = grind (arith, nat_tests) in
            r ∙ ap (λ x. x && low t) (a ∙ sym c)

        after : (b : Bool) → line_of (low_before low n) t ≡ (nat_lt t n && low t) → n < t → line_of (if b then piece ∷ low_before low n else low_before low n) t ≡ (nat_lt t (suc n) && low t)
        after true r gt =
            let a : nat_lt t n ≡ false = grind (arith, nat_tests) in
            let c : nat_lt t (suc n) ≡ false = grind (arith, nat_tests) in
            let yes : nat_le n t ≡ true = grind (arith, nat_tests) in
            ap₂ (λ x y. (x && y) || line_of (low_before low n) t) yes c ∙ r ∙ ap (λ x. x && low t) (a ∙ sym c)
        after false r gt =
            let a : nat_lt t n ≡ false = grind (arith, nat_tests) in
            let c : nat_lt t (suc n) ≡ false = grind (arith, nat_tests) in
            r ∙ ap (λ x. x && low t) (a ∙ sym c)

        there : (b : Bool) → low n ≡ b → line_of (low_before low n) t ≡ (nat_lt t n && low t) → t ≡ n → line_of (if b then piece ∷ low_before low n else low_before low n) t ≡ (nat_lt t (suc n) && low t)
        there true e r same =
            let yes : nat_le n t ≡ true = grind (arith, nat_tests) in
            let c : nat_lt t (suc n) ≡ true = grind (arith, nat_tests) in
            ap₂ (λ x y. (x && y) || line_of (low_before low n) t) yes c ∙ sym (ap₂ (λ x y. x && y) c (here true e same))
        there false e r same =
            let a : nat_lt t n ≡ false = grind (arith, nat_tests) in
            let c : nat_lt t (suc n) ≡ true = grind (arith, nat_tests) in
            r ∙ ap (λ x. x && low t) a ∙ sym (ap₂ (λ x y. x && y) c (here false e same))

-- so they are all of a line that is high from then on
all_of : (low : Line) (n t : ℕ) → (low t ≡ true → t < n) → line_of (low_before low n) t ≡ low t
all_of low n t over = level low n t ∙ by (low t) refl
  where
    none : (b : Bool) → (b && false) ≡ false
    none true = refl
    none false = refl

    by : (b : Bool) → low t ≡ b → (nat_lt t n && low t) ≡ low t
    by true e = let l = over e in let soon : nat_lt t n ≡ true = grind (arith, nat_tests) in ap (λ x. x && low t) soon
    by false e = ap (λ x. nat_lt t n && x) e ∙ none (nat_lt t n) ∙ sym e

-- stretches are high from their end on
ends : (ss : List Stretch) (t : ℕ) → line_of ss t ≡ true → t < end_of ss
ends [] t h = cc
ends (s ∷ ss) t h = elim (or_cases (covers s t) (line_of ss t) h) [
  | inl here ↦ (let e = (and_parts (nat_le s.from t) (nat_lt t s.to) here).1 in let l : t < s.to = grind (arith, nat_tests) in omega (arith, l))
  | inr later ↦ (let l = ends ss t later in omega (arith, l))
]

or_second : (a b : Bool) → b ≡ true → (a || b) ≡ true
or_second true b h = refl
or_second false b h = h

or_first : (a b : Bool) → a ≡ true → (a || b) ≡ true
or_first true b h = refl
or_first false b h = cc

-- each drive is its line's
ruled : (begin t : ℕ) (o : Outcome) (rest : List (List Stretch)) (seats : List Seat) → (list_any (λ seat. seat_line begin (line_of o.wave) seat t) seats ≡ true → t < end_of o.wave)
    → map (λ ss. line_of ss t) (map (λ seat. low_before (seat_line begin (line_of o.wave) seat) (end_of o.wave)) seats ++ rest)
    ≡ map (λ seat. seat_line begin (line_of o.wave) seat t) seats ++ map (λ ss. line_of ss t) rest
ruled begin t o rest [] over = refl
ruled begin t o rest (seat ∷ seats) over =
    let here = seat_line begin (line_of o.wave) seat in
    let others = list_any (λ (x : Seat). seat_line begin (line_of o.wave) x t) seats in
    ap₂ (λ a (bs : List Bool). a ∷ bs) (all_of here (end_of o.wave) t (λ e. over (or_first (here t) others e)))
    (ruled begin t o rest seats (λ e. over (or_second (here t) others e)))

pub drives_are_ruled : DrivesAreRuled
drives_are_ruled seats begin pulses o wave round t =
    let pulse = pulse_line begin pulses (line_of o.wave) in
    let any = list_any (λ (seat : Seat). seat_line begin (line_of o.wave) seat t) seats in
    let line = lines_are_driven seats begin pulses (line_of o.wave) round.line t in
    ruled begin t o (low_before pulse (end_of o.wave) ∷ []) seats (λ e. ends o.wave t (line ∙ or_second (pulse t) any e))
    ∙ ap (λ b. map (λ seat. seat_line begin (line_of o.wave) seat t) seats ++ b ∷ []) (all_of pulse (end_of o.wave) t (λ e. ends o.wave t (line ∙ or_first (pulse t) any e)))

-- ---- the whole line

-- one of some values is low, by the list of whether each is
any_of : {X : Type 0} (test : X → Bool) (xs : List X) → list_any test xs ≡ list_any (λ b. b) (map test xs)
any_of test [] = refl
any_of test (x ∷ xs) = ap (λ b. test x || b) (any_of test xs)

pub drives_are_the_line : DrivesAreTheLine
drives_are_the_line seats begin pulses o wave round t =
    lines_are_driven seats begin pulses (line_of o.wave) round.line t
    ∙ turned (pulse_line begin pulses (line_of o.wave) t) (list_any (λ seat. seat_line begin (line_of o.wave) seat t) seats)
    ∙ ap (λ b. b || (pulse_line begin pulses (line_of o.wave) t || false)) (any_of (λ seat. seat_line begin (line_of o.wave) seat t) seats)
    ∙ sym (any_append (λ b. b) (map (λ seat. seat_line begin (line_of o.wave) seat t) seats) (pulse_line begin pulses (line_of o.wave) t ∷ []))
    ∙ ap (list_any (λ b. b)) (sym (drives_are_ruled seats begin pulses o wave round t))
    ∙ sym (any_of (λ ss. line_of ss t) (drives_of seats begin pulses o))
  where
    turned : (a b : Bool) → (a || b) ≡ (b || (a || false))
    turned true true = refl
    turned true false = refl
    turned false true = refl
    turned false false = refl
