-- The line of a whole run is read round by round.
use Rattle.std.proofs.Common.{◌≡◌, ℕ, ◌+◌, ◌-◌, ◌==◌, ◌<◌, ◌≤◌, Bool, true, false, ◌||◌, nat_lt, min, map, List, [], ◌∷◌, ◌++◌, ◌⊎◌, inl, inr, slice_get, Option, Some, None, IfSome, is_some, refl, sym, ap, ◌∙◌, subst, arith}
use Rattle.std.specs.List.{list_any, cons_option}
use Rattle.std.proofs.lemmas.Bool.{cases_lt}
use Rattle.std.proofs.lemmas.Bool.Decides.{nat_tests}
use Rattle.std.proofs.lemmas.List.Folds.{list_any-append}
use Rattle.line_wave.specs.declared.Stretch.{Stretch}
use Rattle.line_wave.specs.Line.{line_of, covers, IsWave, IsWaveFrom}
use Rattle.line_wave.proofs.Kept.{wave_filter}
use Rattle.line_reading.specs.Windows.{standard}
use Rattle.line_reading.specs.Reading.{reading_of}
use Rattle.line_reading.specs.Readings.{readings_of, Part, part_until, part_listed, IsLone, ComesBefore, AreInOrder, whole_wave, AreOverBy}
use Rattle.line_reading.proofs.Parts.{parts_read}
use Rattle.line_reading.proofs.Ends.{at_by, until_by, begin_by}
use Rattle.line_rounds.specs.declared.Seat.{Seat}
use Rattle.line_rounds.specs.declared.Outcome.{Outcome}
use Rattle.line_rounds.specs.Round.{frames_of, close_in}
use Rattle.line_rounds.specs.Lasting.{is_begun}
use Rattle.line_rounds.specs.Alone.{part_of, outcome_listed}
use Rattle.line_rounds.specs.Elements.{In}
use Rattle.line_rounds.proofs.Alone.{rounds_are_lone}
use Rattle.room_event.specs.declared.event.Event.{Event}
use Rattle.room_net.specs.Start.{sooner, least_start, first_onset}
use Rattle.room_net.specs.State.{NetState, next_start}
use Rattle.room_net.specs.Apply.{net_after}
use Rattle.room_net.specs.Step.{seat_of, seats_of, after_round}
use Rattle.room_net.specs.Progress.{LeastIsLed, RoundsAreBegun}
use Rattle.room_net.specs.Line.{Move, Happens, Goes, GoesFrom, Moves, rounds_of, run_wave, ComesAfter, AreFollowing, RunsAreInOrder, RunsAreOver, RunsAreRead, RunsAreWaves}
use Rattle.room_net.specs.Framed.{AreFramed}
use Rattle.room_net.proofs.Framed.{framed-applied, framed-round, seats_fit}
use Rattle.room_net.proofs.Kept.{event_keeps}
use Rattle.room_net.proofs.Progress.{or_true, true_or, wave-weaker, Led, led}
use Rattle.room_net.proofs.Lists.{all_in, in_filter}

-- ---- what begins a round

-- a device does, the signal free time after the rest, or the next pulse
Cause : NetState → ℕ → Type 0
Cause s begin = Led s.rest begin s.devices ⊎ ((p : Stretch) × (ps : List Stretch) × (s.pulses ≡ p ∷ ps) × (p.from ≡ begin))

-- no pulse comes before
NoSooner : ℕ → List Stretch → Type 0
NoSooner begin [] = Unit {0}
NoSooner begin (p ∷ ps) = begin ≤ p.from

cause : (s : NetState) (begin : ℕ) → next_start s ≡ Some begin → Cause s begin × NoSooner begin s.pulses
unfolding Cause NoSooner
cause s begin next = by_cause (least_start s.rest s.devices) s.pulses refl refl next
  where
    first : (p : Stretch) (ps : List Stretch) → s.pulses ≡ p ∷ ps → begin ≤ p.from → NoSooner begin s.pulses
    first p ps e l = subst (NoSooner begin) (sym e) l

    none : s.pulses ≡ [] → NoSooner begin s.pulses
    none e = subst (NoSooner begin) (sym e) tt

    by_cause : (least : Option ℕ) (ps : List Stretch) → least_start s.rest s.devices ≡ least → s.pulses ≡ ps → sooner least (first_onset ps) ≡ Some begin → Cause s begin × NoSooner begin s.pulses
    by_cause None [] a b k = cc
    by_cause None (p ∷ ps) a b k = let e : p.from ≡ begin = cc in (inr (p, ps, b, e), first p ps b (omega (arith, e)))
    by_cause (Some t) [] a b k = (inl (led s.rest begin s.devices (a ∙ k)), none b)
    by_cause (Some t) (p ∷ ps) a b k =
        let e : min t p.from ≡ begin = cc in
        elim (cases_lt p.from t) [
          | inl lt ↦ (inr (p, ps, b, omega arith), first p ps b (omega arith))
          | inr ge ↦ (inl (led s.rest begin s.devices (a ∙ ap Some (let f : t ≡ begin = omega arith in f))), first p ps b (omega arith))
        ]

sends_any : (seats : List Seat) (f : List ℕ) → In f (frames_of seats) → list_any (λ (s : Seat). is_some s.sends) seats ≡ true
sends_any [] f i = absurd i
sends_any (s ∷ seats) f i = by_frame (λ k. sends_any seats f k) s.sends i
  where
    by_frame : (In f (frames_of seats) → list_any (λ (x : Seat). is_some x.sends) seats ≡ true) → (o : Option (List ℕ)) → In f (cons_option o (frames_of seats)) → (is_some o || list_any (λ (x : Seat). is_some x.sends) seats) ≡ true
    by_frame later None k = later k
    by_frame later (Some g) k = refl

-- who sends at the least start
pub least_led : LeastIsLed
least_led rest t xs h = let l = led rest t xs h in record { late = l.late; sends = sends_any (map (seat_of rest t) xs) l.frame l.sent }

pub begun : RoundsAreBegun
unfolding Cause NoSooner
begun s begin next = by_cause (cause s begin next).0
  where
    by_cause : Cause s begin → is_begun (seats_of s begin) begin s.pulses ≡ true
    by_cause (inl l) = true_or _ _ (sends_any (seats_of s begin) l.frame l.sent)
    by_cause (inr q) =
        let e : (q.0.from == begin) ≡ true = (let x : q.0.from ≡ begin = q.3 in grind (arith, nat_tests)) in
        let first : list_any (λ (p : Stretch). p.from == begin) (q.0 ∷ q.1) ≡ true = rw e refl in
        or_true (list_any (λ (x : Seat). is_some x.sends) (seats_of s begin)) (list_any (λ (p : Stretch). p.from == begin) s.pulses)
        (ap (list_any (λ (p : Stretch). p.from == begin)) q.2 ∙ first)

-- no pulse begins before it
pub late_start : (s : NetState) (begin : ℕ) → next_start s ≡ Some begin → IfSome (slice_get s.pulses 0) (λ p. begin ≤ p.from)
unfolding NoSooner
late_start s begin next = by_pulses s.pulses (cause s begin next).1
  where
    by_pulses : (ps : List Stretch) → NoSooner begin ps → IfSome (slice_get ps 0) (λ p. begin ≤ p.from)
    by_pulses [] h = tt
    by_pulses (p ∷ ps) h = h

-- ---- pulls are in order

all_from : (begin from : ℕ) (ps : List Stretch) → begin ≤ from → IsWaveFrom from ps → (q : Stretch) → In q ps → begin ≤ q.from
all_from begin from [] l w q i = absurd i
all_from begin from (p ∷ ps) l w q (inl e) = let x : q.from ≡ p.from = ap (λ (y : Stretch). y.from) e in omega (arith, l, w.0, x)
all_from begin from (p ∷ ps) l w q (inr i) = all_from begin (p.to + 1) ps (omega (arith, l, w.0, w.1)) w.2 q i

later_from : (begin : ℕ) (ps : List Stretch) → IsWave ps → NoSooner begin ps → (q : Stretch) → In q ps → begin ≤ q.from
unfolding NoSooner
later_from begin [] w n q i = absurd i
later_from begin (p ∷ ps) w n q i = all_from begin begin (p ∷ ps) (omega arith) (n, w.1, w.2) q i

-- no pulse begins before the next round
pub begins_by : (s : NetState) (begin : ℕ) → IsWave s.pulses → next_start s ≡ Some begin → (q : Stretch) → In q s.pulses → begin ≤ q.from
begins_by s begin wave next q i = later_from begin s.pulses wave (cause s begin next).1 q i

-- ---- after a round

-- the round of this part is over: where the state stands, and each pulse that is left, comes after it
record IsPast (p : Part) (s : NetState) : Type 0 where
  rest : p.rest ≤ s.rest
  soon : part_until p ≤ s.rest + standard.start_total.most
  pulses : (q : Stretch) → In q s.pulses → (p.rest < q.from) × (part_until p < q.from)

past_after : (s : NetState) (begin : ℕ) (o : Outcome) → IsWave s.pulses → GoesFrom s begin o → IsPast (part_of o) (after_round s begin o)
past_after s begin o wave g = record {
  rest = omega arith;
  soon = rounds_are_lone.soon (seats_of s begin) begin s.pulses o wave g.wave g.round (begun s begin g.begins);
  pulses = λ q i. each q (in_filter (λ p. nat_lt o.rest p.from) s.pulses q i);
}
  where
    each : (q : Stretch) → In q s.pulses × (nat_lt o.rest q.from ≡ true) → ((part_of o).rest < q.from) × (part_until (part_of o) < q.from)
    each q h =
        let t : nat_lt o.rest q.from ≡ true = h.1 in
        let l : o.rest < q.from = grind (arith, nat_tests) in
        let b : begin ≤ q.from = later_from begin s.pulses wave (cause s begin g.begins).1 q h.0 in (
          l,
          all_in (λ p. begin ≤ p.from → o.rest < p.from → part_until (part_of o) < p.from) s.pulses
              (rounds_are_lone.taken (seats_of s begin) begin s.pulses o wave g.wave g.round) q h.0 b l,
        )

-- the next round begins after it
next_past : (p : Part) (s : NetState) (begin : ℕ) → IsPast p s → next_start s ≡ Some begin → (p.rest < begin) × (part_until p < begin)
unfolding Cause NoSooner
next_past p s begin past next = by_cause (cause s begin next).0
  where
    by_cause : Cause s begin → (p.rest < begin) × (part_until p < begin)
    by_cause (inl l) = (omega (arith, past.rest, l.late), omega (arith, past.soon, l.late))
    by_cause (inr q) =
        let i : In q.0 s.pulses = subst (In q.0) (sym q.2) (inl refl) in
        let h = past.pulses q.0 i in
        let e : q.0.from ≡ begin = q.3 in
        (omega (arith, h.0, e), omega (arith, h.1, e))

-- ---- events leave pulses and rest

past_kept : (p : Part) (at : ℕ) (event : Event) (s : NetState) → IsPast p s → IsPast p (net_after at event s)
past_kept p at event s past =
    let k = event_keeps at event s (net_after at event s) refl in
    record {
      rest = omega (arith, past.rest, k.rest);
      soon = omega (arith, past.soon, k.rest);
      pulses = λ q i. past.pulses q (subst (In q) k.pulses i);
    }

pub wave_kept : (at : ℕ) (event : Event) (s : NetState) → IsWave s.pulses → IsWave (net_after at event s).pulses
wave_kept at event s h = subst (λ (ps : List Stretch). IsWave ps) (sym (event_keeps at event s (net_after at event s) refl).pulses) h

-- ---- the rounds of a run are in order

comes_before : (p : Part) (s t : NetState) (ms : List Move) → IsPast p s → Moves s ms t → ComesBefore p (map part_of (rounds_of ms))
comes_before p s t [] past m = tt
comes_before p s t (Happens at event ∷ ms) past m = comes_before p (net_after at event s) t ms (past_kept p at event s past) m.1
comes_before p s t (Goes begin o ∷ ms) past m =
    let l = next_past p s begin past m.0.begins in
    let e : o.reading.begin ≡ begin = m.0.round.starts in
    (omega (arith, l.0, e), omega (arith, l.1, e))

in_order : (s t : NetState) (ms : List Move) → IsWave s.pulses → AreFramed s → Moves s ms t → AreInOrder (map part_of (rounds_of ms))
in_order s t [] wave framed m = tt
in_order s t (Happens at event ∷ ms) wave framed m = in_order (net_after at event s) t ms (wave_kept at event s wave) (framed-applied at event s m.0 framed) m.1
in_order s t (Goes begin o ∷ ms) wave framed m = (
  rounds_are_lone.lone (seats_of s begin) begin s.pulses o (seats_fit s begin framed) wave m.0.wave m.0.round (begun s begin m.0.begins),
  comes_before (part_of o) (after_round s begin o) t ms (past_after s begin o wave m.0) m.1,
  in_order (after_round s begin o) t ms (wave_filter (λ p. nat_lt o.rest p.from) s.pulses wave) (framed-round s begin o framed) m.1,
)

-- ---- and over by the last close

-- the last part's reading has ended by then
LastBy : ℕ → List Part → Type 0
LastBy end [] = Unit {0}
LastBy end (p ∷ []) = (reading_of (line_of p.wave) p.begin).at ≤ end
LastBy end (p ∷ q ∷ ps) = LastBy end (q ∷ ps)

last_more : (end : ℕ) (p : Part) (ps : List Part) → ComesBefore p ps → AreOverBy end ps → LastBy end (p ∷ ps) → (reading_of (line_of p.wave) p.begin).at ≤ end
unfolding LastBy
last_more end p [] c o l = l
last_more end p (q ∷ ps) c o l =
    omega (arith, at_by (line_of p.wave) p.begin, c.1, begin_by (line_of q.wave) q.begin, until_by (line_of q.wave) q.begin, o.0)

last_tail : (end : ℕ) (p : Part) (ps : List Part) → LastBy end (p ∷ ps) → LastBy end ps
unfolding LastBy
last_tail end p [] l = tt
last_tail end p (q ∷ ps) l = l

over_by : (end : ℕ) (ps : List Part) → AreInOrder ps → LastBy end ps → AreOverBy end ps
over_by end [] h l = tt
over_by end (p ∷ ps) h l =
    let rest : AreOverBy end ps = over_by end ps h.2 (last_tail end p ps l) in
    (last_more end p ps h.1 rest l, rest)

last_first : (end : ℕ) (p : Part) (ps : List Part) → (ps ≡ [] → (reading_of (line_of p.wave) p.begin).at ≤ end) → LastBy end ps → LastBy end (p ∷ ps)
unfolding LastBy
last_first end p [] h l = h refl
last_first end p (q ∷ ps) h l = l

-- where no round follows, the close stays
close_stays : (s t : NetState) (ms : List Move) → Moves s ms t → map part_of (rounds_of ms) ≡ [] → t.close ≡ s.close
close_stays s t [] m e = ap (λ (x : NetState). x.close) m
close_stays s t (Happens at event ∷ ms) m e = close_stays (net_after at event s) t ms m.1 e ∙ (event_keeps at event s (net_after at event s) refl).close
close_stays s t (Goes begin o ∷ ms) m e = cc

last_by : (s t : NetState) (ms : List Move) → Moves s ms t → LastBy t.close (map part_of (rounds_of ms))
unfolding LastBy
last_by s t [] m = tt
last_by s t (Happens at event ∷ ms) m = last_by (net_after at event s) t ms m.1
last_by s t (Goes begin o ∷ ms) m =
    last_first t.close (part_of o) (map part_of (rounds_of ms)) (λ e. omega (arith, ends, at, close e)) (last_by (after_round s begin o) t ms m.1)
  where
    ends : (reading_of (line_of o.wave) o.reading.begin).at ≡ o.reading.at
    ends = ap (λ b. (reading_of (line_of o.wave) b).at) m.0.round.starts ∙ sym m.0.round.ends

    at : o.reading.at ≤ close_in o
    at = omega arith

    close : map part_of (rounds_of ms) ≡ [] → t.close ≡ close_in o
    close e = close_stays (after_round s begin o) t ms m.1 e

later_by : (n m : ℕ) (ps : List Part) → n ≤ m → LastBy n ps → LastBy m ps
unfolding LastBy
later_by n m [] h l = tt
later_by n m (p ∷ []) h l = omega (arith, h, l)
later_by n m (p ∷ q ∷ ps) h l = later_by n m (q ∷ ps) h l

-- ---- the law

same_wave : (os : List Outcome) → whole_wave (map part_of os) ≡ run_wave os
same_wave [] = refl
same_wave (o ∷ os) = ap (λ ss. o.wave ++ ss) (same_wave os)

same_listed : (s t : NetState) (ms : List Move) → Moves s ms t → map part_listed (map part_of (rounds_of ms)) ≡ map outcome_listed (rounds_of ms)
same_listed s t [] m = refl
same_listed s t (Happens at event ∷ ms) m = same_listed (net_after at event s) t ms m.1
same_listed s t (Goes begin o ∷ ms) m =
    ap (λ x. x ∷ map part_listed (map part_of (rounds_of ms))) (rounds_are_lone.reported (seats_of s begin) begin s.pulses o m.0.round)
    ∙ ap (λ xs. outcome_listed o ∷ xs) (same_listed (after_round s begin o) t ms m.1)

pub runs_are_read : RunsAreRead
runs_are_read s t ms end wave framed m l =
    let order : AreInOrder (map part_of (rounds_of ms)) = in_order s t ms wave framed m in
    ap (λ ss. readings_of (line_of ss) end) (sym (same_wave (rounds_of ms)))
    ∙ parts_read (map part_of (rounds_of ms)) end order (over_by end (map part_of (rounds_of ms)) order (later_by t.close end (map part_of (rounds_of ms)) l (last_by s t ms m)))
    ∙ same_listed s t ms m

-- ---- the whole line is in order

-- these stretches have ended by then
abbrev EndBy : ℕ → List Stretch → Type 0
EndBy end [] = Unit {0}
EndBy end (s ∷ ss) = (s.to ≤ end) × EndBy end ss

wave_append : (a b end : ℕ) (xs ys : List Stretch) → a ≤ b → end < b → IsWaveFrom a xs → EndBy end xs → IsWaveFrom b ys → IsWaveFrom a (xs ++ ys)
wave_append a b end [] ys l m w e v = wave-weaker a b ys l v
wave_append a b end (x ∷ xs) ys l m w e v = (w.0, w.1, wave_append (x.to + 1) b end xs ys (omega (arith, e.0, m)) m w.2 e.1 v)

low_in : (s : Stretch) (ss : List Stretch) (t : ℕ) → s.from ≤ t → t < s.to → line_of (s ∷ ss) t ≡ true
low_in s ss t a b = let e : covers s t ≡ true = grind (arith, nat_tests) in rw e refl

low_later : (s : Stretch) (ss : List Stretch) (t : ℕ) → line_of ss t ≡ true → line_of (s ∷ ss) t ≡ true
low_later s ss t h = or_true (covers s t) (line_of ss t) h

ends_by : (end a : ℕ) (ss : List Stretch) → IsWaveFrom a ss → ((u : ℕ) → end ≤ u → line_of ss u ≡ false) → EndBy end ss
ends_by end a [] w h = tt
ends_by end a (s ∷ ss) w h = (
  elim (cases_lt end s.to) [
    | inl lt ↦ (let x : true ≡ false = sym (low_in s ss (s.to - 1) (omega (arith, w.1)) (omega (arith, lt))) ∙ h (s.to - 1) (omega (arith, lt)) in cc)
    | inr ge ↦ ge
  ],
  ends_by end (s.to + 1) ss w.2 (λ u l. by_low (covers s u) (line_of ss u) (h u l)),
)
  where
    by_low : (a b : Bool) → (a || b) ≡ false → b ≡ false
    by_low true b k = cc
    by_low false b k = k

-- a wave that is high before `begin` begins no sooner
wave_later : (begin : ℕ) (ss : List Stretch) → IsWave ss → ((u : ℕ) → u < begin → line_of ss u ≡ false) → IsWaveFrom begin ss
wave_later begin [] w h = tt
wave_later begin (s ∷ ss) w h = (
  elim (cases_lt s.from begin) [
    | inl lt ↦ (let x : true ≡ false = sym (low_in s ss s.from (omega arith) w.1) ∙ h s.from lt in cc)
    | inr ge ↦ ge
  ],
  w.1,
  w.2,
)

abbrev AreWaves : List Part → Type 0
AreWaves [] = Unit {0}
AreWaves (p ∷ ps) = IsWave p.wave × AreWaves ps

abbrev AtLeast : ℕ → List Part → Type 0
AtLeast a [] = Unit {0}
AtLeast a (p ∷ ps) = a ≤ p.begin

parts_wave : (a : ℕ) (ps : List Part) → AreInOrder ps → AreWaves ps → AtLeast a ps → IsWaveFrom a (whole_wave ps)
parts_wave a [] h w l = tt
parts_wave a (p ∷ ps) h w l = by_next ps h.1 (λ b x. parts_wave b ps h.2 w.1 x)
  where
    own : IsWaveFrom a p.wave
    own = wave-weaker a p.begin p.wave l (wave_later p.begin p.wave w.0 h.0.before)

    over : EndBy p.rest p.wave
    over = ends_by p.rest 0 p.wave w.0 h.0.after

    by_next : (qs : List Part) → ComesBefore p qs → ((b : ℕ) → AtLeast b qs → IsWaveFrom b (whole_wave qs)) → IsWaveFrom a (p.wave ++ whole_wave qs)
    by_next [] c k = wave_append a (a + p.rest + 1) p.rest p.wave [] (omega arith) (omega arith) own over tt
    by_next (q ∷ qs) c k =
        wave_append a q.begin p.rest p.wave (whole_wave (q ∷ qs)) (omega (arith, l, c.1, begin_by (line_of p.wave) p.begin)) c.0 own over (k q.begin (omega arith))

are_waves : (s t : NetState) (ms : List Move) → Moves s ms t → AreWaves (map part_of (rounds_of ms))
are_waves s t [] m = tt
are_waves s t (Happens at event ∷ ms) m = are_waves (net_after at event s) t ms m.1
are_waves s t (Goes begin o ∷ ms) m = (m.0.wave, are_waves (after_round s begin o) t ms m.1)

at_least : (ps : List Part) → AtLeast 0 ps
at_least [] = tt
at_least (p ∷ ps) = omega arith

pub runs_are_waves : RunsAreWaves
runs_are_waves s t ms wave framed m =
    subst (λ (ss : List Stretch). IsWave ss) (same_wave (rounds_of ms))
    (parts_wave 0 (map part_of (rounds_of ms)) (in_order s t ms wave framed m) (are_waves s t ms m) (at_least (map part_of (rounds_of ms))))

-- ---- each round begins once the one before has closed

comes_after : (o : Outcome) (os : List Outcome) → (reading_of (line_of o.wave) o.reading.begin).at ≡ o.reading.at → ComesBefore (part_of o) (map part_of os) → ComesAfter o os
comes_after o [] e c = tt
comes_after o (p ∷ os) e c = (omega (arith, at_by (line_of o.wave) o.reading.begin, e, c.0, c.1), c.0)

following : (s t : NetState) (ms : List Move) → Moves s ms t → AreInOrder (map part_of (rounds_of ms)) → AreFollowing (rounds_of ms)
following s t [] m h = tt
following s t (Happens at event ∷ ms) m h = following (net_after at event s) t ms m.1 h
following s t (Goes begin o ∷ ms) m h = (
  comes_after o (rounds_of ms) (ap (λ b. (reading_of (line_of o.wave) b).at) m.0.round.starts ∙ sym m.0.round.ends) h.1,
  following (after_round s begin o) t ms m.1 h.2,
)

pub runs_are_in_order : RunsAreInOrder
runs_are_in_order s t ms wave framed m = following s t ms m (in_order s t ms wave framed m)

-- ---- from the last close on the line is high

-- the last part rests by then, and so all do
RestBy : ℕ → List Part → Type 0
RestBy end [] = Unit {0}
RestBy end (p ∷ []) = p.rest ≤ end
RestBy end (p ∷ q ∷ ps) = RestBy end (q ∷ ps)

abbrev RestAll : ℕ → List Part → Type 0
RestAll end [] = Unit {0}
RestAll end (p ∷ ps) = (p.rest ≤ end) × RestAll end ps

begin_rest : (p : Part) → IsLone p → p.begin < p.rest
begin_rest p h = elim (cases_lt p.begin p.rest) [
  | inl lt ↦ lt
  | inr ge ↦ (let x : true ≡ false = sym h.first ∙ h.after p.begin ge in cc)
]

rest_more : (end : ℕ) (p : Part) (ps : List Part) → AreInOrder (p ∷ ps) → RestAll end ps → RestBy end (p ∷ ps) → p.rest ≤ end
unfolding RestBy
rest_more end p [] h a l = l
rest_more end p (q ∷ ps) h a l = omega (arith, h.1.0, begin_rest q h.2.0, a.0)

rest_tail : (end : ℕ) (p : Part) (ps : List Part) → RestBy end (p ∷ ps) → RestBy end ps
unfolding RestBy
rest_tail end p [] l = tt
rest_tail end p (q ∷ ps) l = l

rest_all : (end : ℕ) (ps : List Part) → AreInOrder ps → RestBy end ps → RestAll end ps
rest_all end [] h l = tt
rest_all end (p ∷ ps) h l =
    let rest : RestAll end ps = rest_all end ps h.2 (rest_tail end p ps l) in
    (rest_more end p ps h rest l, rest)

rest_first : (end : ℕ) (p : Part) (ps : List Part) → (ps ≡ [] → p.rest ≤ end) → RestBy end ps → RestBy end (p ∷ ps)
unfolding RestBy
rest_first end p [] h l = h refl
rest_first end p (q ∷ ps) h l = l

rest_by : (s t : NetState) (ms : List Move) → Moves s ms t → RestBy t.close (map part_of (rounds_of ms))
unfolding RestBy
rest_by s t [] m = tt
rest_by s t (Happens at event ∷ ms) m = rest_by (net_after at event s) t ms m.1
rest_by s t (Goes begin o ∷ ms) m =
    rest_first t.close (part_of o) (map part_of (rounds_of ms)) (λ e. omega (arith, rests, close e)) (rest_by (after_round s begin o) t ms m.1)
  where
    rests : o.rest ≤ close_in o
    rests = omega arith

    close : map part_of (rounds_of ms) ≡ [] → t.close ≡ close_in o
    close e = close_stays (after_round s begin o) t ms m.1 e

high_end : (end : ℕ) (ps : List Part) → AreInOrder ps → RestAll end ps → (u : ℕ) → end ≤ u → line_of (whole_wave ps) u ≡ false
high_end end [] h a u l = refl
high_end end (p ∷ ps) h a u l =
    list_any-append (λ s. covers s u) p.wave (whole_wave ps)
    ∙ both_no (line_of p.wave u) (line_of (whole_wave ps) u) (h.0.after u (omega (arith, a.0, l))) (high_end end ps h.2 a.1 u l)
  where
    both_no : (x y : Bool) → x ≡ false → y ≡ false → (x || y) ≡ false
    both_no true y e f = e
    both_no false y e f = f

pub runs_are_over : RunsAreOver
runs_are_over s t ms wave framed m u l =
    let order : AreInOrder (map part_of (rounds_of ms)) = in_order s t ms wave framed m in
    ap (λ ss. line_of ss u) (sym (same_wave (rounds_of ms)))
    ∙ high_end t.close (map part_of (rounds_of ms)) order (rest_all t.close (map part_of (rounds_of ms)) order (rest_by s t ms m)) u l
