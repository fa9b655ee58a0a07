-- The stretches of a seat are what it pulls by the rule of a round.
use Rattle.std.proofs.Common.{◌≡◌, ℕ, ◌+◌, ◌-◌, ◌<◌, ◌≤◌, Bool, true, false, not, ◌&&◌, ◌||◌, nat_lt, nat_le, if◌then◌else◌, min, List, [], ◌∷◌, length, inl, inr, Option, Some, None, refl, arith, ap, ap₂, ◌∙◌, sym}
use Rattle.std.specs.List.{list_any, cons_option}
use Rattle.std.proofs.lemmas.Bool.{cases_lt}
use Rattle.std.proofs.lemmas.Bool.Decides.{nat_tests}
use Rattle.line_wave.specs.declared.Stretch.{Stretch}
use Rattle.line_wave.specs.Line.{Line, covers, line_of, was_low}
use Rattle.line_wave.specs.Sender.{sender_stretches}
use Rattle.line_frames.specs.Bits.{frame_bits}
use Rattle.line_frames.specs.declared.Ending.{Ending}
use Rattle.line_frames.specs.declared.Ending.TheVariants.{Complete, Short, Silent, BadStart, Long, Open}
use Rattle.line_reading.specs.Reading.{End, Known, known_at, reading_of, bits_of}
use Rattle.line_reading.proofs.Ends.{at_by}
use Rattle.line_reading.specs.Sending.{known_bits, out_slot, sender_pulls}
use Rattle.line_rounds.specs.declared.Seat.{Seat}
use Rattle.line_rounds.specs.declared.Outcome.{Outcome}
use Rattle.line_rounds.specs.Round.{all_known, is_broken, is_within, out_of, sends_in}
use Rattle.line_rounds.proofs.Spans.{reading_spans}
use Rattle.room_drives.specs.Stretches.{break_stretches, breaks_off, cut_after, goes_to, is_short, last_pull, sample_by, sent_stretches, slot_fall, stretch}
use Rattle.room_drives.proofs.Sent.{all_bits, known_after, last_by, out_by_then, out_slot_of, stops}
use Rattle.room_drives.proofs.Slots.{falls_at}

-- what an outcome reports of its reading
pub record Reports (low : Line) (begin : ℕ) (o : Outcome) : Type 0 where
  pub at : o.reading.at ≡ (reading_of low begin).at
  pub ending : o.reading.ending ≡ (reading_of low begin).ending
  pub bits : o.reading.bits.items ≡ bits_of (reading_of low begin)
  pub slots : (n : ℕ) → 1 ≤ n → slot_fall o n ≡ falls_at (reading_of low begin).slots (n - 1)
  pub level : line_of o.wave o.reading.at ≡ low (reading_of low begin).at
  pub past : 0 < (reading_of low begin).at

-- ---- who sends

or_false : (b : Bool) → (b || false) ≡ b
or_false true = refl
or_false false = refl

cut_cover : (last t : ℕ) (s : Stretch) → nat_le s.from last ≡ true → covers (stretch s.from (min s.to (last + 1))) t ≡ (covers s t && nat_le t last)
cut_cover last t s h = grind (arith, nat_tests)

late_cover : (last t : ℕ) (s : Stretch) → nat_le s.from last ≡ false → (covers s t && nat_le t last) ≡ false
late_cover last t s h = grind (arith, nat_tests)

cut_line : (last t : ℕ) (ss : List Stretch) → line_of (cut_after last ss) t ≡ (line_of ss t && nat_le t last)
cut_line last t [] = refl
cut_line last t (s ∷ ss) = by (nat_le s.from last) refl (cut_line last t ss)
  where
    spread : (a b c : Bool) → ((a && c) || (b && c)) ≡ ((a || b) && c)
    spread true true true = refl
    spread true true false = refl
    spread true false c = or_false c
    spread false b c = refl

    by : (b : Bool) → nat_le s.from last ≡ b → line_of (cut_after last ss) t ≡ (line_of ss t && nat_le t last)
        → line_of (if b then stretch s.from (min s.to (last + 1)) ∷ cut_after last ss else cut_after last ss) t ≡ ((covers s t || line_of ss t) && nat_le t last)
    by true h rest = ap₂ (λ a b. a || b) (cut_cover last t s h) rest ∙ spread (covers s t) (line_of ss t) (nat_le t last)
    by false h rest = rest ∙ ap (λ a. a || (line_of ss t && nat_le t last)) (sym (late_cover last t s h)) ∙ spread (covers s t) (line_of ss t) (nat_le t last)

-- the reading is not known to have ended before t, or the line was low just before
abbrev pub may_fall : Line → ℕ → ℕ → Bool
may_fall low begin t = is_within (known_at t (reading_of low begin)).ended t || was_low low t

-- where one that sends would pull by its frame, the line is low exactly where it may
abbrev pub IsTimely : Line → ℕ → ℕ → Option (List ℕ) → Type 0
IsTimely low begin t sends = list_any (sender_pulls begin (known_at t (reading_of low begin)) t) (cons_option sends []) ≡ true → low t ≡ may_fall low begin t

within_by : (low : Line) (begin t : ℕ) → t ≤ (reading_of low begin).until → may_fall low begin t ≡ true
within_by low begin t by_then = by_time (nat_lt (reading_of low begin).until t) refl
  where
    by_time : (b : Bool) → nat_lt (reading_of low begin).until t ≡ b
        → (is_within (if b then Some (record { ending = (reading_of low begin).ending; at = (reading_of low begin).at; until = (reading_of low begin).until }) else None) t || was_low low t) ≡ true
    by_time false e = refl
    by_time true e = absurd (let past : (reading_of low begin).until < t = grind (arith, nat_tests) in omega (arith, past, by_then))

-- one that is never out, by the numbers alone: `ends` tells the line at the reading's end, and `may` whether it may fall at t
at_the_end : (at t : ℕ) (sends ends may : Bool) → 0 < at → (t < at → may ≡ true) → (t ≡ at → sends ≡ true → ends ≡ may)
    → (sends && nat_le t (if ends then at else at - 1)) ≡ ((sends && nat_le t at) && may)
at_the_end at t false ends may some within there = refl
at_the_end at t true ends may some within there = elim (cases_lt t at) [
  | inl early ↦ (let e = within early in let now : nat_le t at ≡ true = grind (arith, nat_tests) in rw (e, now) (by_ends ends early))
  | inr ge ↦ elim (cases_lt at t) [
    | inl late ↦ (let never : nat_le t at ≡ false = grind (arith, nat_tests) in rw never (past ends late))
    | inr le ↦ (let same : t ≡ at = omega arith in
        let e = there same refl in
        let now : nat_le t at ≡ true = grind (arith, nat_tests) in
        rw (← e, now) (level ends same))
  ]
]
  where
    by_ends : (b : Bool) → t < at → nat_le t (if b then at else at - 1) ≡ true
    by_ends true l = grind (arith, nat_tests)
    by_ends false l = grind (arith, nat_tests)

    past : (b : Bool) → at < t → nat_le t (if b then at else at - 1) ≡ false
    past true l = grind (arith, nat_tests)
    past false l = grind (arith, nat_tests)

    level : (b : Bool) → t ≡ at → nat_le t (if b then at else at - 1) ≡ b
    level true e = grind (arith, nat_tests)
    level false e = grind (arith, nat_tests, some)

and_same : (b c : Bool) → (b ≡ true → c ≡ true) → b ≡ (b && c)
and_same true c h = sym (h refl)
and_same false c h = refl

and_right : (a b : Bool) → (a && b) ≡ true → b ≡ true
and_right true b h = h
and_right false b h = cc

pub sent_line : (low : Line) (begin t : ℕ) (o : Outcome) → Reports low begin o → (sends : Option (List ℕ)) → IsTimely low begin t sends
    → line_of (sent_stretches begin o (out_of (reading_of low begin) sends) sends) t
    ≡ (list_any (sender_pulls begin (known_at t (reading_of low begin)) t) (cons_option sends []) && may_fall low begin t)
sent_line low begin t o reports None timely = refl
sent_line low begin t o reports (Some f) timely =
    let out = out_slot (all_known (reading_of low begin)) (frame_bits f) in
    cut_line (last_pull o out) t (sender_stretches begin (frame_bits f))
    ∙ by_out out refl
    ∙ ap (λ b. b && may_fall low begin t) (sym (or_false (sender_pulls begin (known_at t (reading_of low begin)) t f)))
  where
    sends : Bool
    sends = line_of (sender_stretches begin (frame_bits f)) t

    pulls_by : (out : Option ℕ) → out_slot (all_known (reading_of low begin)) (frame_bits f) ≡ out
        → sender_pulls begin (known_at t (reading_of low begin)) t f ≡ (sends && nat_le t (last_by (reading_of low begin) out))
    pulls_by out e = ap (λ b. sends && b) (stops low begin t (frame_bits f)) ∙ ap (λ (x : Option ℕ). sends && nat_le t (last_by (reading_of low begin) x)) e

    by_out : (out : Option ℕ) → out_slot (all_known (reading_of low begin)) (frame_bits f) ≡ out
        → (sends && nat_le t (last_pull o out)) ≡ (sender_pulls begin (known_at t (reading_of low begin)) t f && may_fall low begin t)
    by_out None e =
        ap₂ (λ (at : ℕ) (ends : Bool). sends && nat_le t (if ends then at else at - 1)) reports.at reports.level
        ∙ at_the_end (reading_of low begin).at t sends (low (reading_of low begin).at) (may_fall low begin t) reports.past
        (λ early. within_by low begin t (omega (arith, early, at_by low begin)))
        (λ same pulls. ap low (sym same) ∙ timely (or_false (sender_pulls begin (known_at t (reading_of low begin)) t f) ∙ pulls_by None e ∙ both pulls same))
        ∙ ap (λ b. b && may_fall low begin t) (sym (pulls_by None e))
      where
        both : sends ≡ true → t ≡ (reading_of low begin).at → (sends && nat_le t (reading_of low begin).at) ≡ true
        both pulls same = let now : nat_le t (reading_of low begin).at ≡ true = grind (arith, nat_tests) in rw (pulls, now) refl
    by_out (Some n) e =
        ap (λ last. sends && nat_le t last) (ap sample_by (reports.slots n (out_slot_of low begin (frame_bits f) n e).0))
        ∙ sym (pulls_by (Some n) e)
        ∙ and_same (sender_pulls begin (known_at t (reading_of low begin)) t f) (may_fall low begin t)
        (λ pulls. within_by low begin t (out_by_then low begin t (frame_bits f) n e (and_right sends (nat_le t (last_by (reading_of low begin) (Some n))) (sym (pulls_by (Some n) e) ∙ pulls))))

-- ---- who pulls after a fall too early

pub break_line : (low : Line) (begin t : ℕ) (o : Outcome) → Reports low begin o → (seat : Seat)
    → line_of (break_stretches o seat (out_of (reading_of low begin) seat.sends)) t ≡ is_broken (seat ∷ []) (known_at t (reading_of low begin)) t (known_at t (reading_of low begin)).ended
break_line low begin t o reports seat = by_ending (reading_of low begin).ending refl
  where
    out : Option ℕ
    out = out_of (reading_of low begin) seat.sends

    no_break : (b : Bool) → line_of (if b && false then stretch (o.reading.at + 1) (o.reading.at + 3600) ∷ [] else []) t ≡ false
    no_break true = refl
    no_break false = refl

    -- an ending that is none
    quiet : (x : Ending) → (reading_of low begin).ending ≡ x → is_short x ≡ false → line_of (break_stretches o seat out) t ≡ false
    quiet x e h =
        let none : breaks_off o seat out ≡ false = ap (λ (y : Ending). is_short y && (seat.plugged && not (goes_to seat.sends out (length o.reading.bits.items + 1)))) (reports.ending ∙ e)
        ∙ ap (λ b. b && (seat.plugged && not (goes_to seat.sends out (length o.reading.bits.items + 1)))) h in
        rw none refl

    other : (x : Ending) → is_short x ≡ false → (b : Bool)
        → is_broken (seat ∷ []) (known_at t (reading_of low begin)) t (if b then Some (record { ending = x; at = (reading_of low begin).at; until = (reading_of low begin).until }) else None) ≡ false
    other Complete h true = refl
    other Silent h true = refl
    other BadStart h true = refl
    other Long h true = refl
    other Open h true = refl
    other Short h true = cc
    other x h false = refl

    known_end : (x : Ending) → (reading_of low begin).ending ≡ x
        → (known_at t (reading_of low begin)).ended ≡ (if nat_lt (reading_of low begin).until t then Some (record { ending = x; at = (reading_of low begin).at; until = (reading_of low begin).until }) else None)
    known_end x e = ap (λ (y : Ending). if nat_lt (reading_of low begin).until t then (let some : Option End = Some (record { ending = y; at = (reading_of low begin).at; until = (reading_of low begin).until }) in some) else None) e

    both_none : (x : Ending) → (reading_of low begin).ending ≡ x → is_short x ≡ false
        → line_of (break_stretches o seat out) t ≡ is_broken (seat ∷ []) (known_at t (reading_of low begin)) t (known_at t (reading_of low begin)).ended
    both_none x e h =
        quiet x e h ∙ sym (ap (is_broken (seat ∷ []) (known_at t (reading_of low begin)) t) (known_end x e) ∙ other x h (nat_lt (reading_of low begin).until t))

    -- who sends to the end
    goes_same : (sends : Option (List ℕ)) (n : ℕ) → goes_to sends (out_of (reading_of low begin) sends) n ≡ sends_in (all_known (reading_of low begin)) sends n
    goes_same None n = refl
    goes_same (Some f) n = refl

    breaks : (b : Bool) → nat_lt (reading_of low begin).until t ≡ b → (reading_of low begin).ending ≡ Short
        → line_of (break_stretches o seat out) t ≡ is_broken (seat ∷ []) (known_at t (reading_of low begin)) t
        (if b then Some (record { ending = Short; at = (reading_of low begin).at; until = (reading_of low begin).until }) else None)
    breaks b h short = by_time b h
      where
        until_at : (reading_of low begin).until ≡ (reading_of low begin).at
        until_at = ((reading_spans low begin).short short).1

        pulls : Bool
        pulls = seat.plugged && not (goes_to seat.sends out (length o.reading.bits.items + 1))

        short_first : breaks_off o seat out ≡ pulls
        short_first = ap (λ (y : Ending). is_short y && (seat.plugged && not (goes_to seat.sends out (length o.reading.bits.items + 1)))) (reports.ending ∙ short)

        line_is : line_of (break_stretches o seat out) t ≡ (pulls && covers (stretch (o.reading.at + 1) (o.reading.at + 3600)) t)
        line_is = ap (λ b. line_of (if b then stretch (o.reading.at + 1) (o.reading.at + 3600) ∷ [] else []) t) short_first ∙ by_pulls pulls
          where
            by_pulls : (b : Bool) → line_of (if b then stretch (o.reading.at + 1) (o.reading.at + 3600) ∷ [] else []) t ≡ (b && covers (stretch (o.reading.at + 1) (o.reading.at + 3600)) t)
            by_pulls true = or_false (covers (stretch (o.reading.at + 1) (o.reading.at + 3600)) t)
            by_pulls false = refl

        cover_is : covers (stretch (o.reading.at + 1) (o.reading.at + 3600)) t ≡ (nat_le ((reading_of low begin).at + 1) t && nat_lt t ((reading_of low begin).at + 3600))
        cover_is = ap (λ n. nat_le (n + 1) t && nat_lt t (n + 3600)) reports.at

        by_time : (b : Bool) → nat_lt (reading_of low begin).until t ≡ b → line_of (break_stretches o seat out) t ≡ is_broken (seat ∷ []) (known_at t (reading_of low begin)) t
            (if b then Some (record { ending = Short; at = (reading_of low begin).at; until = (reading_of low begin).until }) else None)
        by_time false g =
            let not_yet : nat_le ((reading_of low begin).at + 1) t ≡ false = grind (arith, nat_tests, until_at) in
            line_is ∙ ap (λ c. pulls && c) (cover_is ∙ ap (λ c. c && nat_lt t ((reading_of low begin).at + 3600)) not_yet) ∙ never pulls
          where
            never : (b : Bool) → (b && false) ≡ false
            never true = refl
            never false = refl
        by_time true g =
            let past : (reading_of low begin).until < t = grind (arith, nat_tests) in
            let now : nat_le ((reading_of low begin).at + 1) t ≡ true = grind (arith, nat_tests, until_at) in
            let k = known_after t low begin past in
            let count : length (known_bits (all_known (reading_of low begin))) ≡ length o.reading.bits.items = ap length (all_bits low begin ∙ sym reports.bits) in
            let sends : sends_in (known_at t (reading_of low begin)) seat.sends (length (known_bits (known_at t (reading_of low begin))) + 1) ≡ goes_to seat.sends out (length o.reading.bits.items + 1) =
            ap (λ (n : Known). sends_in n seat.sends (length (known_bits n) + 1)) k
            ∙ ap (λ n. sends_in (all_known (reading_of low begin)) seat.sends (n + 1)) count ∙ sym (goes_same seat.sends (length o.reading.bits.items + 1)) in
            line_is ∙ ap (λ c. pulls && c) (cover_is ∙ ap (λ c. c && nat_lt t ((reading_of low begin).at + 3600)) now)
            ∙ turned pulls (nat_lt t ((reading_of low begin).at + 3600))
            ∙ ap (λ b. nat_lt t ((reading_of low begin).at + 3600) && ((seat.plugged && not b) || false)) (sym sends)
          where
            turned : (a b : Bool) → (a && b) ≡ (b && (a || false))
            turned true true = refl
            turned true false = refl
            turned false true = refl
            turned false false = refl

    by_ending : (x : Ending) → (reading_of low begin).ending ≡ x
        → line_of (break_stretches o seat out) t ≡ is_broken (seat ∷ []) (known_at t (reading_of low begin)) t (known_at t (reading_of low begin)).ended
    by_ending Complete e = both_none Complete e refl
    by_ending Silent e = both_none Silent e refl
    by_ending BadStart e = both_none BadStart e refl
    by_ending Long e = both_none Long e refl
    by_ending Open e = both_none Open e refl
    by_ending Short e = breaks (nat_lt (reading_of low begin).until t) refl e ∙ sym (ap (is_broken (seat ∷ []) (known_at t (reading_of low begin)) t) (known_end Short e))
