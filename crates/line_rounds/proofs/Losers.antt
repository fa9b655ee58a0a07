-- A loser is out before its stretches part from a winner's.
use Rattle.std.proofs.Common.{◌≡◌, ℕ, zero, suc, ◌+◌, ◌*◌, ◌<◌, ◌≤◌, Bool, true, false, not, nat_lt, if◌then◌else◌, List, [], ◌∷◌, ◌++◌, length, length-append, append_assoc, append-nil, inl, inr, Option, Some, None, refl, arith, ap, ◌∙◌, sym, subst}
use Rattle.std.specs.List.{filter_map}
use Rattle.std.specs.Option.{option_to_list}
use Rattle.std.proofs.lemmas.Bool.{cases_lt}
use Rattle.std.proofs.lemmas.Bool.Decides.{nat_tests}
use Rattle.line_wave.specs.declared.Stretch.{Stretch}
use Rattle.line_wave.specs.Line.{Line, is_fall}
use Rattle.line_frames.specs.Bits.{frame_bits}
use Rattle.line_frames.specs.declared.Ending.{Ending}
use Rattle.line_frames.specs.declared.Ending.TheVariants.{Complete, Short, Silent, BadStart, Long, Open}
use Rattle.line_reading.specs.Reading.After.{Next, Ends}
use Rattle.line_reading.specs.Windows.{standard, sample_at}
use Rattle.line_reading.specs.Reading.{next_fall, Slot, Known, known_at, reading_of, read_slots, read_on, after_slot, after_fall, after_last, last_ending, last_heard, sample, bit_sampled_at, After}
use Rattle.line_reading.proofs.Search.{first_in_some, found_first, found_none}
use Rattle.line_reading.proofs.Causes.{known_front}
use Rattle.line_rounds.specs.declared.Seat.{Seat}
use Rattle.line_reading.specs.Sending.{known_bits, goes_on}
use Rattle.line_rounds.specs.Contend.{Stays}
use Rattle.line_rounds.specs.Slots.{NextFall}
use Rattle.line_rounds.specs.Reached.{Reached}
use Rattle.line_rounds.proofs.Differ.{Splits}
use Rattle.line_rounds.proofs.Early.{OnTime, stays_before}
use Rattle.line_rounds.proofs.Walk.{next_falls, quiet_sample, over_sampled, reach_next, known_next, known_unsampled, reported_more, Scene, step_on_time}
use Rattle.line_rounds.proofs.Inside.{known_here, bits_here, bits_unsampled, stays_other, other_out, winner_low}

-- ---- before a loser's stretch is over it is out

-- fewer slots are known than the one at which they split, and a sender that goes on is not past it
abbrev pub Before : ℕ → ℕ → ℕ → Known → Type 0
Before front begin t k = (length (known_bits k) ≤ front) × (goes_on k.ended t ≡ true → t < begin + 4500 + 2400 * front + 2400)

pub few_by : (front : ℕ) (xs ys : List Bool) → xs ≡ ys → length ys ≤ front → length xs ≤ front
few_by front xs ys e h = let n : length xs ≡ length ys = ap (λ (zs : List Bool). length zs) e in omega arith

pub goes_by : (t bound : ℕ) (k m : Known) → k ≡ m → (goes_on m.ended t ≡ true → t < bound) → goes_on k.ended t ≡ true → t < bound
goes_by t bound k m e h g = h (ap (λ (x : Known). goes_on x.ended t) (sym e) ∙ g)

pub goes_to : (t at until : ℕ) (ending : Ending) → until ≤ at → (b : Bool) → nat_lt until t ≡ b
    → goes_on (if b then Some (record { ending = ending; at = at; until = until }) else None) t ≡ true → t ≤ at
goes_to t at until ending h true e g = grind (arith, nat_tests)
goes_to t at until ending h false e g = let x : until < t → ⊥ = (λ y. let z : nat_lt until t ≡ true = grind (arith, nat_tests) in let no : true ≡ false = sym z ∙ e in cc) in
    elim (cases_lt until t) [ inl lt ↦ absurd (x lt) | inr ge ↦ omega (arith, ge, h) ]

last_heard_by : (ending : Ending) (at : ℕ) → last_heard ending at ≤ at
last_heard_by Complete at = omega arith
last_heard_by Short at = omega arith
last_heard_by Silent at = omega arith
last_heard_by BadStart at = omega arith
last_heard_by Long at = omega arith
last_heard_by Open at = omega arith

-- a slot ends a reading within 2,751
ends_soon : (low : Line) (e : ℕ) (last : Option Ending) (ending : Ending) (at : ℕ) → after_slot low e last ≡ Ends ending at → at ≤ e + (standard.bit_total.most + 1)
ends_soon low e None ending at h = by_fall (next_fall low e standard.bit_total.most) refl h
  where
    by_time : (g : ℕ) (b : Bool) → nat_lt g (e + standard.bit_total.least) ≡ b → (if b then Ends Short g else Next g) ≡ Ends ending at → at ≤ e + (standard.bit_total.most + 1)
    by_time g true t k = let x : g ≡ at = cc in let y : g < e + standard.bit_total.least = grind (arith, nat_tests) in omega arith
    by_time g false t k = cc

    by_fall : (o : Option ℕ) → next_fall low e standard.bit_total.most ≡ o → after_fall e o ≡ Ends ending at → at ≤ e + (standard.bit_total.most + 1)
    by_fall None s k = let x : e + (standard.bit_total.most + 1) ≡ at = cc in omega arith
    by_fall (Some g) s k = by_time g (nat_lt g (e + standard.bit_total.least)) refl k
ends_soon low e (Some last) ending at h = by_fall (next_fall low e sample_at) refl h
  where
    by_fall : (o : Option ℕ) → next_fall low e sample_at ≡ o → after_last e last o ≡ Ends ending at → at ≤ e + (standard.bit_total.most + 1)
    by_fall None s k = let x : e + sample_at ≡ at = cc in omega arith
    by_fall (Some g) s k = let x : g ≡ at = cc in let d = found_first (is_fall low) (e + 1) sample_at g s in omega (arith, d.within, x)

-- a fall before the sample is Short
early_short : (low : Line) (e f : ℕ) (last : Option Ending) → next_fall low e sample_at ≡ Some f → after_slot low e last ≡ Ends Short f
early_short low e f (Some ending) h = ap (after_last e ending) h
early_short low e f None h =
    let d = found_first (is_fall low) (e + 1) sample_at f h in
    let s : next_fall low e standard.bit_total.most ≡ Some f = first_in_some (is_fall low) (e + 1) standard.bit_total.most f d.after (omega (arith, d.within)) d.passes (λ u a b. d.first u a b) in
    let l : nat_lt f (e + standard.bit_total.least) ≡ true = (let x : f < e + 1 + sample_at = d.within in grind (arith, nat_tests)) in
    ap (after_fall e) s ∙ ap (λ b. if b then Ends Short f else Next f) l

own_ends : (pulses : List Stretch) (e own : ℕ) → OnTime pulses e own → e ≤ own
own_ends pulses e own (inl h) = omega arith
own_ends pulses e own (inr h) = omega (arith, h.0)

pub inside_walk : (seats : List Seat) (begin : ℕ) (pulses : List Stretch) (low : Line) (w : List ℕ) → Scene seats begin pulses low w
    → (cs : List Bool) (p : Splits 0 cs (frame_bits w)) (t : ℕ) → Stays (known_bits (known_at t (reading_of low begin))) cs
    → (left : ℕ) (xs : List Slot) (bits : List Bool) (e own : ℕ) → Reached low begin left xs bits e → own ≡ begin + 4500 + 2400 * length bits
    → length bits ≤ length p.front → OnTime pulses e own → e < t → Before (length p.front) begin t (known_at t (reading_of low begin))
unfolding read_slots
inside_walk seats begin pulses low w z cs p t s zero xs bits e own r o m time l = (
  few_by (length p.front) (known_bits (known_at t (reading_of low begin))) bits (ap known_bits here ∙ (ap (λ ys. filter_map (λ (x : Slot). x.bit) ys) (append-nil xs) ∙ r.reported)) m,
  goes_by t (begin + 4500 + 2400 * length p.front + 2400) (known_at t (reading_of low begin)) _ here (λ g. omega (arith, goes_to t e e Open (omega arith) (nat_lt e t) refl g, l)),
)
  where
    here : known_at t (reading_of low begin) ≡ record { slots = xs ++ []; ended = if nat_lt e t then Some (record { ending = Open; at = e; until = e }) else None }
    here = ap (known_at t) (sym r.goes) ∙ known_front t xs (read_slots low zero bits e) (over_sampled e t xs (omega arith) r.over)
inside_walk seats begin pulses low w z cs p t s (suc left) xs bits e own r o m time l =
    by_early (next_fall low e sample_at) refl
    (λ f h n k room on. inside_walk seats begin pulses low w z cs p t s left (xs ++ record { fall = e; bit = bit_sampled_at low e } ∷ []) (bits ++ option_to_list (bit_sampled_at low e)) f (own + 2400)
    (reach_next low begin left xs bits e f r h n.far) (counts n) room on k)
  where
    bits2 : List Bool
    bits2 = bits ++ option_to_list (bit_sampled_at low e)

    counts : {f : ℕ} → NextFall low e bits f → own + 2400 ≡ begin + 4500 + 2400 * length (bits ++ option_to_list (bit_sampled_at low e))
    counts n = let q : bit_sampled_at low e ≡ Some (not (low (e + sample_at))) = quiet_sample low e (λ u a b. n.quiet u a (omega (arith, n.far))) in
        rw q (omega (arith, length-append bits (not (low (e + sample_at)) ∷ [])))

    -- the split's slot is not sampled
    not_here : ((u : ℕ) → e < u → u < e + (sample_at + 1) → is_fall low u ≡ false) → e + sample_at < t → length bits ≡ length p.front → ⊥
    not_here q k same =
        let sam : bit_sampled_at low e ≡ Some (not (low (e + sample_at))) = quiet_sample low e q in
        let g = bits_here low begin left xs bits e t (not (low (e + sample_at))) r k sam (after_slot low e (last_ending bits)) refl in
        let st : Stays (bits ++ not (low (e + sample_at)) ∷ ys) cs = subst (λ b. Stays b cs) g s in
        let stays : Stays bits (frame_bits w) = stays_other bits cs (frame_bits w) p (omega arith) (stays_before bits (not (low (e + sample_at)) ∷ ys) cs st) in
        let v : low (e + sample_at) ≡ true = winner_low seats begin pulses low w z cs p left xs bits e own r o same time stays (λ u a b. q u a (omega arith)) in
        other_out bits ys cs (frame_bits w) p same (subst (λ b. Stays (bits ++ not b ∷ ys) cs) v st)
      where
        ys : List Bool
        ys = filter_map (λ (x : Slot). x.bit) (known_at t (read_on (read_slots low left bits2) (after_slot low e (last_ending bits)))).slots

    by_after : ((u : ℕ) → e < u → u < e + (sample_at + 1) → is_fall low u ≡ false) → e + sample_at < t → length bits < length p.front → (a : After) → after_slot low e (last_ending bits) ≡ a
        → ((f : ℕ) → after_slot low e (last_ending bits) ≡ Next f → NextFall low e bits f → f < t → length bits2 ≤ length p.front → OnTime pulses f (own + 2400)
        → Before (length p.front) begin t (known_at t (reading_of low begin)))
        → Before (length p.front) begin t (known_at t (reading_of low begin))
    by_after q k lt (Ends ending at) h ih =
        let sam : bit_sampled_at low e ≡ Some (not (low (e + sample_at))) = quiet_sample low e q in
        let g = bits_here low begin left xs bits e t (not (low (e + sample_at))) r k sam (Ends ending at) h in (
          few_by (length p.front) _ _ g (omega (arith, length-append bits (not (low (e + sample_at)) ∷ []), lt)),
          goes_by t (begin + 4500 + 2400 * length p.front + 2400) (known_at t (reading_of low begin)) _ (known_here low begin left xs bits e t r l (Ends ending at) h)
              (λ go. omega (arith, goes_to t at (last_heard ending at) ending (last_heard_by ending at) (nat_lt (last_heard ending at) t) refl go, ends_soon low e (last_ending bits) ending at h, own_ends pulses e own time, o, lt)),
        )
    by_after q k lt (Next f) h ih =
        let n = next_falls low e bits f h in
        let sam : bit_sampled_at low e ≡ Some (not (low (e + sample_at))) = quiet_sample low e q in
        let count : length bits2 ≡ length bits + 1 = (let x = counts n in omega (arith, x, o)) in
        elim (cases_lt f t) [
          | inl past ↦ (
              let g = bits_here low begin left xs bits e t (not (low (e + sample_at))) r k sam (Next f) h in
              let ys : List Bool = filter_map (λ (x : Slot). x.bit) (known_at t (read_slots low left bits2 f)).slots in
              let st = subst (λ b. Stays b cs) (g ∙ sym (append_assoc bits (not (low (e + sample_at)) ∷ []) ys)) s in
              let st2 : Stays (bits ++ not (low (e + sample_at)) ∷ []) cs = stays_before (bits ++ not (low (e + sample_at)) ∷ []) ys cs st in
              let st3 : Stays bits2 cs = subst (λ o2. Stays (bits ++ option_to_list o2) cs) (sym sam) st2 in
              let stays : Stays bits2 (frame_bits w) = stays_other bits2 cs (frame_bits w) p (omega (arith, count, lt)) st3 in
              ih f h n past (omega (arith, count, lt))
              (step_on_time seats begin pulses low w z left xs bits e own f (length bits) r n o (omega (arith, lt, longer)) time stays))
          | inr ge ↦ (
              let g = known_next low begin left xs bits e f t r n k ge in (
                few_by (length p.front) _ _ (ap known_bits g ∙ reported_more xs bits (record { fall = e; bit = bit_sampled_at low e }) r.reported) (omega (arith, count, lt)),
                λ go. omega (arith, ge, n.near, own_ends pulses e own time, o, lt),
              ))
        ]
      where
        longer : length p.front < length (frame_bits w)
        longer = rw p.second (omega (arith, length-append p.front (false ∷ p.less)))

    by_early : (o2 : Option ℕ) → next_fall low e sample_at ≡ o2
        → ((f : ℕ) → after_slot low e (last_ending bits) ≡ Next f → NextFall low e bits f → f < t → length bits2 ≤ length p.front → OnTime pulses f (own + 2400)
        → Before (length p.front) begin t (known_at t (reading_of low begin)))
        → Before (length p.front) begin t (known_at t (reading_of low begin))
    by_early (Some f) h ih =
        let d = found_first (is_fall low) (e + 1) sample_at f h in
        let sh : after_slot low e (last_ending bits) ≡ Ends Short f = early_short low e f (last_ending bits) h in (
          few_by (length p.front) _ _ (bits_unsampled low begin left xs bits e t f Short r l (ap (sample low e) h) sh) m,
          goes_by t (begin + 4500 + 2400 * length p.front + 2400) (known_at t (reading_of low begin)) _ (known_here low begin left xs bits e t r l (Ends Short f) sh)
              (λ go. omega (arith, goes_to t f f Short (omega arith) (nat_lt f t) refl go, d.within, own_ends pulses e own time, o, m)),
        )
    by_early None h ih =
        let q = (λ (u : ℕ) (a : e < u) (b : u < e + (sample_at + 1)). found_none (is_fall low) (e + 1) sample_at h u (omega arith) (omega arith)) in
        elim (cases_lt (e + sample_at) t) [
          | inl past ↦ elim (cases_lt (length bits) (length p.front)) [
            | inl lt ↦ by_after q past lt (after_slot low e (last_ending bits)) refl ih
            | inr ge ↦ absurd (not_here q past (omega arith))
          ]
          | inr ge ↦ (
              let g = known_unsampled low begin left xs bits e t r (λ u a b. q u a (omega arith)) l ge in
              (few_by (length p.front) _ _ (ap known_bits g ∙ reported_more xs bits (record { fall = e; bit = None }) r.reported ∙ append-nil bits) m, λ go. omega (arith, ge, own_ends pulses e own time, o, m)))
        ]
