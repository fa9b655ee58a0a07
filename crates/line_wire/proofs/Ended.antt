-- Until when those who follow hold the line once the reading has ended.
use Rattle.std.proofs.Common.{◌≡◌, ℕ, suc, ◌+◌, ◌-◌, ◌%◌, ◌<◌, ◌≤◌, Bool, true, false, not, ◌&&◌, ◌||◌, nat_lt, if◌then◌else◌, ◌==◌, List, [], ◌∷◌, ◌++◌, length, slice_index_or, take, append-nil, ◌⊎◌, inl, inr, Option, Some, None, Result, Ok, Err, min, refl, arith, ap, ◌∙◌, sym, subst}
use Rattle.std.specs.List.{list_any}
use Rattle.std.specs.Option.{option_to_list}
use Rattle.std.proofs.lemmas.Bool.{cases_lt}
use Rattle.std.proofs.lemmas.Bool.Decides.{nat_tests}
use Rattle.line_wave.specs.Line.{Line, is_fall, is_rise}
use Rattle.line_frames.specs.declared.Ending.{Ending}
use Rattle.line_frames.specs.declared.Ending.TheVariants.{Complete, Short, Silent, BadStart, Long}
use Rattle.line_reading.specs.Reading.After.{Next, Ends}
use Rattle.line_reading.specs.declared.receiver.ReceiverState.{ReceiverState}
use Rattle.line_reading.specs.declared.receiver.ReceiverState.TheVariants.{Rest, StartLow, StartHigh, Unsampled, Sampled}
use Rattle.line_reading.specs.declared.receiver.Told.{Told}
use Rattle.line_reading.specs.declared.receiver.Told.TheVariants.{Nothing, Bit, Last, Ended}
use Rattle.line_reading.specs.Reading.{End, Known, Slot, Read, known_at, known_slot, bit_sampled_at, sample, next_fall, reading_of, read_start, read_slots, start_of, start_rise, start_fall, after_slot, after_fall, after_last, last_ending, last_heard}
use Rattle.line_reading.specs.Hears.{Hears, Heard, reported_so, rest, starts, sample_as, hear_at}
use Rattle.line_reading.specs.Sending.{known_bits}
use Rattle.line_reading.proofs.AlongBy.{quiet_sample, reported_more}
use Rattle.line_reading.proofs.Causes.{start_risen}
use Rattle.line_reading.proofs.Search.{first_in_none, first_in_some}
use Rattle.line_rounds.specs.declared.Seat.{Seat}
use Rattle.line_rounds.specs.Round.{is_acknowledged, is_broken}
use Rattle.line_rounds.specs.Machine.{acks_after, acks_until, breaks_after, is_short}
use Rattle.line_rounds.proofs.Holding.{acks_now, breaks_now}
use Rattle.line_rounds.proofs.Inside.{known_here}
use Rattle.line_wire.specs.Pulls.{IsHeld, held_in}
use Rattle.line_wire.specs.Wire.{held_from}
use Rattle.line_wire.proofs.Along.{Reached, next_here, next_none}
use Rattle.line_wire.proofs.Lows.{reached_so, bad_whole, take_most}
use Rattle.line_reading.specs.Places.{StandsIn, runs_in}

-- from t on, for all instants after it
abbrev pub HoldsAfter : List Seat → Line → ℕ → ℕ → ℕ → Type 0
HoldsAfter seats low begin t held = (u : ℕ) → t < u → IsHeld seats low begin u held

-- ---- a bad start

bad_held : (seats : List Seat) (low : Line) (begin t at : ℕ) → start_of low begin ≡ Err at → HoldsAfter seats low begin t 0
bad_held seats low begin t at e u l =
    ap (λ (r : Read). is_acknowledged seats (known_at u r) u || is_broken seats (known_at u r) u (known_at u r).ended) (ap (read_start low begin) e)
    ∙ bad_whole seats u at (min at (begin + 4700)) (nat_lt (min at (begin + 4700)) u)

-- ---- a slot

acks_least : (b : Bool) (fall : ℕ) → (if b then fall + 1500 else 0) ≤ fall + 1500
acks_least true fall = omega arith
acks_least false fall = omega arith

slot_held : (seats : List Seat) (low : Line) (begin t left : ℕ) (xs : List Slot) (before bits : List Bool) (fall : ℕ) (ending : Ending) → Reached low begin (suc left) xs before fall → length xs ≡ length before → fall < t
    → after_slot low fall (last_ending before) ≡ Ends ending t → last_heard ending t ≤ t → bits ≡ before ++ option_to_list (bit_sampled_at low fall)
    → (fall + 1050 < t + 1) ⊎ (bit_sampled_at low fall ≡ None)
    → HoldsAfter seats low begin t (if is_short ending && list_any (breaks_after bits) seats then t + 3600 else acks_until seats before fall)
unfolding read_slots
slot_held seats low begin t left xs before bits fall ending r c l a heard b settled u later =
    ap (λ x. x || is_broken seats k u k.ended) (acks_now seats low begin left xs before fall u (reached_so low begin (suc left) xs before fall r) c (omega (arith, l, later)) slot (Some end) knows refl)
    ∙ breaks_now seats k bits u t t (last_heard ending t) (acks_until seats before fall) ending (ap (λ (n : Known). n.ended) knows) (ap known_bits knows ∙ reported_more xs before slot r.reported ∙ sym b) (λ s. refl)
    (let m = acks_least (((length before + 1) % 10 == 0) && list_any (acks_after before) seats) fall in omega (arith, m, l))
    ∙ ap (λ x. nat_lt u (if x && (is_short ending && list_any (breaks_after bits) seats) then t + 3600 else acks_until seats before fall)) (let e : (t == t) ≡ true = grind (arith, nat_tests) in e)
  where
    slot : Slot
    slot = record { fall = fall; bit = bit_sampled_at low fall }

    end : End
    end = record { ending = ending; at = t; until = last_heard ending t }

    k : Known
    k = known_at u (reading_of low begin)

    known_one : known_slot u slot ≡ slot
    known_one = by_settled settled
      where
        by_settled : (fall + 1050 < t + 1) ⊎ (bit_sampled_at low fall ≡ None) → known_slot u slot ≡ slot
        by_settled (inl h) = let e : nat_lt (fall + 1050) u ≡ true = grind (arith, nat_tests) in ap (λ x. let s : Slot = record { fall = fall; bit = if x then bit_sampled_at low fall else None } in s) e
        by_settled (inr h) = none_either (nat_lt (fall + 1050) u)
          where
            none_either : (x : Bool) → (let s : Slot = record { fall = fall; bit = if x then bit_sampled_at low fall else None } in s) ≡ slot
            none_either true = refl
            none_either false = ap (λ (o : Option Bool). let s : Slot = record { fall = fall; bit = o } in s) (sym h)

    knows : known_at u (reading_of low begin) ≡ record { slots = xs ++ slot ∷ []; ended = Some end }
    knows =
        let e : nat_lt (last_heard ending t) u ≡ true = grind (arith, nat_tests) in
        known_here low begin left xs before fall u (reached_so low begin (suc left) xs before fall r) (omega (arith, l, later)) (Ends ending t) a
        ∙ ap (λ x. let n : Known = record { slots = xs ++ known_slot u slot ∷ []; ended = if x then Some end else None } in n) e
        ∙ ap (λ (s : Slot). let n : Known = record { slots = xs ++ s ∷ []; ended = Some end } in n) known_one

-- a last slot ends so
not_short : (bits : List Bool) (ending : Ending) → last_ending bits ≡ Some ending → is_short ending ≡ false
not_short bits ending e = subst (λ (o : Option Ending). IsLong o) e long
  where
    IsLong : Option Ending → Type 0
    IsLong None = Unit {0}
    IsLong (Some x) = is_short x ≡ false

    long : IsLong (last_ending bits)
    long = elim (length bits % 10 == 9) as (λ a. IsLong (if a then (if slice_index_or bits (length bits - 1) false then Some Complete else if length bits == 159 then Some Long else None) else None)) [
      | true ↦ elim (slice_index_or bits (length bits - 1) false) as (λ b. IsLong (if b then Some Complete else if length bits == 159 then Some Long else None)) [
        | true ↦ refl
        | false ↦ elim (length bits == 159) as (λ c. IsLong (if c then Some Long else None)) [ true ↦ refl | false ↦ tt ]
      ]
      | false ↦ tt
    ]

-- ---- what a tick that ends the reading leaves

abbrev pub EndsHeld : List Seat → Line → ℕ → ℕ → ℕ → List Bool → Told → Type 0
EndsHeld seats low begin t held bits Nothing = Unit {0}
EndsHeld seats low begin t held bits (Bit slot value) = Unit {0}
EndsHeld seats low begin t held bits (Last value ending) = HoldsAfter seats low begin t (held_from seats bits (Last value ending) held t)
EndsHeld seats low begin t held bits (Ended ending) = HoldsAfter seats low begin t (held_from seats bits (Ended ending) held t)

fall_short : (low : Line) (fall t : ℕ) (last : Option Ending) → fall < t → ((u : ℕ) → fall < u → u < t → is_fall low u ≡ false) → is_fall low t ≡ true → t ≤ fall + 1050 → after_slot low fall last ≡ Ends Short t
fall_short low fall t None l q f n =
    ap (after_fall fall) (next_here low fall t 2750 q l (omega (arith, n)) f)
    ∙ ap (λ b. if b then Ends Short t else Next t) (let e : nat_lt t (fall + 2050) ≡ true = grind (arith, nat_tests) in e)
fall_short low fall t (Some ending) l q f n = ap (after_last fall ending) (next_here low fall t 1050 q l n f)

start_ends : (seats : List Seat) (low : Line) (t begin fall : ℕ) (bits : List Bool) → StandsIn low t StartLow begin fall bits
    → EndsHeld seats low begin t 0 bits (hear_at StartLow t (is_fall low t) (is_rise low t) (low t) (record { place = StartLow; begin = begin; fall = fall; bits = bits })).reported
unfolding StandsIn
start_ends seats low t begin fall bits s = by_late (nat_lt (begin + 3900) t) refl
  where
    go : Bool → Bool → Bool → Heard
    go x y z = if x then reported_so (starts t (is_fall low t)) (Ended BadStart)
        else if y then (if z then reported_so rest (Ended BadStart) else reported_so (record { place = StartHigh; begin = begin; fall = fall; bits = bits }) Nothing) else reported_so (record { place = StartLow; begin = begin; fall = fall; bits = bits }) Nothing

    by_soon : t ≤ begin + 3900 → is_rise low t ≡ true → (b : Bool) → nat_lt t (begin + 3500) ≡ b → EndsHeld seats low begin t 0 bits (go false true b).reported
    by_soon l e true k = bad_held seats low begin t t
        (ap (start_rise low begin) (first_in_some (is_rise low) (begin + 1) 3900 t (omega (arith, after e)) (omega arith) e (λ u a b. s.quiet u (omega arith) b))
        ∙ ap (λ b. if b then Err t else start_fall begin (next_fall low t (begin + 4700 - t))) k)
      where
        after : is_rise low t ≡ true → begin < t
        after e = s.begun.before
    by_soon l e false k = tt

    by_rise : t ≤ begin + 3900 → (b : Bool) → is_rise low t ≡ b → EndsHeld seats low begin t 0 bits (go false b (nat_lt t (begin + 3500))).reported
    by_rise l true e = by_soon l e (nat_lt t (begin + 3500)) refl
    by_rise l false e = tt

    by_late : (b : Bool) → nat_lt (begin + 3900) t ≡ b → EndsHeld seats low begin t 0 bits (go b (is_rise low t) (nat_lt t (begin + 3500))).reported
    by_late true k =
        let l : begin + 3900 < t = grind (arith, nat_tests) in
        bad_held seats low begin t (begin + 3901) (ap (start_rise low begin) (first_in_none (is_rise low) (begin + 1) 3900 (λ u a b. s.quiet u (omega arith) (omega (arith, b, l)))))
    by_late false k = by_rise (let l : t ≤ begin + 3900 = grind (arith, nat_tests) in l) (is_rise low t) refl

high_ends : (seats : List Seat) (low : Line) (t begin fall : ℕ) (bits : List Bool) → StandsIn low t StartHigh begin fall bits
    → EndsHeld seats low begin t 0 bits (hear_at StartHigh t (is_fall low t) (is_rise low t) (low t) (record { place = StartHigh; begin = begin; fall = fall; bits = bits })).reported
unfolding StandsIn
high_ends seats low t begin fall bits s = by_late (nat_lt (begin + 4700) t) refl
  where
    go : Bool → Bool → Bool → Heard
    go x y z = if x then reported_so (starts t (is_fall low t)) (Ended BadStart)
        else if y then (if z then reported_so rest (Ended BadStart) else reported_so (record { place = Unsampled; begin = begin; fall = t; bits = bits }) Nothing) else reported_so (record { place = StartHigh; begin = begin; fall = fall; bits = bits }) Nothing

    by_soon : t ≤ begin + 4700 → is_fall low t ≡ true → (b : Bool) → nat_lt t (begin + 4300) ≡ b → EndsHeld seats low begin t 0 bits (go false true b).reported
    by_soon l e true k = bad_held seats low begin t t
        (start_risen low begin s.rise s.found s.late
        ∙ ap (start_fall begin) (first_in_some (is_fall low) (s.rise + 1) (begin + 4700 - s.rise) t (omega (arith, s.after)) (omega (arith, l, s.near)) e (λ u a b. s.quiet u (omega arith) b))
        ∙ ap (λ b. let r : Result ℕ ℕ = if b then Err t else Ok t in r) k)
    by_soon l e false k = tt

    by_fall : t ≤ begin + 4700 → (b : Bool) → is_fall low t ≡ b → EndsHeld seats low begin t 0 bits (go false b (nat_lt t (begin + 4300))).reported
    by_fall l true e = by_soon l e (nat_lt t (begin + 4300)) refl
    by_fall l false e = tt

    by_late : (b : Bool) → nat_lt (begin + 4700) t ≡ b → EndsHeld seats low begin t 0 bits (go b (is_fall low t) (nat_lt t (begin + 4300))).reported
    by_late true k =
        let l : begin + 4700 < t = grind (arith, nat_tests) in
        bad_held seats low begin t (begin + 4701)
        (start_risen low begin s.rise s.found s.late ∙ ap (start_fall begin) (first_in_none (is_fall low) (s.rise + 1) (begin + 4700 - s.rise) (λ u a b. s.quiet u (omega arith) (omega (arith, b, l, s.near)))))
    by_late false k = by_fall (let l : t ≤ begin + 4700 = grind (arith, nat_tests) in l) (is_fall low t) refl

unsampled_ends : (seats : List Seat) (low : Line) (t begin fall : ℕ) (bits : List Bool) → StandsIn low t Unsampled begin fall bits
    → EndsHeld seats low begin t (acks_until seats bits fall) bits (hear_at Unsampled t (is_fall low t) (is_rise low t) (low t) (record { place = Unsampled; begin = begin; fall = fall; bits = bits })).reported
unfolding StandsIn
unsampled_ends seats low t begin fall bits s = by_fall (is_fall low t) refl
  where
    h : Hears
    h = record { place = Unsampled; begin = begin; fall = fall; bits = bits }

    go : Bool → Bool → Option Ending → Heard
    go x y last = if x then reported_so rest (Ended Short) else if y then sample_as last (not (low t)) (record { place = Unsampled; begin = begin; fall = fall; bits = bits })
        else reported_so (record { place = Unsampled; begin = begin; fall = fall; bits = bits }) Nothing

    by_last : t ≡ fall + 1050 → is_fall low t ≡ false → (o : Option Ending) → last_ending bits ≡ o → EndsHeld seats low begin t (acks_until seats bits fall) bits (go false true o).reported
    by_last l f None e = tt
    by_last l f (Some ending) e =
        subst (λ b. HoldsAfter seats low begin t (if b && list_any (breaks_after (bits ++ option_to_list (bit_sampled_at low fall))) seats then t + 3600 else acks_until seats bits fall)) (not_short bits ending e)
        (slot_held seats low begin t s.slot.left s.slot.xs bits (bits ++ option_to_list (bit_sampled_at low fall)) fall ending s.slot.reached s.slot.count s.slot.after ends (last_heard_is ending) refl (inl (omega (arith, l))))
      where
        last_heard_is : (x : Ending) → last_heard x t ≤ t
        last_heard_is Complete = omega arith
        last_heard_is Short = omega arith
        last_heard_is Silent = omega arith
        last_heard_is BadStart = omega arith
        last_heard_is Long = omega arith
        last_heard_is x = omega arith

        ends : after_slot low fall (last_ending bits) ≡ Ends ending t
        ends = ap (after_slot low fall) e
            ∙ ap (after_last fall ending) (next_none low fall (t + 1) 1050 (λ u a b. by_now u a b (is_now u b)) (omega (arith, l)))
            ∙ ap (λ n. Ends ending n) (sym l)
          where
            is_now : (u : ℕ) → u < t + 1 → (u < t) ⊎ (u ≡ t)
            is_now u b = elim (cases_lt u t) [ inl lt ↦ inl lt | inr ge ↦ inr (omega arith) ]

            by_now : (u : ℕ) → fall < u → u < t + 1 → (u < t) ⊎ (u ≡ t) → is_fall low u ≡ false
            by_now u a b (inl lt) = s.slot.quiet u a lt
            by_now u a b (inr same) = ap (is_fall low) same ∙ f

    by_time : is_fall low t ≡ false → (b : Bool) → (t == fall + 1050) ≡ b → EndsHeld seats low begin t (acks_until seats bits fall) bits (go false b (last_ending bits)).reported
    by_time f true e = by_last (let x : t ≡ fall + 1050 = grind (arith, nat_tests) in x) f (last_ending bits) refl
    by_time f false e = tt

    by_fall : (b : Bool) → is_fall low t ≡ b → EndsHeld seats low begin t (acks_until seats bits fall) bits (go b (t == fall + 1050) (last_ending bits)).reported
    by_fall true f =
        let none : bit_sampled_at low fall ≡ None = ap (sample low fall) (next_here low fall t 1050 s.slot.quiet s.slot.after s.early f) in
        slot_held seats low begin t s.slot.left s.slot.xs bits bits fall Short s.slot.reached s.slot.count s.slot.after
        (fall_short low fall t (last_ending bits) s.slot.after s.slot.quiet f s.early) (omega arith)
        (sym (append-nil bits) ∙ ap (λ (o : Option Bool). bits ++ option_to_list o) (sym none)) (inr none)
    by_fall false f = by_time f (t == fall + 1050) refl

sampled_ends : (seats : List Seat) (low : Line) (t begin fall : ℕ) (bits : List Bool) → StandsIn low t Sampled begin fall bits
    → EndsHeld seats low begin t (held_in seats Sampled fall bits) bits (hear_at Sampled t (is_fall low t) (is_rise low t) (low t) (record { place = Sampled; begin = begin; fall = fall; bits = bits })).reported
unfolding StandsIn
sampled_ends seats low t begin fall bits s =
    subst (λ (bs : List Bool). EndsHeld seats low begin t (acks_until seats bs fall) bits (go (nat_lt (fall + 2750) t) (is_fall low t) (nat_lt t (fall + 2050))).reported)
    (sym (ap (λ (bs : List Bool). take_but bs) s.reported ∙ take_most s.before (not (low (fall + 1050)))))
    (by_late (nat_lt (fall + 2750) t) refl)
  where
    take_but : List Bool → List Bool
    take_but bs = take (length bs - 1) bs

    go : Bool → Bool → Bool → Heard
    go x y z = if x then reported_so (starts t (is_fall low t)) (Ended Silent)
        else if y then (if z then reported_so rest (Ended Short) else reported_so (record { place = Unsampled; begin = begin; fall = t; bits = bits }) Nothing) else reported_so (record { place = Sampled; begin = begin; fall = fall; bits = bits }) Nothing

    read : bits ≡ s.before ++ option_to_list (bit_sampled_at low fall)
    read = s.reported ∙ ap (λ (o : Option Bool). s.before ++ option_to_list o) (sym (quiet_sample low fall (λ u a b. s.slot.quiet u a (omega (arith, b, s.past)))))

    by_soon : is_fall low t ≡ true → t ≤ fall + 2750 → (b : Bool) → nat_lt t (fall + 2050) ≡ b → EndsHeld seats low begin t (acks_until seats s.before fall) bits (go false true b).reported
    by_soon f l true e =
        slot_held seats low begin t s.slot.left s.slot.xs s.before bits fall Short s.slot.reached s.slot.count s.slot.after
        (ap (after_slot low fall) s.plain ∙ ap (after_fall fall) (next_here low fall t 2750 s.slot.quiet s.slot.after l f) ∙ ap (λ b. if b then Ends Short t else Next t) e)
        (omega arith) read (inl (omega (arith, s.past)))
    by_soon f l false e = tt

    by_fall : t ≤ fall + 2750 → (b : Bool) → is_fall low t ≡ b → EndsHeld seats low begin t (acks_until seats s.before fall) bits (go false b (nat_lt t (fall + 2050))).reported
    by_fall l true f = by_soon f l (nat_lt t (fall + 2050)) refl
    by_fall l false f = tt

    by_late : (b : Bool) → nat_lt (fall + 2750) t ≡ b → EndsHeld seats low begin t (acks_until seats s.before fall) bits (go b (is_fall low t) (nat_lt t (fall + 2050))).reported
    by_late true e =
        let l : t ≡ fall + 2751 = (let n = s.early in let x : fall + 2750 < t = grind (arith, nat_tests) in omega (arith, x, n)) in
        slot_held seats low begin t s.slot.left s.slot.xs s.before bits fall Silent s.slot.reached s.slot.count s.slot.after
        (ap (after_slot low fall) s.plain ∙ ap (after_fall fall) (next_none low fall t 2750 s.slot.quiet (omega (arith, l))) ∙ ap (λ n. Ends Silent n) (sym l))
        (omega arith) read (inl (omega (arith, s.past)))
    by_late false e = by_fall (let x : t ≤ fall + 2750 = grind (arith, nat_tests) in x) (is_fall low t) refl

pub ends_held : (seats : List Seat) (low : Line) (t : ℕ) (place : ReceiverState) (begin fall : ℕ) (bits : List Bool) (b : ℕ) → StandsIn low t place begin fall bits → runs_in place begin ≡ Some b
    → EndsHeld seats low begin t (held_in seats place fall bits) bits (hear_at place t (is_fall low t) (is_rise low t) (low t) (record { place = place; begin = begin; fall = fall; bits = bits })).reported
ends_held seats low t Rest begin fall bits b s e = cc
ends_held seats low t StartLow begin fall bits b s e = start_ends seats low t begin fall bits s
ends_held seats low t StartHigh begin fall bits b s e = high_ends seats low t begin fall bits s
ends_held seats low t Unsampled begin fall bits b s e = unsampled_ends seats low t begin fall bits s
ends_held seats low t Sampled begin fall bits b s e = sampled_ends seats low t begin fall bits s
