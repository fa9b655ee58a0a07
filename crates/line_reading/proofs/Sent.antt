-- How long a sender goes on, told by told.
use Rattle.std.proofs.Common.{◌≡◌, ℕ, zero, suc, ◌+◌, ◌-◌, ◌*◌, ◌%◌, ◌==◌, ◌<◌, ◌≤◌, Bool, true, false, not, ◌&&◌, nat_lt, nat_le, if◌then◌else◌, List, [], ◌∷◌, ◌++◌, length, length-append, slice_index_or, is_none, inl, inr, Option, Some, None, refl, arith, ap, ◌∙◌, sym, subst}
use mathlib.Core.Bool.{beq}
use Rattle.std.specs.List.{find, range_with_len}
use Rattle.std.proofs.Math.ListN.{get_or-append}
use Rattle.std.proofs.Math.Seq.{get_or-append_seam}
use Rattle.std.proofs.lemmas.Bool.{cases_lt}
use Rattle.std.proofs.lemmas.Bool.Decides.{nat_tests}
use Rattle.line_wave.specs.Line.{Line, line_of, was_low}
use Rattle.line_wave.specs.Sender.{sender_stretches}
use Rattle.line_frames.specs.Bits.{frame_bits}
use Rattle.line_frames.specs.declared.Ending.{Ending}
use Rattle.line_frames.specs.declared.Ending.TheVariants.{Short, Silent, BadStart}
use Rattle.line_reading.specs.declared.receiver.ReceiverState.{ReceiverState}
use Rattle.line_reading.specs.declared.receiver.ReceiverState.TheVariants.{Rest, StartLow, StartHigh, Unsampled, Sampled}
use Rattle.line_reading.specs.declared.receiver.Told.{Told}
use Rattle.line_reading.specs.declared.receiver.Told.TheVariants.{Nothing, Bit, Last, Ended}
use Rattle.line_reading.specs.declared.sender.SenderState.{SenderState}
use Rattle.line_reading.specs.declared.sender.SenderState.TheVariants.{Sending, Out, Stopped}
use Rattle.line_reading.specs.Windows.{standard, sample_at}
use Rattle.line_reading.specs.Reading.{Known, known_at, read_slots, reading_of, last_ending}
use Rattle.line_reading.specs.Hears.{Hears, Heard, reported_so, rest, starts, sample_as, hear_at, hear_in, hears}
use Rattle.line_reading.specs.Kept.{running_of, reported_at}
use Rattle.line_reading.specs.Sends.{sent_in, takes_all, is_out_there, after_reported}
use Rattle.line_reading.specs.Sending.{bit_read, destination, is_whole, is_out_by, out_by, out_slot, state_by, state_before, may_pull, goes_on, IsBefore, StopsAt, SendersGoByReports, SilenceChangesNoSender, SendersPullByRound}
use Rattle.line_reading.proofs.Causes.{known_start_low}
use Rattle.line_reading.proofs.Ends.{until_by, ends_after}
use Rattle.line_reading.proofs.Stood.{step, stands_at}
use Rattle.line_reading.proofs.Keeping.{running_knows, runs_so, reported_heard}
use Rattle.line_reading.specs.Known.{nothing}
use Rattle.line_reading.specs.Places.{StandsIn, runs_in, Knows, KnowsEnd}

-- ---- the first slot that tells it to stop, with one more bit

first_or : Option ℕ → Option ℕ → Option ℕ
first_or None later = later
first_or (Some n) later = Some n

find_more : (p : ℕ → Bool) (a m : ℕ) → find p (range_with_len a (suc m)) ≡ first_or (find p (range_with_len a m)) (if p (a + m) then Some (a + m) else None)
unfolding first_or
find_more p a zero = ap (λ n. let o : Option ℕ = if p n then Some n else None in o) (let x : a ≡ a + zero = omega arith in x)
find_more p a (suc m) = by_test (p a) (find_more p (a + 1) m)
  where
    by_test : (b : Bool) → find p (range_with_len (a + 1) (suc m)) ≡ first_or (find p (range_with_len (a + 1) m)) (if p (a + 1 + m) then Some (a + 1 + m) else None)
        → (if b then Some a else find p (range_with_len (a + 1) (suc m))) ≡ first_or (if b then Some a else find p (range_with_len (a + 1) m)) (if p (a + suc m) then Some (a + suc m) else None)
    by_test true r = refl
    by_test false r = r ∙ ap (λ n. first_or (find p (range_with_len (a + 1) m)) (if p n then Some n else None)) (let y : a + 1 + m ≡ a + suc m = omega arith in y)

find_same : (p q : ℕ → Bool) (a m : ℕ) → ((n : ℕ) → a ≤ n → n < a + m → p n ≡ q n) → find p (range_with_len a m) ≡ find q (range_with_len a m)
find_same p q a zero h = refl
find_same p q a (suc m) h = by_test (q a) refl (find_same p q (a + 1) m (λ n l k. h n (omega arith) (omega arith)))
  where
    by_test : (b : Bool) → q a ≡ b → find p (range_with_len (a + 1) m) ≡ find q (range_with_len (a + 1) m) → find p (a ∷ range_with_len (a + 1) m) ≡ find q (a ∷ range_with_len (a + 1) m)
    by_test true e r = let x : p a ≡ true = h a (omega arith) (omega arith) ∙ e in rw (e, x) refl
    by_test false e r = let x : p a ≡ false = h a (omega arith) (omega arith) ∙ e in rw (e, x) r

none_found : (p : ℕ → Bool) (a m : ℕ) → find p (range_with_len a m) ≡ None → (n : ℕ) → a ≤ n → n < a + m → p n ≡ false
none_found p a zero h n l k = absurd (omega arith)
none_found p a (suc m) h n l k = step_ (p a) refl h (λ g m2 l2 k2. none_found p (a + 1) m g m2 l2 k2)
  where
    step_ : (b : Bool) → p a ≡ b → (if b then Some a else find p (range_with_len (a + 1) m)) ≡ None
        → (find p (range_with_len (a + 1) m) ≡ None → (x : ℕ) → a + 1 ≤ x → x < a + 1 + m → p x ≡ false) → p n ≡ false
    step_ true e g r = cc
    step_ false e g r = elim (cases_lt a n) [ inl lt ↦ r g n (omega arith) (omega arith) | inr ge ↦ let s : n ≡ a = omega arith in rw s e ]

-- ---- the destination

dest_more : (bits ys : List Bool) → 8 ≤ length bits → destination (bits ++ ys) ≡ destination bits
dest_more [] ys h = absurd (omega (arith, h))
dest_more (a ∷ []) ys h = absurd (omega (arith, h))
dest_more (a ∷ b ∷ []) ys h = absurd (omega (arith, h))
dest_more (a ∷ b ∷ c ∷ []) ys h = absurd (omega (arith, h))
dest_more (a ∷ b ∷ c ∷ d ∷ []) ys h = absurd (omega (arith, h))
dest_more (a ∷ b ∷ c ∷ d ∷ e ∷ []) ys h = absurd (omega (arith, h))
dest_more (a ∷ b ∷ c ∷ d ∷ e ∷ f ∷ []) ys h = absurd (omega (arith, h))
dest_more (a ∷ b ∷ c ∷ d ∷ e ∷ f ∷ g ∷ []) ys h = absurd (omega (arith, h))
dest_more (a ∷ b ∷ c ∷ d ∷ e ∷ f ∷ g ∷ k ∷ bits) ys h = refl

fifteen : (e f g k : Bool) → (2 * (2 * (2 * (2 * 0 + (if e then 1 else 0)) + (if f then 1 else 0)) + (if g then 1 else 0)) + (if k then 1 else 0) == 15) ≡ (e && (f && (g && k)))
fifteen true true true true = refl
fifteen true true true false = refl
fifteen true true false true = refl
fifteen true true false false = refl
fifteen true false true true = refl
fifteen true false true false = refl
fifteen true false false true = refl
fifteen true false false false = refl
fifteen false true true true = refl
fifteen false true true false = refl
fifteen false true false true = refl
fifteen false true false false = refl
fifteen false false true true = refl
fifteen false false true false = refl
fifteen false false false true = refl
fifteen false false false false = refl

dest_all : (bits : List Bool) → 8 ≤ length bits → (destination bits == 15) ≡ (bit_read bits 5 && (bit_read bits 6 && (bit_read bits 7 && bit_read bits 8)))
dest_all [] h = absurd (omega (arith, h))
dest_all (a ∷ []) h = absurd (omega (arith, h))
dest_all (a ∷ b ∷ []) h = absurd (omega (arith, h))
dest_all (a ∷ b ∷ c ∷ []) h = absurd (omega (arith, h))
dest_all (a ∷ b ∷ c ∷ d ∷ []) h = absurd (omega (arith, h))
dest_all (a ∷ b ∷ c ∷ d ∷ e ∷ []) h = absurd (omega (arith, h))
dest_all (a ∷ b ∷ c ∷ d ∷ e ∷ f ∷ []) h = absurd (omega (arith, h))
dest_all (a ∷ b ∷ c ∷ d ∷ e ∷ f ∷ g ∷ []) h = absurd (omega (arith, h))
dest_all (a ∷ b ∷ c ∷ d ∷ e ∷ f ∷ g ∷ k ∷ bits) h = fifteen e f g k

-- ---- more slots change nothing of the earlier ones

one_more : (bits : List Bool) (v : Bool) → length (bits ++ v ∷ []) ≡ length bits + 1
one_more bits v = length-append bits (v ∷ [])

out_more : (bits : List Bool) (v whole : Bool) (sent : List Bool) (n : ℕ) → 1 ≤ n → n < 1 + length bits → is_out_by (bits ++ v ∷ []) whole sent n ≡ is_out_by bits false sent n
out_more bits v whole sent n l k = by_ack (n % 10 == 0) refl
  where
    same : bit_read (bits ++ v ∷ []) n ≡ bit_read bits n
    same = get_or-append bits (v ∷ []) false (n - 1) (omega arith)

    not_last : (whole && (n == length (bits ++ v ∷ []))) ≡ false
    not_last = ap (λ b. whole && b) (let m = one_more bits v in let x : (n == length (bits ++ v ∷ [])) ≡ false = grind (arith, nat_tests) in x) ∙ and_no whole
      where
        and_no : (b : Bool) → (b && false) ≡ false
        and_no true = refl
        and_no false = refl

    by_ack : (c : Bool) → (n % 10 == 0) ≡ c
        → (if c then not (whole && (n == length (bits ++ v ∷ []))) && not (beq (bit_read (bits ++ v ∷ []) n) (destination (bits ++ v ∷ []) == 15)) else not (beq (bit_read (bits ++ v ∷ []) n) (slice_index_or sent (n - 1) false)))
        ≡ (if c then not (false && (n == length bits)) && not (beq (bit_read bits n) (destination bits == 15)) else not (beq (bit_read bits n) (slice_index_or sent (n - 1) false)))
    by_ack true e =
        let z : n % 10 ≡ 0 = grind (arith, nat_tests) in
        ap (λ b. not b && not (beq (bit_read (bits ++ v ∷ []) n) (destination (bits ++ v ∷ []) == 15))) not_last
        ∙ ap (λ b. not (beq b (destination (bits ++ v ∷ []) == 15))) same ∙ ap (λ d. not (beq (bit_read bits n) (d == 15))) (dest_more bits (v ∷ []) (omega arith))
    by_ack false e = ap (λ b. not (beq b (slice_index_or sent (n - 1) false))) same

out_by_more : (bits : List Bool) (v whole : Bool) (sent : List Bool)
    → out_by (bits ++ v ∷ []) whole sent ≡ first_or (out_by bits false sent) (if is_out_by (bits ++ v ∷ []) whole sent (1 + length bits) then Some (1 + length bits) else None)
out_by_more bits v whole sent =
    ap (λ m. find (is_out_by (bits ++ v ∷ []) whole sent) (range_with_len 1 m)) (one_more bits v ∙ (let x : length bits + 1 ≡ suc (length bits) = omega arith in x))
    ∙ find_more (is_out_by (bits ++ v ∷ []) whole sent) 1 (length bits)
    ∙ ap (λ o. first_or o (if is_out_by (bits ++ v ∷ []) whole sent (1 + length bits) then Some (1 + length bits) else None))
    (find_same (is_out_by (bits ++ v ∷ []) whole sent) (is_out_by bits false sent) 1 (length bits) (λ n l k. out_more bits v whole sent n l k))

-- ---- the bits of one who sends still are its own

not_same : (a b : Bool) → not (beq a b) ≡ false → a ≡ b
not_same true true h = refl
not_same false false h = refl
not_same true false h = cc
not_same false true h = cc

sends_same : (bits sent : List Bool) → out_by bits false sent ≡ None → 8 ≤ length bits → (destination bits == 15) ≡ takes_all sent
sends_same bits sent h l =
    dest_all bits l
    ∙ ap (λ b. b && (bit_read bits 6 && (bit_read bits 7 && bit_read bits 8))) (not_same (bit_read bits 5) (sent_in sent 5) (none_found (is_out_by bits false sent) 1 (length bits) h 5 (omega arith) (omega (arith, l))))
    ∙ ap (λ b. sent_in sent 5 && (b && (bit_read bits 7 && bit_read bits 8))) (not_same (bit_read bits 6) (sent_in sent 6) (none_found (is_out_by bits false sent) 1 (length bits) h 6 (omega arith) (omega (arith, l))))
    ∙ ap (λ b. sent_in sent 5 && (sent_in sent 6 && (b && bit_read bits 8))) (not_same (bit_read bits 7) (sent_in sent 7) (none_found (is_out_by bits false sent) 1 (length bits) h 7 (omega arith) (omega (arith, l))))
    ∙ ap (λ b. sent_in sent 5 && (sent_in sent 6 && (sent_in sent 7 && b))) (not_same (bit_read bits 8) (sent_in sent 8) (none_found (is_out_by bits false sent) 1 (length bits) h 8 (omega arith) (omega (arith, l))))

last_read : (bits : List Bool) (v : Bool) → bit_read (bits ++ v ∷ []) (1 + length bits) ≡ v
last_read bits v = ap (λ n. slice_index_or (bits ++ v ∷ []) n false) (let x : 1 + length bits - 1 ≡ length bits = omega arith in x) ∙ get_or-append_seam bits v [] false

-- whether the next bit tells it to stop, by its own bits
out_now : (bits sent : List Bool) (v : Bool) → out_by bits false sent ≡ None → is_out_by (bits ++ v ∷ []) false sent (1 + length bits) ≡ is_out_there sent (1 + length bits) v
out_now bits sent v h = by_ack ((1 + length bits) % 10 == 0) refl
  where
    by_ack : (c : Bool) → ((1 + length bits) % 10 == 0) ≡ c
        → (if c then not (false && (1 + length bits == length (bits ++ v ∷ []))) && not (beq (bit_read (bits ++ v ∷ []) (1 + length bits)) (destination (bits ++ v ∷ []) == 15))
        else not (beq (bit_read (bits ++ v ∷ []) (1 + length bits)) (slice_index_or sent (1 + length bits - 1) false)))
        ≡ (if c then not (beq v (takes_all sent)) else not (beq v (sent_in sent (1 + length bits))))
    by_ack true e =
        let z : (1 + length bits) % 10 ≡ 0 = grind (arith, nat_tests) in
        let l : 8 ≤ length bits = omega arith in
        ap (λ b. not (beq b (destination (bits ++ v ∷ []) == 15))) (last_read bits v) ∙ ap (λ d. not (beq v (d == 15))) (dest_more bits (v ∷ []) l) ∙ ap (λ b. not (beq v b)) (sends_same bits sent h l)
    by_ack false e = ap (λ b. not (beq b (slice_index_or sent (1 + length bits - 1) false))) (last_read bits v)

-- the slot that ends the reading with all its blocks stops nobody before
out_last : (bits sent : List Bool) (v : Bool) → length bits % 10 ≡ 9 → is_out_by (bits ++ v ∷ []) true sent (1 + length bits) ≡ false
out_last bits sent v h =
    ap (λ c. if c then not (true && (1 + length bits == length (bits ++ v ∷ []))) && not (beq (bit_read (bits ++ v ∷ []) (1 + length bits)) (destination (bits ++ v ∷ []) == 15))
    else not (beq (bit_read (bits ++ v ∷ []) (1 + length bits)) (slice_index_or sent (1 + length bits - 1) false))) (let z : (1 + length bits) % 10 ≡ 0 = omega (arith, h) in let x : ((1 + length bits) % 10 == 0) ≡ true = grind (arith, nat_tests) in x)
    ∙ ap (λ b. not b && not (beq (bit_read (bits ++ v ∷ []) (1 + length bits)) (destination (bits ++ v ∷ []) == 15))) (let m = one_more bits v in let x : (1 + length bits == length (bits ++ v ∷ [])) ≡ true = grind (arith, nat_tests) in x)

-- ---- what a microsecond leads to, while the reading runs

abbrev pub GoesBy : ℕ → List Bool → Hears → Told → Type 0
GoesBy begin bits h Nothing = (runs_in h.place h.begin ≡ Some begin) × (h.bits ≡ bits)
GoesBy begin bits h (Bit slot value) = (runs_in h.place h.begin ≡ Some begin) × (h.bits ≡ bits ++ value ∷ []) × (slot ≡ length bits + 1)
GoesBy begin bits h (Last value ending) = Unit {0}
GoesBy begin bits h (Ended ending) = Unit {0}

pub goes_by : (n : ℕ) (place : ReceiverState) (begin fall : ℕ) (bits : List Bool) (falls rises is_low : Bool) (b : ℕ) → runs_in place begin ≡ Some b
    → GoesBy begin bits (hear_at place n falls rises is_low (record { place = place; begin = begin; fall = fall; bits = bits })).state (hear_at place n falls rises is_low (record { place = place; begin = begin; fall = fall; bits = bits })).reported
goes_by n Rest begin fall bits falls rises is_low b e = cc
goes_by n StartLow begin fall bits falls rises is_low b e = by_tests (nat_lt (begin + standard.start_low.most) n) rises (nat_lt n (begin + standard.start_low.least))
  where
    go : Bool → Bool → Bool → Heard
    go x y z = if x then reported_so (starts n falls) (Ended BadStart)
        else if y then (if z then reported_so rest (Ended BadStart) else reported_so (record { place = StartHigh; begin = begin; fall = fall; bits = bits }) Nothing) else reported_so (record { place = StartLow; begin = begin; fall = fall; bits = bits }) Nothing

    by_tests : (x y z : Bool) → GoesBy begin bits (go x y z).state (go x y z).reported
    by_tests true y z = tt
    by_tests false true true = tt
    by_tests false true false = (refl, refl)
    by_tests false false z = (refl, refl)
goes_by n StartHigh begin fall bits falls rises is_low b e = by_tests (nat_lt (begin + standard.start_total.most) n) falls (nat_lt n (begin + standard.start_total.least))
  where
    go : Bool → Bool → Bool → Heard
    go x y z = if x then reported_so (starts n falls) (Ended BadStart)
        else if y then (if z then reported_so rest (Ended BadStart) else reported_so (record { place = Unsampled; begin = begin; fall = n; bits = bits }) Nothing) else reported_so (record { place = StartHigh; begin = begin; fall = fall; bits = bits }) Nothing

    by_tests : (x y z : Bool) → GoesBy begin bits (go x y z).state (go x y z).reported
    by_tests true y z = tt
    by_tests false true true = tt
    by_tests false true false = (refl, refl)
    by_tests false false z = (refl, refl)
goes_by n Unsampled begin fall bits falls rises is_low b e = by_tests falls (n == fall + sample_at) (last_ending bits)
  where
    h : Hears
    h = record { place = Unsampled; begin = begin; fall = fall; bits = bits }

    go : Bool → Bool → Option Ending → Heard
    go x y last = if x then reported_so rest (Ended Short) else if y then sample_as last (not is_low) (record { place = Unsampled; begin = begin; fall = fall; bits = bits })
        else reported_so (record { place = Unsampled; begin = begin; fall = fall; bits = bits }) Nothing

    by_tests : (x y : Bool) (last : Option Ending) → GoesBy begin bits (go x y last).state (go x y last).reported
    by_tests true y last = tt
    by_tests false true None = (refl, refl, refl)
    by_tests false true (Some ending) = tt
    by_tests false false last = (refl, refl)
goes_by n Sampled begin fall bits falls rises is_low b e = by_tests (nat_lt (fall + standard.bit_total.most) n) falls (nat_lt n (fall + standard.bit_total.least))
  where
    go : Bool → Bool → Bool → Heard
    go x y z = if x then reported_so (starts n falls) (Ended Silent)
        else if y then (if z then reported_so rest (Ended Short) else reported_so (record { place = Unsampled; begin = begin; fall = n; bits = bits }) Nothing) else reported_so (record { place = Sampled; begin = begin; fall = fall; bits = bits }) Nothing

    by_tests : (x y z : Bool) → GoesBy begin bits (go x y z).state (go x y z).reported
    by_tests true y z = tt
    by_tests false true true = tt
    by_tests false true false = (refl, refl)
    by_tests false false z = (refl, refl)

-- ---- the state, by what is known

state_known : (low : Line) (n begin : ℕ) (bits : List Bool) (whole over : Bool) (sent : List Bool) → Knows low n begin bits whole over → state_before low begin sent n ≡ state_by (out_by bits whole sent) over
unfolding read_slots
state_known low n begin bits whole over sent k =
    ap (λ (bs : List Bool). state_by (out_by bs (is_whole (known_at n (reading_of low begin)).ended) sent) (nat_lt (reading_of low begin).at n)) k.bits_are
    ∙ ap (λ w. state_by (out_by bits w sent) (nat_lt (reading_of low begin).at n)) k.whole_is
    ∙ ap (λ o. state_by (out_by bits whole sent) o) k.over_is

-- with a bit
with_bit : (bits sent : List Bool) (v : Bool) (slot : ℕ) → slot ≡ length bits + 1 → state_by (out_by (bits ++ v ∷ []) false sent) false ≡ after_reported sent (state_by (out_by bits false sent) false) (Bit slot v)
unfolding first_or
with_bit bits sent v slot e = ap (λ o. state_by o false) (out_by_more bits v false sent) ∙ by_out (out_by bits false sent) refl
  where
    by_test : (b : Bool) (m : ℕ) → 1 + length bits ≡ m → state_by (if b then Some (1 + length bits) else None) false ≡ (if b then Out m else Sending)
    by_test true m s = ap (λ (x : ℕ). Out x) s
    by_test false m s = refl

    by_out : (o : Option ℕ) → out_by bits false sent ≡ o
        → state_by (first_or o (if is_out_by (bits ++ v ∷ []) false sent (1 + length bits) then Some (1 + length bits) else None)) false ≡ after_reported sent (state_by o false) (Bit slot v)
    by_out (Some m) h = refl
    by_out None h =
        let s : 1 + length bits ≡ slot = omega (arith, e) in
        by_test (is_out_by (bits ++ v ∷ []) false sent (1 + length bits)) slot s
        ∙ ap (λ b. let x : SenderState = if b then Out slot else Sending in x) (out_now bits sent v h ∙ ap (λ m. is_out_there sent m v) s)

with_last : (bits sent : List Bool) (v : Bool) (ending : Ending) → length bits % 10 ≡ 9 → state_by (out_by (bits ++ v ∷ []) true sent) true ≡ after_reported sent (state_by (out_by bits false sent) false) (Last v ending)
unfolding first_or
with_last bits sent v ending h =
    ap (λ o. state_by o true) (out_by_more bits v true sent)
    ∙ ap (λ b. state_by (first_or (out_by bits false sent) (if b then Some (1 + length bits) else None)) true) (out_last bits sent v h)
    ∙ by_out (out_by bits false sent)
  where
    by_out : (o : Option ℕ) → state_by (first_or o None) true ≡ after_reported sent (state_by o false) (Last v ending)
    by_out (Some m) = refl
    by_out None = refl

with_end : (o : Option ℕ) (sent : List Bool) (ending : Ending) → state_by o true ≡ after_reported sent (state_by o false) (Ended ending)
with_end (Some m) sent ending = refl
with_end None sent ending = refl

with_none : (o : Option ℕ) (sent : List Bool) → state_by o false ≡ after_reported sent (state_by o false) Nothing
with_none (Some m) sent = refl
with_none None sent = refl

-- what n reports of the reading that runs
report_state : (low : Line) (n begin : ℕ) (bits : List Bool) (sent : List Bool) (h : Hears) (reported : Told) → Knows low n begin bits false false → KnowsEnd low n begin bits reported → GoesBy begin bits h reported
    → ((bs : List Bool) → runs_in h.place h.begin ≡ Some begin → h.bits ≡ bs → Knows low (n + 1) begin bs false false)
    → state_before low begin sent (n + 1) ≡ after_reported sent (state_before low begin sent n) reported
report_state low n begin bits sent h Nothing k e g later =
    state_known low (n + 1) begin bits false false sent (later bits g.0 g.1) ∙ with_none (out_by bits false sent) sent ∙ ap (λ s. after_reported sent s Nothing) (sym (state_known low n begin bits false false sent k))
report_state low n begin bits sent h (Bit slot v) k e g later =
    state_known low (n + 1) begin (bits ++ v ∷ []) false false sent (later (bits ++ v ∷ []) g.0 g.1) ∙ with_bit bits sent v slot g.2
    ∙ ap (λ s. after_reported sent s (Bit slot v)) (sym (state_known low n begin bits false false sent k))
report_state low n begin bits sent h (Last v ending) k e g later =
    state_known low (n + 1) begin (bits ++ v ∷ []) true true sent e.0 ∙ with_last bits sent v ending e.1
    ∙ ap (λ s. after_reported sent s (Last v ending)) (sym (state_known low n begin bits false false sent k))
report_state low n begin bits sent h (Ended ending) k e g later =
    state_known low (n + 1) begin bits false true sent e ∙ with_end (out_by bits false sent) sent ending
    ∙ ap (λ s. after_reported sent s (Ended ending)) (sym (state_known low n begin bits false false sent k))

begin_is : (place : ReceiverState) (begin b : ℕ) → runs_in place begin ≡ Some b → begin ≡ b
begin_is Rest begin b e = cc
begin_is StartLow begin b e = cc
begin_is StartHigh begin b e = cc
begin_is Unsampled begin b e = cc
begin_is Sampled begin b e = cc

knows_of : (low : Line) (n : ℕ) (h : Hears) (b : ℕ) (bs : List Bool) → StandsIn low n h.place h.begin h.fall h.bits → runs_in h.place h.begin ≡ Some b → h.bits ≡ bs → Knows low n b bs false false
knows_of low n h b bs s r q =
    subst (λ (x : List Bool). Knows low n b x false false) q (subst (λ x. Knows low n x h.bits false false) (begin_is h.place h.begin b r) (running_knows low n h.place h.begin h.fall h.bits b s r))

report_at : (low : Line) (n : ℕ) (place : ReceiverState) (begin fall : ℕ) (bits : List Bool) (b : ℕ) (sent : List Bool) → StandsIn low n place begin fall bits → 1 ≤ n → runs_in place begin ≡ Some b
    → (o : Heard) → hear_in n (was_low low n) (low n) (record { place = place; begin = begin; fall = fall; bits = bits }) ≡ o
    → state_before low b sent (n + 1) ≡ after_reported sent (state_before low b sent n) o.reported
unfolding StandsIn
report_at low n place begin fall bits b sent s l e o is =
    let same : begin ≡ b = begin_is place begin b e in
    let t = step low n place begin fall bits s in
    subst (λ x. state_before low x sent (n + 1) ≡ after_reported sent (state_before low x sent n) o.reported) same
    (subst (λ (x : Heard). state_before low begin sent (n + 1) ≡ after_reported sent (state_before low begin sent n) x.reported) is
    (report_state low n begin bits sent (hear_in n (was_low low n) (low n) (record { place = place; begin = begin; fall = fall; bits = bits })).state
    (hear_in n (was_low low n) (low n) (record { place = place; begin = begin; fall = fall; bits = bits })).reported
    (running_knows low n place begin fall bits begin s (e ∙ ap (λ (x : ℕ). Some x) (sym same)))
    t.ends (goes_by n place begin fall bits (low n && not (was_low low n)) (not (low n) && was_low low n) (low n) b e)
    (λ bs r q. knows_of low (n + 1) (hear_in n (was_low low n) (low n) (record { place = place; begin = begin; fall = fall; bits = bits })).state begin bs t.stands r q)))

pub reports_state : SendersGoByReports
reports_state low n b sent l r =
    let h = hears low n in
    let same : n - 1 + 1 ≡ n = omega arith in
    let runs : running_of low (n - 1) ≡ runs_in h.place h.begin = runs_so low (n - 1) h.place h.begin h.fall h.bits (subst (λ m. StandsIn low m h.place h.begin h.fall h.bits) (sym same) (stands_at low n)) in
    report_at low n h.place h.begin h.fall h.bits b sent (stands_at low n) l (sym runs ∙ r) (hear_in n (was_low low n) (low n) h) refl
    ∙ ap (after_reported sent (state_before low b sent n)) (sym (reported_heard low n))

-- ---- a sender that is told nothing, and then something

pub stays_same : SilenceChangesNoSender
stays_same sent Sending = refl
stays_same sent (Out n) = refl
stays_same sent Stopped = refl

quiet_state : (low : Line) (b before m : ℕ) (sent : List Bool) → 1 ≤ before → ((u : ℕ) → before ≤ u → u < before + m → running_of low (u - 1) ≡ Some b)
    → ((u : ℕ) → before ≤ u → u < before + m → reported_at low u ≡ Nothing) → state_before low b sent (before + m) ≡ state_before low b sent before
quiet_state low b before zero sent l r q = ap (state_before low b sent) (let x : before + zero ≡ before = omega arith in x)
quiet_state low b before (suc m) sent l r q =
    ap (state_before low b sent) (let x : before + suc m ≡ before + m + 1 = omega arith in x)
    ∙ reports_state low (before + m) b sent (omega arith) (r (before + m) (omega arith) (omega arith))
    ∙ ap (after_reported sent (state_before low b sent (before + m))) (q (before + m) (omega arith) (omega arith))
    ∙ stays_same sent (state_before low b sent (before + m))
    ∙ quiet_state low b before m sent l (λ u a c. r u a (omega arith)) (λ u a c. q u a (omega arith))

pub hears_state : (low : Line) (b before t : ℕ) (sent : List Bool) (old new : SenderState) (reported : Told) → 1 ≤ before → before ≤ t → ((u : ℕ) → before ≤ u → u ≤ t → running_of low (u - 1) ≡ Some b)
    → ((u : ℕ) → before ≤ u → u < t → reported_at low u ≡ Nothing) → reported ≡ reported_at low t → old ≡ state_before low b sent before → new ≡ after_reported sent old reported → new ≡ state_before low b sent (t + 1)
hears_state low b before t sent old new reported one l r q e o n =
    let same : before + (t - before) ≡ t = omega arith in
    let quiet : state_before low b sent t ≡ state_before low b sent before =
    ap (state_before low b sent) (sym same) ∙ quiet_state low b before (t - before) sent one (λ u a c. r u a (omega (arith, c, l))) (λ u a c. q u a (omega (arith, c, l))) in
    n ∙ ap (λ s. after_reported sent s reported) (o ∙ sym quiet) ∙ ap (after_reported sent (state_before low b sent t)) e ∙ sym (reports_state low t b sent (omega arith) (r t l (omega arith)))

-- it stopped before then
pub stopped_by : (old new : SenderState) (old_last last before t : ℕ) → StopsAt old old_last t new last → IsBefore old old_last before → before ≤ t → IsBefore new last (t + 1)
stopped_by Sending Sending old_last last before t s p l = tt
stopped_by Sending (Out n) old_last last before t s p l = omega (arith, s)
stopped_by Sending Stopped old_last last before t s p l = omega (arith, s)
stopped_by (Out n) new old_last last before t s p l = subst (λ x. IsBefore x last (t + 1)) (sym s.0) (omega (arith, s.1, p))
stopped_by Stopped new old_last last before t s p l = subst (λ x. IsBefore x last (t + 1)) (sym s.0) (omega (arith, s.1, p))

-- ---- at the begin

pub begins_so : (low : Line) (begin : ℕ) (sent : List Bool) → Sending ≡ state_before low begin sent (begin + 1)
unfolding nothing
begins_so low begin sent =
    sym (ap (λ (k : Known). state_by (out_slot k sent) (nat_lt (reading_of low begin).at (begin + 1))) (known_start_low low begin (begin + 1) (omega arith) (λ u l m. absurd (omega arith)))
    ∙ ap (λ b. state_by None b) (let x = ends_after low begin in let y : nat_lt (reading_of low begin).at (begin + 1) ≡ false = grind (arith, nat_tests) in y))

-- ---- its pull

pub pulls_so : SendersPullByRound
pulls_so low begin t last f state s p =
    ap (λ b. line_of (sender_stretches begin (frame_bits f)) t && b) (by_out (out_slot (known_at t (reading_of low begin)) (frame_bits f)) (nat_lt (reading_of low begin).at t) refl state s p)
  where
    past : (n : ℕ) → n < t → nat_le t n ≡ false
    past n l = grind (arith, nat_tests)

    over_on : (b c : Bool) → nat_lt (reading_of low begin).until t ≡ b → nat_lt (reading_of low begin).at t ≡ c
        → goes_on (if b then Some (record { ending = (reading_of low begin).ending; at = (reading_of low begin).at; until = (reading_of low begin).until }) else None) t ≡ not c
    over_on true true h k = let x : (reading_of low begin).at < t = grind (arith, nat_tests) in past (reading_of low begin).at x
    over_on true false h k = grind (arith, nat_tests)
    over_on false true h k =
        let x : (reading_of low begin).at < t = grind (arith, nat_tests) in
        let y : t ≤ (reading_of low begin).until = grind (arith, nat_tests) in
        absurd (omega (arith, until_by low begin, x, y))
    over_on false false h k = refl

    going : (c : Bool) → nat_lt (reading_of low begin).at t ≡ c → goes_on (known_at t (reading_of low begin)).ended t ≡ not c
    going c h = over_on (nat_lt (reading_of low begin).until t) c refl h

    by_state : (s : SenderState) (o : Option ℕ) (c : Bool) → s ≡ state_by o c → IsBefore s last t → may_pull s last t ≡ (is_none o && not c)
    by_state Sending (Some n) c e p = cc
    by_state Sending None true e p = cc
    by_state Sending None false e p = refl
    by_state (Out n) (Some m) c e p = past last p
    by_state (Out n) None true e p = cc
    by_state (Out n) None false e p = cc
    by_state Stopped (Some m) c e p = past last p
    by_state Stopped None true e p = past last p
    by_state Stopped None false e p = cc

    by_out : (o : Option ℕ) (c : Bool) → nat_lt (reading_of low begin).at t ≡ c → (s : SenderState) → s ≡ state_by o (nat_lt (reading_of low begin).at t) → IsBefore s last t
        → may_pull s last t ≡ (is_none o && goes_on (known_at t (reading_of low begin)).ended t)
    by_out o c h s e p = by_state s o c (e ∙ ap (state_by o) h) p ∙ ap (λ b. is_none o && b) (sym (going c h))
