-- The stretches of a follower are what it pulls in acknowledge slots.
use Rattle.std.proofs.Common.{◌≡◌, ℕ, zero, suc, ◌+◌, ◌-◌, ◌*◌, ◌/◌, ◌%◌, ◌==◌, ◌<◌, ◌≤◌, Bool, true, false, not, ◌&&◌, ◌||◌, nat_lt, nat_le, if◌then◌else◌, List, [], ◌∷◌, ◌++◌, length, length-append, slice_get, slice_index_or, option_map, inl, inr, Option, Some, None, Result, Ok, Err, refl, arith, ap, ap₂, ◌∙◌, sym, subst}
use Rattle.std.specs.List.{list_any, enumerate_from, flat_map, range_with_len}
use Rattle.std.specs.Option.{option_to_list}
use mathlib.Core.Bool.{beq}
use Rattle.std.proofs.lemmas.Bool.{cases_lt, and_parts}
use Rattle.std.proofs.lemmas.Bool.Decides.{nat_tests}
use Rattle.line_wave.specs.Line.{Line, covers, line_of}
use Rattle.line_frames.specs.Bits.{frame_bits}
use Rattle.line_reading.specs.Windows.{sample_at}
use Rattle.line_reading.specs.Reading.After.{Next, Ends}
use Rattle.line_reading.specs.Reading.{Known, Slot, known_at, known_slot, known_slots, reading_of, read_start, read_slots, read_on, after_slot, last_ending, bit_sampled_at, start_of, After}
use Rattle.line_reading.specs.Sending.{bit_read, destination, known_bits, is_whole, is_out_by}
use Rattle.line_rounds.specs.declared.Seat.{Seat}
use Rattle.line_rounds.specs.declared.Outcome.{Outcome}
use Rattle.line_rounds.specs.Round.{acknowledges, all_known, is_acknowledged, is_held, out_of, sends_in}
use Rattle.line_rounds.specs.Contend.{leaves}
use Rattle.line_rounds.specs.Slots.{AreSpaced}
use Rattle.line_rounds.proofs.Early.{destination_more, leaves_more}
use Rattle.line_rounds.proofs.Spans.{bits_more, reading_spans}
use Rattle.room_drives.specs.Stretches.{ack_by, ack_in, ack_stretches, acknowledges_in, goes_to, slot_fall, stretch}
use Rattle.room_drives.proofs.Sent.{FrontReported, all_bits, bits_at, found_before, front_reported, known_after, one_known, spaced_get}
use Rattle.room_drives.proofs.Slots.{falls_at}
use Rattle.room_drives.proofs.Seats.{Reports}

-- ---- at most 160 slots

few_slots : (low : Line) (left : ℕ) (bits : List Bool) (e : ℕ) → length (read_slots low left bits e).slots ≤ left
unfolding read_slots
few_slots low zero bits e = omega arith
few_slots low (suc left) bits e = by (after_slot low e (last_ending bits)) (λ f. few_slots low left (bits ++ option_to_list (bit_sampled_at low e)) f)
  where
    by : (a : After) → ((f : ℕ) → length (read_slots low left (bits ++ option_to_list (bit_sampled_at low e)) f).slots ≤ left)
        → suc (length (read_on (read_slots low left (bits ++ option_to_list (bit_sampled_at low e))) a).slots) ≤ suc left
    by (Ends ending at) ih = omega arith
    by (Next f) ih = omega (arith, ih f)

few_start : (low : Line) (begin : ℕ) (s : Result ℕ ℕ) → length (read_start low begin s).slots ≤ 160
few_start low begin (Ok f) = few_slots low 160 [] f
few_start low begin (Err at) = omega arith

get_within : {X : Type 0} (xs : List X) (k : ℕ) (x : X) → slice_get xs k ≡ Some x → k < length xs
get_within [] k x h = cc
get_within (y ∷ ys) zero x h = omega arith
get_within (y ∷ ys) (suc k) x h = omega (arith, get_within ys k x h)

-- ---- the slots that are known

known_get : (t : ℕ) (ss : List Slot) (k : ℕ) (s : Slot) → slice_get (known_slots t ss) k ≡ Some s → (x : Slot) × (slice_get ss k ≡ Some x) × (x.fall ≡ s.fall) × (x.fall < t)
known_get t [] k s h = cc
known_get t (x ∷ ss) k s h = by (nat_lt x.fall t) refl k h (λ j g. known_get t ss j s g)
  where
    by : (b : Bool) → nat_lt x.fall t ≡ b → (k : ℕ) → slice_get (if b then known_slot t x ∷ known_slots t ss else []) k ≡ Some s
        → ((j : ℕ) → slice_get (known_slots t ss) j ≡ Some s → (y : Slot) × (slice_get ss j ≡ Some y) × (y.fall ≡ s.fall) × (y.fall < t))
        → (y : Slot) × (slice_get (x ∷ ss) k ≡ Some y) × (y.fall ≡ s.fall) × (y.fall < t)
    by false f k g ih = cc
    by true f zero g ih = let same : known_slot t x ≡ s = cc in (x, refl, ap (λ (y : Slot). y.fall) same, (let l : x.fall < t = grind (arith, nat_tests) in l))
    by true f (suc k) g ih = ih k g

get_known : (t : ℕ) (ss : List Slot) (from k : ℕ) (s : Slot) → AreSpaced from ss → slice_get ss k ≡ Some s → s.fall < t → slice_get (known_slots t ss) k ≡ Some (known_slot t s)
get_known t [] from k s spaced h l = cc
get_known t (x ∷ ss) from zero s spaced h l =
    let same : x ≡ s = cc in
    let f : nat_lt s.fall t ≡ true = grind (arith, nat_tests) in
    subst (λ (y : Slot). slice_get (known_slots t (y ∷ ss)) 0 ≡ Some (known_slot t s)) (sym same) (rw f refl)
get_known t (x ∷ ss) from (suc k) s spaced h l =
    let later = spaced_get ss (x.fall + (sample_at + 1)) k s spaced.1 h in
    let f : nat_lt x.fall t ≡ true = grind (arith, nat_tests, later) in
    rw f (get_known t ss (x.fall + (sample_at + 1)) k s spaced.1 h l)

-- the bits of the slots before it are known
count_low : (t : ℕ) (ss : List Slot) (from k : ℕ) (s : Slot) → AreSpaced from ss → FrontReported ss → slice_get ss k ≡ Some s → s.fall < t → k ≤ length (bits_at t ss)
count_low t [] from k s spaced front h l = cc
count_low t (x ∷ ss) from zero s spaced front h l = omega arith
count_low t (x ∷ []) from (suc k) s spaced front h l = cc
count_low t (x ∷ y ∷ ss) from (suc k) s spaced front h l =
    let later = spaced_get (y ∷ ss) (x.fall + (sample_at + 1)) k s spaced.1 h in
    let one = one_known t x (y ∷ ss) front.0.0 (omega (arith, later, l)) front.0.1 in
    omega (arith, one, count_low t (y ∷ ss) (x.fall + (sample_at + 1)) k s spaced.1 front.1 h l)

-- ---- who acknowledges

-- in an acknowledge slot that fell, it is told by what is known, and by what is known in the end
record AckSlot (t : ℕ) (ss : List Slot) (until k : ℕ) : Type 0 where
  more : List Bool
  all : bits_at (until + 1) ss ≡ bits_at t ss ++ more
  low : k ≤ length (bits_at t ss)
  ten : ((k + 1) % 10 == 0) ≡ true

-- such a test of a slot before it needs the bits alone
tests : (bits sent : List Bool) (whole : Bool) (k n : ℕ) → k ≤ length bits → ((k + 1) % 10 == 0) ≡ true → 1 ≤ n → n < 1 + k → is_out_by bits whole sent n ≡ leaves bits sent n
tests bits sent whole k n few ten l h = by (n % 10 == 0) refl
  where
    by : (b : Bool) → (n % 10 == 0) ≡ b
        → (if b then not (whole && (n == length bits)) && not (beq (bit_read bits n) (destination bits == 15)) else not (beq (bit_read bits n) (slice_index_or sent (n - 1) false)))
        ≡ (if b then not (beq (bit_read bits n) (destination bits == 15)) else not (beq (bit_read bits n) (slice_index_or sent (n - 1) false)))
    by false e = refl
    by true e =
        let tens : n % 10 ≡ 0 = grind (arith, nat_tests) in
        let tenth : (k + 1) % 10 ≡ 0 = grind (arith, nat_tests) in
        let other : (n == length bits) ≡ false = (let x : n < length bits = omega arith in grind (arith, nat_tests)) in
        ap (λ c. not (whole && c) && not (beq (bit_read bits n) (destination bits == 15))) other ∙ ap (λ c. not c && not (beq (bit_read bits n) (destination bits == 15))) (never whole)
      where
        never : (b : Bool) → (b && false) ≡ false
        never true = refl
        never false = refl

goes_on_in : (low : Line) (begin t k : ℕ) → AckSlot t (reading_of low begin).slots (reading_of low begin).until k → (sends : Option (List ℕ))
    → sends_in (known_at t (reading_of low begin)) sends (k + 1) ≡ goes_to sends (out_of (reading_of low begin) sends) (k + 1)
goes_on_in low begin t k slot None = refl
goes_on_in low begin t k slot (Some f) =
    let ss = (reading_of low begin).slots in
    let sent = frame_bits f in
    let now = bits_at t (reading_of low begin).slots in
    let all = bits_at ((reading_of low begin).until + 1) (reading_of low begin).slots in
    let whole = is_whole (known_at t (reading_of low begin)).ended in
    let whole_all = is_whole (all_known (reading_of low begin)).ended in
    let total : length all ≡ length now + length slot.more = ap length slot.all ∙ length-append now slot.more in
    found_before (is_out_by now whole sent) (leaves now sent) 1 k (length now - k) (length now) (k + 1) (omega arith) (omega (arith, slot.low))
    (λ n l h. tests now sent whole k n slot.low slot.ten l h)
    ∙ sym (found_before (is_out_by all whole_all sent) (leaves now sent) 1 k (length all - k) (length all) (k + 1) (omega arith) (omega (arith, slot.low, total))
    (λ n l h. tests all sent whole_all k n (omega (arith, slot.low, total)) slot.ten l h
    ∙ ap (λ (b : List Bool). leaves b sent n) slot.all ∙ leaves_more now slot.more sent n l (omega (arith, slot.low))))

acks_same : (low : Line) (begin t k : ℕ) (o : Outcome) (seat : Seat) → Reports low begin o → AckSlot t (reading_of low begin).slots (reading_of low begin).until k
    → acknowledges (known_at t (reading_of low begin)) (k + 1) seat ≡ acknowledges_in o seat (out_of (reading_of low begin) seat.sends) (k + 1)
acks_same low begin t k o seat reports slot =
    let now = bits_at t (reading_of low begin).slots in
    let bits : o.reading.bits.items ≡ now ++ slot.more = reports.bits ∙ sym (all_bits low begin) ∙ slot.all in
    let tenth : (k + 1) % 10 ≡ 0 = (let e = slot.ten in grind (arith, nat_tests)) in
    let read : nat_le 8 (length o.reading.bits.items) ≡ true =
    (let n : length o.reading.bits.items ≡ length now + length slot.more = ap length bits ∙ length-append now slot.more in grind (arith, nat_tests, slot.low)) in
    let to : destination now ≡ destination o.reading.bits.items = sym (ap destination bits ∙ destination_more now slot.more (omega (arith, slot.low, tenth))) in
    ap₂ (λ d b. seat.plugged && (is_held seat.holds d && not b)) to (goes_on_in low begin t k slot seat.sends)
    ∙ ap (λ b. seat.plugged && (b && (is_held seat.holds (destination o.reading.bits.items) && not (goes_to seat.sends (out_of (reading_of low begin) seat.sends) (k + 1))))) (sym read)

-- ---- both ways

pub any_get : {X : Type 0} (test : X → Bool) (xs : List X) (k : ℕ) (x : X) → slice_get xs k ≡ Some x → test x ≡ true → list_any test xs ≡ true
any_get test [] k x h e = cc
any_get test (y ∷ ys) zero x h e = let same : y ≡ x = cc in let here : test y ≡ true = ap test same ∙ e in rw here refl
any_get test (y ∷ ys) (suc k) x h e = let rest = any_get test ys k x h e in either (test y) (list_any test ys) rest
  where
    either : (a b : Bool) → b ≡ true → (a || b) ≡ true
    either true b h = refl
    either false b h = h

-- some element passes the test
abbrev AnyAt : {X : Type 0} → (X → Bool) → List X → Type 0
AnyAt {X} test xs = (k : ℕ) × (x : X) × (slice_get xs k ≡ Some x) × (test x ≡ true)

get_first : {X : Type 0} (test : X → Bool) (y : X) (ys : List X) (b : Bool) → test y ≡ b → (b || list_any test ys) ≡ true → (list_any test ys ≡ true → AnyAt test ys) → AnyAt test (y ∷ ys)
get_first test y ys true e g rest = (zero, y, refl, e)
get_first test y ys false e g rest = let r = rest g in (suc r.0, r.1, r.2, r.3)

get_any : {X : Type 0} (test : X → Bool) (xs : List X) → list_any test xs ≡ true → AnyAt test xs
get_any test [] h = cc
get_any test (y ∷ ys) h = get_first test y ys (test y) refl h (λ g. get_any test ys g)

get_enumerated : {X : Type 0} (xs : List X) (m k n : ℕ) (x : X) → slice_get xs k ≡ Some x → n ≡ m + k → slice_get (enumerate_from m xs) k ≡ Some (n, x)
get_enumerated [] m k n x h e = cc
get_enumerated (y ∷ ys) m zero n x h e = let same : y ≡ x = cc in let number : m ≡ n = omega arith in ap₂ (λ a b. Some (a, b)) number same
get_enumerated (y ∷ ys) m (suc k) n x h e = get_enumerated ys (m + 1) k n x h (omega arith)

number_of : {X : Type 0} (p q : ℕ × X) → p ≡ q → p.0 ≡ q.0
number_of {X} p q e = ap (λ (r : ℕ × X). r.0) e

item_of : {X : Type 0} (p q : ℕ × X) → p ≡ q → p.1 ≡ q.1
item_of {X} p q e = ap (λ (r : ℕ × X). r.1) e

enumerated_get : {X : Type 0} (xs : List X) (m k : ℕ) (p : ℕ × X) → slice_get (enumerate_from m xs) k ≡ Some p → (p.0 ≡ m + k) × (slice_get xs k ≡ Some p.1)
enumerated_get [] m k p h = cc
enumerated_get (y ∷ ys) m zero p h =
    let same : (m, y) ≡ p = cc in
    let number : m ≡ p.0 = number_of (m, y) p same in
    (omega (arith, number), ap Some (item_of (m, y) p same))
enumerated_get (y ∷ ys) m (suc k) p h = let r = enumerated_get ys (m + 1) k p h in (omega (arith, r.0), r.1)

or_assoc : (a b c : Bool) → (a || (b || c)) ≡ ((a || b) || c)
or_assoc true b c = refl
or_assoc false b c = refl

pub any_append : {X : Type 0} (test : X → Bool) (xs ys : List X) → list_any test (xs ++ ys) ≡ (list_any test xs || list_any test ys)
any_append test [] ys = refl
any_append test (x ∷ xs) ys = ap (λ b. test x || b) (any_append test xs ys) ∙ or_assoc (test x) (list_any test xs) (list_any test ys)

any_flat : {X Y : Type 0} (test : Y → Bool) (f : X → List Y) (xs : List X) → list_any test (flat_map f xs) ≡ list_any (λ x. list_any test (f x)) xs
any_flat test f [] = refl
any_flat test f (x ∷ xs) = any_append test (f x) (flat_map f xs) ∙ ap (λ b. list_any test (f x) || b) (any_flat test f xs)

get_range : (a n k x : ℕ) → slice_get (range_with_len a n) k ≡ Some x → (x ≡ a + k) × (k < n)
get_range a zero k x h = cc
get_range a (suc n) zero x h = let same : a ≡ x = cc in (omega arith, omega arith)
get_range a (suc n) (suc k) x h = let r = get_range (a + 1) n k x h in (omega (arith, r.0), omega (arith, r.1))

range_get : (a n k : ℕ) → k < n → slice_get (range_with_len a n) k ≡ Some (a + k)
range_get a zero k h = absurd (omega arith)
range_get a (suc n) zero h = ap Some (let e : a ≡ a + 0 = omega arith in e)
range_get a (suc n) (suc k) h = range_get (a + 1) n k (omega arith) ∙ ap Some (let e : a + 1 + k ≡ a + suc k = omega arith in e)

pub both_ways : (a b : Bool) → (a ≡ true → b ≡ true) → (b ≡ true → a ≡ true) → a ≡ b
both_ways true b f g = sym (f refl)
both_ways false true f g = g refl
both_ways false false f g = refl

-- ---- a pull in an acknowledge slot

-- what is known at t is a front of what is known in the end
front_known : (low : Line) (begin t : ℕ) → (more : List Bool) × (bits_at ((reading_of low begin).until + 1) (reading_of low begin).slots ≡ bits_at t (reading_of low begin).slots ++ more)
front_known low begin t = elim (cases_lt (reading_of low begin).until t) [
  | inl past ↦ ([], sym (ap known_bits (known_after t low begin past)) ∙ nothing (bits_at t (reading_of low begin).slots))
  | inr by_then ↦ bits_more t ((reading_of low begin).until + 1) (reading_of low begin).slots 0 (reading_spans low begin).spaced (omega arith)
]
  where
    nothing : (xs : List Bool) → xs ≡ xs ++ []
    nothing [] = refl
    nothing (x ∷ xs) = ap (λ l. x ∷ l) (nothing xs)

ack_slot : (low : Line) (begin t k : ℕ) (s : Slot) → slice_get (reading_of low begin).slots k ≡ Some s → s.fall < t → ((k + 1) % 10 == 0) ≡ true
    → AckSlot t (reading_of low begin).slots (reading_of low begin).until k
ack_slot low begin t k s h l ten =
    let front = front_known low begin t in
    record { more = front.0; all = front.1; low = count_low t (reading_of low begin).slots 0 k s (reading_spans low begin).spaced (front_reported low begin) h l; ten = ten }

pub ack_line : (low : Line) (begin t : ℕ) (o : Outcome) → Reports low begin o → (seat : Seat)
    → line_of (ack_stretches o seat (out_of (reading_of low begin) seat.sends)) t ≡ is_acknowledged (seat ∷ []) (known_at t (reading_of low begin)) t
ack_line low begin t o reports seat = both_ways _ _ there back
  where
    ss : List Slot
    ss = (reading_of low begin).slots

    out : Option ℕ
    out = out_of (reading_of low begin) seat.sends

    k_now : Known
    k_now = known_at t (reading_of low begin)

    test : ℕ × Slot → Bool
    test slot = (slot.0 % 10 == 0) && (nat_lt t (slot.1.fall + 1500) && list_any (acknowledges (known_at t (reading_of low begin)) slot.0) (seat ∷ []))

    and_true : (a b c : Bool) → a ≡ true → b ≡ true → c ≡ true → (a && (b && (c || false))) ≡ true
    and_true true true true f g h = refl
    and_true true true false f g h = cc
    and_true true false c f g h = cc
    and_true false b c f g h = cc

    or_left : (a : Bool) → (a || false) ≡ true → a ≡ true
    or_left true h = refl
    or_left false h = cc

    there : line_of (ack_stretches o seat out) t ≡ true → is_acknowledged (seat ∷ []) (known_at t (reading_of low begin)) t ≡ true
    there h =
        let found = get_any (λ block. line_of (ack_in o seat out block) t) (range_with_len 1 16) (sym (any_flat (λ s. covers s t) (ack_in o seat out) (range_with_len 1 16)) ∙ h) in
        let range = get_range 1 16 found.0 found.1 found.2 in
        by_ack found.1 (omega (arith, range.0)) (acknowledges_in o seat out (10 * found.1)) refl (slot_fall o (10 * found.1)) refl found.3
      where
        slot_there : (k : ℕ) (fall : ℕ) → falls_at ss k ≡ Some fall → (s : Slot) × (slice_get ss k ≡ Some s) × (s.fall ≡ fall)
        slot_there k fall e = by_get (slice_get ss k) refl e
          where
            by_get : (x : Option Slot) → slice_get ss k ≡ x → option_map (λ (s : Slot). s.fall) x ≡ Some fall → (s : Slot) × (slice_get ss k ≡ Some s) × (s.fall ≡ fall)
            by_get None g f = cc
            by_get (Some s) g f = (s, g, (let same : s.fall ≡ fall = cc in same))

        by_ack : (block : ℕ) → 1 ≤ block → (b : Bool) → acknowledges_in o seat out (10 * block) ≡ b → (fall : Option ℕ) → slot_fall o (10 * block) ≡ fall
            → line_of (ack_by b fall) t ≡ true → is_acknowledged (seat ∷ []) (known_at t (reading_of low begin)) t ≡ true
        by_ack block some false a fall f g = cc
        by_ack block some true a None f g = cc
        by_ack block some true a (Some fall) f g =
            let cover : covers (stretch (fall + 1) (fall + 1500)) t ≡ true = or_left (covers (stretch (fall + 1) (fall + 1500)) t) g in
            let begun : nat_le (fall + 1) t ≡ true = (and_parts (nat_le (fall + 1) t) (nat_lt t (fall + 1500)) cover).0 in
            let within : nat_lt t (fall + 1500) ≡ true = (and_parts (nat_le (fall + 1) t) (nat_lt t (fall + 1500)) cover).1 in
            let k = 10 * block - 1 in
            let slot = slot_there k fall (sym (reports.slots (10 * block) (omega arith)) ∙ f) in
            let number : 10 * block ≡ k + 1 = omega arith in
            let ten : ((k + 1) % 10 == 0) ≡ true = (let m : (k + 1) % 10 ≡ 0 = omega arith in grind (arith, nat_tests)) in
            let past : slot.0.fall < t = (let p : fall + 1 ≤ t = grind (arith, nat_tests) in omega (arith, slot.2)) in
            let acks : acknowledges (known_at t (reading_of low begin)) (k + 1) seat ≡ true =
            acks_same low begin t k o seat reports (ack_slot low begin t k slot.0 slot.1 past ten) ∙ ap (acknowledges_in o seat out) (sym number) ∙ a in
            let soon : nat_lt t (slot.0.fall + 1500) ≡ true = ap (λ n. nat_lt t (n + 1500)) slot.2 ∙ within in
            any_get test (enumerate_from 1 (known_slots t ss)) k (k + 1, known_slot t slot.0)
            (get_enumerated (known_slots t ss) 1 k (k + 1) (known_slot t slot.0) (get_known t ss 0 k slot.0 (reading_spans low begin).spaced slot.1 past) (omega arith))
            (and_true ((k + 1) % 10 == 0) (nat_lt t (slot.0.fall + 1500)) (acknowledges (known_at t (reading_of low begin)) (k + 1) seat) ten soon acks)

    back : is_acknowledged (seat ∷ []) (known_at t (reading_of low begin)) t ≡ true → line_of (ack_stretches o seat out) t ≡ true
    back h =
        let found = get_any test (enumerate_from 1 (known_slots t ss)) h in
        let p = found.1 in
        let place = enumerated_get (known_slots t ss) 1 found.0 p found.2 in
        let slot = known_get t ss found.0 p.1 place.1 in
        let number : p.0 ≡ found.0 + 1 = omega (arith, place.0) in
        let ten : ((found.0 + 1) % 10 == 0) ≡ true = ap (λ n. n % 10 == 0) (sym number) ∙ (and_parts (p.0 % 10 == 0) _ found.3).0 in
        let rest = (and_parts (p.0 % 10 == 0) _ found.3).1 in
        let soon : nat_lt t (p.1.fall + 1500) ≡ true = (and_parts (nat_lt t (p.1.fall + 1500)) _ rest).0 in
        let acks_now : acknowledges (known_at t (reading_of low begin)) p.0 seat ≡ true = or_left (acknowledges (known_at t (reading_of low begin)) p.0 seat) (and_parts (nat_lt t (p.1.fall + 1500)) _ rest).1 in
        let few = few_start low begin (start_of low begin) in
        let within = get_within ss found.0 slot.0 slot.1 in
        let tenth : (found.0 + 1) % 10 ≡ 0 = grind (arith, nat_tests) in
        let block = (found.0 + 1) / 10 in
        let whole : 10 * block ≡ found.0 + 1 = omega (arith, tenth) in
        let fall : slot_fall o (10 * block) ≡ Some slot.0.fall =
        reports.slots (10 * block) (omega (arith, whole)) ∙ ap (falls_at ss) (let e : 10 * block - 1 ≡ found.0 = omega (arith, whole) in e) ∙ ap (option_map (λ (s : Slot). s.fall)) slot.1 in
        let acks : acknowledges_in o seat out (10 * block) ≡ true =
        ap (acknowledges_in o seat out) whole ∙ sym (acks_same low begin t found.0 o seat reports (ack_slot low begin t found.0 slot.0 slot.1 slot.3 ten))
        ∙ ap (λ n. acknowledges (known_at t (reading_of low begin)) n seat) (sym number) ∙ acks_now in
        let begun : nat_le (slot.0.fall + 1) t ≡ true = (let l = slot.3 in grind (arith, nat_tests)) in
        let ends : nat_lt t (slot.0.fall + 1500) ≡ true = ap (λ n. nat_lt t (n + 1500)) slot.2 ∙ soon in
        let pulled : line_of (ack_in o seat out block) t ≡ true =
        ap₂ (λ b f. line_of (ack_by b f) t) acks fall ∙ ap₂ (λ a b. (a && b) || false) begun ends in
        any_flat (λ s. covers s t) (ack_in o seat out) (range_with_len 1 16)
        ∙ any_get (λ b. line_of (ack_in o seat out b) t) (range_with_len 1 16) (block - 1) block
        (range_get 1 16 (block - 1) (omega (arith, few, within, whole)) ∙ ap Some (let e : 1 + (block - 1) ≡ block = omega (arith, whole) in e)) pulled
