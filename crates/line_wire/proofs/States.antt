-- What the senders' states say.
use Rattle.std.proofs.Common.{◌≡◌, ◌≢◌, ℕ, zero, suc, ◌+◌, ◌==◌, ◌<◌, ◌≤◌, Bool, true, false, not, ◌&&◌, ◌||◌, nat_lt, nat_le, if◌then◌else◌, List, [], ◌∷◌, ◌++◌, length, Option, Some, None, refl, arith, ap, ◌∙◌, sym, subst}
use Rattle.std.specs.List.{list_any, find, range_with_len}
use Rattle.std.proofs.lemmas.Bool.Decides.{nat_tests}
use Rattle.line_wave.specs.Line.{Line}
use Rattle.line_frames.specs.declared.Ending.{Ending}
use Rattle.line_frames.specs.declared.Ending.TheVariants.{Short, Silent, BadStart}
use Rattle.line_frames.specs.Bits.{frame_bits}
use Rattle.line_reading.specs.declared.receiver.Receiver.{Receiver}
use Rattle.line_reading.specs.declared.receiver.ReceiverState.TheVariants.{Rest, StartLow, StartHigh, Unsampled, Sampled}
use Rattle.line_reading.specs.declared.receiver.Told.TheVariants.{Nothing, Ended}
use Rattle.line_reading.specs.declared.sender.Sender.{Sender}
use Rattle.line_reading.specs.declared.sender.SenderState.{SenderState}
use Rattle.line_reading.specs.Follows.{StoodBefore}
use Rattle.line_reading.specs.Hears.{Heard, reported_so, rest, starts, sample_as, hear_at}
use Rattle.line_reading.specs.Reading.{Read, reading_of, bits_of, last_ending, End}
use Rattle.line_reading.specs.Sending.{destination, is_whole, is_out_by, out_by, out_slot, state_by, state_before, SenderStood}
use Rattle.line_reading.specs.declared.receiver.ReceiverState.{ReceiverState}
use Rattle.line_rounds.specs.declared.Seat.{Seat}
use Rattle.line_rounds.specs.declared.Loser.{Loser}
use Rattle.line_rounds.specs.Machine.{acks_after, breaks_after, acks_until, sends_after}
use Rattle.line_rounds.specs.Round.{is_held, is_not_before, lost_at, out_of, all_known, sends_in, survivors_from, losers_from}
use Rattle.line_wire.specs.Listening.{IsReadOnce, AreSenders, AreSending, SendsFor, IsSending}
use Rattle.line_wire.specs.Pulls.{is_on, held_in}
use Rattle.line_wire.specs.Wire.{goes_on, IsAt}
use Rattle.line_wire.specs.States.{acks_to, breaks_by, out_at, out_in, stays_at, survivor_at, survivors_of, losers_of}
use Rattle.line_wire.proofs.Lows.{sending_is_heard, take_most}
use Rattle.line_wire.proofs.Standing.{over_state, until_by as until_at, reading_spans, reported_bits}

-- ---- those who follow

-- each goes on exactly where these bits do not tell it to stop
AllOn : List Bool → List (Option Sender) → Type 0
AllOn bits [] = Unit {0}
AllOn bits (None ∷ os) = AllOn bits os
AllOn bits (Some s ∷ os) = (is_on s.state ≡ sends_after bits (Some s.frame)) × AllOn bits os

all_on : (seats : List Seat) (begin : ℕ) (r : Receiver) (low : Line) (t : ℕ) (os : List (Option Sender)) → IsReadOnce low begin → StoodBefore r low t → begin < t → t ≤ (reading_of low begin).at → AreSending low begin t os → AllOn r.bits.items os
unfolding AllOn
all_on seats begin r low t [] once stood from runs s = tt
all_on seats begin r low t (None ∷ os) once stood from runs s = all_on seats begin r low t os once stood from runs s.1
all_on seats begin r low t (Some x ∷ os) once stood from runs s = (sending_is_heard r x low begin t once stood from runs (s.0.2 from) s.0.0, all_on seats begin r low t os once stood from runs s.1)

one_sends : (seat : Seat) (begin : ℕ) (bits : List Bool) (s : Sender) → SendsFor seat begin (Some s) → is_on s.state ≡ sends_after bits (Some s.frame) → is_on s.state ≡ sends_after bits seat.sends
one_sends seat begin bits s h e = e ∙ ap (λ (o : Option (List ℕ)). sends_after bits o) (sym h.0)

none_sends : (seat : Seat) (bits : List Bool) → seat.sends ≡ None → false ≡ sends_after bits seat.sends
none_sends seat bits h = ap (λ (o : Option (List ℕ)). sends_after bits o) (sym h)

acks_same : (seats : List Seat) (begin : ℕ) (bits : List Bool) (os : List (Option Sender)) → AreSenders seats begin os → AllOn bits os → acks_to (destination bits) seats os ≡ list_any (acks_after bits) seats
unfolding AllOn
acks_same [] begin bits [] a h = refl
acks_same [] begin bits (o ∷ os) a h = absurd a
acks_same (x ∷ xs) begin bits [] a h = absurd a
acks_same (x ∷ xs) begin bits (None ∷ os) a h =
    ap (λ b. (x.plugged && (is_held x.holds (destination bits) && not b)) || acks_to (destination bits) xs os) (none_sends x bits a.0)
    ∙ ap (λ b. acks_after bits x || b) (acks_same xs begin bits os a.1 h)
acks_same (x ∷ xs) begin bits (Some s ∷ os) a h =
    ap (λ b. (x.plugged && (is_held x.holds (destination bits) && not b)) || acks_to (destination bits) xs os) (one_sends x begin bits s a.0 h.0)
    ∙ ap (λ b. acks_after bits x || b) (acks_same xs begin bits os a.1 h.1)

breaks_same : (seats : List Seat) (begin : ℕ) (bits : List Bool) (os : List (Option Sender)) → AreSenders seats begin os → AllOn bits os → breaks_by seats os ≡ list_any (breaks_after bits) seats
unfolding AllOn
breaks_same [] begin bits [] a h = refl
breaks_same [] begin bits (o ∷ os) a h = absurd a
breaks_same (x ∷ xs) begin bits [] a h = absurd a
breaks_same (x ∷ xs) begin bits (None ∷ os) a h =
    ap (λ b. (x.plugged && not b) || breaks_by xs os) (none_sends x bits a.0) ∙ ap (λ b. breaks_after bits x || b) (breaks_same xs begin bits os a.1 h)
breaks_same (x ∷ xs) begin bits (Some s ∷ os) a h =
    ap (λ b. (x.plugged && not b) || breaks_by xs os) (one_sends x begin bits s a.0 h.0) ∙ ap (λ b. breaks_after bits x || b) (breaks_same xs begin bits os a.1 h.1)

-- While the reading runs, those who follow are those who follow by its bits.
pub followers_are_heard : (seats : List Seat) (begin : ℕ) (r : Receiver) (senders : List (Option Sender)) (bits : List Bool) (held : ℕ) (low : ℕ → Bool) (t : ℕ) → IsAt seats begin r senders bits None held low t
    → (acks_to (destination bits) seats senders ≡ list_any (acks_after bits) seats) × (breaks_by seats senders ≡ list_any (breaks_after bits) seats)
followers_are_heard seats begin r senders bits held low t s =
    let h : AllOn bits senders = subst (λ (bs : List Bool). AllOn bs senders) (sym s.read.1) (all_on seats begin r low t senders s.once s.stood s.from s.read.0 s.sending) in
    (acks_same seats begin bits senders s.whose h, breaks_same seats begin bits senders s.whose h)

-- ---- how long they hold the line

-- Where the reading goes on with a microsecond, those who follow hold the line from a fall, which begins a slot, for as long as
-- that slot's acknowledgers do, and else as before.
pub held_goes : (seats : List Seat) (t : ℕ) (place : ReceiverState) (begin fall : ℕ) (bits : List Bool) (falls rises is_low : Bool) → place ≢ Rest → (place ≡ StartLow → falls ≡ false)
    → goes_on (hear_at place t falls rises is_low (record { place = place; begin = begin; fall = fall; bits = bits })).reported ≡ true
    → held_in seats (hear_at place t falls rises is_low (record { place = place; begin = begin; fall = fall; bits = bits })).state.place
    (hear_at place t falls rises is_low (record { place = place; begin = begin; fall = fall; bits = bits })).state.fall
    (hear_at place t falls rises is_low (record { place = place; begin = begin; fall = fall; bits = bits })).state.bits
    ≡ (if falls then acks_until seats bits t else held_in seats place fall bits)
held_goes seats t Rest begin fall bits falls rises is_low e first g = absurd (e refl)
held_goes seats t StartLow begin fall bits falls rises is_low e first g = by_tests (nat_lt (begin + 3900) t) rises (nat_lt t (begin + 3500)) falls (first refl) g
  where
    go : Bool → Bool → Bool → Bool → Heard
    go x y z f = if x then reported_so (starts t f) (Ended BadStart)
        else if y then (if z then reported_so rest (Ended BadStart) else reported_so (record { place = StartHigh; begin = begin; fall = fall; bits = bits }) Nothing) else reported_so (record { place = StartLow; begin = begin; fall = fall; bits = bits }) Nothing

    by_tests : (x y z f : Bool) → f ≡ false → goes_on (go x y z f).reported ≡ true → held_in seats (go x y z f).state.place (go x y z f).state.fall (go x y z f).state.bits ≡ (if f then acks_until seats bits t else 0)
    by_tests x y z true n k = cc
    by_tests true y z false n k = cc
    by_tests false true true false n k = cc
    by_tests false true false false n k = refl
    by_tests false false z false n k = refl
held_goes seats t StartHigh begin fall bits falls rises is_low e first g = by_tests (nat_lt (begin + 4700) t) falls (nat_lt t (begin + 4300)) g
  where
    go : Bool → Bool → Bool → Heard
    go x y z = if x then reported_so (starts t y) (Ended BadStart)
        else if y then (if z then reported_so rest (Ended BadStart) else reported_so (record { place = Unsampled; begin = begin; fall = t; bits = bits }) Nothing) else reported_so (record { place = StartHigh; begin = begin; fall = fall; bits = bits }) Nothing

    by_tests : (x y z : Bool) → goes_on (go x y z).reported ≡ true → held_in seats (go x y z).state.place (go x y z).state.fall (go x y z).state.bits ≡ (if y then acks_until seats bits t else 0)
    by_tests true y z k = cc
    by_tests false true true k = cc
    by_tests false true false k = refl
    by_tests false false z k = refl
held_goes seats t Unsampled begin fall bits falls rises is_low e first g = by_tests falls (t == fall + 1050) (last_ending bits) g
  where
    go : Bool → Bool → Option Ending → Heard
    go x y last = if x then reported_so rest (Ended Short) else if y then sample_as last (not is_low) (record { place = Unsampled; begin = begin; fall = fall; bits = bits })
        else reported_so (record { place = Unsampled; begin = begin; fall = fall; bits = bits }) Nothing

    by_tests : (x y : Bool) (last : Option Ending) → goes_on (go x y last).reported ≡ true → held_in seats (go x y last).state.place (go x y last).state.fall (go x y last).state.bits ≡ (if x then acks_until seats bits t else acks_until seats bits fall)
    by_tests true y last k = cc
    by_tests false true None k = ap (λ (bs : List Bool). acks_until seats bs fall) (take_most bits (not is_low))
    by_tests false true (Some ending) k = cc
    by_tests false false last k = refl
held_goes seats t Sampled begin fall bits falls rises is_low e first g = by_tests (nat_lt (fall + 2750) t) falls (nat_lt t (fall + 2050)) g
  where
    go : Bool → Bool → Bool → Heard
    go x y z = if x then reported_so (starts t y) (Ended Silent)
        else if y then (if z then reported_so rest (Ended Short) else reported_so (record { place = Unsampled; begin = begin; fall = t; bits = bits }) Nothing) else reported_so (record { place = Sampled; begin = begin; fall = fall; bits = bits }) Nothing

    by_tests : (x y z : Bool) → goes_on (go x y z).reported ≡ true → held_in seats (go x y z).state.place (go x y z).state.fall (go x y z).state.bits ≡ (if y then acks_until seats bits t else held_in seats Sampled fall bits)
    by_tests true y z k = cc
    by_tests false true true k = cc
    by_tests false true false k = refl
    by_tests false false z k = refl

-- ---- the end

-- all that is known of it
whole_of : Read → Bool
whole_of r = is_whole (Some (record { ending = r.ending; at = r.at; until = r.until }))

out_is : (low : Line) (begin : ℕ) (f : List ℕ) → out_slot (all_known (reading_of low begin)) (frame_bits f) ≡ out_by (bits_of (reading_of low begin)) (whole_of (reading_of low begin)) (frame_bits f)
unfolding whole_of
out_is low begin f =
    ap (λ (bs : List Bool). out_by bs (is_whole (all_known (reading_of low begin)).ended) (frame_bits f)) (reported_bits ((reading_of low begin).until + 1) (reading_of low begin).until (reading_of low begin).slots (reading_spans low begin).reported (omega arith))
    ∙ ap (λ c. out_by (bits_of (reading_of low begin)) (is_whole (if c then Some (record { ending = (reading_of low begin).ending; at = (reading_of low begin).at; until = (reading_of low begin).until }) else None)) (frame_bits f))
    (let x : nat_lt (reading_of low begin).until ((reading_of low begin).until + 1) ≡ true = grind (arith, nat_tests) in x)

within_one : (b : Bool) (a n m : ℕ) (o : Option ℕ) → (o ≡ Some m → m < a + 1 + n) → (if b then Some a else o) ≡ Some m → m < a + suc n
within_one true a n m o h k = let x : a ≡ m = cc in omega (arith, x)
within_one false a n m o h k = let x = h k in omega (arith, x)

find_within : (p : ℕ → Bool) (a n m : ℕ) → find p (range_with_len a n) ≡ Some m → m < a + n
find_within p a zero m h = cc
find_within p a (suc n) m h = within_one (p a) a n m (find p (range_with_len (a + 1) n)) (find_within p (a + 1) n m) h

state_at_end : (low : Line) (begin t : ℕ) (s : Sender) → s.begin ≡ begin → SenderStood s low t → (reading_of low begin).at < t → s.state ≡ state_by (out_slot (all_known (reading_of low begin)) (frame_bits s.frame)) true
unfolding whole_of
state_at_end low begin t s b h l =
    h.state ∙ ap (λ n. state_before low n (frame_bits s.frame) t) b
    ∙ over_state low begin t (frame_bits s.frame) (let u = until_at low begin in omega (arith, u, l)) l
    ∙ ap (λ (o : Option ℕ). state_by o true) (sym (out_is low begin s.frame))

out_within : (low : Line) (begin : ℕ) (f : List ℕ) (m : ℕ) → out_slot (all_known (reading_of low begin)) (frame_bits f) ≡ Some m → m < 1 + length (bits_of (reading_of low begin))
out_within low begin f m e =
    find_within (is_out_by (bits_of (reading_of low begin)) (whole_of (reading_of low begin)) (frame_bits f)) 1 (length (bits_of (reading_of low begin))) m (sym (out_is low begin f) ∙ e)

stays_so : (n len : ℕ) (rest : List ℕ) (o : Option ℕ) → ((m : ℕ) → o ≡ Some m → m < 1 + len) → stays_at n (state_by o true) ++ rest ≡ (if is_not_before (len + 1) o then n ∷ rest else rest)
stays_so n len rest None h = refl
stays_so n len rest (Some m) h = ap (λ b. if b then n ∷ rest else rest) (let x = h m refl in let y : false ≡ nat_le (len + 1) m = grind (arith, nat_tests) in y)

out_so : (o : Option ℕ) → out_at (state_by o true) ≡ o
out_so None = refl
out_so (Some m) = refl

survives_one : (low : Line) (begin t n : ℕ) (seat : Seat) (o : Option Sender) (rest : List ℕ) → SendsFor seat begin o → IsSending low begin t o → begin < t → (reading_of low begin).at < t
    → survivor_at n o ++ rest ≡ (if sends_in (all_known (reading_of low begin)) seat.sends (length (bits_of (reading_of low begin)) + 1) then n ∷ rest else rest)
survives_one low begin t n seat None rest a s l m = ap (λ (x : Option (List ℕ)). if sends_in (all_known (reading_of low begin)) x (length (bits_of (reading_of low begin)) + 1) then n ∷ rest else rest) (sym a)
survives_one low begin t n seat (Some x) rest a s l m =
    ap (λ (y : SenderState). stays_at n y ++ rest) (state_at_end low begin t x s.0 (s.2 l) m)
    ∙ stays_so n (length (bits_of (reading_of low begin))) rest (out_slot (all_known (reading_of low begin)) (frame_bits x.frame)) (out_within low begin x.frame)
    ∙ ap (λ (y : Option (List ℕ)). if sends_in (all_known (reading_of low begin)) y (length (bits_of (reading_of low begin)) + 1) then n ∷ rest else rest) (sym a.0)

loses_one : (low : Line) (begin t : ℕ) (seat : Seat) (o : Option Sender) → SendsFor seat begin o → IsSending low begin t o → begin < t → (reading_of low begin).at < t → out_in o ≡ out_of (reading_of low begin) seat.sends
loses_one low begin t seat None a s l m = ap (λ (x : Option (List ℕ)). out_of (reading_of low begin) x) (sym a)
loses_one low begin t seat (Some x) a s l m =
    ap out_at (state_at_end low begin t x s.0 (s.2 l) m)
    ∙ out_so (out_slot (all_known (reading_of low begin)) (frame_bits x.frame))
    ∙ ap (λ (y : Option (List ℕ)). out_of (reading_of low begin) y) (sym a.0)

all_survive : (low : Line) (begin t n : ℕ) (seats : List Seat) (os : List (Option Sender)) → AreSenders seats begin os → AreSending low begin t os → begin < t → (reading_of low begin).at < t
    → survivors_of n os ≡ survivors_from (reading_of low begin) n seats
all_survive low begin t n [] [] a s l m = refl
all_survive low begin t n [] (o ∷ os) a s l m = absurd a
all_survive low begin t n (x ∷ xs) [] a s l m = absurd a
all_survive low begin t n (x ∷ xs) (o ∷ os) a s l m =
    survives_one low begin t n x o (survivors_of (n + 1) os) a.0 s.0 l m
    ∙ ap (λ (rest : List ℕ). if sends_in (all_known (reading_of low begin)) x.sends (length (bits_of (reading_of low begin)) + 1) then n ∷ rest else rest) (all_survive low begin t (n + 1) xs os a.1 s.1 l m)

all_lose : (low : Line) (begin t n : ℕ) (seats : List Seat) (os : List (Option Sender)) → AreSenders seats begin os → AreSending low begin t os → begin < t → (reading_of low begin).at < t
    → losers_of n os ≡ losers_from (reading_of low begin) n seats
all_lose low begin t n [] [] a s l m = refl
all_lose low begin t n [] (o ∷ os) a s l m = absurd a
all_lose low begin t n (x ∷ xs) [] a s l m = absurd a
all_lose low begin t n (x ∷ xs) (o ∷ os) a s l m =
    ap (λ (y : Option ℕ). lost_at n y ++ losers_of (n + 1) os) (loses_one low begin t x o a.0 s.0 l m)
    ∙ ap (λ (rest : List Loser). lost_at n (out_of (reading_of low begin) x.sends) ++ rest) (all_lose low begin t (n + 1) xs os a.1 s.1 l m)

-- Once the reading has ended, who is not out is still sending.
pub states_are_fates : (seats : List Seat) (begin : ℕ) (r : Receiver) (senders : List (Option Sender)) (bits : List Bool) (end : End) (held : ℕ) (low : ℕ → Bool) (t : ℕ) → IsAt seats begin r senders bits (Some end) held low t
    → (survivors_of 0 senders ≡ survivors_from (reading_of low begin) 0 seats) × (losers_of 0 senders ≡ losers_from (reading_of low begin) 0 seats)
states_are_fates seats begin r senders bits end held low t s =
    (all_survive low begin t 0 seats senders s.whose s.sending s.from s.read.0, all_lose low begin t 0 seats senders s.whose s.sending s.from s.read.0)
