-- What a wire finds of the next microsecond is what the round's rule says.
use Rattle.std.proofs.Common.{◌≡◌, ◌≢◌, ℕ, zero, suc, ◌+◌, ◌-◌, ◌<◌, ◌≤◌, Bool, true, false, not, ◌&&◌, ◌||◌, nat_lt, nat_le, List, [], ◌∷◌, ◌++◌, length, length-append, slice_index_or, take, Option, Some, None, IsSome, is_none, if◌then◌else◌, ◌==◌, Err, min, refl, arith, ap, ◌∙◌, sym, subst}
use Rattle.std.specs.List.{list_any, filter_map, cons_option, All}
use Rattle.std.proofs.lemmas.Bool.Decides.{nat_tests}
use Rattle.line_wave.specs.declared.Stretch.{Stretch}
use Rattle.line_wave.specs.Line.{Line, was_low, is_fall, IsWave, IsWaveFrom}
use Rattle.std.proofs.lemmas.List.Folds.{list_any-append, list_any_none}
use Rattle.line_reading.specs.declared.sender.Sender.{Sender}
use Rattle.line_frames.specs.declared.Ending.{Ending}
use Rattle.line_frames.specs.declared.Ending.TheVariants.{Silent, BadStart}
use Rattle.line_frames.specs.Bits.{frame_bits}
use Rattle.line_reading.specs.Reading.{End, Known, Read, Slot, known_at, known_slot, bit_sampled_at, reading_of, read_start, start_of, start_fall, after_slot, after_fall, last_ending, read_slots}
use Rattle.line_reading.specs.Reading.After.{Ends}
use Rattle.line_reading.proofs.Search.{first_in_none}
use Rattle.line_reading.proofs.Causes.{known_start_low, known_start_high, known_in_slot, start_risen}
use Rattle.line_wire.proofs.Along.{AreOver, Reached, over_sampled, next_none, ends_so, known_ending}
use Rattle.line_reading.specs.declared.receiver.ReceiverState.{ReceiverState}
use Rattle.line_reading.specs.declared.receiver.ReceiverState.TheVariants.{Rest, StartLow, StartHigh, Unsampled, Sampled}
use Rattle.line_reading.specs.Follows.{StoodBefore}
use Rattle.line_reading.specs.Hears.{Hears, heard_by, hears, wake_of, due_in}
use Rattle.line_reading.specs.declared.receiver.Receiver.{Receiver}
use Rattle.line_reading.specs.Kept.{running_of}
use Rattle.line_reading.specs.Sending.{known_bits, is_whole, out_by, state_by, sender_pulls, pull_of, SenderStood}
use Rattle.line_reading.proofs.Stood.{stands_at}
pub use Rattle.line_reading.proofs.Keeping.{one_runs, before_heard, reported_heard, running_knows, runs_so}
use Rattle.line_reading.proofs.Sent.{pulls_so}
use Rattle.line_rounds.specs.declared.Seat.{Seat}
use Rattle.line_rounds.specs.Round.{frames_of, is_within, pulse_pulls, is_acknowledged, is_broken, pulled_by, IsRoundLine}
use Rattle.line_rounds.specs.Machine.{acks_until, sends_after}
use Rattle.line_rounds.specs.Reached as wire
use Rattle.line_rounds.proofs.Holding.{acks_now}
use Rattle.line_wire.specs.Listening.{IsReadOnce, AreSenders, AreSending, SendsFor, IsSending}
use Rattle.line_wire.specs.Line.{last_of, HaveBegun}
use Rattle.line_wire.specs.Pulls.{pull_in, until_of, takes_last, low_in, is_on, IsHeld, held_in, Stands}
use Rattle.line_reading.specs.Known.{nothing}
use Rattle.line_reading.specs.Places.{StandsIn, Knows, runs_in}

-- ---- the last pull that began

and_no : (b : Bool) → (b && false) ≡ false
and_no true = refl
and_no false = refl

or_off : (b : Bool) → (b || false) ≡ b
or_off true = refl
or_off false = refl

-- a pull that begins later pulls nothing
not_yet : (begin : ℕ) (ended : Option End) (was : Bool) (t w : ℕ) (later : List Stretch) → All (λ p. w ≤ p.from) later → t < w → list_any (pulse_pulls begin ended was t) later ≡ false
not_yet begin ended was t w later far near = list_any_none (pulse_pulls begin ended was t) later (λ i d m. none (slice_index_or later i d) (far i d m))
  where
    none : (p : Stretch) → w ≤ p.from → pulse_pulls begin ended was t p ≡ false
    none p l = let e : nat_le p.from t ≡ false = grind (arith, nat_tests) in ap (λ b. (b && nat_lt t p.to) && (nat_le begin p.from && (is_within ended p.from || was))) e

-- nor one that ended before
over_by : (begin : ℕ) (ended : Option End) (was : Bool) (t : ℕ) (p : Stretch) → p.to ≤ t → pulse_pulls begin ended was t p ≡ false
over_by begin ended was t p l =
    let e : nat_lt t p.to ≡ false = grind (arith, nat_tests) in
    ap (λ b. (nat_le p.from t && b) && (nat_le begin p.from && (is_within ended p.from || was))) e
    ∙ ap (λ b. b && (nat_le begin p.from && (is_within ended p.from || was))) (and_no (nat_le p.from t))

last_pulls : (begin : ℕ) (ended : Option End) (was : Bool) (t : ℕ) (p : Stretch) → begin ≤ p.from → p.from ≤ t → (pulse_pulls begin ended was t p || false) ≡ takes_last (until_of ended t) was t (Some p)
last_pulls begin ended was t p b l =
    or_off (pulse_pulls begin ended was t p)
    ∙ ap (λ x. (x && nat_lt t p.to) && (nat_le begin p.from && (is_within ended p.from || was))) (let e : nat_le p.from t ≡ true = grind (arith, nat_tests) in e)
    ∙ ap (λ x. nat_lt t p.to && (x && (is_within ended p.from || was))) (let e : nat_le begin p.from ≡ true = grind (arith, nat_tests) in e)
    ∙ ap (λ x. nat_lt t p.to && (x || was)) (in_time ended)
  where
    in_time : (o : Option End) → is_within o p.from ≡ nat_le p.from (until_of o t)
    in_time None = let e : true ≡ nat_le p.from t = grind (arith, nat_tests) in e
    in_time (Some end) = refl

past_pulls : (begin : ℕ) (ended : Option End) (was : Bool) (t n : ℕ) (past later : List Stretch) → IsWaveFrom n (past ++ later) → All (λ p. begin ≤ p.from) past → All (λ p. p.from ≤ t) past
    → list_any (pulse_pulls begin ended was t) past ≡ takes_last (until_of ended t) was t (last_of past)
past_pulls begin ended was t n [] later w i b = refl
past_pulls begin ended was t n (p ∷ []) later w i b = last_pulls begin ended was t p (i 0 p (omega arith)) (b 0 p (omega arith))
past_pulls begin ended was t n (p ∷ q ∷ ps) later w i b =
    ap (λ x. x || list_any (pulse_pulls begin ended was t) (q ∷ ps)) (over_by begin ended was t p (let l = b 1 q (omega arith) in let m = w.2.0 in omega (arith, l, m)))
    ∙ past_pulls begin ended was t (p.to + 1) (q ∷ ps) later w.2 (λ k d l. i (suc k) d (omega (arith, l))) (λ k d l. b (suc k) d (omega (arith, l)))

-- of the pulls of a round the last that began is enough
pub pulls_by_last : (begin : ℕ) (ended : Option End) (was : Bool) (t w : ℕ) (past later : List Stretch) (last : Option Stretch) → IsWave (past ++ later) → All (λ p. w ≤ p.from) later → t < w → HaveBegun begin past last t
    → list_any (pulse_pulls begin ended was t) (past ++ later) ≡ takes_last (until_of ended t) was t last
pulls_by_last begin ended was t w past later last wave far near h =
    list_any-append (pulse_pulls begin ended was t) past later
    ∙ ap (λ b. list_any (pulse_pulls begin ended was t) past || b) (not_yet begin ended was t w later far near)
    ∙ or_off (list_any (pulse_pulls begin ended was t) past)
    ∙ past_pulls begin ended was t 0 past later wave h.inside h.begun
    ∙ ap (takes_last (until_of ended t) was t) (sym h.last_is)

-- ---- senders

-- each sender that stands pulls as the round's rule says
sender_so : (low : Line) (begin t : ℕ) (s : Sender) (f : List ℕ) → s.begin ≡ begin → s.frame ≡ f → SenderStood s low t → sender_pulls begin (known_at t (reading_of low begin)) t f ≡ pull_of s t
sender_so low begin t s f b e h =
    ap (λ (g : List ℕ). sender_pulls begin (known_at t (reading_of low begin)) t g) (sym e)
    ∙ ap (λ n. sender_pulls n (known_at t (reading_of low n)) t s.frame) (sym b)
    ∙ sym (pulls_so low s.begin t s.last s.frame s.state h.state h.past)

senders_so : (seats : List Seat) (low : Line) (begin t : ℕ) (os : List (Option Sender)) → begin < t → AreSenders seats begin os → AreSending low begin t os
    → list_any (sender_pulls begin (known_at t (reading_of low begin)) t) (frames_of seats) ≡ list_any (pull_in t) os
senders_so [] low begin t [] l a s = refl
senders_so [] low begin t (o ∷ os) l a s = absurd a
senders_so (x ∷ xs) low begin t [] l a s = absurd a
senders_so (x ∷ xs) low begin t (o ∷ os) l a s = by_sender o x.sends refl a.0 s.0 (senders_so xs low begin t os l a.1 s.1)
  where
    k : Known
    k = known_at t (reading_of low begin)

    by_sender : (o : Option Sender) (sends : Option (List ℕ)) → x.sends ≡ sends → SendsFor x begin o → IsSending low begin t o
        → list_any (sender_pulls begin k t) (filter_map (λ s. s.sends) xs) ≡ list_any (pull_in t) os
        → list_any (sender_pulls begin k t) (cons_option sends (filter_map (λ s. s.sends) xs)) ≡ (pull_in t o || list_any (pull_in t) os)
    by_sender None None e h g r = r
    by_sender None (Some f) e h g r = let y : Some f ≡ None = sym e ∙ h in cc
    by_sender (Some s) None e h g r = let y : None ≡ Some s.frame = sym e ∙ h.0 in cc
    by_sender (Some s) (Some f) e h g r =
        let y : Some f ≡ Some s.frame = sym e ∙ h.0 in
        let z : s.frame ≡ f = cc in
        ap (λ c. c || list_any (sender_pulls begin k t) (filter_map (λ s. s.sends) xs)) (sender_so low begin t s f h.1 z (g.2 l))
        ∙ ap (λ c. pull_of s t || c) r

within_so : (ended : Option End) (t : ℕ) → is_within ended t ≡ nat_le t (until_of ended t)
within_so None t = let e : true ≡ nat_le t t = grind (arith, nat_tests) in e
within_so (Some end) t = refl

-- `told` is what the receiver is told of that line, which is read as the line is
pub low_is_heard : (seats : List Seat) (begin : ℕ) (past later : List Stretch) (last : Option Stretch) (senders : List (Option Sender)) (until held : ℕ) (low told : ℕ → Bool) (t w : ℕ)
    → IsWave (past ++ later) → IsRoundLine seats begin (past ++ later) low → All (λ p. w ≤ p.from) later → t < w → HaveBegun begin past last t
    → reading_of told begin ≡ reading_of low begin → Stands seats begin senders until held told t
    → low t ≡ low_in senders last until held (was_low low t) t
low_is_heard seats begin past later last senders until held low told t w wave line far near begun reads s =
    line t
    ∙ ap (λ (r : Read). pulled_by (frames_of seats) seats begin (past ++ later) (was_low low t) (known_at t r) t) (sym reads)
    ∙ ap (λ c. c || ((list_any (sender_pulls begin k t) (frames_of seats) && (is_within k.ended t || was_low low t)) || (is_acknowledged seats k t || is_broken seats k t k.ended))) (pulls_by_last begin k.ended (was_low low t) t w past later last wave far near begun)
    ∙ ap (λ c. takes_last (until_of k.ended t) (was_low low t) t last || ((c && (is_within k.ended t || was_low low t)) || (is_acknowledged seats k t || is_broken seats k t k.ended))) (senders_so seats told begin t senders s.from s.whose s.sending)
    ∙ ap (λ c. takes_last (until_of k.ended t) (was_low low t) t last || ((list_any (pull_in t) senders && (c || was_low low t)) || (is_acknowledged seats k t || is_broken seats k t k.ended))) (within_so k.ended t)
    ∙ ap (λ c. takes_last (until_of k.ended t) (was_low low t) t last || ((list_any (pull_in t) senders && (nat_le t (until_of k.ended t) || was_low low t)) || c)) s.held_is
    ∙ ap (λ n. low_in senders last n held (was_low low t) t) (sym s.until_is)
  where
    k : Known
    k = known_at t (reading_of told begin)

-- ---- the reading that runs

pub was_high : (low : Line) (begin : ℕ) → IsReadOnce low begin → (u : ℕ) → u ≤ begin → was_low low u ≡ false
was_high low begin r zero l = let x : nat_lt 0 zero ≡ false = grind (arith, nat_tests) in ap (λ b. b && low (zero - 1)) x
was_high low begin r (suc n) l = ap (λ b. nat_lt 0 (suc n) && b) (r.before (suc n - 1) (omega arith)) ∙ and_no (nat_lt 0 (suc n))
  where
    and_no : (b : Bool) → (b && false) ≡ false
    and_no true = refl
    and_no false = refl

pub runs_in_it : (low : Line) (begin u : ℕ) → IsReadOnce low begin → begin ≤ u → u < (reading_of low begin).at → running_of low u ≡ Some begin
runs_in_it low begin u r l m =
    one_runs low u (u + 1) 0 begin (omega arith) (omega arith) (omega arith)
    (ap (λ b. b && not (was_low low begin)) r.first ∙ ap (λ b. true && not b) (was_high low begin r begin (omega arith)))
    (λ v a b. ap (λ c. c && not (was_low low v)) (r.before v b)) m

pub runs_there : (low : Line) (begin t : ℕ) → IsReadOnce low begin → begin < t → t ≤ (reading_of low begin).at → runs_in (hears low t).place (hears low t).begin ≡ Some begin
runs_there low begin t once from runs =
    sym (runs_so low (t - 1) (hears low t).place (hears low t).begin (hears low t).fall (hears low t).bits
    (subst (λ n. StandsIn low n (hears low t).place (hears low t).begin (hears low t).fall (hears low t).bits) (let x : t ≡ t - 1 + 1 = omega (arith, from) in x) (stands_at low t)))
    ∙ runs_in_it low begin (t - 1) once (omega (arith, from)) (omega (arith, from, runs))

knows_there : (low : Line) (begin t : ℕ) → IsReadOnce low begin → begin < t → t ≤ (reading_of low begin).at → Knows low t (hears low t).begin (hears low t).bits false false
knows_there low begin t once from runs =
    running_knows low t (hears low t).place (hears low t).begin (hears low t).fall (hears low t).bits begin (stands_at low t) (runs_there low begin t once from runs)

pub begin_is : (place : ReceiverState) (begin b : ℕ) → runs_in place begin ≡ Some b → begin ≡ b
begin_is Rest begin b e = cc
begin_is StartLow begin b e = cc
begin_is StartHigh begin b e = cc
begin_is Unsampled begin b e = cc
begin_is Sampled begin b e = cc

-- while the reading runs, the receiver's bits are those that are known, and none of its endings has all blocks
pub bits_are_heard : (r : Receiver) (low : ℕ → Bool) (begin t : ℕ) → IsReadOnce low begin → StoodBefore r low t → begin < t → t ≤ (reading_of low begin).at
    → (known_bits (known_at t (reading_of low begin)) ≡ r.bits.items) × (is_whole (known_at t (reading_of low begin)).ended ≡ false)
unfolding read_slots
bits_are_heard r low begin t once stood from runs =
    let k = knows_there low begin t once from runs in
    let b = begin_is (hears low t).place (hears low t).begin begin (runs_there low begin t once from runs) in (
      ap (λ n. known_bits (known_at t (reading_of low n))) (sym b) ∙ k.bits_are ∙ ap (λ (h : Hears). h.bits) (sym (stood.keeps ∙ before_heard low t)),
      ap (λ n. is_whole (known_at t (reading_of low n)).ended) (sym b) ∙ k.whole_is,
    )

-- ---- the last microsecond of a reading that was not heard to end

over_until : (r : Read) (t : ℕ) → r.until + 1 ≡ t → until_of (known_at t r).ended t ≡ t - 1
over_until r t e =
    ap (λ b. let o : Option End = if b then Some (record { ending = r.ending; at = r.at; until = r.until }) else None in until_of o t) (let x : nat_lt r.until t ≡ true = grind (arith, nat_tests) in x)
    ∙ (let x : r.until ≡ t - 1 = omega (arith, e) in x)

due_at : (low : Line) (t : ℕ) (place : ReceiverState) (begin fall : ℕ) (bits : List Bool) (b : ℕ) → StandsIn low t place begin fall bits → runs_in place begin ≡ Some b
    → until_of (known_at t (reading_of low begin)).ended t ≡ (if due_in place begin fall t then t - 1 else t)
unfolding StandsIn nothing
due_at low t Rest begin fall bits b s e = cc
due_at low t StartLow begin fall bits b s e = ap (λ (k : Known). until_of k.ended t) (known_start_low low begin t s.early s.quiet)
due_at low t StartHigh begin fall bits b s e = by_due (t == begin + 4701) refl
  where
    late : t ≡ begin + 4701 → start_of low begin ≡ Err (begin + 4701)
    late l = start_risen low begin s.rise s.found s.late
        ∙ ap (start_fall begin) (first_in_none (is_fall low) (s.rise + 1) (begin + 4700 - s.rise) (λ u a c. s.quiet u (omega (arith, a)) (omega (arith, c, l, s.near))))

    by_due : (d : Bool) → (t == begin + 4701) ≡ d → until_of (known_at t (reading_of low begin)).ended t ≡ (if d then t - 1 else t)
    by_due true d =
        let l : t ≡ begin + 4701 = grind (arith, nat_tests) in
        over_until (reading_of low begin) t (ap (λ (r : Read). r.until + 1) (ap (read_start low begin) (late l)) ∙ (let x : min (begin + 4701) (begin + 4700) + 1 ≡ t = omega (arith, l) in x))
    by_due false d =
        let n = s.early in
        let l : t ≤ begin + 4700 = grind (arith, nat_tests) in
        ap (λ (k : Known). until_of k.ended t) (known_start_high low begin s.rise t s.found s.late l s.quiet)
due_at low t Unsampled begin fall bits b s e =
    ap (λ (k : Known). until_of k.ended t)
    (known_in_slot low begin t fall s.slot.left s.slot.xs bits s.slot.reached.goes (over_sampled fall t s.slot.xs (omega (arith, s.slot.after)) s.slot.reached.over) s.slot.after s.slot.quiet (omega (arith, s.early)) (λ w. s.early))
due_at low t Sampled begin fall bits b s e = by_due (t == fall + 2751) refl
  where
    by_due : (d : Bool) → (t == fall + 2751) ≡ d → until_of (known_at t (reading_of low begin)).ended t ≡ (if d then t - 1 else t)
    by_due true d =
        let l : t ≡ fall + 2751 = grind (arith, nat_tests) in
        over_until (reading_of low begin) t
        (ap (λ (r : Read). r.until + 1) (ends_so low begin s.slot.left s.slot.xs s.before fall Silent (fall + 2751) s.slot.reached
        (ap (after_slot low fall) s.plain ∙ ap (after_fall fall) (next_none low fall t 2750 s.slot.quiet (omega (arith, l)))))
        ∙ (let x : fall + 2751 - 1 + 1 ≡ t = omega (arith, l) in x))
    by_due false d =
        let n = s.early in
        let l : t ≤ fall + 2750 = grind (arith, nat_tests) in
        ap (λ (k : Known). until_of k.ended t)
        (known_in_slot low begin t fall s.slot.left s.slot.xs s.before s.slot.reached.goes (over_sampled fall t s.slot.xs (omega (arith, s.slot.after)) s.slot.reached.over) s.slot.after s.slot.quiet l
        (λ w. let x : IsSome {T = Ending} None = subst (λ (o : Option Ending). IsSome o) s.plain w in cc))

-- what is known of the ending, as long as none was told, is what the receiver's next wake says
pub due_is_heard : (r : Receiver) (low : ℕ → Bool) (begin t : ℕ) → IsReadOnce low begin → StoodBefore r low t → begin < t → t ≤ (reading_of low begin).at
    → until_of (known_at t (reading_of low begin)).ended t ≡ (if due_in r.place r.begin r.fall t then t - 1 else t)
due_is_heard r low begin t once stood from runs =
    let h = runs_there low begin t once from runs in
    let b = begin_is (hears low t).place (hears low t).begin begin h in
    let e : heard_by r ≡ hears low t = stood.keeps ∙ before_heard low t in
    ap (λ n. until_of (known_at t (reading_of low n)).ended t) (sym b)
    ∙ due_at low t (hears low t).place (hears low t).begin (hears low t).fall (hears low t).bits begin (stands_at low t) h
    ∙ ap (λ (x : Hears). if due_in x.place x.begin x.fall t then t - 1 else t) (sym e)

-- ---- who goes on sending

on_by : (o : Option ℕ) → is_on (state_by o false) ≡ is_none o
on_by None = refl
on_by (Some slot) = refl

-- a sender goes on exactly where the receiver's bits do not tell it to stop
pub sending_is_heard : (r : Receiver) (s : Sender) (low : ℕ → Bool) (begin t : ℕ) → IsReadOnce low begin → StoodBefore r low t → begin < t → t ≤ (reading_of low begin).at
    → SenderStood s low t → s.begin ≡ begin → is_on s.state ≡ sends_after r.bits.items (Some s.frame)
sending_is_heard r s low begin t once stood from runs h b =
    let k = bits_are_heard r low begin t once stood from runs in
    ap is_on (h.state ∙ ap (λ n. state_by (out_by (known_bits (known_at t (reading_of low n))) (is_whole (known_at t (reading_of low n)).ended) (frame_bits s.frame)) (nat_lt (reading_of low n).at t)) b)
    ∙ ap (λ c. is_on (state_by (out_by (known_bits (known_at t (reading_of low begin))) (is_whole (known_at t (reading_of low begin)).ended) (frame_bits s.frame)) c)) (let x : nat_lt (reading_of low begin).at t ≡ false = grind (arith, nat_tests) in x)
    ∙ on_by (out_by (known_bits (known_at t (reading_of low begin))) (is_whole (known_at t (reading_of low begin)).ended) (frame_bits s.frame))
    ∙ ap (λ (bs : List Bool). is_none (out_by bs (is_whole (known_at t (reading_of low begin)).ended) (frame_bits s.frame))) k.0
    ∙ ap (λ c. is_none (out_by r.bits.items c (frame_bits s.frame))) k.1

-- ---- who acknowledges

pub reached_so : (low : Line) (begin left : ℕ) (xs : List Slot) (bits : List Bool) (e : ℕ) → Reached low begin left xs bits e → wire.Reached low begin left xs bits e
unfolding read_slots
reached_so low begin left xs bits e r = record { goes = r.goes; reported = r.reported; over = over_so xs r.over }
  where
    over_so : (ss : List Slot) → AreOver e ss → wire.AreOver e ss
    over_so [] o = tt
    over_so (s ∷ ss) o = (o.0, over_so ss o.1)

none_held : (seats : List Seat) (k : Known) (t : ℕ) → k ≡ nothing → (is_acknowledged seats k t || is_broken seats k t k.ended) ≡ nat_lt t 0
unfolding nothing
none_held seats k t e = ap (λ (x : Known). is_acknowledged seats x t || is_broken seats x t x.ended) e ∙ (let x : false ≡ nat_lt t 0 = grind (arith, nat_tests) in x)

or_no : (b : Bool) → (b || false) ≡ b
or_no true = refl
or_no false = refl

held_open : (seats : List Seat) (low : Line) (begin t left : ℕ) (xs : List Slot) (before : List Bool) (fall : ℕ) (s : Slot) (ended : Option End) → Reached low begin (suc left) xs before fall → length xs ≡ length before → fall < t
    → known_at t (reading_of low begin) ≡ record { slots = xs ++ s ∷ []; ended = ended } → s.fall ≡ fall → is_broken seats (known_at t (reading_of low begin)) t ended ≡ false
    → IsHeld seats low begin t (acks_until seats before fall)
held_open seats low begin t left xs before fall s ended r c l k f n =
    ap (λ (x : Option End). is_acknowledged seats (known_at t (reading_of low begin)) t || is_broken seats (known_at t (reading_of low begin)) t x) (ap (λ (x : Known). x.ended) k)
    ∙ ap (λ x. is_acknowledged seats (known_at t (reading_of low begin)) t || x) n
    ∙ or_no (is_acknowledged seats (known_at t (reading_of low begin)) t)
    ∙ acks_now seats low begin left xs before fall t (reached_so low begin (suc left) xs before fall r) c l s ended k f

held_at : (seats : List Seat) (low : Line) (t : ℕ) (place : ReceiverState) (begin fall : ℕ) (bits : List Bool) (b : ℕ) → StandsIn low t place begin fall bits → runs_in place begin ≡ Some b → place ≢ Sampled
    → due_in place begin fall t ≡ false → IsHeld seats low begin t (held_in seats place fall bits)
unfolding StandsIn
held_at seats low t Rest begin fall bits b s e m d = cc
held_at seats low t StartLow begin fall bits b s e m d = none_held seats (known_at t (reading_of low begin)) t (known_start_low low begin t s.early s.quiet)
held_at seats low t StartHigh begin fall bits b s e m d =
    let n = s.early in
    let l : t ≤ begin + 4700 = grind (arith, nat_tests) in
    none_held seats (known_at t (reading_of low begin)) t (known_start_high low begin s.rise t s.found s.late l s.quiet)
held_at seats low t Unsampled begin fall bits b s e m d =
    held_open seats low begin t s.slot.left s.slot.xs bits fall (known_slot t (record { fall = fall; bit = bit_sampled_at low fall })) None s.slot.reached s.slot.count s.slot.after
    (known_in_slot low begin t fall s.slot.left s.slot.xs bits s.slot.reached.goes (over_sampled fall t s.slot.xs (omega (arith, s.slot.after)) s.slot.reached.over) s.slot.after s.slot.quiet (omega (arith, s.early)) (λ w. s.early))
    refl refl
held_at seats low t Sampled begin fall bits b s e m d = absurd (m refl)

pub take_most : (bits : List Bool) (x : Bool) → take (length (bits ++ x ∷ []) - 1) (bits ++ x ∷ []) ≡ bits
take_most bits x = ap (λ n. take n (bits ++ x ∷ [])) (let e = length-append bits (x ∷ []) in let y : length (bits ++ x ∷ []) - 1 ≡ length bits = omega (arith, e) in y) ∙ taken bits
  where
    taken : (bs : List Bool) → take (length bs) (bs ++ x ∷ []) ≡ bs
    taken [] = refl
    taken (c ∷ cs) = ap (λ (ys : List Bool). c ∷ ys) (taken cs)

held_sampled : (seats : List Seat) (low : Line) (t : ℕ) (begin fall : ℕ) (bits : List Bool) → StandsIn low t Sampled begin fall bits → due_in Sampled begin fall t ≡ false → IsHeld seats low begin t (held_in seats Sampled fall bits)
unfolding StandsIn
held_sampled seats low t begin fall bits s d =
    let n = s.early in
    let l : t ≤ fall + 2750 = grind (arith, nat_tests) in
    subst (λ (bs : List Bool). IsHeld seats low begin t (acks_until seats bs fall)) (sym (ap (λ (bs : List Bool). take (length bs - 1) bs) s.reported ∙ take_most s.before (not (low (fall + 1050)))))
    (held_open seats low begin t s.slot.left s.slot.xs s.before fall (known_slot t (record { fall = fall; bit = bit_sampled_at low fall })) None s.slot.reached s.slot.count s.slot.after
    (known_in_slot low begin t fall s.slot.left s.slot.xs s.before s.slot.reached.goes (over_sampled fall t s.slot.xs (omega (arith, s.slot.after)) s.slot.reached.over) s.slot.after s.slot.quiet l
    (λ w. let x : IsSome {T = Ending} None = subst (λ (o : Option Ending). IsSome o) s.plain w in cc))
    refl refl)

held_there : (seats : List Seat) (low : Line) (t : ℕ) (place : ReceiverState) (begin fall : ℕ) (bits : List Bool) (b : ℕ) → StandsIn low t place begin fall bits → runs_in place begin ≡ Some b
    → due_in place begin fall t ≡ false → IsHeld seats low begin t (held_in seats place fall bits)
held_there seats low t Rest begin fall bits b s e d = cc
held_there seats low t StartLow begin fall bits b s e d = held_at seats low t StartLow begin fall bits b s e (λ x. cc) d
held_there seats low t StartHigh begin fall bits b s e d = held_at seats low t StartHigh begin fall bits b s e (λ x. cc) d
held_there seats low t Unsampled begin fall bits b s e d = held_at seats low t Unsampled begin fall bits b s e (λ x. cc) d
held_there seats low t Sampled begin fall bits b s e d = held_sampled seats low t begin fall bits s d

-- that is what the round's rule says, while the reading runs and is not due to end for want of a fall
pub held_is_heard : (seats : List Seat) (r : Receiver) (low : ℕ → Bool) (begin t : ℕ) → IsReadOnce low begin → StoodBefore r low t → begin < t → t ≤ (reading_of low begin).at
    → due_in r.place r.begin r.fall t ≡ false → IsHeld seats low begin t (held_in seats r.place r.fall r.bits.items)
held_is_heard seats r low begin t once stood from runs d =
    let h = runs_there low begin t once from runs in
    let b = begin_is (hears low t).place (hears low t).begin begin h in
    let e : heard_by r ≡ hears low t = stood.keeps ∙ before_heard low t in
    subst (λ n. IsHeld seats low begin t n) (ap (λ (x : Hears). held_in seats x.place x.fall x.bits) (sym e))
    (subst (λ n. IsHeld seats low n t (held_in seats (hears low t).place (hears low t).fall (hears low t).bits)) b
    (held_there seats low t (hears low t).place (hears low t).begin (hears low t).fall (hears low t).bits begin (stands_at low t) h (ap (λ (x : Hears). due_in x.place x.begin x.fall t) (sym e) ∙ d)))

-- ---- the same, at the instant that is due

known_so : (k : Known) (ss : List Slot) → k.slots ≡ ss → k ≡ record { slots = ss; ended = k.ended }
known_so k ss e = ap (λ (xs : List Slot). let n : Known = record { slots = xs; ended = k.ended } in n) e

silent_whole : (seats : List Seat) (k : Known) (t at until : ℕ) (b : Bool) → is_broken seats k t (if b then Some (record { ending = Silent; at = at; until = until }) else None) ≡ false
silent_whole seats k t at until true = refl
silent_whole seats k t at until false = refl

held_silent : (seats : List Seat) (low : Line) (t : ℕ) (begin fall : ℕ) (bits : List Bool) → StandsIn low t Sampled begin fall bits → t ≡ fall + 2751 → IsHeld seats low begin t (held_in seats Sampled fall bits)
unfolding StandsIn
held_silent seats low t begin fall bits s l =
    subst (λ (bs : List Bool). IsHeld seats low begin t (acks_until seats bs fall)) (sym (ap (λ (bs : List Bool). take (length bs - 1) bs) s.reported ∙ take_most s.before (not (low (fall + 1050)))))
    (held_open seats low begin t s.slot.left s.slot.xs s.before fall (known_slot t (record { fall = fall; bit = bit_sampled_at low fall })) (known_at t (reading_of low begin)).ended s.slot.reached s.slot.count s.slot.after
    (known_so (known_at t (reading_of low begin)) (s.slot.xs ++ known_slot t (record { fall = fall; bit = bit_sampled_at low fall }) ∷ [])
    (known_ending low begin s.slot.left s.slot.xs s.before fall t Silent (fall + 2751) s.slot.reached s.slot.after ends))
    refl
    (ap (λ (r : Read). is_broken seats (known_at t (reading_of low begin)) t (if nat_lt r.until t then Some (record { ending = r.ending; at = r.at; until = r.until }) else None))
    (ends_so low begin s.slot.left s.slot.xs s.before fall Silent (fall + 2751) s.slot.reached ends)
    ∙ silent_whole seats (known_at t (reading_of low begin)) t (fall + 2751) (fall + 2751 - 1) (nat_lt (fall + 2751 - 1) t)))
  where
    ends : after_slot low fall (last_ending s.before) ≡ Ends Silent (fall + 2751)
    ends = ap (after_slot low fall) s.plain ∙ ap (after_fall fall) (next_none low fall t 2750 s.slot.quiet (omega (arith, l)))

pub bad_whole : (seats : List Seat) (t at until : ℕ) (b : Bool) → (let k : Known = record { slots = []; ended = if b then Some (record { ending = BadStart; at = at; until = until }) else None } in is_acknowledged seats k t || is_broken seats k t k.ended) ≡ nat_lt t 0
bad_whole seats t at until true = let x : false ≡ nat_lt t 0 = grind (arith, nat_tests) in x
bad_whole seats t at until false = let x : false ≡ nat_lt t 0 = grind (arith, nat_tests) in x

held_bad : (seats : List Seat) (low : Line) (t : ℕ) (begin fall : ℕ) (bits : List Bool) → StandsIn low t StartHigh begin fall bits → t ≡ begin + 4701 → IsHeld seats low begin t 0
unfolding StandsIn
held_bad seats low t begin fall bits s l =
    ap (λ (r : Read). is_acknowledged seats (known_at t r) t || is_broken seats (known_at t r) t (known_at t r).ended) (ap (read_start low begin) late)
    ∙ bad_whole seats t (begin + 4701) (min (begin + 4701) (begin + 4700)) (nat_lt (min (begin + 4701) (begin + 4700)) t)
  where
    late : start_of low begin ≡ Err (begin + 4701)
    late = start_risen low begin s.rise s.found s.late
        ∙ ap (start_fall begin) (first_in_none (is_fall low) (s.rise + 1) (begin + 4700 - s.rise) (λ u a c. s.quiet u (omega (arith, a)) (omega (arith, c, l, s.near))))

held_due : (seats : List Seat) (low : Line) (t : ℕ) (place : ReceiverState) (begin fall : ℕ) (bits : List Bool) → StandsIn low t place begin fall bits → due_in place begin fall t ≡ true → IsHeld seats low begin t (held_in seats place fall bits)
held_due seats low t Rest begin fall bits s d = cc
held_due seats low t StartLow begin fall bits s d = cc
held_due seats low t StartHigh begin fall bits s d = held_bad seats low t begin fall bits s (let x : t ≡ begin + 4701 = grind (arith, nat_tests) in x)
held_due seats low t Unsampled begin fall bits s d = cc
held_due seats low t Sampled begin fall bits s d = held_silent seats low t begin fall bits s (let x : t ≡ fall + 2751 = grind (arith, nat_tests) in x)

-- and where it is due, too: an ending for want of a fall makes nobody pull
pub held_when_due : (seats : List Seat) (r : Receiver) (low : ℕ → Bool) (begin t : ℕ) → IsReadOnce low begin → StoodBefore r low t → begin < t → t ≤ (reading_of low begin).at
    → IsHeld seats low begin t (held_in seats r.place r.fall r.bits.items)
held_when_due seats r low begin t once stood from runs = by_due (due_in r.place r.begin r.fall t) refl
  where
    by_due : (d : Bool) → due_in r.place r.begin r.fall t ≡ d → IsHeld seats low begin t (held_in seats r.place r.fall r.bits.items)
    by_due false d = held_is_heard seats r low begin t once stood from runs d
    by_due true d =
        let b = begin_is (hears low t).place (hears low t).begin begin (runs_there low begin t once from runs) in
        let e : heard_by r ≡ hears low t = stood.keeps ∙ before_heard low t in
        subst (λ n. IsHeld seats low begin t n) (ap (λ (x : Hears). held_in seats x.place x.fall x.bits) (sym e))
        (subst (λ n. IsHeld seats low n t (held_in seats (hears low t).place (hears low t).fall (hears low t).bits)) b
        (held_due seats low t (hears low t).place (hears low t).begin (hears low t).fall (hears low t).bits (stands_at low t) (ap (λ (x : Hears). due_in x.place x.begin x.fall t) (sym e) ∙ d)))

-- ---- no receiver wakes in the past

ahead_at : (low : Line) (t : ℕ) (place : ReceiverState) (begin fall : ℕ) (bits : List Bool) → StandsIn low t place begin fall bits → (n : ℕ) → wake_of (record { place = place; begin = begin; fall = fall; bits = bits }) ≡ Some n → t ≤ n
unfolding StandsIn
ahead_at low t Rest begin fall bits s n e = let x : None ≡ Some n = e in cc
ahead_at low t StartLow begin fall bits s n e = let x : Some (begin + 3901) ≡ Some n = e in let y : begin + 3901 ≡ n = cc in let m : t ≤ begin + 3901 = s.early in omega (arith, y, m)
ahead_at low t StartHigh begin fall bits s n e = let x : Some (begin + 4701) ≡ Some n = e in let y : begin + 4701 ≡ n = cc in let m : t ≤ begin + 4701 = s.early in omega (arith, y, m)
ahead_at low t Unsampled begin fall bits s n e = let x : Some (fall + 1050) ≡ Some n = e in let y : fall + 1050 ≡ n = cc in let m : t ≤ fall + 1050 = s.early in omega (arith, y, m)
ahead_at low t Sampled begin fall bits s n e = let x : Some (fall + 2751) ≡ Some n = e in let y : fall + 2751 ≡ n = cc in let m : t ≤ fall + 2751 = s.early in omega (arith, y, m)

pub wakes_ahead : (r : Receiver) (low : Line) (t : ℕ) → StoodBefore r low t → (n : ℕ) → wake_of (heard_by r) ≡ Some n → t ≤ n
wakes_ahead r low t s n e =
    ahead_at low t (hears low t).place (hears low t).begin (hears low t).fall (hears low t).bits (stands_at low t) n (ap wake_of (sym (s.keeps ∙ before_heard low t)) ∙ e)

-- in the start bit, before its rise, the line is low
still_low : (low : Line) (t : ℕ) (place : ReceiverState) (begin fall : ℕ) (bits : List Bool) → StandsIn low t place begin fall bits → place ≡ StartLow → was_low low t ≡ true
unfolding StandsIn
still_low low t Rest begin fall bits s e = cc
still_low low t StartLow begin fall bits s e = s.still
still_low low t StartHigh begin fall bits s e = cc
still_low low t Unsampled begin fall bits s e = cc
still_low low t Sampled begin fall bits s e = cc

pub start_low : (low : Line) (t : ℕ) → (hears low t).place ≡ StartLow → was_low low t ≡ true
start_low low t e = still_low low t (hears low t).place (hears low t).begin (hears low t).fall (hears low t).bits (stands_at low t) e

-- while a reading runs
not_rest : (place : ReceiverState) (begin b : ℕ) → runs_in place begin ≡ Some b → place ≢ Rest
not_rest Rest begin b e = cc
not_rest StartLow begin b e = λ z. cc
not_rest StartHigh begin b e = λ z. cc
not_rest Unsampled begin b e = λ z. cc
not_rest Sampled begin b e = λ z. cc

pub runs_place : (low : Line) (begin t : ℕ) → IsReadOnce low begin → begin < t → t ≤ (reading_of low begin).at → (hears low t).place ≢ Rest
runs_place low begin t once from runs = not_rest (hears low t).place (hears low t).begin begin (runs_there low begin t once from runs)
