-- A wire before the round's first microsecond, and what it shows.
use Rattle.std.proofs.Common.{◌≡◌, ℕ, zero, suc, ◌+◌, ◌-◌, ◌<◌, ◌≤◌, true, List, [], ◌∷◌, length, slice_get, Option, Some, None, MatchOption, refl, arith, ap, ◌∙◌, sym, subst}
use Rattle.std.proofs.Math.Path.{fun_ext}
use Rattle.line_wave.specs.declared.Stretch.{Stretch}
use Rattle.line_wave.specs.Line.{Line, was_low}
use Rattle.line_wave.specs.Bounds.{latest_begin}
use Rattle.line_reading.specs.declared.sender.Sender.{Sender}
use Rattle.line_reading.specs.Follows.{StandsOn}
use Rattle.line_reading.specs.Kept.{kept_before}
use Rattle.line_reading.specs.Sending.{SenderStood}
use Rattle.line_rounds.specs.declared.Seat.{Seat}
use Rattle.line_rounds.specs.Machine.{AreSentWell}
use Rattle.line_wire.specs.Listening.{AreSenders, AreSending, SendsFor, IsSending}
use Rattle.line_wire.specs.declared.edge_wire.EdgeWire.{EdgeWire}
use Rattle.line_wire.specs.Told.{told_of}
use Rattle.line_wire.specs.Turns.{IsBegun}
use Rattle.line_wire.specs.Wired.{EachOf, IsBegunWith, IsFresh, IsKept, IsReceiverIn, IsSenderIn, SendsNothing}
use Rattle.line_wire.proofs.Bounded.{stands_past}
use Rattle.line_wire.proofs.First.{begun_senders, was_now}
use Rattle.line_wire.proofs.Told.{told_as_it_is}

pub begins_fresh : (w : EdgeWire) → w.begin ≤ latest_begin → w.time ≡ w.begin → AreSentWell w.seats.items → w.last ≡ None → w.begun ≡ 0 → IsKept w → IsFresh w → IsBegunWith [] w
begins_fresh w early e sent last count kept fresh = record {
  early = early;
  from = omega (arith, e);
  near = omega (arith, e, early);
  sent = sent;
  pulls = record { inside = (λ i d l. absurd (omega (arith, l))); begun = (λ i d l. absurd (omega (arith, l))); last_is = last };
  wave = tt;
  ends = (λ i d l. absurd (omega (arith, l)));
  count = count;
  kept = kept;
  fresh = λ x. fresh;
  level = fresh.level.1 ∙ sym fresh.level.0;
  stands = λ after. absurd (omega (arith, after, e));
}

-- ---- what it shows

as_told : (low : Line) (begin : ℕ) → low begin ≡ true → told_of low begin ≡ low
as_told low begin h = fun_ext (told_as_it_is low begin h)

pub receiver_stands : (past : List Stretch) (w : EdgeWire) → IsBegunWith past w → IsReceiverIn past w w.receiver
receiver_stands past w b = record { before = λ e. (b.fresh e).silent; stands = stands }
  where
    stands : w.begin < w.time → EachOf past w (λ low. low w.begin ≡ true → StandsOn w.receiver low (w.time - 1))
    stands after later low wave late line first =
        let s = (b.stands after later low wave late line).at.stood in
        subst (λ (x : Line). StandsOn w.receiver x (w.time - 1)) (as_told low w.begin first) (record {
          keeps = s.keeps ∙ ap (kept_before (told_of low w.begin)) (let x : w.time ≡ suc (w.time - 1) = omega (arith, after) in x);
          level = (was (told_of low w.begin) s.level, b.level ∙ was (told_of low w.begin) s.level);
        })
      where
        was : (x : Line) → w.receiver.was_low ≡ was_low x w.time → w.receiver.was_low ≡ x (w.time - 1)
        was x h = h ∙ ap (was_low x) (let y : w.time ≡ w.time - 1 + 1 = omega (arith, after) in y) ∙ was_now x (w.time - 1)

-- whose senders they are
pub whose : (past : List Stretch) (w : EdgeWire) → IsBegunWith past w → AreSenders w.seats.items w.begin w.senders.items
whose past w b = by_time (w.time - w.begin) refl
  where
    by_time : (n : ℕ) → w.time - w.begin ≡ n → AreSenders w.seats.items w.begin w.senders.items
    by_time zero e = begun_senders w.seats.items w.begin w.senders.items (b.fresh (let f = b.from in omega (arith, e, f))).senders
    by_time (suc n) e = (stands_past past w b (omega (arith, e))).at.whose

sender_at : (seats : List Seat) (begin : ℕ) (os : List (Option Sender)) (k : ℕ) (s : Seat) (o : Option Sender) → AreSenders seats begin os → slice_get seats k ≡ Some s → slice_get os k ≡ Some o → SendsFor s begin o
sender_at [] begin [] k s o h a b = cc
sender_at [] begin (x ∷ os) k s o h a b = absurd h
sender_at (y ∷ seats) begin [] k s o h a b = absurd h
sender_at (y ∷ seats) begin (x ∷ os) zero s o h a b =
    let e : y ≡ s = cc in let f : x ≡ o = cc in subst (λ z. SendsFor z begin o) e (subst (λ z. SendsFor y begin z) f h.0)
sender_at (y ∷ seats) begin (x ∷ os) (suc k) s o h a b = sender_at seats begin os k s o h.1 a b

sending_at : (low : Line) (begin n : ℕ) (os : List (Option Sender)) (k : ℕ) (x : Sender) → AreSending low begin n os → slice_get os k ≡ Some (Some x) → begin < n → SenderStood x low n
sending_at low begin n [] k x h a l = cc
sending_at low begin n (o ∷ os) zero x h a l = let e : o ≡ Some x = cc in (subst (λ z. IsSending low begin n z) e h.0).2 l
sending_at low begin n (o ∷ os) (suc k) x h a l = sending_at low begin n os k x h.1 a l

pub sends_nothing : (past : List Stretch) (w : EdgeWire) (k : ℕ) → IsBegunWith past w → slice_get w.senders.items k ≡ Some None → SendsNothing w k
sends_nothing past w k b e s a = sender_at w.seats.items w.begin w.senders.items k s None (whose past w b) a e

pub sender_stands : (past : List Stretch) (w : EdgeWire) (k : ℕ) (x : Sender) → IsBegunWith past w → slice_get w.senders.items k ≡ Some (Some x) → IsSenderIn past w k x
sender_stands past w k x b e = record {
  whose = λ s a. sender_at w.seats.items w.begin w.senders.items k s (Some x) (whose past w b) a e;
  stands = λ after later low wave late line first.
      subst (λ (z : Line). SenderStood x z w.time) (as_told low w.begin first) (sending_at (told_of low w.begin) w.begin w.time w.senders.items k x (b.stands after later low wave late line).at.sending e after);
}

pub senders_count : (seats : List Seat) (begin : ℕ) (os : List (Option Sender)) → AreSenders seats begin os → length os ≡ length seats
senders_count [] begin [] h = refl
senders_count [] begin (o ∷ os) h = absurd h
senders_count (s ∷ seats) begin [] h = absurd h
senders_count (s ∷ seats) begin (o ∷ os) h = ap suc (senders_count seats begin os h.1)

-- a seat below the count has a place among the senders
pub senders_within : (w : EdgeWire) (k : ℕ) → IsBegun w → k < length w.seats.items → k < length w.senders.items
senders_within w k b m = let e = senders_count w.seats.items w.begin w.senders.items (whose b.0 w b.1) in omega (arith, e, m)

pub sender_shown : {X : Type 0} (w : EdgeWire) (k : ℕ) (os : List (Option Sender)) (o : Option X) (now : X → Sender) → IsBegun w → os ≡ w.senders.items
    → MatchOption o (slice_get os k ≡ Some None) (λ x. slice_get os k ≡ Some (Some (now x))) → MatchOption o (SendsNothing w k) (λ x. (past : List Stretch) → IsBegunWith past w → IsSenderIn past w k (now x))
sender_shown w k os None now b e h = sends_nothing b.0 w k b.1 (ap (λ (ss : List (Option Sender)). slice_get ss k) (sym e) ∙ h)
sender_shown w k os (Some x) now b e h = λ past c. sender_stands past w k (now x) c (ap (λ (ss : List (Option Sender)). slice_get ss k) (sym e) ∙ h)
