-- Senders that begin, and that hear something, one after another.
use Rattle.std.proofs.Common.{◌≡◌, ℕ, zero, suc, ◌+◌, ◌<◌, ◌≤◌, List, [], ◌∷◌, ◌++◌, length, take, drop, slice_set, slice_index_or, Option, Some, None, refl, arith, ap, ◌∙◌, sym, subst}
use Rattle.std.specs.List.{refill}
use Rattle.std.proofs.lemmas.Grind.{common_steps}
use Rattle.line_reading.specs.declared.receiver.Told.{Told}
use Rattle.line_reading.specs.declared.sender.Sender.{Sender}
use Rattle.line_rounds.specs.declared.Seat.{Seat}
use Rattle.line_wire.specs.declared.senders.SenderPlaces.{SenderPlaces}
use Rattle.line_wire.specs.Pulls.{StandIn}
use Rattle.line_wire.specs.Listening.{IsSenderOf, AreBegun, HeardOne, AllHeard}

-- ---- one after another

-- those before place i have heard it
pub record HeardBy (reported : Told) (t i : ℕ) (olds now : List (Option Sender)) : Type 0 where
  pub news : List (Option Sender)
  pub is : now ≡ news ++ drop i olds
  pub heard : AllHeard reported t (take i olds) news

-- where no sender stands
heard_none : (reported : Told) (t n : ℕ) (olds : List (Option Sender)) → ((k : ℕ) → k < n → slice_index_or olds k None ≡ None) → AllHeard reported t (take n olds) (take n olds)
heard_none reported t zero [] h = tt
heard_none reported t (suc n) [] h = tt
heard_none reported t zero (o ∷ olds) h = tt
heard_none reported t (suc n) (o ∷ olds) h = (subst (λ (x : Option Sender). HeardOne reported t x x) (sym (h 0 (omega arith))) refl, heard_none reported t n olds (λ k l. h (suc k) (omega (arith, l))))

parts_are : (n : ℕ) (xs : List (Option Sender)) → xs ≡ take n xs ++ drop n xs
parts_are zero [] = refl
parts_are (suc n) [] = refl
parts_are zero (x ∷ xs) = refl
parts_are (suc n) (x ∷ xs) = ap (λ (ys : List (Option Sender)). x ∷ ys) (parts_are n xs)

pub heard_from : (reported : Told) (t n : ℕ) (olds : List (Option Sender)) → n ≤ length olds → ((k : ℕ) → k < n → slice_index_or olds k None ≡ None) → HeardBy reported t n olds olds
heard_from reported t n olds l h = record { news = take n olds; is = parts_are n olds; heard = heard_none reported t n olds h }

heard_more : (reported : Told) (t i : ℕ) (olds news : List (Option Sender)) (now : List (Option Sender)) (o p : Option Sender) → i < length olds → now ≡ news ++ drop i olds → AllHeard reported t (take i olds) news
    → HeardOne reported t (slice_index_or now i o) p → HeardBy reported t (suc i) olds (slice_set now i p)
heard_more reported t i [] news now o p l e h g = absurd (omega (arith, l))
heard_more reported t zero (x ∷ olds) [] now o p l e h g = record { news = p ∷ []; is = rw e refl; heard = (subst (λ (ss : List (Option Sender)). HeardOne reported t (slice_index_or ss 0 o) p) e g, tt) }
heard_more reported t zero (x ∷ olds) (n ∷ news) now o p l e h g = absurd h
heard_more reported t (suc i) (x ∷ olds) [] now o p l e h g = absurd h
heard_more reported t (suc i) (x ∷ olds) (n ∷ news) now o p l e h g =
    let m = heard_more reported t i olds news (news ++ drop i olds) o p (omega (arith, l)) refl h.1 (subst (λ (ss : List (Option Sender)). HeardOne reported t (slice_index_or ss (suc i) o) p) e g) in
    record { news = n ∷ m.news; is = rw e (ap (λ (ss : List (Option Sender)). n ∷ ss) m.is); heard = (h.0, m.heard) }

pub heard_next : (reported : Told) (t i : ℕ) (olds now : List (Option Sender)) (o p : Option Sender) → i < length olds → HeardBy reported t i olds now → HeardOne reported t (slice_index_or now i o) p
    → HeardBy reported t (i + 1) olds (slice_set now i p)
heard_next reported t i olds now o p l h g =
    subst (λ k. HeardBy reported t k olds (slice_set now i p)) (let x : suc i ≡ i + 1 = omega arith in x) (heard_more reported t i olds h.news now o p l h.is h.heard g)

heard_count : (reported : Told) (t : ℕ) (olds news : List (Option Sender)) → AllHeard reported t olds news → length news ≡ length olds
heard_count reported t [] [] h = refl
heard_count reported t [] (n ∷ news) h = absurd h
heard_count reported t (o ∷ olds) [] h = absurd h
heard_count reported t (o ∷ olds) (n ∷ news) h = ap suc (heard_count reported t olds news h.1)

refill_same : (xs ys : List (Option Sender)) → length ys ≡ length xs → refill (length xs) xs ys ≡ ys
refill_same xs ys h = grind (arith, common_steps)

-- where they are lent as a slice
pub lent_back : (reported : Told) (t : ℕ) (olds lent news : List (Option Sender)) → lent ≡ olds → AllHeard reported t lent news → refill (length olds) olds news ≡ news
lent_back reported t olds lent news e h = refill_same olds news (heard_count reported t olds news (subst (λ (ss : List (Option Sender)). AllHeard reported t ss news) e h))

take_none : (reported : Told) (t : ℕ) (xs : List (Option Sender)) → AllHeard reported t (take zero xs) []
take_none reported t [] = tt
take_none reported t (x ∷ xs) = tt

drop_none : (xs : List (Option Sender)) → drop zero xs ≡ xs
drop_none [] = refl
drop_none (x ∷ xs) = refl

heard_rest : (reported : Told) (t n : ℕ) (olds news : List (Option Sender)) → ((k : ℕ) → n ≤ k → slice_index_or olds k None ≡ None) → AllHeard reported t (take n olds) news → AllHeard reported t olds (news ++ drop n olds)
heard_rest reported t zero [] [] h g = tt
heard_rest reported t zero [] (x ∷ news) h g = absurd g
heard_rest reported t (suc n) [] [] h g = tt
heard_rest reported t (suc n) [] (x ∷ news) h g = absurd g
heard_rest reported t zero (o ∷ olds) [] h g = (
  subst (λ (x : Option Sender). HeardOne reported t x x) (sym (h 0 (omega arith))) refl,
  subst (λ (ss : List (Option Sender)). AllHeard reported t olds ss) (drop_none olds) (heard_rest reported t zero olds [] (λ k l. h (suc k) (omega arith)) (take_none reported t olds)),
)
heard_rest reported t zero (o ∷ olds) (x ∷ news) h g = absurd g
heard_rest reported t (suc n) (o ∷ olds) [] h g = absurd g
heard_rest reported t (suc n) (o ∷ olds) (x ∷ news) h g = (g.0, heard_rest reported t n olds news (λ k l. h (suc k) (omega (arith, l))) g.1)

pub heard_to : (reported : Told) (t n : ℕ) (olds now : List (Option Sender)) → ((k : ℕ) → n ≤ k → slice_index_or olds k None ≡ None) → HeardBy reported t n olds now → AllHeard reported t olds now
heard_to reported t n olds now l h = subst (λ (ss : List (Option Sender)). AllHeard reported t olds ss) (sym h.is) (heard_rest reported t n olds h.news l h.heard)

-- ---- where they stand

heard_one_none : (reported : Told) (t : ℕ) (old new : Option Sender) → old ≡ None → HeardOne reported t old new → new ≡ None
heard_one_none reported t None new e h = h
heard_one_none reported t (Some s) new e h = cc

heard_item : (reported : Told) (t k : ℕ) (olds news : List (Option Sender)) → AllHeard reported t olds news → slice_index_or olds k None ≡ None → slice_index_or news k None ≡ None
heard_item reported t k [] [] h e = e
heard_item reported t k [] (n ∷ news) h e = absurd h
heard_item reported t k (o ∷ olds) [] h e = absurd h
heard_item reported t zero (o ∷ olds) (n ∷ news) h e = heard_one_none reported t o n e h.0
heard_item reported t (suc k) (o ∷ olds) (n ∷ news) h e = heard_item reported t k olds news h.1 e

pub heard_stand : (reported : Told) (t : ℕ) (places : SenderPlaces) (olds news : List (Option Sender)) → AllHeard reported t olds news → StandIn places olds → StandIn places news
heard_stand reported t places olds news h s = record {
  order = s.order;
  few = (let x = heard_count reported t olds news h in omega (arith, x, s.few));
  before = λ k l. heard_item reported t k olds news h (s.before k l);
  after = λ k l. heard_item reported t k olds news h (s.after k l);
}

-- ---- as the round begins

pub begun_push : (seats : List Seat) (begin : ℕ) (os : List (Option Sender)) (seat : Seat) (o : Option Sender) → AreBegun seats begin os → IsSenderOf seat begin o → AreBegun (seats ++ seat ∷ []) begin (os ++ o ∷ [])
begun_push [] begin [] seat o h s = (s, tt)
begun_push [] begin (x ∷ os) seat o h s = absurd h
begun_push (y ∷ seats) begin [] seat o h s = absurd h
begun_push (y ∷ seats) begin (x ∷ os) seat o h s = (h.0, begun_push seats begin os seat o h.1 s)

pub begun_next : (seats : List Seat) (begin : ℕ) (os : List (Option Sender)) (i : ℕ) (seat : Seat) (o : Option Sender) → i < length seats → seat ≡ slice_index_or seats i seat → AreBegun (take i seats) begin os → IsSenderOf seat begin o
    → AreBegun (take (i + 1) seats) begin (os ++ o ∷ [])
begun_next seats begin os i seat o l d h s =
    subst (λ (ss : List Seat). AreBegun ss begin (os ++ o ∷ [])) (sym (one_more seats i l d)) (begun_push (take i seats) begin os seat o h s)
  where
    one_more : (xs : List Seat) (n : ℕ) → n < length xs → seat ≡ slice_index_or xs n seat → take (n + 1) xs ≡ take n xs ++ seat ∷ []
    one_more [] n k e = absurd (omega (arith, k))
    one_more (x ∷ xs) zero k e = let f : x ≡ seat = sym e in ap (λ (y : Seat). y ∷ []) f
    one_more (x ∷ xs) (suc n) k e = ap (λ m. take m (x ∷ xs)) (let y : suc n + 1 ≡ suc (n + 1) = omega arith in y) ∙ ap (λ (ys : List Seat). x ∷ ys) (one_more xs n (omega (arith, k)) e)
