-- The line of a round is low exactly where a pulse or one of its seats pulls.
use Rattle.std.proofs.Common.{◌≡◌, ℕ, ◌+◌, ◌%◌, ◌==◌, Bool, true, false, ◌&&◌, ◌||◌, nat_lt, List, [], ◌∷◌, Option, Some, None, refl, ap, ap₂, ◌∙◌}
use Rattle.std.specs.List.{list_any, enumerate_from, filter_map, cons_option}
use Rattle.line_reading.specs.Reading.{End, Known, known_at, reading_of, Slot}
use Rattle.line_reading.specs.Sending.{sender_pulls}
use Rattle.line_rounds.specs.declared.Seat.{Seat}
use Rattle.line_wave.specs.Line.{was_low}
use Rattle.line_rounds.specs.Round.{acknowledges, frames_of, is_acknowledged, is_broken, is_within, pulse_pulls}
use Rattle.room_drives.specs.Drives.{seat_pulls, LinesAreDriven}

-- one of two, within two tests
spread : (a b p q : Bool) → (a && (b && (p || q))) ≡ ((a && (b && (p || false))) || (a && (b && q)))
spread true true true q = refl
spread true true false q = refl
spread true false p q = refl
spread false b p q = refl

-- six tests in two orders
regroup : (a b c d e f : Bool) → ((a || d) || ((b || e) || (c || f))) ≡ ((a || (b || c)) || (d || (e || f)))
regroup true b c d e f = refl
regroup false true c true e f = refl
regroup false false true true e f = refl
regroup false false false true e f = refl
regroup false true c false e f = refl
regroup false false true false true f = refl
regroup false false false false true f = refl
regroup false false c false false f = refl

any_both : {A : Type 0} (p q r : A → Bool) (xs : List A) → ((x : A) → p x ≡ (q x || r x)) → list_any p xs ≡ (list_any q xs || list_any r xs)
any_both p q r [] same = refl
any_both p q r (x ∷ xs) same = ap₂ (λ a b. a || b) (same x) (any_both p q r xs same) ∙ shuffle (q x) (r x) (list_any q xs) (list_any r xs)
  where
    shuffle : (a b c d : Bool) → ((a || b) || (c || d)) ≡ ((a || c) || (b || d))
    shuffle true b c d = refl
    shuffle false true true d = refl
    shuffle false true false d = refl
    shuffle false false c d = refl

-- the first seat sends, or another one
sent_both : (begin : ℕ) (k : Known) (t : ℕ) (seat : Seat) (seats : List Seat)
    → list_any (sender_pulls begin k t) (frames_of (seat ∷ seats)) ≡ (list_any (sender_pulls begin k t) (frames_of (seat ∷ [])) || list_any (sender_pulls begin k t) (frames_of seats))
sent_both begin k t seat seats = by_sends seat.sends
  where
    or_false : (a b : Bool) → (a || b) ≡ ((a || false) || b)
    or_false true b = refl
    or_false false b = refl

    by_sends : (o : Option (List ℕ)) → list_any (sender_pulls begin k t) (cons_option o (filter_map (λ s. s.sends) seats))
        ≡ (list_any (sender_pulls begin k t) (cons_option o []) || list_any (sender_pulls begin k t) (filter_map (λ s. s.sends) seats))
    by_sends None = refl
    by_sends (Some f) = or_false (sender_pulls begin k t f) (list_any (sender_pulls begin k t) (filter_map (λ s. s.sends) seats))

-- it acknowledges, or another one
acks_both : (k : Known) (t : ℕ) (seat : Seat) (seats : List Seat) → is_acknowledged (seat ∷ seats) k t ≡ (is_acknowledged (seat ∷ []) k t || is_acknowledged seats k t)
acks_both k t seat seats =
    any_both _ _ _ (enumerate_from 1 k.slots) (λ (slot : ℕ × Slot). spread (slot.0 % 10 == 0) (nat_lt t (slot.1.fall + 1500)) (acknowledges k slot.0 seat) (list_any (acknowledges k slot.0) seats))

-- it pulls after a fall too early, or another one
breaks_both : (k : Known) (t : ℕ) (o : Option End) (seat : Seat) (seats : List Seat) → is_broken (seat ∷ seats) k t o ≡ (is_broken (seat ∷ []) k t o || is_broken seats k t o)
breaks_both k t None seat seats = refl
breaks_both k t (Some end) seat seats = spread _ (nat_lt t (end.at + 3600)) _ _

-- one of the seats pulls
any_pulls : (seats : List Seat) (begin : ℕ) (was : Bool) (k : Known) (t : ℕ)
    → ((list_any (sender_pulls begin k t) (frames_of seats) && (is_within k.ended t || was)) || (is_acknowledged seats k t || is_broken seats k t k.ended)) ≡ list_any (seat_pulls begin was k t) seats
any_pulls [] begin was k t = ap₂ (λ a b. a || b) (no_acks (enumerate_from 1 k.slots)) (no_breaks k.ended)
  where
    no_ack : (a b : Bool) → (a && (b && false)) ≡ false
    no_ack true true = refl
    no_ack true false = refl
    no_ack false b = refl

    no_acks : (slots : List (ℕ × Slot)) → list_any (λ slot. (slot.0 % 10 == 0) && (nat_lt t (slot.1.fall + 1500) && false)) slots ≡ false
    no_acks [] = refl
    no_acks (slot ∷ slots) = rw (no_ack (slot.0 % 10 == 0) (nat_lt t (slot.1.fall + 1500))) (no_acks slots)

    no_breaks : (o : Option End) → is_broken [] k t o ≡ false
    no_breaks None = refl
    no_breaks (Some end) = no_ack _ (nat_lt t (end.at + 3600))
any_pulls (seat ∷ seats) begin was k t =
    ap₂ (λ a b. a || b) (ap (λ b. b && time) (sent_both begin k t seat seats) ∙ within (list_any (sender_pulls begin k t) (frames_of (seat ∷ []))) (list_any (sender_pulls begin k t) (frames_of seats)) time)
    (ap₂ (λ a b. a || b) (acks_both k t seat seats) (breaks_both k t k.ended seat seats))
    ∙ regroup (list_any (sender_pulls begin k t) (frames_of (seat ∷ [])) && time) (is_acknowledged (seat ∷ []) k t) (is_broken (seat ∷ []) k t k.ended)
    (list_any (sender_pulls begin k t) (frames_of seats) && time) (is_acknowledged seats k t) (is_broken seats k t k.ended)
    ∙ ap (λ b. seat_pulls begin was k t seat || b) (any_pulls seats begin was k t)
  where
    time : Bool
    time = is_within k.ended t || was

    within : (a b c : Bool) → ((a || b) && c) ≡ ((a && c) || (b && c))
    within true true true = refl
    within true true false = refl
    within true false true = refl
    within true false false = refl
    within false b c = refl

pub lines_are_driven : LinesAreDriven
lines_are_driven seats begin pulses low line t =
    line t ∙ ap (λ b. list_any (pulse_pulls begin (known_at t (reading_of low begin)).ended (was_low low t) t) pulses || b) (any_pulls seats begin (was_low low t) (known_at t (reading_of low begin)) t)
