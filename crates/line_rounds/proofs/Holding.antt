-- How long those who follow hold the line.
use Rattle.std.proofs.Common.{◌≡◌, ℕ, ◌+◌, ◌%◌, ◌==◌, ◌<◌, ◌≤◌, Bool, true, false, not, ◌&&◌, ◌||◌, nat_lt, if◌then◌else◌, List, [], ◌∷◌, ◌++◌, length, Option, refl, arith, ap, ◌∙◌, sym}
use Rattle.std.specs.List.{list_any, enumerate_from}
use Rattle.std.proofs.lemmas.Bool.Decides.{nat_tests}
use Rattle.line_frames.specs.declared.Ending.TheVariants.{Complete, Short, Silent, BadStart, Long, Open}
use Rattle.line_reading.specs.Reading.{Slot, End, Known, known_at, reading_of}
use Rattle.line_reading.specs.Sending.{known_bits, is_whole}
use Rattle.line_rounds.specs.Round.{acknowledges, is_broken, sends_in}
use Rattle.line_rounds.specs.Machine.{acks_after, breaks_after}
use Rattle.line_rounds.specs.Follow.{BreaksNow}
use Rattle.line_rounds.specs.Reached.{DoneBy, AcksNow}
use Rattle.line_rounds.proofs.Early.{no_acks}
use Rattle.line_rounds.proofs.Hold.{acks_known, sends_known}

pub any_agree : {X : Type 0} (p q : X → Bool) (xs : List X) → ((x : X) → p x ≡ q x) → list_any p xs ≡ list_any q xs
any_agree p q [] h = refl
any_agree p q (x ∷ xs) h = rw (h x, any_agree p q xs h) refl

none_left : (a b : Bool) → (a || b) ≡ false → a ≡ false
none_left true b h = h
none_left false b h = refl

none_right : (a b : Bool) → (a || b) ≡ false → b ≡ false
none_right true b h = cc
none_right false b h = h

or_false : (b : Bool) → (b || false) ≡ b
or_false true = refl
or_false false = refl

any_end : (test : ℕ × Slot → Bool) (xs : List Slot) (s : Slot) (n m : ℕ) → m ≡ n + length xs → list_any test (enumerate_from n xs) ≡ false
    → list_any test (enumerate_from n (xs ++ s ∷ [])) ≡ test (m, s)
any_end test [] s n m e q = or_false (test (n, s)) ∙ ap (λ i. test (i, s)) (let f : n ≡ m = omega arith in f)
any_end test (x ∷ xs) s n m e q =
    ap (λ b. b || list_any test (enumerate_from (n + 1) (xs ++ s ∷ []))) (none_left (test (n, x)) (list_any test (enumerate_from (n + 1) xs)) q)
    ∙ any_end test xs s (n + 1) m (omega arith) (none_right (test (n, x)) (list_any test (enumerate_from (n + 1) xs)) q)

pub done_by : DoneBy
done_by e u [] h o = tt
done_by e u (s ∷ ss) h o = (omega (arith, o.0), done_by e u ss h o.1)

by_test : (ten any : Bool) (u end : ℕ) → (ten && (nat_lt u end && any)) ≡ nat_lt u (if ten && any then end else 0)
by_test true true u end = grind (arith, nat_tests)
by_test true false u end = elim (nat_lt u end) as (λ b. (b && false) ≡ nat_lt u 0) [ true ↦ grind (arith, nat_tests) | false ↦ grind (arith, nat_tests) ]
by_test false any u end = grind (arith, nat_tests)

-- in a slot, and after it
pub acks_now : AcksNow
acks_now seats low begin left xs before e u r c l s ended h f =
    ap (λ (k : Known). list_any test (enumerate_from 1 k.slots)) h
    ∙ any_end test xs s 1 (length before + 1) (omega (arith, c)) (no_acks seats (known_at u (reading_of low begin)) u xs 1 (done_by e u xs (omega arith) r.over))
    ∙ ap (λ n. ((length before + 1) % 10 == 0) && (nat_lt u (n + 1500) && list_any (acknowledges (known_at u (reading_of low begin)) (length before + 1)) seats)) f
    ∙ within ((length before + 1) % 10 == 0) refl
  where
    test : ℕ × Slot → Bool
    test slot = (slot.0 % 10 == 0) && (nat_lt u (slot.1.fall + 1500) && list_any (acknowledges (known_at u (reading_of low begin)) slot.0) seats)

    in_time : ((length before + 1) % 10 == 0) ≡ true → (b : Bool) → nat_lt u (e + 1500) ≡ b
        → (b && list_any (acknowledges (known_at u (reading_of low begin)) (length before + 1)) seats) ≡ (b && list_any (acks_after before) seats)
    in_time ten true t = any_agree (acknowledges (known_at u (reading_of low begin)) (length before + 1)) (acks_after before) seats
        (λ seat. acks_known low begin left xs before e (length before + 1) u seat r refl ten l (let x : u < e + 1500 = grind (arith, nat_tests) in x))
    in_time ten false t = refl

    within : (b : Bool) → ((length before + 1) % 10 == 0) ≡ b
        → (b && (nat_lt u (e + 1500) && list_any (acknowledges (known_at u (reading_of low begin)) (length before + 1)) seats)) ≡ nat_lt u (if b && list_any (acks_after before) seats then e + 1500 else 0)
    within true ten = in_time ten (nat_lt u (e + 1500)) refl ∙ by_test true (list_any (acks_after before) seats) u (e + 1500)
    within false ten = by_test false (list_any (acks_after before) seats) u (e + 1500)

-- after an ending
broken_so : (any : Bool) (u t held : ℕ) → held ≤ t + 3600 → (nat_lt u held || (nat_lt u (t + 3600) && any)) ≡ nat_lt u (if (t == t) && any then t + 3600 else held)
broken_so true u t held h = let e : (t == t) ≡ true = grind (arith, nat_tests) in
    ap (λ b. nat_lt u held || b) (and_true (nat_lt u (t + 3600))) ∙ longer (nat_lt u held) refl ∙ ap (λ b. nat_lt u (if b && true then t + 3600 else held)) (sym e)
  where
    and_true : (b : Bool) → (b && true) ≡ b
    and_true true = refl
    and_true false = refl

    longer : (b : Bool) → nat_lt u held ≡ b → (b || nat_lt u (t + 3600)) ≡ nat_lt u (t + 3600)
    longer true g = grind (arith, nat_tests)
    longer false g = refl
broken_so false u t held h = ap (λ b. nat_lt u held || b) (and_false (nat_lt u (t + 3600))) ∙ or_false (nat_lt u held) ∙ ap (λ n. nat_lt u n) (same (t == t))
  where
    and_false : (b : Bool) → (b && false) ≡ false
    and_false true = refl
    and_false false = refl

    same : (b : Bool) → held ≡ (if b && false then t + 3600 else held)
    same true = refl
    same false = refl

unbroken : (b any : Bool) (n held : ℕ) → held ≡ (if b && (false && any) then n else held)
unbroken true any n held = refl
unbroken false any n held = refl

pub breaks_now : BreaksNow
breaks_now seats k bits u t at until held Short h b s l =
    ap (λ (e : Option End). nat_lt u held || is_broken seats k u e) h
    ∙ ap (λ n. nat_lt u held || (nat_lt u (n + 3600) && list_any (λ seat. seat.plugged && not (sends_in k seat.sends (length (known_bits k) + 1))) seats)) (s refl)
    ∙ ap (λ c. nat_lt u held || (nat_lt u (t + 3600) && c)) (any_agree (λ seat. seat.plugged && not (sends_in k seat.sends (length (known_bits k) + 1))) (breaks_after bits) seats
    (λ seat. ap (λ c. seat.plugged && not c) (sends_known k bits seat.sends b (ap is_whole h))))
    ∙ broken_so (list_any (breaks_after bits) seats) u t held l
    ∙ ap (λ n. nat_lt u (if (n == t) && list_any (breaks_after bits) seats then t + 3600 else held)) (sym (s refl))
breaks_now seats k bits u t at until held Complete h b s l = ap (λ (e : Option End). nat_lt u held || is_broken seats k u e) h ∙ or_false (nat_lt u held) ∙ ap (λ n. nat_lt u n) (unbroken (at == t) (list_any (breaks_after bits) seats) (t + 3600) held)
breaks_now seats k bits u t at until held Silent h b s l = ap (λ (e : Option End). nat_lt u held || is_broken seats k u e) h ∙ or_false (nat_lt u held) ∙ ap (λ n. nat_lt u n) (unbroken (at == t) (list_any (breaks_after bits) seats) (t + 3600) held)
breaks_now seats k bits u t at until held BadStart h b s l = ap (λ (e : Option End). nat_lt u held || is_broken seats k u e) h ∙ or_false (nat_lt u held) ∙ ap (λ n. nat_lt u n) (unbroken (at == t) (list_any (breaks_after bits) seats) (t + 3600) held)
breaks_now seats k bits u t at until held Long h b s l = ap (λ (e : Option End). nat_lt u held || is_broken seats k u e) h ∙ or_false (nat_lt u held) ∙ ap (λ n. nat_lt u n) (unbroken (at == t) (list_any (breaks_after bits) seats) (t + 3600) held)
breaks_now seats k bits u t at until held Open h b s l = ap (λ (e : Option End). nat_lt u held || is_broken seats k u e) h ∙ or_false (nat_lt u held) ∙ ap (λ n. nat_lt u n) (unbroken (at == t) (list_any (breaks_after bits) seats) (t + 3600) held)
