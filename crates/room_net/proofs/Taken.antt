-- Why a round's pulses are those that it drops.
use Rattle.std.proofs.Common.{◌≡◌, ℕ, zero, suc, ◌+◌, ◌-◌, ◌<◌, ◌≤◌, Bool, true, false, ◌||◌, nat_lt, nat_le, if◌then◌else◌, List, [], ◌∷◌, ◌⊎◌, inl, inr, Some, None, refl, sym, ap, ◌∙◌, subst, arith}
use Rattle.std.specs.List.{All, fold}
use Rattle.std.proofs.lemmas.Bool.{cases_lt}
use Rattle.std.proofs.lemmas.Bool.Decides.{nat_tests}
use Rattle.line_wave.specs.declared.Stretch.{Stretch}
use Rattle.line_wave.specs.Line.{line_of, covers, was_low, IsWave}
use Rattle.line_reading.specs.Reading.{known_at, reading_of}
use Rattle.line_rounds.specs.declared.Outcome.{Outcome}
use Rattle.line_rounds.specs.Round.{is_within, pulse_pulls}
use Rattle.line_rounds.specs.Elements.{In}
use Rattle.line_rounds.proofs.Alone.{rounds_are_lone}
use Rattle.room_net.specs.State.{NetState}
use Rattle.room_net.specs.Step.{seats_of}
use Rattle.room_net.specs.Framed.{AreFramed}
use Rattle.room_net.specs.Line.{GoesFrom}
use Rattle.room_net.specs.Taken.{IsOn, IsAfter, RoundsTakePulses}
use Rattle.room_net.proofs.Framed.{seats_fit}
use Rattle.room_net.proofs.Lines.{begun, begins_by}
use Rattle.room_net.proofs.Progress.{or_true, true_or}
use Rattle.room_net.proofs.Lists.{any_in}

-- a stretch is low in itself
covers_own : (s : Stretch) (t : ℕ) → s.from ≤ t → t < s.to → covers s t ≡ true
covers_own s t h k = grind (arith, nat_tests)

in_all : {X : Type 0} (P : X → Type 0) (xs : List X) → ((x : X) → In x xs → P x) → All P xs
in_all P [] h i d l = absurd (omega (arith, l))
in_all P (x ∷ xs) h zero d l = h x (inl refl)
in_all P (x ∷ xs) h (suc k) d l = in_all P xs (λ y i. h y (inr i)) k d (omega (arith, l))

-- ---- the rest is the end of a stretch that begins by then

record Ends (until rest : ℕ) (ss : List Stretch) : Type 0 where
  last : Stretch
  in_wave : In last ss
  early : last.from ≤ until
  end : last.to ≡ rest

ends_more : (until rest : ℕ) (s : Stretch) (ss : List Stretch) → Ends until rest ss → Ends until rest (s ∷ ss)
ends_more until rest s ss e = record { last = e.last; in_wave = inr e.in_wave; early = e.early; end = e.end }

last_of : (until was rest : ℕ) (ss : List Stretch) → fold (λ r s. if nat_le s.from until then s.to else r) was ss ≡ rest → (was ≡ rest) ⊎ Ends until rest ss
last_of until was rest [] e = inl e
last_of until was rest (s ∷ ss) e = by_test (nat_le s.from until) refl (λ now f. last_of until now rest ss f) e
  where
    here : s.from ≤ until → (s.to ≡ rest) ⊎ Ends until rest ss → (was ≡ rest) ⊎ Ends until rest (s ∷ ss)
    here l (inl same) = inr (record { last = s; in_wave = inl refl; early = l; end = same })
    here l (inr more) = inr (ends_more until rest s ss more)

    on : (was ≡ rest) ⊎ Ends until rest ss → (was ≡ rest) ⊎ Ends until rest (s ∷ ss)
    on (inl same) = inl same
    on (inr more) = inr (ends_more until rest s ss more)

    by_test : (b : Bool) → nat_le s.from until ≡ b
        → ((now : ℕ) → fold (λ r x. if nat_le x.from until then x.to else r) now ss ≡ rest → (now ≡ rest) ⊎ Ends until rest ss)
        → fold (λ r x. if nat_le x.from until then x.to else r) (if b then s.to else was) ss ≡ rest → (was ≡ rest) ⊎ Ends until rest (s ∷ ss)
    by_test true t more f = here (grind (arith, nat_tests)) (more s.to f)
    by_test false t more f = on (more was f)

low_inside : (s : Stretch) (ss : List Stretch) (t : ℕ) → In s ss → s.from ≤ t → t < s.to → line_of ss t ≡ true
low_inside s ss t i a b = any_in (λ x. covers x t) ss s i (covers_own s t a b)

-- ---- a pulse that begins by the rest is low from its begin on

taken_one : (s : NetState) (begin : ℕ) (o : Outcome) → IsWave s.pulses → GoesFrom s begin o → (p : Stretch) → In p s.pulses → p.from ≤ o.rest → IsOn (line_of o.wave) p
taken_one s begin o wave g p i l = λ t a b. subst (λ u. line_of o.wave u ≡ true) (let e : p.from + (t - p.from) ≡ t = omega arith in e) (step (t - p.from) (omega arith))
  where
    until : ℕ
    until = (reading_of (line_of o.wave) begin).until

    later : begin ≤ p.from
    later = begins_by s begin wave g.begins p i

    pulls : (t : ℕ) → p.from ≤ t → t < p.to → (is_within (known_at t (reading_of (line_of o.wave) begin)).ended p.from || was_low (line_of o.wave) t) ≡ true → line_of o.wave t ≡ true
    pulls t a b h =
        let own : covers p t ≡ true = covers_own p t a b in
        let started : nat_le begin p.from ≡ true = (let m : begin ≤ p.from = later in grind (arith, nat_tests)) in
        let pull : pulse_pulls begin (known_at t (reading_of (line_of o.wave) begin)).ended (was_low (line_of o.wave) t) t p ≡ true = rw (own, started, h) refl in
        g.round.line t ∙ true_or _ _ (any_in (pulse_pulls begin (known_at t (reading_of (line_of o.wave) begin)).ended (was_low (line_of o.wave) t) t) s.pulses p i pull)

    -- before the reading is over
    early : p.from ≤ until → (is_within (known_at p.from (reading_of (line_of o.wave) begin)).ended p.from || was_low (line_of o.wave) p.from) ≡ true
    early m =
        let still : nat_lt until p.from ≡ false = grind (arith, nat_tests) in
        true_or (is_within (known_at p.from (reading_of (line_of o.wave) begin)).ended p.from) (was_low (line_of o.wave) p.from)
        (ap (λ b. is_within (if b then Some (record { ending = (reading_of (line_of o.wave) begin).ending; at = (reading_of (line_of o.wave) begin).at; until = until }) else None) p.from) still)

    was-low : (t : ℕ) → 0 < t → line_of o.wave (t - 1) ≡ true → was_low (line_of o.wave) t ≡ true
    was-low t h low = let some : nat_lt 0 t ≡ true = grind (arith, nat_tests) in rw some low

    -- or where it overlaps or touches the last low stretch
    touching : until < p.from → was_low (line_of o.wave) p.from ≡ true
    touching m = by_last (last_of until 0 o.rest o.wave (sym g.round.rest))
      where
        by_last : (0 ≡ o.rest) ⊎ Ends until o.rest o.wave → was_low (line_of o.wave) p.from ≡ true
        by_last (inl none) = absurd (omega (arith, none, l, m))
        by_last (inr e) =
            let low : line_of o.wave (p.from - 1) ≡ true = low_inside e.last o.wave (p.from - 1) e.in_wave (omega (arith, e.early, m)) (omega (arith, e.end, l, m)) in
            was-low p.from (omega (arith, m)) low

    step : (n : ℕ) → p.from + n < p.to → line_of o.wave (p.from + n) ≡ true
    step zero b =
        let e : p.from ≡ p.from + 0 = omega arith in
        subst (λ u. line_of o.wave u ≡ true) e (pulls p.from (omega arith) (omega (arith, b)) (elim (cases_lt until p.from) [
          | inl lt ↦ or_true (is_within (known_at p.from (reading_of (line_of o.wave) begin)).ended p.from) (was_low (line_of o.wave) p.from) (touching lt)
          | inr ge ↦ early ge
        ]))
    step (suc n) b =
        let before : line_of o.wave (p.from + n) ≡ true = step n (omega (arith, b)) in
        let same : p.from + n ≡ p.from + suc n - 1 = omega arith in
        let was : was_low (line_of o.wave) (p.from + suc n) ≡ true = was-low (p.from + suc n) (omega arith) (subst (λ u. line_of o.wave u ≡ true) same before) in
        pulls (p.from + suc n) (omega arith) b (or_true (is_within (known_at (p.from + suc n) (reading_of (line_of o.wave) begin)).ended p.from) (was_low (line_of o.wave) (p.from + suc n)) was)

left_one : (s : NetState) (begin : ℕ) (o : Outcome) → IsWave s.pulses → AreFramed s → GoesFrom s begin o → (p : Stretch) → o.rest < p.from → IsAfter (line_of o.wave) p
left_one s begin o wave framed g p l t a =
    (rounds_are_lone.lone (seats_of s begin) begin s.pulses o (seats_fit s begin framed) wave g.wave g.round (begun s begin g.begins)).after t (omega (arith, l, a))

pub rounds_take_pulses : RoundsTakePulses
rounds_take_pulses = record {
  taken = λ s begin o wave g. in_all (λ p. p.from ≤ o.rest → IsOn (line_of o.wave) p) s.pulses (λ p i. taken_one s begin o wave g p i);
  left = λ s begin o wave framed g. in_all (λ p. o.rest < p.from → IsAfter (line_of o.wave) p) s.pulses (λ p i. left_one s begin o wave framed g p);
}
