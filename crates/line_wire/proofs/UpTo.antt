-- The wire stands as it does until somebody changes what he does.
use Rattle.std.proofs.Common.{◌≡◌, ℕ, zero, suc, ◌+◌, ◌-◌, ◌<◌, ◌≤◌, Bool, true, false, ◌&&◌, ◌||◌, nat_lt, nat_le, if◌then◌else◌, inl, inr, List, [], ◌∷◌, ◌++◌, Option, Some, None, refl, arith, ap, ◌∙◌, sym, subst}
use Rattle.std.specs.List.{list_any, All}
use Rattle.std.proofs.lemmas.Bool.Decides.{nat_tests}
use Rattle.std.proofs.lemmas.Bool.{cases_lt}
use Rattle.line_wave.specs.declared.Stretch.{Stretch}
use Rattle.line_wave.specs.Line.{Line, was_low, IsWave}
use Rattle.line_reading.specs.declared.receiver.Receiver.{Receiver}
use Rattle.line_reading.specs.declared.receiver.ReceiverState.{ReceiverState}
use Rattle.line_reading.specs.declared.receiver.ReceiverState.TheVariants.{Rest, StartLow, StartHigh, Unsampled, Sampled}
use Rattle.line_reading.specs.declared.sender.Sender.{Sender}
use Rattle.line_reading.specs.Hears.{heard_by, wake_of, due_in}
use Rattle.line_reading.specs.Reading.{End, reading_of}
use Rattle.line_rounds.specs.declared.Seat.{Seat}
use Rattle.line_rounds.specs.Round.{IsRoundLine}
use Rattle.line_wire.specs.Line.{last_of, HaveBegun}
use Rattle.line_wire.specs.Pulls.{pull_in, low_in, takes_last}
use Rattle.line_wire.specs.Wire.{IsAt, IsRead, until_by, IsQuiet, ToldSo}
use Rattle.line_wire.proofs.Goes.{low_is_found, calm_stays}
use Rattle.line_wire.proofs.Standing.{until_by as until_at}

-- a receiver that is due at u wakes at u
due_wakes : (place : ReceiverState) (begin fall u : ℕ) (bits : List Bool) → due_in place begin fall u ≡ true → wake_of (record { place = place; begin = begin; fall = fall; bits = bits }) ≡ Some u
due_wakes Rest begin fall u bits d = cc
due_wakes StartLow begin fall u bits d = cc
due_wakes StartHigh begin fall u bits d = ap (λ (n : ℕ). Some n) (let x : begin + (4700 + 1) ≡ u = grind (arith, nat_tests) in x)
due_wakes Unsampled begin fall u bits d = cc
due_wakes Sampled begin fall u bits d = ap (λ (n : ℕ). Some n) (let x : fall + (2750 + 1) ≡ u = grind (arith, nat_tests) in x)

not_due : (r : Receiver) (u w : ℕ) → ((n : ℕ) → wake_of (heard_by r) ≡ Some n → w ≤ n) → u < w → due_in r.place r.begin r.fall u ≡ false
not_due r u w wakes l = by_due (due_in r.place r.begin r.fall u) refl
  where
    by_due : (b : Bool) → due_in r.place r.begin r.fall u ≡ b → due_in r.place r.begin r.fall u ≡ false
    by_due true e = absurd (let x = wakes u (due_wakes r.place r.begin r.fall u r.bits.items e) in omega (arith, x, l))
    by_due false e = e

until_now : (r : Receiver) (u w : ℕ) → ((n : ℕ) → wake_of (heard_by r) ≡ Some n → w ≤ n) → u < w → until_by r None u ≡ u
until_now r u w wakes l = ap (λ b. if b then u - 1 else u) (not_due r u w wakes l)

in_time : (r : Receiver) (ended : Option End) (from t u w : ℕ) → ((n : ℕ) → wake_of (heard_by r) ≡ Some n → w ≤ n) → t ≤ u → u < w → from ≤ t → nat_le from (until_by r ended u) ≡ nat_le from (until_by r ended t)
in_time r None from t u w wakes l m f =
    ap (λ n. nat_le from n) (until_now r u w wakes m)
    ∙ (let x : nat_le from u ≡ nat_le from t = grind (arith, nat_tests) in x)
    ∙ sym (ap (λ n. nat_le from n) (until_now r t w wakes (omega (arith, l, m))))
in_time r (Some end) from t u w wakes l m f = refl

-- a reading that has ended ended before
ended_before : (seats : List Seat) (begin : ℕ) (r : Receiver) (bits : List Bool) (end : End) (held : ℕ) (low : Line) (t : ℕ) → IsRead seats begin r bits (Some end) held low t → end.until < t
ended_before seats begin r bits end held low t h =
    let u = until_at low begin in
    let e : end.until ≡ (reading_of low begin).until = ap (λ (x : End). x.until) h.1 in
    omega (arith, u, e, h.0)

goes_same : (seats : List Seat) (begin : ℕ) (r : Receiver) (bits : List Bool) (ended : Option End) (held : ℕ) (low : Line) (t u w : ℕ) → ((n : ℕ) → wake_of (heard_by r) ≡ Some n → w ≤ n) → t ≤ u → u < w
    → IsRead seats begin r bits ended held low t → nat_le u (until_by r ended u) ≡ nat_le t (until_by r ended t)
goes_same seats begin r bits None held low t u w wakes l m h =
    ap (λ n. nat_le u n) (until_now r u w wakes m)
    ∙ (let x : nat_le u u ≡ nat_le t t = grind (arith, nat_tests) in x)
    ∙ sym (ap (λ n. nat_le t n) (until_now r t w wakes (omega (arith, l, m))))
goes_same seats begin r bits (Some end) held low t u w wakes l m h =
    let e = ended_before seats begin r bits end held low t h in
    let x : nat_le u end.until ≡ nat_le t end.until = grind (arith, nat_tests) in x

lasts_same : (t u end w : ℕ) → t ≤ u → u < w → (t < end → w ≤ end) → nat_lt u end ≡ nat_lt t end
lasts_same t u end w l m h = elim (cases_lt t end) [
  | inl lt ↦ (let x = h lt in let y : nat_lt u end ≡ true = grind (arith, nat_tests) in let z : nat_lt t end ≡ true = grind (arith, nat_tests) in y ∙ sym z)
  | inr ge ↦ (let y : nat_lt u end ≡ false = grind (arith, nat_tests) in let z : nat_lt t end ≡ false = grind (arith, nat_tests) in y ∙ sym z)
]

takes_same : (r : Receiver) (last : Option Stretch) (ended : Option End) (was : Bool) (t u w : ℕ) → ((n : ℕ) → wake_of (heard_by r) ≡ Some n → w ≤ n) → t ≤ u → u < w
    → ((p : Stretch) → last ≡ Some p → t < p.to → w ≤ p.to) → ((p : Stretch) → last ≡ Some p → p.from ≤ t)
    → takes_last (until_by r ended u) was u last ≡ takes_last (until_by r ended t) was t last
takes_same r None ended was t u w wakes l m pull from = refl
takes_same r (Some p) ended was t u w wakes l m pull from =
    ap (λ b. b && (nat_le p.from (until_by r ended u) || was)) (lasts_same t u p.to w l m (pull p refl))
    ∙ ap (λ b. nat_lt t p.to && (b || was)) (in_time r ended p.from t u w wakes l m (from p refl))

low_same : (seats : List Seat) (begin : ℕ) (r : Receiver) (senders : List (Option Sender)) (last : Option Stretch) (bits : List Bool) (ended : Option End) (held : ℕ) (low : Line) (was : Bool) (t u w : ℕ) → t ≤ u → u < w
    → IsRead seats begin r bits ended held low t → IsQuiet r senders last held t w → ((p : Stretch) → last ≡ Some p → p.from ≤ t)
    → low_in senders last (until_by r ended u) held was u ≡ low_in senders last (until_by r ended t) held was t
low_same seats begin r senders last bits ended held low was t u w l m h q from =
    ap (λ b. b || ((list_any (pull_in u) senders && (nat_le u (until_by r ended u) || was)) || nat_lt u held)) (takes_same r last ended was t u w q.wakes l m q.pull from)
    ∙ ap (λ b. takes_last (until_by r ended t) was t last || ((b && (nat_le u (until_by r ended u) || was)) || nat_lt u held)) (q.sends u l m)
    ∙ ap (λ b. takes_last (until_by r ended t) was t last || ((list_any (pull_in t) senders && (b || was)) || nat_lt u held)) (goes_same seats begin r bits ended held low t u w q.wakes l m h)
    ∙ ap (λ b. takes_last (until_by r ended t) was t last || ((list_any (pull_in t) senders && (nat_le t (until_by r ended t) || was)) || b)) (lasts_same t u held w l m q.holds)

-- the last of those that have begun has begun
last_from : (past : List Stretch) (t : ℕ) → All (λ p. p.from ≤ t) past → (p : Stretch) → last_of past ≡ Some p → p.from ≤ t
last_from [] t h p e = cc
last_from (x ∷ []) t h p e = let y : x ≡ p = cc in subst (λ (s : Stretch). s.from ≤ t) y (h 0 x (omega arith))
last_from (x ∷ y ∷ ps) t h p e = last_from (y ∷ ps) t (λ k d l. h (suc k) d (omega (arith, l))) p e

begun_later : (begin : ℕ) (past : List Stretch) (last : Option Stretch) (t u : ℕ) → t ≤ u → HaveBegun begin past last t → HaveBegun begin past last u
begun_later begin past last t u l h = record { inside = h.inside; begun = λ i d m. (let x = h.begun i d m in omega (arith, x, l)); last_is = h.last_is }

-- Where nobody changes what he does from t on before w, and the line does not change at t, it has no edge before w, and the
-- wire stands there as it does.
pub between : (seats : List Seat) (begin : ℕ) (past later : List Stretch) (last : Option Stretch) (r : Receiver) (senders : List (Option Sender)) (bits : List Bool) (ended : Option End) (held : ℕ) (low told : ℕ → Bool) (t w : ℕ)
    → IsWave (past ++ later) → IsRoundLine seats begin (past ++ later) low → All (λ p. w ≤ p.from) later → HaveBegun begin past last t
    → reading_of told begin ≡ reading_of low begin → ToldSo low told r.was_low t w → IsAt seats begin r senders bits ended held told t → IsQuiet r senders last held t w
    → low_in senders last (until_by r ended t) held (was_low low t) t ≡ was_low low t
    → (n : ℕ) → t + n ≤ w → IsAt seats begin r senders bits ended held told (t + n) × ((u : ℕ) → t ≤ u → u < t + n → low u ≡ was_low low t)
between seats begin past later last r senders bits ended held low told t w wave line far begun reads so s q now zero l =
    (subst (λ n. IsAt seats begin r senders bits ended held told n) (let x : t ≡ t + zero = omega arith in x) s, λ u a b. absurd (omega (arith, a, b)))
between seats begin past later last r senders bits ended held low told t w wave line far begun reads so s q now (suc n) l =
    step (between seats begin past later last r senders bits ended held low told t w wave line far begun reads so s q now n (omega (arith, l)))
  where
    was_at : (m : ℕ) → ((u : ℕ) → t ≤ u → u < t + m → low u ≡ was_low low t) → was_low low (t + m) ≡ was_low low t
    was_at zero calm = ap (was_low low) (let x : t + zero ≡ t = omega arith in x)
    was_at (suc m) calm =
        (let x : nat_lt 0 (t + suc m) ≡ true = grind (arith, nat_tests) in ap (λ b. b && low (t + suc m - 1)) x) ∙ calm (t + suc m - 1) (omega arith) (omega arith)

    step : IsAt seats begin r senders bits ended held told (t + n) × ((u : ℕ) → t ≤ u → u < t + n → low u ≡ was_low low t)
        → IsAt seats begin r senders bits ended held told (t + suc n) × ((u : ℕ) → t ≤ u → u < t + suc n → low u ≡ was_low low t)
    step h = (
      subst (λ m. IsAt seats begin r senders bits ended held told m) (let x : t + n + 1 ≡ t + suc n = omega arith in x)
          (calm_stays seats begin r senders bits ended held told (t + n) h.0 (so (t + n) (omega arith) (omega (arith, l)) (λ v a b. calm v a (omega (arith, b)))) (λ m e. let x = q.wakes m e in omega (arith, x, l))),
      calm,
    )
      where
        here : low (t + n) ≡ was_low low t
        here =
            low_is_found seats begin past later last r senders bits ended held low told (t + n) w wave line far (omega (arith, l)) (begun_later begin past last t (t + n) (omega arith) begun) reads h.0
            ∙ ap (λ b. low_in senders last (until_by r ended (t + n)) held b (t + n)) (was_at n h.1)
            ∙ low_same seats begin r senders last bits ended held told (was_low low t) t (t + n) w (omega arith) (omega (arith, l)) s.read q (λ p e. last_from past t begun.begun p (sym begun.last_is ∙ e))
            ∙ now

        calm : (u : ℕ) → t ≤ u → u < t + suc n → low u ≡ was_low low t
        calm u a b = elim (cases_lt u (t + n)) [ inl lt ↦ h.1 u a lt | inr ge ↦ (let x : u ≡ t + n = omega (arith, ge, b) in ap low x ∙ here) ]
