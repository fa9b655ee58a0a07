-- When a sender's stretches are low, and when they are not; pulls in order, and pulses that are far apart.
use Rattle.std.proofs.Common.{◌≡◌, ℕ, zero, suc, ◌+◌, ◌*◌, ◌<◌, ◌≤◌, Bool, true, false, ◌||◌, if◌then◌else◌, List, [], ◌∷◌, ◌++◌, length, ◌⊎◌, inl, inr, refl, arith, ap, ◌∙◌, sym}
use Rattle.std.specs.List.{All}
use Rattle.std.proofs.lemmas.Bool.{cases_lt}
use Rattle.std.proofs.lemmas.Bool.Decides.{nat_tests}
use Rattle.line_wave.specs.declared.Stretch.{Stretch}
use Rattle.line_wave.specs.Line.{line_of, covers, IsWaveFrom}
use Rattle.line_wave.specs.Pulses.{AreFarApart, IsNarrow}
use Rattle.line_wave.specs.Sender.{slot_stretches}
use Rattle.line_rounds.specs.Rests.{WavesAreWide}
use Rattle.line_rounds.specs.Elements.{In}
use Rattle.line_rounds.specs.Lays.{BeforeSlots}
use Rattle.line_rounds.proofs.Differ.{or_right}

-- a slot's stretch, by its bounds
in_slot : (n : ℕ) (b : Bool) (t : ℕ) → n ≤ t → t < n + 600 → covers (record { from = n; to = n + (if b then 600 else 1500) }) t ≡ true
in_slot n true t h k = grind (arith, nat_tests)
in_slot n false t h k = grind (arith, nat_tests)

out_slot_low : (n : ℕ) (b : Bool) (t : ℕ) → (t < n) ⊎ (n + 1500 ≤ t) → covers (record { from = n; to = n + (if b then 600 else 1500) }) t ≡ false
out_slot_low n true t (inl h) = grind (arith, nat_tests)
out_slot_low n true t (inr h) = grind (arith, nat_tests)
out_slot_low n false t (inl h) = grind (arith, nat_tests)
out_slot_low n false t (inr h) = grind (arith, nat_tests)

-- before the first slot
pub before_slots : BeforeSlots
before_slots [] n t h = refl
before_slots (b ∷ bits) n t h = rw (out_slot_low n b t (inl h)) (before_slots bits (n + 2400) t (omega arith))

-- in the last 900 before slot k
pub between_slots : (bits : List Bool) (n k t : ℕ) → n + 2400 * k ≤ t + 900 → t < n + 2400 * k → line_of (slot_stretches n bits) t ≡ false
between_slots [] n k t h l = refl
between_slots (b ∷ bits) n zero t h l = before_slots (b ∷ bits) n t (omega arith)
between_slots (b ∷ bits) n (suc k) t h l = rw (out_slot_low n b t (inr (omega arith))) (between_slots bits (n + 2400) k t (omega arith) (omega arith))

-- in the first 600 of a slot of the sender's
pub slot_begins : (bits : List Bool) (n k t : ℕ) → k < length bits → n + 2400 * k ≤ t → t < n + 2400 * k + 600 → line_of (slot_stretches n bits) t ≡ true
slot_begins [] n k t r h l = absurd (omega (arith, r))
slot_begins (b ∷ bits) n zero t r h l = rw (in_slot n b t (omega arith) (omega arith)) refl
slot_begins (b ∷ bits) n (suc k) t r h l =
    or_right (covers (record { from = n; to = n + (if b then 600 else 1500) }) t) (line_of (slot_stretches (n + 2400) bits) t) (slot_begins bits (n + 2400) k t (omega arith) (omega arith) (omega arith))

-- in the 1,500 of a 0
pub zero_low : (front less : List Bool) (n t : ℕ) → n + 2400 * length front ≤ t → t < n + 2400 * length front + 1500 → line_of (slot_stretches n (front ++ false ∷ less)) t ≡ true
zero_low [] less n t h l = let e : covers (record { from = n; to = n + 1500 }) t ≡ true = grind (arith, nat_tests) in rw e refl
zero_low (b ∷ front) less n t h l =
    or_right (covers (record { from = n; to = n + (if b then 600 else 1500) }) t) (line_of (slot_stretches (n + 2400) (front ++ false ∷ less)) t) (zero_low front less (n + 2400) t (omega arith) (omega arith))

-- up to the slot in which a sender's 0 stands against a 1, its stretches hold the other's
pub holds_other : (front more less : List Bool) (n t : ℕ) → t < n + 2400 * length front + 2400 → line_of (slot_stretches n (front ++ true ∷ more)) t ≡ true
    → line_of (slot_stretches n (front ++ false ∷ less)) t ≡ true
holds_other [] more less n t l h =
    elim (cases_lt t n) [
      | inl early ↦ (let e : line_of (slot_stretches n (true ∷ more)) t ≡ false = before_slots (true ∷ more) n t early in let f : true ≡ false = sym h ∙ e in cc)
      | inr late ↦ elim (cases_lt t (n + 600)) [
        | inl within ↦ (let e : covers (record { from = n; to = n + 1500 }) t ≡ true = grind (arith, nat_tests) in rw e refl)
        | inr past ↦ (let e : covers (record { from = n; to = n + 600 }) t ≡ false = grind (arith, nat_tests) in
            let g : line_of (slot_stretches (n + 2400) more) t ≡ false = before_slots more (n + 2400) t (omega arith) in
            let k : line_of (slot_stretches n (true ∷ more)) t ≡ false = rw e g in
            let f : true ≡ false = sym h ∙ k in cc)
      ]
    ]
holds_other (b ∷ front) more less n t l h =
    step (covers (record { from = n; to = n + (if b then 600 else 1500) }) t) h (holds_other front more less (n + 2400) t (omega arith))
  where
    step : (c : Bool) → (c || line_of (slot_stretches (n + 2400) (front ++ true ∷ more)) t) ≡ true
        → (line_of (slot_stretches (n + 2400) (front ++ true ∷ more)) t ≡ true → line_of (slot_stretches (n + 2400) (front ++ false ∷ less)) t ≡ true)
        → (c || line_of (slot_stretches (n + 2400) (front ++ false ∷ less)) t) ≡ true
    step true g r = refl
    step false g r = r g

-- ---- pulses

-- those in order: each is a microsecond wide at least, and begins after the end of those before
pub wave_wide : WavesAreWide
wave_wide from [] p w h = absurd h
wave_wide from (r ∷ rs) p w (inl e) =
    let f : p.from ≡ r.from = ap (λ (y : Stretch). y.from) e in
    let t : p.to ≡ r.to = ap (λ (y : Stretch). y.to) e in
    (omega (arith, w.0, f), omega (arith, w.1, f, t))
wave_wide from (r ∷ rs) p w (inr h) = let x = wave_wide (r.to + 1) rs p w.2 h in (omega (arith, w.0, w.1, x.0), x.1)

pub wave_apart : (from : ℕ) (ps : List Stretch) (p q : Stretch) → IsWaveFrom from ps → In p ps → In q ps → p.from < q.from → p.to < q.from
wave_apart from [] p q w h k l = absurd h
wave_apart from (r ∷ rs) p q w (inl e) (inl g) l = let s : p.from ≡ q.from = ap (λ (y : Stretch). y.from) (e ∙ sym g) in absurd (omega (arith, s, l))
wave_apart from (r ∷ rs) p q w (inl e) (inr k) l =
    let t : p.to ≡ r.to = ap (λ (y : Stretch). y.to) e in omega (arith, t, (wave_wide (r.to + 1) rs q w.2 k).0)
wave_apart from (r ∷ rs) p q w (inr h) (inl g) l =
    let s : q.from ≡ r.from = ap (λ (y : Stretch). y.from) g in absurd (omega (arith, s, l, w.1, (wave_wide (r.to + 1) rs p w.2 h).0))
wave_apart from (r ∷ rs) p q w (inr h) (inr k) l = wave_apart (r.to + 1) rs p q w.2 h k l

pub all_head : (x : Stretch) (xs : List Stretch) → All IsNarrow (x ∷ xs) → IsNarrow x
all_head x xs h = h 0 x (omega arith)

pub all_tail : (x : Stretch) (xs : List Stretch) → All IsNarrow (x ∷ xs) → All IsNarrow xs
all_tail x xs h k d l = h (suc k) d (omega arith)

after_first : (p : Stretch) (ps : List Stretch) → AreFarApart (p ∷ ps) → All IsNarrow (p ∷ ps) → (q : Stretch) → In q ps → p.to + 25000 ≤ q.from
after_first p [] f w q h = absurd h
after_first p (r ∷ rs) f w q (inl e) = rw e f.0
after_first p (r ∷ rs) f w q (inr h) = omega (arith, f.0, (all_head r rs (all_tail p (r ∷ rs) w)).0, after_first r rs f.1 (all_tail p (r ∷ rs) w) q h)

pub far_tail : (p : Stretch) (ps : List Stretch) → AreFarApart (p ∷ ps) → AreFarApart ps
far_tail p [] f = tt
far_tail p (r ∷ rs) f = f.1

pub far_apart : (ps : List Stretch) → AreFarApart ps → All IsNarrow ps → (p q : Stretch) → In p ps → In q ps → p.from < q.from → p.from + 25000 ≤ q.from
far_apart [] f w p q h k l = absurd h
far_apart (r ∷ rs) f w p q (inl e) (inl g) l = let s : p.from ≡ q.from = ap (λ x. x.from) (e ∙ sym g) in absurd (omega arith)
far_apart (r ∷ rs) f w p q (inl e) (inr k) l =
    let s : p.from ≡ r.from = ap (λ x. x.from) e in omega (arith, s, (all_head r rs w).0, after_first r rs f w q k)
far_apart (r ∷ rs) f w p q (inr h) (inl g) l =
    let s : q.from ≡ r.from = ap (λ x. x.from) g in absurd (omega (arith, s, l, (all_head r rs w).0, after_first r rs f w p h))
far_apart (r ∷ rs) f w p q (inr h) (inr k) l = far_apart rs (far_tail r rs f) (all_tail r rs w) p q h k l
