-- How often a round's line falls.
use Rattle.std.proofs.Common.{◌≡◌, ℕ, ◌+◌, ◌-◌, ◌*◌, ◌==◌, ◌<◌, ◌≤◌, Bool, true, false, not, ◌&&◌, nat_lt, nat_le, if◌then◌else◌, List, [], ◌∷◌, ◌++◌, length, ◌⊎◌, inl, inr, refl, arith, ap, ◌∙◌, sym}
use Rattle.std.specs.List.{All}
use Rattle.std.proofs.lemmas.Bool.{cases_lt}
use Rattle.std.proofs.lemmas.Bool.Decides.{nat_tests}
use Rattle.line_wave.specs.declared.Stretch.{Stretch}
use Rattle.line_wave.specs.Line.{Line, line_of, is_fall, was_low, IsWave, IsWaveFrom}
use Rattle.line_wave.specs.Pulses.{AreSparse, AreFarApart, IsNarrow}
use Rattle.line_reading.specs.Reading.{reading_of}
use Rattle.line_rounds.specs.declared.Seat.{Seat}
use Rattle.line_rounds.specs.Round.{frames_of, IsRoundLine}
use Rattle.line_rounds.specs.Falls.{EachFallBegins, AreRisingFrom, FewFalls, WaveFits, RoundFits}
use Rattle.line_rounds.specs.Elements.{In}
use Rattle.line_rounds.proofs.Differ.{any_in}
use Rattle.line_rounds.proofs.Early.{and_left}
use Rattle.line_rounds.proofs.Lows.{all_head, all_tail, far_tail}
use Rattle.line_rounds.proofs.Law.{all_in}
use Rattle.line_rounds.proofs.Falls.{fall_begins, makes}
use Rattle.line_rounds.proofs.Still.{high_before}
use Rattle.line_rounds.proofs.Afterwards.{no_fall_after}
use Rattle.line_rounds.proofs.Alone.{in_all}
use Rattle.line_rounds.proofs.AnyFalls.{falls_are_read}
use Rattle.line_rounds.proofs.Edge.{round_below}
use Rattle.line_rounds.proofs.Exists.{made_line, made_round}
use Rattle.line_wave.proofs.Waves.{falls_of_wave}

-- ---- the instants at which a pulse begins

unfoldable pub begins_within : ℕ → ℕ → List Stretch → List ℕ
begins_within begin end [] = []
begins_within begin end (p ∷ ps) = if nat_le begin p.from && nat_le p.from end then p.from ∷ begins_within begin end ps else begins_within begin end ps

-- the first pulse begins at x or later
abbrev pub BeginFrom : ℕ → List Stretch → Type 0
BeginFrom x [] = Unit {0}
BeginFrom x (p ∷ ps) = x ≤ p.from

next_from : (p : Stretch) (ps : List Stretch) → AreFarApart (p ∷ ps) → BeginFrom (p.to + 25000) ps
next_from p [] f = tt
next_from p (q ∷ ps) f = f.0

-- so many pulses, 25,001 apart at least, take this long
few_pulses : (begin end x : ℕ) (ps : List Stretch) → AreFarApart ps → All IsNarrow ps → BeginFrom x ps
    → (length (begins_within begin end ps) ≡ 0) ⊎ ((length (begins_within begin end ps) * 25001 + x ≤ end + 25001) × (length (begins_within begin end ps) * 25001 + begin ≤ end + 25001))
unfolding begins_within
few_pulses begin end x [] f w b = inl refl
few_pulses begin end x (p ∷ ps) f w b =
    by_test (nat_le begin p.from && nat_le p.from end) refl (few_pulses begin end (p.to + 25000) ps (far_tail p ps f) (all_tail p ps w) (next_from p ps f))
  where
    count : ℕ
    count = length (begins_within begin end ps)

    wide : p.from < p.to
    wide = (all_head p ps w).0

    by_test : (c : Bool) → (nat_le begin p.from && nat_le p.from end) ≡ c
        → (length (begins_within begin end ps) ≡ 0) ⊎ ((length (begins_within begin end ps) * 25001 + (p.to + 25000) ≤ end + 25001) × (length (begins_within begin end ps) * 25001 + begin ≤ end + 25001))
        → (length (if c then p.from ∷ begins_within begin end ps else begins_within begin end ps) ≡ 0)
        ⊎ ((length (if c then p.from ∷ begins_within begin end ps else begins_within begin end ps) * 25001 + x ≤ end + 25001) × (length (if c then p.from ∷ begins_within begin end ps else begins_within begin end ps) * 25001 + begin ≤ end + 25001))
    by_test false e (inl z) = inl z
    by_test false e (inr g) = inr (omega (arith, g.0, wide), g.1)
    by_test true e (inl z) =
        let l : begin ≤ p.from = grind (arith, nat_tests) in
        let m : p.from ≤ end = grind (arith, nat_tests) in
        inr (omega arith, omega arith)
    by_test true e (inr g) =
        let l : begin ≤ p.from = grind (arith, nat_tests) in
        inr (omega (arith, g.0, wide), omega (arith, g.0, wide))

zero_from : (qs : List Stretch) → BeginFrom 0 qs
zero_from [] = tt
zero_from (q ∷ qs) = omega arith

-- so many at most begin in 470,000
pub few_begun : (begin end : ℕ) (ps : List Stretch) → AreSparse ps → end ≤ begin + 470000 → length (begins_within begin end ps) ≤ 19
few_begun begin end ps s l = elim (few_pulses begin end 0 ps s.far s.narrow (zero_from ps)) [ inl z ↦ omega (arith, z) | inr g ↦ omega (arith, g.1) ]

-- ---- the laws

pub each_fall_begins : EachFallBegins
each_fall_begins seats begin pulses t low short rule u l fall =
    fall_begins (frames_of seats) seats begin pulses low u short (makes (frames_of seats) seats begin pulses low u (rule u l)) (λ p h. rule (u - 1) (omega arith) ∙ h) fall

-- a round's line falls from the begin to the reading's last microsecond
in_round : (seats : List Seat) (begin : ℕ) (pulses : List Stretch) (low : Line) → IsRoundLine seats begin pulses low → (u : ℕ) → is_fall low u ≡ true → (begin ≤ u) × (u ≤ (reading_of low begin).until)
in_round seats begin pulses low line u f = (from (cases_lt u begin), to (cases_lt (reading_of low begin).until u))
  where
    from : (u < begin) ⊎ (begin ≤ u) → begin ≤ u
    from (inl lt) = let x : true ≡ false = sym (and_left (low u) (not (was_low low u)) f) ∙ high_before seats begin pulses low line u lt in cc
    from (inr ge) = ge

    to : ((reading_of low begin).until < u) ⊎ (u ≤ (reading_of low begin).until) → u ≤ (reading_of low begin).until
    to (inl lt) = let x : true ≡ false = sym f ∙ no_fall_after seats begin pulses low line u lt in cc
    to (inr ge) = ge

rising_at : (a b : ℕ) (ts : List ℕ) → AreRisingFrom a ts → ((u : ℕ) → In u ts → b ≤ u) → AreRisingFrom b ts
rising_at a b [] r h = tt
rising_at a b (t ∷ ts) r h = (h t (inl refl), r.1)

round_falls : (seats : List Seat) (begin : ℕ) (pulses : List Stretch) (low : Line) (ts : List ℕ) → IsRoundLine seats begin pulses low → AreRisingFrom 0 ts
    → ((u : ℕ) → In u ts → is_fall low u ≡ true) → length ts ≤ 162
round_falls seats begin pulses low ts line r h =
    falls_are_read low begin ts (rising_at 0 begin ts r (λ u i. (in_round seats begin pulses low line u (h u i)).0))
    (in_all (λ u. (u ≤ (reading_of low begin).until) × (is_fall low u ≡ true)) ts (λ u i. ((in_round seats begin pulses low line u (h u i)).1, h u i)))

-- what keeps the rule below t is there the round's line, on which no pull begins later
pub few_falls : FewFalls
few_falls seats begin pulses t low rule falls r all =
    round_falls seats begin (pulses ++ []) (made_line seats begin (pulses ++ [])) falls (made_round seats begin (pulses ++ [])) r
    (λ u i. let q = all_in (λ v. (v < t) × (is_fall low v ≡ true)) falls all u i in sym (same_fall u q.0) ∙ q.1)
  where
    same : (u : ℕ) → u < t → low u ≡ made_line seats begin (pulses ++ []) u
    same = round_below seats begin pulses [] t low (made_line seats begin (pulses ++ [])) (λ k d l. absurd (omega (arith, l))) rule (made_round seats begin (pulses ++ []))

    same_fall : (u : ℕ) → u < t → is_fall low u ≡ is_fall (made_line seats begin (pulses ++ [])) u
    same_fall u l =
        ap (λ b. b && not (was_low low u)) (same u l)
        ∙ ap (λ b. made_line seats begin (pulses ++ []) u && not (nat_lt 0 u && b)) (same (u - 1) (omega (arith, l)))

-- a wave's begins are its line's falls
begins : List Stretch → List ℕ
begins [] = []
begins (s ∷ ss) = s.from ∷ begins ss

length-begins : (ss : List Stretch) → length (begins ss) ≡ length ss
unfolding begins
length-begins [] = refl
length-begins (s ∷ ss) = let h : length (begins ss) ≡ length ss = length-begins ss in omega arith

rising_weaker : (ts : List ℕ) (a b : ℕ) → b ≤ a → AreRisingFrom a ts → AreRisingFrom b ts
rising_weaker [] a b h r = tt
rising_weaker (t ∷ ts) a b h r = (omega (arith, r.0), r.1)

begins_rise : (ss : List Stretch) (from : ℕ) → IsWaveFrom from ss → AreRisingFrom from (begins ss)
unfolding begins
begins_rise [] from w = tt
begins_rise (s ∷ ss) from w = (w.0, rising_weaker (begins ss) (s.to + 1) (s.from + 1) (omega (arith, w.1)) (begins_rise ss (s.to + 1) w.2))

in_begins_of : (u : ℕ) (ss : List Stretch) → In u (begins ss) → (s : Stretch) × In s ss × (s.from ≡ u)
unfolding begins
in_begins_of u [] i = absurd i
in_begins_of u (s ∷ ss) (inl e) = (s, inl refl, sym e)
in_begins_of u (s ∷ ss) (inr i) = let q = in_begins_of u ss i in (q.0, inr q.1, q.2)

begin_falls : (ss : List Stretch) (s : Stretch) (u : ℕ) → IsWave ss → In s ss → s.from ≡ u → is_fall (line_of ss) u ≡ true
begin_falls ss s u w i e = falls_of_wave ss 0 u w ∙ any_in (λ x. x.from == u) ss s i (let g : (s.from == u) ≡ true = grind (arith, nat_tests) in g)

pub wave_fits : WaveFits
wave_fits seats begin pulses t ss rule w all =
    let few : length (begins ss) ≤ 162 = few_falls seats begin pulses t (line_of ss) rule (begins ss) (begins_rise ss 0 w) (in_all (λ u. (u < t) × (is_fall (line_of ss) u ≡ true)) (begins ss)
    (λ u i. let q = in_begins_of u ss i in
    let early : q.0.from < t = all_in (λ s. s.from < t) ss all q.0 q.1 in
    (omega (arith, early, q.2), begin_falls ss q.0 u w q.1 q.2))) in
    omega (arith, few, length-begins ss)

pub round_fits : RoundFits
round_fits seats begin pulses ss line w =
    let few : length (begins ss) ≤ 162 = round_falls seats begin pulses (line_of ss) (begins ss) line (begins_rise ss 0 w) (λ u i. let q = in_begins_of u ss i in begin_falls ss q.0 u w q.1 q.2) in
    omega (arith, few, length-begins ss)
