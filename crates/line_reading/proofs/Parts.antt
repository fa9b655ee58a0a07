-- A line made of parts is read part by part.
use Rattle.std.proofs.Common.{◌≡◌, ℕ, ◌+◌, ◌-◌, ◌<◌, ◌≤◌, Bool, true, false, ◌||◌, nat_lt, nat_le, map, List, [], ◌∷◌, inl, inr, refl, arith, ap, ◌∙◌, sym, subst}
use Rattle.std.proofs.lemmas.List.Folds.{list_any-append}
use Rattle.std.proofs.lemmas.Bool.{cases_lt}
use Rattle.std.proofs.lemmas.Bool.Decides.{nat_tests}
use Rattle.line_wave.specs.Line.{Line, line_of, covers, is_fall}
use Rattle.line_reading.specs.Reading.{Read, Told, reading_of, reported_of}
use Rattle.line_reading.specs.Readings.{Listed, reading_from, reported_by_time, IsFirstFall, AreReadingsFrom, Part, part_until, ComesBefore, AreInOrder, whole_wave, part_listed, AreOverBy, PartsAreRead}
use Rattle.line_reading.proofs.Alike.{same_read}
use Rattle.line_reading.proofs.Ends.{until_by, begin_by}
use Rattle.line_reading.proofs.Lists.{one_list}

-- a part's line, and that of the parts after it
both : (p : Part) (ps : List Part) (u : ℕ) → line_of (whole_wave (p ∷ ps)) u ≡ (line_of p.wave u || line_of (whole_wave ps) u)
both p ps u = list_any-append (λ s. covers s u) p.wave (whole_wave ps)

or_no : (a b : Bool) → b ≡ false → (a || b) ≡ a
or_no true b h = refl
or_no false b h = h

no_or : (a b : Bool) → a ≡ false → (a || b) ≡ b
no_or true b h = cc
no_or false b h = refl

true_or : (a b : Bool) → a ≡ true → (a || b) ≡ true
true_or true b h = refl
true_or false b h = cc

-- u comes before the first part
abbrev Before : ℕ → List Part → Type 0
Before u [] = Unit {0}
Before u (p ∷ ps) = u < p.begin

before_more : (p : Part) (ps : List Part) (u : ℕ) → ComesBefore p ps → u ≤ part_until p → Before u ps
before_more p [] u c l = tt
before_more p (q ∷ qs) u c l = omega (arith, c.1, l)

-- before the parts the line is high
high : (ps : List Part) (u : ℕ) → AreInOrder ps → Before u ps → line_of (whole_wave ps) u ≡ false
high [] u h b = refl
high (p ∷ ps) u h b =
    both p ps u ∙ no_or (line_of p.wave u) (line_of (whole_wave ps) u) (h.0.before u b)
    ∙ high ps u h.2 (before_more p ps u h.1 (omega (arith, b, begin_by (line_of p.wave) p.begin)))

-- the line from the first part on is theirs, and before it falls no more since `from`
abbrev Ready : Line → ℕ → List Part → Type 0
Ready low from [] = (u : ℕ) → from ≤ u → is_fall low u ≡ false
Ready low from (p ∷ ps) = IsFirstFall low from p.begin × ((u : ℕ) → p.begin ≤ u → low u ≡ line_of (whole_wave (p ∷ ps)) u)

fall_made : (low : Line) (b : ℕ) → 0 < b → low b ≡ true → low (b - 1) ≡ false → is_fall low b ≡ true
fall_made low b z h k = let p : nat_lt 0 b ≡ true = grind (arith, nat_tests) in rw (h, p, k) refl

-- until the next part begins the line is this part's
own : (p : Part) (ps : List Part) (low : Line) → AreInOrder (p ∷ ps) → ((u : ℕ) → p.begin ≤ u → low u ≡ line_of (whole_wave (p ∷ ps)) u)
    → (u : ℕ) → p.begin ≤ u → Before u ps → low u ≡ line_of p.wave u
own p ps low h a u l b = a u l ∙ both p ps u ∙ or_no (line_of p.wave u) (line_of (whole_wave ps) u) (high ps u h.2 b)

quiet_after : (p : Part) (ps : List Part) (low : Line) → AreInOrder (p ∷ ps) → ((u : ℕ) → p.begin ≤ u → low u ≡ line_of (whole_wave (p ∷ ps)) u)
    → (u : ℕ) → part_until p < u → Before u ps → Before (u - 1) ps → is_fall low u ≡ false
quiet_after p ps low h a u l b c =
    let g : p.begin ≤ part_until p = begin_by (line_of p.wave) p.begin in
    let x : low u ≡ line_of p.wave u = own p ps low h a u (omega arith) b in
    let y : low (u - 1) ≡ line_of p.wave (u - 1) = own p ps low h a (u - 1) (omega arith) c in
    let z : is_fall low u ≡ is_fall (line_of p.wave) u = rw (x, y) refl in
    z ∙ h.0.quiet u l

ready_next : (p : Part) (ps : List Part) (low : Line) → AreInOrder (p ∷ ps) → ((u : ℕ) → p.begin ≤ u → low u ≡ line_of (whole_wave (p ∷ ps)) u)
    → Ready low (part_until p + 1) ps
ready_next p [] low h a = λ u l. quiet_after p [] low h a u (omega (arith, l)) tt tt
ready_next p (q ∷ qs) low h a = (
  record {
    after = omega (arith, h.1.1);
    falls = fall_made low q.begin (omega (arith, h.1.1)) low_there high_there;
    quiet = λ u l m. quiet_after p (q ∷ qs) low h a u (omega (arith, l)) m (omega (arith, m));
  },
  λ u l. a u (omega (arith, g, h.1.1, l)) ∙ both p (q ∷ qs) u ∙ no_or (line_of p.wave u) (line_of (whole_wave (q ∷ qs)) u) (h.0.after u (omega (arith, h.1.0, l))),
)
  where
    g : p.begin ≤ part_until p
    g = begin_by (line_of p.wave) p.begin

    low_there : low q.begin ≡ true
    low_there =
        a q.begin (omega (arith, g, h.1.1)) ∙ both p (q ∷ qs) q.begin
        ∙ no_or (line_of p.wave q.begin) (line_of (whole_wave (q ∷ qs)) q.begin) (h.0.after q.begin (omega (arith, h.1.0)))
        ∙ both q qs q.begin ∙ true_or (line_of q.wave q.begin) (line_of (whole_wave qs) q.begin) h.2.0.first

    high_there : low (q.begin - 1) ≡ false
    high_there =
        own p (q ∷ qs) low h a (q.begin - 1) (omega (arith, g, h.1.1)) (omega (arith, h.1.1))
        ∙ h.0.after (q.begin - 1) (omega (arith, h.1.0))

read_from : (ps : List Part) (low : Line) (t from : ℕ) → AreInOrder ps → AreOverBy t ps → Ready low from ps → AreReadingsFrom low t from (map part_listed ps)
read_from [] low t from h o r = λ u l m. r u l
read_from (p ∷ ps) low t from h o r = (
  r.0,
  omega (arith, begin_by (line_of p.wave) p.begin, until_by (line_of p.wave) p.begin, o.0),
  reported,
  subst (λ (x : Read). AreReadingsFrom low t (x.until + 1) (map part_listed ps)) (sym same) (read_from ps low t (part_until p + 1) h.2 o.1 (ready_next p ps low h r.1)),
)
  where
    same : reading_of low p.begin ≡ reading_of (line_of p.wave) p.begin
    same = same_read low (line_of p.wave) p.begin (λ u l m. own p ps low h r.1 u l (before_more p ps u h.1 m))

    over : nat_le (reading_of (line_of p.wave) p.begin).at t ≡ true
    over = let x : (reading_of (line_of p.wave) p.begin).at ≤ t = o.0 in grind (arith, nat_tests)

    reported_so : reported_by_time t (reading_of (line_of p.wave) p.begin) ≡ reported_of (reading_of (line_of p.wave) p.begin)
    reported_so = rw over refl

    reported : part_listed p ≡ reading_from low t p.begin
    reported = ap (λ (y : Told). let x : Listed = record { begin = p.begin; reported = y } in x) (sym (ap (reported_by_time t) same ∙ reported_so))

-- ---- from 0 on

ready_first : (ps : List Part) → AreInOrder ps → Ready (line_of (whole_wave ps)) 0 ps
ready_first [] h = λ u l. refl
ready_first (p ∷ ps) h = (
  record { after = omega arith; falls = falls; quiet = λ u l m. rw (high (p ∷ ps) u h m) refl },
  λ u l. refl,
)
  where
    there : line_of (whole_wave (p ∷ ps)) p.begin ≡ true
    there = both p ps p.begin ∙ true_or (line_of p.wave p.begin) (line_of (whole_wave ps) p.begin) h.0.first

    falls : is_fall (line_of (whole_wave (p ∷ ps))) p.begin ≡ true
    falls = elim (cases_lt 0 p.begin) [
      | inl lt ↦ fall_made (line_of (whole_wave (p ∷ ps))) p.begin lt there (high (p ∷ ps) (p.begin - 1) h (omega arith))
      | inr ge ↦ (let z : nat_lt 0 p.begin ≡ false = grind (arith, nat_tests) in rw (there, z) refl)
    ]

pub parts_read : PartsAreRead
parts_read ps t h o = sym (one_list (line_of (whole_wave ps)) t (map part_listed ps) (read_from ps (line_of (whole_wave ps)) t 0 h o (ready_first ps h)))
