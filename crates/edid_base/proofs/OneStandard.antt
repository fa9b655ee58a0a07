-- Two bytes spell one standard timing at most, ten bytes one set of chromaticities.
use Rattle.std.proofs.Common.{◌≡◌, ℕ, ◌+◌, ◌-◌, ◌*◌, ◌/◌, ◌%◌, ◌≤◌, ◌<◌, ◌==◌, ◌&&◌, not, IsTrue, Option, Some, None, [], ◌∷◌, get_or, ap, arith, refl, sym, eq-eqb}
use Rattle.std.proofs.Math.Bool.{Bool-set}
use Rattle.std.proofs.Math.Nat.{ℕ_set}
use Rattle.std.specs.Coded.{le_prop}
use Rattle.edid_base.proofs.Same.{same}
use Rattle.edid_base.specs.Chroma.{chroma_bytes}
use Rattle.edid_base.specs.Pairs.{low_pairs}
use Rattle.edid_base.specs.Standard.{standard_bytes}
use Rattle.edid_base.specs.declared.chroma.Chroma.{Chroma}
use Rattle.edid_base.specs.declared.chroma.Point.{Point}
use Rattle.edid_base.specs.declared.standard.StandardTiming.{StandardTiming}

record Plain : Type 0 where
  width : ℕ
  aspect : ℕ
  rate : ℕ

record IsFit (p : Plain) : Type 0 where
  least_width : 248 ≤ p.width
  most_width : p.width ≤ 2288
  by_eight : p.width % 8 ≡ 0
  aspect_fits : p.aspect < 4
  least_rate : 60 ≤ p.rate
  most_rate : p.rate < 124
  used : IsTrue (not (p.width == 256 && p.aspect == 0 && p.rate == 61))

IsFit_prop : (p : Plain) → IsProp (IsFit p)
IsFit_prop p = hlevel (le_prop, ℕ_set, Bool-set)

abbrev made : (p : Plain) → IsFit p → StandardTiming
made p h = record { width = p.width; aspect = p.aspect; rate = p.rate; least_width = h.least_width; most_width = h.most_width; by_eight = h.by_eight; aspect_fits = h.aspect_fits; least_rate = h.least_rate; most_rate = h.most_rate; used = h.used }

abbrev plain : StandardTiming → Plain
plain s = record { width = s.width; aspect = s.aspect; rate = s.rate }

abbrev fit : (s : StandardTiming) → IsFit (plain s)
fit s = record { least_width = s.least_width; most_width = s.most_width; by_eight = s.by_eight; aspect_fits = s.aspect_fits; least_rate = s.least_rate; most_rate = s.most_rate; used = s.used }

widths : (a b : ℕ) → 248 ≤ a → 248 ≤ b → a % 8 ≡ 0 → b % 8 ≡ 0 → a / 8 - 31 ≡ b / 8 - 31 → a ≡ b
widths a b h k l m e = omega arith

rates : (a b x y : ℕ) → 60 ≤ x → x < 124 → 60 ≤ y → y < 124 → a * 64 + (x - 60) ≡ b * 64 + (y - 60) → (a ≡ b) × (x ≡ y)
rates a b x y h k l m e = (omega arith, omega arith)

one_used : (s t : StandardTiming) → standard_bytes (Some s) ≡ standard_bytes (Some t) → s ≡ t
one_used s t e =
    let e0 = ap (λ xs. get_or xs 0 0) e in
    let e1 = ap (λ xs. get_or xs 1 0) e in
    let width = widths s.width t.width s.least_width t.least_width s.by_eight t.by_eight e0 in
    let others = rates s.aspect t.aspect s.rate t.rate s.least_rate s.most_rate t.least_rate t.most_rate e1 in
    let aspect = others.0 in let rate = others.1 in
    let all : plain s ≡ plain t = cc in
    same made IsFit_prop (plain s) (plain t) (fit s) (fit t) all

unused : (s : StandardTiming) → standard_bytes (Some s) ≡ 1 ∷ 1 ∷ [] → ⊥
unused s e =
    let e0 : s.width / 8 - 31 ≡ 1 = ap (λ xs. get_or xs 0 0) e in
    let e1 : s.aspect * 64 + (s.rate - 60) ≡ 1 = ap (λ xs. get_or xs 1 0) e in
    let h = s.by_eight in let k = s.least_width in let l = s.least_rate in
    let width : s.width ≡ 256 = omega arith in
    let aspect : s.aspect ≡ 0 = omega arith in
    let rate : s.rate ≡ 61 = omega arith in
    let used = rw (eq-eqb _ _ width, eq-eqb _ _ aspect, eq-eqb _ _ rate) at s.used in
    cc

pub one_standard : (a b : Option StandardTiming) → standard_bytes a ≡ standard_bytes b → a ≡ b
one_standard None None e = refl
one_standard None (Some t) e = absurd (unused t (sym e))
one_standard (Some s) None e = absurd (unused s e)
one_standard (Some s) (Some t) e = ap (λ u. Some u) (one_used s t e)

record Coordinates : Type 0 where
  x : ℕ
  y : ℕ

abbrev made_point : (p : Coordinates) → (p.x < 1024) × (p.y < 1024) → Point
made_point p h = record { x = p.x; y = p.y; x_fits = h.0; y_fits = h.1 }

PlaceFits_prop : (p : Coordinates) → IsProp ((p.x < 1024) × (p.y < 1024))
PlaceFits_prop p = hlevel (le_prop)

abbrev record_of : Point → Coordinates
record_of p = record { x = p.x; y = p.y }

same_point : (p q : Point) → p.x ≡ q.x → p.y ≡ q.y → p ≡ q
same_point p q e f =
    let places : record_of p ≡ record_of q = cc in
    same made_point PlaceFits_prop (record_of p) (record_of q) (p.x_fits, p.y_fits) (q.x_fits, q.y_fits) places

four : (a b c d w x y z : ℕ) → low_pairs a b c d ≡ low_pairs w x y z → a / 4 ≡ w / 4 → b / 4 ≡ x / 4 → c / 4 ≡ y / 4 → d / 4 ≡ z / 4
    → (a ≡ w) × (b ≡ x) × (c ≡ y) × (d ≡ z)
four a b c d w x y z e f g h i = (omega arith, omega arith, omega arith, omega arith)

abbrev rebuilt : Chroma → Chroma
rebuilt c = record { red = c.red; green = c.green; blue = c.blue; white = c.white }

pub one_chroma : (a b : Chroma) → chroma_bytes a ≡ chroma_bytes b → a ≡ b
one_chroma a b e =
    let cell : (k : ℕ) → get_or (chroma_bytes a) k 0 ≡ get_or (chroma_bytes b) k 0 = λ k. ap (λ xs. get_or xs k 0) e in
    let p = four a.red.x a.red.y a.green.x a.green.y b.red.x b.red.y b.green.x b.green.y (cell 0) (cell 2) (cell 3) (cell 4) (cell 5) in
    let q = four a.blue.x a.blue.y a.white.x a.white.y b.blue.x b.blue.y b.white.x b.white.y (cell 1) (cell 6) (cell 7) (cell 8) (cell 9) in
    let red = same_point a.red b.red p.0 p.1 in
    let green = same_point a.green b.green p.2 p.3 in
    let blue = same_point a.blue b.blue q.0 q.1 in
    let white = same_point a.white b.white q.2 q.3 in
    let all : rebuilt a ≡ rebuilt b = cc in all
