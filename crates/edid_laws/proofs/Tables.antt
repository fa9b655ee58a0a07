-- What holds of each row of a table.
use Rattle.std.proofs.Common.{◌≡◌, ℕ, zero, suc, ◌+◌, ◌*◌, ◌/◌, ◌<◌, ◌≤◌, ◌==◌, ◌&&◌, Bool, true, false, nat_lt, cond, List, [], ◌∷◌, length, map, slice_get, Option, Some, None, ap, arith, refl, sym, ◌∙◌}
use Rattle.std.specs.List.{count_by, sum_by}
use Rattle.std.proofs.lemmas.Bool.{ltb-true, eq-eqb, ne_eqb}
use Rattle.std.proofs.lemmas.List.Concat.{length-flat_map}
use Rattle.std.proofs.lemmas.List.Sums.{sum_by-cons}
use Rattle.edid_base.specs.declared.standard.StandardTiming.{StandardTiming}
use Rattle.meaning_words.specs.Notes.{Row, is_set, set_line, set_lines}
use Rattle.meaning_words.specs.Formats.{formats, find_code, format_of}
use Rattle.meaning_words.specs.declared.formats.VideoFormat.{VideoFormat}
use Rattle.meaning_base.specs.Figures.{standard_height}
use Rattle.edid_laws.specs.Rising.{rise}

both : (a b : Bool) → (a && b) ≡ true → (a ≡ true) × (b ≡ true)
both true b h = (refl, h)
both false b h = cc

-- ---- formats

abbrev code : VideoFormat → ℕ
code f = f.code

pub codes_rise : rise (map code formats) ≡ true
codes_rise = refl

-- each later code is greater
later : (g : VideoFormat) (gs : List VideoFormat) (f : VideoFormat) (k : ℕ) → rise (map code (g ∷ gs)) ≡ true → slice_get gs k ≡ Some f → g.code < f.code
later g [] f k r h = absurd (no h)
  where
    no : None ≡ Some f → ⊥
    no h = cc
later g (h ∷ hs) f zero r e =
    let first : h ≡ f = cc in
    let less = ltb-true g.code h.code (both (nat_lt g.code h.code) (rise (map code (h ∷ hs))) r).0 in
    let same : h.code ≡ f.code = ap code first in
    omega (arith, less, same)
later g (h ∷ hs) f (suc k) r e =
    let p = both (nat_lt g.code h.code) (rise (map code (h ∷ hs))) r in
    let less = ltb-true g.code h.code p.0 in
    let rest = later h hs f k p.1 e in
    omega (arith, less, rest)

rest_rises : (g : VideoFormat) (gs : List VideoFormat) → rise (map code (g ∷ gs)) ≡ true → rise (map code gs) ≡ true
rest_rises g [] r = refl
rest_rises g (h ∷ hs) r = (both (nat_lt g.code h.code) (rise (map code (h ∷ hs))) r).1

chosen : (v : Bool) (g : VideoFormat) (rest : Option VideoFormat) → v ≡ true → cond v (Some g) rest ≡ Some g
chosen v g rest e = rw e refl

passed : (v : Bool) (g : VideoFormat) (rest : Option VideoFormat) → v ≡ false → cond v (Some g) rest ≡ rest
passed v g rest e = rw e refl

pub found_in : (fs : List VideoFormat) (f : VideoFormat) (k : ℕ) → rise (map code fs) ≡ true → slice_get fs k ≡ Some f → find_code fs f.code ≡ Some f
found_in [] f k r h = absurd (no h)
  where
    no : None ≡ Some f → ⊥
    no h = cc
found_in (g ∷ gs) f zero r h =
    let first : g ≡ f = cc in
    chosen (g.code == f.code) g (find_code gs f.code) (eq-eqb g.code f.code (ap code first)) ∙ h
found_in (g ∷ gs) f (suc k) r h =
    let less = later g gs f k r h in
    let other : g.code ≡ f.code → ⊥ = λ (e : g.code ≡ f.code). omega (arith, e, less) in
    passed (g.code == f.code) g (find_code gs f.code) (ne_eqb g.code f.code other) ∙ found_in gs f k (rest_rises g gs r) h

pub found : (f : VideoFormat) (k : ℕ) → slice_get formats k ≡ Some f → format_of f.code ≡ Some f
unfolding format_of
found f k h = found_in formats f k codes_rise h

-- ---- lines of bits

each_line : (bits : ℕ) (rows : List Row) → sum_by (λ r. length (set_line bits r)) rows ≡ count_by (λ r. is_set bits r.weight) rows
each_line bits [] = refl
each_line bits (r ∷ rows) =
    sum_by-cons (λ (r : Row). length (set_line bits r)) r rows
    ∙ at (is_set bits r.weight) (each_line bits rows)
    ∙ sym (sum_by-cons (λ (r : Row). cond (is_set bits r.weight) 1 0) r rows)
  where
    at : (v : Bool) → sum_by (λ r. length (set_line bits r)) rows ≡ count_by (λ r. is_set bits r.weight) rows
        → length (cond v (r.word ∷ []) []) + sum_by (λ r. length (set_line bits r)) rows ≡ cond v 1 0 + count_by (λ r. is_set bits r.weight) rows
    at true h = ap (λ n. 1 + n) h
    at false h = ap (λ n. 0 + n) h

pub lines_of_bits : (rows : List Row) (bits : ℕ) → length (set_lines rows bits) ≡ count_by (λ r. is_set bits r.weight) rows
unfolding set_lines
lines_of_bits rows bits = length-flat_map (set_line bits) rows ∙ each_line bits rows

-- ---- standard timings

height_of : (a b c : Bool) (width : ℕ) → 2 ≤ width → 0 < cond a (width * 10 / 16) (cond b (width * 3 / 4) (cond c (width * 4 / 5) (width * 9 / 16)))
height_of true b c width h = omega arith
height_of false true c width h = omega arith
height_of false false true width h = omega arith
height_of false false false width h = omega arith

pub has_height : (s : StandardTiming) → 0 < standard_height s.width s.aspect
has_height s = let least = s.least_width in height_of (s.aspect == 0) (s.aspect == 1) (s.aspect == 2) s.width (omega (arith, least))
