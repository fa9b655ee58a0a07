-- A hint reads more: of each verdict of the list, and so of the first of them.
use Rattle.std.proofs.Common.{◌≡◌, ℕ, ◌-◌, ◌/◌, ◌<◌, ◌==◌, Bool, true, false, not, nat_lt, nat_le, ◌&&◌, ◌||◌, if◌then◌else◌, List, [], ◌∷◌, Option, Some, None, option_map, refl, sym, subst, arith}
use Rattle.std.specs.Prelude.{IfOk, IfSome, Result, Ok, Err}
use Rattle.std.proofs.lemmas.Bool.Decides.{nat_tests}
use Rattle.line_wave.specs.declared.Edge.{Edge}
use Rattle.capture_core.specs.Edges.{Captured}
use Rattle.capture_advice.specs.Counts.{IsCounted, capped, complete_at}
use Rattle.capture_advice.specs.declared.widening.Widening.{Widening}
use Rattle.capture_signs.specs.declared.pieces.PieceCounts.{PieceCounts}
use Rattle.capture_signs.specs.declared.sums.Sign.TheVariants as signs
use Rattle.capture_signs.specs.Rates.{coarse_rate}
use Rattle.capture_verdict.specs.declared.verdict.Verdict.{Verdict}
use Rattle.capture_verdict.specs.declared.verdict.Verdict.TheVariants.{Empty, Idle, MidFrame, Fine, Hum, Inverted, Glitches, TimeUnit, Stuck, Rate, Nearly, Clock, Bus, Short, Noise}
use Rattle.capture_verdict.specs.Lists.{first_some, value_or}
use Rattle.capture_verdict.specs.Verdicts.{HintReadsMore, IsVerdict, are_many, bus_of, clock_of, complete, fine_of, glitch_of, glitches_of, hum_by, hum_of, inverted_of, is_framed, is_low, is_most, is_steady, is_stuck, nearly_of, odd_of, pieces, rate_of, short_by, short_of, shortest, silent_by, silent_of, smoothed, steady_verdict, stuck_of, sum, turned, unit_by, unit_of, verdict_by, verdicts}

-- each that is there has a property
abbrev AllHave : {X : Type 0} → (X → Type 0) → List (Option X) → Type 0
AllHave P [] = Unit {0}
AllHave P (o ∷ os) = IfSome o P × AllHave P os

first_has : {X : Type 0} (P : X → Type 0) (d : X) (os : List (Option X)) → P d → AllHave P os → P (value_or d (first_some os))
first_has P d [] last all = last
first_has P d (None ∷ os) last (one, all) = first_has P d os last all
first_has P d (Some x ∷ os) last (one, all) = one

-- it has it where a test holds
where_holds : {X : Type 0} (P : X → Type 0) (b : Bool) (x : X) → (b ≡ true → P x) → IfSome (if b then Some x else None) P
where_holds P true x has = has refl
where_holds P false x has = tt

either_has : {X : Type 0} (P : X → Type 0) (b : Bool) (x y : X) → P x → P y → P (if b then x else y)
either_has P true x y one other = one
either_has P false x y one other = other

back : (a b : Bool) → (a && b) ≡ true → b ≡ true
back true b e = e
back false b e = absurd cc

less : (a b : ℕ) → nat_lt a b ≡ true → a < b
less a b e = grind (arith, nat_tests, e)

uncapped : (a b : ℕ) → capped a < capped b → a < b
uncapped a b h = omega (arith, h)

-- a greater count is of more readings
read_more : (c d : Captured) → nat_lt (complete c) (complete d) ≡ true → complete_at 0 c < complete_at 0 d
unfolding complete
read_more c d e = uncapped (complete_at 0 c) (complete_at 0 d) (less (capped (complete_at 0 c)) (capped (complete_at 0 d)) e)

silent_has : (c : Captured) (es : List Edge) (end : ℕ) → IfSome (silent_by es end) (HintReadsMore c)
silent_has c [] end = either_has (HintReadsMore c) (end == 0) Empty (Idle end) tt tt
silent_has c (e ∷ es) end = tt

silent_more : (c : Captured) → IfSome (silent_of c) (HintReadsMore c)
unfolding silent_of
silent_more c = silent_has c c.edges c.end

steady_has : (c : Captured) (k : PieceCounts) → HintReadsMore c (steady_verdict k)
steady_has c k = either_has (HintReadsMore c) (nat_lt 0 k.mid_frames) (MidFrame k.frames k.in_order) (Fine k.frames k.in_order) tt tt

fine_more : (c : Captured) → IfSome (fine_of c) (HintReadsMore c)
unfolding fine_of
fine_more c = where_holds (HintReadsMore c) (not (is_stuck c) && is_steady (pieces c)) (steady_verdict (pieces c)) (λ e. steady_has c (pieces c))

hum_more : (period : ℕ) (c : Captured) → IfSome (hum_of period c) (HintReadsMore c)
unfolding hum_of
hum_more period c = hum_has (is_framed c) (sum signs.Periods c) (sum (signs.HumPeriods period) c)
  where
    hum_has : (framed : Bool) (all near : ℕ) → IfSome (hum_by framed period all near) (HintReadsMore c)
    hum_has framed all near = where_holds (HintReadsMore c) (not framed && (nat_le 5 all && nat_le (all - near) (all / 5))) (Hum period) (λ e. tt)

inverted_more : (c : Captured) → IfSome (inverted_of c) (HintReadsMore c)
unfolding inverted_of
inverted_more c =
    where_holds (HintReadsMore c) (is_low c && nat_lt (complete c) (complete (turned c))) (Inverted (complete (turned c) - complete c))
    (λ e. read_more c (turned c) (back (is_low c) (nat_lt (complete c) (complete (turned c))) e))

glitches_more : (c : Captured) → IfSome (glitches_of c) (HintReadsMore c)
unfolding glitches_of
glitches_more c =
    where_holds (HintReadsMore c) (nat_lt 0 (sum signs.ShortPulses c) && nat_lt (complete c) (complete (smoothed (glitch_of c) c)))
    (Glitches (sum signs.ShortPulses c) (glitch_of c) (complete (smoothed (glitch_of c) c) - complete c))
    (λ e. read_more c (smoothed (glitch_of c) c) (back (nat_lt 0 (sum signs.ShortPulses c)) (nat_lt (complete c) (complete (smoothed (glitch_of c) c))) e))

unit_has : (c : Captured) (b : Bool) (n : ℕ) → IfSome (unit_by b n) (HintReadsMore c)
unit_has c b n = where_holds (HintReadsMore c) (b && (nat_lt n 1640 || nat_lt 3300 n)) (TimeUnit n) (λ e. tt)

unit_more : (c : Captured) → IfSome (unit_of c) (HintReadsMore c)
unfolding unit_of
unit_more c = unit_has c (is_framed c) (shortest c)

stuck_more : (c : Captured) → IfSome (stuck_of c) (HintReadsMore c)
unfolding stuck_of
stuck_more c = where_holds (HintReadsMore c) (is_stuck c) (Stuck (sum signs.StuckTime c)) (λ e. tt)

rate_has : (c : Captured) (b : Bool) (o : Option ℕ) → IfSome (if b then option_map Rate o else None) (HintReadsMore c)
rate_has c true None = tt
rate_has c true (Some n) = tt
rate_has c false o = tt

rate_more : (c : Captured) → IfSome (rate_of c) (HintReadsMore c)
unfolding rate_of
rate_more c = rate_has c (are_many (sum signs.Lows c)) (coarse_rate c.edges)

counted_more : (n m x : ℕ) → x ≡ capped m - capped n → 0 < x → n < m
counted_more n m x e h = omega (arith, e, h)

nearly_more : (c : Captured) (w : Widening) → IsCounted c w → IfSome (nearly_of w) (HintReadsMore c)
nearly_more c w counted = where_holds (HintReadsMore c) (nat_lt 0 w.more) (Nearly w.margin w.more) (λ e. counted_more (complete_at 0 c) (complete_at w.margin c) w.more counted (less 0 w.more e))

clock_more : (c : Captured) → IfSome (clock_of c) (HintReadsMore c)
unfolding clock_of
clock_more c = where_holds (HintReadsMore c) (is_framed c) (Clock (shortest c)) (λ e. tt)

bus_more : (c : Captured) → IfSome (bus_of c) (HintReadsMore c)
unfolding bus_of
bus_more c =
    where_holds (HintReadsMore c) (are_many (sum signs.Lows c) && is_most (sum signs.FastLows c) (sum signs.Lows c)) (Bus (sum signs.Lows c)) (λ e. tt)

short_has : (c : Captured) (headed lows : ℕ) → IfSome (short_by headed lows) (HintReadsMore c)
short_has c headed lows =
    where_holds (HintReadsMore c) (headed == 0) (if nat_lt 161 lows then Noise lows else Short lows)
    (λ e. either_has (HintReadsMore c) (nat_lt 161 lows) (Noise lows) (Short lows) tt tt)

short_more : (c : Captured) → IfSome (short_of c) (HintReadsMore c)
unfolding short_of
short_more c = short_has c (pieces c).headed (sum signs.Lows c)

odd_more : (c : Captured) → HintReadsMore c (odd_of c)
unfolding odd_of
odd_more c = tt

hints : (c : Captured) (w : Widening) → IsCounted c w → HintReadsMore c (verdict_by c w)
hints c w counted =
    first_has (HintReadsMore c) (odd_of c) (verdicts c w) (odd_more c)
    (silent_more c, (fine_more c, (hum_more 20000 c, (hum_more 16667 c, (hum_more 10000 c, (hum_more 8333 c, (inverted_more c, (glitches_more c, (unit_more c, (stuck_more c, (rate_more c, (nearly_more c w counted, (clock_more c, (bus_more c, (short_more c, tt)))))))))))))))

hint_of : (c : Captured) (v : Verdict) → IsVerdict c v → HintReadsMore c v
hint_of c v (w, counted, is) = subst (λ (u : Verdict). HintReadsMore c u) (sym is) (hints c w counted)

pub hinted : {E : Type 0} (c : Captured) (r : Result Verdict E) → IfOk r (λ (v : Verdict). IsVerdict c v) → IfOk r (λ (v : Verdict). HintReadsMore c v)
hinted c (Ok v) is = hint_of c v is
hinted c (Err e) is = tt
