-- What is read of a line turned, and of one without short pulses and gaps.
use Rattle.std.proofs.Common.{◌≡◌, ℕ, Bool, true, false, nat_lt, List, Option, None, refl, sym, ◌∙◌, ap}
use Rattle.std.specs.Prelude.{IfOk, Result, Ok, Err}
use Rattle.line_wave.specs.declared.Edge.{Edge}
use Rattle.capture_core.specs.Edges.{Captured}
use Rattle.capture_invert.specs.Inverted.{inverted_edges}
use Rattle.capture_smooth.specs.Smooth.{smooth_edges}
use Rattle.capture_signs.specs.declared.sums.Sign.TheVariants as signs
use Rattle.capture_verdict.specs.declared.verdict.Verdict.{Verdict}
use Rattle.capture_verdict.specs.Lists.{first_some, or_else}
use Rattle.capture_verdict.specs.Verdicts.{complete, glitch_of, glitches_by, glitches_of, inverted_by, inverted_of, is_low, other_readings, smoothed, sum, turned}
use Rattle.capture_verdict.proofs.Choosing.{or_none}

alike : (es fs : List Edge) (n m : ℕ) → es ≡ fs → n ≡ m → complete (record { edges = es; end = n }) ≡ complete (record { edges = fs; end = m })
alike es fs n m e f = ap (λ (gs : List Edge). complete (record { edges = gs; end = n })) e ∙ ap (λ (k : ℕ). complete (record { edges = fs; end = k })) f

pub turned_same : (c o : Captured) → o.edges ≡ inverted_edges c.edges → o.end ≡ c.end → complete o ≡ complete (turned c)
turned_same c o e f = alike o.edges (inverted_edges c.edges) o.end c.end e f

pub smoothed_same : (glitch : ℕ) (c o : Captured) → o.edges ≡ smooth_edges glitch c.edges → o.end ≡ c.end → complete o ≡ complete (smoothed glitch c)
smoothed_same glitch c o e f = alike o.edges (smooth_edges glitch c.edges) o.end c.end e f

low_by : (b : Bool) (n m : ℕ) → b ≡ true → inverted_by true n m ≡ inverted_by b n m
low_by b n m e = ap (λ (k : Bool). inverted_by k n m) (sym e)

pub low_ok : {E : Type 0} (c : Captured) (r : Result (Option Verdict) E) → is_low c ≡ true → IfOk r (λ (v : Option Verdict). v ≡ inverted_by true (complete c) (complete (turned c)))
    → IfOk r (λ (v : Option Verdict). v ≡ inverted_of c)
unfolding inverted_of
low_ok c (Ok v) low is = is ∙ low_by (is_low c) (complete c) (complete (turned c)) low
low_ok c (Err e) low is = tt

pub not_low : (c : Captured) → is_low c ≡ false → None ≡ inverted_of c
unfolding inverted_of
not_low c high = ap (λ (b : Bool). inverted_by b (complete c) (complete (turned c))) (sym high)

pub short_ok : {E : Type 0} (c : Captured) (n : ℕ) (r : Result (Option Verdict) E) → n ≡ sum signs.ShortPulses c
    → IfOk r (λ (v : Option Verdict). v ≡ glitches_by n (glitch_of c) (complete c) (complete (smoothed (glitch_of c) c))) → IfOk r (λ (v : Option Verdict). v ≡ glitches_of c)
unfolding glitches_of
short_ok c n (Ok v) count is = is ∙ ap (λ (k : ℕ). glitches_by k (glitch_of c) (complete c) (complete (smoothed (glitch_of c) c))) count
short_ok c n (Err e) count is = tt

none_by : (n glitch plain other : ℕ) → nat_lt 0 n ≡ false → None ≡ glitches_by n glitch plain other
none_by n glitch plain other e = rw e refl

pub none_short : (c : Captured) (n : ℕ) → n ≡ sum signs.ShortPulses c → nat_lt 0 n ≡ false → None ≡ glitches_of c
unfolding glitches_of
none_short c n count none =
    none_by n (glitch_of c) (complete c) (complete (smoothed (glitch_of c) c)) none ∙ ap (λ (k : ℕ). glitches_by k (glitch_of c) (complete c) (complete (smoothed (glitch_of c) c))) count

pub later_ok : {E : Type 0} (c : Captured) (n : Option Verdict) (r : Result (Option Verdict) E) → n ≡ inverted_of c → n ≡ None
    → IfOk r (λ (v : Option Verdict). v ≡ glitches_of c) → IfOk r (λ (v : Option Verdict). v ≡ first_some (other_readings c))
later_ok c n (Ok v) is none later = later ∙ or_none (glitches_of c) ∙ ap (λ (o : Option Verdict). or_else o (or_else (glitches_of c) None)) (sym none ∙ is)
later_ok c n (Err e) is none later = tt

pub short_is : (c : Captured) (n g p o : ℕ) (r : Option Verdict) → g ≡ glitch_of c → p ≡ complete c → o ≡ complete (smoothed g c) → r ≡ glitches_by n g p o
    → r ≡ glitches_by n (glitch_of c) (complete c) (complete (smoothed (glitch_of c) c))
short_is c n g p o r is plain other given =
    given ∙ ap (λ (k : ℕ). glitches_by n g k o) plain ∙ ap (λ (k : ℕ). glitches_by n g (complete c) k) other
    ∙ ap (λ (k : ℕ). glitches_by n k (complete c) (complete (smoothed k c))) is
