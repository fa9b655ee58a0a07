-- Sparse pulses, and pulls in order: without the first of them, some of them, and those of them that begin after an instant.
use Rattle.std.proofs.Common.{◌≡◌, ℕ, zero, suc, ◌+◌, ◌-◌, ◌<◌, ◌≤◌, Bool, true, false, ◌&&◌, if◌then◌else◌, nat_lt, nat_le, List, [], ◌∷◌, length, take, drop, length-drop, get_or, slice_get, Option, Some, None, IfSome, refl, ap, sym, add-one, arith}
use Rattle.std.specs.List.{All, filter}
use Rattle.std.proofs.lemmas.List.Elements.{All-nil, All-cons, All-filter}
use Rattle.std.proofs.lemmas.List.Sums.{length-filter, count_by-le-length}
use Rattle.std.proofs.lemmas.Bool.Decides.{nat_tests}
use Rattle.line_wave.specs.declared.Stretch.{Stretch}
use Rattle.line_wave.proofs.Sparse.{take_all}
use Rattle.line_wave.specs.Line.{IsWave, IsWaveFrom, SomeAreWaves}
use Rattle.line_wave.specs.Bounds.{latest_heard, most_pulls}
use Rattle.line_wave.specs.Pulls.{EndsInTime, AreTimely, are_timely_from, EarlyPulsesArePulls, TimelyTested}
use Rattle.line_wave.specs.Pulses.{IsNarrow, AreFarApart, AreSparse, SparseAreWaves}

-- those in order are, from an earlier instant on, too
pub wave_sooner : (from to : ℕ) (ss : List Stretch) → to ≤ from → IsWaveFrom from ss → IsWaveFrom to ss
wave_sooner from to [] l w = tt
wave_sooner from to (s ∷ ss) l w = (omega (arith, l, w.0), w.1, w.2)

-- each begins at an instant or later
abbrev From : ℕ → Stretch → Type 0
From t s = t ≤ s.from

from-later : (t u : ℕ) (ss : List Stretch) → t ≤ u → All (From u) ss → All (From t) ss
from-later t u ss le h k d l = (let x = h k d l in omega arith)

far-from : (a : Stretch) (ss : List Stretch) → AreFarApart (a ∷ ss) → All IsNarrow ss → All (From (a.to + 25000)) ss
far-from a [] f w = All-nil (From (a.to + 25000))
far-from a (b ∷ ss) f w =
    let narrow = w 0 b (omega arith) in
    All-cons (From (a.to + 25000)) b ss f.0
    (from-later (a.to + 25000) (b.to + 25000) ss (omega (arith, f.0, narrow.0)) (far-from b ss f.1 (λ k d l. w (suc k) d (omega arith))))

far-tail : (a : Stretch) (ss : List Stretch) → AreFarApart (a ∷ ss) → AreFarApart ss
far-tail a [] f = tt
far-tail a (b ∷ ss) f = f.1

pub sparse-drop : (n : ℕ) (ss : List Stretch) → AreSparse ss → AreSparse (drop n ss)
sparse-drop zero ss h = h
sparse-drop (suc n) [] h = h
sparse-drop (suc n) (s ∷ ss) h = sparse-drop n ss (record {
  few = (let f = h.few in omega (arith, f));
  narrow = (λ k d l. h.narrow (suc k) d (omega arith));
  far = far-tail s ss h.far;
})

-- begins after an instant
abbrev pub later : ℕ → Stretch → Bool
later t p = nat_lt t p.from

-- from one that begins after an instant on, all do
all-later : (t : ℕ) (ss : List Stretch) → IsWaveFrom (t + 1) ss → filter (later t) ss ≡ ss
all-later t [] w = refl
all-later t (s ∷ ss) w =
    let from = w.0 in
    let is : nat_lt t s.from ≡ true = grind (arith, nat_tests, from) in
    rw is (ap (λ xs. s ∷ xs) (all-later t ss (wave_sooner (s.to + 1) (t + 1) ss (omega (arith, w.0, w.1)) w.2)))

-- one that begins by an instant is not kept
begun-step : (t : ℕ) (ss : List Stretch) (i : ℕ) (s : Stretch) → i < length ss → get_or ss i s ≡ s → s.from ≤ t
    → filter (later t) (drop (suc i) ss) ≡ filter (later t) (drop i ss)
begun-step t [] i s l e b = absurd (omega arith)
begun-step t (x ∷ ss) zero s l e b =
    let same : x ≡ s = e in
    let is : nat_lt t x.from ≡ false = rw same (grind (arith, nat_tests, b)) in
    rw is refl
begun-step t (x ∷ ss) (suc i) s l e b = begun-step t ss i s (omega arith) e b

pub begun-next : (t : ℕ) (ss : List Stretch) (i : ℕ) (s : Stretch) → i < length ss → get_or ss i s ≡ s → s.from ≤ t
    → filter (later t) (drop (i + 1) ss) ≡ filter (later t) (drop i ss)
begun-next t ss i s l e b = rw (add-one i) (begun-step t ss i s l e b)

nothing : Stretch
nothing = record { from = 0; to = 0 }

-- all from the first that begins after the instant on are kept
rest : (t from : ℕ) (ss : List Stretch) (i : ℕ) → i < length ss → IsWaveFrom from ss → t < (get_or ss i nothing).from → filter (later t) (drop i ss) ≡ drop i ss
rest t from [] i l w h = absurd (omega arith)
rest t from (s ∷ ss) zero l w h = all-later t (s ∷ ss) (omega arith, w.1, w.2)
rest t from (s ∷ ss) (suc i) l w h = rest t (s.to + 1) ss i (omega arith) w.2 h

pub begun-rest : (t : ℕ) (ss : List Stretch) (i : ℕ) → i < length ss → IsWave ss
    → t < (get_or ss i (record { from = 0; to = 0 })).from → filter (later t) (drop i ss) ≡ drop i ss
unfolding nothing
begun-rest t ss i l w h = rest t 0 ss i l w h

-- what is left after `gone` of them, and how many of that begin by an instant
pub left_fit : (gone begun : ℕ) (items left : List Stretch) → gone ≤ length items → drop gone items ≡ left → begun ≤ length left
    → gone + begun ≤ length items
left_fit gone begun items left h e b = let l = length-drop gone items in let f : length left ≡ length (drop gone items) = rw e refl in omega (arith, l, f)

pub left_sparse : (gone : ℕ) (items : List Stretch) → AreSparse items → AreSparse (take (length items - gone) (drop gone items))
left_sparse gone items h =
    let l = length-drop gone items in
    rw (take_all (drop gone items) (length items - gone) (omega (arith, l))) (sparse-drop gone items h)

-- ---- some of sparse pulses are sparse

far-cons : (a : Stretch) (ss : List Stretch) → All (From (a.to + 25000)) ss → AreFarApart ss → AreFarApart (a ∷ ss)
far-cons a [] h f = tt
far-cons a (b ∷ ss) h f = (h 0 b (omega arith), f)

either : (b : Bool) (xs ys : List Stretch) → AreFarApart xs → AreFarApart ys → AreFarApart (if b then xs else ys)
either true xs ys h k = h
either false xs ys h k = k

far-filter : (test : Stretch → Bool) (ss : List Stretch) → AreFarApart ss → All IsNarrow ss → AreFarApart (filter test ss)
far-filter test [] f w = tt
far-filter test (a ∷ ss) f w =
    let rest = far-filter test ss (far-tail a ss f) (λ k d l. w (suc k) d (omega arith)) in
    either (test a) (a ∷ filter test ss) (filter test ss)
    (far-cons a (filter test ss) (All-filter test (From (a.to + 25000)) ss (far-from a ss f (λ k d l. w (suc k) d (omega arith)))) rest) rest

pub sparse-filter : (test : Stretch → Bool) (ss : List Stretch) → AreSparse ss → AreSparse (filter test ss)
sparse-filter test ss h = record {
  few = (let e = length-filter test ss in let l = count_by-le-length test ss in omega arith);
  narrow = All-filter test IsNarrow ss h.narrow;
  far = far-filter test ss h.far h.narrow;
}

-- ---- sparse pulses are in order

wave-far : (from : ℕ) (ss : List Stretch) → IfSome (slice_get ss 0) (λ p. from ≤ p.from) → AreFarApart ss → All IsNarrow ss → IsWaveFrom from ss
wave-far from [] l f w = tt
wave-far from (a ∷ []) l f w = (l, (w 0 a (omega arith)).0, tt)
wave-far from (a ∷ b ∷ ss) l f w = (l, (w 0 a (omega arith)).0, wave-far (a.to + 1) (b ∷ ss) (omega (arith, f.0)) f.1 (λ k d l. w (suc k) d (omega (arith, l))))

from-zero : (o : Option Stretch) → IfSome o (λ p. 0 ≤ p.from)
from-zero None = tt
from-zero (Some p) = omega arith

pub sparse_wave : SparseAreWaves
sparse_wave ss h = wave-far 0 ss (from-zero (slice_get ss 0)) h.far h.narrow

-- ---- some of those in order are in order

kept_wave : (from : ℕ) (b : Bool) (s : Stretch) (ss : List Stretch) → from ≤ s.from → s.from < s.to → IsWaveFrom (s.to + 1) ss → IsWaveFrom from (if b then s ∷ ss else ss)
kept_wave from true s ss l m w = (l, m, w)
kept_wave from false s ss l m w = wave_sooner (s.to + 1) from ss (omega arith) w

wave_filter_from : (test : Stretch → Bool) (from : ℕ) (ss : List Stretch) → IsWaveFrom from ss → IsWaveFrom from (filter test ss)
wave_filter_from test from [] w = tt
wave_filter_from test from (s ∷ ss) w = kept_wave from (test s) s (filter test ss) w.0 w.1 (wave_filter_from test (s.to + 1) ss w.2)

pub wave_filter : SomeAreWaves
wave_filter test ss w = wave_filter_from test 0 ss w

wave_drop_from : (n from : ℕ) (ss : List Stretch) → IsWaveFrom from ss → IsWaveFrom from (drop n ss)
wave_drop_from zero from ss w = w
wave_drop_from (suc n) from [] w = tt
wave_drop_from (suc n) from (s ∷ ss) w = wave_sooner (s.to + 1) from (drop n ss) (omega (arith, w.0, w.1)) (wave_drop_from n (s.to + 1) ss w.2)

pub wave_drop : (n : ℕ) (ss : List Stretch) → IsWave ss → IsWave (drop n ss)
wave_drop n ss w = wave_drop_from n 0 ss w

wave_take_from : (n from : ℕ) (ss : List Stretch) → IsWaveFrom from ss → IsWaveFrom from (take n ss)
wave_take_from zero from ss w = tt
wave_take_from (suc n) from [] w = tt
wave_take_from (suc n) from (s ∷ ss) w = (w.0, w.1, wave_take_from n (s.to + 1) ss w.2)

pub wave_take : (n : ℕ) (ss : List Stretch) → IsWave ss → IsWave (take n ss)
wave_take n ss w = wave_take_from n 0 ss w

-- ---- pulls

all_drop : (P : Stretch → Type 0) (n : ℕ) (ss : List Stretch) → All P ss → All P (drop n ss)
all_drop P zero ss h = h
all_drop P (suc n) [] h = h
all_drop P (suc n) (s ∷ ss) h = all_drop P n ss (λ k d l. h (suc k) d (omega (arith, l)))

pub timely_drop : (n : ℕ) (ss : List Stretch) → AreTimely ss → AreTimely (drop n ss)
timely_drop n ss h = record {
  few = (let f = h.few in let l = length-drop n ss in omega (arith, f, l));
  order = wave_drop n ss h.order;
  ends = all_drop EndsInTime n ss h.ends;
}

pub left_timely : (gone : ℕ) (items : List Stretch) → AreTimely (drop gone items) → AreTimely (take (length items - gone) (drop gone items))
left_timely gone items h =
    let l = length-drop gone items in
    rw (take_all (drop gone items) (length items - gone) (omega (arith, l))) h

drop_nil : (m : ℕ) → drop m (let none : List Stretch = [] in none) ≡ []
drop_nil zero = refl
drop_nil (suc m) = refl

drop_drop : (n m k : ℕ) (ss : List Stretch) → k ≡ n + m → drop k ss ≡ drop m (drop n ss)
drop_drop zero m k ss e = ap (λ x. drop x ss) (let x : k ≡ m = omega (arith, e) in x)
drop_drop (suc n) m zero ss e = absurd (omega (arith, e))
drop_drop (suc n) m (suc k) [] e = sym (drop_nil m)
drop_drop (suc n) m (suc k) (s ∷ ss) e = drop_drop n m k ss (omega (arith, e))

pub timely_more : (n m : ℕ) (ss : List Stretch) → AreTimely (drop n ss) → AreTimely (drop (n + m) ss)
timely_more n m ss h = rw (drop_drop n m (n + m) ss refl) (timely_drop m (drop n ss) h)

pub timely_filter : (test : Stretch → Bool) (ss : List Stretch) → AreTimely ss → AreTimely (filter test ss)
timely_filter test ss h = record {
  few = (let f = h.few in let e = length-filter test ss in let l = count_by-le-length test ss in omega arith);
  order = wave_filter test ss h.order;
  ends = All-filter test EndsInTime ss h.ends;
}

-- sparse pulses that begin early are pulls
pub sparse_timely : EarlyPulsesArePulls
sparse_timely ss h early = record {
  few = (let f = h.few in omega (arith, f));
  order = sparse_wave ss h;
  ends = λ k d l. (let x = early k d l in let y = (h.narrow k d l).1 in omega (arith, x, y));
}

-- ---- whether stretches are pulls

and_both : (a b : Bool) → (a && b) ≡ true → (a ≡ true) × (b ≡ true)
and_both true b h = (refl, h)
and_both false b h = cc

read_from : (from : ℕ) (ss : List Stretch) → are_timely_from from ss ≡ true → IsWaveFrom from ss × All EndsInTime ss
read_from from [] h = (tt, All-nil EndsInTime)
read_from from (s ∷ ss) h =
    let a = and_both (nat_le from s.from && nat_lt s.from s.to) _ h in
    let b = and_both (nat_le from s.from) (nat_lt s.from s.to) a.0 in
    let c = and_both (nat_lt s.to latest_heard) _ a.1 in
    let rest = read_from (s.to + 1) ss c.1 in
    let x : from ≤ s.from = (let e = b.0 in grind (arith, nat_tests, e)) in
    let y : s.from < s.to = (let e = b.1 in grind (arith, nat_tests, e)) in
    let z : s.to < latest_heard = (let e = c.0 in grind (arith, nat_tests, e)) in
    ((x, y, rest.0), All-cons EndsInTime s ss z rest.1)

reads_from : (from : ℕ) (ss : List Stretch) → IsWaveFrom from ss → All EndsInTime ss → are_timely_from from ss ≡ true
reads_from from [] w h = refl
reads_from from (s ∷ ss) w h =
    let late : s.to < latest_heard = h 0 s (omega arith) in
    let x : nat_le from s.from ≡ true = (let e = w.0 in grind (arith, nat_tests, e)) in
    let y : nat_lt s.from s.to ≡ true = (let e = w.1 in grind (arith, nat_tests, e)) in
    let z : nat_lt s.to latest_heard ≡ true = grind (arith, nat_tests, late) in
    rw (x, y, z) (reads_from (s.to + 1) ss w.2 (λ k d l. h (suc k) d (omega (arith, l))))

pub timely_tested : TimelyTested
timely_tested ss = (
  (λ h. let a = and_both (nat_le (length ss) most_pulls) (are_timely_from 0 ss) h in
      let few : length ss ≤ most_pulls = (let e = a.0 in grind (arith, nat_tests, e)) in
      let r = read_from 0 ss a.1 in record { few = few; order = r.0; ends = r.1 }),
  (λ h. let few : nat_le (length ss) most_pulls ≡ true = (let e = h.few in grind (arith, nat_tests, e)) in rw few (reads_from 0 ss h.order h.ends)),
)
