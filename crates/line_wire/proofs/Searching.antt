-- A wire that looks for the next edge of its line.
use Rattle.std.proofs.Common.{◌≡◌, ℕ, zero, suc, ◌+◌, ◌-◌, ◌^◌, ◌<◌, ◌≤◌, Bool, true, false, not, ◌&&◌, List, [], ◌∷◌, ◌++◌, append_assoc, append-nil, length, length-append, take, drop, slice_get, ◌⊎◌, inl, inr, Option, Some, None, IfSome, is_some, refl, arith, ap, ◌∙◌, sym, subst}
use Rattle.std.specs.List.{All}
use Rattle.std.proofs.lemmas.Bool.{cases_lt}
use Rattle.std.proofs.lemmas.List.{take-append-drop}
use Rattle.line_wave.specs.declared.Stretch.{Stretch}
use Rattle.line_wave.specs.declared.Edge.{Edge}
use Rattle.line_wave.specs.Line.{Line, was_low, is_fall, IsWave, IsWaveFrom}
use Rattle.line_wave.specs.Bounds.{latest_heard}
use Rattle.line_wave.specs.Pulses.{AreSparse, AreFarApart, IsNarrow}
use Rattle.line_wave.specs.Sender.{first_slot}
use Rattle.line_reading.specs.Reading.{Read, reading_of}
use Rattle.line_rounds.specs.declared.Seat.{Seat}
use Rattle.line_wire.specs.declared.reading.Ended.{Ended as Ending_kept}
use Rattle.line_rounds.specs.Round.{IsRoundLine}
use Rattle.line_wire.specs.declared.edge_wire.EdgeWire.{EdgeWire}
use Rattle.line_wave.specs.Pulls.{EndsInTime}
use Rattle.line_wire.specs.Line.{last_of}
use Rattle.line_wire.specs.Steps.{EdgeBy}
use Rattle.line_wire.specs.Told.{told_of}
use Rattle.line_wire.specs.Turns.{IsCalm, Takes}
use Rattle.line_wire.specs.Wire.{IsRead}
use Rattle.line_wire.specs.Wired.{ArePulls, EachLine, EachOf, EachComing, Follow, Found, IsBegunWith, NextEdges, SameRound, StandsOnLine, end_in, is_low_in, pulls_in, is_silent_in}
use Rattle.line_wire.proofs.Bounded.{goes_short}
use Rattle.line_wire.proofs.Heard.{records_now}
use Rattle.line_wire.proofs.Hearing.{kept_end}
use Rattle.line_wire.proofs.Told.{told_is_read, was_is, round_is_lone}
use Rattle.line_wire.proofs.Turning.{later_sooner}
use Rattle.line_wire.proofs.Standing.{until_by as until_at}

-- ---- lists

pub both_late : (t : ℕ) (ps qs : List Stretch) → All (λ p. t ≤ p.from) ps → All (λ p. t ≤ p.from) qs → All (λ p. t ≤ p.from) (ps ++ qs)
both_late t [] qs a b = b
both_late t (p ∷ ps) qs a b = front (a 0 p (omega arith)) (both_late t ps qs (λ k d m. a (suc k) d (omega (arith, m))) b)
  where
    front : t ≤ p.from → All (λ (q : Stretch). t ≤ q.from) (ps ++ qs) → All (λ (q : Stretch). t ≤ q.from) (p ∷ (ps ++ qs))
    front g h zero d m = g
    front g h (suc k) d m = h k d (omega (arith, m))

pub take_more : (ss : List Stretch) (k : ℕ) (p : Stretch) → slice_get ss k ≡ Some p → take (suc k) ss ≡ take k ss ++ p ∷ []
take_more [] k p e = cc
take_more (s ∷ ss) zero p e = let f : s ≡ p = cc in ap (λ (x : Stretch). x ∷ []) f
take_more (s ∷ ss) (suc k) p e = ap (λ (xs : List Stretch). s ∷ xs) (take_more ss k p e)

pub drop_get : (ss : List Stretch) (k : ℕ) (p : Stretch) → slice_get ss k ≡ Some p → drop k ss ≡ p ∷ drop (suc k) ss
drop_get [] k p e = cc
drop_get (s ∷ ss) zero p e = let f : s ≡ p = cc in ap (λ (x : Stretch). x ∷ ss) f
drop_get (s ∷ ss) (suc k) p e = drop_get ss k p e

pub drop_none : (ss : List Stretch) (k : ℕ) → slice_get ss k ≡ None → drop k ss ≡ []
drop_none [] zero e = refl
drop_none [] (suc k) e = refl
drop_none (s ∷ ss) zero e = cc
drop_none (s ∷ ss) (suc k) e = drop_none ss k e

within_get : (ss : List Stretch) (k : ℕ) (p : Stretch) → slice_get ss k ≡ Some p → k < length ss
within_get [] k p e = cc
within_get (s ∷ ss) zero p e = omega arith
within_get (s ∷ ss) (suc k) p e = let x = within_get ss k p e in omega (arith, x)

pub wave_rest : (from : ℕ) (xs ys : List Stretch) → IsWaveFrom from (xs ++ ys) → (n : ℕ) × IsWaveFrom n ys
wave_rest from [] ys w = (from, w)
wave_rest from (x ∷ xs) ys w = wave_rest (x.to + 1) xs ys w.2

wave_drop : (past ss : List Stretch) (k : ℕ) → IsWave (past ++ ss) → (n : ℕ) × IsWaveFrom n (drop k ss)
wave_drop past ss k w =
    let r = wave_rest 0 past ss w in
    wave_rest r.0 (take k ss) (drop k ss) (subst (λ (xs : List Stretch). IsWaveFrom r.0 xs) (sym (take-append-drop k ss)) r.1)

late_from : (t from : ℕ) (ss : List Stretch) → t ≤ from → IsWaveFrom from ss → All (λ s. t ≤ s.from) ss
late_from t from [] l w i d m = absurd (omega (arith, m))
late_from t from (s ∷ ss) l w zero d m = omega (arith, l, w.0)
late_from t from (s ∷ ss) l w (suc i) d m = late_from t (s.to + 1) ss (omega (arith, l, w.0, w.1)) w.2 i d (omega (arith, m))

-- where the first of them begins at t or later, all do
pub late_next : (t from : ℕ) (ss : List Stretch) (p : Stretch) (rest : List Stretch) → ss ≡ p ∷ rest → IsWaveFrom from ss → t ≤ p.from → All (λ s. t ≤ s.from) ss
late_next t from [] p rest e w l = cc
late_next t from (s ∷ ss) p rest e w l = let f : s ≡ p = cc in late_from t s.from (s ∷ ss) (subst (λ (x : Stretch). t ≤ x.from) (sym f) l) (omega arith, w.1, w.2)

late_past : (t from : ℕ) (ss : List Stretch) (p : Stretch) (rest : List Stretch) → ss ≡ p ∷ rest → IsWaveFrom from ss → t ≤ p.from → All (λ s. t + 1 ≤ s.from) rest
late_past t from [] p rest e w l = cc
late_past t from (s ∷ ss) p rest e w l =
    let f : s ≡ p = cc in
    let g : ss ≡ rest = cc in
    subst (λ (xs : List Stretch). All (λ (x : Stretch). t + 1 ≤ x.from) xs) g (late_from (t + 1) (s.to + 1) ss (let m = subst (λ (x : Stretch). t ≤ x.from) (sym f) l in omega (arith, m, w.1)) w.2)

wave_count : (from : ℕ) (ss : List Stretch) → from ≤ latest_heard → IsWaveFrom from ss → All EndsInTime ss → length ss + from ≤ latest_heard
wave_count from [] l w e = omega (arith, l)
wave_count from (s ∷ ss) l w e =
    let x = e 0 s (omega arith) in
    let y = wave_count (s.to + 1) ss (omega (arith, x)) w.2 (λ k d m. e (suc k) d (omega (arith, m))) in
    omega (arith, y, w.0, w.1)

pub few_begun : (past : List Stretch) (w : EdgeWire) → IsBegunWith past w → w.begun < 2 ^ 63
few_begun past w b = let x = wave_count 0 past (omega arith) b.wave b.ends in omega (arith, x, b.count)

pub all_dropped : (P : Stretch → Type 0) (k : ℕ) (ss : List Stretch) → All P ss → All P (drop k ss)
all_dropped P zero ss h = h
all_dropped P (suc k) [] h = λ i d m. absurd (omega (arith, m))
all_dropped P (suc k) (s ∷ ss) h = all_dropped P k ss (λ j e n. h (suc j) e (omega (arith, n)))

-- ---- lines with the pulses that come

-- those that have begun of the coming, those that are left, and any later ones
same_pulses : (past coming later : List Stretch) (k : ℕ) → past ++ (coming ++ later) ≡ (past ++ take k coming) ++ (drop k coming ++ later)
same_pulses past coming later k =
    ap (λ (xs : List Stretch). past ++ (xs ++ later)) (sym (take-append-drop k coming))
    ∙ ap (λ (xs : List Stretch). past ++ xs) (append_assoc (take k coming) (drop k coming) later)
    ∙ sym (append_assoc past (take k coming) (drop k coming ++ later))

pub from_each : (past coming : List Stretch) (old w : EdgeWire) (k t u : ℕ) (P : (ℕ → Bool) → Type 0) → SameRound old w → All (λ p. t ≤ p.from) (drop k coming) → t ≤ u
    → EachLine w.seats.items w.begin (past ++ take k coming) t P → EachComing past coming old u P
from_each past coming old w k t u P r left l h later low wave late line =
    h (drop k coming ++ later) low (subst (λ (ps : List Stretch). IsWave ps) same wave) (both_late t (drop k coming) later left (later_sooner t u later l late))
    (subst (λ (ss : List Seat). IsRoundLine ss w.begin ((past ++ take k coming) ++ (drop k coming ++ later)) low) (sym r.seats)
    (subst (λ n. IsRoundLine old.seats.items n ((past ++ take k coming) ++ (drop k coming ++ later)) low) (sym r.begin)
    (subst (λ (ps : List Stretch). IsRoundLine old.seats.items old.begin ps low) same line)))
  where
    same : past ++ (coming ++ later) ≡ (past ++ take k coming) ++ (drop k coming ++ later)
    same = same_pulses past coming later k

far_start : (xs ys : List Stretch) → AreFarApart (xs ++ ys) → AreFarApart xs
far_start [] ys f = tt
far_start (x ∷ []) ys f = tt
far_start (x ∷ z ∷ xs) ys f = (f.0, far_start (z ∷ xs) ys f.1)

pub all_start : (P : Stretch → Type 0) (xs ys : List Stretch) → All P (xs ++ ys) → All P xs
all_start P [] ys h i d m = absurd (omega (arith, m))
all_start P (x ∷ xs) ys h zero d m = h 0 d (omega arith)
all_start P (x ∷ xs) ys h (suc i) d m = all_start P xs ys (λ j e n. h (suc j) e (omega (arith, n))) i d (omega (arith, m))

pub sparse_start : (xs ys : List Stretch) → AreSparse (xs ++ ys) → AreSparse xs
sparse_start xs ys s = record { few = omega (arith, s.few, length-append xs ys); narrow = all_start IsNarrow xs ys s.narrow; far = far_start xs ys s.far }

sparse_some : (past coming : List Stretch) (k : ℕ) → AreSparse (past ++ coming) → AreSparse (past ++ take k coming)
sparse_some past coming k s =
    sparse_start (past ++ take k coming) (drop k coming)
    (subst (λ (ps : List Stretch). AreSparse ps) (ap (λ (xs : List Stretch). past ++ xs) (sym (take-append-drop k coming)) ∙ sym (append_assoc past (take k coming) (drop k coming))) s)

-- ---- a search so far

pub record Goes (past coming : List Stretch) (old w : EdgeWire) : Type 0 where
  pub more : old.begun ≤ w.begun
  pub few : w.begun ≤ old.begun + length coming
  pub begun : IsBegunWith (past ++ take (w.begun - old.begun) coming) w
  pub left : All (λ p. w.time ≤ p.from) (drop (w.begun - old.begun) coming)
  pub later : old.time ≤ w.time
  pub round : SameRound old w
  pub low : is_low_in w ≡ is_low_in old
  pub near : AreSparse (past ++ coming) → old.time ≤ old.begin + 470000 → w.time ≤ old.begin + 470000
  pub calm : EachComing past coming old w.time (λ low. (u : ℕ) → old.time ≤ u → u < w.time → low u ≡ is_low_in old)

pub goes_first : (past coming : List Stretch) (old : EdgeWire) → IsBegunWith past old → Follow past coming old.time → Goes past coming old old
goes_first past coming old b f = record {
  more = omega arith;
  few = omega arith;
  begun = subst (λ n. IsBegunWith (past ++ take n coming) old) (sym none) (subst (λ (ps : List Stretch). IsBegunWith ps old) (sym (append-nil past)) b);
  left = subst (λ n. All (λ (p : Stretch). old.time ≤ p.from) (drop n coming)) (sym none) f.late;
  later = omega arith;
  round = record { seats = refl; begin = refl };
  low = refl;
  near = λ sparse l. l;
  calm = λ later low wave late line u x y. absurd (omega (arith, x, y));
}
  where
    none : old.begun - old.begun ≡ zero
    none = omega arith

-- the next of those that come begins no sooner
pub next_late : (past coming : List Stretch) (old w : EdgeWire) (next : Option Stretch) → next ≡ slice_get coming (w.begun - old.begun) → Goes past coming old w → IfSome next (λ p. w.time ≤ p.from)
next_late past coming old w None e g = tt
next_late past coming old w (Some p) e g =
    (subst (λ (ss : List Stretch). All (λ (x : Stretch). w.time ≤ x.from) ss) (drop_get coming (w.begun - old.begun) p (sym e)) g.left) 0 p (omega arith)

-- ---- a turn

-- it waits, takes the pull that begins, and hears a microsecond
pub record Turns (w : EdgeWire) (next : Option Stretch) (v x y : EdgeWire) (edge : Option Edge) : Type 0 where
  pub waits : v ≡ record w { time = v.time }
  pub goes : is_silent_in w ≡ false
  pub waits_later : w.time ≤ v.time
  pub waits_near : v.time ≤ w.time + first_slot
  pub waits_next : IfSome next (λ p. v.time ≤ p.from)
  pub waits_stands : (past : List Stretch) → IsBegunWith past w → IsBegunWith past v × EachOf past v (IsCalm w v.time)
  pub takes : Takes v next x
  pub hears : SameRound x y
  pub hears_begun : y.begun ≡ x.begun
  pub hears_time : y.time ≡ x.time + 1
  pub hears_low : is_low_in y ≡ pulls_in x
  pub hears_edge : EdgeBy (is_low_in x) (pulls_in x) x.time edge
  pub hears_stands : (past : List Stretch) → IsBegunWith past x → IsBegunWith past y × EachOf past y (λ low. low x.time ≡ pulls_in x)

last_more : (ps : List Stretch) (p : Stretch) → last_of (ps ++ p ∷ []) ≡ Some p
last_more [] p = refl
last_more (q ∷ []) p = refl
last_more (q ∷ r ∷ ps) p = last_more (r ∷ ps) p

all_more : (P : Stretch → Type 0) (ps : List Stretch) (p : Stretch) → All P ps → P p → All P (ps ++ p ∷ [])
all_more P [] p h g zero d m = g
all_more P [] p h g (suc i) d m = absurd (omega (arith, m))
all_more P (q ∷ ps) p h g zero d m = h 0 d (omega arith)
all_more P (q ∷ ps) p h g (suc i) d m = all_more P ps p (λ k e n. h (suc k) e (omega (arith, n))) g i d (omega (arith, m))

length_more : (ps : List Stretch) (p : Stretch) → length (ps ++ p ∷ []) ≡ length ps + 1
length_more [] p = refl
length_more (q ∷ ps) p = ap suc (length_more ps p) ∙ (let x : suc (length ps + 1) ≡ suc (length ps) + 1 = omega arith in x)

-- with the pull that begins now
pub took : (past : List Stretch) (v : EdgeWire) (p : Stretch) → IsBegunWith past v → IsWave (past ++ p ∷ []) → EndsInTime p → p.from ≡ v.time → IsBegunWith (past ++ p ∷ []) (record v { last = Some p; begun = v.begun + 1 })
took past v p b wave ends from = record {
  early = b.early;
  from = b.from;
  near = b.near;
  sent = b.sent;
  pulls = record {
    inside = all_more (λ q. v.begin ≤ q.from) past p b.pulls.inside (let f = b.from in omega (arith, f, from));
    begun = all_more (λ q. q.from ≤ v.time) past p b.pulls.begun (omega (arith, from));
    last_is = sym (last_more past p);
  };
  wave = wave;
  ends = all_more EndsInTime past p b.ends ends;
  count = ap (λ n. n + 1) b.count ∙ sym (length_more past p);
  kept = record { low = b.kept.low; near = b.kept.near; places = b.kept.places };
  fresh = λ e. (let f = b.fresh e in record { heard = f.heard; level = f.level; senders = f.senders; bits = f.bits; ended = f.ended; held = f.held; wave = f.wave; silent = f.silent });
  level = b.level;
  stands = λ after later low w late line.
      (let s = b.stands after (p ∷ later) low (subst (λ (ps : List Stretch). IsWave ps) (append_assoc past (p ∷ []) later) w) (front later late)
      (subst (λ (ps : List Stretch). IsRoundLine v.seats.items v.begin ps low) (append_assoc past (p ∷ []) later) line) in
      record { at = s.at; records = s.records });
}
  where
    front : (later : List Stretch) → All (λ (q : Stretch). v.time ≤ q.from) later → All (λ (q : Stretch). v.time ≤ q.from) (p ∷ later)
    front later h zero d m = omega (arith, from)
    front later h (suc k) d m = h k d (omega (arith, m))

-- the wire after the take, of the pulls that come
record Taken (past coming : List Stretch) (old w v x : EdgeWire) : Type 0 where
  pub more : old.begun ≤ x.begun
  pub few : x.begun ≤ old.begun + length coming
  pub begun : IsBegunWith (past ++ take (x.begun - old.begun) coming) x
  pub left : All (λ p. v.time + 1 ≤ p.from) (drop (x.begun - old.begun) coming)
  pub time : x.time ≡ v.time
  pub round : SameRound v x
  pub low : is_low_in x ≡ is_low_in v

pub wave_start : (from : ℕ) (xs ys : List Stretch) → IsWaveFrom from (xs ++ ys) → IsWaveFrom from xs
wave_start from [] ys w = tt
wave_start from (x ∷ xs) ys w = (w.0, w.1, wave_start (x.to + 1) xs ys w.2)

-- the first of those that are left
taken_one : (past coming : List Stretch) (old w v x : EdgeWire) (p : Stretch) → Follow past coming old.time → Goes past coming old w → w.begun ≡ v.begun → IsBegunWith (past ++ take (w.begun - old.begun) coming) v → slice_get coming (w.begun - old.begun) ≡ Some p
    → p.from ≡ v.time → x ≡ record v { last = Some p; begun = v.begun + 1 } → Taken past coming old w v x
taken_one past coming old w v x p f g count b e from is = subst (λ (z : EdgeWire). Taken past coming old w v z) (sym is) (record {
  more = omega (arith, g.more, count);
  few = omega (arith, within_get coming (w.begun - old.begun) p e, g.more, count);
  begun = subst (λ (ps : List Stretch). IsBegunWith ps (record v { last = Some p; begun = v.begun + 1 })) same
      (took (past ++ take (w.begun - old.begun) coming) v p b (wave_start 0 ((past ++ take (w.begun - old.begun) coming) ++ p ∷ []) (drop (suc (w.begun - old.begun)) coming) (subst (λ (ps : List Stretch). IsWave ps) whole f.wave)) ends from);
  left = subst (λ n. All (λ (q : Stretch). v.time + 1 ≤ q.from) (drop n coming)) next_count
      (late_past v.time r.0 (drop (w.begun - old.begun) coming) p (drop (suc (w.begun - old.begun)) coming) (drop_get coming (w.begun - old.begun) p e) r.1 (omega (arith, from)));
  time = refl;
  round = record { seats = refl; begin = refl };
  low = refl;
})
  where
    k : ℕ
    k = w.begun - old.begun

    next_count : suc (w.begun - old.begun) ≡ v.begun + 1 - old.begun
    next_count = let m = g.more in omega (arith, m, count)

    r : (n : ℕ) × IsWaveFrom n (drop (w.begun - old.begun) coming)
    r = wave_drop past coming (w.begun - old.begun) f.wave

    ends : EndsInTime p
    ends = (subst (λ (ss : List Stretch). All EndsInTime ss) (drop_get coming (w.begun - old.begun) p e) (all_dropped EndsInTime (w.begun - old.begun) coming f.ends)) 0 p (omega arith)

    same : (past ++ take (w.begun - old.begun) coming) ++ p ∷ [] ≡ past ++ take (v.begun + 1 - old.begun) coming
    same = append_assoc past (take (w.begun - old.begun) coming) (p ∷ []) ∙ ap (λ (ps : List Stretch). past ++ ps) (sym (take_more coming (w.begun - old.begun) p e)) ∙ ap (λ n. past ++ take n coming) next_count

    whole : past ++ coming ≡ ((past ++ take (w.begun - old.begun) coming) ++ p ∷ []) ++ drop (suc (w.begun - old.begun)) coming
    whole =
        ap (λ (xs : List Stretch). past ++ xs) (sym (take-append-drop (w.begun - old.begun) coming) ∙ ap (λ (xs : List Stretch). take (w.begun - old.begun) coming ++ xs) (drop_get coming (w.begun - old.begun) p e))
        ∙ sym (append_assoc past (take (w.begun - old.begun) coming) (p ∷ drop (suc (w.begun - old.begun)) coming))
        ∙ sym (append_assoc (past ++ take (w.begun - old.begun) coming) (p ∷ []) (drop (suc (w.begun - old.begun)) coming))

-- none begins now
left_so : (t from : ℕ) (ss : List Stretch) (next : Option Stretch) (k : ℕ) → next ≡ slice_get ss k → IsWaveFrom from (drop k ss) → IfSome next (λ p. t < p.from) → All (λ p. t + 1 ≤ p.from) (drop k ss)
left_so t from ss None k e w l = subst (λ (xs : List Stretch). All (λ (x : Stretch). t + 1 ≤ x.from) xs) (sym (drop_none ss k (sym e))) (λ i d m. absurd (omega (arith, m)))
left_so t from ss (Some p) k e w l = late_next (t + 1) from (drop k ss) p (drop (suc k) ss) (drop_get ss k p (sym e)) w (omega (arith, l))

taken_none : (past coming : List Stretch) (old w v x : EdgeWire) (next : Option Stretch) → Follow past coming old.time → Goes past coming old w → w.begun ≡ v.begun → IsBegunWith (past ++ take (w.begun - old.begun) coming) v → next ≡ slice_get coming (w.begun - old.begun)
    → IfSome next (λ p. v.time < p.from) → x ≡ v → Taken past coming old w v x
taken_none past coming old w v x next f g count b e l is = subst (λ (z : EdgeWire). Taken past coming old w v z) (sym is) (record {
  more = omega (arith, g.more, count);
  few = omega (arith, g.few, count);
  begun = subst (λ n. IsBegunWith (past ++ take (n - old.begun) coming) v) count b;
  left = subst (λ n. All (λ (p : Stretch). v.time + 1 ≤ p.from) (drop (n - old.begun) coming)) count
      (left_so v.time r.0 coming next (w.begun - old.begun) e r.1 l);
  time = refl;
  round = record { seats = refl; begin = refl };
  low = refl;
})
  where
    r : (n : ℕ) × IsWaveFrom n (drop (w.begun - old.begun) coming)
    r = wave_drop past coming (w.begun - old.begun) f.wave

taken : (past coming : List Stretch) (old w v x : EdgeWire) (next : Option Stretch) → Follow past coming old.time → Goes past coming old w → w.begun ≡ v.begun → IsBegunWith (past ++ take (w.begun - old.begun) coming) v → next ≡ slice_get coming (w.begun - old.begun)
    → Takes v next x → Taken past coming old w v x
taken past coming old w v x next f g count b e (inl t) = taken_one past coming old w v x t.0 f g count b (sym e ∙ t.1) t.2 t.3
taken past coming old w v x next f g count b e (inr t) = taken_none past coming old w v x next f g count b e t.1 t.0

-- of each line: no edge before the microsecond that was heard, and what the line did in it
pub record Turned (past coming : List Stretch) (old w v x y : EdgeWire) : Type 0 where
  pub more : old.begun ≤ y.begun
  pub few : y.begun ≤ old.begun + length coming
  pub begun : IsBegunWith (past ++ take (y.begun - old.begun) coming) y
  pub left : All (λ p. y.time ≤ p.from) (drop (y.begun - old.begun) coming)
  pub time : y.time ≡ v.time + 1
  pub at : x.time ≡ v.time
  pub round : SameRound old y
  pub was : is_low_in x ≡ is_low_in old
  pub near : AreSparse (past ++ coming) → y.time ≤ old.begin + 470000
  pub calm : EachComing past coming old y.time (λ low. (u : ℕ) → old.time ≤ u → u < v.time → low u ≡ is_low_in old)
  pub here : EachComing past coming old y.time (λ low. low v.time ≡ pulls_in x)

pub turned : (past coming : List Stretch) (old w v x y : EdgeWire) (next : Option Stretch) (edge : Option Edge) → Follow past coming old.time → Goes past coming old w → next ≡ slice_get coming (w.begun - old.begun) → Turns w next v x y edge
    → Turned past coming old w v x y
turned past coming old w v x y next edge f g e r = record {
  more = omega (arith, t.more, r.hears_begun);
  few = omega (arith, t.few, r.hears_begun);
  begun = subst (λ n. IsBegunWith (past ++ take (n - old.begun) coming) y) (sym r.hears_begun) heard.0;
  left = subst (λ n. All (λ (p : Stretch). y.time ≤ p.from) (drop (n - old.begun) coming)) (sym r.hears_begun) (subst (λ n. All (λ (p : Stretch). n ≤ p.from) (drop (x.begun - old.begun) coming)) (sym time) t.left);
  time = time;
  at = t.time;
  round = record { seats = r.hears.seats ∙ t.round.seats ∙ ap (λ (z : EdgeWire). z.seats.items) r.waits ∙ g.round.seats; begin = r.hears.begin ∙ t.round.begin ∙ ap (λ (z : EdgeWire). z.begin) r.waits ∙ g.round.begin };
  was = t.low ∙ ap (λ (z : EdgeWire). is_low_in z) r.waits ∙ g.low;
  near = λ sparse. (let x = goes_short (past ++ take (w.begun - old.begun) coming) w g.begun (sparse_some past coming (w.begun - old.begun) sparse) r.goes in omega (arith, x, time, r.waits_near, g.round.begin));
  calm = λ later low wave late line u a b. elim (cases_lt u w.time) [
    | inl lt ↦ g.calm later low wave (later_sooner w.time y.time later (let l = r.waits_later in omega (arith, time, l)) late) line u a lt
    | inr ge ↦ within later low wave late line u ge b ∙ g.low
  ];
  here = λ later low wave late line. ap low (sym t.time) ∙ from_each past coming old y (x.begun - old.begun) y.time y.time (λ low2. low2 x.time ≡ pulls_in x) round_y (subst (λ n. All (λ (p : Stretch). n ≤ p.from) (drop (x.begun - old.begun) coming)) (sym time) t.left)
      (omega arith) heard.1 later low wave late line;
}
  where
    waited : IsBegunWith (past ++ take (w.begun - old.begun) coming) v × EachOf (past ++ take (w.begun - old.begun) coming) v (IsCalm w v.time)
    waited = r.waits_stands (past ++ take (w.begun - old.begun) coming) g.begun

    count : w.begun ≡ v.begun
    count = sym (ap (λ (z : EdgeWire). z.begun) r.waits)

    t : Taken past coming old w v x
    t = taken past coming old w v x next f g count waited.0 e r.takes

    time : y.time ≡ v.time + 1
    time = r.hears_time ∙ ap (λ n. n + 1) t.time

    heard : IsBegunWith (past ++ take (x.begun - old.begun) coming) y × EachOf (past ++ take (x.begun - old.begun) coming) y (λ low. low x.time ≡ pulls_in x)
    heard = r.hears_stands (past ++ take (x.begun - old.begun) coming) t.begun

    round_v : SameRound old v
    round_v = record { seats = ap (λ (z : EdgeWire). z.seats.items) r.waits ∙ g.round.seats; begin = ap (λ (z : EdgeWire). z.begin) r.waits ∙ g.round.begin }

    round_y : SameRound old y
    round_y = record { seats = r.hears.seats ∙ t.round.seats ∙ round_v.seats; begin = r.hears.begin ∙ t.round.begin ∙ round_v.begin }

    d : (n : ℕ) × IsWaveFrom n (drop (w.begun - old.begun) coming)
    d = wave_drop past coming (w.begun - old.begun) f.wave

    left_v : (o : Option Stretch) → o ≡ slice_get coming (w.begun - old.begun) → IfSome o (λ p. v.time ≤ p.from) → All (λ (p : Stretch). v.time ≤ p.from) (drop (w.begun - old.begun) coming)
    left_v None h l = subst (λ (xs : List Stretch). All (λ (s : Stretch). v.time ≤ s.from) xs) (sym (drop_none coming (w.begun - old.begun) (sym h))) (λ i c m. absurd (omega (arith, m)))
    left_v (Some p) h l = late_next v.time d.0 (drop (w.begun - old.begun) coming) p (drop (suc (w.begun - old.begun)) coming) (drop_get coming (w.begun - old.begun) p (sym h)) d.1 l

    within : EachComing past coming old y.time (IsCalm w v.time)
    within = from_each past coming old v (w.begun - old.begun) v.time y.time (IsCalm w v.time) round_v (left_v next e r.waits_next) (omega (arith, time)) waited.1

-- ---- what it finds

-- whether the line was low before the search
was_before : (past coming : List Stretch) (old : EdgeWire) (t : ℕ) → IsBegunWith past old → Follow past coming old.time → old.time ≤ t → EachComing past coming old t (λ low. was_low low old.time ≡ is_low_in old)
was_before past coming old t b f l later low wave late line = (records_now past old b (coming ++ later) low wave (both_late old.time coming later f.late (later_sooner old.time t later l late)) line).was

pub goes_next : (past coming : List Stretch) (old w v x y : EdgeWire) (next : Option Stretch) → Follow past coming old.time → Goes past coming old w → next ≡ slice_get coming (w.begun - old.begun) → Turns w next v x y None → Goes past coming old y
goes_next past coming old w v x y next f g e r = record {
  more = t.more;
  few = t.few;
  begun = t.begun;
  left = t.left;
  later = omega (arith, g.later, r.waits_later, t.time);
  round = t.round;
  low = r.hears_low ∙ r.hears_edge ∙ t.was;
  near = λ sparse l. t.near sparse;
  calm = λ later low wave late line u a b. elim (cases_lt u v.time) [
    | inl lt ↦ t.calm later low wave late line u a lt
    | inr ge ↦ (let z : u ≡ v.time = (let q = t.time in omega (arith, ge, b, q)) in ap low z ∙ t.here later low wave late line ∙ r.hears_edge ∙ t.was)
  ];
}
  where
    t : Turned past coming old w v x y
    t = turned past coming old w v x y next None f g e r

pub found_edge : (past coming : List Stretch) (old w v x y : EdgeWire) (next : Option Stretch) (edge : Edge) → IsBegunWith past old → Follow past coming old.time → Goes past coming old w → next ≡ slice_get coming (w.begun - old.begun) → Turns w next v x y (Some edge)
    → Found past coming old y (Some edge)
found_edge past coming old w v x y next edge b f g e r = record {
  more = t.more;
  few = t.few;
  begun = t.begun;
  left = t.left;
  edge_is = λ later low wave late line.
      (let was = was_before past coming old y.time b f (let l = g.later in let m = r.waits_later in let n = t.time in omega (arith, l, m, n)) later low wave late line in
      let at : edge.at ≡ v.time = r.hears_edge.0 ∙ t.at in (
        (let l = g.later in let m = r.waits_later in omega (arith, l, m, at)),
        ap low at ∙ t.here later low wave late line ∙ sym r.hears_edge.1,
        was ∙ sym t.was ∙ r.hears_edge.2,
        λ u a c. t.calm later low wave late line u a (omega (arith, c, at)) ∙ sym was,
      ));
}
  where
    t : Turned past coming old w v x y
    t = turned past coming old w v x y next (Some edge) f g e r

-- ---- where no edge comes any more

falls_no_more : (low : Line) (t : ℕ) → was_low low t ≡ false → ((u : ℕ) → t ≤ u → is_fall low u ≡ false) → (n : ℕ) → low (t + n) ≡ false
falls_no_more low t was quiet zero = ap low (let x : t + zero ≡ t = omega arith in x) ∙ not_fall (low t) (was_low low t) (quiet t (omega arith)) was
  where
    not_fall : (a b : Bool) → (a && not b) ≡ false → b ≡ false → a ≡ false
    not_fall true false e h = cc
    not_fall true true e h = cc
    not_fall false b e h = refl
falls_no_more low t was quiet (suc n) =
    not_fall (low (t + suc n)) (was_low low (t + suc n)) (quiet (t + suc n) (omega arith))
    (was_is low (t + suc n) (omega arith) ∙ ap low (let x : t + suc n - 1 ≡ t + n = omega arith in x) ∙ falls_no_more low t was quiet n)
  where
    not_fall : (a b : Bool) → (a && not b) ≡ false → b ≡ false → a ≡ false
    not_fall true false e h = cc
    not_fall true true e h = cc
    not_fall false b e h = refl

-- the parts of a silence
pub record IsSilent (w : EdgeWire) : Type 0 where
  pub ended : Ending_kept
  pub kept : w.ended ≡ Some ended
  pub high : is_low_in w ≡ false

pub silent_so : (w : EdgeWire) → is_silent_in w ≡ true → IsSilent w
silent_so w q = by_kept (kept_end w.ended)
  where
    high : (a b c : Bool) → (a && (not b && not c)) ≡ true → b ≡ false
    high true true c e = cc
    high true false c e = refl
    high false b c e = cc

    some : (a b : Bool) → (a && b) ≡ true → a ≡ true
    some true b e = refl
    some false b e = cc

    by_kept : (w.ended ≡ None) ⊎ ((e : Ending_kept) × (w.ended ≡ Some e)) → IsSilent w
    by_kept (inl h) = let x : is_some w.ended ≡ true = some (is_some w.ended) _ q in let y : is_some w.ended ≡ false = ap (λ (o : Option Ending_kept). is_some o) h in cc
    by_kept (inr h) = record { ended = h.0; kept = h.1; high = high (is_some w.ended) (is_low_in w) (pulls_in w) q }

pub silent_after : (past : List Stretch) (w : EdgeWire) → IsBegunWith past w → IsSilent w → w.begin < w.time
silent_after past w b q = elim (cases_lt w.begin w.time) [
  | inl lt ↦ lt
  | inr ge ↦ (let f = b.from in let x : None ≡ Some q.ended = sym (b.fresh (omega (arith, f, ge))).ended ∙ q.kept in cc)
]

-- it stays high
pub silent_high : (past : List Stretch) (w : EdgeWire) → IsBegunWith past w → IsSilent w → EachOf past w (λ low. (u : ℕ) → w.time ≤ u → low u ≡ false)
silent_high past w b q later low wave late line u l =
    ap low (let x : u ≡ w.time + (u - w.time) = omega (arith, l) in x)
    ∙ falls_no_more low w.time (s.records.was ∙ q.high) (λ v m. (round_is_lone w.seats.items w.begin (past ++ later) low line).quiet v (let x = until_at low w.begin in omega (arith, m, over, x))) (u - w.time)
  where
    s : StandsOnLine w low
    s = b.stands (silent_after past w b q) later low wave late line

    over : (reading_of low w.begin).at < w.time
    over = subst (λ (r : Read). r.at < w.time) (told_is_read low w.begin)
        (subst (λ (x : Option Ending_kept). IsRead w.seats.items w.begin w.receiver w.bits.items (end_in x) w.held (told_of low w.begin) w.time) q.kept s.at.read).0

pub found_none : (past coming : List Stretch) (old w : EdgeWire) → IsBegunWith past old → Follow past coming old.time → Goes past coming old w → is_silent_in w ≡ true → Found past coming old w None
found_none past coming old w b f g quiet = record {
  more = g.more;
  few = g.few;
  begun = g.begun;
  left = g.left;
  edge_is = λ later low wave late line u a. elim (cases_lt u w.time) [
    | inl lt ↦ g.calm later low wave late line u a lt ∙ sym (was_before past coming old w.time b f g.later later low wave late line)
    | inr ge ↦ high later low wave late line u ge ∙ sym (was_before past coming old w.time b f g.later later low wave late line ∙ sym g.low ∙ (silent_so w quiet).high)
  ];
}
  where
    high : EachComing past coming old w.time (λ low. (u : ℕ) → w.time ≤ u → low u ≡ false)
    high = from_each past coming old w (w.begun - old.begun) w.time w.time (λ low. (u : ℕ) → w.time ≤ u → low u ≡ false) g.round g.left (omega arith) (silent_high (past ++ take (w.begun - old.begun) coming) w g.begun (silent_so w quiet))

-- ---- in the middle of a turn

takes_time : (v x : EdgeWire) (next : Option Stretch) → Takes v next x → x.time ≡ v.time
takes_time v x next (inl t) = ap (λ (z : EdgeWire). z.time) t.3
takes_time v x next (inr t) = ap (λ (z : EdgeWire). z.time) t.0

pub takes_early : (v x : EdgeWire) (next : Option Stretch) → Takes v next x → v.time < latest_heard → x.time < latest_heard
takes_early v x next t l = let e = takes_time v x next t in omega (arith, e, l)

-- some pulls have begun, with that which was taken
pub takes_begun : (past coming : List Stretch) (old w v x : EdgeWire) (next : Option Stretch) → Follow past coming old.time → Goes past coming old w → next ≡ slice_get coming (w.begun - old.begun) → v ≡ record w { time = v.time }
    → IsBegunWith (past ++ take (w.begun - old.begun) coming) v → Takes v next x → (ps : List Stretch) × IsBegunWith ps x
takes_begun past coming old w v x next f g e waits b t =
    (past ++ take (x.begun - old.begun) coming, (taken past coming old w v x next f g (sym (ap (λ (z : EdgeWire). z.begun) waits)) b e t).begun)

pub turns_time : (past coming : List Stretch) (old w v x y : EdgeWire) (next : Option Stretch) (edge : Option Edge) → Follow past coming old.time → Goes past coming old w → next ≡ slice_get coming (w.begun - old.begun) → Turns w next v x y edge
    → (old.time < y.time) × (w.time < y.time)
turns_time past coming old w v x y next edge f g e r =
    let t = (turned past coming old w v x y next edge f g e r).time in
    (omega (arith, t, r.waits_later, g.later), omega (arith, t, r.waits_later))

-- ---- of all pulls of a round

take_none : (k : ℕ) (ss : List Stretch) → ss ≡ [] → take k ss ≡ []
take_none zero ss e = refl
take_none (suc k) [] e = refl
take_none (suc k) (s ∷ ss) e = cc

drop_empty : (k : ℕ) (ss : List Stretch) → ss ≡ [] → drop k ss ≡ []
drop_empty zero ss e = e
drop_empty (suc k) [] e = refl
drop_empty (suc k) (s ∷ ss) e = cc

take_both : (n m : ℕ) (ss : List Stretch) → take n ss ++ take m (drop n ss) ≡ take (n + m) ss
take_both zero m ss = ap (λ k. take k ss) (let x : m ≡ zero + m = omega arith in x)
take_both (suc n) m [] = take_none m [] refl ∙ sym (take_none (suc n + m) [] refl)
take_both (suc n) m (s ∷ ss) = ap (λ (xs : List Stretch). s ∷ xs) (take_both n m ss) ∙ ap (λ k. take k (s ∷ ss)) (let x : suc (n + m) ≡ suc n + m = omega arith in x)

drop_both : (n m : ℕ) (ss : List Stretch) → drop m (drop n ss) ≡ drop (n + m) ss
drop_both zero m ss = ap (λ k. drop k ss) (let x : m ≡ zero + m = omega arith in x)
drop_both (suc n) m [] = drop_empty m [] refl ∙ sym (drop_empty (suc n + m) [] refl)
drop_both (suc n) m (s ∷ ss) = drop_both n m ss ∙ ap (λ k. drop k (s ∷ ss)) (let x : suc (n + m) ≡ suc n + m = omega arith in x)

took_few : (n : ℕ) (ss : List Stretch) → length (take n ss) ≤ length ss
took_few zero ss = omega arith
took_few (suc n) [] = omega arith
took_few (suc n) (s ∷ ss) = let x = took_few n ss in omega (arith, x)

pub begun_few : (pulls : List Stretch) (w : EdgeWire) → IsBegunWith (take w.begun pulls) w → w.begun ≤ length pulls
begun_few pulls w b = let x = took_few w.begun pulls in omega (arith, x, b.count)

pub pulls_follow : (pulls coming : List Stretch) (w : EdgeWire) → IsBegunWith (take w.begun pulls) w → ArePulls (take w.begun pulls) pulls w → coming ≡ drop w.begun pulls → Follow (take w.begun pulls) coming w.time
pulls_follow pulls coming w b a e = subst (λ (ss : List Stretch). Follow (take w.begun pulls) ss w.time) (sym e) (record {
  wave = subst (λ (ss : List Stretch). IsWave ss) (sym (take-append-drop w.begun pulls)) a.wave;
  ends = all_dropped EndsInTime w.begun pulls a.ends;
  late = subst (λ n. All (λ (p : Stretch). w.time ≤ p.from) (drop n pulls)) (sym b.count) a.later;
})

count_of : (pulls coming : List Stretch) (old new : EdgeWire) (edge : Option Edge) → coming ≡ drop old.begun pulls → Found (take old.begun pulls) coming old new edge → old.begun + (new.begun - old.begun) ≡ new.begun
count_of pulls coming old new edge e f = let m = f.more in omega (arith, m)

pub among_begun : (pulls coming : List Stretch) (old new : EdgeWire) (edge : Option Edge) → coming ≡ drop old.begun pulls → Found (take old.begun pulls) coming old new edge → IsBegunWith (take new.begun pulls) new
among_begun pulls coming old new edge e f =
    subst (λ (ps : List Stretch). IsBegunWith ps new) (ap (λ (ss : List Stretch). take old.begun pulls ++ take (new.begun - old.begun) ss) e ∙ take_both old.begun (new.begun - old.begun) pulls ∙ ap (λ n. take n pulls) (count_of pulls coming old new edge e f)) f.begun

pub among_pulls : (pulls coming : List Stretch) (old new : EdgeWire) (edge : Option Edge) → IsWave pulls → All EndsInTime pulls → coming ≡ drop old.begun pulls → Found (take old.begun pulls) coming old new edge → ArePulls (take new.begun pulls) pulls new
among_pulls pulls coming old new edge wave ends e f = record {
  wave = wave;
  ends = ends;
  begun = ap (λ n. take n pulls) b.count;
  later = subst (λ n. All (λ (p : Stretch). new.time ≤ p.from) (drop n pulls)) b.count
      (subst (λ (ss : List Stretch). All (λ (p : Stretch). new.time ≤ p.from) ss) (ap (λ (ss : List Stretch). drop (new.begun - old.begun) ss) e ∙ drop_both old.begun (new.begun - old.begun) pulls ∙ ap (λ n. drop n pulls) (count_of pulls coming old new edge e f)) f.left);
}
  where
    b : IsBegunWith (take new.begun pulls) new
    b = among_begun pulls coming old new edge e f

pub among_edges : (pulls coming : List Stretch) (old new : EdgeWire) (edge : Option Edge) → IsWave pulls → coming ≡ drop old.begun pulls → Found (take old.begun pulls) coming old new edge → NextEdges pulls old edge
among_edges pulls coming old new edge wave e f low line =
    f.edge_is [] low (subst (λ (ps : List Stretch). IsWave ps) same wave) (λ i d m. absurd (omega (arith, m))) (subst (λ (ps : List Stretch). IsRoundLine old.seats.items old.begin ps low) same line)
  where
    same : pulls ≡ take old.begun pulls ++ (coming ++ [])
    same = sym (take-append-drop old.begun pulls) ∙ ap (λ (ss : List Stretch). take old.begun pulls ++ ss) (sym e ∙ sym (append-nil coming))

pub among_sparse : (pulls coming : List Stretch) (n : ℕ) → coming ≡ drop n pulls → AreSparse pulls → AreSparse (take n pulls ++ coming)
among_sparse pulls coming n e s = subst (λ (ps : List Stretch). AreSparse ps) (sym (take-append-drop n pulls) ∙ ap (λ (ss : List Stretch). take n pulls ++ ss) (sym e)) s
