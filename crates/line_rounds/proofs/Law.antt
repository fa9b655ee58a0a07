-- The laws: a winner's slots are read in time, and losers pull inside winners.
use Rattle.std.proofs.Common.{◌≡◌, ℕ, zero, suc, ◌+◌, ◌-◌, ◌*◌, ◌%◌, ◌==◌, ◌<◌, ◌≤◌, Bool, true, false, not, ◌&&◌, ◌||◌, nat_lt, if◌then◌else◌, List, [], ◌∷◌, length, length-append, slice_index_or, ◌⊎◌, inl, inr, Option, Some, None, is_none, Result, Ok, Err, min, refl, arith, ap, ◌∙◌, sym, subst}
use Rattle.std.specs.List.{list_any, filter, All}
use mathlib.Core.Bool.{beq}
use Rattle.std.proofs.Math.ListN.{get_or-append}
use Rattle.std.proofs.lemmas.Bool.{cases_lt}
use Rattle.std.proofs.lemmas.Bool.Decides.{nat_tests}
use Rattle.line_wave.specs.declared.Stretch.{Stretch}
use Rattle.line_wave.specs.Line.{Line, line_of, covers, is_fall, is_rise}
use Rattle.line_wave.specs.Sender.{sender_stretches, slot_stretches}
use Rattle.line_frames.specs.Bits.{frame_bits, least_among, comes_before}
use Rattle.line_frames.specs.declared.Ending.TheVariants.{BadStart}
use Rattle.line_reading.specs.Windows.{standard}
use Rattle.line_reading.specs.Reading.{next_fall, next_rise, Known, known_at, reading_of, read_start, start_of, start_rise, start_fall}
use Rattle.line_reading.proofs.Search.{found_first}
use Rattle.line_reading.proofs.Causes.{late_read}
use Rattle.line_rounds.specs.declared.Seat.{Seat}
use Rattle.line_reading.specs.Sending.{bit_read, destination, known_bits, is_whole, is_out_by, out_slot, goes_on, sender_pulls}
use Rattle.line_rounds.specs.Round.{frames_of, winning_frames, is_within, pulse_pulls, is_acknowledged, is_broken, pulled_by}
use Rattle.line_rounds.specs.Contend.{WinnersLast, LosersInside, Stays, pulled_through}
use Rattle.line_rounds.specs.Least.{LeastOf, Least}
use Rattle.line_rounds.specs.Elements.{In}
use Rattle.line_rounds.specs.Begins.{Reports}
use Rattle.line_rounds.specs.Reached.{ReachedStart}
use Rattle.line_rounds.proofs.Differ.{some_least, is_least, Splits, compare_frames, split_before, any_in, in_any, any_filter}
use Rattle.line_rounds.proofs.Lows.{holds_other}
use Rattle.line_rounds.proofs.Early.{OnTime, BeginsAt, falls_so, and_left, and_right, find_none, none_found}
use Rattle.line_rounds.proofs.Walk.{Scene}
use Rattle.line_rounds.proofs.Inside.{not_whole, heard_start, stays_by}
use Rattle.line_rounds.proofs.Losers.{Before, few_by, goes_by, goes_to, inside_walk}
use Rattle.line_reading.specs.Searches.{Found}
use Rattle.line_reading.specs.Known.{nothing}

-- ---- elements

pub in_at : {X : Type 0} (xs : List X) (k : ℕ) (d : X) → k < length xs → In (slice_index_or xs k d) xs
in_at [] k d h = absurd (omega (arith, h))
in_at (x ∷ xs) zero d h = inl refl
in_at (x ∷ xs) (suc k) d h = inr (in_at xs k d (omega (arith, h)))

pub in_filter : {X : Type 0} (test : X → Bool) (xs : List X) (x : X) → In x (filter test xs) → In x xs × (test x ≡ true)
in_filter test [] x h = absurd h
in_filter {X} test (y ∷ ys) x h = step (test y) refl h (λ g. in_filter test ys x g)
  where
    step : (b : Bool) → test y ≡ b → In x (if b then y ∷ filter test ys else filter test ys) → (In x (filter test ys) → In x ys × (test x ≡ true)) → In x (y ∷ ys) × (test x ≡ true)
    step true e (inl s) r = (inl s, ap test s ∙ e)
    step true e (inr g) r = let q = r g in (inr q.0, q.1)
    step false e g r = let q = r g in (inr q.0, q.1)

pub all_in : {X : Type 0} (P : X → Type 0) (xs : List X) → All P xs → (x : X) → In x xs → P x
all_in P [] h x i = absurd i
all_in P (y ∷ ys) h x (inl e) = subst P (sym e) (h 0 x (omega arith))
all_in P (y ∷ ys) h x (inr i) = all_in P ys (λ k d l. h (suc k) d (omega arith)) x i

pub least_of : LeastOf
least_of [] c h = absurd h
least_of (f ∷ fs) c h = some_least f fs

-- ---- the start bit

pub record StartFall (low : Line) (begin f : ℕ) : Type 0 where
  pub fall : is_fall low f ≡ true
  pub near : f ≤ begin + standard.start_total.most
  pub far : begin + standard.start_total.least ≤ f

pub start_falls : (low : Line) (begin f : ℕ) → start_of low begin ≡ Ok f → StartFall low begin f
start_falls low begin f h = by_rise (next_rise low begin standard.start_low.most) refl h
  where
    by_time : (r g : ℕ) (b : Bool) → Found (is_rise low) (begin + 1) standard.start_low.most r → next_fall low r (begin + standard.start_total.most - r) ≡ Some g → nat_lt g (begin + standard.start_total.least) ≡ b
        → (if b then Err g else Ok g) ≡ Ok f → StartFall low begin f
    by_time r g true d s t k = cc
    by_time r g false d s t k =
        let same : g ≡ f = cc in
        let q = found_first (is_fall low) (r + 1) (begin + standard.start_total.most - r) g s in
        record { fall = rw (sym same) q.passes; near = omega (arith, q.within, d.within, same); far = grind (arith, nat_tests) }

    by_fall : (r : ℕ) (o : Option ℕ) → Found (is_rise low) (begin + 1) standard.start_low.most r → next_fall low r (begin + standard.start_total.most - r) ≡ o → start_fall begin o ≡ Ok f → StartFall low begin f
    by_fall r None d s k = cc
    by_fall r (Some g) d s k = by_time r g (nat_lt g (begin + standard.start_total.least)) d s refl k

    by_low : (r : ℕ) (b : Bool) → Found (is_rise low) (begin + 1) standard.start_low.most r → (if b then Err r else start_fall begin (next_fall low r (begin + standard.start_total.most - r))) ≡ Ok f → StartFall low begin f
    by_low r true d k = cc
    by_low r false d k = by_fall r (next_fall low r (begin + standard.start_total.most - r)) d refl k

    by_rise : (o : Option ℕ) → next_rise low begin standard.start_low.most ≡ o → start_rise low begin o ≡ Ok f → StartFall low begin f
    by_rise None s k = cc
    by_rise (Some r) s k = by_low r (nat_lt r (begin + standard.start_low.least)) (found_first (is_rise low) (begin + 1) standard.start_low.most r s) k

pub start_fails : (low : Line) (begin at : ℕ) → start_of low begin ≡ Err at → at ≤ begin + (standard.start_total.most + 1)
start_fails low begin at h = by_rise (next_rise low begin standard.start_low.most) refl h
  where
    by_time : (g : ℕ) (b : Bool) → nat_lt g (begin + standard.start_total.least) ≡ b → (if b then Err g else Ok g) ≡ Err at → at ≤ begin + (standard.start_total.most + 1)
    by_time g true t k = let same : g ≡ at = cc in let l : g < begin + standard.start_total.least = grind (arith, nat_tests) in omega arith
    by_time g false t k = cc

    by_fall : (o : Option ℕ) → start_fall begin o ≡ Err at → at ≤ begin + (standard.start_total.most + 1)
    by_fall None k = let same : begin + (standard.start_total.most + 1) ≡ at = cc in omega arith
    by_fall (Some g) k = by_time g (nat_lt g (begin + standard.start_total.least)) refl k

    by_low : (r : ℕ) (b : Bool) → nat_lt r (begin + standard.start_low.least) ≡ b → (if b then Err r else start_fall begin (next_fall low r (begin + standard.start_total.most - r))) ≡ Err at → at ≤ begin + (standard.start_total.most + 1)
    by_low r true t k = let same : r ≡ at = cc in let l : r < begin + standard.start_low.least = grind (arith, nat_tests) in omega arith
    by_low r false t k = by_fall (next_fall low r (begin + standard.start_total.most - r)) k

    by_rise : (o : Option ℕ) → next_rise low begin standard.start_low.most ≡ o → start_rise low begin o ≡ Err at → at ≤ begin + (standard.start_total.most + 1)
    by_rise None s k = let same : begin + (standard.start_low.most + 1) ≡ at = cc in omega arith
    by_rise (Some r) s k = by_low r (nat_lt r (begin + standard.start_low.least)) refl k

-- before slot 1's fall nothing is known
pub known_start : (low : Line) (begin f t : ℕ) → start_of low begin ≡ Ok f → t ≤ f → Reports low begin t []
unfolding nothing
known_start low begin f t h l = ap (λ s. known_at t (read_start low begin s)) h ∙ late_read t low 160 [] f l

pub reached_start : ReachedStart
reached_start low begin f h = record { goes = ap (λ s. read_start low begin s) (sym h); reported = refl; over = tt }

pub on_time_start : (seats : List Seat) (begin : ℕ) (pulses : List Stretch) (low : Line) (w : List ℕ) → Scene seats begin pulses low w
    → (f : ℕ) → start_of low begin ≡ Ok f → 0 < length (frame_bits w) → OnTime pulses f (begin + 4500)
on_time_start seats begin pulses low w z f h room =
    let d = start_falls low begin f h in
    on (falls_so seats begin pulses low w (begin + 4500) 0 f [] z.line z.sends z.least (λ n l m. absurd (omega arith)) (omega arith) room d.fall
    (known_start low begin f f h (omega arith)) (known_start low begin f (f - 1) h (omega arith)) tt (omega (arith, d.far)) (omega (arith, d.near)))
  where
    on : (f ≡ begin + 4500) ⊎ ((f < begin + 4500) × BeginsAt pulses f) → OnTime pulses f (begin + 4500)
    on (inl e) = inl e
    on (inr b) = let d = start_falls low begin f h in inr (b.0, omega (arith, d.far), b.1)

-- ---- losers inside winners

before_split : (seats : List Seat) (begin : ℕ) (pulses : List Stretch) (low : Line) (w : List ℕ) → Scene seats begin pulses low w
    → (cs : List Bool) (p : Splits 0 cs (frame_bits w)) (t : ℕ) → Stays (known_bits (known_at t (reading_of low begin))) cs
    → (s : Result ℕ ℕ) → start_of low begin ≡ s → Before (length p.front) begin t (known_at t (reading_of low begin))
before_split seats begin pulses low w z cs p t st (Err at) h = (
  few_by (length p.front) (known_bits (known_at t (reading_of low begin))) [] (ap known_bits here) (omega arith),
  goes_by t (begin + 4500 + 2400 * length p.front + 2400) (known_at t (reading_of low begin)) _ here
      (λ g. omega (arith, goes_to t at (min at (begin + standard.start_total.most)) BadStart (omega arith) (nat_lt (min at (begin + standard.start_total.most)) t) refl g, start_fails low begin at h)),
)
  where
    here : known_at t (reading_of low begin) ≡ record { slots = []; ended = if nat_lt (min at (begin + standard.start_total.most)) t then Some (record { ending = BadStart; at = at; until = min at (begin + standard.start_total.most) }) else None }
    here = ap (λ s. known_at t (read_start low begin s)) h
before_split seats begin pulses low w z cs p t st (Ok f) h =
    elim (cases_lt f t) [
      | inl past ↦ inside_walk seats begin pulses low w z cs p t st 160 [] [] f (begin + 4500) (reached_start low begin f h) (omega arith) (omega arith)
          (on_time_start seats begin pulses low w z f h longer) past
      | inr ge ↦ (
        few_by (length p.front) (known_bits (known_at t (reading_of low begin))) [] (ap known_bits (known_start low begin f t h ge)) (omega arith),
        λ g. omega (arith, ge, (start_falls low begin f h).near),
      )
    ]
  where
    longer : 0 < length (frame_bits w)
    longer = rw p.second (omega (arith, length-append p.front (false ∷ p.less)))

none_is : {X : Type 0} (o : Option X) → is_none o ≡ true → o ≡ None
none_is None h = refl
none_is (Some x) h = cc

other_pulls : (seats : List Seat) (begin : ℕ) (pulses : List Stretch) (low : Line) (w c : List ℕ) (t : ℕ) → Scene seats begin pulses low w
    → Splits 0 (frame_bits c) (frame_bits w) → sender_pulls begin (known_at t (reading_of low begin)) t c ≡ true → sender_pulls begin (known_at t (reading_of low begin)) t w ≡ true
other_pulls seats begin pulses low w c t z p h = rw (lows, out_w, go) refl
  where
    k : Known
    k = known_at t (reading_of low begin)

    low_c : line_of (sender_stretches begin (frame_bits c)) t ≡ true
    low_c = and_left (line_of (sender_stretches begin (frame_bits c)) t) _ h

    more : (is_none (out_slot k (frame_bits c)) && goes_on k.ended t) ≡ true
    more = and_right (line_of (sender_stretches begin (frame_bits c)) t) _ h

    out_c : out_slot k (frame_bits c) ≡ None
    out_c = none_is (out_slot k (frame_bits c)) (and_left (is_none (out_slot k (frame_bits c))) _ more)

    go : goes_on k.ended t ≡ true
    go = and_right (is_none (out_slot k (frame_bits c))) _ more

    stays : Stays (known_bits k) (frame_bits c)
    stays = stays_by k (frame_bits c) (not_whole t (reading_of low begin) (heard_start low begin (start_of low begin)) go) out_c

    before : Before (length p.front) begin t k
    before = before_split seats begin pulses low w z (frame_bits c) p t stays (start_of low begin) refl

    same_out : (n : ℕ) → 1 ≤ n → n < 1 + length (known_bits k) → is_out_by (known_bits k) (is_whole k.ended) (frame_bits c) n ≡ is_out_by (known_bits k) (is_whole k.ended) (frame_bits w) n
    same_out n l m =
        ap (λ b. if n % 10 == 0 then not (is_whole k.ended && (n == length (known_bits k))) && not (beq (bit_read (known_bits k) n) (destination (known_bits k) == 15)) else not (beq (bit_read (known_bits k) n) b))
        (ap (λ (xs : List Bool). slice_index_or xs (n - 1) false) p.first ∙ get_or-append p.front (true ∷ p.more) false (n - 1) (omega (arith, before.0))
        ∙ sym (ap (λ (xs : List Bool). slice_index_or xs (n - 1) false) p.second ∙ get_or-append p.front (false ∷ p.less) false (n - 1) (omega (arith, before.0))))

    out_w : out_slot k (frame_bits w) ≡ None
    out_w = find_none (is_out_by (known_bits k) (is_whole k.ended) (frame_bits w)) 1 (length (known_bits k))
        (λ n l m. sym (same_out n l m) ∙ none_found (is_out_by (known_bits k) (is_whole k.ended) (frame_bits c)) 1 (length (known_bits k)) out_c n l m)

    slots_low : line_of (slot_stretches (begin + 4500) (frame_bits c)) t ≡ true → line_of (slot_stretches (begin + 4500) (frame_bits w)) t ≡ true
    slots_low g = subst (λ (xs : List Bool). line_of (slot_stretches (begin + 4500) xs) t ≡ true) (sym p.second)
        (holds_other p.front p.more p.less (begin + 4500) t (before.1 go) (subst (λ (xs : List Bool). line_of (slot_stretches (begin + 4500) xs) t ≡ true) p.first g))

    by_start : (b : Bool) → (b || line_of (slot_stretches (begin + 4500) (frame_bits c)) t) ≡ true → (b || line_of (slot_stretches (begin + 4500) (frame_bits w)) t) ≡ true
    by_start true g = refl
    by_start false g = slots_low g

    lows : line_of (sender_stretches begin (frame_bits w)) t ≡ true
    lows = by_start (covers (record { from = begin; to = begin + 3700 }) t) low_c

pub losers_inside : LosersInside
losers_inside seats begin pulses low frames sparse line t h =
    any_filter (sender_pulls begin k t) (least_among (frames_of seats)) (frames_of seats) l.frame l.one (is_least (frames_of seats) l)
    (by_order (compare_frames r.0 l.frame (all_in (λ f. 0 < length f) (frames_of seats) frames r.0 r.1) (all_in (λ f. 0 < length f) (frames_of seats) frames l.frame l.one)))
  where
    k : Known
    k = known_at t (reading_of low begin)

    r : (c : List ℕ) × In c (frames_of seats) × (sender_pulls begin k t c ≡ true)
    r = in_any (sender_pulls begin k t) (frames_of seats) h

    l : Least (frames_of seats)
    l = least_of (frames_of seats) r.0 r.1

    by_order : (frame_bits r.0 ≡ frame_bits l.frame) ⊎ (Splits 0 (frame_bits r.0) (frame_bits l.frame) ⊎ Splits 0 (frame_bits l.frame) (frame_bits r.0)) → sender_pulls begin k t l.frame ≡ true
    by_order (inl same) =
        ap (λ (xs : List Bool). line_of (sender_stretches begin xs) t && (is_none (out_slot k xs) && goes_on k.ended t)) (sym same) ∙ r.2
    by_order (inr (inl p)) = other_pulls seats begin pulses low l.frame r.0 t (record { line = line; sparse = sparse; sends = l.one; least = is_least (frames_of seats) l }) p r.2
    by_order (inr (inr p)) = let x : true ≡ false = sym (split_before 0 (frame_bits l.frame) (frame_bits r.0) p) ∙ l.least r.0 r.1 in cc

-- ---- a winner is out last

stays_last : (seats : List Seat) (begin : ℕ) (pulses : List Stretch) (low : Line) (w c : List ℕ) (t : ℕ) → Scene seats begin pulses low w
    → Splits 0 (frame_bits c) (frame_bits w) → goes_on (known_at t (reading_of low begin)).ended t ≡ true → out_slot (known_at t (reading_of low begin)) (frame_bits c) ≡ None
    → out_slot (known_at t (reading_of low begin)) (frame_bits w) ≡ None
stays_last seats begin pulses low w c t z p go out_c =
    find_none (is_out_by (known_bits k) (is_whole k.ended) (frame_bits w)) 1 (length (known_bits k))
    (λ n l m. sym (same_out n l m) ∙ none_found (is_out_by (known_bits k) (is_whole k.ended) (frame_bits c)) 1 (length (known_bits k)) out_c n l m)
  where
    k : Known
    k = known_at t (reading_of low begin)

    before : Before (length p.front) begin t k
    before = before_split seats begin pulses low w z (frame_bits c) p t
        (stays_by k (frame_bits c) (not_whole t (reading_of low begin) (heard_start low begin (start_of low begin)) go) out_c) (start_of low begin) refl

    same_out : (n : ℕ) → 1 ≤ n → n < 1 + length (known_bits k) → is_out_by (known_bits k) (is_whole k.ended) (frame_bits c) n ≡ is_out_by (known_bits k) (is_whole k.ended) (frame_bits w) n
    same_out n l m =
        ap (λ b. if n % 10 == 0 then not (is_whole k.ended && (n == length (known_bits k))) && not (beq (bit_read (known_bits k) n) (destination (known_bits k) == 15)) else not (beq (bit_read (known_bits k) n) b))
        (ap (λ (xs : List Bool). slice_index_or xs (n - 1) false) p.first ∙ get_or-append p.front (true ∷ p.more) false (n - 1) (omega (arith, before.0))
        ∙ sym (ap (λ (xs : List Bool). slice_index_or xs (n - 1) false) p.second ∙ get_or-append p.front (false ∷ p.less) false (n - 1) (omega (arith, before.0))))

-- no frame comes before a winner's
pub not_before : (fs gs : List (List ℕ)) (xs : List Bool) → list_any (λ g. comes_before (frame_bits g) xs) gs ≡ false → (c : List ℕ) → In c gs → comes_before (frame_bits c) xs ≡ true → ⊥
not_before fs gs xs h c i b = let x : true ≡ false = sym (any_in (λ g. comes_before (frame_bits g) xs) gs c i b) ∙ h in cc

pub not_true : (b : Bool) → not b ≡ true → b ≡ false
not_true false h = refl
not_true true h = cc

pub winners_last : WinnersLast
winners_last seats begin pulses low frames sparse line t go i d l out j e m =
    by_order (compare_frames c w (all_in (λ f. 0 < length f) (frames_of seats) frames c in_c) (all_in (λ f. 0 < length f) (frames_of seats) frames w in_w.0))
  where
    c : List ℕ
    c = slice_index_or (frames_of seats) i d

    w : List ℕ
    w = slice_index_or (winning_frames seats) j e

    in_c : In (slice_index_or (frames_of seats) i d) (frames_of seats)
    in_c = in_at (frames_of seats) i d l

    in_w : In (slice_index_or (winning_frames seats) j e) (frames_of seats) × (least_among (frames_of seats) (slice_index_or (winning_frames seats) j e) ≡ true)
    in_w = in_filter (least_among (frames_of seats)) (frames_of seats) (slice_index_or (winning_frames seats) j e) (in_at (winning_frames seats) j e m)

    by_order : (frame_bits c ≡ frame_bits w) ⊎ (Splits 0 (frame_bits c) (frame_bits w) ⊎ Splits 0 (frame_bits w) (frame_bits c)) → out_slot (known_at t (reading_of low begin)) (frame_bits w) ≡ None
    by_order (inl same) = ap (λ (xs : List Bool). out_slot (known_at t (reading_of low begin)) xs) (sym same) ∙ out
    by_order (inr (inl p)) = stays_last seats begin pulses low w c t (record { line = line; sparse = sparse; sends = in_w.0; least = in_w.1 }) p go out
    by_order (inr (inr p)) = absurd (not_before (frames_of seats) (frames_of seats) (frame_bits w) (not_true _ in_w.1) c in_c (split_before 0 (frame_bits w) (frame_bits c) p))

-- ---- who pulls, by who sends

pub filtered : {X : Type 0} (p test : X → Bool) (xs : List X) → list_any p (filter test xs) ≡ true → list_any p xs ≡ true
filtered p test xs h = let r = in_any p (filter test xs) h in any_in p xs r.0 (in_filter test xs r.0 r.1).0 r.2

-- what holds of the senders holds of all who pull
pub pulled_more : (fs gs : List (List ℕ)) (seats : List Seat) (begin : ℕ) (pulses : List Stretch) (was : Bool) (k : Known) (t : ℕ)
    → (list_any (sender_pulls begin k t) fs ≡ true → list_any (sender_pulls begin k t) gs ≡ true)
    → pulled_by fs seats begin pulses was k t ≡ true → pulled_by gs seats begin pulses was k t ≡ true
pulled_more fs gs seats begin pulses was k t f h =
    step (list_any (pulse_pulls begin k.ended was t) pulses) (list_any (sender_pulls begin k t) fs) (list_any (sender_pulls begin k t) gs) (is_within k.ended t || was) (is_acknowledged seats k t || is_broken seats k t k.ended) f h
  where
    step : (a b c w d : Bool) → (b ≡ true → c ≡ true) → (a || ((b && w) || d)) ≡ true → (a || ((c && w) || d)) ≡ true
    step true b c w d g m = refl
    step false true c w d g m = rw (g refl) m
    step false false true true d g m = refl
    step false false true false d g m = m
    step false false false w d g m = m

-- the same where they pull through the ending's instant
pub through_more : (fs gs : List (List ℕ)) (seats : List Seat) (begin : ℕ) (pulses : List Stretch) (was : Bool) (k : Known) (t : ℕ)
    → (list_any (sender_pulls begin k t) fs ≡ true → list_any (sender_pulls begin k t) gs ≡ true)
    → pulled_through fs seats begin pulses was k t ≡ true → pulled_through gs seats begin pulses was k t ≡ true
through_more fs gs seats begin pulses was k t f h =
    step (list_any (pulse_pulls begin k.ended was t) pulses) (list_any (sender_pulls begin k t) fs) (list_any (sender_pulls begin k t) gs) (is_acknowledged seats k t || is_broken seats k t k.ended) f h
  where
    step : (a b c d : Bool) → (b ≡ true → c ≡ true) → (a || (b || d)) ≡ true → (a || (c || d)) ≡ true
    step true b c d g m = refl
    step false true c d g m = rw (g refl) refl
    step false false true d g m = refl
    step false false false d g m = m

-- who pulls pulls through the ending's instant
pub pulled_then : (fs : List (List ℕ)) (seats : List Seat) (begin : ℕ) (pulses : List Stretch) (was : Bool) (k : Known) (t : ℕ)
    → pulled_by fs seats begin pulses was k t ≡ true → pulled_through fs seats begin pulses was k t ≡ true
pulled_then fs seats begin pulses was k t h =
    step (list_any (pulse_pulls begin k.ended was t) pulses) (list_any (sender_pulls begin k t) fs) (is_within k.ended t || was) (is_acknowledged seats k t || is_broken seats k t k.ended) h
  where
    step : (a b w d : Bool) → (a || ((b && w) || d)) ≡ true → (a || (b || d)) ≡ true
    step true b w d m = refl
    step false true w d m = refl
    step false false w d m = m

-- and the other way, where the senders make no fall at an ending for want of a fall
pub through_then : (fs : List (List ℕ)) (seats : List Seat) (begin : ℕ) (pulses : List Stretch) (was : Bool) (k : Known) (t : ℕ)
    → (list_any (sender_pulls begin k t) fs ≡ true → (is_within k.ended t || was) ≡ true)
    → pulled_through fs seats begin pulses was k t ≡ true → pulled_by fs seats begin pulses was k t ≡ true
through_then fs seats begin pulses was k t f h =
    step (list_any (pulse_pulls begin k.ended was t) pulses) (list_any (sender_pulls begin k t) fs) (is_within k.ended t || was) (is_acknowledged seats k t || is_broken seats k t k.ended) f h
  where
    step : (a b w d : Bool) → (b ≡ true → w ≡ true) → (a || (b || d)) ≡ true → (a || ((b && w) || d)) ≡ true
    step true b w d g m = refl
    step false true w d g m = rw (g refl) refl
    step false false w d g m = m
