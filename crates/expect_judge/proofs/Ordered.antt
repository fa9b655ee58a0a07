-- Rounds in order, and those of them that are seen.
use Rattle.std.proofs.Common.{◌≡◌, ℕ, ◌+◌, ◌<◌, ◌≤◌, ◌&&◌, nat_le, nat_lt, Bool, true, false, if◌then◌else◌, List, [], ◌∷◌, map, filter, cond, length, drop, take, get_or, zero, suc, add-one, Option, Some, None, refl, sym, ap, ◌∙◌, arith}
use Rattle.std.specs.List.{cons_option}
use Rattle.std.proofs.lemmas.Bool.{false≢true}
use Rattle.std.proofs.lemmas.Grind.{common_steps}
use Rattle.expect_text.specs.Names.{meets}
use Rattle.expect_judge.specs.Told.{RoundLine, round_as}
use Rattle.expect_judge.specs.Seen.{ends_seen, is_seen, or_first, rounds_seen}
use Rattle.expect_judge.specs.Index.{are_in_order, leads}
use Rattle.expect_judge.specs.declared.seen.TimeSpan.{TimeSpan}
use Rattle.expect_judge.specs.declared.lines.RoundLine.{RoundLine as RoundRead}

left_of : (a b : Bool) → (a && b) ≡ true → a ≡ true
left_of true b h = refl
left_of false b h = h

right_of : (a b : Bool) → (a && b) ≡ true → b ≡ true
right_of true b h = h
right_of false b h = absurd (false≢true h)

at_most : (m n : ℕ) → nat_le m n ≡ true → m ≤ n
at_most m n h = grind (arith, common_steps)

below : (m n : ℕ) → nat_lt m n ≡ true → m < n
below m n h = grind (arith, common_steps)

above : (m n : ℕ) → n < m → nat_le m n ≡ false
above m n h = grind (arith, common_steps)

first_false : (a b c : Bool) → a ≡ false → (a && b && c) ≡ false
first_false true b c h = absurd (false≢true (sym h))
first_false false b c h = refl

second_false : (a b c : Bool) → b ≡ false → (a && b && c) ≡ false
second_false a true c h = absurd (false≢true (sym h))
second_false true false c h = refl
second_false false false c h = refl

-- ---- rounds that began before a span

begins : (r : RoundRead) (rounds : List RoundRead) (place : ℕ) (d : RoundRead) → are_in_order (r ∷ rounds) ≡ true → place < length rounds → r.begin ≤ (get_or rounds place d).begin
begins r [] place d h k = absurd (omega (arith, k))
begins r (next ∷ rounds) zero d h k =
    at_most r.begin next.begin (left_of (nat_le r.begin next.begin) (nat_le r.at next.at) (left_of (leads r (next ∷ rounds)) (are_in_order (next ∷ rounds)) h))
begins r (next ∷ rounds) (suc place) d h k =
    let first : r.begin ≤ next.begin = at_most r.begin next.begin (left_of (nat_le r.begin next.begin) (nat_le r.at next.at) (left_of (leads r (next ∷ rounds)) (are_in_order (next ∷ rounds)) h)) in
    let more : next.begin ≤ (get_or rounds place d).begin = begins next rounds place d (right_of (leads r (next ∷ rounds)) (are_in_order (next ∷ rounds)) h) (omega (arith, k)) in
    omega (arith, first, more)

-- a round that is not seen
left_out : (r : RoundRead) (rounds : List RoundRead) (span : TimeSpan) (pattern : List ℕ) → is_seen span pattern (round_as r) ≡ false
    → rounds_seen (map round_as (r ∷ rounds)) span pattern ≡ rounds_seen (map round_as rounds) span pattern
left_out r rounds span pattern h =
    ap (λ b. cond b (round_as r ∷ rounds_seen (map round_as rounds) span pattern) (rounds_seen (map round_as rounds) span pattern)) h

early : (span : TimeSpan) (pattern : List ℕ) (r : RoundRead) → r.begin < span.from → is_seen span pattern (round_as r) ≡ false
early span pattern r h = first_false (nat_le span.from r.begin) (nat_le r.at span.to) (meets pattern r.reported.now) (above span.from r.begin h)

early_left_out : (rounds : List RoundRead) (place : ℕ) (d : RoundRead) (span : TimeSpan) (pattern : List ℕ) → are_in_order rounds ≡ true → place < length rounds → (get_or rounds place d).begin < span.from
    → rounds_seen (map round_as (drop (suc place) rounds)) span pattern ≡ rounds_seen (map round_as rounds) span pattern
early_left_out [] place d span pattern h within k = absurd (omega (arith, within))
early_left_out (r ∷ rounds) zero d span pattern h within k = sym (left_out r rounds span pattern (early span pattern r k))
early_left_out (r ∷ rounds) (suc place) d span pattern h within k =
    let inner : place < length rounds = omega (arith, within) in
    let first : r.begin ≤ (get_or rounds place d).begin = begins r rounds place d h inner in
    early_left_out rounds place d span pattern (right_of (leads r rounds) (are_in_order rounds) h) inner k
    ∙ sym (left_out r rounds span pattern (early span pattern r (omega (arith, first, k))))

-- none up to a round that began before the span
pub none_before : (rounds : List RoundRead) (place : ℕ) (d : RoundRead) (span : TimeSpan) (pattern : List ℕ) → are_in_order rounds ≡ true → place < length rounds
    → nat_lt (get_or rounds place d).begin span.from ≡ true → rounds_seen (map round_as (drop (place + 1) rounds)) span pattern ≡ rounds_seen (map round_as rounds) span pattern
none_before rounds place d span pattern h within k =
    rw add-one (early_left_out rounds place d span pattern h within (below (get_or rounds place d).begin span.from k))

pub still_in_order : (rounds : List RoundRead) (count : ℕ) → are_in_order rounds ≡ true → are_in_order (drop count rounds) ≡ true
still_in_order rounds zero h = h
still_in_order [] (suc count) h = refl
still_in_order (r ∷ rounds) (suc count) h = still_in_order rounds count (right_of (leads r rounds) (are_in_order rounds) h)

-- ---- rounds that ended after a span

late : (span : TimeSpan) (pattern : List ℕ) (r : RoundRead) → span.to < r.at → is_seen span pattern (round_as r) ≡ false
late span pattern r h = second_false (nat_le span.from r.begin) (nat_le r.at span.to) (meets pattern r.reported.now) (above r.at span.to h)

all_late : (r : RoundRead) (others : List RoundRead) (span : TimeSpan) (pattern : List ℕ) → are_in_order (r ∷ others) ≡ true → span.to < r.at → rounds_seen (map round_as (r ∷ others)) span pattern ≡ []
all_late r [] span pattern h k = left_out r [] span pattern (late span pattern r k)
all_late r (next ∷ others) span pattern h k =
    let first : r.at ≤ next.at = at_most r.at next.at (right_of (nat_le r.begin next.begin) (nat_le r.at next.at) (left_of (leads r (next ∷ others)) (are_in_order (next ∷ others)) h)) in
    left_out r (next ∷ others) span pattern (late span pattern r k)
    ∙ all_late next others span pattern (right_of (leads r (next ∷ others)) (are_in_order (next ∷ others)) h) (omega (arith, first, k))

late_left_out : (rounds : List RoundRead) (place : ℕ) (d : RoundRead) (span : TimeSpan) (pattern : List ℕ) → are_in_order rounds ≡ true → place < length rounds → span.to < (get_or rounds place d).at
    → rounds_seen (map round_as (take place rounds)) span pattern ≡ rounds_seen (map round_as rounds) span pattern
late_left_out [] place d span pattern h within k = absurd (omega (arith, within))
late_left_out (r ∷ rounds) zero d span pattern h within k = sym (all_late r rounds span pattern h k)
late_left_out (r ∷ rounds) (suc place) d span pattern h within k =
    ap (λ (rs : List RoundLine). cond (is_seen span pattern (round_as r)) (round_as r ∷ rs) rs)
    (late_left_out rounds place d span pattern (right_of (leads r rounds) (are_in_order rounds) h) (omega (arith, within)) k)

-- none from a round on that ended after the span
pub none_from : (rounds : List RoundRead) (place : ℕ) (d : RoundRead) (span : TimeSpan) (pattern : List ℕ) → are_in_order rounds ≡ true → place < length rounds
    → nat_lt span.to (get_or rounds place d).at ≡ true → rounds_seen (map round_as (take place rounds)) span pattern ≡ rounds_seen (map round_as rounds) span pattern
none_from rounds place d span pattern h within k = late_left_out rounds place d span pattern h within (below span.to (get_or rounds place d).at k)

-- ---- their ends

ends_of : (rounds : List RoundLine) (span : TimeSpan) (pattern : List ℕ) → ends_seen rounds span pattern ≡ map (λ (r : RoundLine). r.at) (rounds_seen rounds span pattern)
ends_of [] span pattern = refl
ends_of (r ∷ rounds) span pattern = by (is_seen span pattern r) (ends_of rounds span pattern)
  where
    by : (b : Bool) → ends_seen rounds span pattern ≡ map (λ (r : RoundLine). r.at) (rounds_seen rounds span pattern)
        → cons_option (if b then Some r.at else None) (ends_seen rounds span pattern) ≡ map (λ (r : RoundLine). r.at) (cond b (r ∷ rounds_seen rounds span pattern) (rounds_seen rounds span pattern))
    by true more = ap (λ (ends : List ℕ). r.at ∷ ends) more
    by false more = more

-- where the same rounds are seen, they have the same ends
pub same_ends : (xs ys : List RoundLine) (span : TimeSpan) (pattern : List ℕ) → rounds_seen xs span pattern ≡ rounds_seen ys span pattern → ends_seen xs span pattern ≡ ends_seen ys span pattern
same_ends xs ys span pattern h = ends_of xs span pattern ∙ ap (map (λ (r : RoundLine). r.at)) h ∙ sym (ends_of ys span pattern)

pub none_after : (rounds : List RoundRead) (d : RoundRead) (span : TimeSpan) (pattern : List ℕ) → are_in_order rounds ≡ true → 0 < length rounds → span.to < (get_or rounds 0 d).at
    → ends_seen (map round_as rounds) span pattern ≡ []
none_after [] d span pattern h some k = absurd (omega (arith, some))
none_after (r ∷ others) d span pattern h some k = same_ends (map round_as (r ∷ others)) [] span pattern (all_late r others span pattern h k)

pub or_none : (found : Option ℕ) → found ≡ or_first found []
or_none None = refl
or_none (Some at) = refl
