-- How often rounds are seen.
use Rattle.std.proofs.Common.{◌≡◌, ℕ, ◌≤◌, ◌==◌, nat_le, Bool, true, false, List, [], ◌∷◌, length, Option, Some, None, arith, rules, is_some}
use Rattle.std.specs.List.{filter_map, cons_option}
use Rattle.std.proofs.lemmas.Grind.{common_steps}
use Rattle.expect_judge.specs.Told.{RoundLine}
use Rattle.expect_judge.specs.Seen.{is_seen, end_seen, ends_seen}
use Rattle.expect_judge.specs.Laws.{LargerSpansHold, NeverIsTheContrary, OnceIsSome}
use Rattle.expect_judge.specs.declared.seen.TimeSpan.{TimeSpan}

is_true : (b c : Bool) → Some b ≡ Some c → b ≡ c
is_true b c e = search rules

fails_at : (n : ℕ) → Some (nat_le 1 n) ≡ Some true → Some (n == 0) ≡ Some false
fails_at n h = let e = is_true (nat_le 1 n) true h in grind (arith, common_steps)

holds_at : (n : ℕ) → Some (nat_le 1 n) ≡ Some false → Some (n == 0) ≡ Some true
holds_at n h = let e = is_true (nat_le 1 n) false h in grind (arith, common_steps)

once_at : (n : ℕ) → Some (n == 1) ≡ Some true → Some (nat_le 1 n) ≡ Some true
once_at n h = let e = is_true (n == 1) true h in grind (arith, common_steps)

pub never_is_the_contrary : NeverIsTheContrary
never_is_the_contrary = record {
  fails = λ rounds pattern span. fails_at (length (ends_seen rounds span pattern));
  holds = λ rounds pattern span. holds_at (length (ends_seen rounds span pattern));
}

pub once_is_some : OnceIsSome
once_is_some rounds pattern span = once_at (length (ends_seen rounds span pattern))

-- ---- larger spans

still_seen : (small large : TimeSpan) (pattern : List ℕ) (r : RoundLine) → large.from ≤ small.from → small.to ≤ large.to
    → is_seen small pattern r ≡ true → is_seen large pattern r ≡ true
still_seen small large pattern r from to seen = grind (arith, common_steps)

more_or_as_many : (x y : Option ℕ) (xs ys : List ℕ) → (is_some x ≡ true → is_some y ≡ true) → length xs ≤ length ys → length (cons_option x xs) ≤ length (cons_option y ys)
more_or_as_many None None xs ys h l = l
more_or_as_many None (Some b) xs ys h l = omega arith
more_or_as_many (Some a) None xs ys h l = search rules
more_or_as_many (Some a) (Some b) xs ys h l = omega arith

seen_still : (small large : TimeSpan) (pattern : List ℕ) (r : RoundLine) → large.from ≤ small.from → small.to ≤ large.to
    → is_some (end_seen small pattern r) ≡ true → is_some (end_seen large pattern r) ≡ true
seen_still small large pattern r from to h = grind (arith, common_steps)

as_many : (small large : TimeSpan) (pattern : List ℕ) (rounds : List RoundLine) → large.from ≤ small.from → small.to ≤ large.to
    → length (ends_seen rounds small pattern) ≤ length (ends_seen rounds large pattern)
as_many small large pattern [] from to = omega arith
as_many small large pattern (r ∷ rounds) from to =
    more_or_as_many (end_seen small pattern r) (end_seen large pattern r) (ends_seen rounds small pattern) (ends_seen rounds large pattern)
    (seen_still small large pattern r from to) (as_many small large pattern rounds from to)

still_least : (k n m : ℕ) → n ≤ m → Some (nat_le k n) ≡ Some true → Some (nat_le k m) ≡ Some true
still_least k n m l h = let e = is_true (nat_le k n) true h in grind (arith, common_steps)

still_most : (k n m : ℕ) → n ≤ m → Some (nat_le m k) ≡ Some true → Some (nat_le n k) ≡ Some true
still_most k n m l h = let e = is_true (nat_le m k) true h in grind (arith, common_steps)

least_holds : (k : ℕ) (rounds : List RoundLine) (pattern : List ℕ) (small large : TimeSpan) → large.from ≤ small.from → small.to ≤ large.to
    → Some (nat_le k (length (ends_seen rounds small pattern))) ≡ Some true → Some (nat_le k (length (ends_seen rounds large pattern))) ≡ Some true
least_holds k rounds pattern small large from to h =
    still_least k (length (ends_seen rounds small pattern)) (length (ends_seen rounds large pattern)) (as_many small large pattern rounds from to) h

pub larger_spans_hold : LargerSpansHold
larger_spans_hold = record {
  some = least_holds 1;
  least = least_holds;
  most = λ k rounds pattern small large from to h.
      still_most k (length (ends_seen rounds small pattern)) (length (ends_seen rounds large pattern)) (as_many small large pattern rounds from to) h;
}
