-- What a search for the first idle instant was told of a line.
use Rattle.std.proofs.Common.{◌≡◌, ℕ, zero, suc, ◌+◌, ◌-◌, ◌<◌, ◌≤◌, ◌&&◌, not, Bool, true, false, nat_lt, nat_le, if◌then◌else◌, Option, Some, None, unwrap_or, refl, sym, ap, subst, ◌∙◌, arith}
use Rattle.std.specs.Option.{option_or}
use Rattle.std.proofs.lemmas.Bool.Decides.{nat_tests}
use Rattle.line_wave.specs.declared.Edge.{Edge}
use Rattle.line_wave.specs.Line.{Line, was_low}
use Rattle.capture_join.specs.Joined.{FindsCalm, FindsEdge, FindsEnd, IsFoundBefore, IsHighSince, IsIdle, IsJoined, IsSought, IsStill, Stays, idle_by, since_of}
use Rattle.capture_join.specs.declared.idle.IdleSearch.{IdleSearch}
use Rattle.capture_join.proofs.WhenIdle.{either, not_found, too_soon, while_low}

-- ---- the level just before an instant

pub was_next : (low : Line) (t : ℕ) → was_low low (t + 1) ≡ low t
was_next low t =
    let some : nat_lt 0 (t + 1) ≡ true = grind (arith, nat_tests) in
    rw some (ap low (let x : t + 1 - 1 ≡ t = omega arith in x))

was_still : (low : Line) (n k : ℕ) → n ≤ k → IsStill low n k → was_low low k ≡ was_low low n
was_still low n k l still = by (nat_lt n k) refl
  where
    by : (c : Bool) → nat_lt n k ≡ c → was_low low k ≡ was_low low n
    by true h =
        let less : n < k = grind (arith, nat_tests) in
        let some : nat_lt 0 k ≡ true = grind (arith, nat_tests) in
        rw some (still (k - 1) (omega arith) (omega arith))
    by false h = let same : k ≡ n = grind (arith, nat_tests) in ap (was_low low) same

-- it was low
both_true : (a b : Bool) → (a && b) ≡ true → (a ≡ true) × (b ≡ true)
both_true true b h = (refl, h)
both_true false b h = cc

was_some : (low : Line) (n : ℕ) → was_low low n ≡ true → (1 ≤ n) × (low (n - 1) ≡ true)
was_some low n h = let b = both_true (nat_lt 0 n) (low (n - 1)) h in let is = b.0 in (grind (arith, nat_tests), b.1)

-- ---- the begin

pub sought_first : (low : Line) (s : IdleSearch) → s.high_since ≡ Some 0 → s.found ≡ None → IsSought s low 0
sought_first low s since none = record {
  high = subst (λ (o : Option ℕ). IsHighSince low 0 o) (sym since) (omega arith, (let x : nat_lt 0 0 ≡ false = grind (arith, nat_tests) in ap (λ b. b && low (0 - 1)) x), (λ u k m. absurd (omega arith)), (λ k. absurd (omega arith)));
  found = subst (λ (o : Option ℕ). IsFoundBefore low 0 o) (sym none) (λ u l idle. absurd (omega arith));
}

-- ---- up to an instant

look_high : (low : Line) (n s until : ℕ) → IsHighSince low n (Some s) → IsFoundBefore low n None → IsStill low n until → n ≤ until + 1 → IsFoundBefore low (until + 1) (idle_by (Some s) until)
look_high low n s until high none still l = by (nat_le (s + 7200) until) refl
  where
    early : s ≤ n
    early = high.0

    soon : (u : ℕ) → u < s + 7200 → IsIdle low u → ⊥
    soon u m idle = either n u ⊥ (λ k. none u k idle) (λ k. too_soon low s u high.3 (omega (arith, early, k)) m idle)

    by : (c : Bool) → nat_le (s + 7200) until ≡ c → IsFoundBefore low (until + 1) (if c then Some (s + 7200) else None)
    by true h =
        let enough : s + 7200 ≤ until = grind (arith, nat_tests) in (
          omega (arith, enough),
          record { long = omega arith; high = λ u near sooner. either n u (low u ≡ false) (λ k. high.2 u (omega (arith, near)) k) (λ k. still u k (omega (arith, enough, sooner)) ∙ high.1) },
          soon,
        )
    by false h = λ u m idle. soon u (let few : until < s + 7200 = grind (arith, nat_tests) in omega (arith, few, m)) idle

look_low : (low : Line) (n until : ℕ) → IsHighSince low n None → IsFoundBefore low n None → IsStill low n until → IsFoundBefore low (until + 1) None
look_low low n until high none still u m idle =
    let some = was_some low n high in
    either n u ⊥ (λ k. none u k idle) (λ k. while_low low n u some.0 some.1 (λ v a b. still v a (omega (arith, b, m)) ∙ high) k idle)

looked : (low : Line) (n until : ℕ) (since found : Option ℕ) → IsHighSince low n since → IsFoundBefore low n found → IsStill low n until → n ≤ until + 1 → IsFoundBefore low (until + 1) (option_or found (idle_by since until))
looked low n until since (Some t) high is still l = let sooner = is.0 in (omega (arith, sooner, l), is.1, is.2)
looked low n until None None high is still l = look_low low n until high is still
looked low n until (Some s) None high is still l = look_high low n s until high is still l

-- what is found by one search after another
looks : (low : Line) (n until : ℕ) (old : IdleSearch) (found : Option ℕ) → found ≡ option_or old.found (idle_by old.high_since until) → IsSought old low n → IsStill low n until → n ≤ until + 1 → IsFoundBefore low (until + 1) found
looks low n until old found is w still l = subst (λ (o : Option ℕ). IsFoundBefore low (until + 1) o) (sym is) (looked low n until old.high_since old.found w.high w.found still l)

pub look_stays : (old new o : Option ℕ) → new ≡ option_or old o → Stays old new
look_stays None new o is = tt
look_stays (Some t) new o is = is

pub same_stays : (o : Option ℕ) → Stays o o
same_stays None = tt
same_stays (Some t) = refl

-- ---- an edge

high_after : (low : Line) (n : ℕ) (e : Edge) → n ≤ e.at → IsStill low n e.at → was_low low n ≡ not e.low → low e.at ≡ e.low → IsHighSince low (e.at + 1) (since_of e)
high_after low n e l still before here = by e.low refl
  where
    by : (b : Bool) → e.low ≡ b → IsHighSince low (e.at + 1) (if b then None else Some e.at)
    by true h = was_next low e.at ∙ here ∙ h
    by false h = (
      omega arith,
      was_next low e.at ∙ here ∙ h,
      (λ u k m. ap low (let x : u ≡ e.at = omega (arith, k, m) in x) ∙ here ∙ h),
      (λ k. (was_some low e.at (was_still low n e.at l still ∙ before ∙ ap not h)).1),
    )

pub finds_edge : (old new : IdleSearch) (e : Edge) → new.found ≡ option_or old.found (idle_by old.high_since e.at) → new.high_since ≡ since_of e → FindsEdge old e new
finds_edge old new e found since low n w l still before here = record {
  high = subst (λ (o : Option ℕ). IsHighSince low (e.at + 1) o) (sym since) (high_after low n e l still before here);
  found = looks low n e.at old new.found found w still (omega (arith, l));
}

-- ---- no edge before an instant

high_still : (low : Line) (n k : ℕ) (since : Option ℕ) → n ≤ k → IsStill low n k → IsHighSince low n since → IsHighSince low k since
high_still low n k None l still h = was_still low n k l still ∙ h
high_still low n k (Some s) l still h =
    let early = h.0 in
    (omega (arith, early, l), was_still low n k l still ∙ h.1, (λ u a b. either n u (low u ≡ false) (λ c. h.2 u a c) (λ c. still u c b ∙ h.1)), h.3)

pub finds_calm : (old new : IdleSearch) (known : ℕ) → 0 < known → new.found ≡ option_or old.found (idle_by old.high_since (known - 1)) → new.high_since ≡ old.high_since → FindsCalm old known new
finds_calm old new known some found since low n w l still = record {
  high = subst (λ (o : Option ℕ). IsHighSince low known o) (sym since) (high_still low n known old.high_since l still w.high);
  found = subst (λ (k : ℕ). IsFoundBefore low k new.found) (let x : known - 1 + 1 ≡ known = omega (arith, some) in x)
      (looks low n (known - 1) old new.found found w (λ u a b. still u a (omega (arith, b))) (omega (arith, l, some)));
}

-- up to 0 there is nothing to look for
pub finds_none : (s : IdleSearch) (known : ℕ) → known ≤ 0 → FindsCalm s known s
finds_none s known none low n w l still = subst (λ (k : ℕ). IsSought s low k) (let x : n ≡ known = omega (arith, l, none) in x) w

-- ---- the end

joined_end : (low : Line) (end : ℕ) (found : Option ℕ) → IsFoundBefore low (end + 1) found → IsJoined low end (unwrap_or found end)
joined_end low end None none = not_found low end end (λ u l idle. none u (omega (arith, l)) idle)
joined_end low end (Some t) is = let sooner = is.0 in record { within = omega (arith, sooner); idle = λ l. is.1; first = is.2 }

pub finds_end : (old new : IdleSearch) (end : ℕ) → new.found ≡ option_or old.found (idle_by old.high_since end) → FindsEnd old end (unwrap_or new.found end)
finds_end old new end found low n w l still = joined_end low end new.found (looks low n end old new.found found w (λ u a b. still u a (omega (arith, b))) l)

-- ---- what is known where the instant is, or is not

-- it is that of each capture that goes on so
pub known_joined : (low : Line) (n end t : ℕ) → IsFoundBefore low n (Some t) → n ≤ end + 1 → IsJoined low end t
known_joined low n end t is l = let sooner = is.0 in record { within = omega (arith, sooner, l); idle = λ m. is.1; first = is.2 }

-- it is no sooner than where nothing was found yet
pub found_later : (low : Line) (n k t : ℕ) → IsFoundBefore low n None → IsFoundBefore low k (Some t) → n ≤ t + 1
found_later low n k t none is = either n t (n ≤ t + 1) (λ l. absurd (none t l is.1)) (λ l. omega (arith, l))

pub joined_later : (low : Line) (n end t : ℕ) → IsFoundBefore low n None → n ≤ end + 1 → IsJoined low end t → n ≤ t + 1
joined_later low n end t none l is = by (nat_lt t end) refl
  where
    by : (c : Bool) → nat_lt t end ≡ c → n ≤ t + 1
    by true h = either n t (n ≤ t + 1) (λ m. absurd (none t m (is.idle (grind (arith, nat_tests))))) (λ m. omega (arith, m))
    by false h = let late : end ≤ t = grind (arith, nat_tests) in omega (arith, late, l)
