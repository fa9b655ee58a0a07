-- The list of a line's readings: its two definitions are one, and it goes by the line so far.
use Rattle.std.proofs.Common.{◌≡◌, ℕ, zero, suc, ◌+◌, ◌-◌, ◌<◌, ◌≤◌, false, nat_le, if◌then◌else◌, List, [], ◌∷◌, inl, inr, Option, Some, None, refl, arith, ap, ◌∙◌, sym}
use Rattle.std.specs.List.{filter_map}
use Rattle.std.proofs.lemmas.Bool.{cases_lt}
use Rattle.std.proofs.lemmas.Bool.Decides.{nat_tests}
use Rattle.line_wave.specs.Line.{Line, is_fall}
use Rattle.line_frames.specs.declared.Ending.TheVariants.{Open}
use Rattle.line_reading.specs.Reading.{first_in, Slot, Told, Known, known_at, reading_of, reported_of}
use Rattle.line_reading.specs.Readings.{Listed, reading_from, listed_on, reported_by_time, readings_from, AreReadingsFrom, OneList, HasList, ListsAreCausal}
use Rattle.line_reading.proofs.Search.{first_in_none, first_in_some, first_in_agree, found_first, found_none}
use Rattle.line_reading.proofs.Causes.{reading_alike}
use Rattle.line_reading.proofs.Alike.{same_read}
use Rattle.line_reading.proofs.Ends.{until_by, begin_by}

-- ---- one list

pub one_from : (low : Line) (t n from : ℕ) (xs : List Listed) → t + 1 ≤ n + from → AreReadingsFrom low t from xs → xs ≡ readings_from low t n from
unfolding readings_from
one_from low t zero from [] l h = refl
one_from low t zero from (x ∷ xs) l h = absurd (omega (arith, l, h.0.after, h.1))
one_from low t (suc n) from [] l h =
    let none : first_in (is_fall low) from (t + 1 - from) ≡ None = first_in_none (is_fall low) from (t + 1 - from) (λ u a b. h u a (omega (arith, a, b))) in
    sym (ap (λ o. listed_on low t o (readings_from low t n)) none)
one_from low t (suc n) from (x ∷ xs) l h =
    let some : first_in (is_fall low) from (t + 1 - from) ≡ Some x.begin = first_in_some (is_fall low) from (t + 1 - from) x.begin h.0.after (omega (arith, h.0.after, h.1)) h.0.falls h.0.quiet in
    let rest : xs ≡ readings_from low t n ((reading_of low x.begin).until + 1) =
    one_from low t n ((reading_of low x.begin).until + 1) xs (omega (arith, l, h.0.after, begin_by low x.begin)) h.3 in
    ap (λ y. y ∷ xs) h.2 ∙ ap (λ ys. reading_from low t x.begin ∷ ys) rest ∙ sym (ap (λ o. listed_on low t o (readings_from low t n)) some)

pub one_list : OneList
one_list low t xs h = one_from low t (t + 1) 0 xs (omega arith) h

pub has_from : (low : Line) (t n from : ℕ) → t + 1 ≤ n + from → AreReadingsFrom low t from (readings_from low t n from)
unfolding readings_from
has_from low t zero from l = λ u a b. absurd (omega (arith, a, b, l))
has_from low t (suc n) from l = by_first (λ f m. has_from low t n f m) (first_in (is_fall low) from (t + 1 - from)) refl
  where
    by_first : ((f : ℕ) → t + 1 ≤ n + f → AreReadingsFrom low t f (readings_from low t n f)) → (o : Option ℕ) → first_in (is_fall low) from (t + 1 - from) ≡ o
        → AreReadingsFrom low t from (listed_on low t o (readings_from low t n))
    by_first ih None h = λ u a b. found_none (is_fall low) from (t + 1 - from) h u a (omega (arith, a, b))
    by_first ih (Some e) h =
        let d = found_first (is_fall low) from (t + 1 - from) e h in (
          record { after = d.after; falls = d.passes; quiet = d.first },
          omega (arith, d.within, d.after),
          refl,
          ih ((reading_of low e).until + 1) (omega (arith, l, d.after, begin_by low e)),
        )

pub has_list : HasList
has_list low t = has_from low t (t + 1) 0 (omega arith)

-- ---- it goes by the line through t

pub none_left : (low : Line) (t n from : ℕ) → t < from → readings_from low t n from ≡ []
unfolding readings_from
none_left low t zero from l = refl
none_left low t (suc n) from l =
    ap (λ o. listed_on low t o (readings_from low t n)) (first_in_none (is_fall low) from (t + 1 - from) (λ u a b. absurd (omega (arith, a, b, l))))

-- the lines are one through t
Through : ℕ → Line → Line → Type 0
Through t p q = (u : ℕ) → u ≤ t → p u ≡ q u

open_at : ℕ → Known → Told
open_at t k = record { bits = filter_map (λ (s : Slot). s.bit) k.slots; ending = Open; at = t }

reported_open : (low : Line) (t e : ℕ) → t < (reading_of low e).until → reported_by_time t (reading_of low e) ≡ open_at t (known_at (t + 1) (reading_of low e))
unfolding open_at
reported_open low t e l =
    let a : nat_le (reading_of low e).at t ≡ false = (let x = until_by low e in grind (arith, nat_tests)) in
    ap (λ b. if b then reported_of (reading_of low e) else record { bits = filter_map (λ s. s.bit) (known_at (t + 1) (reading_of low e)).slots; ending = Open; at = t }) a

step_alike : (p q : Line) (t n e : ℕ) → Through t p q → ((f : ℕ) → readings_from p t n f ≡ readings_from q t n f)
    → listed_on p t (Some e) (readings_from p t n) ≡ listed_on q t (Some e) (readings_from q t n)
unfolding Through
step_alike p q t n e a ih =
    elim (cases_lt t (reading_of q e).until) [
      | inr over ↦ whole (same_read p q e (λ u x y. a u (omega arith)))
      | inl open_q ↦ elim (cases_lt t (reading_of p e).until) [
        | inr over ↦ whole (sym (same_read q p e (λ u x y. sym (a u (omega arith)))))
        | inl open_p ↦ (
            let known_same : known_at (t + 1) (reading_of p e) ≡ known_at (t + 1) (reading_of q e) = reading_alike (t + 1) p q e (λ u l. a u (omega arith)) in
            let reported : reported_by_time t (reading_of p e) ≡ reported_by_time t (reading_of q e) = reported_open p t e open_p ∙ ap (open_at t) known_same ∙ sym (reported_open q t e open_q) in
            ap (λ y. let x : Listed = record { begin = e; reported = y } in x ∷ readings_from p t n ((reading_of p e).until + 1)) reported
            ∙ ap (λ ys. reading_from q t e ∷ ys) (none_left p t n ((reading_of p e).until + 1) (omega arith) ∙ sym (none_left q t n ((reading_of q e).until + 1) (omega arith))))
      ]
    ]
  where
    whole : reading_of p e ≡ reading_of q e → listed_on p t (Some e) (readings_from p t n) ≡ listed_on q t (Some e) (readings_from q t n)
    whole h =
        ap (λ r. let x : Listed = record { begin = e; reported = reported_by_time t r } in x ∷ readings_from p t n (r.until + 1)) h
        ∙ ap (λ ys. reading_from q t e ∷ ys) (ih ((reading_of q e).until + 1))

alike_from : (p q : Line) (t n from : ℕ) → Through t p q → readings_from p t n from ≡ readings_from q t n from
unfolding readings_from Through
alike_from p q t zero from a = refl
alike_from p q t (suc n) from a =
    ap (λ o. listed_on p t o (readings_from p t n)) (first_in_agree (is_fall p) (is_fall q) from (t + 1 - from) (λ u l m. rw (a u (omega (arith, l, m)), a (u - 1) (omega (arith, l, m))) refl))
    ∙ by_first (λ f. alike_from p q t n f a) (first_in (is_fall q) from (t + 1 - from))
  where
    by_first : ((f : ℕ) → readings_from p t n f ≡ readings_from q t n f) → (o : Option ℕ) → listed_on p t o (readings_from p t n) ≡ listed_on q t o (readings_from q t n)
    by_first ih None = refl
    by_first ih (Some e) = step_alike p q t n e a ih

pub lists_alike : ListsAreCausal
unfolding Through
lists_alike t p q a = alike_from p q t (t + 1) 0 a
