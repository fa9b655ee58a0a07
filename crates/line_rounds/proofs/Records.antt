-- The wave of a line as it is recorded microsecond by microsecond.
use Rattle.std.proofs.Common.{◌≡◌, ℕ, zero, suc, ◌+◌, ◌-◌, ◌<◌, ◌≤◌, Bool, true, false, not, ◌&&◌, ◌||◌, nat_lt, nat_le, List, [], ◌∷◌, ◌++◌, inl, inr, Some, None, refl, arith, ap, ◌∙◌, sym}
use Rattle.std.proofs.lemmas.List.Folds.{list_any-append}
use Rattle.std.proofs.lemmas.Bool.{cases_lt}
use Rattle.std.proofs.lemmas.Bool.Decides.{nat_tests}
use Rattle.line_wave.specs.declared.Stretch.{Stretch}
use Rattle.line_wave.specs.Line.{Line, line_of, covers, was_low, is_fall, IsWaveFrom}
use Rattle.line_rounds.specs.Recorded.{NoLine, RecordIsReady, RecordStep, RecordFirst, EndBefore, AreFalls}

pub no_line : NoLine
no_line t u [] e l = refl
no_line t u (s ∷ ss) e l = let x : covers s u ≡ false = (let h = e.0 in grind (arith, nat_tests)) in rw x (no_line t u ss e.1 l)

later_ends : (t u : ℕ) (ss : List Stretch) → t ≤ u → EndBefore t ss → EndBefore u ss
later_ends t u [] l e = tt
later_ends t u (s ∷ ss) l e = (omega (arith, e.0), later_ends t u ss l e.1)

later_falls : (low : Line) (t u : ℕ) (ss : List Stretch) → t ≤ u → AreFalls low t ss → AreFalls low u ss
later_falls low t u [] l e = tt
later_falls low t u (s ∷ ss) l e = (omega (arith, e.0), e.1, later_falls low t u ss l e.2)

wave_push : (ss : List Stretch) (from s t : ℕ) → IsWaveFrom from ss → EndBefore s ss → from ≤ s → s < t → IsWaveFrom from (ss ++ record { from = s; to = t } ∷ [])
wave_push [] from s t w e l m = (l, m, tt)
wave_push (x ∷ ss) from s t w e l m = (w.0, w.1, wave_push ss (x.to + 1) s t w.2 e.1 (omega (arith, e.0)) m)

ends_push : (ss : List Stretch) (s t u : ℕ) → EndBefore s ss → s ≤ u → t < u → EndBefore u (ss ++ record { from = s; to = t } ∷ [])
ends_push [] s t u e l m = (m, tt)
ends_push (x ∷ ss) s t u e l m = (omega (arith, e.0), ends_push ss s t u e.1 l m)

falls_push : (low : Line) (ss : List Stretch) (s t u : ℕ) → AreFalls low u ss → s < u → is_fall low s ≡ true → AreFalls low u (ss ++ record { from = s; to = t } ∷ [])
falls_push low [] s t u f l m = (l, m, tt)
falls_push low (x ∷ ss) s t u f l m = (f.0, f.1, falls_push low ss s t u f.2 l m)

pub or_false : (b : Bool) → (b || false) ≡ b
or_false true = refl
or_false false = refl

or_true : (b : Bool) → (b || true) ≡ true
or_true true = refl
or_true false = refl

-- a stretch may be added where the line rises
pub is_ready : RecordIsReady
is_ready low t wave None r = tt
is_ready low t wave (Some s) r = wave_push wave 0 s t r.order r.ends (omega arith) r.begins.0

was_next : (low : Line) (t : ℕ) (b : Bool) → low t ≡ b → was_low low (t + 1) ≡ b
was_next low t b h = ap (λ c. c && low (t + 1 - 1)) (let x : nat_lt 0 (t + 1) ≡ true = grind (arith, nat_tests) in x) ∙ ap low (let x : t + 1 - 1 ≡ t = omega arith in x) ∙ h

pub record_step : RecordStep
record_step low t wave None true r h = record {
  same = λ u l. elim (cases_lt u t) [
    | inl lt ↦ r.same u lt ∙ ap (λ c. line_of wave u || c) (let x : false ≡ nat_le t u = grind (arith, nat_tests) in x)
    | inr ge ↦ (let e : u ≡ t = omega arith in ap low e ∙ h ∙ sym (ap (λ c. line_of wave u || c) (let x : nat_le t u ≡ true = grind (arith, nat_tests) in x) ∙ or_true (line_of wave u)))
  ];
  order = r.order;
  ends = r.ends;
  falls = later_falls low t (t + 1) wave (omega arith) r.falls;
  begins = (omega arith, ap (λ c. low t && not c) r.was ∙ ap (λ c. c && true) h);
  was = was_next low t true h;
}
record_step low t wave None false r h = record {
  same = λ u l. elim (cases_lt u t) [
    | inl lt ↦ r.same u lt
    | inr ge ↦ (let e : u ≡ t = omega arith in ap low e ∙ h ∙ sym (or_false (line_of wave u) ∙ no_line t u wave r.ends (omega arith)))
  ];
  order = r.order;
  ends = later_ends t (t + 1) wave (omega arith) r.ends;
  falls = later_falls low t (t + 1) wave (omega arith) r.falls;
  begins = tt;
  was = was_next low t false h;
}
record_step low t wave (Some s) true r h = record {
  same = λ u l. elim (cases_lt u t) [
    | inl lt ↦ r.same u lt
    | inr ge ↦ (let e : u ≡ t = omega arith in let f : s < t = r.begins.0 in ap low e ∙ h ∙ sym (ap (λ c. line_of wave u || c) (let x : nat_le s u ≡ true = grind (arith, nat_tests) in x) ∙ or_true (line_of wave u)))
  ];
  order = r.order;
  ends = r.ends;
  falls = later_falls low t (t + 1) wave (omega arith) r.falls;
  begins = (omega (arith, r.begins.0), r.begins.1);
  was = was_next low t true h;
}
record_step low t wave (Some s) false r h = record {
  same = λ u l. elim (cases_lt u t) [
    | inl lt ↦ r.same u lt ∙ ap (λ c. line_of wave u || c) (let x : nat_le s u ≡ (nat_le s u && nat_lt u t) = within u lt (nat_le s u) in x ∙ sym (or_false (covers (record { from = s; to = t }) u))) ∙ pushed u ∙ sym (or_false _)
    | inr ge ↦ (let e : u ≡ t = omega arith in let f : s < t = r.begins.0 in ap low e ∙ h
        ∙ sym (or_false _ ∙ sym (pushed u) ∙ ap (λ c. c || (covers (record { from = s; to = t }) u || false)) (no_line s u wave r.ends (omega arith))
        ∙ or_false (covers (record { from = s; to = t }) u) ∙ (let x : (nat_le s u && nat_lt u t) ≡ false = grind (arith, nat_tests) in x)))
  ];
  order = wave_push wave 0 s t r.order r.ends (omega arith) r.begins.0;
  ends = ends_push wave s t (t + 1) r.ends (omega (arith, r.begins.0)) (omega arith);
  falls = falls_push low wave s t (t + 1) (later_falls low t (t + 1) wave (omega arith) r.falls) (omega (arith, r.begins.0)) r.begins.1;
  begins = tt;
  was = was_next low t false h;
}
  where
    pushed : (u : ℕ) → (line_of wave u || (covers (record { from = s; to = t }) u || false)) ≡ line_of (wave ++ record { from = s; to = t } ∷ []) u
    pushed u = sym (list_any-append (λ x. covers x u) wave (record { from = s; to = t } ∷ []))

    within : (u : ℕ) → u < t → (b : Bool) → b ≡ (b && nat_lt u t)
    within u l true = let x : true ≡ nat_lt u t = grind (arith, nat_tests) in x
    within u l false = refl

-- nothing was low so far
pub record_first : RecordFirst
record_first low t q = record { same = q; order = tt; ends = tt; falls = tt; begins = tt; was = by_time t q }
  where
    and_no : (b : Bool) → (b && false) ≡ false
    and_no true = refl
    and_no false = refl

    by_time : (n : ℕ) → ((u : ℕ) → u < n → low u ≡ false) → was_low low n ≡ false
    by_time zero q2 = let x : nat_lt 0 zero ≡ false = grind (arith, nat_tests) in rw x refl
    by_time (suc n) q2 = ap (λ c. nat_lt 0 (suc n) && c) (q2 (suc n - 1) (omega arith)) ∙ and_no (nat_lt 0 (suc n))
