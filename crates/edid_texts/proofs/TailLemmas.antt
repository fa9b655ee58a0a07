-- Tails and their zeros.
use Rattle.std.proofs.Common.{◌≡◌, ℕ, zero, suc, ◌-◌, ◌≤◌, ◌==◌, Bool, true, false, ◌&&◌, ◌||◌, not, nat_le, cond, List, [], ◌∷◌, ◌++◌, length, replicate, slice_index, ap, arith, refl, sym, ◌∙◌, length-append}
use Rattle.std.proofs.lemmas.Bool.{eqb-true, leb-true}
use Rattle.std.proofs.lemmas.List.{length-replicate}
use Rattle.std.proofs.lemmas.Grind.{common_steps}
use borrow.Author.Tests.{tests}
use Rattle.edid_cta.specs.Cta.{is_tail}
use Rattle.edid_texts.specs.Tails.{padded_bytes, is_trimmed, fills, ends}
use Rattle.edid_texts.specs.Lines.{bytes_without_zeros}

pub both : (a b : Bool) → (a && b) ≡ true → (a ≡ true) × (b ≡ true)
both true b h = (refl, h)
both false b h = cc

pub zeros : (n : ℕ) → bytes_without_zeros (replicate n 0) ≡ []
zeros zero = refl
zeros (suc n) = rw (zeros n) refl

-- zeros after the bytes do not count
pub trimmed_zeros : (t : List ℕ) (n : ℕ) → bytes_without_zeros (t ++ replicate n 0) ≡ bytes_without_zeros t
trimmed_zeros [] n = zeros n
trimmed_zeros (b ∷ bs) n = rw (trimmed_zeros bs n) refl

pub trimmed_same : (t : List ℕ) → is_trimmed t ≡ true → bytes_without_zeros t ≡ t
trimmed_same [] h = refl
trimmed_same (b ∷ []) h =
    let some : (b == 0) ≡ false = grind (arith, tests) in rw some refl
trimmed_same (b ∷ c ∷ bs) h =
    let rest : bytes_without_zeros (c ∷ bs) ≡ c ∷ bs = trimmed_same (c ∷ bs) (grind (arith, tests, common_steps)) in
    ap (λ xs. cond ((b == 0) && (length xs == 0)) [] (b ∷ xs)) rest ∙ long b c bs
  where
    long : (b c : ℕ) (bs : List ℕ) → cond ((b == 0) && (length (c ∷ bs) == 0)) [] (b ∷ c ∷ bs) ≡ b ∷ c ∷ bs
    long b c bs = let some : (length (c ∷ bs) == 0) ≡ false = grind (arith, tests) in grind (arith, tests, some)

pub length-padded : (left : ℕ) (t : List ℕ) → length t ≤ left → length (padded_bytes left t) ≡ left
length-padded left t h = omega (arith, length-append t (replicate (left - length t) 0), length-replicate {A = ℕ} (left - length t) 0)

pub record Fills (left : ℕ) (t : List ℕ) : Type 0 where
  pub fits : length t ≤ left
  pub same : bytes_without_zeros (padded_bytes left t) ≡ t

pub fills_is : (left : ℕ) (t : List ℕ) → fills left t ≡ true → Fills left t
fills_is left t h =
    let two = both (nat_le (length t) left) (is_trimmed t) h in
    record { fits = leb-true _ _ two.0; same = trimmed_zeros t (left - length t) ∙ trimmed_same t two.1 }

pub ends_is : (left : ℕ) (t : List ℕ) → ends left t ≡ true → Fills left t × (is_tail (padded_bytes left t) ≡ true)
ends_is left t h = let all = both (fills left t) (is_tail (padded_bytes left t)) h in (fills_is left t all.0, all.1)

-- the other way
pub trimmed_le : (t : List ℕ) → length (bytes_without_zeros t) ≤ length t
trimmed_le [] = omega arith
trimmed_le (b ∷ bs) = elim ((b == 0) && (length (bytes_without_zeros bs) == 0)) as (λ v. length (cond v [] (b ∷ bytes_without_zeros bs)) ≤ suc (length bs)) [
  | true ↦ omega arith
  | false ↦ let rest = trimmed_le bs in omega (arith, rest)
]

empty : (xs : List ℕ) → (length xs == 0) ≡ true → xs ≡ []
empty [] h = refl
empty (x ∷ xs) h = let e = eqb-true _ _ h in absurd (omega (arith, e))

pub padded_trimmed : (t : List ℕ) → padded_bytes (length t) (bytes_without_zeros t) ≡ t
padded_trimmed [] = refl
padded_trimmed (b ∷ bs) = let rest = padded_trimmed bs in let least = trimmed_le bs in cases rest ((b == 0) && (length (bytes_without_zeros bs) == 0)) refl
  where
    cases : padded_bytes (length bs) (bytes_without_zeros bs) ≡ bs → (v : Bool) → ((b == 0) && (length (bytes_without_zeros bs) == 0)) ≡ v → padded_bytes (suc (length bs)) (cond v [] (b ∷ bytes_without_zeros bs)) ≡ b ∷ bs
    cases rest true h =
        let p = both (b == 0) (length (bytes_without_zeros bs) == 0) h in
        let zero : b ≡ 0 = eqb-true _ _ p.0 in
        let none = empty (bytes_without_zeros bs) p.1 in
        let less : replicate (length bs - 0) 0 ≡ bs = ap (λ xs. padded_bytes (length bs) xs) (sym none) ∙ rest in
        let n : length bs - 0 ≡ length bs = omega arith in
        let all : replicate (length bs) 0 ≡ bs = ap (λ k. replicate k 0) (sym n) ∙ less in
        let m : suc (length bs) - 0 ≡ suc (length bs) = omega arith in
        ap (λ k. replicate k 0) m ∙ two zero all
      where
        two : b ≡ 0 → replicate (length bs) 0 ≡ bs → 0 ∷ replicate (length bs) 0 ≡ b ∷ bs
        two e f = cc
    cases rest false h =
        let n : suc (length bs) - suc (length (bytes_without_zeros bs)) ≡ length bs - length (bytes_without_zeros bs) = omega arith in
        ap (λ k. b ∷ (bytes_without_zeros bs ++ replicate k 0)) n ∙ ap (λ xs. b ∷ xs) rest

last_cons : (b : ℕ) (xs : List ℕ) → is_trimmed xs ≡ true → ((b == 0) && (length xs == 0)) ≡ false → is_trimmed (b ∷ xs) ≡ true
last_cons b [] h e = let some : (b == 0) ≡ false = grind (arith, tests) in rw some refl
last_cons b (x ∷ xs) h e =
    let n : suc (suc (length xs)) - 1 ≡ suc (length xs) = omega arith in
    let m : suc (length xs) - 1 ≡ length xs = omega arith in
    let none : (length (x ∷ xs) == 0) ≡ false = grind (arith, tests) in
    let none2 : (length (b ∷ x ∷ xs) == 0) ≡ false = grind (arith, tests) in
    ap (λ k. (length (b ∷ x ∷ xs) == 0) || not (slice_index (b ∷ x ∷ xs) k == 0)) n
    ∙ ap (λ v. v || not (slice_index (x ∷ xs) (length xs) == 0)) (none2 ∙ sym none)
    ∙ ap (λ k. (length (x ∷ xs) == 0) || not (slice_index (x ∷ xs) k == 0)) (sym m) ∙ h

pub trimmed_is : (t : List ℕ) → is_trimmed (bytes_without_zeros t) ≡ true
trimmed_is [] = refl
trimmed_is (b ∷ bs) = let rest = trimmed_is bs in cases rest ((b == 0) && (length (bytes_without_zeros bs) == 0)) refl
  where
    cases : is_trimmed (bytes_without_zeros bs) ≡ true → (v : Bool) → ((b == 0) && (length (bytes_without_zeros bs) == 0)) ≡ v → is_trimmed (cond v [] (b ∷ bytes_without_zeros bs)) ≡ true
    cases rest true h = refl
    cases rest false h = last_cons b (bytes_without_zeros bs) rest h

pub filled_by : (left : ℕ) (tail : List ℕ) → length tail ≡ left → fills left (bytes_without_zeros tail) ≡ true
filled_by left tail h =
    let least = trimmed_le tail in
    let fits : nat_le (length (bytes_without_zeros tail)) left ≡ true = grind (arith, tests) in
    two _ _ fits (trimmed_is tail)
  where
    two : (a b : Bool) → a ≡ true → b ≡ true → (a && b) ≡ true
    two a b p q = rw (p, q) refl

pub ended_by : (left : ℕ) (tail : List ℕ) → length tail ≡ left → is_tail tail ≡ true → ends left (bytes_without_zeros tail) ≡ true
ended_by left tail h e =
    let whole : padded_bytes left (bytes_without_zeros tail) ≡ tail = ap (λ n. padded_bytes n (bytes_without_zeros tail)) (sym h) ∙ padded_trimmed tail in
    let last : is_tail (padded_bytes left (bytes_without_zeros tail)) ≡ true = ap is_tail whole ∙ e in
    two _ _ (filled_by left tail h) last
  where
    two : (a b : Bool) → a ≡ true → b ≡ true → (a && b) ≡ true
    two a b p q = rw (p, q) refl
