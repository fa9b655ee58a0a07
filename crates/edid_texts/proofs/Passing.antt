-- The words of a line are looked at one after the other.
use Rattle.std.proofs.Common.{◌≡◌, ℕ, zero, suc, ◌+◌, ◌-◌, ◌%◌, ◌^◌, ◌<◌, ◌≤◌, ◌==◌, Bool, true, false, ◌&&◌, nat_le, cond, List, [], ◌∷◌, ◌++◌, length, drop, get_or, ap, subst, arith, refl, sym, ◌∙◌}
use Rattle.std.proofs.lemmas.Bool.{and_parts, eqb-true, leb-true}
use borrow.Author.Tests.{tests}
use Rattle.text_core.specs.Words.{words_of}
use Rattle.edid_text_lines.specs.declared.line.Keyword.{Keyword}
use Rattle.edid_text_lines.specs.declared.line.Keyword.TheVariants.{Made, Size, Chroma, Standard, Timing, Hdmi}
use Rattle.edid_text_lines.specs.Formed.{form_of}
use Rattle.edid_text_lines.specs.Text.{word_text}
use Rattle.edid_texts.specs.Refusal.{first_word, word_count, Passes, IsFirstUnfit, IsFieldFault}
use Rattle.edid_texts.specs.Words.{may_begin, has_words, timing_most, number_fits, FitsAt}
use Rattle.edid_texts.specs.declared.place.NextLine.{NextLine}
use Rattle.edid_texts.proofs.FirstWords.{enough_words}
use Rattle.edid_texts.proofs.Fits.{NumberAt}

clash : false ≡ true → ⊥
clash h = cc

-- the numbers of lines are small
abbrev AreSmall : List ℕ → Type 0
AreSmall [] = Unit {0}
AreSmall (x ∷ xs) = (x < 2 ^ 32) × AreSmall xs

small_at : (xs : List ℕ) (i : ℕ) → AreSmall xs → get_or xs i 0 < 2 ^ 32
small_at [] i h = omega arith
small_at (x ∷ xs) zero h = h.0
small_at (x ∷ xs) (suc i) h = small_at xs i h.1

small_timing : (i : ℕ) → get_or timing_most i 0 < 2 ^ 32
small_timing i =
    small_at timing_most i (
      omega arith,
      (omega arith, (omega arith, (omega arith, (omega arith, (omega arith, (omega arith, (omega arith, (omega arith, (omega arith, (omega arith, (omega arith, (omega arith, tt)))))))))))),
    )

at_most : (n most : ℕ) → nat_le n most ≡ true → most < 2 ^ 32 → n < 2 ^ 32
at_most n most h less = let k = leb-true _ _ h in omega (arith, k, less)

pub small_number : (w : Keyword) (i n : ℕ) → number_fits w i n ≡ true → n < 2 ^ 32
small_number Made i n h = at_most n 255 h (omega arith)
small_number Size i n h = at_most n 255 h (omega arith)
small_number Chroma i n h = at_most n 1023 h (omega arith)
small_number Standard i n h = at (i == 1) h
  where
    at : (v : Bool) → cond v (nat_le 248 n && nat_le n 2288 && (n % 8 == 0)) (nat_le n 3) ≡ true → n < 2 ^ 32
    at true h = at_most n 2288 (and_parts (nat_le 248 n) (nat_le n 2288) (and_parts (nat_le 248 n && nat_le n 2288) (n % 8 == 0) h).0).1 (omega arith)
    at false h = at_most n 3 h (omega arith)
small_number Timing i n h = at_most n (get_or timing_most (i - 1) 0) (and_parts (nat_le (cond (i == 1) 1 0) n) (nat_le n (get_or timing_most (i - 1) 0)) h).1 (small_timing (i - 1))
small_number w i n h = absurd (clash h)

-- a word of a line other than `hdmi` is a number
pub is_number : (w : Keyword) (i : ℕ) (text : List ℕ) → (w ≡ Hdmi → ⊥) → FitsAt w i text → NumberAt w i text
is_number Hdmi i text other f = absurd (other refl)
is_number w i text other f = f

-- what is left to be looked at
pub next_is : (ws : List (List ℕ)) (i : ℕ) (x : List ℕ) (xs : List (List ℕ)) → x ∷ xs ≡ drop i ws → (get_or ws i [] ≡ x) × (xs ≡ drop (i + 1) ws)
next_is [] zero x xs e = let len = ap length e in absurd (omega (arith, len))
next_is [] (suc i) x xs e = let len = ap length e in absurd (omega (arith, len))
next_is (y ∷ ys) zero x xs e = (ap (λ ws. get_or ws 0 []) (sym e), ap (drop 1) e)
next_is (y ∷ ys) (suc i) x xs e =
    let n = next_is ys i x xs e in
    let same : suc (i + 1) ≡ suc i + 1 = omega arith in
    (n.0, n.1 ∙ ap (λ k. drop k (y ∷ ys)) same)

pub none_left : (ws : List (List ℕ)) (i : ℕ) → [] ≡ drop i ws → length ws ≤ i
none_left [] i e = omega arith
none_left (y ∷ ys) zero e = let len = ap length e in absurd (omega (arith, len))
none_left (y ∷ ys) (suc i) e = let less = none_left ys i e in omega (arith, less)

before : (i k : ℕ) → i < k + 1 → (i == k) ≡ false → i < k
before i k less e = grind (arith, tests)

-- each word so far passes
abbrev pub PassesTo : Keyword → List ℕ → ℕ → Type 0
PassesTo w front k = (i : ℕ) → 1 ≤ i → i < k → Passes w front i

pub more_pass : (w : Keyword) (front : List ℕ) (k : ℕ) → PassesTo w front k → Passes w front k → PassesTo w front (k + 1)
more_pass w front k f p i least less = cases (i == k) refl
  where
    cases : (v : Bool) → (i == k) ≡ v → Passes w front i
    cases true e = let same : i ≡ k = eqb-true _ _ e in subst (Passes w front) (sym same) p
    cases false e = f i least (before i k less e)

pub stops_at_end : (w : Keyword) (front : List ℕ) (k : ℕ) → (k + 1 < word_count front → ⊥) → Passes w front k → ⊥
stops_at_end w front k h p = h p.0

pub stops_at : (w : Keyword) (front : List ℕ) (k : ℕ) (x : List ℕ) → get_or (words_of front) k [] ≡ x → (FitsAt w k x → ⊥) → Passes w front k → ⊥
stops_at w front k x e h p = h (subst (FitsAt w k) e p.1)

-- a line that may stand, and its first word that does not
pub field_fault : (place : NextLine) (line : List ℕ) (w : Keyword) (front : List ℕ) (k : ℕ) → line ≡ front ++ 10 ∷ [] → word_text w ≡ first_word front → may_begin place w ≡ true → has_words (form_of w) (word_count front) ≡ true
    → IsFirstUnfit w front k → IsFieldFault place line k
field_fault place line w front k ended first begins words unfit =
    record { stands = record { word = w; front = front; ended = ended; first = sym first; begins = begins; words = words }; unfit = unfit }

-- there are words enough
pub never_ends : (front : List ℕ) (k : ℕ) → [] ≡ drop k (words_of front) → k + 1 < word_count front → ⊥
never_ends front k e h = let none = none_left (words_of front) k e in let enough = enough_words front in omega (arith, none, enough, h)
