-- Lines of a text, and bytes that they lack.
use Rattle.std.proofs.Common.{◌≡◌, ℕ, ◌^◌, ◌<◌, ◌==◌, ◌&&◌, not, Bool, true, false, List, [], ◌∷◌, ◌++◌, length, refl, ap, ◌∙◌, arith}
use Rattle.std.specs.Fmt.{decimal}
use Rattle.std.specs.List.{slice_split, list_all}
use Rattle.std.specs.Char.{digit_value}
use Rattle.std.specs.Str.Parse.{AllDigits}
use Rattle.std.proofs.lemmas.Fmt.{decimal_is_IsNumeral}
use Rattle.std.proofs.lemmas.Bool.Decides.{nat_tests}
use Rattle.std.proofs.lemmas.Bool.{false≢true}
use Rattle.std.proofs.lemmas.List.Splits.{slice_split_at, length-slice_split}
use Rattle.std.proofs.lemmas.List.Elements.{All-cons}
use Rattle.text_core.specs.Lines.{lines_of, without_empty_end}
use Rattle.capture_core.specs.Texts.{Lacks}

pub none_lack : (p : ℕ → Bool) → Lacks p []
none_lack p = λ k d h. absurd (omega arith)

pub more_lack : (p : ℕ → Bool) (c : ℕ) (bytes : List ℕ) → p c ≡ false → Lacks p bytes → Lacks p (c ∷ bytes)
more_lack p c bytes h more = All-cons (λ c. p c ≡ false) c bytes h more

-- digits
pub digits_lack : (p : ℕ → Bool) (ds : List ℕ) → ((c : ℕ) → digit_value c < 10 → p c ≡ false) → AllDigits 10 ds → Lacks p ds
digits_lack p [] rule h = none_lack p
digits_lack p (c ∷ cs) rule h = more_lack p c cs (rule c h.0) (digits_lack p cs rule h.1)

pub number_lacks : (p : ℕ → Bool) (n : ℕ) → n < 2 ^ 64 → ((c : ℕ) → digit_value c < 10 → p c ≡ false) → Lacks p (decimal n)
number_lacks p n small rule = digits_lack p (decimal n) rule (decimal_is_IsNumeral n small).0.1

digit_plain : (c : ℕ) → digit_value c < 10 → (c == 10) ≡ false
digit_plain c h = grind (arith, nat_tests)

pub number_plain : (n : ℕ) → n < 2 ^ 64 → Lacks (λ c. c == 10) (decimal n)
number_plain n small = number_lacks (λ c. c == 10) n small digit_plain

-- a text that is written out
shown_on : (p : ℕ → Bool) (c : ℕ) (cs : List ℕ) (b : Bool) → p c ≡ b → (not b && list_all (λ c. not (p c)) cs) ≡ true
    → (list_all (λ c. not (p c)) cs ≡ true → Lacks p cs) → Lacks p (c ∷ cs)
shown_on p c cs true e h more = absurd (false≢true h)
shown_on p c cs false e h more = more_lack p c cs e (more h)

pub shown : (p : ℕ → Bool) (text : List ℕ) → list_all (λ c. not (p c)) text ≡ true → Lacks p text
shown p [] h = none_lack p
shown p (c ∷ cs) h = shown_on p c cs (p c) refl h (shown p cs)

-- a line before the rest of a text
more_parts : (x : List ℕ) (ys : List (List ℕ)) → 0 < length ys → without_empty_end (x ∷ ys) ≡ x ∷ without_empty_end ys
more_parts x [] h = absurd (omega arith)
more_parts x (y ∷ ys) h = refl

pub line_before : (line rest : List ℕ) → Lacks (λ c. c == 10) line → lines_of (line ++ 10 ∷ rest) ≡ line ∷ lines_of rest
line_before line rest plain =
    ap without_empty_end (slice_split_at (λ b. b == 10) line 10 rest plain refl)
    ∙ more_parts line (slice_split (λ b. b == 10) rest) (omega (arith, length-slice_split (λ b. b == 10) rest))
