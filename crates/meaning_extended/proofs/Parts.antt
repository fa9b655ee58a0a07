-- Words after words.
use Rattle.std.proofs.Common.{◌≡◌, List, ℕ, [], ◌++◌, ap, ◌∙◌, append_assoc}

-- two parts, each by another name
pub both : (a b x y : List ℕ) → a ≡ x → b ≡ y → a ++ b ≡ x ++ y
both a b x y e f = ap (λ l. l ++ b) e ∙ ap (λ l. x ++ l) f

-- four parts after what was there
pub four : (a b c d e x1 x2 x3 x4 : List ℕ) → b ≡ a ++ x1 → c ≡ b ++ x2 → d ≡ c ++ x3 → e ≡ d ++ x4 → e ≡ a ++ (x1 ++ (x2 ++ (x3 ++ x4)))
four a b c d e x1 x2 x3 x4 h1 h2 h3 h4 =
    h4 ∙ ap (λ l. l ++ x4) (h3 ∙ ap (λ l. l ++ x3) (h2 ∙ ap (λ l. l ++ x2) h1))
    ∙ append_assoc ((a ++ x1) ++ x2) x3 x4 ∙ append_assoc (a ++ x1) x2 (x3 ++ x4) ∙ append_assoc a x1 (x2 ++ (x3 ++ x4))

-- and where nothing was there
pub four_alone : (a b c d e x1 x2 x3 x4 : List ℕ) → a ≡ [] → b ≡ a ++ x1 → c ≡ b ++ x2 → d ≡ c ++ x3 → e ≡ d ++ x4 → e ≡ x1 ++ (x2 ++ (x3 ++ x4))
four_alone a b c d e x1 x2 x3 x4 none h1 h2 h3 h4 = four a b c d e x1 x2 x3 x4 h1 h2 h3 h4 ∙ ap (λ l. l ++ (x1 ++ (x2 ++ (x3 ++ x4)))) none
