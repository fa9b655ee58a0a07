-- Words after words.
use Rattle.std.proofs.Common.{◌≡◌, List, ℕ, [], ◌++◌, ap, ◌∙◌, append_assoc}

-- six parts where nothing was there
pub six_alone : (a b c d e f g x1 x2 x3 x4 x5 x6 : List ℕ) → a ≡ [] → b ≡ a ++ x1 → c ≡ b ++ x2 → d ≡ c ++ x3 → e ≡ d ++ x4 → f ≡ e ++ x5 → g ≡ f ++ x6 → g ≡ x1 ++ (x2 ++ (x3 ++ (x4 ++ (x5 ++ x6))))
six_alone a b c d e f g x1 x2 x3 x4 x5 x6 none h1 h2 h3 h4 h5 h6 =
    h6 ∙ ap (λ l. l ++ x6) (h5 ∙ ap (λ l. l ++ x5) (h4 ∙ ap (λ l. l ++ x4) (h3 ∙ ap (λ l. l ++ x3) (h2 ∙ ap (λ l. l ++ x2) (h1 ∙ ap (λ l. l ++ x1) none)))))
    ∙ append_assoc (((x1 ++ x2) ++ x3) ++ x4) x5 x6 ∙ append_assoc ((x1 ++ x2) ++ x3) x4 (x5 ++ x6) ∙ append_assoc (x1 ++ x2) x3 (x4 ++ (x5 ++ x6)) ∙ append_assoc x1 x2 (x3 ++ (x4 ++ (x5 ++ x6)))
