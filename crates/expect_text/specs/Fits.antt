-- How a pattern is met by what a line says (own).
use Rattle.std.specs.Prelude.{ℕ, ◌==◌, ◌&&◌, ◌||◌, not, Bool, true, false, if◌then◌else◌, List, [], ◌∷◌}

-- somewhere in the first word, or at its end
abbrev pub in_word : (List ℕ → Bool) → List ℕ → Bool
in_word f [] = f []
in_word f (b ∷ bs) = f (b ∷ bs) || (not (b == 32) && in_word f bs)

-- a byte, and then as the function says
abbrev pub after_byte : ℕ → (List ℕ → Bool) → List ℕ → Bool
after_byte p f [] = false
after_byte p f (b ∷ bs) = (b == p) && f bs

-- Each byte of the pattern stands for itself, `*` for any bytes of a word, also none. A pattern ends with a word.
abbrev pub fits : List ℕ → List ℕ → Bool
fits [] [] = true
fits [] (b ∷ bs) = b == 32
fits (p ∷ ps) text = if p == 42 then in_word (fits ps) text else after_byte p (fits ps) text
