-- Words of a line (own).
use Rattle.std.specs.Prelude.{◌≡◌, ℕ, ◌==◌, List, [], ◌∷◌, Option, Some, None, find}
use Rattle.std.specs.List.{slice_split, join_with_byte, count_by, before_first}
use Rattle.std.specs.Str.{bytes_eq}

-- the words of a line, one space apart
abbrev pub words_of : List ℕ → List (List ℕ)
words_of line = slice_split (λ b. b == 32) line

-- the words of the part after a word, where there is one
abbrev pub words_after : Option (List ℕ) → List (List ℕ)
words_after None = []
words_after (Some rest) = words_of rest

-- the words, where they are so many
abbrev pub one_of : List (List ℕ) → Option (List ℕ)
one_of (a ∷ []) = Some a
one_of (a ∷ b ∷ more) = None
one_of [] = None

abbrev pub two_of : List (List ℕ) → Option (List ℕ × List ℕ)
two_of (a ∷ b ∷ []) = Some (a, b)
two_of (a ∷ b ∷ c ∷ more) = None
two_of (a ∷ []) = None
two_of [] = None

abbrev pub three_of : List (List ℕ) → Option (List ℕ × List ℕ × List ℕ)
three_of (a ∷ b ∷ c ∷ []) = Some (a, b, c)
three_of (a ∷ b ∷ c ∷ d ∷ more) = None
three_of (a ∷ b ∷ []) = None
three_of (a ∷ []) = None
three_of [] = None

-- the text of which these are the words
abbrev pub text_of : List (List ℕ) → List ℕ
text_of words = join_with_byte 32 words

-- the spaces before the first quote: a quote and all after it belong to one word
abbrev pub spaces_unquoted : List ℕ → ℕ
spaces_unquoted text = count_by (λ b. b == 32) (before_first (λ b. b == 34) text)

-- what is found in a list by a word has that word
abbrev pub FoundByWord : Type 0 → Type 0
FoundByWord T = (text : T → List ℕ) (xs : List T) (word : List ℕ) (found : T) → find (λ x. bytes_eq (text x) word) xs ≡ Some found → word ≡ text found
