-- Bytes in words, one after another.
use Rattle.std.proofs.Common.{◌≡◌, ℕ, ◌+◌, ◌-◌, ◌<◌, List, [], ◌∷◌, length, take, drop, position, Option, Some, None, IsSome, refl, ap, arith}
use Rattle.text_core.proofs.LineLemmas.{split_none, split_some}
use Rattle.edid_dump.specs.declared.spelled.Spelling.{Spelling}
use Rattle.edid_dump.specs.declared.spelled.Spelling.TheVariants.{Pair, Escape, Number}
use Rattle.edid_dump.specs.Digits.{onto}
use Rattle.edid_dump.specs.Spelled.{byte_in, bytes_of, is_sign, with_byte, with_word, words_bytes}

-- the last word of a text, and one before a sign
pub word_last : (s : Spelling) (text : List ℕ) → position (is_sign s) text ≡ None → words_bytes s text ≡ with_word s text (words_bytes s [])
word_last s text h = ap (bytes_of s) (split_none (is_sign s) text h)

pub word_first : (s : Spelling) (text : List ℕ) (i : ℕ) → position (is_sign s) text ≡ Some i
    → words_bytes s text ≡ with_word s (take i text) (words_bytes s (take (length text - (i + 1)) (drop (i + 1) text)))
word_first s text i h = ap (bytes_of s) (split_some (is_sign s) text i h)

-- no text
pub words_over : (s : Spelling) (text : List ℕ) → text ≡ [] → words_bytes s text ≡ Some []
words_over s text h = ap (words_bytes s) h

-- an empty word spells none
no_byte : (s : Spelling) → byte_in s [] ≡ None
no_byte Pair = refl
no_byte Escape = refl
no_byte Number = refl

pub word_counted : (s : Spelling) (word : List ℕ) (b : ℕ) (more : Option (List ℕ)) → byte_in s word ≡ Some b → with_word s word more ≡ onto b more
word_counted s [] b more h = let e : byte_in s [] ≡ None = no_byte s in let no : ⊥ = cc in absurd no
word_counted s (x ∷ word) b more h = ap (λ o. with_byte o more) h

pub word_unknown : (s : Spelling) (word : List ℕ) (more : Option (List ℕ)) → 0 < length word → byte_in s word ≡ None → with_word s word more ≡ None
word_unknown s [] more some h = absurd (omega arith)
word_unknown s (x ∷ word) more some h = ap (λ o. with_byte o more) h

pub word_empty : (s : Spelling) (word : List ℕ) (more : Option (List ℕ)) → length word ≡ 0 → with_word s word more ≡ more
word_empty s [] more h = refl
word_empty s (x ∷ word) more h = absurd (omega arith)

none_some : (o : Option (List ℕ)) → o ≡ None → IsSome o → ⊥
none_some None h some = cc
none_some (Some bytes) h some = cc

-- where the words can be read, one without a byte is empty
pub word_skipped : (s : Spelling) (word : List ℕ) (more : Option (List ℕ)) → byte_in s word ≡ None → IsSome (with_word s word more) → with_word s word more ≡ more
word_skipped s [] more h some = refl
word_skipped s (x ∷ word) more h some = absurd (none_some (with_word s (x ∷ word) more) (ap (λ o. with_byte o more) h) some)
