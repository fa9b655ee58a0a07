-- The first line at fault: the first that no accepted text has there after the lines before it (own).
use Rattle.std.specs.Prelude.{◌≡◌, ℕ, suc, ◌+◌, ◌<◌, ◌≤◌, ◌==◌, true, nat_lt, get_or, if◌then◌else◌, List, [], ◌∷◌, ◌++◌, length, map, take}
use Rattle.std.specs.List.{position_or_len}
use Rattle.text_core.specs.Words.{spaces_unquoted, words_of}
use Rattle.edid_text_lines.specs.Formed.{form_of}
use Rattle.edid_texts.specs.Lines.{edid_lines}
use Rattle.edid_text_lines.specs.Text.{word_text, line_text}
use Rattle.edid_texts.specs.Words.{may_begin, has_words, FitsAt}
use Rattle.edid_core.specs.declared.edid.Edid.{Edid}
use Rattle.edid_text_lines.specs.declared.line.Keyword.{Keyword}
use Rattle.edid_texts.specs.declared.parse.TextError.{TextError}
use Rattle.edid_texts.specs.declared.parse.TextError.TheVariants.{Syntax, Field, Memory}
use Rattle.edid_texts.specs.declared.place.NextLine.{NextLine}

-- the lines of an accepted text
abbrev pub line_texts : Edid → List (List ℕ)
line_texts e = map line_text (edid_lines e)

-- an accepted text begins with these lines
abbrev pub SomeBegins : List (List ℕ) → Type 0
SomeBegins lines = (e : Edid) × ((more : List (List ℕ)) × (line_texts e ≡ lines ++ more))

-- no accepted text has the first of the other lines after these; where there is none, none ends here
abbrev pub NoneFollows : List (List ℕ) → List (List ℕ) → Type 0
NoneFollows before [] = (e : Edid) → line_texts e ≡ before → ⊥
NoneFollows before (line ∷ _) = (e : Edid) (more : List (List ℕ)) → line_texts e ≡ before ++ line ∷ more → ⊥

pub record IsFirstBad (lines : List (List ℕ)) (n : ℕ) : Type 0 where
  pub before : List (List ℕ)
  pub after : List (List ℕ)
  pub all : lines ≡ before ++ after
  pub count : n ≡ length before + 1
  pub some : SomeBegins before
  pub none : NoneFollows before after

-- what stands before the first space
abbrev pub first_word : List ℕ → List ℕ
first_word front = take (position_or_len (λ c. c == 32) front) front

-- the words, a space between them; a quote and all after it are one
abbrev pub word_count : List ℕ → ℕ
word_count front = suc (spaces_unquoted front)

-- two lines with a line feed, the same first word and as many words
pub record AreAlike (line other : List ℕ) : Type 0 where
  pub front : List ℕ
  pub other_front : List ℕ
  pub ended : line ≡ front ++ 10 ∷ []
  pub other_ended : other ≡ other_front ++ 10 ∷ []
  pub word : first_word front ≡ first_word other_front
  pub words : word_count front ≡ word_count other_front

-- an accepted text has a line like this one after these
abbrev pub HasAlike : List (List ℕ) → List ℕ → Type 0
HasAlike before line = (e : Edid) × ((other : List ℕ) × ((more : List (List ℕ)) × ((line_texts e ≡ before ++ other ∷ more) × AreAlike line other)))

-- the first words of a line; all of it, where it has no more
abbrev pub first_words : ℕ → List ℕ → List (List ℕ)
first_words k front = if nat_lt k (word_count front) then take k (words_of front) else front ∷ []

-- an accepted text has a line like this one with the same first words after these
abbrev pub HasLike : ℕ → List (List ℕ) → List ℕ → Type 0
HasLike k before line = (e : Edid) × ((other : List ℕ) × ((more : List (List ℕ)) × ((line_texts e ≡ before ++ other ∷ more) × ((a : AreAlike line other) × (first_words k a.front ≡ first_words k a.other_front)))))

-- the first word up to which no accepted text has such a line
pub record IsWordAtFault (before : List (List ℕ)) (line : List ℕ) (k : ℕ) : Type 0 where
  pub least : 1 ≤ k
  pub right : HasLike k before line
  pub wrong : HasLike (k + 1) before line → ⊥

-- the line that is at fault, and its number; of a field also the word, from 0
abbrev pub IsRefusal : List (List ℕ) → TextError → Type 0
IsRefusal lines (Syntax n) = (bad : IsFirstBad lines n) × ((line : List ℕ) (more : List (List ℕ)) → bad.after ≡ line ∷ more → HasAlike bad.before line → ⊥)
IsRefusal lines (Field n word) = (bad : IsFirstBad lines n) × ((line : List ℕ) × ((more : List (List ℕ)) × ((bad.after ≡ line ∷ more) × IsWordAtFault bad.before line word)))
IsRefusal lines Memory = ⊥

-- a line whose first word may stand at a place with so many words
pub record MayStand (place : NextLine) (line : List ℕ) : Type 0 where
  pub word : Keyword
  pub front : List ℕ
  pub ended : line ≡ front ++ 10 ∷ []
  pub first : first_word front ≡ word_text word
  pub begins : may_begin place word ≡ true
  pub words : has_words (form_of word) (word_count front) ≡ true

-- the word of this number is not the last one, and may stand in a line
abbrev pub Passes : Keyword → List ℕ → ℕ → Type 0
Passes word front i = (i + 1 < word_count front) × FitsAt word i (get_or (words_of front) i [])

-- the first word after the first that does not pass
pub record IsFirstUnfit (word : Keyword) (front : List ℕ) (k : ℕ) : Type 0 where
  pub least : 1 ≤ k
  pub passed : (i : ℕ) → 1 ≤ i → i < k → Passes word front i
  pub stopped : Passes word front k → ⊥

-- a line that may stand at a place by its first word and its count of words, and its word at fault
pub record IsFieldFault (place : NextLine) (line : List ℕ) (k : ℕ) : Type 0 where
  pub stands : MayStand place line
  pub unfit : IsFirstUnfit stands.word stands.front k

-- a fault by such a line, or by another
abbrev pub IsFaultAt : NextLine → List ℕ → ℕ → TextError → Type 0
IsFaultAt place line n (Syntax k) = (n ≡ k) × (MayStand place line → ⊥)
IsFaultAt place line n (Field k word) = (n ≡ k) × IsFieldFault place line word
IsFaultAt place line n Memory = ⊥
