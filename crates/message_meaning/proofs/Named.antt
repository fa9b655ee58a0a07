-- Sentences and names are of the same opcodes.
use Rattle.std.proofs.Common.{◌≡◌, ℕ, ◌==◌, Bool, true, false, List, [], ◌∷◌, map, find, is_some, option_map, Some, if◌then◌else◌, refl, ap, sym, ◌∙◌}
use Rattle.message_table.specs.Table.{Row, rows}
use Rattle.message_meaning.specs.Sentences.{Sentence, sentence_in, sentences}
use Rattle.message_meaning.specs.Named.{NamedOpcodesHaveSentences}

abbrev row_code : Row → ℕ
row_code r = r.code

abbrev sentence_code : Sentence → ℕ
sentence_code s = s.code

-- whether a code is one of these
abbrev has_code : List ℕ → ℕ → Bool
has_code [] code = false
has_code (c ∷ cs) code = if c == code then true else has_code cs code

has_sentence : (table : List Sentence) (code : ℕ) → is_some (sentence_in table code) ≡ has_code (map sentence_code table) code
has_sentence [] code = refl
has_sentence (s ∷ table) code = by (s.code == code) (has_sentence table code)
  where
    by : (b : Bool) → is_some (sentence_in table code) ≡ has_code (map sentence_code table) code
        → is_some (if b then Some s else sentence_in table code) ≡ (if b then true else has_code (map sentence_code table) code)
    by true h = refl
    by false h = h

has_name : (table : List Row) (code : ℕ) → is_some (option_map (λ r. r.name) (find (λ r. r.code == code) table)) ≡ has_code (map row_code table) code
has_name [] code = refl
has_name (r ∷ table) code = by (r.code == code) (has_name table code)
  where
    by : (b : Bool) → is_some (option_map (λ r. r.name) (find (λ r. r.code == code) table)) ≡ has_code (map row_code table) code
        → is_some (option_map (λ r. r.name) (if b then Some r else find (λ r. r.code == code) table)) ≡ (if b then true else has_code (map row_code table) code)
    by true h = refl
    by false h = h

same_codes : map sentence_code sentences ≡ map row_code rows
unfolding sentences
same_codes = refl

pub named_opcodes_have_sentences : NamedOpcodesHaveSentences
named_opcodes_have_sentences code = has_sentence sentences code ∙ ap (λ (cs : List ℕ). has_code cs code) same_codes ∙ sym (has_name rows code)
