-- Words of a set and their bytes.
use Rattle.std.proofs.Common.{◌≡◌, ◌≢◌, ℕ, ◌<◌, ◌==◌, ◌&&◌, Bool, true, false, cond, List, [], ◌∷◌, nat_lt, option_map, find, Option, Some, None, refl, sym, ap, subst, ◌∙◌, arith}
use Rattle.std.specs.Prelude.{IfSome, IfNone}
use Rattle.std.specs.List.{list_all}
use Rattle.std.specs.Str.{bytes_eq}
use Rattle.std.proofs.lemmas.Slice.Eq.{bytes_eq-Decides}
use Rattle.std.proofs.lemmas.Bool.{eqb-true}
use Rattle.std.proofs.lemmas.Bool.Decides.{nat_tests}
use Rattle.message_table.specs.WordSets.{NamedByte, word_of, words_of}
use Rattle.message_table.specs.declared.word_set.WordSet.TheVariants as sets
use Rattle.room_script.specs.Keys.{byte_in, code_of}

and_left : (a b : Bool) → (a && b) ≡ true → a ≡ true
and_left true b e = refl
and_left false b e = cc

and_right : (a b : Bool) → (a && b) ≡ true → b ≡ true
and_right true b e = e
and_right false b e = cc

-- what is found passes the test, and any other that all pass
found_step : (p q : NamedByte → Bool) (x w : NamedByte) (xs : List NamedByte) (b : Bool) → p x ≡ b → q x ≡ true → ((find p xs ≡ Some w) → (p w ≡ true) × (q w ≡ true)) → cond b (Some x) (find p xs) ≡ Some w
    → (p w ≡ true) × (q w ≡ true)
found_step p q x w xs true e f later h = let same : x ≡ w = cc in let P : NamedByte → Type 0 = λ v. (p v ≡ true) × (q v ≡ true) in subst P same (e, f)
found_step p q x w xs false e f later h = later h

found_passes : (p q : NamedByte → Bool) (ws : List NamedByte) (w : NamedByte) → list_all q ws ≡ true → find p ws ≡ Some w → (p w ≡ true) × (q w ≡ true)
found_passes p q [] w all h = cc
found_passes p q (x ∷ xs) w all h =
    found_step p q x w xs (p x) refl (and_left (q x) (list_all q xs) all) (found_passes p q xs w (and_right (q x) (list_all q xs) all)) h

abbrev is_at : Option ℕ → ℕ → Bool
is_at None byte = false
is_at (Some found) byte = found == byte

at_byte : (o : Option ℕ) (byte : ℕ) → is_at o byte ≡ true → o ≡ Some byte
at_byte None byte h = cc
at_byte (Some found) byte h = ap Some (eqb-true found byte h)

abbrev is_text : Option (List ℕ) → List ℕ → Bool
is_text None text = false
is_text (Some found) text = bytes_eq found text

same_bytes : (xs ys : List ℕ) → bytes_eq xs ys ≡ true → xs ≡ ys
same_bytes xs ys h = (bytes_eq-Decides xs ys).0 h

at_text : (o : Option (List ℕ)) (t : List ℕ) → is_text o t ≡ true → o ≡ Some t
at_text None t h = cc
at_text (Some found) t h = ap Some (same_bytes found t h)

-- each word gives its byte, and each byte below 256 its word
abbrev is_back : List NamedByte → NamedByte → Bool
is_back ws w = is_at (byte_in ws w.text) w.code

abbrev is_forth : List NamedByte → NamedByte → Bool
is_forth ws w = nat_lt w.code 256 && is_text (word_of ws w.code) w.text

byte_of_word : (ws : List NamedByte) (byte : ℕ) (word : List ℕ) → list_all (is_back ws) ws ≡ true → word_of ws byte ≡ Some word → byte_in ws word ≡ Some byte
byte_of_word ws byte word back h =
    elim (find (λ w. w.code == byte) ws) as (λ o. find (λ w. w.code == byte) ws ≡ o → option_map (λ w. w.text) o ≡ Some word → byte_in ws word ≡ Some byte) [
      | None ↦ λ e g. (cc)
      | Some w ↦ λ e g. (
          let passes = found_passes (λ v. v.code == byte) (is_back ws) ws w back e in
          let code : w.code ≡ byte = eqb-true w.code byte passes.0 in
          let text : w.text ≡ word = cc in
          sym (ap (byte_in ws) text) ∙ (at_byte (byte_in ws w.text) w.code passes.1 ∙ ap Some code))
    ] refl h

no_byte : (ws : List NamedByte) (word : List ℕ) → list_all (is_forth ws) ws ≡ true → ((byte : ℕ) → byte < 256 → word_of ws byte ≢ Some word) → byte_in ws word ≡ None
no_byte ws word forth none =
    elim (find (λ w. bytes_eq w.text word) ws) as (λ o. find (λ w. bytes_eq w.text word) ws ≡ o → option_map (λ w. w.code) o ≡ None) [
      | None ↦ λ e. refl
      | Some w ↦ λ e. (
          let passes = found_passes (λ v. bytes_eq v.text word) (is_forth ws) ws w forth e in
          let small : w.code < 256 = grind (arith, nat_tests, and_left (nat_lt w.code 256) (is_text (word_of ws w.code) w.text) passes.1) in
          let is : word_of ws w.code ≡ Some w.text = at_text (word_of ws w.code) w.text (and_right (nat_lt w.code 256) (is_text (word_of ws w.code) w.text) passes.1) in
          absurd (none w.code small (is ∙ ap Some (same_bytes w.text word passes.0))))
    ] refl

codes_back : list_all (is_back (words_of sets.UserControl)) (words_of sets.UserControl) ≡ true
codes_back = refl

codes_forth : list_all (is_forth (words_of sets.UserControl)) (words_of sets.UserControl) ≡ true
codes_forth = refl

-- the byte that a look-up by the set's bytes gives
pub code_of-found : (word : List ℕ) (r : Option ℕ) → IfSome r (λ byte. word_of (words_of sets.UserControl) byte ≡ Some word)
    → IfNone r ((byte : ℕ) → byte < 256 → word_of (words_of sets.UserControl) byte ≢ Some word) → r ≡ code_of word
unfolding code_of
code_of-found word (Some byte) found none = sym (byte_of_word (words_of sets.UserControl) byte word codes_back found)
code_of-found word None found none = sym (no_byte (words_of sets.UserControl) word codes_forth none)
