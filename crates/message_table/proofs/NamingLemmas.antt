-- Words found by their texts: no byte of a set has two words, so that the word found is the one of its byte.
use Rattle.std.proofs.Common.{◌≡◌, ◌≢◌, ℕ, ◌==◌, ◌<◌, Bool, true, false, ◌&&◌, cond, List, [], ◌∷◌, map, Option, Some, None, IfSome, IfNone, option_map, find, refl, sym, ap, ◌∙◌}
use Rattle.std.specs.List.{list_all}
use Rattle.std.specs.Str.{bytes_eq}
use Rattle.message_table.specs.Naming.{byte_of}
use Rattle.message_table.specs.WordSets.{NamedByte, word_of, words_of}
use Rattle.message_table.specs.Table.{name_of, rows}
use Rattle.message_table.proofs.TextLemmas.{named, names_of}
use Rattle.std.proofs.lemmas.Bool.{false≢true}
use Rattle.std.proofs.lemmas.Slice.Eq.{bytes_eq-Decides}
use Rattle.message_table.specs.declared.word_set.WordSet.{WordSet}
use Rattle.message_table.specs.declared.word_set.WordSet.TheVariants.{Reason, Power, OnOff, DeviceType, StatusRequest, DeckInfo, PlayMode, DeckControl, Display, MenuRequest, MenuState, Version, UserControl}

-- a text that is found is this one
abbrev pub is_found : Option (List ℕ) → List ℕ → Bool
is_found None text = false
is_found (Some t) text = bytes_eq t text

-- each word is the one of its byte
abbrev pub each_own : List NamedByte → List NamedByte → Bool
each_own all ws = list_all (λ (w : NamedByte). is_found (word_of all w.code) w.text) ws

own : (o : Option (List ℕ)) (text : List ℕ) → is_found o text ≡ true → o ≡ Some text
own None text h = cc
own (Some t) text h = ap (λ x. Some x) ((bytes_eq-Decides t text).0 h)

and_left : (a b : Bool) → (a && b) ≡ true → a ≡ true
and_left true b h = refl
and_left false b h = cc

and_right : (a b : Bool) → (a && b) ≡ true → b ≡ true
and_right true b h = h
and_right false b h = cc

found_step : (all : List NamedByte) (w : NamedByte) (text : List ℕ) (code : ℕ) (b : Bool) (rest : Option NamedByte) → bytes_eq w.text text ≡ b
    → is_found (word_of all w.code) w.text ≡ true → (option_map (λ (w : NamedByte). w.code) rest ≡ Some code → word_of all code ≡ Some text)
    → option_map (λ (w : NamedByte). w.code) (cond b (Some w) rest) ≡ Some code → word_of all code ≡ Some text
found_step all w text code true rest same mine again e =
    let here : w.code ≡ code = cc in
    let is : w.text ≡ text = (bytes_eq-Decides w.text text).0 same in
    ap (word_of all) (sym here) ∙ own (word_of all w.code) w.text mine ∙ ap (λ x. Some x) is
found_step all w text code false rest same mine again e = again e

pub found_own : (all ws : List NamedByte) (text : List ℕ) (code : ℕ) → each_own all ws ≡ true → byte_of ws text ≡ Some code → word_of all code ≡ Some text
found_own all [] text code h e = cc
found_own all (w ∷ ws) text code h e =
    found_step all w text code (bytes_eq w.text text) (find (λ (w : NamedByte). bytes_eq w.text text) ws) refl
    (and_left (is_found (word_of all w.code) w.text) (each_own all ws) h)
    (found_own all ws text code (and_right (is_found (word_of all w.code) w.text) (each_own all ws) h)) e

none_step : (w : NamedByte) (text : List ℕ) (b d : Bool) (p q : Option NamedByte) → bytes_eq w.text text ≡ b
    → (option_map (λ (w : NamedByte). w.code) p ≡ None → option_map (λ (w : NamedByte). w.text) q ≡ Some text → ⊥)
    → option_map (λ (w : NamedByte). w.code) (cond b (Some w) p) ≡ None → option_map (λ (w : NamedByte). w.text) (cond d (Some w) q) ≡ Some text → ⊥
none_step w text true d p q same again e h = cc
none_step w text false true p q same again e h =
    let is : w.text ≡ text = cc in
    false≢true (sym same ∙ (bytes_eq-Decides w.text text).1 is)
none_step w text false false p q same again e h = again e h

pub none_named : (ws : List NamedByte) (text : List ℕ) (code : ℕ) → byte_of ws text ≡ None → word_of ws code ≡ Some text → ⊥
none_named [] text code e h = cc
none_named (w ∷ ws) text code e h =
    none_step w text (bytes_eq w.text text) (w.code == code) (find (λ (w : NamedByte). bytes_eq w.text text) ws) (find (λ (w : NamedByte). w.code == code) ws) refl
    (none_named ws text code) e h

-- the word that is found, in a set whose words are each the one of its byte
pub found_if : (ws : List NamedByte) (text : List ℕ) (o : Option ℕ) → each_own ws ws ≡ true → o ≡ byte_of ws text → IfSome o (λ code. word_of ws code ≡ Some text)
found_if ws text None h e = tt
found_if ws text (Some code) h e = found_own ws ws text code h (sym e)

pub none_if : (ws : List NamedByte) (text : List ℕ) (o : Option ℕ) → o ≡ byte_of ws text → IfNone o ((code : ℕ) → code < 256 → word_of ws code ≢ Some text)
none_if ws text None e = λ code small h. none_named ws text code (sym e) h
none_if ws text (Some code) e = tt

pub sets_own : (set : WordSet) → each_own (words_of set) (words_of set) ≡ true
sets_own Reason = refl
sets_own Power = refl
sets_own OnOff = refl
sets_own DeviceType = refl
sets_own StatusRequest = refl
sets_own DeckInfo = refl
sets_own PlayMode = refl
sets_own DeckControl = refl
sets_own Display = refl
sets_own MenuRequest = refl
sets_own MenuState = refl
sets_own Version = refl
sets_own UserControl = refl

names_own : each_own (map named rows) (map named rows) ≡ true
names_own = refl

-- the same of the names of opcodes
pub found_name : (text : List ℕ) (o : Option ℕ) → o ≡ byte_of (map named rows) text → IfSome o (λ code. name_of code ≡ Some text)
found_name text None e = tt
found_name text (Some code) e = sym (names_of rows code) ∙ found_own (map named rows) (map named rows) text code names_own (sym e)

pub none_name : (text : List ℕ) (o : Option ℕ) → o ≡ byte_of (map named rows) text → IfNone o ((code : ℕ) → code < 256 → name_of code ≢ Some text)
none_name text None e = λ code small h. none_named (map named rows) text code (sym e) (names_of rows code ∙ h)
none_name text (Some code) e = tt
