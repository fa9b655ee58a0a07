-- The words of a dump's lines.
use Rattle.std.proofs.Common.{◌≡◌, ℕ, zero, suc, ◌+◌, ◌^◌, ◌<◌, ◌≤◌, ◌==◌, ◌||◌, not, Bool, true, false, if◌then◌else◌, List, [], ◌∷◌, ◌++◌, length, codes, filter, refl, sym, ap, ◌∙◌, arith, append_assoc, ne_eqb}
use Rattle.std.specs.Fmt.{decimal}
use Rattle.std.specs.List.{flat_map, list_all, list_any}
use Rattle.std.specs.Str.{bytes_eq}
use Rattle.std.proofs.lemmas.Bool.Decides.{nat_tests}
use Rattle.std.proofs.lemmas.List.Elements.{filter-append}
use Rattle.std.proofs.lemmas.List.Splits.{slice_split_none}
use Rattle.std.proofs.lemmas.Slice.Eq.{bytes_eq-Decides}
use Rattle.line_wave.specs.declared.Stretch.{Stretch}
use Rattle.line_wave.specs.Line.{line_of}
use Rattle.text_core.specs.Lines.{lines_of}
use Rattle.capture_core.specs.Texts.{Lacks}
use Rattle.capture_core.proofs.Texts.{line_before, more_lack, none_lack, shown}
use Rattle.capture_vcd.specs.Dump.{is_end, is_space, parts_of}
use Rattle.capture_vcd.specs.Wire.{is_some_word, words_in}
use Rattle.capture_vcd.specs.Text.{time_line}
use Rattle.capture_vcd.proofs.Texts.{time_parts, time_plain}
use Rattle.capture_wires.specs.Wires.{change_text, changes_from, id_of, instant_text, turns}

-- ---- one line

abbrev pub line_words : List ℕ → List (List ℕ)
line_words line = filter is_some_word (parts_of line)

pub words_before : (line rest : List ℕ) → Lacks (λ c. c == 10) line → words_in (line ++ 10 ∷ rest) ≡ line_words line ++ words_in rest
words_before line rest plain =
    ap (λ ls. filter is_some_word (flat_map parts_of ls)) (line_before line rest plain) ∙ filter-append is_some_word (parts_of line) (flat_map parts_of (lines_of rest))

one_word : (line : List ℕ) → parts_of line ≡ line ∷ [] → (length line == 0) ≡ false → line_words line ≡ line ∷ []
one_word line parts some = ap (filter is_some_word) parts ∙ kept (length line == 0) some
  where
    kept : (b : Bool) → b ≡ false → (if not b then line ∷ [] else []) ≡ line ∷ []
    kept true h = cc
    kept false h = refl

-- a text that is written out
pub shown_words : (line rest : List ℕ) → list_all (λ c. not (c == 10)) line ≡ true → words_in (line ++ 10 ∷ rest) ≡ line_words line ++ words_in rest
shown_words line rest all = words_before line rest (shown (λ c. c == 10) line all)

-- ---- a time

pub time_words : (t : ℕ) (rest : List ℕ) → t < 2 ^ 64 → words_in (time_line t ++ 10 ∷ rest) ≡ time_line t ∷ words_in rest
time_words t rest small =
    words_before (time_line t) rest (time_plain t small)
    ∙ ap (λ ws. ws ++ words_in rest) (one_word (time_line t) (time_parts t small) (ne_eqb (suc (length (decimal t))) 0 (omega arith)))

-- ---- an identifier

id_least : (number : ℕ) → 33 ≤ id_of number
id_least zero = omega arith
id_least (suc number) = rw (ne_eqb (suc number) 0 (omega arith)) (omega arith)

other_byte : (x c : ℕ) → 33 ≤ x → c < 33 → (x == c) ≡ false
other_byte x c h l = grind (arith, nat_tests)

all_false : (a b c : Bool) → a ≡ false → b ≡ false → c ≡ false → (a || b || c) ≡ false
all_false true b c x y z = cc
all_false false true c x y z = cc
all_false false false c x y z = z

space_by : (x : ℕ) → 33 ≤ x → is_space x ≡ false
space_by x h = all_false (x == 32) (x == 9) (x == 13) (other_byte x 32 h (omega arith)) (other_byte x 9 h (omega arith)) (other_byte x 13 h (omega arith))

pub id_space : (number : ℕ) → is_space (id_of number) ≡ false
id_space number = space_by (id_of number) (id_least number)

pub id_plain : (number : ℕ) → (id_of number == 10) ≡ false
id_plain number = other_byte (id_of number) 10 (id_least number) (omega arith)

pub id_end : (number : ℕ) → is_end (id_of number ∷ []) ≡ false
id_end number = none (is_end (id_of number ∷ [])) (λ h. short ((bytes_eq-Decides (id_of number ∷ []) (codes "$end")).0 h))
  where
    none : (b : Bool) → (b ≡ true → ⊥) → b ≡ false
    none true h = absurd (h refl)
    none false h = refl

    short : id_of number ∷ [] ≡ codes "$end" → ⊥
    short e = let n : 1 ≡ 4 = ap length e in absurd (omega (arith, n))

id_some : (a : ℕ) → id_of (suc a) ≡ suc a + 96
id_some a = rw (ne_eqb (suc a) 0 (omega arith)) refl

id_one : (a b : ℕ) → id_of a ≡ id_of b → a ≡ b
id_one zero zero e = refl
id_one zero (suc b) e = let k : 33 ≡ suc b + 96 = e ∙ id_some b in absurd (omega (arith, k))
id_one (suc a) zero e = let k : suc a + 96 ≡ 33 = sym (id_some a) ∙ e in absurd (omega (arith, k))
id_one (suc a) (suc b) e = let k : suc a + 96 ≡ suc b + 96 = sym (id_some a) ∙ e ∙ id_some b in omega (arith, k)

-- an identifier is that of no other number
pub own_id : (a : ℕ) → bytes_eq (id_of a ∷ []) (id_of a ∷ []) ≡ true
own_id a = (bytes_eq-Decides (id_of a ∷ []) (id_of a ∷ [])).1 refl

byte_of : List ℕ → ℕ
byte_of [] = 0
byte_of (x ∷ xs) = x

pub other_id : (a b : ℕ) → (a ≡ b → ⊥) → bytes_eq (id_of a ∷ []) (id_of b ∷ []) ≡ false
unfolding byte_of
other_id a b h = none (bytes_eq (id_of a ∷ []) (id_of b ∷ [])) refl
  where
    none : (c : Bool) → bytes_eq (id_of a ∷ []) (id_of b ∷ []) ≡ c → c ≡ false
    none true e = absurd (h (id_one a b (ap byte_of ((bytes_eq-Decides (id_of a ∷ []) (id_of b ∷ [])).0 e))))
    none false e = refl

-- ---- a value

abbrev pub value_word : Bool → ℕ → List ℕ
value_word low number = (if low then 48 else 49) ∷ id_of number ∷ []

pub value_plain : (low : Bool) (number : ℕ) → Lacks (λ c. c == 10) (value_word low number)
value_plain true number = more_lack (λ c. c == 10) 48 (id_of number ∷ []) refl (more_lack (λ c. c == 10) (id_of number) [] (id_plain number) (none_lack (λ c. c == 10)))
value_plain false number = more_lack (λ c. c == 10) 49 (id_of number ∷ []) refl (more_lack (λ c. c == 10) (id_of number) [] (id_plain number) (none_lack (λ c. c == 10)))

pub value_parts : (low : Bool) (number : ℕ) → parts_of (value_word low number) ≡ value_word low number ∷ []
value_parts true number = slice_split_none is_space (48 ∷ id_of number ∷ []) (more_lack is_space 48 (id_of number ∷ []) refl (more_lack is_space (id_of number) [] (id_space number) (none_lack is_space)))
value_parts false number = slice_split_none is_space (49 ∷ id_of number ∷ []) (more_lack is_space 49 (id_of number ∷ []) refl (more_lack is_space (id_of number) [] (id_space number) (none_lack is_space)))

pub value_words : (low : Bool) (number : ℕ) (rest : List ℕ) → words_in (value_word low number ++ 10 ∷ rest) ≡ value_word low number ∷ words_in rest
value_words low number rest =
    words_before (value_word low number) rest (value_plain low number) ∙ ap (λ ws. ws ++ words_in rest) (one_word (value_word low number) (value_parts low number) refl)

-- ---- an instant

abbrev pub change_word : Bool → Bool → ℕ → List (List ℕ)
change_word true low number = value_word low number ∷ []
change_word false low number = []

abbrev pub change_words : ℕ → ℕ → List (List Stretch) → List (List ℕ)
change_words t number [] = []
change_words t number (wire ∷ wires) = change_word (turns (line_of wire) t) (line_of wire t) number ++ change_words t (number + 1) wires

abbrev pub instant_words_by : Bool → ℕ → List (List Stretch) → List (List ℕ)
instant_words_by true t wires = time_line t ∷ change_words t 0 wires
instant_words_by false t wires = []

abbrev pub instant_words : List (List Stretch) → ℕ → List (List ℕ)
instant_words wires t = instant_words_by (list_any (λ wire. turns (line_of wire) t) wires) t wires

words_change : (turn low : Bool) (number : ℕ) (rest : List ℕ)
    → words_in ((if turn then (if low then 48 else 49) ∷ id_of number ∷ 10 ∷ [] else []) ++ rest) ≡ change_word turn low number ++ words_in rest
words_change true low number rest = value_words low number rest
words_change false low number rest = refl

words_changes : (t number : ℕ) (wires : List (List Stretch)) (rest : List ℕ) → words_in (changes_from t number wires ++ rest) ≡ change_words t number wires ++ words_in rest
words_changes t number [] rest = refl
words_changes t number (wire ∷ wires) rest =
    ap words_in (append_assoc (change_text t number wire) (changes_from t (number + 1) wires) rest)
    ∙ words_change (turns (line_of wire) t) (line_of wire t) number (changes_from t (number + 1) wires ++ rest)
    ∙ ap (λ ws. change_word (turns (line_of wire) t) (line_of wire t) number ++ ws) (words_changes t (number + 1) wires rest)
    ∙ sym (append_assoc (change_word (turns (line_of wire) t) (line_of wire t) number) (change_words t (number + 1) wires) (words_in rest))

pub line_parted : (ds more rest : List ℕ) → ((ds ++ 10 ∷ []) ++ more) ++ rest ≡ ds ++ 10 ∷ (more ++ rest)
line_parted [] more rest = refl
line_parted (d ∷ ds) more rest = ap (λ l. d ∷ l) (line_parted ds more rest)

pub words_instant : (wires : List (List Stretch)) (t : ℕ) (rest : List ℕ) → t < 2 ^ 64 → words_in (instant_text wires t ++ rest) ≡ instant_words wires t ++ words_in rest
words_instant wires t rest small = by (list_any (λ wire. turns (line_of wire) t) wires)
  where
    by : (b : Bool) → words_in ((if b then (35 ∷ (decimal t ++ 10 ∷ [])) ++ changes_from t 0 wires else []) ++ rest) ≡ instant_words_by b t wires ++ words_in rest
    by true =
        ap (λ text. words_in (35 ∷ text)) (line_parted (decimal t) (changes_from t 0 wires) rest)
        ∙ time_words t (changes_from t 0 wires ++ rest) small ∙ ap (λ ws. time_line t ∷ ws) (words_changes t 0 wires rest)
    by false = refl
