-- The definitions of a dump of several wires, as its words say them.
use Rattle.std.proofs.Common.{◌≡◌, ℕ, suc, ◌+◌, ◌==◌, ◌&&◌, ◌||◌, not, Bool, true, false, if◌then◌else◌, List, [], ◌∷◌, ◌++◌, length, get_or, codes, filter, All, Option, Some, None, refl, sym, ap, ◌∙◌, arith, append_assoc}
use Rattle.std.specs.List.{flat_map, list_all, range_with_len}
use Rattle.std.specs.Str.{bytes_eq}
use Rattle.std.proofs.lemmas.List.Elements.{All-append}
use Rattle.std.proofs.lemmas.List.Splits.{slice_split_at}
use Rattle.capture_core.specs.Texts.{Lacks}
use Rattle.capture_core.proofs.Texts.{more_lack, none_lack, shown}
use Rattle.capture_vcd.specs.Dump.{is_end, is_space, parts_of}
use Rattle.capture_vcd.specs.Wire.{is_some_word, wire_from, wire_in, words_in}
use Rattle.capture_wires.specs.Wires.{closing, head, high_at_first, id_of, opening, variable, variables}
use Rattle.capture_laws.specs.WireDumps.{IsName, WordsAreNames, declared_from, declared_in, is_word, numbered_names}
use Rattle.capture_laws.proofs.Levels.{micro}
use Rattle.capture_laws.proofs.Words.{id_end, id_plain, id_space, line_words, shown_words, words_before}

-- ---- a name

word_parts : (a b c : Bool) → (not a && (not b && c)) ≡ true → (a ≡ false) × (b ≡ false) × (c ≡ true)
word_parts true b c h = cc
word_parts false true c h = cc
word_parts false false c h = (refl, refl, h)

or_left : (a b : Bool) → (a || b) ≡ false → a ≡ false
or_left true b h = h
or_left false b h = refl

or_right : (a b : Bool) → (a || b) ≡ false → b ≡ false
or_right true b h = cc
or_right false b h = h

pub name_of : WordsAreNames
name_of name h =
    let parts = word_parts (length name == 0) (is_end name) (list_all (λ b. not (is_space b || (b == 10))) name) h in
    let lacks = shown (λ b. is_space b || (b == 10)) name parts.2 in
    record {
      some = parts.0;
      other = parts.1;
      solid = λ k x l. or_left (is_space (get_or name k x)) (get_or name k x == 10) (lacks k x l);
      plain = λ k x l. or_right (is_space (get_or name k x)) (get_or name k x == 10) (lacks k x l);
    }

-- ---- the line of a variable

abbrev pub variable_line : ℕ → List ℕ → List ℕ
variable_line number name = codes "$var wire 1 " ++ id_of number ∷ 32 ∷ (name ++ codes " $end")

abbrev pub variable_words : ℕ → List ℕ → List (List ℕ)
variable_words number name = codes "$var" ∷ codes "wire" ∷ codes "1" ∷ (id_of number ∷ []) ∷ name ∷ codes "$end" ∷ []

pub line_plain : (number : ℕ) (name : List ℕ) → IsName name → Lacks (λ c. c == 10) (variable_line number name)
line_plain number name is =
    All-append (λ c. (c == 10) ≡ false) (codes "$var wire 1 ") (id_of number ∷ 32 ∷ (name ++ codes " $end")) (shown (λ c. c == 10) (codes "$var wire 1 ") refl)
    (more_lack (λ c. c == 10) (id_of number) (32 ∷ (name ++ codes " $end")) (id_plain number)
    (more_lack (λ c. c == 10) 32 (name ++ codes " $end") refl (All-append (λ c. (c == 10) ≡ false) name (codes " $end") is.plain (shown (λ c. c == 10) (codes " $end") refl))))

abbrev in_front : List (List ℕ) → List (List ℕ)
in_front parts = codes "$var" ∷ codes "wire" ∷ codes "1" ∷ parts

pub line_parts : (number : ℕ) (name : List ℕ) → IsName name → parts_of (variable_line number name) ≡ variable_words number name
line_parts number name is =
    ap in_front (
    slice_split_at is_space (id_of number ∷ []) 32 (name ++ codes " $end") (more_lack is_space (id_of number) [] (id_space number) (none_lack is_space)) refl
    ∙ ap (λ parts. (id_of number ∷ []) ∷ parts) (slice_split_at is_space name 32 (codes "$end") is.solid refl))

variable_line_words : (number : ℕ) (name : List ℕ) → IsName name → line_words (variable_line number name) ≡ variable_words number name
variable_line_words number name is = ap (filter is_some_word) (line_parts number name is) ∙ some (length name == 0) is.some
  where
    some : (b : Bool) → b ≡ false → in_front ((id_of number ∷ []) ∷ (if not b then name ∷ codes "$end" ∷ [] else codes "$end" ∷ [])) ≡ variable_words number name
    some true h = cc
    some false h = refl

ended : (name rest : List ℕ) → (name ++ codes " $end\n") ++ rest ≡ (name ++ codes " $end") ++ 10 ∷ rest
ended [] rest = refl
ended (c ∷ name) rest = ap (λ l. c ∷ l) (ended name rest)

pub variable_text : (number : ℕ) (name rest : List ℕ) → variable number name ++ rest ≡ variable_line number name ++ 10 ∷ rest
variable_text number name rest = ap (λ l. codes "$var wire 1 " ++ id_of number ∷ 32 ∷ l) (ended name rest)

words_variable : (number : ℕ) (name rest : List ℕ) → IsName name → words_in (variable number name ++ rest) ≡ variable_words number name ++ words_in rest
words_variable number name rest is =
    ap words_in (variable_text number name rest) ∙ words_before (variable_line number name) rest (line_plain number name is)
    ∙ ap (λ ws. ws ++ words_in rest) (variable_line_words number name is)

-- ---- all definitions

abbrev pub variables_words : ℕ → List (List ℕ) → List (List ℕ)
variables_words number [] = []
variables_words number (name ∷ names) = variable_words number name ++ variables_words (number + 1) names

words_variables : (number : ℕ) (names : List (List ℕ)) (rest : List ℕ) → All (λ name. is_word name ≡ true) names
    → words_in (variables number names ++ rest) ≡ variables_words number names ++ words_in rest
words_variables number [] rest h = refl
words_variables number (name ∷ names) rest h =
    ap words_in (append_assoc (variable number name) (variables (number + 1) names) rest)
    ∙ words_variable number name (variables (number + 1) names ++ rest) (name_of name (h 0 name (omega arith)))
    ∙ ap (λ ws. variable_words number name ++ ws) (words_variables (number + 1) names rest (λ k x l. h (suc k) x (omega arith)))
    ∙ sym (append_assoc (variable_words number name) (variables_words (number + 1) names) (words_in rest))

-- what stands after the definitions: each wire is high at first
abbrev pub high_text : ℕ → List ℕ → List ℕ
high_text count rest = codes "#0\n$dumpvars\n" ++ (flat_map high_at_first (range_with_len 0 (count + 2)) ++ (codes "$end\n" ++ rest))

abbrev pub closing_words : ℕ → List ℕ → List (List ℕ)
closing_words count rest =
    codes "$upscope" ∷ codes "$end" ∷ (variable_words (count + 1) (codes "pulses") ++ (codes "$upscope" ∷ codes "$end" ∷ codes "$enddefinitions" ∷ codes "$end" ∷ words_in (high_text count rest)))

pub closing_parted : (count : ℕ) (rest : List ℕ)
    → closing count ++ rest ≡ codes "$upscope $end" ++ 10 ∷ (variable (count + 1) (codes "pulses") ++ (codes "$upscope $end" ++ 10 ∷ (codes "$enddefinitions $end" ++ 10 ∷ high_text count rest)))
closing_parted count rest =
    let highs = flat_map high_at_first (range_with_len 0 (count + 2)) in
    let opened = codes "$upscope $end\n$enddefinitions $end\n#0\n$dumpvars\n" in
    ap (λ l. codes "$upscope $end\n" ++ l) (
    append_assoc (variable (count + 1) (codes "pulses")) (opened ++ (highs ++ codes "$end\n")) rest
    ∙ ap (λ l. variable (count + 1) (codes "pulses") ++ (opened ++ l)) (append_assoc highs (codes "$end\n") rest))

words_closing : (count : ℕ) (rest : List ℕ) → words_in (closing count ++ rest) ≡ closing_words count rest
words_closing count rest =
    let t3 = codes "$enddefinitions $end" ++ 10 ∷ high_text count rest in
    let t2 = codes "$upscope $end" ++ 10 ∷ t3 in
    let t1 = variable (count + 1) (codes "pulses") ++ t2 in
    ap words_in (closing_parted count rest) ∙ shown_words (codes "$upscope $end") t1 refl
    ∙ ap (λ ws. codes "$upscope" ∷ codes "$end" ∷ ws) (
    words_variable (count + 1) (codes "pulses") t2 (name_of (codes "pulses") refl)
    ∙ ap (λ ws. variable_words (count + 1) (codes "pulses") ++ ws) (
    shown_words (codes "$upscope $end") t3 refl
    ∙ ap (λ ws. codes "$upscope" ∷ codes "$end" ∷ ws) (shown_words (codes "$enddefinitions $end") (high_text count rest) refl)))

abbrev pub opening_words : List (List ℕ) → List (List ℕ)
opening_words words =
    codes "$version" ∷ codes "hdminet" ∷ codes "$end" ∷ codes "$timescale" ∷ codes "1" ∷ codes "us" ∷ codes "$end" ∷ codes "$scope" ∷ codes "module" ∷ codes "hdmi" ∷ codes "$end"
    ∷ codes "$var" ∷ codes "wire" ∷ codes "1" ∷ codes "!" ∷ codes "CEC" ∷ codes "$end" ∷ codes "$scope" ∷ codes "module" ∷ codes "devices" ∷ codes "$end" ∷ words

words_opening : (rest : List ℕ) → words_in (opening ++ rest) ≡ opening_words (words_in rest)
words_opening rest =
    let t5 = codes "$scope module devices $end" ++ 10 ∷ rest in
    let t4 = codes "$var wire 1 ! CEC $end" ++ 10 ∷ t5 in
    let t3 = codes "$scope module hdmi $end" ++ 10 ∷ t4 in
    let t2 = codes "$timescale 1 us $end" ++ 10 ∷ t3 in
    shown_words (codes "$version hdminet $end") t2 refl
    ∙ ap (λ ws. codes "$version" ∷ codes "hdminet" ∷ codes "$end" ∷ ws) (
    shown_words (codes "$timescale 1 us $end") t3 refl
    ∙ ap (λ ws. codes "$timescale" ∷ codes "1" ∷ codes "us" ∷ codes "$end" ∷ ws) (
    shown_words (codes "$scope module hdmi $end") t4 refl
    ∙ ap (λ ws. codes "$scope" ∷ codes "module" ∷ codes "hdmi" ∷ codes "$end" ∷ ws) (
    shown_words (codes "$var wire 1 ! CEC $end") t5 refl
    ∙ ap (λ ws. codes "$var" ∷ codes "wire" ∷ codes "1" ∷ codes "!" ∷ codes "CEC" ∷ codes "$end" ∷ ws) (
    shown_words (codes "$scope module devices $end") rest refl))))

pub words_head : (names : List (List ℕ)) (rest : List ℕ) → All (λ name. is_word name ≡ true) names
    → words_in (head names ++ rest) ≡ opening_words (variables_words 1 names ++ closing_words (length names) rest)
words_head names rest h =
    ap words_in (append_assoc opening (variables 1 names ++ closing (length names)) rest)
    ∙ words_opening ((variables 1 names ++ closing (length names)) ++ rest)
    ∙ ap (λ t. opening_words (words_in t)) (append_assoc (variables 1 names) (closing (length names)) rest)
    ∙ ap opening_words (words_variables 1 names (closing (length names) ++ rest) h ∙ ap (λ ws. variables_words 1 names ++ ws) (words_closing (length names) rest))

-- ---- the wire that is asked for

abbrev first : Option (List ℕ)
first = Some (33 ∷ [])

variable_passed : (asked : List ℕ) (number : ℕ) (name : List ℕ) (words : List (List ℕ)) → is_end name ≡ false
    → wire_from asked None (Some micro) first (variable_words number name ++ words) ≡ wire_from asked None (Some micro) first words
variable_passed asked number name words h = rw (id_end number, h) refl

variables_passed : (asked : List ℕ) (number : ℕ) (names : List (List ℕ)) (words : List (List ℕ)) → All (λ name. is_word name ≡ true) names
    → wire_from asked None (Some micro) first (variables_words number names ++ words) ≡ wire_from asked None (Some micro) first words
variables_passed asked number [] words h = refl
variables_passed asked number (name ∷ names) words h =
    ap (wire_from asked None (Some micro) first) (append_assoc (variable_words number name) (variables_words (number + 1) names) words)
    ∙ variable_passed asked number name (variables_words (number + 1) names ++ words) (name_of name (h 0 name (omega arith))).other
    ∙ variables_passed asked (number + 1) names words (λ k x l. h (suc k) x (omega arith))

version_passed : (asked : List ℕ) (words : List (List ℕ)) → wire_from asked None None None (codes "$version" ∷ codes "hdminet" ∷ codes "$end" ∷ words) ≡ wire_from asked None None None words
version_passed asked words = refl

scale_passed : (asked : List ℕ) (words : List (List ℕ))
    → wire_from asked None None None (codes "$timescale" ∷ codes "1" ∷ codes "us" ∷ codes "$end" ∷ words) ≡ wire_from asked None (Some micro) None words
scale_passed asked words = refl

scope_passed : (asked name : List ℕ) (id : Option (List ℕ)) (words : List (List ℕ)) → is_end name ≡ false
    → wire_from asked None (Some micro) id (codes "$scope" ∷ codes "module" ∷ name ∷ codes "$end" ∷ words) ≡ wire_from asked None (Some micro) id words
scope_passed asked name id words h = rw h refl

line_passed : (asked : List ℕ) (words : List (List ℕ)) → ((length asked == 0) || bytes_eq (codes "CEC") asked) ≡ true
    → wire_from asked None (Some micro) None (codes "$var" ∷ codes "wire" ∷ codes "1" ∷ codes "!" ∷ codes "CEC" ∷ codes "$end" ∷ words) ≡ wire_from asked None (Some micro) first words
line_passed asked words h = ap (λ b. wire_from asked None (Some micro) (if b then first else None) words) h

opening_passed : (asked : List ℕ) (words : List (List ℕ)) → ((length asked == 0) || bytes_eq (codes "CEC") asked) ≡ true
    → wire_in asked (opening_words words) ≡ wire_from asked None (Some micro) first words
opening_passed asked words h =
    let w4 = codes "$scope" ∷ codes "module" ∷ codes "devices" ∷ codes "$end" ∷ words in
    let w3 = codes "$var" ∷ codes "wire" ∷ codes "1" ∷ codes "!" ∷ codes "CEC" ∷ codes "$end" ∷ w4 in
    let w2 = codes "$scope" ∷ codes "module" ∷ codes "hdmi" ∷ codes "$end" ∷ w3 in
    let w1 = codes "$timescale" ∷ codes "1" ∷ codes "us" ∷ codes "$end" ∷ w2 in
    version_passed asked w1 ∙ scale_passed asked w2 ∙ scope_passed asked (codes "hdmi") None w3 refl ∙ line_passed asked w4 h ∙ scope_passed asked (codes "devices") first words refl

-- the first wire, and the line by its name
pub head_wire : (asked : List ℕ) (names : List (List ℕ)) (rest : List ℕ) → ((length asked == 0) || bytes_eq (codes "CEC") asked) ≡ true → All (λ name. is_word name ≡ true) names
    → wire_in asked (words_in (head names ++ rest)) ≡ Some (record { scale = micro; id = 33 ∷ []; words = codes "$end" ∷ words_in (high_text (length names) rest) })
head_wire asked names rest a h =
    ap (wire_in asked) (words_head names rest h)
    ∙ opening_passed asked (variables_words 1 names ++ closing_words (length names) rest) a
    ∙ variables_passed asked 1 names (closing_words (length names) rest) h
    ∙ variable_passed asked (length names + 1) (codes "pulses") (codes "$upscope" ∷ codes "$end" ∷ codes "$enddefinitions" ∷ codes "$end" ∷ words_in (high_text (length names) rest)) refl

-- ---- the wires that are declared

variable_declared : (number : ℕ) (name : List ℕ) (words : List (List ℕ)) → is_end name ≡ false
    → declared_from None (variable_words number name ++ words) ≡ record { id = id_of number ∷ []; name = name } ∷ declared_from None words
variable_declared number name words h = rw (id_end number, h) refl

last_declared : (count : ℕ) (rest : List ℕ) (number : ℕ) → number ≡ count + 1 → declared_from None (closing_words count rest) ≡ numbered_names number (codes "pulses" ∷ [])
last_declared count rest number e =
    variable_declared (count + 1) (codes "pulses") (codes "$upscope" ∷ codes "$end" ∷ codes "$enddefinitions" ∷ codes "$end" ∷ words_in (high_text count rest)) refl
    ∙ ap (λ n. record { id = id_of n ∷ []; name = codes "pulses" } ∷ []) (sym e)

variables_declared : (count number : ℕ) (names : List (List ℕ)) (rest : List ℕ) → number + length names ≡ count + 1 → All (λ name. is_word name ≡ true) names
    → declared_from None (variables_words number names ++ closing_words count rest) ≡ numbered_names number (names ++ codes "pulses" ∷ [])
variables_declared count number [] rest e h = last_declared count rest number (omega (arith, e))
variables_declared count number (name ∷ names) rest e h =
    ap (declared_from None) (append_assoc (variable_words number name) (variables_words (number + 1) names) (closing_words count rest))
    ∙ variable_declared number name (variables_words (number + 1) names ++ closing_words count rest) (name_of name (h 0 name (omega arith))).other
    ∙ ap (λ ds. record { id = id_of number ∷ []; name = name } ∷ ds) (variables_declared count (number + 1) names rest (omega (arith, e)) (λ k x l. h (suc k) x (omega arith)))

pub head_declared : (names : List (List ℕ)) (rest : List ℕ) → All (λ name. is_word name ≡ true) names
    → declared_in (words_in (head names ++ rest)) ≡ numbered_names 0 (codes "CEC" ∷ (names ++ codes "pulses" ∷ []))
head_declared names rest h =
    ap declared_in (words_head names rest h)
    ∙ ap (λ ds. record { id = 33 ∷ []; name = codes "CEC" } ∷ ds) (variables_declared (length names) 1 names rest (omega arith) h)
