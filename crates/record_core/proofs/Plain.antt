-- Texts that stand in a string as they are.
use Rattle.std.proofs.Common.{◌≡◌, ℕ, ◌+◌, ◌<◌, ◌≤◌, ◌==◌, ◌&&◌, ◌||◌, not, Bool, true, false, nat_le, cond, codes, List, [], ◌∷◌, ◌++◌, length, take, drop, get_or, map, refl, sym, ap, subst, ◌∙◌, add-one, append-nil, arith}
use Rattle.std.proofs.lemmas.Grind.{flat_map-append}
use Rattle.std.proofs.Math.Seq.{take-suc}
use Rattle.std.specs.List.{flat_map, list_all}
use Rattle.text_core.specs.Adds.{Adds, Tally}
use Rattle.text_core.proofs.Adding.{nothing, then}
use Rattle.text_core.proofs.Cutting.{more_parts}
use Rattle.text_core.specs.Piece.{hex_text}
use Rattle.record_core.specs.Cells.{gathered, joined, listed, rest_joined, rest_listed}
use Rattle.record_core.specs.Records.{as_text}
use Rattle.record_core.specs.Strings.{char_text, is_plain}

abbrev Plain : List ℕ → Type 0
Plain text = list_all is_plain text ≡ true

-- ---- a plain text is itself in a string

and_left : (a b : Bool) → (a && b) ≡ true → a ≡ true
and_left true b e = refl
and_left false b e = cc

and_right : (a b : Bool) → (a && b) ≡ true → b ≡ true
and_right true b e = e
and_right false b e = cc

char_by : (p q r : Bool) (b : ℕ) → (not p && (not q && r)) ≡ true → cond p (92 ∷ 34 ∷ []) (cond q (92 ∷ 92 ∷ []) (cond r (b ∷ []) (codes "\\u00" ++ hex_text b))) ≡ b ∷ []
char_by true q r b e = cc
char_by false true r b e = cc
char_by false false true b e = refl
char_by false false false b e = cc

plain_char : (b : ℕ) → is_plain b ≡ true → char_text b ≡ b ∷ []
plain_char b e = char_by (b == 34) (b == 92) ((nat_le 32 b && nat_le b 126) || nat_le 128 b) b e

pub plain_text : (text : List ℕ) → Plain text → flat_map char_text text ≡ text
plain_text [] e = refl
plain_text (b ∷ text) e =
    rw (plain_char b (and_left (is_plain b) (list_all is_plain text) e), plain_text text (and_right (is_plain b) (list_all is_plain text) e)) refl

-- ---- characters and cells, one after another

pub adds_as : (a b : Tally) (x y : List ℕ) → x ≡ y → Adds a b x → Adds a b y
adds_as a b x y e one = subst (Adds a b) e one

pub chars_plain : (a b : Tally) (text : List ℕ) → Plain text → Adds a b text → Adds a b (flat_map char_text text)
chars_plain a b text e adds = adds_as a b text _ (sym (plain_text text e)) adds

-- one character more
pub chars_more : (text : List ℕ) (i : ℕ) (x : List ℕ) → i < length text → x ≡ char_text (get_or text i 0)
    → flat_map char_text (take i text) ++ x ≡ flat_map char_text (take (i + 1) text)
chars_more text i x h e =
    ap (λ (l : List ℕ). flat_map char_text (take i text) ++ l) (e ∙ sym (append-nil (char_text (get_or text i 0))))
    ∙ sym (flat_map-append char_text (take i text) (get_or text i 0 ∷ []))
    ∙ ap (flat_map char_text) (sym (take-suc text i 0 h) ∙ ap (λ (n : ℕ). take n text) (sym (add-one i)))

as_both : (q : Bool) (xs ys : List ℕ) → as_text q xs ++ as_text q ys ≡ as_text q (xs ++ ys)
as_both true xs ys = sym (flat_map-append char_text xs ys)
as_both false xs ys = refl

as_none : (q : Bool) → [] ≡ as_text q []
as_none true = refl
as_none false = refl

-- texts as they stand in a line or in a string, one after another
pub then_as : (q : Bool) (a b c : Tally) (xs ys : List ℕ) → Adds a b (as_text q xs) → Adds b c (as_text q ys) → Adds a c (as_text q (xs ++ ys))
then_as q a b c xs ys first second = adds_as a c _ _ (as_both q xs ys) (then a b c (as_text q xs) (as_text q ys) first second)

pub none_as : (q : Bool) (a : Tally) → Adds a a (as_text q [])
none_as q a = adds_as a a [] _ (as_none q) (nothing a)

pub alone_as : (q : Bool) (a b : Tally) (xs : List ℕ) → Adds a b (as_text q xs) → Adds a b (as_text q (xs ++ []))
alone_as q a b xs adds = adds_as a b _ _ (ap (as_text q) (sym (append-nil xs))) adds

-- one more of a list
pub more_as : {X : Type 0} (q : Bool) (f : X → List ℕ) (xs : List X) (i : ℕ) (x : X) (a b c : Tally) → i < length xs → get_or xs i x ≡ x
    → Adds a b (as_text q (flat_map f (take i xs))) → Adds b c (as_text q (f x)) → Adds a c (as_text q (flat_map f (take (i + 1) xs)))
more_as q f xs i x a b c h item before part =
    adds_as a c _ _ (ap (as_text q) (sym (more_parts f xs i x h item))) (then_as q a b c (flat_map f (take i xs)) (f x) before part)

-- ---- the first of a list, and the others

cons_of : {X : Type 0} (f : X → List ℕ) (xs : List X) (d : X) → 1 ≤ length xs → f (get_or xs 0 d) ++ flat_map f (drop 1 xs) ≡ flat_map f xs
cons_of f [] d h = absurd (omega arith)
cons_of f (x ∷ xs) d h = refl

pub first : {X : Type 0} (f : X → List ℕ) (xs : List X) (d : X) (a b c : Tally) → 1 ≤ length xs
    → Adds a b (f (get_or xs 0 d)) → Adds b c (flat_map f (drop 1 xs)) → Adds a c (flat_map f xs)
first f xs d a b c h one others = adds_as a c _ _ (cons_of f xs d h) (then a b c (f (get_or xs 0 d)) (flat_map f (drop 1 xs)) one others)

pub first_as : {X : Type 0} (q : Bool) (f : X → List ℕ) (xs : List X) (d : X) (a b c : Tally) → 1 ≤ length xs
    → Adds a b (as_text q (f (get_or xs 0 d))) → Adds b c (as_text q (flat_map f (drop 1 xs))) → Adds a c (as_text q (flat_map f xs))
first_as q f xs d a b c h one others =
    adds_as a c _ _ (ap (as_text q) (cons_of f xs d h)) (then_as q a b c (f (get_or xs 0 d)) (flat_map f (drop 1 xs)) one others)

joined_of : {X : Type 0} (f : X → List ℕ) (sign : List ℕ) (xs : List X) (d : X) → 1 ≤ length xs → f (get_or xs 0 d) ++ rest_joined f sign (drop 1 xs) ≡ joined f sign xs
joined_of f sign [] d h = absurd (omega arith)
joined_of f sign (x ∷ xs) d h = refl

pub joined_as : {X : Type 0} (q : Bool) (f : X → List ℕ) (sign : List ℕ) (xs : List X) (d : X) (a b c : Tally) → 1 ≤ length xs
    → Adds a b (as_text q (f (get_or xs 0 d))) → Adds b c (as_text q (rest_joined f sign (drop 1 xs))) → Adds a c (as_text q (joined f sign xs))
joined_as q f sign xs d a b c h one others =
    adds_as a c _ _ (ap (as_text q) (joined_of f sign xs d h)) (then_as q a b c (f (get_or xs 0 d)) (rest_joined f sign (drop 1 xs)) one others)

listed_of : {X : Type 0} (f : X → List ℕ) (xs : List X) (d : X) → 1 ≤ length xs
    → codes "[" ++ (f (get_or xs 0 d) ++ (rest_listed f (drop 1 xs) ++ codes "]")) ≡ listed f xs
listed_of f [] d h = absurd (omega arith)
listed_of f (x ∷ xs) d h = refl

pub listed_as : {X : Type 0} (f : X → List ℕ) (xs : List X) (d : X) (a b c : Tally) → 1 ≤ length xs
    → Adds a b (codes "[" ++ f (get_or xs 0 d)) → Adds b c (rest_listed f (drop 1 xs) ++ codes "]") → Adds a c (listed f xs)
listed_as f xs d a b c h one others =
    adds_as a c _ _ (listed_of f xs d h) (then a b c (codes "[" ++ f (get_or xs 0 d)) (rest_listed f (drop 1 xs) ++ codes "]") one others)

gathered_of : {X : Type 0} (f : X → List ℕ) (xs : List X) (d : X) → 1 ≤ length xs
    → codes "{" ++ (f (get_or xs 0 d) ++ (rest_listed f (drop 1 xs) ++ codes "}")) ≡ gathered f xs
gathered_of f [] d h = absurd (omega arith)
gathered_of f (x ∷ xs) d h = refl

pub gathered_as : {X : Type 0} (f : X → List ℕ) (xs : List X) (d : X) (a b c : Tally) → 1 ≤ length xs
    → Adds a b (codes "{" ++ f (get_or xs 0 d)) → Adds b c (rest_listed f (drop 1 xs) ++ codes "}") → Adds a c (gathered f xs)
gathered_as f xs d a b c h one others =
    adds_as a c _ _ (gathered_of f xs d h) (then a b c (codes "{" ++ f (get_or xs 0 d)) (rest_listed f (drop 1 xs) ++ codes "}") one others)

-- of cells one after another: by what they are
pub mapped : {X Y : Type 0} (f : Y → List ℕ) (g : X → Y) (xs : List X) → flat_map (λ x. f (g x)) xs ≡ flat_map f (map g xs)
mapped f g [] = refl
mapped f g (x ∷ xs) = ap (λ (l : List ℕ). f (g x) ++ l) (mapped f g xs)

-- a string of a plain text
pub string_plain : (text : List ℕ) → Plain text → codes "\"" ++ (text ++ codes "\"") ≡ codes "\"" ++ (flat_map char_text text ++ codes "\"")
string_plain text e = ap (λ (t : List ℕ). codes "\"" ++ (t ++ codes "\"")) (sym (plain_text text e))
