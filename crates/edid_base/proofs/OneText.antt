-- 13 bytes spell one text at most.
use Rattle.std.proofs.Common.{◌≡◌, ℕ, zero, suc, ◌-◌, true, List, [], ◌∷◌, ◌++◌, length, take, ap, refl, sym, ◌∙◌, one-add}
use Rattle.std.specs.List.{prefix_len, list_all}
use Rattle.std.proofs.lemmas.Bool.{and_parts}
use Rattle.edid_base.specs.Chars.{is_char, padding, text_bytes}

-- the front of characters of a text and its padding is the text
pub front_again : (xs : List ℕ) (n : ℕ) → list_all is_char xs ≡ true → take (prefix_len is_char (xs ++ padding n)) (xs ++ padding n) ≡ xs
front_again [] zero h = refl
front_again [] (suc n) h = refl
front_again (x ∷ xs) n h =
    let parts = and_parts (is_char x) (list_all is_char xs) h in
    let e = front_again xs n parts.1 in
    rw (parts.0, one-add) (ap (λ ys. x ∷ ys) e)

pub one_text : (xs ys : List ℕ) → list_all is_char xs ≡ true → list_all is_char ys ≡ true → text_bytes xs ≡ text_bytes ys → xs ≡ ys
one_text xs ys hx hy e =
    sym (front_again xs (13 - length xs) hx) ∙ ap (λ zs. take (prefix_len is_char zs) zs) e ∙ front_again ys (13 - length ys) hy
