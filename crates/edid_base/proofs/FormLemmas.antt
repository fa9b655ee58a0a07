-- The parts of a descriptor's bytes.
use Rattle.std.proofs.Common.{◌≡◌, ℕ, ◌<◌, ◌≤◌, ◌+◌, List, [], ◌∷◌, length, get_or, drop, take, replicate, Bool, true, false, ◌==◌, ◌&&◌, Option, Some, None, MatchOption, arith, refl, sym, drop-cons, length-drop, eq-eqb}
use Rattle.std.proofs.lemmas.List.{take_all}
use Rattle.std.specs.List.{list_all}
use Rattle.std.proofs.lemmas.Bool.{eqb-true}
use Rattle.edid_base.specs.Chars.{text_bytes, is_text_form}
use Rattle.edid_base.specs.Forms.{has_text}
use Rattle.edid_base.specs.Descriptor.{tagged_bytes}
use Rattle.edid_base.specs.declared.text.Text.{Text}

pub tagged_is : (bytes : List ℕ) (tag : ℕ) (rest : List ℕ) → length bytes ≡ 18
    → get_or bytes 0 0 + get_or bytes 1 0 ≡ 0 → get_or bytes 2 0 ≡ 0 → get_or bytes 3 0 ≡ tag → rest ≡ drop 4 bytes
    → tagged_bytes tag rest ≡ bytes
tagged_is bytes tag rest len zeros second third after =
    let p : 0 < length bytes = omega arith in
    let q : 1 < length bytes = omega arith in
    let r : 2 < length bytes = omega arith in
    let s : 3 < length bytes = omega arith in
    let a = drop-cons bytes 0 0 p in
    let b = drop-cons bytes 1 0 q in
    let d = drop-cons bytes 2 0 r in
    let e = drop-cons bytes 3 0 s in
    let x : get_or bytes 0 0 ≡ 0 = omega arith in
    let y : get_or bytes 1 0 ≡ 0 = omega arith in
    cc

both : (a b : Bool) → (a && b) ≡ true → (a ≡ true) × (b ≡ true)
both true b h = (refl, h)
both false b h = cc

pub zeros_are : (xs : List ℕ) → list_all (λ b. b == 0) xs ≡ true → xs ≡ replicate (length xs) 0
zeros_are [] h = refl
zeros_are (x ∷ xs) h =
    let parts = both (x == 0) (list_all (λ b. b == 0) xs) h in
    let first = eqb-true x 0 parts.0 in let others = zeros_are xs parts.1 in cc

-- the rest of an array from a place on
pub tail_of : (xs : List ℕ) (i n : ℕ) → i + n ≡ length xs → take n (drop i xs) ≡ drop i xs
tail_of xs i n h =
    let le : length (drop i xs) ≤ n = simp length-drop (omega arith) in
    take_all n (drop i xs) le

pub text_in_is : (bytes : List ℕ) → length bytes ≡ 18 → get_or bytes 4 0 ≡ 0 → (r : Option Text)
    → MatchOption r (is_text_form (take 13 (drop 5 bytes)) ≡ false) (λ t. (is_text_form (take 13 (drop 5 bytes)) ≡ true) × (text_bytes t.chars.items ≡ take 13 (drop 5 bytes)))
    → MatchOption r (has_text bytes ≡ false) (λ t. (has_text bytes ≡ true) × (0 ∷ text_bytes t.chars.items ≡ drop 4 bytes))
text_in_is bytes len fourth None h = rw (eq-eqb _ _ fourth) (rw (tail_of bytes 5 13 (sym len)) at h)
text_in_is bytes len fourth (Some t) h =
    let p : 4 < length bytes = omega arith in
    let e = drop-cons bytes 4 0 p in
    let text = rw (tail_of bytes 5 13 (sym len)) at h.1 in
    (rw (eq-eqb _ _ fourth) (rw (tail_of bytes 5 13 (sym len)) at h.0), cc)
