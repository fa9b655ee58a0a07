-- The word of a field, and whether it is reserved.
use Rattle.std.proofs.Common.{◌≡◌, ◌↔◌, ℕ, Bool, true, false, not, ◌&&◌, nat_le, if◌then◌else◌, List, [], ◌∷◌, Option, Some, None, codes, refl, subst}
use Rattle.std.specs.Str.{bytes_eq}
use Rattle.std.proofs.lemmas.Bool.{and_parts}
use Rattle.std.proofs.lemmas.Slice.Eq.{bytes_eq-Decides}
use Rattle.edid_fields.specs.Words.{are_words, code_of, is_none, text_of}
use Rattle.edid_fields.specs.Forms.{Code}

pub other-word : (list : List Code) (v : ℕ) (c : Code) → are_words list ≡ true → code_of list v ≡ Some c → not (bytes_eq c.2 (codes "reserved")) ≡ true
unfolding code_of
other-word [] v c h e = cc
other-word (x ∷ list) v c h e =
    let both = and_parts (not (bytes_eq x.2 (codes "reserved"))) (are_words list) h in
    by (nat_le x.0 v && nat_le v x.1) e both.0 (λ k. other-word list v c both.1 k)
  where
    by : (b : Bool) → (if b then Some x else code_of list v) ≡ Some c → not (bytes_eq x.2 (codes "reserved")) ≡ true → (code_of list v ≡ Some c → not (bytes_eq c.2 (codes "reserved")) ≡ true) → not (bytes_eq c.2 (codes "reserved")) ≡ true
    by true k one more = let same : x ≡ c = cc in subst (λ y. not (bytes_eq y.2 (codes "reserved")) ≡ true) same one
    by false k one more = more k

differ : (b : Bool) → b ≡ true → not b ≡ true → false ≡ true
differ true k n = n
differ false k n = k

pub told : (list : List Code) (v : ℕ) → are_words list ≡ true → (is_none (code_of list v) ≡ true) ↔ (text_of (code_of list v) ≡ codes "reserved")
told list v h = by (code_of list v) refl
  where
    no : (c : Code) → not (bytes_eq c.2 (codes "reserved")) ≡ true → c.2 ≡ codes "reserved" → false ≡ true
    no c n k = differ (bytes_eq c.2 (codes "reserved")) ((bytes_eq-Decides c.2 (codes "reserved")).1 k) n

    by : (o : Option Code) → code_of list v ≡ o → (is_none o ≡ true) ↔ (text_of o ≡ codes "reserved")
    by None e = ((λ _. refl), (λ _. refl))
    by (Some c) e = ((λ k. cc), (λ k. no c (other-word list v c h e) k))
