-- The text of a list at a place.
use Rattle.std.proofs.Common.{◌≡◌, ℕ, zero, suc, ◌≤◌, Bool, true, false, ◌&&◌, nat_le, List, [], ◌∷◌, length, map, slice_get, Some, None, option_map, ap, refl, ◌∙◌, subst}
use Rattle.std.proofs.lemmas.Option.{slice_get-map}
use Rattle.std.proofs.lemmas.Bool.{leb-true}
use Rattle.meaning_fields.specs.Fields.{are_short, chosen, text_in_code, words}
use Rattle.meaning_fields.specs.declared.fields.Choice.{Choice}

pub words_some : (before : List ℕ) (texts : List Choice) (v : ℕ) (c : Choice) → slice_get texts v ≡ Some c → words before (map text_in_code texts) v ≡ c.text.now
words_some before texts v c h = ap (chosen before v) (slice_get-map text_in_code texts v ∙ ap (option_map text_in_code) h)

pub words_none : (before : List ℕ) (texts : List Choice) (v : ℕ) → slice_get texts v ≡ None → words before (map text_in_code texts) v ≡ chosen before v None
words_none before texts v h = ap (chosen before v) (slice_get-map text_in_code texts v ∙ ap (option_map text_in_code) h)

pub short_at : (texts : List Choice) (v : ℕ) (c : Choice) → are_short texts ≡ true → slice_get texts v ≡ Some c → length c.text.now ≤ 60
short_at [] v c e h = cc
short_at (t ∷ texts) zero c e h = at (nat_le (length t.text.now) 60) refl e h
  where
    at : (b : Bool) → nat_le (length t.text.now) 60 ≡ b → (b && are_short texts) ≡ true → Some t ≡ Some c → length c.text.now ≤ 60
    at true k e h = let same : t ≡ c = cc in subst (λ x. length x.text.now ≤ 60) same (leb-true (length t.text.now) 60 k)
    at false k e h = cc
short_at (t ∷ texts) (suc v) c e h = short_at texts v c (rest (nat_le (length t.text.now) 60) e) h
  where
    rest : (b : Bool) → (b && are_short texts) ≡ true → are_short texts ≡ true
    rest true e = e
    rest false e = cc
