-- What has no place, one after another.
use Rattle.std.proofs.Common.{◌≡◌, ◌∙◌, refl, sym, ap, subst, ℕ, zero, suc, ◌<◌, ◌≤◌, true, arith, List, [], ◌∷◌, ◌++◌, length, get_or, drop}
use Rattle.text_core.proofs.Adding.{nothing, then}
use Rattle.text_core.specs.Adds.{Adds, Tally}
use Rattle.edid_base.specs.declared.descriptor.Descriptor.{Descriptor}
use Rattle.edid_merge.specs.Labels.{is_labelled, labelled}
use Rattle.edid_merge.specs.Notes.{descriptor_note, descriptor_notes}
use Rattle.edid_merge.specs.declared.labels.Label.{Label}

none_left : (n : ℕ) (l : Label) (xs : List Descriptor) → length xs < 1 → descriptor_notes (drop n (labelled l xs)) ≡ []
none_left zero l [] h = refl
none_left (suc n) l [] h = refl
none_left n l (x ∷ xs) h = absurd (omega (arith, h))

pub nothing_left : (n : ℕ) (l : Label) (xs : List Descriptor) (a : Tally) → length xs < 1 → Adds a a (descriptor_notes (drop n (labelled l xs)))
nothing_left n l xs a h = subst (λ (k : List ℕ). Adds a a k) (sym (none_left n l xs h)) (nothing a)

first_and_rest : (l : Label) (x none : Descriptor) (xs : List Descriptor) → 1 ≤ length xs → x ≡ get_or xs 0 none → is_labelled l x ≡ true
    → descriptor_notes (labelled l xs) ≡ descriptor_note x ++ descriptor_notes (labelled l (drop 1 xs))
first_and_rest l x none [] h e f = absurd (omega (arith, h))
first_and_rest l x none (y ∷ ys) h e f =
    let there : is_labelled l y ≡ true = subst (λ (k : Descriptor). is_labelled l k ≡ true) e f in
    rw (there, e) refl

pub first_noted : (n : ℕ) (l : Label) (x none : Descriptor) (xs : List Descriptor) (a b c : Tally) → 1 ≤ length xs → x ≡ get_or xs 0 none → is_labelled l x ≡ true → n ≡ 0
    → Adds a b (descriptor_note x) → Adds b c (descriptor_notes (drop 0 (labelled l (drop 1 xs)))) → Adds a c (descriptor_notes (drop n (labelled l xs)))
first_noted n l x none xs a b c h e f z first rest =
    subst (λ (k : ℕ). Adds a c (descriptor_notes (drop k (labelled l xs)))) (sym z)
    (subst (λ (k : List ℕ). Adds a c k) (sym (first_and_rest l x none xs h e f)) (then a b c (descriptor_note x) (descriptor_notes (labelled l (drop 1 xs))) first rest))
