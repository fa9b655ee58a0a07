-- A DisplayID extension that is fitted: its data blocks, and that none of them lists a format of some sort.
use Rattle.std.proofs.Common.{◌≡◌, ◌∙◌, refl, sym, ap, ℕ, zero, suc, ◌+◌, ◌≤◌, ◌==◌, Bool, true, false, ◌||◌, nat_lt, min, if◌then◌else◌, List, [], ◌∷◌, ◌++◌, length, slice_index, take, drop, arith}
use Rattle.std.proofs.lemmas.Bool.Decides.{nat_tests}
use Rattle.std.proofs.lemmas.List.{length-append, take-append-drop}
use Rattle.std.specs.List.{list_any}
use Rattle.edid_base.specs.Check.{check_of}
use Rattle.edid_cta.specs.declared.raw.Ext.{Ext}
use Rattle.edid_displayid.specs.Formats.{block_formats, data_formats, data_len, first_formats, is_cut, section_data, section_formats}
use Rattle.edid_displayid.specs.declared.timing.TypedFormat.{TypedFormat}
use Rattle.rules_link.specs.Offers.{is_typed_beyond}
use Rattle.conversion_fit.specs.Sections.{begins_beyond, extension_with, fitted_section, is_beyond_there, left_block, left_data, section_with}
use Rattle.conversion_fit.specs.Zeros.{zeros_after}
use Rattle.conversion_fit.proofs.Choices.{any_alike, choose, none_joined}

-- ---- the front of a list

front_take : (n : ℕ) (p rest : List ℕ) → n ≤ length p → take n (take n p ++ rest) ≡ take n p
front_take zero p rest h = refl
front_take (suc n) [] rest h = absurd (omega (arith, h))
front_take (suc n) (x ∷ p) rest h = ap (λ (l : List ℕ). x ∷ l) (front_take n p rest (omega (arith, h)))

front_drop : (n : ℕ) (p rest : List ℕ) → n ≤ length p → drop n (take n p ++ rest) ≡ rest
front_drop zero p rest h = refl
front_drop (suc n) [] rest h = absurd (omega (arith, h))
front_drop (suc n) (x ∷ p) rest h = front_drop n p rest (omega (arith, h))

inner_take : (inner s z t : List ℕ) → take (length inner) (((inner ++ s) ++ z) ++ t) ≡ inner
inner_take [] s z t = refl
inner_take (x ∷ inner) s z t = ap (λ (l : List ℕ). x ∷ l) (inner_take inner s z t)

both_parts : (n : ℕ) (q : List ℕ) → length (take n q) + length (drop n q) ≡ length q
both_parts n q = sym (length-append (take n q) (drop n q)) ∙ ap (λ (l : List ℕ). length l) (take-append-drop n q)

few_taken : (n : ℕ) (q : List ℕ) → length (take n q) ≤ n
few_taken zero q = omega arith
few_taken (suc n) [] = omega arith
few_taken (suc n) (x ∷ q) = let h = few_taken n q in omega (arith, h)

-- ---- a data block in front

three : (l : ℕ) → 3 + l ≡ suc (suc (suc l))
three l = omega arith

is_whole : (p : List ℕ) (l : ℕ) → (nat_lt (suc (suc (suc (length p)))) 3 || nat_lt (suc (suc (suc (length p)))) (3 + l)) ≡ false → l ≤ length p
is_whole p l h = grind (arith, nat_tests)

cut_one : {X : Type 0} (n : ℕ) (b : Bool) → n ≤ 2 → (nat_lt n 3 || b) ≡ false → X
cut_one n true h e = let no : ⊥ = grind (arith, nat_tests) in absurd no
cut_one n false h e = let no : ⊥ = grind (arith, nat_tests) in absurd no

-- it says the same whatever stands after it

same_formats : (q rest : List ℕ) → is_cut q ≡ false → first_formats (take (data_len q) q ++ rest) ≡ first_formats q
unfolding first_formats
same_formats [] rest h = cut_one 0 (nat_lt 0 (data_len [])) (omega arith) h
same_formats (t ∷ []) rest h = cut_one 1 (nat_lt 1 (data_len (t ∷ []))) (omega arith) h
same_formats (t ∷ r ∷ []) rest h = cut_one 2 (nat_lt 2 (data_len (t ∷ r ∷ []))) (omega arith) h
same_formats (t ∷ r ∷ l ∷ p) rest h =
    ap (λ (n : ℕ). block_formats (slice_index (take n (t ∷ r ∷ l ∷ p) ++ rest) 0) (slice_index (take n (t ∷ r ∷ l ∷ p) ++ rest) 1)
    (take (slice_index (take n (t ∷ r ∷ l ∷ p) ++ rest) 2) (drop 3 (take n (t ∷ r ∷ l ∷ p) ++ rest)))) (three l)
    ∙ ap (λ (b : List ℕ). block_formats t r b) (front_take l p rest (is_whole p l h))

same_rest : (q rest : List ℕ) → is_cut q ≡ false → drop (data_len (take (data_len q) q ++ rest)) (take (data_len q) q ++ rest) ≡ rest
same_rest [] rest h = cut_one 0 (nat_lt 0 (data_len [])) (omega arith) h
same_rest (t ∷ []) rest h = cut_one 1 (nat_lt 1 (data_len (t ∷ []))) (omega arith) h
same_rest (t ∷ r ∷ []) rest h = cut_one 2 (nat_lt 2 (data_len (t ∷ r ∷ []))) (omega arith) h
same_rest (t ∷ r ∷ l ∷ p) rest h =
    ap (λ (n : ℕ). drop (data_len (take n (t ∷ r ∷ l ∷ p) ++ rest)) (take n (t ∷ r ∷ l ∷ p) ++ rest)) (three l)
    ∙ ap (λ (n : ℕ). drop n (t ∷ r ∷ l ∷ (take l p ++ rest))) (three l)
    ∙ front_drop l p rest (is_whole p l h)

-- ---- data blocks that stay

left_short : (xs : List Ext) (count q : List ℕ) → length (left_data xs count q) ≤ length q
unfolding left_data
left_short xs [] q = omega arith
left_short xs (c ∷ count) q =
    let n = data_len q in
    let rest = left_data xs count (drop n q) in
    let less = left_short xs count (drop n q) in
    let both = both_parts n q in
    choose (λ (l : List ℕ). length l ≤ length q) (is_cut q) [] (left_block xs q ++ rest) (λ e. omega arith) (λ e.
    choose (λ (l : List ℕ). length (l ++ rest) ≤ length q) (begins_beyond xs q) [] (take n q) (λ k. omega (arith, less, both))
    (λ k. let joined = length-append (take n q) rest in omega (arith, less, both, joined)))

module _ (xs : List Ext) (beyond : TypedFormat → Bool) (same : (f : TypedFormat) → beyond f ≡ is_typed_beyond xs f) where
  abbrev Lacks : List TypedFormat → Type 0
  Lacks fs = list_any beyond fs ≡ false

  none_there : (fs : List TypedFormat) → list_any (is_typed_beyond xs) fs ≡ false → Lacks fs
  none_there fs e = any_alike beyond (is_typed_beyond xs) same fs ∙ e

  one_more : (other q rest : List ℕ) → is_cut q ≡ false → begins_beyond xs q ≡ false → ((more : List ℕ) → Lacks (data_formats more rest)) → Lacks (data_formats other (take (data_len q) q ++ rest))
  unfolding data_formats
  one_more [] q rest whole stays go = refl
  one_more (d ∷ other) q rest whole stays go =
      let all = take (data_len q) q ++ rest in
      choose (λ (l : List TypedFormat). Lacks l) (is_cut all) [] (first_formats all ++ data_formats other (drop (data_len all) all)) (λ e. refl)
      (λ e. none_joined beyond (first_formats all) (data_formats other (drop (data_len all) all))
      (ap (λ (l : List TypedFormat). list_any beyond l) (same_formats q rest whole) ∙ none_there (first_formats q) stays)
      (ap (λ (l : List ℕ). list_any beyond (data_formats other l)) (same_rest q rest whole) ∙ go other))

  none_of_nothing : (other : List ℕ) → Lacks (data_formats other [])
  unfolding data_formats
  none_of_nothing [] = refl
  none_of_nothing (d ∷ other) = refl

  left_none : (count other q : List ℕ) → Lacks (data_formats other (left_data xs count q))
  unfolding left_data
  left_none [] other q = none_of_nothing other
  left_none (c ∷ count) other q =
      let n = data_len q in
      let rest = left_data xs count (drop n q) in
      choose (λ (l : List ℕ). Lacks (data_formats other l)) (is_cut q) [] (left_block xs q ++ rest) (λ e. none_of_nothing other) (λ whole.
      choose (λ (l : List ℕ). Lacks (data_formats other (l ++ rest))) (begins_beyond xs q) [] (take n q) (λ e. left_none count other (drop n q))
      (λ stays. one_more other q rest whole stays (λ more. left_none count more (drop n q))))

-- ---- the extension

few_there : (b : List ℕ) → length (section_data b) ≤ 121
few_there b =
    let less = few_taken (min (slice_index b 2) 121) (drop 5 b) in
    choose (λ (l : List ℕ). length l ≤ 121) (slice_index b 0 == 0x70) (take (min (slice_index b 2) 121) (drop 5 b)) [] (λ e. omega (arith, less)) (λ e. omega arith)

data_there : (b inner : List ℕ) → length inner ≤ 121 → section_data (extension_with b inner) ≡ inner
data_there b inner h =
    let few : min (length inner) 121 ≡ length inner = omega (arith, h) in
    let section = slice_index b 1 ∷ length inner ∷ slice_index b 3 ∷ slice_index b 4 ∷ inner in
    ap (λ (n : ℕ). take n (drop 5 (extension_with b inner))) few
    ∙ inner_take inner (check_of section ∷ []) (zeros_after (length inner + 2)) (check_of (0x70 ∷ (section_with b inner ++ zeros_after (length inner + 2))) ∷ [])

pub section_none : (xs : List Ext) (beyond : TypedFormat → Bool) → ((f : TypedFormat) → beyond f ≡ is_typed_beyond xs f) → (b c : List ℕ) → c ≡ fitted_section xs b
    → list_any beyond (section_formats c) ≡ false
section_none xs beyond same b c e =
    let inner = section_data b in
    let left = left_data xs inner inner in
    let few : length left ≤ 121 = (let less = left_short xs inner inner in let all = few_there b in omega (arith, less, all)) in
    ap (λ (l : List ℕ). list_any beyond (section_formats l)) e
    ∙ choose (λ (l : List ℕ). list_any beyond (section_formats l) ≡ false) (is_beyond_there xs b) (extension_with b left) b
    (λ k. ap (λ (l : List ℕ). list_any beyond (data_formats l l)) (data_there b left few) ∙ left_none xs beyond same inner left inner)
    (λ k. none_there xs beyond same (section_formats b) k)
