-- No timing is left that the link does not carry.
use Rattle.std.proofs.Common.{◌≡◌, ◌∙◌, refl, sym, ap, ℕ, ◌==◌, Bool, true, false, ◌||◌, not, if◌then◌else◌, List, [], ◌∷◌, ◌++◌, drop, map, flat_map, Option, Some, None}
use Rattle.std.specs.List.{filter, list_any}
use Rattle.edid_base.specs.declared.base.Base.{Base}
use Rattle.edid_base.specs.declared.descriptor.Descriptor.{Descriptor}
use Rattle.edid_base.specs.declared.descriptor.Descriptor.TheVariants.{Timing as OfTiming, Name, Text, SerialText, Range, Dummy, Raw as RawBytes}
use Rattle.edid_base.specs.declared.timing.Timing.{Timing}
use Rattle.edid_cta.specs.declared.raw.Ext.{Ext}
use Rattle.edid_cta.specs.declared.raw.Ext.TheVariants.{Cta, Bare, Raw}
use Rattle.rules_link.specs.Offers.{is_timing_beyond, timing_load}
use Rattle.rules_values.specs.ExtParts.{descriptor_timings, ext_timings, timings_of}
use Rattle.conversion_fit.specs.Timings.{area, begins_lost, carried_timings, freed, greatest, greatest_area, has_area, has_area_there, is_carried_timing, is_lost, leader, led_descriptors, led_timings, left_descriptor, left_descriptors, without_first}
use Rattle.conversion_fit.specs.Whole.{AreFitted, IsFittedBase}
use Rattle.conversion_fit.proofs.Choices.{choose, found_kept, none_flat, none_joined, none_kept, none_or}
use Rattle.conversion_fit.proofs.Links.{beyond_same}

or_false : (a : Bool) → a ≡ false → (a || false) ≡ false
or_false true e = e
or_false false e = refl

pub kept_is : (a : Bool) → not a ≡ true → a ≡ false
kept_is true h = let no : ⊥ = cc in absurd no
kept_is false h = refl

rest_none : (a b : Bool) → (a || b) ≡ false → b ≡ false
rest_none true b h = let no : ⊥ = cc in absurd no
rest_none false b h = h

pub first_none : (a b : Bool) → (a || b) ≡ false → a ≡ false
first_none true b h = h
first_none false b h = refl

module _ (base : Base) (xs fit : List Ext) (h : AreFitted base xs xs fit) where
  abbrev beyond : Timing → Bool
  beyond t = is_timing_beyond fit t

  timing_same : (t : Timing) → beyond t ≡ is_timing_beyond xs t
  timing_same t = beyond_same base xs fit h (timing_load t)

  -- ---- lists of timings

  carried_none : (ts : List Timing) → list_any beyond (carried_timings xs ts) ≡ false
  carried_none ts = none_kept beyond (is_timing_beyond xs) timing_same ts

  without_none : (pixels : ℕ) (ts : List Timing) → list_any beyond ts ≡ false → list_any beyond (without_first pixels ts) ≡ false
  without_none pixels [] e = refl
  without_none pixels (t ∷ ts) e =
      choose (λ (l : List Timing). list_any beyond l ≡ false) (has_area pixels t) ts (t ∷ without_first pixels ts)
      (λ k. rest_none (beyond t) (list_any beyond ts) e)
      (λ k. none_or (beyond t) (list_any beyond (without_first pixels ts)) (first_none (beyond t) (list_any beyond ts) e) (without_none pixels ts (rest_none (beyond t) (list_any beyond ts) e)))

  led_none : (ds : List Descriptor) (o : Option Timing) (ts : List Timing) → list_any beyond (led_timings xs ds o ts) ≡ false
  led_none ds None ts = carried_none ts
  led_none ds (Some t) ts =
      choose (λ (l : List Timing). list_any beyond l ≡ false) (list_any (has_area_there (area t)) (left_descriptors xs (drop 1 ds))) (carried_timings xs ts)
      (without_first (area t) (carried_timings xs ts)) (λ e. carried_none ts) (λ e. without_none (area t) (carried_timings xs ts) (carried_none ts))

  exts_left : (some ys : List Ext) → AreFitted base xs some ys → list_any beyond (flat_map ext_timings ys) ≡ false
  exts_left [] [] k = refl
  exts_left [] (y ∷ ys) k = absurd k
  exts_left (x ∷ some) [] k = absurd k
  exts_left (Cta c ∷ some) (Cta d ∷ ys) k =
      none_joined beyond d.timings.items (flat_map ext_timings ys)
      (ap (list_any beyond) k.0.timings ∙ led_none base.descriptors (leader xs base) c.timings.items) (exts_left some ys k.1)
  exts_left (Cta c ∷ some) (Bare d ∷ ys) k = absurd k.0
  exts_left (Cta c ∷ some) (Raw r ∷ ys) k = absurd k.0
  exts_left (Bare c ∷ some) (y ∷ ys) k =
      none_joined beyond (ext_timings y) (flat_map ext_timings ys) (ap (λ (e : Ext). list_any beyond (ext_timings e)) k.0) (exts_left some ys k.1)
  exts_left (Raw r ∷ some) (Cta d ∷ ys) k = absurd k.0
  exts_left (Raw r ∷ some) (Bare d ∷ ys) k = absurd k.0
  exts_left (Raw r ∷ some) (Raw s ∷ ys) k = exts_left some ys k.1

  -- ---- descriptors

  abbrev Fine : Descriptor → Type 0
  Fine d = list_any beyond (descriptor_timings d) ≡ false

  abbrev AreFine : List Descriptor → Type 0
  AreFine ds = list_any beyond (flat_map descriptor_timings ds) ≡ false

  stays : (d : Descriptor) → is_lost xs d ≡ false → Fine d
  stays (OfTiming t) e = or_false (beyond t) (timing_same t ∙ e)
  stays (Name n) e = refl
  stays (Text n) e = refl
  stays (SerialText n) e = refl
  stays (Range l) e = refl
  stays Dummy e = refl
  stays (RawBytes r) e = refl

  left_fine : (d : Descriptor) → Fine (left_descriptor xs d)
  left_fine d = choose (λ (c : Descriptor). Fine c) (is_lost xs d) Dummy d (λ e. refl) (λ e. stays d e)

  lefts_fine : (ds : List Descriptor) → AreFine (left_descriptors xs ds)
  lefts_fine ds = none_flat beyond descriptor_timings (left_descriptor xs) left_fine ds

  split_first : (ts us : List Timing) → list_any beyond (ts ++ us) ≡ false → list_any beyond ts ≡ false
  split_first [] us h = refl
  split_first (t ∷ ts) us h = none_or (beyond t) (list_any beyond ts) (first_none (beyond t) (list_any beyond (ts ++ us)) h) (split_first ts us (rest_none (beyond t) (list_any beyond (ts ++ us)) h))

  split_rest : (ts us : List Timing) → list_any beyond (ts ++ us) ≡ false → list_any beyond us ≡ false
  split_rest [] us h = h
  split_rest (t ∷ ts) us h = split_rest ts us (rest_none (beyond t) (list_any beyond (ts ++ us)) h)

  freed_fine : (pixels : ℕ) (ds : List Descriptor) → AreFine ds → AreFine (freed pixels ds)
  freed_fine pixels [] h = refl
  freed_fine pixels (d ∷ ds) h =
      let first = split_first (descriptor_timings d) (flat_map descriptor_timings ds) h in
      let rest = split_rest (descriptor_timings d) (flat_map descriptor_timings ds) h in
      choose (λ (l : List Descriptor). AreFine l) (has_area_there pixels d) (Dummy ∷ ds) (d ∷ freed pixels ds)
      (λ e. rest) (λ e. none_joined beyond (descriptor_timings d) (flat_map descriptor_timings (freed pixels ds)) first (freed_fine pixels ds rest))

  led_fine : (ds : List Descriptor) (o : Option Timing) → ((t : Timing) → o ≡ Some t → beyond t ≡ false) → AreFine (led_descriptors xs ds o)
  led_fine ds None h = lefts_fine ds
  led_fine ds (Some t) h = none_or (beyond t) (list_any beyond (flat_map descriptor_timings (freed (area t) (left_descriptors xs (drop 1 ds))))) (h t refl) (freed_fine (area t) (left_descriptors xs (drop 1 ds)) (lefts_fine (drop 1 ds)))

  leads : (t : Timing) → leader xs base ≡ Some t → beyond t ≡ false
  leads t =
      choose (λ (o : Option Timing). o ≡ Some t → beyond t ≡ false) (begins_lost xs base.descriptors) (greatest (carried_timings xs (timings_of base xs))) None
      (λ e found. timing_same t ∙ kept_is (is_timing_beyond xs t) (found_kept (has_area (greatest_area (carried_timings xs (timings_of base xs)))) (is_carried_timing xs) (timings_of base xs) t found))
      (λ e found. let no : ⊥ = cc in absurd no)

  pub timings_none : (b : Base) → IsFittedBase xs base b → list_any beyond (timings_of b fit) ≡ false
  timings_none b of =
      none_joined beyond (flat_map descriptor_timings b.descriptors) (flat_map ext_timings fit)
      (ap (λ (ds : List Descriptor). list_any beyond (flat_map descriptor_timings ds)) of.descriptors ∙ led_fine base.descriptors (leader xs base) leads)
      (exts_left xs fit h)
