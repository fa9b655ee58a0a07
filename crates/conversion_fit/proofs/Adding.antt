-- Extensions that are fitted one after the other, and timings beside the one that is preferred then.
use Rattle.std.proofs.Common.{◌≡◌, ◌∙◌, refl, sym, ap, subst, ℕ, ◌-◌, ◌≤◌, Bool, true, false, List, [], ◌∷◌, ◌++◌, length, get_or, take, drop, Option, Some, arith}
use Rattle.std.proofs.lemmas.List.{take_rest}
use Rattle.std.specs.List.{list_any}
use Rattle.edid_base.specs.declared.base.Base.{Base}
use Rattle.edid_base.specs.declared.descriptor.Descriptor.{Descriptor}
use Rattle.edid_base.specs.declared.timing.Timing.{Timing}
use Rattle.edid_core.specs.declared.edid.Edid.{Edid}
use Rattle.edid_cta.specs.declared.raw.Ext.{Ext}
use Rattle.conversion_fit.specs.Timings.{area, carried_timings, has_area_there, led_timings, left_descriptors, without_first}
use Rattle.conversion_fit.specs.Whole.{AreFitted, IsFitted, IsFittedBase, IsFittedExt}
use Rattle.conversion_fit.proofs.Choices.{choose}

one_more : (old rest : List Ext) (x : Ext) → (old ++ (x ∷ [])) ++ rest ≡ old ++ (x ∷ rest)
one_more [] rest x = refl
one_more (y ∷ ys) rest x = ap (λ (l : List Ext). y ∷ l) (one_more ys rest x)

one_fitted : (b : Base) (xs done old : List Ext) (x y : Ext) → AreFitted b xs done old → IsFittedExt b xs x y → AreFitted b xs (done ++ (x ∷ [])) (old ++ (y ∷ []))
one_fitted b xs [] [] x y h k = (k, tt)
one_fitted b xs [] (z ∷ zs) x y h k = absurd h
one_fitted b xs (w ∷ ws) [] x y h k = absurd h
one_fitted b xs (w ∷ ws) (z ∷ zs) x y h k = (h.0, one_fitted b xs ws zs x y h.1 k)

pub parted : (some : List Ext) (x none : Ext) → 1 ≤ length some → x ≡ get_or some 0 none → some ≡ x ∷ take (length some - 1) (drop 1 some)
parted [] x none h e = absurd (omega (arith, h))
parted (y ∷ ys) x none h e = ap (λ (z : Ext). z ∷ ys) (sym e) ∙ ap (λ (l : List Ext). x ∷ l) (sym (take_rest (y ∷ ys) 1))

pub more_fitted : (b : Base) (xs done old mid new rest some : List Ext) (x y : Ext)
    → AreFitted b xs done old → IsFittedExt b xs x y → mid ≡ old ++ (y ∷ []) → some ≡ x ∷ rest
    → ((front : List Ext) → AreFitted b xs front mid → AreFitted b xs (front ++ rest) new) → AreFitted b xs (done ++ some) new
more_fitted b xs done old mid new rest some x y h k push is go =
    let there : AreFitted b xs (done ++ (x ∷ [])) mid = subst (λ (l : List Ext). AreFitted b xs (done ++ (x ∷ [])) l) (sym push) (one_fitted b xs done old x y h k) in
    subst (λ (l : List Ext). AreFitted b xs l new) (one_more done rest x ∙ ap (λ (l : List Ext). done ++ l) (sym is)) (go (done ++ (x ∷ [])) there)

pub whole_fitted : (e f : Edid) (xs out : List Ext) → xs ≡ e.extensions.items → out ≡ [] → IsFittedBase xs e.base f.base
    → ((front : List Ext) → AreFitted e.base xs front out → AreFitted e.base xs (front ++ xs) f.extensions.items) → IsFitted e f
whole_fitted e f xs out same none base go = record {
  base = subst (λ (l : List Ext). IsFittedBase l e.base f.base) same base;
  extensions = subst (λ (l : List Ext). AreFitted e.base l l f.extensions.items) same (go [] (subst (λ (l : List Ext). AreFitted e.base xs [] l) (sym none) tt));
}

either : {P : Type 0} → true ≡ false → P
either h = let no : ⊥ = cc in absurd no

module _ (xs : List Ext) (ds : List Descriptor) (ts : List Timing) (t : Timing) (pixels : ℕ) (here : Bool) (size : pixels ≡ area t)
    (is : here ≡ list_any (has_area_there pixels) (left_descriptors xs (drop 1 ds))) where
  test : here ≡ list_any (has_area_there (area t)) (left_descriptors xs (drop 1 ds))
  test = is ∙ ap (λ (n : ℕ). list_any (has_area_there n) (left_descriptors xs (drop 1 ds))) size

  pub led_stays : (o : Option Timing) (out : List Timing) → here ≡ true → o ≡ Some t → out ≡ carried_timings xs ts → out ≡ led_timings xs ds o ts
  led_stays o out holds some same =
      choose (λ (l : List Timing). out ≡ l) (list_any (has_area_there (area t)) (left_descriptors xs (drop 1 ds))) (carried_timings xs ts)
      (without_first (area t) (carried_timings xs ts)) (λ e. same) (λ e. either (sym holds ∙ test ∙ e)) ∙ ap (λ (p : Option Timing). led_timings xs ds p ts) (sym some)

  pub led_goes : (o : Option Timing) (out : List Timing) → here ≡ false → o ≡ Some t → out ≡ without_first (area t) (carried_timings xs ts) → out ≡ led_timings xs ds o ts
  led_goes o out fails some same =
      choose (λ (l : List Timing). out ≡ l) (list_any (has_area_there (area t)) (left_descriptors xs (drop 1 ds))) (carried_timings xs ts)
      (without_first (area t) (carried_timings xs ts)) (λ e. either (sym e ∙ sym test ∙ fails)) (λ e. same) ∙ ap (λ (p : Option Timing). led_timings xs ds p ts) (sym some)
