-- Data blocks kind by kind are the same blocks.
use Rattle.std.proofs.Common.{◌≡◌, refl, sym, ap, subst, ℕ, suc, ◌==◌, Bool, true, false, cond, arith, List, [], ◌∷◌, ◌++◌, length, filter}
use Rattle.std.specs.List.Sorted.{IsPermutation}
use Rattle.std.proofs.lemmas.List.Sorted.{IsPermutation-append_right, IsPermutation-cons, IsPermutation-middle, IsPermutation-refl, IsPermutation-sym, IsPermutation-trans}
use Rattle.edid_cta.specs.declared.block.DataBlock.{DataBlock}
use Rattle.edid_merge.specs.Subjects.{is_of, subject_number, subject_of}
use Rattle.edid_merge.specs.declared.subject.Subject.{Subject}
use Rattle.edid_merge.specs.declared.subject.Subject.TheVariants.{Video, Audio, Speakers, Hdmi, Forum, Capability, Colorimetry, Hdr, MakerVideo, MakerAudio, Override, Other}
use Rattle.edid_laws.specs.Itself.{by_kinds, kinds}

-- how often a kind is among others
abbrev hits : Subject → List Subject → ℕ
hits u [] = 0
hits u (s ∷ ss) = cond (subject_number u == subject_number s) (suc (hits u ss)) (hits u ss)

neither : {P : Type 0} → true ≡ false → P
neither e = absurd (cc)

-- each kind but that of overrides is there once
once : (u : Subject) → (subject_number u == subject_number Override) ≡ false → hits u kinds ≡ 1
once Video e = refl
once Audio e = refl
once Speakers e = refl
once Hdmi e = refl
once Forum e = refl
once Capability e = refl
once Colorimetry e = refl
once Hdr e = refl
once MakerVideo e = refl
once MakerAudio e = refl
once Override e = neither e
once Other e = refl

-- a block of none of these kinds
none_of : (ss : List Subject) (b : DataBlock) (bs : List DataBlock) → hits (subject_of b) ss ≡ 0 → by_kinds ss (b ∷ bs) ≡ by_kinds ss bs
none_of [] b bs e = refl
none_of (s ∷ ss) b bs e = by (is_of s b) e (none_of ss b bs)
  where
    by : (v : Bool) → cond v (suc (hits (subject_of b) ss)) (hits (subject_of b) ss) ≡ 0 → (hits (subject_of b) ss ≡ 0 → by_kinds ss (b ∷ bs) ≡ by_kinds ss bs)
        → cond v (b ∷ filter (is_of s) bs) (filter (is_of s) bs) ++ by_kinds ss (b ∷ bs) ≡ filter (is_of s) bs ++ by_kinds ss bs
    by true e ih = absurd (omega (arith, e))
    by false e ih = ap (λ (k : List DataBlock). filter (is_of s) bs ++ k) (ih e)

-- one of just one of them
one_of : (ss : List Subject) (b : DataBlock) (bs : List DataBlock) → hits (subject_of b) ss ≡ 1 → IsPermutation (b ∷ by_kinds ss bs) (by_kinds ss (b ∷ bs))
one_of [] b bs e = absurd (omega (arith, e))
one_of (s ∷ ss) b bs e = by (is_of s b) e (none_of ss b bs) (one_of ss b bs)
  where
    by : (v : Bool) → cond v (suc (hits (subject_of b) ss)) (hits (subject_of b) ss) ≡ 1 → (hits (subject_of b) ss ≡ 0 → by_kinds ss (b ∷ bs) ≡ by_kinds ss bs)
        → (hits (subject_of b) ss ≡ 1 → IsPermutation (b ∷ by_kinds ss bs) (by_kinds ss (b ∷ bs)))
        → IsPermutation (b ∷ (filter (is_of s) bs ++ by_kinds ss bs)) (cond v (b ∷ filter (is_of s) bs) (filter (is_of s) bs) ++ by_kinds ss (b ∷ bs))
    by true e none ih =
        let nil : hits (subject_of b) ss ≡ 0 = omega (arith, e) in
        subst (λ (k : List DataBlock). IsPermutation (b ∷ (filter (is_of s) bs ++ by_kinds ss bs)) ((b ∷ filter (is_of s) bs) ++ k)) (sym (none nil))
        (IsPermutation-refl (b ∷ (filter (is_of s) bs ++ by_kinds ss bs)))
    by false e none ih =
        let front = filter (is_of s) bs in
        IsPermutation-trans (b ∷ (front ++ by_kinds ss bs)) (front ++ b ∷ by_kinds ss bs) (front ++ by_kinds ss (b ∷ bs))
        (IsPermutation-sym (front ++ b ∷ by_kinds ss bs) (b ∷ (front ++ by_kinds ss bs)) (IsPermutation-middle front b (by_kinds ss bs)))
        (IsPermutation-append_right front (b ∷ by_kinds ss bs) (by_kinds ss (b ∷ bs)) (ih e))

no_blocks : (ss : List Subject) → by_kinds ss [] ≡ []
no_blocks [] = refl
no_blocks (s ∷ ss) = no_blocks ss

-- the first is no override, nor are the others
first_not : (b : DataBlock) (bs : List DataBlock) → filter (is_of Override) (b ∷ bs) ≡ [] → (is_of Override b ≡ false) × (filter (is_of Override) bs ≡ [])
first_not b bs e = by (is_of Override b) refl e
  where
    by : (v : Bool) → is_of Override b ≡ v → cond v (b ∷ filter (is_of Override) bs) (filter (is_of Override) bs) ≡ [] → (is_of Override b ≡ false) × (filter (is_of Override) bs ≡ [])
    by true f e = absurd (omega (arith, ap length e))
    by false f e = (f, e)

pub same_blocks : (bs : List DataBlock) → filter (is_of Override) bs ≡ [] → IsPermutation bs (by_kinds kinds bs)
same_blocks [] e = IsPermutation-refl []
same_blocks (b ∷ bs) e =
    let parts = first_not b bs e in
    IsPermutation-trans (b ∷ bs) (b ∷ by_kinds kinds bs) (by_kinds kinds (b ∷ bs))
    (IsPermutation-cons b bs (by_kinds kinds bs) (same_blocks bs parts.1)) (one_of kinds b bs (once (subject_of b) parts.0))
