-- Bytes spell one EDID at most, and what an EDID spells is not refused.
use Rattle.std.proofs.Common.{◌≡◌, ℕ, zero, suc, ◌+◌, ◌*◌, ◌%◌, ◌<◌, ◌≤◌, Result, Ok, Err, IfOk, IfErr, List, [], ◌∷◌, ◌++◌, length, get_or, take, drop, sum, flat_map, drop-drop, ap, arith, refl, sym, ◌∙◌, subst, length-append}
use mathlib.Core.HLevel.{Σ_prop_path}
use Rattle.std.proofs.Math.Nat.{ℕ_set}
use Rattle.std.proofs.Math.Seq.{take-append_seam, drop-append_seam}
use Rattle.std.proofs.lemmas.List.{get_or-take, get_or_append_left, take_at, drop_at}
use Rattle.std.specs.Coded.{le_prop}
use Rattle.arrayvec.specs.ArrayVec.{ArrayVec}
use Rattle.edid_base.proofs.Accepted.{accepted, summed_is}
use Rattle.edid_base.specs.Check.{check_of}
use Rattle.edid_base.proofs.OneBase.{one_base}
use Rattle.edid_base.specs.Base.{base_bytes}
use Rattle.edid_base.specs.Refusals.{refusal}
use Rattle.edid_base.specs.declared.base.Base.{Base}
use Rattle.edid_cta.proofs.OneExt.{one_ext}
use Rattle.edid_cta.specs.Block.{block_bytes}
use Rattle.edid_base.specs.Timing.{timing_bytes}
use Rattle.edid_cta.specs.Ext.{ext_bytes}
use Rattle.edid_cta.specs.Cta.{cta_front, bare_front}
use Rattle.edid_cta.specs.declared.raw.Ext.{Ext as AnyExt}
use Rattle.edid_cta.specs.declared.raw.Ext.TheVariants.{Cta, Bare, Raw}
use Rattle.edid_core.proofs.BaseLemmas.{base_len, base_count, length-flat}
use Rattle.edid_core.proofs.Lengths.{length_is}
use Rattle.edid_core.specs.Bytes.{edid_bytes, HasLength, HasCount, IsRefused, block_at}
use Rattle.edid_core.specs.declared.bytes.EdidError.{EdidError}
use Rattle.edid_core.specs.declared.bytes.EdidError.TheVariants.{Length, Count, Base as OfBase, Ext as OfExt}
use Rattle.edid_core.specs.declared.edid.Edid.{Edid}

abbrev facts : Base × ArrayVec AnyExt → Type 0
facts p = (p.0.extensions ≡ length p.1.items) × (length p.1.items ≤ 3)

abbrev made : (p : Base × ArrayVec AnyExt) → facts p → Edid
made p h = record { base = p.0; extensions = p.1; counted = h.0; few = h.1 }

facts_prop : (p : Base × ArrayVec AnyExt) → IsProp (facts p)
facts_prop p = hlevel (ℕ_set, le_prop)

-- values that are made of the same parts are one
same : {A B : Type 0} {P : A → Type 0} (made : (x : A) → P x → B) → ((x : A) → IsProp (P x)) → (x y : A) (h : P x) (k : P y) → x ≡ y → made x h ≡ made y k
same {A} {B} {P} made prop x y h k e = ap (λ (p : (x : A) × P x). made p.0 p.1) (Σ_prop_path prop {u = (x, h)} {v = (y, k)} e)

one_part : (a b : Edid) → a.base ≡ b.base → a.extensions ≡ b.extensions → a ≡ b
one_part a b e f =
    let all : (a.base, a.extensions) ≡ (b.base, b.extensions) = cc in
    same made facts_prop (a.base, a.extensions) (b.base, b.extensions) (a.counted, a.few) (b.counted, b.few) all

pub ext_len : (x : AnyExt) → length (ext_bytes x) ≡ 128
ext_len (Cta c) =
    let l0 = length-append (cta_front c.flags c.blocks.items c.timings.items c.tail.items) (check_of (cta_front c.flags c.blocks.items c.timings.items c.tail.items) ∷ []) in
    let l1 = length-append (flat_map block_bytes c.blocks.items) (flat_map timing_bytes c.timings.items ++ c.tail.items) in
    let l2 = length-append (flat_map timing_bytes c.timings.items) c.tail.items in
    omega (arith, l0, l1, l2, c.whole)
ext_len (Bare b) =
    let l0 = length-append (bare_front b.flags b.tail) (check_of (bare_front b.flags b.tail) ∷ []) in
    omega (arith, l0, b.whole)
ext_len (Raw r) = r.whole

-- lists whose fronts are equally long, part by part
append_same : {X : Type 0} (xs zs ys ws : List X) → length xs ≡ length zs → xs ++ ys ≡ zs ++ ws → (xs ≡ zs) × (ys ≡ ws)
append_same xs zs ys ws l e = (
  sym (take_at xs ys (length zs) l) ∙ ap (take (length zs)) e ∙ take-append_seam zs ws,
  sym (drop_at xs ys (length zs) l) ∙ ap (drop (length zs)) e ∙ drop-append_seam zs ws,
)

one_list : (xs ys : List AnyExt) → length xs ≡ length ys → flat_map ext_bytes xs ≡ flat_map ext_bytes ys → xs ≡ ys
one_list [] [] l e = refl
one_list [] (y ∷ ys) l e = absurd (omega (arith, l))
one_list (x ∷ xs) [] l e = absurd (omega (arith, l))
one_list (x ∷ xs) (y ∷ ys) l e =
    let parts = append_same (ext_bytes x) (ext_bytes y) _ _ (ext_len x ∙ sym (ext_len y)) e in
    ap (λ z. z ∷ xs) (one_ext x y parts.0) ∙ ap (λ zs. y ∷ zs) (one_list xs ys (omega (arith, l)) parts.1)

pub one_edid : (a b : Edid) → edid_bytes a ≡ edid_bytes b → a ≡ b
one_edid a b e =
    let parts = append_same (base_bytes a.base) (base_bytes b.base) _ _ (base_len a.base ∙ sym (base_len b.base)) e in
    let base = one_base a.base b.base parts.0 in
    let count : length a.extensions.items ≡ length b.extensions.items = sym a.counted ∙ ap (λ x. x.extensions) base ∙ b.counted in
    one_part a b base (ap (λ xs. record { items = xs }) (one_list a.extensions.items b.extensions.items count parts.1))

take_block : (xs ys : List ℕ) → length xs ≡ 128 → take 128 (xs ++ ys) ≡ xs
take_block xs ys h = take_at xs ys 128 h

drop_block : (xs ys : List ℕ) → length xs ≡ 128 → drop 128 (xs ++ ys) ≡ ys
drop_block xs ys h = drop_at xs ys 128 h

take_base : (e : Edid) → take 128 (edid_bytes e) ≡ base_bytes e.base
take_base e = take_block (base_bytes e.base) _ (base_len e.base)

pub ext_sum : (x : AnyExt) → sum (ext_bytes x) % 256 ≡ 0
ext_sum (Cta c) = summed_is (cta_front c.flags c.blocks.items c.timings.items c.tail.items)
ext_sum (Bare b) = summed_is (bare_front b.flags b.tail)
ext_sum (Raw r) = r.checked

pub exts_len : (xs : List AnyExt) → length (flat_map ext_bytes xs) ≡ 128 * length xs
exts_len xs = length-flat ext_bytes 128 ext_len xs

-- the blocks after a first one
after : (xs ys : List ℕ) (k : ℕ) → length xs ≡ 128 → drop (128 * suc k) (xs ++ ys) ≡ drop (128 * k) ys
after xs ys k h =
    let n : 128 * suc k ≡ 128 + 128 * k = omega arith in
    let m = drop-drop (128 * k) 128 (xs ++ ys) in
    ap (λ i. drop i (xs ++ ys)) n ∙ sym m ∙ ap (drop (128 * k)) (drop_block xs ys h)

-- each extension's sum is right
nth_sum : (xs : List AnyExt) (k : ℕ) → k < length xs → sum (take 128 (drop (128 * k) (flat_map ext_bytes xs))) % 256 ≡ 0
nth_sum [] k h = absurd (omega (arith, h))
nth_sum (x ∷ xs) zero h = ap (λ t. sum t % 256) (take_block (ext_bytes x) (flat_map ext_bytes xs) (ext_len x)) ∙ ext_sum x
nth_sum (x ∷ xs) (suc k) h = ap (λ t. sum (take 128 t) % 256) (after (ext_bytes x) (flat_map ext_bytes xs) k (ext_len x)) ∙ nth_sum xs k (omega (arith, h))

pub edid_len : (e : Edid) → length (edid_bytes e) ≡ 128 + 128 * length e.extensions.items
edid_len e = omega (arith, length-append (base_bytes e.base) (flat_map ext_bytes e.extensions.items), base_len e.base, exts_len e.extensions.items)

block_sum : (e : Edid) (k : ℕ) → 0 < k → 128 * k < length (edid_bytes e) → sum (block_at (edid_bytes e) k) % 256 ≡ 0
block_sum e zero some there = absurd (omega (arith, some))
block_sum e (suc k) some there =
    let len = edid_len e in
    ap (λ t. sum (take 128 t) % 256) (after (base_bytes e.base) (flat_map ext_bytes e.extensions.items) k (base_len e.base))
    ∙ nth_sum e.extensions.items k (omega (arith, there, len))

pub length_fits : (e : Edid) → HasLength (edid_bytes e)
length_fits e = length_is (edid_bytes e) (length e.extensions.items) e.few (edid_len e)

pub count_fits : (e : Edid) → HasCount (edid_bytes e)
count_fits e =
    let at = get_or_append_left (base_bytes e.base) (flat_map ext_bytes e.extensions.items) 0 126 (omega (arith, base_len e.base)) in
    omega (arith, at, base_count e.base, edid_len e, e.counted)

pub not_refused : (e : Edid) (cause : EdidError) → IsRefused (edid_bytes e) cause → ⊥
not_refused e Length h = h (length_fits e)
not_refused e Count h = h.2 (count_fits e)
not_refused e (OfBase cause) h = let none = ap refusal (take_base e) ∙ accepted e.base in let some = h.1 in cc
not_refused e (OfExt i cause) h = let first = h.3 in first.wrong (block_sum e i first.least first.there)

-- bytes that are refused are no EDID's
pub none_spells : (bytes : List ℕ) (c : EdidError) → IsRefused bytes c → (e : Edid) → bytes ≡ edid_bytes e → ⊥
none_spells bytes c refused e h = not_refused e c (subst (λ xs. IsRefused xs c) h refused)

pub only : (bytes : List ℕ) (r : Result Edid EdidError) → IfOk r (λ e. edid_bytes e ≡ bytes) → IfErr r (λ c. IsRefused bytes c)
    → (e : Edid) → bytes ≡ edid_bytes e → r ≡ Ok e
only bytes (Ok a) found refused e h = ap (λ x. Ok x) (one_edid a e (found ∙ h))
only bytes (Err c) found refused e h = absurd (none_spells bytes c refused e h)

-- parts that were read are those of each EDID with these bytes
pub only_parts : (bytes : List ℕ) (b : Base) (xs : ArrayVec AnyExt) → base_bytes b ++ flat_map ext_bytes xs.items ≡ bytes → b.extensions ≡ length xs.items → length xs.items ≤ 3
    → (e : Edid) → bytes ≡ edid_bytes e → (b ≡ e.base) × (xs.items ≡ e.extensions.items)
only_parts bytes b xs found counted few e h =
    let same : record { base = b; extensions = xs; counted = counted; few = few } ≡ e = one_edid (record { base = b; extensions = xs; counted = counted; few = few }) e (found ∙ h) in
    (ap (λ a. a.base) same, ap (λ a. a.extensions.items) same)

-- a block that was read in front has the number
pub count_read : (b : Base) (bytes : List ℕ) → base_bytes b ≡ take 128 (drop 0 bytes) → get_or bytes 126 0 ≡ b.extensions
count_read b bytes e = sym (get_or-take 128 bytes 126 0 (omega arith)) ∙ ap (λ xs. get_or xs 126 0) (sym e) ∙ base_count b
