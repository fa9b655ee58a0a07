-- A base block has 128 bytes, and reports at 126 how many extensions follow.
use Rattle.std.proofs.Common.{◌≡◌, ℕ, zero, suc, ◌+◌, ◌-◌, ◌*◌, nat_le, Option, Some, None, List, [], ◌∷◌, ◌++◌, length, get_or, flat_map, ap, arith, refl, ◌∙◌, append_assoc, length-append}
use Rattle.std.proofs.lemmas.List.{length-replicate, get_or-append_right}
use Rattle.std.proofs.lemmas.Bool.{and_parts, leb-true}
use Rattle.edid_base.specs.Base.{base_bytes, front_bytes, product_bytes}
use Rattle.edid_base.specs.Header.{header}
use Rattle.edid_base.specs.Check.{check_of}
use Rattle.edid_base.specs.Chars.{padding, text_bytes}
use Rattle.edid_base.specs.Chroma.{chroma_bytes}
use Rattle.edid_base.specs.Descriptor.{descriptor_bytes}
use Rattle.edid_base.specs.Revisions.{revision_bytes}
use Rattle.edid_base.specs.Standard.{standard_bytes}
use Rattle.edid_base.specs.declared.base.Base.{Base}
use Rattle.edid_base.specs.declared.base.Revision.{Revision}
use Rattle.edid_base.specs.declared.base.Revision.TheVariants.{Three, Four}
use Rattle.edid_base.specs.declared.descriptor.Descriptor.{Descriptor}
use Rattle.edid_base.specs.declared.descriptor.Descriptor.TheVariants.{Timing, Name, Text, SerialText, Range, Dummy, Raw}
use Rattle.edid_base.specs.declared.standard.StandardTiming.{StandardTiming}
use Rattle.edid_base.specs.declared.text.Text.{Text as AnyText}

pub length-flat : {X : Type 0} (f : X → List ℕ) (n : ℕ) → ((x : X) → length (f x) ≡ n) → (xs : List X) → length (flat_map f xs) ≡ n * length xs
length-flat f n each [] = omega arith
length-flat f n each (x ∷ xs) = omega (arith, length-append (f x) (flat_map f xs), each x, length-flat f n each xs)

standard_len : (s : Option StandardTiming) → length (standard_bytes s) ≡ 2
standard_len None = refl
standard_len (Some s) = refl

padding_len : (n : ℕ) → length (padding n) ≡ n
padding_len zero = refl
padding_len (suc n) = ap (λ k. suc k) (length-replicate n 0x20)

text_len : (t : AnyText) → length (text_bytes t.chars.items) ≡ 13
text_len t =
    let most = leb-true _ _ (and_parts (nat_le (length t.chars.items) 13) _ t.printable).0 in
    let pad = padding_len (13 - length t.chars.items) in
    omega (arith, length-append t.chars.items (padding (13 - length t.chars.items)), pad, most)

pub descriptor_len : (d : Descriptor) → length (descriptor_bytes d) ≡ 18
descriptor_len (Timing t) = refl
descriptor_len (Name t) = omega (arith, text_len t)
descriptor_len (Text t) = omega (arith, text_len t)
descriptor_len (SerialText t) = omega (arith, text_len t)
descriptor_len (Range r) = omega (arith, r.whole)
descriptor_len Dummy = refl
descriptor_len (Raw r) = r.whole

revision_len : (r : Revision) → length (revision_bytes r) ≡ 2
revision_len Three = refl
revision_len Four = refl

-- the bytes before the number of extensions
abbrev fore : Base → List ℕ
fore b = header ++ (product_bytes b ++ (chroma_bytes b.chroma ++ (b.established ++ (flat_map standard_bytes b.standard ++ flat_map descriptor_bytes b.descriptors))))

parts : (b : Base) → base_bytes b ≡ fore b ++ (b.extensions ∷ check_of (front_bytes b) ∷ [])
parts b = simp append_assoc

revision_in : (b : Base) (xs : List ℕ) → length (revision_bytes b.revision ++ xs) ≡ 2 + length xs
revision_in b xs = omega (arith, length-append (revision_bytes b.revision) xs, revision_len b.revision)

fore_len : (b : Base) → length (fore b) ≡ 126
fore_len b =
    let de = flat_map descriptor_bytes b.descriptors in
    let st = flat_map standard_bytes b.standard in
    let l0 = length-flat descriptor_bytes 18 descriptor_len b.descriptors in
    let l1 = length-flat standard_bytes 2 standard_len b.standard in
    let l2 = length-append st de in
    let l3 = length-append b.established (st ++ de) in
    let l4 = length-append (chroma_bytes b.chroma) (b.established ++ (st ++ de)) in
    let l5 = length-append (product_bytes b) (chroma_bytes b.chroma ++ (b.established ++ (st ++ de))) in
    let l6 = revision_in b (b.input ∷ b.width ∷ b.height ∷ b.gamma ∷ b.features ∷ []) in
    omega (arith, l0, l1, l2, l3, l4, l5, l6, b.three, b.eight, b.four)

pub base_len : (b : Base) → length (base_bytes b) ≡ 128
base_len b = ap length (parts b) ∙ omega (arith, length-append (fore b) (b.extensions ∷ check_of (front_bytes b) ∷ []), fore_len b)

pub base_count : (b : Base) → get_or (base_bytes b) 126 0 ≡ b.extensions
base_count b = ap (λ xs. get_or xs 126 0) (parts b) ∙ get_or-append_right (fore b) (b.extensions ∷ check_of (front_bytes b) ∷ []) 126 126 0 (fore_len b) (omega arith)
