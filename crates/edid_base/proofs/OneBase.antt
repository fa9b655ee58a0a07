-- 128 bytes spell one base block at most.
use Rattle.std.proofs.Common.{◌≡◌, ℕ, zero, suc, ◌-◌, ◌*◌, ◌^◌, ◌≤◌, ◌<◌, Option, Some, None, List, [], ◌∷◌, ◌++◌, length, get_or, drop, flat_map, ap, arith, refl, sym, ◌∙◌, append_assoc, length-append}
use Rattle.std.proofs.Math.Nat.{ℕ_set}
use Rattle.std.specs.Coded.{le_prop}
use Rattle.std.specs.Int.{w16, w32, to_le_bytes, from_le_bytes}
use Rattle.std.proofs.lemmas.Nat.{from_le_bytes-to_le_bytes_2, from_le_bytes-to_le_bytes_4}
use Rattle.edid_base.proofs.Same.{same}
use Rattle.edid_base.proofs.OneDescriptor.{one_descriptor}
use Rattle.edid_base.proofs.OneMaker.{one_maker}
use Rattle.edid_base.proofs.OneStandard.{one_standard, one_chroma}
use Rattle.std.proofs.Common.{nat_le}
use Rattle.std.proofs.lemmas.List.{length-replicate}
use Rattle.std.proofs.lemmas.Bool.{and_parts, leb-true}
use Rattle.edid_base.specs.Chars.{padding, text_bytes}
use Rattle.edid_base.specs.declared.text.Text.{Text}
use Rattle.edid_base.specs.declared.descriptor.Descriptor.TheVariants.{Timing as OfTiming, Name, Text as OfText, SerialText, Range, Dummy, Raw}
use Rattle.edid_base.specs.Base.{base_bytes, front_bytes}
use Rattle.edid_base.specs.Header.{header}
use Rattle.std.proofs.Common.{IsTrue}
use Rattle.std.proofs.Math.Bool.{Bool-set}
use Rattle.edid_base.specs.Bytes.{are_bytes}
use Rattle.edid_base.specs.Check.{check_of}
use Rattle.edid_base.specs.Chroma.{chroma_bytes}
use Rattle.edid_base.specs.Descriptor.{descriptor_bytes}
use Rattle.edid_base.specs.Maker.{maker_bytes}
use Rattle.edid_base.specs.Revisions.{revision_bytes}
use Rattle.edid_base.specs.Standard.{standard_bytes}
use Rattle.edid_base.specs.declared.base.Base.{Base}
use Rattle.edid_base.specs.declared.base.Revision.{Revision}
use Rattle.edid_base.specs.declared.base.Revision.TheVariants.{Three, Four}
use Rattle.edid_base.specs.declared.chroma.Chroma.{Chroma}
use Rattle.edid_base.specs.declared.descriptor.Descriptor.{Descriptor}
use Rattle.edid_base.specs.declared.maker.Maker.{Maker}
use Rattle.edid_base.specs.declared.standard.StandardTiming.{StandardTiming}

record Plain : Type 0 where
  maker : Maker
  product : ℕ
  serial : ℕ
  week : ℕ
  year : ℕ
  revision : Revision
  input : ℕ
  width : ℕ
  height : ℕ
  gamma : ℕ
  features : ℕ
  chroma : Chroma
  established : List ℕ
  standard : List (Option StandardTiming)
  descriptors : List Descriptor
  extensions : ℕ

record IsFit (p : Plain) : Type 0 where
  product_fits : p.product < 2 ^ 16
  serial_fits : p.serial < 2 ^ 32
  bytes_fit : IsTrue (are_bytes (p.week ∷ p.input ∷ p.width ∷ p.height ∷ p.gamma ∷ p.features ∷ p.extensions ∷ p.established))
  first_year : 1990 ≤ p.year
  last_year : p.year < 2246
  three : length p.established ≡ 3
  eight : length p.standard ≡ 8
  four : length p.descriptors ≡ 4

IsFit_prop : (p : Plain) → IsProp (IsFit p)
IsFit_prop p = hlevel (le_prop, ℕ_set, Bool-set)

abbrev made : (p : Plain) → IsFit p → Base
made p h = record { maker = p.maker; product = p.product; serial = p.serial; week = p.week; year = p.year; revision = p.revision; input = p.input; width = p.width; height = p.height; gamma = p.gamma; features = p.features; chroma = p.chroma; established = p.established; standard = p.standard; descriptors = p.descriptors; extensions = p.extensions; product_fits = h.product_fits; serial_fits = h.serial_fits; bytes_fit = h.bytes_fit; first_year = h.first_year; last_year = h.last_year; three = h.three; eight = h.eight; four = h.four }

abbrev plain : Base → Plain
plain b = record { maker = b.maker; product = b.product; serial = b.serial; week = b.week; year = b.year; revision = b.revision; input = b.input; width = b.width; height = b.height; gamma = b.gamma; features = b.features; chroma = b.chroma; established = b.established; standard = b.standard; descriptors = b.descriptors; extensions = b.extensions }

abbrev fit : (b : Base) → IsFit (plain b)
fit b = record { product_fits = b.product_fits; serial_fits = b.serial_fits; bytes_fit = b.bytes_fit; first_year = b.first_year; last_year = b.last_year; three = b.three; eight = b.eight; four = b.four }

-- two lists with fronts of one length
append_same : (xs zs ys ws : List ℕ) → length xs ≡ length zs → xs ++ ys ≡ zs ++ ws → (xs ≡ zs) × (ys ≡ ws)
append_same [] [] ys ws l e = (refl, e)
append_same [] (z ∷ zs) ys ws l e = absurd (omega arith)
append_same (x ∷ xs) [] ys ws l e = absurd (omega arith)
append_same (x ∷ xs) (z ∷ zs) ys ws l e =
    let rest = append_same xs zs ys ws (omega arith) (ap (λ t. drop 1 t) e) in
    let first = ap (λ t. get_or t 0 0) e in
    let others = rest.0 in (cc, rest.1)

length-flat : {X : Type 0} (f : X → List ℕ) (n : ℕ) → ((x : X) → length (f x) ≡ n) → (xs : List X) → length (flat_map f xs) ≡ n * length xs
length-flat f n each [] = omega arith
length-flat f n each (x ∷ xs) = omega (arith, length-append (f x) (flat_map f xs), each x, length-flat f n each xs)

flat_same : {X : Type 0} (f : X → List ℕ) (n : ℕ) → ((x : X) → length (f x) ≡ n) → ((x y : X) → f x ≡ f y → x ≡ y)
    → (xs ys : List X) → length xs ≡ length ys → flat_map f xs ≡ flat_map f ys → xs ≡ ys
flat_same f n each one [] [] l e = refl
flat_same f n each one [] (y ∷ ys) l e = absurd (omega arith)
flat_same f n each one (x ∷ xs) [] l e = absurd (omega arith)
flat_same f n each one (x ∷ xs) (y ∷ ys) l e =
    let parts = append_same (f x) (f y) (flat_map f xs) (flat_map f ys) (each x ∙ sym (each y)) e in
    let first = one x y parts.0 in
    let others = flat_same f n each one xs ys (omega arith) parts.1 in cc

standard_len : (s : Option StandardTiming) → length (standard_bytes s) ≡ 2
standard_len None = refl
standard_len (Some s) = refl

padding_len : (n : ℕ) → length (padding n) ≡ n
padding_len zero = refl
padding_len (suc n) = ap (λ k. suc k) (length-replicate n 0x20)

text_len : (t : Text) → length (text_bytes t.chars.items) ≡ 13
text_len t =
    let most = leb-true _ _ (and_parts (nat_le (length t.chars.items) 13) _ t.printable).0 in
    let pad = padding_len (13 - length t.chars.items) in
    omega (arith, length-append t.chars.items (padding (13 - length t.chars.items)), pad, most)

descriptor_len : (d : Descriptor) → length (descriptor_bytes d) ≡ 18
descriptor_len (OfTiming t) = refl
descriptor_len (Name t) = omega (arith, text_len t)
descriptor_len (OfText t) = omega (arith, text_len t)
descriptor_len (SerialText t) = omega (arith, text_len t)
descriptor_len (Range r) = omega (arith, r.whole)
descriptor_len Dummy = refl
descriptor_len (Raw r) = r.whole

revision_len : (r : Revision) → length (revision_bytes r) ≡ 2
revision_len Three = refl
revision_len Four = refl

one_revision : (r s : Revision) → revision_bytes r ≡ revision_bytes s → r ≡ s
one_revision Three Three e = refl
one_revision Three Four e = absurd (omega (arith, ap (λ xs. get_or xs 1 0) e))
one_revision Four Three e = absurd (omega (arith, ap (λ xs. get_or xs 1 0) e))
one_revision Four Four e = refl

product_same : (m n : ℕ) → m < 2 ^ 16 → n < 2 ^ 16 → to_le_bytes w16 m ≡ to_le_bytes w16 n → m ≡ n
product_same m n h k e = sym (from_le_bytes-to_le_bytes_2 m h) ∙ ap (λ xs. from_le_bytes w16 xs) e ∙ from_le_bytes-to_le_bytes_2 n k

serial_same : (m n : ℕ) → m < 2 ^ 32 → n < 2 ^ 32 → to_le_bytes w32 m ≡ to_le_bytes w32 n → m ≡ n
serial_same m n h k e = sym (from_le_bytes-to_le_bytes_4 m h) ∙ ap (λ xs. from_le_bytes w32 xs) e ∙ from_le_bytes-to_le_bytes_4 n k

-- the block with its parts one after another
abbrev tail_bytes : Base → List ℕ
tail_bytes b = chroma_bytes b.chroma ++ (b.established ++ (flat_map standard_bytes b.standard ++ (flat_map descriptor_bytes b.descriptors ++ (b.extensions ∷ check_of (front_bytes b) ∷ []))))

abbrev flat_bytes : Base → List ℕ
flat_bytes b =
    header ++ (maker_bytes b.maker ++ (to_le_bytes w16 b.product ++ (to_le_bytes w32 b.serial ++ (b.week ∷ (b.year - 1990) ∷ (revision_bytes b.revision ++ (
    b.input ∷ b.width ∷ b.height ∷ b.gamma ∷ b.features ∷ tail_bytes b))))))

flat : (b : Base) → base_bytes b ≡ flat_bytes b
flat b = simp append_assoc

pub one_base : (a b : Base) → base_bytes a ≡ base_bytes b → a ≡ b
one_base a b e =
    let whole : flat_bytes a ≡ flat_bytes b = sym (flat a) ∙ e ∙ flat b in
    let cell : (k : ℕ) → get_or (flat_bytes a) k 0 ≡ get_or (flat_bytes b) k 0 = λ k. ap (λ xs. get_or xs k 0) whole in
    let p1 = append_same (maker_bytes a.maker) (maker_bytes b.maker) _ _ refl (ap (λ xs. drop 8 xs) whole) in
    let p2 = append_same (to_le_bytes w16 a.product) (to_le_bytes w16 b.product) _ _ refl p1.1 in
    let p3 = append_same (to_le_bytes w32 a.serial) (to_le_bytes w32 b.serial) _ _ refl p2.1 in
    let week : a.week ≡ b.week = ap (λ xs. get_or xs 0 0) p3.1 in
    let years : a.year - 1990 ≡ b.year - 1990 = ap (λ xs. get_or xs 1 0) p3.1 in
    let p4 = append_same (revision_bytes a.revision) (revision_bytes b.revision) _ _ (revision_len a.revision ∙ sym (revision_len b.revision)) (ap (λ xs. drop 2 xs) p3.1) in
    let input : a.input ≡ b.input = ap (λ xs. get_or xs 0 0) p4.1 in
    let width : a.width ≡ b.width = ap (λ xs. get_or xs 1 0) p4.1 in
    let height : a.height ≡ b.height = ap (λ xs. get_or xs 2 0) p4.1 in
    let gamma : a.gamma ≡ b.gamma = ap (λ xs. get_or xs 3 0) p4.1 in
    let features : a.features ≡ b.features = ap (λ xs. get_or xs 4 0) p4.1 in
    let p5 = append_same (chroma_bytes a.chroma) (chroma_bytes b.chroma) _ _ refl (ap (λ xs. drop 5 xs) p4.1) in
    let p6 = append_same a.established b.established _ _ (a.three ∙ sym b.three) p5.1 in
    let p7 = append_same (flat_map standard_bytes a.standard) (flat_map standard_bytes b.standard) _ _
    (omega (arith, length-flat standard_bytes 2 standard_len a.standard, length-flat standard_bytes 2 standard_len b.standard, a.eight, b.eight)) p6.1 in
    let p8 = append_same (flat_map descriptor_bytes a.descriptors) (flat_map descriptor_bytes b.descriptors) _ _
    (omega (arith, length-flat descriptor_bytes 18 descriptor_len a.descriptors, length-flat descriptor_bytes 18 descriptor_len b.descriptors, a.four, b.four)) p7.1 in
    let extensions : a.extensions ≡ b.extensions = ap (λ xs. get_or xs 0 0) p8.1 in
    let maker = one_maker a.maker b.maker p1.0 in
    let product = product_same a.product b.product a.product_fits b.product_fits p2.0 in
    let serial = serial_same a.serial b.serial a.serial_fits b.serial_fits p3.0 in
    let year : a.year ≡ b.year = omega (arith, a.first_year, b.first_year) in
    let revision = one_revision a.revision b.revision p4.0 in
    let chroma = one_chroma a.chroma b.chroma p5.0 in
    let established = p6.0 in
    let standard = flat_same standard_bytes 2 standard_len one_standard a.standard b.standard (a.eight ∙ sym b.eight) p7.0 in
    let descriptors = flat_same descriptor_bytes 18 descriptor_len one_descriptor a.descriptors b.descriptors (a.four ∙ sym b.four) p8.0 in
    let all : plain a ≡ plain b = cc in
    same made IsFit_prop (plain a) (plain b) (fit a) (fit b) all
