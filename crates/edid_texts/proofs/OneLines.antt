-- No two EDIDs have the same lines.
use Rattle.std.proofs.Common.{◌≡◌, ℕ, suc, ◌+◌, ◌-◌, ◌*◌, ◌/◌, ◌%◌, ◌≤◌, ◌==◌, Bool, true, false, ◌&&◌, nat_le, cond, List, [], ◌∷◌, ◌++◌, length, map, drop, get_or, slice_index, replicate, flat_map, Option, Some, None, ap, arith, refl, sym, ◌∙◌}
use Rattle.std.specs.Int.{w16, w32, to_le_bytes, to_be_bytes}
use Rattle.std.proofs.lemmas.Bool.{and_parts, eqb-true}
use Rattle.std.proofs.lemmas.List.{length-map}
use Rattle.edid_base.specs.Base.{base_bytes, product_bytes, display_bytes}
use Rattle.edid_base.specs.Header.{header}
use Rattle.edid_base.specs.Chars.{text_bytes}
use Rattle.edid_base.specs.Check.{block_with_checksum}
use Rattle.edid_base.specs.Chroma.{chroma_bytes}
use Rattle.edid_base.specs.Descriptor.{descriptor_bytes, tagged_bytes}
use Rattle.edid_base.specs.Maker.{maker_bytes}
use Rattle.edid_base.specs.Pairs.{low_pairs}
use Rattle.edid_base.specs.Revisions.{revision_bytes}
use Rattle.edid_base.specs.Standard.{standard_bytes}
use Rattle.edid_base.specs.Timing.{timing_bytes, low, high, nibbles}
use Rattle.edid_base.specs.declared.base.Base.{Base}
use Rattle.edid_base.specs.declared.base.Revision.{Revision}
use Rattle.edid_base.specs.declared.base.Revision.TheVariants.{Three, Four}
use Rattle.edid_base.specs.declared.descriptor.Descriptor.{Descriptor}
use Rattle.edid_base.specs.declared.descriptor.Descriptor.TheVariants.{Timing as OfTiming, Name as OfName, Text as OfText, SerialText as OfSerialText, Range as OfRange, Dummy as OfDummy, Raw as OfRaw}
use Rattle.edid_base.specs.declared.standard.StandardTiming.{StandardTiming}
use Rattle.edid_base.specs.declared.timing.Timing.{Timing as DetailedTiming}
use Rattle.edid_cta.specs.Block.{kind_number, block_bytes}
use Rattle.edid_cta.specs.Ext.{ext_bytes}
use Rattle.edid_cta.specs.declared.block.DataBlock.{DataBlock}
use Rattle.edid_cta.specs.declared.block.BlockKind.{BlockKind}
use Rattle.edid_cta.specs.declared.block.BlockKind.TheVariants.{Vendor}
use Rattle.edid_cta.specs.declared.cta.Cta.{Cta as CtaBlock}
use Rattle.edid_cta.specs.declared.raw.Ext.{Ext as AnyExt}
use Rattle.edid_cta.specs.declared.raw.Ext.TheVariants.{Cta as OfCta, Bare as OfBare, Raw as OfRawExt}
use Rattle.edid_texts.specs.Lines.{bytes_line, revision_letters, standard_line, timing_line, descriptor_line, head_lines, base_lines, address_line, payload_line, block_line, bytes_without_zeros, tail_line, cta_lines, ext_lines, edid_lines}
use Rattle.edid_cta.specs.Hdmi.{has_identifier}
use Rattle.edid_core.specs.declared.edid.Edid.{Edid as WholeEdid}
use Rattle.edid_text_lines.specs.declared.line.Fields.{Fields}
use Rattle.edid_text_lines.specs.declared.line.Fields.TheVariants.{Letters, Numbers, Timed, Bytes, Address, Quoted}
use Rattle.edid_text_lines.specs.declared.line.Line.{Line}
use Rattle.edid_text_lines.specs.declared.line.Keyword.{Keyword}
use Rattle.edid_text_lines.specs.declared.line.Keyword.TheVariants.{Block, Name, Range, Text}
use Rattle.edid_texts.proofs.Fronts.{body_lines, parted, some_line}
use Rattle.edid_texts.proofs.Gets.{append_same, base_count}
use Rattle.edid_core.proofs.OneEdid.{one_edid}
use Rattle.edid_texts.proofs.Sorts.{long_hdmi, not_timing, not_tail, timing_not_tail}
use Rattle.edid_texts.proofs.TailLemmas.{padded_trimmed}
use Rattle.edid_texts.specs.Tails.{padded_bytes}

abbrev letters_in : Fields → List ℕ
letters_in (Letters letters) = letters.items
letters_in fields = []

abbrev numbers_in : Fields → List ℕ
numbers_in (Numbers numbers) = numbers.items
numbers_in fields = []

abbrev bytes_in : Fields → List ℕ
bytes_in (Bytes bytes) = bytes.items
bytes_in fields = []

same_bytes : (w v : Keyword) (a b : List ℕ) → bytes_line w a ≡ bytes_line v b → a ≡ b
same_bytes w v a b e = ap (λ l. bytes_in l.fields) e

-- the bytes that a line's fields tell
abbrev revision_reported : Fields → List ℕ
revision_reported f = 1 ∷ (slice_index (letters_in f) 2 - 48) ∷ []

abbrev maker_reported : Fields → List ℕ
maker_reported f = let xs = letters_in f in to_be_bytes w16 ((slice_index xs 0 - 64) * 1024 + (slice_index xs 1 - 64) * 32 + (slice_index xs 2 - 64))

abbrev chroma_reported : Fields → List ℕ
chroma_reported f =
    let n = numbers_in f in
    low_pairs (slice_index n 0) (slice_index n 1) (slice_index n 2) (slice_index n 3) ∷ low_pairs (slice_index n 4) (slice_index n 5) (slice_index n 6) (slice_index n 7) ∷
    (slice_index n 0 / 4) ∷ (slice_index n 1 / 4) ∷ (slice_index n 2 / 4) ∷ (slice_index n 3 / 4) ∷
    (slice_index n 4 / 4) ∷ (slice_index n 5 / 4) ∷ (slice_index n 6 / 4) ∷ (slice_index n 7 / 4) ∷ []

abbrev standard_reported : Fields → List ℕ
standard_reported (Numbers n) = (slice_index n.items 0 / 8 - 31) ∷ (slice_index n.items 1 * 64 + (slice_index n.items 2 - 60)) ∷ []
standard_reported fields = 1 ∷ 1 ∷ []

abbrev timing_reported : List ℕ → ℕ → List ℕ
timing_reported n flags =
    low (slice_index n 0) ∷ high (slice_index n 0) ∷
    low (slice_index n 1) ∷ low (slice_index n 2) ∷ nibbles (slice_index n 1) (slice_index n 2) ∷
    low (slice_index n 3) ∷ low (slice_index n 4) ∷ nibbles (slice_index n 3) (slice_index n 4) ∷
    low (slice_index n 5) ∷ low (slice_index n 6) ∷
    (slice_index n 7 % 16 * 16 + slice_index n 8 % 16) ∷
    (high (slice_index n 5) * 64 + high (slice_index n 6) * 16 + slice_index n 7 / 16 * 4 + slice_index n 8 / 16) ∷
    low (slice_index n 9) ∷ low (slice_index n 10) ∷ nibbles (slice_index n 9) (slice_index n 10) ∷
    slice_index n 11 ∷ slice_index n 12 ∷ flags ∷ []

abbrev tag_of : Keyword → ℕ
tag_of Name = 0xfc
tag_of Text = 0xfe
tag_of word = 0xff

abbrev hex_reported : Keyword → List ℕ → List ℕ
hex_reported Range bytes = tagged_bytes 0xfd bytes
hex_reported word bytes = bytes

abbrev descriptor_reported : Keyword → Fields → List ℕ
descriptor_reported word (Timed n flags) = timing_reported n.items flags
descriptor_reported word (Quoted chars) = tagged_bytes (tag_of word) (0 ∷ text_bytes chars.items)
descriptor_reported word (Bytes bytes) = hex_reported word bytes.items
descriptor_reported word fields = tagged_bytes 0x10 (replicate 14 0)

abbrev number_of : Keyword → ℕ
number_of (Block kind) = kind_number kind
number_of word = 0

abbrev block_reported : Keyword → Fields → List ℕ
block_reported word (Bytes bytes) = (number_of word * 32 + length bytes.items) ∷ bytes.items
block_reported word (Address p bytes) = (96 + (5 + length bytes.items)) ∷ 3 ∷ 12 ∷ 0 ∷ p.high ∷ p.low ∷ bytes.items
block_reported word fields = []

revision_is : (r : Revision) → revision_bytes r ≡ 1 ∷ (slice_index (revision_letters r) 2 - 48) ∷ []
revision_is Three = refl
revision_is Four = refl

standard_is : (s : Option StandardTiming) → standard_bytes s ≡ standard_reported (standard_line s).fields
standard_is None = refl
standard_is (Some s) = refl

descriptor_is : (d : Descriptor) → descriptor_bytes d ≡ descriptor_reported (descriptor_line d).word (descriptor_line d).fields
descriptor_is (OfTiming t) = refl
descriptor_is (OfName t) = refl
descriptor_is (OfText t) = refl
descriptor_is (OfSerialText t) = refl
descriptor_is (OfRange r) = refl
descriptor_is OfDummy = refl
descriptor_is (OfRaw r) = refl

hdmi_is : (p : List ℕ) → has_identifier p ≡ true → 3 ∷ 12 ∷ 0 ∷ slice_index p 3 ∷ slice_index p 4 ∷ drop 5 p ≡ p
hdmi_is p h = at p (long_hdmi p h) (and_parts _ _ h)
  where
    at : (p : List ℕ) → 5 ≤ length p → ((nat_le 5 (length p) && (slice_index p 0 == 3) && (slice_index p 1 == 12)) ≡ true) × ((slice_index p 2 == 0) ≡ true)
        → 3 ∷ 12 ∷ 0 ∷ slice_index p 3 ∷ slice_index p 4 ∷ drop 5 p ≡ p
    at (a ∷ b ∷ c ∷ d ∷ e ∷ p) k f =
        let more = and_parts (nat_le 5 (length (a ∷ b ∷ c ∷ d ∷ e ∷ p)) && (a == 3)) (b == 12) f.0 in
        let third : c ≡ 0 = eqb-true _ _ f.1 in
        let second : b ≡ 12 = eqb-true _ _ more.1 in
        let first : a ≡ 3 = eqb-true _ _ (and_parts (nat_le 5 (length (a ∷ b ∷ c ∷ d ∷ e ∷ p))) (a == 3) more.0).1 in
        ap (λ x. x ∷ 12 ∷ 0 ∷ d ∷ e ∷ p) (sym first) ∙ ap (λ x. a ∷ x ∷ 0 ∷ d ∷ e ∷ p) (sym second) ∙ ap (λ x. a ∷ b ∷ x ∷ d ∷ e ∷ p) (sym third)
    at [] k f = absurd (omega arith)
    at (a ∷ []) k f = absurd (omega arith)
    at (a ∷ b ∷ []) k f = absurd (omega arith)
    at (a ∷ b ∷ c ∷ []) k f = absurd (omega arith)
    at (a ∷ b ∷ c ∷ d ∷ []) k f = absurd (omega arith)

block_is : (b : DataBlock) → block_bytes b ≡ block_reported (block_line b).word (block_line b).fields
block_is b = at b.kind b.payload.items
  where
    vendor : (v : Bool) (p : List ℕ) → has_identifier p ≡ v → (96 + length p) ∷ p ≡ block_reported (cond v (address_line p) (bytes_line (Block Vendor) p)).word (cond v (address_line p) (bytes_line (Block Vendor) p)).fields
    vendor true p e = let same = hdmi_is p e in let len = ap length same in ap (λ n. n ∷ p) (omega (arith, len)) ∙ ap (λ t. (96 + (5 + length (drop 5 p))) ∷ t) (sym same)
    vendor false p e = refl

    at : (k : BlockKind) (p : List ℕ) → (kind_number k * 32 + length p) ∷ p ≡ block_reported (payload_line k p).word (payload_line k p).fields
    at Vendor p = vendor (has_identifier p) p refl
    at kind p = refl

-- what is reported by a list's lines
reported : {X : Type 0} (f : X → Line) (g : X → List ℕ) (t : Keyword → Fields → List ℕ) → ((x : X) → g x ≡ t (f x).word (f x).fields) → (xs ys : List X) → map f xs ≡ map f ys → flat_map g xs ≡ flat_map g ys
reported f g t is [] [] e = refl
reported f g t is [] (y ∷ ys) e = let len = ap length e in absurd (omega (arith, len))
reported f g t is (x ∷ xs) [] e = let len = ap length e in absurd (omega (arith, len))
reported f g t is (x ∷ xs) (y ∷ ys) e =
    let first : f x ≡ f y = ap (λ ls. get_or ls 0 (f x)) e in
    let rest = reported f g t is xs ys (ap (λ ls. drop 1 ls) e) in
    ap (λ h. h ++ flat_map g xs) (is x ∙ ap (λ l. t l.word l.fields) first ∙ sym (is y)) ∙ ap (λ r. g y ++ r) rest

one_more : {X : Type 0} (x y : X) (xs ys : List X) → x ≡ y → xs ≡ ys → x ∷ xs ≡ y ∷ ys
one_more x y xs ys e f = ap (λ k. k ∷ xs) e ∙ ap (λ k. y ∷ k) f

two_parts : {X : Type 0} (a b c d : List X) → a ≡ b → c ≡ d → a ++ c ≡ b ++ d
two_parts a b c d e f = ap (λ k. k ++ c) e ∙ ap (λ k. b ++ k) f

-- one field of a line
field : {X : Type 0} (f : Fields → X) (d : Line) (n : ℕ) (ls ms : List Line) → ls ≡ ms → f (get_or ls n d).fields ≡ f (get_or ms n d).fields
field f d n ls ms e = ap (λ x. f (get_or x n d).fields) e

product_same : (a b : Base) → head_lines a ≡ head_lines b → product_bytes a ≡ product_bytes b
product_same a b e =
    let d = standard_line None in
    let one : (n k : ℕ) → slice_index (numbers_in (get_or (head_lines a) n d).fields) k ≡ slice_index (numbers_in (get_or (head_lines b) n d).fields) k
    = λ n k. field (λ f. slice_index (numbers_in f) k) d n (head_lines a) (head_lines b) e in
    let byte : (n : ℕ) → slice_index (bytes_in (get_or (head_lines a) n d).fields) 0 ≡ slice_index (bytes_in (get_or (head_lines b) n d).fields) 0
    = λ n. field (λ f. slice_index (bytes_in f) 0) d n (head_lines a) (head_lines b) e in
    let maker : maker_bytes a.maker ≡ maker_bytes b.maker = field maker_reported d 1 (head_lines a) (head_lines b) e in
    let revision : revision_bytes a.revision ≡ revision_bytes b.revision = revision_is a.revision ∙ field revision_reported d 0 (head_lines a) (head_lines b) e ∙ sym (revision_is b.revision) in
    let product : a.product ≡ b.product = one 2 0 in
    let serial : a.serial ≡ b.serial = one 3 0 in
    let week : a.week ≡ b.week = one 4 0 in
    let year : a.year ≡ b.year = one 4 1 in
    let input : a.input ≡ b.input = byte 5 in
    let width : a.width ≡ b.width = one 6 0 in
    let height : a.height ≡ b.height = one 6 1 in
    let gamma : a.gamma ≡ b.gamma = one 7 0 in
    let features : a.features ≡ b.features = byte 8 in
    two_parts _ _ _ _ maker (two_parts _ _ _ _ (ap (to_le_bytes w16) product) (two_parts _ _ _ _ (ap (to_le_bytes w32) serial) (
    one_more _ _ _ _ week (one_more _ _ _ _ (ap (λ y. y - 1990) year) (two_parts _ _ _ _ revision (
    one_more _ _ _ _ input (one_more _ _ _ _ width (one_more _ _ _ _ height (one_more _ _ _ _ gamma (one_more _ _ _ _ features refl))))))))))

display_same : (a b : Base) → head_lines a ≡ head_lines b → map standard_line a.standard ≡ map standard_line b.standard → map descriptor_line a.descriptors ≡ map descriptor_line b.descriptors
    → a.extensions ≡ b.extensions → display_bytes a ≡ display_bytes b
display_same a b e f g h =
    let d = standard_line None in
    let chroma : chroma_bytes a.chroma ≡ chroma_bytes b.chroma = field chroma_reported d 9 (head_lines a) (head_lines b) e in
    let established : a.established ≡ b.established = field bytes_in d 10 (head_lines a) (head_lines b) e in
    let standard = reported standard_line standard_bytes (λ w f. standard_reported f) standard_is a.standard b.standard f in
    let descriptors = reported descriptor_line descriptor_bytes descriptor_reported descriptor_is a.descriptors b.descriptors g in
    two_parts _ _ _ _ chroma (two_parts _ _ _ _ established (two_parts _ _ _ _ standard (two_parts _ _ _ _ descriptors (ap (λ n. n ∷ []) h))))

same_base : (a b : Base) → base_lines a ≡ base_lines b → a.extensions ≡ b.extensions → base_bytes a ≡ base_bytes b
same_base a b e h =
    let first = append_same (head_lines a) (head_lines b) _ _ refl e in
    let count : length (map standard_line a.standard) ≡ length (map standard_line b.standard) = length-map a.standard standard_line ∙ a.eight ∙ sym (length-map b.standard standard_line ∙ b.eight) in
    let rest = append_same (map standard_line a.standard) (map standard_line b.standard) _ _ count first.1 in
    ap block_with_checksum (ap (λ t. header ++ t) (two_parts _ _ _ _ (product_same a b first.0) (display_same a b first.0 rest.0 rest.1 h)))

-- data blocks and what is after them
same_blocks : (cs bs : List DataBlock) (ts us : List DetailedTiming) (x y : List ℕ) → body_lines cs ts x [] ≡ body_lines bs us y []
    → (flat_map block_bytes cs ≡ flat_map block_bytes bs) × (body_lines [] ts x [] ≡ body_lines [] us y [])
same_blocks [] [] ts us x y e = (refl, e)
same_blocks [] (b ∷ bs) [] us x y e = absurd (not_tail b x (sym (ap (λ ls. get_or ls 0 (tail_line x)) e)))
same_blocks [] (b ∷ bs) (t ∷ ts) us x y e = absurd (not_timing b t (sym (ap (λ ls. get_or ls 0 (tail_line x)) e)))
same_blocks (c ∷ cs) [] ts [] x y e = absurd (not_tail c y (ap (λ ls. get_or ls 0 (tail_line x)) e))
same_blocks (c ∷ cs) [] ts (u ∷ us) x y e = absurd (not_timing c u (ap (λ ls. get_or ls 0 (tail_line x)) e))
same_blocks (c ∷ cs) (b ∷ bs) ts us x y e =
    let first : block_line c ≡ block_line b = ap (λ ls. get_or ls 0 (tail_line x)) e in
    let rest = same_blocks cs bs ts us x y (ap (λ ls. drop 1 ls) e) in
    (two_parts _ _ _ _ (block_is c ∙ ap (λ l. block_reported l.word l.fields) first ∙ sym (block_is b)) rest.0, rest.1)

same_timings : (ts us : List DetailedTiming) (x y : List ℕ) → body_lines [] ts x [] ≡ body_lines [] us y [] → (flat_map timing_bytes ts ≡ flat_map timing_bytes us) × (tail_line x ≡ tail_line y)
same_timings [] [] x y e = (refl, ap (λ ls. get_or ls 0 (tail_line x)) e)
same_timings [] (u ∷ us) x y e = absurd (timing_not_tail u x (sym (ap (λ ls. get_or ls 0 (tail_line x)) e)))
same_timings (t ∷ ts) [] x y e = absurd (timing_not_tail t y (ap (λ ls. get_or ls 0 (tail_line x)) e))
same_timings (t ∷ ts) (u ∷ us) x y e =
    let first : timing_line t ≡ timing_line u = ap (λ ls. get_or ls 0 (tail_line x)) e in
    let rest = same_timings ts us x y (ap (λ ls. drop 1 ls) e) in
    (two_parts _ _ _ _ (ap (λ l. descriptor_reported l.word l.fields) first) rest.0, rest.1)

same_tails : (x y : List ℕ) → length x ≡ length y → tail_line x ≡ tail_line y → x ≡ y
same_tails x y h e = sym (padded_trimmed x) ∙ ap (λ n. padded_bytes n (bytes_without_zeros x)) h ∙ ap (padded_bytes (length y)) (same_bytes _ _ _ _ e) ∙ padded_trimmed y

same_cta : (c d : CtaBlock) → cta_lines c ≡ cta_lines d → ext_bytes (OfCta c) ≡ ext_bytes (OfCta d)
same_cta c d e =
    let flags : c.flags ≡ d.flags = ap (λ ls. slice_index (bytes_in (get_or ls 0 (tail_line [])).fields) 0) e in
    let blocks = same_blocks c.blocks.items d.blocks.items c.timings.items d.timings.items c.tail.items d.tail.items (ap (λ ls. drop 1 ls) e) in
    let timings = same_timings c.timings.items d.timings.items c.tail.items d.tail.items blocks.1 in
    let bl = ap length blocks.0 in
    let tl = ap length timings.0 in
    let size : length c.tail.items ≡ length d.tail.items = omega (arith, bl, tl, c.whole, d.whole) in
    let tail = same_tails c.tail.items d.tail.items size timings.1 in
    ap block_with_checksum (one_more _ _ _ _ refl (one_more _ _ _ _ refl (one_more _ _ _ _ (ap (λ n. n + 4) bl) (one_more _ _ _ _ flags (two_parts _ _ _ _ blocks.0 (two_parts _ _ _ _ timings.0 tail))))))

same_ext : (x y : AnyExt) → ext_lines x ≡ ext_lines y → ext_bytes x ≡ ext_bytes y
same_ext (OfCta c) (OfCta d) e = same_cta c d e
same_ext (OfBare c) (OfBare d) e =
    let flags : c.flags ≡ d.flags = ap (λ ls. slice_index (bytes_in (get_or ls 0 (tail_line [])).fields) 0) e in
    let tail = same_tails c.tail d.tail (c.whole ∙ sym d.whole) (ap (λ ls. get_or ls 1 (tail_line [])) e) in
    ap block_with_checksum (one_more _ _ _ _ refl (one_more _ _ _ _ refl (one_more _ _ _ _ refl (one_more _ _ _ _ flags tail))))
same_ext (OfRawExt c) (OfRawExt d) e = ap (λ ls. bytes_in (get_or ls 0 (tail_line [])).fields) e
same_ext (OfCta c) (OfBare d) e = let same = ap (λ ls. (get_or ls 0 (tail_line [])).word) e in cc
same_ext (OfCta c) (OfRawExt d) e = let same = ap (λ ls. (get_or ls 0 (tail_line [])).word) e in cc
same_ext (OfBare c) (OfCta d) e = let same = ap (λ ls. (get_or ls 0 (tail_line [])).word) e in cc
same_ext (OfBare c) (OfRawExt d) e = let same = ap (λ ls. (get_or ls 0 (tail_line [])).word) e in cc
same_ext (OfRawExt c) (OfCta d) e = let same = ap (λ ls. (get_or ls 0 (tail_line [])).word) e in cc
same_ext (OfRawExt c) (OfBare d) e = let same = ap (λ ls. (get_or ls 0 (tail_line [])).word) e in cc

same_exts : (xs ys : List AnyExt) → flat_map ext_lines xs ≡ flat_map ext_lines ys → (length xs ≡ length ys) × (flat_map ext_bytes xs ≡ flat_map ext_bytes ys)
same_exts [] [] e = (refl, refl)
same_exts [] (y ∷ ys) e = absurd (some_line y (flat_map ext_lines ys) (sym e))
same_exts (x ∷ xs) [] e = absurd (some_line x (flat_map ext_lines xs) e)
same_exts (x ∷ xs) (y ∷ ys) e =
    let p = parted x y (flat_map ext_lines xs) (flat_map ext_lines ys) e in
    let rest = same_exts xs ys p.1 in
    (ap suc rest.0, two_parts _ _ _ _ (same_ext x y p.0) rest.1)

pub one_lines : (a b : WholeEdid) → edid_lines a ≡ edid_lines b → a ≡ b
one_lines a b e =
    let parts = append_same (base_lines a.base) (base_lines b.base) _ _ (base_count a.base ∙ sym (base_count b.base)) e in
    let exts = same_exts a.extensions.items b.extensions.items parts.1 in
    let base = same_base a.base b.base parts.0 (a.counted ∙ exts.0 ∙ sym b.counted) in
    one_edid a b (two_parts _ _ _ _ base exts.1)
