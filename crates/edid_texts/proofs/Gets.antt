-- The line at a place.
use Rattle.std.proofs.Common.{◌≡◌, ℕ, zero, suc, ◌+◌, ◌-◌, ◌*◌, ◌<◌, ◌≤◌, List, [], ◌∷◌, ◌++◌, length, map, get_or, Option, Some, None, option_map, slice_get, flat_map, ap, arith, refl, sym, ◌∙◌, length-append, take, drop, drop-cons}
use Rattle.std.proofs.lemmas.Option.{slice_get-get_or, slice_get-map}
use Rattle.std.proofs.Math.Seq.{take-append_seam, drop-append_seam}
use Rattle.std.proofs.lemmas.List.{length-map, take_at, drop_at}
use Rattle.edid_base.specs.Timing.{timing_bytes}
use Rattle.edid_base.specs.declared.base.Base.{Base}
use Rattle.edid_base.specs.declared.descriptor.Descriptor.{Descriptor}
use Rattle.edid_base.specs.declared.standard.StandardTiming.{StandardTiming}
use Rattle.edid_base.specs.declared.timing.Timing.{Timing}
use Rattle.edid_cta.specs.Block.{block_bytes}
use Rattle.edid_cta.specs.declared.block.DataBlock.{DataBlock}
use Rattle.edid_cta.specs.declared.cta.Cta.{Cta}
use Rattle.edid_cta.specs.declared.raw.Ext.{Ext}
use Rattle.edid_cta.specs.declared.raw.Ext.TheVariants.{Cta as OfCta, Bare, Raw}
use Rattle.edid_texts.specs.Lines.{head_lines, base_lines, standard_line, descriptor_line, block_line, timing_line, tail_line, cta_lines, ext_lines, part_lines}
use Rattle.edid_text_lines.specs.declared.line.Line.{Line}

pub get_left : {X : Type 0} (xs ys : List X) (i : ℕ) → i < length xs → slice_get (xs ++ ys) i ≡ slice_get xs i
get_left [] ys i h = absurd (omega arith)
get_left (x ∷ xs) ys zero h = refl
get_left (x ∷ xs) ys (suc i) h = get_left xs ys i (omega arith)

pub get_right : {X : Type 0} (xs ys : List X) (i j : ℕ) → i ≡ length xs + j → slice_get (xs ++ ys) i ≡ slice_get ys j
get_right [] ys i j h = let e : i ≡ j = omega arith in ap (slice_get ys) e
get_right (x ∷ xs) ys zero j h = absurd (omega arith)
get_right (x ∷ xs) ys (suc i) j h = get_right xs ys i j (omega arith)

-- lists whose fronts are equally long, part by part
pub append_same : {X : Type 0} (xs zs ys ws : List X) → length xs ≡ length zs → xs ++ ys ≡ zs ++ ws → (xs ≡ zs) × (ys ≡ ws)
append_same xs zs ys ws l e = (
  sym (take_at xs ys (length zs) l) ∙ ap (take (length zs)) e ∙ take-append_seam zs ws,
  sym (drop_at xs ys (length zs) l) ∙ ap (drop (length zs)) e ∙ drop-append_seam zs ws,
)

-- an element, and what is made of it
pub get_made : {X : Type 0} (f : X → Line) (xs : List X) (i : ℕ) (x : X) → i < length xs → x ≡ get_or xs i x → slice_get (map f xs) i ≡ Some (f x)
get_made f xs i x h e = slice_get-map f xs i ∙ ap (option_map f) (slice_get-get_or xs i x h ∙ ap (λ y. Some y) (sym e))

pub standard_at : (b : Base) (n i : ℕ) (s : Option StandardTiming) → n ≡ 11 + i → i < 8 → s ≡ get_or b.standard i s → slice_get (base_lines b) n ≡ Some (standard_line s)
standard_at b n i s h k e =
    let len = length-map b.standard standard_line in
    get_right (head_lines b) (map standard_line b.standard ++ map descriptor_line b.descriptors) n i h
    ∙ get_left (map standard_line b.standard) (map descriptor_line b.descriptors) i (omega (arith, len, b.eight, k))
    ∙ get_made standard_line b.standard i s (omega (arith, b.eight, k)) e

pub descriptor_at : (b : Base) (n i : ℕ) (d : Descriptor) → n ≡ 19 + i → i < 4 → d ≡ get_or b.descriptors i d → slice_get (base_lines b) n ≡ Some (descriptor_line d)
descriptor_at b n i d h k e =
    let len = length-map b.standard standard_line in
    get_right (head_lines b) (map standard_line b.standard ++ map descriptor_line b.descriptors) n (8 + i) (omega arith)
    ∙ get_right (map standard_line b.standard) (map descriptor_line b.descriptors) (8 + i) i (omega (arith, len, b.eight))
    ∙ get_made descriptor_line b.descriptors i d (omega (arith, b.four, k)) e

pub base_count : (b : Base) → length (base_lines b) ≡ 23
base_count b =
    let l0 = length-append (head_lines b) (map standard_line b.standard ++ map descriptor_line b.descriptors) in
    let l1 = length-append (map standard_line b.standard) (map descriptor_line b.descriptors) in
    omega (arith, l0, l1, length-map b.standard standard_line, length-map b.descriptors descriptor_line, b.eight, b.four)

pub block_at : (c : Cta) (n i : ℕ) (b : DataBlock) → n ≡ 1 + i → i < length c.blocks.items → b ≡ get_or c.blocks.items i b → slice_get (cta_lines c) n ≡ Some (block_line b)
block_at c n i b h k e =
    get_right (_ ∷ []) (map block_line c.blocks.items ++ (map timing_line c.timings.items ++ (tail_line c.tail.items ∷ []))) n i h
    ∙ get_left (map block_line c.blocks.items) _ i (omega (arith, length-map c.blocks.items block_line, k))
    ∙ get_made block_line c.blocks.items i b k e

after_blocks : (c : Cta) (n i : ℕ) → n ≡ 1 + (length c.blocks.items + i) → slice_get (cta_lines c) n ≡ slice_get (map timing_line c.timings.items ++ (tail_line c.tail.items ∷ [])) i
after_blocks c n i h =
    get_right (_ ∷ []) (map block_line c.blocks.items ++ (map timing_line c.timings.items ++ (tail_line c.tail.items ∷ []))) n (length c.blocks.items + i) h
    ∙ get_right (map block_line c.blocks.items) _ (length c.blocks.items + i) i (omega (arith, length-map c.blocks.items block_line))

pub timing_at : (c : Cta) (n i : ℕ) (t : Timing) → n ≡ 1 + (length c.blocks.items + i) → i < length c.timings.items → t ≡ get_or c.timings.items i t → slice_get (cta_lines c) n ≡ Some (timing_line t)
timing_at c n i t h k e =
    after_blocks c n i h ∙ get_left (map timing_line c.timings.items) _ i (omega (arith, length-map c.timings.items timing_line, k)) ∙ get_made timing_line c.timings.items i t k e

pub tail_at : (c : Cta) (n i : ℕ) → n ≡ 1 + (length c.blocks.items + i) → i ≡ length c.timings.items → slice_get (cta_lines c) n ≡ Some (tail_line c.tail.items)
tail_at c n i h k =
    after_blocks c n i h ∙ get_right (map timing_line c.timings.items) (tail_line c.tail.items ∷ []) i 0 (omega (arith, length-map c.timings.items timing_line, k))

pub none_at : (c : Cta) (n i : ℕ) → n ≡ 1 + (length c.blocks.items + i) → length c.timings.items < i → slice_get (cta_lines c) n ≡ None
none_at c n i h k =
    after_blocks c n i h ∙ get_right (map timing_line c.timings.items) (tail_line c.tail.items ∷ []) i (suc (i - length c.timings.items - 1)) (omega (arith, length-map c.timings.items timing_line, k))

pub in_base : (b : Base) (xs : List Ext) (n : ℕ) → n < 23 → slice_get (part_lines b xs) n ≡ slice_get (base_lines b) n
in_base b xs n h = get_left (base_lines b) _ n (omega (arith, base_count b, h))

pub in_ext : (b : Base) (xs : List Ext) (n i : ℕ) → n ≡ 23 + i → slice_get (part_lines b xs) n ≡ slice_get (flat_map ext_lines xs) i
in_ext b xs n i h = get_right (base_lines b) _ n i (omega (arith, base_count b, h))

-- a line of the first of some extensions, and one after it
pub in_first : (x : Ext) (xs : List Ext) (n : ℕ) → n < length (ext_lines x) → slice_get (flat_map ext_lines (x ∷ xs)) n ≡ slice_get (ext_lines x) n
in_first x xs n h = get_left (ext_lines x) (flat_map ext_lines xs) n h

pub after_first : (x : Ext) (xs : List Ext) (n : ℕ) → length (ext_lines x) ≤ n → slice_get (flat_map ext_lines (x ∷ xs)) n ≡ slice_get (flat_map ext_lines xs) (n - length (ext_lines x))
after_first x xs n h = get_right (ext_lines x) (flat_map ext_lines xs) n (n - length (ext_lines x)) (omega (arith, h))

pub first_left : (xs : List Ext) (i n : ℕ) (x : Ext) → i < length xs → x ≡ get_or xs i x → n < length (ext_lines x) → slice_get (flat_map ext_lines (drop i xs)) n ≡ slice_get (ext_lines x) n
first_left xs i n x h e less =
    ap (λ ys. slice_get (flat_map ext_lines ys) n) (drop-cons xs i x h ∙ ap (λ y. y ∷ drop (suc i) xs) (sym e)) ∙ in_first x (drop (suc i) xs) n less

pub rest_left : (xs : List Ext) (i n : ℕ) (x : Ext) → i < length xs → x ≡ get_or xs i x → length (ext_lines x) ≤ n
    → slice_get (flat_map ext_lines (drop i xs)) n ≡ slice_get (flat_map ext_lines (drop (i + 1) xs)) (n - length (ext_lines x))
rest_left xs i n x h e most =
    let next : suc i ≡ i + 1 = omega arith in
    ap (λ ys. slice_get (flat_map ext_lines ys) n) (drop-cons xs i x h ∙ ap (λ y. y ∷ drop (suc i) xs) (sym e)) ∙ after_first x (drop (suc i) xs) n most
    ∙ ap (λ k. slice_get (flat_map ext_lines (drop k xs)) (n - length (ext_lines x))) next

few_blocks : (bs : List DataBlock) → length bs ≤ length (flat_map block_bytes bs)
few_blocks [] = omega arith
few_blocks (b ∷ bs) = omega (arith, length-append (block_bytes b) (flat_map block_bytes bs), few_blocks bs)

few_timings : (ts : List Timing) → length ts ≤ length (flat_map timing_bytes ts)
few_timings [] = omega arith
few_timings (t ∷ ts) = omega (arith, length-append (timing_bytes t) (flat_map timing_bytes ts), few_timings ts)

ext_few : (x : Ext) → length (ext_lines x) ≤ 125
ext_few (OfCta c) =
    let l0 = length-append (map block_line c.blocks.items) (map timing_line c.timings.items ++ (tail_line c.tail.items ∷ [])) in
    let l1 = length-append (map timing_line c.timings.items) (tail_line c.tail.items ∷ []) in
    omega (arith, l0, l1, length-map c.blocks.items block_line, length-map c.timings.items timing_line, few_blocks c.blocks.items, few_timings c.timings.items, c.whole)
ext_few (Bare b) = omega arith
ext_few (Raw r) = omega arith

exts_few : (xs : List Ext) → length (flat_map ext_lines xs) ≤ 125 * length xs
exts_few [] = omega arith
exts_few (x ∷ xs) = omega (arith, length-append (ext_lines x) (flat_map ext_lines xs), ext_few x, exts_few xs)

-- a base block and up to three extensions have few lines
pub few_parts : (b : Base) (xs : List Ext) → length xs ≤ 3 → length (part_lines b xs) ≤ 398
few_parts b xs few = omega (arith, length-append (base_lines b) (flat_map ext_lines xs), base_count b, exts_few xs, few)
