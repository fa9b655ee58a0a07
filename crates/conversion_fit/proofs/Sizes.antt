-- What is left has room where all of it had.
use Rattle.std.proofs.Common.{◌≡◌, ◌∙◌, refl, sym, ap, ℕ, zero, suc, ◌+◌, ◌-◌, ◌*◌, ◌/◌, ◌%◌, ◌≤◌, ◌<◌, ◌==◌, Bool, true, false, ◌&&◌, nat_lt, if◌then◌else◌, List, [], ◌∷◌, ◌++◌, length, length-append, drop, take, map, flat_map, Option, Some, None, arith}
use Rattle.std.specs.List.{filter, list_any}
use Rattle.std.proofs.lemmas.Bool.{ltb-true}
use Rattle.edid_base.specs.Timing.{timing_bytes}
use Rattle.edid_base.specs.declared.descriptor.Descriptor.{Descriptor}
use Rattle.edid_base.specs.declared.timing.Timing.{Timing}
use Rattle.edid_cta.specs.Block.{block_bytes}
use Rattle.edid_cta.specs.Hdmi.{is_hdmi}
use Rattle.edid_cta.specs.declared.block.DataBlock.{DataBlock}
use Rattle.edid_cta.specs.declared.block.BlockKind.{BlockKind}
use Rattle.edid_cta.specs.declared.block.BlockKind.TheVariants.{Tag0, Audio, Video, Vendor, Speakers, Tag5, Tag6, Extended}
use Rattle.edid_cta.specs.declared.raw.Ext.{Ext}
use Rattle.edid_layout.specs.HdmiBlock.{video_place}
use Rattle.rules_contents.specs.Contents.{has_extended_tag}
use Rattle.rules_values.specs.BlockParts.{is_video_kind}
use Rattle.rules_values.specs.VideoCodes.{svds_of}
use Rattle.conversion_fit.specs.Blocks.{Part, fitted, fitted_blocks, fitted_bytes, fitted_map, is_cut, keeps, kept_codes, kept_marks, loses, packed, part_of, stays, without_video}
use Rattle.conversion_fit.specs.Timings.{area, carried_timings, has_area, has_area_there, is_carried_timing, led_timings, left_descriptors, without_first}
use Rattle.conversion_fit.proofs.Choices.{choose}
use Rattle.conversion_fit.proofs.Links.{block, front_true, tagged_in}

-- ---- lists

fewer : {X : Type 0} (k : X → Bool) (xs : List X) → length (filter k xs) ≤ length xs
fewer k [] = omega arith
fewer {X} k (x ∷ xs) =
    choose (λ (l : List X). length l ≤ suc (length xs)) (k x) (x ∷ filter k xs) (filter k xs)
    (λ e. let h = fewer k xs in omega (arith, h)) (λ e. let h = fewer k xs in omega (arith, h))

taken : {X : Type 0} (n : ℕ) (xs : List X) → length (take n xs) ≤ length xs
taken zero xs = omega arith
taken (suc n) [] = omega arith
taken (suc n) (x ∷ xs) = let h = taken n xs in omega (arith, h)

packed_long : (count : ℕ) (marks : List ℕ) (place : ℕ) → length (packed count marks place) ≡ count
packed_long zero marks place = refl
packed_long (suc count) marks place = ap suc (packed_long count marks (place + 8))

after_one : (p : List ℕ) → 0 < length p → suc (length (drop 1 p)) ≡ length p
after_one [] h = absurd (omega (arith, h))
after_one (x ∷ xs) h = refl

-- ---- data blocks

cut_short : (p : List ℕ) → length (without_video p) ≤ length p
cut_short [] = omega arith
cut_short (a ∷ []) = omega arith
cut_short (a ∷ b ∷ []) = omega arith
cut_short (a ∷ b ∷ c ∷ []) = omega arith
cut_short (a ∷ b ∷ c ∷ d ∷ []) = omega arith
cut_short (a ∷ b ∷ c ∷ d ∷ e ∷ []) = omega arith
cut_short (a ∷ b ∷ c ∷ d ∷ e ∷ f ∷ []) = omega arith
cut_short (a ∷ b ∷ c ∷ d ∷ e ∷ f ∷ g ∷ []) = omega arith
cut_short (a ∷ b ∷ c ∷ d ∷ e ∷ f ∷ g ∷ h ∷ rest) = let l = taken (video_place h - 3) rest in omega (arith, l)

some_byte : (tag : ℕ) (k : BlockKind) (p : List ℕ) → tagged_in tag (block k p) ≡ true → 0 < length p
some_byte tag Tag0 p h = let no : ⊥ = cc in absurd no
some_byte tag Audio p h = let no : ⊥ = cc in absurd no
some_byte tag Video p h = let no : ⊥ = cc in absurd no
some_byte tag Vendor p h = let no : ⊥ = cc in absurd no
some_byte tag Speakers p h = let no : ⊥ = cc in absurd no
some_byte tag Tag5 p h = let no : ⊥ = cc in absurd no
some_byte tag Tag6 p h = let no : ⊥ = cc in absurd no
some_byte tag Extended p h = ltb-true 0 (length p) (front_true (nat_lt 0 (length p)) _ h)

shorter : (xs : List Ext) (svds : List ℕ) (b : DataBlock) → length (fitted_bytes xs svds b) ≤ length b.payload.items
shorter xs svds b =
    let k = b.kind in
    let p = b.payload.items in
    let codes : List ℕ = kept_codes xs false p in
    let halved : List ℕ = 0x0e ∷ kept_codes xs true (drop 1 p) in
    let mapped : List ℕ = 0x0f ∷ fitted_map xs svds (drop 1 p) in
    let cut : List ℕ = without_video p in
    let fourth : List ℕ = if is_hdmi b && is_cut xs svds b then cut else p in
    let third : List ℕ = if has_extended_tag 0x0f b && loses xs svds then mapped else fourth in
    let second : List ℕ = if has_extended_tag 0x0e b then halved else third in
    let P : List ℕ → Type 0 = λ q. length q ≤ length p in
    choose P (is_video_kind k) codes second (λ e. fewer (keeps xs false) p) (λ e1.
    choose P (has_extended_tag 0x0e b) halved third (λ e.
    let one = after_one p (some_byte 0x0e k p e) in
    let less = fewer (keeps xs true) (drop 1 p) in
    omega (arith, one, less)) (λ e2.
    choose P (has_extended_tag 0x0f b && loses xs svds) mapped fourth (λ e.
    let one = after_one p (some_byte 0x0f k p (front_true (has_extended_tag 0x0f b) (loses xs svds) e)) in
    let same = packed_long (length (drop 1 p)) (kept_marks xs (drop 1 p) 0 svds) 0 in
    omega (arith, one, same)) (λ e3.
    choose P (is_hdmi b && is_cut xs svds b) cut p (λ e. cut_short p) (λ e4. omega arith))))

-- as many bytes as blocks with these parts have
abbrev size : List Part → ℕ
size [] = 0
size (q ∷ qs) = suc (length q.1) + size qs

size_of : (cs : List DataBlock) → length (flat_map block_bytes cs) ≡ size (map part_of cs)
size_of [] = refl
size_of (c ∷ cs) =
    let joined = length-append (block_bytes c) (flat_map block_bytes cs) in
    let rest = size_of cs in
    omega (arith, joined, rest)

left_size : (xs : List Ext) (svds : List ℕ) (bs : List DataBlock) → size (map (fitted xs svds) (filter (stays xs svds) bs)) ≤ length (flat_map block_bytes bs)
left_size xs svds [] = omega arith
left_size xs svds (b ∷ bs) =
    let whole = length-append (block_bytes b) (flat_map block_bytes bs) in
    let rest = left_size xs svds bs in
    let short = shorter xs svds b in
    choose (λ (l : List DataBlock). size (map (fitted xs svds) l) ≤ length (flat_map block_bytes (b ∷ bs))) (stays xs svds b)
    (b ∷ filter (stays xs svds) bs) (filter (stays xs svds) bs) (λ e. omega (arith, whole, rest, short)) (λ e. omega (arith, whole, rest))

left_blocks : (xs : List Ext) (bs cs : List DataBlock) → map part_of cs ≡ fitted_blocks xs bs → length (flat_map block_bytes cs) ≤ length (flat_map block_bytes bs)
left_blocks xs bs cs e =
    let same = size_of cs in
    let parts = ap size e in
    let less = left_size xs (svds_of xs) bs in
    omega (arith, same, parts, less)

-- ---- timings

timings_long : (ts : List Timing) → length (flat_map timing_bytes ts) ≡ 18 * length ts
timings_long [] = refl
timings_long (t ∷ ts) =
    let joined = length-append (timing_bytes t) (flat_map timing_bytes ts) in
    let rest = timings_long ts in
    omega (arith, joined, rest)

without_fewer : (pixels : ℕ) (ts : List Timing) → length (without_first pixels ts) ≤ length ts
without_fewer pixels [] = omega arith
without_fewer pixels (t ∷ ts) =
    choose (λ (l : List Timing). length l ≤ suc (length ts)) (has_area pixels t) ts (t ∷ without_first pixels ts) (λ e. omega arith)
    (λ e. let h = without_fewer pixels ts in omega (arith, h))

led_fewer : (xs : List Ext) (ds : List Descriptor) (o : Option Timing) (ts : List Timing) → length (led_timings xs ds o ts) ≤ length ts
led_fewer xs ds None ts = fewer (is_carried_timing xs) ts
led_fewer xs ds (Some t) ts =
    let less = fewer (is_carried_timing xs) ts in
    choose (λ (l : List Timing). length l ≤ length ts) (list_any (has_area_there (area t)) (left_descriptors xs (drop 1 ds))) (carried_timings xs ts)
    (without_first (area t) (carried_timings xs ts)) (λ e. less) (λ e. let h = without_fewer (area t) (carried_timings xs ts) in omega (arith, less, h))

-- ---- both

pub room : (xs : List Ext) (ds : List Descriptor) (o : Option Timing) (bs cs : List DataBlock) (ts us : List Timing) (tail : List ℕ)
    → map part_of cs ≡ fitted_blocks xs bs → us ≡ led_timings xs ds o ts
    → length (flat_map block_bytes bs) + length (flat_map timing_bytes ts) + length tail ≡ 123
    → length (flat_map block_bytes cs) + length (flat_map timing_bytes us) ≤ 123
room xs ds o bs cs ts us tail parts led whole =
    let blocks = left_blocks xs bs cs parts in
    let old = timings_long ts in
    let new = timings_long us in
    let same = ap (λ (k : List Timing). length k) led in
    let less = led_fewer xs ds o ts in
    omega (arith, whole, blocks, old, new, same, less)

-- how many bytes both have, as they are counted
pub counted : (bs : List DataBlock) (ts : List Timing) (blocks count : ℕ) → blocks ≡ length (flat_map block_bytes bs) → count ≡ length ts
    → blocks + 18 * count ≡ length (flat_map block_bytes bs) + length (flat_map timing_bytes ts)
counted bs ts blocks count h k =
    let long = timings_long ts in
    omega (arith, h, k, long)
