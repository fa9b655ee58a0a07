-- Data blocks whose first audio block is the amplifier's.
use Rattle.std.proofs.Common.{◌≡◌, ℕ, zero, suc, ◌+◌, ◌-◌, ◌<◌, ◌≤◌, Bool, true, false, ◌&&◌, not, cond, nat_le, nat_lt, get_or, set, Some, None, List, [], ◌∷◌, ◌++◌, length, take, replicate, flat_map, ap, arith, refl, sym, ◌∙◌, length-append, one-add}
use Rattle.std.proofs.Math.Seq.{take-length}
use Rattle.std.proofs.lemmas.List.{append-nil, length-take-le, length-replicate, take-replicate}
use Rattle.std.proofs.lemmas.Bool.{leb-true, ltb-false}
use Rattle.std.specs.List.{find, position, position_or_len, before_first}
use Rattle.std.proofs.lemmas.Grind.{common_steps}
use Rattle.std.proofs.lemmas.List.Folds.{position_or_len-set}
use Rattle.std.proofs.lemmas.List.Sums.{passes_at_first, prefix_len-le-length}
use Rattle.edid_base.specs.Check.{block_with_checksum}
use Rattle.edid_base.specs.Timing.{timing_bytes}
use Rattle.edid_cta.specs.Audio.{is_audio_kind, is_audio, amplifier_audio, bytes_with_audio, growth, shrinkage, ends_in_zeros, tail_with, has_room, bytes_after_blocks, IsHeard, IsUnheard}
use Rattle.edid_cta.specs.Whole.{cta_bytes}
use Rattle.edid_cta.specs.Block.{block_bytes}
use Rattle.edid_cta.specs.Hdmi.{is_vendor, is_hdmi, address_place}
use Rattle.edid_cta.specs.declared.cta.Cta.{Cta}
use Rattle.edid_cta.specs.declared.block.DataBlock.{DataBlock}
use Rattle.edid_cta.specs.declared.block.BlockKind.{BlockKind}
use Rattle.edid_cta.specs.declared.block.BlockKind.TheVariants.{Tag0, Audio, Video, Vendor, Speakers, Tag5, Tag6, Extended}

no_vendor : (k : BlockKind) → is_audio_kind k ≡ true → is_vendor k ≡ false
no_vendor Audio e = refl
no_vendor Tag0 e = refl
no_vendor Video e = refl
no_vendor Speakers e = refl
no_vendor Tag5 e = refl
no_vendor Tag6 e = refl
no_vendor Extended e = refl
no_vendor Vendor e = cc

no_hdmi : (b : DataBlock) → is_audio b ≡ true → is_hdmi b ≡ false
no_hdmi b e = rw (no_vendor b.kind e) refl

pub audio_at : (bs : List DataBlock) (i : ℕ) → position is_audio bs ≡ Some i → (i ≡ position_or_len is_audio bs) × (i < length bs)
audio_at bs i h = grind (arith, common_steps)

audioless : (bs : List DataBlock) → position is_audio bs ≡ None → position_or_len is_audio bs ≡ length bs
audioless bs h = by (nat_lt (position_or_len is_audio bs) (length bs)) refl h
  where
    by : (v : Bool) → nat_lt (position_or_len is_audio bs) (length bs) ≡ v → cond v (Some (position_or_len is_audio bs)) None ≡ None → position_or_len is_audio bs ≡ length bs
    by true t h = cc
    by false t h =
        let least = ltb-false (position_or_len is_audio bs) (length bs) t in
        let most : position_or_len is_audio bs ≤ length bs = prefix_len-le-length (λ x. not (is_audio x)) bs in
        omega (arith, least, most)

at_first : (x : DataBlock) (xs : List DataBlock) → is_audio x ≡ true → position_or_len is_audio (x ∷ xs) ≡ 0
at_first x xs h = rw h refl

at_later : (x : DataBlock) (xs : List DataBlock) → is_audio x ≡ false → position_or_len is_audio (x ∷ xs) ≡ suc (position_or_len is_audio xs)
at_later x xs h = rw (h, one-add) refl

heard_first : (x : DataBlock) (xs : List DataBlock) → is_audio x ≡ true → bytes_with_audio (x ∷ xs) ≡ amplifier_audio ++ flat_map block_bytes xs
heard_first x xs h = rw h refl

heard_later : (x : DataBlock) (xs : List DataBlock) → is_audio x ≡ false → bytes_with_audio (x ∷ xs) ≡ block_bytes x ++ bytes_with_audio xs
heard_later x xs h = rw h refl

plain_front : (bs : List DataBlock) (n : ℕ) → position_or_len is_audio bs ≡ length bs → bytes_with_audio (take n bs) ≡ flat_map block_bytes (take n bs)
plain_front [] zero h = refl
plain_front [] (suc n) h = refl
plain_front (x ∷ xs) zero h = refl
plain_front (x ∷ xs) (suc n) h = by (is_audio x) refl (λ k. plain_front xs n k)
  where
    by : (v : Bool) → is_audio x ≡ v → (position_or_len is_audio xs ≡ length xs → bytes_with_audio (take n xs) ≡ flat_map block_bytes (take n xs))
        → bytes_with_audio (x ∷ take n xs) ≡ block_bytes x ++ flat_map block_bytes (take n xs)
    by true f next = let p = at_first x xs f in absurd (omega (arith, h, p))
    by false f next = let p = at_later x xs f in heard_later x (take n xs) f ∙ ap (λ t. block_bytes x ++ t) (next (omega (arith, h, p)))

plain : (bs : List DataBlock) → position_or_len is_audio bs ≡ length bs → bytes_with_audio bs ≡ flat_map block_bytes bs
plain [] h = refl
plain (x ∷ xs) h = by (is_audio x) refl (λ k. plain xs k)
  where
    by : (v : Bool) → is_audio x ≡ v → (position_or_len is_audio xs ≡ length xs → bytes_with_audio xs ≡ flat_map block_bytes xs)
        → bytes_with_audio (x ∷ xs) ≡ block_bytes x ++ flat_map block_bytes xs
    by true f next = let p = at_first x xs f in absurd (omega (arith, h, p))
    by false f next = let p = at_later x xs f in heard_later x xs f ∙ ap (λ t. block_bytes x ++ t) (next (omega (arith, h, p)))

pub unheard : (bs : List DataBlock) → position is_audio bs ≡ None → bytes_with_audio bs ≡ flat_map block_bytes bs
unheard bs h = plain bs (audioless bs h)

pub unheard_before : (bs : List DataBlock) → position is_audio bs ≡ None → bytes_with_audio (before_first is_hdmi bs) ≡ flat_map block_bytes (before_first is_hdmi bs)
unheard_before bs h = plain_front bs (position_or_len is_hdmi bs) (audioless bs h)

set_front : (bs : List DataBlock) (i n : ℕ) (a : DataBlock) → i ≡ position_or_len is_audio bs → i < length bs → block_bytes a ≡ amplifier_audio
    → flat_map block_bytes (take n (set bs i a)) ≡ bytes_with_audio (take n bs)
set_front [] i n a at h e = absurd (omega (arith, h))
set_front (x ∷ xs) zero zero a at h e = refl
set_front (x ∷ xs) (suc i) zero a at h e = refl
set_front (x ∷ xs) zero (suc n) a at h e = by (is_audio x) refl
  where
    by : (v : Bool) → is_audio x ≡ v → block_bytes a ++ flat_map block_bytes (take n xs) ≡ bytes_with_audio (x ∷ take n xs)
    by true f = ap (λ t. t ++ flat_map block_bytes (take n xs)) e ∙ sym (heard_first x (take n xs) f)
    by false f = let p = at_later x xs f in absurd (omega (arith, at, p))
set_front (x ∷ xs) (suc i) (suc n) a at h e = by (is_audio x) refl (λ k l. set_front xs i n a k l e)
  where
    by : (v : Bool) → is_audio x ≡ v → (i ≡ position_or_len is_audio xs → i < length xs → flat_map block_bytes (take n (set xs i a)) ≡ bytes_with_audio (take n xs))
        → block_bytes x ++ flat_map block_bytes (take n (set xs i a)) ≡ bytes_with_audio (x ∷ take n xs)
    by true f next = let p = at_first x xs f in absurd (omega (arith, at, p))
    by false f next =
        let p = at_later x xs f in
        ap (λ t. block_bytes x ++ t) (next (omega (arith, at, p)) (omega (arith, h))) ∙ sym (heard_later x (take n xs) f)

pub set_heard : (bs : List DataBlock) (i : ℕ) (a : DataBlock) → i ≡ position_or_len is_audio bs → i < length bs → block_bytes a ≡ amplifier_audio
    → flat_map block_bytes (set bs i a) ≡ bytes_with_audio bs
set_heard [] i a at h e = absurd (omega (arith, h))
set_heard (x ∷ xs) zero a at h e = by (is_audio x) refl
  where
    by : (v : Bool) → is_audio x ≡ v → block_bytes a ++ flat_map block_bytes xs ≡ bytes_with_audio (x ∷ xs)
    by true f = ap (λ t. t ++ flat_map block_bytes xs) e ∙ sym (heard_first x xs f)
    by false f = let p = at_later x xs f in absurd (omega (arith, at, p))
set_heard (x ∷ xs) (suc i) a at h e = by (is_audio x) refl (λ k l. set_heard xs i a k l e)
  where
    by : (v : Bool) → is_audio x ≡ v → (i ≡ position_or_len is_audio xs → i < length xs → flat_map block_bytes (set xs i a) ≡ bytes_with_audio xs)
        → block_bytes x ++ flat_map block_bytes (set xs i a) ≡ bytes_with_audio (x ∷ xs)
    by true f next = let p = at_first x xs f in absurd (omega (arith, at, p))
    by false f next =
        let p = at_later x xs f in
        ap (λ t. block_bytes x ++ t) (next (omega (arith, at, p)) (omega (arith, h))) ∙ sym (heard_later x xs f)

-- the two audio blocks are no HDMI blocks
both_other : (bs : List DataBlock) (i : ℕ) (a : DataBlock) → i ≡ position_or_len is_audio bs → i < length bs → is_audio a ≡ true → is_hdmi a ≡ is_hdmi (get_or bs i a)
both_other bs i a at h e =
    let there : is_audio (get_or bs (position_or_len is_audio bs) a) ≡ true = passes_at_first is_audio bs a (omega arith) in
    let old = no_hdmi (get_or bs i a) (rw at there) in
    no_hdmi a e ∙ sym old

pub set_before : (bs : List DataBlock) (i : ℕ) (a : DataBlock) → i ≡ position_or_len is_audio bs → i < length bs → block_bytes a ≡ amplifier_audio → is_audio a ≡ true
    → flat_map block_bytes (before_first is_hdmi (set bs i a)) ≡ bytes_with_audio (before_first is_hdmi bs)
set_before bs i a at h e f =
    ap (λ n. flat_map block_bytes (take n (set bs i a))) (position_or_len-set is_hdmi bs i a a (both_other bs i a at h f))
    ∙ set_front bs i (position_or_len is_hdmi bs) a at h e

found_later : (x : DataBlock) (xs ys : List DataBlock) → find is_hdmi xs ≡ find is_hdmi ys → find is_hdmi (x ∷ xs) ≡ find is_hdmi (x ∷ ys)
found_later x xs ys e = by (is_hdmi x) refl
  where
    by : (v : Bool) → is_hdmi x ≡ v → find is_hdmi (x ∷ xs) ≡ find is_hdmi (x ∷ ys)
    by true f = rw f refl
    by false f = rw f e

pub set_found : (bs : List DataBlock) (i : ℕ) (a : DataBlock) → i ≡ position_or_len is_audio bs → i < length bs → is_audio a ≡ true
    → find is_hdmi (set bs i a) ≡ find is_hdmi bs
set_found [] i a at h e = absurd (omega (arith, h))
set_found (x ∷ xs) zero a at h e = by (is_audio x) refl
  where
    by : (v : Bool) → is_audio x ≡ v → find is_hdmi (a ∷ xs) ≡ find is_hdmi (x ∷ xs)
    by true f = let p = no_hdmi a e in let q = no_hdmi x f in rw (p, q) refl
    by false f = let p = at_later x xs f in absurd (omega (arith, at, p))
set_found (x ∷ xs) (suc i) a at h e = by (is_audio x) refl (λ k l. set_found xs i a k l e)
  where
    by : (v : Bool) → is_audio x ≡ v → (i ≡ position_or_len is_audio xs → i < length xs → find is_hdmi (set xs i a) ≡ find is_hdmi xs)
        → find is_hdmi (x ∷ set xs i a) ≡ find is_hdmi (x ∷ xs)
    by true f next = let p = at_first x xs f in absurd (omega (arith, at, p))
    by false f next = let p = at_later x xs f in found_later x (set xs i a) xs (next (omega (arith, at, p)) (omega (arith, h)))

-- how much longer the data blocks are
pub longer : (bs : List DataBlock) (i : ℕ) (d : DataBlock) → i ≡ position_or_len is_audio bs → i < length bs
    → length (bytes_with_audio bs) + (1 + length (get_or bs i d).payload.items) ≡ length (flat_map block_bytes bs) + 7
longer [] i d at h = absurd (omega (arith, h))
longer (x ∷ xs) zero d at h = by (is_audio x) refl
  where
    by : (v : Bool) → is_audio x ≡ v → length (bytes_with_audio (x ∷ xs)) + (1 + length x.payload.items) ≡ length (block_bytes x ++ flat_map block_bytes xs) + 7
    by true f =
        let l = length-append (block_bytes x) (flat_map block_bytes xs) in
        let m = ap length (heard_first x xs f) in
        omega (arith, l, m)
    by false f = let p = at_later x xs f in absurd (omega (arith, at, p))
longer (x ∷ xs) (suc i) d at h = by (is_audio x) refl (λ k l. longer xs i d k l)
  where
    by : (v : Bool) → is_audio x ≡ v
        → (i ≡ position_or_len is_audio xs → i < length xs → length (bytes_with_audio xs) + (1 + length (get_or xs i d).payload.items) ≡ length (flat_map block_bytes xs) + 7)
        → length (bytes_with_audio (x ∷ xs)) + (1 + length (get_or xs i d).payload.items) ≡ length (block_bytes x ++ flat_map block_bytes xs) + 7
    by true f next = let p = at_first x xs f in absurd (omega (arith, at, p))
    by false f next =
        let p = at_later x xs f in
        let more = next (omega (arith, at, p)) (omega (arith, h)) in
        let l = length-append (block_bytes x) (flat_map block_bytes xs) in
        let m = length-append (block_bytes x) (bytes_with_audio xs) in
        let k = ap length (heard_later x xs f) in
        omega (arith, more, l, m, k)

pick : {X : Type 0} (v : Bool) (x y : X) → v ≡ true → x ≡ cond v x y
pick true x y h = refl
pick false x y h = cc

leave : {X : Type 0} (v : Bool) (x y : X) → v ≡ false → y ≡ cond v x y
leave false x y h = refl
leave true x y h = cc

alike : {X : Type 0} (v : Bool) (x y : X) → x ≡ y → y ≡ cond v x y
alike true x y h = sym h
alike false x y h = refl

abbrev amplified_bytes : Cta → List ℕ
amplified_bytes c = block_with_checksum (2 ∷ 3 ∷ (length (bytes_with_audio c.blocks.items) + 4) ∷ c.flags ∷ (bytes_with_audio c.blocks.items ++ bytes_after_blocks c))

-- no room
pub roomless : (c : Cta) → has_room c ≡ false → IsUnheard c
roomless c h = record {
  bytes = leave (has_room c) (amplified_bytes c) (cta_bytes c) h;
  place = leave (has_room c) (8 + length (bytes_with_audio (before_first is_hdmi c.blocks.items))) (address_place c.blocks.items) h;
}

fits : (h f tail : List ℕ) → h ≡ f → tail_with (length h - length f) (length f - length h) tail ≡ tail
fits h f tail e =
    let less : length h - length f ≡ 0 = omega (arith, ap length e) in
    let more : length f - length h ≡ 0 = omega (arith, ap length e) in
    let all : length tail - 0 ≡ length tail = omega arith in
    ap (λ n. tail_with n (length f - length h) tail) less ∙ ap (λ n. tail_with 0 n tail) more ∙ append-nil (take (length tail - 0) tail)
    ∙ ap (λ n. take n tail) all ∙ take-length tail

unchanged : (c : Cta) → bytes_with_audio c.blocks.items ≡ flat_map block_bytes c.blocks.items → amplified_bytes c ≡ cta_bytes c
unchanged c e =
    let f = flat_map block_bytes c.blocks.items in
    let t = flat_map timing_bytes c.timings.items in
    ap (λ h. block_with_checksum (2 ∷ 3 ∷ (length h + 4) ∷ c.flags ∷ (h ++ bytes_after_blocks c))) e
    ∙ ap (λ tail. block_with_checksum (2 ∷ 3 ∷ (length f + 4) ∷ c.flags ∷ (f ++ (t ++ tail)))) (fits (bytes_with_audio c.blocks.items) f c.tail.items e)

-- no audio block
pub soundless : (c : Cta) → position is_audio c.blocks.items ≡ None → IsUnheard c
soundless c h = record {
  bytes = alike (has_room c) (amplified_bytes c) (cta_bytes c) (unchanged c (unheard c.blocks.items h));
  place = alike (has_room c) (8 + length (bytes_with_audio (before_first is_hdmi c.blocks.items))) (address_place c.blocks.items)
      (ap (λ xs. 8 + length xs) (unheard_before c.blocks.items h));
}

-- the parts that make the block with the amplifier's audio
pub made_heard : (c made : Cta) → has_room c ≡ true → made.flags ≡ c.flags → flat_map block_bytes made.blocks.items ≡ bytes_with_audio c.blocks.items
    → flat_map timing_bytes made.timings.items ++ made.tail.items ≡ bytes_after_blocks c → find is_hdmi made.blocks.items ≡ find is_hdmi c.blocks.items
    → flat_map block_bytes (before_first is_hdmi made.blocks.items) ≡ bytes_with_audio (before_first is_hdmi c.blocks.items) → IsHeard c made
made_heard c made room flags blocks rest hdmi before = record {
  bytes = ap (λ n. block_with_checksum (2 ∷ 3 ∷ (length (flat_map block_bytes made.blocks.items) + 4) ∷ n ∷ (flat_map block_bytes made.blocks.items ++ (flat_map timing_bytes made.timings.items ++ made.tail.items)))) flags
      ∙ ap (λ h. block_with_checksum (2 ∷ 3 ∷ (length h + 4) ∷ c.flags ∷ (h ++ (flat_map timing_bytes made.timings.items ++ made.tail.items)))) blocks
      ∙ ap (λ m. block_with_checksum (2 ∷ 3 ∷ (length (bytes_with_audio c.blocks.items) + 4) ∷ c.flags ∷ (bytes_with_audio c.blocks.items ++ m))) rest
      ∙ pick (has_room c) (amplified_bytes c) (cta_bytes c) room;
  hdmi = hdmi;
  place = ap (λ xs. 8 + length xs) before
      ∙ pick (has_room c) (8 + length (bytes_with_audio (before_first is_hdmi c.blocks.items))) (address_place c.blocks.items) room;
}

pub length_fitted : (less more : ℕ) (tail : List ℕ) → length (tail_with less more tail) ≡ (length tail - less) + more
length_fitted less more tail =
    let front = length-take-le (length tail - less) tail (omega arith) in
    let zeros = length-replicate {A = ℕ} more 0 in
    let all = length-append (take (length tail - less) tail) (replicate {A = ℕ} more 0) in
    omega (arith, front, zeros, all)

pub room_in : (h f t l : ℕ) → f + t + l ≡ 123 → h - f ≤ l → h + (t + ((l - (h - f)) + (f - h))) ≡ 123
room_in h f t l whole most = omega (arith, whole, most)

both : (a b : Bool) → (a && b) ≡ true → (a ≡ true) × (b ≡ true)
both true b h = (refl, h)
both false b h = cc

pub zeros_there : (n : ℕ) (bytes : List ℕ) → ends_in_zeros n bytes ≡ true → n ≤ length bytes
zeros_there n bytes h = leb-true _ _ (both (nat_le n (length bytes)) _ h).0

-- all 123 bytes
pub filled : (c : Cta) → has_room c ≡ true → length (bytes_with_audio c.blocks.items) + length (bytes_after_blocks c) ≡ 123
filled c room =
    let h = bytes_with_audio c.blocks.items in
    let f = flat_map block_bytes c.blocks.items in
    let t = flat_map timing_bytes c.timings.items in
    let fit = length_fitted (growth c.blocks.items) (shrinkage c.blocks.items) c.tail.items in
    let all = length-append t (tail_with (growth c.blocks.items) (shrinkage c.blocks.items) c.tail.items) in
    let most = zeros_there (growth c.blocks.items) c.tail.items room in
    let sum = room_in (length h) (length f) (length t) (length c.tail.items) c.whole most in
    omega (arith, fit, all, sum)

pub zeros_front : (m : ℕ) → m ≤ 25 → take {A = ℕ} m (replicate {A = ℕ} 25 0) ≡ replicate {A = ℕ} m 0
zeros_front m h = take-replicate {X = ℕ} m 25 0 h
