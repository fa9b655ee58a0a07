-- An extension with another address is an extension: the one with that address.
use Rattle.std.proofs.Common.{◌≡◌, ℕ, suc, ◌+◌, ◌*◌, ◌<◌, ◌≤◌, ◌/◌, ◌%◌, true, nat_le, IsSome, Some, None, ◌⊎◌, inl, inr, List, [], ◌∷◌, ◌++◌, length, get_or, set, take, drop, flat_map, ap, arith, refl, sym, ◌∙◌, append_assoc, length-append, length-drop, drop-cons, drop-drop, take-append-drop}
use Rattle.std.proofs.lemmas.Grind.{flat_map-append}
use Rattle.std.proofs.lemmas.List.{set_at, take_at, length-take-le, take_all}
use Rattle.std.specs.List.{find}
use Rattle.std.specs.Option.{option_map, is_some}
use borrow.Author.Tests.{tests}
use borrow.Rule.Slice.PartMut.{put_mid}
use Rattle.edid_base.proofs.Bytes.{are_bytes-cons, are_bytes-drop}
use Rattle.edid_base.specs.Bytes.{are_bytes}
use Rattle.edid_base.specs.Timing.{timing_bytes}
use Rattle.edid_cta.proofs.FirstHdmi.{IsCut, HasNone, cut, both, identified, IsIdentified}
use Rattle.edid_cta.specs.Block.{block_bytes, kind_number}
use Rattle.edid_base.specs.Check.{check_of, block_with_checksum}
use Rattle.edid_cta.specs.Ext.{ext_bytes}
use Rattle.edid_cta.specs.Hdmi.{has_identifier, is_vendor, is_hdmi, phys_at, blocks_of, address_of, address_place, bytes_with_address}
use Rattle.edid_cta.specs.Whole.{cta_bytes}
use Rattle.edid_cta.specs.declared.block.DataBlock.{DataBlock}
use Rattle.edid_cta.specs.declared.cta.Cta.{Cta as CtaBlock}
use Rattle.text_core.specs.declared.phys.Phys.{Phys}
use Rattle.edid_cta.specs.declared.raw.Ext.{Ext}
use Rattle.edid_cta.specs.declared.raw.Ext.TheVariants.{Cta, Bare, Raw}

-- two bytes after a front, and the checksum
set_two : (front : List ℕ) (a b h l : ℕ) (tail : List ℕ) → set (set (front ++ (a ∷ b ∷ tail)) (length front) h) (length front + 1) l ≡ front ++ (h ∷ l ∷ tail)
set_two front a b h l tail =
    let first : set (front ++ (a ∷ b ∷ tail)) (length front) h ≡ front ++ (h ∷ b ∷ tail) = set_at front a (b ∷ tail) h (length front) refl in
    let regroup : (front ++ (h ∷ [])) ++ (b ∷ tail) ≡ front ++ (h ∷ b ∷ tail) = append_assoc front (h ∷ []) (b ∷ tail) in
    let len : length (front ++ (h ∷ [])) ≡ length front + 1 = omega (arith, length-append front (h ∷ [])) in
    let second : set ((front ++ (h ∷ [])) ++ (b ∷ tail)) (length front + 1) l ≡ (front ++ (h ∷ [])) ++ (l ∷ tail) = set_at (front ++ (h ∷ [])) b tail l (length front + 1) len in
    ap (λ xs. set xs (length front + 1) l) first ∙ ap (λ xs. set xs (length front + 1) l) (sym regroup) ∙ second ∙ append_assoc front (h ∷ []) (l ∷ tail)

pub readdressed_is : (front : List ℕ) (a b : ℕ) (p : Phys) (tail : List ℕ) → length front + 2 + length tail ≡ 127
    → bytes_with_address (block_with_checksum (front ++ (a ∷ b ∷ tail))) (length front) p ≡ block_with_checksum (front ++ (p.high ∷ p.low ∷ tail))
readdressed_is front a b p tail len =
    let check = check_of (front ++ (a ∷ b ∷ tail)) in
    let regroup : (front ++ (a ∷ b ∷ tail)) ++ (check ∷ []) ≡ front ++ (a ∷ b ∷ (tail ++ (check ∷ []))) = append_assoc front (a ∷ b ∷ tail) (check ∷ []) in
    let changed = ap (λ xs. set (set xs (length front) p.high) (length front + 1) p.low) regroup ∙ set_two front a b p.high p.low (tail ++ (check ∷ [])) ∙ sym (append_assoc front (p.high ∷ p.low ∷ tail) (check ∷ [])) in
    let size : length (front ++ (p.high ∷ p.low ∷ tail)) ≡ 127 = omega (arith, length-append front (p.high ∷ p.low ∷ tail)) in
    ap (λ xs. block_with_checksum (take 127 xs)) changed ∙ ap block_with_checksum (take_at (front ++ (p.high ∷ p.low ∷ tail)) (check ∷ []) 127 size)

-- two numbers written over a slice's part
pub put_two : (xs : List ℕ) (i n h l : ℕ) → i + 1 < length xs → n ≡ 2 → put_mid i n xs (h ∷ l ∷ []) ≡ set (set xs i h) (i + 1) l
put_two xs i n h l room two =
    let cut : xs ≡ take i xs ++ drop i xs = sym (take-append-drop i xs) in
    let first = drop-cons xs i 0 (omega arith) in
    let second = drop-cons xs (suc i) 0 (omega arith) in
    let parts : xs ≡ take i xs ++ (get_or xs i 0 ∷ get_or xs (suc i) 0 ∷ drop (suc (suc i)) xs) = cc in
    let size : length (take i xs) ≡ i = length-take-le i xs (omega arith) in
    let done = set_two (take i xs) (get_or xs i 0) (get_or xs (suc i) 0) h l (drop (suc (suc i)) xs) in
    let past : i + n ≡ suc (suc i) = omega arith in
    let tail : drop n (drop i xs) ≡ drop (suc (suc i)) xs = drop-drop n i xs ∙ ap (λ k. drop k xs) past in
    let here : take i xs ++ (h ∷ l ∷ drop (suc (suc i)) xs) ≡ set (set xs (length (take i xs)) h) (length (take i xs) + 1) l =
    sym done ∙ ap (λ ys. set (set ys (length (take i xs)) h) (length (take i xs) + 1) l) (sym parts) in
    ap (λ ys. take i xs ++ (h ∷ l ∷ ys)) tail ∙ here ∙ ap (λ k. set (set xs k h) (k + 1) l) size

-- what is written for an address's number
pub buf_is : (number h l : ℕ) (mid buf : List ℕ) → number ≡ h * 256 + l → h < 256 → l < 256 → length mid ≡ 2
    → buf ≡ (number / 256 % 256) ∷ (number % 256) ∷ drop 2 mid → buf ≡ h ∷ l ∷ []
buf_is number h l mid buf e hh hl len is =
    let x : number / 256 % 256 ≡ h = omega arith in
    let y : number % 256 ≡ l = omega arith in
    let none : length (drop 2 mid) ≤ 0 = simp length-drop (omega arith) in
    let end : drop 2 mid ≡ [] = sym (take_all 0 (drop 2 mid) none) in
    cc

-- an HDMI block's payload with another address
abbrev new_payload : DataBlock → Phys → List ℕ
new_payload b p = 3 ∷ 12 ∷ 0 ∷ p.high ∷ p.low ∷ drop 5 b.payload.items

new_len : (b : DataBlock) (p : Phys) → 5 ≤ length b.payload.items → length (new_payload b p) ≡ length b.payload.items
new_len b p long = let rest = length-drop 5 b.payload.items in omega (arith, rest)

new_fit : (b : DataBlock) (p : Phys) → p.high < 256 → p.low < 256 → are_bytes (new_payload b p) ≡ true
new_fit b p h l =
    let rest = are_bytes-drop 5 b.payload.items b.bytes_fit in
    let low = are_bytes-cons p.low (drop 5 b.payload.items) l rest in
    let high = are_bytes-cons p.high (p.low ∷ drop 5 b.payload.items) h low in high

old_payload : (b : DataBlock) → IsIdentified b.payload.items
    → b.payload.items ≡ 3 ∷ 12 ∷ 0 ∷ get_or b.payload.items 3 0 ∷ get_or b.payload.items 4 0 ∷ drop 5 b.payload.items
old_payload b id =
    let xs = b.payload.items in
    let long = id.long in
    let d0 = drop-cons xs 0 0 (omega arith) in
    let d1 = drop-cons xs 1 0 (omega arith) in
    let d2 = drop-cons xs 2 0 (omega arith) in
    let d3 = drop-cons xs 3 0 (omega arith) in
    let d4 = drop-cons xs 4 0 (omega arith) in
    let first = id.first in
    let second = id.second in
    let third = id.third in
    cc

abbrev new_block : (b : DataBlock) (p : Phys) → length (new_payload b p) < 32 → are_bytes (new_payload b p) ≡ true → DataBlock
new_block b p short fit = record { kind = b.kind; payload = record { items = new_payload b p }; short = short; bytes_fit = fit }

new_is_hdmi : (b : DataBlock) (p : Phys) (short : length (new_payload b p) < 32) (fit : are_bytes (new_payload b p) ≡ true) → is_hdmi b ≡ true → is_hdmi (new_block b p short fit) ≡ true
new_is_hdmi b p short fit h =
    let vendor = (both (is_vendor b.kind) (has_identifier b.payload.items) h).0 in
    let long : nat_le 5 (length (new_payload b p)) ≡ true = grind (arith, tests) in
    rw (vendor, long) refl

-- the bytes up to an HDMI block's address
abbrev front_of : ℕ → ℕ → List ℕ → ℕ → List ℕ
front_of d flags before head = 2 ∷ 3 ∷ d ∷ flags ∷ (before ++ (head ∷ 3 ∷ 12 ∷ 0 ∷ []))

-- data blocks, cut at an HDMI block's address
cut_bytes : (before after : List DataBlock) (b : DataBlock) (x y : ℕ) (rest more : List ℕ) → b.payload.items ≡ 3 ∷ 12 ∷ 0 ∷ x ∷ y ∷ rest
    → flat_map block_bytes (before ++ b ∷ after) ++ more
    ≡ (flat_map block_bytes before ++ ((kind_number b.kind * 32 + length b.payload.items) ∷ 3 ∷ 12 ∷ 0 ∷ [])) ++ (x ∷ y ∷ (rest ++ (flat_map block_bytes after ++ more)))
cut_bytes before after b x y rest more e =
    let front = flat_map block_bytes before in
    let back = flat_map block_bytes after in
    let head = kind_number b.kind * 32 + length b.payload.items in
    let parted = ap (λ z. z ++ more) (flat_map-append block_bytes before (b ∷ after)) in
    let reported = ap (λ i. (front ++ (head ∷ (i ++ back))) ++ more) e in
    let moved = append_assoc front (head ∷ 3 ∷ 12 ∷ 0 ∷ x ∷ y ∷ (rest ++ back)) more in
    let inner = ap (λ z. front ++ (head ∷ 3 ∷ 12 ∷ 0 ∷ x ∷ y ∷ z)) (append_assoc rest back more) in
    let outer = append_assoc front (head ∷ 3 ∷ 12 ∷ 0 ∷ []) (x ∷ y ∷ (rest ++ (back ++ more))) in
    parted ∙ reported ∙ moved ∙ inner ∙ sym outer

-- another block of the same length leaves the length of all
same_total : (before after : List DataBlock) (a b : DataBlock) → length a.payload.items ≡ length b.payload.items
    → length (flat_map block_bytes (before ++ a ∷ after)) ≡ length (flat_map block_bytes (before ++ b ∷ after))
same_total [] after a b e =
    omega (arith, e, length-append (block_bytes a) (flat_map block_bytes after), length-append (block_bytes b) (flat_map block_bytes after))
same_total (x ∷ xs) after a b e =
    let rest = same_total xs after a b e in
    omega (arith, rest, length-append (block_bytes x) (flat_map block_bytes (xs ++ a ∷ after)), length-append (block_bytes x) (flat_map block_bytes (xs ++ b ∷ after)))

pub record IsReaddressed (e : Ext) (p : Phys) : Type 0 where
  pub ext : Ext
  pub bytes : ext_bytes ext ≡ bytes_with_address (ext_bytes e) (address_place (blocks_of e)) p
  pub address : address_of ext ≡ Some p

in_cta : (c : CtaBlock) (p : Phys) (k : IsCut c.blocks.items) → p.high < 256 → p.low < 256 → IsReaddressed (Cta c) p
in_cta c p k hi lo =
    let b = k.hdmi in
    let id = identified b k.is_one in
    let long = id.long in
    let len = new_len b p long in
    let was = b.short in
    let short : length (new_payload b p) < 32 = omega arith in
    let fit = new_fit b p hi lo in
    let n = new_block b p short fit in
    let blocks = k.before ++ n ∷ k.after in
    let more = flat_map timing_bytes c.timings.items ++ c.tail.items in
    let x = get_or b.payload.items 3 0 in
    let y = get_or b.payload.items 4 0 in
    let rest = drop 5 b.payload.items in
    let tail = rest ++ (flat_map block_bytes k.after ++ more) in
    let front = flat_map block_bytes k.before in
    let head = kind_number b.kind * 32 + length b.payload.items in
    let d = length (flat_map block_bytes c.blocks.items) + 4 in
    let parted = k.whole in
    let total : length (flat_map block_bytes blocks) ≡ length (flat_map block_bytes c.blocks.items) =
    same_total k.before k.after n b len ∙ sym (ap (λ bs. length (flat_map block_bytes bs)) parted) in
    let all = c.whole in
    let whole : length (flat_map block_bytes blocks) + length (flat_map timing_bytes c.timings.items) + length c.tail.items ≡ 123 = omega (arith, total, all) in
    let made : CtaBlock = record { flags = c.flags; blocks = record { items = blocks }; timings = c.timings; tail = c.tail; whole = whole; ended = c.ended; bytes_fit = c.bytes_fit } in
    let old_body = ap (λ bs. flat_map block_bytes bs ++ more) parted ∙ cut_bytes k.before k.after b x y rest more (old_payload b id) in
    let new_body = cut_bytes k.before k.after n p.high p.low rest more refl in
    let old_bytes : cta_bytes c ≡ block_with_checksum (front_of d c.flags front head ++ (x ∷ y ∷ tail)) = ap (λ z. block_with_checksum (2 ∷ 3 ∷ d ∷ c.flags ∷ z)) old_body in
    let new_bytes : cta_bytes made ≡ block_with_checksum (front_of (length (flat_map block_bytes blocks) + 4) c.flags front (kind_number b.kind * 32 + length (new_payload b p)) ++ (p.high ∷ p.low ∷ tail)) =
    ap (λ z. block_with_checksum (2 ∷ 3 ∷ (length (flat_map block_bytes blocks) + 4) ∷ c.flags ∷ z)) new_body in
    let same_front : block_with_checksum (front_of (length (flat_map block_bytes blocks) + 4) c.flags front (kind_number b.kind * 32 + length (new_payload b p)) ++ (p.high ∷ p.low ∷ tail))
    ≡ block_with_checksum (front_of d c.flags front head ++ (p.high ∷ p.low ∷ tail)) =
    ap (λ t. block_with_checksum (front_of (t + 4) c.flags front (kind_number b.kind * 32 + length (new_payload b p)) ++ (p.high ∷ p.low ∷ tail))) total
    ∙ ap (λ t. block_with_checksum (front_of d c.flags front (kind_number b.kind * 32 + t) ++ (p.high ∷ p.low ∷ tail))) len in
    let size : length (front_of d c.flags front head) ≡ 8 + length front = omega (arith, length-append front (head ∷ 3 ∷ 12 ∷ 0 ∷ [])) in
    let place : address_place c.blocks.items ≡ length (front_of d c.flags front head) = ap (λ bs. 8 + length (flat_map block_bytes bs)) k.front ∙ sym size in
    let body_len = ap length old_body ∙ length-append (front ++ (head ∷ 3 ∷ 12 ∷ 0 ∷ [])) (x ∷ y ∷ tail) in
    let fill : length (front_of d c.flags front head) + 2 + length tail ≡ 127 =
    omega (arith, all, body_len, length-append (flat_map block_bytes c.blocks.items) more, length-append (flat_map timing_bytes c.timings.items) c.tail.items) in
    let changed = readdressed_is (front_of d c.flags front head) x y p tail fill in
    let target : bytes_with_address (cta_bytes c) (address_place c.blocks.items) p ≡ cta_bytes made =
    ap (λ z. bytes_with_address z (address_place c.blocks.items) p) old_bytes
    ∙ ap (λ z. bytes_with_address (block_with_checksum (front_of d c.flags front head ++ (x ∷ y ∷ tail))) z p) place ∙ changed ∙ sym same_front ∙ sym new_bytes in
    let found = k.instead n (new_is_hdmi b p short fit k.is_one) in
    record { ext = Cta made; bytes = sym target; address = ap (option_map (λ (v : DataBlock). phys_at v.payload.items)) found }

pub in_ext : (e : Ext) (p : Phys) → IsSome (address_of e) → p.high < 256 → p.low < 256 → IsReaddressed e p
in_ext (Cta c) p some hi lo = by (cut c.blocks.items)
  where
    by : HasNone c.blocks.items ⊎ IsCut c.blocks.items → IsReaddressed (Cta c) p
    by (inl h) = absurd (no h.none)
      where
        no : find is_hdmi c.blocks.items ≡ None → ⊥
        no e = let t = ap (λ o. is_some (option_map (λ (v : DataBlock). phys_at v.payload.items) o)) e in cc
    by (inr k) = in_cta c p k hi lo
in_ext (Bare b) p some hi lo = cc
in_ext (Raw r) p some hi lo = cc
