-- The bits of what is said follow one another without a gap.
use Rattle.std.proofs.Common.{◌≡◌, ℕ, zero, suc, ◌+◌, ◌-◌, ◌*◌, ◌<◌, ◌≤◌, List, [], ◌∷◌, ◌++◌, Option, append-nil, codes, length, length-append, length-drop, length-take-le, drop, take, take-append-drop, get_or, map, ap, ap₂, refl, subst, sym, ◌∙◌, arith}
use Rattle.std.proofs.lemmas.Grind.{flat_map-append}
use Rattle.std.proofs.lemmas.List.{map-append}
use Rattle.std.proofs.Math.Seq.{take-append_seam}
use Rattle.std.specs.List.{flat_map}
use Rattle.edid_base.specs.Check.{check_of}
use Rattle.edid_base.specs.Timing.{timing_bytes}
use Rattle.edid_base.specs.declared.timing.Timing.{Timing as TimingValue}
use Rattle.edid_tables.specs.Sections.{section_parts}
use Rattle.edid_tables.specs.declared.sections.Section.{Section}
use Rattle.edid_tables.specs.declared.sections.Section.TheVariants.{Checksum, Cta, Timing}
use Rattle.edid_cta.specs.Block.{block_bytes}
use Rattle.edid_cta.specs.Cta.{bare_front, cta_front}
use Rattle.edid_cta.specs.Ext.{ext_bytes}
use Rattle.edid_cta.specs.Whole.{bare_bytes, cta_bytes}
use Rattle.edid_cta.specs.declared.block.DataBlock.{DataBlock}
use Rattle.edid_cta.specs.declared.cta.Bare.{Bare as BareValue}
use Rattle.edid_cta.specs.declared.cta.Cta.{Cta as CtaValue}
use Rattle.edid_cta.specs.declared.raw.Ext.{Ext}
use Rattle.edid_cta.specs.declared.raw.Ext.TheVariants as exts
use Rattle.edid_cta.specs.declared.raw.RawExt.{RawExt}
use Rattle.edid_fields.specs.Fields.{fields_of}
use Rattle.edid_fields.specs.Forms.{Field, Part}
use Rattle.edid_fields.specs.Tiling.{all_bits, count, covered, left_bits}
use Rattle.edid_tables.specs.Frames.{frame_parts}
use Rattle.edid_tables.specs.declared.frames.Frame.TheVariants.{Head}
use Rattle.conversion_fields.specs.Blocks.{block_part, block_said, blocks_parts, body_of, body_parts, front_end, front_parts, head_byte}
use Rattle.conversion_fields.specs.Parts.{PartSaid, Tiled, bits_in, bytes_in}
use Rattle.conversion_fields.specs.Said.{Said, all_said, bits_of, bytes_said, end_in, front_said, left_said, said_bits, said_of}
use Rattle.conversion_fields.specs.Whole.{blocks_end, content_parts, cut_parts, ext_front, ext_parts, plain_part, plain_parts, section_of, section_part, timings_parts, total}

-- each bit of bytes stands in one field of a table, or is left over
abbrev pub Law : List Part → List ℕ → Type 0
Law table p = covered (fields_of table p) ++ left_bits table p ≡ all_bits p

pub count-join : (b m n k : ℕ) → m + n ≡ k → count b m ++ count (b + m) n ≡ count b k
unfolding count
count-join b zero n k e =
    let place : b + 0 ≡ b = omega arith in
    let size : n ≡ k = omega (arith, e) in
    ap₂ count place size
count-join b (suc m) n zero e = absurd (omega (arith, e))
count-join b (suc m) n (suc k) e =
    let place : b + suc m ≡ suc b + m = omega arith in
    let size : m + n ≡ k = omega (arith, e) in
    ap (λ l. b ∷ l) (ap (λ x. count (suc b) m ++ count x n) place ∙ count-join (suc b) m n k size)

count-shift : (k a n : ℕ) → map (λ x. k + x) (count a n) ≡ count (k + a) n
unfolding count
count-shift k a zero = refl
count-shift k a (suc n) =
    let next : k + suc a ≡ suc (k + a) = omega arith in
    ap (λ l. (k + a) ∷ l) (count-shift k (suc a) n ∙ ap (λ x. count x n) next)

fields-bits : (s : ℕ) (fs : List Field) → said_bits (map (said_of s) fs) ≡ map (λ x. 8 * s + x) (covered fs)
fields-bits s [] = refl
fields-bits s (f ∷ fs) =
    ap₂ (λ k l. k ++ l) (sym (count-shift (8 * s) f.at f.width)) (fields-bits s fs)
    ∙ sym (map-append (λ x. 8 * s + x) (count f.at f.width) (covered fs))

bytes-bits : (name found : List ℕ) (at : ℕ) (bs : List ℕ) → said_bits (bytes_said name found at bs) ≡ count (8 * at) (8 * length bs)
unfolding count bytes_said
bytes-bits name found at [] = refl
bytes-bits name found at (b ∷ bs) =
    let next : 8 * (at + 1) ≡ 8 * at + 8 = omega arith in
    let size : 8 + 8 * length bs ≡ 8 * suc (length bs) = omega arith in
    ap (λ l. count (8 * at) 8 ++ l) (bytes-bits name found (at + 1) bs ∙ ap (λ x. count x (8 * length bs)) next)
    ∙ count-join (8 * at) 8 (8 * length bs) (8 * suc (length bs)) size

-- what is said of the front of bytes, and then of the rest
pub front-then : (s : ℕ) (table : List Part) (p : List ℕ) (rest : List Said) → Law table p
    → said_bits rest ≡ count (8 * (s + end_in table p)) (8 * (length p - end_in table p)) → said_bits (front_said s table p ++ rest) ≡ count (8 * s) (8 * length p)
front-then s table p rest law e =
    let at : 8 * s + 8 * end_in table p ≡ 8 * (s + end_in table p) = omega arith in
    let size : 8 * length p - 8 * end_in table p ≡ 8 * (length p - end_in table p) = omega arith in
    let first : 8 * s + 0 ≡ 8 * s = omega arith in
    let left : map (λ x. 8 * s + x) (left_bits table p) ≡ count (8 * (s + end_in table p)) (8 * (length p - end_in table p)) =
    count-shift (8 * s) (8 * end_in table p) (8 * length p - 8 * end_in table p) ∙ ap₂ count at size in
    flat_map-append bits_of (front_said s table p) rest
    ∙ ap₂ (λ k l. k ++ l) (fields-bits s (fields_of table p)) (e ∙ sym left)
    ∙ sym (map-append (λ x. 8 * s + x) (covered (fields_of table p)) (left_bits table p))
    ∙ ap (map (λ x. 8 * s + x)) law
    ∙ count-shift (8 * s) 0 (8 * length p)
    ∙ ap (λ x. count x (8 * length p)) first

pub all-tile : (s : ℕ) (table : List Part) (p : List ℕ) → Law table p → said_bits (all_said s table p) ≡ count (8 * s) (8 * length p)
all-tile s table p law =
    let len = length-drop (end_in table p) p in
    front-then s table p (left_said (s + end_in table p) (drop (end_in table p) p)) law
    (bytes-bits (codes "left over") (codes "\"left\"") (s + end_in table p) (drop (end_in table p) p) ∙ ap (λ n. count (8 * (s + end_in table p)) (8 * n)) len)

pub block-tiles : (at : ℕ) (b : DataBlock) → Law (frame_parts Head) (head_byte b ∷ []) → Law (front_parts b) b.payload.items → Law (body_parts b) (body_of b)
    → said_bits (block_said at b) ≡ count (8 * at) (8 * length (block_bytes b))
block-tiles at b head front body =
    let p = b.payload.items in
    let len = length-drop (front_end b) p in
    let next : 8 * (at + 1) ≡ 8 * at + 8 = omega arith in
    let size : 8 + 8 * length p ≡ 8 * suc (length p) = omega arith in
    let rest = all_said (at + 1 + front_end b) (body_parts b) (body_of b) in
    let rest-is : said_bits rest ≡ count (8 * (at + 1 + front_end b)) (8 * (length p - front_end b)) =
    all-tile (at + 1 + front_end b) (body_parts b) (body_of b) body ∙ ap (λ n. count (8 * (at + 1 + front_end b)) (8 * n)) len in
    flat_map-append bits_of (all_said at (frame_parts Head) (head_byte b ∷ [])) (front_said (at + 1) (front_parts b) p ++ rest)
    ∙ ap₂ (λ k l. k ++ l) (all-tile at (frame_parts Head) (head_byte b ∷ []) head) (front-then (at + 1) (front_parts b) p rest front rest-is)
    ∙ ap (λ x. count (8 * at) 8 ++ count x (8 * length p)) next
    ∙ count-join (8 * at) 8 (8 * length p) (8 * suc (length p)) size

-- ---- parts

none-tiled : (at : ℕ) → Tiled at [] []
unfolding count
none-tiled at = (refl, refl)

first-tiled : (at : ℕ) (p : PartSaid) (ps : List PartSaid) (bs : List ℕ) → said_bits p.fields ≡ count (8 * at) (8 * length p.bytes) → Tiled (at + length p.bytes) ps bs
    → Tiled at (p ∷ ps) (p.bytes ++ bs)
first-tiled at p ps bs one more =
    let place : 8 * (at + length p.bytes) ≡ 8 * at + 8 * length p.bytes = omega arith in
    let both = length-append p.bytes bs in
    let size : 8 * length p.bytes + 8 * length bs ≡ 8 * length (p.bytes ++ bs) = omega (arith, both) in (
      ap (λ l. p.bytes ++ l) more.0,
      ap₂ (λ k l. k ++ l) one more.1
          ∙ ap (λ x. count (8 * at) (8 * length p.bytes) ++ count x (8 * length bs)) place
          ∙ count-join (8 * at) (8 * length p.bytes) (8 * length bs) (8 * length (p.bytes ++ bs)) size,
    )

one-tiled : (at : ℕ) (p : PartSaid) → said_bits p.fields ≡ count (8 * at) (8 * length p.bytes) → Tiled at (p ∷ []) p.bytes
one-tiled at p one = subst (Tiled at (p ∷ [])) (append-nil p.bytes) (first-tiled at p [] [] one (none-tiled (at + length p.bytes)))

both-tiled : (at : ℕ) (ps qs : List PartSaid) (bs cs : List ℕ) → Tiled at ps bs → Tiled (at + length bs) qs cs → Tiled at (ps ++ qs) (bs ++ cs)
both-tiled at ps qs bs cs one more =
    let place : 8 * (at + length bs) ≡ 8 * at + 8 * length bs = omega arith in
    let both = length-append bs cs in
    let size : 8 * length bs + 8 * length cs ≡ 8 * length (bs ++ cs) = omega (arith, both) in (
      flat_map-append bytes_in ps qs ∙ ap₂ (λ k l. k ++ l) one.0 more.0,
      flat_map-append bits_in ps qs
          ∙ ap₂ (λ k l. k ++ l) one.1 more.1
          ∙ ap (λ x. count (8 * at) (8 * length bs) ++ count x (8 * length cs)) place
          ∙ count-join (8 * at) (8 * length bs) (8 * length cs) (8 * length (bs ++ cs)) size,
    )

-- ---- data blocks, one after another

pub first_block : (xs : List DataBlock) (x : DataBlock) (d : DataBlock) → 1 ≤ length xs → x ≡ get_or xs 0 d
    → ((at : ℕ) → said_bits (block_said at x) ≡ count (8 * at) (8 * length (block_bytes x))) → ((at : ℕ) → Tiled at (blocks_parts at (drop 1 xs)) (flat_map block_bytes (drop 1 xs)))
    → (at : ℕ) → Tiled at (blocks_parts at xs) (flat_map block_bytes xs)
unfolding blocks_parts
first_block [] x d h e one more at = absurd (omega (arith, h))
first_block (y ∷ ys) x d h e one more at =
    let n = length x.payload.items in
    let place : at + (1 + n) ≡ at + suc n = omega arith in
    let rest : Tiled (at + suc n) (blocks_parts (at + (1 + n)) ys) (flat_map block_bytes ys) =
    subst (λ (k : ℕ). Tiled k (blocks_parts (at + (1 + n)) ys) (flat_map block_bytes ys)) place (more (at + (1 + n))) in
    subst (λ (z : DataBlock). Tiled at (block_part at z ∷ blocks_parts (at + (1 + length z.payload.items)) ys) (block_bytes z ++ flat_map block_bytes ys)) e
    (first-tiled at (block_part at x) (blocks_parts (at + (1 + n)) ys) (flat_map block_bytes ys) (one at) rest)

pub no_blocks : (xs : List DataBlock) → length xs < 1 → (at : ℕ) → Tiled at (blocks_parts at xs) (flat_map block_bytes xs)
unfolding blocks_parts
no_blocks [] h at = none-tiled at
no_blocks (x ∷ xs) h at = absurd (omega (arith, h))

-- ---- sections

pub section_bits : (at : ℕ) (table : List Part) (p : List ℕ) → Law table p → said_bits (all_said at table p) ≡ count (8 * at) (8 * length p)
section_bits at table p law = all-tile at table p law

abbrev pub SectionLaw : Section → List ℕ → Type 0
SectionLaw s p = (at : ℕ) → said_bits (all_said at (section_parts s) p) ≡ count (8 * at) (8 * length p)

cut-tiled : (at : ℕ) (r : ℕ × Option Section) (rows : List (ℕ × Option Section)) (p : List ℕ) → r.0 + total rows ≡ length p → SectionLaw (section_of r.1 (take r.0 p)) (take r.0 p)
    → ((k : ℕ) → Tiled k (cut_parts k rows (drop r.0 p)) (drop r.0 p)) → Tiled at (cut_parts at (r ∷ rows) p) p
unfolding cut_parts
cut-tiled at r rows p e one more =
    let within : r.0 ≤ length p = omega (arith, e) in
    let size : length (take r.0 p) ≡ r.0 = length-take-le r.0 p within in
    let own = take r.0 p in
    let rest : Tiled (at + length own) (cut_parts (at + r.0) rows (drop r.0 p)) (drop r.0 p) =
    subst (λ (k : ℕ). Tiled (at + k) (cut_parts (at + r.0) rows (drop r.0 p)) (drop r.0 p)) (sym size) (more (at + r.0)) in
    subst (Tiled at (section_part at (section_of r.1 own) own ∷ cut_parts (at + r.0) rows (drop r.0 p))) (take-append-drop r.0 p)
    (first-tiled at (section_part at (section_of r.1 own) own) (cut_parts (at + r.0) rows (drop r.0 p)) (drop r.0 p) (one at) rest)

pub first_section : (rows : List (ℕ × Option Section)) (r d : ℕ × Option Section) (p own rest : List ℕ) (s : Section) → 1 ≤ length rows → r ≡ get_or rows 0 d → total rows ≡ length p
    → own ≡ take r.0 p → rest ≡ drop r.0 p → s ≡ section_of r.1 own → SectionLaw s own → ((k : ℕ) → Tiled k (cut_parts k (drop 1 rows) rest) rest) → (at : ℕ) → Tiled at (cut_parts at rows p) p
unfolding total
first_section [] r d p own rest s h e size o q w one more at = absurd (omega (arith, h))
first_section (x ∷ xs) r d p own rest s h e size o q w one more at =
    let law : SectionLaw (section_of r.1 (take r.0 p)) (take r.0 p) =
    subst (λ (t : Section). SectionLaw t (take r.0 p)) (w ∙ ap (section_of r.1) o) (subst (λ (b : List ℕ). SectionLaw s b) o one) in
    let others : (k : ℕ) → Tiled k (cut_parts k xs (drop r.0 p)) (drop r.0 p) = subst (λ (b : List ℕ). (k : ℕ) → Tiled k (cut_parts k xs b) b) q more in
    let sizes : r.0 + total xs ≡ length p = subst (λ (z : ℕ × Option Section). z.0 + total xs ≡ length p) (sym e) size in
    subst (λ (z : ℕ × Option Section). Tiled at (cut_parts at (z ∷ xs) p) p) e (cut-tiled at r xs p sizes law others)

pub no_sections : (rows : List (ℕ × Option Section)) (p : List ℕ) → length rows < 1 → total rows ≡ length p → (at : ℕ) → Tiled at (cut_parts at rows p) p
unfolding cut_parts total
no_sections [] [] h e at = none-tiled at
no_sections [] (b ∷ p) h e at = absurd (omega (arith, e))
no_sections (x ∷ xs) p h e at = absurd (omega (arith, h))

pub total_rest : (rows : List (ℕ × Option Section)) (r d : ℕ × Option Section) (p rest : List ℕ) → 1 ≤ length rows → r ≡ get_or rows 0 d → total rows ≡ length p → rest ≡ drop r.0 p
    → total (drop 1 rows) ≡ length rest
unfolding total
total_rest [] r d p rest h e size q = absurd (omega (arith, h))
total_rest (x ∷ xs) r d p rest h e size q =
    let sizes : r.0 + total xs ≡ length p = subst (λ (z : ℕ × Option Section). z.0 + total xs ≡ length p) (sym e) size in
    let dropped = length-drop r.0 p in
    let left : total xs ≡ length (drop r.0 p) = omega (arith, sizes, dropped) in
    left ∙ ap length (sym q)

pub first_timing : (xs : List TimingValue) (x : TimingValue) (d : TimingValue) → 1 ≤ length xs → x ≡ get_or xs 0 d → SectionLaw Timing (timing_bytes x)
    → ((k : ℕ) → Tiled k (timings_parts k (drop 1 xs)) (flat_map timing_bytes (drop 1 xs))) → (at : ℕ) → Tiled at (timings_parts at xs) (flat_map timing_bytes xs)
unfolding timings_parts
first_timing [] x d h e one more at = absurd (omega (arith, h))
first_timing (y ∷ ys) x d h e one more at =
    subst (λ (z : TimingValue). Tiled at (section_part at Timing (timing_bytes z) ∷ timings_parts (at + 18) ys) (timing_bytes z ++ flat_map timing_bytes ys)) e
    (first-tiled at (section_part at Timing (timing_bytes x)) (timings_parts (at + 18) ys) (flat_map timing_bytes ys) (one at) (more (at + 18)))

pub no_timings : (xs : List TimingValue) → length xs < 1 → (at : ℕ) → Tiled at (timings_parts at xs) (flat_map timing_bytes xs)
unfolding timings_parts
no_timings [] h at = none-tiled at
no_timings (x ∷ xs) h at = absurd (omega (arith, h))

timings-length : (ts : List TimingValue) → length (flat_map timing_bytes ts) ≡ 18 * length ts
timings-length [] = refl
timings-length (t ∷ ts) =
    let both = length-append (timing_bytes t) (flat_map timing_bytes ts) in
    let rest = timings-length ts in
    omega (arith, both, rest)

plain-tiled : (at : ℕ) (name bs : List ℕ) → Tiled at (plain_parts at name bs) bs
plain-tiled at name [] = none-tiled at
plain-tiled at name (b ∷ bs) = one-tiled at (plain_part at name (b ∷ bs)) (bytes-bits name (codes "null") at (b ∷ bs))

-- ---- an extension

abbrev pub BlocksLaw : List DataBlock → Type 0
BlocksLaw blocks = (at : ℕ) → Tiled at (blocks_parts at blocks) (flat_map block_bytes blocks)

abbrev pub TimingsLaw : List TimingValue → Type 0
TimingsLaw timings = (at : ℕ) → Tiled at (timings_parts at timings) (flat_map timing_bytes timings)

content-tiled : (blocks : List DataBlock) (timings : List TimingValue) (tail : List ℕ) → BlocksLaw blocks → TimingsLaw timings
    → Tiled 4 (content_parts blocks timings tail) (flat_map block_bytes blocks ++ (flat_map timing_bytes timings ++ tail))
content-tiled blocks timings tail law times =
    let end = blocks_end 4 blocks in
    let padding : Tiled (end + length (flat_map timing_bytes timings)) (plain_parts (end + 18 * length timings) (codes "padding") tail) tail =
    subst (λ (k : ℕ). Tiled (end + k) (plain_parts (end + 18 * length timings) (codes "padding") tail) tail) (sym (timings-length timings))
    (plain-tiled (end + 18 * length timings) (codes "padding") tail) in
    both-tiled 4 (blocks_parts 4 blocks) (timings_parts end timings ++ plain_parts (end + 18 * length timings) (codes "padding") tail) (flat_map block_bytes blocks)
    (flat_map timing_bytes timings ++ tail) (law 4)
    (both-tiled end (timings_parts end timings) (plain_parts (end + 18 * length timings) (codes "padding") tail) (flat_map timing_bytes timings) tail (times end) padding)

-- the checksum stands after 127 bytes
front-is : (front : List ℕ) (x : ℕ) → length (front ++ (x ∷ [])) ≡ 128 → take 127 (front ++ (x ∷ [])) ≡ front
front-is front x e =
    let both = length-append front (x ∷ []) in
    let size : 127 ≡ length front = omega (arith, both, e) in
    ap (λ n. take n (front ++ (x ∷ []))) size ∙ take-append_seam front (x ∷ [])

with-sum : (x : Ext) → length (ext_bytes x) ≡ 128 → SectionLaw Checksum (drop 127 (ext_bytes x)) → Tiled 0 (ext_front x) (take 127 (ext_bytes x)) → Tiled 0 (ext_parts x) (ext_bytes x)
with-sum x e law front =
    let bs = ext_bytes x in
    let within : 127 ≤ length bs = omega (arith, e) in
    let size : length (take 127 bs) ≡ 127 = length-take-le 127 bs within in
    let sum : Tiled (0 + length (take 127 bs)) (section_part 127 Checksum (drop 127 bs) ∷ []) (drop 127 bs) =
    subst (λ (k : ℕ). Tiled (0 + k) (section_part 127 Checksum (drop 127 bs) ∷ []) (drop 127 bs)) (sym size) (one-tiled 127 (section_part 127 Checksum (drop 127 bs)) (law 127)) in
    subst (Tiled 0 (ext_parts x)) (take-append-drop 127 bs) (both-tiled 0 (ext_front x) (section_part 127 Checksum (drop 127 bs) ∷ []) (take 127 bs) (drop 127 bs) front sum)

-- what is known of the bytes of an extension: how many there are, and what its first four and its last are
pub record Known (x : Ext) : Type 0 where
  pub size : length (ext_bytes x) ≡ 128
  pub front : SectionLaw Cta (take 4 (ext_bytes x))
  pub sum : SectionLaw Checksum (drop 127 (ext_bytes x))

pub known : (x : Ext) (bytes front sum : List ℕ) → bytes ≡ ext_bytes x → length bytes ≡ 128 → front ≡ take 4 bytes → sum ≡ drop 127 bytes → SectionLaw Cta front → SectionLaw Checksum sum → Known x
known x bytes front sum e size f s first last = record {
  size = ap length (sym e) ∙ size;
  front = subst (λ (p : List ℕ). SectionLaw Cta p) (f ∙ ap (take 4) e) first;
  sum = subst (λ (p : List ℕ). SectionLaw Checksum p) (s ∙ ap (drop 127) e) last;
}

pub cta_tiled : (c : CtaValue) → Known (exts.Cta c) → BlocksLaw c.blocks.items → TimingsLaw c.timings.items → Tiled 0 (ext_parts (exts.Cta c)) (cta_bytes c)
unfolding ext_front
cta_tiled c k law times =
    let content = content_parts c.blocks.items c.timings.items c.tail.items in
    let front = cta_front c.flags c.blocks.items c.timings.items c.tail.items in
    with-sum (exts.Cta c) k.size k.sum
    (subst (Tiled 0 (section_part 0 Cta (take 4 (cta_bytes c)) ∷ content)) (sym (front-is front (check_of front) k.size))
    (first-tiled 0 (section_part 0 Cta (take 4 (cta_bytes c))) content (flat_map block_bytes c.blocks.items ++ (flat_map timing_bytes c.timings.items ++ c.tail.items))
    (k.front 0) (content-tiled c.blocks.items c.timings.items c.tail.items law times)))

pub bare_tiled : (b : BareValue) → Known (exts.Bare b) → Tiled 0 (ext_parts (exts.Bare b)) (bare_bytes b)
unfolding ext_front
bare_tiled b k =
    let front = bare_front b.flags b.tail in
    with-sum (exts.Bare b) k.size k.sum
    (subst (Tiled 0 (section_part 0 Cta (take 4 (bare_bytes b)) ∷ plain_parts 4 (codes "padding") b.tail)) (sym (front-is front (check_of front) k.size))
    (first-tiled 0 (section_part 0 Cta (take 4 (bare_bytes b))) (plain_parts 4 (codes "padding") b.tail) b.tail (k.front 0) (plain-tiled 4 (codes "padding") b.tail)))

pub raw_tiled : (r : RawExt) → Known (exts.Raw r) → Tiled 0 (ext_parts (exts.Raw r)) r.bytes
unfolding ext_front
raw_tiled r k = with-sum (exts.Raw r) k.size k.sum (plain-tiled 0 (codes "extension") (take 127 r.bytes))
