-- Objects, one after another.
use Rattle.std.proofs.Common.{◌≡◌, ℕ, ◌+◌, ◌*◌, ◌≤◌, List, [], ◌∷◌, ◌++◌, append-nil, codes, length, length-append, drop, take, get_or, true, ap, ap₂, refl, subst, sym, ◌∙◌, arith, nat_le, Option}
use Rattle.std.proofs.lemmas.Bool.{and_parts, leb-true}
use Rattle.std.proofs.lemmas.Grind.{flat_map-append}
use Rattle.std.specs.List.{flat_map}
use Rattle.text_core.specs.Adds.{Adds, Tally}
use Rattle.text_core.proofs.Adding.{then}
use Rattle.edid_base.specs.declared.timing.Timing.{Timing as TimingValue}
use Rattle.edid_tables.specs.declared.sections.Section.{Section}
use Rattle.edid_tables.specs.declared.sections.Section.TheVariants.{Checksum, Cta}
use Rattle.edid_cta.specs.Block.{block_bytes}
use Rattle.edid_cta.specs.Ext.{ext_bytes}
use Rattle.edid_cta.specs.Whole.{bare_bytes, cta_bytes}
use Rattle.edid_cta.specs.declared.block.DataBlock.{DataBlock}
use Rattle.edid_cta.specs.declared.cta.Bare.{Bare as BareValue}
use Rattle.edid_cta.specs.declared.cta.Cta.{Cta as CtaValue}
use Rattle.edid_cta.specs.declared.raw.Ext.{Ext}
use Rattle.edid_cta.specs.declared.raw.Ext.TheVariants as exts
use Rattle.edid_cta.specs.declared.raw.RawExt.{RawExt}
use Rattle.edid_fields.specs.Forms.{Part}
use Rattle.edid_tables.specs.Frames.{frame_parts}
use Rattle.edid_tables.specs.declared.frames.Frame.TheVariants.{Head}
use Rattle.conversion_fields.specs.Blocks.{block_part, block_said, blocks_parts, body_of, body_parts, front_end, front_parts, head_byte}
use Rattle.conversion_fields.specs.Objects.{field_object, objects_text, part_object}
use Rattle.conversion_fields.specs.Parts.{PartSaid, part_text, parts_text}
use Rattle.conversion_fields.specs.Said.{Said, all_said, end_in, front_said, left_said, plain_said}
use Rattle.conversion_fields.specs.Whole.{are_short, blocks_end, content_parts, ext_front, ext_parts, cut_parts, plain_part, plain_parts, section_of, section_part, timings_parts}

-- the text of a list is that of its first, and then that of the others
pub first_then : {A : Type 0} (first : A → List ℕ) (others : A → List A → List ℕ) (whole : List A → List ℕ) → ((y : A) (ys : List A) → first y ++ others y ys ≡ whole (y ∷ ys))
    → (xs : List A) (x d : A) (a b c : Tally) → 1 ≤ length xs → x ≡ get_or xs 0 d → Adds a b (first x) → Adds b c (others x (drop 1 xs)) → Adds a c (whole xs)
first_then first others whole step [] x d a b c h e one more = absurd (omega (arith, h))
first_then {A} first others whole step (y ∷ ys) x d a b c h e one more =
    let one-is : Adds a b (first y) = subst (λ (z : A). Adds a b (first z)) e one in
    let more-is : Adds b c (others y ys) = subst (λ (z : A). Adds b c (others z ys)) e more in
    subst (Adds a c) (step y ys) (then a b c _ _ one-is more-is)

-- what a table says of bytes, and then those that are left over
pub all_added : (n at end : ℕ) (table : List Part) (p rest : List ℕ) (a b c : Tally) → end ≡ end_in table p → rest ≡ drop end p
    → Adds a b (objects_text n (front_said at table p)) → Adds b c (objects_text n (left_said (at + end) rest)) → Adds a c (objects_text n (all_said at table p))
all_added n at end table p rest a b c e r one more =
    let same : left_said (at + end) rest ≡ left_said (at + end_in table p) (drop (end_in table p) p) =
    ap (left_said (at + end)) r ∙ ap (λ k. left_said (at + k) (drop k p)) e in
    let left : Adds b c (objects_text n (left_said (at + end_in table p) (drop (end_in table p) p))) = subst (λ (s : List Said). Adds b c (objects_text n s)) same more in
    subst (Adds a c) (sym (flat_map-append (field_object n) (front_said at table p) (left_said (at + end_in table p) (drop (end_in table p) p)))) (then a b c _ _ one left)

-- the object of a data block, and then those of its fields
pub block_added : (n at end : ℕ) (b : DataBlock) (front body : List Part) (payload rest part : List ℕ) (o p q r s : Tally) → payload ≡ b.payload.items → front ≡ front_parts b
    → end ≡ end_in front payload → rest ≡ drop end payload → body ≡ body_parts b → Adds o p part → Adds p q (objects_text n (all_said at (frame_parts Head) (head_byte b ∷ [])))
    → Adds q r (objects_text n (front_said (at + 1) front payload)) → Adds r s (objects_text n (all_said (at + 1 + end) body rest)) → Adds o s (part ++ objects_text n (block_said at b))
block_added n at end b front body payload rest part o p q r s e f g h k first second third fourth =
    let same : front_said (at + 1) front payload ≡ front_said (at + 1) (front_parts b) b.payload.items = ap₂ (λ t x. front_said (at + 1) t x) f e in
    let end-is : end ≡ front_end b = g ∙ ap₂ (λ t x. end_in t x) f e in
    let rest-is : rest ≡ body_of b = h ∙ ap₂ (λ k x. drop k x) end-is e in
    let all-is : all_said (at + 1 + end) body rest ≡ all_said (at + 1 + front_end b) (body_parts b) (body_of b) =
    ap (λ x. all_said (at + 1 + x) body rest) end-is ∙ ap₂ (λ t x. all_said (at + 1 + front_end b) t x) k rest-is in
    let three : Adds q r (objects_text n (front_said (at + 1) (front_parts b) b.payload.items)) = subst (λ (x : List Said). Adds q r (objects_text n x)) same third in
    let four : Adds r s (objects_text n (all_said (at + 1 + front_end b) (body_parts b) (body_of b))) = subst (λ (x : List Said). Adds r s (objects_text n x)) all-is fourth in
    let body-said = all_said (at + 1 + front_end b) (body_parts b) (body_of b) in
    let front-said = front_said (at + 1) (front_parts b) b.payload.items in
    let head-said = all_said at (frame_parts Head) (head_byte b ∷ []) in
    let texts : objects_text n (block_said at b) ≡ objects_text n head-said ++ (objects_text n front-said ++ objects_text n body-said) =
    flat_map-append (field_object n) head-said (front-said ++ body-said) ∙ ap (λ t. objects_text n head-said ++ t) (flat_map-append (field_object n) front-said body-said) in
    subst (λ t. Adds o s (part ++ t)) (sym texts) (then o p s _ _ first (then p q s _ _ second (then q r s _ _ three four)))

-- where data blocks end
pub blocks_ended : (at size : ℕ) (xs : List DataBlock) (x d : DataBlock) → 1 ≤ length xs → x ≡ get_or xs 0 d → size ≡ length x.payload.items
    → at + (1 + size) + length (flat_map block_bytes (drop 1 xs)) ≡ at + length (flat_map block_bytes xs)
blocks_ended at size [] x d h e k = absurd (omega (arith, h))
blocks_ended at size (y ∷ ys) x d h e k =
    let both = length-append y.payload.items (flat_map block_bytes ys) in
    let same : length x.payload.items ≡ length y.payload.items = ap (λ (z : DataBlock). length z.payload.items) e in
    omega (arith, both, same, k)

-- rows of which each is short
pub short_row : (rows : List (ℕ × Option Section)) (r d : ℕ × Option Section) → are_short rows ≡ true → 1 ≤ length rows → r ≡ get_or rows 0 d → r.0 ≤ 31
short_row [] r d k h e = absurd (omega (arith, h))
short_row (x ∷ xs) r d k h e = subst (λ (z : ℕ × Option Section). z.0 ≤ 31) (sym e) (leb-true x.0 31 (and_parts (nat_le x.0 31) (are_short xs) k).0)

pub short_rest : (rows : List (ℕ × Option Section)) → are_short rows ≡ true → are_short (drop 1 rows) ≡ true
short_rest [] k = refl
short_rest (x ∷ xs) k = (and_parts (nat_le x.0 31) (are_short xs) k).1

-- one part
alone : (n : ℕ) (p : PartSaid) (a b : Tally) → Adds a b (part_text n p) → Adds a b (parts_text n (p ∷ []))
alone n p a b one = subst (Adds a b) (sym (append-nil (part_text n p))) one

-- parts, and then others
joined : (n : ℕ) (xs ys : List PartSaid) (a b c : Tally) → Adds a b (parts_text n xs) → Adds b c (parts_text n ys) → Adds a c (parts_text n (xs ++ ys))
joined n xs ys a b c one more = subst (Adds a c) (sym (flat_map-append (part_text n) xs ys)) (then a b c _ _ one more)

pub plain_added : (n at : ℕ) (name bytes : List ℕ) (a b c : Tally) → 1 ≤ length bytes → Adds a b (part_object n at bytes name 0 0) → Adds b c (objects_text n (plain_said name at bytes))
    → Adds a c (parts_text n (plain_parts at name bytes))
unfolding part_text
plain_added n at name [] a b c h one more = absurd (omega (arith, h))
plain_added n at name (x ∷ xs) a b c h one more = alone n (plain_part at name (x ∷ xs)) a c (then a b c _ _ one more)

pub content_added : (n t k : ℕ) (blocks bs : List DataBlock) (timings ts : List TimingValue) (tail tl : List ℕ) (a b c d : Tally) → bs ≡ blocks → ts ≡ timings → tl ≡ tail
    → t ≡ blocks_end 4 bs → k ≡ length timings → Adds a b (parts_text n (blocks_parts 4 bs)) → Adds b c (parts_text n (timings_parts t ts))
    → Adds c d (parts_text n (plain_parts (t + 18 * k) (codes "padding") tl)) → Adds a d (parts_text n (content_parts blocks timings tail))
content_added n t k blocks bs timings ts tail tl a b c d e f g place count one two three =
    let end : t ≡ blocks_end 4 blocks = place ∙ ap (λ (xs : List DataBlock). blocks_end 4 xs) e in
    let first : Adds a b (parts_text n (blocks_parts 4 blocks)) = subst (λ (xs : List DataBlock). Adds a b (parts_text n (blocks_parts 4 xs))) e one in
    let second : Adds b c (parts_text n (timings_parts (blocks_end 4 blocks) timings)) =
    subst (λ (m : ℕ). Adds b c (parts_text n (timings_parts m timings))) end (subst (λ (xs : List TimingValue). Adds b c (parts_text n (timings_parts t xs))) f two) in
    let padding : t + 18 * k ≡ blocks_end 4 blocks + 18 * length timings = ap₂ (λ m l. m + 18 * l) end count in
    let third : Adds c d (parts_text n (plain_parts (blocks_end 4 blocks + 18 * length timings) (codes "padding") tail)) =
    subst (λ (m : ℕ). Adds c d (parts_text n (plain_parts m (codes "padding") tail))) padding
    (subst (λ (xs : List ℕ). Adds c d (parts_text n (plain_parts (t + 18 * k) (codes "padding") xs))) g three) in
    joined n (blocks_parts 4 blocks) (timings_parts (blocks_end 4 blocks) timings ++ plain_parts (blocks_end 4 blocks + 18 * length timings) (codes "padding") tail) a b d first
    (joined n (timings_parts (blocks_end 4 blocks) timings) (plain_parts (blocks_end 4 blocks + 18 * length timings) (codes "padding") tail) b c d second third)

pub cta_added : (n : ℕ) (x : Ext) (v : CtaValue) (bytes front : List ℕ) (a b c : Tally) → x ≡ exts.Cta v → bytes ≡ ext_bytes x → front ≡ take 4 bytes
    → Adds a b (part_text n (section_part 0 Cta front)) → Adds b c (parts_text n (content_parts v.blocks.items v.timings.items v.tail.items)) → Adds a c (parts_text n (ext_front x))
unfolding ext_front
cta_added n x v bytes front a b c is e f one more =
    let same : front ≡ take 4 (cta_bytes v) = f ∙ ap (take 4) (e ∙ ap ext_bytes is) in
    subst (λ (y : Ext). Adds a c (parts_text n (ext_front y))) (sym is)
    (then a b c _ _ (subst (λ (p : List ℕ). Adds a b (part_text n (section_part 0 Cta p))) same one) more)

pub bare_added : (n : ℕ) (x : Ext) (v : BareValue) (bytes front : List ℕ) (a b c : Tally) → x ≡ exts.Bare v → bytes ≡ ext_bytes x → front ≡ take 4 bytes
    → Adds a b (part_text n (section_part 0 Cta front)) → Adds b c (parts_text n (plain_parts 4 (codes "padding") v.tail)) → Adds a c (parts_text n (ext_front x))
unfolding ext_front
bare_added n x v bytes front a b c is e f one more =
    let same : front ≡ take 4 (bare_bytes v) = f ∙ ap (take 4) (e ∙ ap ext_bytes is) in
    subst (λ (y : Ext). Adds a c (parts_text n (ext_front y))) (sym is)
    (then a b c _ _ (subst (λ (p : List ℕ). Adds a b (part_text n (section_part 0 Cta p))) same one) more)

pub raw_added : (n : ℕ) (x : Ext) (v : RawExt) (bytes front : List ℕ) (a b : Tally) → x ≡ exts.Raw v → bytes ≡ ext_bytes x → front ≡ take 127 bytes
    → Adds a b (parts_text n (plain_parts 0 (codes "extension") front)) → Adds a b (parts_text n (ext_front x))
unfolding ext_front
raw_added n x v bytes front a b is e f one =
    let same : front ≡ take 127 v.bytes = f ∙ ap (take 127) (e ∙ ap ext_bytes is) in
    subst (λ (y : Ext). Adds a b (parts_text n (ext_front y))) (sym is) (subst (λ (p : List ℕ). Adds a b (parts_text n (plain_parts 0 (codes "extension") p))) same one)

pub ext_added : (n : ℕ) (x : Ext) (bytes sum : List ℕ) (a b c : Tally) → bytes ≡ ext_bytes x → sum ≡ drop 127 bytes → Adds a b (parts_text n (ext_front x))
    → Adds b c (part_text n (section_part 127 Checksum sum)) → Adds a c (parts_text n (ext_parts x))
ext_added n x bytes sum a b c e s one more =
    let same : sum ≡ drop 127 (ext_bytes x) = s ∙ ap (drop 127) e in
    let last : Adds b c (part_text n (section_part 127 Checksum (drop 127 (ext_bytes x)))) = subst (λ (p : List ℕ). Adds b c (part_text n (section_part 127 Checksum p))) same more in
    joined n (ext_front x) (section_part 127 Checksum (drop 127 (ext_bytes x)) ∷ []) a b c one (alone n (section_part 127 Checksum (drop 127 (ext_bytes x))) b c last)

pub cut_added : (at : ℕ) (rows : List (ℕ × Option Section)) (r d : ℕ × Option Section) (p own rest : List ℕ) (s : Section) (a b c : Tally) → 1 ≤ length rows → r ≡ get_or rows 0 d
    → own ≡ take r.0 p → rest ≡ drop r.0 p → s ≡ section_of r.1 own → Adds a b (part_text 0 (section_part at s own)) → Adds b c (parts_text 0 (cut_parts (at + r.0) (drop 1 rows) rest))
    → Adds a c (parts_text 0 (cut_parts at rows p))
unfolding cut_parts
cut_added at [] r d p own rest s a b c h e o q w one more = absurd (omega (arith, h))
cut_added at (x ∷ xs) r d p own rest s a b c h e o q w one more =
    let first : Adds a b (part_text 0 (section_part at (section_of r.1 (take r.0 p)) (take r.0 p))) =
    subst (λ (t : Section). Adds a b (part_text 0 (section_part at t (take r.0 p)))) (w ∙ ap (section_of r.1) o) (subst (λ (y : List ℕ). Adds a b (part_text 0 (section_part at s y))) o one) in
    let others : Adds b c (parts_text 0 (cut_parts (at + r.0) xs (drop r.0 p))) = subst (λ (y : List ℕ). Adds b c (parts_text 0 (cut_parts (at + r.0) xs y))) q more in
    subst (λ (z : ℕ × Option Section). Adds a c (parts_text 0 (cut_parts at (z ∷ xs) p))) e (then a b c _ _ first others)

pub blocks_added : (n at size : ℕ) (xs : List DataBlock) (x d : DataBlock) (a b c : Tally) → 1 ≤ length xs → x ≡ get_or xs 0 d → size ≡ length x.payload.items
    → Adds a b (part_text n (block_part at x)) → Adds b c (parts_text n (blocks_parts (at + (1 + size)) (drop 1 xs))) → Adds a c (parts_text n (blocks_parts at xs))
unfolding blocks_parts
blocks_added n at size [] x d a b c h e k one more = absurd (omega (arith, h))
blocks_added n at size (y ∷ ys) x d a b c h e k one more =
    let rest : Adds b c (parts_text n (blocks_parts (at + (1 + length x.payload.items)) ys)) = subst (λ (m : ℕ). Adds b c (parts_text n (blocks_parts (at + (1 + m)) ys))) k more in
    subst (λ (z : DataBlock). Adds a c (parts_text n (block_part at z ∷ blocks_parts (at + (1 + length z.payload.items)) ys))) e (then a b c _ _ one rest)
