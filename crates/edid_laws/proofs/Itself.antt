-- What a receiver answers with to a display that has its own EDID.
use Rattle.std.proofs.Common.{◌≡◌, ◌∙◌, refl, sym, ap, ap₂, ℕ, suc, ◌+◌, ◌-◌, ◌<◌, ◌≤◌, ◌==◌, Bool, false, nat_lt, cond, arith, tests, List, [], ◌∷◌, ◌++◌, length, length-append, flat_map, filter}
use Rattle.std.proofs.lemmas.Grind.{flat_map-append}
use Rattle.std.proofs.lemmas.List.{append-nil}
use Rattle.std.proofs.lemmas.List.Concat.{length-flat_map}
use Rattle.std.proofs.lemmas.List.Sorted.{sum_by-IsPermutation}
use Rattle.std.specs.List.Sorted.{IsPermutation}
use Rattle.edid_base.proofs.OneBase.{one_base}
use Rattle.edid_base.specs.Base.{display_bytes, product_bytes}
use Rattle.edid_base.specs.Check.{block_with_checksum}
use Rattle.edid_base.specs.Header.{header}
use Rattle.edid_base.specs.Timing.{timing_bytes}
use Rattle.edid_base.specs.declared.base.Base.{Base}
use Rattle.edid_base.specs.declared.descriptor.Descriptor.{Descriptor}
use Rattle.edid_base.specs.declared.descriptor.Descriptor.TheVariants.{Timing as ATiming, Name, Text, SerialText, Range, Dummy, Raw as RawDescriptor}
use Rattle.edid_base.specs.declared.timing.Timing.{Timing}
use Rattle.edid_cta.specs.Block.{block_bytes}
use Rattle.edid_cta.specs.declared.block.DataBlock.{DataBlock}
use Rattle.edid_cta.specs.declared.raw.Ext.{Ext}
use Rattle.edid_cta.specs.declared.raw.Ext.TheVariants.{Cta, Bare, Raw}
use Rattle.edid_merge.specs.Bases.{IsMergedBase, IsRenamed}
use Rattle.edid_merge.specs.Blocks.{blocks_of, merged_blocks}
use Rattle.edid_merge.specs.Labels.{free_seat, labelled, names_after, placed, seated, serials_after}
use Rattle.edid_merge.specs.Merge.{cta_blocks, cta_flags, cta_for, cta_of, cta_timings, fitting, merged_flags, with_cta, with_zeros}
use Rattle.edid_merge.specs.Mixing.{speakers_ways, capability_ways, colours_ways, hdmi_ways, forum_ways}
use Rattle.edid_merge.specs.Subjects.{is_of}
use Rattle.edid_merge.specs.declared.labels.Label.TheVariants as labels
use Rattle.edid_merge.specs.declared.labels.Seat.{Seat}
use Rattle.edid_merge.specs.declared.labels.Seat.TheVariants as seats
use Rattle.edid_merge.specs.declared.subject.Subject.{Subject}
use Rattle.edid_merge.specs.declared.subject.Subject.TheVariants.{Video, Audio, Speakers, Hdmi, Forum, Capability, Colorimetry, Hdr, MakerVideo, MakerAudio, Override, Other}
use Rattle.edid_merge.specs.declared.table.Table.{Table}
use Rattle.edid_merge.specs.declared.table.Whose.{Whose}
use Rattle.edid_merge.specs.declared.table.Whose.TheVariants as whose
use Rattle.edid_laws.specs.Itself.{IsSingle, MergesToItself, by_kinds, kinds, plain_cta}
use Rattle.edid_laws.specs.Rows.{by_row}
use Rattle.edid_laws.proofs.Again.{bits_again, numbers_again, whose_again}
use Rattle.edid_laws.proofs.Sorting.{same_blocks}
use Rattle.edid_laws.proofs.Whole.{in_a_row}

-- ---- the base block

abbrev from : Seat → Descriptor → List Descriptor → List Descriptor → List Descriptor → List Descriptor
from s d ds ns ss = seated s ns ss d ∷ placed (names_after s ns) (serials_after s ss) ds

some_left : (n : ℕ) → (suc n == 0) ≡ false
some_left n = grind (arith, tests)

not_less : (n : ℕ) → nat_lt n n ≡ false
not_less n = grind (arith, tests)

placed_again : (ds : List Descriptor) → placed (labelled labels.Name ds) (labelled labels.Serial ds) ds ≡ ds
placed_again [] = refl
placed_again (Name text ∷ ds) =
    let ns = labelled labels.Name ds in
    let ss = labelled labels.Serial ds in
    ap (λ (v : Bool). from (cond v (free_seat (suc (length ns)) (length ss) ds) seats.Name) (Name text) ds (Name text ∷ ns) ss) (some_left (length ns))
    ∙ ap (λ (k : List Descriptor). Name text ∷ k) (placed_again ds)
placed_again (SerialText text ∷ ds) =
    let ns = labelled labels.Name ds in
    let ss = labelled labels.Serial ds in
    ap (λ (v : Bool). from (cond v (free_seat (length ns) (suc (length ss)) ds) seats.Serial) (SerialText text) ds ns (SerialText text ∷ ss)) (some_left (length ss))
    ∙ ap (λ (k : List Descriptor). SerialText text ∷ k) (placed_again ds)
placed_again (Dummy ∷ ds) =
    let ns = labelled labels.Name ds in
    let ss = labelled labels.Serial ds in
    ap₂ (λ (v w : Bool). from (cond v seats.Name (cond w seats.Serial seats.Unused)) Dummy ds ns ss) (not_less (length ns)) (not_less (length ss))
    ∙ ap (λ (k : List Descriptor). Dummy ∷ k) (placed_again ds)
placed_again (ATiming timing ∷ ds) = ap (λ (k : List Descriptor). ATiming timing ∷ k) (placed_again ds)
placed_again (Text text ∷ ds) = ap (λ (k : List Descriptor). Text text ∷ k) (placed_again ds)
placed_again (Range limits ∷ ds) = ap (λ (k : List Descriptor). Range limits ∷ k) (placed_again ds)
placed_again (RawDescriptor raw ∷ ds) = ap (λ (k : List Descriptor). RawDescriptor raw ∷ k) (placed_again ds)

product_again : (b m : Base) → IsRenamed b b m → product_bytes m ≡ product_bytes b
product_again b m r = rw (r.product.maker, r.product.product, r.product.serial, r.product.week, r.product.year, r.picture.revision, r.picture.input, r.picture.width, r.picture.height, r.picture.gamma, r.picture.features) refl

display_again : (b m : Base) → IsRenamed b b m → display_bytes m ≡ display_bytes b
display_again b m r =
    let descriptors : m.descriptors ≡ b.descriptors = r.descriptors ∙ placed_again b.descriptors in
    rw (r.picture.chroma, r.picture.established, r.picture.standard, descriptors, r.picture.extensions) refl

base_again : (w : Whose) (b m : Base) → IsMergedBase w b b m → m ≡ b
base_again whose.Keep b m e = e
base_again whose.Own b m r = one_base m b (ap₂ (λ (p d : List ℕ). block_with_checksum (header ++ (p ++ d))) (product_again b m r) (display_again b m r))

-- ---- the data blocks

row_again : (t : Table) (bs : List DataBlock) → IsSingle t bs → (s : Subject) → filter (is_of Override) bs ≡ [] → by_row t s bs bs ≡ blocks_of s bs
row_again t bs h Video none = whose_again t.video Video bs
row_again t bs h Audio none = whose_again t.audio Audio bs
row_again t bs h Speakers none = bits_again t.speakers speakers_ways Speakers bs (h.once Speakers)
row_again t bs h Hdmi none = numbers_again t.hdmi hdmi_ways Hdmi bs (h.once Hdmi)
row_again t bs h Forum none = numbers_again t.forum forum_ways Forum bs (h.once Forum)
row_again t bs h Capability none = bits_again t.capability capability_ways Capability bs (h.once Capability)
row_again t bs h Colorimetry none = bits_again t.colorimetry colours_ways Colorimetry bs (h.once Colorimetry)
row_again t bs h Hdr none = bits_again t.hdr colours_ways Hdr bs (h.once Hdr)
row_again t bs h MakerVideo none = whose_again t.maker_video MakerVideo bs
row_again t bs h MakerAudio none = whose_again t.maker_audio MakerAudio bs
row_again t bs h Override none = sym (ap (flat_map block_bytes) none)
row_again t bs h Other none = whose_again t.other Other bs

spread : (ss : List Subject) (bs : List DataBlock) → flat_map block_bytes (by_kinds ss bs) ≡ flat_map (λ s. blocks_of s bs) ss
spread [] bs = refl
spread (s ∷ ss) bs = flat_map-append block_bytes (filter (is_of s) bs) (by_kinds ss bs) ∙ ap (λ (k : List ℕ). blocks_of s bs ++ k) (spread ss bs)

then_row : (x y xs ys : List ℕ) → x ≡ y → xs ≡ ys → x ++ xs ≡ y ++ ys
then_row x y xs ys e f = ap₂ (λ (a b : List ℕ). a ++ b) e f

blocks_again : (t : Table) (bs : List DataBlock) → IsSingle t bs → merged_blocks t bs bs ≡ flat_map block_bytes (by_kinds kinds bs)
blocks_again t bs h =
    let row = λ (s : Subject). row_again t bs h s h.counted in
    in_a_row t bs bs
    ∙ then_row _ _ _ _ (row Video) (then_row _ _ _ _ (row Audio) (then_row _ _ _ _ (row Speakers) (then_row _ _ _ _ (row Hdmi) (then_row _ _ _ _ (row Forum) (
    then_row _ _ _ _ (row Capability) (then_row _ _ _ _ (row Colorimetry) (then_row _ _ _ _ (row Hdr) (then_row _ _ _ _ (row MakerVideo) (then_row _ _ _ _ (row MakerAudio) (
    row Other ∙ sym (append-nil (blocks_of Other bs))))))))))))
    ∙ sym (spread kinds bs)

-- ---- the room

as_long : (bs cs : List DataBlock) → IsPermutation bs cs → length (flat_map block_bytes cs) ≡ length (flat_map block_bytes bs)
as_long bs cs p = length-flat_map block_bytes cs ∙ sum_by-IsPermutation (λ b. length (block_bytes b)) bs cs p ∙ sym (length-flat_map block_bytes bs)

room_in : (xs : List Ext) → length (flat_map block_bytes (cta_blocks xs)) + length (flat_map timing_bytes (cta_timings xs)) ≤ 123
room_in [] = omega arith
room_in (Cta c ∷ xs) = let whole = c.whole in omega (arith, whole)
room_in (Bare b ∷ xs) = room_in xs
room_in (Raw r ∷ xs) = room_in xs

timing_then : (t : Timing) (xs : List ℕ) → length (timing_bytes t ++ xs) ≡ 18 + length xs
timing_then t xs = length-append (timing_bytes t) xs

all_fit : (room : ℕ) (ts : List Timing) → length (flat_map timing_bytes ts) ≤ room → fitting room ts ≡ flat_map timing_bytes ts
all_fit room [] h = refl
all_fit room (t ∷ ts) h =
    let long : length (timing_bytes t ++ flat_map timing_bytes ts) ≡ 18 + length (flat_map timing_bytes ts) = timing_then t (flat_map timing_bytes ts) in
    let enough : 18 ≤ room = omega (arith, long, h) in
    let less : length (flat_map timing_bytes ts) ≤ room - 18 = omega (arith, long, h) in
    let wide : nat_lt room 18 ≡ false = grind (arith, tests, enough) in
    ap (λ (v : Bool). cond v [] (timing_bytes t ++ fitting (room - 18) ts)) wide ∙ ap (λ (k : List ℕ). timing_bytes t ++ k) (all_fit (room - 18) ts less)

whole_cta : (flags : ℕ) (bs : List DataBlock) (ts : List Timing) → length (flat_map block_bytes bs) + length (flat_map timing_bytes ts) ≤ 123
    → cta_of flags (flat_map block_bytes bs) ts ≡ plain_cta flags bs ts
unfolding cta_of
whole_cta flags bs ts h =
    ap (λ (k : List ℕ). block_with_checksum (2 ∷ 3 ∷ (length (flat_map block_bytes bs) + 4) ∷ flags ∷ with_zeros (flat_map block_bytes bs ++ k)))
    (all_fit (123 - length (flat_map block_bytes bs)) ts (omega (arith, h)))

-- ---- the extension

flags_again : (w : Whose) (f : ℕ) → merged_flags w f f ≡ f
flags_again whose.Keep f = refl
flags_again whose.Own f = omega arith

cta_again : (t : Table) (xs : List Ext) → IsSingle t (cta_blocks xs) → cta_for t xs xs ≡ plain_cta (cta_flags xs) (by_kinds kinds (cta_blocks xs)) (cta_timings xs)
cta_again t xs h =
    let bs = cta_blocks xs in
    let long : length (flat_map block_bytes (by_kinds kinds bs)) ≡ length (flat_map block_bytes bs) = as_long bs (by_kinds kinds bs) (same_blocks bs h.counted) in
    ap₂ (λ (f : ℕ) (k : List ℕ). cta_of f k (cta_timings xs)) (flags_again t.audio (cta_flags xs)) (blocks_again t bs h)
    ∙ whole_cta (cta_flags xs) (by_kinds kinds bs) (cta_timings xs) (omega (arith, long, room_in xs))

has_room : (t : Table) (xs : List Ext) → IsSingle t (cta_blocks xs) → length (merged_blocks t (cta_blocks xs) (cta_blocks xs)) < 124
has_room t xs h =
    let bs = cta_blocks xs in
    let long : length (flat_map block_bytes (by_kinds kinds bs)) ≡ length (flat_map block_bytes bs) = as_long bs (by_kinds kinds bs) (same_blocks bs h.counted) in
    let all : length (merged_blocks t bs bs) ≡ length (flat_map block_bytes (by_kinds kinds bs)) = ap length (blocks_again t bs h) in
    omega (arith, long, all, room_in xs)

pub to_itself : MergesToItself
to_itself t e h = (
  has_room t e.extensions.items h,
  λ m r. record {
    base = base_again t.product e.base m.base r.base;
    blocks = same_blocks (cta_blocks e.extensions.items) h.counted;
    extensions = r.extensions ∙ ap (λ (k : List ℕ). with_cta k e.extensions.items) (cta_again t e.extensions.items h);
  },
)
