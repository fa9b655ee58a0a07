-- For each word that may stand next, and each count of words, an accepted text has such a line there.
use Rattle.std.proofs.Common.{◌≡◌, ℕ, zero, suc, ◌+◌, ◌-◌, ◌*◌, ◌<◌, ◌≤◌, ◌==◌, Bool, true, false, ◌||◌, nat_lt, nat_le, cond, List, [], ◌∷◌, ◌++◌, length, map, take, drop, set, get_or, flat_map, replicate, Option, Some, None, slice_get, ap, arith, refl, sym, ◌∙◌, append_assoc, append-nil, length-append, take-append-drop}
use Rattle.std.proofs.lemmas.Bool.{and_parts, eqb-true, leb-true, ltb-true}
use Rattle.std.proofs.lemmas.Grind.{flat_map-append}
use Rattle.std.proofs.lemmas.List.{map-append, length-set}
use Rattle.edid_base.specs.declared.base.Base.{Base}
use Rattle.edid_base.specs.declared.descriptor.Descriptor.{Descriptor}
use Rattle.edid_base.specs.declared.descriptor.Descriptor.TheVariants.{Timing as OfTiming, Name as OfName, Text as OfText, SerialText as OfSerialText, Range as OfRange, Dummy as OfDummy, Raw as OfRaw}
use Rattle.edid_base.specs.declared.descriptor.RangeLimits.{RangeLimits}
use Rattle.edid_base.specs.declared.descriptor.RawDescriptor.{RawDescriptor}
use Rattle.edid_base.specs.declared.standard.StandardTiming.{StandardTiming}
use Rattle.edid_base.specs.declared.text.Text.{Text as AnyText}
use Rattle.edid_base.specs.declared.timing.Timing.{Timing as DetailedTiming}
use Rattle.edid_cta.specs.Block.{block_bytes}
use Rattle.edid_cta.specs.declared.block.DataBlock.{DataBlock}
use Rattle.edid_cta.specs.declared.block.BlockKind.{BlockKind}
use Rattle.edid_cta.specs.declared.block.BlockKind.TheVariants.{Vendor}
use Rattle.edid_cta.specs.declared.raw.Ext.TheVariants.{Raw as OfRawExt}
use Rattle.edid_cta.specs.declared.raw.RawExt.{RawExt}
use Rattle.edid_texts.specs.Drafts.{whole_lines, draft_lines, opened_lines, Follows}
use Rattle.edid_text_lines.specs.Formed.{form_of}
use Rattle.edid_texts.specs.Lines.{standard_line, descriptor_line, head_lines, base_lines, bytes_line, block_line, timing_line, tail_line}
use Rattle.edid_texts.specs.Words.{place_of, in_base, at_ext, in_timings, in_blocks, may_begin, has_words}
use Rattle.edid_texts.specs.Draft.{Draft, OfBegun as Begun, OfWhole, OfOpened, OfBare, Headed, Whole, Opened}
use Rattle.edid_text_lines.specs.declared.line.Fields.{Fields}
use Rattle.edid_text_lines.specs.declared.line.Fields.TheVariants.{Nothing, Letters, Numbers, Timed, Bytes, Address, Quoted}
use Rattle.edid_text_lines.specs.declared.line.Line.{Line}
use Rattle.edid_text_lines.specs.declared.line.Keyword.{Keyword}
use Rattle.edid_text_lines.specs.declared.line.Keyword.TheVariants.{Edid, Maker, Product, Serial, Made, Input, Size, Gamma, Features, Chroma, Established, Standard, Timing, Name, Text, SerialText, Range, Dummy, Raw, Cta, CtaNone, Block, Hdmi, Tail, Ext}
use Rattle.edid_texts.specs.declared.place.NextLine.TheVariants.{AtExt, AtEnd, InBlocks, InTimings}
use Rattle.edid_texts.proofs.BaseNexts.{set_line, set_descriptor}
use Rattle.edid_texts.proofs.Live.{alone, alone_lines, with_ext, with_ext_lines, zeros_after, zeros_alone}

-- how many words a line with these fields has
abbrev pub words_of : Fields → ℕ
words_of Nothing = 1
words_of (Letters letters) = 2
words_of (Numbers numbers) = suc (length numbers.items)
words_of (Timed numbers flags) = suc (suc (length numbers.items))
words_of (Bytes bytes) = 2
words_of (Address p bytes) = 3
words_of (Quoted chars) = 2

pub record Sample (ls : List Line) (w : Keyword) (n : ℕ) : Type 0 where
  pub line : Line
  pub follows : Follows ls line
  pub word : line.word ≡ w
  pub words : words_of line.fields ≡ n

clash : false ≡ true → ⊥
clash h = cc

-- a line of the draft's own base block
split_at : (xs : List Line) (k : ℕ) (l : Line) → slice_get xs k ≡ Some l → xs ≡ take k xs ++ l ∷ drop (suc k) xs
split_at [] k l h = absurd (none h)
  where
    none : Path (Option Line) None (Some l) → ⊥
    none h = cc
split_at (x ∷ xs) zero l h = ap (λ y. y ∷ xs) (one x l h)
  where
    one : (a b : Line) → Path (Option Line) (Some a) (Some b) → a ≡ b
    one a b h = cc
split_at (x ∷ xs) (suc k) l h = ap (λ t. x ∷ t) (split_at xs k l h)

own_line : (b : Base) (n k m c : ℕ) (w : Keyword) (l : Line) → (n == k) ≡ true → (m == c) ≡ true → slice_get (base_lines b) k ≡ Some l → l.word ≡ w → words_of l.fields ≡ c
    → Sample (take n (base_lines b)) w m
own_line b n k m c w l at count h is size =
    let same : n ≡ k = eqb-true _ _ at in
    let many : m ≡ c = eqb-true _ _ count in
    record {
      line = l;
      follows = (alone b, (drop (suc k) (base_lines b), alone_lines b ∙ split_at (base_lines b) k l h ∙ ap (λ i. take i (base_lines b) ++ l ∷ drop (suc k) (base_lines b)) (sym same)));
      word = is;
      words = size ∙ sym many;
    }

-- a base block with other lines from a number on
pub other_base : (a b : Base) (n : ℕ) (l : Line) → take (n + 1) (base_lines a) ≡ take n (base_lines b) ++ l ∷ [] → Follows (take n (base_lines b)) l
other_base a b n l h = (
  alone a,
  (
    drop (n + 1) (base_lines a),
    alone_lines a ∙ sym (take-append-drop (n + 1) (base_lines a)) ∙ ap (λ t. t ++ drop (n + 1) (base_lines a)) h
        ∙ append_assoc (take n (base_lines b)) (l ∷ []) (drop (n + 1) (base_lines a)),
  ),
)

pub standard_next : (b : Base) (n : ℕ) (s : Option StandardTiming) → 11 ≤ n → n < 19 → Follows (take n (base_lines b)) (standard_line s)
standard_next b n s h k =
    let size = length-set b.standard (n - 11) s in
    let a : Base = record b { standard = set b.standard (n - 11) s; eight = size ∙ b.eight } in
    other_base a b n (standard_line s) (set_line standard_line (head_lines b) (map descriptor_line b.descriptors) b.standard (n - 11) n s (standard_line s) (omega arith) (let eight = b.eight in omega (arith, eight)) refl)

pub descriptor_next : (b : Base) (n : ℕ) (d : Descriptor) → 19 ≤ n → n < 23 → Follows (take n (base_lines b)) (descriptor_line d)
descriptor_next b n d h k =
    let size = length-set b.descriptors (n - 19) d in
    let a : Base = record b { descriptors = set b.descriptors (n - 19) d; four = size ∙ b.four } in
    other_base a b n (descriptor_line d) (set_descriptor b n d (descriptor_line d) (omega arith) k refl)

a_timing : DetailedTiming
a_timing = record {
  clock = 1;
  horizontal_active = 0;
  horizontal_blanking = 0;
  vertical_active = 0;
  vertical_blanking = 0;
  horizontal_sync_offset = 0;
  horizontal_sync_width = 0;
  vertical_sync_offset = 0;
  vertical_sync_width = 0;
  width = 0;
  height = 0;
  horizontal_border = 0;
  vertical_border = 0;
  flags = 0;
  runs = omega arith;
  clock_fits = omega arith;
  horizontal_active_fits = omega arith;
  horizontal_blanking_fits = omega arith;
  vertical_active_fits = omega arith;
  vertical_blanking_fits = omega arith;
  horizontal_sync_offset_fits = omega arith;
  horizontal_sync_width_fits = omega arith;
  vertical_sync_offset_fits = omega arith;
  vertical_sync_width_fits = omega arith;
  width_fits = omega arith;
  height_fits = omega arith;
  horizontal_border_fits = omega arith;
  vertical_border_fits = omega arith;
  flags_fit = omega arith;
}

a_standard : StandardTiming
a_standard = record { width = 640; aspect = 0; rate = 60; least_width = omega arith; most_width = omega arith; by_eight = refl; aspect_fits = omega arith; least_rate = omega arith; most_rate = omega arith; used = refl }

a_text : AnyText
a_text = record { chars = record { items = [] }; printable = refl }

a_raw : RawDescriptor
a_raw = record { bytes = 0 ∷ 0 ∷ 0 ∷ 0x11 ∷ replicate 14 0; whole = refl; bytes_fit = refl; of_no_form = refl }

some_limits : RangeLimits
some_limits = record { bytes = replicate 14 0; whole = refl; bytes_fit = refl }

a_descriptor : (b : Base) (n m c : ℕ) (w : Keyword) (d : Descriptor) → nat_le 19 n ≡ true → n < 23 → (m == c) ≡ true → (descriptor_line d).word ≡ w → words_of (descriptor_line d).fields ≡ c
    → Sample (take n (base_lines b)) w m
a_descriptor b n m c w d least most count is size =
    let many : m ≡ c = eqb-true _ _ count in
    record { line = descriptor_line d; follows = descriptor_next b n d (leb-true _ _ least) most; word = is; words = size ∙ sym many }

a_standard_line : (b : Base) (n m : ℕ) → in_base n Standard ≡ true → has_words (form_of Standard) m ≡ true → Sample (take n (base_lines b)) Standard m
a_standard_line b n m at count =
    let p = and_parts (nat_le 11 n) (nat_lt n 19) at in
    let least = leb-true _ _ p.0 in
    let most = ltb-true _ _ p.1 in
    cases (m == 2) refl count least most
  where
    cases : (v : Bool) → (m == 2) ≡ v → (v || (m == 4)) ≡ true → 11 ≤ n → n < 19 → Sample (take n (base_lines b)) Standard m
    cases true e h least most =
        let two : m ≡ 2 = eqb-true _ _ e in
        record { line = standard_line None; follows = standard_next b n None least most; word = refl; words = sym two }
    cases false e h least most =
        let four : m ≡ 4 = eqb-true _ _ h in
        record { line = standard_line (Some a_standard); follows = standard_next b n (Some a_standard) least most; word = refl; words = sym four }

begun_sample : (b : Base) (n m : ℕ) (w : Keyword) → n < 23 → in_base n w ≡ true → has_words (form_of w) m ≡ true → Sample (take n (base_lines b)) w m
begun_sample b n m Edid h at count = own_line b n 0 m 2 Edid _ at count refl refl refl
begun_sample b n m Maker h at count = own_line b n 1 m 2 Maker _ at count refl refl refl
begun_sample b n m Product h at count = own_line b n 2 m 2 Product _ at count refl refl refl
begun_sample b n m Serial h at count = own_line b n 3 m 2 Serial _ at count refl refl refl
begun_sample b n m Made h at count = own_line b n 4 m 3 Made _ at count refl refl refl
begun_sample b n m Input h at count = own_line b n 5 m 2 Input _ at count refl refl refl
begun_sample b n m Size h at count = own_line b n 6 m 3 Size _ at count refl refl refl
begun_sample b n m Gamma h at count = own_line b n 7 m 2 Gamma _ at count refl refl refl
begun_sample b n m Features h at count = own_line b n 8 m 2 Features _ at count refl refl refl
begun_sample b n m Chroma h at count = own_line b n 9 m 9 Chroma _ at count refl refl refl
begun_sample b n m Established h at count = own_line b n 10 m 2 Established _ at count refl refl refl
begun_sample b n m Standard h at count = a_standard_line b n m at count
begun_sample b n m Timing h at count = a_descriptor b n m 15 Timing (OfTiming a_timing) at h count refl refl
begun_sample b n m Name h at count = a_descriptor b n m 2 Name (OfName a_text) at h count refl refl
begun_sample b n m Text h at count = a_descriptor b n m 2 Text (OfText a_text) at h count refl refl
begun_sample b n m SerialText h at count = a_descriptor b n m 2 SerialText (OfSerialText a_text) at h count refl refl
begun_sample b n m Range h at count = a_descriptor b n m 2 Range (OfRange some_limits) at h count refl refl
begun_sample b n m Dummy h at count = a_descriptor b n m 1 Dummy OfDummy at h count refl refl
begun_sample b n m Raw h at count = a_descriptor b n m 2 Raw (OfRaw a_raw) at h count refl refl
begun_sample b n m w h at count = absurd (clash at)

-- the first line of an extension
a_raw_ext : RawExt
a_raw_ext = record {
  bytes = replicate 128 0;
  whole = refl;
  bytes_fit = refl;
  checked = refl;
  no_cta = λ c e. let first : 2 ≡ 0 = ap (λ xs. get_or xs 0 0) e in omega (arith, first);
  no_bare = λ c e. let first : 2 ≡ 0 = ap (λ xs. get_or xs 0 0) e in omega (arith, first);
}

two_words : (ls : List Line) (w : Keyword) (m : ℕ) (l : Line) → Follows ls l → l.word ≡ w → words_of l.fields ≡ 2 → (m == 2) ≡ true → Sample ls w m
two_words ls w m l f is size count = let two : m ≡ 2 = eqb-true _ _ count in record { line = l; follows = f; word = is; words = size ∙ sym two }

cta_next : (w : Whole) → length w.extensions.items < 3 → Follows (whole_lines w) (bytes_line Cta (0 ∷ []))
cta_next w room =
    let o : Opened = record { whole = w; flags = 0; blocks = record { items = [] }; timings = record { items = [] }; left = 123; room = room; flags_fit = omega arith; spelled = refl; few = omega arith } in
    let z = zeros_after o in
    (z.0, (tail_line (replicate 123 0) ∷ [], z.1 ∙ append_assoc (whole_lines w) (bytes_line Cta (0 ∷ []) ∷ []) (tail_line (replicate 123 0) ∷ [])))

cta_none_next : (w : Whole) → length w.extensions.items < 3 → Follows (whole_lines w) (bytes_line CtaNone (0 ∷ []))
cta_none_next w room =
    let d : Headed = record { whole = w; flags = 0; room = room; flags_fit = omega arith } in
    let z = zeros_alone d in
    (z.0, (tail_line (replicate 123 0) ∷ [], z.1 ∙ append_assoc (whole_lines w) (bytes_line CtaNone (0 ∷ []) ∷ []) (tail_line (replicate 123 0) ∷ [])))

ext_next : (w : Whole) → length w.extensions.items < 3 → Follows (whole_lines w) (bytes_line Ext a_raw_ext.bytes)
ext_next w room = (with_ext w room (OfRawExt a_raw_ext), ([], with_ext_lines w room (OfRawExt a_raw_ext)))

ext_sample : (w : Whole) (m : ℕ) (word : Keyword) → length w.extensions.items < 3 → at_ext word ≡ true → has_words (form_of word) m ≡ true → Sample (whole_lines w) word m
ext_sample w m Cta room at count = two_words (whole_lines w) Cta m (bytes_line Cta (0 ∷ [])) (cta_next w room) refl refl count
ext_sample w m CtaNone room at count = two_words (whole_lines w) CtaNone m (bytes_line CtaNone (0 ∷ [])) (cta_none_next w room) refl refl count
ext_sample w m Ext room at count = two_words (whole_lines w) Ext m (bytes_line Ext a_raw_ext.bytes) (ext_next w room) refl refl count
ext_sample w m word room at count = absurd (clash at)

whole_sample : (w : Whole) (m : ℕ) (word : Keyword) → may_begin (place_of (OfWhole w)) word ≡ true → has_words (form_of word) m ≡ true → Sample (whole_lines w) word m
whole_sample w m word at count = cases (nat_lt (length w.extensions.items) 3) refl at
  where
    cases : (v : Bool) → nat_lt (length w.extensions.items) 3 ≡ v → may_begin (cond v AtExt AtEnd) word ≡ true → Sample (whole_lines w) word m
    cases true e h = ext_sample w m word (ltb-true _ _ e) h count
    cases false e h = absurd (clash h)

-- one more data block
pub more_block : (o : Opened) (b : DataBlock) → o.timings.items ≡ [] → length (block_bytes b) ≤ o.left → Follows (draft_lines (OfOpened o)) (block_line b)
more_block o b none h =
    let blocks = o.blocks.items ++ b ∷ [] in
    let flat : length (flat_map block_bytes blocks) ≡ length (flat_map block_bytes o.blocks.items) + length (flat_map block_bytes (b ∷ [])) =
    ap length (flat_map-append block_bytes o.blocks.items (b ∷ [])) ∙ length-append (flat_map block_bytes o.blocks.items) (flat_map block_bytes (b ∷ [])) in
    let one : length (flat_map block_bytes (b ∷ [])) ≡ length (block_bytes b) = ap length (append-nil (block_bytes b)) in
    let len = ap length none in
    let left = o.left - length (block_bytes b) in
    let spelled : length (flat_map block_bytes blocks) + 18 * length {A = DetailedTiming} [] + left ≡ 123 = omega (arith, flat, one, o.spelled, h, len) in
    let few : length blocks + left ≤ 123 = omega (arith, length-append o.blocks.items (b ∷ []), o.few, h) in
    let new : Opened = record { whole = o.whole; flags = o.flags; blocks = record { items = blocks }; timings = record { items = [] }; left = left; room = o.room; flags_fit = o.flags_fit; spelled = spelled; few = few } in
    let z = zeros_after new in
    let last = tail_line (replicate left 0) ∷ [] in
    let body : map block_line blocks ++ [] ≡ (map block_line o.blocks.items ++ map timing_line o.timings.items) ++ block_line b ∷ [] =
    append-nil (map block_line blocks) ∙ map-append block_line o.blocks.items (b ∷ []) ∙ ap (λ t. t ++ block_line b ∷ []) (sym (append-nil (map block_line o.blocks.items)))
    ∙ ap (λ ts. (map block_line o.blocks.items ++ map timing_line ts) ++ block_line b ∷ []) (sym none) in
    let lines : whole_lines o.whole ++ opened_lines new ≡ (whole_lines o.whole ++ opened_lines o) ++ block_line b ∷ [] =
    ap (λ t. whole_lines o.whole ++ (bytes_line Cta (o.flags ∷ []) ∷ t)) body ∙ sym (append_assoc (whole_lines o.whole) (opened_lines o) (block_line b ∷ [])) in
    (z.0, (last, z.1 ∙ ap (λ t. t ++ last) lines ∙ append_assoc (whole_lines o.whole ++ opened_lines o) (block_line b ∷ []) last))

an_empty_block : BlockKind → DataBlock
an_empty_block k = record { kind = k; payload = record { items = [] }; short = omega arith; bytes_fit = refl }

an_hdmi_block : DataBlock
an_hdmi_block = record { kind = Vendor; payload = record { items = 3 ∷ 12 ∷ 0 ∷ 0 ∷ 0 ∷ [] }; short = omega arith; bytes_fit = refl }

-- one more timing
pub more_timing : (o : Opened) (t : DetailedTiming) → 18 ≤ o.left → Follows (draft_lines (OfOpened o)) (timing_line t)
more_timing o t h =
    let more = o.timings.items ++ t ∷ [] in
    let len = length-append o.timings.items (t ∷ []) in
    let left = o.left - 18 in
    let spelled : length (flat_map block_bytes o.blocks.items) + 18 * length more + left ≡ 123 = omega (arith, len, o.spelled, h) in
    let few : length o.blocks.items + left ≤ 123 = omega (arith, o.few, h) in
    let new : Opened = record { whole = o.whole; flags = o.flags; blocks = o.blocks; timings = record { items = more }; left = left; room = o.room; flags_fit = o.flags_fit; spelled = spelled; few = few } in
    let z = zeros_after new in
    let last = tail_line (replicate left 0) ∷ [] in
    let bs = map block_line o.blocks.items in
    let body : bs ++ map timing_line more ≡ (bs ++ map timing_line o.timings.items) ++ timing_line t ∷ [] =
    ap (λ x. bs ++ x) (map-append timing_line o.timings.items (t ∷ [])) ∙ sym (append_assoc bs (map timing_line o.timings.items) (timing_line t ∷ [])) in
    let lines : whole_lines o.whole ++ opened_lines new ≡ (whole_lines o.whole ++ opened_lines o) ++ timing_line t ∷ [] =
    ap (λ x. whole_lines o.whole ++ (bytes_line Cta (o.flags ∷ []) ∷ x)) body ∙ sym (append_assoc (whole_lines o.whole) (opened_lines o) (timing_line t ∷ [])) in
    (z.0, (last, z.1 ∙ ap (λ x. x ++ last) lines ∙ append_assoc (whole_lines o.whole ++ opened_lines o) (timing_line t ∷ []) last))

a_tail : (o : Opened) → Follows (draft_lines (OfOpened o)) (tail_line (replicate o.left 0))
a_tail o = let z = zeros_after o in (z.0, ([], z.1))

a_timing_line : (o : Opened) (m : ℕ) (w : Keyword) → in_timings o.left w ≡ true → has_words (form_of w) m ≡ true → Sample (draft_lines (OfOpened o)) w m
a_timing_line o m Timing at count =
    let many : m ≡ 15 = eqb-true _ _ count in
    record { line = timing_line a_timing; follows = more_timing o a_timing (leb-true _ _ at); word = refl; words = sym many }
a_timing_line o m Tail at count = two_words (draft_lines (OfOpened o)) Tail m (tail_line (replicate o.left 0)) (a_tail o) refl refl count
a_timing_line o m w at count = absurd (clash at)

a_block_line : (o : Opened) (m : ℕ) (w : Keyword) (b : DataBlock) → o.timings.items ≡ [] → nat_le 1 o.left ≡ true → length (block_bytes b) ≡ 1 → (block_line b).word ≡ w → words_of (block_line b).fields ≡ 2 → (m == 2) ≡ true
    → Sample (draft_lines (OfOpened o)) w m
a_block_line o m w b none at size is two count =
    let least = leb-true _ _ at in
    two_words (draft_lines (OfOpened o)) w m (block_line b) (more_block o b none (omega (arith, size, least))) is two count

block_sample : (o : Opened) (m : ℕ) (w : Keyword) → o.timings.items ≡ [] → in_blocks o.left w ≡ true → has_words (form_of w) m ≡ true → Sample (draft_lines (OfOpened o)) w m
unfolding an_empty_block an_hdmi_block
block_sample o m (Block Vendor) none at count = a_block_line o m (Block Vendor) (an_empty_block Vendor) none at refl refl refl count
block_sample o m (Block kind) none at count = a_block_line o m (Block kind) (an_empty_block kind) none at refl refl refl count
block_sample o m Hdmi none at count =
    let three : m ≡ 3 = eqb-true _ _ count in
    let six = leb-true _ _ at in
    record { line = block_line an_hdmi_block; follows = more_block o an_hdmi_block none six; word = refl; words = sym three }
block_sample o m Timing none at count = a_timing_line o m Timing at count
block_sample o m Tail none at count = a_timing_line o m Tail at count
block_sample o m w none at count = absurd (clash at)

pub empty : {X : Type 0} (xs : List X) → (length xs == 0) ≡ true → xs ≡ []
empty [] h = refl
empty (x ∷ xs) h = let e = eqb-true _ _ h in absurd (omega (arith, e))

opened_sample : (o : Opened) (m : ℕ) (w : Keyword) → may_begin (place_of (OfOpened o)) w ≡ true → has_words (form_of w) m ≡ true → Sample (draft_lines (OfOpened o)) w m
opened_sample o m w at count = cases (length o.timings.items == 0) refl at
  where
    cases : (v : Bool) → (length o.timings.items == 0) ≡ v → may_begin (cond v (InBlocks o.left) (InTimings o.left)) w ≡ true → Sample (draft_lines (OfOpened o)) w m
    cases true e h = block_sample o m w (empty o.timings.items e) h count
    cases false e h = a_timing_line o m w h count

bare_sample : (d : Headed) (m : ℕ) (w : Keyword) → may_begin (place_of (OfBare d)) w ≡ true → has_words (form_of w) m ≡ true → Sample (draft_lines (OfBare d)) w m
bare_sample d m Tail at count =
    let z = zeros_alone d in
    two_words (draft_lines (OfBare d)) Tail m (tail_line (replicate 123 0)) (z.0, ([], z.1)) refl refl count
bare_sample d m w at count = absurd (clash at)

pub samples : (d : Draft) (w : Keyword) (m : ℕ) → may_begin (place_of d) w ≡ true → has_words (form_of w) m ≡ true → Sample (draft_lines d) w m
samples (Begun d) w m at count = begun_sample d.base d.number m w d.few at count
samples (OfWhole whole) w m at count = whole_sample whole m w at count
samples (OfOpened o) w m at count = opened_sample o m w at count
samples (OfBare d) w m at count = bare_sample d m w at count
