-- The lines of an EDID, after those that were told.
use Rattle.std.proofs.Common.{◌≡◌, ℕ, suc, ◌+◌, ◌*◌, ◌<◌, ◌==◌, ◌⊎◌, inl, inr, Bool, true, false, cond, IsTrue, List, [], ◌∷◌, ◌++◌, length, map, take, get_or, drop, Some, slice_get, flat_map, ap, arith, refl, sym, ◌∙◌, length-append, append_assoc, append-nil}
use Rattle.std.specs.Prelude.{if◌then◌else◌}
use Rattle.std.proofs.lemmas.List.{length-map, length-take-le}
use Rattle.edid_base.specs.declared.base.Base.{Base}
use Rattle.edid_base.specs.declared.timing.Timing.{Timing as DetailedTiming}
use Rattle.edid_base.specs.Timing.{timing_bytes}
use Rattle.edid_cta.specs.Block.{block_bytes}
use Rattle.edid_cta.specs.Cta.{is_tail}
use Rattle.edid_cta.specs.declared.block.DataBlock.{DataBlock}
use Rattle.edid_cta.specs.declared.cta.Cta.{Cta as CtaBlock}
use Rattle.edid_cta.specs.declared.raw.Ext.{Ext as AnyExt}
use Rattle.edid_cta.specs.declared.raw.Ext.TheVariants.{Cta as OfCta, Bare as OfBare, Raw as OfRaw}
use Rattle.edid_cta.specs.declared.raw.RawExt.{RawExt}
use Rattle.edid_texts.specs.Drafts.{whole_lines, draft_lines, opened_lines, Follows, BlockFits, TimingFits, TailFits}
use Rattle.edid_texts.specs.Lines.{base_lines, bytes_line, block_line, timing_line, tail_line, ext_lines, cta_lines, edid_lines}
use Rattle.edid_texts.specs.Draft.{Opened, Whole, OfOpened}
use Rattle.edid_core.specs.declared.edid.Edid.{Edid}
use Rattle.edid_text_lines.specs.declared.line.Line.{Line}
use Rattle.edid_text_lines.specs.declared.line.Keyword.{Keyword}
use Rattle.edid_text_lines.specs.declared.line.Keyword.TheVariants.{Cta, CtaNone, Ext}
use Rattle.edid_texts.proofs.Gets.{append_same, get_right, base_count, in_base}
use Rattle.edid_texts.proofs.Sorts.{sort_of, block_sort, same_size, not_timing, not_tail, timing_not_tail}

-- the first line of some
first_line : (l : Line) (ls ms : List Line) (m : Line) → l ∷ ls ≡ m ∷ ms → l ≡ m
first_line l ls ms m e = ap (λ t. get_or t 0 l) e

other_lines : (l : Line) (ls ms : List Line) (m : Line) → l ∷ ls ≡ m ∷ ms → ls ≡ ms
other_lines l ls ms m e = ap (λ t. drop 1 t) e

-- a line of the base block
pub begun_next : (b : Base) (n : ℕ) (l : Line) → n < 23 → Follows (take n (base_lines b)) l → (a : Base) × (slice_get (base_lines a) n ≡ Some l)
begun_next b n l h f =
    let len : length (take n (base_lines b)) ≡ n = length-take-le n (base_lines b) (omega (arith, h, base_count b)) in
    (f.0.base, sym (in_base f.0.base f.0.extensions.items n h) ∙ ap (λ ls. slice_get ls n) f.1.1 ∙ get_right (take n (base_lines b)) (l ∷ f.1.0) n 0 (omega (arith, len)))

-- the lines of a CTA block after its first, and more
abbrev pub body_lines : List DataBlock → List DetailedTiming → List ℕ → List Line → List Line
body_lines bs ts tail more = map block_line bs ++ (map timing_line ts ++ (tail_line tail ∷ more))

body_more : (bs : List DataBlock) (ts : List DetailedTiming) (tail : List ℕ) (more : List Line) → body_lines bs ts tail [] ++ more ≡ body_lines bs ts tail more
body_more bs ts tail more =
    append_assoc (map block_line bs) (map timing_line ts ++ (tail_line tail ∷ [])) more
    ∙ ap (λ ls. map block_line bs ++ ls) (append_assoc (map timing_line ts) (tail_line tail ∷ []) more)

-- how many lines there are up to the first tail
abbrev to_tail : List Line → ℕ
to_tail [] = 0
to_tail (l ∷ ls) = if sort_of l.word == 2 then 1 else suc (to_tail ls)

abbrev is_raw_word : Keyword → Bool
is_raw_word Ext = true
is_raw_word word = false

-- how many lines the first extension has
abbrev group_len : List Line → ℕ
group_len [] = 0
group_len (l ∷ ls) = if is_raw_word l.word then 1 else suc (to_tail ls)

past_timings : (ts : List DetailedTiming) (tail : List ℕ) (more : List Line) → to_tail (map timing_line ts ++ (tail_line tail ∷ more)) ≡ suc (length ts)
past_timings [] tail more = refl
past_timings (t ∷ ts) tail more = ap suc (past_timings ts tail more)

later : (sort n : ℕ) → sort ≡ 0 → cond (sort == 2) 1 (suc n) ≡ suc n
later sort n e = rw e refl

past_blocks : (bs : List DataBlock) (ls : List Line) → to_tail (map block_line bs ++ ls) ≡ length bs + to_tail ls
past_blocks [] ls = omega arith
past_blocks (b ∷ bs) ls =
    let rest = past_blocks bs ls in
    let here = later (sort_of (block_line b).word) (to_tail (map block_line bs ++ ls)) (block_sort b) in
    omega (arith, rest, here)

pub cta_count : (c : CtaBlock) → length (cta_lines c) ≡ length c.blocks.items + length c.timings.items + 2
cta_count c =
    let l0 = length-append (map block_line c.blocks.items) (map timing_line c.timings.items ++ (tail_line c.tail.items ∷ [])) in
    let l1 = length-append (map timing_line c.timings.items) (tail_line c.tail.items ∷ []) in
    omega (arith, l0, l1, length-map c.blocks.items block_line, length-map c.timings.items timing_line)

group : (x : AnyExt) (more : List Line) → group_len (ext_lines x ++ more) ≡ length (ext_lines x)
group (OfCta c) more =
    let lines = ap (λ ls. suc (to_tail ls)) (body_more c.blocks.items c.timings.items c.tail.items more) in
    let blocks = past_blocks c.blocks.items (map timing_line c.timings.items ++ (tail_line c.tail.items ∷ more)) in
    let timings = past_timings c.timings.items c.tail.items more in
    let count = cta_count c in
    omega (arith, lines, blocks, timings, count)
group (OfBare c) more = refl
group (OfRaw c) more = refl

-- extensions are told apart
pub parted : (x y : AnyExt) (xs ys : List Line) → ext_lines x ++ xs ≡ ext_lines y ++ ys → (ext_lines x ≡ ext_lines y) × (xs ≡ ys)
parted x y xs ys e = append_same (ext_lines x) (ext_lines y) xs ys (sym (group x xs) ∙ ap group_len e ∙ group y ys) e

pub some_line : (x : AnyExt) (more : List Line) → ext_lines x ++ more ≡ [] → ⊥
some_line (OfCta c) more e = let len = ap length e in omega (arith, len)
some_line (OfBare c) more e = let len = ap length e in omega (arith, len)
some_line (OfRaw c) more e = let len = ap length e in omega (arith, len)

exts_after : (xs zs : List AnyExt) (ys : List Line) → flat_map ext_lines zs ≡ flat_map ext_lines xs ++ ys
    → (rest : List AnyExt) × ((flat_map ext_lines rest ≡ ys) × (length zs ≡ length xs + length rest))
exts_after [] zs ys e = (zs, (e, omega arith))
exts_after (x ∷ xs) [] ys e = absurd (some_line x (flat_map ext_lines xs ++ ys) (sym (append_assoc (ext_lines x) (flat_map ext_lines xs) ys) ∙ sym e))
exts_after (x ∷ xs) (z ∷ zs) ys e =
    let p = parted z x (flat_map ext_lines zs) (flat_map ext_lines xs ++ ys) (e ∙ append_assoc (ext_lines x) (flat_map ext_lines xs) ys) in
    let more = exts_after xs zs ys p.1 in
    let count = more.1.1 in
    (more.0, (more.1.0, omega (arith, count)))

-- the next extension
pub record NextExt (w : Whole) (ys : List Line) : Type 0 where
  pub ext : AnyExt
  pub more : List Line
  pub lines : ext_lines ext ++ more ≡ ys
  pub room : length w.extensions.items < 3

pub ext_of : (e : Edid) (w : Whole) (y : Line) (ys : List Line) → edid_lines e ≡ whole_lines w ++ y ∷ ys → NextExt w (y ∷ ys)
ext_of e w y ys h =
    let split = append_same (base_lines e.base) (base_lines w.base) _ _ (base_count e.base ∙ sym (base_count w.base)) (h ∙ append_assoc (base_lines w.base) (flat_map ext_lines w.extensions.items) (y ∷ ys)) in
    let b = exts_after w.extensions.items e.extensions.items (y ∷ ys) split.1 in
    at b.0 b.1.0 b.1.1
  where
    at : (rest : List AnyExt) → flat_map ext_lines rest ≡ y ∷ ys → length e.extensions.items ≡ length w.extensions.items + length rest → NextExt w (y ∷ ys)
    at [] k count = let len = ap length k in absurd (omega (arith, len))
    at (x ∷ xs) k count = let few = e.few in record { ext = x; more = flat_map ext_lines xs; lines = k; room = omega (arith, count, few) }

-- nothing follows three extensions
pub full_next : (w : Whole) (l : Line) → length w.extensions.items ≡ 3 → Follows (whole_lines w) l → ⊥
full_next w l full f = let room = (ext_of f.0 w l f.1.0 f.1.1).room in omega (arith, room, full)

-- the first line of an extension
pub whole_next : (w : Whole) (l : Line) → ((f : ℕ) → bytes_line Cta (f ∷ []) ≡ l → ⊥) → ((f : ℕ) → bytes_line CtaNone (f ∷ []) ≡ l → ⊥)
    → ((r : RawExt) → bytes_line Ext r.bytes ≡ l → ⊥) → Follows (whole_lines w) l → ⊥
whole_next w l h i j f = let x = ext_of f.0 w l f.1.0 f.1.1 in at x.ext x.more x.lines
  where
    at : (x : AnyExt) (more : List Line) → ext_lines x ++ more ≡ l ∷ f.1.0 → ⊥
    at (OfCta c) more e = h c.flags (first_line _ _ _ _ e)
    at (OfBare c) more e = i c.flags (first_line _ _ _ _ e)
    at (OfRaw r) more e = j r (first_line _ _ _ _ e)

-- data blocks that were told
blocks_after : (bs cs : List DataBlock) (ts : List DetailedTiming) (tail : List ℕ) (more zs : List Line) → body_lines cs ts tail more ≡ map block_line bs ++ zs
    → (rest : List DataBlock) × ((body_lines rest ts tail more ≡ zs) × (length (flat_map block_bytes cs) ≡ length (flat_map block_bytes bs) + length (flat_map block_bytes rest)))
blocks_after [] cs ts tail more zs e = (cs, (e, omega arith))
blocks_after (b ∷ bs) [] [] tail more zs e = absurd (not_tail b tail (sym (first_line _ _ _ _ e)))
blocks_after (b ∷ bs) [] (t ∷ ts) tail more zs e = absurd (not_timing b t (sym (first_line _ _ _ _ e)))
blocks_after (b ∷ bs) (c ∷ cs) ts tail more zs e =
    let same = same_size c b (first_line _ _ _ _ e) in
    let rest = blocks_after bs cs ts tail more zs (other_lines _ _ _ _ e) in
    let sizes = rest.1.1 in
    (rest.0, (rest.1.0, omega (arith, same, sizes, length-append (block_bytes b) (flat_map block_bytes bs), length-append (block_bytes c) (flat_map block_bytes cs))))

-- timings that were told
timings_after : (us ts : List DetailedTiming) (tail : List ℕ) (more zs : List Line) → map timing_line ts ++ (tail_line tail ∷ more) ≡ map timing_line us ++ zs
    → (rest : List DetailedTiming) × ((map timing_line rest ++ (tail_line tail ∷ more) ≡ zs) × (length ts ≡ length us + length rest))
timings_after [] ts tail more zs e = (ts, (e, omega arith))
timings_after (u ∷ us) [] tail more zs e = absurd (timing_not_tail u tail (sym (first_line _ _ _ _ e)))
timings_after (u ∷ us) (t ∷ ts) tail more zs e =
    let rest = timings_after us ts tail more zs (other_lines _ _ _ _ e) in
    let sizes = rest.1.1 in
    (rest.0, (rest.1.0, omega (arith, sizes)))

-- what is after the lines of an open block
pub record AfterOpened (o : Opened) (zs : List Line) : Type 0 where
  pub blocks : List DataBlock
  pub timings : List DetailedTiming
  pub tail : List ℕ
  pub more : List Line
  pub lines : body_lines blocks timings tail more ≡ zs
  pub size : length (flat_map block_bytes blocks) + 18 * length timings + length tail ≡ o.left
  pub ended : IsTrue (is_tail tail)
  pub order : (o.timings.items ≡ []) ⊎ (blocks ≡ [])

pub length-timings : (ts : List DetailedTiming) → length (flat_map timing_bytes ts) ≡ 18 * length ts
length-timings [] = omega arith
length-timings (t ∷ ts) =
    let one : length (timing_bytes t) ≡ 18 = refl in
    omega (arith, length-append (timing_bytes t) (flat_map timing_bytes ts), one, length-timings ts)

cta_after : (o : Opened) (c : CtaBlock) (more zs : List Line) → cta_lines c ++ more ≡ opened_lines o ++ zs → AfterOpened o zs
cta_after o c more zs e =
    let body = sym (body_more c.blocks.items c.timings.items c.tail.items more) ∙ other_lines _ _ _ _ e ∙ append_assoc (map block_line o.blocks.items) (map timing_line o.timings.items) zs in
    let rest = blocks_after o.blocks.items c.blocks.items c.timings.items c.tail.items more _ body in
    at rest.0 o.timings.items refl rest.1.0 rest.1.1
  where
    at : (rest : List DataBlock) (us : List DetailedTiming) → o.timings.items ≡ us → body_lines rest c.timings.items c.tail.items more ≡ map timing_line us ++ zs
        → length (flat_map block_bytes c.blocks.items) ≡ length (flat_map block_bytes o.blocks.items) + length (flat_map block_bytes rest) → AfterOpened o zs
    at rest [] none lines size =
        let len = ap length none in
        record {
          blocks = rest;
          timings = c.timings.items;
          tail = c.tail.items;
          more = more;
          lines = lines;
          size = omega (arith, size, c.whole, o.spelled, length-timings c.timings.items, len);
          ended = c.ended;
          order = inl none;
        }
    at (b ∷ bs) (u ∷ us) some lines size = absurd (not_timing b u (first_line _ _ _ _ lines))
    at [] (u ∷ us) some lines size =
        let after = timings_after (u ∷ us) c.timings.items c.tail.items more zs lines in
        let len = ap length some in
        let count = after.1.1 in
        record {
          blocks = [];
          timings = after.0;
          tail = c.tail.items;
          more = more;
          lines = after.1.0;
          size = omega (arith, size, c.whole, o.spelled, length-timings c.timings.items, len, count);
          ended = c.ended;
          order = inr refl;
        }

pub opened_after : (o : Opened) (e : Edid) (zs : List Line) → edid_lines e ≡ (whole_lines o.whole ++ opened_lines o) ++ zs → AfterOpened o zs
opened_after o e zs h =
    let x = ext_of e o.whole _ _ (h ∙ append_assoc (whole_lines o.whole) (opened_lines o) zs) in at x.ext x.more x.lines
  where
    words : (f g : ℕ) (ls ms : List Line) → bytes_line CtaNone (f ∷ []) ∷ ls ≡ bytes_line Cta (g ∷ []) ∷ ms → ⊥
    words f g ls ms k = let same = ap (λ l. l.word) (first_line _ _ _ _ k) in cc

    raw_words : (bs : List ℕ) (g : ℕ) (ls ms : List Line) → bytes_line Ext bs ∷ ls ≡ bytes_line Cta (g ∷ []) ∷ ms → ⊥
    raw_words bs g ls ms k = let same = ap (λ l. l.word) (first_line _ _ _ _ k) in cc

    at : (x : AnyExt) (more : List Line) → ext_lines x ++ more ≡ opened_lines o ++ zs → AfterOpened o zs
    at (OfCta c) more k = cta_after o c more zs k
    at (OfBare c) more k = absurd (words c.flags o.flags _ _ k)
    at (OfRaw r) more k = absurd (raw_words r.bytes o.flags _ _ k)

-- which line can come next
pub opened_next : (o : Opened) (l : Line) → Follows (draft_lines (OfOpened o)) l → ((o.timings.items ≡ []) × BlockFits o.left l) ⊎ (TimingFits o.left l ⊎ TailFits o.left l)
opened_next o l f = let b = opened_after o f.0 (l ∷ f.1.0) f.1.1 in at b.blocks b.timings b.tail b.more b.lines b.size b.ended b.order
  where
    at : (bs : List DataBlock) (ts : List DetailedTiming) (tail : List ℕ) (more : List Line) → body_lines bs ts tail more ≡ l ∷ f.1.0
        → length (flat_map block_bytes bs) + 18 * length ts + length tail ≡ o.left → IsTrue (is_tail tail) → (o.timings.items ≡ []) ⊎ (bs ≡ [])
        → ((o.timings.items ≡ []) × BlockFits o.left l) ⊎ (TimingFits o.left l ⊎ TailFits o.left l)
    at [] [] tail more lines size ended order = inr (inr (tail, (first_line _ _ _ _ lines, (omega (arith, size), ended))))
    at [] (t ∷ ts) tail more lines size ended order = inr (inl (t, (first_line _ _ _ _ lines, omega (arith, size))))
    at (b ∷ bs) ts tail more lines size ended (inl none) =
        inl (none, (b, (first_line _ _ _ _ lines, omega (arith, size, length-append (block_bytes b) (flat_map block_bytes bs)))))
    at (b ∷ bs) ts tail more lines size ended (inr none) = let len = ap length none in absurd (omega (arith, len))

-- an open block is not all
pub opened_not_all : (o : Opened) (e : Edid) → edid_lines e ≡ draft_lines (OfOpened o) → ⊥
opened_not_all o e h =
    let b = opened_after o e [] (h ∙ sym (append-nil (whole_lines o.whole ++ opened_lines o))) in
    let len = ap length b.lines in
    omega (arith, len, length-append (map block_line b.blocks) (map timing_line b.timings ++ (tail_line b.tail ∷ b.more)), length-append (map timing_line b.timings) (tail_line b.tail ∷ b.more))

-- the tail that stands alone
pub record LoneTail (zs : List Line) : Type 0 where
  pub bytes : List ℕ
  pub more : List Line
  pub size : length bytes ≡ 123
  pub lines : tail_line bytes ∷ more ≡ zs

bare_of : (e : Edid) (w : Whole) (flags : ℕ) (zs : List Line) → edid_lines e ≡ (whole_lines w ++ (bytes_line CtaNone (flags ∷ []) ∷ [])) ++ zs → LoneTail zs
bare_of e w flags zs h = let x = ext_of e w _ _ (h ∙ append_assoc (whole_lines w) (bytes_line CtaNone (flags ∷ []) ∷ []) zs) in at x.ext x.more x.lines
  where
    words : (f g : ℕ) (ls ms : List Line) → bytes_line Cta (f ∷ []) ∷ ls ≡ bytes_line CtaNone (g ∷ []) ∷ ms → ⊥
    words f g ls ms k = let same = ap (λ l. l.word) (first_line _ _ _ _ k) in cc

    raw_words : (bs : List ℕ) (g : ℕ) (ls ms : List Line) → bytes_line Ext bs ∷ ls ≡ bytes_line CtaNone (g ∷ []) ∷ ms → ⊥
    raw_words bs g ls ms k = let same = ap (λ l. l.word) (first_line _ _ _ _ k) in cc

    at : (x : AnyExt) (more : List Line) → ext_lines x ++ more ≡ bytes_line CtaNone (flags ∷ []) ∷ zs → LoneTail zs
    at (OfCta c) more k = absurd (words c.flags flags _ _ k)
    at (OfBare c) more k = record { bytes = c.tail; more = more; size = c.whole; lines = other_lines _ _ _ _ k }
    at (OfRaw r) more k = absurd (raw_words r.bytes flags _ _ k)

pub bare_next : (w : Whole) (flags : ℕ) (l : Line) → Follows (whole_lines w ++ (bytes_line CtaNone (flags ∷ []) ∷ [])) l → (bytes : List ℕ) × ((length bytes ≡ 123) × (tail_line bytes ≡ l))
bare_next w flags l f = let t = bare_of f.0 w flags (l ∷ f.1.0) f.1.1 in (t.bytes, (t.size, first_line _ _ _ _ t.lines))

pub bare_not_all : (w : Whole) (flags : ℕ) (e : Edid) → edid_lines e ≡ whole_lines w ++ (bytes_line CtaNone (flags ∷ []) ∷ []) → ⊥
bare_not_all w flags e h =
    let t = bare_of e w flags [] (h ∙ sym (append-nil (whole_lines w ++ (bytes_line CtaNone (flags ∷ []) ∷ [])))) in
    let len = ap length t.lines in omega (arith, len)

pub begun_not_all : (b : Base) (n : ℕ) (e : Edid) → n < 23 → edid_lines e ≡ take n (base_lines b) → ⊥
begun_not_all b n e h k =
    let len = ap length k in
    let short : length (take n (base_lines b)) ≡ n = length-take-le n (base_lines b) (omega (arith, h, base_count b)) in
    omega (arith, len, short, h, base_count e.base, length-append (base_lines e.base) (flat_map ext_lines e.extensions.items))
