-- What a line adds to an extension.
use Rattle.std.proofs.Common.{◌≡◌, ℕ, zero, suc, ◌+◌, ◌-◌, ◌<◌, ◌⊎◌, inl, inr, true, false, List, [], ◌∷◌, ◌++◌, length, map, replicate, flat_map, ap, ap₂, arith, refl, sym, ◌∙◌, append_assoc}
use Rattle.edid_base.proofs.Bytes.{are_bytes-append, are_bytes-cons}
use Rattle.std.proofs.lemmas.Bool.{and_parts}
use Rattle.edid_base.specs.Timing.{timing_bytes}
use Rattle.edid_base.specs.Bytes.{are_bytes}
use Rattle.edid_base.specs.declared.timing.Timing.{Timing as DetailedTiming}
use Rattle.edid_cta.specs.Block.{block_bytes}
use Rattle.edid_cta.specs.Cta.{is_tail}
use Rattle.edid_cta.specs.declared.block.DataBlock.{DataBlock}
use Rattle.edid_texts.specs.Drafts.{whole_lines, draft_lines, opened_lines, Follows, BlockFits, TimingFits, TailFits}
use Rattle.edid_texts.specs.Lines.{bytes_without_zeros, bytes_line, block_line, timing_line, tail_line}
use Rattle.edid_texts.specs.Tails.{padded_bytes, fills, ends}
use Rattle.edid_texts.specs.Draft.{Opened, Whole, OfOpened}
use Rattle.edid_text_lines.specs.declared.line.Line.{Line}
use Rattle.edid_text_lines.specs.declared.line.Keyword.TheVariants.{Cta, CtaNone, Tail}
use Rattle.edid_texts.proofs.Fronts.{opened_next, length-timings}
use Rattle.edid_texts.proofs.LineParts.{same_bytes_line}
use Rattle.edid_texts.proofs.Sorts.{same_size, not_timing, not_tail, timing_not_tail}
use Rattle.edid_texts.proofs.TailLemmas.{ended_by, filled_by, ends_is, fills_is, length-padded}

pub zeros_fit : (n : ℕ) → are_bytes (replicate n 0) ≡ true
zeros_fit zero = refl
zeros_fit (suc n) = zeros_fit n

pub padded_fit : (left : ℕ) (bytes : List ℕ) → are_bytes bytes ≡ true → are_bytes (padded_bytes left bytes) ≡ true
padded_fit left bytes h = are_bytes-append bytes (replicate (left - length bytes) 0) h (zeros_fit (left - length bytes))

-- a tail's line reports the tail
no_end : (left : ℕ) (bytes : List ℕ) (l : Line) → bytes_line Tail bytes ≡ l → ends left bytes ≡ false → TailFits left l → ⊥
no_end left bytes l is not t =
    let same : bytes_without_zeros t.0 ≡ bytes = same_bytes_line Tail (bytes_without_zeros t.0) bytes (t.1.0 ∙ sym is) in
    let yes : ends left bytes ≡ true = ap (ends left) (sym same) ∙ ended_by left t.0 t.1.1.0 t.1.1.1 in
    clash (sym yes ∙ not)
  where
    clash : true ≡ false → ⊥
    clash h = cc

pub no_room : (left : ℕ) (t : DetailedTiming) (l : Line) → timing_line t ≡ l → left < 18 → TimingFits left l ⊎ TailFits left l → ⊥
no_room left t l is less (inl f) = let fits = f.1.1 in omega (arith, fits, less)
no_room left t l is less (inr f) = timing_not_tail t f.0 (is ∙ sym f.1.0)

pub no_words : (left : ℕ) (l : Line) → ((t : DetailedTiming) → timing_line t ≡ l → ⊥) → ((bs : List ℕ) → bytes_line Tail bs ≡ l → ⊥) → TimingFits left l ⊎ TailFits left l → ⊥
no_words left l h k (inl f) = h f.0 f.1.0
no_words left l h k (inr f) = k (bytes_without_zeros f.0) f.1.0

pub no_tail : (left : ℕ) (bytes : List ℕ) (l : Line) → ((t : DetailedTiming) → timing_line t ≡ l → ⊥) → bytes_line Tail bytes ≡ l → ends left bytes ≡ false → TimingFits left l ⊎ TailFits left l → ⊥
no_tail left bytes l h is not (inl f) = h f.0 f.1.0
no_tail left bytes l h is not (inr f) = no_end left bytes l is not f

pub no_block : (left : ℕ) (b : DataBlock) (l : Line) → block_line b ≡ l → left < length (block_bytes b) → BlockFits left l ⊎ (TimingFits left l ⊎ TailFits left l) → ⊥
no_block left b l is less (inl f) = let same = same_size f.0 b (f.1.0 ∙ sym is) in let fits = f.1.1 in omega (arith, same, fits, less)
no_block left b l is less (inr (inl f)) = not_timing b f.0 (is ∙ sym f.1.0)
no_block left b l is less (inr (inr f)) = not_tail b f.0 (is ∙ sym f.1.0)

pub no_block_line : (left : ℕ) (l : Line) → ((b : DataBlock) → block_line b ≡ l → ⊥) → (TimingFits left l ⊎ TailFits left l → ⊥) → BlockFits left l ⊎ (TimingFits left l ⊎ TailFits left l) → ⊥
no_block_line left l h k (inl f) = h f.0 f.1.0
no_block_line left l h k (inr f) = k f

pub before_timings : (o : Opened) (l : Line) → (BlockFits o.left l ⊎ (TimingFits o.left l ⊎ TailFits o.left l) → ⊥) → Follows (draft_lines (OfOpened o)) l → ⊥
before_timings o l h f = at (opened_next o l f)
  where
    at : ((o.timings.items ≡ []) × BlockFits o.left l) ⊎ (TimingFits o.left l ⊎ TailFits o.left l) → ⊥
    at (inl x) = h (inl x.1)
    at (inr x) = h (inr x)

pub after_timings : (o : Opened) (l : Line) → 0 < length o.timings.items → (TimingFits o.left l ⊎ TailFits o.left l → ⊥) → Follows (draft_lines (OfOpened o)) l → ⊥
after_timings o l some h f = at (opened_next o l f)
  where
    at : ((o.timings.items ≡ []) × BlockFits o.left l) ⊎ (TimingFits o.left l ⊎ TailFits o.left l) → ⊥
    at (inl x) = let len = ap length x.0 in omega (arith, len, some)
    at (inr x) = h x

-- the tail that stands alone
pub no_bare : (bytes tail : List ℕ) (l : Line) → bytes_line Tail bytes ≡ l → fills 123 bytes ≡ false → length tail ≡ 123 → tail_line tail ≡ l → ⊥
no_bare bytes tail l is not len e =
    let same : bytes_without_zeros tail ≡ bytes = same_bytes_line Tail (bytes_without_zeros tail) bytes (e ∙ sym is) in
    let yes : fills 123 bytes ≡ true = ap (fills 123) (sym same) ∙ filled_by 123 tail len in
    clash (sym yes ∙ not)
  where
    clash : true ≡ false → ⊥
    clash h = cc

-- the tail of an open block
pub tail_whole : (o : Opened) (bytes tail : List ℕ) → ends o.left bytes ≡ true → tail ≡ padded_bytes o.left bytes
    → length (flat_map block_bytes o.blocks.items) + length (flat_map timing_bytes o.timings.items) + length tail ≡ 123
tail_whole o bytes tail h e =
    let at = ends_is o.left bytes h in
    let len = ap length e ∙ length-padded o.left bytes at.0.fits in
    omega (arith, o.spelled, length-timings o.timings.items, len)

pub tail_ended : (left : ℕ) (bytes tail : List ℕ) → ends left bytes ≡ true → tail ≡ padded_bytes left bytes → is_tail tail ≡ true
tail_ended left bytes tail h e = ap is_tail e ∙ (ends_is left bytes h).1

pub tail_fits : (left flags : ℕ) (bytes tail : List ℕ) → flags < 256 → are_bytes bytes ≡ true → tail ≡ padded_bytes left bytes → are_bytes (flags ∷ tail) ≡ true
tail_fits left flags bytes tail h k e = are_bytes-cons flags tail h (ap are_bytes e ∙ padded_fit left bytes k)

same_tail : (left : ℕ) (bytes tail : List ℕ) → fills left bytes ≡ true → tail ≡ padded_bytes left bytes → tail_line tail ≡ bytes_line Tail bytes
same_tail left bytes tail h e = ap (bytes_line Tail) (ap bytes_without_zeros e ∙ (fills_is left bytes h).same)

pub tail_reported : (o : Opened) (bytes tail : List ℕ) → ends o.left bytes ≡ true → tail ≡ padded_bytes o.left bytes
    → whole_lines o.whole ++ (bytes_line Cta (o.flags ∷ []) ∷ (map block_line o.blocks.items ++ (map timing_line o.timings.items ++ (tail_line tail ∷ [])))) ≡ draft_lines (OfOpened o) ++ bytes_line Tail bytes ∷ []
tail_reported o bytes tail h e =
    let line = same_tail o.left bytes tail (and_parts _ _ h).0 e in
    let bs = map block_line o.blocks.items in
    let ts = map timing_line o.timings.items in
    ap (λ l. whole_lines o.whole ++ (bytes_line Cta (o.flags ∷ []) ∷ (bs ++ (ts ++ (l ∷ []))))) line
    ∙ ap (λ ls. whole_lines o.whole ++ (bytes_line Cta (o.flags ∷ []) ∷ ls)) (sym (append_assoc bs ts (bytes_line Tail bytes ∷ [])))
    ∙ sym (append_assoc (whole_lines o.whole) (opened_lines o) (bytes_line Tail bytes ∷ []))

-- the same of lists that were taken out of it
pub taken_whole : (o : Opened) (blocks : List DataBlock) (timings : List DetailedTiming) (bytes tail : List ℕ) → blocks ≡ o.blocks.items → timings ≡ o.timings.items
    → ends o.left bytes ≡ true → tail ≡ padded_bytes o.left bytes → length (flat_map block_bytes blocks) + length (flat_map timing_bytes timings) + length tail ≡ 123
taken_whole o blocks timings bytes tail of_blocks of_timings h e =
    ap₂ (λ (bs : List DataBlock) (ts : List DetailedTiming). length (flat_map block_bytes bs) + length (flat_map timing_bytes ts) + length tail) of_blocks of_timings ∙ tail_whole o bytes tail h e

pub taken_reported : (o : Opened) (blocks : List DataBlock) (timings : List DetailedTiming) (bytes tail : List ℕ) → blocks ≡ o.blocks.items → timings ≡ o.timings.items
    → ends o.left bytes ≡ true → tail ≡ padded_bytes o.left bytes
    → whole_lines o.whole ++ (bytes_line Cta (o.flags ∷ []) ∷ (map block_line blocks ++ (map timing_line timings ++ (tail_line tail ∷ [])))) ≡ draft_lines (OfOpened o) ++ bytes_line Tail bytes ∷ []
taken_reported o blocks timings bytes tail of_blocks of_timings h e =
    ap₂ (λ (bs : List DataBlock) (ts : List DetailedTiming). whole_lines o.whole ++ (bytes_line Cta (o.flags ∷ []) ∷ (map block_line bs ++ (map timing_line ts ++ (tail_line tail ∷ []))))) of_blocks of_timings
    ∙ tail_reported o bytes tail h e

pub bare_whole : (bytes tail : List ℕ) → fills 123 bytes ≡ true → tail ≡ padded_bytes 123 bytes → length tail ≡ 123
bare_whole bytes tail h e = ap length e ∙ length-padded 123 bytes (fills_is 123 bytes h).fits

pub bare_reported : (w : Whole) (flags other : ℕ) (bytes tail : List ℕ) → other ≡ flags → fills 123 bytes ≡ true → tail ≡ padded_bytes 123 bytes
    → whole_lines w ++ (bytes_line CtaNone (other ∷ []) ∷ tail_line tail ∷ []) ≡ (whole_lines w ++ (bytes_line CtaNone (flags ∷ []) ∷ [])) ++ bytes_line Tail bytes ∷ []
bare_reported w flags other bytes tail f h e =
    ap (λ x. whole_lines w ++ (bytes_line CtaNone (x ∷ []) ∷ tail_line tail ∷ [])) f
    ∙ ap (λ l. whole_lines w ++ (bytes_line CtaNone (flags ∷ []) ∷ l ∷ [])) (same_tail 123 bytes tail h e)
    ∙ sym (append_assoc (whole_lines w) (bytes_line CtaNone (flags ∷ []) ∷ []) (bytes_line Tail bytes ∷ []))
