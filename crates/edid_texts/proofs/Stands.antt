-- Each line that can come next begins with a word that may stand there.
use Rattle.std.proofs.Common.{◌≡◌, ℕ, zero, suc, ◌+◌, ◌<◌, ◌≤◌, ◌⊎◌, inl, inr, ◌==◌, Bool, true, false, nat_lt, nat_le, cond, List, [], ◌∷◌, ◌++◌, length, map, get_or, Option, Some, None, slice_get, ap, arith, refl, sym, ◌∙◌}
use borrow.Author.Tests.{tests}
use Rattle.edid_base.specs.declared.base.Base.{Base}
use Rattle.edid_base.specs.declared.descriptor.Descriptor.{Descriptor}
use Rattle.edid_base.specs.declared.descriptor.Descriptor.TheVariants.{Timing as OfTiming, Name as OfName, Text as OfText, SerialText as OfSerialText, Range as OfRange, Dummy as OfDummy, Raw as OfRaw}
use Rattle.edid_base.specs.declared.standard.StandardTiming.{StandardTiming}
use Rattle.edid_cta.specs.Block.{block_bytes}
use Rattle.edid_cta.specs.declared.block.DataBlock.{DataBlock}
use Rattle.edid_cta.specs.declared.block.BlockKind.{BlockKind}
use Rattle.edid_cta.specs.declared.block.BlockKind.TheVariants.{Vendor}
use Rattle.edid_cta.specs.declared.raw.Ext.{Ext as AnyExt}
use Rattle.edid_cta.specs.declared.raw.Ext.TheVariants.{Cta as OfCta, Bare as OfBareExt, Raw as OfRawExt}
use Rattle.edid_texts.specs.Drafts.{draft_lines, Follows, BlockFits, TimingFits, TailFits}
use Rattle.edid_texts.specs.Lines.{bytes_line, standard_line, descriptor_line, base_lines, address_line, payload_line, block_line, ext_lines}
use Rattle.edid_cta.specs.Hdmi.{has_identifier}
use Rattle.edid_texts.specs.Words.{place_of, in_base, at_ext, in_timings, in_blocks, may_begin}
use Rattle.edid_texts.specs.Draft.{Draft, OfBegun as Begun, OfWhole, OfOpened, OfBare, Opened}
use Rattle.edid_text_lines.specs.declared.line.Line.{Line}
use Rattle.edid_text_lines.specs.declared.line.Keyword.TheVariants.{Block, Standard}
use Rattle.edid_texts.specs.declared.place.NextLine.TheVariants.{AtExt, AtEnd, InBlocks, InTimings}
use Rattle.edid_texts.proofs.Fronts.{begun_next, ext_of, opened_next, bare_next}
use Rattle.edid_texts.proofs.Good.{and}
use Rattle.edid_texts.proofs.Sorts.{long_hdmi}

-- lines that stand from a number on
abbrev From : ℕ → List Line → Type 0
From n [] = Unit {0}
From n (l ∷ ls) = (in_base n l.word ≡ true) × From (suc n) ls

from_at : (ls : List Line) (k i n : ℕ) (l : Line) → From k ls → n ≡ k + i → slice_get ls i ≡ Some l → in_base n l.word ≡ true
from_at [] k i n l f e h = absurd (none h)
  where
    none : Path (Option Line) None (Some l) → ⊥
    none h = cc
from_at (x ∷ ls) k zero n l f e h =
    let same : x ≡ l = one x l h in
    let at : n ≡ k = omega arith in
    ap (λ m. in_base m l.word) at ∙ ap (λ y. in_base k y.word) (sym same) ∙ f.0
  where
    one : (a b : Line) → Path (Option Line) (Some a) (Some b) → a ≡ b
    one a b h = cc
from_at (x ∷ ls) k (suc i) n l f e h = from_at ls (suc k) i n l f.1 (omega arith) h

descriptors_from : (ds : List Descriptor) (k : ℕ) → 19 ≤ k → From k (map descriptor_line ds)
descriptors_from [] k h = tt
descriptors_from (d ∷ ds) k h = let t : nat_le 19 k ≡ true = grind (arith, tests) in (at d t, descriptors_from ds (suc k) (omega (arith, h)))
  where
    at : (d : Descriptor) → nat_le 19 k ≡ true → in_base k (descriptor_line d).word ≡ true
    at (OfTiming t) e = e
    at (OfName t) e = e
    at (OfText t) e = e
    at (OfSerialText t) e = e
    at (OfRange r) e = e
    at OfDummy e = e
    at (OfRaw r) e = e

standards_from : (xs : List (Option StandardTiming)) (ds : List Descriptor) (k : ℕ) → 11 ≤ k → k + length xs ≡ 19 → From k (map standard_line xs ++ map descriptor_line ds)
standards_from [] ds k h e = descriptors_from ds k (omega (arith, e))
standards_from (x ∷ xs) ds k h e =
    let least : nat_le 11 k ≡ true = grind (arith, tests) in
    let less : k < 19 = omega (arith, e) in
    let most : nat_lt k 19 ≡ true = grind (arith, tests) in
    (at x (and (nat_le 11 k) (nat_lt k 19) least most), standards_from xs ds (suc k) (omega (arith, h)) (omega (arith, e)))
  where
    at : (x : Option StandardTiming) → in_base k Standard ≡ true → in_base k (standard_line x).word ≡ true
    at None e = e
    at (Some s) e = e

base_from : (b : Base) → From 0 (base_lines b)
base_from b =
    let rest = standards_from b.standard b.descriptors 11 (omega arith) (let eight = b.eight in omega (arith, eight)) in
    (refl, (refl, (refl, (refl, (refl, (refl, (refl, (refl, (refl, (refl, (refl, rest)))))))))))

ext_stands : (x : AnyExt) (after : List Line) (l : Line) (more : List Line) → ext_lines x ++ after ≡ l ∷ more → at_ext l.word ≡ true
ext_stands (OfCta c) after l more e = ap (λ ls. at_ext (get_or ls 0 l).word) (sym e)
ext_stands (OfBareExt c) after l more e = ap (λ ls. at_ext (get_or ls 0 l).word) (sym e)
ext_stands (OfRawExt c) after l more e = ap (λ ls. at_ext (get_or ls 0 l).word) (sym e)

block_stands : (b : DataBlock) (left : ℕ) → length (block_bytes b) ≤ left → in_blocks left (block_line b).word ≡ true
block_stands b left h =
    let one : 1 ≤ left = omega (arith, h) in
    let t : nat_le 1 left ≡ true = grind (arith, tests) in
    at b.kind b.payload.items t h
  where
    vendor : (v : Bool) (p : List ℕ) → has_identifier p ≡ v → nat_le 1 left ≡ true → suc (length p) ≤ left → in_blocks left (cond v (address_line p) (bytes_line (Block Vendor) p)).word ≡ true
    vendor true p e t k = let long = long_hdmi p e in let six : 6 ≤ left = omega (arith, long, k) in grind (arith, tests)
    vendor false p e t k = t

    at : (k : BlockKind) (p : List ℕ) → nat_le 1 left ≡ true → suc (length p) ≤ left → in_blocks left (payload_line k p).word ≡ true
    at Vendor p t k = vendor (has_identifier p) p refl t k
    at kind p t k = t

timing_stands : (left : ℕ) (l : Line) → TimingFits left l ⊎ TailFits left l → (in_timings left l.word ≡ true) × (in_blocks left l.word ≡ true)
timing_stands left l (inl f) =
    let fits = f.1.1 in
    let t : nat_le 18 left ≡ true = grind (arith, tests) in
    (ap (λ x. in_timings left x.word) (sym f.1.0) ∙ t, ap (λ x. in_blocks left x.word) (sym f.1.0) ∙ t)
timing_stands left l (inr f) = (ap (λ x. in_timings left x.word) (sym f.1.0), ap (λ x. in_blocks left x.word) (sym f.1.0))

opened_stands : (o : Opened) (l : Line) → ((o.timings.items ≡ []) × BlockFits o.left l) ⊎ (TimingFits o.left l ⊎ TailFits o.left l) → may_begin (place_of (OfOpened o)) l.word ≡ true
opened_stands o l (inl x) =
    let none : (length o.timings.items == 0) ≡ true = ap (λ ts. length ts == 0) x.0 in
    let b = x.1 in
    ap (λ v. may_begin (cond v (InBlocks o.left) (InTimings o.left)) l.word) none ∙ ap (λ y. in_blocks o.left y.word) (sym b.1.0) ∙ block_stands b.0 o.left b.1.1
opened_stands o l (inr x) = let t = timing_stands o.left l x in at (length o.timings.items == 0) t.0 t.1
  where
    at : (v : Bool) → in_timings o.left l.word ≡ true → in_blocks o.left l.word ≡ true → may_begin (cond v (InBlocks o.left) (InTimings o.left)) l.word ≡ true
    at true h k = k
    at false h k = h

pub stands : (d : Draft) (l : Line) → Follows (draft_lines d) l → may_begin (place_of d) l.word ≡ true
stands (Begun d) l f = let a = begun_next d.base d.number l d.few f in from_at (base_lines a.0) 0 d.number d.number l (base_from a.0) (omega arith) a.1
stands (OfWhole w) l f =
    let x = ext_of f.0 w l f.1.0 f.1.1 in
    let room = x.room in
    let less : nat_lt (length w.extensions.items) 3 ≡ true = grind (arith, tests) in
    ap (λ v. may_begin (cond v AtExt AtEnd) l.word) less ∙ ext_stands x.ext x.more l f.1.0 x.lines
stands (OfOpened o) l f = opened_stands o l (opened_next o l f)
stands (OfBare d) l f = let t = bare_next d.whole d.flags l f in ap (λ x. may_begin (place_of (OfBare d)) x.word) (sym t.1.1)
