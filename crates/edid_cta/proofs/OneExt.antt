-- 128 bytes spell one extension at most.
use Rattle.std.proofs.Common.{◌∷◌, ◌≡◌, ℕ, ◌+◌, ◌%◌, IsTrue, List, ◌++◌, length, get_or, drop, sum, flat_map, ap, arith, sym, ◌∙◌, length-append}
use Rattle.std.proofs.Math.Bool.{Bool-set}
use Rattle.std.proofs.Math.Nat.{ℕ_set}
use Rattle.arrayvec.specs.ArrayVec.{ArrayVec}
use Rattle.edid_base.specs.Bytes.{are_bytes}
use Rattle.edid_base.specs.Timing.{timing_bytes}
use Rattle.edid_base.specs.declared.timing.Timing.{Timing}
use Rattle.edid_cta.specs.Block.{block_bytes}
use Rattle.edid_cta.specs.Cta.{is_tail}
use Rattle.edid_cta.specs.Whole.{cta_bytes, bare_bytes}
use Rattle.edid_cta.specs.Ext.{ext_bytes}
use Rattle.edid_cta.specs.declared.block.DataBlock.{DataBlock}
use Rattle.edid_cta.specs.declared.cta.Cta.{Cta}
use Rattle.edid_cta.specs.declared.cta.Bare.{Bare}
use Rattle.edid_cta.specs.declared.raw.RawExt.{RawExt}
use Rattle.edid_cta.specs.declared.raw.Ext.{Ext}
use Rattle.edid_cta.specs.declared.raw.Ext.TheVariants.{Cta as OfCta, Bare as OfBare, Raw}
use Rattle.edid_cta.proofs.OneBlock.{append_same, one_blocks, same}
use Rattle.edid_cta.proofs.OneTimings.{one_timings}

record Plain : Type 0 where
  flags : ℕ
  blocks : ArrayVec DataBlock
  timings : ArrayVec Timing
  tail : ArrayVec ℕ

abbrev fits : Plain → Type 0
fits p = (length (flat_map block_bytes p.blocks.items) + length (flat_map timing_bytes p.timings.items) + length p.tail.items ≡ 123) × IsTrue (is_tail p.tail.items) × IsTrue (are_bytes (p.flags ∷ p.tail.items))

abbrev built : (p : Plain) → fits p → Cta
built p h = record { flags = p.flags; blocks = p.blocks; timings = p.timings; tail = p.tail; whole = h.0; ended = h.1; bytes_fit = h.2 }

abbrev plain : Cta → Plain
plain c = record { flags = c.flags; blocks = c.blocks; timings = c.timings; tail = c.tail }

lengths : (a b c : List ℕ) → length a + length b + length c ≡ 123 → length (a ++ (b ++ c)) ≡ 123
lengths a b c h = omega (arith, length-append a (b ++ c), length-append b c)

pub one_cta : (a b : Cta) → cta_bytes a ≡ cta_bytes b → a ≡ b
one_cta a b e =
    let ab = flat_map block_bytes a.blocks.items in
    let bb = flat_map block_bytes b.blocks.items in
    let at = flat_map timing_bytes a.timings.items in
    let bt = flat_map timing_bytes b.timings.items in
    let end : length ab + 4 ≡ length bb + 4 = ap (λ xs. get_or xs 2 0) e in
    let flags : a.flags ≡ b.flags = ap (λ xs. get_or xs 3 0) e in
    let la = lengths ab at a.tail.items a.whole in
    let lb = lengths bb bt b.tail.items b.whole in
    let body = append_same (ab ++ (at ++ a.tail.items)) (bb ++ (bt ++ b.tail.items)) _ _ (la ∙ sym lb) (ap (λ xs. drop 4 xs) e) in
    let two = append_same ab bb (at ++ a.tail.items) (bt ++ b.tail.items) (omega (arith, end)) body.0 in
    let three = one_timings a.timings.items b.timings.items a.tail.items b.tail.items a.ended b.ended two.1 in
    let blocks : a.blocks ≡ b.blocks = ap (λ xs. record { items = xs }) (one_blocks a.blocks.items b.blocks.items two.0) in
    let timings : a.timings ≡ b.timings = ap (λ xs. record { items = xs }) three.0 in
    let tail : a.tail ≡ b.tail = ap (λ xs. record { items = xs }) three.1 in
    let all : plain a ≡ plain b = cc in
    same built (λ p. hlevel (ℕ_set, Bool-set)) (plain a) (plain b) (a.whole, a.ended, a.bytes_fit) (b.whole, b.ended, b.bytes_fit) all

abbrev built_bare : (p : ℕ × List ℕ) → (length p.1 ≡ 123) × IsTrue (are_bytes (p.0 ∷ p.1)) → Bare
built_bare p h = record { flags = p.0; tail = p.1; whole = h.0; bytes_fit = h.1 }

pub one_bare : (a b : Bare) → bare_bytes a ≡ bare_bytes b → a ≡ b
one_bare a b e =
    let flags : a.flags ≡ b.flags = ap (λ xs. get_or xs 3 0) e in
    let body = append_same a.tail b.tail _ _ (a.whole ∙ sym b.whole) (ap (λ xs. drop 4 xs) e) in
    let tail = body.0 in
    let all : (a.flags, a.tail) ≡ (b.flags, b.tail) = cc in
    same built_bare (λ p. hlevel (ℕ_set, Bool-set)) (a.flags, a.tail) (b.flags, b.tail) (a.whole, a.bytes_fit) (b.whole, b.bytes_fit) all

abbrev facts : List ℕ → Type 0
facts xs = (length xs ≡ 128) × IsTrue (are_bytes xs) × (sum xs % 256 ≡ 0) × ((c : Cta) → cta_bytes c ≡ xs → ⊥) × ((b : Bare) → bare_bytes b ≡ xs → ⊥)

abbrev built_raw : (xs : List ℕ) → facts xs → RawExt
built_raw xs h = record { bytes = xs; whole = h.0; bytes_fit = h.1; checked = h.2; no_cta = h.3; no_bare = h.4 }

facts_prop : (xs : List ℕ) → IsProp (facts xs)
facts_prop xs = hlevel (ℕ_set, Bool-set)

one_raw : (a b : RawExt) → a.bytes ≡ b.bytes → a ≡ b
one_raw a b e = same built_raw facts_prop a.bytes b.bytes (a.whole, a.bytes_fit, a.checked, a.no_cta, a.no_bare) (b.whole, b.bytes_fit, b.checked, b.no_cta, b.no_bare) e

pub one_ext : (a b : Ext) → ext_bytes a ≡ ext_bytes b → a ≡ b
one_ext (OfCta a) (OfCta b) e = ap OfCta (one_cta a b e)
one_ext (OfCta a) (OfBare b) e = let end = ap (λ xs. get_or xs 2 0) e in absurd (omega (arith, end))
one_ext (OfCta a) (Raw b) e = absurd (b.no_cta a e)
one_ext (OfBare a) (OfCta b) e = let end = ap (λ xs. get_or xs 2 0) e in absurd (omega (arith, end))
one_ext (OfBare a) (OfBare b) e = ap OfBare (one_bare a b e)
one_ext (OfBare a) (Raw b) e = absurd (b.no_bare a e)
one_ext (Raw a) (OfCta b) e = absurd (a.no_cta b (sym e))
one_ext (Raw a) (OfBare b) e = absurd (a.no_bare b (sym e))
one_ext (Raw a) (Raw b) e = ap Raw (one_raw a b e)
