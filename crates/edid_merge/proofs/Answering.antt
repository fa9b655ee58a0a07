-- The extension that a receiver answers with, by what it is made of.
use Rattle.std.proofs.Common.{◌≡◌, ◌∙◌, ap, ℕ, List}
use Rattle.edid_cta.specs.declared.block.DataBlock.{DataBlock}
use Rattle.edid_cta.specs.declared.raw.Ext.{Ext}
use Rattle.edid_base.specs.declared.timing.Timing.{Timing}
use Rattle.edid_merge.specs.Blocks.{merged_blocks}
use Rattle.edid_merge.specs.Merge.{cta_blocks, cta_flags, cta_for, cta_of, cta_timings, merged_flags, blocks_for}
use Rattle.edid_merge.specs.declared.table.Table.{Table}

pub blocks_are : (t : Table) (xs ys : List Ext) (blocks : List ℕ) (ds os : List DataBlock) → ds ≡ cta_blocks xs → os ≡ cta_blocks ys → blocks ≡ merged_blocks t ds os
    → blocks ≡ blocks_for t xs ys
blocks_are t xs ys blocks ds os a b e = e ∙ ap (λ (k : List DataBlock). merged_blocks t k os) a ∙ ap (λ (k : List DataBlock). merged_blocks t (cta_blocks xs) k) b

pub cta_is : (t : Table) (xs ys : List Ext) (f fd fo : ℕ) (bs : List ℕ) (ts : List Timing) → bs ≡ blocks_for t xs ys
    → fd ≡ cta_flags xs → fo ≡ cta_flags ys → f ≡ merged_flags t.audio fd fo → ts ≡ cta_timings xs → cta_of f bs ts ≡ cta_for t xs ys
cta_is t xs ys f fd fo bs ts eb a b e et =
    let flags : f ≡ merged_flags t.audio (cta_flags xs) (cta_flags ys) = e ∙ ap (λ (k : ℕ). merged_flags t.audio k fo) a ∙ ap (λ (k : ℕ). merged_flags t.audio (cta_flags xs) k) b in
    ap (λ (k : ℕ). cta_of k bs ts) flags ∙ ap (λ (k : List ℕ). cta_of (merged_flags t.audio (cta_flags xs) (cta_flags ys)) k ts) eb
    ∙ ap (λ (k : List Timing). cta_of (merged_flags t.audio (cta_flags xs) (cta_flags ys)) (blocks_for t xs ys) k) et
