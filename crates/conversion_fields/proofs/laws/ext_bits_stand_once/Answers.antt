use Rattle.std.proofs.Common.{subst, sym}
use Rattle.edid_cta.specs.Ext.{ext_bytes}
use Rattle.edid_cta.specs.declared.raw.Ext.{Ext}
use Rattle.conversion_fields.specs.Parts.{Tiled}
use Rattle.conversion_fields.specs.Whole.{ext_parts}
use Rattle.conversion_fields.proofs.Tiles.{BlocksLaw, Known, TimingsLaw, bare_tiled, cta_tiled, known, raw_tiled}
use Rattle.conversion_fields.proofs.laws.ext_bits_stand_once.Goals as goal

pub returns-in-Cta : goal.returns-in-Cta
returns-in-Cta c =
    let of-bytes : Known c.args.ext.now =
    known c.args.ext.now c.args.bytes.now c.before-front.result.now c.after-sum.result.now c.requires c.told-bytes c.before-front.ensures.value c.after-sum.ensures
    c.section_bits_stand_once-2.ensures c.section_bits_stand_once.ensures in
    subst (λ (y : Ext). Tiled 0 (ext_parts y) (ext_bytes y)) (sym c.in-Cta.is)
    (cta_tiled c.in-Cta.cta (subst Known c.in-Cta.is of-bytes) (subst BlocksLaw c.as_slice-in-Cta.ensures.value c.blocks_bits_stand_once.ensures)
    (subst TimingsLaw c.as_slice.ensures.value c.timings_bits_stand_once.ensures))

pub returns-in-Bare : goal.returns-in-Bare
returns-in-Bare c =
    let of-bytes : Known c.args.ext.now =
    known c.args.ext.now c.args.bytes.now c.before-front.result.now c.after-sum.result.now c.requires c.told-bytes c.before-front.ensures.value c.after-sum.ensures
    c.section_bits_stand_once-2.ensures c.section_bits_stand_once.ensures in
    subst (λ (y : Ext). Tiled 0 (ext_parts y) (ext_bytes y)) (sym c.in-Bare.is) (bare_tiled _ (subst Known c.in-Bare.is of-bytes))

pub returns-in-Raw : goal.returns-in-Raw
returns-in-Raw c =
    let of-bytes : Known c.args.ext.now =
    known c.args.ext.now c.args.bytes.now c.before-front.result.now c.after-sum.result.now c.requires c.told-bytes c.before-front.ensures.value c.after-sum.ensures
    c.section_bits_stand_once-2.ensures c.section_bits_stand_once.ensures in
    subst (λ (y : Ext). Tiled 0 (ext_parts y) (ext_bytes y)) (sym c.in-Raw.is) (raw_tiled _ (subst Known c.in-Raw.is of-bytes))
