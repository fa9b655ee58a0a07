use Rattle.conversion_fields.proofs.Adding.{bare_added, cta_added, raw_added}
use Rattle.conversion_fields.proofs.whole.add_front.Goals as goal

pub returns-in-Cta : goal.returns-in-Cta
returns-in-Cta g c =
    cta_added c.args.number c.args.ext.now c.in-Cta.cta c.args.bytes.now _ c.args.out.now _ c.add_content.new.out c.in-Cta.is c.requires
    c.before-in-Cta.ensures.value c.add_section.ensures c.add_content.ensures

pub returns-in-Bare : goal.returns-in-Bare
returns-in-Bare g c =
    bare_added c.args.number c.args.ext.now c.in-Bare.bare c.args.bytes.now _ c.args.out.now _ c.add_plain.new.out c.in-Bare.is c.requires
    c.before-in-Bare.ensures.value c.add_section-in-Bare.ensures c.add_plain.ensures

pub returns-in-Raw : goal.returns-in-Raw
returns-in-Raw g c =
    raw_added c.args.number c.args.ext.now _ c.args.bytes.now _ c.args.out.now c.add_plain-in-Raw.new.out c.in-Raw.is c.requires c.before-in-Raw.ensures.value c.add_plain-in-Raw.ensures
