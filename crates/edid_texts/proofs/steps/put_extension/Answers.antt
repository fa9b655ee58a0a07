use Rattle.std.proofs.Common.{◌≡◌, ◌+◌, ◌++◌, ◌∷◌, [], List, length, length-append, ap, arith, refl, ◌∙◌}
use Rattle.edid_cta.specs.declared.raw.Ext.{Ext}
use Rattle.edid_texts.specs.Lines.{part_lines}
use Rattle.edid_texts.proofs.Live.{one_more_lines}
use Rattle.edid_texts.proofs.steps.put_extension.Goals as goal

pub returns : goal.returns
returns c =
    let d = c.args.draft.now in
    ap (λ (xs : List Ext). part_lines d.base xs) c.push.ensures.items ∙ one_more_lines (record { base = d.base; extensions = d.extensions; few = d.fits.1 }) c.args.ext

pub invariant_of-draft : goal.invariant_of-draft
invariant_of-draft c =
    let len : length c.push.new.self.items ≡ length c.args.draft.now.extensions.items + 1 = ap (λ (xs : List Ext). length xs) c.push.ensures.items ∙ length-append c.args.draft.now.extensions.items (c.args.ext ∷ []) in
    record { fits = (omega arith, omega (arith, len, c.requires), omega (arith, len, c.requires), omega arith, refl, omega arith) }
