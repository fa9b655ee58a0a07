use Rattle.std.proofs.Common.{◌≡◌, ◌∙◌, ◌++◌, ℕ, List, None, ap, sym, flat_map}
use Rattle.edid_base.specs.Base.{base_bytes}
use Rattle.edid_base.specs.declared.base.Base.{Base}
use Rattle.edid_cta.specs.Ext.{ext_bytes}
use Rattle.edid_cta.specs.declared.raw.Ext.{Ext}
use Rattle.edid_core.specs.Address.{edid_address}
use Rattle.edid_core.specs.declared.edid.Edid.{Edid}
use Rattle.edid_core.proofs.root.read_on_heap.Goals as goal

-- equal parts have the same bytes
spelled : (base whole_base : Base) (xs whole_xs : List Ext) (bytes : List ℕ) → whole_base ≡ base → whole_xs ≡ xs → base_bytes base ++ flat_map ext_bytes xs ≡ bytes
    → base_bytes whole_base ++ flat_map ext_bytes whole_xs ≡ bytes
spelled base whole_base xs whole_xs bytes e f h =
    ap (λ (b : Base). base_bytes b ++ flat_map ext_bytes whole_xs) e ∙ ap (λ (ys : List Ext). base_bytes base ++ flat_map ext_bytes ys) f ∙ h

pub returns-in-None-clause-refused : goal.returns-in-None-clause-refused
returns-in-None-clause-refused c =
    let root : Edid = c.in_ok-root.root.value in
    let none : edid_address root ≡ None = ap (λ (e : Edid). edid_address e) (sym c.deref.ensures) ∙ sym c.in-None.ensures in
    (root, spelled c.in-Ok.base root.base c.read_parts.new.extensions.items root.extensions.items c.args.bytes.now c.in_ok-root.ensures.0 c.in_ok-root.ensures.1 c.in-Ok.ensures.found, none)
