use Rattle.std.proofs.Common.{◌≡◌, ◌++◌, flat_map, ap, subst, sym, ◌∙◌}
use Rattle.text_core.specs.Written.{WrittenAll}
use Rattle.edid_base.specs.Base.{base_bytes}
use Rattle.edid_cta.specs.Ext.{ext_bytes}
use Rattle.conversion_calls.specs.Form.{parts_text}
use Rattle.conversion_calls.specs.declared.form.EdidForm.{EdidForm}
use Rattle.conversion_calls.proofs.form.write_in.Goals as goal

pub returns-in-Hex : goal.returns-in-Hex
returns-in-Hex g c =
    let P : EdidForm → Type 0 = λ form. WrittenAll (g.S.Sink.contents c.args.out.now) (g.S.Sink.contents c.write_hex_line.new.out) (g.S.Sink.is_stuck c.args.out.now) (g.S.Sink.is_stuck c.write_hex_line.new.out) (parts_text form c.args.base.now c.args.extensions.now.items) c.write_hex_line.result in
    let bytes : c.as_slice-in-Hex.result.now ≡ base_bytes c.args.base.now ++ flat_map ext_bytes c.args.extensions.now.items =
    c.as_slice-in-Hex.ensures.value ∙ c.bytes_of.ensures ∙ ap (λ xs. base_bytes c.args.base.now ++ flat_map ext_bytes xs) c.as_slice.ensures.value in
    subst P (sym c.in-Hex.is) (rw bytes at c.write_hex_line.ensures)

pub returns-in-Bytes : goal.returns-in-Bytes
returns-in-Bytes g c =
    let P : EdidForm → Type 0 = λ form. WrittenAll (g.S.Sink.contents c.args.out.now) (g.S.Sink.contents c.write_bytes.new.out) (g.S.Sink.is_stuck c.args.out.now) (g.S.Sink.is_stuck c.write_bytes.new.out) (parts_text form c.args.base.now c.args.extensions.now.items) c.write_bytes.result in
    let bytes : c.as_slice-in-Bytes-2.result.now ≡ base_bytes c.args.base.now ++ flat_map ext_bytes c.args.extensions.now.items =
    c.as_slice-in-Bytes-2.ensures.value ∙ c.bytes_of-in-Bytes.ensures ∙ ap (λ xs. base_bytes c.args.base.now ++ flat_map ext_bytes xs) c.as_slice-in-Bytes.ensures.value in
    subst P (sym c.in-Bytes.is) (rw bytes at c.write_bytes.ensures)

pub returns-in-C : goal.returns-in-C
returns-in-C g c =
    let P : EdidForm → Type 0 = λ form. WrittenAll (g.S.Sink.contents c.args.out.now) (g.S.Sink.contents c.write_c.new.out) (g.S.Sink.is_stuck c.args.out.now) (g.S.Sink.is_stuck c.write_c.new.out) (parts_text form c.args.base.now c.args.extensions.now.items) c.write_c.result in
    let bytes : c.as_slice-in-C-2.result.now ≡ base_bytes c.args.base.now ++ flat_map ext_bytes c.args.extensions.now.items =
    c.as_slice-in-C-2.ensures.value ∙ c.bytes_of-in-C.ensures ∙ ap (λ xs. base_bytes c.args.base.now ++ flat_map ext_bytes xs) c.as_slice-in-C.ensures.value in
    subst P (sym c.in-C.is) (rw bytes at c.write_c.ensures)

pub returns-in-Xml : goal.returns-in-Xml
returns-in-Xml g c =
    let P : EdidForm → Type 0 = λ form. WrittenAll (g.S.Sink.contents c.args.out.now) (g.S.Sink.contents c.write_xml.new.out) (g.S.Sink.is_stuck c.args.out.now) (g.S.Sink.is_stuck c.write_xml.new.out) (parts_text form c.args.base.now c.args.extensions.now.items) c.write_xml.result in
    let bytes : c.as_slice-in-Xml-2.result.now ≡ base_bytes c.args.base.now ++ flat_map ext_bytes c.args.extensions.now.items =
    c.as_slice-in-Xml-2.ensures.value ∙ c.bytes_of-in-Xml.ensures ∙ ap (λ xs. base_bytes c.args.base.now ++ flat_map ext_bytes xs) c.as_slice-in-Xml.ensures.value in
    subst P (sym c.in-Xml.is) (rw bytes at c.write_xml.ensures)
