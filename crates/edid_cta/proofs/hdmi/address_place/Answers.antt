use Rattle.std.proofs.Common.{◌≡◌, None, Some, ap, sym, ◌∙◌, arith}
use Rattle.std.specs.List.{position}
use Rattle.std.specs.Option.{option_map}
use Rattle.edid_cta.specs.Hdmi.{is_hdmi, blocks_of, phys_at}
use Rattle.edid_cta.specs.declared.block.DataBlock.{DataBlock}
use Rattle.edid_cta.proofs.FirstHdmi.{none_found, placed}
use Rattle.edid_cta.proofs.hdmi.address_place.Goals as goal

pub returns-in_err-index : goal.returns-in_err-index
returns-in_err-index c =
    let none : position is_hdmi (blocks_of c.args.ext.now) ≡ None = sym (ap (position is_hdmi) c.blocks_of-blocks.ensures) ∙ sym c.first_hdmi.ensures ∙ c.in_err-index.was in
    rw c.from_residual.ensures (ap (option_map (λ (b : DataBlock). phys_at b.payload.items)) (none_found (blocks_of c.args.ext.now) none))

pub spelled_len-requires : goal.spelled_len-requires
spelled_len-requires c =
    let some : position is_hdmi (blocks_of c.args.ext.now) ≡ Some c.in_ok-index.index = sym (ap (position is_hdmi) c.blocks_of-blocks.ensures) ∙ sym c.first_hdmi.ensures ∙ c.in_ok-index.was in
    let room = (placed c.args.ext.now c.in_ok-index.index some).room in
    rw c.blocks_of-blocks.ensures (omega arith)

pub overflow_add-result : goal.overflow_add-result
overflow_add-result c =
    let some : position is_hdmi (blocks_of c.args.ext.now) ≡ Some c.in_ok-index.index = sym (ap (position is_hdmi) c.blocks_of-blocks.ensures) ∙ sym c.first_hdmi.ensures ∙ c.in_ok-index.was in
    let room = (placed c.args.ext.now c.in_ok-index.index some).room in
    let len = rw c.blocks_of-blocks.ensures at c.spelled_len.ensures in
    omega arith

pub returns : goal.returns
returns c =
    let some : position is_hdmi (blocks_of c.args.ext.now) ≡ Some c.in_ok-index.index = sym (ap (position is_hdmi) c.blocks_of-blocks.ensures) ∙ sym c.first_hdmi.ensures ∙ c.in_ok-index.was in
    let all = placed c.args.ext.now c.in_ok-index.index some in
    let room = all.room in
    let place = all.place in
    let len = rw c.blocks_of-blocks.ensures at c.spelled_len.ensures in
    (omega (arith, place), omega arith, all.there)
