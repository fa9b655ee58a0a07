use Rattle.std.proofs.Common.{◌<◌, ℕ, Bool, false, List, length, get_or, subst, arith}
use Rattle.std.specs.List.{flat_map, range_with_len}
use Rattle.text_core.specs.Adds.{Adds}
use Rattle.text_core.proofs.Adding.{more}
use Rattle.room_trace.specs.PortText.{texts_of_new}
use Rattle.room_trace.proofs.Ports.{range_all, range_in, range_item}
use Rattle.room_trace.proofs.port_text.add_all_new.Goals as goal

pub loop-device-preserved : goal.loop-device-preserved
loop-device-preserved g c =
    let count = length c.args.tree.now in
    let device = c.loop-device.device in
    let texts_of = λ (d : ℕ). texts_of_new c.args.form c.args.at c.args.root.now c.args.tree.now (get_or c.args.was.now d false) d in
    let low : device < count = omega (arith, c.loop-device-test.true, c.count-device-end.ensures.value) in
    let text : Adds c.loop-device.out c.add_new.new.out (texts_of device) =
    subst (λ (was : Bool). Adds c.loop-device.out c.add_new.new.out (texts_of_new c.args.form c.args.at c.args.root.now c.args.tree.now was device)) c.was_on.ensures c.add_new.ensures in
    more texts_of (range_with_len 0 count) device device _ _ _ (range_in 0 count device low) (range_item 0 count device device low (omega arith)) c.loop-device.invariant text

pub returns : goal.returns
returns g c =
    let count = length c.args.tree.now in
    let texts_of = λ (d : ℕ). texts_of_new c.args.form c.args.at c.args.root.now c.args.tree.now (get_or c.args.was.now d false) d in
    subst (λ (ds : List ℕ). Adds c.args.out.now c.loop-device.out (flat_map texts_of ds))
    (range_all 0 count c.loop-device.device (omega (arith, c.loop-device-test.false, c.count-device-end.ensures.value))) c.loop-device.invariant
