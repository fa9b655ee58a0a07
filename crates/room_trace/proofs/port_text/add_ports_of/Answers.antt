use Rattle.std.proofs.Common.{◌+◌, ◌<◌, ℕ, List, subst, arith}
use Rattle.std.specs.List.{flat_map, range_with_len}
use Rattle.edid_tree.specs.Tree.{ports_of}
use Rattle.text_core.specs.Adds.{Adds}
use Rattle.text_core.proofs.Adding.{more}
use Rattle.room_trace.specs.PortText.{port_text}
use Rattle.room_trace.proofs.Ports.{range_all, range_in, range_item}
use Rattle.room_trace.proofs.port_text.add_ports_of.Goals as goal

pub loop-port-preserved : goal.loop-port-preserved
loop-port-preserved g c =
    let ports = ports_of c.args.tree.now c.args.device in
    let port = c.loop-port.port in
    let low : port < ports = omega (arith, c.loop-port-test.true, c.ports-port-end.ensures.value) in
    more (port_text c.args.form c.args.at c.args.root.now c.args.tree.now c.args.device) (range_with_len 1 ports) port (port + 1) _ _ _
    (range_in 1 ports port low) (range_item 1 ports port (port + 1) low (omega arith)) c.loop-port.invariant c.add_port.ensures

pub returns : goal.returns
returns g c =
    let ports = ports_of c.args.tree.now c.args.device in
    let text_of = port_text c.args.form c.args.at c.args.root.now c.args.tree.now c.args.device in
    subst (λ (ps : List ℕ). Adds c.args.out.now c.loop-port.out (flat_map text_of ps))
    (range_all 1 ports c.loop-port.port (omega (arith, c.loop-port-test.false, c.ports-port-end.ensures.value))) c.loop-port.invariant
