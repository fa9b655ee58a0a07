use Rattle.std.proofs.Common.{◌+◌, ◌++◌, codes}
use Rattle.std.specs.List.{flat_map, range_with_len}
use Rattle.capture_wires.proofs.Noting.{then}
use Rattle.capture_wires.specs.Wires.{high_at_first, variable}
use Rattle.capture_wires.proofs.definitions.add_closing_with.Goals as goal

pub returns : goal.returns
returns g c =
    let levels = flat_map high_at_first (range_with_len 0 (c.args.count + 2)) in
    let values = c.args.values.now in
    let start = codes "$upscope $end\n$enddefinitions $end\n#0\n$dumpvars\n" in
    let pulses = variable (c.args.count + 1) (codes "pulses") in
    then _ _ _ (codes "$upscope $end\n") (pulses ++ (start ++ (values ++ (levels ++ codes "$end\n")))) c.add_text.ensures
    (then _ _ _ pulses (start ++ (values ++ (levels ++ codes "$end\n"))) c.add_variable.ensures
    (then _ _ _ start (values ++ (levels ++ codes "$end\n")) c.add_text-2.ensures
    (then _ _ _ values (levels ++ codes "$end\n") c.add_text-3.ensures
    (then _ _ _ levels (codes "$end\n") c.add_highs.ensures c.add_text-4.ensures))))
