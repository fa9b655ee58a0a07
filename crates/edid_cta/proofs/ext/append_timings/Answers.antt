use Rattle.std.proofs.Common.{◌≤◌, ◌+◌, ◌++◌, length, ◌∙◌, ap, arith, refl}
use Rattle.edid_base.specs.Timing.{timing_bytes}
use Rattle.edid_cta.proofs.Growing.{room_for, grown}
use Rattle.edid_cta.proofs.ext.append_timings.Goals as goal

pub append-requires : goal.append-requires
append-requires c =
    let room = room_for timing_bytes c.args.timings.now c.loop-timing.timing-index c.timing-item.result c.args.out.now.items c.loop-timing.out.items
    c.loop-timing-test.true c.timing-item.is c.loop-timing.invariant c.requires in
    let same = ap length c.write.ensures in
    let all : length c.loop-timing.out.items + length c.write.result ≤ 123 = omega (arith, room, same) in
    (omega arith, all)

pub loop-timing-preserved : goal.loop-timing-preserved
loop-timing-preserved c =
    grown timing_bytes c.args.timings.now c.loop-timing.timing-index c.timing-item.result c.args.out.now.items c.loop-timing.out.items c.append.new.block.items _
    c.loop-timing-test.true c.timing-item.is c.loop-timing.invariant (c.append.ensures.items ∙ ap (λ x. c.loop-timing.out.items ++ x) c.write.ensures) refl
