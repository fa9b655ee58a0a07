use Rattle.std.proofs.Common.{◌-◌, length}
use Rattle.room_drives.proofs.Begun.{front, shorter, take_order}
use Rattle.room_drives.proofs.Whole.{of_pulses}
use Rattle.room_drives.proofs.drives.begun_within.Goals as goal

pub slice_bounds-result-count : goal.slice_bounds-result-count
slice_bounds-result-count c = shorter _ c.begun_since-begun.result.now c.begun_since-later.result.now c.begun_since-later.ensures.later

pub returns-clause-order : goal.returns-clause-order
returns-clause-order c = take_order (length c.begun_since-begun.result.now - length c.begun_since-later.result.now) 0 c.begun_since-begun.result.now c.begun_since-begun.ensures.order

pub returns-clause-begun : goal.returns-clause-begun
returns-clause-begun c =
    front c.args.begin c.args.rest c.args.pulses.now c.begun_since-begun.result.now c.begun_since-later.result.now c.begun_since-begun.ensures.order c.begun_since-begun.ensures.later c.begun_since-later.ensures.later

pub returns-clause-ruled : goal.returns-clause-ruled
returns-clause-ruled c =
    of_pulses c.args.begin c.args.pulses.now c.args.rest _
    (front c.args.begin c.args.rest c.args.pulses.now c.begun_since-begun.result.now c.begun_since-later.result.now c.begun_since-begun.ensures.order c.begun_since-begun.ensures.later c.begun_since-later.ensures.later)
