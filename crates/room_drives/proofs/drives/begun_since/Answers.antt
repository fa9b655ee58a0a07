use Rattle.std.proofs.Common.{◌∙◌, arith, sym}
use Rattle.std.proofs.lemmas.Bool.Decides.{nat_tests}
use Rattle.room_drives.proofs.Begun.{first_since}
use Rattle.room_drives.proofs.drives.begun_since.Goals as goal

pub returns-then-instant-pulse-clause-later : goal.returns-then-instant-pulse-clause-later
returns-then-instant-pulse-clause-later c =
    sym (first_since c.args.instant c.earlier.left.now c.earlier.invariant.order (grind (arith, nat_tests, c.if-instant-pulse.true))) ∙ c.earlier.invariant.same
