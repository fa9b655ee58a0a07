use Rattle.std.proofs.Common.{IfOk, subst, sym}
use Rattle.cli_choice.specs.declared.choice.EdidReading.{EdidReading}
use Rattle.program_edids.specs.Framed.{IsReadAs}
use Rattle.program_edids.proofs.edid_read.taken.Goals as goal

pub returns-in-MendedOverridden : goal.returns-in-MendedOverridden
returns-in-MendedOverridden c =
    let Q : EdidReading → Type 0 = λ r. IfOk c.mended_overridden.result (λ bytes. IsReadAs r c.args.given.now bytes.items) in
    subst Q (sym c.in-MendedOverridden.is) c.mended_overridden.ensures
