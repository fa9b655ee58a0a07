use Rattle.std.proofs.Common.{◌<◌, ◌^◌, arith}
use Rattle.std.proofs.lemmas.Nat.{pow_below}
use Rattle.meaning_displayid.proofs.forms.power.Goals as goal

pub returns-clause-small : goal.returns-clause-small
returns-clause-small c =
    let asked = c.requires in
    let low : 2 ^ c.args.exponent < 2147483648 = pow_below c.args.exponent 31 (omega (arith, asked)) in
    omega (arith, low)
