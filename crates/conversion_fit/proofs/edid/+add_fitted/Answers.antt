use Rattle.std.proofs.Common.{◌-◌, length, take, drop}
use Rattle.conversion_fit.proofs.Adding.{more_fitted, parted}
use Rattle.conversion_fit.proofs.edid.+add_fitted.Goals as goal

pub returns-in-len1-up-clause-fitted : goal.returns-in-len1-up-clause-fitted
returns-in-len1-up-clause-fitted t c = λ done h.
    let some = c.args.some.now in
    more_fitted c.args.base.now c.args.extensions.now done c.args.out.now.items c.push.new.self.items c.add_fitted.new.out.items (take (length some - 1) (drop 1 some)) some
    c.ext-item.result c.fitted_ext.result h c.fitted_ext.ensures c.push.ensures.items (parted some c.ext-item.result c.ext-item.result c.in-len1-up.len_at_least c.ext-item.is)
    c.add_fitted.ensures.fitted
