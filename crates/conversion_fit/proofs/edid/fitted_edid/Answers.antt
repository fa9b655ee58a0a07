use Rattle.conversion_fit.proofs.Adding.{whole_fitted}
use Rattle.conversion_fit.proofs.edid.fitted_edid.Goals as goal

pub returns : goal.returns
returns c =
    whole_fitted c.args.edid.now _ c.as_slice-extensions.result.now c.new-fitted.result.items c.as_slice-extensions.ensures.value c.new-fitted.ensures c.fitted_base.ensures
    c.add_fitted.ensures.fitted
