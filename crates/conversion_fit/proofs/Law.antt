-- What is fitted to its link is carried by it.
use Rattle.conversion_fit.specs.Laws.{AreCarried}
use Rattle.rules_link.specs.Offers.{has_code_beyond, has_typed_beyond}
use Rattle.conversion_fit.proofs.Choices.{none_or}
use Rattle.conversion_fit.proofs.NoCodes.{codes_none}
use Rattle.conversion_fit.proofs.NoTyped.{typed_none}
use Rattle.conversion_fit.proofs.Left.{timings_none}

pub law : AreCarried
law e fitted of = record {
  formats =
      none_or (has_code_beyond fitted.extensions.items) (has_typed_beyond fitted.extensions.items) (codes_none e.base e.extensions.items fitted.extensions.items of.extensions)
      (typed_none e.base e.extensions.items fitted.extensions.items of.extensions);
  timings = timings_none e.base e.extensions.items fitted.extensions.items of.extensions fitted.base of.base;
}
