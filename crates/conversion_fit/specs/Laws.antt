-- What an EDID offers after it was fitted to its link (own).
use Rattle.std.specs.Prelude.{◌≡◌, false}
use Rattle.std.specs.List.{list_any}
use Rattle.edid_core.specs.declared.edid.Edid.{Edid}
use Rattle.rules_link.specs.Offers.{has_format_beyond, is_timing_beyond}
use Rattle.rules_values.specs.ExtParts.{timings_of}
use Rattle.conversion_fit.specs.Whole.{IsFitted}

-- the link carries each of its formats
pub record IsCarried (e : Edid) : Type 0 where
  pub formats : has_format_beyond e.extensions.items ≡ false
  pub timings : list_any (is_timing_beyond e.extensions.items) (timings_of e.base e.extensions.items) ≡ false

abbrev pub AreCarried : Type 0
AreCarried = (e fitted : Edid) → IsFitted e fitted → IsCarried fitted
