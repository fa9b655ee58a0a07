use Rattle.std.proofs.Common.{◌∙◌, ap}
use Rattle.edid_eld.specs.Display.{before_feed}
use Rattle.edid_eld.proofs.display.name_in.Goals as goal

pub returns-clause-items : goal.returns-clause-items
returns-clause-items c = c.name_from.ensures.items ∙ c.before_feed.ensures.value ∙ ap before_feed c.rest.ensures.value
