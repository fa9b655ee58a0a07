use Rattle.std.proofs.Common.{[], Some, ap, ◌∙◌, append-nil, flat_map}
use Rattle.edid_text_lines.specs.Text.{number_text}
use Rattle.edid_text_lines.specs.declared.line.Fields.TheVariants.{Numbers}
use Rattle.edid_text_lines.proofs.text_to_line.numbers_field.Goals as goal

pub returns-in-None : goal.returns-in-None
returns-in-None c = λ ns l f e. absurd (c.in-None.ensures ns [] l f tt (append-nil (flat_map number_text ns) ∙ e))

pub returns-in-Some : goal.returns-in-Some
returns-in-Some c = λ ns l f e. ap (λ xs. Some (Numbers (record { items = xs }))) (c.in-Some.ensures ns [] l f tt (append-nil (flat_map number_text ns) ∙ e)).0
