-- What `--json` asks for (own).
use Rattle.std.specs.Prelude.{Bool, true, false}
use Rattle.record_core.specs.declared.cell.Form.{Form}
use Rattle.record_core.specs.declared.cell.Form.TheVariants.{Text, Json}

-- lines as they are, or as objects of JSON
abbrev pub form_by : Bool → Form
form_by false = Text
form_by true = Json
