-- The forms of the lines of scripts (own): the table is the code's.
use Rattle.std.specs.Prelude.{List, map}
use Rattle.text_forms.specs.Forms.{Place}
use Rattle.room_lines.specs.declared.script.TheConstants.{SCRIPT}
use Rattle.room_lines.specs.declared.script.ScriptVerb.{ScriptVerb}

abbrev pub script_rows : List (ScriptVerb × List Place)
script_rows = map (λ r. (r.0, map (λ p. (p.0, p.1.now)) r.1.now)) SCRIPT.now
