-- The forms of the lines that a session has besides those of a script (own): the table is the code's.
use Rattle.std.specs.Prelude.{List, map}
use Rattle.text_forms.specs.Forms.{Place}
use Rattle.room_lines.specs.declared.session.TheConstants.{SESSION}
use Rattle.room_lines.specs.declared.session.SessionVerb.{SessionVerb}

abbrev pub session_rows : List (SessionVerb × List Place)
session_rows = map (λ r. (r.0, map (λ p. (p.0, p.1.now)) r.1.now)) SESSION.now
