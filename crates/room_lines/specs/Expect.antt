-- The forms of the lines of expectations (own): the table is the code's.
use Rattle.std.specs.Prelude.{List, map}
use Rattle.text_forms.specs.Forms.{Place}
use Rattle.room_lines.specs.declared.expect.TheConstants.{EXPECT}
use Rattle.room_lines.specs.declared.expect.ExpectVerb.{ExpectVerb}

abbrev pub expect_rows : List (ExpectVerb × List Place)
expect_rows = map (λ r. (r.0, map (λ p. (p.0, p.1.now)) r.1.now)) EXPECT.now
