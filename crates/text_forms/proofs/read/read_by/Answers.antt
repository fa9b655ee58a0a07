use Rattle.std.proofs.Common.{◌∙◌, map, sym}
use Rattle.text_core.specs.Words.{words_of}
use Rattle.text_forms.proofs.Faultless.{faultless}
use Rattle.text_forms.proofs.read.read_by.Goals as goal

pub returns : goal.returns
returns g c = faultless c.args.verb (map (λ p. (p.0, p.1.now)) c.args.form.now) (words_of c.args.line.now) (sym c.requires ∙ c.if-lacks.false)
