use Rattle.std.proofs.Common.{◌∙◌, Option, map, string_bytes, subst, sym}
use Rattle.cli_words.specs.Named.{named_in}
use Rattle.cli_choice.specs.declared.choice.CapturePair.{CapturePair}
use Rattle.program_captures.specs.Captures.{name_of}
use Rattle.program_calls.specs.Done.{AreServedBy}
use Rattle.program_calls.proofs.program.Call.serve_together.Goals as goal

pub returns-in-Some : goal.returns-in-Some
returns-in-Some g c done =
    let P : Option CapturePair → Type 0 = λ o. AreServedBy o c.args.self.asked.choice (name_of (named_in (map string_bytes c.args.self.words.now))) (map string_bytes c.args.names.now) (g.F.Opens.held c.args.files.now) (g.W.Sink.contents c.args.out) (g.W.Sink.contents c.serve_pair.result.out) in
    subst P (sym c.in-Some.is ∙ c.captures_of.ensures) (c.serve_pair.ensures done)

pub returns-in-None : goal.returns-in-None
returns-in-None g c done =
    let P : Option CapturePair → Type 0 = λ o. AreServedBy o c.args.self.asked.choice (name_of (named_in (map string_bytes c.args.self.words.now))) (map string_bytes c.args.names.now) (g.F.Opens.held c.args.files.now) (g.W.Sink.contents c.args.out) (g.W.Sink.contents c.serve_joined.result.out) in
    subst P (sym c.in-None.is ∙ c.captures_of.ensures) (c.serve_joined.ensures done)
