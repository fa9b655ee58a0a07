use Rattle.std.proofs.Common.{ℕ, List, map, string_bytes, subst, sym}
use Rattle.program_captures.specs.Captures.{name_of}
use Rattle.program_captures.specs.Following.{FollowsTo}
use Rattle.cli_words.specs.Named.{named_in}
use Rattle.cli_choice.specs.declared.choice.CommandChoice.{CommandChoice}
use Rattle.cli_choice.specs.Form.{form_by}
use Rattle.record_core.specs.declared.cell.Form.{Form}
use Rattle.program_calls.specs.Done.{IsServed}
use Rattle.program_calls.specs.Live.{Lives}
use Rattle.program_calls.proofs.LiveLemmas.{lived}
use Rattle.program_calls.proofs.ServedLemmas.{followed}
use Rattle.program_calls.proofs.program.Call.serve.Goals as goal

pub returns-in-Live : goal.returns-in-Live
returns-in-Live g c done =
    let known = g.R.Read.remaining c.args.input.now in
    let old = g.W.Sink.contents c.args.out in
    let new = g.W.Sink.contents c.serve_session.result.out in
    let name = name_of (named_in (map string_bytes c.args.self.words.now)) in
    let P : CommandChoice → Type 0 = λ x. IsServed known old new x name in
    let lives : Lives (form_by c.in-Live.json) known old new = subst (λ (form : Form). Lives form known old new) c.form_by.ensures (c.serve_session.ensures done) in
    subst P (sym c.in-Live.is) (lived c.in-Live.json known old new name lives)

pub returns-in-Follow : goal.returns-in-Follow
returns-in-Follow g c done =
    let known = g.R.Read.remaining c.args.input.now in
    let old = g.W.Sink.contents c.args.out in
    let new = g.W.Sink.contents c.serve_capture.result.out in
    let name = name_of (named_in (map string_bytes c.args.self.words.now)) in
    let P : CommandChoice → Type 0 = λ x. IsServed known old new x name in
    subst P (sym c.in-Follow.is)
    (followed c.in-Follow.choice known old new name
    (subst (λ (n : List ℕ). FollowsTo c.in-Follow.choice n known old new) c.signal_of-signal.ensures (c.serve_capture.ensures done)))
