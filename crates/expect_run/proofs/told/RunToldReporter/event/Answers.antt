use Rattle.std.proofs.Common.{◌≡◌, ◌∙◌, ◌∷◌, [], ap, option_map, refl, sym}
use Rattle.std.specs.Option.{option_copied}
use Rattle.room_trace.specs.TraceText.{error_word}
use Rattle.room_net.specs.Apply.{event_fault}
use Rattle.room_run.specs.Happening.Happening.{OfEvent}
use Rattle.expect_judge.specs.Told.{EventLine}
use Rattle.expect_told.specs.Turns.{event_told}
use Rattle.expect_run.specs.Sifted.{sifted_as}
use Rattle.expect_run.proofs.Sifting.{event_sifted, lost_sifted}
use Rattle.expect_run.proofs.told.RunToldReporter.event.Goals as goal

pub returns-then-not-is_on_time : goal.returns-then-not-is_on_time
returns-then-not-is_on_time g c = λ before applied.
    lost_sifted (sifted_as c.args.self.now) _ (OfEvent c.args.applied.now.at c.args.applied.now.event.now before ∷ []) refl refl refl refl refl

pub returns-in-Ok : goal.returns-in-Ok
returns-in-Ok g c = λ before applied.
    let at = c.args.applied.now.at in
    let e = c.args.applied.now.event.now in
    let event : EventLine = record { at = at; line = e.line; refused = option_copied c.refusal_said.result } in
    let is : event ≡ event_told at e (event_fault before e.event) = λ i. record { at = at; line = e.line; refused = (c.refusal_said.ensures ∙ ap (option_map error_word) applied.refused_is) i } in
    event_sifted (sifted_as c.args.self.now) _ at e before event is refl refl refl refl refl (sym c.is_on_time.ensures ∙ c.if-not-is_on_time.false) refl c.in-Ok.ensures

pub returns-in-Err : goal.returns-in-Err
returns-in-Err g c = λ before applied.
    lost_sifted (sifted_as c.args.self.now) _ (OfEvent c.args.applied.now.at c.args.applied.now.event.now before ∷ []) refl refl refl refl refl
