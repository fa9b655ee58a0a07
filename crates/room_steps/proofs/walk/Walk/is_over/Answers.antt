use Rattle.std.proofs.Common.{rules, ◌≡◌, ◌∙◌, ℕ, false, is_some, ap, sym, refl}
use Rattle.room_steps.specs.Ready.{point_of, run_of, written_in}
use Rattle.room_steps.specs.Steps.{Steps, turn_at, after_events}
use Rattle.room_run.specs.declared.run.Turn.TheVariants.{Round}
use Rattle.room_steps.proofs.Over.{begun_is, over_found}
use Rattle.room_steps.proofs.walk.Walk.is_over.Goals as goal

pub returns : goal.returns
returns c =
    let s = c.args.self.now in
    let here = c.self.inside in
    let es = here.input.events.items in
    let shown : run_of here.input ≡ s.run = search rules in
    let none : is_some s.begun ≡ false = sym (ap (λ (x : Steps). is_some x.begun) c.self.view_is) ∙ sym (begun_is here.is_begun (written_in here.ahead (point_of es here.inside))) ∙ c.if-self.false in
    over_found (λ (begin : ℕ). turn_at here.input.end (after_events here.input.end (point_of es c.copy_last.new.place)) ≡ Round begin) here.input s c.copy_last.new.place c.copy_last.new.place
    c.pass_events.result c.is_none.result shown refl c.copy_last.ensures.last none c.pass_events.ensures.comes c.is_none.ensures
