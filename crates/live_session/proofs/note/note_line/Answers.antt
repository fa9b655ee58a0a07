use Rattle.std.proofs.Common.{rules, ◌≡◌, ◌≤◌, ℕ, length, drop, Option, MatchOption, Result, Ok, Err, refl, sym, subst}
use Rattle.room_script.specs.Script.{Gives, Notes, IsLineRead, notes_of}
use Rattle.text_core.specs.declared.at.AtWord.{AtWord}
use Rattle.room_script.specs.declared.script.ScriptCause.{ScriptCause}
use Rattle.live_session.specs.declared.live.Step.{Step}
use Rattle.live_session.specs.Command.{pin_time}
use Rattle.live_session.specs.Note.{IsSettled}
use Rattle.live_session.proofs.Extends.{few_new, line_extends}
use Rattle.live_session.proofs.NoteCalls.{refused_note}
use Rattle.live_session.proofs.note.note_line.Goals as goal

pub settle-requires : goal.settle-requires
settle-requires c =
    let old = notes_of c.args.draft.now in
    let new = notes_of c.take_line.new.draft in
    let count : c.len-2.result ≡ length old.pulses = search rules in
    let e = line_extends c.args.tree.now old c.waiting.result c.args.number c.args.line.now new c.in-Ok.ensures.gives in
    record { few = subst (λ (n : ℕ). length (drop n new.pulses) ≤ 1) (sym count) (few_new old new e) }

pub returns-in-Ok : goal.returns-in-Ok
returns-in-Ok c =
    let old = notes_of c.args.draft.now in
    let new = notes_of c.take_line.new.draft in
    let events : c.len.result ≡ length old.events = search rules in
    let pulses : c.len-2.result ≡ length old.pulses = search rules in
    let e = line_extends c.args.tree.now old c.waiting.result c.args.number c.args.line.now new c.in-Ok.ensures.gives in (
      Ok new,
      subst (λ (waiting : ℕ). IsLineRead c.args.tree.now old waiting c.args.number c.args.line.now (Ok new)) c.waiting.ensures c.in-Ok.ensures.gives,
      subst (λ (given : Option ℕ). IsSettled (record { notes = old; horizon = c.args.horizon.now; net = c.args.net.now }) given (Ok new) c.settle.result (record { notes = notes_of c.settle.new.draft; horizon = c.settle.new.horizon; net = c.settle.new.net }))
          c.pin_time.ensures (c.settle.ensures old c.requires.going e events pulses refl),
    )

pub returns-in-Err : goal.returns-in-Err
returns-in-Err c =
    let old = notes_of c.args.draft.now in
    let new = notes_of c.take_line.new.draft in
    subst (λ (r : Option Step). MatchOption r ((new ≡ old) × (c.args.horizon.now ≡ c.args.horizon.now) × (c.args.net.now ≡ c.args.net.now))
    (λ step. (read : Result Notes (AtWord ScriptCause)) × IsLineRead c.args.tree.now old (length c.args.net.now.pulses) c.args.number c.args.line.now read
    × IsSettled (record { notes = old; horizon = c.args.horizon.now; net = c.args.net.now }) (pin_time c.args.line.now) read step (record { notes = new; horizon = c.args.horizon.now; net = c.args.net.now })))
    (sym c.refused_by.ensures)
    (refused_note c.args.tree.now (length c.args.net.now.pulses) c.args.number c.args.line.now old new c.args.horizon.now c.args.net.now c.in-Err.error
    (subst (λ (waiting : ℕ). Gives new (Err c.in-Err.error) (IsLineRead c.args.tree.now old waiting c.args.number c.args.line.now)) c.waiting.ensures c.in-Err.ensures.gives) c.in-Err.ensures.kept)
