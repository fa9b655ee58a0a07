use Rattle.std.proofs.Common.{rules, ◌≡◌, ℕ, length, Ok, subst, arith}
use Rattle.text_core.specs.Lines.{lines_of}
use Rattle.room_script.specs.Script.{IsLineRead, notes_of}
use Rattle.room_script.proofs.Adding.{few_pulses}
use Rattle.room_script.proofs.Reading.{line_read, last_line}
use Rattle.room_script.proofs.Sound.{answer_given, tested, line-keeps}
use Rattle.room_script.proofs.script.parse_script.Goals as goal

pub loop-line-preserved : goal.loop-line-preserved
loop-line-preserved c =
    let tree = c.args.topology.now.tree in
    let notes = notes_of c.loop-line.draft in
    let next = notes_of c.take_line.new.draft in
    let shorter = c.in-Some.ensures.shorter in
    let counts = c.loop-line.invariant.counts in
    let waiting : c.len-waiting.result ≡ length notes.pulses = search rules in
    let gives : IsLineRead tree notes (length notes.pulses) c.loop-line.number c.in-Some.line.now (Ok next) =
    subst (λ (n : ℕ). IsLineRead tree notes n c.loop-line.number c.in-Some.line.now (Ok next)) waiting c.in_default-take_line.ensures.gives in
    record {
      reads = λ read rest. c.loop-line.invariant.reads read (
          line_read tree (lines_of c.loop-line.rest.now) (lines_of c.in-Some.after.now) c.in-Some.line.now c.loop-line.number notes next read c.in-Some.ensures.lines gives rest);
      sound = line-keeps tree notes (length notes.pulses) c.loop-line.number c.in-Some.line.now next c.loop-line.invariant.sound gives;
      few = few_pulses tree notes c.loop-line.number c.in-Some.line.now next gives c.loop-line.invariant.few;
      counts = omega arith;
    }

pub finish-requires : goal.finish-requires
finish-requires c =
    let sound = c.loop-line.invariant.sound in
    let few = c.loop-line.invariant.few in
    tested (notes_of c.loop-line.draft).pulses (omega (arith, few)) sound.order sound.wide sound.early

pub returns-clause-gives : goal.returns-clause-gives
returns-clause-gives c =
    let tree = c.args.topology.now.tree in
    let last = last_line tree (lines_of c.loop-line.rest.now) c.loop-line.number (notes_of c.loop-line.draft) c.in_default.ensures.lines in
    (answer_given tree c.args.text.now _ c.finish.result (c.loop-line.invariant.reads _ last) c.finish.ensures).0

pub returns-clause-script : goal.returns-clause-script
returns-clause-script c =
    let tree = c.args.topology.now.tree in
    let last = last_line tree (lines_of c.loop-line.rest.now) c.loop-line.number (notes_of c.loop-line.draft) c.in_default.ensures.lines in
    (answer_given tree c.args.text.now _ c.finish.result (c.loop-line.invariant.reads _ last) c.finish.ensures).1
