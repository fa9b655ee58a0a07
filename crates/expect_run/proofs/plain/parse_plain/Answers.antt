use Rattle.std.proofs.Common.{rules, ◌≡◌, ℕ, length, map, Ok, ap, subst, arith}
use Rattle.text_core.specs.Lines.{lines_of}
use Rattle.room_script.specs.Script.{IsLineRead, notes_of}
use Rattle.room_script.proofs.Reading.{line_read}
use Rattle.room_script.proofs.Sound.{tested, line-keeps}
use Rattle.expect_text.specs.Line.{plain_part}
use Rattle.expect_run.proofs.PlainRead.{begun, last_read, few_more}
use Rattle.expect_run.proofs.plain.parse_plain.Goals as goal

pub lines-init : goal.lines-init
lines-init c =
    let start = begun c.args.topology.now.tree c.args.script.now (notes_of c.new-draft.result) c.new-draft.ensures in
    record { leads = start.0; sound = start.1; few = start.2; counts = omega arith }

pub lines-preserved : goal.lines-preserved
lines-preserved c =
    let tree = c.args.topology.now.tree in
    let notes = notes_of c.lines.draft in
    let next = notes_of c.take_line.new.draft in
    let line = plain_part c.in-Some.line.now in
    let shorter = c.in-Some.ensures.shorter in
    let counts = c.lines.invariant.counts in
    let waiting : c.len-waiting.result ≡ length notes.pulses = search rules in
    let gives : IsLineRead tree notes (length notes.pulses) c.lines.number c.plain_part.result.now (Ok next) =
    subst (λ (n : ℕ). IsLineRead tree notes n c.lines.number c.plain_part.result.now (Ok next)) waiting c.in_default-take_line.ensures.gives in
    let taken : IsLineRead tree notes (length notes.pulses) c.lines.number line (Ok next) =
    subst (λ t. IsLineRead tree notes (length notes.pulses) c.lines.number t (Ok next)) c.plain_part.ensures gives in
    record {
      leads = λ read rest. c.lines.invariant.leads read (
          line_read tree (map plain_part (lines_of c.lines.rest.now)) (map plain_part (lines_of c.in-Some.after.now)) line c.lines.number notes next read
          (ap (map plain_part) c.in-Some.ensures.lines) taken rest);
      sound = line-keeps tree notes (length notes.pulses) c.lines.number line next c.lines.invariant.sound taken;
      few = few_more tree notes c.lines.number line next taken c.lines.invariant.few;
      counts = omega arith;
    }

pub finish-requires : goal.finish-requires
finish-requires c =
    let sound = c.lines.invariant.sound in
    let few = c.lines.invariant.few in
    tested (notes_of c.lines.draft).pulses (omega (arith, few)) sound.order sound.wide sound.early

pub returns-clause-gives : goal.returns-clause-gives
returns-clause-gives c =
    (last_read c.args.topology.now.tree c.args.script.now (lines_of c.lines.rest.now) c.lines.number (notes_of c.lines.draft) c.finish.result
    (λ read rest. c.lines.invariant.leads read rest) c.in_default.ensures.lines c.finish.ensures).0

pub returns-clause-script : goal.returns-clause-script
returns-clause-script c =
    (last_read c.args.topology.now.tree c.args.script.now (lines_of c.lines.rest.now) c.lines.number (notes_of c.lines.draft) c.finish.result
    (λ read rest. c.lines.invariant.leads read rest) c.in_default.ensures.lines c.finish.ensures).1
