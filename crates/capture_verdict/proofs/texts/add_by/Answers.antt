use Rattle.std.proofs.Common.{codes, subst, sym}
use Rattle.text_core.specs.Adds.{Adds}
use Rattle.record_core.specs.Records.{record_text}
use Rattle.capture_verdict.specs.declared.verdict.Verdict.{Verdict}
use Rattle.capture_verdict.specs.Texts.{cells_of}
use Rattle.capture_verdict.proofs.texts.add_by.Goals as goal

pub returns-in-Empty : goal.returns-in-Empty
returns-in-Empty g c =
    subst (λ (v : Verdict). Adds c.args.out.now c.add_plain.new.out (record_text c.args.form (codes "verdict") (cells_of v c.args.word.now c.args.sentence.now))) (sym c.in-Empty.is) c.add_plain.ensures

pub returns-in-Idle : goal.returns-in-Idle
returns-in-Idle g c =
    subst (λ (v : Verdict). Adds c.args.out.now c.add_time.new.out (record_text c.args.form (codes "verdict") (cells_of v c.args.word.now c.args.sentence.now))) (sym c.in-Idle.is) c.add_time.ensures

pub returns-in-MidFrame : goal.returns-in-MidFrame
returns-in-MidFrame g c =
    subst (λ (v : Verdict). Adds c.args.out.now c.add_frames.new.out (record_text c.args.form (codes "verdict") (cells_of v c.args.word.now c.args.sentence.now))) (sym c.in-MidFrame.is) c.add_frames.ensures

pub returns-in-Fine : goal.returns-in-Fine
returns-in-Fine g c =
    subst (λ (v : Verdict). Adds c.args.out.now c.add_frames-in-Fine.new.out (record_text c.args.form (codes "verdict") (cells_of v c.args.word.now c.args.sentence.now))) (sym c.in-Fine.is) c.add_frames-in-Fine.ensures

pub returns-in-Hum : goal.returns-in-Hum
returns-in-Hum g c =
    subst (λ (v : Verdict). Adds c.args.out.now c.add_time-in-Hum.new.out (record_text c.args.form (codes "verdict") (cells_of v c.args.word.now c.args.sentence.now))) (sym c.in-Hum.is) c.add_time-in-Hum.ensures

pub returns-in-Inverted : goal.returns-in-Inverted
returns-in-Inverted g c =
    subst (λ (v : Verdict). Adds c.args.out.now c.add_turn.new.out (record_text c.args.form (codes "verdict") (cells_of v c.args.word.now c.args.sentence.now))) (sym c.in-Inverted.is) c.add_turn.ensures

pub returns-in-Glitches : goal.returns-in-Glitches
returns-in-Glitches g c =
    subst (λ (v : Verdict). Adds c.args.out.now c.add_glitch.new.out (record_text c.args.form (codes "verdict") (cells_of v c.args.word.now c.args.sentence.now))) (sym c.in-Glitches.is) c.add_glitch.ensures

pub returns-in-TimeUnit : goal.returns-in-TimeUnit
returns-in-TimeUnit g c =
    subst (λ (v : Verdict). Adds c.args.out.now c.add_time-in-TimeUnit.new.out (record_text c.args.form (codes "verdict") (cells_of v c.args.word.now c.args.sentence.now))) (sym c.in-TimeUnit.is) c.add_time-in-TimeUnit.ensures

pub returns-in-Stuck : goal.returns-in-Stuck
returns-in-Stuck g c =
    subst (λ (v : Verdict). Adds c.args.out.now c.add_time-in-Stuck.new.out (record_text c.args.form (codes "verdict") (cells_of v c.args.word.now c.args.sentence.now))) (sym c.in-Stuck.is) c.add_time-in-Stuck.ensures

pub returns-in-Rate : goal.returns-in-Rate
returns-in-Rate g c =
    subst (λ (v : Verdict). Adds c.args.out.now c.add_time-in-Rate.new.out (record_text c.args.form (codes "verdict") (cells_of v c.args.word.now c.args.sentence.now))) (sym c.in-Rate.is) c.add_time-in-Rate.ensures

pub returns-in-Nearly : goal.returns-in-Nearly
returns-in-Nearly g c =
    subst (λ (v : Verdict). Adds c.args.out.now c.add_margin.new.out (record_text c.args.form (codes "verdict") (cells_of v c.args.word.now c.args.sentence.now))) (sym c.in-Nearly.is) c.add_margin.ensures

pub returns-in-Clock : goal.returns-in-Clock
returns-in-Clock g c =
    subst (λ (v : Verdict). Adds c.args.out.now c.add_time-in-Clock.new.out (record_text c.args.form (codes "verdict") (cells_of v c.args.word.now c.args.sentence.now))) (sym c.in-Clock.is) c.add_time-in-Clock.ensures

pub returns-in-Bus : goal.returns-in-Bus
returns-in-Bus g c =
    subst (λ (v : Verdict). Adds c.args.out.now c.add_count.new.out (record_text c.args.form (codes "verdict") (cells_of v c.args.word.now c.args.sentence.now))) (sym c.in-Bus.is) c.add_count.ensures

pub returns-in-Short : goal.returns-in-Short
returns-in-Short g c =
    subst (λ (v : Verdict). Adds c.args.out.now c.add_count-in-Short.new.out (record_text c.args.form (codes "verdict") (cells_of v c.args.word.now c.args.sentence.now))) (sym c.in-Short.is) c.add_count-in-Short.ensures

pub returns-in-Noise : goal.returns-in-Noise
returns-in-Noise g c =
    subst (λ (v : Verdict). Adds c.args.out.now c.add_count-in-Noise.new.out (record_text c.args.form (codes "verdict") (cells_of v c.args.word.now c.args.sentence.now))) (sym c.in-Noise.is) c.add_count-in-Noise.ensures

pub returns-in-Odd : goal.returns-in-Odd
returns-in-Odd g c =
    subst (λ (v : Verdict). Adds c.args.out.now c.add_frames-in-Odd.new.out (record_text c.args.form (codes "verdict") (cells_of v c.args.word.now c.args.sentence.now))) (sym c.in-Odd.is) c.add_frames-in-Odd.ensures
