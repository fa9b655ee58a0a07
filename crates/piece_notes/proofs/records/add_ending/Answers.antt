use Rattle.std.proofs.Common.{subst, sym}
use Rattle.text_core.specs.Adds.{Adds}
use Rattle.audit_judged.specs.declared.endings.EndingRemark.{EndingRemark}
use Rattle.piece_notes.specs.Notes.{ending_text}
use Rattle.piece_notes.proofs.records.add_ending.Goals as goal

pub returns-in-Stray : goal.returns-in-Stray
returns-in-Stray g c = subst (λ (r : EndingRemark). Adds c.args.out.now c.add_stray.new.out (ending_text c.args.form r c.args.who)) (sym c.in-Stray.is) c.add_stray.ensures

pub returns-in-LoneStart : goal.returns-in-LoneStart
returns-in-LoneStart g c = subst (λ (r : EndingRemark). Adds c.args.out.now c.add_lone_start.new.out (ending_text c.args.form r c.args.who)) (sym c.in-LoneStart.is) c.add_lone_start.ensures

pub returns-in-Stuck : goal.returns-in-Stuck
returns-in-Stuck g c = subst (λ (r : EndingRemark). Adds c.args.out.now c.add_stuck.new.out (ending_text c.args.form r c.args.who)) (sym c.in-Stuck.is) c.add_stuck.ensures

pub returns-in-LowDrive : goal.returns-in-LowDrive
returns-in-LowDrive g c = subst (λ (r : EndingRemark). Adds c.args.out.now c.add_drive.new.out (ending_text c.args.form r c.args.who)) (sym c.in-LowDrive.is) c.add_drive.ensures

pub returns-in-Overrun : goal.returns-in-Overrun
returns-in-Overrun g c = subst (λ (r : EndingRemark). Adds c.args.out.now c.add_overrun.new.out (ending_text c.args.form r c.args.who)) (sym c.in-Overrun.is) c.add_overrun.ensures

pub returns-in-Intruder : goal.returns-in-Intruder
returns-in-Intruder g c = subst (λ (r : EndingRemark). Adds c.args.out.now c.add_intruder.new.out (ending_text c.args.form r c.args.who)) (sym c.in-Intruder.is) c.add_intruder.ensures

pub returns-in-TooLong : goal.returns-in-TooLong
returns-in-TooLong g c = subst (λ (r : EndingRemark). Adds c.args.out.now c.add_too_long.new.out (ending_text c.args.form r c.args.who)) (sym c.in-TooLong.is) c.add_too_long.ensures

pub returns-in-Unfinished : goal.returns-in-Unfinished
returns-in-Unfinished g c = subst (λ (r : EndingRemark). Adds c.args.out.now c.add_unfinished.new.out (ending_text c.args.form r c.args.who)) (sym c.in-Unfinished.is) c.add_unfinished.ensures

pub returns-in-Stops : goal.returns-in-Stops
returns-in-Stops g c = subst (λ (r : EndingRemark). Adds c.args.out.now c.add_stops.new.out (ending_text c.args.form r c.args.who)) (sym c.in-Stops.is) c.add_stops.ensures

pub returns-in-AfterEnd : goal.returns-in-AfterEnd
returns-in-AfterEnd g c = subst (λ (r : EndingRemark). Adds c.args.out.now c.add_after_end.new.out (ending_text c.args.form r c.args.who)) (sym c.in-AfterEnd.is) c.add_after_end.ensures
