use Rattle.std.proofs.Common.{ℕ, codes, length, map, subst, sym}
use Rattle.std.proofs.lemmas.List.{length-map}
use Rattle.text_core.specs.Adds.{Adds}
use Rattle.capture_as_test.proofs.Frames.{four}
use Rattle.capture_as_test.proofs.lines.add_test.Goals as goal
use Rattle.capture_as_test.specs.Lines.{count_line, frames_text, remark_text}
use Rattle.capture_frames.specs.Frames.{frame_as}

pub returns : goal.returns
returns g c =
    let fs = map frame_as c.args.frames.now in
    four c.args.out.now c.add_frames.new.out c.add_count.new.out c.add_remark.new.out c.add.new.self (frames_text 0 0 fs) (count_line (length fs)) (remark_text c.args.remarked) (codes "capture\n")
    c.add_frames.ensures
    (subst (λ (n : ℕ). Adds c.add_frames.new.out c.add_count.new.out (count_line n)) (sym (length-map c.args.frames.now frame_as)) c.add_count.ensures) c.add_remark.ensures c.add.ensures
