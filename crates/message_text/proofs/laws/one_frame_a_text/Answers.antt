use Rattle.std.proofs.Common.{◌≡◌, List, ℕ, Option, Some, ◌∙◌}
use Rattle.message_text.specs.FrameText.{frame_text}
use Rattle.message_text.proofs.laws.one_frame_a_text.Goals as goal

one : (f g : List ℕ) (o : Option (List ℕ)) → o ≡ Some f → o ≡ Some g → f ≡ g
one f g o e k = cc

pub returns : goal.returns
returns c = λ e.
    let text : c.deref.result.now ≡ frame_text c.args.first.now = c.deref.ensures.0 ∙ c.frame_text.ensures in
    one c.args.first.now c.args.second.now c.candidate-only.result
    (c.candidate-only.ensures c.args.first.now c.frames_are_whole.ensures text)
    (c.candidate-only.ensures c.args.second.now c.frames_are_whole-2.ensures (text ∙ e))
