use Rattle.std.proofs.Common.{◌≡◌, ℕ, ◌≤◌, List, [], ◌∷◌, ◌++◌, length, get_or, drop, refl, arith}
use Rattle.std.proofs.lemmas.List.{take_rest}
use Rattle.audit_remarks.specs.declared.requests.Request.{Request}
use Rattle.audit_core.specs.Lines.{answer_lines, answers_lines}
use Rattle.audit_core.proofs.Writing.{heard_as}
use Rattle.audit_core.proofs.lines.+hear_answers.Goals as goal

-- a request, and the rest
answers_more : (first : ℕ) (sent : List ℕ) (begin : ℕ) (frame : List ℕ) (waiting : List Request) (none : Request) → 1 ≤ length waiting
    → answer_lines first sent begin frame (get_or waiting 0 none) ++ answers_lines first sent begin frame (drop 1 waiting) ≡ answers_lines first sent begin frame waiting
answers_more first sent begin frame [] none h = absurd (omega arith)
answers_more first sent begin frame (r ∷ rs) none h = refl

pub returns : goal.returns
returns g t c =
    heard_as g.H.LineHearer.hears c.args.out.now c.hear_answers.new.out _ _ (rw take_rest (answers_more c.args.first c.args.sent.now c.args.begin c.args.frame.now c.args.waiting.now _ c.in-len1-up.len_at_least))
    (g.met.H.LineHearer.then c.args.out.now c.hear_answer.new.out c.hear_answers.new.out _ _ c.hear_answer.ensures c.hear_answers.ensures)
