use Rattle.std.proofs.Common.{◌≡◌, ℕ, ◌≤◌, List, [], ◌∷◌, ◌++◌, length, get_or, drop, refl, arith}
use Rattle.std.proofs.lemmas.List.{take_rest}
use Rattle.audit_remarks.specs.declared.requests.Request.{Request}
use Rattle.audit_core.specs.Lines.{if_late, late_lines}
use Rattle.audit_core.proofs.Writing.{heard_as}
use Rattle.audit_core.proofs.lines.+hear_late.Goals as goal

-- a request, and the rest
late_more : (begin : ℕ) (waiting : List Request) (none : Request) → 1 ≤ length waiting → if_late begin (get_or waiting 0 none) ++ late_lines begin (drop 1 waiting) ≡ late_lines begin waiting
late_more begin [] none h = absurd (omega arith)
late_more begin (r ∷ rs) none h = refl

pub returns : goal.returns
returns g t c =
    heard_as g.H.LineHearer.hears c.args.out.now c.hear_late.new.out _ _ (rw take_rest (late_more c.args.begin c.args.waiting.now _ c.in-len1-up.len_at_least))
    (g.met.H.LineHearer.then c.args.out.now c.hear_if_late.new.out c.hear_late.new.out _ _ c.hear_if_late.ensures c.hear_late.ensures)
