use Rattle.std.proofs.Common.{◌≡◌, ℕ, ◌≤◌, List, [], ◌∷◌, ◌++◌, length, get_or, drop, refl, ap, append_assoc, arith}
use Rattle.std.proofs.lemmas.List.{take_rest}
use Rattle.audit_remarks.specs.declared.requests.Request.{Request}
use Rattle.audit_remarks.specs.Requests.{is_over, left_waiting, unless_over}
use Rattle.audit_remarks.proofs.requests.+push_waiting.Goals as goal

-- a request, and the rest
waiting_more : (first : ℕ) (sent : List ℕ) (begin : ℕ) (frame : List ℕ) (waiting : List Request) (none : Request) → 1 ≤ length waiting
    → unless_over (is_over first sent begin frame (get_or waiting 0 none)) (get_or waiting 0 none) ++ left_waiting first sent begin frame (drop 1 waiting)
    ≡ left_waiting first sent begin frame waiting
waiting_more first sent begin frame [] none h = absurd (omega arith)
waiting_more first sent begin frame (r ∷ rs) none h = refl

pub returns : goal.returns
returns t c =
    rw (c.push_waiting.ensures, c.push_unless.ensures, c.is_over.ensures, take_rest, append_assoc)
    (ap (λ (l : List Request). c.args.kept.now.items ++ l) (waiting_more c.args.first c.args.sent.now c.args.begin c.args.frame.now c.args.waiting.now _ c.in-len1-up.len_at_least))
