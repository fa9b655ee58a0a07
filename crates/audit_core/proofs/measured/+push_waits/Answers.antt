use Rattle.std.proofs.Common.{◌≡◌, ℕ, ◌≤◌, List, [], ◌∷◌, ◌++◌, length, get_or, drop, refl, ap, append_assoc, arith}
use Rattle.std.proofs.lemmas.List.{take_rest}
use Rattle.audit_remarks.specs.declared.requests.Request.{Request}
use Rattle.audit_remarks.specs.Requests.{is_answer, waited}
use Rattle.audit_core.specs.Measured.{waits_in, waits_unless}
use Rattle.audit_core.proofs.measured.+push_waits.Goals as goal

-- a request, and the rest
waits_more : (begin : ℕ) (frame : List ℕ) (waiting : List Request) (none : Request) → 1 ≤ length waiting
    → waits_unless (is_answer begin frame (get_or waiting 0 none)) (waited begin (get_or waiting 0 none)) ++ waits_in begin frame (drop 1 waiting) ≡ waits_in begin frame waiting
waits_more begin frame [] none h = absurd (omega arith)
waits_more begin frame (r ∷ rs) none h = refl

pub returns : goal.returns
returns t c =
    rw (c.push_waits.ensures, c.push_unless.ensures, c.is_answer.ensures, c.waited.ensures, take_rest, append_assoc)
    (ap (λ (l : List ℕ). c.args.waits.now.items ++ l) (waits_more c.args.begin c.args.frame.now c.args.waiting.now _ c.in-len1-up.len_at_least))
