use Rattle.std.proofs.Common.{◌≡◌, ℕ, ◌+◌, ◌≤◌, List, [], ◌∷◌, ◌++◌, length, get_or, drop, refl, arith}
use Rattle.std.proofs.lemmas.List.{take_rest}
use Rattle.audit_remarks.specs.declared.counts.FrameCount.{FrameCount}
use Rattle.audit_core.specs.Lines.{count_lines, counts_lines}
use Rattle.audit_core.proofs.Writing.{heard_as}
use Rattle.audit_core.proofs.lines.+hear_counts.Goals as goal

-- an initiator, and the rest
counts_more : (initiator : ℕ) (counts : List FrameCount) (none : FrameCount) → 1 ≤ length counts
    → count_lines initiator (get_or counts 0 none) ++ counts_lines (initiator + 1) (drop 1 counts) ≡ counts_lines initiator counts
counts_more initiator [] none h = absurd (omega arith)
counts_more initiator (c ∷ counts) none h = refl

pub returns : goal.returns
returns g t c =
    heard_as g.H.LineHearer.hears c.args.out.now c.hear_counts.new.out _ _ (rw take_rest (counts_more c.args.initiator c.args.counts.now _ c.in-len1-up.len_at_least))
    (g.met.H.LineHearer.then c.args.out.now c.hear_count.new.out c.hear_counts.new.out _ _ c.hear_count.ensures c.hear_counts.ensures)
