use Rattle.std.proofs.Common.{◌≡◌, ℕ, ◌≤◌, List, [], ◌∷◌, ◌++◌, length, get_or, drop, Option, refl, arith}
use Rattle.std.proofs.lemmas.List.{take_rest}
use Rattle.text_core.proofs.Adding.{then}
use Rattle.record_core.specs.declared.cell.Form.{Form}
use Rattle.audit_report.specs.declared.kinds.KindCount.{KindCount}
use Rattle.audit_report.specs.Texts.{count_text, counts_text}
use Rattle.audit_report.proofs.Six.{adds_as}
use Rattle.audit_report.proofs.texts.+add_counts.Goals as goal

-- a kind, and the rest
counts_more : (form : Form) (who : Option ℕ) (counts : List KindCount) (none : KindCount) → 1 ≤ length counts
    → count_text form who (get_or counts 0 none) ++ counts_text form who (drop 1 counts) ≡ counts_text form who counts
counts_more form who [] none h = absurd (omega arith)
counts_more form who (k ∷ ks) none h = refl

pub returns : goal.returns
returns g t c =
    adds_as c.args.out.now c.add_counts.new.out _ _ (rw take_rest (counts_more c.args.form c.args.who c.args.counts.now _ c.in-len1-up.len_at_least))
    (then c.args.out.now c.add_count.new.out c.add_counts.new.out _ _ c.add_count.ensures c.add_counts.ensures)
