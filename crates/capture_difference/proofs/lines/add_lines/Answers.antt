use Rattle.std.proofs.Common.{ℕ, Option, map, length, not, is_some, ap, sym, subst, ◌∙◌}
use Rattle.std.specs.List.{flat_map}
use Rattle.std.proofs.lemmas.List.{length-map}
use Rattle.text_core.specs.Adds.{Adds}
use Rattle.text_core.proofs.Adding.{then}
use Rattle.capture_difference.proofs.lines.add_lines.Goals as goal
use Rattle.capture_difference.specs.Lines.{head_text, row_text}
use Rattle.capture_difference.specs.Rows.{FirstRow, first_from, row_as}

pub returns : goal.returns
returns g c =
    let rows = map row_as c.args.rows.now in
    let head = subst (λ (n : ℕ). Adds c.args.out.now c.add_head.new.out (head_text c.args.form n (first_from 0 rows))) (sym (length-map c.args.rows.now row_as))
    (subst (λ (o : Option FirstRow). Adds c.args.out.now c.add_head.new.out (head_text c.args.form (length c.args.rows.now) o)) c.first_difference-first.ensures c.add_head.ensures) in
    record {
      same = c.is_absent.ensures ∙ ap (λ (o : Option FirstRow). not (is_some o)) c.first_difference-first.ensures;
      text = then _ _ _ (head_text c.args.form (length rows) (first_from 0 rows)) (flat_map (row_text c.args.form) rows) head c.add_rows.ensures;
    }
