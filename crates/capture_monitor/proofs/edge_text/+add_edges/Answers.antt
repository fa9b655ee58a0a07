use Rattle.std.proofs.Common.{◌≡◌, ◌∙◌, ◌++◌, ℕ, List, take, drop, subst, sym, ap}
use Rattle.std.proofs.lemmas.Grind.{flat_map-append}
use Rattle.std.proofs.lemmas.List.{take-append-drop}
use Rattle.line_wave.specs.declared.Stretch.{Stretch}
use Rattle.text_core.specs.Adds.{Adds}
use Rattle.text_core.proofs.Adding.{then}
use Rattle.capture_monitor.specs.EdgeText.{edge_lines, stretch_lines}
use Rattle.capture_monitor.proofs.edge_text.+add_edges.Goals as goal

-- the lines of the first few and of the others are those of all
parts : (k : ℕ) (all few others : List Stretch) → few ≡ take k all → others ≡ drop k all → edge_lines few ++ edge_lines others ≡ edge_lines all
parts k all few others front back =
    sym (flat_map-append stretch_lines few others) ∙ (ap (λ (xs : List Stretch). edge_lines (xs ++ others)) front
    ∙ (ap (λ (xs : List Stretch). edge_lines (take k all ++ xs)) back ∙ ap edge_lines (take-append-drop k all)))

pub returns : goal.returns
returns g t c =
    let few = c.split_at.result.0.now in
    let others = c.split_at.result.1.now in
    let whole = parts c.min.result c.args.stretches.now few others c.split_at.ensures.front c.split_at.ensures.back in
    subst (λ (text : List ℕ). Adds c.args.out.now c.add_edges.new.out text) whole (then _ _ _ (edge_lines few) (edge_lines others) c.add_few.ensures c.add_edges.ensures)
