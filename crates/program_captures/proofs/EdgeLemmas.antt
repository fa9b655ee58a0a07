-- The lines of edges, added one after another.
use Rattle.std.proofs.Common.{◌≡◌, ℕ, true, List, take, drop, take-append-drop, ap, sym, subst, ◌∙◌}
use Rattle.std.specs.List.{flat_map}
use Rattle.std.proofs.lemmas.Grind.{flat_map-append}
use Rattle.line_wave.specs.declared.Edge.{Edge}
use Rattle.text_core.specs.Adds.{Adds, Tally}
use Rattle.text_core.proofs.Adding.{cut_short}
use Rattle.program_captures.specs.Edges.{edge_line}

-- after a fault the first ones are a front of all
pub edges_cut : (edges : List Edge) (n : ℕ) (a b : Tally) → b.failed ≡ true → Adds a b (flat_map edge_line (take n edges)) → Adds a b (flat_map edge_line edges)
edges_cut edges n a b failed adds =
    subst (λ (text : List ℕ). Adds a b text) (sym (flat_map-append edge_line (take n edges) (drop n edges)) ∙ ap (flat_map edge_line) (take-append-drop n edges))
    (cut_short a b (flat_map edge_line (take n edges)) (flat_map edge_line (drop n edges)) failed adds)
