use Rattle.std.proofs.Common.{sym, subst, false, take, slice_index_or, List}
use Rattle.capture_core.specs.Edges.{IsCapture}
use Rattle.line_wave.specs.declared.Edge.{Edge}
use Rattle.program_captures.proofs.Fronts.{front_is_capture}
use Rattle.program_captures.proofs.front.front_by.Goals as goal

-- the copy is the front
pub new-requires : goal.new-requires
new-requires c =
    let first : Edge = record { at = 0; low = false } in
    subst (λ (items : List Edge). IsCapture items (slice_index_or c.args.edges.now c.args.count first).at) (sym (c.in_ok-front.ensures.items_if_clones_equal (λ x y e. e)))
    (front_is_capture c.args.count c.args.end c.args.edges.now first c.requires.capture c.requires.some)
