use Rattle.std.proofs.Common.{◌-◌, ◌+◌, ◌<◌, ◌≤◌, ℕ, [], ◌∷◌, ◌++◌, map, take, ◌∙◌, arith, subst, sym, false, ◌≡◌, List}
use Rattle.std.specs.List.{list_any}
use Rattle.line_wave.specs.declared.Stretch.{Stretch}
use Rattle.line_wave.specs.Line.{line_of}
use Rattle.text_core.specs.Adds.{Adds}
use Rattle.capture_wires.specs.Noted.{noted, noted_instant, noted_text}
use Rattle.capture_wires.proofs.Left.{more_instants}
use Rattle.capture_wires.proofs.Noting.{then}
use Rattle.capture_wires.proofs.Quiet.{is_end}
use Rattle.capture_wires.proofs.noted.add_noted_wires.Goals as goal

pub instants-preserved : goal.instants-preserved
instants-preserved g c =
    let wires = c.args.line.now ∷ (c.args.drives.now ++ c.args.pulses.now ∷ []) in
    let two = c.args.line.now ∷ (c.args.drives.now ++ take 2 c.not_over-left.result.now ∷ []) in
    let notes = map noted c.args.notes.now in
    let quiet = subst (λ (ss : List Stretch). (u : ℕ) → c.instants.t < u → u < c.next_end.result → list_any (is_end u) ss ≡ false) c.next_two-next.ensures c.next_end.ensures.quiet in
    let added = subst (λ (ss : List Stretch). Adds c.instants.out c.add_instant.new.out (noted_instant (c.args.line.now ∷ (c.args.drives.now ++ ss ∷ [])) notes c.instants.t)) c.next_two-next.ensures c.add_instant.ensures in
    let same : (u : ℕ) → c.instants.t ≤ u + 1 → line_of c.not_over-left.result.now u ≡ line_of c.args.pulses.now u = λ u l. c.not_over-left.ensures.same u l ∙ c.instants.invariant.same u l in
    let whole = more_instants c.args.line.now c.args.drives.now c.args.pulses.now c.not_over-left.result.now notes c.args.from c.instants.t c.next_note-t.result c.next_end-change.result c.next_end_of.result c.next_end.result
    c.instants.invariant.after c.next_note-t.ensures.later c.next_note-t.ensures.bounded c.next_end-change.ensures.bounded c.next_end_of.ensures.bounded
    c.not_over-left.ensures.order c.not_over-left.ensures.first same c.next_note-t.ensures.quiet c.next_end-change.ensures.quiet c.next_end_of.ensures.quiet quiet in
    record {
      so_far = subst (Adds c.args.out.now c.add_instant.new.out) (sym whole)
          (then _ _ _ (noted_text wires notes c.args.from (c.instants.t - c.args.from)) (noted_instant two notes c.instants.t) c.instants.invariant.so_far added);
      after = omega (arith, c.instants.invariant.after, c.next_note-t.ensures.later);
      before = omega (arith, c.next_note-t.ensures.bounded, c.next_end-change.ensures.bounded, c.next_end_of.ensures.bounded, c.next_end.ensures.bounded);
      order = c.not_over-left.ensures.order;
      same = λ u l. same u (omega (arith, l, c.next_note-t.ensures.later));
    }
