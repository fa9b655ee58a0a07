use Rattle.std.proofs.Common.{◌≡◌, ◌∙◌, ap, map, min, sym, true}
use Rattle.line_wave.specs.Bounds.{latest_instant}
use Rattle.capture_scale.specs.Scaled.{cut_edge, is_scalable, scaled_at}
use Rattle.capture_scale.proofs.Stretched.{cut_end, early_of, kept_is, made}
use Rattle.capture_scale.proofs.scaling.scale.Goals as goal

pub new-requires : goal.new-requires
new-requires c =
    let factor = c.args.factor in
    let capture = c.args.capture.now in
    let can : is_scalable factor capture.end ≡ true = ap (is_scalable factor) (sym c.end.ensures.end) ∙ sym c.is_scalable.ensures ∙ c.if-not-is_scalable.false in
    let last = c.cut_at.ensures ∙ ap (λ n. min (scaled_at factor n) latest_instant) c.end-2.ensures.end in
    let cut = c.in_ok-kept.ensures ∙ ap (map (cut_edge factor)) c.edges.ensures.edges in
    made factor c.shortest_kept.result capture.end c.cut_at.result capture.edges c.in_ok-long.long.edges c.in_ok-kept.kept.items c.end.ensures.capture can c.shortest_kept.ensures c.in_ok-long.ensures.edges cut last

pub returns-clause-edges : goal.returns-clause-edges
returns-clause-edges c =
    let factor = c.args.factor in
    let capture = c.args.capture.now in
    let can : is_scalable factor capture.end ≡ true = ap (is_scalable factor) (sym c.end.ensures.end) ∙ sym c.is_scalable.ensures ∙ c.if-not-is_scalable.false in
    let cut = c.in_ok-kept.ensures ∙ ap (map (cut_edge factor)) c.edges.ensures.edges in
    c.new.ensures.0
    ∙ kept_is factor c.shortest_kept.result capture.end capture.edges c.in_ok-long.long.edges c.in_ok-kept.kept.items c.end.ensures.capture can c.shortest_kept.ensures c.in_ok-long.ensures.edges cut

pub returns-clause-end : goal.returns-clause-end
returns-clause-end c =
    let factor = c.args.factor in
    let capture = c.args.capture.now in
    let can : is_scalable factor capture.end ≡ true = ap (is_scalable factor) (sym c.end.ensures.end) ∙ sym c.is_scalable.ensures ∙ c.if-not-is_scalable.false in
    let last = c.cut_at.ensures ∙ ap (λ n. min (scaled_at factor n) latest_instant) c.end-2.ensures.end in
    c.new.ensures.1 ∙ last ∙ cut_end factor capture.end (early_of factor capture.end can)
