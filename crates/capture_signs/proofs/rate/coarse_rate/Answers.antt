use Rattle.std.proofs.Common.{◌≡◌, ℕ, ◌-◌, ◌<◌, ◌≤◌, true, ap, sym, ◌∙◌, option_map, Option, arith}
use Rattle.line_reading.proofs.Search.{first_in_none, first_in_some}
use Rattle.capture_signs.specs.Rates.{are_multiples, coarsest}
use Rattle.capture_signs.proofs.rate.coarse_rate.Goals as goal

pub returns-then-are_multiples : goal.returns-then-are_multiples
returns-then-are_multiples c =
    let last : c.loop-step.step < 750 = let t = c.loop-step-test.true in omega arith in
    let met : are_multiples (coarsest - c.loop-step.step) c.args.edges.now ≡ true = sym c.are_multiples.ensures ∙ c.if-are_multiples.true in
    ap (λ (o : Option ℕ). option_map (λ (k : ℕ). coarsest - k) o)
    (sym (first_in_some (λ (k : ℕ). are_multiples (coarsest - k) c.args.edges.now) 0 750 c.loop-step.step (omega arith) last met (λ u l m. c.loop-step.invariant u m)))

pub returns : goal.returns
returns c =
    let last : 750 ≤ c.loop-step.step = let t = c.loop-step-test.false in omega arith in
    ap (λ (o : Option ℕ). option_map (λ (k : ℕ). coarsest - k) o)
    (sym (first_in_none (λ (k : ℕ). are_multiples (coarsest - k) c.args.edges.now) 0 750 (λ u l m. c.loop-step.invariant u (omega arith))))
