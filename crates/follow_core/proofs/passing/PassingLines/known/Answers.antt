use Rattle.follow_core.specs.Lines.{lines_left}
use Rattle.std.proofs.Common.{subst, ℕ}
use Rattle.capture_through.specs.Through.{IsKnown}
use Rattle.follow_core.specs.Lines.{from_of}
use Rattle.follow_core.proofs.Onward.{from_rest, known_left}
use Rattle.follow_core.proofs.passing.PassingLines.known.Goals as goal

pub returns-clause-known : goal.returns-clause-known
returns-clause-known c = λ signal number.
    let p = c.args.self.now in
    let known = subst (λ (n : ℕ). IsKnown p.through n c.known.result) c.from.ensures.from c.known.ensures in
    record {
      lag = known.lag;
      none = λ rest d h.
          known_left p.through (from_of p.lines) c.known.result (lines_left signal p.lines number rest) d known
          (λ e k. from_rest c.edge_lines_go_on.ensures c.pin_lines_go_on.ensures c.csv_lines_go_on.ensures signal p.lines number rest e c.requires.lines k) h;
    }
