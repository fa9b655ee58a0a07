use Rattle.std.proofs.Common.{◌++◌, ◌∙◌, sym}
use Rattle.std.proofs.lemmas.List.{take_rest}
use Rattle.expect_judge.specs.Seen.{is_seen}
use Rattle.text_core.specs.Held.{held_bytes}
use Rattle.expect_run.proofs.Shown.{shown_first, shown_more_at}
use Rattle.expect_run.proofs.report.append_first.Goals as goal

pub rounds-preserved-in_ok-append_shown_round : goal.rounds-preserved-in_ok-append_shown_round
rounds-preserved-in_ok-append_shown_round c =
    rw take_rest
    (shown_more_at (is_seen c.args.span c.args.pattern.now) c.rounds.rest.now _ c.rounds.left (held_bytes c.rounds.out) (held_bytes c.append_shown_round.new.out)
    (held_bytes c.args.out.now ++ shown_first 8 (is_seen c.args.span c.args.pattern.now) c.args.rounds.now)
    c.if-left-eq0.false c.in-len1-up.len_at_least (sym c.is_seen.ensures ∙ c.if-is_seen.true) c.in_ok-append_shown_round.ensures c.rounds.invariant)
