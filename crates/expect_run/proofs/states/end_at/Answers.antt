use Rattle.std.proofs.Common.{List, ℕ, subst, ◌∙◌}
use Rattle.room_run.specs.Emulate.{IsReported}
use Rattle.expect_run.proofs.Refusals.{IsWant, not_refused_earlier}
use Rattle.expect_run.proofs.Standing.{end_of_run}
use Rattle.expect_run.proofs.states.end_at.Goals as goal

pub unreachable-requires-in-Script : goal.unreachable-requires-in-Script
unreachable-requires-in-Script c =
    let traced = c.requires.traced in
    let reported = subst (λ (s : List ℕ). IsReported c.args.topology.now s c.in-Err.error) (c.deref.ensures.value ∙ c.in_ok-cut.ensures) c.in-Err.ensures.reported in
    subst IsWant c.in-Script.is (not_refused_earlier c.one_script.ensures c.args.topology.now c.args.plain.now traced.0 c.args.time traced.1 c.in-Err.error c.requires.early traced.2 reported)

pub unreachable-requires-in-Edid : goal.unreachable-requires-in-Edid
unreachable-requires-in-Edid c =
    let traced = c.requires.traced in
    let reported = subst (λ (s : List ℕ). IsReported c.args.topology.now s c.in-Err.error) (c.deref.ensures.value ∙ c.in_ok-cut.ensures) c.in-Err.ensures.reported in
    subst IsWant c.in-Edid.is (not_refused_earlier c.one_script.ensures c.args.topology.now c.args.plain.now traced.0 c.args.time traced.1 c.in-Err.error c.requires.early traced.2 reported)

pub returns-in-Ok : goal.returns-in-Ok
returns-in-Ok c =
    end_of_run (λ r x s. Unit {0}) c.args.topology.now c.args.plain.now c.deref.result.now c.args.time _ _ c.in-Ok.net.value
    (c.deref.ensures.value ∙ c.in_ok-cut.ensures) c.in-Ok.ensures.ok
