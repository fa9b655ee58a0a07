use Rattle.std.proofs.Common.{◌≡◌, ℕ, List, Option, Err, sym, ap, subst}
use Rattle.std.proofs.lemmas.Result.{err_from_is_err_and}
use Rattle.live_session.specs.Session.{Session}
use Rattle.live_dialogue.specs.Dialogue.{HasRoom, IsOpened, IsOpening, held}
use Rattle.live_dialogue.proofs.Putting.{handed_same, is_stuck}
use Rattle.live_dialogue.proofs.Whole.{in_limits, refused_is, refused_quiet, session_is, unopened_is, unopened_limits, unput_is}
use Rattle.live_dialogue.proofs.dialogue.session_heard.Goals as goal

opened_from : (known rest mid : Option (List ℕ)) (text topology : List ℕ) → rest ≡ known → topology ≡ text → IsOpened rest mid text × HasRoom rest → IsOpened known mid topology
opened_from known rest mid text topology same is ready =
    subst (λ (text : List ℕ). IsOpened known mid text) (sym is) (subst (λ (before : Option (List ℕ)). IsOpened before mid text) same ready.0)

-- ---- no topology

pub returns-in_err-topology-clause-limits : goal.returns-in_err-topology-clause-limits
returns-in_err-topology-clause-limits g c =
    let known = g.R.Read.remaining c.args.input.now in
    let after = c.topology_text.new.incoming.rest in
    let p = err_from_is_err_and c.from_residual.result c.from_residual.ensures.1 in
    rw (p.1, p.2)
    (unopened_limits known after c.in_err-topology.field-0.0 (subst (λ (before : Option (List ℕ)). IsOpening before after (Err c.in_err-topology.field-0.0)) c.new-incoming.ensures c.in_err-topology.ensures))

pub returns-in_err-topology-clause-session : goal.returns-in_err-topology-clause-session
returns-in_err-topology-clause-session g c =
    let known = g.R.Read.remaining c.args.input.now in
    let after = c.topology_text.new.incoming.rest in
    let p = err_from_is_err_and c.from_residual.result c.from_residual.ensures.1 in
    rw (p.1, p.2) (
      after,
      unopened_is c.args.form known after (held g.S.Sink.contents c.args.out.now) c.in_err-topology.field-0.0
          (subst (λ (before : Option (List ℕ)). IsOpening before after (Err c.in_err-topology.field-0.0)) c.new-incoming.ensures c.in_err-topology.ensures),
    )

-- ---- one that is refused

pub returns-in-Err-clause-limits : goal.returns-in-Err-clause-limits
returns-in-Err-clause-limits g c =
    let known = g.R.Read.remaining c.args.input.now in
    in_limits known (Err c.in-Err.error) (subst (λ (before : Option (List ℕ)). HasRoom before) c.new-incoming.ensures c.in_ok-topology.ensures.1)

pub returns-in-Err-clause-session : goal.returns-in-Err-clause-session
returns-in-Err-clause-session g c =
    let known = g.R.Read.remaining c.args.input.now in
    let after = c.topology_text.new.incoming.rest in
    let opened = opened_from known c.new-incoming.result.rest after c.in_ok-topology.topology.items c.as_slice.result.now c.new-incoming.ensures c.as_slice.ensures.value c.in_ok-topology.ensures in
    (after, refused_is c.args.form known after after (held g.S.Sink.contents c.args.out.now) c.as_slice.result.now c.in-Err.error opened c.in-Err.ensures)

pub returns-in-Err-clause-handed : goal.returns-in-Err-clause-handed
returns-in-Err-clause-handed g c =
    handed_same is_stuck c.args.out.now (Err c.in-Err.error) (refused_quiet c.as_slice.result.now c.in-Err.error c.in-Err.ensures)

-- ---- what stands first is cut short

pub returns-in_err-put_first-clause-limits : goal.returns-in_err-put_first-clause-limits
returns-in_err-put_first-clause-limits g c =
    let known = g.R.Read.remaining c.args.input.now in
    let p = err_from_is_err_and c.from_residual-in_err-put_first.result c.from_residual-in_err-put_first.ensures.1 in
    rw (p.1, p.2) (in_limits known (Err c.in_err-put_first.field-0.0) (subst (λ (before : Option (List ℕ)). HasRoom before) c.new-incoming.ensures c.in_ok-topology.ensures.1))

pub returns-in_err-put_first-clause-session : goal.returns-in_err-put_first-clause-session
returns-in_err-put_first-clause-session g c =
    let known = g.R.Read.remaining c.args.input.now in
    let after = c.topology_text.new.incoming.rest in
    let opened = opened_from known c.new-incoming.result.rest after c.in_ok-topology.topology.items c.as_slice.result.now c.new-incoming.ensures c.as_slice.ensures.value c.in_ok-topology.ensures in
    let p = err_from_is_err_and c.from_residual-in_err-put_first.result c.from_residual-in_err-put_first.ensures.1 in
    rw (p.1, p.2) (
      after,
      unput_is c.args.form known after after c.in-Ok.live (held g.S.Sink.contents c.args.out.now) (held g.S.Sink.contents c.put_first.new.out) c.as_slice.result.now c.in_err-put_first.field-0.0 opened c.in-Ok.ensures
          c.in_err-put_first.ensures.first,
    )

-- ---- lines are answered

pub answer-requires : goal.answer-requires
answer-requires g c = record { going = ap (λ (s : Session). s.notes.end) c.in-Ok.ensures.is }

pub returns-clause-limits : goal.returns-clause-limits
returns-clause-limits g c =
    let known = g.R.Read.remaining c.args.input.now in
    in_limits known c.answer.result (subst (λ (before : Option (List ℕ)). HasRoom before) c.new-incoming.ensures c.in_ok-topology.ensures.1)

pub returns-clause-session : goal.returns-clause-session
returns-clause-session g c =
    let known = g.R.Read.remaining c.args.input.now in
    let mid = c.topology_text.new.incoming.rest in
    let after = c.answer.new.incoming.rest in
    let opened = opened_from known c.new-incoming.result.rest mid c.in_ok-topology.topology.items c.as_slice.result.now c.new-incoming.ensures c.as_slice.ensures.value c.in_ok-topology.ensures in (
      after,
      session_is c.args.form known mid after c.in-Ok.live (held g.S.Sink.contents c.args.out.now) (held g.S.Sink.contents c.put_first.new.out) (held g.S.Sink.contents c.answer.new.out) c.as_slice.result.now c.answer.result
          opened c.in-Ok.ensures c.in_ok-put_first.ensures.first c.answer.ensures.answered,
    )
