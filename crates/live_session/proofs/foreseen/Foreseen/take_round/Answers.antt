use Rattle.std.proofs.Common.{rules, ◌≡◌, ◌∙◌, sym, subst}
use Rattle.room_net.specs.Progress.{IsProgress}
use Rattle.room_net.specs.State.{NetState}
use Rattle.room_net.specs.Step.{after_round, seats_of}
use Rattle.line_rounds.specs.Round.{IsRound}
use Rattle.live_session.specs.Turns.{AreAhead, IsForeseen}
use Rattle.live_session.proofs.Foreseeing.{known_next}
use Rattle.live_session.proofs.HasText.{ahead_round}
use Rattle.live_session.proofs.foreseen.Foreseen.take_round.Goals as goal

pub take_round-requires-clause-round : goal.take_round-requires-clause-round
take_round-requires-clause-round g c =
    let net : c.deref_mut.result.now ≡ c.args.self.now = c.deref_mut.ensures.value ∙ c.self.view_is in
    let h : IsForeseen c.args.self.now c.foresee-close.new.next = subst (λ (n : NetState). IsForeseen n c.foresee-close.new.next) net c.foresee-close.ensures.kept in
    let same : c.deref_mut-2.result.now ≡ c.deref_mut.result.now = search rules in
    let k = known_next c.args.self.now c.foresee-close.new.next c.in-Some.outcome c.args.begin (search rules) c.requires.begins h in
    subst (λ (n : NetState). IsRound (seats_of n c.args.begin) c.args.begin n.pulses c.in-Some.outcome) (sym (same ∙ net)) k.1.round

pub take_round-requires-clause-progress : goal.take_round-requires-clause-progress
take_round-requires-clause-progress g c =
    let net : c.deref_mut.result.now ≡ c.args.self.now = c.deref_mut.ensures.value ∙ c.self.view_is in
    let h : IsForeseen c.args.self.now c.foresee-close.new.next = subst (λ (n : NetState). IsForeseen n c.foresee-close.new.next) net c.foresee-close.ensures.kept in
    let same : c.deref_mut-2.result.now ≡ c.deref_mut.result.now = search rules in
    let k = known_next c.args.self.now c.foresee-close.new.next c.in-Some.outcome c.args.begin (search rules) c.requires.begins h in
    subst (λ (n : NetState). IsProgress n c.args.begin (after_round n c.args.begin c.in-Some.outcome)) (sym (same ∙ net)) k.2

pub invariant_of-self : goal.invariant_of-self
invariant_of-self g c =
    let before : AreAhead c.deref_mut.result.now = subst AreAhead (sym c.deref_mut.ensures.value) c.self.invariant.1 in
    let same : c.deref_mut-2.result.now ≡ c.deref_mut.result.now = search rules in
    (tt, ahead_round c.args.begin c.deref_mut-2.result.now c.take_round.new.net c.in-Some.outcome c.take_round.ensures.state (subst AreAhead (sym same) before))

pub returns-clause-heard : goal.returns-clause-heard
returns-clause-heard g c =
    let net : c.deref_mut.result.now ≡ c.args.self.now = c.deref_mut.ensures.value ∙ c.self.view_is in
    let h : IsForeseen c.args.self.now c.foresee-close.new.next = subst (λ (n : NetState). IsForeseen n c.foresee-close.new.next) net c.foresee-close.ensures.kept in
    let same : c.deref_mut-2.result.now ≡ c.args.self.now = search rules in
    let k = known_next c.args.self.now c.foresee-close.new.next c.in-Some.outcome c.args.begin (search rules) c.requires.begins h in
    (c.in-Some.outcome, k.0, record { round = k.1.round; after_is = rw same at c.take_round.ensures.state }, c.take_round.ensures.totals, rw same at c.take_round.ensures.heard)
