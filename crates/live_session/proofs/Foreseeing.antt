-- What the next round of a network gives, where it was run already.
use Rattle.std.proofs.Common.{◌≡◌, ◌∙◌, ap, arith, ℕ, ◌<◌, ◌≤◌, nat_le, Bool, true, false, Option, Some, None, IsSome, IfSome, refl, sym, subst}
use Rattle.std.proofs.lemmas.Bool.{false≢true}
use Rattle.std.proofs.lemmas.Bool.Decides.{nat_tests}
use Rattle.line_wave.specs.Line.{IsWave}
use Rattle.line_rounds.specs.Round.{IsRound, close_in}
use Rattle.line_rounds.specs.declared.Outcome.{Outcome}
use Rattle.room_net.specs.Progress.{IsProgress}
use Rattle.room_net.specs.State.{NetState, next_start}
use Rattle.room_net.specs.Step.{IsNextRound, after_round, seats_of}
use Rattle.live_session.specs.Turns.{IsForeseen, IsOn, IsSoon}
use Rattle.live_session.proofs.Below.{one_outcome, same_outcome}

same_start : (x : Option ℕ) (a b : ℕ) → x ≡ Some a → x ≡ Some b → a ≡ b
same_start x a b e f = cc

pub foreseen : (net : NetState) (begin : ℕ) (o : Outcome) → next_start net ≡ Some begin → IsWave o.wave → IsRound (seats_of net begin) begin net.pulses o → IsProgress net begin (after_round net begin o)
    → IsForeseen net (Some o)
foreseen net begin o starts wave round progress = (
  wave,
  λ b e. let is : begin ≡ b = same_start (next_start net) begin b starts e in (
    subst (λ (k : ℕ). IsNextRound net k o (after_round net k o)) is (record { round = round; after_is = refl }),
    subst (λ (k : ℕ). IsProgress net k (after_round net k o)) is progress,
  ),
)

-- so it is known where it is asked for
pub known_close : (net : NetState) (next : Option Outcome) (begin close : ℕ) → IsSome next → IfSome next (λ o. close ≡ close_in o) → next_start net ≡ Some begin → IsForeseen net next
    → (outcome : Outcome) × (after : NetState) × IsWave outcome.wave × IsNextRound net begin outcome after × IsProgress net begin after × (close ≡ after.close)
known_close net None begin close some is starts h = absurd (false≢true some)
known_close net (Some o) begin close some is starts h = let r = h.1 begin starts in (o, after_round net begin o, h.0, r.0, r.1, is)

-- a script that has ended waits for no round
pub ended_on : (ended : Bool) (until begin : ℕ) (net : NetState) → ended ≡ true → IsOn false ended until begin net
ended_on ended until begin net ends = λ o after wave next. subst (λ (b : Bool). IsSoon b until after) (sym ends) tt

-- and else one is on that closes too late
pub close_on : (ended : Bool) (until begin close : ℕ) (net : NetState) → ended ≡ false
    → (outcome : Outcome) × (after : NetState) × IsWave outcome.wave × IsNextRound net begin outcome after × IsProgress net begin after × (close ≡ after.close)
    → IsOn (nat_le until close) ended until begin net
close_on ended until begin close net goes_on k = by_test (nat_le until close) refl
  where
    same : (o : Outcome) (after : NetState) → IsWave o.wave → IsNextRound net begin o after → k.1.close ≡ after.close
    same o after wave next =
        let one : k.0 ≡ o = same_outcome k.0 o (one_outcome (seats_of net begin) begin net.pulses k.0 o k.2 wave k.3.round next.round) in
        ap (λ (n : NetState). n.close) (k.3.after_is ∙ ap (after_round net begin) one ∙ sym next.after_is)

    by_test : (b : Bool) → nat_le until close ≡ b → IsOn b ended until begin net
    by_test true e = (let late : until ≤ close = grind (arith, nat_tests) in (goes_on, (k.0, k.1, k.2, k.3, subst (λ (n : ℕ). until ≤ n) k.5 late)))
    by_test false e = λ o after wave next. (
        let soon : close < until = grind (arith, nat_tests) in
        subst (λ (b : Bool). IsSoon b until after) (sym goes_on) (subst (λ (n : ℕ). n < until) (k.5 ∙ same o after wave next) soon)
        )

-- what is kept is what the next round gives
pub known_next : (net : NetState) (next : Option Outcome) (o : Outcome) (begin : ℕ) → next ≡ Some o → next_start net ≡ Some begin → IsForeseen net next
    → IsWave o.wave × IsNextRound net begin o (after_round net begin o) × IsProgress net begin (after_round net begin o)
known_next net next o begin is starts h =
    let k = subst (λ (x : Option Outcome). IsForeseen net x) is h in
    let r = k.1 begin starts in
    (k.0, r.0, r.1)

-- the round that comes next is the one that is kept
pub known_round : (net : NetState) (next : Option Outcome) (o : Outcome) (begin : ℕ) → next_start net ≡ Some begin → next ≡ Some o → IsForeseen net next
    → (outcome : Outcome) × (after : NetState) × IsWave outcome.wave × IsNextRound net begin outcome after × (o.wave ≡ outcome.wave)
known_round net next o begin starts is h =
    let k = known_next net next o begin is starts h in
    (o, after_round net begin o, k.0, k.1, refl)

-- and closes when that closes
pub known_edges : (net : NetState) (next : Option Outcome) (o : Outcome) (begin close : ℕ) → next_start net ≡ Some begin → next ≡ Some o → IsForeseen net next → IfSome next (λ o. close ≡ close_in o)
    → (outcome : Outcome) × (after : NetState) × IsWave outcome.wave × IsNextRound net begin outcome after × (o.wave ≡ outcome.wave) × (close ≡ after.close)
known_edges net next o begin close starts is h closes =
    let k = known_next net next o begin is starts h in
    (o, after_round net begin o, k.0, k.1, refl, subst (λ (x : Option Outcome). IfSome x (λ o. close ≡ close_in o)) is closes)
