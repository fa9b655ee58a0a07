-- Each round begins well after the one before, or takes a pulse.
use Rattle.std.proofs.Common.{◌≡◌, ℕ, nat_lt, List, [], ◌∷◌, length, inl, inr, refl, sym, ap, subst, arith}
use Rattle.std.specs.List.{filter}
use Rattle.std.proofs.lemmas.List.Elements.{filter_passes}
use Rattle.std.proofs.lemmas.Bool.Decides.{nat_tests}
use Rattle.line_wave.specs.declared.Stretch.{Stretch}
use Rattle.line_wave.proofs.Kept.{wave_filter}
use Rattle.room_event.specs.declared.event.Event.{Event}
use Rattle.room_net.specs.State.{NetState}
use Rattle.room_net.specs.Apply.{net_after}
use Rattle.room_net.specs.Step.{after_round}
use Rattle.room_net.specs.Line.{Happens, Goes}
use Rattle.room_net.specs.Few.{RunsAreShort}
use Rattle.room_net.proofs.Kept.{event_keeps}
use Rattle.room_net.proofs.Lines.{wave_kept}
use Rattle.room_net.specs.Progress.{ComeLater}
use Rattle.room_net.proofs.Progress.{going}

later_kept : (at : ℕ) (event : Event) (s : NetState) → ComeLater s.rest s.pulses → ComeLater (net_after at event s).rest (net_after at event s).pulses
later_kept at event s h =
    let k = event_keeps at event s (net_after at event s) refl in
    let rested : ComeLater (net_after at event s).rest s.pulses = subst (λ rest. ComeLater rest s.pulses) (sym k.rest) h in
    subst (λ (ps : List Stretch). ComeLater (net_after at event s).rest ps) (sym k.pulses) rested

-- the pulses that are left come after the rest
later_after : (rest : ℕ) (pulses : List Stretch) → ComeLater rest (filter (λ p. nat_lt rest p.from) pulses)
later_after rest pulses k p l = (let e = filter_passes (λ (q : Stretch). nat_lt rest q.from) pulses k p l in grind (arith, nat_tests))

pub runs_are_short : RunsAreShort
runs_are_short s t [] end wave later m b = omega arith
runs_are_short s t (Happens at event ∷ ms) end wave later m b =
    let k = event_keeps at event s (net_after at event s) refl in
    let left : length (net_after at event s).pulses ≡ length s.pulses = ap length k.pulses in
    let rest : (net_after at event s).rest ≡ s.rest = k.rest in
    let more = runs_are_short (net_after at event s) t ms end (wave_kept at event s wave) (later_kept at event s later) m.1 b in
    omega (arith, more, left, rest)
runs_are_short s t (Goes begin o ∷ ms) end wave later m b =
    let p = going s begin o wave later m.0.begins m.0.wave m.0.round in
    let more = runs_are_short (after_round s begin o) t ms end (wave_filter (λ q. nat_lt o.rest q.from) s.pulses wave) (later_after o.rest s.pulses) m.1 b.1 in
    elim p.apart [
      | inl late ↦ omega (arith, more, late, p.later, p.low, p.kept, b.0)
      | inr fewer ↦ omega (arith, more, fewer, p.later, p.low, p.kept, b.0)
    ]
