use Rattle.std.proofs.Common.{subst, sym, refl, ◌∙◌}
use Rattle.text_core.specs.Adds.{Adds}
use Rattle.line_wave.specs.Line.{IsWave}
use Rattle.room_net.specs.Step.{after_round, seats_of}
use Rattle.room_net.proofs.Lines.{begun}
use Rattle.room_drives.specs.Drives.{IsBegunRound, drives_of}
use Rattle.room_driven.specs.Named.{round_of}
use Rattle.room_driven.proofs.RoundBounds.{bounds}
use Rattle.room_driven.proofs.round.add_drives.Goals as goal

pub add_round-requires-clause-early : goal.add_round-requires-clause-early
add_round-requires-clause-early g c =
    (bounds c.args.net.now (after_round c.args.net.now c.args.begin c.args.outcome.now) c.args.begin c.args.outcome.now c.requires.soon (record { round = c.requires.round; after_is = refl }) c.requires.progress).at

pub add_round-requires-clause-rest : goal.add_round-requires-clause-rest
add_round-requires-clause-rest g c =
    let b = bounds c.args.net.now (after_round c.args.net.now c.args.begin c.args.outcome.now) c.args.begin c.args.outcome.now c.requires.soon (record { round = c.requires.round; after_is = refl }) c.requires.progress in
    (b.later, b.rest)

pub add_round-requires-clause-round : goal.add_round-requires-clause-round
add_round-requires-clause-round g c =
    subst (λ ss. IsBegunRound ss c.args.begin c.pulls.result.now c.args.outcome.now) (sym (c.deref.ensures.0 ∙ c.seats-seats.ensures))
    (subst (λ ps. IsBegunRound (seats_of c.args.net.now c.args.begin) c.args.begin ps c.args.outcome.now) (sym c.pulls.ensures.pulls) (record {
      order = subst IsWave c.pulls.ensures.pulls c.pulls.ensures.order;
      wave = subst IsWave c.as_slice-stretches.ensures.stretches c.as_slice-stretches.ensures.wave;
      round = c.requires.round;
      begun = begun c.args.net.now c.args.begin c.requires.begins;
    }))

pub returns : goal.returns
returns g c =
    subst (λ ss. Adds c.args.out.now c.add_round.new.out (round_of c.args.wires (drives_of ss c.args.begin c.args.net.now.pulses c.args.outcome.now) c.args.begin c.args.outcome.now)) (c.deref.ensures.0 ∙ c.seats-seats.ensures)
    (subst (λ ps. Adds c.args.out.now c.add_round.new.out (round_of c.args.wires (drives_of c.deref.result.now c.args.begin ps c.args.outcome.now) c.args.begin c.args.outcome.now)) c.pulls.ensures.pulls c.add_round.ensures)
