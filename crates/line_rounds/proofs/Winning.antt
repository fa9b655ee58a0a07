-- What is read as a frame is a winner's frame.
use Rattle.std.proofs.Common.{◌≡◌, ℕ, ◌+◌, ◌-◌, ◌%◌, ◌==◌, ◌<◌, Bool, false, List, [], ◌∷◌, length, slice_index_or, Some, refl, arith, ap, ◌∙◌, sym, subst}
use Rattle.std.specs.List.{Any}
use Rattle.std.proofs.lemmas.Bool.Decides.{nat_tests}
use Rattle.line_wave.specs.Line.{line_of}
use Rattle.line_frames.specs.Bits.{frame_bits, least_among}
use Rattle.line_frames.specs.Blocks.{frame_of, frame_by, frame_in, AreBytes, IsReadAs}
use Rattle.line_frames.proofs.Read.{frames_are_read}
use Rattle.line_reading.specs.Reading.{bits_of, reading_of}
use Rattle.line_rounds.specs.Round.{frames_of, winning_frames}
use Rattle.line_rounds.specs.Contend.{HasBits}
use Rattle.line_rounds.specs.Winning.{CompleteIsRead}
use Rattle.line_rounds.specs.Elements.{In}
use Rattle.line_rounds.proofs.Law.{all_in, in_at, in_filter}
use Rattle.line_rounds.proofs.Whole.{complete_is_winners}

read_as : (bits : List Bool) (w : List ℕ) → HasBits bits (frame_bits w) → IsReadAs bits w
read_as bits w h = record {
  long = h.long;
  same = λ k d n. same k d (let x : ((k + 1) % 10 == 0) ≡ false = grind (arith, nat_tests) in x) (let y : k + 1 - 1 ≡ k = omega arith in y);
}
  where
    same : (k : ℕ) → k < length bits → ((k + 1) % 10 == 0) ≡ false → k + 1 - 1 ≡ k → slice_index_or bits k false ≡ slice_index_or (frame_bits w) k false
    same k d n e =
        ap (λ j. slice_index_or bits j false) (sym e) ∙ h.same (k + 1) (omega arith) (omega (arith, d)) n ∙ ap (λ j. slice_index_or (frame_bits w) j false) e

some_frame : (w : List ℕ) → 0 < length w → frame_of w ≡ Some w
some_frame [] l = absurd (omega (arith, l))
some_frame (b ∷ w) l = refl

any_more : (P Q : List ℕ → Type 0) (ws : List (List ℕ)) → ((w : List ℕ) → In w ws → P w → Q w) → Any P ws → Any Q ws
any_more P Q ws h a = (a.0, a.1, a.2, a.3, let own : In a.1 ws = subst (λ w. In w ws) a.3 (in_at ws a.0 a.1 a.2) in h a.1 own a.4)

pub complete_is_read : CompleteIsRead
complete_is_read seats begin pulses o frames bytes sparse round complete =
    any_more (λ w. HasBits (bits_of (reading_of (line_of o.wave) begin)) (frame_bits w)) (λ w. frame_in o.reading ≡ Some w) (winning_frames seats) each
    (complete_is_winners seats begin pulses (line_of o.wave) frames sparse round.line (sym round.ending ∙ complete))
  where
    each : (w : List ℕ) → In w (winning_frames seats) → HasBits (bits_of (reading_of (line_of o.wave) begin)) (frame_bits w) → frame_in o.reading ≡ Some w
    each w i h =
        let sent : In w (frames_of seats) = (in_filter (least_among (frames_of seats)) (frames_of seats) w i).0 in
        let Reads : List Bool → Type 0 = λ bits. IsReadAs bits w in
        let read : IsReadAs o.reading.bits.items w = subst Reads (sym round.bits) (read_as (bits_of (reading_of (line_of o.wave) begin)) w h) in
        ap (λ e. frame_by e o.reading.bits.items) complete
        ∙ ap frame_of (frames_are_read w o.reading.bits.items (all_in AreBytes (frames_of seats) bytes w sent) read)
        ∙ some_frame w (all_in (λ f. 0 < length f) (frames_of seats) frames w sent)
