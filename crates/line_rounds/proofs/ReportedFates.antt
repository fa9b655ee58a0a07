-- What an outcome reports of its senders.
use Rattle.std.proofs.Common.{◌≡◌, ℕ, zero, suc, ◌+◌, ◌==◌, ◌<◌, Bool, true, false, if◌then◌else◌, max, List, [], ◌∷◌, ◌++◌, length, slice_get, Option, Some, None, refl, arith, ap, ◌∙◌}
use Rattle.std.proofs.lemmas.Bool.Decides.{nat_tests}
use Rattle.line_wave.specs.Line.{line_of}
use Rattle.line_frames.specs.declared.Ending.{Ending}
use Rattle.line_reading.specs.Reading.{Read, reading_of, bits_of}
use Rattle.line_rounds.specs.declared.Seat.{Seat}
use Rattle.line_rounds.specs.declared.Loser.{Loser}
use Rattle.line_reading.specs.Sending.{destination}
use Rattle.line_rounds.specs.Round.{lost_at, out_of, losers_from, fate_by, out_in, FatesReported}

-- no destination is read, so it is not 15
pub short_direct : (bits : List Bool) → length bits < 8 → (destination bits == 15) ≡ false
short_direct [] h = refl
short_direct (a ∷ []) h = refl
short_direct (a ∷ b ∷ []) h = refl
short_direct (a ∷ b ∷ c ∷ []) h = refl
short_direct (a ∷ b ∷ c ∷ d ∷ []) h = refl
short_direct (a ∷ b ∷ c ∷ d ∷ true ∷ []) h = refl
short_direct (a ∷ b ∷ c ∷ d ∷ false ∷ []) h = refl
short_direct (a ∷ b ∷ c ∷ d ∷ true ∷ true ∷ []) h = refl
short_direct (a ∷ b ∷ c ∷ d ∷ true ∷ false ∷ []) h = refl
short_direct (a ∷ b ∷ c ∷ d ∷ false ∷ true ∷ []) h = refl
short_direct (a ∷ b ∷ c ∷ d ∷ false ∷ false ∷ []) h = refl
short_direct (a ∷ b ∷ c ∷ d ∷ true ∷ true ∷ true ∷ []) h = refl
short_direct (a ∷ b ∷ c ∷ d ∷ true ∷ true ∷ false ∷ []) h = refl
short_direct (a ∷ b ∷ c ∷ d ∷ true ∷ false ∷ true ∷ []) h = refl
short_direct (a ∷ b ∷ c ∷ d ∷ true ∷ false ∷ false ∷ []) h = refl
short_direct (a ∷ b ∷ c ∷ d ∷ false ∷ true ∷ true ∷ []) h = refl
short_direct (a ∷ b ∷ c ∷ d ∷ false ∷ true ∷ false ∷ []) h = refl
short_direct (a ∷ b ∷ c ∷ d ∷ false ∷ false ∷ true ∷ []) h = refl
short_direct (a ∷ b ∷ c ∷ d ∷ false ∷ false ∷ false ∷ []) h = refl
short_direct (a ∷ b ∷ c ∷ d ∷ e ∷ f ∷ g ∷ i ∷ bits) h = absurd (omega (arith, h))

-- the losers after place n have greater places
later_losers : (r : Read) (n k : ℕ) (seats : List Seat) → k < n → out_in (losers_from r n seats) k ≡ None
later_losers r n k [] h = refl
later_losers r n k (s ∷ ss) h = by_out (out_of r s.sends) (later_losers r (n + 1) k ss (omega arith))
  where
    by_out : (o : Option ℕ) → out_in (losers_from r (n + 1) ss) k ≡ None → out_in (lost_at n o ++ losers_from r (n + 1) ss) k ≡ None
    by_out None e = e
    by_out (Some slot) e = let x : (n == k) ≡ false = grind (arith, nat_tests) in ap (λ b. if b then Some slot else out_in (losers_from r (n + 1) ss) k) x ∙ e

out_found : (r : Read) (n k m : ℕ) (seats : List Seat) (s : Seat) → m ≡ n + k → slice_get seats k ≡ Some s → out_in (losers_from r n seats) m ≡ out_of r s.sends
out_found r n k m [] s e h = cc
out_found r n zero m (x ∷ ss) s e h =
    let same : x ≡ s = cc in
    by_out (out_of r x.sends) (later_losers r (n + 1) m ss (omega arith)) ∙ ap (λ (y : Seat). out_of r y.sends) same
  where
    by_out : (o : Option ℕ) → out_in (losers_from r (n + 1) ss) m ≡ None → out_in (lost_at n o ++ losers_from r (n + 1) ss) m ≡ o
    by_out None q = q
    by_out (Some slot) q = let y : (n == m) ≡ true = grind (arith, nat_tests) in ap (λ b. if b then Some slot else out_in (losers_from r (n + 1) ss) m) y
out_found r n (suc k) m (x ∷ ss) s e h = by_out (out_of r x.sends) (out_found r (n + 1) k m ss s (omega arith) h)
  where
    by_out : (o : Option ℕ) → out_in (losers_from r (n + 1) ss) m ≡ out_of r s.sends → out_in (lost_at n o ++ losers_from r (n + 1) ss) m ≡ out_of r s.sends
    by_out None q = q
    by_out (Some slot) q = let y : (n == m) ≡ false = grind (arith, nat_tests) in ap (λ b. if b then Some slot else out_in (losers_from r (n + 1) ss) m) y ∙ q

pub fates_reported : FatesReported
fates_reported = record {
  fates = λ seats begin pulses o round k s f at sends.
      let r = reading_of (line_of o.wave) begin in
      ap (λ (e : Ending). fate_by e o.reading.bits.items (out_in o.losers.items k)) round.ending
      ∙ ap (λ (bs : List Bool). fate_by r.ending bs (out_in o.losers.items k)) round.bits
      ∙ ap (λ (ls : List Loser). fate_by r.ending (bits_of r) (out_in ls k)) round.losers
      ∙ ap (λ x. fate_by r.ending (bits_of r) x) (out_found r 0 k k seats s (omega arith) at ∙ ap (λ x. out_of r x) sends);
  close = λ seats begin pulses o round.
      ap (λ n. max n o.rest) round.ends ∙ ap (λ n. max (reading_of (line_of o.wave) begin).at n) round.rest;
}
