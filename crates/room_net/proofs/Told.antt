-- What is wrong with pulls and one more after them.
use Rattle.std.proofs.Common.{◌≡◌, suc, ◌<◌, ◌≤◌, Bool, true, false, nat_le, List, [], ◌∷◌, ◌++◌, length, ap, sym, refl, ◌∙◌, arith, length-append}
use Rattle.std.specs.List.{All}
use Rattle.std.proofs.lemmas.List.Elements.{All-cons, All-nil}
use Rattle.std.proofs.lemmas.Bool.Decides.{nat_tests}
use Rattle.line_wave.specs.declared.Stretch.{Stretch}
use Rattle.line_wave.specs.Bounds.{latest_instant, most_pulls}
use Rattle.line_wave.specs.Pulls.{AreTimely, are_timely, are_timely_from}
use Rattle.line_wave.specs.Pulses.{AreSparse}
use Rattle.line_wave.proofs.Kept.{sparse_timely, timely_tested}
use Rattle.room_net.specs.Added.{is_late}
use Rattle.room_net.specs.State.{NetState}
use Rattle.room_net.specs.Sound.{EndsEarly, IsSound}
use Rattle.room_net.proofs.Soundness.{sound-pulses}

pub too_many : (pulls : List Stretch) (pull : Stretch) → most_pulls ≤ length pulls → are_timely (pulls ++ pull ∷ []) ≡ false
too_many pulls pull many =
    let more : nat_le (length (pulls ++ pull ∷ [])) most_pulls ≡ false = let len = length-append pulls (pull ∷ []) in grind (arith, nat_tests) in
    rw more refl

pub not_many : (pulls : List Stretch) (pull : Stretch) → length pulls < most_pulls → are_timely (pulls ++ pull ∷ []) ≡ are_timely_from 0 (pulls ++ pull ∷ [])
not_many pulls pull less =
    let few : nat_le (length (pulls ++ pull ∷ [])) most_pulls ≡ true = let len = length-append pulls (pull ∷ []) in grind (arith, nat_tests) in
    rw few refl

-- sparse pulses that begin early are pulls
pub early_timely : (pulses : List Stretch) → AreSparse pulses → All (λ p. p.from ≤ latest_instant) pulses → AreTimely pulses
early_timely pulses sparse early = sparse_timely pulses sparse early

-- where nothing is wrong, the network has one pull more
pub record IsTold (s : NetState) (pull : Stretch) : Type 0 where
  pub timely : AreTimely (s.pulses ++ pull ∷ [])
  pub sound : IsSound (record s { pulses = s.pulses ++ pull ∷ [] })

more : (P : Stretch → Type 0) (ps : List Stretch) (pull : Stretch) → All P ps → P pull → All P (ps ++ pull ∷ [])
more P [] pull h p = All-cons P pull [] p (All-nil P)
more P (x ∷ ps) pull h p = All-cons P x (ps ++ pull ∷ []) (h 0 x (omega arith)) (more P ps pull (λ k d l. h (suc k) d (omega (arith, l))) p)

begins_early : (pull : Stretch) → is_late pull ≡ false → pull.from ≤ latest_instant
begins_early pull h = grind (arith, nat_tests)

ends_early : (pull : Stretch) → is_late pull ≡ false → EndsEarly pull
ends_early pull h = grind (arith, nat_tests)

pub told : (s : NetState) (known : List Stretch) (pull : Stretch) (follows late : Bool) → known ≡ s.pulses → follows ≡ are_timely (known ++ pull ∷ []) → follows ≡ true
    → late ≡ is_late pull → late ≡ false → s.rest ≤ pull.from → IsSound s → IsTold s pull
told s known pull follows late same is next late_is on_time later h = record {
  timely = (timely_tested (s.pulses ++ pull ∷ [])).0 (ap (λ (ps : List Stretch). are_timely (ps ++ pull ∷ [])) (sym same) ∙ sym is ∙ next);
  sound = sound-pulses s (s.pulses ++ pull ∷ []) h (more (λ p. p.from ≤ latest_instant) s.pulses pull h.early (begins_early pull in_time))
      (more EndsEarly s.pulses pull h.ends (ends_early pull in_time)) (more (λ p. s.rest ≤ p.from) s.pulses pull h.later later);
}
  where
    in_time : is_late pull ≡ false
    in_time = sym late_is ∙ on_time
