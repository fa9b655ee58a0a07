-- When a frame is over.
use Rattle.std.proofs.Common.{◌≡◌, ℕ, suc, ◌+◌, ◌<◌, Bool, true, false, not, ◌&&◌, ◌||◌, nat_le, nat_lt, if◌then◌else◌, List, [], ◌∷◌, length, Option, refl, sym, ap, ◌∙◌, arith}
use Rattle.std.proofs.lemmas.Bool.Decides.{nat_tests}
use Rattle.line_frames.specs.declared.Fate.{Fate}
use Rattle.line_frames.specs.declared.Fate.TheVariants.{Delivered, Unacked, Lost, Broken}
use Rattle.line_frames.specs.declared.free_time.FreeTime.TheVariants.{Retry}
use Rattle.device_core.specs.declared.device.Queued.{Queued}
use Rattle.device_core.specs.State.{State}
use Rattle.device_core.specs.Place.{after_failure, after_front, frame_sent, front_is_counted, front_is_poll, most_again, sent_by}
use Rattle.device_core.specs.Sent.{FramesEnd, ends_front, is_last}

-- less to send than so many
abbrev IsLess : State → ℕ → Bool
IsLess d most = nat_lt (length d.queue) most

-- one frame less
front_less : (d : State) (queue : List Queued) → 0 < length queue → nat_lt (length (after_front (record d { queue = queue })).queue) (length queue) ≡ true
front_less d [] some = absurd (omega (arith, some))
front_less d (q ∷ queue) some = let l : length queue < suc (length queue) = omega arith in grind (arith, nat_tests)

same_long : (queue : List Queued) → nat_lt (length queue) (length queue) ≡ false
same_long queue = grind (arith, nat_tests)

-- whether an attempt is left, either way
left_or_last : (most now : ℕ) → nat_lt now most ≡ not (nat_le most now)
left_or_last most now = grind (arith, nat_tests)

failed_less : (d : State) → 0 < length d.queue → is_last d ≡ IsLess (after_failure d) (length d.queue)
failed_less d some = by (nat_le (most_again d.queue) d.attempts) refl
  where
    by : (last : Bool) → nat_le (most_again d.queue) d.attempts ≡ last → last ≡ IsLess (after_failure d) (length d.queue)
    by true e =
        let over : nat_lt d.attempts (most_again d.queue) ≡ false = left_or_last (most_again d.queue) d.attempts ∙ ap not e in
        sym (front_less d d.queue some) ∙ sym (ap (λ b. nat_lt (length (if b then record d { attempts = d.attempts + 1; class = Retry } else after_front d).queue) (length d.queue)) over)
    by false e =
        let more : nat_lt d.attempts (most_again d.queue) ≡ true = left_or_last (most_again d.queue) d.attempts ∙ ap not e in
        sym (same_long d.queue) ∙ sym (ap (λ b. nat_lt (length (if b then record d { attempts = d.attempts + 1; class = Retry } else after_front d).queue) (length d.queue)) more)

sent_less : (d : State) (fate : Fate) → 0 < length d.queue → ends_front d fate ≡ IsLess (frame_sent d fate) (length d.queue)
sent_less d Delivered some = sym (front_less d d.queue some)
sent_less d Lost some = by (front_is_counted d.queue)
  where
    by : (counted : Bool) → (counted && is_last d) ≡ nat_lt (length (if counted then after_failure d else d).queue) (length d.queue)
    by true = failed_less d some
    by false = sym (same_long d.queue)
sent_less d Unacked some = by (front_is_poll d.queue)
  where
    by : (poll : Bool) → (poll || is_last d) ≡ nat_lt (length (if poll then after_front d else after_failure d).queue) (length d.queue)
    by true = sym (front_less d d.queue some)
    by false = failed_less d some
sent_less d Broken some = by (front_is_poll d.queue)
  where
    by : (poll : Bool) → (not poll && is_last d) ≡ nat_lt (length (if poll then record d { class = Retry } else after_failure d).queue) (length d.queue)
    by true = sym (same_long d.queue)
    by false = failed_less d some

pub frames_end : FramesEnd
frames_end limit at d fate none some = sent_less d fate some ∙ sym (ap (λ (p : Option ℕ). nat_lt (length (sent_by limit d fate at p).queue) (length d.queue)) none)
