-- Of any line: who is not out of a complete reading has sent its bits.
use Rattle.std.proofs.Common.{◌≡◌, ℕ, zero, suc, ◌+◌, ◌-◌, ◌%◌, ◌==◌, ◌<◌, ◌≤◌, Bool, true, false, not, ◌&&◌, if◌then◌else◌, List, [], ◌∷◌, ◌++◌, length, length-append, append_assoc, append-nil, slice_index_or, Option, Some, None, Result, Ok, Err, refl, arith, ap, ◌∙◌, sym, subst}
use Rattle.std.specs.List.{cons_option}
use Rattle.std.specs.Option.{option_to_list}
use mathlib.Core.Bool.{beq}
use Rattle.std.proofs.lemmas.Bool.Decides.{nat_tests}
use Rattle.line_wave.specs.Line.{Line}
use Rattle.line_frames.specs.Bits.{frame_bits}
use Rattle.line_frames.specs.declared.Ending.TheVariants.{Complete}
use Rattle.line_frames.proofs.Slots.{length-frame_bits}
use Rattle.line_reading.specs.Reading.After.{Next, Ends}
use Rattle.line_reading.specs.Windows.{sample_at}
use Rattle.line_reading.specs.Reading.{bits_of, next_fall, reading_of, read_start, read_slots, read_on, after_slot, last_ending, sample, bit_sampled_at, start_of, After}
use Rattle.line_reading.specs.Sending.{bit_read, destination, is_whole, is_out_by, out_by}
use Rattle.line_rounds.specs.Round.{all_known}
use Rattle.line_rounds.specs.Contend.{CompleteIsSurvivors, HasBits, Stays, leaves}
use Rattle.line_rounds.specs.Slots.{NextFall}
use Rattle.line_rounds.proofs.Early.{leaves_more, none_found}
use Rattle.line_rounds.proofs.Walk.{next_falls, quiet_sample}
use Rattle.line_rounds.proofs.Window.{room_next}
use Rattle.line_rounds.proofs.Whole.{complete_last, complete_quiet, has_whole}
use Rattle.line_rounds.proofs.Polled.{all_bits}

-- what is left of a complete reading has a bit
has_bit : (low : Line) (left : ℕ) (bits : List Bool) (e : ℕ) → (read_slots low left bits e).ending ≡ Complete → 0 < length (bits_of (read_slots low left bits e))
unfolding read_slots
has_bit low zero bits e h = cc
has_bit low (suc left) bits e h = by_after (after_slot low e (last_ending bits)) refl h
  where
    with_bit : (o : Option Bool) (b : Bool) (ys : List Bool) → o ≡ Some b → 0 < length (cons_option o ys)
    with_bit (Some c) b ys k = omega arith
    with_bit None b ys k = cc

    by_after : (a : After) → after_slot low e (last_ending bits) ≡ a → (read_on (read_slots low left (bits ++ option_to_list (bit_sampled_at low e))) a).ending ≡ Complete
        → 0 < length (cons_option (bit_sampled_at low e) (bits_of (read_on (read_slots low left (bits ++ option_to_list (bit_sampled_at low e))) (after_slot low e (last_ending bits)))))
    by_after (Next f) a g =
        let n = next_falls low e bits f a in
        with_bit (bit_sampled_at low e) (not (low (e + sample_at))) (bits_of (read_on (read_slots low left (bits ++ option_to_list (bit_sampled_at low e))) (after_slot low e (last_ending bits))))
        (quiet_sample low e (λ u x y. n.quiet u x (omega (arith, n.far))))
    by_after (Ends ending at) a g =
        let c : after_slot low e (last_ending bits) ≡ Ends Complete at = a ∙ ap (λ x. Ends x at) g in
        let l : last_ending bits ≡ Some Complete = complete_last low e (last_ending bits) at c in
        let q : next_fall low e sample_at ≡ None = complete_quiet low e Complete at (ap (after_slot low e) (sym l) ∙ c) in
        with_bit (bit_sampled_at low e) (not (low (e + sample_at))) (bits_of (read_on (read_slots low left (bits ++ option_to_list (bit_sampled_at low e))) (after_slot low e (last_ending bits))))
        (ap (sample low e) q)

-- no slot but the last says to stop
abbrev AreOwn : List Bool → List Bool → Type 0
AreOwn bits sent = (n : ℕ) → 1 ≤ n → n < length bits → leaves bits sent n ≡ false

own_first : (bits ys sent : List Bool) → 0 < length ys → AreOwn (bits ++ ys) sent → Stays bits sent
own_first bits ys sent more own n l m = sym (leaves_more bits ys sent n l m) ∙ own n l (omega (arith, m, more, length-append bits ys))

joined : (bits : List Bool) (b : Option Bool) (ys : List Bool) → bits ++ cons_option b ys ≡ (bits ++ option_to_list b) ++ ys
joined bits None ys = ap (λ zs. zs ++ ys) (sym (append-nil bits))
joined bits (Some b) ys = sym (append_assoc bits (b ∷ []) ys)

survive : (low : Line) (w : List ℕ) → 0 < length w → (left : ℕ) (bits : List Bool) (e : ℕ) → length bits < length (frame_bits w) → AreOwn (bits ++ bits_of (read_slots low left bits e)) (frame_bits w)
    → (read_slots low left bits e).ending ≡ Complete → HasBits (bits ++ bits_of (read_slots low left bits e)) (frame_bits w)
unfolding read_slots
survive low w full zero bits e room own h = cc
survive low w full (suc left) bits e room own h =
    by_after (after_slot low e (last_ending bits)) refl h (λ f room2 own2 g. survive low w full left (bits ++ option_to_list (bit_sampled_at low e)) f room2 own2 g)
  where
    bits2 : List Bool
    bits2 = bits ++ option_to_list (bit_sampled_at low e)

    v : Bool
    v = not (low (e + sample_at))

    total : After → List Bool
    total a = bits ++ cons_option (bit_sampled_at low e) (bits_of (read_on (read_slots low left (bits ++ option_to_list (bit_sampled_at low e))) a))

    later : (f : ℕ) → AreOwn (bits ++ cons_option (bit_sampled_at low e) (bits_of (read_slots low left (bits ++ option_to_list (bit_sampled_at low e)) f))) (frame_bits w)
        → AreOwn ((bits ++ option_to_list (bit_sampled_at low e)) ++ bits_of (read_slots low left (bits ++ option_to_list (bit_sampled_at low e)) f)) (frame_bits w)
    later f = subst (λ (zs : List Bool). AreOwn zs (frame_bits w)) (joined bits (bit_sampled_at low e) (bits_of (read_slots low left (bits ++ option_to_list (bit_sampled_at low e)) f)))

    room_on : (f : ℕ) → NextFall low e bits f → Stays (bits ++ option_to_list (bit_sampled_at low e)) (frame_bits w) → length (bits ++ option_to_list (bit_sampled_at low e)) < length (frame_bits w)
    room_on f n stays =
        let q : bit_sampled_at low e ≡ Some (not (low (e + sample_at))) = quiet_sample low e (λ u x y. n.quiet u x (omega (arith, n.far))) in
        subst (λ (x : Option Bool). length (bits ++ option_to_list x) < length (frame_bits w)) (sym q)
        (room_next w bits (not (low (e + sample_at))) full n.last room (subst (λ (x : Option Bool). Stays (bits ++ option_to_list x) (frame_bits w)) q stays))

    by_after : (a : After) → after_slot low e (last_ending bits) ≡ a → (read_on (read_slots low left (bits ++ option_to_list (bit_sampled_at low e))) a).ending ≡ Complete
        → ((f : ℕ) → length (bits ++ option_to_list (bit_sampled_at low e)) < length (frame_bits w)
        → AreOwn ((bits ++ option_to_list (bit_sampled_at low e)) ++ bits_of (read_slots low left (bits ++ option_to_list (bit_sampled_at low e)) f)) (frame_bits w)
        → (read_slots low left (bits ++ option_to_list (bit_sampled_at low e)) f).ending ≡ Complete
        → HasBits ((bits ++ option_to_list (bit_sampled_at low e)) ++ bits_of (read_slots low left (bits ++ option_to_list (bit_sampled_at low e)) f)) (frame_bits w))
        → HasBits (total (after_slot low e (last_ending bits))) (frame_bits w)
    by_after (Next f) a g ih =
        let n = next_falls low e bits f a in
        let own2 = later f (subst (λ x. AreOwn (total x) (frame_bits w)) a own) in
        let more : 0 < length (bits_of (read_slots low left (bits ++ option_to_list (bit_sampled_at low e)) f)) = has_bit low left (bits ++ option_to_list (bit_sampled_at low e)) f g in
        let stays = own_first (bits ++ option_to_list (bit_sampled_at low e)) (bits_of (read_slots low left (bits ++ option_to_list (bit_sampled_at low e)) f)) (frame_bits w) more own2 in
        subst (λ x. HasBits (total x) (frame_bits w)) (sym a)
        (subst (λ (zs : List Bool). HasBits zs (frame_bits w)) (sym (joined bits (bit_sampled_at low e) (bits_of (read_slots low left (bits ++ option_to_list (bit_sampled_at low e)) f))))
        (ih f (room_on f n stays) own2 g))
    by_after (Ends ending at) a g ih =
        let c : after_slot low e (last_ending bits) ≡ Ends Complete at = a ∙ ap (λ x. Ends x at) g in
        let l : last_ending bits ≡ Some Complete = complete_last low e (last_ending bits) at c in
        let q : next_fall low e sample_at ≡ None = complete_quiet low e Complete at (ap (after_slot low e) (sym l) ∙ c) in
        let same : total (after_slot low e (last_ending bits)) ≡ bits ++ not (low (e + sample_at)) ∷ [] = ap total a ∙ ap (λ (x : Option Bool). bits ++ cons_option x []) (ap (sample low e) q) in
        let stays = own_first bits (not (low (e + sample_at)) ∷ []) (frame_bits w) (omega arith) (subst (λ (zs : List Bool). AreOwn zs (frame_bits w)) same own) in
        subst (λ (zs : List Bool). HasBits zs (frame_bits w)) (sym same) (has_whole w bits (not (low (e + sample_at))) room stays l)

-- before the last slot, a slot at which nobody is out says not to stop
to_leaves : (bits sent : List Bool) (whole : Bool) (n : ℕ) → n < length bits → is_out_by bits whole sent n ≡ leaves bits sent n
to_leaves bits sent whole n l = step (n % 10 == 0) whole (n == length bits) (grind (arith, nat_tests))
  where
    step : (a b c : Bool) → c ≡ false
        → (if a then not (b && c) && not (beq (bit_read bits n) (destination bits == 15)) else not (beq (bit_read bits n) (slice_index_or sent (n - 1) false)))
        ≡ (if a then not (beq (bit_read bits n) (destination bits == 15)) else not (beq (bit_read bits n) (slice_index_or sent (n - 1) false)))
    step true true true k = cc
    step true true false k = refl
    step true false c k = refl
    step false b c k = refl

pub complete_is_survivors : CompleteIsSurvivors
complete_is_survivors low begin f full h out = by_start (start_of low begin) refl h own
  where
    kept : out_by (bits_of (reading_of low begin)) (is_whole (all_known (reading_of low begin)).ended) (frame_bits f) ≡ None
    kept = ap (λ (bs : List Bool). out_by bs (is_whole (all_known (reading_of low begin)).ended) (frame_bits f)) (sym (all_bits low begin)) ∙ out

    own : (n : ℕ) → 1 ≤ n → n < length (bits_of (reading_of low begin)) → leaves (bits_of (reading_of low begin)) (frame_bits f) n ≡ false
    own n l m =
        sym (to_leaves (bits_of (reading_of low begin)) (frame_bits f) (is_whole (all_known (reading_of low begin)).ended) n m)
        ∙ none_found (is_out_by (bits_of (reading_of low begin)) (is_whole (all_known (reading_of low begin)).ended) (frame_bits f)) 1 (length (bits_of (reading_of low begin))) kept n l (omega (arith, m))

    by_start : (s : Result ℕ ℕ) → start_of low begin ≡ s → (read_start low begin s).ending ≡ Complete
        → ((n : ℕ) → 1 ≤ n → n < length (bits_of (read_start low begin s)) → leaves (bits_of (read_start low begin s)) (frame_bits f) n ≡ false) → HasBits (bits_of (read_start low begin s)) (frame_bits f)
    by_start (Ok g) e k mine = survive low f full 160 [] g (omega (arith, length-frame_bits f, full)) mine k
    by_start (Err at) e k mine = cc
