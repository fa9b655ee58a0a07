-- A sender's times in closed form.
use Rattle.std.proofs.Common.{◌≡◌, ℕ, zero, suc, ◌+◌, ◌*◌, Bool, if◌then◌else◌, List, [], ◌∷◌, length, slice_get, Option, Some, refl, arith, ap, ◌∙◌}
use Rattle.line_wave.specs.declared.Stretch.{Stretch}
use Rattle.line_wave.specs.Sender.{slot_stretches, sender_stretches}
use Rattle.line_wave.specs.Times.{low_for, TimesOfSenders}

length-slots : (n : ℕ) (bits : List Bool) → length (slot_stretches n bits) ≡ length bits
length-slots n [] = refl
length-slots n (b ∷ bits) = let h : length (slot_stretches (n + 2400) bits) ≡ length bits = length-slots (n + 2400) bits in omega arith

slot_times : (n m : ℕ) (bits : List Bool) (k : ℕ) (bit : Bool) → m ≡ n + 2400 * k → slice_get bits k ≡ Some bit → slice_get (slot_stretches n bits) k ≡ Some (low_for m (if bit then 600 else 1500))
slot_times n m [] k bit e h = cc
slot_times n m (b ∷ bits) zero bit e h =
    let g : b ≡ bit = cc in
    let f : n ≡ m = omega arith in
    ap (λ (c : Bool). Some (low_for n (if c then 600 else 1500))) g ∙ ap (λ (x : ℕ). Some (low_for x (if bit then 600 else 1500))) f
slot_times n m (b ∷ bits) (suc k) bit e h = slot_times (n + 2400) m bits k bit (omega arith) h

pub times_of_senders : TimesOfSenders
times_of_senders start bits = record {
  count = let h : length (slot_stretches (start + 4500) bits) ≡ length bits = length-slots (start + 4500) bits in omega arith;
  first = refl;
  slot = λ k bit h. later k (slot_times (start + 4500) (start + 4500 + 2400 * k) bits k bit refl h);
}
  where
    later : (k : ℕ) {x : Option Stretch} → slice_get (slot_stretches (start + 4500) bits) k ≡ x → slice_get (sender_stretches start bits) (k + 1) ≡ x
    later k h = let e : k + 1 ≡ suc k = omega arith in rw e h
