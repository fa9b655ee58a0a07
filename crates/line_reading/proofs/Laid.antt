-- Where a frame's stretches are low, by the slot of a microsecond and the place in it, and where that changes next.
use Rattle.std.proofs.Common.{◌≡◌, ℕ, zero, suc, ◌+◌, ◌-◌, ◌*◌, ◌/◌, ◌%◌, ◌<◌, ◌≤◌, Bool, true, false, not, ◌&&◌, ◌||◌, nat_lt, nat_le, if◌then◌else◌, List, [], ◌∷◌, length, length-append, slice_index_or, inl, inr, Option, Some, None, refl, arith, ap, ap₂, min, ◌∙◌, sym}
use Rattle.std.proofs.lemmas.Bool.{cases_lt}
use Rattle.std.proofs.lemmas.Bool.Decides.{nat_tests}
use Rattle.line_wave.specs.Line.{line_of, covers}
use Rattle.line_wave.specs.Sender.{low_of, slot_stretches, sender_stretches}
use Rattle.line_frames.specs.Bits.{block_bits, frame_bits}
use Rattle.line_reading.specs.Sending.{IsNextChange, RisesAt}

-- ---- in the slots

before_slots : (bits : List Bool) (n t : ℕ) → t < n → line_of (slot_stretches n bits) t ≡ false
before_slots [] n t h = refl
before_slots (b ∷ bits) n t h =
    ap (λ c. c || line_of (slot_stretches (n + 2400) bits) t) (let x : covers (record { from = n; to = n + (if b then 600 else 1500) }) t ≡ false = grind (arith, nat_tests) in x) ∙ before_slots bits (n + 2400) t (omega arith)

past_slot : (b : Bool) (n t : ℕ) → n + 2400 ≤ t → covers (record { from = n; to = n + (if b then 600 else 1500) }) t ≡ false
past_slot true n t l = grind (arith, nat_tests)
past_slot false n t l = grind (arith, nat_tests)

-- in place `within` of slot q, from 0
pub slot_at : (bits : List Bool) (n q within t : ℕ) → t ≡ n + 2400 * q + within → within < 2400 → q < length bits → line_of (slot_stretches n bits) t ≡ nat_lt within (low_of (slice_index_or bits q false))
slot_at [] n q within t e w l = absurd (omega (arith, l))
slot_at (b ∷ bits) n zero within t e w l =
    ap (λ c. covers (record { from = n; to = n + (if b then 600 else 1500) }) t || c) (before_slots bits (n + 2400) t (omega arith)) ∙ here b
  where
    here : (b : Bool) → (covers (record { from = n; to = n + (if b then 600 else 1500) }) t || false) ≡ nat_lt within (if b then 600 else 1500)
    here true = grind (arith, nat_tests)
    here false = grind (arith, nat_tests)
slot_at (b ∷ bits) n (suc q) within t e w l =
    ap (λ c. c || line_of (slot_stretches (n + 2400) bits) t) (past_slot b n t (omega arith)) ∙ slot_at bits (n + 2400) q within t (omega arith) w (omega (arith, l))

-- after the last slot
pub slots_over : (bits : List Bool) (n t : ℕ) → n + 2400 * length bits ≤ t → line_of (slot_stretches n bits) t ≡ false
slots_over [] n t l = refl
slots_over (b ∷ bits) n t l = ap (λ c. c || line_of (slot_stretches (n + 2400) bits) t) (past_slot b n t (omega (arith, l))) ∙ slots_over bits (n + 2400) t (omega (arith, l))

-- ---- in the start bit

pub start_at : (bits : List Bool) (begin t : ℕ) → begin ≤ t → t < begin + 4500 → line_of (sender_stretches begin bits) t ≡ nat_lt t (begin + 3700)
start_at bits begin t h l =
    ap (λ c. covers (record { from = begin; to = begin + 3700 }) t || c) (before_slots bits (begin + 4500) t l) ∙ grind (arith, nat_tests)

pub before_start : (bits : List Bool) (begin t : ℕ) → t < begin → line_of (sender_stretches begin bits) t ≡ false
before_start bits begin t l =
    ap (λ c. covers (record { from = begin; to = begin + 3700 }) t || c) (before_slots bits (begin + 4500) t (omega arith)) ∙ grind (arith, nat_tests)

pub after_start : (bits : List Bool) (begin t : ℕ) → begin + 4500 ≤ t → line_of (sender_stretches begin bits) t ≡ line_of (slot_stretches (begin + 4500) bits) t
after_start bits begin t l = let e : covers (record { from = begin; to = begin + 3700 }) t ≡ false = grind (arith, nat_tests) in rw e refl

-- slots that fall so much later are low so much later
shifted : (bits : List Bool) (n t : ℕ) → line_of (slot_stretches n bits) (n + t) ≡ line_of (slot_stretches 0 bits) t
shifted bits n t =
    elim (cases_lt (t / 2400) (length bits)) [
      | inl lt ↦ slot_at bits n (t / 2400) (t % 2400) (n + t) (omega arith) (omega arith) lt ∙ sym (slot_at bits 0 (t / 2400) (t % 2400) t (omega arith) (omega arith) lt)
      | inr ge ↦ slots_over bits n (n + t) (omega (arith, ge)) ∙ sym (slots_over bits 0 t (omega (arith, ge)))
    ]

pub laid_in_slots : (bits : List Bool) (begin t : ℕ) → begin + 4500 ≤ t → line_of (slot_stretches 0 bits) (t - begin - 4500) ≡ line_of (sender_stretches begin bits) t
laid_in_slots bits begin t l =
    sym (after_start bits begin t l ∙ ap (line_of (slot_stretches (begin + 4500) bits)) (let x : t ≡ begin + 4500 + (t - begin - 4500) = omega (arith, l) in x) ∙ shifted bits (begin + 4500) (t - begin - 4500))

-- ---- the next change in the slots

test_true : (a b : ℕ) → a < b → nat_lt a b ≡ true
test_true a b l = grind (arith, nat_tests)

test_false : (a b : ℕ) → b ≤ a → nat_lt a b ≡ false
test_false a b l = grind (arith, nat_tests)

low_small : (b : Bool) → (0 < low_of b) × (low_of b < 2400)
low_small true = (omega arith, omega arith)
low_small false = (omega arith, omega arith)

in_slot : (bits : List Bool) (n q a t : ℕ) → t ≡ n + 2400 * q + a → a < 2400 → q < length bits → (b : Bool) → nat_lt a (low_of (slice_index_or bits q false)) ≡ b → line_of (slot_stretches n bits) t ≡ b
in_slot bits n q a t e l k b h = slot_at bits n q a t e l k ∙ h

pub change_low : (bits : List Bool) (n q a t : ℕ) → t ≡ n + 2400 * q + a → q < length bits → a < low_of (slice_index_or bits q false)
    → IsNextChange (line_of (slot_stretches n bits)) t (Some (t - a + low_of (slice_index_or bits q false)))
change_low bits n q a t e k l =
    let w = low_of (slice_index_or bits q false) in
    let s = low_small (slice_index_or bits q false) in
    let here : line_of (slot_stretches n bits) t ≡ true = in_slot bits n q a t e (omega (arith, s.1, l)) k true (test_true a (low_of (slice_index_or bits q false)) l) in (
      omega (arith, l, e),
      in_slot bits n q (low_of (slice_index_or bits q false)) (t - a + low_of (slice_index_or bits q false)) (omega (arith, e)) s.1 k false (test_false (low_of (slice_index_or bits q false)) (low_of (slice_index_or bits q false)) (omega arith)) ∙ sym (ap not here),
      λ u g h. in_slot bits n q (a + (u - t)) u (omega (arith, e, g)) (omega (arith, s.1, h, g, e)) k true (test_true (a + (u - t)) (low_of (slice_index_or bits q false)) (omega (arith, h, g, e))) ∙ sym here,
    )

pub change_high : (bits : List Bool) (n q a t : ℕ) → t ≡ n + 2400 * q + a → a < 2400 → q + 1 < length bits → low_of (slice_index_or bits q false) ≤ a
    → IsNextChange (line_of (slot_stretches n bits)) t (Some (t - a + 2400))
change_high bits n q a t e l k h =
    let s = low_small (slice_index_or bits (q + 1) false) in
    let here : line_of (slot_stretches n bits) t ≡ false = in_slot bits n q a t e l (omega arith) false (test_false a (low_of (slice_index_or bits q false)) h) in (
      omega (arith, e),
      in_slot bits n (q + 1) 0 (t - a + 2400) (omega (arith, e)) (omega arith) k true (test_true 0 (low_of (slice_index_or bits (q + 1) false)) s.0) ∙ sym (ap not here),
      λ u g m. in_slot bits n q (a + (u - t)) u (omega (arith, e, g)) (omega (arith, m, g, e)) (omega arith) false (test_false (a + (u - t)) (low_of (slice_index_or bits q false)) (omega (arith, h))) ∙ sym here,
    )

pub change_last : (bits : List Bool) (n q a t : ℕ) → t ≡ n + 2400 * q + a → a < 2400 → q < length bits → length bits ≤ q + 1 → low_of (slice_index_or bits q false) ≤ a
    → IsNextChange (line_of (slot_stretches n bits)) t None
change_last bits n q a t e l k m h = λ u g.
    (let here : line_of (slot_stretches n bits) t ≡ false = in_slot bits n q a t e l k false (test_false a (low_of (slice_index_or bits q false)) h) in
    elim (cases_lt (a + (u - t)) 2400) [
      | inl lt ↦ in_slot bits n q (a + (u - t)) u (omega (arith, e, g)) lt k false (test_false (a + (u - t)) (low_of (slice_index_or bits q false)) (omega (arith, h))) ∙ sym here
      | inr ge ↦ slots_over bits n u (omega (arith, ge, e, g, m)) ∙ sym here
    ])

pub change_over : (bits : List Bool) (n t : ℕ) → n + 2400 * length bits ≤ t → IsNextChange (line_of (slot_stretches n bits)) t None
change_over bits n t l = λ u g. slots_over bits n u (omega arith) ∙ sym (slots_over bits n t l)

-- ---- and from the start on

pub change_before : (bits : List Bool) (begin t : ℕ) → t < begin → IsNextChange (line_of (sender_stretches begin bits)) t (Some begin)
change_before bits begin t l =
    let here : line_of (sender_stretches begin bits) t ≡ false = before_start bits begin t l in (
      l,
      start_at bits begin begin (omega arith) (omega arith) ∙ test_true begin (begin + 3700) (omega arith) ∙ sym (ap not here),
      λ u g m. before_start bits begin u m ∙ sym here,
    )

pub change_start : (bits : List Bool) (begin t : ℕ) → begin ≤ t → t < begin + 3700 → IsNextChange (line_of (sender_stretches begin bits)) t (Some (begin + 3700))
change_start bits begin t g l =
    let here : line_of (sender_stretches begin bits) t ≡ true = start_at bits begin t g (omega arith) ∙ test_true t (begin + 3700) l in (
      l,
      start_at bits begin (begin + 3700) (omega arith) (omega arith) ∙ test_false (begin + 3700) (begin + 3700) (omega arith) ∙ sym (ap not here),
      λ u h m. start_at bits begin u (omega arith) (omega arith) ∙ test_true u (begin + 3700) m ∙ sym here,
    )

pub change_rise : (bits : List Bool) (begin t : ℕ) → begin + 3700 ≤ t → t < begin + 4500 → 0 < length bits → IsNextChange (line_of (sender_stretches begin bits)) t (Some (begin + 4500))
change_rise bits begin t g l k =
    let here : line_of (sender_stretches begin bits) t ≡ false = start_at bits begin t (omega arith) l ∙ test_false t (begin + 3700) g in
    let s = low_small (slice_index_or bits 0 false) in (
      l,
      after_start bits begin (begin + 4500) (omega arith) ∙ in_slot bits (begin + 4500) 0 0 (begin + 4500) (omega arith) (omega arith) k true (test_true 0 (low_of (slice_index_or bits 0 false)) s.0) ∙ sym (ap not here),
      λ u h m. start_at bits begin u (omega arith) m ∙ test_false u (begin + 3700) (omega arith) ∙ sym here,
    )

pub change_slots : (bits : List Bool) (begin t : ℕ) (o : Option ℕ) → begin + 4500 ≤ t → IsNextChange (line_of (slot_stretches (begin + 4500) bits)) t o → IsNextChange (line_of (sender_stretches begin bits)) t o
change_slots bits begin t None l c = λ u g. after_start bits begin u (omega arith) ∙ c u g ∙ sym (after_start bits begin t l)
change_slots bits begin t (Some change) l c = (
  c.0,
  after_start bits begin change (omega (arith, c.0)) ∙ c.1 ∙ ap not (sym (after_start bits begin t l)),
  λ u g m. after_start bits begin u (omega arith) ∙ c.2 u g m ∙ sym (after_start bits begin t l),
)

-- ---- of one that stops

and_true : (b : Bool) → (b && true) ≡ b
and_true true = refl
and_true false = refl

within : (pull : ℕ → Bool) (last u : ℕ) → u ≤ last → (pull u && nat_le u last) ≡ pull u
within pull last u l = ap (λ b. pull u && b) (let x : nat_le u last ≡ true = grind (arith, nat_tests) in x) ∙ and_true (pull u)

and_false : (b : Bool) → (b && false) ≡ false
and_false true = refl
and_false false = refl

beyond : (pull : ℕ → Bool) (last u : ℕ) → last < u → (pull u && nat_le u last) ≡ false
beyond pull last u l = ap (λ b. pull u && b) (let x : nat_le u last ≡ false = grind (arith, nat_tests) in x) ∙ and_false (pull u)

-- ---- where a pull rises

as_late : (a b w : ℕ) → nat_lt a w ≡ nat_lt (b + a) (b + w)
as_late a b w = grind (arith, nat_tests)

pub rises_in_slot : (bits : List Bool) (n q a t : ℕ) → t ≡ n + 2400 * q + a → a < 2400 → q < length bits → RisesAt (line_of (slot_stretches n bits)) t (t - a + low_of (slice_index_or bits q false)) (t - a + 2400)
rises_in_slot bits n q a t e l k u g h =
    slot_at bits n q (u - (t - a)) u (omega (arith, e, g)) (omega (arith, h, g, e)) k
    ∙ as_late (u - (t - a)) (t - a) (low_of (slice_index_or bits q false)) ∙ ap (λ v. nat_lt v (t - a + low_of (slice_index_or bits q false))) (let x : t - a + (u - (t - a)) ≡ u = omega (arith, g) in x)

pub rises_over : (bits : List Bool) (n t rise until : ℕ) → n + 2400 * length bits ≤ t → rise ≤ t → RisesAt (line_of (slot_stretches n bits)) t rise until
rises_over bits n t rise until l r u g h = slots_over bits n u (omega (arith, l, g)) ∙ sym (test_false u rise (omega (arith, r, g)))

pub rises_before : (bits : List Bool) (begin t : ℕ) → RisesAt (line_of (sender_stretches begin bits)) t 0 begin
rises_before bits begin t u g h = before_start bits begin u h ∙ sym (test_false u 0 (omega arith))

pub rises_start : (bits : List Bool) (begin t : ℕ) → begin ≤ t → RisesAt (line_of (sender_stretches begin bits)) t (begin + 3700) (begin + 4500)
rises_start bits begin t l u g h = start_at bits begin u (omega (arith, l, g)) h

pub rises_slots : (bits : List Bool) (begin t rise until : ℕ) → begin + 4500 ≤ t → RisesAt (line_of (slot_stretches (begin + 4500) bits)) t rise until → RisesAt (line_of (sender_stretches begin bits)) t rise until
rises_slots bits begin t rise until l r u g h = after_start bits begin u (omega (arith, l, g)) ∙ r u g h

pub rises_sending : (pull : ℕ → Bool) (t rise until : ℕ) → RisesAt pull t rise until → RisesAt (λ u. pull u && true) t rise until
rises_sending pull t rise until r u g h = and_true (pull u) ∙ r u g h

pub rises_past : (pull : ℕ → Bool) (last t until : ℕ) → last < t → RisesAt (λ u. pull u && nat_le u last) t 0 until
rises_past pull last t until l u g h = beyond pull last u (omega (arith, l, g)) ∙ sym (test_false u 0 (omega arith))

pub rises_last : (pull : ℕ → Bool) (last t rise until : ℕ) → RisesAt pull t rise until → RisesAt (λ u. pull u && nat_le u last) t (min rise (last + 1)) until
rises_last pull last t rise until r u g h = ap (λ b. b && nat_le u last) (r u g h) ∙ sooner rise last u
  where
    over : (last u : ℕ) → last < u → nat_le u last ≡ false
    over last u l = grind (arith, nat_tests)

    inside : (last u : ℕ) → u ≤ last → nat_le u last ≡ true
    inside last u l = grind (arith, nat_tests)

    sooner : (rise last u : ℕ) → (nat_lt u rise && nat_le u last) ≡ nat_lt u (min rise (last + 1))
    sooner rise last u =
        elim (cases_lt u rise) [
          | inl lt ↦ elim (cases_lt last u) [
            | inl past ↦ ap₂ (λ a b. a && b) (test_true u rise lt) (over last u past) ∙ sym (test_false u (min rise (last + 1)) (omega (arith, past)))
            | inr by ↦ ap₂ (λ a b. a && b) (test_true u rise lt) (inside last u by) ∙ sym (test_true u (min rise (last + 1)) (omega (arith, lt, by)))
          ]
          | inr ge ↦ ap (λ a. a && nat_le u last) (test_false u rise ge) ∙ sym (test_false u (min rise (last + 1)) (omega (arith, ge)))
        ]

-- ---- a frame has slots

pub has_slots : (f : List ℕ) → 0 < length f → 0 < length (frame_bits f)
has_slots [] l = l
has_slots (b ∷ []) l = omega arith
has_slots (b ∷ c ∷ bs) l = omega (arith, length-append (block_bits b false) (frame_bits (c ∷ bs)))
