-- Pins and counts, one after another.
use Rattle.std.proofs.Common.{◌≡◌, ℕ, ◌+◌, ◌≤◌, ◌==◌, Bool, true, false, cond, if◌then◌else◌, drop, filter, get_or, map, min, length, List, [], ◌∷◌, ◌++◌, Option, Some, None, refl, sym, ap, ap₂, subst, subst₂, ◌∙◌, append-nil, arith, length-append}
use Rattle.std.proofs.lemmas.Grind.{flat_map-append}
use Rattle.std.proofs.lemmas.List.Elements.{filter-append}
use Rattle.std.specs.List.{flat_map}
use Rattle.text_core.specs.Adds.{Adds, Tally}
use Rattle.text_core.proofs.Adding.{nothing, then}
use Rattle.line_wave.specs.declared.Stretch.{Stretch}
use Rattle.capture_replay.specs.Counts.{CountsOn, tallied, with_left, with_pin}
use Rattle.audit_pieces.specs.Pieces.{Parts}
use Rattle.audit_pieces.specs.declared.piece.Slot.{Slot}
use Rattle.capture_replay.specs.Drives.{Drive, broken_drives, drive, drives_of, hidden_one, is_pulled, low_of, pull_in, puller, slot_drives, slots_drives, stretch}
use Rattle.capture_replay.specs.Replay.{Plays, is_by, is_unknown, lows_by, pin_lines, pins_text, unknown_in}
use Rattle.capture_replay.specs.Sides.{sides_of}
use Rattle.capture_replay.specs.declared.counts.ReplayCounts.{ReplayCounts}
use Rattle.capture_replay.specs.declared.sides.Sides.{Sides}

-- ---- counts

same_number : (p : ℕ) → p ≡ p + 0
same_number p = omega arith

no_more : (c : ReplayCounts) → CountsOn 0 0 c c
no_more c = λ p q is. is ∙ ap₂ (λ (m n : ℕ). tallied m n) (same_number p) (same_number q)

further : (p m n : ℕ) → p + m + n ≡ p + (m + n)
further p m n = omega arith

on_both : (m k n l : ℕ) (c d e : ReplayCounts) → CountsOn m k c d → CountsOn n l d e → CountsOn (m + n) (k + l) c e
on_both m k n l c d e first second = λ p q is. second (p + m) (q + k) (first p q is) ∙ ap₂ (λ (u v : ℕ). tallied u v) (further p m n) (further q k l)

summed : (p n : ℕ) → min (min p 18446744073709551615 + n) 18446744073709551615 ≡ min (p + n) 18446744073709551615
summed p n = omega arith

stays : (p : ℕ) → min p 18446744073709551615 ≡ min (p + 0) 18446744073709551615
stays p = omega arith

abbrev as_counts : ℕ → ℕ → ReplayCounts
as_counts m n = record { pins = m; left_out = n }

one_pin : (c d : ReplayCounts) → d ≡ with_pin c → CountsOn 1 0 c d
one_pin c d same = λ p q is. same ∙ ap (λ (e : ReplayCounts). with_pin e) is ∙ ap₂ as_counts (summed p 1) (stays q)

pub more_left : (n : ℕ) (c d : ReplayCounts) → d ≡ with_left n c → CountsOn 0 n c d
more_left n c d same = λ p q is. same ∙ ap (λ (e : ReplayCounts). with_left n e) is ∙ ap₂ as_counts (stays p) (summed q n)

-- ---- drives, one after another

map_both : {X Y : Type 0} (f : X → Y) (xs ys : List X) → map f (xs ++ ys) ≡ map f xs ++ map f ys
map_both f [] ys = refl
map_both f (x ∷ xs) ys = ap (λ rest. f x ∷ rest) (map_both f xs ys)

lows_append : (address : ℕ) (ds es : List Drive) → lows_by address (ds ++ es) ≡ lows_by address ds ++ lows_by address es
lows_append address ds es =
    ap (λ (all : List Drive). map (λ (d : Drive). d.low) all) (filter-append (is_by address) ds es)
    ∙ map_both (λ (d : Drive). d.low) (filter (is_by address) ds) (filter (is_by address) es)

pins_append : (address : ℕ) (ds es : List Drive) → pins_text address (ds ++ es) ≡ pins_text address ds ++ pins_text address es
pins_append address ds es = ap (flat_map pin_lines) (lows_append address ds es) ∙ flat_map-append pin_lines (lows_by address ds) (lows_by address es)

count_append : (address : ℕ) (ds es : List Drive) → length (lows_by address ds) + length (lows_by address es) ≡ length (lows_by address (ds ++ es))
count_append address ds es = sym (ap length (lows_append address ds es) ∙ length-append (lows_by address ds) (lows_by address es))

unknown_append : (ds es : List Drive) → unknown_in (ds ++ es) ≡ unknown_in ds + unknown_in es
unknown_append ds es =
    ap length (filter-append (λ (d : Drive). is_unknown d.by) ds es) ∙ length-append (filter (λ (d : Drive). is_unknown d.by) ds) (filter (λ (d : Drive). is_unknown d.by) es)

left_append : (ds es : List Drive) (m n : ℕ) → unknown_in ds + m + (unknown_in es + n) ≡ unknown_in (ds ++ es) + (m + n)
left_append ds es m n = let each = unknown_append ds es in omega (arith, each)

pub plays_none : (address : ℕ) (x : Tally) (c : ReplayCounts) → Plays address [] 0 x x c c
plays_none address x c = (nothing x, no_more c)

pub plays_both : (address : ℕ) (ds es : List Drive) (m n : ℕ) (x y z : Tally) (c d e : ReplayCounts) → Plays address ds m x y c d → Plays address es n y z d e
    → Plays address (ds ++ es) (m + n) x z c e
plays_both address ds es m n x y z c d e (text, counts) (others, further_counts) = (
  subst (λ (t : List ℕ). Adds x z t) (sym (pins_append address ds es)) ((then) x y z (pins_text address ds) (pins_text address es) text others),
  subst₂ (λ (u v : ℕ). CountsOn u v c e) (count_append address ds es) (left_append ds es m n)
      (on_both (length (lows_by address ds)) (unknown_in ds + m) (length (lows_by address es)) (unknown_in es + n) c d e counts further_counts),
)

-- further stretches that are left out
pub plays_trail : (address : ℕ) (ds : List Drive) (n : ℕ) (x y : Tally) (c d e : ReplayCounts) → Plays address ds 0 x y c d → e ≡ with_left n d → Plays address ds n x y c e
plays_trail address ds n x y c d e (text, counts) same = (
  text,
  subst₂ (λ (u v : ℕ). CountsOn u v c e) (sym (same_number (length (lows_by address ds)))) (ap (λ (u : ℕ). u + n) (sym (same_number (unknown_in ds))))
      (on_both (length (lows_by address ds)) (unknown_in ds + 0) 0 n c d e counts (more_left n d e same)),
)

-- ---- one low stretch

pub plays_unknown : (address : ℕ) (low : Stretch) (x : Tally) (c d : ReplayCounts) → d ≡ with_left 1 c → Plays address (drive None low ∷ []) 0 x x c d
plays_unknown address low x c d same = (nothing x, more_left 1 c d same)

lows_one : (address by : ℕ) (low : Stretch) (own : Bool) → (by == address) ≡ own
    → lows_by address (drive (Some by) low ∷ []) ≡ map (λ (d : Drive). d.low) (cond own (drive (Some by) low ∷ []) [])
lows_one address by low own same = ap (λ (t : Bool). map (λ (d : Drive). d.low) (cond t (drive (Some by) low ∷ []) [])) same

one_text : (x y : Tally) (low : Stretch) → Adds x y (pin_lines low) → Adds x y (flat_map pin_lines (low ∷ []))
one_text x y low adds = subst (λ (t : List ℕ). Adds x y t) (sym (append-nil (pin_lines low))) adds

pub plays_own : (address by : ℕ) (low : Stretch) (x y : Tally) (c d : ReplayCounts) → (by == address) ≡ true → Adds x y (pin_lines low) → d ≡ with_pin c
    → Plays address (drive (Some by) low ∷ []) 0 x y c d
plays_own address by low x y c d own adds same = (
  subst (λ (lows : List Stretch). Adds x y (flat_map pin_lines lows)) (sym (lows_one address by low true own)) (one_text x y low adds),
  subst (λ (lows : List Stretch). CountsOn (length lows) 0 c d) (sym (lows_one address by low true own)) (one_pin c d same),
)

pub plays_other : (address by : ℕ) (low : Stretch) (x : Tally) (c : ReplayCounts) → (by == address) ≡ false → Plays address (drive (Some by) low ∷ []) 0 x x c c
plays_other address by low x c other = (
  subst (λ (lows : List Stretch). Adds x x (flat_map pin_lines lows)) (sym (lows_one address by low false other)) (nothing x),
  subst (λ (lows : List Stretch). CountsOn (length lows) 0 c c) (sym (lows_one address by low false other)) (no_more c),
)

-- ---- the parts of a piece

-- two that two devices drove in one slot
pub two_drives : (address : ℕ) (by : Option ℕ) (one own : Stretch) (other taker : Option ℕ) (two pulled : Stretch) (x y z : Tally) (c d e : ReplayCounts) → one ≡ own → other ≡ taker → two ≡ pulled
    → Plays address (drive by one ∷ []) 0 x y c d → Plays address (drive other two ∷ []) 0 y z d e → Plays address (drive by own ∷ drive taker pulled ∷ []) 0 x z c e
two_drives address by one own other taker two pulled x y z c d e first second third plays then_plays =
    plays_both address (drive by own ∷ []) (drive taker pulled ∷ []) 0 0 x y z c d e
    (subst (λ (low : Stretch). Plays address (drive by low ∷ []) 0 x y c d) first plays)
    (subst₂ (λ (o : Option ℕ) (low : Stretch). Plays address (drive o low ∷ []) 0 y z d e) second third then_plays)

pub pulled : (address : ℕ) (s : Sides) (k : ℕ) (slot : Slot) (x y : Tally) (c d : ReplayCounts) → is_pulled k slot ≡ true
    → Plays address (drive s.sender (hidden_one slot) ∷ drive (puller s.taker slot) (pull_in slot) ∷ []) 0 x y c d → Plays address (slot_drives s k slot) 0 x y c d
pulled address s k slot x y c d is plays =
    subst (λ (ds : List Drive). Plays address ds 0 x y c d)
    (sym (ap (λ (b : Bool). if b then drive s.sender (hidden_one slot) ∷ drive (puller s.taker slot) (pull_in slot) ∷ [] else drive s.sender (low_of slot) ∷ []) is)) plays

pub one_drives : (address : ℕ) (s : Sides) (k : ℕ) (slot : Slot) (low : Stretch) (x y : Tally) (c d : ReplayCounts) → low ≡ low_of slot → is_pulled k slot ≡ false
    → Plays address (drive s.sender low ∷ []) 0 x y c d → Plays address (slot_drives s k slot) 0 x y c d
one_drives address s k slot low x y c d same is plays =
    subst (λ (ds : List Drive). Plays address ds 0 x y c d)
    (ap (λ (l : Stretch). drive s.sender l ∷ []) same
    ∙ sym (ap (λ (b : Bool). if b then drive s.sender (hidden_one slot) ∷ drive (puller s.taker slot) (pull_in slot) ∷ [] else drive s.sender (low_of slot) ∷ []) is)) plays

clash : 1 ≤ 0 → ⊥
clash h = omega (arith, h)

slots_of : (s : Sides) (k : ℕ) (slots : List Slot) (d : Slot) → 1 ≤ length slots → slot_drives s k (get_or slots 0 d) ++ slots_drives s (k + 1) (drop 1 slots) ≡ slots_drives s k slots
slots_of s k [] d h = absurd (clash h)
slots_of s k (slot ∷ slots) d h = refl

pub first_slot : (address : ℕ) (s : Sides) (k : ℕ) (slots : List Slot) (o : Slot) (x y z : Tally) (c d e : ReplayCounts) → 1 ≤ length slots
    → Plays address (slot_drives s k (get_or slots 0 o)) 0 x y c d → Plays address (slots_drives s (k + 1) (drop 1 slots)) 0 y z d e → Plays address (slots_drives s k slots) 0 x z c e
first_slot address s k slots o x y z c d e h first others =
    subst (λ (ds : List Drive). Plays address ds 0 x z c e) (slots_of s k slots o h)
    (plays_both address (slot_drives s k (get_or slots 0 o)) (slots_drives s (k + 1) (drop 1 slots)) 0 0 x y z c d e first others)

pub whole_piece : (address : ℕ) (p : Parts) (s : Sides) (slots : List Slot) (w x y z : Tally) (a b c d e : ReplayCounts) → s ≡ sides_of slots → slots ≡ p.slots
    → Plays address (drive s.sender (stretch p.head.fall p.head.rise) ∷ []) 0 w x a b → Plays address (slots_drives s 1 slots) 0 x y b c → Plays address (broken_drives p.broken_by) 0 y z c d
    → e ≡ with_left p.trail d → Plays address (drives_of p) p.trail w z a e
whole_piece address p s slots w x y z a b c d e sides all head rest broken left =
    plays_trail address (drives_of p) p.trail w z a d e
    (subst₂ (λ (t : Sides) (ss : List Slot). Plays address (drive t.sender (stretch p.head.fall p.head.rise) ∷ (slots_drives t 1 ss ++ broken_drives p.broken_by)) 0 w z a d)
    (sides ∙ ap sides_of all) all
    (plays_both address (drive s.sender (stretch p.head.fall p.head.rise) ∷ []) (slots_drives s 1 slots ++ broken_drives p.broken_by) 0 0 w x z a b d head
    (plays_both address (slots_drives s 1 slots) (broken_drives p.broken_by) 0 0 x y z b c d rest broken)))
    left
