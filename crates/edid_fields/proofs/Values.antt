-- The values of fields are the bits of the block at their places.
use Rattle.std.proofs.Common.{◌≡◌, ℕ, zero, suc, ◌+◌, ◌-◌, ◌*◌, ◌/◌, ◌%◌, ◌^◌, ◌≤◌, ◌<◌, Bool, true, false, nat_le, nat_lt, if◌then◌else◌, List, [], ◌∷◌, ◌++◌, length, map, slice_index, Option, Some, None, ap, ap₂, refl, sym, ◌∙◌, arith}
use Rattle.std.proofs.lemmas.Bool.{and_parts, leb-true}
use Rattle.std.proofs.lemmas.Grind.{flat_map-append}
use Rattle.std.proofs.lemmas.List.{map-append}
use Rattle.std.proofs.lemmas.Nat.{div-mul-add, mod-pow-add, pow-add, pow_pos}
use Rattle.std.proofs.Math.Nat.{div-div-eq-div-mul, mod-lt}
use Rattle.std.proofs.Math.Pow.{mod-mod-pow}
use Rattle.edid_fields.proofs.Tiles.{next-shape}
use Rattle.edid_fields.specs.Fields.{after_shape, are_parts, are_rows, are_shapes, are_tests, are_times, at_first, began, chosen, copies, fields_of, is_part, is_run, is_table, stop_of, next_shape, part_end, part_fields, parts_at, field_of, rows_at, times_of}
use Rattle.edid_fields.specs.Tiling.{count, covered, covered_by}
use Rattle.edid_fields.specs.Values.{binary, bit, value_bits}
use Rattle.edid_fields.specs.Forms.{Field, Part, Row, Shape}
use Rattle.edid_fields.specs.declared.walking.Place.{Place}

-- bit i of a number's low bits is bit i of the number
pub low-bit : (v i more : ℕ) → v % 2 ^ (suc i + more) / 2 ^ i % 2 ≡ v / 2 ^ i % 2
low-bit v i more =
    let turn : suc i + more ≡ suc more + i = omega arith in
    let last : suc more ≡ more + 1 = omega arith in
    let within : v % 2 ^ i < 2 ^ i = mod-lt v (pow_pos i) in
    ap (λ e. v % 2 ^ e / 2 ^ i % 2) turn
    ∙ ap (λ x. x / 2 ^ i % 2) (mod-pow-add v (suc more) i)
    ∙ ap (λ x. x % 2) (div-mul-add (v / 2 ^ i % 2 ^ suc more) (2 ^ i) (v % 2 ^ i) within)
    ∙ ap (λ e. v / 2 ^ i % 2 ^ e % 2) last
    ∙ mod-mod-pow (v / 2 ^ i) more 1

-- the values of some bits of a byte
pub run-bits : (p : List ℕ) (k low w more : ℕ) → low + (w + more) ≤ 8
    → binary w (slice_index p k / (2 ^ low) % (2 ^ (w + more))) ≡ map (bit p) (count (8 * k + (8 - (low + w))) w)
unfolding binary count
run-bits p k low zero more h = refl
run-bits p k low (suc w) more h =
    let x = slice_index p k in
    let place : ℕ = 8 * k + (8 - (low + suc w)) in
    let byte : (8 * k + (8 - (low + suc w))) / 8 ≡ k = omega (arith, h) in
    let rest : 7 - (8 * k + (8 - (low + suc w))) % 8 ≡ low + w = omega (arith, h) in
    let first = low-bit (slice_index p k / (2 ^ low)) w more
    ∙ ap (λ y. y % 2) (div-div-eq-div-mul (slice_index p k) (2 ^ low) (2 ^ w) ∙ ap (λ y. slice_index p k / y) (sym (pow-add 2 low w)))
    ∙ sym (ap₂ (λ a b. slice_index p a / (2 ^ b) % 2) byte rest) in
    let wide : suc w + more ≡ w + suc more = omega arith in
    let next : 8 * k + (8 - (low + w)) ≡ suc (8 * k + (8 - (low + suc w))) = omega (arith, h) in
    let fewer : low + (w + suc more) ≤ 8 = omega (arith, h) in
    let tail = ap (λ e. binary w (slice_index p k / (2 ^ low) % (2 ^ e))) wide
    ∙ run-bits p k low w (suc more) fewer
    ∙ ap (λ a. map (bit p) (count a w)) next in
    ap₂ (λ a l. a ∷ l) first tail

pub field-bits : (p : List ℕ) (at : ℕ) (r : Row) → r.0.low ≤ r.0.high → r.0.high ≤ 7
    → binary (r.0.high - r.0.low + 1) (slice_index p (at + r.0.byte) / (2 ^ r.0.low) % (2 ^ (r.0.high - r.0.low + 1))) ≡ map (bit p) (count (8 * (at + r.0.byte) + (7 - r.0.high)) (r.0.high - r.0.low + 1))
field-bits p at r low high =
    let size : r.0.high - r.0.low + 1 ≡ r.0.high - r.0.low + 1 + 0 = omega arith in
    let few : r.0.low + (r.0.high - r.0.low + 1 + 0) ≤ 8 = omega (arith, low, high) in
    let place : 8 - (r.0.low + (r.0.high - r.0.low + 1)) ≡ 7 - r.0.high = omega (arith, low, high) in
    ap (λ e. binary (r.0.high - r.0.low + 1) (slice_index p (at + r.0.byte) / (2 ^ r.0.low) % (2 ^ e))) size
    ∙ run-bits p (at + r.0.byte) r.0.low (r.0.high - r.0.low + 1) 0 few
    ∙ ap (λ a. map (bit p) (count (8 * (at + r.0.byte) + a) (r.0.high - r.0.low + 1))) place

-- the values of fields are the bits at their places
abbrev pub Same : List ℕ → List Field → Type 0
Same p fields = value_bits fields ≡ map (bit p) (covered fields)

pub same-join : (p : List ℕ) (xs ys : List Field) → Same p xs → Same p ys → Same p (xs ++ ys)
same-join p xs ys s t =
    flat_map-append (λ r. binary r.width r.value) xs ys
    ∙ ap₂ (λ k l. k ++ l) s t
    ∙ sym (map-append (bit p) (covered xs) (covered ys))
    ∙ sym (ap (map (bit p)) (flat_map-append covered_by xs ys))

pub rows-same : (p : List ℕ) (at : ℕ) (rows : List Row) → are_rows rows ≡ true → Same p (rows_at p at rows)
unfolding rows_at
rows-same p at [] a = refl
rows-same p at (r ∷ rows) a =
    let run = and_parts (is_run r.0.high r.0.low) (are_rows rows) a in
    let order = and_parts (nat_le r.0.low r.0.high) (nat_le r.0.high 7) run.0 in
    by (nat_lt r.0.byte (length p - at)) (leb-true r.0.low r.0.high order.0) (leb-true r.0.high 7 order.1) (rows-same p at rows run.1)
  where
    by : (x : Bool) → r.0.low ≤ r.0.high → r.0.high ≤ 7 → Same p (rows_at p at rows) → Same p (if x then field_of p at r ∷ rows_at p at rows else [])
    by true low high more = ap₂ (λ k l. k ++ l) (field-bits p at r low high) more ∙ sym (map-append (bit p) (covered_by (field_of p at r)) (covered (rows_at p at rows)))
    by false low high more = refl

pub copies-same : (n : ℕ) (stop : Option ℕ) (p starts : List ℕ) (shapes : List Shape) (w : Place) → are_shapes shapes ≡ true → Same p (copies n stop p starts shapes w)
unfolding copies
copies-same zero stop p starts shapes w h = refl
copies-same (suc n) stop p starts shapes w h = by (next_shape stop p starts w.at shapes) refl (λ v. copies-same n stop p starts shapes v h)
  where
    by : (o : Option Shape) → next_shape stop p starts w.at shapes ≡ o → ((v : Place) → Same p (copies n stop p starts shapes v))
        → Same p (chosen o [] (λ s. rows_at p w.at s.2 ++ copies n stop p starts shapes (after_shape p w s)))
    by None e more = refl
    by (Some s) e more =
        let shape = next-shape stop p starts w.at shapes s h e in
        let one = and_parts (are_tests s.0) _ shape in
        let two = and_parts (are_rows s.2) _ one.1 in
        same-join p (rows_at p w.at s.2) (copies n stop p starts shapes (after_shape p w s)) (rows-same p w.at s.2 two.0) (more (after_shape p w s))

pub parts-same : (p starts : List ℕ) (w : Place) (parts : List Part) → are_parts parts ≡ true → Same p (parts_at p starts w parts)
unfolding parts_at
parts-same p starts w [] h = refl
parts-same p starts w (part ∷ parts) h =
    let both = and_parts (is_part part) (are_parts parts) h in
    let shapes = and_parts (are_times part.0) (are_shapes part.1) both.0 in
    same-join p (part_fields p starts w part) (parts_at p (starts ++ (began p w (part_end p starts w part) ∷ [])) (part_end p starts w part) parts)
    (copies-same (times_of p starts w.at part.0) (stop_of p starts w.at part.0) p starts part.1 w shapes.1)
    (parts-same p (starts ++ (began p w (part_end p starts w part) ∷ [])) (part_end p starts w part) parts both.1)

-- the law
pub all-same : (table : List Part) (p : List ℕ) → is_table table ≡ true → Same p (fields_of table p)
all-same table p h = let both = and_parts (nat_le (length table) 16) (are_parts table) h in parts-same p [] at_first table both.1
