-- The fields of a block follow one another without a gap.
use Rattle.std.proofs.Common.{◌≡◌, ℕ, zero, suc, ◌+◌, ◌-◌, ◌*◌, ◌≤◌, Bool, true, false, ◌==◌, nat_le, nat_lt, if◌then◌else◌, List, [], ◌∷◌, ◌++◌, length, length-append, Option, Some, None, ap, ap₂, refl, sym, ◌∙◌, subst, arith}
use Rattle.std.proofs.lemmas.Bool.{and_parts, eqb-true, leb-true, ltb-false, ltb-true}
use Rattle.std.proofs.lemmas.Grind.{flat_map-append}
use Rattle.edid_fields.specs.Fields.{after_shape, are_parts, are_rows, are_shapes, are_tests, are_times, at_first, began, chosen, copies, copies_end, end_of, fields_of, is_part, is_past, is_run, is_table, is_shape, is_tiled, stop_of, next_shape, part_end, part_fields, parts_at, parts_end, passes, field_of, rows_at, shape_of, times_of}
use Rattle.edid_fields.specs.Tiling.{all_bits, count, covered, covered_by, left_bits}
use Rattle.edid_fields.specs.Forms.{Field, Part, Row, Shape}
use Rattle.edid_fields.specs.declared.walking.Place.{Place}

pub count-append : (b m n : ℕ) → count b m ++ count (b + m) n ≡ count b (m + n)
unfolding count
count-append b zero n =
    let place : b + 0 ≡ b = omega arith in
    let size : n ≡ 0 + n = omega arith in
    ap₂ count place size
count-append b (suc m) n =
    let place : b + suc m ≡ suc b + m = omega arith in
    let size : suc (m + n) ≡ suc m + n = omega arith in
    ap (λ l. b ∷ l) (ap (λ x. count (suc b) m ++ count x n) place ∙ count-append (suc b) m n) ∙ ap (count b) size

-- the end of a run is that of the next one
pub count-join : (a b c : ℕ) → a ≤ b → b ≤ c → count a (b - a) ++ count b (c - b) ≡ count a (c - a)
count-join a b c h k =
    let at : b ≡ a + (b - a) = omega (arith, h) in
    let sum : (b - a) + (c - b) ≡ c - a = omega (arith, h, k) in
    ap (λ x. count a (b - a) ++ count x (c - b)) at ∙ count-append a (b - a) (c - b) ∙ ap (count a) sum

pub count-none : (a n : ℕ) → n ≡ 0 → [] ≡ count a n
unfolding count
count-none a n e = ap (count a) (sym e)

pub tiled-le : (b e : ℕ) (rows : List Row) → are_rows rows ≡ true → is_tiled b rows e ≡ true → b ≤ e
unfolding is_tiled
tiled-le b e [] a t = let same = eqb-true b e t in omega (arith, same)
tiled-le b e (r ∷ rows) a t =
    let run = and_parts (is_run r.0.high r.0.low) (are_rows rows) a in
    let order = and_parts (nat_le r.0.low r.0.high) (nat_le r.0.high 7) run.0 in
    let low = leb-true r.0.low r.0.high order.0 in
    let high = leb-true r.0.high 7 order.1 in
    let parts = and_parts ((8 * r.0.byte + (7 - r.0.high)) == b) (is_tiled (8 * r.0.byte + (8 - r.0.low)) rows e) t in
    let here = eqb-true (8 * r.0.byte + (7 - r.0.high)) b parts.0 in
    let more = tiled-le (8 * r.0.byte + (8 - r.0.low)) e rows run.1 parts.1 in
    omega (arith, low, high, here, more)

-- of the bytes of a part, those that are there
abbrev pub there : ℕ → ℕ → ℕ
there bytes left = if nat_lt bytes left then bytes else left

pub there-least : (x bytes left : ℕ) → x ≤ 8 * bytes → x ≤ 8 * left → x ≤ 8 * there bytes left
there-least x bytes left h k = by (nat_lt bytes left)
  where
    by : (y : Bool) → x ≤ 8 * (if y then bytes else left)
    by true = h
    by false = k

pub there-most : (bytes left : ℕ) → there bytes left ≤ left
there-most bytes left = by (nat_lt bytes left) refl
  where
    by : (y : Bool) → nat_lt bytes left ≡ y → (if y then bytes else left) ≤ left
    by true k = let few = ltb-true bytes left k in omega (arith, few)
    by false k = omega arith

pub one-row : (at b most : ℕ) (r : Row) (more : List ℕ) → r.0.low ≤ r.0.high → r.0.high ≤ 7 → 8 * r.0.byte + (7 - r.0.high) ≡ b → 8 * r.0.byte + (8 - r.0.low) ≤ 8 * most
    → more ≡ count (8 * at + (8 * r.0.byte + (8 - r.0.low))) (8 * most - (8 * r.0.byte + (8 - r.0.low)))
    → count (8 * (at + r.0.byte) + (7 - r.0.high)) (r.0.high - r.0.low + 1) ++ more ≡ count (8 * at + b) (8 * most - b)
one-row at b most r more low high here within e =
    let past : 8 * at + b ≤ 8 * at + (8 * r.0.byte + (8 - r.0.low)) = omega (arith, low, high, here) in
    let last : 8 * at + (8 * r.0.byte + (8 - r.0.low)) ≤ 8 * at + 8 * most = omega (arith, within) in
    let start : 8 * (at + r.0.byte) + (7 - r.0.high) ≡ 8 * at + b = omega (arith, here) in
    let width : r.0.high - r.0.low + 1 ≡ (8 * at + (8 * r.0.byte + (8 - r.0.low))) - (8 * at + b) = omega (arith, low, high, here) in
    let rest : 8 * most - (8 * r.0.byte + (8 - r.0.low)) ≡ (8 * at + 8 * most) - (8 * at + (8 * r.0.byte + (8 - r.0.low))) = omega arith in
    let whole : (8 * at + 8 * most) - (8 * at + b) ≡ 8 * most - b = omega arith in
    ap₂ (λ x n. count x n ++ more) start width
    ∙ ap (λ l. count (8 * at + b) ((8 * at + (8 * r.0.byte + (8 - r.0.low))) - (8 * at + b)) ++ l) (e ∙ ap (count (8 * at + (8 * r.0.byte + (8 - r.0.low)))) rest)
    ∙ count-join (8 * at + b) (8 * at + (8 * r.0.byte + (8 - r.0.low))) (8 * at + 8 * most) past last
    ∙ ap (count (8 * at + b)) whole

pub rows-tile : (p : List ℕ) (at b bytes : ℕ) (rows : List Row) → are_rows rows ≡ true → is_tiled b rows (8 * bytes) ≡ true
    → covered (rows_at p at rows) ≡ count (8 * at + b) (8 * there bytes (length p - at) - b)
unfolding is_tiled rows_at
rows-tile p at b bytes [] a t =
    let same = eqb-true b (8 * bytes) t in
    count-none _ _ (by (nat_lt bytes (length p - at)) refl same)
  where
    by : (x : Bool) → nat_lt bytes (length p - at) ≡ x → b ≡ 8 * bytes → 8 * (if x then bytes else length p - at) - b ≡ 0
    by true k same = omega (arith, same)
    by false k same = let le : length p - at ≤ bytes = ltb-false bytes (length p - at) k in omega (arith, same, le)
rows-tile p at b bytes (r ∷ rows) a t =
    let run = and_parts (is_run r.0.high r.0.low) (are_rows rows) a in
    let order = and_parts (nat_le r.0.low r.0.high) (nat_le r.0.high 7) run.0 in
    let low = leb-true r.0.low r.0.high order.0 in
    let high = leb-true r.0.high 7 order.1 in
    let parts = and_parts ((8 * r.0.byte + (7 - r.0.high)) == b) (is_tiled (8 * r.0.byte + (8 - r.0.low)) rows (8 * bytes)) t in
    let here = eqb-true (8 * r.0.byte + (7 - r.0.high)) b parts.0 in
    let within = tiled-le (8 * r.0.byte + (8 - r.0.low)) (8 * bytes) rows run.1 parts.1 in
    by (nat_lt r.0.byte (length p - at)) refl low high here within (rows-tile p at (8 * r.0.byte + (8 - r.0.low)) bytes rows run.1 parts.1)
  where
    by : (x : Bool) → nat_lt r.0.byte (length p - at) ≡ x → r.0.low ≤ r.0.high → r.0.high ≤ 7 → 8 * r.0.byte + (7 - r.0.high) ≡ b → 8 * r.0.byte + (8 - r.0.low) ≤ 8 * bytes
        → covered (rows_at p at rows) ≡ count (8 * at + (8 * r.0.byte + (8 - r.0.low))) (8 * there bytes (length p - at) - (8 * r.0.byte + (8 - r.0.low)))
        → covered (if x then field_of p at r ∷ rows_at p at rows else []) ≡ count (8 * at + b) (8 * there bytes (length p - at) - b)
    by true k low high here within more = one-row at b (there bytes (length p - at)) r (covered (rows_at p at rows)) low high here (there-least _ bytes (length p - at) within (let few = ltb-true r.0.byte (length p - at) k in omega (arith, few))) more
    by false k low high here within more =
        let past = ltb-false r.0.byte (length p - at) k in
        let most = there-most bytes (length p - at) in
        count-none _ _ (omega (arith, past, most, here))

-- no row is without bits, so that there are no more fields than bits
pub rows-few : (p : List ℕ) (at b bytes : ℕ) (rows : List Row) → are_rows rows ≡ true → is_tiled b rows (8 * bytes) ≡ true
    → length (rows_at p at rows) ≤ 8 * there bytes (length p - at) - b
unfolding is_tiled rows_at
rows-few p at b bytes [] a t = omega arith
rows-few p at b bytes (r ∷ rows) a t =
    let run = and_parts (is_run r.0.high r.0.low) (are_rows rows) a in
    let order = and_parts (nat_le r.0.low r.0.high) (nat_le r.0.high 7) run.0 in
    let low = leb-true r.0.low r.0.high order.0 in
    let high = leb-true r.0.high 7 order.1 in
    let parts = and_parts ((8 * r.0.byte + (7 - r.0.high)) == b) (is_tiled (8 * r.0.byte + (8 - r.0.low)) rows (8 * bytes)) t in
    let here = eqb-true (8 * r.0.byte + (7 - r.0.high)) b parts.0 in
    let within = tiled-le (8 * r.0.byte + (8 - r.0.low)) (8 * bytes) rows run.1 parts.1 in
    by (nat_lt r.0.byte (length p - at)) refl low high here within (rows-few p at (8 * r.0.byte + (8 - r.0.low)) bytes rows run.1 parts.1)
  where
    by : (x : Bool) → nat_lt r.0.byte (length p - at) ≡ x → r.0.low ≤ r.0.high → r.0.high ≤ 7 → 8 * r.0.byte + (7 - r.0.high) ≡ b → 8 * r.0.byte + (8 - r.0.low) ≤ 8 * bytes
        → length (rows_at p at rows) ≤ 8 * there bytes (length p - at) - (8 * r.0.byte + (8 - r.0.low))
        → length (if x then field_of p at r ∷ rows_at p at rows else []) ≤ 8 * there bytes (length p - at) - b
    by true k low high here within more =
        let most = there-least (8 * r.0.byte + (8 - r.0.low)) bytes (length p - at) within (let few = ltb-true r.0.byte (length p - at) k in omega (arith, few)) in
        omega (arith, low, high, here, most, more)
    by false k low high here within more = omega arith

-- a walk from one place of a block to another has each bit between them
pub record Tiles (fields : List Field) (a b most : ℕ) : Type 0 where
  pub bits : covered fields ≡ count (8 * a) (8 * b - 8 * a)
  pub few : length fields ≤ 8 * b - 8 * a
  pub order : a ≤ b
  pub within : b ≤ most

pub tiles-none : (a most : ℕ) → a ≤ most → Tiles [] a a most
tiles-none a most h = record {
  bits = count-none (8 * a) (8 * a - 8 * a) (omega arith);
  few = omega arith;
  order = omega arith;
  within = h;
}

pub tiles-join : (xs ys : List Field) (a b c most : ℕ) → Tiles xs a b most → Tiles ys b c most → Tiles (xs ++ ys) a c most
tiles-join xs ys a b c most s t =
    let first = s.order in
    let second = t.order in
    let left = s.few in
    let right = t.few in
    let sum = length-append xs ys in
    record {
      bits = flat_map-append covered_by xs ys ∙ ap₂ (λ k l. k ++ l) s.bits t.bits ∙ count-join (8 * a) (8 * b) (8 * c) (omega (arith, first)) (omega (arith, second));
      few = omega (arith, first, second, left, right, sum);
      order = omega (arith, first, second);
      within = t.within;
    }

pub past-least : (at bytes most : ℕ) → at ≤ most → there bytes (most - at) ≡ (if nat_lt (at + bytes) most then at + bytes else most) - at
past-least at bytes most h = by (nat_lt bytes (most - at)) refl (nat_lt (at + bytes) most) refl
  where
    by : (x : Bool) → nat_lt bytes (most - at) ≡ x → (y : Bool) → nat_lt (at + bytes) most ≡ y → (if x then bytes else most - at) ≡ (if y then at + bytes else most) - at
    by true k true l = omega arith
    by true k false l = let a = ltb-true bytes (most - at) k in let b = ltb-false (at + bytes) most l in omega (arith, a, b, h)
    by false k true l = let a = ltb-false bytes (most - at) k in let b = ltb-true (at + bytes) most l in omega (arith, a, b, h)
    by false k false l = refl

pub order-of : (at bytes most : ℕ) → at ≤ most → at ≤ (if nat_lt (at + bytes) most then at + bytes else most)
order-of at bytes most h = by (nat_lt (at + bytes) most)
  where
    by : (y : Bool) → at ≤ (if y then at + bytes else most)
    by true = omega arith
    by false = h

pub within-of : (at bytes most : ℕ) → (if nat_lt (at + bytes) most then at + bytes else most) ≤ most
within-of at bytes most = by (nat_lt (at + bytes) most) refl
  where
    by : (y : Bool) → nat_lt (at + bytes) most ≡ y → (if y then at + bytes else most) ≤ most
    by true k = let few = ltb-true (at + bytes) most k in omega (arith, few)
    by false k = omega arith

pub found-shape : (p starts : List ℕ) (at : ℕ) (shapes : List Shape) (s : Shape) → are_shapes shapes ≡ true → shape_of p starts at shapes ≡ Some s → is_shape s ≡ true
unfolding shape_of
found-shape p starts at [] s h e = cc
found-shape p starts at (x ∷ shapes) s h e =
    let both = and_parts (is_shape x) (are_shapes shapes) h in
    by (passes p starts at x.0) e both.0 (λ k. found-shape p starts at shapes s both.1 k)
  where
    by : (b : Bool) → (if b then Some x else shape_of p starts at shapes) ≡ Some s → is_shape x ≡ true → (shape_of p starts at shapes ≡ Some s → is_shape s ≡ true) → is_shape s ≡ true
    by true k one more = let same : x ≡ s = cc in subst (λ y. is_shape y ≡ true) same one
    by false k one more = more k

-- a shape that is met
pub shape-tiles : (p : List ℕ) (w : Place) (s : Shape) → is_shape s ≡ true → w.at ≤ length p → Tiles (rows_at p w.at s.2) w.at (after_shape p w s).at (length p)
shape-tiles p w s h k =
    let one = and_parts (are_tests s.0) _ h in
    let two = and_parts (are_rows s.2) _ one.1 in
    let three = and_parts (is_tiled 0 s.2 (8 * s.1.bytes)) _ two.1 in
    let rows = rows-tile p w.at 0 s.1.bytes s.2 two.0 three.0 in
    let past = past-least w.at s.1.bytes (length p) k in
    let few = rows-few p w.at 0 s.1.bytes s.2 two.0 three.0 in
    record {
      bits = rows ∙ ap₂ count (omega arith) (ap (λ x. 8 * x - 0) past ∙ ends w.at (after_shape p w s).at);
      few = subst (λ n. length (rows_at p w.at s.2) ≤ n) (ap (λ x. 8 * x - 0) past ∙ ends w.at (after_shape p w s).at) few;
      order = order-of w.at s.1.bytes (length p) k;
      within = within-of w.at s.1.bytes (length p);
    }
  where
    ends : (a b : ℕ) → 8 * (b - a) - 0 ≡ 8 * b - 8 * a
    ends a b = omega arith

pub next-shape : (stop : Option ℕ) (p starts : List ℕ) (at : ℕ) (shapes : List Shape) (s : Shape) → are_shapes shapes ≡ true → next_shape stop p starts at shapes ≡ Some s → is_shape s ≡ true
next-shape stop p starts at shapes s h e = by (is_past stop at) e
  where
    by : (x : Bool) → (if x then None else shape_of p starts at shapes) ≡ Some s → is_shape s ≡ true
    by true k = cc
    by false k = found-shape p starts at shapes s h k

pub copies-tile : (n : ℕ) (stop : Option ℕ) (p starts : List ℕ) (shapes : List Shape) (w : Place) → are_shapes shapes ≡ true → w.at ≤ length p
    → Tiles (copies n stop p starts shapes w) w.at (copies_end n stop p starts shapes w).at (length p)
unfolding copies copies_end
copies-tile zero stop p starts shapes w h k = tiles-none w.at (length p) k
copies-tile (suc n) stop p starts shapes w h k = by (next_shape stop p starts w.at shapes) refl (λ v l. copies-tile n stop p starts shapes v h l)
  where
    by : (o : Option Shape) → next_shape stop p starts w.at shapes ≡ o
        → ((v : Place) → v.at ≤ length p → Tiles (copies n stop p starts shapes v) v.at (copies_end n stop p starts shapes v).at (length p))
        → Tiles (chosen o [] (λ s. rows_at p w.at s.2 ++ copies n stop p starts shapes (after_shape p w s))) w.at (chosen o w (λ s. copies_end n stop p starts shapes (after_shape p w s))).at (length p)
    by None e more = tiles-none w.at (length p) k
    by (Some s) e more =
        let one = shape-tiles p w s (next-shape stop p starts w.at shapes s h e) k in
        tiles-join (rows_at p w.at s.2) (copies n stop p starts shapes (after_shape p w s)) w.at (after_shape p w s).at (copies_end n stop p starts shapes (after_shape p w s)).at (length p) one (more (after_shape p w s) one.within)

pub parts-tile : (p starts : List ℕ) (w : Place) (parts : List Part) → are_parts parts ≡ true → w.at ≤ length p
    → Tiles (parts_at p starts w parts) w.at (parts_end p starts w parts).at (length p)
unfolding parts_at parts_end
parts-tile p starts w [] h k = tiles-none w.at (length p) k
parts-tile p starts w (part ∷ parts) h k =
    let both = and_parts (is_part part) (are_parts parts) h in
    let shapes = and_parts (are_times part.0) (are_shapes part.1) both.0 in
    let one = copies-tile (times_of p starts w.at part.0) (stop_of p starts w.at part.0) p starts part.1 w shapes.1 k in
    tiles-join (part_fields p starts w part) _ w.at (part_end p starts w part).at _ (length p) one (parts-tile p (starts ++ (began p w (part_end p starts w part) ∷ [])) (part_end p starts w part) parts both.1 one.within)

pub all-tile : (table : List Part) (p : List ℕ) → is_table table ≡ true → Tiles (fields_of table p) 0 (end_of table p).at (length p)
all-tile table p h = let both = and_parts (nat_le (length table) 16) (are_parts table) h in parts-tile p [] at_first table both.1 (omega arith)

-- the law
pub every-bit : (table : List Part) (p : List ℕ) → is_table table ≡ true → covered (fields_of table p) ++ left_bits table p ≡ all_bits p
every-bit table p h =
    let all = all-tile table p h in
    let within = all.within in
    let whole : 8 * length p - 0 ≡ 8 * length p = omega arith in
    ap (λ l. l ++ left_bits table p) all.bits ∙ count-join 0 (8 * (end_of table p).at) (8 * length p) (omega arith) (omega (arith, within)) ∙ ap (count 0) whole

-- a block of 31 bytes has at most 248 fields
pub fields_fit : (table : List Part) (p : List ℕ) → is_table table ≡ true → length p ≤ 31 → length (fields_of table p) ≤ 248
fields_fit table p h k =
    let all = all-tile table p h in
    let few = all.few in
    let within = all.within in
    omega (arith, few, within, k)
