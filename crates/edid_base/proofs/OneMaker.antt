-- Two bytes spell one maker at most.
use Rattle.std.proofs.Common.{◌≡◌, ℕ, ◌+◌, ◌-◌, ◌*◌, ◌/◌, ◌%◌, ◌≤◌, ◌<◌, true, ◌&&◌, nat_le, IsTrue, get_or, ap, arith}
use Rattle.std.proofs.lemmas.Bool.{and_parts, leb-true}
use Rattle.std.proofs.Math.Bool.{Bool-set}
use Rattle.edid_base.proofs.Same.{same}
use Rattle.edid_base.specs.Letters.{is_letter}
use Rattle.edid_base.specs.Maker.{maker_bytes}
use Rattle.edid_base.specs.declared.maker.Maker.{Maker}

record Plain : Type 0 where
  first : ℕ
  second : ℕ
  third : ℕ

abbrev Letters : Plain → Type 0
Letters p = IsTrue (is_letter p.first && is_letter p.second && is_letter p.third)

abbrev made : (p : Plain) → Letters p → Maker
made p h = record { first = p.first; second = p.second; third = p.third; letters = h }

abbrev plain : Maker → Plain
plain m = record { first = m.first; second = m.second; third = m.third }

pub bounds : (n : ℕ) → is_letter n ≡ true → (65 ≤ n) × (n ≤ 90)
bounds n h = let p = and_parts (nat_le 65 n) (nat_le n 90) h in (leb-true _ _ p.0, leb-true _ _ p.1)

numbers : (a b c x y z : ℕ) → a < 27 → b < 27 → c < 27 → x < 27 → y < 27 → z < 27
    → (a * 1024 + b * 32 + c) / 256 % 256 ≡ (x * 1024 + y * 32 + z) / 256 % 256
    → (a * 1024 + b * 32 + c) % 256 ≡ (x * 1024 + y * 32 + z) % 256 → (a ≡ x) × (b ≡ y) × (c ≡ z)
numbers a b c x y z ha hb hc hx hy hz e f =
    let n : a * 1024 + b * 32 + c ≡ x * 1024 + y * 32 + z = omega arith in
    (omega arith, omega arith, omega arith)

pub one_maker : (a b : Maker) → maker_bytes a ≡ maker_bytes b → a ≡ b
one_maker a b e =
    let ab = and_parts (is_letter a.first && is_letter a.second) (is_letter a.third) a.letters in
    let a12 = and_parts (is_letter a.first) (is_letter a.second) ab.0 in
    let bb = and_parts (is_letter b.first && is_letter b.second) (is_letter b.third) b.letters in
    let b12 = and_parts (is_letter b.first) (is_letter b.second) bb.0 in
    let p = bounds a.first a12.0 in
    let q = bounds a.second a12.1 in
    let r = bounds a.third ab.1 in
    let s = bounds b.first b12.0 in
    let t = bounds b.second b12.1 in
    let u = bounds b.third bb.1 in
    let e0 = ap (λ xs. get_or xs 0 0) e in
    let e1 = ap (λ xs. get_or xs 1 0) e in
    let same_numbers = numbers (a.first - 64) (a.second - 64) (a.third - 64) (b.first - 64) (b.second - 64) (b.third - 64)
    (omega arith) (omega arith) (omega arith) (omega arith) (omega arith) (omega arith) e0 e1 in
    let first : a.first ≡ b.first = omega (arith, same_numbers.0) in
    let second : a.second ≡ b.second = omega (arith, same_numbers.1) in
    let third : a.third ≡ b.third = omega (arith, same_numbers.2) in
    let all : plain a ≡ plain b = cc in
    same made (λ p. Bool-set _ true) (plain a) (plain b) a.letters b.letters all
