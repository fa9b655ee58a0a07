-- A written block is not refused.
use Rattle.std.proofs.Common.{◌≡◌, ℕ, ◌+◌, ◌-◌, ◌*◌, ◌/◌, ◌%◌, ◌≤◌, ◌<◌, Bool, true, ◌&&◌, not, nat_le, nat_lt, cond, Some, None, List, [], ◌∷◌, ◌++◌, sum, arith, refl, eq-eqb}
use borrow.Author.Tests.{tests}
use Rattle.edid_base.proofs.OneMaker.{bounds}
use Rattle.std.proofs.lemmas.Bool.{and_parts}
use Rattle.edid_base.proofs.PartLemmas.{sum_with}
use Rattle.edid_base.specs.Base.{base_bytes, front_bytes}
use Rattle.edid_base.specs.Check.{check_of}
use Rattle.edid_base.specs.Letters.{is_letter, is_number, has_letters}
use Rattle.edid_base.specs.Header.{has_header}
use Rattle.edid_base.specs.Refusals.{refusal, has_revision}
use Rattle.edid_base.specs.declared.base.Base.{Base}
use Rattle.edid_base.specs.declared.base.BaseError.TheVariants.{Header, Checksum, Revision, Maker}
use Rattle.edid_base.specs.declared.base.Revision.TheVariants.{Three, Four}

all_accepted : {E : Type 0} (h s r l : Bool) (e f g i : E) → h ≡ true → s ≡ true → r ≡ true → l ≡ true
    → cond (not h) (Some e) (cond (not s) (Some f) (cond (not r) (Some g) (cond (not l) (Some i) None))) ≡ None
all_accepted h s r l e f g i a b c d = rw (a, b, c, d)

pub summed_is : (front : List ℕ) → sum (front ++ (check_of front ∷ [])) % 256 ≡ 0
summed_is front = let e = sum_with front (check_of front) in omega (arith, e)

revised : (b : Base) → has_revision (base_bytes b) ≡ true
revised b = elim b.revision as (λ v. has_revision (base_bytes (record b { revision = v })) ≡ true) [ Three ↦ refl | Four ↦ refl ]

numbers_are : (n a b c : ℕ) → 1 ≤ a → a ≤ 26 → 1 ≤ b → b ≤ 26 → 1 ≤ c → c ≤ 26 → n ≡ a * 1024 + b * 32 + c
    → (nat_lt n 32768 && is_number (n / 1024) && is_number (n / 32 % 32) && is_number (n % 32)) ≡ true
numbers_are n a b c ha ha' hb hb' hc hc' e =
    let x : n / 1024 ≡ a = omega arith in
    let y : n / 32 % 32 ≡ b = omega arith in
    let z : n % 32 ≡ c = omega arith in
    let small : n < 32768 = omega arith in
    let t : nat_lt n 32768 ≡ true = grind (arith, tests) in
    let p : nat_le 1 a ≡ true = grind (arith, tests) in
    let q : nat_le a 26 ≡ true = grind (arith, tests) in
    let r : nat_le 1 b ≡ true = grind (arith, tests) in
    let s : nat_le b 26 ≡ true = grind (arith, tests) in
    let u : nat_le 1 c ≡ true = grind (arith, tests) in
    let v : nat_le c 26 ≡ true = grind (arith, tests) in
    rw (x, y, z, t, p, q, r, s, u, v)

lettered : (a b c : ℕ) → 1 ≤ a → a ≤ 26 → 1 ≤ b → b ≤ 26 → 1 ≤ c → c ≤ 26
    → has_letters ((a * 1024 + b * 32 + c) / 256 % 256) ((a * 1024 + b * 32 + c) % 256) ≡ true
lettered a b c ha ha' hb hb' hc hc' =
    numbers_are ((a * 1024 + b * 32 + c) / 256 % 256 * 256 + (a * 1024 + b * 32 + c) % 256) a b c ha ha' hb hb' hc hc' (omega arith)

made_of_letters : (b : Base) → has_letters (((b.maker.first - 64) * 1024 + (b.maker.second - 64) * 32 + (b.maker.third - 64)) / 256 % 256)
    (((b.maker.first - 64) * 1024 + (b.maker.second - 64) * 32 + (b.maker.third - 64)) % 256) ≡ true
made_of_letters b =
    let m = b.maker in
    let all = and_parts (is_letter m.first && is_letter m.second) (is_letter m.third) m.letters in
    let two = and_parts (is_letter m.first) (is_letter m.second) all.0 in
    let p = bounds m.first two.0 in let q = bounds m.second two.1 in let r = bounds m.third all.1 in
    lettered (m.first - 64) (m.second - 64) (m.third - 64) (omega arith) (omega arith) (omega arith) (omega arith) (omega arith) (omega arith)

pub accepted : (b : Base) → refusal (base_bytes b) ≡ None
accepted b = all_accepted (has_header (base_bytes b)) _ _ _ Header Checksum Revision Maker refl (eq-eqb _ _ (summed_is (front_bytes b))) (revised b) (made_of_letters b)
