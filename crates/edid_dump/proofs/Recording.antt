-- Records and their data.
use Rattle.std.proofs.Common.{◌≡◌, ℕ, ◌+◌, ◌<◌, ◌≤◌, ◌%◌, ◌==◌, ◌&&◌, nat_le, Bool, true, false, if◌then◌else◌, List, [], ◌∷◌, ◌++◌, length, take, slice_index, sum, Option, Some, None, refl, sym, ap, ◌∙◌, append_assoc, arith}
use Rattle.std.proofs.lemmas.Bool.Decides.{nat_tests}
use Rattle.std.proofs.lemmas.List.{take_all}
use Rattle.std.specs.Option.{option_map}
use Rattle.edid_dump.specs.Digits.{bytes_with_row, pairs}
use Rattle.edid_dump.specs.Records.{data_among, data_of, is_record, record_data}
use Rattle.edid_dump.specs.declared.digits.Column.TheVariants.{Absent}
use Rattle.edid_dump.proofs.Pairing.{filled_none}

no_pairs : (o : Option (List ℕ)) → None ≡ option_map length o → data_of o ≡ None
no_pairs None h = refl
no_pairs (Some bytes) h = cc

pub none_read : (text : List ℕ) → None ≡ option_map length (pairs Absent text) → record_data text ≡ None
none_read text h = no_pairs (pairs Absent text) h

nor : (a : Bool) → (a && false) ≡ false
nor true = refl
nor false = refl

long_pairs : (o : Option (List ℕ)) (count : ℕ) → Some count ≡ option_map length o → 260 < count → data_of o ≡ None
long_pairs None count h long = cc
long_pairs (Some bytes) count h long =
    let same : count ≡ length bytes = cc in
    let no : nat_le (length bytes) 260 ≡ false = grind (arith, nat_tests) in
    let rest = (length bytes == slice_index bytes 0 + 5) && ((slice_index bytes 3 == 0) && (sum bytes % 256 == 0)) in
    let out : is_record bytes ≡ false = ap (λ b. nat_le 5 (length bytes) && (b && rest)) no ∙ nor (nat_le 5 (length bytes)) in
    ap (λ b. if b then Some (data_among bytes) else None) out

pub too_many : (text : List ℕ) (count : ℕ) → Some count ≡ option_map length (pairs Absent text) → 260 < count → record_data text ≡ None
too_many text count h long = long_pairs (pairs Absent text) count h long

-- what is pushed onto nothing is all of a record's bytes
whole : (o : Option (List ℕ)) (count : ℕ) (bytes : List ℕ) → Some count ≡ option_map length o → count ≤ 260 → bytes_with_row [] o ≡ Some bytes → o ≡ Some bytes
whole None count bytes h short k = cc
whole (Some next) count bytes h short k =
    let same : count ≡ length next = cc in
    let fits : length next ≤ 512 = omega arith in
    ap Some (sym (take_all 512 next fits)) ∙ k

pub all_read : (text : List ℕ) (count : ℕ) (bytes : List ℕ) → Some count ≡ option_map length (pairs Absent text) → count ≤ 260 → bytes_with_row [] (pairs Absent text) ≡ Some bytes
    → record_data text ≡ data_of (Some bytes)
all_read text count bytes h short k = ap data_of (whole (pairs Absent text) count bytes h short k)

-- ---- bytes of a list, one after another

pub fill_more : (bytes : List ℕ) (b : ℕ) (more : List ℕ) → bytes_with_row bytes (Some (b ∷ more)) ≡ bytes_with_row (bytes ++ b ∷ []) (Some more)
fill_more bytes b more = ap (λ l. Some (take 512 l)) (sym (append_assoc bytes (b ∷ []) more))

pub fill_end : (bytes rest : List ℕ) → length rest ≡ 0 → length bytes ≤ 512 → bytes_with_row bytes (Some rest) ≡ Some bytes
fill_end bytes [] none fits = filled_none bytes fits
fill_end bytes (b ∷ rest) none fits = absurd (omega arith)
