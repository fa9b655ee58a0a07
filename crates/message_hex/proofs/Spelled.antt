-- Spellings of bytes are read as those bytes, and what is read is spelled.
use Rattle.std.proofs.Common.{◌≡◌, ℕ, ◌<◌, ◌≤◌, ◌+◌, ◌-◌, ◌*◌, ◌/◌, ◌%◌, ◌&&◌, Bool, true, false, if◌then◌else◌, nat_lt, nat_le, List, [], ◌∷◌, Some, None, Result, Ok, Err, refl, sym, subst, ap, ◌∙◌, arith}
use Rattle.std.specs.List.{flat_map}
use Rattle.std.proofs.lemmas.Bool.Decides.{nat_tests}
use borrow.Author.Tests.{ltb-true}
use Rattle.text_core.specs.Piece.{hex_text}
use Rattle.text_core.specs.Bytes.{are_bytes}
use Rattle.message_hex.specs.Bytes.{byte_of, bytes_from, is_digit, is_mark, is_prefix, cause_of_half, value_of, with_byte, with_step}
use Rattle.message_hex.specs.Spelling.{AreParts, AssembledFramesAreRead, Part, Spells, SpellingsAreRead, part_bytes, part_text}
use Rattle.message_hex.specs.Spelling.Part.{Mark, Byte, Prefixed}
use Rattle.message_hex.specs.declared.bytes.DisCause.{DisCause}
use Rattle.message_hex.specs.declared.bytes.DisCause.TheVariants.{Digit}
use Rattle.message_hex.specs.declared.bytes.HexState.{HexState}
use Rattle.message_hex.specs.declared.bytes.HexState.TheVariants.{Between, High, Prefix, HighAfterPrefix}

and_left : (x y : Bool) → (x && y) ≡ true → x ≡ true
and_left true y e = refl
and_left false y e = e

and_right : (x y : Bool) → (x && y) ≡ true → y ≡ true
and_right true y e = e
and_right false true e = refl
and_right false false e = e

-- a digit is no mark, and no second character of a prefix; nor is the latter a digit
digit_no_mark : (c : ℕ) → is_digit c ≡ true → is_mark c ≡ false
digit_no_mark c e = grind (arith, nat_tests)

prefix_no_digit : (c : ℕ) → is_prefix 48 c ≡ true → is_digit c ≡ false
prefix_no_digit c e = grind (arith, nat_tests)

-- ---- what is spelled is read

mark_read : (c : ℕ) (cs bytes : List ℕ) → is_mark c ≡ true → bytes_from Between cs ≡ Ok bytes → bytes_from Between (c ∷ cs) ≡ Ok bytes
mark_read c cs bytes e r = rw e r

byte_read : (high low : ℕ) (cs bytes : List ℕ) → is_digit high ≡ true → is_digit low ≡ true → bytes_from Between cs ≡ Ok bytes
    → bytes_from Between (high ∷ low ∷ cs) ≡ Ok (byte_of high low ∷ bytes)
byte_read high low cs bytes e f r = rw (digit_no_mark high e, e, f, r) refl

prefixed_read : (x high low : ℕ) (cs bytes : List ℕ) → is_prefix 48 x ≡ true → is_digit high ≡ true → is_digit low ≡ true → bytes_from Between cs ≡ Ok bytes
    → bytes_from Between (48 ∷ x ∷ high ∷ low ∷ cs) ≡ Ok (byte_of high low ∷ bytes)
prefixed_read x high low cs bytes p e f r = rw (prefix_no_digit x p, p, e, f, r) refl

parts_read : (parts : List Part) → AreParts parts → bytes_from Between (flat_map part_text parts) ≡ Ok (flat_map part_bytes parts)
parts_read [] are = refl
parts_read (Mark c ∷ parts) are = mark_read c (flat_map part_text parts) (flat_map part_bytes parts) are.0 (parts_read parts are.1)
parts_read (Byte high low ∷ parts) are =
    byte_read high low (flat_map part_text parts) (flat_map part_bytes parts) are.0.0 are.0.1 (parts_read parts are.1)
parts_read (Prefixed x high low ∷ parts) are =
    prefixed_read x high low (flat_map part_text parts) (flat_map part_bytes parts) are.0.0 are.0.1 are.0.2 (parts_read parts are.1)

spelled_read : (text bytes : List ℕ) → Spells text bytes → bytes_from Between text ≡ Ok bytes
spelled_read text bytes s =
    ap (bytes_from Between) s.spelled ∙ parts_read s.parts s.are ∙ ap (λ bs. Ok bs) (sym s.reported)

-- ---- what is read is spelled

-- what the rest of a line spells, after what a place has taken of it
abbrev SpelledFrom : HexState → List ℕ → List ℕ → Type 0
SpelledFrom Between cs bytes = Spells cs bytes
SpelledFrom (High high) cs bytes = is_digit high ≡ true → Spells (high ∷ cs) bytes
SpelledFrom Prefix cs bytes = (x : ℕ) → is_prefix 48 x ≡ true → Spells (48 ∷ x ∷ cs) bytes
SpelledFrom (HighAfterPrefix high) cs bytes = (x : ℕ) → is_prefix 48 x ≡ true → is_digit high ≡ true → Spells (48 ∷ x ∷ high ∷ cs) bytes

nothing : Spells [] []
nothing = record { parts = []; are = tt; spelled = refl; reported = refl }

with_mark : (c : ℕ) (cs bytes : List ℕ) → is_mark c ≡ true → Spells cs bytes → Spells (c ∷ cs) bytes
with_mark c cs bytes e s = record { parts = Mark c ∷ s.parts; are = (e, s.are); spelled = ap (λ t. c ∷ t) s.spelled; reported = s.reported }

with_two : (high low : ℕ) (cs bytes : List ℕ) → is_digit high ≡ true → is_digit low ≡ true → Spells cs bytes → Spells (high ∷ low ∷ cs) (byte_of high low ∷ bytes)
with_two high low cs bytes e f s = record {
  parts = Byte high low ∷ s.parts;
  are = ((e, f), s.are);
  spelled = ap (λ t. high ∷ low ∷ t) s.spelled;
  reported = ap (λ t. byte_of high low ∷ t) s.reported;
}

with_four : (x high low : ℕ) (cs bytes : List ℕ) → is_prefix 48 x ≡ true → is_digit high ≡ true → is_digit low ≡ true → Spells cs bytes
    → Spells (48 ∷ x ∷ high ∷ low ∷ cs) (byte_of high low ∷ bytes)
with_four x high low cs bytes p e f s = record {
  parts = Prefixed x high low ∷ s.parts;
  are = ((p, e, f), s.are);
  spelled = ap (λ t. 48 ∷ x ∷ high ∷ low ∷ t) s.spelled;
  reported = ap (λ t. byte_of high low ∷ t) s.reported;
}

-- a byte before others, which was read
record Joined (byte : ℕ) (rest : Result (List ℕ) DisCause) (bytes : List ℕ) : Type 0 where
  pub others : List ℕ
  pub read : rest ≡ Ok others
  pub all : bytes ≡ byte ∷ others

joined : (byte : ℕ) (rest : Result (List ℕ) DisCause) (bytes : List ℕ) → with_byte (Some byte) rest ≡ Ok bytes → Joined byte rest bytes
joined byte (Ok others) bytes e = (let same : byte ∷ others ≡ bytes = cc in record { others = others; read = refl; all = sym same })
joined byte (Err cause) bytes e = cc

with_byte_reported : (high low : ℕ) (cs bytes : List ℕ) → is_digit high ≡ true → is_digit low ≡ true
    → Joined (byte_of high low) (bytes_from Between cs) bytes → ((others : List ℕ) → bytes_from Between cs ≡ Ok others → Spells cs others)
    → Spells (high ∷ low ∷ cs) bytes
with_byte_reported high low cs bytes e f j again =
    subst (λ bs. Spells (high ∷ low ∷ cs) bs) (sym j.all) (with_two high low cs j.others e f (again j.others j.read))

with_prefix_reported : (x high low : ℕ) (cs bytes : List ℕ) → is_prefix 48 x ≡ true → is_digit high ≡ true → is_digit low ≡ true
    → Joined (byte_of high low) (bytes_from Between cs) bytes → ((others : List ℕ) → bytes_from Between cs ≡ Ok others → Spells cs others)
    → Spells (48 ∷ x ∷ high ∷ low ∷ cs) bytes
with_prefix_reported x high low cs bytes p e f j again =
    subst (λ bs. Spells (48 ∷ x ∷ high ∷ low ∷ cs) bs) (sym j.all) (with_four x high low cs j.others p e f (again j.others j.read))

between_by : (m d : Bool) (c : ℕ) (cs bytes : List ℕ) → is_mark c ≡ m → is_digit c ≡ d
    → with_step (if m then Ok (Between, None) else (if d then Ok (High c, None) else Err Digit)) (λ next. bytes_from next cs) ≡ Ok bytes
    → (bytes_from Between cs ≡ Ok bytes → Spells cs bytes) → (bytes_from (High c) cs ≡ Ok bytes → is_digit c ≡ true → Spells (c ∷ cs) bytes)
    → Spells (c ∷ cs) bytes
between_by true d c cs bytes em ed e mark digit = with_mark c cs bytes em (mark e)
between_by false true c cs bytes em ed e mark digit = digit e ed
between_by false false c cs bytes em ed e mark digit = cc

prefix_zero : (h c : ℕ) → is_prefix h c ≡ true → h ≡ 48
prefix_zero h c e = grind (arith, nat_tests)

prefix_x : (h c : ℕ) → is_prefix h c ≡ true → is_prefix 48 c ≡ true
prefix_x h c e = grind (arith, nat_tests)

high_by : (d p : Bool) (h c : ℕ) (cs bytes : List ℕ) → is_digit h ≡ true → is_digit c ≡ d → is_prefix h c ≡ p
    → with_step (if d then Ok (Between, Some (byte_of h c)) else (if p then Ok (Prefix, None) else Err (cause_of_half c))) (λ next. bytes_from next cs) ≡ Ok bytes
    → ((others : List ℕ) → bytes_from Between cs ≡ Ok others → Spells cs others)
    → (bytes_from Prefix cs ≡ Ok bytes → (x : ℕ) → is_prefix 48 x ≡ true → Spells (48 ∷ x ∷ cs) bytes)
    → Spells (h ∷ c ∷ cs) bytes
high_by true p h c cs bytes eh ed ep e two prefix = with_byte_reported h c cs bytes eh ed (joined (byte_of h c) (bytes_from Between cs) bytes e) two
high_by false true h c cs bytes eh ed ep e two prefix =
    subst (λ first. Spells (first ∷ c ∷ cs) bytes) (sym (prefix_zero h c ep)) (prefix e c (prefix_x h c ep))
high_by false false h c cs bytes eh ed ep e two prefix = cc

prefix_by : (d : Bool) (x c : ℕ) (cs bytes : List ℕ) → is_prefix 48 x ≡ true → is_digit c ≡ d
    → with_step (if d then Ok (HighAfterPrefix c, None) else Err (cause_of_half c)) (λ next. bytes_from next cs) ≡ Ok bytes
    → (bytes_from (HighAfterPrefix c) cs ≡ Ok bytes → (x : ℕ) → is_prefix 48 x ≡ true → is_digit c ≡ true → Spells (48 ∷ x ∷ c ∷ cs) bytes)
    → Spells (48 ∷ x ∷ c ∷ cs) bytes
prefix_by true x c cs bytes ex ed e high = high e x ex ed
prefix_by false x c cs bytes ex ed e high = cc

after_by : (d : Bool) (x h c : ℕ) (cs bytes : List ℕ) → is_prefix 48 x ≡ true → is_digit h ≡ true → is_digit c ≡ d
    → with_step (if d then Ok (Between, Some (byte_of h c)) else Err (cause_of_half c)) (λ next. bytes_from next cs) ≡ Ok bytes
    → ((others : List ℕ) → bytes_from Between cs ≡ Ok others → Spells cs others)
    → Spells (48 ∷ x ∷ h ∷ c ∷ cs) bytes
after_by true x h c cs bytes ex eh ed e two = with_prefix_reported x h c cs bytes ex eh ed (joined (byte_of h c) (bytes_from Between cs) bytes e) two
after_by false x h c cs bytes ex eh ed e two = cc

read_spelled : (cs : List ℕ) (place : HexState) (bytes : List ℕ) → bytes_from place cs ≡ Ok bytes → SpelledFrom place cs bytes
read_spelled [] Between bytes e = (let none : bytes ≡ [] = cc in subst (λ bs. Spells [] bs) (sym none) nothing)
read_spelled [] (High high) bytes e = cc
read_spelled [] Prefix bytes e = cc
read_spelled [] (HighAfterPrefix high) bytes e = cc
read_spelled (c ∷ cs) Between bytes e =
    between_by (is_mark c) (is_digit c) c cs bytes refl refl e (read_spelled cs Between bytes) (read_spelled cs (High c) bytes)
read_spelled (c ∷ cs) (High high) bytes e = λ eh.
    high_by (is_digit c) (is_prefix high c) high c cs bytes eh refl refl e (read_spelled cs Between) (read_spelled cs Prefix bytes)
read_spelled (c ∷ cs) Prefix bytes e = λ x ex.
    prefix_by (is_digit c) x c cs bytes ex refl e (read_spelled cs (HighAfterPrefix c) bytes)
read_spelled (c ∷ cs) (HighAfterPrefix high) bytes e = λ x ex eh.
    after_by (is_digit c) x high c cs bytes ex eh refl e (read_spelled cs Between)

pub spellings_are_read : SpellingsAreRead
spellings_are_read text bytes = (λ e. read_spelled text Between bytes e, λ s. spelled_read text bytes s)

-- ---- the hex text of bytes

-- the digit of a number below 16
abbrev digit_of : ℕ → ℕ
digit_of n = if nat_lt n 10 then 48 + n else 87 + n

digit_cases : (b : Bool) (n : ℕ) → nat_lt n 10 ≡ b → n < 16 → is_digit (if b then 48 + n else 87 + n) ≡ true
digit_cases true n e h = grind (arith, nat_tests)
digit_cases false n e h = grind (arith, nat_tests)

small_rest : (n : ℕ) → n < 16 → n % 16 ≡ n
small_rest n h = omega arith

value_low : (n : ℕ) → n < 10 → value_of (48 + n) ≡ n
value_low n h = let a : nat_le (48 + n) 57 ≡ true = grind (arith, nat_tests) in let b : (48 + n) - 48 ≡ n = omega arith in rw (a, b) (small_rest n (omega arith))

value_high : (n : ℕ) → 10 ≤ n → n < 16 → value_of (87 + n) ≡ n
value_high n l h =
    let a : nat_le (87 + n) 57 ≡ false = grind (arith, nat_tests) in
    let b : nat_le (87 + n) 70 ≡ false = grind (arith, nat_tests) in
    let d : (87 + n) - 87 ≡ n = omega arith in
    rw (a, b, d) (small_rest n h)

value_cases : (b : Bool) (n : ℕ) → nat_lt n 10 ≡ b → n < 16 → value_of (if b then 48 + n else 87 + n) ≡ n
value_cases true n e h = value_low n (grind (arith, nat_tests))
value_cases false n e h = value_high n (grind (arith, nat_tests)) h

halves : (b x y : ℕ) → b < 256 → x ≡ b / 16 → y ≡ b % 16 → x * 16 + y ≡ b
halves b x y h e f = omega arith

hex_read : (x : ℕ) (cs bytes : List ℕ) → x < 256 → bytes_from Between cs ≡ Ok bytes → bytes_from Between (digit_of (x / 16) ∷ digit_of (x % 16) ∷ cs) ≡ Ok (x ∷ bytes)
hex_read x cs bytes small e =
    let high : x / 16 < 16 = omega arith in
    let low : x % 16 < 16 = omega arith in
    let value : byte_of (digit_of (x / 16)) (digit_of (x % 16)) ≡ x =
    halves x _ _ small (value_cases (nat_lt (x / 16) 10) (x / 16) refl high) (value_cases (nat_lt (x % 16) 10) (x % 16) refl low) in
    byte_read (digit_of (x / 16)) (digit_of (x % 16)) cs bytes (digit_cases (nat_lt (x / 16) 10) (x / 16) refl high) (digit_cases (nat_lt (x % 16) 10) (x % 16) refl low) e
    ∙ ap (λ v. Ok (v ∷ bytes)) value

pub assembled_frames_are_read : AssembledFramesAreRead
assembled_frames_are_read [] e = refl
assembled_frames_are_read (x ∷ xs) e =
    hex_read x (flat_map hex_text xs) xs (ltb-true _ _ (and_left (nat_lt x 256) (are_bytes xs) e))
    (assembled_frames_are_read xs (and_right (nat_lt x 256) (are_bytes xs) e))
