-- A frame's text is cut into its parts again.
use Rattle.std.proofs.Common.{◌≡◌, ℕ, ◌<◌, ◌≤◌, ◌+◌, ◌/◌, ◌%◌, ◌==◌, ◌&&◌, not, true, nat_le, List, [], ◌∷◌, ◌++◌, length, Option, Some, None, unwrap_or, slice_index, take, drop, codes, refl, sym, ap, ◌∙◌, arith}
use Rattle.std.specs.List.{list_all, position_or_len}
use Rattle.std.proofs.lemmas.Bool.Decides.{nat_tests}
use Rattle.std.proofs.lemmas.Bool.{false≢true}
use Rattle.text_core.specs.Piece.{hex_text}
use Rattle.message_table.specs.Table.{name_of}
use Rattle.message_text.proofs.Finding.{and_left, and_right}
use Rattle.message_text.proofs.NameLemmas.{one_named, plain_name, is_plain_name}
use Rattle.message_text.proofs.Spelled.{begins_blank, digit_no_space, hex_again, word_ends, taken, dropped, byte_first, bytes_rest}
use Rattle.message_text.proofs.Shapes.{operands_blank}
use Rattle.text_core.specs.Bytes.{are_bytes}
use Rattle.message_text.specs.FrameReading.{is_frame}
use Rattle.text_core.specs.Hex.{hex_at}
use Rattle.message_text.specs.FrameText.{frame_text, header_text, opcode_text, operands_text}
use Rattle.message_table.specs.Table.{operands_of}

abbrev op_text : ℕ → List ℕ
op_text code = codes "op-" ++ hex_text code

op_plain : (code : ℕ) → list_all (λ b. not (b == 32)) (op_text code) ≡ true
op_plain code = rw (digit_no_space (code / 16), digit_no_space (code % 16)) refl

plain_by : (o : Option (List ℕ)) (code : ℕ) → ((w : List ℕ) → o ≡ Some w → is_plain_name w ≡ true) → list_all (λ b. not (b == 32)) (unwrap_or o (op_text code)) ≡ true
plain_by None code h = op_plain code
plain_by (Some w) code h = and_right (not (slice_index w 0 == 111)) (list_all (λ b. not (b == 32)) w) (h w refl)

-- an opcode's text has no space
pub opcode_plain : (code : ℕ) → list_all (λ b. not (b == 32)) (opcode_text code) ≡ true
opcode_plain code = plain_by (name_of code) code (plain_name code)

other_name : (v : List ℕ) (b : ℕ) → is_plain_name v ≡ true → v ≡ op_text b → ⊥
other_name v b h e =
    let other : not (slice_index v 0 == 111) ≡ true = and_left (not (slice_index v 0 == 111)) (list_all (λ b. not (b == 32)) v) h in
    let same : slice_index v 0 ≡ 111 = ap (λ t. slice_index t 0) e in
    false≢true (rw same at other)

one_by : (o p : Option (List ℕ)) (a b : ℕ) → name_of a ≡ o → name_of b ≡ p → a < 256 → b < 256
    → unwrap_or o (op_text a) ≡ unwrap_or p (op_text b) → a ≡ b
one_by None None a b n m small_a small_b e =
    sym (hex_again a small_a) ∙ ap (λ t. hex_at t 3 4) e ∙ hex_again b small_b
one_by None (Some w) a b n m small_a small_b e = absurd (other_name w a (plain_name b w m) (sym e))
one_by (Some v) None a b n m small_a small_b e = absurd (other_name v b (plain_name a v n) e)
one_by (Some v) (Some w) a b n m small_a small_b e =
    let same : name_of b ≡ Some v = m ∙ ap (λ t. Some t) (sym e) in
    one_named a b v n same

-- no two opcodes have one text
pub one_opcode : (a b : ℕ) → a < 256 → b < 256 → opcode_text a ≡ opcode_text b → a ≡ b
one_opcode a b small_a small_b e = one_by (name_of a) (name_of b) a b refl refl small_a small_b e

nameless_by : (word : List ℕ) (c code : ℕ) (o : Option (List ℕ)) → name_of code ≡ o → code < 256 → ((k : ℕ) → k < 256 → name_of k ≡ Some word → ⊥)
    → c ≡ hex_at word 3 4 → (opcode_text c ≡ word → ⊥) → opcode_text code ≡ word → unwrap_or o (op_text code) ≡ word → ⊥
nameless_by word c code None n small unnamed is other e t =
    let same : c ≡ code = is ∙ ap (λ t. hex_at t 3 4) (sym t) ∙ hex_again code small in
    other (ap opcode_text same ∙ e)
nameless_by word c code (Some v) n small unnamed is other e t = unnamed code small (n ∙ ap (λ t. Some t) t)

-- a text that is no name, and not the text of the opcode that its digits say, is no opcode's
pub no_opcode : (word : List ℕ) (c : ℕ) → ((k : ℕ) → k < 256 → name_of k ≡ Some word → ⊥) → c ≡ hex_at word 3 4 → (opcode_text c ≡ word → ⊥)
    → (code : ℕ) → code < 256 → opcode_text code ≡ word → ⊥
no_opcode word c unnamed is other code small e = nameless_by word c code (name_of code) refl small unnamed is other e e

abbrev pub first_len : List ℕ → ℕ
first_len t = position_or_len (λ b. b == 32) t

cut_at : (w ops rest : List ℕ) → list_all (λ b. not (b == 32)) w ≡ true → begins_blank ops ≡ true → rest ≡ w ++ ops
    → (take (first_len rest) rest ≡ w) × (drop (first_len rest) rest ≡ ops)
cut_at w ops rest plain blank e =
    let n : first_len (w ++ ops) ≡ length w = word_ends w ops plain blank in
    rw e (rw n (taken w ops, dropped w ops))

after_header : (h : ℕ) (more t : List ℕ) → t ≡ header_text h ++ (32 ∷ more) → drop 4 t ≡ more
after_header h more t e = rw e refl

-- a frame's opcode and operands, after its addresses
pub parts : (h code : ℕ) (xs t : List ℕ) → t ≡ frame_text (h ∷ code ∷ xs)
    → (take (first_len (drop 4 t)) (drop 4 t) ≡ opcode_text code) × (drop (first_len (drop 4 t)) (drop 4 t) ≡ operands_text (operands_of code) xs)
parts h code xs t e =
    cut_at (opcode_text code) (operands_text (operands_of code) xs) (drop 4 t) (opcode_plain code) (operands_blank (operands_of code) xs)
    (after_header h (opcode_text code ++ operands_text (operands_of code) xs) t e)

header_by : (h : ℕ) (more t : List ℕ) → h < 256 → t ≡ header_text h ++ more → hex_at t 0 2 ≡ h
header_by h more t small e = rw e (hex_again h small)

poll_header : (h : ℕ) (t : List ℕ) → h < 256 → t ≡ header_text h → hex_at t 0 2 ≡ h
poll_header h t small e = rw e (hex_again h small)

frame_bytes : (f : List ℕ) → is_frame f ≡ true → are_bytes f ≡ true
frame_bytes f ok = and_right (nat_le 1 (length f) && nat_le (length f) 16) (are_bytes f) ok

frame_short : (f : List ℕ) → is_frame f ≡ true → length f ≤ 16
frame_short f ok =
    let short = and_right (nat_le 1 (length f)) (nat_le (length f) 16) (and_left (nat_le 1 (length f) && nat_le (length f) 16) (are_bytes f) ok) in
    grind (arith, nat_tests)

long_text : (h : ℕ) (more t : List ℕ) → t ≡ header_text h ++ (32 ∷ more) → length t ≡ 3 → ⊥
long_text h more t e three = let len : length t ≡ 4 + length more = ap length e ∙ omega arith in omega arith

-- a text of three characters is a poll's
pub poll_again : (f t : List ℕ) → is_frame f ≡ true → t ≡ frame_text f → length t ≡ 3 → hex_at t 0 2 ∷ [] ≡ f
poll_again [] t ok e three = absurd (false≢true ok)
poll_again (h ∷ []) t ok e three = ap (λ h. h ∷ []) (poll_header h t (byte_first h [] (frame_bytes (h ∷ []) ok)) e)
poll_again (h ∷ code ∷ xs) t ok e three = absurd (long_text h (opcode_text code ++ operands_text (operands_of code) xs) t e three)

-- a longer one has an opcode's name
pub named_again : (f t : List ℕ) → is_frame f ≡ true → t ≡ frame_text f → (length t ≡ 3 → ⊥)
    → ((code : ℕ) → code < 256 → opcode_text code ≡ take (first_len (drop 4 t)) (drop 4 t) → ⊥) → ⊥
named_again [] t ok e long none = false≢true ok
named_again (h ∷ []) t ok e long none = long (ap length e)
named_again (h ∷ code ∷ xs) t ok e long none =
    none code (byte_first code xs (bytes_rest h (code ∷ xs) (frame_bytes (h ∷ code ∷ xs) ok))) (sym (parts h code xs t e).0)

-- and its opcode and operands
pub command_again : (f t : List ℕ) (code : ℕ) (ops : List ℕ) → is_frame f ≡ true → t ≡ frame_text f → (length t ≡ 3 → ⊥) → code < 256
    → opcode_text code ≡ take (first_len (drop 4 t)) (drop 4 t)
    → ((xs : List ℕ) → are_bytes xs ≡ true → length xs ≤ 14 → drop (first_len (drop 4 t)) (drop 4 t) ≡ operands_text (operands_of code) xs → ops ≡ xs)
    → (hex_at t 0 2 ∷ code ∷ ops ≡ f) × (length ops ≤ 14)
command_again [] t code ops ok e long small is read = absurd (false≢true ok)
command_again (h ∷ []) t code ops ok e long small is read = absurd (long (ap length e))
command_again (h ∷ op ∷ xs) t code ops ok e long small is read =
    let cut = parts h op xs t e in
    let bytes = frame_bytes (h ∷ op ∷ xs) ok in
    let more = bytes_rest h (op ∷ xs) bytes in
    let len : length xs ≤ 14 = let l = frame_short (h ∷ op ∷ xs) ok in omega arith in
    let same : code ≡ op = one_opcode code op small (byte_first op xs more) (is ∙ cut.0) in
    let back : operands_text (operands_of op) xs ≡ operands_text (operands_of code) xs = ap (λ c. operands_text (operands_of c) xs) (sym same) in
    let found : ops ≡ xs = read xs (bytes_rest op xs more) len (cut.1 ∙ back) in
    let header : hex_at t 0 2 ≡ h = header_by h (32 ∷ opcode_text op ++ operands_text (operands_of op) xs) t (byte_first h (op ∷ xs) bytes) e in
    (cc (header, same, found), rw found len)
