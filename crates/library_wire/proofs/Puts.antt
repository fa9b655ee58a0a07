-- What is put into a room, and EDIDs of their parts.
use Rattle.std.proofs.Common.{drop-drop, refl, zero, suc, [], ◌∷◌, slice_get, get_or, append-nil, append_assoc, length-append, take-append-drop, ◌≡◌, ◌≢◌, ℕ, ◌+◌, ◌<◌, ◌≤◌, ◌++◌, List, length, take, drop, flat_map, inl, inr, Some, None, Option, Result, Ok, arith, ap, sym, ◌∙◌, subst}
use Rattle.std.proofs.lemmas.Bool.{cases_lt}
use Rattle.std.proofs.lemmas.Grind.{flat_map-append}
use Rattle.std.proofs.lemmas.List.{length-drop, take_all, take_more}
use Rattle.std.proofs.lemmas.Option.{slice_get_within, get_or_from_slice_get}
use Rattle.std.proofs.Math.Seq.{take-append_seam, drop-append-add}
use Rattle.arrayvec.specs.ArrayVec.{ArrayVec}
use Rattle.edid_base.specs.Base.{base_bytes}
use Rattle.edid_base.specs.declared.base.Base.{Base}
use Rattle.edid_cta.specs.Ext.{ext_bytes}
use Rattle.edid_cta.specs.declared.raw.Ext.{Ext}
use Rattle.text_core.specs.declared.phys.Phys.{Phys}
use Rattle.edid_core.specs.Address.{edid_address, first_address}
use Rattle.edid_core.specs.Bytes.{edid_bytes}
use Rattle.edid_core.specs.Passing.{passed_extensions, passed_on_bytes}
use Rattle.edid_core.specs.declared.bytes.EdidError.{EdidError}
use Rattle.edid_core.specs.declared.edid.Edid.{Edid}
use Rattle.edid_texts.specs.Lines.{edid_text, part_text}
use Rattle.edid_text_lines.specs.Text.{line_text}
use Rattle.edid_text_lines.specs.declared.line.Line.{Line}
use Rattle.edid_core.specs.declared.passing.AudioFrom.{AudioFrom}
use Rattle.library_answers.specs.Codes.{number_of}
use Rattle.library_answers.specs.Room.{IsPut, IsRefused}
use Rattle.library_answers.specs.declared.answer.Answer.{Answer}
use Rattle.library_answers.specs.declared.code.Code.TheVariants.{EdidNoHdmiBlock}

-- bytes that are put leave no refusal but that of the room
pub put_code : (text old new : List ℕ) (answer : Answer) → IsPut text old new answer → answer.code ≤ 1
put_code text old new answer p = elim (cases_lt (length old) (length text)) [
  | inl lt ↦ (let k = (p.too_long lt).0 in omega (arith, k))
  | inr ge ↦ (let k = (p.fits (omega (arith, ge))).0 in omega (arith, k))
]

pub no_refusal : (text old new : List ℕ) (answer : Answer) → IsPut text old new answer → 1 < answer.code → ⊥
no_refusal text old new answer p more = let k = put_code text old new answer p in omega (arith, k, more)

-- the EDID of a base block and the extensions after it
pub edid_of : (base : Base) (extensions : ArrayVec Ext) (bytes : List ℕ)
    → base_bytes base ++ flat_map ext_bytes extensions.items ≡ bytes → base.extensions ≡ length extensions.items → length extensions.items ≤ 3 → (e : Edid) × (edid_bytes e ≡ bytes)
edid_of base extensions bytes spelled counted few = (record { base = base; extensions = extensions; counted = counted; few = few }, spelled)

one_base : (a b : Base) → (let r : Result Base EdidError = Ok a in r) ≡ Ok b → a ≡ b
one_base a b e = cc

-- an EDID with an address is passed on, and put into the room
pub passed_put : (base : Base) (xs ys : List Ext) (e : Edid) (a : Phys) (audio named : AudioFrom) (address numbered : Phys) (old new : List ℕ) (answer : Answer)
    → (let r : Result Base EdidError = Ok base in r) ≡ Ok e.base → xs ≡ ys → ys ≡ e.extensions.items → audio ≡ named → address ≡ numbered → edid_address e ≡ Some a
    → (first_address xs ≢ None → IsPut (base_bytes base ++ passed_extensions audio address xs) old new answer) → IsPut (passed_on_bytes named numbered e) old new answer
passed_put base xs ys e a audio named address numbered old new answer only same listed same_audio same_address some put =
    let there : first_address xs ≢ None = λ none. (let no : Some a ≡ None = sym some ∙ sym (ap first_address (same ∙ listed)) ∙ none in cc) in
    subst (λ b. IsPut (base_bytes b ++ passed_extensions named numbered e.extensions.items) old new answer) (one_base base e.base only)
    (subst (λ zs. IsPut (base_bytes base ++ passed_extensions named numbered zs) old new answer) (same ∙ listed)
    (subst (λ p. IsPut (base_bytes base ++ passed_extensions named p xs) old new answer) same_address
    (subst (λ from. IsPut (base_bytes base ++ passed_extensions from address xs) old new answer) same_audio (put there))))

-- it is refused for nothing else than that it has none
pub passed_refused : (xs : List Ext) (text old new : List ℕ) (answer : Answer) → (first_address xs ≢ None → IsPut text old new answer)
    → (first_address xs ≡ None → IsRefused EdidNoHdmiBlock 0 old new answer) → 1 < answer.code → answer.code ≢ number_of EdidNoHdmiBlock → ⊥
passed_refused xs text old new answer put absent more other = by (first_address xs) refl
  where
    by : (o : Option Phys) → first_address xs ≡ o → ⊥
    by None e = other (ap (λ (r : Answer). r.code) (absent e).0)
    by (Some a) e = no_refusal text old new answer (put (λ none. let no : Some a ≡ None = sym e ∙ none in cc)) more

-- the text of the parts of an EDID is its text
pub text_put : (base : Base) (xs ys : List Ext) (e : Edid) (old new : List ℕ) (answer : Answer)
    → (let r : Result Base EdidError = Ok base in r) ≡ Ok e.base → xs ≡ ys → ys ≡ e.extensions.items
    → IsPut (part_text base xs) old new answer → IsPut (edid_text e) old new answer
text_put base xs ys e old new answer only same listed put =
    subst (λ b. IsPut (part_text b e.extensions.items) old new answer) (one_base base e.base only)
    (subst (λ zs. IsPut (part_text base zs) old new answer) (same ∙ listed) put)

-- ---- lines that are put into a room one after another

abbrev texts : List Line → List ℕ
texts ls = flat_map line_text ls

past : (ls : List Line) (n : ℕ) → slice_get ls n ≡ None → length ls ≤ n
past [] n h = omega arith
past (l ∷ ls) zero h = cc
past (l ∷ ls) (suc n) h = let rest = past ls n h in omega (arith, rest)

text_more : (ls : List Line) (n : ℕ) (l : Line) → slice_get ls n ≡ Some l → texts (take (n + 1) ls) ≡ texts (take n ls) ++ line_text l
text_more ls n l h =
    let more = take_more ls n l (slice_get_within ls n l h) in
    let same = get_or_from_slice_get ls n l l h in
    ap texts more ∙ flat_map-append line_text (take n ls) (get_or ls n l ∷ []) ∙ ap (λ x. texts (take n ls) ++ x) (append-nil (line_text (get_or ls n l)) ∙ ap line_text same)

front_le : (ls : List Line) (i : ℕ) → length (texts (take i ls)) ≤ length (texts ls)
front_le ls i =
    let whole = ap (λ x. length (texts x)) (take-append-drop i ls) in
    let parted = ap length (flat_map-append line_text (take i ls) (drop i ls)) in
    let sum = length-append (texts (take i ls)) (texts (drop i ls)) in
    omega (arith, whole, parted, sum)

pub longer : (ls : List Line) (i n k : ℕ) (l : Line) (text : List ℕ) → slice_get ls i ≡ Some l → n ≡ length (texts (take i ls)) → text ≡ line_text l → k ≡ length text
    → n + k ≡ length (texts (take (i + 1) ls))
longer ls i n k l text at so_far same size =
    let more = ap length (text_more ls i l at) in
    let sum = length-append (texts (take i ls)) (line_text l) in
    let len = ap length same in
    omega (arith, more, sum, len, so_far, size)

pub has_room : (ls : List Line) (i n : ℕ) (l : Line) (text old room : List ℕ) → slice_get ls i ≡ Some l → n ≡ length (texts (take i ls)) → text ≡ line_text l
    → room ≡ texts (take i ls) ++ drop n old → length (texts ls) ≤ length old → n + length text ≤ length room
has_room ls i n l text old room at so_far same is fits =
    let next = longer ls i n (length text) l text at so_far same refl in
    let least = front_le ls (i + 1) in
    let len = ap length is in
    let sum = length-append (texts (take i ls)) (drop n old) in
    let rest = length-drop n old in
    omega (arith, next, least, len, sum, rest, so_far, fits)

placed_at : (front text old : List ℕ)
    → take (length front) (front ++ drop (length front) old) ++ (text ++ drop (length front + length text) (front ++ drop (length front) old))
    ≡ (front ++ text) ++ drop (length front + length text) old
placed_at front text old =
    let a = take-append_seam front (drop (length front) old) in
    let b = drop-append-add front (drop (length front) old) (length text) in
    let c : drop (length text) (drop (length front) old) ≡ drop (length front + length text) old = drop-drop (length text) (length front) old in
    ap (λ x. x ++ (text ++ drop (length front + length text) (front ++ drop (length front) old))) a
    ∙ ap (λ x. front ++ (text ++ x)) (b ∙ c)
    ∙ sym (append_assoc front text (drop (length front + length text) old))

placed : (front text old room new : List ℕ) (n : ℕ) → n ≡ length front → room ≡ front ++ drop n old → new ≡ take n room ++ (text ++ drop (n + length text) room)
    → new ≡ (front ++ text) ++ drop (n + length text) old
placed front text old room new n size is placing =
    placing ∙ ap (λ x. take n x ++ (text ++ drop (n + length text) x)) is
    ∙ subst (λ m. take m (front ++ drop m old) ++ (text ++ drop (m + length text) (front ++ drop m old)) ≡ (front ++ text) ++ drop (m + length text) old) (sym size)
    (placed_at front text old)

-- one more line stands in the room
pub put_more : (ls : List Line) (i n k : ℕ) (l : Line) (text old room new : List ℕ) → slice_get ls i ≡ Some l → n ≡ length (texts (take i ls)) → text ≡ line_text l → k ≡ length text
    → room ≡ texts (take i ls) ++ drop n old → new ≡ take n room ++ (text ++ drop (n + length text) room) → new ≡ texts (take (i + 1) ls) ++ drop (n + k) old
put_more ls i n k l text old room new at so_far same size is placing =
    placed (texts (take i ls)) text old room new n so_far is placing
    ∙ ap (λ m. (texts (take i ls) ++ text) ++ drop (n + m) old) (sym size)
    ∙ ap (λ x. (texts (take i ls) ++ x) ++ drop (n + k) old) same
    ∙ ap (λ x. x ++ drop (n + k) old) (sym (text_more ls i l at))

-- all lines stand in it
pub put_all : (ls : List Line) (i n : ℕ) (old room : List ℕ) → slice_get ls i ≡ None → n ≡ length (texts (take i ls)) → room ≡ texts (take i ls) ++ drop n old
    → room ≡ texts ls ++ drop (length (texts ls)) old
put_all ls i n old room none so_far is =
    is ∙ ap (λ m. texts (take i ls) ++ drop m old) so_far
    ∙ ap (λ x. texts x ++ drop (length (texts x)) old) (take_all i ls (past ls i none))

pub all_long : (ls : List Line) (i n : ℕ) → slice_get ls i ≡ None → n ≡ length (texts (take i ls)) → n ≡ length (texts ls)
all_long ls i n none so_far = so_far ∙ ap (λ x. length (texts x)) (take_all i ls (past ls i none))
