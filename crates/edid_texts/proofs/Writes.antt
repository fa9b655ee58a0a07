-- A text is written line by line.
use Rattle.std.proofs.Common.{◌≡◌, ℕ, zero, suc, ◌+◌, ◌<◌, ◌≤◌, List, [], ◌∷◌, ◌++◌, length, take, get_or, Option, Some, None, slice_get, flat_map, ap, arith, sym, ◌∙◌, append-nil, append_assoc, take-append-drop, drop}
use Rattle.std.specs.Io.KnownBytes.{Appends}
use Rattle.std.proofs.lemmas.Grind.{flat_map-append}
use Rattle.std.proofs.lemmas.List.{take_more, take_all}
use Rattle.std.proofs.lemmas.Option.{slice_get_within, get_or_from_slice_get}
use Rattle.std.proofs.Common.{subst}
use Rattle.std.proofs.KnownBytes.{Appends-trans}
use Rattle.text_core.proofs.CutShort.{cut_short}
use Rattle.edid_text_lines.specs.Text.{line_text}
use Rattle.edid_text_lines.specs.declared.line.Line.{Line}

pub text_more : (ls : List Line) (n : ℕ) (l : Line) → slice_get ls n ≡ Some l → flat_map line_text (take (n + 1) ls) ≡ flat_map line_text (take n ls) ++ line_text l
text_more ls n l h =
    let more = take_more ls n l (slice_get_within ls n l h) in
    let same = get_or_from_slice_get ls n l l h in
    ap (flat_map line_text) more ∙ flat_map-append line_text (take n ls) (get_or ls n l ∷ [])
    ∙ ap (λ x. flat_map line_text (take n ls) ++ x) (append-nil (line_text (get_or ls n l)) ∙ ap line_text same)

pub wrote_more : (ls : List Line) (n : ℕ) (l : Line) (t : List ℕ) (a b c : Option (List ℕ)) → t ≡ line_text l → slice_get ls n ≡ Some l → Appends a b (flat_map line_text (take n ls)) → Appends b c t
    → Appends a c (flat_map line_text (take (n + 1) ls))
wrote_more ls n l t a b c e h p q = subst (λ x. Appends a c x) (sym (text_more ls n l h)) (Appends-trans a b c _ _ p (subst (λ x. Appends b c x) e q))

past : {X : Type 0} (ls : List X) (n : ℕ) → slice_get ls n ≡ None → length ls ≤ n
past [] n h = omega arith
past (l ∷ ls) zero h = cc
past (l ∷ ls) (suc n) h = let rest = past ls n h in omega (arith, rest)

pub wrote_all : (ls : List Line) (n : ℕ) (a b : Option (List ℕ)) → slice_get ls n ≡ None → Appends a b (flat_map line_text (take n ls)) → Appends a b (flat_map line_text ls)
wrote_all ls n a b h p = subst (λ x. Appends a b (flat_map line_text x)) (take_all n ls (past ls n h)) p

-- the lines before one are written, and then the front of it
pub cut_line : (ls : List Line) (i k n : ℕ) (l : Line) (t : List ℕ) (a b c : Option (List ℕ)) → t ≡ line_text l → slice_get ls i ≡ Some l → n ≡ length (flat_map line_text (take i ls)) → k < length t
    → Appends a b (flat_map line_text (take i ls)) → Appends b c (take k t) → (n + k < length (flat_map line_text ls)) × Appends a c (take (n + k) (flat_map line_text ls))
cut_line ls i k n l t a b c f h e short first second =
    let same = f ∙ ap line_text (sym (get_or_from_slice_get ls i l l h)) in
    cut_short line_text ls i k n l a b c (slice_get_within ls i l h) e (subst (λ x. k < length x) same short) first (subst (λ x. Appends b c (take k x)) same second)

-- a text goes on with a line
pub text_on : (ls : List Line) (n : ℕ) (l : Line) (rest line text : List ℕ) → slice_get ls n ≡ Some l → line ≡ line_text l → take (length line) rest ≡ line
    → flat_map line_text (take n ls) ++ rest ≡ text → flat_map line_text (take (n + 1) ls) ++ drop (length line) rest ≡ text
text_on ls n l rest line text h e front so_far =
    ap (λ x. x ++ drop (length line) rest) (text_more ls n l h) ∙ append_assoc (flat_map line_text (take n ls)) (line_text l) (drop (length line) rest)
    ∙ ap (λ x. flat_map line_text (take n ls) ++ (x ++ drop (length line) rest)) (sym (front ∙ e))
    ∙ ap (λ x. flat_map line_text (take n ls) ++ x) (take-append-drop (length line) rest) ∙ so_far

-- a text ends with the last line
pub text_end : (ls : List Line) (n : ℕ) (rest text : List ℕ) → slice_get ls n ≡ None → length rest ≡ 0 → flat_map line_text (take n ls) ++ rest ≡ text → flat_map line_text ls ≡ text
text_end ls n [] text h e so_far =
    ap (flat_map line_text) (sym (take_all n ls (past ls n h))) ∙ sym (append-nil (flat_map line_text (take n ls))) ∙ so_far
text_end ls n (x ∷ xs) text h e so_far = absurd (omega arith)
