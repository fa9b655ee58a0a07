-- A line off the front of what is to come.
use Rattle.std.proofs.Common.{◌≡◌, ◌≢◌, ℕ, zero, suc, ◌+◌, ◌<◌, ◌≤◌, ◌==◌, Bool, true, false, not, cond, List, [], ◌∷◌, ◌++◌, length, length-append, drop, take, get_or, Option, Some, None, Ok, All, refl, sym, ap, subst, ◌∙◌, append_assoc, append-nil, arith, rules}
use Rattle.std.specs.List.{slice_split, onto_first, position_or_len, before_first, after_first}
use Rattle.std.specs.Io.KnownBytes.{Consumes, IsAtEnd, prepend_known}
use Rattle.std.proofs.lemmas.Bool.Decides.{nat_tests}
use Rattle.std.proofs.lemmas.List.{drop_all, length-take, take-append-drop}
use Rattle.std.proofs.lemmas.List.Elements.{All-append, All-cons, All-head, All-nil, All-tail, All-weaker}
use Rattle.std.proofs.lemmas.List.Sums.{split_at_first, passes_at_first}
use Rattle.std.proofs.lemmas.List.Splits.{slice_split_at, length-slice_split}
use Rattle.text_core.specs.Lines.{lines_of, without_empty_end}
use Rattle.live_incoming.specs.Incoming.{IsFilled, IsNext, IsPiece, IsWhole, Leads, text_of_lines, longest_line}
use Rattle.live_incoming.specs.declared.incoming.LinePiece.TheVariants.{Nothing, Part, End, Over}

-- ---- what is left

nothing : (rest : Option (List ℕ)) → prepend_known [] rest ≡ rest
nothing None = refl
nothing (Some xs) = refl

pub none_left : (n : ℕ) (pending : List ℕ) (rest : Option (List ℕ)) → length pending ≤ n → prepend_known (drop n pending) rest ≡ rest
none_left n pending rest all = ap (λ xs. prepend_known xs rest) (drop_all n pending all) ∙ nothing rest

pub stays : (known : Option (List ℕ)) → Consumes known known []
stays None = tt
stays (Some xs) = refl

pub more_come : (old mid new : Option (List ℕ)) (line more : List ℕ) → Consumes old mid line → Consumes mid new more → Consumes old new (line ++ more)
more_come None mid new line more a b = tt
more_come (Some xs) None new line more a b = absurd a
more_come (Some xs) (Some ys) None line more a b = absurd b
more_come (Some xs) (Some ys) (Some zs) line more a b = a ∙ ap (λ l. line ++ l) b ∙ sym (append_assoc line more zs)

-- ---- lines

no_end : (byte : ℕ) → byte ≢ 10 → (byte == 10) ≡ false
no_end byte other = grind (arith, nat_tests)

plain : (line : List ℕ) → IsWhole line → All (λ byte. (byte == 10) ≡ false) line
plain line whole = All-weaker (λ byte. byte ≢ 10) (λ byte. (byte == 10) ≡ false) no_end line whole

more_parts : (x : List ℕ) (ys : List (List ℕ)) → 0 < length ys → without_empty_end (x ∷ ys) ≡ x ∷ without_empty_end ys
more_parts x [] h = absurd (omega arith)
more_parts x (y ∷ ys) h = refl

line_before : (line rest : List ℕ) → IsWhole line → lines_of (line ++ 10 ∷ rest) ≡ line ∷ lines_of rest
line_before line rest whole =
    ap without_empty_end (slice_split_at (λ b. b == 10) line 10 rest (plain line whole) refl)
    ∙ more_parts line (slice_split (λ b. b == 10) rest) (omega (arith, length-slice_split (λ b. b == 10) rest))

one_part : (line : List ℕ) → All (λ byte. (byte == 10) ≡ false) line → slice_split (λ b. b == 10) line ≡ line ∷ []
one_part [] h = refl
one_part (x ∷ xs) h =
    let other = All-head (λ byte. (byte == 10) ≡ false) x xs h in
    let rest = one_part xs (All-tail (λ byte. (byte == 10) ≡ false) x xs h) in
    ap (λ b. cond b ([] ∷ slice_split (λ b. b == 10) xs) (onto_first x (slice_split (λ b. b == 10) xs))) other ∙ ap (onto_first x) rest

last_line : (line : List ℕ) → IsWhole line → 0 < length line → lines_of line ≡ line ∷ []
last_line line whole some = ap without_empty_end (one_part line (plain line whole)) ∙ alone line some
  where
    alone : (line : List ℕ) → 0 < length line → without_empty_end (line ∷ []) ≡ line ∷ []
    alone [] h = absurd (omega arith)
    alone (x ∷ xs) h = search rules

-- the lines of a text of lines
pub lines_again : (lines : List (List ℕ)) → All IsWhole lines → lines_of (text_of_lines lines) ≡ lines
lines_again [] h = refl
lines_again (line ∷ lines) h =
    ap lines_of (append_assoc line (10 ∷ []) (text_of_lines lines)) ∙ line_before line (text_of_lines lines) (All-head IsWhole line lines h)
    ∙ ap (λ l. line ∷ l) (lines_again lines (All-tail IsWhole line lines h))

-- a line with its end has come
pub ended : (old mid new : Option (List ℕ)) (line : List ℕ) → IsWhole line → Consumes old mid line → Consumes mid new (10 ∷ []) → Leads old new line
ended None mid new line whole a b = tt
ended (Some xs) None new line whole a b = absurd a
ended (Some xs) (Some ys) None line whole a b = absurd b
ended (Some xs) (Some ys) (Some zs) line whole a b = ap lines_of (a ∙ ap (λ l. line ++ l) b) ∙ line_before line zs whole

-- the input has ended after a line, or nothing has come
pub at_end : (old mid new : Option (List ℕ)) (line : List ℕ) (empty : Bool) → empty ≡ (length line == 0) → IsWhole line → Consumes old mid line → Consumes mid new [] × IsAtEnd new → IsNext old new line (Ok (not empty))
at_end old mid new [] true e whole a b = start old mid new a b
  where
    start : (old mid new : Option (List ℕ)) → Consumes old mid [] → Consumes mid new [] × IsAtEnd new → IsAtEnd old
    start None mid new a b = tt
    start (Some xs) None new a b = absurd a
    start (Some xs) (Some ys) None a b = absurd b.0
    start (Some xs) (Some ys) (Some zs) a b = a ∙ b.0 ∙ b.1
at_end old mid new [] false e whole a b = absurd (search rules)
at_end old mid new (x ∷ xs) true e whole a b = absurd (search rules)
at_end old mid new (x ∷ xs) false e whole a b = last old mid new a b
  where
    last : (old mid new : Option (List ℕ)) → Consumes old mid (x ∷ xs) → Consumes mid new [] × IsAtEnd new → Leads old new (x ∷ xs)
    last None mid new a b = tt
    last (Some xs) None new a b = absurd a
    last (Some xs) (Some ys) None a b = absurd b.0
    last (Some before) (Some ys) (Some zs) a b =
        ap lines_of (a ∙ ap (λ l. x ∷ xs ++ l) (b.0 ∙ b.1) ∙ append-nil (x ∷ xs)) ∙ last_line (x ∷ xs) whole (omega arith) ∙ ap (λ l. (x ∷ xs) ∷ lines_of l) (sym b.1)

-- ---- pieces

whole_append : (line piece : List ℕ) → IsWhole line → IsWhole piece → IsWhole (line ++ piece)
whole_append line piece a b = All-append (λ byte. byte ≢ 10) line piece a b

-- a piece of what was left, before what the reader has
taken : (old new piece : List ℕ) (rest : Option (List ℕ)) → old ≡ piece ++ new → Consumes (prepend_known old rest) (prepend_known new rest) piece
taken old new piece None e = tt
taken old new piece (Some xs) e = ap (λ l. l ++ xs) e ∙ append_assoc piece new xs

-- some more was read
still : (old mid new : Option (List ℕ)) (line : List ℕ) → Consumes old mid line → Consumes mid new [] → Consumes old new line
still None mid new line a b = tt
still (Some xs) None new line a b = absurd a
still (Some xs) (Some ys) None line a b = absurd b
still (Some xs) (Some ys) (Some zs) line a b = a ∙ ap (λ l. line ++ l) b

-- Of what was to come, `line` has come, then some more was read, so that `left` is left, and then a piece of it was handed
-- out.
pub nothing_is : (old mid : Option (List ℕ)) (line left new after : List ℕ) (rest : Option (List ℕ)) (empty : Bool) → empty ≡ (length after == 0) → IsWhole line → Consumes old mid line
    → IsFilled mid (prepend_known left rest) left (Ok tt) → IsPiece left new line after Nothing → IsNext old (prepend_known new rest) after (Ok (not empty)) × IsWhole after
nothing_is old mid line left new after rest empty e whole come filled piece =
    let same : left ≡ new = piece.0 ∙ sym piece.1 in
    let ends = subst (λ (l : List ℕ). Consumes mid (prepend_known l rest) [] × IsAtEnd (prepend_known l rest)) same (filled.0, filled.1 piece.0) in
    let is = subst (λ (l : List ℕ). IsWhole l) (sym piece.2) whole in
    (at_end old mid (prepend_known new rest) after empty e is (subst (λ (l : List ℕ). Consumes old mid l) (sym piece.2) come) ends, is)

pub part_is : (old mid : Option (List ℕ)) (line left new after : List ℕ) (rest : Option (List ℕ)) → IsWhole line → Consumes old mid line
    → IsFilled mid (prepend_known left rest) left (Ok tt) → IsPiece left new line after Part → IsWhole after × Consumes old (prepend_known new rest) after
part_is old mid line left new after rest whole come filled piece =
    let at = piece.0 in
    let so = still old mid (prepend_known left rest) line come filled.0 in (
      subst (λ (l : List ℕ). IsWhole l) (sym piece.5) (whole_append line at whole piece.1),
      subst (λ (l : List ℕ). Consumes old (prepend_known new rest) l) (sym piece.5) (more_come old (prepend_known left rest) (prepend_known new rest) line at so (taken left new at rest piece.4)),
    )

pub end_is : (old mid : Option (List ℕ)) (line left new after : List ℕ) (rest : Option (List ℕ)) → IsWhole line → Consumes old mid line
    → IsFilled mid (prepend_known left rest) left (Ok tt) → IsPiece left new line after End → Leads old (prepend_known new rest) after × IsWhole after
end_is old mid line left new after rest whole come filled piece =
    let at = piece.0 in
    let so = still old mid (prepend_known left rest) line come filled.0 in
    let is = whole_append line at whole piece.1 in
    let before = more_come old (prepend_known left rest) (prepend_known (10 ∷ new) rest) line at so (taken left (10 ∷ new) at rest piece.2) in
    let leads = ended old (prepend_known (10 ∷ new) rest) (prepend_known new rest) (line ++ at) is before (taken (10 ∷ new) new (10 ∷ []) rest refl) in
    (subst (λ (l : List ℕ). Leads old (prepend_known new rest) l) (sym piece.3) leads, subst (λ (l : List ℕ). IsWhole l) (sym piece.3) is)

pub over_is : (old mid : Option (List ℕ)) (line left new after : List ℕ) (rest : Option (List ℕ)) → IsWhole line → Consumes old mid line
    → IsFilled mid (prepend_known left rest) left (Ok tt) → IsPiece left new line after Over → (front : List ℕ) × IsWhole front × (longest_line < length front) × Consumes old (prepend_known new rest) front
over_is old mid line left new after rest whole come filled piece =
    let at = piece.0 in
    let so = still old mid (prepend_known left rest) line come filled.0 in (
      line ++ at,
      whole_append line at whole piece.1,
      omega (arith, length-append line at, piece.2),
      more_come old (prepend_known left rest) (prepend_known new rest) line at so (taken left new at rest piece.3),
    )

-- ---- where the first end stands

is_end : (byte : ℕ) → (byte == 10) ≡ true → byte ≡ 10
is_end byte e = grind (arith, nat_tests)

no_end_before : (xs : List ℕ) (n : ℕ) → n ≤ position_or_len (λ b. b == 10) xs → IsWhole (take n xs)
no_end_before xs zero low = All-nil (λ byte. byte ≢ 10)
no_end_before [] (suc n) low = All-nil (λ byte. byte ≢ 10)
no_end_before (x ∷ xs) (suc n) low =
    elim (x == 10) as (λ b. (x == 10) ≡ b → suc n ≤ cond (not b) (1 + position_or_len (λ b. b == 10) xs) 0 → IsWhole (x ∷ take n xs)) [
      | true ↦ λ e h. absurd (omega arith)
      | false ↦ λ e h. All-cons (λ byte. byte ≢ 10) x (take n xs) (grind (arith, nat_tests)) (no_end_before xs n (omega arith))
    ] refl low

pub part_of : (left new line after : List ℕ) (count : ℕ) → count ≡ position_or_len (λ b. b == 10) left → 0 < length left → count ≡ length left → new ≡ drop count left → after ≡ line ++ take count left
    → length line + length (take count left) ≤ longest_line → IsPiece left new line after Part
part_of left new line after count first some all rest more fits = (
  take count left,
  no_end_before left count (omega (arith, first)),
  omega (arith, length-take count left, all, some),
  fits,
  sym (take-append-drop count left) ∙ ap (λ l. take count left ++ l) (sym rest),
  more,
)

pub end_of : (left new line after : List ℕ) (count : ℕ) → count ≡ position_or_len (λ b. b == 10) left → count < length left → new ≡ drop (count + 1) left → after ≡ line ++ take count left
    → IsPiece left new line after End
end_of left new line after count first inside rest more =
    let here : position_or_len (λ b. b == 10) left < length left = omega (arith, first, inside) in
    let cut = split_at_first (λ b. b == 10) left 0 here in
    let byte = is_end (get_or left (position_or_len (λ b. b == 10) left) 0) (passes_at_first (λ b. b == 10) left 0 here) in (
      take count left,
      no_end_before left count (omega (arith, first)),
      cut ∙ ap (λ x. before_first (λ b. b == 10) left ++ x ∷ after_first (λ b. b == 10) left) byte ∙ ap (λ n. take n left ++ 10 ∷ drop (n + 1) left) (sym first) ∙ ap (λ l. take count left ++ 10 ∷ l) (sym rest),
      more,
    )

pub over_of : (left new line after : List ℕ) (count room : ℕ) → count ≡ position_or_len (λ b. b == 10) left → count ≤ length left → room + length line ≡ longest_line → room < count → new ≡ drop (room + 1) left
    → IsPiece left new line after Over
over_of left new line after count room first within full over rest = (
  take (room + 1) left,
  no_end_before left (room + 1) (omega (arith, first, over)),
  omega (arith, length-take (room + 1) left, within, full, over),
  sym (take-append-drop (room + 1) left) ∙ ap (λ l. take (room + 1) left ++ l) (sym rest),
)
