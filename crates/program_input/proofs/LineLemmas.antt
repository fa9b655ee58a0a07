-- The lines of a text, one after another.
use Rattle.std.proofs.Common.{◌≡◌, ◌≢◌, ℕ, ◌+◌, ◌-◌, ◌<◌, ◌≤◌, ◌==◌, suc, true, false, List, [], ◌∷◌, ◌++◌, length, take, drop, get_or, sym, ap, subst, ◌∙◌, append_assoc, append-nil, arith, add-one, drop-cons, length-drop, length-take-le, inl, inr}
use Rattle.std.proofs.Math.Seq.{take-add, take_all}
use Rattle.std.proofs.lemmas.Bool.{cases_lt, eqb-true}
use Rattle.std.proofs.lemmas.Bool.Decides.{nat_tests}
use Rattle.std.proofs.lemmas.Grind.{common_steps, flat_map-append}
use Rattle.std.proofs.lemmas.List.{drop_all, take-append-drop}
use Rattle.std.proofs.lemmas.List.Elements.{All-append, All-cons, All-nil}
use Rattle.std.proofs.lemmas.List.Sums.{fails_before_first, passes_at_first}
use Rattle.std.proofs.lemmas.Slice.Eq.{bytes_eq-Decides}
use Rattle.std.specs.List.{flat_map, position_or_len}
use Rattle.std.specs.Str.{bytes_eq}
use Rattle.program_input.specs.Parted.{AreOtherLines, IsLine, IsParted}

-- where a line ends
abbrev pub line_len : List ℕ → ℕ
line_len text = position_or_len (λ b. b == 10) text

-- the first line of a text has no end in it
first_line-whole : (text : List ℕ) (n : ℕ) → n ≡ line_len text → n ≤ length text → IsLine (take n text)
first_line-whole text n e within k d short =
    let len : length (take n text) ≡ n = length-take-le n text within in
    let before : k < line_len text = omega (arith, e, len) in
    let fails = fails_before_first (λ b. b == 10) text k d before in
    grind (arith, nat_tests, common_steps, fails)

-- and its end stands after it
feed_there : (text : List ℕ) (n : ℕ) → n ≡ line_len text → n < length text → drop n text ≡ 10 ∷ drop (suc n) text
feed_there text n e short =
    let feed : get_or text n 0 ≡ 10 = eqb-true (get_or text n 0) 10 (rw e (passes_at_first (λ b. b == 10) text 0 (rw (← e) short))) in
    drop-cons text n 0 short ∙ ap (λ b. b ∷ drop (suc n) text) feed

first_line-ended : (text : List ℕ) (n : ℕ) → n ≡ line_len text → n < length text → text ≡ take n text ++ 10 ∷ drop (n + 1) text
first_line-ended text n e short =
    sym (take-append-drop n text) ∙ ap (λ l. take n text ++ l) (feed_there text n e short ∙ ap (λ m. 10 ∷ drop m text) (sym (add-one n)))

first_line-with_end : (text : List ℕ) (n : ℕ) → n ≡ line_len text → n < length text → take (n + 1) text ≡ take n text ++ 10 ∷ []
first_line-with_end text n e short = take-add n 1 text ∙ ap (λ l. take n text ++ take 1 l) (feed_there text n e short)

-- one line more
one_more : (mark text line : List ℕ) → AreOtherLines mark text → IsLine line → line ≢ mark → AreOtherLines mark (text ++ (line ++ 10 ∷ []))
one_more mark text line before whole other = record {
  lines = before.lines ++ line ∷ [];
  spelled = ap (λ l. l ++ (line ++ 10 ∷ [])) before.spelled
      ∙ ap (λ l. flat_map (λ x. x ++ 10 ∷ []) before.lines ++ l) (sym (append-nil (line ++ 10 ∷ [])))
      ∙ sym (flat_map-append (λ x. x ++ 10 ∷ []) before.lines (line ∷ []));
  whole = All-append IsLine before.lines (line ∷ []) before.whole (All-cons IsLine line [] whole (All-nil IsLine));
  others = All-append (λ x. x ≢ mark) before.lines (line ∷ []) before.others (All-cons (λ x. x ≢ mark) line [] other (All-nil (λ x. x ≢ mark)));
}

-- `&text[n..]`
pub rest_of : (text : List ℕ) (n : ℕ) → take (length text - n) (drop n text) ≡ drop n text
rest_of text n = grind (arith, common_steps)

pub same_bytes : (xs ys : List ℕ) → true ≡ bytes_eq xs ys → xs ≡ ys
same_bytes xs ys h = (bytes_eq-Decides xs ys).0 (sym h)

pub other_bytes : (xs ys : List ℕ) → false ≡ bytes_eq xs ys → xs ≢ ys
other_bytes xs ys h same = let yes : bytes_eq xs ys ≡ true = (bytes_eq-Decides xs ys).1 same in absurd (cc)

-- the line at a place is the one that is looked for
pub parted_at : (mark text rest : List ℕ) (start n : ℕ) → rest ≡ drop start text → AreOtherLines mark (take start text) → n ≡ line_len rest
    → n ≤ length rest → take n rest ≡ mark → IsParted mark text (take start text) (drop (n + 1) rest)
parted_at mark text rest start n there before e short same =
    let front : text ≡ take start text ++ rest = sym (take-append-drop start text) ∙ ap (λ l. take start text ++ l) (sym there) in
    record {
      earlier = before;
      at = elim (cases_lt n (length rest)) [
        | inl inner ↦ inl (front ∙ ap (λ l. take start text ++ l) (first_line-ended rest n e inner ∙ ap (λ l. l ++ 10 ∷ drop (n + 1) rest) same)
            ∙ sym (append_assoc (take start text) mark (10 ∷ drop (n + 1) rest)))
        | inr last ↦ inr (front ∙ ap (λ l. take start text ++ l) (sym (take_all n rest last) ∙ same), drop_all (n + 1) rest (omega (arith, last)))
      ];
    }

-- the line at a place is another one
pub passed_on : (mark text rest : List ℕ) (start n : ℕ) → rest ≡ drop start text → AreOtherLines mark (take start text) → n ≡ line_len rest
    → n < length rest → take n rest ≢ mark → AreOtherLines mark (take (start + (n + 1)) text)
passed_on mark text rest start n there before e short other =
    let all : take (start + (n + 1)) text ≡ take start text ++ (take n rest ++ 10 ∷ []) =
    take-add start (n + 1) text ∙ ap (λ l. take start text ++ take (n + 1) l) (sym there) ∙ ap (λ l. take start text ++ l) (first_line-with_end rest n e short) in
    subst (AreOtherLines mark) (sym all) (one_more mark (take start text) (take n rest) before (first_line-whole rest n e (omega (arith, short))) other)

pub within_text : (text rest : List ℕ) (start n : ℕ) → start ≤ length text → rest ≡ drop start text → n < length rest → start + (n + 1) ≤ length text
within_text text rest start n within there short =
    let long : length rest ≡ length text - start = ap length there ∙ length-drop start text in
    omega (arith, long, short, within)
