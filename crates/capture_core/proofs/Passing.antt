-- Words and lines of a capture, one after another.
use Rattle.std.proofs.Common.{◌≡◌, ℕ, ◌+◌, false, not, cond, nat_lt, List, [], ◌∷◌, ◌++◌, length, position, Option, Some, None, Result, Ok, Err, refl, sym, ap, subst, ◌∙◌, append_assoc, append-nil, arith}
use Rattle.std.specs.Option.{option_to_list}
use Rattle.std.specs.List.{position_or_len, slice_split}
use Rattle.std.proofs.lemmas.Bool.Decides.{nat_tests}
use Rattle.line_wave.specs.declared.Edge.{Edge}
use Rattle.text_core.specs.At.{at_line}
use Rattle.text_core.specs.Lines.{lines_of}
use Rattle.text_core.specs.declared.at.At.{At}
use Rattle.text_core.specs.declared.at.AtWord.{AtWord}
use Rattle.capture_core.specs.Edges.{Captured}
use Rattle.capture_core.specs.Track.{last_edge}
use Rattle.capture_core.specs.Reading.{Form, Passed, Step, end_read, line_read, lines_read, onto, read_on, with_edges, word_read, words_read}
use Rattle.capture_core.specs.Onward.{LineOnward, LinesArePassed, Onward, ReadTextsPassLines, ReadTextsTakeWords, StepsStay, WordsAloneArePassed, WordsAreTaken}
use Rattle.capture_core.specs.declared.fault.Cause.{Cause}

onto_more : {S : Type 0} (a b : List Edge) (r : Result (Passed S) (At Cause)) → onto a (onto b r) ≡ onto (a ++ b) r
onto_more a b (Ok p) = ap (λ es. Ok (record { edges = es; state = p.state })) (sym (append_assoc a b p.edges))
onto_more a b (Err f) = refl

both : (a b : List Edge) (r : Result Captured (At Cause)) → with_edges a (with_edges b r) ≡ with_edges (a ++ b) r
both a b (Ok e) = ap (λ es. Ok (record { edges = es; end = e.end })) (sym (append_assoc a b e.edges))
both a b (Err f) = refl

pub onto_none : {S : Type 0} (r : Result (Passed S) (At Cause)) → r ≡ onto [] r
onto_none (Ok p) = refl
onto_none (Err f) = refl

pub with_none : (r : Result Captured (At Cause)) → r ≡ with_edges [] r
with_none (Ok e) = refl
with_none (Err f) = refl

-- ---- words

-- a word that is taken
pub word_taken : {S : Type 0} → WordsAreTaken S
word_taken form line number word words s step h = ap (λ stepped. word_read line stepped (words_read form line (number + 1) words)) h

-- one more word, after those before it
pub word_more : {S : Type 0} (form : Form S) (line number : ℕ) (word : List ℕ) (parts rest : List (List ℕ)) (s : S) (step : Step S) (so_far : List Edge) (all : Result (Passed S) (At Cause))
    → all ≡ onto so_far (words_read form line number parts s) → parts ≡ word ∷ rest → form.took number word s ≡ Ok step
    → all ≡ onto (so_far ++ option_to_list step.edge) (words_read form line (number + 1) rest step.state)
word_more form line number word parts rest s step so_far all is cut h =
    is ∙ ap (λ ws. onto so_far (words_read form line number ws s)) cut ∙ ap (onto so_far) (word_taken form line number word rest s step h)
    ∙ onto_more so_far (option_to_list step.edge) (words_read form line (number + 1) rest step.state)

-- ---- lines

-- no word is left
pub words_over : {S : Type 0} (form : Form S) (line number : ℕ) (s : S) (so_far : List Edge) (all : Result (Passed S) (At Cause)) → all ≡ onto so_far (words_read form line number [] s)
    → all ≡ Ok (record { edges = so_far; state = s })
words_over form line number s so_far all is = is ∙ ap (λ es. Ok (record { edges = es; state = s })) (append-nil so_far)

-- a line that is passed
pub line_passed : {S : Type 0} → LinesArePassed S
line_passed form number line lines s t edges h = ap (λ p. read_on p (lines_read form (number + 1) lines)) h

-- one more line, after those before it
pub line_more : {S : Type 0} (form : Form S) (number : ℕ) (line text after : List ℕ) (s t : S) (old more new : List Edge) (all : Result Captured (At Cause))
    → all ≡ with_edges old (lines_read form number (lines_of text) s) → lines_of text ≡ line ∷ lines_of after → new ≡ old ++ more → line_read form number line s ≡ Ok (record { edges = more; state = t })
    → all ≡ with_edges new (lines_read form (number + 1) (lines_of after) t)
line_more form number line text after s t old more new all so_far cut grown passed =
    so_far ∙ ap (λ lines. with_edges old (lines_read form number lines s)) cut ∙ ap (with_edges old) (line_passed form number line (lines_of after) s t more passed)
    ∙ both old more (lines_read form (number + 1) (lines_of after) t) ∙ ap (λ es. with_edges es (lines_read form (number + 1) (lines_of after) t)) (sym grown)

-- no line is left
pub text_over : {S : Type 0} (form : Form S) (number : ℕ) (text : List ℕ) (s : S) (old new : List Edge) (end : ℕ) (all : Result Captured (At Cause))
    → all ≡ with_edges old (lines_read form number (lines_of text) s) → lines_of text ≡ [] → new ≡ old ++ option_to_list (last_edge (form.track s)) → form.ended s ≡ Ok end
    → all ≡ Ok (record { edges = new; end = end })
text_over form number text s old new end all is none grown over =
    is ∙ ap (λ lines. with_edges old (lines_read form number lines s)) none ∙ ap (λ o. with_edges old (end_read number (form.track s) o)) over
    ∙ ap (λ es. Ok (record { edges = es; end = end })) (sym grown)

-- it may not end here
pub text_open : {S : Type 0} (form : Form S) (number : ℕ) (text : List ℕ) (s : S) (old : List Edge) (cause : Cause) (all : Result Captured (At Cause))
    → all ≡ with_edges old (lines_read form number (lines_of text) s) → lines_of text ≡ [] → form.ended s ≡ Err cause → all ≡ Err (at_line number (record { cause = cause; word = 0 }))
text_open form number text s old cause all is none over =
    is ∙ ap (λ lines. with_edges old (lines_read form number lines s)) none ∙ ap (λ o. with_edges old (end_read number (form.track s) o)) over

-- of a text that is read: its first line is passed, and the rest is read
pub line_onward : {S : Type 0} → ReadTextsPassLines S
line_onward {S} form number line lines s e h = by (line_read form number line s) refl h
  where
    more : (p : Passed S) (o : Result Captured (At Cause)) → line_read form number line s ≡ Ok p → lines_read form (number + 1) lines p.state ≡ o → with_edges p.edges o ≡ Ok e
        → LineOnward S form number line lines s e
    more p (Err f) t r k = cc
    more p (Ok rest) t r k =
        let is : record { edges = p.edges ++ rest.edges; end = rest.end } ≡ e = cc in
        record { passed = p; is_passed = t; rest = rest; read = r; is = sym is }

    by : (o : Result (Passed S) (At Cause)) → line_read form number line s ≡ o → read_on o (lines_read form (number + 1) lines) ≡ Ok e → LineOnward S form number line lines s e
    by (Err f) t k = cc
    by (Ok p) t k = more p (lines_read form (number + 1) lines p.state) t refl k

-- ---- a line of one word

-- a line without a gap
all_of : (xs : List ℕ) → position_or_len (λ b. false) xs ≡ length xs
all_of [] = refl
all_of (x ∷ xs) = let more : position_or_len (λ b. false) xs ≡ length xs = all_of xs in omega (arith, more)

not_below : (a b : ℕ) → a ≡ b → nat_lt a b ≡ false
not_below a b h = grind (arith, nat_tests)

pub gaps_none : (xs : List ℕ) → None ≡ position (λ b. false) xs
gaps_none xs = ap (λ c. cond c (Some (position_or_len (λ b. false) xs)) None) (sym (not_below (position_or_len (λ b. false) xs) (length xs) (all_of xs)))

only : {S : Type 0} (edge : Option Edge) (s : S) → onto (option_to_list edge) (Ok (record { edges = []; state = s })) ≡ Ok (record { edges = option_to_list edge; state = s })
only None s = refl
only (Some e) s = refl

pub alone_passed : {S : Type 0} (form : Form S) (number : ℕ) (line : List ℕ) (s : S) (step : Step S) → slice_split form.is_gap line ≡ line ∷ [] → form.took 0 line s ≡ Ok step
    → line_read form number line s ≡ Ok (record { edges = option_to_list step.edge; state = step.state })
alone_passed form number line s step one h =
    ap (λ ws. words_read form number 0 ws s) one ∙ word_taken form number 0 line [] s step h ∙ only step.edge step.state

pub alone : {S : Type 0} → WordsAloneArePassed S
alone form number line lines s step one h = line_passed form number line lines s step.state (option_to_list step.edge) (alone_passed form number line s step one h)

-- of a text that is read: its first line is taken, and the rest is read
pub onward : {S : Type 0} → ReadTextsTakeWords S
onward {S} form number line lines s e one h = by (form.took 0 line s) refl
  where
    l : LineOnward S form number line lines s e
    l = line_onward form number line lines s e h

    same : (p q : Passed S) → line_read form number line s ≡ Ok p → line_read form number line s ≡ Ok q → p ≡ q
    same p q a b = cc

    by : (o : Result (Step S) (AtWord Cause)) → form.took 0 line s ≡ o → Onward S form number line lines s e
    by (Err slip) t =
        let refused : line_read form number line s ≡ Err (at_line number slip) =
        ap (λ ws. words_read form number 0 ws s) one ∙ ap (λ o. word_read number o (words_read form number 1 [])) t in
        let read : line_read form number line s ≡ Ok l.passed = l.is_passed in
        cc
    by (Ok step) t =
        let is : l.passed ≡ record { edges = option_to_list step.edge; state = step.state } = same l.passed (record { edges = option_to_list step.edge; state = step.state }) l.is_passed (alone_passed form number line s step one t) in
        record {
          step = step;
          took = t;
          rest = l.rest;
          read = subst (λ (p : Passed S). lines_read form (number + 1) lines p.state ≡ Ok l.rest) is l.read;
          is = l.is ∙ ap (λ (p : Passed S). record { edges = p.edges ++ l.rest.edges; end = l.rest.end }) is;
        }

-- a word that is given is that of a cause alone
pub without_word : {S : Type 0} → StepsStay S
without_word word (Ok step) other h = let same : step ≡ other = cc in ap Ok same
without_word word (Err cause) other h = cc
