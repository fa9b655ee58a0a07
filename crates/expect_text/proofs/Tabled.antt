-- The labels of a script, read once, are those that are found line by line.
use Rattle.std.proofs.Common.{◌≡◌, ℕ, ◌+◌, ◌&&◌, Bool, true, false, cond, if◌then◌else◌, List, [], ◌∷◌, Option, Some, None, is_some, refl, sym, ap, subst, ◌∙◌}
use Rattle.std.specs.HashMap.{HashMap, UpdatesBy, get_by}
use Rattle.std.specs.Str.{bytes_eq}
use Rattle.std.proofs.lemmas.Map.Text.{hash_map_updates_str}
use Rattle.std.proofs.lemmas.Slice.Eq.{bytes_eq-Decides}
use denote.Ref.{Bor}
use Rattle.text_core.specs.Words.{words_of}
use Rattle.expect_text.specs.Line.{label_in}
use Rattle.expect_text.specs.Faults.{has_label, is_event_line, is_named, labelled_from}
use Rattle.expect_text.specs.Labels.{labelled_on, or_line}

pub unless : (o : Option ℕ) → o ≡ or_line o None
unless None = refl
unless (Some line) = refl

-- ---- a name

there : (o : Option ℕ) (line : ℕ) → is_some o ≡ true → o ≡ or_line o (Some line)
there None line h = cc
there (Some first) line h = refl

none_there : (o : Option ℕ) → is_some o ≡ false → o ≡ None
none_there None h = refl
none_there (Some line) h = cc

-- one that stands there already
pub there_already : {S : Type 0} (label : List ℕ) (number : ℕ) (m : HashMap (Bor (List ℕ)) ℕ S) → is_some (get_by (λ k. bytes_eq label k.now) m) ≡ true
    → (name : List ℕ) → get_by (λ k. bytes_eq name k.now) m ≡ or_line (get_by (λ k. bytes_eq name k.now) m) (if bytes_eq label name then Some number else None)
there_already label number m h name = by (bytes_eq label name) refl
  where
    found : List ℕ → Option ℕ
    found text = get_by (λ k. bytes_eq text k.now) m

    by : (b : Bool) → bytes_eq label name ≡ b → found name ≡ or_line (found name) (if b then Some number else None)
    by true k =
        let same : label ≡ name = (bytes_eq-Decides label name).0 k in
        subst (λ (text : List ℕ). found text ≡ or_line (found text) (Some number)) same (there (found label) number h)
    by false k = unless (found name)

-- one that was put
pub put_there : {S : Type 0} (label : List ℕ) (number : ℕ) (m n : HashMap (Bor (List ℕ)) ℕ S) → UpdatesBy (λ x y. bytes_eq x.now y.now) (λ k. bytes_eq label k.now) m n (Some number)
    → is_some (get_by (λ k. bytes_eq label k.now) m) ≡ false
    → (name : List ℕ) → get_by (λ k. bytes_eq name k.now) n ≡ or_line (get_by (λ k. bytes_eq name k.now) m) (if bytes_eq label name then Some number else None)
put_there label number m n updates h name = hash_map_updates_str label m n (Some number) updates name ∙ by (bytes_eq label name) refl
  where
    found : List ℕ → Option ℕ
    found text = get_by (λ k. bytes_eq text k.now) m

    by : (b : Bool) → bytes_eq label name ≡ b → cond b (Some number) (found name) ≡ or_line (found name) (if b then Some number else None)
    by true k =
        let same : label ≡ name = (bytes_eq-Decides label name).0 k in
        sym (ap (λ o. or_line o (Some number)) (sym (ap found same) ∙ none_there (found label) h))
    by false k = unless (found name)

-- ---- a line

and_not : (b : Bool) → (b && false) ≡ false
and_not true = refl
and_not false = refl

-- a line without a label
pub no_label : (of_events : Bool) (number : ℕ) (line name : List ℕ) (o : Option ℕ) → label_in (words_of line) ≡ None → o ≡ or_line o (labelled_on of_events number line name)
no_label of_events number line name o h =
    unless o ∙ ap (λ (label : Option (List ℕ)). or_line o (if is_named name label && (if of_events then is_event_line line else true) then Some number else None)) (sym h)

-- one that is no event, where events are looked for
pub not_looked_for : (of_events : Bool) (number : ℕ) (line name : List ℕ) (o : Option ℕ) → (if of_events then is_event_line line else true) ≡ false
    → o ≡ or_line o (labelled_on of_events number line name)
not_looked_for of_events number line name o h =
    unless o ∙ ap (λ (b : Bool). or_line o (if b then Some number else None)) (sym (ap (λ b. has_label name line && b) h ∙ and_not (has_label name line)))

and_so : (b : Bool) → (b && true) ≡ b
and_so true = refl
and_so false = refl

pub looked_for : (of_events : Bool) (number : ℕ) (line name label : List ℕ) → label_in (words_of line) ≡ Some label → (if of_events then is_event_line line else true) ≡ true
    → (if bytes_eq label name then Some number else None) ≡ labelled_on of_events number line name
looked_for of_events number line name label h is =
    ap (λ (b : Bool). if b then Some number else None)
    (sym (and_so (bytes_eq label name)) ∙ ap (λ b. bytes_eq label name && b) (sym is)
    ∙ ap (λ (l : Option (List ℕ)). is_named name l && (if of_events then is_event_line line else true)) (sym h))

-- ---- all lines

pub one_more : (of_events : Bool) (number : ℕ) (line name : List ℕ) (lines : List (List ℕ)) (before : Option ℕ)
    → or_line (or_line before (labelled_on of_events number line name)) (labelled_from of_events (number + 1) lines name) ≡ or_line before (labelled_from of_events number (line ∷ lines) name)
one_more of_events number line name lines None = by (has_label name line && (if of_events then is_event_line line else true))
  where
    by : (b : Bool) → or_line (if b then Some number else None) (labelled_from of_events (number + 1) lines name) ≡ (if b then Some number else labelled_from of_events (number + 1) lines name)
    by true = refl
    by false = refl
one_more of_events number line name lines (Some first) = refl

pub no_more : (of_events : Bool) (number : ℕ) (name : List ℕ) (lines : List (List ℕ)) (before : Option ℕ) → lines ≡ [] → or_line before (labelled_from of_events number lines name) ≡ before
no_more of_events number name lines before none = ap (λ (ls : List (List ℕ)). or_line before (labelled_from of_events number ls name)) none ∙ sym (unless before)
