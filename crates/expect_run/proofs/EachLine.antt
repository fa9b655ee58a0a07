-- The lines of a text that is made of those of another, one by one.
use Rattle.std.proofs.Common.{◌≡◌, ℕ, ◌==◌, Bool, true, false, cond, if◌then◌else◌, List, [], ◌∷◌, ◌++◌, length, map, refl, ap, ◌∙◌, append_assoc}
use Rattle.std.specs.List.{flat_map, slice_split, onto_first}
use Rattle.text_core.specs.Lines.{lines_of, without_empty_end}
use Rattle.capture_core.specs.Texts.{Lacks}
use Rattle.capture_core.proofs.Texts.{line_before, more_lack, none_lack}

-- no line feed in any of these
abbrev pub Lacking : List (List ℕ) → Type 0
Lacking [] = Unit {0}
Lacking (line ∷ lines) = Lacks (λ c. c == 10) line × Lacking lines

parts_lack : (text : List ℕ) → Lacking (slice_split (λ b. b == 10) text)
parts_lack [] = (none_lack (λ c. c == 10), tt)
parts_lack (c ∷ cs) = by (c == 10) refl (slice_split (λ b. b == 10) cs) (parts_lack cs)
  where
    by : (b : Bool) → (c == 10) ≡ b → (parts : List (List ℕ)) → Lacking parts → Lacking (cond b ([] ∷ parts) (onto_first c parts))
    by true e parts h = (none_lack (λ c. c == 10), h)
    by false e [] h = (more_lack (λ c. c == 10) c [] e (none_lack (λ c. c == 10)), tt)
    by false e (part ∷ parts) h = (more_lack (λ c. c == 10) c part e h.0, h.1)

ends_lack : (parts : List (List ℕ)) → Lacking parts → Lacking (without_empty_end parts)
ends_lack [] h = tt
ends_lack (part ∷ []) h = by (length part == 0)
  where
    by : (b : Bool) → Lacking (if b then [] else part ∷ [])
    by true = tt
    by false = h
ends_lack (part ∷ next ∷ parts) h = (h.0, ends_lack (next ∷ parts) h.1)

each : (f : List ℕ → List ℕ) (lines : List (List ℕ)) → ((line : List ℕ) → Lacks (λ c. c == 10) line → Lacks (λ c. c == 10) (f line)) → Lacking lines
    → lines_of (flat_map (λ line. f line ++ 10 ∷ []) lines) ≡ map f lines
each f [] plain h = refl
each f (line ∷ lines) plain h =
    ap lines_of (append_assoc (f line) (10 ∷ []) (flat_map (λ line. f line ++ 10 ∷ []) lines))
    ∙ line_before (f line) (flat_map (λ line. f line ++ 10 ∷ []) lines) (plain line h.0)
    ∙ ap (λ ls. f line ∷ ls) (each f lines plain h.1)

pub lines_each : (f : List ℕ → List ℕ) (text : List ℕ) → ((line : List ℕ) → Lacks (λ c. c == 10) line → Lacks (λ c. c == 10) (f line))
    → lines_of (flat_map (λ line. f line ++ 10 ∷ []) (lines_of text)) ≡ map f (lines_of text)
lines_each f text plain = each f (lines_of text) plain (ends_lack (slice_split (λ b. b == 10) text) (parts_lack text))
