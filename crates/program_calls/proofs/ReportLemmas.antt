-- The report of several inputs.
use Rattle.std.proofs.Common.{◌≡◌, ◌∙◌, ◌++◌, ◌-◌, ◌≤◌, ℕ, Bool, true, List, [], ◌∷◌, length, map, drop, get_or, codes, OnOk, Option, Some, Result, Ok, Err, ap, arith, refl, subst, sym}
use Rattle.std.proofs.KnownBytes.{Appends-trans}
use Rattle.std.proofs.lemmas.List.{length-map}
use Rattle.std.proofs.lemmas.List.Concat.{flat_map-cons}
use Rattle.std.specs.Io.KnownBytes.{Appends}
use Rattle.std.specs.List.{flat_map}
use Rattle.program_calls.specs.declared.reports.ReportKind.{ReportKind}
use Rattle.text_core.specs.ByLine.{AreInOrder}
use Rattle.text_core.specs.Cut.{WritesText}
use Rattle.text_core.specs.declared.sink.WriteFault.{WriteFault}
use Rattle.program_calls.specs.Reports.{WritesNested, WritesNestedFile, WritesNestedInput, WritesReports, nested_text, plan_line, result_line}

-- what is held is what was put
pub all_held : (old new : Option (List ℕ)) (bytes text : List ℕ) → old ≡ Some [] → new ≡ Some bytes → Appends old new text → bytes ≡ text
all_held old new bytes text e f a = rw (e, f) at a

-- a text for each line
pub in_order : (f : List ℕ → List ℕ) (lines : List (List ℕ)) → AreInOrder (λ line text. text ≡ f line) lines (flat_map f lines)
in_order f [] = refl
in_order f (line ∷ lines) = (f line, flat_map f lines, refl, in_order f lines, flat_map-cons f line lines)

-- is written, where no fault cuts it off
pub written : (old new : Option (List ℕ)) (was is : Bool) (text : List ℕ) (r : Result (Unit {0}) WriteFault) → WritesText old new was is text r → OnOk r (Appends old new text)
written old new was is text (Ok n) w = w.0
written old new was is text (Err fault) w = tt

-- what holds of a result that is no fault
pub ok_of : {A E : Type 0} {P : Type 0} (r : Result A E) (v : A) → r ≡ Ok v → OnOk r P → P
ok_of (Ok w) v e p = p
ok_of (Err w) v e p = cc

-- what stands for an input
pub nested : (of : List ℕ → List ℕ → ReportKind) (is : List ℕ → List ℕ → Type 0) (input name report first again : List ℕ) (kind : ReportKind) (holds : Bool) (number : ℕ) (a b c : Option (List ℕ))
    → is input report → kind ≡ of input first → first ≡ report → again ≡ report → holds ≡ true → Appends a b (nested_text kind name again)
    → Appends b c (result_line holds number name) → WritesNestedInput of is input number name a c
nested of is input name report first again kind holds number a b c done k f s h p q =
    let named : Appends a b (nested_text (of input report) name again) = subst (λ (x : ReportKind). Appends a b (nested_text x name again)) (k ∙ ap (of input) f) p in
    let told : Appends a b (nested_text (of input report) name report) = subst (λ (x : List ℕ). Appends a b (nested_text (of input report) name x)) s named in
    let held : Appends b c (result_line true number name) = subst (λ (x : Bool). Appends b c (result_line x number name)) h q in
    (nested_text (of input report) name report ++ result_line true number name, (report, done, refl), Appends-trans a b c _ _ told held)

-- what stands for one more, before the others
pub more_nested : {X : Type 0} (f : X → List ℕ) (of : List ℕ → List ℕ → ReportKind) (is : List ℕ → List ℕ → Type 0) (held : List ℕ → Option (List ℕ)) (count number : ℕ) (item none : X) (names rest : List X) (name : List ℕ)
    (a b c : Option (List ℕ)) → 1 ≤ length names → item ≡ get_or names 0 none → rest ≡ drop 1 names → name ≡ f item → number ≡ count - length rest
    → WritesNestedFile of is (held name) number name a b → WritesNested of is held count (map f rest) b c → WritesNested of is held count (map f names) a c
more_nested f of is held count number item none [] rest name a b c some e r n k one others = absurd (omega (arith, some))
more_nested f of is held count number item none (x ∷ xs) rest name a b c some e r n k one others =
    let named : name ≡ f x = n ∙ ap f e in
    let placed : number ≡ count - length (map f xs) = k ∙ ap (λ (l : List _). count - length l) r ∙ ap (λ (m : ℕ). count - m) (sym (length-map xs f)) in
    let first : WritesNestedFile of is (held (f x)) (count - length (map f xs)) (f x) a b =
    subst (λ (m : ℕ). WritesNestedFile of is (held (f x)) m (f x) a b) placed (subst (λ (t : List ℕ). WritesNestedFile of is (held t) number t a b) named one) in
    let last : WritesNested of is held count (map f xs) b c = subst (λ l. WritesNested of is held count (map f l) b c) r others in
    (first.0 ++ last.0, (first.0, last.0, first.1, last.1, refl), Appends-trans a b c _ _ first.2 last.2)

-- the whole report
pub reports : (of : List ℕ → List ℕ → ReportKind) (is : List ℕ → List ℕ → Type 0) (held : List ℕ → Option (List ℕ)) (count : ℕ) (names : List (List ℕ)) (head : List ℕ) (a b c d : Option (List ℕ)) → count ≡ length names
    → head ≡ codes "TAP version 14\n" → Appends a b head → WritesNested of is held count names b c → Appends c d (plan_line count) → WritesReports of is held names a d
reports of is held count names head a b c d k e h n p =
    let nested : WritesNested of is held (length names) names b c = subst (λ (m : ℕ). WritesNested of is held m names b c) k n in
    let plan : Appends c d (plan_line (length names)) = subst (λ (m : ℕ). Appends c d (plan_line m)) k p in
    let top : Appends a b (codes "TAP version 14\n") = subst (λ (t : List ℕ). Appends a b t) e h in
    (nested.0, nested.1, Appends-trans a c d _ _ (Appends-trans a b c _ _ top nested.2) plan)
