-- A line may stand here exactly where an accepted text has one like it.
use Rattle.std.proofs.Common.{◌≡◌, ℕ, ◌+◌, ◌<◌, Bool, true, false, nat_lt, cond, List, [], ◌∷◌, ◌++◌, length, map, take, get_or, ap, subst, arith, refl, sym, ◌∙◌}
use Rattle.std.proofs.lemmas.Bool.{ltb-true}
use Rattle.std.proofs.lemmas.List.{map-append, get_or-take}
use Rattle.text_core.specs.Words.{words_of}
use Rattle.edid_texts.specs.Drafts.{draft_lines}
use Rattle.edid_text_lines.specs.Formed.{form_of}
use Rattle.edid_texts.specs.Lines.{edid_lines}
use Rattle.edid_texts.specs.Refusal.{IsFirstBad, IsRefusal, IsFirstUnfit, IsFaultAt, MayStand, AreAlike, HasAlike, HasLike, first_word, first_words, word_count}
use Rattle.edid_text_lines.specs.Text.{word_text, line_text}
use Rattle.edid_texts.specs.Words.{place_of, has_words, FitsAt}
use Rattle.edid_texts.specs.Draft.{Draft}
use Rattle.edid_core.specs.declared.edid.Edid.{Edid}
use Rattle.edid_text_lines.specs.declared.line.Line.{Line}
use Rattle.edid_text_lines.specs.declared.line.Keyword.{Keyword}
use Rattle.edid_texts.specs.declared.parse.TextError.{TextError}
use Rattle.edid_texts.specs.declared.parse.TextError.TheVariants.{Syntax, Field, Memory}
use Rattle.edid_texts.proofs.FirstBad.{AreReported, Next, next_of, some_begins, counted, all_reported}
use Rattle.edid_texts.proofs.Fits.{EachFit, Fit, edid_fit, fit_at, fits_in}
use Rattle.edid_texts.proofs.Good.{EachGood, Good, edid_good, good_at}
use Rattle.edid_texts.proofs.Likes.{likes}
use Rattle.edid_texts.proofs.Samples.{words_of as field_count}
use Rattle.edid_text_lines.proofs.OneWord.{one_word}
use Rattle.edid_texts.proofs.Stands.{stands}
use Rattle.edid_texts.proofs.WordTexts.{front_text, first_is, words_are, with_feed, same_front, formed_words}

may_stand_so : (d : Draft) (line : List ℕ) → AreReported (draft_lines d) → HasAlike (map line_text (draft_lines d)) line → MayStand (place_of d) line
may_stand_so d line reported h =
    let e = h.0 in
    let a = h.1.1.1.1 in
    let n = next_of e (draft_lines d) h.1.0 h.1.1.0 reported h.1.1.1.0 in
    let good = good_at (draft_lines d) n.here n.later (subst EachGood n.lines (edid_good e)) in
    let front : a.other_front ≡ front_text n.here = (same_front a.other_front (front_text n.here) 10 10 (sym a.other_ended ∙ sym n.text ∙ with_feed n.here)).0 in
    let count : word_count a.front ≡ field_count n.here.fields = a.words ∙ ap word_count front ∙ words_are n.here good in
    record {
      word = n.here.word;
      front = a.front;
      ended = a.ended;
      first = a.word ∙ ap first_word front ∙ first_is n.here;
      begins = stands d n.here (e, (n.later, n.lines));
      words = ap (has_words (form_of n.here.word)) count ∙ formed_words (form_of n.here.word) n.here.fields good.0;
    }

-- up to its word at fault there is a line like this one
like_it : (d : Draft) (line : List ℕ) (k : ℕ) → (m : MayStand (place_of d) line) → IsFirstUnfit m.word m.front k → HasLike k (map line_text (draft_lines d)) line
like_it d line k m u =
    let s = likes d m.word m.front k m.begins m.words m.first u in
    let e = s.follows.0 in
    let more = s.follows.1.0 in
    let lines = s.follows.1.1 in
    let good = good_at (draft_lines d) s.line more (subst EachGood lines (edid_good e)) in
    let same : AreAlike line (line_text s.line) = record {
      front = m.front;
      other_front = front_text s.line;
      ended = m.ended;
      other_ended = with_feed s.line;
      word = m.first ∙ ap word_text (sym s.word) ∙ sym (first_is s.line);
      words = sym s.words ∙ sym (words_are s.line good);
    } in
    (e, (line_text s.line, (map line_text more, (ap (map line_text) lines ∙ map-append line_text (draft_lines d) (s.line ∷ more), (same, s.same)))))

-- a line of an EDID with that word too is the same one
none_other : (k : ℕ) (w : Keyword) (front : List ℕ) (l : Line) → IsFirstUnfit w front k → Good l → Fit l → l.word ≡ w → word_count front ≡ word_count (front_text l) → first_words (k + 1) front ≡ first_words (k + 1) (front_text l)
    → (v : Bool) → nat_lt (k + 1) (word_count front) ≡ v → front ≡ front_text l
none_other k w front l u good fit is count shared true v =
    let less = ltb-true _ _ v in
    let also : nat_lt (k + 1) (word_count (front_text l)) ≡ true = ap (nat_lt (k + 1)) (sym count) ∙ v in
    let one : take (k + 1) (words_of front) ≡ take (k + 1) (words_of (front_text l)) =
    sym (ap (λ b. cond b (take (k + 1) (words_of front)) (front ∷ [])) v) ∙ shared ∙ ap (λ b. cond b (take (k + 1) (words_of (front_text l))) (front_text l ∷ [])) also in
    let here : k < k + 1 = omega arith in
    let same : get_or (words_of front) k [] ≡ get_or (words_of (front_text l)) k [] =
    sym (get_or-take (k + 1) (words_of front) k [] here) ∙ ap (λ ws. get_or ws k []) one ∙ get_or-take (k + 1) (words_of (front_text l)) k [] here in
    let size = words_are l good in
    let right = fits_in l good fit k u.least (omega (arith, less, count, size)) in
    absurd (u.stopped (less, subst (λ x. FitsAt x k (get_or (words_of front) k [])) is (subst (λ t. FitsAt l.word k t) (sym same) right)))
none_other k w front l u good fit is count shared false v =
    let also : nat_lt (k + 1) (word_count (front_text l)) ≡ false = ap (nat_lt (k + 1)) (sym count) ∙ v in
    let one : front ∷ [] ≡ front_text l ∷ [] =
    sym (ap (λ b. cond b (take (k + 1) (words_of front)) (front ∷ [])) v) ∙ shared ∙ ap (λ b. cond b (take (k + 1) (words_of (front_text l))) (front_text l ∷ [])) also in
    ap (λ xs. get_or xs 0 []) one

-- and there is none with that word too
none_like : (d : Draft) (line : List ℕ) (k : ℕ) → (m : MayStand (place_of d) line) → IsFirstUnfit m.word m.front k → AreReported (draft_lines d) → ((e : Edid) (later : List (List ℕ)) → Next e (draft_lines d) line later → ⊥)
    → HasLike (k + 1) (map line_text (draft_lines d)) line → ⊥
none_like d line k m u reported none h =
    let e = h.0 in
    let other = h.1.0 in
    let more = h.1.1.0 in
    let a = h.1.1.1.1.0 in
    let n = next_of e (draft_lines d) other more reported h.1.1.1.0 in
    let good = good_at (draft_lines d) n.here n.later (subst EachGood n.lines (edid_good e)) in
    let fit = fit_at (draft_lines d) n.here n.later (subst EachFit n.lines (edid_fit e)) in
    let mine : a.front ≡ m.front = (same_front a.front m.front 10 10 (sym a.ended ∙ m.ended)).0 in
    let theirs : a.other_front ≡ front_text n.here = (same_front a.other_front (front_text n.here) 10 10 (sym a.other_ended ∙ sym n.text ∙ with_feed n.here)).0 in
    let shared : first_words (k + 1) m.front ≡ first_words (k + 1) (front_text n.here) = ap (first_words (k + 1)) (sym mine) ∙ h.1.1.1.1.1 ∙ ap (first_words (k + 1)) theirs in
    let word : n.here.word ≡ m.word = one_word n.here.word m.word (sym (first_is n.here) ∙ ap first_word (sym theirs) ∙ sym a.word ∙ ap first_word mine ∙ m.first) in
    let count : word_count m.front ≡ word_count (front_text n.here) = ap word_count (sym mine) ∙ a.words ∙ ap word_count theirs in
    let same = none_other k m.word m.front n.here u good fit word count shared (nat_lt (k + 1) (word_count m.front)) refl in
    let text : line_text n.here ≡ line = with_feed n.here ∙ ap (λ t. t ++ 10 ∷ []) (sym same) ∙ sym m.ended in
    none e (map line_text n.later) (record { here = n.here; later = n.later; lines = n.lines; text = text; texts = refl; formed = n.formed })

-- a line at fault
pub refusal : (d : Draft) (all : List (List ℕ)) (line : List ℕ) (more : List (List ℕ)) (n : ℕ) (x : TextError) → AreReported (draft_lines d) → all ≡ map line_text (draft_lines d) ++ line ∷ more
    → n ≡ length (draft_lines d) + 1 → ((e : Edid) (later : List (List ℕ)) → Next e (draft_lines d) line later → ⊥) → IsFaultAt (place_of d) line n x → IsRefusal all x
refusal d all line more n (Syntax k) reported h count none f =
    let bad : IsFirstBad all k = record {
      before = map line_text (draft_lines d);
      after = line ∷ more;
      all = h;
      count = counted (draft_lines d) k (sym f.0 ∙ count);
      some = some_begins d;
      none = λ e later j. none e later (next_of e (draft_lines d) line later reported j);
    } in (
      bad,
      λ other later e a.
          let same : other ≡ line = ap (λ t. get_or t 0 []) (sym e) in
          f.1 (may_stand_so d line reported (subst (HasAlike (map line_text (draft_lines d))) same a)),
    )
refusal d all line more n (Field k word) reported h count none f =
    let bad : IsFirstBad all k = record {
      before = map line_text (draft_lines d);
      after = line ∷ more;
      all = h;
      count = counted (draft_lines d) k (sym f.0 ∙ count);
      some = some_begins d;
      none = λ e later j. none e later (next_of e (draft_lines d) line later reported j);
    } in
    (bad, (line, (more, (refl, record { least = f.1.unfit.least; right = like_it d line word f.1.stands f.1.unfit; wrong = none_like d line word f.1.stands f.1.unfit reported none }))))
refusal d all line more n Memory reported h count none f = absurd f

-- the end of a text that is too short
pub refusal_at_end : (d : Draft) (all : List (List ℕ)) (n : ℕ) → AreReported (draft_lines d) → all ≡ map line_text (draft_lines d) ++ []
    → n ≡ length (draft_lines d) + 1 → ((e : Edid) → edid_lines e ≡ draft_lines d → ⊥) → IsRefusal all (Syntax n)
refusal_at_end d all n reported h count none =
    let bad : IsFirstBad all n = record {
      before = map line_text (draft_lines d);
      after = [];
      all = h;
      count = counted (draft_lines d) n count;
      some = some_begins d;
      none = λ e k. none e (all_reported e (draft_lines d) reported k);
    } in
    (bad, λ line more e a. let len = ap length e in omega (arith, len))
