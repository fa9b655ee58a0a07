-- Where reading stops, the first bad line stands.
use Rattle.std.proofs.Common.{◌≡◌, ℕ, ◌+◌, ◌≤◌, List, [], ◌∷◌, ◌++◌, length, map, drop, get_or, flat_map, Option, Some, None, ap, subst, arith, sym, ◌∙◌, append_assoc, append-nil, length-append}
use Rattle.std.proofs.lemmas.List.{length-map, map-append}
use Rattle.edid_texts.specs.Cut.{lines_with_feeds}
use Rattle.edid_texts.specs.Drafts.{draft_lines, Follows}
use Rattle.edid_text_lines.specs.Formed.{Formed}
use Rattle.edid_texts.specs.Lines.{edid_lines, edid_text}
use Rattle.edid_texts.specs.Refusal.{IsFirstBad, SomeBegins, NoneFollows, line_texts}
use Rattle.edid_text_lines.specs.Text.{line_text}
use Rattle.edid_texts.specs.Draft.{Draft}
use Rattle.edid_core.specs.declared.edid.Edid.{Edid}
use Rattle.edid_text_lines.specs.declared.line.Line.{Line}
use Rattle.edid_texts.proofs.CutTexts.{joined, joined_lines, lines_again}
use Rattle.edid_texts.proofs.Gets.{few_parts}
use Rattle.edid_texts.proofs.Good.{EachGood, edid_good, good_at}
use Rattle.edid_texts.proofs.Live.{live}
use Rattle.edid_texts.proofs.OneLines.{one_lines}

-- what follows these lines in an EDID
pub record Rest (e : Edid) (ls : List Line) (more : List (List ℕ)) : Type 0 where
  pub rest : List Line
  pub lines : edid_lines e ≡ ls ++ rest
  pub texts : map line_text rest ≡ more

-- only these lines have these texts
abbrev pub AreReported : List Line → Type 0
AreReported ls = (e : Edid) (more : List (List ℕ)) → line_texts e ≡ map line_text ls ++ more → Rest e ls more

pub no_lines_reported : (ls : List Line) → ls ≡ [] → AreReported ls
no_lines_reported ls h e more k = record { rest = edid_lines e; lines = ap (λ t. t ++ edid_lines e) (sym h); texts = k ∙ ap (λ t. map line_text t ++ more) h }

-- the line that reads so, and what follows it
pub record Next (e : Edid) (ls : List Line) (line : List ℕ) (more : List (List ℕ)) : Type 0 where
  pub here : Line
  pub later : List Line
  pub lines : edid_lines e ≡ ls ++ here ∷ later
  pub text : line_text here ≡ line
  pub texts : map line_text later ≡ more
  pub formed : Formed here

pub next_of : (e : Edid) (ls : List Line) (line : List ℕ) (more : List (List ℕ)) → AreReported ls → line_texts e ≡ map line_text ls ++ line ∷ more → Next e ls line more
next_of e ls line more reported h = let r = reported e (line ∷ more) h in go r.rest r.lines r.texts
  where
    go : (rest : List Line) → edid_lines e ≡ ls ++ rest → map line_text rest ≡ line ∷ more → Next e ls line more
    go [] k t = let len = ap length t in absurd (omega (arith, len))
    go (l ∷ rest) k t = record {
      here = l;
      later = rest;
      lines = k;
      text = ap (λ x. get_or x 0 []) t;
      texts = ap (λ x. drop 1 x) t;
      formed = (good_at ls l rest (subst EachGood k (edid_good e))).0;
    }

some_same : (a b : Line) → Path (Option Line) (Some a) (Some b) → a ≡ b
some_same a b e = cc

-- one line more is told
pub one_more_reported : (ls new : List Line) (l : Line) (line : List ℕ) → AreReported ls → new ≡ ls ++ l ∷ [] → line_text l ≡ line
    → ((k : Line) → Formed k → line_text k ≡ line → Path (Option Line) (Some l) (Some k)) → AreReported new
one_more_reported ls new l line reported is text only e more h =
    let whole = h ∙ ap (λ t. map line_text t ++ more) is ∙ ap (λ t. t ++ more) (map-append line_text ls (l ∷ [])) ∙ append_assoc (map line_text ls) (line_text l ∷ []) more
    ∙ ap (λ t. map line_text ls ++ t ∷ more) text in
    let n = next_of e ls line more reported whole in
    let same = some_same l n.here (only n.here n.formed n.text) in
    record {
      rest = n.later;
      lines = n.lines ∙ ap (λ k. ls ++ k ∷ n.later) (sym same) ∙ sym (append_assoc ls (l ∷ []) n.later) ∙ ap (λ t. t ++ n.later) (sym is);
      texts = n.texts;
    }

pub lines_so : (ls new : List Line) (l : Line) (line : List ℕ) (all more : List (List ℕ)) → all ≡ map line_text ls ++ line ∷ more → new ≡ ls ++ l ∷ [] → line_text l ≡ line
    → all ≡ map line_text new ++ more
lines_so ls new l line all more h is text =
    h ∙ ap (λ t. map line_text ls ++ t ∷ more) (sym text) ∙ sym (append_assoc (map line_text ls) (line_text l ∷ []) more)
    ∙ ap (λ t. t ++ more) (sym (map-append line_text ls (l ∷ []))) ∙ ap (λ t. map line_text t ++ more) (sym is)

pub count_so : (ls new : List Line) (l : Line) (n : ℕ) → n ≡ length ls + 1 → new ≡ ls ++ l ∷ [] → n + 1 ≡ length new + 1
count_so ls new l n h is = let len = length-append ls (l ∷ []) in let same = ap length is in omega (arith, len, same, h)

pub few_reported : (d : Draft) → length (draft_lines d) ≤ 398
few_reported d =
    let l = live d in
    let same = ap length l.1.1 in
    omega (arith, same, few_parts l.0.base l.0.extensions.items l.0.few, length-append (draft_lines d) l.1.0)

pub some_begins : (d : Draft) → SomeBegins (map line_text (draft_lines d))
some_begins d = let l = live d in (l.0, (map line_text l.1.0, ap (map line_text) l.1.1 ∙ map-append line_text (draft_lines d) l.1.0))

pub counted : (ls : List Line) (n : ℕ) → n ≡ length ls + 1 → n ≡ length (map line_text ls) + 1
counted ls n h = let len = length-map ls line_text in omega (arith, len, h)

-- where no EDID goes on so, a line is bad
pub bad_by : (d : Draft) (all : List (List ℕ)) (line : List ℕ) (more : List (List ℕ)) (n : ℕ) → AreReported (draft_lines d) → all ≡ map line_text (draft_lines d) ++ line ∷ more
    → n ≡ length (draft_lines d) + 1 → ((e : Edid) (later : List (List ℕ)) → Next e (draft_lines d) line later → ⊥) → IsFirstBad all n
bad_by d all line more n reported h count none = record {
  before = map line_text (draft_lines d);
  after = line ∷ more;
  all = h;
  count = counted (draft_lines d) n count;
  some = some_begins d;
  none = λ e later k. none e later (next_of e (draft_lines d) line later reported k);
}

-- no line reads so
pub unread : (ls : List Line) (line : List ℕ) → ((l : Line) → Formed l → line_text l ≡ line → Path (Option Line) None (Some l))
    → (e : Edid) (later : List (List ℕ)) → Next e ls line later → ⊥
unread ls line none e later x = clash x.here (none x.here x.formed x.text)
  where
    clash : (l : Line) → Path (Option Line) None (Some l) → ⊥
    clash l h = cc

-- the line that is read may not stand here
pub misplaced : (ls : List Line) (line : List ℕ) (l : Line) → ((k : Line) → Formed k → line_text k ≡ line → Path (Option Line) (Some l) (Some k)) → (Follows ls l → ⊥)
    → (e : Edid) (later : List (List ℕ)) → Next e ls line later → ⊥
misplaced ls line l only not e later x =
    not (e, (x.later, x.lines ∙ ap (λ k. ls ++ k ∷ x.later) (sym (some_same l x.here (only x.here x.formed x.text)))))

pub all_reported : (e : Edid) (ls : List Line) → AreReported ls → line_texts e ≡ map line_text ls → edid_lines e ≡ ls
all_reported e ls reported h = let r = reported e [] (h ∙ sym (append-nil (map line_text ls))) in go r.rest r.lines r.texts
  where
    go : (rest : List Line) → edid_lines e ≡ ls ++ rest → map line_text rest ≡ [] → edid_lines e ≡ ls
    go [] k t = k ∙ append-nil ls
    go (l ∷ rest) k t = let len = ap length t in absurd (omega (arith, len))

-- the text ends too early
pub unfinished : (d : Draft) (all : List (List ℕ)) (n : ℕ) → AreReported (draft_lines d) → all ≡ map line_text (draft_lines d) ++ []
    → n ≡ length (draft_lines d) + 1 → ((e : Edid) → edid_lines e ≡ draft_lines d → ⊥) → IsFirstBad all n
unfinished d all n reported h count none = record {
  before = map line_text (draft_lines d);
  after = [];
  all = h;
  count = counted (draft_lines d) n count;
  some = some_begins d;
  none = λ e k. none e (all_reported e (draft_lines d) reported k);
}

-- an accepted text has no bad line
pub no_bad : (all : List (List ℕ)) (n : ℕ) → IsFirstBad all n → (e : Edid) → line_texts e ≡ all → ⊥
no_bad all n b e h = go b.after b.all b.none
  where
    go : (after : List (List ℕ)) → all ≡ b.before ++ after → NoneFollows b.before after → ⊥
    go [] k none = none e (h ∙ k ∙ append-nil b.before)
    go (x ∷ xs) k none = none e xs (h ∙ k)

pub cut_again : (e : Edid) (text : List ℕ) → text ≡ edid_text e → line_texts e ≡ lines_with_feeds text
cut_again e text h = sym (ap lines_with_feeds h ∙ lines_again (edid_lines e) (edid_good e))

-- a text whose lines were all told
pub found_text : (a : Edid) (ls : List Line) (text : List ℕ) → edid_lines a ≡ ls → lines_with_feeds text ≡ map line_text ls ++ [] → edid_text a ≡ text
found_text a ls text h k =
    ap (flat_map line_text) h ∙ sym (joined_lines ls) ∙ ap (flat_map (λ x. x)) (sym (k ∙ append-nil (map line_text ls))) ∙ joined text

pub only_one : (a : Edid) (ls : List Line) (text : List ℕ) → AreReported ls → edid_lines a ≡ ls → lines_with_feeds text ≡ map line_text ls ++ [] → (e : Edid) → text ≡ edid_text e → a ≡ e
only_one a ls text reported h k e is =
    one_lines a e (h ∙ sym (all_reported e ls reported (cut_again e text is ∙ k ∙ append-nil (map line_text ls))))
