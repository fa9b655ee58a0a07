-- The line of a round that is told is of one round.
use Rattle.std.proofs.Common.{◌≡◌, ℕ, zero, suc, ◌+◌, ◌^◌, ◌<◌, ◌≤◌, ◌==◌, Bool, false, if◌then◌else◌, codes, slice_get, List, [], ◌∷◌, ◌++◌, Some, refl, sym, ap, subst, ◌∙◌, arith}
use Rattle.std.specs.Char.{digit_value}
use Rattle.std.specs.Fmt.{decimal}
use Rattle.std.specs.List.{All, flat_map}
use Rattle.std.specs.Str.{bytes_eq}
use Rattle.std.proofs.lemmas.Bool.Decides.{nat_tests}
use Rattle.std.proofs.lemmas.List.Elements.{All-append, All-cons, All-nil}
use Rattle.std.proofs.lemmas.List.Splits.{join_with_byte-slice_split, slice_split_at}
use Rattle.line_wave.specs.Bounds.{latest_event}
use Rattle.line_wave.specs.Line.{line_of}
use Rattle.line_frames.specs.declared.Ending.{Ending}
use Rattle.line_frames.specs.declared.Ending.TheVariants.{Complete, Short, Silent, BadStart, Long, Open}
use Rattle.line_rounds.specs.declared.Outcome.{Outcome}
use Rattle.line_rounds.proofs.Bounds.{rounds_are_short}
use Rattle.text_core.specs.Number.{number_of}
use Rattle.text_core.specs.Words.{text_of, words_of}
use Rattle.capture_core.specs.Texts.{Lacks}
use Rattle.capture_core.proofs.Numbers.{number_again}
use Rattle.capture_core.proofs.Texts.{number_lacks}
use Rattle.device_core.specs.State.{State}
use Rattle.message_text.specs.ReadingText.{is_complete, reported_text, verdict_text}
use Rattle.room_net.specs.State.{first_net}
use Rattle.room_script.proofs.Sound.{scripts_are_sound}
use Rattle.room_run.specs.declared.run.Turn.{Turn}
use Rattle.room_run.specs.declared.run.Turn.TheVariants.{Stop, Apply, Round}
use Rattle.room_run.specs.Happening.{Goes, Happening, HappensBy}
use Rattle.room_run.specs.Run.{Config, first_time, start, turn_at}
use Rattle.room_run.proofs.Advance.{round_begins}
use Rattle.expect_judge.specs.Told.{RoundLine}
use Rattle.expect_told.specs.Said.{ending_said}
use Rattle.expect_told.specs.Senders.{senders_text}
use Rattle.record_core.specs.declared.cell.Form.TheVariants.{Text}
use Rattle.expect_told.specs.Turns.{IsRunOf, round_told, rounds_of}
use Rattle.judge_laws.specs.Told.{LinesReportRounds, complete_word, line_again}
use Rattle.judge_laws.proofs.TracesTold.{ending_again, ending_word, round_same, said_parts}

-- ---- words

first_word : (word rest : List ℕ) → Lacks (λ b. b == 32) word → words_of (word ++ 32 ∷ rest) ≡ word ∷ words_of rest
first_word word rest lacks = slice_split_at (λ b. b == 32) word 32 rest lacks refl

digit_solid : (c : ℕ) → digit_value c < 10 → (c == 32) ≡ false
digit_solid c h = grind (arith, nat_tests)

number_solid : (n : ℕ) → n < 2 ^ 64 → Lacks (λ b. b == 32) (decimal n)
number_solid n small = number_lacks (λ b. b == 32) n small digit_solid

text_again : (text : List ℕ) → text_of (words_of text) ≡ text
text_again text = join_with_byte-slice_split 32 text

record IsSplit (word other rest end : List ℕ) : Type 0 where
  same : word ≡ other
  left : rest ≡ end

first_or : List ℕ → List (List ℕ) → List ℕ
first_or word [] = word
first_or word (w ∷ ws) = w

others_of : List (List ℕ) → List (List ℕ)
others_of [] = []
others_of (w ∷ ws) = ws

-- texts that are one have one first word, and one rest
split : (word other rest end : List ℕ) → words_of (word ++ 32 ∷ rest) ≡ word ∷ words_of rest → words_of (other ++ 32 ∷ end) ≡ other ∷ words_of end → word ++ 32 ∷ rest ≡ other ++ 32 ∷ end
    → IsSplit word other rest end
unfolding first_or others_of
split word other rest end w o h =
    let same : word ∷ words_of rest ≡ other ∷ words_of end = sym w ∙ ap words_of h ∙ o in
    record { same = ap (first_or word) same; left = sym (text_again rest) ∙ ap (λ (ws : List (List ℕ)). text_of (others_of ws)) same ∙ text_again end }

value : (m n : ℕ) → Some m ≡ Some n → m ≡ n
value m n h = cc

one_number : (m n : ℕ) → m < 2 ^ 64 → n < 2 ^ 64 → decimal m ≡ decimal n → m ≡ n
one_number m n small low h = value m n (sym (number_again m small) ∙ ap number_of h ∙ number_again n low)

-- ---- endings

record IsEnding (e : Ending) (word : List ℕ) : Type 0 where
  words : (text : List ℕ) → words_of (word ++ 32 ∷ text) ≡ word ∷ words_of text
  complete : is_complete e ≡ bytes_eq word (codes "complete")
  said : (text : List ℕ) → ending_said e ++ text ≡ (if bytes_eq word (codes "complete") then text else word ++ 32 ∷ text)

is_ending : (e : Ending) → IsEnding e (ending_word e)
is_ending Complete = record { words = λ text. refl; complete = refl; said = λ text. refl }
is_ending Short = record { words = λ text. refl; complete = refl; said = λ text. refl }
is_ending Silent = record { words = λ text. refl; complete = refl; said = λ text. refl }
is_ending BadStart = record { words = λ text. refl; complete = refl; said = λ text. refl }
is_ending Long = record { words = λ text. refl; complete = refl; said = λ text. refl }
is_ending Open = record { words = λ text. refl; complete = refl; said = λ text. refl }

-- ---- one round

-- a round that a line of a trace can be of
record IsLined (r : RoundLine) : Type 0 where
  ending : Ending
  rest : List ℕ
  complete : r.is_complete ≡ is_complete ending
  said : r.reported ≡ ending_said ending ++ rest
  begun : r.begin < 2 ^ 64
  over : r.at < 2 ^ 64
  shown : r.shown ≡ codes "# " ++ line_again r

-- its line without its begin and its end
abbrev tail_of : RoundLine → List ℕ
tail_of r = complete_word r.is_complete ++ (r.reported ++ codes "\n")

tail_is : (r : RoundLine) (l : IsLined r) → tail_of r ≡ ending_word l.ending ++ 32 ∷ (l.rest ++ codes "\n")
tail_is r l =
    ap (λ (c : Bool). complete_word c ++ (r.reported ++ codes "\n")) l.complete ∙ ap (λ (said : List ℕ). complete_word (is_complete l.ending) ++ (said ++ codes "\n")) l.said ∙ ending_again l.ending l.rest

front : List ℕ → List ℕ
front [] = []
front (x ∷ []) = []
front (x ∷ y ∷ ys) = x ∷ front (y ∷ ys)

front_is : (xs : List ℕ) → front (xs ++ codes "\n") ≡ xs
unfolding front
front_is [] = refl
front_is (x ∷ []) = refl
front_is (x ∷ y ∷ ys) = ap (λ (l : List ℕ). x ∷ l) (front_is (y ∷ ys))

same_tail : (a b : RoundLine) → IsLined a → IsLined b → tail_of a ≡ tail_of b → (a.is_complete ≡ b.is_complete) × (a.reported ≡ b.reported)
same_tail a b l k h =
    let e = is_ending l.ending in
    let f = is_ending k.ending in
    let one = split (ending_word l.ending) (ending_word k.ending) (l.rest ++ codes "\n") (k.rest ++ codes "\n") (e.words (l.rest ++ codes "\n")) (f.words (k.rest ++ codes "\n")) (sym (tail_is a l) ∙ h ∙ tail_is b k) in
    let rest : l.rest ≡ k.rest = sym (front_is l.rest) ∙ ap front one.left ∙ front_is k.rest in (
      l.complete ∙ e.complete ∙ ap (λ (w : List ℕ). bytes_eq w (codes "complete")) one.same ∙ sym (k.complete ∙ f.complete),
      l.said ∙ e.said l.rest ∙ ap (λ (w : List ℕ). if bytes_eq w (codes "complete") then l.rest else w ++ 32 ∷ l.rest) one.same
          ∙ ap (λ (t : List ℕ). if bytes_eq (ending_word k.ending) (codes "complete") then t else ending_word k.ending ++ 32 ∷ t) rest ∙ sym (k.said ∙ f.said k.rest),
    )

one_round : (a b : RoundLine) → IsLined a → IsLined b → line_again a ≡ line_again b → a ≡ b
one_round a b l k h =
    let first = split (decimal a.begin) (decimal b.begin) (decimal a.at ++ 32 ∷ tail_of a) (decimal b.at ++ 32 ∷ tail_of b)
    (first_word (decimal a.begin) (decimal a.at ++ 32 ∷ tail_of a) (number_solid a.begin l.begun)) (first_word (decimal b.begin) (decimal b.at ++ 32 ∷ tail_of b) (number_solid b.begin k.begun)) h in
    let second = split (decimal a.at) (decimal b.at) (tail_of a) (tail_of b)
    (first_word (decimal a.at) (tail_of a) (number_solid a.at l.over)) (first_word (decimal b.at) (tail_of b) (number_solid b.at k.over)) first.left in
    let begin : a.begin ≡ b.begin = one_number a.begin b.begin l.begun k.begun first.same in
    let at : a.at ≡ b.at = one_number a.at b.at l.over k.over second.same in
    let tail = same_tail a b l k second.left in
    λ i. record { begin = begin i; at = at i; is_complete = tail.0 i; reported = tail.1 i; shown = (l.shown ∙ ap (λ (t : List ℕ). codes "# " ++ t) h ∙ sym k.shown) i }

-- ---- the rounds of a run

told_lined : (devices : List State) (o : Outcome) → o.reading.begin < 2 ^ 64 → o.reading.at < 2 ^ 64 → IsLined (round_told Text false devices o)
told_lined devices o begun over = record {
  ending = o.reading.ending;
  rest = reported_text o.reading ++ (verdict_text o.reading ++ senders_text devices o);
  complete = refl;
  said = said_parts devices o;
  begun = begun;
  over = over;
  shown = ap (λ (t : List ℕ). codes "# " ++ t) (sym (round_same devices o));
}

turn_lined : (end : ℕ) (turn : Turn) (c d : Config) (x : Happening) → turn_at end c ≡ turn → HappensBy turn c x d → end ≤ latest_event → All IsLined (rounds_of Text false x)
turn_lined end Stop c d x same h limit = absurd h
turn_lined end (Apply at) c d x same h limit = subst (λ (y : Happening). All IsLined (rounds_of Text false y)) (sym h.is) (All-nil IsLined)
turn_lined end (Round begin) c d x same h limit =
    let o = h.outcome in
    let soon : begin < end = (round_begins end c.net (first_time c.events) begin same).1 in
    let starts : o.reading.begin ≡ begin = h.next.round.starts in
    let at : o.reading.at ≤ begin + 444861 = omega (arith, h.next.round.ends, rounds_are_short.ends (line_of o.wave) begin) in
    subst (λ (y : Happening). All IsLined (rounds_of Text false y)) (sym h.is)
    (All-cons IsLined (round_told Text false c.net.devices o) [] (told_lined c.net.devices o (omega (arith, starts, soon, limit)) (omega (arith, at, soon, limit))) (All-nil IsLined))

turns_lined : (end : ℕ) (xs : List Happening) (c d : Config) → Goes end c xs d → end ≤ latest_event → All IsLined (flat_map (rounds_of Text false) xs)
turns_lined end [] c d h limit = All-nil IsLined
turns_lined end (x ∷ xs) c d (mid, step, rest) limit =
    All-append IsLined (rounds_of Text false x) (flat_map (rounds_of Text false) xs) (turn_lined end (turn_at end c) c mid x refl step limit) (turns_lined end xs mid d rest limit)

there : {X : Type 0} (P : X → Type 0) (xs : List X) (i : ℕ) (x : X) → All P xs → slice_get xs i ≡ Some x → P x
there P [] i x h e = cc
there {X} P (y ∷ ys) zero x h e = subst P (same y x e) (h 0 y (omega arith))
  where
    same : (a b : X) → Some a ≡ Some b → a ≡ b
    same a b k = cc
there P (y ∷ ys) (suc i) x h e = there P ys i x (λ k z l. h (suc k) z (omega arith)) e

all_lined : (topology plain : List ℕ) (xs : List Happening) (c : Config) → IsRunOf topology plain xs c → All IsLined (flat_map (rounds_of Text false) xs)
all_lined topology plain xs c p =
    turns_lined p.course.end xs (start (first_net p.plan.tree p.course.pulses) p.course.events) c p.goes (scripts_are_sound p.plan.tree plain p.course p.accepted.course_is).limit

pub lines_report_rounds : LinesReportRounds
lines_report_rounds topology plain other course xs ys c d p q i j a b first second same =
    one_round a b (there IsLined (flat_map (rounds_of Text false) xs) i a (all_lined topology plain xs c p) first) (there IsLined (flat_map (rounds_of Text false) ys) j b (all_lined other course ys d q) second) same
