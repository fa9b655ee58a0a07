-- Lines that are answered, one after another.
use Rattle.std.proofs.Common.{◌≡◌, ℕ, ◌+◌, ◌<◌, ◌≤◌, Bool, true, false, List, [], ◌∷◌, ◌++◌, length, length-append, Option, Some, None, is_some, Result, Ok, Err, IsErr, IfErr, refl, sym, ap, subst, ◌∙◌, append_assoc, append-nil, arith}
use Rattle.std.specs.Io.KnownBytes.{Appends, Keeps}
use Rattle.std.proofs.lemmas.Bool.{false≢true}
use Rattle.std.proofs.lemmas.List.Elements.{All-append, All-cons, All-nil}
use Rattle.std.proofs.KnownBytes.{Appends-trans}
use Rattle.text_core.specs.declared.sink.WriteFault.{WriteFault}
use Rattle.text_core.specs.Cut.{WrittenText}
use Rattle.live_incoming.specs.Incoming.{IsWhole, Leads}
use Rattle.live_session.specs.declared.live.Answered.{Answered}
use Rattle.live_session.specs.declared.live.Step.{Step}
use Rattle.live_session.specs.declared.live.LiveError.{LiveError}
use Rattle.live_session.specs.declared.live.LiveError.TheVariants as live
use Rattle.live_session.specs.Command.{command_of}
use Rattle.live_session.specs.Session.{Session, IsStep, IsDue}
use Rattle.live_session.specs.Taken.{IsLineTaken, IsOfMemory}
use Rattle.live_session.specs.Whole.{IsLine, AreLines, kept_line, reported_of}
use Rattle.live_dialogue.specs.declared.error.SessionError.{SessionError}
use Rattle.live_dialogue.specs.declared.error.SessionError.TheVariants.{Read, TooLong, NoScriptLine, Topology, Edid, Script, Write, Memory}
use Rattle.live_dialogue.specs.Dialogue.{HasAnswered, HasFilled, HasGone, HaveAnswers, HasEnded, IsAnswering, IsFirstPut, IsLineAnswered, IsScriptLine, first_reported, is_write, most_lines}
use Rattle.live_dialogue.proofs.Coming.{come_more, come_none}
use Rattle.live_dialogue.proofs.Putting.{all_short, appends_keep, cut_short}

-- ---- a line

one_line : (line kept reported text : List ℕ) (s t : Session) → IsLine s line kept reported text t → AreLines (line ∷ []) s (kept ∷ []) reported text t
one_line line kept reported text s t is = (t, kept, [], reported, text, [], [], is, (refl, refl, refl, refl), refl, sym (append-nil reported), sym (append-nil text))

pub lines_then : (lines kept : List (List ℕ)) (s t u : Session) (reported text line own more rest : List ℕ) → AreLines lines s kept reported text t → IsLine t line own more rest u
    → AreLines (lines ++ line ∷ []) s (kept ++ own ∷ []) (reported ++ more) (text ++ rest) u
lines_then [] kept s t u reported text line own more rest (nothing, none, empty, same) is =
    subst (λ (kept : List (List ℕ)). AreLines (line ∷ []) s (kept ++ own ∷ []) (reported ++ more) (text ++ rest) u) (sym nothing)
    (subst (λ (reported : List ℕ). AreLines (line ∷ []) s (own ∷ []) (reported ++ more) (text ++ rest) u) (sym none)
    (subst (λ (text : List ℕ). AreLines (line ∷ []) s (own ∷ []) more (text ++ rest) u) (sym empty)
    (one_line line own more rest s u (subst (λ (t : Session). IsLine t line own more rest u) same is))))
lines_then (first ∷ lines) kept s t u reported text line own more rest (mid, here, there, reported1, text1, reported2, text2, is1, after, kept_is, reported_is, text_is) is = (
  mid,
  here,
  there ++ own ∷ [],
  reported1,
  text1,
  reported2 ++ more,
  text2 ++ rest,
  is1,
  lines_then lines there mid t u reported2 text2 line own more rest after is,
  ap (λ l. l ++ own ∷ []) kept_is,
  ap (λ l. l ++ more) reported_is ∙ append_assoc reported1 reported2 more,
  ap (λ l. l ++ rest) text_is ∙ append_assoc text1 text2 rest,
)

-- ---- what a call of a line gives

line_answered : (s asked t : Session) (line text : List ℕ) (step : Step) (old mid new : Option (List ℕ)) → s.notes.end ≡ None → IsStep s line step asked → IsDue step asked text t → Appends old mid text → Keeps mid new
    → HasAnswered s line old new t
line_answered s asked t line text step old mid new going asks due put keep = record {
  kept = kept_line (command_of s.tree line) step line;
  reported = reported_of step asked text t due;
  text = text;
  is = record { goes_on = going; step = step; asked = asked; asks = asks; due = due; kept_is = refl; reported_is = refl };
  put = appends_keep old mid new text put keep;
}

-- it was put whole, and is handed on or not
pub whole_answered : (s t : Session) (line : List ℕ) (answered : Answered) (count : ℕ) (was is : Bool) (old mid new : Option (List ℕ)) (result : Result Unit SessionError) → s.notes.end ≡ None → IsLineTaken s line t old mid was is (Ok answered)
    → Keeps mid new → IfErr result (λ error. error ≡ Write count) → IsLineAnswered s line t old new result
whole_answered s t line answered count was is old mid new (Ok done) going (asked, asks, (text, due, len, put, flag)) keep error = line_answered s asked t line text answered.step old mid new going asks due put keep
whole_answered s t line answered count was is old mid new (Err fault) going (asked, asks, (text, due, len, put, flag)) keep error =
    subst (λ (error : SessionError). IsLineAnswered s line t old new (Err error)) (sym error) (
      answered.step,
      asked,
      asks,
      text,
      t,
      due,
      all_short text old new (appends_keep old mid new text put keep),
    )

-- it was cut short
pub cut_answered : (s t : Session) (line : List ℕ) (at count : ℕ) (was is : Bool) (old mid new : Option (List ℕ)) (result : Result Unit SessionError) → IsLineTaken s line t old mid was is (Err (live.Write at)) → Keeps mid new
    → IsErr result → IfErr result (λ error. error ≡ Write count) → IsLineAnswered s line t old new result
cut_answered s t line at count was is old mid new (Ok done) cut keep failed error = absurd (false≢true failed)
cut_answered s t line at count was is old mid new (Err fault) (step, asked, asks, ((text, after, due, cut), flag, stands)) keep failed error =
    subst (λ (error : SessionError). IsLineAnswered s line t old new (Err error)) (sym error) (step, asked, asks, text, after, due, cut_short text old mid new (record { count = at }) cut keep)

pub memory_answered : (s t : Session) (line : List ℕ) (was is : Bool) (old new : Option (List ℕ)) → IsLineTaken s line t old new was is (Err live.Memory) → IsLineAnswered s line t old new (Err Memory)
memory_answered s t line was is old new taken = taken.1

pub whole_from : (s t : Session) (line : List ℕ) (answered : Answered) (count : ℕ) (was is : Bool) (old mid new : Option (List ℕ)) (taken : Result Answered LiveError) (result : Result Unit SessionError) → taken ≡ Ok answered → s.notes.end ≡ None
    → IsLineTaken s line t old mid was is taken → Keeps mid new → IfErr result (λ error. error ≡ Write count) → IsLineAnswered s line t old new result
whole_from s t line answered count was is old mid new taken result e going w keep error =
    whole_answered s t line answered count was is old mid new result going (subst (λ (taken : Result Answered LiveError). IsLineTaken s line t old mid was is taken) e w) keep error

pub cut_from : (s t : Session) (line : List ℕ) (at count : ℕ) (was is : Bool) (old mid new : Option (List ℕ)) (taken : Result Answered LiveError) (inner : LiveError) (result : Result Unit SessionError) → taken ≡ Err inner → inner ≡ live.Write at
    → IsLineTaken s line t old mid was is taken → Keeps mid new → (is ≡ true → IsErr result) → IfErr result (λ error. error ≡ Write count) → IsLineAnswered s line t old new result
cut_from s t line at count was is old mid new taken inner result e f w keep failed error =
    let cut : IsLineTaken s line t old mid was is (Err (live.Write at)) =
    subst (λ (inner : LiveError). IsLineTaken s line t old mid was is (Err inner)) f (subst (λ (taken : Result Answered LiveError). IsLineTaken s line t old mid was is taken) e w) in
    cut_answered s t line at count was is old mid new result cut keep (failed cut.3.1) error

pub memory_from : (s t : Session) (line : List ℕ) (was is : Bool) (old new : Option (List ℕ)) (taken : Result Answered LiveError) (inner : LiveError) → taken ≡ Err inner → inner ≡ live.Memory → IsLineTaken s line t old new was is taken
    → IsLineAnswered s line t old new (Err Memory)
memory_from s t line was is old new taken inner e f w =
    memory_answered s t line was is old new
    (subst (λ (inner : LiveError). IsLineTaken s line t old new was is (Err inner)) f (subst (λ (taken : Result Answered LiveError). IsLineTaken s line t old new was is taken) e w))

pub of_memory : (taken : Result Answered LiveError) (inner : LiveError) → taken ≡ Err inner → inner ≡ live.Memory → IsOfMemory taken
of_memory taken inner e f = subst IsOfMemory (sym e) (subst (λ (inner : LiveError). IsOfMemory (Err inner)) (sym f) tt)

-- ---- what stands first

pub first_put : (s : Session) (old mid new : Option (List ℕ)) (was is : Bool) (reported count : ℕ) (result : Result Unit SessionError) → WrittenText old mid was is (first_reported s) (Ok reported) → Keeps mid new
    → IfErr result (λ error. error ≡ Write count) → IsFirstPut s old new result
first_put s old mid new was is reported count (Ok done) w keep error = appends_keep old mid new (first_reported s) w.1 keep
first_put s old mid new was is reported count (Err fault) w keep error =
    subst (λ (error : SessionError). IsFirstPut s old new (Err error)) (sym error) (all_short (first_reported s) old new (appends_keep old mid new (first_reported s) w.1 keep))

pub first_cut : (s : Session) (old mid new : Option (List ℕ)) (was is : Bool) (inner : WriteFault) (count : ℕ) (result : Result Unit SessionError) → WrittenText old mid was is (first_reported s) (Err inner) → Keeps mid new → IsErr result
    → IfErr result (λ error. error ≡ Write count) → IsFirstPut s old new result
first_cut s old mid new was is inner count (Ok done) w keep failed error = absurd (false≢true failed)
first_cut s old mid new was is inner count (Err fault) w keep failed error =
    subst (λ (error : SessionError). IsFirstPut s old new (Err error)) (sym error) (cut_short (first_reported s) old mid new inner w.0 keep)

pub first_is : (s : Session) (old mid new : Option (List ℕ)) (was is : Bool) (written : Result ℕ WriteFault) (count : ℕ) (result : Result Unit SessionError) → WrittenText old mid was is (first_reported s) written → Keeps mid new
    → (is ≡ true → IsErr result) → IfErr result (λ error. error ≡ Write count) → IsFirstPut s old new result
first_is s old mid new was is (Ok reported) count result w keep failed error = first_put s old mid new was is reported count result w keep error
first_is s old mid new was is (Err inner) count result w keep failed error = first_cut s old mid new was is inner count result w keep (failed w.1) error

-- ---- all lines so far

pub record SoFar (before after : Option (List ℕ)) (s : Session) (old new : Option (List ℕ)) (t : Session) (count : ℕ) : Type 0 where
  pub answers : HaveAnswers before after s old new t
  pub counted : length answers.lines ≡ count

appends_none : (known : Option (List ℕ)) → Appends known known []
appends_none None = tt
appends_none (Some xs) = sym (append-nil xs)

pub so_far_start : (known put : Option (List ℕ)) (s : Session) → SoFar known known s put put s 0
so_far_start known put s = record {
  answers = record { lines = []; kept = []; reported = []; text = []; come = come_none known; whole = All-nil IsWhole; few = omega arith; are = (refl, refl, refl, refl); put = appends_none put };
  counted = refl;
}

pub so_far_more : (before mid after : Option (List ℕ)) (s t u : Session) (old put new : Option (List ℕ)) (line : List ℕ) (count : ℕ) → SoFar before mid s old put t count → count < most_lines
    → IsWhole line × Leads mid after line → HasAnswered t line put new u → SoFar before after s old new u (count + 1)
so_far_more before mid after s t u old put new line count r few l h =
    let a = r.answers in
    let n : length (a.lines ++ line ∷ []) ≡ count + 1 = length-append a.lines (line ∷ []) ∙ ap (λ k. k + 1) r.counted in
    record {
      answers = record {
        lines = a.lines ++ line ∷ [];
        kept = a.kept ++ h.kept ∷ [];
        reported = a.reported ++ h.reported;
        text = a.text ++ h.text;
        come = come_more before mid after a.lines line a.come l.1;
        whole = All-append IsWhole a.lines (line ∷ []) a.whole (All-cons IsWhole line [] l.0 (All-nil IsWhole));
        few = omega (arith, n, few);
        are = lines_then a.lines a.kept s t u a.reported a.text line h.kept h.reported h.text a.are h.is;
        put = Appends-trans old put new a.text h.text a.put h.put;
      };
      counted = n;
    }

-- ---- where the lines end

end_is : (end : Option ℕ) → is_some end ≡ true → (time : ℕ) × (end ≡ Some time)
end_is None e = absurd (false≢true e)
end_is (Some time) e = (time, refl)

pub no_end : (end : Option ℕ) (over : Bool) → over ≡ is_some end → over ≡ false → end ≡ None
no_end None over e f = refl
no_end (Some time) over e f = absurd (false≢true (sym f ∙ e))

pub over : (before after : Option (List ℕ)) (s t : Session) (old new : Option (List ℕ)) (count : ℕ) (is : Bool) → SoFar before after s old new t count → is ≡ is_some t.notes.end → is ≡ true
    → HasEnded before after s old new
over before after s t old new count is r e f = let end = end_is t.notes.end (sym e ∙ f) in record { last = t; end = end.0; answers = r.answers; ended = end.1 }

pub gone : (before after : Option (List ℕ)) (s t : Session) (old new : Option (List ℕ)) (count : ℕ) → SoFar before after s old new t count → HasGone before s old new
gone before after s t old new count r = record { last = t; mid = after; answers = r.answers }

-- there may be no more
pub filled : (before after : Option (List ℕ)) (s t : Session) (old new : Option (List ℕ)) (count : ℕ) → SoFar before after s old new t count → t.notes.end ≡ None → most_lines ≤ count → HasFilled before after s old new
filled before after s t old new count r going all = record { last = t; answers = r.answers; goes_on = going; full = (let few = r.answers.few in let n = r.counted in omega (arith, few, n, all)) }

-- no further line could be read
pub line_stops : (before mid after : Option (List ℕ)) (s t : Session) (old new : Option (List ℕ)) (line : List ℕ) (count : ℕ) (error : SessionError) → SoFar before mid s old new t count → t.notes.end ≡ None → count < most_lines
    → IsScriptLine mid after line (count + 1) (Err error) → IsAnswering before after s old new (Err error)
line_stops before mid after s t old new line count (Script at cause) r going room l = record {
  last = t;
  mid = mid;
  answers = r.answers;
  goes_on = going;
  room = (let n = r.counted in omega (arith, n, room));
  number = l.0 ∙ ap (λ k. k + 1) (sym r.counted);
  stops = l.1;
}
line_stops before mid after s t old new line count Read r going room l = gone before mid s t old new count r
line_stops before mid after s t old new line count TooLong r going room l = absurd l
line_stops before mid after s t old new line count NoScriptLine r going room l = absurd l
line_stops before mid after s t old new line count (Topology at cause word) r going room l = absurd l
line_stops before mid after s t old new line count (Edid cause) r going room l = absurd l
line_stops before mid after s t old new line count (Write at) r going room l = absurd l
line_stops before mid after s t old new line count Memory r going room l = absurd l

pub line_quiet : (mid after : Option (List ℕ)) (line : List ℕ) (number : ℕ) (error : SessionError) → IsScriptLine mid after line number (Err error) → (let r : Result Unit SessionError = Err error in is_write r) ≡ false
line_quiet mid after line number (Script at cause) l = refl
line_quiet mid after line number Read l = refl
line_quiet mid after line number TooLong l = absurd l
line_quiet mid after line number NoScriptLine l = absurd l
line_quiet mid after line number (Topology at cause word) l = absurd l
line_quiet mid after line number (Edid cause) l = absurd l
line_quiet mid after line number (Write at) l = absurd l
line_quiet mid after line number Memory l = absurd l

-- or it was not answered whole
pub answer_stops : (before mid after : Option (List ℕ)) (s t u : Session) (old put new : Option (List ℕ)) (line : List ℕ) (count : ℕ) (error : SessionError) → SoFar before mid s old put t count → count < most_lines
    → IsWhole line × Leads mid after line → IsLineAnswered t line u put new (Err error) → IsAnswering before after s old new (Err error)
answer_stops before mid after s t u old put new line count (Write at) r room l a = record { last = t; mid = mid; line = line; so_far = put; answers = r.answers; room = (let n = r.counted in omega (arith, n, room)); came = l.1; cut = a }
answer_stops before mid after s t u old put new line count Memory r room l a = subst (λ (new : Option (List ℕ)). HasGone before s old new) (sym a) (gone before mid s t old put count r)
answer_stops before mid after s t u old put new line count (Script at cause) r room l a = absurd a
answer_stops before mid after s t u old put new line count Read r room l a = absurd a
answer_stops before mid after s t u old put new line count TooLong r room l a = absurd a
answer_stops before mid after s t u old put new line count NoScriptLine r room l a = absurd a
answer_stops before mid after s t u old put new line count (Topology at cause word) r room l a = absurd a
answer_stops before mid after s t u old put new line count (Edid cause) r room l a = absurd a
