-- What is written of a capture as its lines come.
use Rattle.std.proofs.Common.{◌≡◌, ℕ, ◌+◌, Bool, false, true, ◌||◌, List, [], ◌∷◌, ◌++◌, Option, Ok, Err, IfErr, OnOk, Result, refl, sym, ap, subst, ◌∙◌, append_assoc, append-nil, arith}
use Rattle.std.specs.Io.KnownBytes.{Appends}
use Rattle.std.specs.Option.{option_to_list}
use Rattle.std.proofs.KnownBytes.{Appends-nil, Appends-trans}
use Rattle.line_wave.specs.declared.Edge.{Edge}
use Rattle.line_wave.specs.Line.{Line}
use Rattle.line_reading.specs.declared.times.Windows.{Windows}
use Rattle.line_reading.specs.Readings.{Listed}
use Rattle.text_core.specs.declared.at.At.{At}
use Rattle.capture_core.specs.Edges.{Captured, line_of_edges}
use Rattle.capture_core.specs.Reading.{with_edges}
use Rattle.capture_core.specs.declared.fault.Cause.{Cause}
use Rattle.capture_monitor.specs.EdgeFile.{EdgeLinesGoOn}
use Rattle.capture_monitor.specs.Watch.{captured_by}
use Rattle.capture_monitor.specs.ReadBy.{readings_by}
use Rattle.capture_csv.specs.Sampling.{CsvLinesGoOn}
use Rattle.capture_pin.specs.Sampling.{PinLinesGoOn}
use Rattle.audit_core.specs.Audit.{audit_lines}
use Rattle.audit_notes.specs.Lines.{AuditLine, has_remark, line_text, lines_text}
use Rattle.audit_notes.specs.Hearing.{both_found}
use Rattle.std.proofs.lemmas.Grind.{flat_map-append}
use Rattle.capture_through.proofs.Steps.{from_zero}
use Rattle.follow_core.specs.Follow.{received_of}
use Rattle.follow_core.specs.Lines.{from_of, lines_captured}
use Rattle.follow_core.specs.Passing.{EndsPassing, TakesPassing, edges_in, passing_left}
use Rattle.follow_core.specs.Teller.{IsTold, IsUntold, TellsCalm, TellsEdge, TellsEnd, TellsPassed, listed_pair}
use Rattle.follow_core.specs.declared.passing.LastEdges.{LastEdges}
use Rattle.follow_core.specs.declared.passing.PassedEdges.{PassedEdges}
use Rattle.follow_core.specs.declared.passing.PassingLines.{PassingLines}
use Rattle.follow_core.specs.declared.reception.Reception.{Reception}
use Rattle.follow_core.specs.declared.teller.PassedReadings.{PassedReadings}
use Rattle.follow_core.specs.declared.lines.LineForm.{LineForm}
use Rattle.follow_core.specs.declared.teller.Teller.{Teller}
pub use Rattle.live_incoming.proofs.Coming.{lines_again}
pub use Rattle.follow_core.proofs.Followed.{both, end_same_passing, made_fault, received_turn, split_read, told_passed, turn_with, with_none}
use Rattle.follow_core.proofs.Told.{told_front}
use Rattle.follow_audit.specs.declared.view.AuditView.{AuditView}
use Rattle.follow_audit.specs.Follow.{Ends, EndsTwo, Goes, GoesCut, GoesEnd, GoesLast, GoesLine, GoesOn, GoesTo, HasCut, HasHeard, HasStopped, HasWritten, Hears, HearsTwo, IsAt, IsCalmIn, IsFollowed, IsFront, IsCalmTo, IsFrontOfAll, IsOfEnding, IsOfGoing, IsPrompt, IsToldTo, LeavesAlone, lines_in, text_of}
use Rattle.follow_audit.specs.Listener.{Finishes, IsAudited, IsOfListening, IsOfWriting, Puts, PutsAll, PutsFront, SaysAllKnown, TakesEdge, TakesEdges, TellsTwo, audit_text}
use Rattle.follow_audit.specs.Settled.{TwoWait}
use Rattle.follow_audit.specs.declared.error.FollowAuditError.{FollowAuditError}
use Rattle.follow_audit.specs.declared.error.FollowAuditError.TheVariants.{Capture, Memory, Read, TooLong, Waiting, Write}
use Rattle.follow_audit.specs.declared.follower.AuditFollower.{AuditFollower}
use Rattle.follow_audit.specs.declared.listener.Listener.{Listener}
use Rattle.follow_audit.proofs.Audited.{audited_front, two_of_more}

-- ---- the begin

pub followed_first : (file : EdgeLinesGoOn) (pin : PinLinesGoOn) (csv : CsvLinesGoOn) (form : LineForm) (signal : List ℕ) (how : Reception) (view : AuditView) (f : AuditFollower)
    → ((lines : List (List ℕ)) → passing_left signal f.lines 1 lines ≡ received_of how form signal lines) → f.lines.through.smoother.shortest ≡ how.glitch
    → IsUntold how.windows f.teller → ((edges : List Edge) → IsAudited edges f.listener edges [] []) → f.listener.view ≡ view → f.remarked ≡ false → IsFollowed form signal how view [] 1 f []
followed_first file pin csv form signal how view f first shortest untold audited viewed none = record {
  edges = [];
  shortest = shortest;
  viewed = viewed;
  noted = none;
  read = λ rest. sym (first rest) ∙ with_none (passing_left signal f.lines 1 rest);
  told = λ rest c h.
      let t = received_turn file pin csv how form signal rest c (sym (first rest) ∙ h) in
      ([], untold c.edges c.end t.0 t.1, audited c.edges);
}

-- ---- what goes on

-- the text of lines after lines
text_more : (view : AuditView) (xs ys : List AuditLine) → lines_text view.written (xs ++ ys) ≡ lines_text view.written xs ++ lines_text view.written ys
text_more view xs ys = flat_map-append (line_text view.written) xs ys

-- a text before which all was written
nothing_more : (text : List ℕ) (rest whole : List ℕ) → whole ≡ text ++ rest → whole ≡ (text ++ []) ++ rest
nothing_more text rest whole h = h ∙ ap (λ t. t ++ rest) (sym (append-nil text))

-- readings that wait of a listener are two of a capture
going_errs : (old : AuditFollower) (edges : List Edge) (known : ℕ) (listener : Listener) (more : List Listed) (error : FollowAuditError) → (TellsTwo listener more → EndsTwo old edges known) → IsOfListening listener more error → IsOfGoing old edges known error
going_errs old edges known listener more (Write count) two h = tt
going_errs old edges known listener more Waiting two h = two h
going_errs old edges known listener more TooLong two h = h
going_errs old edges known listener more (Capture fault) two h = h
going_errs old edges known listener more Read two h = h
going_errs old edges known listener more Memory two h = tt

ending_errs : (error : FollowAuditError) → IsOfWriting error → IsOfEnding error
ending_errs (Write count) h = tt
ending_errs Waiting h = h
ending_errs TooLong h = h
ending_errs (Capture fault) h = h
ending_errs Read h = h
ending_errs Memory h = tt

-- the front where nothing more is put
at_front : (win : Windows) (f : AuditFollower) (all left : List Edge) (end : ℕ) (lines : List AuditLine) → IsAt win f all left end lines → IsFrontOfAll win f.listener.view all end (lines_text f.listener.view.written lines)
at_front win f all left end lines w =
    let more = told_front win f.teller (line_of_edges all) left end w.ended w.told in
    let front = audited_front all f.listener left w.ended lines w.audited end more.0 in
    (front.0, ap (audit_text f.listener.view (record { edges = all; end = end })) more.1 ∙ front.1)

pub goes_not : (old : AuditFollower) (edges : List Edge) (known : ℕ) (bytes : Option (List ℕ)) → GoesTo old edges known bytes bytes
goes_not old edges known bytes = record {
  text = [];
  put = Appends-nil bytes;
  front = λ win all left end so_far calm w.
      let f = at_front win old all (edges ++ left) end so_far w in
      (f.0, nothing_more (lines_text old.listener.view.written so_far) f.0 (text_of old.listener.view win (record { edges = all; end = end })) f.1);
}

-- what the teller was told: these readings have ended
abbrev pub Tells : Teller → List Edge → ℕ → List Listed → Teller → Type 0
Tells old edges known more new = (win : Windows) (low : Line) (left : List Edge) (end : ℕ) (ended : List Listed) → IsCalmTo known left end → IsTold win old low (edges ++ left) end ended → IsTold win new low left end (ended ++ more)

goes_on : (old new : AuditFollower) (listener : Listener) (edges : List Edge) (known : ℕ) (more : List Listed) (before after : Option (List ℕ)) → TakesEdges old.listener edges listener → Tells old.teller edges known more new.teller → new.lines ≡ old.lines
    → PutsAll listener more new.listener old.remarked new.remarked before after → GoesOn old edges known new before after
goes_on old new listener edges known more before after take told lines puts = record {
  heard = puts.lines;
  put = subst (λ (view : AuditView). Appends before after (lines_text view.written puts.lines)) take.0 puts.put;
  lines = lines;
  view = puts.view ∙ take.0;
  noted = puts.noted;
  goes = λ win all left end so_far calm w. record {
    ended = w.ended ++ more;
    told = told win (line_of_edges all) left end w.ended calm w.told;
    audited = puts.audited all left w.ended so_far (take.1 all left w.ended so_far w.audited);
  };
}

goes_to : (old : AuditFollower) (teller : Teller) (listener : Listener) (edges : List Edge) (known : ℕ) (more : List Listed) (before after : Option (List ℕ)) → TakesEdges old.listener edges listener → Tells old.teller edges known more teller
    → PutsFront listener more before after → GoesTo old edges known before after
goes_to old teller listener edges known more before after take told puts = record {
  text = puts.text;
  put = puts.put;
  front = λ win all left end so_far calm w.
      let rest = told_front win teller (line_of_edges all) left end (w.ended ++ more) (told win (line_of_edges all) left end w.ended calm w.told) in
      let f = puts.front all left w.ended so_far (take.1 all left w.ended so_far w.audited) end rest.0 in
      let whole : Captured = record { edges = all; end = end } in (
        f.0,
        ap (audit_text old.listener.view whole) rest.1 ∙ ap (λ (v : AuditView). audit_text v whole ((w.ended ++ more) ++ rest.0)) (sym take.0) ∙ f.1
            ∙ ap (λ (v : AuditView). (lines_text v.written so_far ++ puts.text) ++ f.0) take.0,
      );
}

-- two readings that wait are two of the capture
goes_two : (old : AuditFollower) (teller : Teller) (listener : Listener) (edges : List Edge) (known : ℕ) (more : List Listed) → TakesEdges old.listener edges listener → Tells old.teller edges known more teller → TellsTwo listener more → EndsTwo old edges known
goes_two old teller listener edges known more take told tells = record {
  front = edges;
  later = [];
  parts = sym (append-nil edges);
  first = tells.first;
  second = tells.second;
  wait = λ win come left end so_far calm w.
      let all : List Edge = (come ++ edges) ++ left in
      let rest = told_front win teller (line_of_edges all) left end (w.ended ++ more) (told win (line_of_edges all) left end w.ended calm w.told) in
      subst (λ (xs : List Listed). TwoWait (come ++ edges) tells.first tells.second xs) (sym rest.1)
      (two_of_more (come ++ edges) tells.first tells.second (w.ended ++ more) rest.0 (tells.wait (come ++ edges) left w.ended so_far (take.1 all left w.ended so_far w.audited)));
}

pub goes : (old new : AuditFollower) (listener : Listener) (edges : List Edge) (known : ℕ) (more : List Listed) (before after : Option (List ℕ)) (result : Result (Unit {0}) FollowAuditError) → TakesEdges old.listener edges listener
    → Tells old.teller edges known more new.teller → new.lines ≡ old.lines → Puts listener more new.listener old.remarked new.remarked before after result → Goes old edges known new before after result
goes old new listener edges known more before after (Ok done) take told lines puts = goes_on old new listener edges known more before after take told lines puts
goes old new listener edges known more before after (Err error) take told lines puts =
    (goes_to old new.teller listener edges known more before after take told puts.0, going_errs old edges known listener more error (goes_two old new.teller listener edges known more take told) puts.1)

-- ---- the steps

pub keeps_edge : (old new : Listener) (edge : Option Edge) → TakesEdge old edge new → TakesEdges old (option_to_list edge) new
keeps_edge old new edge take = (take.0, take.2)

-- where no edge is left
kept_last : (old new : Listener) (edges : List Edge) → TakesEdges old edges new → (all : List Edge) (ended : List Listed) (lines : List AuditLine) → IsAudited all old edges ended lines → IsAudited all new [] ended lines
kept_last old new edges take all ended lines w = take.1 all [] ended lines (subst (λ (es : List Edge). IsAudited all old es ended lines) (sym (append-nil edges)) w)

pub keeps_none : (a : Listener) → TakesEdges a [] a
keeps_none a = (refl, λ all left ended lines w. w)

pub tells_edge : (old new : Teller) (edge : Option Edge) (one : Option Listed) → TellsEdge old edge one new → Tells old (option_to_list edge) 0 (option_to_list one ++ []) new
tells_edge old new edge one first win low left end ended calm w =
    subst (λ (xs : List Listed). IsTold win new low left end (ended ++ xs)) (sym (append-nil (option_to_list one))) (first.told win low left end ended w)

pub tells_calm : (old new : Teller) (known : ℕ) (two : Option Listed) → TellsCalm old known two new → Tells old [] known ([] ++ option_to_list two) new
tells_calm old new known two second win low left end ended calm w = second.told win low left end ended w (w.is_low, turn_with w.is_low old.known known left w.turn calm.0) calm.1

-- one step after another: the first leaves edges for the next
calm_first : (ys left : List Edge) (end : ℕ) → IsCalmTo 0 (ys ++ left) end
calm_first ys left end = (from_zero (ys ++ left), omega arith)

goes_both : (a b c : AuditFollower) (xs ys : List Edge) (known : ℕ) (before mid after : Option (List ℕ)) → GoesOn a xs 0 b before mid → GoesOn b ys known c mid after → GoesOn a (xs ++ ys) known c before after
goes_both a b c xs ys known before mid after one two = record {
  heard = one.heard ++ two.heard;
  put = subst (λ t. Appends before after t) (sym (text_more a.listener.view one.heard two.heard))
      (Appends-trans before mid after (lines_text a.listener.view.written one.heard) (lines_text a.listener.view.written two.heard) one.put
      (subst (λ (v : AuditView). Appends mid after (lines_text v.written two.heard)) one.view two.put));
  lines = two.lines ∙ one.lines;
  view = two.view ∙ one.view;
  noted = both_found a.remarked b.remarked c.remarked one.heard two.heard one.noted two.noted;
  goes = λ win all left end so_far calm w.
      let mid = one.goes win all (ys ++ left) end so_far (calm_first ys left end) (subst (λ (es : List Edge). IsAt win a all es end so_far) (append_assoc xs ys left) w) in
      subst (λ (ls : List AuditLine). IsAt win c all left end ls) (append_assoc so_far one.heard two.heard) (two.goes win all left end (so_far ++ one.heard) calm mid);
}

-- a text after lines of which all is put
front_both : (a : AuditFollower) (win : Windows) (all : List Edge) (end : ℕ) (so_far heard : List AuditLine) (text : List ℕ) → IsFrontOfAll win a.listener.view all end (lines_text a.listener.view.written (so_far ++ heard) ++ text)
    → IsFrontOfAll win a.listener.view all end (lines_text a.listener.view.written so_far ++ (lines_text a.listener.view.written heard ++ text))
front_both a win all end so_far heard text f =
    let w = a.listener.view.written in (
      f.0,
      f.1 ∙ ap (λ t. (t ++ text) ++ f.0) (text_more a.listener.view so_far heard) ∙ ap (λ t. t ++ f.0) (append_assoc (lines_text w so_far) (lines_text w heard) text),
    )

goes_to_both : (a b : AuditFollower) (xs ys : List Edge) (known : ℕ) (before mid after : Option (List ℕ)) → GoesOn a xs 0 b before mid → GoesTo b ys known mid after → GoesTo a (xs ++ ys) known before after
goes_to_both a b xs ys known before mid after one two = record {
  text = lines_text a.listener.view.written one.heard ++ two.text;
  put = Appends-trans before mid after (lines_text a.listener.view.written one.heard) two.text one.put two.put;
  front = λ win all left end so_far calm w.
      let at = one.goes win all (ys ++ left) end so_far (calm_first ys left end) (subst (λ (es : List Edge). IsAt win a all es end so_far) (append_assoc xs ys left) w) in
      front_both a win all end so_far one.heard two.text
      (subst (λ (v : AuditView). IsFrontOfAll win v all end (lines_text v.written (so_far ++ one.heard) ++ two.text)) one.view (two.front win all left end (so_far ++ one.heard) calm at));
}

goes_to_first : (a : AuditFollower) (xs ys : List Edge) (known : ℕ) (before after : Option (List ℕ)) → GoesTo a xs 0 before after → GoesTo a (xs ++ ys) known before after
goes_to_first a xs ys known before after one = record {
  text = one.text;
  put = one.put;
  front = λ win all left end so_far calm w. one.front win all (ys ++ left) end so_far (calm_first ys left end) (subst (λ (es : List Edge). IsAt win a all es end so_far) (append_assoc xs ys left) w);
}

-- where a front of the edges has come
all_same : (come xs ys left : List Edge) → (come ++ (xs ++ ys)) ++ left ≡ (come ++ xs) ++ (ys ++ left)
all_same come xs ys left = ap (λ es. es ++ left) (sym (append_assoc come xs ys)) ∙ append_assoc (come ++ xs) ys left

two_first : (a : AuditFollower) (xs ys : List Edge) (known : ℕ) → EndsTwo a xs 0 → EndsTwo a (xs ++ ys) known
two_first a xs ys known one = record {
  front = one.front;
  later = one.later ++ ys;
  parts = ap (λ es. es ++ ys) one.parts ∙ append_assoc one.front one.later ys;
  first = one.first;
  second = one.second;
  wait = λ win come left end so_far calm w.
      let same = all_same come xs ys left in
      subst (λ (es : List Edge). TwoWait (come ++ one.front) one.first one.second (captured_by win (record { edges = es; end = end }))) (sym same)
      (one.wait win come (ys ++ left) end so_far (calm_first ys left end)
      (subst (λ (es : List Edge). IsAt win a es (xs ++ (ys ++ left)) end so_far) same (subst (λ (es : List Edge). IsAt win a ((come ++ (xs ++ ys)) ++ left) es end so_far) (append_assoc xs ys left) w)));
}

two_next : (a b : AuditFollower) (xs ys : List Edge) (known : ℕ) (before mid : Option (List ℕ)) → GoesOn a xs 0 b before mid → EndsTwo b ys known → EndsTwo a (xs ++ ys) known
two_next a b xs ys known before mid one two = record {
  front = xs ++ two.front;
  later = two.later;
  parts = ap (λ es. xs ++ es) two.parts ∙ sym (append_assoc xs two.front two.later);
  first = two.first;
  second = two.second;
  wait = λ win come left end so_far calm w.
      let all : List Edge = (come ++ (xs ++ ys)) ++ left in
      let at = one.goes win all (ys ++ left) end so_far (calm_first ys left end) (subst (λ (es : List Edge). IsAt win a all es end so_far) (append_assoc xs ys left) w) in
      let same : all ≡ ((come ++ xs) ++ ys) ++ left = ap (λ es. es ++ left) (sym (append_assoc come xs ys)) in
      subst (λ (es : List Edge). TwoWait es two.first two.second (captured_by win (record { edges = all; end = end }))) (append_assoc come xs two.front)
      (subst (λ (es : List Edge). TwoWait ((come ++ xs) ++ two.front) two.first two.second (captured_by win (record { edges = es; end = end }))) (sym same)
      (two.wait win (come ++ xs) left end (so_far ++ one.heard) calm (subst (λ (es : List Edge). IsAt win b es (ys ++ left) end (so_far ++ one.heard)) same at)));
}

errs_first : (a : AuditFollower) (xs ys : List Edge) (known : ℕ) (error : FollowAuditError) → IsOfGoing a xs 0 error → IsOfGoing a (xs ++ ys) known error
errs_first a xs ys known (Write count) h = tt
errs_first a xs ys known Waiting h = two_first a xs ys known h
errs_first a xs ys known Memory h = tt
errs_first a xs ys known (Capture fault) h = h
errs_first a xs ys known Read h = h
errs_first a xs ys known TooLong h = h

errs_next : (a b : AuditFollower) (xs ys : List Edge) (known : ℕ) (before mid : Option (List ℕ)) (error : FollowAuditError) → GoesOn a xs 0 b before mid → IsOfGoing b ys known error → IsOfGoing a (xs ++ ys) known error
errs_next a b xs ys known before mid (Write count) one h = tt
errs_next a b xs ys known before mid Waiting one h = two_next a b xs ys known before mid one h
errs_next a b xs ys known before mid Memory one h = tt
errs_next a b xs ys known before mid (Capture fault) one h = h
errs_next a b xs ys known before mid Read one h = h
errs_next a b xs ys known before mid TooLong one h = h

pub goes_first : (a b : AuditFollower) (xs ys : List Edge) (known : ℕ) (before after : Option (List ℕ)) (error : FollowAuditError) → Goes a xs 0 b before after (Err error) → Goes a (xs ++ ys) known b before after (Err error)
goes_first a b xs ys known before after error one = (goes_to_first a xs ys known before after one.0, errs_first a xs ys known error one.1)

pub goes_then : (a b c : AuditFollower) (xs ys : List Edge) (known : ℕ) (before mid after : Option (List ℕ)) (result : Result (Unit {0}) FollowAuditError) → Goes a xs 0 b before mid (Ok tt) → Goes b ys known c mid after result → Goes a (xs ++ ys) known c before after result
goes_then a b c xs ys known before mid after (Ok done) one two = goes_both a b c xs ys known before mid after one two
goes_then a b c xs ys known before mid after (Err error) one two = (goes_to_both a b xs ys known before mid after one two.0, errs_next a b xs ys known before mid error one two.1)

-- ---- a line, step by step

pub line_first : (a b : AuditFollower) (xs ys : List Edge) (before after : Option (List ℕ)) (error : FollowAuditError) → Goes a xs 0 b before after (Err error) → GoesLine a (xs ++ ys) b before after (Err error)
line_first a b xs ys before after error one = record { known = 0; calm = λ signal number rest c h. (from_zero c.edges, omega arith); goes = goes_first a b xs ys 0 before after error one }

pub line_second : (a b c : AuditFollower) (xs ys : List Edge) (before mid after : Option (List ℕ)) (error : FollowAuditError) → Goes a xs 0 b before mid (Ok tt) → Goes b ys 0 c mid after (Err error) → GoesLine a (xs ++ ys) c before after (Err error)
line_second a b c xs ys before mid after error one two =
    record { known = 0; calm = λ signal number rest d h. (from_zero d.edges, omega arith); goes = goes_then a b c xs ys 0 before mid after (Err error) one two }

pub line_whole : (a b c d : AuditFollower) (xs ys : List Edge) (before mid late after : Option (List ℕ)) (result : Result (Unit {0}) FollowAuditError) → Goes a xs 0 b before mid (Ok tt) → Goes b ys 0 c mid late (Ok tt)
    → GoesLine c [] d late after result → GoesLine a (xs ++ ys) d before after result
line_whole a b c d xs ys before mid late after result one two last =
    let both = goes_both a b c xs ys 0 before mid late one two in
    record {
      known = last.known;
      calm = λ signal number. subst (λ (p : PassingLines). IsCalmIn signal p number last.known) both.lines (last.calm signal number);
      goes = subst (λ (es : List Edge). Goes a es last.known d before after result) (append-nil (xs ++ ys)) (goes_then a c d (xs ++ ys) [] last.known before late after result both last.goes);
    }

-- ---- to the end

pub goes_cut : (old : AuditFollower) (edges : List Edge) (end : ℕ) (bytes : Option (List ℕ)) → GoesCut old edges end bytes bytes
goes_cut old edges end bytes = record {
  text = [];
  put = Appends-nil bytes;
  front = λ win all so_far w.
      let f = at_front win old all edges end so_far w in
      (f.0, nothing_more (lines_text old.listener.view.written so_far) f.0 (text_of old.listener.view win (record { edges = all; end = end })) f.1);
}

-- all readings, and what has come of the audit
pub goes_end : (old : AuditFollower) (listener : Listener) (edges : List Edge) (end : ℕ) (more : List Listed) (before after : Option (List ℕ)) (result : Result Bool FollowAuditError) → TakesEdges old.listener edges listener
    → ((win : Windows) (low : Line) (ended : List Listed) → IsTold win old.teller low edges end ended → readings_by win low end ≡ ended ++ more) → Finishes listener more end old.remarked before after result → GoesEnd old edges end before after result
goes_end old listener edges end more before after (Ok is) take last puts = record {
  heard = puts.lines;
  put = subst (λ (view : AuditView). Appends before after (lines_text view.written puts.lines)) take.0 puts.put;
  noted = puts.noted;
  whole = λ win all so_far w.
      let whole : Captured = record { edges = all; end = end } in
      ap (audit_lines old.listener.view.timing whole) (last win (line_of_edges all) w.ended w.told) ∙ ap (λ (v : AuditView). audit_lines v.timing whole (w.ended ++ more)) (sym take.0)
      ∙ puts.whole all w.ended so_far (kept_last old.listener listener edges take all w.ended so_far w.audited);
}
goes_end old listener edges end more before after (Err error) take last puts = (
  record {
    text = puts.0.text;
    put = puts.0.put;
    front = λ win all so_far w.
        let whole : Captured = record { edges = all; end = end } in (
          puts.0.rest,
          ap (audit_text old.listener.view whole) (last win (line_of_edges all) w.ended w.told) ∙ ap (λ (v : AuditView). audit_text v whole (w.ended ++ more)) (sym take.0)
              ∙ puts.0.whole all w.ended so_far (kept_last old.listener listener edges take all w.ended so_far w.audited)
              ∙ ap (λ (v : AuditView). lines_text v.written so_far ++ (puts.0.text ++ puts.0.rest)) take.0
              ∙ sym (append_assoc (lines_text old.listener.view.written so_far) puts.0.text puts.0.rest),
        );
  },
  ending_errs error puts.1,
)

-- the readings that the last edges and the end have ended
pub told_last : (old mid late : Teller) (passed : PassedEdges) (one two : PassedReadings) (end : ℕ) (last : Option Listed) → TellsPassed old passed.by_edge one mid → TellsPassed mid passed.by_calm two late → TellsEnd late end last
    → (win : Windows) (low : Line) (ended : List Listed) → IsTold win old low (edges_in passed) end ended → readings_by win low end ≡ ended ++ (listed_pair one ++ (listed_pair two ++ option_to_list last))
told_last old mid late passed one two end last first second ends win low ended w =
    ends win low ((ended ++ listed_pair one) ++ listed_pair two)
    (told_passed win old mid late passed one two first second low [] end ended (subst (λ (es : List Edge). IsTold win old low es end ended) (sym (append-nil (edges_in passed))) w))
    ∙ append_assoc (ended ++ listed_pair one) (listed_pair two) (option_to_list last) ∙ append_assoc ended (listed_pair one) (listed_pair two ++ option_to_list last)

-- ---- a line

-- the edge that a line gives comes next
at_line : (form : LineForm) (signal : List ℕ) (how : Reception) (view : AuditView) (past : List (List ℕ)) (number : ℕ) (line : List ℕ) (old taken : AuditFollower) (passed : PassedEdges) (so_far : List AuditLine) (w : IsFollowed form signal how view past number old so_far)
    → taken.teller ≡ old.teller → taken.listener ≡ old.listener → TakesPassing signal old.lines number line (Ok passed) taken.lines → (rest : List (List ℕ)) (c : Captured) → passing_left signal taken.lines (number + 1) rest ≡ Ok c
    → IsAt how.windows taken ((w.edges ++ edges_in passed) ++ c.edges) (edges_in passed ++ c.edges) c.end so_far
at_line form signal how view past number line old taken passed so_far w teller listener takes rest c h =
    let d : Captured = record { edges = edges_in passed ++ c.edges; end = c.end } in
    let t = w.told (line ∷ rest) d (takes rest ∙ ap (with_edges (edges_in passed)) h) in
    subst (λ (es : List Edge). IsAt how.windows taken es d.edges d.end so_far) (sym (append_assoc w.edges (edges_in passed) c.edges))
    (record {
      ended = t.0;
      told = subst (λ (x : Teller). IsTold how.windows x (line_of_edges (w.edges ++ d.edges)) d.edges d.end t.0) (sym teller) t.1;
      audited = subst (λ (x : Listener). IsAudited (w.edges ++ d.edges) x d.edges t.0 so_far) (sym listener) t.2;
    })

read_line : (form : LineForm) (signal : List ℕ) (how : Reception) (view : AuditView) (past : List (List ℕ)) (number : ℕ) (line : List ℕ) (old taken : AuditFollower) (passed : PassedEdges) (so_far : List AuditLine) (w : IsFollowed form signal how view past number old so_far)
    → TakesPassing signal old.lines number line (Ok passed) taken.lines → (rest : List (List ℕ)) → received_of how form signal ((past ++ line ∷ []) ++ rest) ≡ with_edges (w.edges ++ edges_in passed) (passing_left signal taken.lines (number + 1) rest)
read_line form signal how view past number line old taken passed so_far w takes rest =
    ap (received_of how form signal) (append_assoc past (line ∷ []) rest) ∙ w.read (line ∷ rest) ∙ ap (with_edges w.edges) (takes rest)
    ∙ both w.edges (edges_in passed) (passing_left signal taken.lines (number + 1) rest)

pub told_prompt : (result : Result (Unit {0}) FollowAuditError) (new : AuditFollower) → IsToldTo new → OnOk result (SaysAllKnown new.listener) → OnOk result (IsPrompt new)
told_prompt (Ok done) new reach known = (reach, known)
told_prompt (Err error) new reach known = tt

pub first_prompt : (f : AuditFollower) → from_of f.lines.lines ≡ 0 → SaysAllKnown f.listener → IsPrompt f
first_prompt f is known = (omega (arith, is), known)

pub line_heard : (signal : List ℕ) (number : ℕ) (line : List ℕ) (old taken new : AuditFollower) (passed : PassedEdges) (before after : Option (List ℕ)) → taken.teller ≡ old.teller → taken.listener ≡ old.listener → taken.remarked ≡ old.remarked
    → TakesPassing signal old.lines number line (Ok passed) taken.lines → (known : ℕ) → IsCalmIn signal taken.lines (number + 1) known → new.lines.through.smoother.shortest ≡ old.lines.through.smoother.shortest → GoesOn taken (edges_in passed) known new before after → IsPrompt new → HasHeard signal number line old new before after
line_heard signal number line old taken new passed before after teller listener remarked takes known calm shortest g prompt = record {
  heard = g.heard;
  put = subst (λ (x : Listener). Appends before after (lines_text x.view.written g.heard)) listener g.put;
  followed = λ form how view past so_far w. record {
    edges = w.edges ++ edges_in passed;
    shortest = shortest ∙ w.shortest;
    viewed = g.view ∙ ap (λ (x : Listener). x.view) listener ∙ w.viewed;
    noted = both_found false old.remarked new.remarked so_far g.heard w.noted (g.noted ∙ ap (λ (b : Bool). b || has_remark g.heard) remarked);
    read = λ rest. read_line form signal how view past number line old taken passed so_far w takes rest ∙ ap (λ ls. with_edges (w.edges ++ edges_in passed) (passing_left signal ls (number + 1) rest)) (sym g.lines);
    told = λ rest c h.
        let here : passing_left signal taken.lines (number + 1) rest ≡ Ok c = sym (ap (λ ls. passing_left signal ls (number + 1) rest) g.lines) ∙ h in
        let next = g.goes how.windows ((w.edges ++ edges_in passed) ++ c.edges) c.edges c.end so_far (calm rest c here) (at_line form signal how view past number line old taken passed so_far w teller listener takes rest c here) in
        (next.ended, next.told, next.audited);
  };
  prompt = prompt;
}

line_stopped : (signal : List ℕ) (number : ℕ) (line : List ℕ) (old taken : AuditFollower) (passed : PassedEdges) (before after : Option (List ℕ)) → taken.teller ≡ old.teller → taken.listener ≡ old.listener
    → TakesPassing signal old.lines number line (Ok passed) taken.lines → (known : ℕ) → IsCalmIn signal taken.lines (number + 1) known → GoesTo taken (edges_in passed) known before after → HasStopped signal number line old before after
line_stopped signal number line old taken passed before after teller listener takes known calm g = record {
  text = g.text;
  put = g.put;
  front = λ form how view past so_far w rest c left h.
      let d = split_read (w.edges ++ edges_in passed) (passing_left signal taken.lines (number + 1) rest) c (sym (read_line form signal how view past number line old taken passed so_far w takes rest) ∙ h) in
      let all = (w.edges ++ edges_in passed) ++ d.0.edges in
      let f = g.front how.windows all d.0.edges d.0.end so_far (calm rest d.0 d.1) (at_line form signal how view past number line old taken passed so_far w teller listener takes rest d.0 d.1) in
      let same : taken.listener.view ≡ view = ap (λ (x : Listener). x.view) listener ∙ w.viewed in (
        f.0,
        ap (text_of view how.windows) d.2 ∙ ap (λ (v : AuditView). text_of v how.windows (record { edges = all; end = d.0.end })) (sym same) ∙ f.1
            ∙ ap (λ (v : AuditView). (lines_text v.written so_far ++ g.text) ++ f.0) same,
      );
}

line_two : (signal : List ℕ) (number : ℕ) (line : List ℕ) (old taken : AuditFollower) (passed : PassedEdges) → taken.teller ≡ old.teller → taken.listener ≡ old.listener
    → TakesPassing signal old.lines number line (Ok passed) taken.lines → (known : ℕ) → IsCalmIn signal taken.lines (number + 1) known → EndsTwo taken (edges_in passed) known → HearsTwo signal number line old
line_two signal number line old taken passed teller listener takes known calm two form how view past so_far w = record {
  come = w.edges ++ two.front;
  later = two.later;
  lines = taken.lines;
  read = λ rest. read_line form signal how view past number line old taken passed so_far w takes rest ∙ ap (λ es. with_edges es (passing_left signal taken.lines (number + 1) rest)) same;
  first = two.first;
  second = two.second;
  wait = λ rest c h.
      let d = split_read (w.edges ++ edges_in passed) (passing_left signal taken.lines (number + 1) rest) c (sym (read_line form signal how view past number line old taken passed so_far w takes rest) ∙ h) in
      subst (λ (x : Captured). TwoWait (w.edges ++ two.front) two.first two.second (captured_by how.windows x)) (sym d.2)
      (two.wait how.windows w.edges d.0.edges d.0.end so_far (calm rest d.0 d.1) (at_line form signal how view past number line old taken passed so_far w teller listener takes rest d.0 d.1));
}
  where
    same : w.edges ++ edges_in passed ≡ (w.edges ++ two.front) ++ two.later
    same = ap (λ es. w.edges ++ es) two.parts ∙ sym (append_assoc w.edges two.front two.later)

pub line_heard_so : (signal : List ℕ) (number : ℕ) (line : List ℕ) (old taken new : AuditFollower) (passed : PassedEdges) (before after : Option (List ℕ)) (result : Result (Unit {0}) FollowAuditError) → taken.teller ≡ old.teller
    → taken.listener ≡ old.listener → taken.remarked ≡ old.remarked → TakesPassing signal old.lines number line (Ok passed) taken.lines → taken.lines.through.smoother.shortest ≡ old.lines.through.smoother.shortest
    → GoesLine taken (edges_in passed) new before after result → OnOk result (IsPrompt new) → Hears signal number line old new before after result
line_heard_so signal number line old taken new passed before after (Ok done) teller listener remarked takes shortest g prompt =
    line_heard signal number line old taken new passed before after teller listener remarked takes g.known (g.calm signal (number + 1)) (ap (λ (p : PassingLines). p.through.smoother.shortest) g.goes.lines ∙ shortest) g.goes prompt
line_heard_so signal number line old taken new passed before after (Err (Write count)) teller listener remarked takes shortest g prompt = line_stopped signal number line old taken passed before after teller listener takes g.known (g.calm signal (number + 1)) g.goes.0
line_heard_so signal number line old taken new passed before after (Err Waiting) teller listener remarked takes shortest g prompt = (
  line_stopped signal number line old taken passed before after teller listener takes g.known (g.calm signal (number + 1)) g.goes.0,
  line_two signal number line old taken passed teller listener takes g.known (g.calm signal (number + 1)) g.goes.1,
)
line_heard_so signal number line old taken new passed before after (Err Memory) teller listener remarked takes shortest g prompt = line_stopped signal number line old taken passed before after teller listener takes g.known (g.calm signal (number + 1)) g.goes.0
line_heard_so signal number line old taken new passed before after (Err (Capture fault)) teller listener remarked takes shortest g prompt = absurd g.goes.1
line_heard_so signal number line old taken new passed before after (Err Read) teller listener remarked takes shortest g prompt = absurd g.goes.1
line_heard_so signal number line old taken new passed before after (Err TooLong) teller listener remarked takes shortest g prompt = absurd g.goes.1

-- what goes on puts more than a fault of the capture would
pub going_alone : {A : Type 0} (old new : AuditFollower) (edges : List Edge) (before after : Option (List ℕ)) (result : Result (Unit {0}) FollowAuditError) (a b : A) → GoesLine old edges new before after result → IfErr result (λ error. LeavesAlone error a b)
going_alone {A} old new edges before after (Ok done) a b g = tt
going_alone {A} old new edges before after (Err (Write count)) a b g = tt
going_alone {A} old new edges before after (Err Waiting) a b g = tt
going_alone {A} old new edges before after (Err Memory) a b g = tt
going_alone {A} old new edges before after (Err (Capture fault)) a b g = absurd g.goes.1
going_alone {A} old new edges before after (Err Read) a b g = absurd g.goes.1
going_alone {A} old new edges before after (Err TooLong) a b g = absurd g.goes.1

pub ending_alone : {A : Type 0} (old : AuditFollower) (edges : List Edge) (end : ℕ) (before after : Option (List ℕ)) (result : Result Bool FollowAuditError) (a b : A) → GoesEnd old edges end before after result → IfErr result (λ error. LeavesAlone error a b)
ending_alone {A} old edges end before after (Ok done) a b g = tt
ending_alone {A} old edges end before after (Err (Write count)) a b g = tt
ending_alone {A} old edges end before after (Err Waiting) a b g = tt
ending_alone {A} old edges end before after (Err Memory) a b g = tt
ending_alone {A} old edges end before after (Err (Capture fault)) a b g = absurd g.1
ending_alone {A} old edges end before after (Err Read) a b g = absurd g.1
ending_alone {A} old edges end before after (Err TooLong) a b g = absurd g.1

-- a line at fault
pub line_refused : (signal : List ℕ) (number : ℕ) (line : List ℕ) (old taken new : AuditFollower) (fault : At Cause) (bytes : Option (List ℕ)) → TakesPassing signal old.lines number line (Err fault) taken.lines → fault.line ≡ number
    → Hears signal number line old new bytes bytes (Err (Capture fault))
line_refused signal number line old taken new fault bytes takes place = record {
  put = Appends-nil bytes;
  place = place;
  refused = λ form how view past so_far w rest. made_fault how (lines_captured form signal (past ++ line ∷ rest)) fault (w.read (line ∷ rest) ∙ ap (with_edges w.edges) (takes rest));
}

-- the text of what was heard is a front, whatever comes later
pub followed_front : (form : LineForm) (signal : List ℕ) (how : Reception) (view : AuditView) (past : List (List ℕ)) (number : ℕ) (f : AuditFollower) (lines : List AuditLine) → IsFollowed form signal how view past number f lines → IsFront true form signal how view past (lines_text view.written lines)
followed_front form signal how view past number f lines w = λ rest c left h.
    let d = split_read w.edges (passing_left signal f.lines number rest) c (sym (w.read rest) ∙ h) in
    let t = w.told rest d.0 d.1 in
    let all = w.edges ++ d.0.edges in
    let front = at_front how.windows f all d.0.edges d.0.end lines (record { ended = t.0; told = t.1; audited = t.2 }) in (
      front.0,
      ap (text_of view how.windows) d.2 ∙ ap (λ (v : AuditView). text_of v how.windows (record { edges = all; end = d.0.end })) (sym w.viewed) ∙ front.1 ∙ ap (λ (v : AuditView). lines_text v.written lines ++ front.0) w.viewed,
    )

-- ---- no line is left

at_end : (form : LineForm) (signal : List ℕ) (how : Reception) (view : AuditView) (past : List (List ℕ)) (number : ℕ) (f : AuditFollower) (last : LastEdges) (heard : List AuditLine) (w : IsFollowed form signal how view past number f heard) → EndsPassing f.lines number (Ok last)
    → IsAt how.windows f (w.edges ++ edges_in last.edges) (edges_in last.edges) last.end heard
at_end form signal how view past number f last heard w ends =
    let t = w.told [] (record { edges = edges_in last.edges; end = last.end }) (end_same_passing signal f.lines number ∙ ends) in
    record { ended = t.0; told = t.1; audited = t.2 }

read_end : (form : LineForm) (signal : List ℕ) (how : Reception) (view : AuditView) (past : List (List ℕ)) (number : ℕ) (f : AuditFollower) (last : LastEdges) (heard : List AuditLine) (w : IsFollowed form signal how view past number f heard) → EndsPassing f.lines number (Ok last)
    → received_of how form signal past ≡ Ok (record { edges = w.edges ++ edges_in last.edges; end = last.end })
read_end form signal how view past number f last heard w ends = ap (received_of how form signal) (sym (append-nil past)) ∙ w.read [] ∙ ap (with_edges w.edges) (end_same_passing signal f.lines number ∙ ends)

-- all lines are these
none_left : (how : Reception) (form : LineForm) (signal : List ℕ) (past rest : List (List ℕ)) → rest ≡ [] → received_of how form signal (past ++ rest) ≡ received_of how form signal past
none_left how form signal past rest none = ap (λ ls. received_of how form signal (past ++ ls)) none ∙ ap (received_of how form signal) (append-nil past)

same_capture : (r : Result Captured (At Cause)) (a b : Captured) → r ≡ Ok a → r ≡ Ok b → a ≡ b
same_capture (Ok d) a b x y = cc
same_capture (Err f) a b x y = cc

end_written : (number : ℕ) (f : AuditFollower) (last : LastEdges) (is : Bool) (before after : Option (List ℕ)) → EndsPassing f.lines number (Ok last) → GoesLast f (edges_in last.edges) last.end is before after → HasWritten number f is before after
end_written number f last is before after ends g = record {
  heard = g.heard;
  put = g.put;
  noted = g.noted;
  all = λ form signal how view past so_far w. record {
    capture = record { edges = w.edges ++ edges_in last.edges; end = last.end };
    read = read_end form signal how view past number f last so_far w ends;
    all = ap (λ (v : AuditView). lines_in v how.windows (record { edges = w.edges ++ edges_in last.edges; end = last.end })) (sym w.viewed)
        ∙ g.whole how.windows (w.edges ++ edges_in last.edges) so_far (at_end form signal how view past number f last so_far w ends);
  };
}

end_cut : (number : ℕ) (f : AuditFollower) (last : LastEdges) (before after : Option (List ℕ)) → EndsPassing f.lines number (Ok last) → GoesCut f (edges_in last.edges) last.end before after → HasCut number f before after
end_cut number f last before after ends g = record {
  text = g.text;
  put = g.put;
  front = λ form signal how view past so_far w rest c none h.
      let all = w.edges ++ edges_in last.edges in
      let is = same_capture (received_of how form signal (past ++ rest)) c (record { edges = all; end = last.end }) h (none_left how form signal past rest none ∙ read_end form signal how view past number f last so_far w ends) in
      let front = g.front how.windows all so_far (at_end form signal how view past number f last so_far w ends) in (
        front.0,
        ap (text_of view how.windows) is ∙ ap (λ (v : AuditView). text_of v how.windows (record { edges = all; end = last.end })) (sym w.viewed) ∙ front.1
            ∙ ap (λ (v : AuditView). (lines_text v.written so_far ++ g.text) ++ front.0) w.viewed,
      );
}

pub end_heard : (number : ℕ) (f : AuditFollower) (last : LastEdges) (before after : Option (List ℕ)) (result : Result Bool FollowAuditError) → EndsPassing f.lines number (Ok last) → GoesEnd f (edges_in last.edges) last.end before after result
    → Ends number f before after result
end_heard number f last before after (Ok is) ends g = end_written number f last is before after ends g
end_heard number f last before after (Err (Write count)) ends g = end_cut number f last before after ends g.0
end_heard number f last before after (Err Waiting) ends g = absurd g.1
end_heard number f last before after (Err Memory) ends g = end_cut number f last before after ends g.0
end_heard number f last before after (Err (Capture fault)) ends g = absurd g.1
end_heard number f last before after (Err Read) ends g = absurd g.1
end_heard number f last before after (Err TooLong) ends g = absurd g.1

pub end_refused : (number : ℕ) (f : AuditFollower) (fault : At Cause) (bytes : Option (List ℕ)) → EndsPassing f.lines number (Err fault) → fault.line ≡ number → Ends number f bytes bytes (Err (Capture fault))
end_refused number f fault bytes ends place = record {
  put = Appends-nil bytes;
  place = place;
  refused = λ form signal how view past so_far w.
      made_fault how (lines_captured form signal past) fault (ap (received_of how form signal) (sym (append-nil past)) ∙ w.read [] ∙ ap (with_edges w.edges) (end_same_passing signal f.lines number ∙ ends));
}
