-- What is written of the readings of a capture as they end.
use Rattle.std.proofs.Common.{OnOk, ◌≡◌, ℕ, Bool, true, false, ◌||◌, List, [], ◌∷◌, ◌++◌, Option, Some, None, Result, Ok, Err, take, drop, refl, sym, ap, ap₂, subst, ◌∙◌, append_assoc, append-nil, take-append-drop, length, option_map, arith}
use Rattle.std.specs.Option.{option_to_list}
use Rattle.std.specs.declared.alloc.AllocError.{AllocError}
use Rattle.std.specs.Io.KnownBytes.{Appends}
use Rattle.std.proofs.lemmas.List.{append_cancel_right}
use Rattle.std.proofs.lemmas.Grind.{flat_map-append}
use Rattle.text_core.specs.declared.sink.WriteFault.{WriteFault}
use Rattle.text_core.specs.Cut.{WrittenText}
use Rattle.line_wave.specs.declared.Edge.{Edge}
use Rattle.line_frames.specs.declared.Reading.{Reading}
use Rattle.line_reading.specs.Readings.{Listed}
use Rattle.line_reading.specs.Reports.{listed_as}
use Rattle.audit_widths.specs.declared.low.Low.{Low}
use Rattle.audit_widths.specs.Lows.{gone_to}
use Rattle.audit_notes.specs.Lines.{AuditLine, has_remark, line_text, lines_text}
use Rattle.audit_notes.specs.Lines.AuditLine.{Reading as ReadingLine}
use Rattle.audit_core.specs.Audit.{Tape, after, after_all, audit_lines, drive_of, first_tape, heard_all, heard_lines, lows_of, remark_lines, remarks_by, summary_lines, tape_after, tape_at, tape_by}
use Rattle.audit_core.specs.declared.auditor.Auditor.{Auditor}
use Rattle.follow_audit.specs.Listener.{HearsAll, IsAudited, IsFrontOf, PutsAll, PutsCut, PutsFront, PutsLast, Remarks, Says, SaysAllKnown, SaysEnd, SaysLast, SaysSome, TakesEdge, TakesEdges, TellsTwo, WaitsForNothing, audit_text, line_of, remarks_of, settled_by, waiting_count, waits}
use Rattle.follow_audit.specs.Settled.{IsKnown, TwoWait, edges_of, is_settled, later}
use Rattle.follow_audit.specs.declared.listener.Listener.{Listener}
use Rattle.follow_audit.specs.declared.view.AuditView.{AuditView}
use Rattle.follow_audit.proofs.Known.{all_known, gone_before, gone_none, gone_twice, settled_known}

-- ---- readings, one after another

after_more : (t : Tape) (xs ys : List Listed) → after_all t (xs ++ ys) ≡ after_all (after_all t xs) ys
after_more t [] ys = refl
after_more t (x ∷ xs) ys = after_more (after x t) xs ys

heard_more : (timing : Bool) (t : Tape) (xs ys : List Listed) → heard_all timing t (xs ++ ys) ≡ heard_all timing t xs ++ heard_all timing (after_all t xs) ys
heard_more timing t [] ys = refl
heard_more timing t (x ∷ xs) ys =
    ap (λ (l : List AuditLine). heard_lines timing t x ++ l) (heard_more timing (after x t) xs ys)
    ∙ sym (append_assoc (heard_lines timing t x) (heard_all timing (after x t) xs) (heard_all timing (after_all (after x t) xs) ys))

-- ---- what there is to remark, by its low stretches and its low drive

same_remarks : (timing : Bool) (a : Auditor) (x : Listed) (p q : List Edge) → lows_of x q ≡ lows_of x p → drive_of x q ≡ drive_of x p → remark_lines timing (tape_at q a) x ≡ remark_lines timing (tape_at p a) x
same_remarks timing a x p q lows drive = ap₂ (λ (ls : List Low) (d : Option ℕ). remarks_by timing (tape_at [] a) x ls d) lows drive

same_tape : (old new : Auditor) (x : Listed) (p q : List Edge) → lows_of x q ≡ lows_of x p → tape_at p new ≡ tape_after x (tape_at p old) → tape_at q new ≡ tape_after x (tape_at q old)
same_tape old new x p q lows kept =
    ap (λ (t : Tape). record t { place = q }) kept ∙ ap (λ (ls : List Low). tape_by ls x (tape_at q old)) (sym lows)

-- ---- a listener

pub audited_first : (a : Listener) (edges : List Edge) → a.window.items ≡ [] → a.from ≡ 0 → a.waiting ≡ None → tape_at [] a.auditor ≡ first_tape [] → IsAudited edges a edges [] []
audited_first a edges none from waiting first = record {
  done = [];
  parts = ap (λ (o : Option Reading). option_to_list (option_map listed_as o)) (sym waiting);
  kept = ap₂ (λ (n : ℕ) (w : List Edge). tape_at (gone_to n (w ++ edges)) a.auditor) from none
      ∙ ap (λ (es : List Edge). tape_at es a.auditor) (gone_none edges) ∙ ap (λ (t : Tape). record t { place = edges }) first;
  said = ap (λ (o : Option Reading). line_of (option_map listed_as o)) (sym waiting);
  come = [];
  all = refl;
  stands = λ es. sym (ap (λ (n : ℕ). gone_to n es) from ∙ gone_none es);
  window = λ more. ap (λ (w : List Edge). gone_to a.from (w ++ more)) (sym none);
}

-- the same parts, but for the edges: some of those that were left are kept
moved : (edges : List Edge) (old new : Listener) (taken left : List Edge) (ended : List Listed) (lines : List AuditLine) → new.view ≡ old.view → new.waiting ≡ old.waiting → new.auditor ≡ old.auditor → new.from ≡ old.from
    → ((more : List Edge) → gone_to old.from (new.window.items ++ more) ≡ gone_to old.from (old.window.items ++ (taken ++ more))) → IsAudited edges old (taken ++ left) ended lines → IsAudited edges new left ended lines
moved edges old new taken left ended lines view waiting auditor from place w = record {
  done = w.done;
  parts = w.parts ∙ ap (λ (o : Option Reading). w.done ++ option_to_list (option_map listed_as o)) (sym waiting);
  kept = ap₂ (λ (n : ℕ) (a : Auditor). tape_at (gone_to n (new.window.items ++ left)) a) from auditor ∙ ap (λ (es : List Edge). tape_at es old.auditor) (place left) ∙ w.kept;
  said = w.said ∙ ap₂ (λ (b : AuditView) (o : Option Reading). heard_all b.timing (first_tape edges) w.done ++ line_of (option_map listed_as o)) (sym view) (sym waiting);
  come = w.come ++ taken;
  all = w.all ∙ sym (append_assoc w.come taken left);
  stands = λ es. w.stands es ∙ ap (λ (n : ℕ). gone_to n es) (sym from);
  window = λ more.
      subst (λ (n : ℕ). gone_to n ((w.come ++ taken) ++ more) ≡ gone_to n (new.window.items ++ more)) (sym from)
      (ap (gone_to old.from) (append_assoc w.come taken more) ∙ w.window (taken ++ more) ∙ sym (place more));
}

pub takes_none : (a : Listener) (edge : Option Edge) → edge ≡ None → TakesEdge a edge a
takes_none a edge none = (refl, refl, λ edges left ended lines w. subst (λ (o : Option Edge). IsAudited edges a (option_to_list o ++ left) ended lines) none w)

-- the edges that are no longer needed are let go
pub takes_less : (old new : Listener) → new.view ≡ old.view → new.waiting ≡ old.waiting → new.auditor ≡ old.auditor → new.from ≡ old.from → new.window.items ≡ gone_to old.from old.window.items → TakesEdge old None new
takes_less old new view waiting auditor from window = (
  view,
  waiting,
  λ edges left ended lines w.
      moved edges old new [] left ended lines view waiting auditor from
      (λ more. ap (λ (es : List Edge). gone_to old.from (es ++ more)) window ∙ gone_before old.from old.window.items more) w,
)

takes_one : (old new : Listener) (edge : Option Edge) (e : Edge) → edge ≡ Some e → new.view ≡ old.view → new.waiting ≡ old.waiting → new.auditor ≡ old.auditor → new.from ≡ old.from → new.window.items ≡ old.window.items ++ e ∷ []
    → TakesEdge old edge new
takes_one old new edge e is view waiting auditor from window = (
  view,
  waiting,
  λ edges left ended lines w.
      moved edges old new (e ∷ []) left ended lines view waiting auditor from
      (λ more. ap (λ (es : List Edge). gone_to old.from (es ++ more)) window ∙ ap (gone_to old.from) (append_assoc old.window.items (e ∷ []) more))
      (subst (λ (o : Option Edge). IsAudited edges old (option_to_list o ++ left) ended lines) is w),
)

pub takes_next : (old mid new : Listener) (edge : Option Edge) (e : Edge) → edge ≡ Some e → TakesEdge old None mid → new.view ≡ mid.view → new.waiting ≡ mid.waiting → new.auditor ≡ mid.auditor → new.from ≡ mid.from
    → new.window.items ≡ mid.window.items ++ e ∷ [] → TakesEdge old edge new
takes_next old mid new edge e is first view waiting auditor from window =
    let next = takes_one mid new edge e is view waiting auditor from window in
    (view ∙ first.0, waiting ∙ first.1, λ edges left ended lines w. next.2 edges left ended lines (first.2 edges (option_to_list edge ++ left) ended lines w))

-- edges one after another
pub takes_edges : (old new : Listener) (edge : Option Edge) → TakesEdge old edge new → TakesEdges old (option_to_list edge) new
takes_edges old new edge take = (take.0, take.2)

pub takes_both : (old mid new : Listener) (xs ys : List Edge) → TakesEdges old xs mid → TakesEdges mid ys new → TakesEdges old (xs ++ ys) new
takes_both old mid new xs ys one two = (
  two.0 ∙ one.0,
  λ all left ended lines w. two.1 all left ended lines (one.1 all (ys ++ left) ended lines (subst (λ (es : List Edge). IsAudited all old es ended lines) (append_assoc xs ys left) w)),
)

pub takes_maybe : (old mid new : Listener) (one two : Option Edge) (result : Result (Unit {0}) AllocError) → TakesEdge old one mid → OnOk result (TakesEdge mid two new) → OnOk result (TakesEdges old (option_to_list one ++ option_to_list two) new)
takes_maybe old mid new one two (Ok done) first second = takes_both old mid new (option_to_list one) (option_to_list two) (takes_edges old mid one first) (takes_edges mid new two second)
takes_maybe old mid new one two (Err error) first second = tt

pub takes_so : (old mid new : Listener) (xs ys : List Edge) (result : Result (Unit {0}) AllocError) → TakesEdges old xs mid → OnOk result (TakesEdges mid ys new) → OnOk result (TakesEdges old (xs ++ ys) new)
takes_so old mid new xs ys (Ok done) first second = takes_both old mid new xs ys first second
takes_so old mid new xs ys (Err error) first second = tt

-- ---- what waits

pub remarks_none : (a : Listener) → a.waiting ≡ None → Remarks a a
remarks_none a none = record {
  none = none;
  view = refl;
  audited = λ edges left ended lines known w. subst (λ (t : List AuditLine). IsAudited edges a left ended t) (sym (append-nil lines) ∙ ap (λ (o : Option Reading). lines ++ by o) (sym none)) w;
}
  where
    by : Option Reading → List AuditLine
    by o = remarks_of (record a { waiting = o })

pub remarks_all : (old new : Listener) (r : Reading) → old.waiting ≡ Some r → new.waiting ≡ None → new.view ≡ old.view → new.window ≡ old.window → new.from ≡ later old.from r.begin
    → tape_at (gone_to (later old.from r.begin) old.window.items) new.auditor ≡ tape_after (listed_as r) (tape_at (gone_to (later old.from r.begin) old.window.items) old.auditor) → Remarks old new
remarks_all old new r waiting none view window from kept = record {
  none = none;
  view = view;
  audited = λ edges left ended lines known w.
      all edges left ended lines (subst (λ (o : Option Reading). WaitsForNothing (record old { waiting = o }) left) waiting known)
      w.done (w.parts ∙ ap (λ (o : Option Reading). w.done ++ option_to_list (option_map listed_as o)) waiting) w.kept
      (w.said ∙ ap (λ (o : Option Reading). heard_all old.view.timing (first_tape edges) w.done ++ line_of (option_map listed_as o)) waiting)
      w.come w.all w.stands w.window;
}
  where
    x : Listed
    x = listed_as r

    p : List Edge
    p = gone_to (later old.from r.begin) old.window.items

    said : remarks_of old ≡ remark_lines old.view.timing (tape_at p old.auditor) x
    said = ap (λ (o : Option Reading). remarks_of (record old { waiting = o })) waiting

    all : (edges left : List Edge) (ended : List Listed) (lines : List AuditLine) → IsKnown old.from old.window.items left (listed_as r) → (done : List Listed) → ended ≡ done ++ listed_as r ∷ []
        → tape_at (gone_to old.from (old.window.items ++ left)) old.auditor ≡ after_all (first_tape edges) done → lines ≡ heard_all old.view.timing (first_tape edges) done ++ ReadingLine (listed_as r) ∷ []
        → (come : List Edge) → edges ≡ come ++ left → ((es : List Edge) → (after_all (first_tape es) done).place ≡ gone_to old.from es)
        → ((more : List Edge) → gone_to old.from (come ++ more) ≡ gone_to old.from (old.window.items ++ more)) → IsAudited edges new left ended (lines ++ remarks_of old)
    all edges left ended lines known done parts place front came split stands windows = record {
      done = done ++ x ∷ [];
      parts = parts ∙ sym (append-nil (done ++ x ∷ [])) ∙ ap (λ (o : Option Reading). (done ++ x ∷ []) ++ option_to_list (option_map listed_as o)) (sym none);
      kept = ap₂ (λ (n : ℕ) (es : List Edge). tape_at (gone_to n (es ++ left)) new.auditor) from (ap (λ w. w.items) window) ∙ ap (λ (es : List Edge). tape_at es new.auditor) known.place
          ∙ same_tape old.auditor new.auditor x p (p ++ left) known.lows kept ∙ ap (tape_after x) (sym come) ∙ sym (after_more (first_tape edges) done (x ∷ []));
      said = ap₂ (λ (a b : List AuditLine). a ++ b) front (said ∙ sym (same_remarks old.view.timing old.auditor x p (p ++ left) known.lows known.drive) ∙ ap (λ (t : Tape). remark_lines old.view.timing t x) (sym come))
          ∙ append_assoc (heard_all old.view.timing (first_tape edges) done) (ReadingLine x ∷ []) (remark_lines old.view.timing (record t { place = gone_to r.begin t.place }) x)
          ∙ ap (λ (l : List AuditLine). heard_all old.view.timing (first_tape edges) done ++ l) (sym (append-nil (heard_lines old.view.timing t x)))
          ∙ sym (heard_more old.view.timing (first_tape edges) done (x ∷ []))
          ∙ sym (append-nil (heard_all old.view.timing (first_tape edges) (done ++ x ∷ [])))
          ∙ ap₂ (λ (b : AuditView) (o : Option Reading). heard_all b.timing (first_tape edges) (done ++ x ∷ []) ++ line_of (option_map listed_as o)) (sym view) (sym none);
      come = came;
      all = split;
      stands = λ es.
          ap (λ (t : Tape). t.place) (after_more (first_tape es) done (x ∷ [])) ∙ ap (gone_to r.begin) (stands es) ∙ gone_twice old.from r.begin es
          ∙ ap (λ (n : ℕ). gone_to n es) (sym from);
      window = λ more.
          ap (λ (n : ℕ). gone_to n (came ++ more)) from ∙ sym (gone_twice old.from r.begin (came ++ more)) ∙ ap (gone_to r.begin) (windows more) ∙ gone_twice old.from r.begin (old.window.items ++ more)
          ∙ ap₂ (λ (n : ℕ) (es : List Edge). gone_to n (es ++ more)) (sym from) (sym (ap (λ w. w.items) window));
    }
      where
        t : Tape
        t = after_all (first_tape edges) done

        come : record t { place = gone_to r.begin t.place } ≡ tape_at (p ++ left) old.auditor
        come = ap (λ (t : Tape). record t { place = gone_to r.begin t.place }) (sym place)
            ∙ ap (λ (es : List Edge). tape_at es old.auditor) (gone_twice old.from r.begin (old.window.items ++ left) ∙ known.place)

pub remarked_none : {H : Type 0} (hears : H → List AuditLine → H → Type 0) (a : Listener) (t : H) → hears t [] t → a.waiting ≡ None → hears t (remarks_of a) t
remarked_none hears a t nothing none = subst (λ (o : Option Reading). hears t (by o) t) (sym none) nothing
  where
    by : Option Reading → List AuditLine
    by o = remarks_of (record a { waiting = o })

-- what there is to remark of it was heard, of these edges from its fall on
pub remarked_all : {H : Type 0} (hears : H → List AuditLine → H → Type 0) (a : Listener) (r : Reading) (mid out : H) → a.waiting ≡ Some r → {edges : List Edge} → edges ≡ gone_to (later a.from r.begin) a.window.items
    → hears mid (remark_lines a.view.timing (tape_at edges a.auditor) (listed_as r)) out → hears mid (remarks_of a) out
remarked_all {H} hears a r mid out is {edges} same heard =
    subst (λ (ls : List AuditLine). hears mid ls out)
    (ap (λ (es : List Edge). remark_lines a.view.timing (tape_at es a.auditor) (listed_as r)) same ∙ ap (λ (o : Option Reading). remarks_of (record a { waiting = o })) (sym is)) heard

-- whether that is known
pub all_told : (a : Listener) → a.waiting ≡ None → SaysAllKnown a
all_told a none = ap (λ (o : Option Reading). settled_by a (option_map listed_as o)) none

pub all_but_one : (a : Listener) (r : Reading) → a.waiting ≡ Some r → is_settled (listed_as r) (gone_to (later a.from r.begin) a.window.items) ≡ false → SaysAllKnown a
all_but_one a r is h = ap (λ (o : Option Reading). settled_by a (option_map listed_as o)) is ∙ h

pub known_none : (a : Listener) → a.waiting ≡ None → (left : List Edge) → WaitsForNothing a left
known_none a none left = subst (λ (o : Option Reading). WaitsForNothing (record a { waiting = o }) left) (sym none) tt

pub known_settled : (a : Listener) (r : Reading) → a.waiting ≡ Some r → is_settled (listed_as r) (gone_to (later a.from r.begin) a.window.items) ≡ true → (left : List Edge) → WaitsForNothing a left
known_settled a r is settled left =
    subst (λ (o : Option Reading). WaitsForNothing (record a { waiting = o }) left) (sym is) (settled_known a.from a.window.items (listed_as r) settled left)

-- ---- what is said

no_more : (edges : List Edge) (a : Listener) (left : List Edge) (ended : List Listed) (lines : List AuditLine) → IsAudited edges a left ended lines → IsAudited edges a left (ended ++ []) lines
no_more edges a left ended lines w = subst (λ (xs : List Listed). IsAudited edges a left xs lines) (sym (append-nil ended)) w

-- nothing
pub says_none : {H : Type 0} (hears : H → List AuditLine → H → Type 0) (a : Listener) (mid : H) → hears mid [] mid → Says hears a [] a mid mid
says_none hears a mid nothing = record {
  lines = [];
  put = nothing;
  view = refl;
  audited = λ edges left ended so_far w. no_more edges a left ended (so_far ++ []) (subst (λ (t : List AuditLine). IsAudited edges a left ended t) (sym (append-nil so_far)) w);
}

pub says_remarked : {H : Type 0} (hears : H → List AuditLine → H → Type 0) (old new : Listener) (mid out : H) → ((left : List Edge) → WaitsForNothing old left) → Remarks old new → hears mid (remarks_of old) out → Says hears old [] new mid out
says_remarked hears old new mid out known r put = record {
  lines = remarks_of old;
  put = put;
  view = r.view;
  audited = λ edges left ended so_far w. no_more edges new left ended (so_far ++ remarks_of old) (r.audited edges left ended so_far (known left) w);
}

-- the line of a reading that waits then
pub says_line : {H : Type 0} (hears : H → List AuditLine → H → Type 0) (old new : Listener) (r : Reading) (mid out : H) → old.waiting ≡ None → new.waiting ≡ Some r → new.view ≡ old.view → new.auditor ≡ old.auditor
    → new.from ≡ old.from → new.window ≡ old.window → hears mid (ReadingLine (listed_as r) ∷ []) out → Says hears old (listed_as r ∷ []) new mid out
says_line hears old new r mid out none waiting view auditor from window put = record {
  lines = ReadingLine (listed_as r) ∷ [];
  put = put;
  view = view;
  audited = λ edges left ended so_far w.
      let said = w.said ∙ ap (λ (o : Option Reading). heard_all old.view.timing (first_tape edges) w.done ++ line_of (option_map listed_as o)) none ∙ append-nil (heard_all old.view.timing (first_tape edges) w.done) in
      record {
        done = w.done;
        parts = ap (λ (xs : List Listed). xs ++ listed_as r ∷ []) (w.parts ∙ ap (λ (o : Option Reading). w.done ++ option_to_list (option_map listed_as o)) none ∙ append-nil w.done)
            ∙ ap (λ (o : Option Reading). w.done ++ option_to_list (option_map listed_as o)) (sym waiting);
        kept = ap₂ (λ (es : List Edge) (a : Auditor). tape_at es a) (ap₂ (λ (n : ℕ) (es : List Edge). gone_to n (es ++ left)) from (ap (λ w. w.items) window)) auditor ∙ w.kept;
        said = ap (λ (l : List AuditLine). l ++ ReadingLine (listed_as r) ∷ []) said
            ∙ ap₂ (λ (b : AuditView) (o : Option Reading). heard_all b.timing (first_tape edges) w.done ++ line_of (option_map listed_as o)) (sym view) (sym waiting);
        come = w.come;
        all = w.all;
        stands = λ es. w.stands es ∙ ap (λ (n : ℕ). gone_to n es) (sym from);
        window = λ more.
            ap (λ (n : ℕ). gone_to n (w.come ++ more)) from ∙ w.window more ∙ ap₂ (λ (n : ℕ) (es : List Edge). gone_to n (es ++ more)) (sym from) (sym (ap (λ w. w.items) window));
      };
}

-- lines after lines
abbrev pub AreBoth : {H : Type 0} → (H → List AuditLine → H → Type 0) → Type 0
AreBoth {H} hears = (a b c : H) (xs ys : List AuditLine) → hears a xs b → hears b ys c → hears a (xs ++ ys) c

-- one after another
pub says_two : {H : Type 0} (hears : H → List AuditLine → H → Type 0) → AreBoth hears → {old mid new : Listener} {xs ys : List Listed} {a b c : H} → Says hears old xs mid a b → Says hears mid ys new b c → Says hears old (xs ++ ys) new a c
says_two {H} hears both {old} {mid} {new} {xs} {ys} {a} {b} {c} one two = record {
  lines = one.lines ++ two.lines;
  put = both a b c one.lines two.lines one.put two.put;
  view = two.view ∙ one.view;
  audited = λ edges left ended so_far w.
      subst (λ (zs : List Listed). IsAudited edges new left zs (so_far ++ (one.lines ++ two.lines))) (append_assoc ended xs ys)
      (subst (λ (z : List AuditLine). IsAudited edges new left ((ended ++ xs) ++ ys) z) (append_assoc so_far one.lines two.lines)
      (two.audited edges left (ended ++ xs) (so_far ++ one.lines) (one.audited edges left ended so_far w)));
}

pub says_more : {H : Type 0} (hears : H → List AuditLine → H → Type 0) → AreBoth hears → {old mid new : Listener} {xs : List Listed} {a b c : H} → Says hears old xs mid a b → Says hears mid [] new b c → Says hears old xs new a c
says_more {H} hears both {old} {mid} {new} {xs} {a} {b} {c} one two = subst (λ (zs : List Listed). Says hears old zs new a c) (append-nil xs) (says_two hears both one two)

-- a reading before which something waits is not heard
pub hears_none : {H : Type 0} (hears : H → List AuditLine → H → Type 0) (a : Listener) (x : Listed) (mid : H) → hears mid [] mid → waiting_count a ≡ 1 → SaysSome hears a (x ∷ []) a mid mid
hears_none hears a x mid nothing one = record { heard = []; next = x; rest = []; parts = refl; one = one; says = says_none hears a mid nothing }

either : {P : Type 0} → true ≡ false → P
either h = cc

-- readings were heard, or some of them
pub all_heard : {H : Type 0} (hears : H → List AuditLine → H → Type 0) (old new : Listener) (more : List Listed) (room : Bool) (a b : H) → room ≡ true → HearsAll hears old more room new a b → Says hears old more new a b
all_heard hears old new more true a b is h = h
all_heard hears old new more false a b is h = either (sym is)

pub some_heard : {H : Type 0} (hears : H → List AuditLine → H → Type 0) (old new : Listener) (more : List Listed) (room : Bool) (a b : H) → room ≡ false → HearsAll hears old more room new a b → SaysSome hears old more new a b
some_heard hears old new more true a b is h = either is
some_heard hears old new more false a b is h = h

-- readings before which others were heard, or after which others are not heard
pub some_then : {H : Type 0} (hears : H → List AuditLine → H → Type 0) → AreBoth hears → (old mid new : Listener) (xs ys : List Listed) (a b c : H) → Says hears old xs mid a b → SaysSome hears mid ys new b c → SaysSome hears old (xs ++ ys) new a c
some_then hears both old mid new xs ys a b c one some = record {
  heard = xs ++ some.heard;
  next = some.next;
  rest = some.rest;
  parts = ap (λ (zs : List Listed). xs ++ zs) some.parts ∙ sym (append_assoc xs some.heard (some.next ∷ some.rest));
  one = some.one;
  says = says_two hears both one some.says;
}

pub some_first : {H : Type 0} (hears : H → List AuditLine → H → Type 0) (old new : Listener) (xs ys : List Listed) (a b : H) → SaysSome hears old xs new a b → SaysSome hears old (xs ++ ys) new a b
some_first hears old new xs ys a b some = record {
  heard = some.heard;
  next = some.next;
  rest = some.rest ++ ys;
  parts = ap (λ (zs : List Listed). zs ++ ys) some.parts ∙ append_assoc some.heard (some.next ∷ some.rest) ys;
  one = some.one;
  says = some.says;
}

pub hears_then : {H : Type 0} (hears : H → List AuditLine → H → Type 0) → AreBoth hears → (old mid new : Listener) (xs ys : List Listed) (room : Bool) (a b c : H) → Says hears old xs mid a b → HearsAll hears mid ys room new b c → HearsAll hears old (xs ++ ys) room new a c
hears_then hears both old mid new xs ys true a b c one two = says_two hears both one two
hears_then hears both old mid new xs ys false a b c one two = some_then hears both old mid new xs ys a b c one two

-- ---- where no edge is left

pub last_none : {H : Type 0} (hears : H → List AuditLine → H → Type 0) (a : Listener) (mid : H) → hears mid [] mid → a.waiting ≡ None → SaysLast hears a [] a mid mid
last_none hears a mid nothing waits =
    let s = says_none hears a mid nothing in
    record { lines = s.lines; put = s.put; none = waits; view = refl; audited = λ edges ended so_far w. s.audited edges [] ended so_far w }

known_last : (a : Listener) (o : Option Reading) → a.waiting ≡ o → WaitsForNothing a []
known_last a o is = subst (λ (o : Option Reading). WaitsForNothing (record a { waiting = o }) []) (sym is) (by o)
  where
    by : (o : Option Reading) → WaitsForNothing (record a { waiting = o }) []
    by None = tt
    by (Some r) = all_known a.from a.window.items (listed_as r)

pub last_remarked : {H : Type 0} (hears : H → List AuditLine → H → Type 0) (old new : Listener) (mid out : H) → Remarks old new → hears mid (remarks_of old) out → SaysLast hears old [] new mid out
last_remarked hears old new mid out r put = record {
  lines = remarks_of old;
  put = put;
  none = r.none;
  view = r.view;
  audited = λ edges ended so_far w. no_more edges new [] ended (so_far ++ remarks_of old) (r.audited edges [] ended so_far (known_last old old.waiting refl) w);
}

pub last_line : {H : Type 0} (hears : H → List AuditLine → H → Type 0) → AreBoth hears → {old mid new : Listener} {xs : List Listed} {a b c : H} → Says hears old xs mid a b → SaysLast hears mid [] new b c → SaysLast hears old xs new a c
last_line {H} hears both {old} {mid} {new} {xs} {a} {b} {c} one two = record {
  lines = one.lines ++ two.lines;
  put = both a b c one.lines two.lines one.put two.put;
  none = two.none;
  view = two.view ∙ one.view;
  audited = λ edges ended so_far w.
      subst (λ (zs : List Listed). IsAudited edges new [] zs (so_far ++ (one.lines ++ two.lines))) (append-nil (ended ++ xs))
      (subst (λ (z : List AuditLine). IsAudited edges new [] ((ended ++ xs) ++ []) z) (append_assoc so_far one.lines two.lines)
      (two.audited edges (ended ++ xs) (so_far ++ one.lines) (one.audited edges [] ended so_far w)));
}

pub last_two : {H : Type 0} (hears : H → List AuditLine → H → Type 0) → AreBoth hears → {old mid new : Listener} {xs ys : List Listed} {a b c : H} → SaysLast hears old xs mid a b → SaysLast hears mid ys new b c → SaysLast hears old (xs ++ ys) new a c
last_two {H} hears both {old} {mid} {new} {xs} {ys} {a} {b} {c} one two = record {
  lines = one.lines ++ two.lines;
  put = both a b c one.lines two.lines one.put two.put;
  none = two.none;
  view = two.view ∙ one.view;
  audited = λ edges ended so_far w.
      subst (λ (zs : List Listed). IsAudited edges new [] zs (so_far ++ (one.lines ++ two.lines))) (append_assoc ended xs ys)
      (subst (λ (z : List AuditLine). IsAudited edges new [] ((ended ++ xs) ++ ys) z) (append_assoc so_far one.lines two.lines)
      (two.audited edges (ended ++ xs) (so_far ++ one.lines) (one.audited edges ended so_far w)));
}

pub last_as : {H : Type 0} (hears : H → List AuditLine → H → Type 0) (old new : Listener) (a b : H) (xs ys : List Listed) → xs ≡ ys → SaysLast hears old xs new a b → SaysLast hears old ys new a b
last_as hears old new a b xs ys same says = subst (λ (zs : List Listed). SaysLast hears old zs new a b) same says

-- ---- fronts

-- what was heard of the readings that have ended are the first lines of the audit
first_lines : (edges : List Edge) (a : Listener) (left : List Edge) (ended : List Listed) (lines : List AuditLine) → IsAudited edges a left ended lines → (end : ℕ) (more : List Listed)
    → (rest : List AuditLine) × (audit_lines a.view.timing (record { edges = edges; end = end }) (ended ++ more) ≡ lines ++ rest)
first_lines edges a left ended lines w end more = by (waits a) w.parts w.said
  where
    t : Tape
    t = after_all (first_tape edges) w.done

    whole : List Listed → List AuditLine
    whole xs = audit_lines a.view.timing (record { edges = edges; end = end }) xs

    last : List Listed → List AuditLine
    last xs = summary_lines end (after_all (first_tape edges) xs)

    -- what is done, and these after it
    parted : (xs : List Listed) → whole (w.done ++ xs) ≡ heard_all a.view.timing (first_tape edges) w.done ++ (heard_all a.view.timing (after_all (first_tape edges) w.done) xs ++ last (w.done ++ xs))
    parted xs = ap (λ (l : List AuditLine). l ++ last (w.done ++ xs)) (heard_more a.view.timing (first_tape edges) w.done xs)
        ∙ append_assoc (heard_all a.view.timing (first_tape edges) w.done) (heard_all a.view.timing (after_all (first_tape edges) w.done) xs) (last (w.done ++ xs))

    by : (o : Option Listed) → ended ≡ w.done ++ option_to_list o → lines ≡ heard_all a.view.timing (first_tape edges) w.done ++ line_of o → (rest : List AuditLine) × (whole (ended ++ more) ≡ lines ++ rest)
    by None parts said = (
      heard_all a.view.timing t more ++ last (w.done ++ more),
      ap (λ (xs : List Listed). whole (xs ++ more)) (parts ∙ append-nil w.done) ∙ parted more
          ∙ ap (λ (l : List AuditLine). l ++ (heard_all a.view.timing t more ++ last (w.done ++ more))) (sym (append-nil (heard_all a.view.timing (first_tape edges) w.done)) ∙ sym said),
    )
    by (Some x) parts said =
        let remarks = remark_lines a.view.timing (record t { place = gone_to x.begin t.place }) x in
        let rest = heard_all a.view.timing (after x t) more in
        let summary = last (w.done ++ (x ∷ more)) in (
          (remarks ++ rest) ++ summary,
          ap (λ (xs : List Listed). whole (xs ++ more)) parts ∙ ap whole (append_assoc w.done (x ∷ []) more) ∙ parted (x ∷ more)
              ∙ ap (λ (l : List AuditLine). heard_all a.view.timing (first_tape edges) w.done ++ l)
              (ap (λ (l : List AuditLine). l ++ summary) (append_assoc (ReadingLine x ∷ []) remarks rest) ∙ append_assoc (ReadingLine x ∷ []) (remarks ++ rest) summary)
              ∙ sym (append_assoc (heard_all a.view.timing (first_tape edges) w.done) (ReadingLine x ∷ []) ((remarks ++ rest) ++ summary))
              ∙ ap (λ (l : List AuditLine). l ++ ((remarks ++ rest) ++ summary)) (sym said),
        )

-- their text is a front of its text
pub audited_front : (edges : List Edge) (a : Listener) (left : List Edge) (ended : List Listed) (lines : List AuditLine) → IsAudited edges a left ended lines → IsFrontOf a.view edges ended (lines_text a.view.written lines)
audited_front edges a left ended lines w end more =
    let f = first_lines edges a left ended lines w end more in
    (lines_text a.view.written f.0, ap (lines_text a.view.written) f.1 ∙ flat_map-append (line_text a.view.written) lines f.0)

-- ---- two that wait

one_waits : (o : Option Listed) → length (option_to_list o) ≡ 1 → (x : Listed) × (o ≡ Some x)
one_waits None h = absurd (omega (arith, h))
one_waits (Some x) h = (x, refl)

-- by the edges that have come, it is not known what there is to remark of what waits
unknown_by : (a : Listener) (come left : List Edge) (ended : List Listed) (lines : List AuditLine) (x : Listed) → (w : IsAudited (come ++ left) a left ended lines) → waits a ≡ Some x → SaysAllKnown a
    → is_settled x (edges_of come w.done x) ≡ false
unknown_by a come left ended lines x w waits known =
    ap (is_settled x) (ap (gone_to x.begin) (w.stands come ∙ window) ∙ gone_twice a.from x.begin a.window.items) ∙ sym (ap (settled_by a) waits) ∙ known
  where
    same : come ≡ w.come
    same = append_cancel_right come w.come left w.all

    window : gone_to a.from come ≡ gone_to a.from a.window.items
    window = ap (gone_to a.from) (same ∙ sym (append-nil w.come)) ∙ w.window [] ∙ ap (gone_to a.from) (append-nil a.window.items)

pub two_told : {H : Type 0} (hears : H → List AuditLine → H → Type 0) (old new : Listener) (more : List Listed) (mid out : H) → SaysSome hears old more new mid out → SaysAllKnown new → TellsTwo old more
two_told hears old new more mid out some known = record {
  first = one.0;
  second = some.next;
  wait = λ come left ended so_far w.
      let n = some.says.audited (come ++ left) left ended so_far w in
      record {
        done = n.done;
        rest = some.rest;
        parts = ap (λ (xs : List Listed). ended ++ xs) some.parts ∙ sym (append_assoc ended some.heard (some.next ∷ some.rest))
            ∙ ap (λ (xs : List Listed). xs ++ (some.next ∷ some.rest)) (n.parts ∙ ap (λ (o : Option Listed). n.done ++ option_to_list o) one.1)
            ∙ append_assoc n.done (one.0 ∷ []) (some.next ∷ some.rest);
        unknown = unknown_by new come left (ended ++ some.heard) (so_far ++ some.says.lines) one.0 n one.1 known;
      };
}
  where
    one : (x : Listed) × (waits new ≡ Some x)
    one = one_waits (waits new) some.one

-- two of the readings that have ended are two of all
pub two_of_more : (come : List Edge) (first second : Listed) (xs ys : List Listed) → TwoWait come first second xs → TwoWait come first second (xs ++ ys)
two_of_more come first second xs ys w = record {
  done = w.done;
  rest = w.rest ++ ys;
  parts = ap (λ (zs : List Listed). zs ++ ys) w.parts ∙ append_assoc w.done (first ∷ second ∷ w.rest) ys;
  unknown = w.unknown;
}

-- ---- what is put

-- a text, or the front of it
abbrev pub IsPart : Option (List ℕ) → Option (List ℕ) → List ℕ → Type 0
IsPart old new text = (front : List ℕ) × (rest : List ℕ) × (text ≡ front ++ rest) × Appends old new front

put_part : (old new : Option (List ℕ)) (was is : Bool) (text : List ℕ) (written : Result ℕ WriteFault) → WrittenText old new was is text written → IsPart old new text
put_part old new was is text (Ok n) w = (text, [], sym (append-nil text), w.1)
put_part old new was is text (Err fault) w = let c = w.0 in (take c.0 text, drop c.0 text, sym (take-append-drop c.0 text), c.3)

put_all : (old new : Option (List ℕ)) (was is : Bool) (text : List ℕ) (written : Result ℕ WriteFault) (n : ℕ) → written ≡ Ok n → WrittenText old new was is text written → Appends old new text
put_all old new was is text (Ok m) n ok w = w.1
put_all old new was is text (Err fault) n ok w = cc

pub puts_all : {H : Type 0} (hears : H → List AuditLine → H → Type 0) {old new : Listener} {xs : List Listed} {a b : H} (noted is : Bool) (before after : Option (List ℕ)) (was stuck : Bool) (written : Result ℕ WriteFault) (n : ℕ) → written ≡ Ok n
    → (says : Says hears old xs new a b) → is ≡ (noted || has_remark says.lines) → WrittenText before after was stuck (lines_text old.view.written says.lines) written → PutsAll old xs new noted is before after
puts_all {H} hears {old} {new} {xs} {a} {b} noted is before after was stuck written n ok says remarked w = record {
  lines = says.lines;
  put = put_all before after was stuck (lines_text old.view.written says.lines) written n ok w;
  noted = remarked;
  view = says.view;
  audited = says.audited;
}

-- a text goes on after another
text_more : (view : AuditView) (xs ys : List AuditLine) → lines_text view.written (xs ++ ys) ≡ lines_text view.written xs ++ lines_text view.written ys
text_more view xs ys = flat_map-append (line_text view.written) xs ys

-- of these readings some were heard, and perhaps not all of that was put
pub puts_front : {H : Type 0} (hears : H → List AuditLine → H → Type 0) {old new : Listener} {xs : List Listed} {a b : H} (before after : Option (List ℕ)) (was is : Bool) (written : Result ℕ WriteFault) (ys : List Listed) → (says : Says hears old xs new a b)
    → WrittenText before after was is (lines_text old.view.written says.lines) written → PutsFront old (xs ++ ys) before after
puts_front {H} hears {old} {new} {xs} {a} {b} before after was is written ys says w =
    let part = put_part before after was is (lines_text old.view.written says.lines) written w in
    record {
      text = part.0;
      put = part.3;
      front = λ edges left ended so_far w end more.
          let same : IsFrontOf old.view edges (ended ++ xs) (lines_text old.view.written (so_far ++ says.lines)) =
          subst (λ (view : AuditView). IsFrontOf view edges (ended ++ xs) (lines_text view.written (so_far ++ says.lines))) says.view
          (audited_front edges new left (ended ++ xs) (so_far ++ says.lines) (says.audited edges left ended so_far w)) in
          let f = same end (ys ++ more) in
          let front = lines_text old.view.written so_far in (
            part.1 ++ f.0,
            ap (λ (zs : List Listed). audit_text old.view (record { edges = edges; end = end }) zs)
                (ap (λ (zs : List Listed). zs ++ more) (sym (append_assoc ended xs ys)) ∙ append_assoc (ended ++ xs) ys more)
                ∙ f.1 ∙ ap (λ (l : List ℕ). l ++ f.0) (text_more old.view so_far says.lines)
                ∙ ap (λ (l : List ℕ). (front ++ l) ++ f.0) part.2 ∙ ap (λ (l : List ℕ). l ++ f.0) (sym (append_assoc front part.0 part.1)) ∙ append_assoc (front ++ part.0) part.1 f.0,
          );
    }

pub puts_some : {H : Type 0} (hears : H → List AuditLine → H → Type 0) {old new : Listener} {more : List Listed} {a b : H} (before after : Option (List ℕ)) (was is : Bool) (written : Result ℕ WriteFault) → (some : SaysSome hears old more new a b)
    → WrittenText before after was is (lines_text old.view.written some.says.lines) written → PutsFront old more before after
puts_some {H} hears {old} {new} {more} {a} {b} before after was is written some w =
    subst (λ (zs : List Listed). PutsFront old zs before after) (sym some.parts) (puts_front hears before after was is written (some.next ∷ some.rest) some.says w)

pub puts_cut : {H : Type 0} (hears : H → List AuditLine → H → Type 0) {old new : Listener} {xs : List Listed} {a b : H} (before after : Option (List ℕ)) (was is : Bool) (written : Result ℕ WriteFault) → (says : Says hears old xs new a b)
    → WrittenText before after was is (lines_text old.view.written says.lines) written → PutsFront old xs before after
puts_cut {H} hears {old} {new} {xs} {a} {b} before after was is written says w = subst (λ (zs : List Listed). PutsFront old zs before after) (append-nil xs) (puts_front hears before after was is written [] says w)

-- ---- the end

-- what is said of all readings follows
whole_lines : (old mid : Listener) (xs : List Listed) (end : ℕ) (lines : List AuditLine) → mid.waiting ≡ None → mid.view ≡ old.view
    → ((edges : List Edge) (ended : List Listed) (so_far : List AuditLine) → IsAudited edges old [] ended so_far → IsAudited edges mid [] (ended ++ xs) (so_far ++ lines))
    → (edges : List Edge) (ended : List Listed) (so_far : List AuditLine) → IsAudited edges old [] ended so_far
    → audit_lines old.view.timing (record { edges = edges; end = end }) (ended ++ xs) ≡ so_far ++ (lines ++ summary_lines end (tape_at [] mid.auditor))
whole_lines old mid xs end lines none view says edges ended so_far w =
    ap (λ (zs : List Listed). audit_lines old.view.timing (record { edges = edges; end = end }) zs) parts
    ∙ ap₂ (λ (v : AuditView) (t : Tape). heard_all v.timing (first_tape edges) n.done ++ summary_lines end t) (sym view) (sym n.kept)
    ∙ ap (λ (l : List AuditLine). l ++ summary_lines end (tape_at [] mid.auditor)) (sym said)
    ∙ append_assoc so_far lines (summary_lines end (tape_at [] mid.auditor))
  where
    n : IsAudited edges mid [] (ended ++ xs) (so_far ++ lines)
    n = says edges ended so_far w

    parts : ended ++ xs ≡ n.done
    parts = n.parts ∙ ap (λ (o : Option Reading). n.done ++ option_to_list (option_map listed_as o)) none ∙ append-nil n.done

    said : so_far ++ lines ≡ heard_all mid.view.timing (first_tape edges) n.done
    said = n.said ∙ ap (λ (o : Option Reading). heard_all mid.view.timing (first_tape edges) n.done ++ line_of (option_map listed_as o)) none ∙ append-nil (heard_all mid.view.timing (first_tape edges) n.done)

-- what is heard up to the end
pub says_end : {H : Type 0} (hears : H → List AuditLine → H → Type 0) → AreBoth hears → {old mid : Listener} {xs : List Listed} {a b : H} (c : H) (end : ℕ) → SaysLast hears old xs mid a b → hears b (summary_lines end (tape_at [] mid.auditor)) c
    → SaysEnd hears old xs end a c
says_end {H} hears both {old} {mid} {xs} {a} {b} c end says last = record {
  lines = says.lines ++ summary_lines end (tape_at [] mid.auditor);
  put = both a b c says.lines (summary_lines end (tape_at [] mid.auditor)) says.put last;
  whole = whole_lines old mid xs end says.lines says.none says.view says.audited;
}

pub finishes_all : {H : Type 0} (hears : H → List AuditLine → H → Type 0) {old : Listener} {xs : List Listed} {a b : H} (noted is : Bool) (before after : Option (List ℕ)) (was stuck : Bool) (written : Result ℕ WriteFault) (n end : ℕ) → written ≡ Ok n
    → (says : SaysEnd hears old xs end a b) → is ≡ (noted || has_remark says.lines) → WrittenText before after was stuck (lines_text old.view.written says.lines) written → PutsLast old xs end noted is before after
finishes_all {H} hears {old} {xs} {a} {b} noted is before after was stuck written n end ok says remarked w = record {
  lines = says.lines;
  put = put_all before after was stuck (lines_text old.view.written says.lines) written n ok w;
  noted = remarked;
  whole = says.whole;
}

pub finishes_front : {H : Type 0} (hears : H → List AuditLine → H → Type 0) {old : Listener} {xs : List Listed} {a b : H} (before after : Option (List ℕ)) (was is : Bool) (written : Result ℕ WriteFault) (end : ℕ) → (says : SaysEnd hears old xs end a b)
    → WrittenText before after was is (lines_text old.view.written says.lines) written → PutsCut old xs end before after
finishes_front {H} hears {old} {xs} {a} {b} before after was is written end says w =
    let part = put_part before after was is (lines_text old.view.written says.lines) written w in
    record {
      text = part.0;
      rest = part.1;
      put = part.3;
      whole = λ edges ended so_far w.
          ap (lines_text old.view.written) (says.whole edges ended so_far w) ∙ text_more old.view so_far says.lines ∙ ap (λ (l : List ℕ). lines_text old.view.written so_far ++ l) part.2;
    }
