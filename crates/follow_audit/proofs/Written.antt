-- A capture that is followed over a reader and a sink, with what there is to remark.
use Rattle.std.proofs.Common.{◌≡◌, inr, ℕ, ◌+◌, Bool, true, false, List, [], ◌∷◌, ◌++◌, length, length-append, Option, Some, None, IfSome, Ok, Err, Result, All, refl, sym, ap, subst, ◌∙◌, append_assoc, append-nil, arith}
use Rattle.std.specs.Io.KnownBytes.{Appends, IsAtEnd, Keeps, append_known, prepend_known}
use Rattle.std.proofs.KnownBytes.{Appends-kept, Appends-nil, Appends-trans}
use Rattle.std.proofs.lemmas.List.Elements.{All-append, All-cons, All-nil}
use Rattle.text_core.specs.declared.buffered.Buffered.{Buffered}
use Rattle.text_core.specs.Lines.{lines_of}
use Rattle.text_core.specs.declared.at.At.{At}
use Rattle.follow_core.specs.Follow.{received_of}
use Rattle.follow_core.specs.declared.reception.Reception.{Reception}
use Rattle.capture_core.specs.Edges.{Captured}
use Rattle.capture_core.specs.declared.fault.Cause.{Cause}
use Rattle.capture_forms.specs.Captures.{capture_in}
use Rattle.live_incoming.specs.Incoming.{IsNext, IsWhole, Leads, text_of_lines}
use Rattle.live_incoming.specs.declared.incoming.IncomingFault.{IncomingFault}
use Rattle.live_incoming.specs.declared.incoming.IncomingFault.TheVariants as line_fault
use Rattle.follow_core.specs.Follow.{AreFirst, AreLeft, Come, HaveCome, LongLinesAreTooMuch}
use Rattle.follow_core.specs.Lines.{form_as, lines_captured}
use Rattle.follow_core.specs.declared.lines.LineForm.{LineForm}
use Rattle.follow_core.specs.declared.lines.LineForm.TheVariants as forms
use Rattle.follow_audit.specs.Follow.{BeginsWithTwo, Ends, Follows, HasBegun, HasCut, HasHeard, HasStopped, Hears, HoldsNothing, IsFollowed, IsHandedOn, IsPrompt, IsReady, IsUpToDate, LeavesAlone, kind_of, line_error, lines_in, text_of}
use Rattle.follow_audit.specs.declared.error.FollowAuditError.{FollowAuditError}
use Rattle.follow_audit.specs.declared.error.FollowAuditError.TheVariants.{Capture, Memory, Read, TooLong, Waiting, Write}
use Rattle.follow_audit.specs.declared.follower.AuditFollower.{AuditFollower}
use Rattle.follow_audit.specs.declared.view.AuditView.{AuditView}
use Rattle.audit_notes.specs.Lines.{AuditLine, has_remark, line_text, lines_text}
use Rattle.audit_notes.specs.Hearing.{both_found}
use Rattle.std.proofs.lemmas.Grind.{flat_map-append}
use Rattle.follow_core.proofs.Followed.{made_whole}
use Rattle.follow_audit.proofs.Followed.{followed_front, lines_again}

-- ---- what was put is handed on

-- an error stands in the place of one that differs in its count
line_as : (signal : List ℕ) (number : ℕ) (line : List ℕ) (old new : AuditFollower) (before after : Option (List ℕ)) (error : FollowAuditError) → Hears signal number line old new before after (Err error)
    → Hears signal number line old new before after (Err (kind_of error))
line_as signal number line old new before after (Write count) h = h
line_as signal number line old new before after (Capture fault) h = h
line_as signal number line old new before after Read h = h
line_as signal number line old new before after TooLong h = h
line_as signal number line old new before after Waiting h = h
line_as signal number line old new before after Memory h = h

as_line : (signal : List ℕ) (number : ℕ) (line : List ℕ) (old new : AuditFollower) (before after : Option (List ℕ)) (error : FollowAuditError) → Hears signal number line old new before after (Err (kind_of error))
    → Hears signal number line old new before after (Err error)
as_line signal number line old new before after (Write count) h = h
as_line signal number line old new before after (Capture fault) h = h
as_line signal number line old new before after Read h = h
as_line signal number line old new before after TooLong h = h
as_line signal number line old new before after Waiting h = h
as_line signal number line old new before after Memory h = h

end_as : (number : ℕ) (f : AuditFollower) (before after : Option (List ℕ)) (error : FollowAuditError) → Ends number f before after (Err error) → Ends number f before after (Err (kind_of error))
end_as number f before after (Write count) h = h
end_as number f before after (Capture fault) h = h
end_as number f before after Read h = h
end_as number f before after TooLong h = h
end_as number f before after Waiting h = h
end_as number f before after Memory h = h

as_end : (number : ℕ) (f : AuditFollower) (before after : Option (List ℕ)) (error : FollowAuditError) → Ends number f before after (Err (kind_of error)) → Ends number f before after (Err error)
as_end number f before after (Write count) h = h
as_end number f before after (Capture fault) h = h
as_end number f before after Read h = h
as_end number f before after TooLong h = h
as_end number f before after Waiting h = h
as_end number f before after Memory h = h

-- the text of lines after lines, as a follower writes them
text_more : (view : AuditView) (xs ys : List AuditLine) → lines_text view.written (xs ++ ys) ≡ lines_text view.written xs ++ lines_text view.written ys
text_more view xs ys = flat_map-append (line_text view.written) xs ys

text_of_both : (f : AuditFollower) (view : AuditView) (xs ys : List AuditLine) → f.listener.view ≡ view → lines_text view.written (xs ++ ys) ≡ lines_text view.written xs ++ lines_text f.listener.view.written ys
text_of_both f view xs ys same = text_more view xs ys ∙ ap (λ (v : AuditView). lines_text view.written xs ++ lines_text v.written ys) (sym same)

-- put after others, they are all
put_more : (f : AuditFollower) (view : AuditView) (before mid after : Option (List ℕ)) (xs ys : List AuditLine) → f.listener.view ≡ view → Appends before mid (lines_text view.written xs) → Appends mid after (lines_text f.listener.view.written ys)
    → Appends before after (lines_text view.written (xs ++ ys))
put_more f view before mid after xs ys same first second =
    subst (λ t. Appends before after t) (sym (text_of_both f view xs ys same)) (Appends-trans before mid after (lines_text view.written xs) (lines_text f.listener.view.written ys) first second)

pub heard_handed : (signal : List ℕ) (number : ℕ) (line : List ℕ) (old new : AuditFollower) (before mid after : Option (List ℕ)) → Hears signal number line old new before mid (Ok tt) → Keeps mid after
    → Hears signal number line old new before after (Ok tt)
heard_handed signal number line old new before mid after h k = record { heard = h.heard; put = Appends-kept before mid after (lines_text old.listener.view.written h.heard) h.put k; followed = h.followed; prompt = h.prompt }

stop_kept : (signal : List ℕ) (number : ℕ) (line : List ℕ) (old : AuditFollower) (before mid after : Option (List ℕ)) → HasStopped signal number line old before mid → Keeps mid after → HasStopped signal number line old before after
stop_kept signal number line old before mid after h k = record { text = h.text; put = Appends-kept before mid after h.text h.put k; front = h.front }

line_kept : (signal : List ℕ) (number : ℕ) (line : List ℕ) (old new : AuditFollower) (before mid after : Option (List ℕ)) (error : FollowAuditError) → Hears signal number line old new before mid (Err error) → Keeps mid after
    → Hears signal number line old new before after (Err error)
line_kept signal number line old new before mid after (Capture fault) h k = record { put = Appends-kept before mid after [] h.put k; place = h.place; refused = h.refused }
line_kept signal number line old new before mid after (Write count) h k = stop_kept signal number line old before mid after h k
line_kept signal number line old new before mid after Waiting h k = (stop_kept signal number line old before mid after h.0 k, h.1)
line_kept signal number line old new before mid after Memory h k = stop_kept signal number line old before mid after h k
line_kept signal number line old new before mid after Read h k = h
line_kept signal number line old new before mid after TooLong h k = h

pub stopped_handed : (signal : List ℕ) (number : ℕ) (line : List ℕ) (old new : AuditFollower) (before mid after : Option (List ℕ)) (error other : FollowAuditError) → Hears signal number line old new before mid (Err error) → Keeps mid after
    → kind_of other ≡ kind_of error → Hears signal number line old new before after (Err other)
stopped_handed signal number line old new before mid after error other h k same =
    as_line signal number line old new before after other
    (subst (λ (e : FollowAuditError). Hears signal number line old new before after (Err e)) (sym same) (line_as signal number line old new before after error (line_kept signal number line old new before mid after error h k)))

-- all was put, but not handed on
pub heard_stopped : (signal : List ℕ) (number : ℕ) (line : List ℕ) (old new : AuditFollower) (before mid after : Option (List ℕ)) (count : ℕ) → Hears signal number line old new before mid (Ok tt) → Keeps mid after
    → Hears signal number line old new before after (Err (Write count))
heard_stopped signal number line old new before mid after count h k = record {
  text = lines_text old.listener.view.written h.heard;
  put = Appends-kept before mid after (lines_text old.listener.view.written h.heard) h.put k;
  front = λ form how view past so_far w rest c left read.
      let f = followed_front form signal how view (past ++ line ∷ []) (number + 1) new (so_far ++ h.heard) (h.followed form how view past so_far w) rest c left read in
      (f.0, f.1 ∙ ap (λ t. t ++ f.0) (text_of_both old view so_far h.heard w.viewed));
}

pub end_handed : (number : ℕ) (f : AuditFollower) (before mid after : Option (List ℕ)) (is : Bool) → Ends number f before mid (Ok is) → Keeps mid after → Ends number f before after (Ok is)
end_handed number f before mid after is h k = record { heard = h.heard; put = Appends-kept before mid after (lines_text f.listener.view.written h.heard) h.put k; noted = h.noted; all = h.all }

cut_kept : (number : ℕ) (f : AuditFollower) (before mid after : Option (List ℕ)) → HasCut number f before mid → Keeps mid after → HasCut number f before after
cut_kept number f before mid after h k = record { text = h.text; put = Appends-kept before mid after h.text h.put k; front = h.front }

end_kept : (number : ℕ) (f : AuditFollower) (before mid after : Option (List ℕ)) (error : FollowAuditError) → Ends number f before mid (Err error) → Keeps mid after → Ends number f before after (Err error)
end_kept number f before mid after (Capture fault) h k = record { put = Appends-kept before mid after [] h.put k; place = h.place; refused = h.refused }
end_kept number f before mid after (Write count) h k = cut_kept number f before mid after h k
end_kept number f before mid after Waiting h k = h
end_kept number f before mid after Memory h k = cut_kept number f before mid after h k
end_kept number f before mid after Read h k = h
end_kept number f before mid after TooLong h k = h

pub cut_handed : (number : ℕ) (f : AuditFollower) (before mid after : Option (List ℕ)) (error other : FollowAuditError) → Ends number f before mid (Err error) → Keeps mid after → kind_of other ≡ kind_of error
    → Ends number f before after (Err other)
cut_handed number f before mid after error other h k same =
    as_end number f before after other
    (subst (λ (e : FollowAuditError). Ends number f before after (Err e)) (sym same) (end_as number f before after error (end_kept number f before mid after error h k)))

-- with a fault of the capture nothing is put
pub alone_pending : {S : Type 0} (error : FollowAuditError) (old new : Buffered S) → LeavesAlone error old new → LeavesAlone error old.pending.items new.pending.items
alone_pending {S} (Capture fault) old new h = ap (λ (b : Buffered S). b.pending.items) h
alone_pending {S} Read old new h = ap (λ (b : Buffered S). b.pending.items) h
alone_pending {S} TooLong old new h = ap (λ (b : Buffered S). b.pending.items) h
alone_pending {S} Waiting old new h = tt
alone_pending {S} Memory old new h = tt
alone_pending {S} (Write count) old new h = tt

pub handed_alone : (error : FollowAuditError) (old new : List ℕ) → LeavesAlone error old new → old ≡ [] → IsHandedOn error new
handed_alone (Capture fault) old new h none = h ∙ none
handed_alone Read old new h none = h ∙ none
handed_alone TooLong old new h none = h ∙ none
handed_alone Waiting old new h none = tt
handed_alone Memory old new h none = tt
handed_alone (Write count) old new h none = tt

pub handed_after : {A : Type 0} (result : Result A FollowAuditError) (old mid new : List ℕ) → (old ≡ [] → mid ≡ []) → HoldsNothing result mid new → HoldsNothing result old new
handed_after {A} (Ok done) old mid new before h = tt
handed_after {A} (Err error) old mid new before h = λ none. h (before none)

same_capture : (r : Result Captured (At Cause)) (a b : Captured) → r ≡ Ok a → r ≡ Ok b → a ≡ b
same_capture (Ok d) a b x y = cc
same_capture (Err f) a b x y = cc

pub end_stopped : (number : ℕ) (f : AuditFollower) (before mid after : Option (List ℕ)) (is : Bool) (count : ℕ) → Ends number f before mid (Ok is) → Keeps mid after → Ends number f before after (Err (Write count))
end_stopped number f before mid after is count h k = record {
  text = lines_text f.listener.view.written h.heard;
  put = Appends-kept before mid after (lines_text f.listener.view.written h.heard) h.put k;
  front = λ form signal how view past so_far w rest c none read.
      let whole = h.all form signal how view past so_far w in
      let same = same_capture (received_of how form signal past) whole.capture c whole.read (ap (received_of how form signal) (sym (append-nil past) ∙ ap (λ ls. past ++ ls) (sym none)) ∙ read) in
      let text = lines_text view.written so_far ++ lines_text f.listener.view.written h.heard in
      ([], ap (text_of view how.windows) (sym same) ∙ ap (lines_text view.written) whole.all ∙ text_of_both f view so_far h.heard w.viewed ∙ sym (append-nil text));
}

-- ---- an input

-- what a sink that hands on holds
abbrev pub held : {S : Type 0} → (S → Option (List ℕ)) → Buffered S → Option (List ℕ)
held contents b = append_known (contents b.sink) b.pending.items

-- a line was handed out, or none is left
pub next_line : (old new : Option (List ℕ)) (line : List ℕ) (more : Bool) → more ≡ true → IsNext old new line (Ok more) → Leads old new line
next_line old new line true is h = h
next_line old new line false is h = cc

pub next_end : (old new : Option (List ℕ)) (line : List ℕ) (more : Bool) → more ≡ false → IsNext old new line (Ok more) → IsAtEnd old
next_end old new line true is h = cc
next_end old new line false is h = h

pub record Going (form : LineForm) (signal : List ℕ) (how : Reception) (view : AuditView) (known now before after : Option (List ℕ)) (f : AuditFollower) (number : ℕ) : Type 0 where
  pub past : List (List ℕ)
  pub count : number ≡ length past + 1
  pub heard : List AuditLine
  pub come : Come known now past
  pub whole : All IsWhole past
  pub followed : IsFollowed form signal how view past number f heard
  pub prompt : IsPrompt f
  pub ready : IsReady f
  pub put : Appends before after (lines_text view.written heard)

nothing_pending : (known : Option (List ℕ)) → prepend_known [] known ≡ known
nothing_pending None = refl
nothing_pending (Some xs) = refl

come_none : (known : Option (List ℕ)) → Come known known []
come_none None = tt
come_none (Some xs) = refl

pub going_first : (form : LineForm) (signal : List ℕ) (how : Reception) (view : AuditView) (known before : Option (List ℕ)) (left : List ℕ) (f : AuditFollower) → left ≡ [] → IsFollowed form signal how view [] 1 f [] → IsPrompt f → IsReady f
    → Going form signal how view known (prepend_known left known) before before f 1
going_first form signal how view known before left f none w prompt ready = record {
  past = [];
  count = refl;
  heard = [];
  come = subst (λ (now : Option (List ℕ)). Come known now []) (sym (ap (λ l. prepend_known l known) none ∙ nothing_pending known)) (come_none known);
  whole = All-nil IsWhole;
  followed = w;
  prompt = prompt;
  ready = ready;
  put = Appends-nil before;
}

come_more : (known now next : Option (List ℕ)) (past : List (List ℕ)) (line : List ℕ) → Come known now past → Leads now next line → Come known next (past ++ line ∷ [])
come_more None now next past line a b = tt
come_more (Some xs) None next past line a b = absurd a
come_more (Some xs) (Some ys) None past line a b = absurd b
come_more (Some xs) (Some ys) (Some zs) past line a b = a ∙ ap (λ ls. past ++ ls) b ∙ sym (append_assoc past (line ∷ []) (lines_of zs))

count_more : (past : List (List ℕ)) (line : List ℕ) (number : ℕ) → number ≡ length past + 1 → number + 1 ≡ length (past ++ line ∷ []) + 1
count_more past line number count =
    let more : length (past ++ line ∷ []) ≡ length past + 1 = length-append past (line ∷ []) in
    omega (arith, more, count)

pub going_more : (form : LineForm) (signal : List ℕ) (how : Reception) (view : AuditView) (known now next before mid after : Option (List ℕ)) (old new : AuditFollower) (number : ℕ) (line : List ℕ) → Going form signal how view known now before mid old number → IsWhole line
    → Leads now next line → HasHeard signal number line old new mid after → IsReady new → Going form signal how view known next before after new (number + 1)
going_more form signal how view known now next before mid after old new number line g whole leads h ready = record {
  past = g.past ++ line ∷ [];
  count = count_more g.past line number g.count;
  heard = g.heard ++ h.heard;
  come = come_more known now next g.past line g.come leads;
  whole = All-append IsWhole g.past (line ∷ []) g.whole (All-cons IsWhole line [] whole (All-nil IsWhole));
  followed = h.followed form how view g.past g.heard g.followed;
  prompt = h.prompt;
  ready = ready;
  put = put_more old view before mid after g.heard h.heard g.followed.viewed g.put h.put;
}

-- the lines that have come are the first of those of the input
came_first : (known now : Option (List ℕ)) (past : List (List ℕ)) → Come known now past → AreFirst known past
came_first None now past a = tt
came_first (Some xs) None past a = absurd a
came_first (Some xs) (Some ys) past a = (lines_of ys, a)

-- or all of them
came_all : (known now : Option (List ℕ)) (past : List (List ℕ)) → Come known now past → IsAtEnd now → HaveCome known past None
came_all None now past a end = tt
came_all (Some xs) None past a end = absurd a
came_all (Some xs) (Some ys) past a end = a ∙ ap (λ t. past ++ lines_of t) end ∙ append-nil past

-- so many of them, or all
came_some : (known now : Option (List ℕ)) (past : List (List ℕ)) → Come known now past → IfSome known (λ text. (rest : List (List ℕ)) × (lines_of text ≡ past ++ rest) × AreLeft true rest)
came_some None now past a = tt
came_some (Some xs) None past a = absurd a
came_some (Some xs) (Some ys) past a = (lines_of ys, a, tt)

came_whole : (known now : Option (List ℕ)) (past : List (List ℕ)) → Come known now past → IsAtEnd now → IfSome known (λ text. (rest : List (List ℕ)) × (lines_of text ≡ past ++ rest) × AreLeft false rest)
came_whole None now past a end = tt
came_whole (Some xs) None past a end = absurd a
came_whole (Some xs) (Some ys) past a end = ([], a ∙ ap (λ t. past ++ lines_of t) end, refl)

-- all is written that they say
up_to_date : (form : LineForm) (signal : List ℕ) (how : Reception) (view : AuditView) (known now before mid after : Option (List ℕ)) (f : AuditFollower) (number : ℕ) → (g : Going form signal how view known now before mid f number) → Appends mid after []
    → IsUpToDate form signal how view g.past before after
up_to_date form signal how view known now before mid after f number g none = record {
  follower = f;
  heard = g.heard;
  followed = subst (λ n. IsFollowed form signal how view g.past n f g.heard) g.count g.followed;
  prompt = g.prompt;
  front = followed_front form signal how view g.past number f g.heard g.followed;
  put = subst (λ t. Appends before after t) (append-nil (lines_text view.written g.heard)) (Appends-trans before mid after (lines_text view.written g.heard) [] g.put none);
}

-- an input in a form, by its lines
by_lines : (form : LineForm) (signal text : List ℕ) → capture_in (form_as form) signal text ≡ lines_captured form signal (lines_of text)
by_lines forms.Edges signal text = refl
by_lines forms.Pin signal text = refl
by_lines forms.Csv signal text = refl

-- a fault is that of the input
abbrev IsFaultOf : LineForm → List ℕ → Option (List ℕ) → At Cause → Type 0
IsFaultOf form signal known fault = IfSome known (λ text. capture_in (form_as form) signal text ≡ Err fault)

refused_line : (form : LineForm) (signal : List ℕ) (known now next : Option (List ℕ)) (past : List (List ℕ)) (line : List ℕ) (fault : At Cause) → Come known now past → Leads now next line
    → ((rest : List (List ℕ)) → lines_captured form signal (past ++ line ∷ rest) ≡ Err fault) → IsFaultOf form signal known fault
refused_line form signal None now next past line fault a b refused = tt
refused_line form signal (Some xs) None next past line fault a b refused = absurd a
refused_line form signal (Some xs) (Some ys) None past line fault a b refused = absurd b
refused_line form signal (Some xs) (Some ys) (Some zs) past line fault a b refused =
    by_lines form signal xs ∙ ap (lines_captured form signal) (a ∙ ap (λ ls. past ++ ls) b) ∙ refused (lines_of zs)

refused_end : (form : LineForm) (signal : List ℕ) (known now : Option (List ℕ)) (past : List (List ℕ)) (fault : At Cause) → Come known now past → IsAtEnd now → lines_captured form signal past ≡ Err fault → IsFaultOf form signal known fault
refused_end form signal None now past fault a end refused = tt
refused_end form signal (Some xs) None past fault a end refused = absurd a
refused_end form signal (Some xs) (Some ys) past fault a end refused =
    by_lines form signal xs ∙ ap (lines_captured form signal) (a ∙ ap (λ t. past ++ lines_of t) end ∙ append-nil past) ∙ refused

-- a line that stops it
abbrev line_begun : (form : LineForm) (signal : List ℕ) (how : Reception) (view : AuditView) (known now next before mid after : Option (List ℕ)) (old : AuditFollower) (number : ℕ) (line : List ℕ) → Going form signal how view known now before mid old number
    → Leads now next line → HasStopped signal number line old mid after → HasBegun form signal how view known before after
line_begun form signal how view known now next before mid after old number line g leads h = record {
  past = g.past ++ line ∷ [];
  more = true;
  came = came_some known next (g.past ++ line ∷ []) (come_more known now next g.past line g.come leads);
  text = lines_text view.written g.heard ++ h.text;
  front = h.front form how view g.past g.heard g.followed;
  put = Appends-trans before mid after (lines_text view.written g.heard) h.text g.put h.put;
}

pub line_stops : (form : LineForm) (signal : List ℕ) (how : Reception) (view : AuditView) (known now next before mid after : Option (List ℕ)) (old new : AuditFollower) (number : ℕ) (line : List ℕ) (error : FollowAuditError)
    → Going form signal how view known now before mid old number → Leads now next line → Hears signal number line old new mid after (Err error) → Follows form signal how view known before after (Err error)
line_stops form signal how view known now next before mid after old new number line (Capture fault) g leads h = record {
  past = g.past;
  next = Some line;
  came = came_first known next (g.past ++ line ∷ []) (come_more known now next g.past line g.come leads);
  place = h.place ∙ g.count;
  refused = h.refused form how view g.past g.heard g.followed;
  read = refused_line form signal known now next g.past line fault g.come leads (h.refused form how view g.past g.heard g.followed);
  written = up_to_date form signal how view known now before mid after old number g h.put;
}
line_stops form signal how view known now next before mid after old new number line (Write count) g leads h = line_begun form signal how view known now next before mid after old number line g leads h
line_stops form signal how view known now next before mid after old new number line Waiting g leads h =
    record {
      begun = line_begun form signal how view known now next before mid after old number line g leads h.0;
      two = let two = h.1 form how view g.past g.heard g.followed in subst (λ n. BeginsWithTwo form signal how (g.past ++ line ∷ []) n) (count_more g.past line number g.count) two;
    }
line_stops form signal how view known now next before mid after old new number line Memory g leads h = line_begun form signal how view known now next before mid after old number line g leads h
line_stops form signal how view known now next before mid after old new number line Read g leads h = absurd h
line_stops form signal how view known now next before mid after old new number line TooLong g leads h = absurd h

-- nothing more is read
reading_stops : (form : LineForm) (signal : List ℕ) (how : Reception) (view : AuditView) (known now before after : Option (List ℕ)) (f : AuditFollower) (number : ℕ) → Going form signal how view known now before after f number
    → Follows form signal how view known before after (Err Read)
reading_stops form signal how view known now before after f number g = record {
  past = g.past;
  came = came_first known now g.past g.come;
  written = up_to_date form signal how view known now before after after f number g (Appends-nil after);
}

-- a line is too long
length_stops : (too_long : LongLinesAreTooMuch) (form : LineForm) (signal : List ℕ) (how : Reception) (view : AuditView) (known now next before after : Option (List ℕ)) (f : AuditFollower) (number : ℕ) (line : List ℕ)
    → Going form signal how view known now before after f number → IsNext now next line (Err line_fault.TooLong) → Follows form signal how view known before after (Err TooLong)
length_stops too_long form signal how view known now next before after f number line g h = record {
  past = g.past;
  over = too_long known now next g.past line g.come h;
  written = up_to_date form signal how view known now before after after f number g (Appends-nil after);
}

-- no line could be read
pub line_fails : (too_long : LongLinesAreTooMuch) (form : LineForm) (signal : List ℕ) (how : Reception) (view : AuditView) (known now next before after : Option (List ℕ)) (f : AuditFollower) (number : ℕ) (line : List ℕ) (fault : IncomingFault)
    → Going form signal how view known now before after f number → IsNext now next line (Err fault) → Follows form signal how view known before after (Err (line_error fault))
line_fails too_long form signal how view known now next before after f number line line_fault.Read g h = reading_stops form signal how view known now before after f number g
line_fails too_long form signal how view known now next before after f number line line_fault.TooLong g h = length_stops too_long form signal how view known now next before after f number line g h

pub line_handed : (fault : IncomingFault) (error : FollowAuditError) (pending : List ℕ) → error ≡ line_error fault → pending ≡ [] → IsHandedOn error pending
line_handed line_fault.Read error pending is none = subst (λ (e : FollowAuditError). IsHandedOn e pending) (sym is) none
line_handed line_fault.TooLong error pending is none = subst (λ (e : FollowAuditError). IsHandedOn e pending) (sym is) none

-- as many lines as are counted
pub lines_run_out : (form : LineForm) (signal : List ℕ) (how : Reception) (view : AuditView) (known now before after : Option (List ℕ)) (f : AuditFollower) (number : ℕ) → Going form signal how view known now before after f number
    → number ≡ 18446744073709551615 + 1 → Follows form signal how view known before after (Err TooLong)
lines_run_out form signal how view known now before after f number g last = record {
  past = g.past;
  over = inr (let count = g.count in omega (arith, count, last), came_first known now g.past g.come);
  written = up_to_date form signal how view known now before after after f number g (Appends-nil after);
}

-- no line is left
input_of : (form : LineForm) (known now : Option (List ℕ)) (past : List (List ℕ)) → Come known now past → All IsWhole past → IsAtEnd now
    → (input : List ℕ) × IfSome known (λ text. input ≡ text) × (lines_of input ≡ past)
input_of form None now past a whole end = (text_of_lines past, tt, lines_again past whole)
input_of form (Some xs) None past a whole end = absurd a
input_of form (Some xs) (Some ys) past a whole end = (xs, refl, a ∙ ap (λ t. past ++ lines_of t) end ∙ append-nil past)

end_begun : (form : LineForm) (signal : List ℕ) (how : Reception) (view : AuditView) (known now before mid after : Option (List ℕ)) (f : AuditFollower) (number : ℕ) → Going form signal how view known now before mid f number → IsAtEnd now
    → HasCut number f mid after → HasBegun form signal how view known before after
end_begun form signal how view known now before mid after f number g end h = record {
  past = g.past;
  more = false;
  came = came_whole known now g.past g.come end;
  text = lines_text view.written g.heard ++ h.text;
  front = h.front form signal how view g.past g.heard g.followed;
  put = Appends-trans before mid after (lines_text view.written g.heard) h.text g.put h.put;
}

pub end_stops : (form : LineForm) (signal : List ℕ) (how : Reception) (view : AuditView) (known now before mid after : Option (List ℕ)) (f : AuditFollower) (number : ℕ) (result : Result Bool FollowAuditError)
    → Going form signal how view known now before mid f number → IsAtEnd now → Ends number f mid after result → Follows form signal how view known before after result
end_stops form signal how view known now before mid after f number (Ok is) g end h =
    let all = h.all form signal how view g.past g.heard g.followed in
    let input = input_of form known now g.past g.come g.whole end in
    let raw = made_whole how (lines_captured form signal g.past) all.capture all.read in
    record {
      input = input.0;
      all = input.1;
      capture = raw.0;
      read = by_lines form signal input.0 ∙ ap (lines_captured form signal) input.2 ∙ raw.1;
      put = subst (λ (ls : List AuditLine). Appends before after (lines_text view.written ls)) (sym all.all ∙ ap (lines_in view how.windows) raw.2) (put_more f view before mid after g.heard h.heard g.followed.viewed g.put h.put);
      noted = both_found false f.remarked is g.heard h.heard g.followed.noted h.noted ∙ ap has_remark (sym all.all ∙ ap (lines_in view how.windows) raw.2);
    }
end_stops form signal how view known now before mid after f number (Err (Capture fault)) g end h = record {
  past = g.past;
  next = None;
  came = came_all known now g.past g.come end;
  place = h.place ∙ g.count;
  refused = h.refused form signal how view g.past g.heard g.followed;
  read = refused_end form signal known now g.past fault g.come end (h.refused form signal how view g.past g.heard g.followed);
  written = up_to_date form signal how view known now before mid after f number g h.put;
}
end_stops form signal how view known now before mid after f number (Err (Write count)) g end h = end_begun form signal how view known now before mid after f number g end h
end_stops form signal how view known now before mid after f number (Err Waiting) g end h = absurd h
end_stops form signal how view known now before mid after f number (Err Memory) g end h = end_begun form signal how view known now before mid after f number g end h
end_stops form signal how view known now before mid after f number (Err Read) g end h = absurd h
end_stops form signal how view known now before mid after f number (Err TooLong) g end h = absurd h
