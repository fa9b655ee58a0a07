-- A capture that is followed over a reader and a sink.
use Rattle.std.proofs.Common.{map, ◌≡◌, ℕ, ◌+◌, Bool, true, false, List, [], ◌∷◌, ◌++◌, length, length-append, take, drop, Option, Some, None, IfSome, Ok, Err, Result, All, refl, sym, ap, subst, ◌∙◌, append_assoc, append-nil, take-append-drop, arith}
use Rattle.std.specs.Io.KnownBytes.{Appends, IsAtEnd, Keeps, append_known, prepend_known}
use Rattle.std.proofs.KnownBytes.{Appends-kept, Appends-nil, Appends-trans}
use Rattle.std.proofs.lemmas.List.Elements.{All-append, All-cons, All-nil}
use Rattle.text_core.specs.declared.buffered.Buffered.{Buffered}
use Rattle.text_core.specs.Lines.{lines_of}
use Rattle.text_core.specs.Cut.{WrittenText}
use Rattle.text_core.specs.declared.sink.WriteFault.{WriteFault}
use Rattle.text_core.specs.declared.at.At.{At}
use Rattle.follow_core.specs.declared.reception.Reception.{Reception}
use Rattle.capture_core.specs.declared.fault.Cause.{Cause}
use Rattle.capture_forms.specs.Captures.{capture_in}
use Rattle.follow_core.specs.declared.view.ReadingView.{ReadingView}
use Rattle.audit_notes.specs.Lines.{AuditLine, lines_text}
use Rattle.capture_core.specs.Edges.{Captured}
use Rattle.live_incoming.specs.Incoming.{IsNext, IsWhole, Leads, text_of_lines}
use Rattle.follow_core.specs.Follow.{AreFirst, Come, Ends, Follows, HasHeard, HaveCome, Hears, HearsEnd, HearsLine, IsCut, IsCutLast, IsFollowed, IsFront, IsOfWriting, IsOverBy, IsPrompt, IsReady, IsTextOf, IsUpToDate, holding, received_of, start_of, starts_at}
use Rattle.follow_core.specs.Shown.{Puts, Shows, ShowsLast, start_by}
use Rattle.follow_core.specs.declared.follower.LastReadings.{LastReadings}
use Rattle.follow_core.specs.declared.shown.Shown.{Shown as Held}
use Rattle.follow_core.specs.declared.shown.Starts.{Starts}
use Rattle.follow_core.specs.Follow.{IsWhole as IsAll}
use Rattle.follow_core.specs.Lines.{form_as, lines_captured}
use Rattle.follow_core.specs.declared.error.FollowError.{FollowError}
use Rattle.follow_core.specs.declared.error.FollowError.TheVariants.{Capture, Read, TooLong, Write}
use Rattle.follow_core.specs.declared.follower.Follower.{Follower}
use Rattle.follow_core.specs.declared.follower.EndedReadings.{EndedReadings}
use Rattle.follow_core.specs.declared.lines.LineForm.{LineForm}
use Rattle.follow_core.specs.declared.lines.LineForm.TheVariants as forms
use Rattle.follow_core.proofs.Followed.{followed_front, lines_again, made_whole}
use Rattle.follow_core.proofs.Showing.{shown_once}

-- ---- what is put

-- lines, by another name
pub heard_as : {H : Type 0} (hears : H → List AuditLine → H → Type 0) (a b : H) (xs ys : List AuditLine) → xs ≡ ys → hears a xs b → hears a ys b
heard_as hears a b xs ys same heard = subst (λ (ls : List AuditLine). hears a ls b) same heard

-- a text, by another name
pub puts_whole : (old new : Option (List ℕ)) (was is : Bool) (text other : List ℕ) (done : Result ℕ WriteFault) (n : ℕ) → done ≡ Ok n → text ≡ other → WrittenText old new was is text done → Puts {F = WriteFault} old new other (Ok tt)
puts_whole old new was is text other (Ok m) n ok same w = subst (λ t. Appends old new t) same w.1
puts_whole old new was is text other (Err fault) n ok same w = cc

pub puts_cut : (old new : Option (List ℕ)) (was is : Bool) (text other : List ℕ) (done : Result ℕ WriteFault) (fault : WriteFault) → done ≡ Err fault → text ≡ other → WrittenText old new was is text done → Puts {F = WriteFault} old new other (Err fault)
puts_cut old new was is text other (Ok m) fault failed same w = cc
puts_cut old new was is text other (Err f) fault failed same w = let c = w.0 in (take c.0 text, drop c.0 text, sym same ∙ sym (take-append-drop c.0 text), c.3)

-- what was put is handed on
pub puts_cut_on : (old mid new : Option (List ℕ)) (text : List ℕ) (done : Result (Unit {0}) WriteFault) (fault : WriteFault) (error : FollowError) → done ≡ Err fault → Puts old mid text done → Keeps mid new → Puts old new text (Err error)
puts_cut_on old mid new text (Ok none) fault error is p k = cc
puts_cut_on old mid new text (Err other) fault error is p k = (p.0, p.1, p.2, Appends-kept old mid new p.0 p.3 k)

pub puts_on_cut : (old mid new : Option (List ℕ)) (text : List ℕ) (done : Result (Unit {0}) WriteFault) (error : FollowError) → done ≡ Ok tt → Puts old mid text done → Keeps mid new → Puts old new text (Err error)
puts_on_cut old mid new text (Ok none) error is p k = (text, [], sym (append-nil text), Appends-kept old mid new text p k)
puts_on_cut old mid new text (Err other) error is p k = cc

pub puts_on : (old mid new : Option (List ℕ)) (text : List ℕ) (done : Result (Unit {0}) WriteFault) → done ≡ Ok tt → Puts old mid text done → Keeps mid new → Puts {F = FollowError} old new text (Ok tt)
puts_on old mid new text (Ok none) is p k = Appends-kept old mid new text p k
puts_on old mid new text (Err other) is p k = cc

-- ---- what is shown, by what the follower knows

starts_as : (s : Starts) (before now : Option ℕ) → s.before ≡ before → s.now ≡ now → s ≡ record { before = before; now = now }
starts_as s before now e f =
    let one : (let r : Starts = record { before = s.before; now = s.now } in r) ≡ record { before = before; now = s.now } =
    ap (λ o. let r : Starts = record { before = o; now = s.now } in r) e in
    let two : (let r : Starts = record { before = before; now = s.now } in r) ≡ record { before = before; now = now } =
    ap (λ o. let r : Starts = record { before = before; now = o } in r) f in
    one ∙ two

pub shows_as : (view : ReadingView) (starts : Starts) (old : Follower) (now : Option ℕ) (held : Held) (heard : EndedReadings) (new : Held) (done : List AuditLine) → starts.before ≡ start_of view.from_idle old → starts.now ≡ now → held ≡ old.shown
    → Shows view.folds starts held heard new done → Shows view.folds (starts_at view.from_idle old now) old.shown heard new done
shows_as view starts old now held heard new done before known kept shows =
    subst (λ (s : Starts). Shows view.folds s old.shown heard new done) (starts_as starts (start_of view.from_idle old) now before known)
    (subst (λ (h : Held). Shows view.folds starts h heard new done) kept shows)

pub shows_last_as : (view : ReadingView) (starts : Starts) (old : Follower) (now : Option ℕ) (held : Held) (heard : EndedReadings) (done : List AuditLine) → starts.before ≡ start_of view.from_idle old → starts.now ≡ now → held ≡ old.shown
    → ShowsLast view.folds starts held heard done → ShowsLast view.folds (starts_at view.from_idle old now) old.shown heard done
shows_last_as view starts old now held heard done before known kept shows =
    subst (λ (s : Starts). ShowsLast view.folds s old.shown heard done) (starts_as starts (start_of view.from_idle old) now before known)
    (subst (λ (h : Held). ShowsLast view.folds starts h heard done) kept shows)

-- ---- a line

-- of a text of which all is a front, each front is one
front_less : (more : Bool) (form : LineForm) (signal : List ℕ) (view : ReadingView) (how : Reception) (past : List (List ℕ)) (text front rest : List ℕ) → text ≡ front ++ rest → (so_far : List ℕ) → IsFront more form signal view how past (so_far ++ text) → IsFront more form signal view how past (so_far ++ front)
front_less more form signal view how past text front rest is so_far h = λ left c whole all read shown.
    let f = h left c whole all read shown in
    (rest ++ f.0, f.1 ∙ ap (λ t. (so_far ++ t) ++ f.0) is ∙ ap (λ t. t ++ f.0) (sym (append_assoc so_far front rest)) ∙ append_assoc (so_far ++ front) rest f.0)

pub hears : (view : ReadingView) (signal : List ℕ) (number : ℕ) (line : List ℕ) (old new : Follower) (heard : EndedReadings) (shown : Held) (before after : Option (List ℕ)) (result : Result (Unit {0}) FollowError) → HearsLine signal number line old (Ok heard) new → IsPrompt new
    → (done : List AuditLine) → Shows view.folds (starts_at view.from_idle old (start_of view.from_idle new)) old.shown heard shown done
    → Puts before after (lines_text view.written done) result → IsOfWriting result → Hears view signal number line old (holding new shown) before after result
hears view signal number line old new heard shown before after (Ok none) h prompt done shows put writes = record {
  text = lines_text view.written done;
  put = put;
  followed = λ form how past so_far w. h form view how past so_far shown done w shows;
  prompt = prompt;
}
hears view signal number line old new heard shown before after (Err (Capture fault)) h prompt done shows put writes = absurd writes
hears view signal number line old new heard shown before after (Err Read) h prompt done shows put writes = absurd writes
hears view signal number line old new heard shown before after (Err TooLong) h prompt done shows put writes = absurd writes
hears view signal number line old new heard shown before after (Err (Write count)) h prompt done shows put writes = record {
  text = put.0;
  left = put.1;
  put = put.3;
  followed = λ form how past so_far w. subst (λ t. IsFollowed form signal view how (past ++ line ∷ []) (number + 1) (holding new shown) (so_far ++ t)) put.2 (h form view how past so_far shown done w shows);
  prompt = prompt;
}

pub fault_heard : (view : ReadingView) (signal : List ℕ) (number : ℕ) (line : List ℕ) (old new : Follower) (bytes : Option (List ℕ)) (fault : At Cause) → HearsLine signal number line old (Err fault) new → fault.line ≡ number
    → Hears view signal number line old new bytes bytes (Err (Capture fault))
fault_heard view signal number line old new bytes fault h place = record { put = Appends-nil bytes; place = place; refused = h }

-- ---- the end

whole_front : (form : LineForm) (signal : List ℕ) (view : ReadingView) (how : Reception) (past : List (List ℕ)) (text : List ℕ) → IsAll form signal view how past text → IsFront false form signal view how past text
whole_front form signal view how past text w = λ rest c all none read shown.
    let same : Ok w.capture ≡ Ok c = sym w.read ∙ ap (received_of how form signal) (sym (append-nil past) ∙ ap (λ ls. past ++ ls) (sym none)) ∙ read in
    let is : w.capture ≡ c = cc in
    ([], shown_once view how c all text shown (subst (λ (x : Captured). IsTextOf view how x text) is w.all) ∙ sym (append-nil text))

pub ends : (view : ReadingView) (number : ℕ) (f : Follower) (last : LastReadings) (before after : Option (List ℕ)) (result : Result (Unit {0}) FollowError) → HearsEnd number f (Ok last)
    → (done : List AuditLine) → ShowsLast view.folds (starts_at view.from_idle f (start_by view.from_idle (Some last.idle))) f.shown last.ended done
    → Puts before after (lines_text view.written done) result → IsOfWriting result → Ends view number f before after result
ends view number f last before after (Ok none) h done shows put writes = record { text = lines_text view.written done; put = put; all = λ form signal how past so_far w. h form signal view how past so_far done w shows }
ends view number f last before after (Err (Capture fault)) h done shows put writes = absurd writes
ends view number f last before after (Err Read) h done shows put writes = absurd writes
ends view number f last before after (Err TooLong) h done shows put writes = absurd writes
ends view number f last before after (Err (Write count)) h done shows put writes = record {
  text = put.0;
  left = put.1;
  put = put.3;
  all = λ form signal how past so_far w. subst (λ t. IsAll form signal view how past (so_far ++ t)) put.2 (h form signal view how past so_far done w shows);
}

pub fault_ends : (view : ReadingView) (number : ℕ) (f : Follower) (bytes : Option (List ℕ)) (fault : At Cause) → HearsEnd number f (Err fault) → fault.line ≡ number → Ends view number f bytes bytes (Err (Capture fault))
fault_ends view number f bytes fault h place = record { put = Appends-nil bytes; place = place; refused = h }

-- ---- an input

-- what a sink that hands on holds
abbrev pub held : {S : Type 0} → (S → Option (List ℕ)) → Buffered S → Option (List ℕ)
held contents b = append_known (contents b.sink) b.pending.items

-- a line was handed out, or none is left
pub next_line : (old new : Option (List ℕ)) (line : List ℕ) (more : Bool) → more ≡ true → IsNext old new line (Ok more) → Leads old new line
next_line old new line true is h = h
next_line old new line false is h = cc

pub next_end : (old new : Option (List ℕ)) (line : List ℕ) (more : Bool) → more ≡ false → IsNext old new line (Ok more) → IsAtEnd old
next_end old new line true is h = cc
next_end old new line false is h = h

pub record Going (form : LineForm) (signal : List ℕ) (view : ReadingView) (how : Reception) (known now before after : Option (List ℕ)) (f : Follower) (number : ℕ) : Type 0 where
  pub past : List (List ℕ)
  pub count : number ≡ length past + 1
  pub text : List ℕ
  pub come : Come known now past
  pub whole : All IsWhole past
  pub followed : IsFollowed form signal view how past number f text
  pub prompt : IsPrompt f
  pub ready : IsReady f
  pub put : Appends before after text

nothing_pending : (known : Option (List ℕ)) → prepend_known [] known ≡ known
nothing_pending None = refl
nothing_pending (Some xs) = refl

come_none : (known : Option (List ℕ)) → Come known known []
come_none None = tt
come_none (Some xs) = refl

pub going_first : (form : LineForm) (signal : List ℕ) (view : ReadingView) (how : Reception) (known before : Option (List ℕ)) (left : List ℕ) (f : Follower) → left ≡ [] → IsFollowed form signal view how [] 1 f [] → IsPrompt f → IsReady f → Going form signal view how known (prepend_known left known) before before f 1
going_first form signal view how known before left f none w prompt ready = record {
  past = [];
  count = refl;
  text = [];
  come = subst (λ (now : Option (List ℕ)). Come known now []) (sym (ap (λ l. prepend_known l known) none ∙ nothing_pending known)) (come_none known);
  whole = All-nil IsWhole;
  followed = w;
  prompt = prompt;
  ready = ready;
  put = Appends-nil before;
}

come_more : (known now next : Option (List ℕ)) (past : List (List ℕ)) (line : List ℕ) → Come known now past → Leads now next line → Come known next (past ++ line ∷ [])
come_more None now next past line a b = tt
come_more (Some xs) None next past line a b = absurd a
come_more (Some xs) (Some ys) None past line a b = absurd b
come_more (Some xs) (Some ys) (Some zs) past line a b = a ∙ ap (λ ls. past ++ ls) b ∙ sym (append_assoc past (line ∷ []) (lines_of zs))

pub going_more : (form : LineForm) (signal : List ℕ) (view : ReadingView) (how : Reception) (known now next before mid after : Option (List ℕ)) (old new : Follower) (number : ℕ) (line : List ℕ) → Going form signal view how known now before mid old number → IsWhole line → Leads now next line
    → HasHeard view signal number line old new mid after → IsReady new → Going form signal view how known next before after new (number + 1)
going_more form signal view how known now next before mid after old new number line g whole leads h ready = record {
  past = g.past ++ line ∷ [];
  count = let more : length (g.past ++ line ∷ []) ≡ length g.past + 1 = length-append g.past (line ∷ []) in let count = g.count in omega (arith, more, count);
  text = g.text ++ h.text;
  come = come_more known now next g.past line g.come leads;
  whole = All-append IsWhole g.past (line ∷ []) g.whole (All-cons IsWhole line [] whole (All-nil IsWhole));
  followed = h.followed form how g.past g.text g.followed;
  prompt = h.prompt;
  ready = ready;
  put = Appends-trans before mid after g.text h.text g.put h.put;
}

-- the lines that have come are the first of those of the input
pub came_first : (known now : Option (List ℕ)) (past : List (List ℕ)) → Come known now past → AreFirst known past
came_first None now past a = tt
came_first (Some xs) None past a = absurd a
came_first (Some xs) (Some ys) past a = (lines_of ys, a)

-- or all of them
came_all : (known now : Option (List ℕ)) (past : List (List ℕ)) → Come known now past → IsAtEnd now → HaveCome known past None
came_all None now past a end = tt
came_all (Some xs) None past a end = absurd a
came_all (Some xs) (Some ys) past a end = a ∙ ap (λ t. past ++ lines_of t) end ∙ append-nil past

-- each reading that is over is written
pub up_to_date : (form : LineForm) (signal : List ℕ) (view : ReadingView) (how : Reception) (known now before mid after : Option (List ℕ)) (f : Follower) (number : ℕ) → (g : Going form signal view how known now before mid f number) → Appends mid after []
    → IsUpToDate form signal view how g.past before after
up_to_date form signal view how known now before mid after f number g none = record {
  follower = f;
  text = g.text;
  followed = subst (λ n. IsFollowed form signal view how g.past n f g.text) g.count g.followed;
  prompt = g.prompt;
  front = followed_front form signal view how g.past number f g.text g.followed;
  put = subst (λ t. Appends before after t) (append-nil g.text) (Appends-trans before mid after g.text [] g.put none);
}

-- an input in a form, by its lines
by_lines : (form : LineForm) (signal text : List ℕ) → capture_in (form_as form) signal text ≡ lines_captured form signal (lines_of text)
by_lines forms.Edges signal text = refl
by_lines forms.Pin signal text = refl
by_lines forms.Csv signal text = refl

-- a fault is that of the input
abbrev IsFaultOf : LineForm → List ℕ → Option (List ℕ) → At Cause → Type 0
IsFaultOf form signal known fault = IfSome known (λ text. capture_in (form_as form) signal text ≡ Err fault)

refused_line : (form : LineForm) (signal : List ℕ) (known now next : Option (List ℕ)) (past : List (List ℕ)) (line : List ℕ) (fault : At Cause) → Come known now past → Leads now next line
    → ((rest : List (List ℕ)) → lines_captured form signal (past ++ line ∷ rest) ≡ Err fault) → IsFaultOf form signal known fault
refused_line form signal None now next past line fault a b refused = tt
refused_line form signal (Some xs) None next past line fault a b refused = absurd a
refused_line form signal (Some xs) (Some ys) None past line fault a b refused = absurd b
refused_line form signal (Some xs) (Some ys) (Some zs) past line fault a b refused =
    by_lines form signal xs ∙ ap (lines_captured form signal) (a ∙ ap (λ ls. past ++ ls) b) ∙ refused (lines_of zs)

refused_end : (form : LineForm) (signal : List ℕ) (known now : Option (List ℕ)) (past : List (List ℕ)) (fault : At Cause) → Come known now past → IsAtEnd now → lines_captured form signal past ≡ Err fault → IsFaultOf form signal known fault
refused_end form signal None now past fault a end refused = tt
refused_end form signal (Some xs) None past fault a end refused = absurd a
refused_end form signal (Some xs) (Some ys) past fault a end refused =
    by_lines form signal xs ∙ ap (lines_captured form signal) (a ∙ ap (λ t. past ++ lines_of t) end ∙ append-nil past) ∙ refused

-- what is over by a line of which the write failed
cut_over : (form : LineForm) (signal : List ℕ) (view : ReadingView) (how : Reception) (known now before mid after : Option (List ℕ)) (old new : Follower) (number : ℕ) (line : List ℕ) → (g : Going form signal view how known now before mid old number)
    → (h : IsCut view signal number line old new mid after) → IsOverBy form signal view how g.past (Some line) (g.text ++ (h.text ++ h.left)) (g.text ++ h.text)
cut_over form signal view how known now before mid after old new number line g h =
    let w : IsFollowed form signal view how (g.past ++ line ∷ []) (number + 1) new (g.text ++ (h.text ++ h.left)) = h.followed form how g.past g.text g.followed in (
      new,
      subst (λ n. IsFollowed form signal view how (g.past ++ line ∷ []) (n + 1) new (g.text ++ (h.text ++ h.left))) g.count w,
      h.prompt,
      front_less true form signal view how (g.past ++ line ∷ []) (h.text ++ h.left) h.text h.left refl g.text (followed_front form signal view how (g.past ++ line ∷ []) (number + 1) new (g.text ++ (h.text ++ h.left)) w),
    )

-- or with the end
cut_last : (form : LineForm) (signal : List ℕ) (view : ReadingView) (how : Reception) (known now before mid after : Option (List ℕ)) (f : Follower) (number : ℕ) → (g : Going form signal view how known now before mid f number) → (h : IsCutLast view number f mid after)
    → IsOverBy form signal view how g.past None (g.text ++ (h.text ++ h.left)) (g.text ++ h.text)
cut_last form signal view how known now before mid after f number g h =
    let all : IsAll form signal view how g.past (g.text ++ (h.text ++ h.left)) = h.all form signal how g.past g.text g.followed in
    (all, front_less false form signal view how g.past (h.text ++ h.left) h.text h.left refl g.text (whole_front form signal view how g.past (g.text ++ (h.text ++ h.left)) all))

-- a line that stops it
pub line_stops : (form : LineForm) (signal : List ℕ) (view : ReadingView) (how : Reception) (known now next before mid after : Option (List ℕ)) (old new : Follower) (number : ℕ) (line : List ℕ) (error : FollowError) → Going form signal view how known now before mid old number
    → Leads now next line → Hears view signal number line old new mid after (Err error) → Follows form signal view how known before after (Err error)
line_stops form signal view how known now next before mid after old new number line (Capture fault) g leads h = record {
  past = g.past;
  next = Some line;
  came = came_first known next (g.past ++ line ∷ []) (come_more known now next g.past line g.come leads);
  place = h.place ∙ g.count;
  refused = h.refused form view how g.past g.text g.followed;
  read = refused_line form signal known now next g.past line fault g.come leads (h.refused form view how g.past g.text g.followed);
  written = up_to_date form signal view how known now before mid after old number g h.put;
}
line_stops form signal view how known now next before mid after old new number line (Write count) g leads h = record {
  past = g.past;
  next = Some line;
  came = came_first known next (g.past ++ line ∷ []) (come_more known now next g.past line g.come leads);
  follower = old;
  text = g.text;
  followed = subst (λ n. IsFollowed form signal view how g.past n old g.text) g.count g.followed;
  prompt = g.prompt;
  front = h.text;
  left = h.left;
  over = cut_over form signal view how known now before mid after old new number line g h;
  put = Appends-trans before mid after g.text h.text g.put h.put;
}
line_stops form signal view how known now next before mid after old new number line Read g leads h = absurd h
line_stops form signal view how known now next before mid after old new number line TooLong g leads h = absurd h

-- no line is left
input_of : (form : LineForm) (known now : Option (List ℕ)) (past : List (List ℕ)) → Come known now past → All IsWhole past → IsAtEnd now
    → (input : List ℕ) × IfSome known (λ text. input ≡ text) × (lines_of input ≡ past)
input_of form None now past a whole end = (text_of_lines past, tt, lines_again past whole)
input_of form (Some xs) None past a whole end = absurd a
input_of form (Some xs) (Some ys) past a whole end = (xs, refl, a ∙ ap (λ t. past ++ lines_of t) end ∙ append-nil past)

pub end_stops : (form : LineForm) (signal : List ℕ) (view : ReadingView) (how : Reception) (known now before mid after : Option (List ℕ)) (f : Follower) (number : ℕ) (result : Result (Unit {0}) FollowError) → Going form signal view how known now before mid f number → IsAtEnd now
    → Ends view number f mid after result → Follows form signal view how known before after result
end_stops form signal view how known now before mid after f number (Ok done) g end h =
    let all = h.all form signal how g.past g.text g.followed in
    let input = input_of form known now g.past g.come g.whole end in
    let raw = made_whole how (lines_captured form signal g.past) all.capture all.read in
    record {
      input = input.0;
      all = input.1;
      capture = raw.0;
      read = by_lines form signal input.0 ∙ ap (lines_captured form signal) input.2 ∙ raw.1;
      text = g.text ++ h.text;
      is = subst (λ (x : Captured). IsTextOf view how x (g.text ++ h.text)) raw.2 all.all;
      put = Appends-trans before mid after g.text h.text g.put h.put;
    }
end_stops form signal view how known now before mid after f number (Err (Capture fault)) g end h = record {
  past = g.past;
  next = None;
  came = came_all known now g.past g.come end;
  place = h.place ∙ g.count;
  refused = h.refused form signal view how g.past g.text g.followed;
  read = refused_end form signal known now g.past fault g.come end (h.refused form signal view how g.past g.text g.followed);
  written = up_to_date form signal view how known now before mid after f number g h.put;
}
end_stops form signal view how known now before mid after f number (Err (Write count)) g end h = record {
  past = g.past;
  next = None;
  came = came_all known now g.past g.come end;
  follower = f;
  text = g.text;
  followed = subst (λ n. IsFollowed form signal view how g.past n f g.text) g.count g.followed;
  prompt = g.prompt;
  front = h.text;
  left = h.left;
  over = cut_last form signal view how known now before mid after f number g h;
  put = Appends-trans before mid after g.text h.text g.put h.put;
}
end_stops form signal view how known now before mid after f number (Err Read) g end h = absurd h
end_stops form signal view how known now before mid after f number (Err TooLong) g end h = absurd h
