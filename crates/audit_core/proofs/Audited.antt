-- A capture whose readings are heard edge by edge.
use Rattle.std.proofs.Common.{◌≡◌, ℕ, suc, ◌+◌, ◌<◌, ◌≤◌, Bool, true, false, nat_lt, if◌then◌else◌, zero, ◌-◌, ◌&&◌, List, [], ◌∷◌, ◌++◌, length, get_or, drop, Option, append_assoc, refl, arith, ap, ◌∙◌, sym, subst}
use Rattle.std.proofs.Math.Seq.{drop-cons}
use Rattle.std.proofs.Math.ListN.{drop_of_length-le}
use Rattle.std.specs.Option.{option_to_list}
use Rattle.std.proofs.lemmas.Bool.Decides.{nat_tests}
use Rattle.line_wave.specs.declared.Edge.{Edge}
use Rattle.line_wave.specs.Line.{Line, was_low}
use Rattle.line_reading.specs.declared.times.Windows.{Windows}
use Rattle.line_reading.specs.Readings.{Listed}
use Rattle.capture_core.specs.Edges.{AreInTurn, Captured, EndBy, IsCapture, level_at, line_of_edges}
use Rattle.capture_core.proofs.Recording.{before_turn}
use Rattle.capture_monitor.specs.declared.monitor.Monitor.{Monitor as Watcher}
use Rattle.capture_monitor.specs.Monitor.{HeardBeforeBy, FollowsEdgeBy, FollowsEndBy}
use Rattle.capture_monitor.specs.ReadBy.{ended_before_by, readings_by}
use Rattle.audit_notes.specs.Lines.{AuditLine}
use Rattle.audit_core.specs.Audit.{Tape, after, after_all, audit_lines, first_tape, heard_all, heard_lines, summary_lines}
use Rattle.line_wave.proofs.Waves.{was_now}

-- ---- readings, one after another

pub after_more : (t : Tape) (xs ys : List Listed) → after_all t (xs ++ ys) ≡ after_all (after_all t xs) ys
after_more t [] ys = refl
after_more t (x ∷ xs) ys = after_more (after x t) xs ys

heard_more : (timing : Bool) (t : Tape) (xs ys : List Listed) → heard_all timing t (xs ++ ys) ≡ heard_all timing t xs ++ heard_all timing (after_all t xs) ys
heard_more timing t [] ys = refl
heard_more timing t (x ∷ xs) ys =
    ap (λ (l : List AuditLine). heard_lines timing t x ++ l) (heard_more timing (after x t) xs ys)
    ∙ sym (append_assoc (heard_lines timing t x) (heard_all timing (after x t) xs) (heard_all timing (after_all (after x t) xs) ys))

-- lines after lines are heard
abbrev pub Both : {V : Type 0} → (V → List AuditLine → V → Type 0) → Type 0
Both {V} hears = (a b c : V) (xs ys : List AuditLine) → hears a xs b → hears b ys c → hears a (xs ++ ys) c

-- what is heard of readings goes on with what is kept of them
pub record GoesOn {T : Type 0} (lines : T → List Listed → List AuditLine) (next : T → List Listed → T) : Type 0 where
  pub no_lines : (t : T) → lines t [] ≡ []
  pub no_next : (t : T) → next t [] ≡ t
  pub more_lines : (t : T) (xs ys : List Listed) → lines t (xs ++ ys) ≡ lines t xs ++ lines (next t xs) ys
  pub more_next : (t : T) (xs ys : List Listed) → next t (xs ++ ys) ≡ next (next t xs) ys

pub audits_go_on : (timing : Bool) → GoesOn (heard_all timing) after_all
audits_go_on timing = record { no_lines = λ t. refl; no_next = λ t. refl; more_lines = heard_more timing; more_next = after_more }

-- no edge comes past the end
pub edge_early : (edges : List Edge) (end k : ℕ) (none : Edge) → EndBy end edges → k < length edges → (get_or edges k none).at ≤ end
edge_early [] end k none h l = absurd (omega arith)
edge_early (e ∷ edges) end zero none h l = h.0
edge_early (e ∷ edges) end (suc k) none h l = edge_early edges end k none h.1 (omega arith)

-- ---- the edges up to these are told, and what has ended before the next one is heard

pub record Told {V T : Type 0} (hears : V → List AuditLine → V → Type 0) (lines : T → List Listed → List AuditLine) (next : T → List Listed → T) (first : T) (win : Windows) (c : Captured) (left : List Edge) (m : Watcher) (state : T) (old now : V) : Type 0 where
  pub is_low : Bool
  pub from : ℕ
  pub level : (u : ℕ) → from ≤ u → line_of_edges c.edges u ≡ level_at is_low left u
  pub before : was_low (line_of_edges c.edges) from ≡ is_low
  pub turn : AreInTurn is_low from left
  pub ends : EndBy c.end left
  pub reach : from ≤ c.end + 1
  pub heard : HeardBeforeBy win m (line_of_edges c.edges) from
  pub kept : state ≡ next first (ended_before_by win (line_of_edges c.edges) from)
  pub wrote : hears old (lines first (ended_before_by win (line_of_edges c.edges) from)) now

pub told_first : {V T : Type 0} (hears : V → List AuditLine → V → Type 0) (lines : T → List Listed → List AuditLine) (next : T → List Listed → T) (goes : GoesOn lines next) (first : T) (win : Windows) (c : Captured) (m : Watcher) (state : T) (old : V)
    → hears old [] old → IsCapture c.edges c.end → ((low : Line) → HeardBeforeBy win m low 0) → state ≡ first → Told hears lines next first win c c.edges m state old old
unfolding ended_before_by
told_first hears lines next goes first win c m state old none is heard same = record {
  is_low = false;
  from = 0;
  level = λ u l. refl;
  before = let x : nat_lt 0 0 ≡ false = grind (arith, nat_tests) in ap (λ b. b && line_of_edges c.edges (0 - 1)) x;
  turn = is.turn;
  ends = is.ends;
  reach = omega arith;
  heard = heard (line_of_edges c.edges);
  kept = same ∙ sym (goes.no_next first);
  wrote = subst (λ (ls : List AuditLine). hears old ls old) (sym (goes.no_lines first)) none;
}

-- what is reported next, and what is heard of it
more_written : {V T : Type 0} (hears : V → List AuditLine → V → Type 0) (both : Both hears) (lines : T → List Listed → List AuditLine) (next : T → List Listed → T) (goes : GoesOn lines next) (t state : T) (xs ys : List Listed) (old mid out : V) → state ≡ next t xs
    → hears old (lines t xs) mid → hears mid (lines state ys) out → hears old (lines t (xs ++ ys)) out
more_written hears both lines next goes t state xs ys old mid out kept wrote more =
    subst (λ (z : List AuditLine). hears old z out)
    (ap (λ s. lines t xs ++ lines s ys) kept ∙ sym (goes.more_lines t xs ys))
    (both old mid out (lines t xs) (lines state ys) wrote more)

more_kept : {T : Type 0} (lines : T → List Listed → List AuditLine) (next : T → List Listed → T) (goes : GoesOn lines next) (t state new : T) (xs ys : List Listed) → state ≡ next t xs → new ≡ next state ys → new ≡ next t (xs ++ ys)
more_kept lines next goes t state new xs ys kept more = more ∙ ap (λ s. next s ys) kept ∙ sym (goes.more_next t xs ys)

pub told_more : {V T : Type 0} (hears : V → List AuditLine → V → Type 0) (both : Both hears) (lines : T → List Listed → List AuditLine) (next : T → List Listed → T) (goes : GoesOn lines next) (first : T) (win : Windows) (c : Captured) (left rest : List Edge) (m new : Watcher) (e : Edge) (reported : Option Listed) (state later : T) (old mid out : V)
    → Told hears lines next first win c left m state old mid → left ≡ e ∷ rest → FollowsEdgeBy win m e reported new → later ≡ next state (option_to_list reported) → hears mid (lines state (option_to_list reported)) out
    → Told hears lines next first win c rest new later old out
told_more hears both lines next goes first win c left rest m new e reported state later old mid out told cut follows kept writes = record {
  is_low = e.low;
  from = e.at + 1;
  level = λ u l. past u (omega arith);
  before = was_now low e.at ∙ now_is;
  turn = w.turn.2;
  ends = w.ends.1;
  reach = let last = w.ends.0 in omega (arith, last);
  heard = d.0;
  kept = subst (λ (xs : List Listed). later ≡ next first xs) (sym ended) (more_kept lines next goes first state later (ended_before_by win low w.from) (option_to_list reported) w.kept kept);
  wrote = subst (λ (xs : List Listed). hears old (lines first xs) out) (sym ended)
      (more_written hears both lines next goes first state (ended_before_by win low w.from) (option_to_list reported) old mid out w.kept w.wrote writes);
}
  where
    low : Line
    low = line_of_edges c.edges

    w : Told hears lines next first win c (e ∷ rest) m state old mid
    w = subst (λ (l : List Edge). Told hears lines next first win c l m state old mid) cut told

    after_it : w.from ≤ e.at
    after_it = w.turn.1

    calm : (u : ℕ) → w.from ≤ u → u < e.at → line_of_edges c.edges u ≡ m.receiver.receiver.was_low
    calm u l s = w.level u l ∙ ap (λ b. if b then w.is_low else level_at e.low rest u) (let x : nat_lt u e.at ≡ true = grind (arith, nat_tests) in x) ∙ sym w.before ∙ sym w.heard.stood.level

    past : (u : ℕ) → e.at ≤ u → line_of_edges c.edges u ≡ level_at e.low rest u
    past u l = w.level u (omega (arith, after_it)) ∙ ap (λ b. if b then w.is_low else level_at e.low rest u) (let x : nat_lt u e.at ≡ false = grind (arith, nat_tests) in x)

    now_is : line_of_edges c.edges e.at ≡ e.low
    now_is = past e.at (omega arith) ∙ before_turn e.low (e.at + 1) rest w.turn.2 e.at (omega arith)

    d : HeardBeforeBy win new (line_of_edges c.edges) (e.at + 1) × (ended_before_by win (line_of_edges c.edges) (suc e.at) ≡ ended_before_by win (line_of_edges c.edges) w.from ++ option_to_list reported)
    d = follows (line_of_edges c.edges) w.from w.heard after_it calm now_is

    ended : ended_before_by win (line_of_edges c.edges) (e.at + 1) ≡ ended_before_by win (line_of_edges c.edges) w.from ++ option_to_list reported
    ended = ap (ended_before_by win (line_of_edges c.edges)) (let x : e.at + 1 ≡ suc e.at = omega arith in x) ∙ d.1

-- the end of a capture
pub told_end : {V T : Type 0} (hears : V → List AuditLine → V → Type 0) (both : Both hears) (lines : T → List Listed → List AuditLine) (next : T → List Listed → T) (goes : GoesOn lines next) (first : T) (win : Windows) (c : Captured) (left : List Edge) (m : Watcher) (reported : Option Listed) (state later : T) (old mid out : V)
    → Told hears lines next first win c left m state old mid → left ≡ [] → FollowsEndBy win m c.end reported → later ≡ next state (option_to_list reported) → hears mid (lines state (option_to_list reported)) out
    → hears old (lines first (readings_by win (line_of_edges c.edges) c.end)) out × (later ≡ next first (readings_by win (line_of_edges c.edges) c.end))
told_end hears both lines next goes first win c left m reported state later old mid out told none follows kept writes = (
  subst (λ (xs : List Listed). hears old (lines first xs) out) (sym read)
      (more_written hears both lines next goes first state (ended_before_by win (line_of_edges c.edges) w.from) (option_to_list reported) old mid out w.kept w.wrote writes),
  subst (λ (xs : List Listed). later ≡ next first xs) (sym read) (more_kept lines next goes first state later (ended_before_by win (line_of_edges c.edges) w.from) (option_to_list reported) w.kept kept),
)
  where
    w : Told hears lines next first win c [] m state old mid
    w = subst (λ (l : List Edge). Told hears lines next first win c l m state old mid) none told

    read : readings_by win (line_of_edges c.edges) c.end ≡ ended_before_by win (line_of_edges c.edges) w.from ++ option_to_list reported
    read = follows (line_of_edges c.edges) w.from w.heard w.reach (λ u k s. w.level u k ∙ sym w.before ∙ sym w.heard.stood.level)

-- of an audit
pub audited_end : {V : Type 0} (hears : V → List AuditLine → V → Type 0) (both : Both hears) (win : Windows) (c : Captured) (timing : Bool) (later : Tape) (old out last : V)
    → hears old (heard_all timing (first_tape c.edges) (readings_by win (line_of_edges c.edges) c.end)) out × (later ≡ after_all (first_tape c.edges) (readings_by win (line_of_edges c.edges) c.end))
    → hears out (summary_lines c.end later) last → hears old (audit_lines timing c (readings_by win (line_of_edges c.edges) c.end)) last
audited_end hears both win c timing later old out last told ends =
    subst (λ (t : Tape). hears old (heard_all timing (first_tape c.edges) (readings_by win (line_of_edges c.edges) c.end) ++ summary_lines c.end t) last) told.1
    (both old out last (heard_all timing (first_tape c.edges) (readings_by win (line_of_edges c.edges) c.end)) (summary_lines c.end later) told.0 ends)

-- the next edge of a list
pub next_edge : (edges : List Edge) (k : ℕ) (none : Edge) → k < length edges → drop k edges ≡ get_or edges k none ∷ drop (k + 1) edges
next_edge edges k none l = drop-cons edges k none l ∙ ap (λ n. get_or edges k none ∷ drop n edges) (let x : suc k ≡ k + 1 = omega arith in x)

pub no_edge : (edges : List Edge) (k : ℕ) → length edges ≤ k → drop k edges ≡ []
no_edge edges k l = drop_of_length-le edges l
