use Rattle.std.proofs.Common.{rules, ◌≡◌, false, true, ◌++◌, length, map, Ok, ap, subst, sym, ◌∙◌, arith}
use Rattle.std.proofs.lemmas.Bool.{MatchBool-at_false, MatchBool-at_true}
use Rattle.edid_texts.specs.Cut.{lines_with_feeds}
use Rattle.edid_texts.specs.Drafts.{draft_lines, draft_of}
use Rattle.edid_texts.specs.Refusal.{IsFaultAt}
use Rattle.edid_text_lines.specs.Text.{line_text}
use Rattle.edid_texts.proofs.Alike.{refusal, refusal_at_end}
use Rattle.edid_texts.proofs.FirstBad.{no_lines_reported, bad_by, unread, misplaced, unfinished, lines_so, count_so, one_more_reported, few_reported, no_bad, cut_again, found_text, only_one}
use Rattle.edid_texts.proofs.parse.parse_text.Goals as goal

pub loop-line-init : goal.loop-line-init
loop-line-init c =
    let none = c.new-draft.ensures in
    let len = ap length none in
    record {
      lines = ap (λ ls. map line_text ls ++ lines_with_feeds c.args.text.now) (sym none);
      count = omega (arith, len);
      few = omega arith;
      reported = no_lines_reported (draft_lines (draft_of c.new-draft.result)) none;
    }

pub returns-in_default-read_line-clause-only : goal.returns-in_default-read_line-clause-only
returns-in_default-read_line-clause-only c =
    let i = c.loop-line.invariant in
    let d = draft_of c.loop-line.draft in
    let all = lines_with_feeds c.args.text.now in
    let line = c.in-Some.line.now in
    let more = lines_with_feeds c.in-Some.more.now in
    let lines = i.lines ∙ ap (λ x. map line_text (draft_lines d) ++ x) c.in-Some.ensures.lines in
    let none = unread (draft_lines d) c.in-Some.line.now c.in_default-read_line.ensures.only in
    λ e h. absurd (no_bad all c.loop-line.number (bad_by d all line more c.loop-line.number i.reported lines i.count none) e (cut_again e c.args.text.now h))

pub returns-in_default-read_line-clause-refused : goal.returns-in_default-read_line-clause-refused
returns-in_default-read_line-clause-refused c =
    let i = c.loop-line.invariant in
    let d = draft_of c.loop-line.draft in
    let all = lines_with_feeds c.args.text.now in
    let line = c.in-Some.line.now in
    let more = lines_with_feeds c.in-Some.more.now in
    let lines = i.lines ∙ ap (λ x. map line_text (draft_lines d) ++ x) c.in-Some.ensures.lines in
    let none = unread (draft_lines d) c.in-Some.line.now c.in_default-read_line.ensures.only in
    let at = subst (λ p. IsFaultAt p line c.loop-line.number c.fault.result) c.place-place.ensures c.fault.ensures in
    refusal d all line more c.loop-line.number c.fault.result i.reported lines i.count none at

pub returns-then-not-put-clause-only : goal.returns-then-not-put-clause-only
returns-then-not-put-clause-only c =
    let i = c.loop-line.invariant in
    let d = draft_of c.loop-line.draft in
    let all = lines_with_feeds c.args.text.now in
    let line = c.in-Some.line.now in
    let more = lines_with_feeds c.in-Some.more.now in
    let lines = i.lines ∙ ap (λ x. map line_text (draft_lines d) ++ x) c.in-Some.ensures.lines in
    let refused : c.put.result ≡ false = search rules in
    let none = misplaced (draft_lines d) c.in-Some.line.now c.in-Some-read_line.read c.in-Some-read_line.ensures.only (MatchBool-at_false _ _ refused c.put.ensures) in
    λ e h. absurd (no_bad all c.loop-line.number (bad_by d all line more c.loop-line.number i.reported lines i.count none) e (cut_again e c.args.text.now h))

pub returns-then-not-put-clause-refused : goal.returns-then-not-put-clause-refused
returns-then-not-put-clause-refused c =
    let i = c.loop-line.invariant in
    let d = draft_of c.loop-line.draft in
    let all = lines_with_feeds c.args.text.now in
    let line = c.in-Some.line.now in
    let more = lines_with_feeds c.in-Some.more.now in
    let lines = i.lines ∙ ap (λ x. map line_text (draft_lines d) ++ x) c.in-Some.ensures.lines in
    let refused : c.put.result ≡ false = search rules in
    let none = misplaced (draft_lines d) c.in-Some.line.now c.in-Some-read_line.read c.in-Some-read_line.ensures.only (MatchBool-at_false _ _ refused c.put.ensures) in
    let at = subst (λ p. IsFaultAt p line c.loop-line.number c.fault-then-not-put.result) c.place-place.ensures c.fault-then-not-put.ensures in
    refusal d all line more c.loop-line.number c.fault-then-not-put.result i.reported lines i.count none at

pub loop-line-preserved : goal.loop-line-preserved
loop-line-preserved c =
    let i = c.loop-line.invariant in
    let d = draft_of c.loop-line.draft in
    let next = draft_of c.put.new.self in
    let taken : c.put.result ≡ true = search rules in
    let added = MatchBool-at_true _ _ taken c.put.ensures in
    let line = c.in-Some.line.now in
    let read = c.in-Some-read_line.read in
    let lines = i.lines ∙ ap (λ x. map line_text (draft_lines d) ++ x) c.in-Some.ensures.lines in
    let count = count_so (draft_lines d) (draft_lines next) read c.loop-line.number i.count added in
    let few = few_reported next in
    record {
      lines = lines_so (draft_lines d) (draft_lines next) read line (lines_with_feeds c.args.text.now) (lines_with_feeds c.in-Some.more.now) lines added c.in-Some-read_line.ensures.found;
      count = count;
      few = omega (arith, count, few);
      reported = one_more_reported (draft_lines d) (draft_lines next) read line i.reported added c.in-Some-read_line.ensures.found c.in-Some-read_line.ensures.only;
    }

pub returns-clause-found : goal.returns-clause-found
returns-clause-found c =
    let d = draft_of c.loop-line.draft in
    let lines = c.loop-line.invariant.lines ∙ ap (λ x. map line_text (draft_lines d) ++ x) c.in_default.ensures.lines in
    found_text c.finish.result (draft_lines d) c.args.text.now c.finish.ensures lines

pub returns-clause-only : goal.returns-clause-only
returns-clause-only c =
    let d = draft_of c.loop-line.draft in
    let lines = c.loop-line.invariant.lines ∙ ap (λ x. map line_text (draft_lines d) ++ x) c.in_default.ensures.lines in
    λ e h. ap (λ x. Ok x) (only_one c.finish.result (draft_lines d) c.args.text.now c.loop-line.invariant.reported c.finish.ensures lines e h)

pub returns-then-not-is_whole-clause-only : goal.returns-then-not-is_whole-clause-only
returns-then-not-is_whole-clause-only c =
    let i = c.loop-line.invariant in
    let d = draft_of c.loop-line.draft in
    let lines = i.lines ∙ ap (λ x. map line_text (draft_lines d) ++ x) c.in_default.ensures.lines in
    let begun : c.is_whole.result ≡ false = search rules in
    let bad = unfinished d (lines_with_feeds c.args.text.now) c.loop-line.number i.reported lines i.count (c.is_whole.ensures.begun begun) in
    λ e h. absurd (no_bad (lines_with_feeds c.args.text.now) c.loop-line.number bad e (cut_again e c.args.text.now h))

pub returns-then-not-is_whole-clause-refused : goal.returns-then-not-is_whole-clause-refused
returns-then-not-is_whole-clause-refused c =
    let i = c.loop-line.invariant in
    let d = draft_of c.loop-line.draft in
    let lines = i.lines ∙ ap (λ x. map line_text (draft_lines d) ++ x) c.in_default.ensures.lines in
    let begun : c.is_whole.result ≡ false = search rules in
    refusal_at_end d (lines_with_feeds c.args.text.now) c.loop-line.number i.reported lines i.count (c.is_whole.ensures.begun begun)
