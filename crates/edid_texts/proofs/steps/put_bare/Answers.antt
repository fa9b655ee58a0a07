use Rattle.std.proofs.Common.{◌≡◌, ◌++◌, ◌∷◌, [], ap, sym, ◌∙◌}
use Rattle.edid_texts.specs.Draft.{OfBare}
use Rattle.edid_texts.specs.Drafts.{draft_lines, lines_so_far}
use Rattle.edid_texts.specs.Lines.{bytes_without_zeros}
use Rattle.edid_texts.specs.declared.stage.Stage.TheVariants.{Bare as AtBare}
use Rattle.edid_texts.proofs.ExtSteps.{no_bare, bare_reported}
use Rattle.edid_texts.proofs.Fronts.{bare_next}
use Rattle.edid_texts.proofs.Places.{follows, headed_at, lines_are}
use Rattle.edid_texts.proofs.steps.put_bare.Goals as goal

pub returns-in_default : goal.returns-in_default
returns-in_default c =
    let d = c.args.draft.now in
    let h = headed_at d c.args.flags c.requires in
    λ f.
    let t = bare_next h.whole h.flags c.args.line.now (follows (lines_so_far d) (draft_lines (OfBare h)) c.args.line.now (lines_are d (AtBare c.args.flags) c.requires) f) in
    c.in_default.ensures (bytes_without_zeros t.0) t.1.1

pub returns-in_default-bare_of : goal.returns-in_default-bare_of
returns-in_default-bare_of c =
    let d = c.args.draft.now in
    let h = headed_at d c.args.flags c.requires in
    λ f.
    let t = bare_next h.whole h.flags c.args.line.now (follows (lines_so_far d) (draft_lines (OfBare h)) c.args.line.now (lines_are d (AtBare c.args.flags) c.requires) f) in
    no_bare c.in-Some.bytes.now t.0 c.args.line.now c.in-Some.ensures c.in_default-bare_of.ensures t.1.0 t.1.1

pub returns : goal.returns
returns c =
    let d = c.args.draft.now in
    let h = headed_at d c.args.flags c.requires in
    let b = c.in-Some-bare_of.bare in
    let reported = c.in-Some-bare_of.ensures in
    c.put_extension.ensures ∙ bare_reported h.whole h.flags b.flags c.in-Some.bytes.now b.tail reported.0 reported.1 reported.2
    ∙ ap (λ l. draft_lines (OfBare h) ++ l ∷ []) c.in-Some.ensures ∙ ap (λ ls. ls ++ c.args.line.now ∷ []) (sym (lines_are d (AtBare c.args.flags) c.requires))
