use Rattle.std.proofs.Common.{rules, ◌≡◌, ◌<◌, ◌++◌, ◌∷◌, [], false, true, arith, length, take, sym, ◌∙◌, subst}
use Rattle.std.proofs.lemmas.Bool.{MatchBool-at_false, MatchBool-at_true}
use Rattle.edid_texts.specs.Drafts.{lines_so_far, Follows}
use Rattle.edid_texts.specs.Lines.{base_lines}
use Rattle.edid_texts.specs.declared.stage.Stage.TheVariants.{Begun as AtBase}
use Rattle.edid_texts.proofs.Fronts.{begun_next}
use Rattle.edid_texts.proofs.Places.{fits_at, follows, lines_are, whole_base}
use Rattle.edid_texts.proofs.steps.put_begun.Goals as goal

pub put_base-requires : goal.put_base-requires
put_base-requires c = (fits_at c.args.draft.now (AtBase c.args.number) c.requires).0

pub returns-then-not-put_base : goal.returns-then-not-put_base
returns-then-not-put_base c =
    let d = c.args.draft.now in
    let n = c.args.number in
    let refused : c.put_base.result ≡ false = search rules in
    λ f.
    let b = begun_next d.base n c.args.line.now (fits_at d (AtBase n) c.requires).0 (follows (lines_so_far d) (take n (base_lines d.base)) c.args.line.now (lines_are d (AtBase n) c.requires) f) in
    MatchBool-at_false _ _ refused c.put_base.ensures b.0 b.1

pub returns-then-number-lt22 : goal.returns-then-number-lt22
returns-then-number-lt22 c =
    let d = c.args.draft.now in
    let n = c.args.number in
    let taken : c.put_base.result ≡ true = search rules in
    let old : lines_so_far d ≡ take n (base_lines d.base) = lines_are d (AtBase n) c.requires in
    rw old (MatchBool-at_true _ _ taken c.put_base.ensures)

pub returns : goal.returns
returns c =
    let d = c.args.draft.now in
    let n = c.args.number in
    let taken : c.put_base.result ≡ true = search rules in
    let fits = fits_at d (AtBase n) c.requires in
    let old : lines_so_far d ≡ take n (base_lines d.base) = lines_are d (AtBase n) c.requires in
    let last : n ≡ 22 = omega (arith, fits.0) in
    rw old (whole_base c.put_base.new.base n d.extensions.items (take n (base_lines d.base) ++ c.args.line.now ∷ []) last fits.2 (MatchBool-at_true _ _ taken c.put_base.ensures))

pub invariant_of-draft : goal.invariant_of-draft
invariant_of-draft c = record { fits = c.args.draft.now.fits }
