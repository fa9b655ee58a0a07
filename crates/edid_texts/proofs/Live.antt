-- Each draft's lines begin those of an EDID.
use Rattle.std.proofs.Common.{◌≡◌, ℕ, zero, suc, ◌+◌, ◌<◌, Bool, true, false, ◌||◌, nat_lt, List, [], ◌∷◌, ◌++◌, length, map, drop, flat_map, replicate, ap, arith, refl, sym, ◌∙◌, append_assoc, append-nil, length-append, take-append-drop}
use Rattle.std.proofs.lemmas.Grind.{flat_map-append}
use Rattle.std.proofs.lemmas.List.{length-replicate}
use Rattle.edid_base.proofs.Bytes.{are_bytes-append, are_bytes-take, are_bytes-drop, are_bytes-cons}
use Rattle.edid_base.specs.Timing.{timing_bytes}
use Rattle.edid_base.specs.declared.base.Base.{Base}
use Rattle.edid_cta.specs.Block.{block_bytes}
use Rattle.edid_cta.specs.Cta.{is_tail}
use Rattle.edid_cta.specs.declared.cta.Cta.{Cta as CtaBlock}
use Rattle.edid_cta.specs.declared.cta.Bare.{Bare as BareBlock}
use Rattle.edid_cta.specs.declared.raw.Ext.{Ext as AnyExt}
use Rattle.edid_cta.specs.declared.raw.Ext.TheVariants.{Cta as OfCta, Bare as OfBare}
use Rattle.edid_texts.specs.Drafts.{whole_lines, draft_lines, opened_lines}
use Rattle.edid_texts.specs.Lines.{base_lines, bytes_line, block_line, timing_line, tail_line, ext_lines, edid_lines}
use Rattle.edid_texts.specs.Draft.{Draft, OfBegun as Begun, OfWhole, OfOpened, OfBare as OfHeaded, Opened, Headed, Whole}
use Rattle.edid_core.specs.declared.edid.Edid.{Edid}
use Rattle.edid_text_lines.specs.declared.line.Line.{Line}
use Rattle.edid_text_lines.specs.declared.line.Keyword.TheVariants.{Cta, CtaNone}
use Rattle.edid_texts.proofs.ExtSteps.{zeros_fit}
use Rattle.edid_texts.proofs.Fronts.{length-timings}

-- the lines of some EDID begin so
abbrev pub Begins : List Line → Type 0
Begins ls = (e : Edid) × ((rest : List Line) × (edid_lines e ≡ ls ++ rest))

-- a base block with another count of extensions
pub counting : (b : Base) (n : ℕ) → n < 256 → Base
counting b n h =
    record b {
      extensions = n;
      bytes_fit = let front = b.week ∷ b.input ∷ b.width ∷ b.height ∷ b.gamma ∷ b.features ∷ [] in
          let all = front ++ (b.extensions ∷ b.established) in
          are_bytes-append front (n ∷ b.established) (are_bytes-take 6 all b.bytes_fit) (are_bytes-cons n b.established h (are_bytes-drop 7 all b.bytes_fit));
    }

-- the EDID of whole blocks
pub edid_of : Whole → Edid
unfolding counting
edid_of w = record { base = counting w.base (length w.extensions.items) (let few = w.few in omega (arith, few)); extensions = w.extensions; counted = refl; few = w.few }

pub edid_of_lines : (w : Whole) → edid_lines (edid_of w) ≡ whole_lines w
unfolding edid_of counting
edid_of_lines w = refl

-- a base block without extensions
abbrev pub bare_base : Base → Whole
bare_base b = record { base = b; extensions = record { items = [] }; few = omega arith }

pub alone : Base → Edid
alone b = edid_of (bare_base b)

pub alone_lines : (b : Base) → edid_lines (alone b) ≡ base_lines b
unfolding alone
alone_lines b = edid_of_lines (bare_base b) ∙ append-nil (base_lines b)

-- one more extension
abbrev one_more : (w : Whole) → length w.extensions.items < 3 → AnyExt → Whole
one_more w h x = record {
  base = w.base;
  extensions = record { items = w.extensions.items ++ x ∷ [] };
  few = omega (arith, h, length-append w.extensions.items (x ∷ []));
}

pub with_ext : (w : Whole) → length w.extensions.items < 3 → AnyExt → Edid
with_ext w h x = edid_of (one_more w h x)

pub one_more_lines : (w : Whole) (x : AnyExt) → base_lines w.base ++ flat_map ext_lines (w.extensions.items ++ x ∷ []) ≡ whole_lines w ++ ext_lines x
one_more_lines w x =
    let xs = w.extensions.items in
    ap (λ t. base_lines w.base ++ t) (flat_map-append ext_lines xs (x ∷ []) ∙ ap (λ t. flat_map ext_lines xs ++ t) (append-nil (ext_lines x)))
    ∙ sym (append_assoc (base_lines w.base) (flat_map ext_lines xs) (ext_lines x))

pub with_ext_lines : (w : Whole) (h : length w.extensions.items < 3) (x : AnyExt) → edid_lines (with_ext w h x) ≡ whole_lines w ++ ext_lines x
unfolding with_ext
with_ext_lines w h x = edid_of_lines (one_more w h x) ∙ one_more_lines w x

or_true : (v : Bool) → (v || true) ≡ true
or_true true = refl
or_true false = refl

zeros_end : (n : ℕ) → is_tail (replicate n 0) ≡ true
zeros_end zero = refl
zeros_end (suc zero) = refl
zeros_end (suc (suc n)) = or_true (nat_lt (length (0 ∷ 0 ∷ replicate n 0)) 18)

-- an open block with zeros after it
pub zeros_after : (o : Opened) → (e : Edid) × (edid_lines e ≡ (whole_lines o.whole ++ opened_lines o) ++ tail_line (replicate o.left 0) ∷ [])
zeros_after o =
    let whole : length (flat_map block_bytes o.blocks.items) + length (flat_map timing_bytes o.timings.items) + length (replicate o.left 0) ≡ 123 =
    omega (arith, o.spelled, length-timings o.timings.items, length-replicate {A = ℕ} o.left 0) in
    let fit = are_bytes-cons o.flags (replicate o.left 0) o.flags_fit (zeros_fit o.left) in
    let c : CtaBlock = record { flags = o.flags; blocks = o.blocks; timings = o.timings; tail = record { items = replicate o.left 0 }; whole = whole; ended = zeros_end o.left; bytes_fit = fit } in
    let bs = map block_line o.blocks.items in
    let ts = map timing_line o.timings.items in
    let last = tail_line (replicate o.left 0) ∷ [] in (
      with_ext o.whole o.room (OfCta c),
      with_ext_lines o.whole o.room (OfCta c) ∙ ap (λ t. whole_lines o.whole ++ (bytes_line Cta (o.flags ∷ []) ∷ t)) (sym (append_assoc bs ts last))
          ∙ sym (append_assoc (whole_lines o.whole) (opened_lines o) last),
    )

pub zeros_alone : (d : Headed) → (e : Edid) × (edid_lines e ≡ (whole_lines d.whole ++ (bytes_line CtaNone (d.flags ∷ []) ∷ [])) ++ tail_line (replicate 123 0) ∷ [])
zeros_alone d =
    let fit = are_bytes-cons d.flags (replicate 123 0) d.flags_fit (zeros_fit 123) in
    let c : BareBlock = record { flags = d.flags; tail = replicate 123 0; whole = refl; bytes_fit = fit } in
    (with_ext d.whole d.room (OfBare c), with_ext_lines d.whole d.room (OfBare c) ∙ sym (append_assoc (whole_lines d.whole) (bytes_line CtaNone (d.flags ∷ []) ∷ []) (tail_line (replicate 123 0) ∷ [])))

pub live : (d : Draft) → Begins (draft_lines d)
live (Begun d) = (alone d.base, (drop d.number (base_lines d.base), alone_lines d.base ∙ sym (take-append-drop d.number (base_lines d.base))))
live (OfWhole w) = (edid_of w, ([], edid_of_lines w ∙ sym (append-nil (whole_lines w))))
live (OfOpened o) = let z = zeros_after o in (z.0, (tail_line (replicate o.left 0) ∷ [], z.1))
live (OfHeaded d) = let z = zeros_alone d in (z.0, (tail_line (replicate 123 0) ∷ [], z.1))
