-- What is learnt of an EDID is the address in it.
use Rattle.std.proofs.Common.{◌≡◌, ℕ, ◌+◌, ◌*◌, ◌/◌, ◌<◌, ◌≤◌, true, nat_lt, Some, Result, Ok, Err, IfOk, IfErr, List, inl, inr, length, get_or, replicate, subst, ap, arith, sym, ◌∙◌}
use Rattle.std.proofs.lemmas.List.{get_or_append_left, take_at}
use Rattle.text_core.specs.declared.phys.Phys.{Phys}
use Rattle.edid_core.specs.Address.{edid_address}
use Rattle.edid_core.specs.Bytes.{edid_bytes}
use Rattle.edid_core.proofs.Lengths.{counted}
use borrow.Author.Tests.{tests}
use Rattle.edid_core.specs.declared.edid.Edid.{Edid as EdidValue}
use Rattle.edid_core.proofs.OneEdid.{one_edid, length_fits, count_fits, not_refused}
use Rattle.edid_ddc.specs.Bus.{has_segment}
use Rattle.edid_ddc.specs.Learn.{extension_count, blocks_read, CanBeRead, IsUnread, IsUnreported, IsLearnt}
use Rattle.edid_ddc.specs.declared.error.DdcError.{DdcError}
use Rattle.edid_ddc.specs.declared.error.DdcError.TheVariants.{NoAck, Edid, NoHdmiBlock, Length}
use Rattle.edid_ddc.proofs.Lengths.{edid_length, first_segment}

abbrev Reports : List ℕ → Phys → Type 0
Reports blocks address = (e : EdidValue) × (edid_bytes e ≡ blocks) × (edid_address e ≡ Some address)

pub learnt : (bytes blocks : List ℕ) → CanBeRead bytes → blocks ≡ blocks_read bytes → (r : Result Phys DdcError)
    → IfOk r (Reports blocks) → IfErr r (IsUnreported blocks) → IsLearnt bytes r
learnt bytes blocks can e (Ok address) reported refused = (can, (reported.0, reported.1 ∙ e, reported.2))
learnt bytes blocks can e (Err error) reported refused = inr (can, subst (λ (b : List ℕ). IsUnreported b error) e refused)

-- the bytes of an EDID are read whole
pub record IsWhole (bytes : List ℕ) : Type 0 where
  pub few : extension_count bytes ≤ 3
  pub len : length bytes ≡ 128 * (extension_count bytes + 1)
  pub all : blocks_read bytes ≡ bytes

pub whole : (e : EdidValue) → IsWhole (edid_bytes e)
whole e =
    let bytes = edid_bytes e in
    let blocks = counted bytes (length_fits e) in
    let len = blocks.len in
    let least = blocks.least in
    let most = blocks.most in
    let count : get_or bytes 126 0 * 128 + 128 ≡ length bytes = count_fits e in
    let there : 126 < length bytes = omega arith in
    let reported : extension_count bytes ≡ get_or bytes 126 0 = get_or_append_left bytes (replicate 512 0xff) 0 126 there in
    let size : length bytes ≡ 128 * (extension_count bytes + 1) = omega (arith, reported, count) in
    record { few = omega (arith, reported, count, len, most); len = size; all = take_at bytes (replicate 512 0xff) (128 * (extension_count bytes + 1)) size }

acknowledged : (e : EdidValue) → has_segment (edid_bytes e) (extension_count (edid_bytes e) / 2) ≡ true
acknowledged e =
    let len = (whole e).len in
    let there : 256 * (extension_count (edid_bytes e) / 2) < length (edid_bytes e) = omega (arith, len) in
    let t : nat_lt (256 * (extension_count (edid_bytes e) / 2)) (length (edid_bytes e)) ≡ true = grind (arith, tests) in t

not_unread : (e : EdidValue) (x : DdcError) → IsUnread (edid_bytes e) x → ⊥
not_unread e NoAck (inl h) = let t = first_segment (edid_bytes e) (edid_length e) in cc
not_unread e NoAck (inr h) = let t = acknowledged e in let f = h.1 in cc
not_unread e (Edid cause) h = let few = (whole e).few in let many = h.1 in omega arith
not_unread e NoHdmiBlock h = h
not_unread e Length h = h

not_unreported : (e : EdidValue) (address : Phys) (x : DdcError) → edid_address e ≡ Some address → IsUnreported (edid_bytes e) x → ⊥
not_unreported e address NoAck a h = h
not_unreported e address (Edid cause) a h = not_refused e cause h
not_unreported e address NoHdmiBlock a h = let same = ap edid_address (one_edid h.0 e h.1) in let none = h.2 in cc
not_unreported e address Length a h = h

pub reported : (r : Result Phys DdcError) (e : EdidValue) (address : Phys) → IsLearnt (edid_bytes e) r → edid_address e ≡ Some address → r ≡ Ok address
reported (Ok found) e address h a =
    let same = ap edid_address (one_edid h.1.0 e (h.1.1 ∙ (whole e).all)) in
    let there = h.1.2 in
    let equal : Some found ≡ Some address = sym there ∙ same ∙ a in
    ap Ok (some_same found address equal)
  where
    some_same : (x y : Phys) → Some x ≡ Some y → x ≡ y
    some_same x y e = cc
reported (Err x) e address (inl h) a = absurd (not_unread e x h)
reported (Err x) e address (inr h) a = absurd (not_unreported e address x a (subst (λ (b : List ℕ). IsUnreported b x) (whole e).all h.1))
