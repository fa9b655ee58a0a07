use Rattle.std.proofs.Common.{rules, ◌≡◌, take, drop, ap, sym, arith, ◌∙◌, Ok}
use Rattle.edid_base.proofs.Accepted.{accepted}
use Rattle.edid_base.specs.Base.{base_bytes}
use Rattle.edid_base.specs.Refusals.{refusal}
use Rattle.edid_core.specs.Bytes.{HasLength, HasCount, IsRefused}
use Rattle.edid_core.proofs.Lengths.{counted}
use Rattle.edid_core.proofs.OneEdid.{count_read, none_spells, only_parts}
use Rattle.edid_core.specs.declared.bytes.EdidError.TheVariants.{Length, Count, Base}
use Rattle.edid_core.proofs.Reading.{refused_so, whole_bytes}
use Rattle.edid_core.proofs.bytes.read_parts.Goals as goal

pub returns-then-from-bytes-clause-refused : goal.returns-then-from-bytes-clause-refused
returns-then-from-bytes-clause-refused c =
    let has : HasLength c.args.bytes.now = search rules in
    let front : base_bytes c.in-Ok.base ≡ take 128 (drop 0 c.args.bytes.now) = c.in-Ok.ensures.found ∙ c.block_at.ensures in
    let test = c.if-from-bytes.true in
    let from = c.from.ensures in
    (has, sym (ap refusal front) ∙ accepted c.in-Ok.base, λ (h : HasCount c.args.bytes.now). omega (arith, test, from, h))

pub returns-in-Err-read_extensions-clause-refused : goal.returns-in-Err-read_extensions-clause-refused
returns-in-Err-read_extensions-clause-refused c =
    let has : HasLength c.args.bytes.now = search rules in
    let front : base_bytes c.in-Ok.base ≡ take 128 (drop 0 c.args.bytes.now) = c.in-Ok.ensures.found ∙ c.block_at.ensures in
    let test = c.if-from-bytes.false in
    let from = c.from.ensures in
    let count : HasCount c.args.bytes.now = omega (arith, test, from) in
    refused_so c.args.bytes.now c.in-Err-read_extensions.error has (sym (ap refusal front) ∙ accepted c.in-Ok.base) count c.in-Err-read_extensions.ensures.refused

pub returns-in-Ok-read_extensions-clause-found : goal.returns-in-Ok-read_extensions-clause-found
returns-in-Ok-read_extensions-clause-found c =
    whole_bytes (base_bytes c.in-Ok.base) c.args.bytes.now _ (c.in-Ok.ensures.found ∙ c.block_at.ensures) c.in-Ok-read_extensions.ensures.found

-- as many extensions as byte 126 says

pub returns-in-Ok-read_extensions-clause-counted : goal.returns-in-Ok-read_extensions-clause-counted
returns-in-Ok-read_extensions-clause-counted c =
    let front : base_bytes c.in-Ok.base ≡ take 128 (drop 0 c.args.bytes.now) = c.in-Ok.ensures.found ∙ c.block_at.ensures in
    let count = count_read c.in-Ok.base c.args.bytes.now front in
    let test = c.if-from-bytes.false in
    let from = c.from.ensures in
    let there = c.in-Ok-read_extensions.ensures.count in
    omega (arith, count, test, from, there)

pub returns-in-Ok-read_extensions-clause-few : goal.returns-in-Ok-read_extensions-clause-few
returns-in-Ok-read_extensions-clause-few c =
    let has : HasLength c.args.bytes.now = search rules in
    let blocks = counted c.args.bytes.now has in
    let len = blocks.len in
    let most = blocks.most in
    let there = c.in-Ok-read_extensions.ensures.count in
    omega (arith, there, len, most)

-- no EDID has bytes that are refused

pub returns-then-not-has_length-clause-only : goal.returns-then-not-has_length-clause-only
returns-then-not-has_length-clause-only c = let refused : IsRefused c.args.bytes.now Length = search rules in λ e h. absurd (none_spells c.args.bytes.now Length refused e h)

pub returns-then-not-has_length-clause-listed : goal.returns-then-not-has_length-clause-listed
returns-then-not-has_length-clause-listed c = let refused : IsRefused c.args.bytes.now Length = search rules in λ e h. absurd (none_spells c.args.bytes.now Length refused e h)

pub returns-in-Err-clause-only : goal.returns-in-Err-clause-only
returns-in-Err-clause-only c = let refused : IsRefused c.args.bytes.now (Base c.in-Err.cause) = search rules in λ e h. absurd (none_spells c.args.bytes.now (Base c.in-Err.cause) refused e h)

pub returns-in-Err-clause-listed : goal.returns-in-Err-clause-listed
returns-in-Err-clause-listed c = let refused : IsRefused c.args.bytes.now (Base c.in-Err.cause) = search rules in λ e h. absurd (none_spells c.args.bytes.now (Base c.in-Err.cause) refused e h)

pub returns-then-from-bytes-clause-only : goal.returns-then-from-bytes-clause-only
returns-then-from-bytes-clause-only c = λ e h. absurd (none_spells c.args.bytes.now Count (returns-then-from-bytes-clause-refused c) e h)

pub returns-then-from-bytes-clause-listed : goal.returns-then-from-bytes-clause-listed
returns-then-from-bytes-clause-listed c = λ e h. absurd (none_spells c.args.bytes.now Count (returns-then-from-bytes-clause-refused c) e h)

pub returns-in-Err-read_extensions-clause-only : goal.returns-in-Err-read_extensions-clause-only
returns-in-Err-read_extensions-clause-only c = λ e h. absurd (none_spells c.args.bytes.now c.in-Err-read_extensions.error (returns-in-Err-read_extensions-clause-refused c) e h)

pub returns-in-Err-read_extensions-clause-listed : goal.returns-in-Err-read_extensions-clause-listed
returns-in-Err-read_extensions-clause-listed c = λ e h. absurd (none_spells c.args.bytes.now c.in-Err-read_extensions.error (returns-in-Err-read_extensions-clause-refused c) e h)

-- what was read is what each EDID with these bytes has

pub returns-in-Ok-read_extensions-clause-only : goal.returns-in-Ok-read_extensions-clause-only
returns-in-Ok-read_extensions-clause-only c = λ e h. ap Ok (only_parts c.args.bytes.now c.in-Ok.base c.read_extensions.new.extensions (returns-in-Ok-read_extensions-clause-found c) (returns-in-Ok-read_extensions-clause-counted c) (returns-in-Ok-read_extensions-clause-few c) e h).0

pub returns-in-Ok-read_extensions-clause-listed : goal.returns-in-Ok-read_extensions-clause-listed
returns-in-Ok-read_extensions-clause-listed c = λ e h. (only_parts c.args.bytes.now c.in-Ok.base c.read_extensions.new.extensions (returns-in-Ok-read_extensions-clause-found c) (returns-in-Ok-read_extensions-clause-counted c) (returns-in-Ok-read_extensions-clause-few c) e h).1
