-- The first of several rows, and the others.
use Rattle.std.proofs.Common.{◌≡◌, refl, ℕ, zero, suc, ◌-◌, ◌<◌, arith, List}
use Rattle.edid_merge.specs.declared.table.Table.{Table}
use Rattle.cli_edid.specs.Rows.{parted, rows_within, with_rows}

pub rows_more : (most : ℕ) (table : Table) (text : List ℕ) → 0 < most → rows_within most table text ≡ with_rows (rows_within (most - 1)) table text (parted text)
rows_more zero table text h = absurd (omega (arith, h))
rows_more (suc most) table text h = let less : suc most - 1 ≡ most = omega arith in rw less refl
