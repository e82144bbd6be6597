use Rattle.std.proofs.Common.{rules, arith, nat_lt}
use Rattle.std.proofs.lemmas.List.Sorted.{IsPartitionPoint-from_clause}
use Rattle.dwg_file.specs.ByteRanges.{Run}
use Rattle.dwg_file.proofs.ByteRunLemmas.{parted_runs, first_of_row, none_of_row}
use Rattle.dwg_file.proofs.byte_ranges.first_in_row.Goals as goal

pub returns-then-at-row : goal.returns-then-at-row
returns-then-at-row c =
    let point =
    IsPartitionPoint-from_clause (λ (run : Run). nat_lt run.0 c.args.place) _ _ c.partition_point-at.ensures.partitioned (parted_runs c.args.place c.args.row.now c.requires) (λ a r q k. search rules) in
    first_of_row c.args.place c.args.row.now c.partition_point-at.result (0, 0) point (omega (arith, c.if-at-row.true))

pub returns : goal.returns
returns c =
    let point =
    IsPartitionPoint-from_clause (λ (run : Run). nat_lt run.0 c.args.place) _ _ c.partition_point-at.ensures.partitioned (parted_runs c.args.place c.args.row.now c.requires) (λ a r q k. search rules) in
    none_of_row c.args.place c.args.row.now c.partition_point-at.result point (omega (arith, c.if-at-row.false))
