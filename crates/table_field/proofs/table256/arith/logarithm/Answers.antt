-- The rule of the table at a number from 1 to 255.
use Rattle.std.proofs.Common.{arith}
use Rattle.table_field.proofs.Tables.{logarithm_lt, logarithm_rule}
use Rattle.table_field.proofs.table256.arith.logarithm.Goals as goal

pub returns : goal.returns
returns c = record {
  below = logarithm_lt c.args.n c.requires (omega arith);
  is = logarithm_rule c.args.n c.requires (omega arith);
}
