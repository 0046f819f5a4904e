-- `byte::classes::table` meets its contract: one test over all entries, which is computed. Assumes nothing.
use Rattle.std.proofs.Common.{refl}
use Rattle.byte.specs.Bytes.{is_digit, is_octal, is_hex, is_letter, is_start, is_blank, is_none_of}
use Rattle.byte.specs.Classes.{is_sign, class_of}
use Rattle.byte.specs.declared.classes.Class.{Class}
use Rattle.byte.specs.Code.{class_number}
use Rattle.byte.proofs.Table.{table_ruled}
use Rattle.byte.proofs.classes.table.Goals as goal

pub returns : goal.returns
unfolding is_digit is_octal is_hex is_letter is_start is_blank is_none_of is_sign class_of
returns c = table_ruled Class.S class_number _ refl refl
