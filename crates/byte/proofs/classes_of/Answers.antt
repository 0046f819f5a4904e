-- `byte::classes_of` meets its contract: the flags of all tests, added up. Assumes nothing.
use Rattle.std.proofs.Common.{◌≡◌, ℕ, ◌*◌, Bool, true, false, arith, if◌then◌else◌}
use mir.Val.{bool_byte}
use Rattle.byte.specs.Classes.{classes_of}
use Rattle.byte.proofs.classes_of.Goals as goal

-- a test as a number, times its flag
times : (n : ℕ) (test : Bool) → bool_byte test * n ≡ if test then n else 0
times n true = omega arith
times n false = omega arith

flag : (n : ℕ) (test stated : Bool) (r : ℕ) → test ≡ stated → r ≡ bool_byte test → r * n ≡ if stated then n else 0
flag n test stated r e f = rw (f, ← e) (times n test)

pub returns : goal.returns
unfolding classes_of
returns c =
    omega (
      arith,
      flag 1 _ _ _ c.is_blank.ensures c.from.ensures,
      flag 2 _ _ _ c.is_octal.ensures c.from-2.ensures,
      flag 4 _ _ _ c.is_digit.ensures c.from-3.ensures,
      flag 8 _ _ _ c.is_hex.ensures c.from-4.ensures,
      flag 16 _ _ _ c.is_letter.ensures c.from-5.ensures,
      flag 32 _ _ _ c.is_start.ensures c.from-6.ensures,
      flag 64 _ _ _ c.is_identifier.ensures c.from-7.ensures,
      flag 128 _ _ _ c.is_sign.ensures c.from-8.ensures,
    )
