-- `byte::classes::bits` meets its contract: each entry read sets a bit. Assumes nothing.
--   le_number   the derived order of two classes is that of their numbers, computed for all pairs
use Rattle.std.proofs.Common.{◌≡◌, Bool, true, false, arith, get_or, refl}
use Rattle.std.specs.Ordering.{partial_le}
use lib.Dec.{leb}
use mir.Val.{bool_byte}
use Rattle.byte.specs.declared.classes.Class.{Class}
use Rattle.byte.specs.contracts.classes.ClassPartialOrd.TheImpl.{partial_cmp-value}
use Rattle.byte.specs.Code.{class_number, is_from, is_within, one, binary}
use Rattle.byte.proofs.Table.{bits_on}
use Rattle.byte.proofs.classes.bits.Goals as goal

of : (P : Class → Type 0) → P Class.S → P Class.O → P Class.E → P Class.H → P Class.L → P Class.U → P Class.N → P Class.B
    → (class : Class) → P class
of P s o e h l u n b Class.S = s
of P s o e h l u n b Class.O = o
of P s o e h l u n b Class.E = e
of P s o e h l u n b Class.H = h
of P s o e h l u n b Class.L = l
of P s o e h l u n b Class.U = u
of P s o e h l u n b Class.N = n
of P s o e h l u n b Class.B = b

abbrev IsNumber : Class → Class → Type 0
IsNumber a b = partial_le partial_cmp-value.it a b ≡ leb (class_number a) (class_number b)

le_number : (a b : Class) → IsNumber a b
le_number =
    of (λ a. (b : Class) → IsNumber a b)
    (of (λ b. IsNumber Class.S b) refl refl refl refl refl refl refl refl)
    (of (λ b. IsNumber Class.O b) refl refl refl refl refl refl refl refl)
    (of (λ b. IsNumber Class.E b) refl refl refl refl refl refl refl refl)
    (of (λ b. IsNumber Class.H b) refl refl refl refl refl refl refl refl)
    (of (λ b. IsNumber Class.L b) refl refl refl refl refl refl refl refl)
    (of (λ b. IsNumber Class.U b) refl refl refl refl refl refl refl refl)
    (of (λ b. IsNumber Class.N b) refl refl refl refl refl refl refl refl)
    (of (λ b. IsNumber Class.B b) refl refl refl refl refl refl refl refl)

byte_one : (t : Bool) → bool_byte t ≡ one t
unfolding one
byte_one true = refl
byte_one false = refl

pub loop-i-init : goal.loop-i-init
unfolding binary
loop-i-init c = record { number = refl; small = omega arith }

pub loop-i-preserved : goal.loop-i-preserved
unfolding is_from
loop-i-preserved c =
    let class = get_or c.args.row.now c.loop-i.i Class.S in
    let bit : c.from.result ≡ one (is_within c.args.first c.args.last class) =
    rw (c.from.ensures, c.le.ensures, c.le-in-loop-i.ensures, le_number c.args.first class, le_number class c.args.last)
    (byte_one _) in
    let on = bits_on c.args.first c.args.last c.args.row.now c.loop-i.i c.loop-i.set c.from.result c.told-row c.loop-i-test.true
    c.loop-i.invariant.number c.loop-i.invariant.small bit in
    record { number = on.0; small = on.1 }
