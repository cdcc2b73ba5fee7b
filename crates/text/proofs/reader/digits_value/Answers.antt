use Rattle.std.proofs.Common.{get_or, arith}
use Rattle.std.proofs.lemmas.Int.Digits.{digits_value_more}
use Rattle.std.proofs.lemmas.Str.{digit_value_digit}
use Rattle.text.proofs.Numbers.{front_small}
use Rattle.text.proofs.reader.digits_value.Goals as goal

pub overflow_mul-n : goal.overflow_mul-n
overflow_mul-n c = omega (arith, front_small c.args.ds.now c.loop-b.b-index c.requires.digits c.loop-b-test.true c.requires.short)

pub overflow_add-n : goal.overflow_add-n
overflow_add-n c = omega (arith, front_small c.args.ds.now c.loop-b.b-index c.requires.digits c.loop-b-test.true c.requires.short)

pub loop-b-preserved : goal.loop-b-preserved
loop-b-preserved c =
    omega (arith, digits_value_more 10 c.args.ds.now c.loop-b.b-index c.loop-b-test.true, digit_value_digit (get_or c.args.ds.now c.loop-b.b-index 0) (c.requires.digits c.loop-b.b-index c.loop-b-test.true))
