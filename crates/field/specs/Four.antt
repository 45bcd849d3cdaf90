-- The field of four elements: its tables, its operations and its meaning. Assumes nothing.
use Rattle.std.proofs.Common.{ap, mod-lt, mod-eq_of_lt, arith, lit<}
use Rattle.std.specs.Prelude.{◌%◌, refl}
use Rattle.field.specs.Structure.{Structure}
use Rattle.field.specs.FourLaws.{element, nought, unit, sum, multiplied, divided, same_number, four_ring, times_inverse_of, no_root_of}
use Rattle.field.specs.declared.gf4.Gf4.{Gf4}

abbrev pub four : Structure Gf4
four = record {
  zero = nought;
  one = unit;
  plus = sum;
  times = multiplied;
  inverse = divided;
  v = element 2 (lit< tt);
  bits = 2;
  value = λ x. x.n;
  of = λ n. element (n % 4) (mod-lt n (lit< tt));
  ring = four_ring;
  inverse_zero = same_number (divided nought) nought refl;
  times_inverse = λ x h. same_number (multiplied x (divided x)) unit (times_inverse_of x.n x.small (λ e. h (same_number x nought e)));
  no_root = λ w e. let l = no_root_of w.n w.small in let m = ap (λ x. x.n) e in omega arith;
  no_root_one = λ w e. let l = no_root_of w.n w.small in let m = ap (λ x. x.n) e in omega arith;
  two_bits = omega arith;
  value_lt = λ x. x.small;
  of_value = λ x. same_number (element (x.n % 4) (mod-lt x.n (lit< tt))) x (mod-eq_of_lt x.small);
  value_of = λ n h. mod-eq_of_lt h;
  value_zero = refl;
  value_one = refl;
  value_plus = λ x y. refl;
}
