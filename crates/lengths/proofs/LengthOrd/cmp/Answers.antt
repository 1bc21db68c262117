-- `cmp` of `Length` meets its contract: -1, 0 and 1 are below 0, 0 and above 0. Assumes nothing.
use Rattle.std.proofs.Common.{ap, ◌∙◌, pos, w32, rules}
use Rattle.std.proofs.Math.Facts.{to_z-of_z}
use Rattle.std.specs.Ordering.{int_cmp}
use Rattle.lengths.specs.Lengths.{len_of, over, compare_of}
use Rattle.lengths.specs.Order.{order_signs}
use Rattle.lengths.proofs.LengthOrd.cmp.Goals as goal

pub returns : goal.returns
unfolding compare_of
returns c =
    let x = len_of c.args.self.now in
    let y = len_of c.args.other.now in
    c.cmp.ensures ∙ ap (λ z. int_cmp z (pos 0)) (to_z-of_z {w = w32} {z = c.compare.result} (search rules) ∙ c.compare.ensures)
    ∙ order_signs (over x y) (over y x)
