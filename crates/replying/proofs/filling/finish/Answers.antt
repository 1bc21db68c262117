-- `replying::filling::finish` meets its contract. Assumes nothing.
use mathlib.Core.List.{[]}
use mathlib.Core.Logic.{inl, inr}
use mathlib.Core.Path.{refl}
use native.Mathlib.Omega.{arith}
use Rattle.writing.proofs.Puts.{put_none}
use Rattle.replying.specs.Pieces.{past, over}
use Rattle.replying.proofs.filling.finish.Goals as goal

pub returns-then-input : goal.returns-then-input
returns-then-input c =
    let p = c.refuse.ensures in
    inr
    (record {
      going = c.if-spot.false;
      end = p.end;
      is = p.is;
      tail = _;
      put = p.line.put;
      short = p.line.short;
      ending = λ i. let l = c.if-spot-input.false in past (omega arith) c.if-input.true;
    })

pub returns : goal.returns
returns c =
    inr
    (record {
      going = c.if-spot.false;
      end = _;
      is = refl;
      tail = [];
      put = put_none _ _;
      short = omega arith;
      ending = λ i. let l = c.if-spot-input.false in over (omega arith) c.if-input.false;
    })
