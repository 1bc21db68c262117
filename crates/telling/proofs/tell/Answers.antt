-- `telling::tell` meets its contract. Assumes nothing.
use mathlib.Core.Path.{refl}
use native.Mathlib.Omega.{arith}
use Rattle.telling.proofs.tell.Goals as goal
use Rattle.telling.proofs.tell.Goals.{then-cells-room, else-cells-room}

pub returns : goal.returns
returns c = record {
  measured = record { straight = c.from-3.ensures; diagonal = c.from-4.ensures; cells = omega (arith, c.from.ensures, c.from-2.ensures) };
  billed = refl;
  fits = λ l. elim c.if-cells-room.branch [ then-cells-room w ↦ w.code-is | else-cells-room w ↦ absurd (omega (arith, c.from.ensures, c.from-2.ensures)) ];
  full = λ l. elim c.if-cells-room.branch [ then-cells-room w ↦ absurd (omega (arith, c.from.ensures, c.from-2.ensures)) | else-cells-room w ↦ w.code-is ];
}
