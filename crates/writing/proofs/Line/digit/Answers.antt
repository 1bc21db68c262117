-- `writing::Line::digit` meets its contract: one byte is stored. Assumes nothing.
use mathlib.Core.Path.{refl}
use native.Mathlib.Omega.{arith}
use Rattle.writing.proofs.Puts.{put_one, grown}
use Rattle.writing.proofs.Line.digit.Goals as goal

pub returns : goal.returns
returns c = let l = c.args.self.now in grown l _ _ (omega (arith, c.requires.1)) refl (put_one l.out.now l.used _ c.requires.1)
