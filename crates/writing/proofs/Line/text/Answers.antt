-- `writing::Line::text` meets its contract: the text is copied into its part of the list. Assumes nothing.
use mathlib.Core.Path.{refl}
use Rattle.writing.proofs.Puts.{put_copy, grown}
use Rattle.writing.proofs.Line.text.Goals as goal

pub returns : goal.returns
returns c = let l = c.args.self.now in grown l _ _ c.requires refl (put_copy l.out.now l.used c.args.text.now _ c.copy_from_slice.ensures.after)
