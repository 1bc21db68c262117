-- `replying::put_newline` meets its contract. Assumes nothing.
use Rattle.writing.proofs.Puts.{put_one}
use Rattle.replying.proofs.put_newline.Goals as goal

pub returns : goal.returns
returns c = put_one _ _ 10 c.requires
