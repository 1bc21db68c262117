-- `corners::last_span` meets its contract: as many cells as the last one's column is past the begin of its word. Assumes nothing.
use Rattle.corners.proofs.Chunks.{last_chunk}
use Rattle.corners.proofs.last_span.Goals as goal

pub returns : goal.returns
returns c = last_chunk _ _ _ c.requires.0 c.requires.1
