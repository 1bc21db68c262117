-- No second outcome: each writer's promise holds of one list and one end. Assumes nothing.
use Prim.Native.Nat.{ℕ}
use mathlib.Core.List.{List}
use mathlib.Core.Path.{◌≡◌, sym, ◌∙◌}
use Rattle.writing.specs.Answers.{Put}

-- a writer leaves one list and ends at one place
pub put_unique : (before after other : List ℕ) (at r s : ℕ) (bytes : List ℕ) → Put before after at r bytes → Put before other at s bytes → (after ≡ other) × (r ≡ s)
put_unique before after other at r s bytes p q = (p.written ∙ sym q.written, p.ends ∙ sym q.ends)
